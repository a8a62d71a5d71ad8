pub mod WideFamilies
pub mod UpdateBodies
pub mod TellerForms
pub mod OneOffer
pub mod OneLine
