-- In reading order.
pub mod Account
pub mod MemWire
pub mod CoreFacts
pub mod Talk
pub mod NextCall
pub mod TalkLaws
