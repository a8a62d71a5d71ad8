pub mod OneHigher
mod SameAt
mod FramedAlike
mod Refreshes
mod SameOptions
pub mod Reasons
pub mod EachShown
mod EachEnd
pub mod Written
pub mod Held
pub mod RestTexts
pub mod AtRecord
mod SomeOffers
pub mod Fronts
pub mod Refusals
pub mod SomeEnd
mod ErrorTexts
mod ErrorSets
mod OneItem
mod Captured
