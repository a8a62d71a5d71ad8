mod Calm
mod FirstRefresh
pub mod Judgings
pub mod Numbers
pub mod Outcomes
pub mod Puttings
pub mod SameWays
mod MadeOverAll
mod Answered
mod Searchings
pub mod FoundNothing
mod SomeRemarks
pub mod Statuses
pub mod Texts
pub mod Tellings
mod ToldAlike
mod ByNoOrder
mod UnfinishedSo
mod AsMade
mod OverAll
pub mod SameVerdict
mod OneReason
mod YesShown
mod EntryLines
mod SameSink
