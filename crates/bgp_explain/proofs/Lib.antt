pub mod OpenedBy
pub mod LinkKept
pub mod OffersKept
pub mod MomentsKept
pub mod FractionsKept
pub mod Agreeing
pub mod Keeping
pub mod Reading
pub mod Standing
pub mod LastReceived
pub mod NextRecord
pub mod Saying
mod Confederations
mod FirstSecond
pub mod Telling
pub mod Reported
pub mod LackedText
mod WholeSent
pub mod Captured
pub mod Naming
pub mod OnePossible
pub mod OneMoments
pub mod OneReason
pub mod OneText
pub mod Taken
pub mod OneKept
pub mod OfLines
