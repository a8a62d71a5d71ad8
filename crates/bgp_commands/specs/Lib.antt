pub mod Ends
pub mod Sentences
pub mod Answers
pub mod Reported
pub mod MemVoice
pub mod Speaking
