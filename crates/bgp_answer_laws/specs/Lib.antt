-- In reading order.
pub mod Answers
pub mod Reasons
pub mod Ends
pub mod Stretches
