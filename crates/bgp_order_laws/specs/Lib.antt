-- In reading order.
pub mod AllEnds
pub mod OneAnswer
pub mod Patience
pub mod Checked
