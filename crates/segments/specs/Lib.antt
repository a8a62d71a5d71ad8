-- In reading order.
pub mod Link
pub mod Segment
pub mod Ip
pub mod Tcp
pub mod Found
pub mod Fault
pub mod Conversation
pub mod Wrapping
pub mod Values
