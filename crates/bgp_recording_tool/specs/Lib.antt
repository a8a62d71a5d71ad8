-- In reading order.
pub mod Found
pub mod Told
pub mod Remarks
pub mod Options
pub mod Connections
pub mod Judging
pub mod Putting
pub mod Decoding
pub mod Files
pub mod Headline
pub mod Laws
