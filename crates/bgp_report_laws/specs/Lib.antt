-- In reading order.
pub mod Ladders
pub mod Stretches
