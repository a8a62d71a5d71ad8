pub mod LastTold
pub mod Front
