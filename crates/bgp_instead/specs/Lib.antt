pub mod Places
pub mod Sendable
pub mod Kinds
pub mod Connections
pub mod MessageAt
pub mod OtherOrders
