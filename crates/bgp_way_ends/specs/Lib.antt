pub mod EveryEnd
pub mod OneState
pub mod WayEnds
pub mod Connections
pub mod MadeUnfinished
pub mod Starts
pub mod Patience
