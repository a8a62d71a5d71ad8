mod AllEnds
mod Chains
mod Connections
mod Ended
mod Falls
mod FromAny
mod Hearing
mod OneState
mod Patience
mod Phases
mod Sending
mod StartSteps
mod Starts
mod WayEnds
mod WholeState
pub mod MadeUnfinished
