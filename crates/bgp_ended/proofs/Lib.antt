pub mod SameMessages
pub mod Firsts
pub mod FirstOpens
pub mod OneFraming
pub mod OneConnection
pub mod OneOutline
mod Stretches
