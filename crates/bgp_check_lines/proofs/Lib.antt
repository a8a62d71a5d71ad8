pub mod Values
pub mod Tellers
pub mod Puts
pub mod Printed
mod Texts
pub mod SameSink
mod Explaining
