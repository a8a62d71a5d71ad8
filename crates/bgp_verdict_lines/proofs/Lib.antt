pub mod SameTexts
pub mod Tellers
pub mod Puts
pub mod Printed
mod ItemValues
