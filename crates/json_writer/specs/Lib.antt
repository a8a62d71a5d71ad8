pub mod Places
pub mod Plain
pub mod Piece
pub mod ZeroGroups
pub mod Buffer
pub mod Writer
