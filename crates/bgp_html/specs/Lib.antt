-- In reading order.
pub mod Escaped
pub mod Escaping
pub mod Page
pub mod Kinds
pub mod Printed
pub mod Tags
pub mod Pieces
pub mod Reading
pub mod Groups
pub mod Report
pub mod Noted
pub mod Notes
pub mod Taking
