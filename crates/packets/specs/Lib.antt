-- In reading order.
pub mod Fault
pub mod Packet
pub mod Order
pub mod Clock
pub mod Context
pub mod Judgement
pub mod Pcap
pub mod Pcapng
pub mod Recording
pub mod Values
pub mod Reading
pub mod Reader
pub mod Advance
pub mod RecordingLaws
