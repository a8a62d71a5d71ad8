pub mod OneText
pub mod Updates
pub mod Opens
pub mod Notifications
pub mod OwnFaults
