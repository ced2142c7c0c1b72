pub mod Commands
pub mod Bodies
pub mod Grows
pub mod Seals
pub mod Accepts
pub mod Questions
