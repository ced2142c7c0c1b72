pub mod Numbers
pub mod Commands
pub mod Forms
pub mod Layout
pub mod Parts
pub mod Reads
pub mod Writes
pub mod Answers
