pub mod Heads
pub mod Classes
pub mod Numbering
pub mod Turning
pub mod Rows
pub mod Search
pub mod Turn
pub mod Closing
