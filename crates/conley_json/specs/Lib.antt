pub mod Form
pub mod Json
pub mod Meaning
pub mod Written
