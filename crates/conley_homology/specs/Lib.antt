pub mod Reduced
pub mod Own
pub mod Homology
pub mod Row
