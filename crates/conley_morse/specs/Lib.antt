pub mod Making
pub mod Covers
