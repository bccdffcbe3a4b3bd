pub mod Lists
pub mod Gathered
pub mod Pairs
