pub mod Listing
pub mod Fault
pub mod Complex
pub mod Conley
pub mod Making
