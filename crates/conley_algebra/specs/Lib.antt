pub mod Sum
pub mod Entries
pub mod Listing
pub mod Others
pub mod Subspace
pub mod Homology
