pub mod Graded
pub mod Equivalence
pub mod Pair
pub mod Reduction
pub mod Restriction
pub mod Laws
