pub mod Draw
pub mod Pairs
pub mod Candidates
pub mod Squares
pub mod Trial
pub mod Numbers
pub mod Summary
pub mod Making
