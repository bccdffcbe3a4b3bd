pub mod Preorder
pub mod ClassRows
pub mod LowerRows
