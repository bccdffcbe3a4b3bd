pub mod AnyField
pub mod Arithmetic
pub mod Prime
pub mod PrimeField
pub mod ResidueLaws
pub mod SmallTests
