pub mod FourElements
