pub mod RegularLemmas
pub mod CountedLemmas
pub mod FinestLemmas
pub mod OrderLemmas
