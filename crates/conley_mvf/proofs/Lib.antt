pub mod LabelLemmas
pub mod MarkLemmas
pub mod GapLemmas
pub mod FirstsLemmas
pub mod NumberLemmas
pub mod FaultLemmas
pub mod WholeLemmas
