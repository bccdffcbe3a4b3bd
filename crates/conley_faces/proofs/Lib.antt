pub mod FaceLemmas
pub mod PartLemmas
pub mod MarkLemmas
pub mod ClosureLemmas
pub mod GapLemmas
