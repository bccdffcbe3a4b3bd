pub mod RangeLemmas
pub mod TopLemmas
pub mod PartLineLemmas
pub mod SetLineLemmas
pub mod OneDueLemmas
pub mod NamedLemmas
pub mod WordLemmas
pub mod GeneratorLemmas
