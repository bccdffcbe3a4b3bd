pub mod JsonLemmas
pub mod FormLemmas
pub mod WrittenLemmas
pub mod MeaningLemmas
