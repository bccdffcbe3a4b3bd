pub mod BitLemmas
pub mod PreorderLemmas
pub mod LowerRowLemmas
