pub mod ListLemmas
pub mod AscendingLemmas
pub mod EntryLemmas
pub mod GatherLemmas
pub mod MakingLemmas
pub mod ContainsLemmas
pub mod PairLemmas
pub mod TestLemmas
