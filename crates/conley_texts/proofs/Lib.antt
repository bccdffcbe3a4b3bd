pub mod PieceLemmas
pub mod JoinLemmas
pub mod LineLemmas
