pub mod PlaceLemmas
pub mod WithinLemmas
pub mod StartLemmas
pub mod IsolatedLemmas
pub mod OnceLemmas
