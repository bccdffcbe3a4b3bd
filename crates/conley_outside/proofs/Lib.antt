pub mod GainsLemmas
