pub mod ResidueLemmas
