pub mod SumLemmas
pub mod MatrixLemmas
pub mod ImageLemmas
pub mod KernelLemmas
pub mod BasisLemmas
pub mod HomologyLemmas
pub mod DimensionLemmas
pub mod OtherLemmas
