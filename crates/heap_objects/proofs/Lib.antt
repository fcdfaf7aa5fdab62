pub mod CellLemmas
pub mod InternLemmas
pub mod HeapLemmas
