pub mod AdapterLemmas
pub mod FilesLemmas
pub mod StreamLemmas
