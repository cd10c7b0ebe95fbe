mod AllocatorLemmas
pub mod FoldersLemmas
