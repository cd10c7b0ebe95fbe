pub mod FaultLemmas
pub mod FolderLemmas
pub mod WordLemmas
pub mod FoldersLemmas
