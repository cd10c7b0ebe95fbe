pub mod Scans
pub mod FileIdMap
pub mod FileIdMapLaws
