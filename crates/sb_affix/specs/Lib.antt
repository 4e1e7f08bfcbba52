pub mod AffixRegex
pub mod PartRegex
