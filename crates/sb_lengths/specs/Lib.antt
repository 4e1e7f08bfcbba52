pub mod LengthSets
pub mod Lengths
