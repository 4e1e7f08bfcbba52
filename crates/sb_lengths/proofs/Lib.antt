pub mod Bits
pub mod Sums
pub mod Repeats
pub mod Powers
pub mod Within
