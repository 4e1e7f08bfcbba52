pub mod Terms
pub mod Sorts
pub mod Values
pub mod Truth
pub mod Printed
pub mod Examples
