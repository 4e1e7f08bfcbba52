pub mod Words
pub mod Literals
pub mod Asked
pub mod Denials
