pub mod ValueFacts
pub mod Judging
pub mod Passing
pub mod KindFacts
pub mod Knowledge
pub mod WordFacts
