pub mod EachFacts
pub mod AtomFacts
pub mod FieldFacts
pub mod NumberFacts
pub mod HexadecimalFacts
pub mod RowFacts
pub mod ReadFacts
