pub mod Clauses
pub mod Budgets
pub mod Kept
pub mod Hints
pub mod Examples
