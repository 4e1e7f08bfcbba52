pub mod SolverWords
pub mod SolverExamples
pub mod CheckerWords
pub mod CheckerExamples
pub mod Required
