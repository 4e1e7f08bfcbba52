mod Words
pub mod Clauses
pub mod Places
pub mod Backs
pub mod Lowest
pub mod Holding
pub mod GateLiterals
pub mod GateLines
pub mod Asserting
pub mod OneAtom
pub mod Settled
pub mod CallerLemmas
