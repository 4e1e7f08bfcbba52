pub mod EndFacts
