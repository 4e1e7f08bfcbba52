mod NoFault
mod RequiredLemmas
