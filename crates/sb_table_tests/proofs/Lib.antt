mod AtomLemmas
