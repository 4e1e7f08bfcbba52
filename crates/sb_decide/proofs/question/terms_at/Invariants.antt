use Rattle.sb_decide.proofs.Words.{◌≡◌, ℕ, Bool, take, list_all, passes_at}
use Rattle.sb_decide.proofs.question.terms_at.Given as goal

abbrev pub invariant-loop-place : goal.invariant-loop-place
invariant-loop-place l = (test : ℕ → Bool)
    → list_all test l.terms.items ≡ list_all (passes_at test l.assertions) (take l.place-index l.places)
