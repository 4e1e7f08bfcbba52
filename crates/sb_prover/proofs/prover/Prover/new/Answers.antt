use Rattle.sb_prover.proofs.Words.{◌≡◌, ℕ, List, [], ◌∷◌, length, refl, sym, ap, ◌∙◌, AtomOver, HaveRegexesBelow, Regex, Sort, true, are_declared, asserted_at, atoms_in, no_atoms, nothing_kept}
use Rattle.sb_prover.proofs.Leaving.{none-there}
use Rattle.sb_prover.proofs.prover.Prover.new.Goals as goal

-- where a reader keeps no atoms there are none
none-below : (rs : List Regex) (n : ℕ) (atoms : List (AtomOver ℕ)) → [] ≡ atoms_in rs atoms
    → HaveRegexesBelow n atoms
none-below rs n [] h = no_atoms n
none-below rs n (a ∷ atoms) h = absurd (cc (h))

pub returns-clause-abreast : goal.returns-clause-abreast
returns-clause-abreast c = λ x. record {
  rests = refl;
  begun = refl;
  first = λ unbegun. refl;
  format = refl;
  counted = refl;
  backs = c.new.ensures.backs x.arena x.graph.memo 1;
  regexes = none-below x.arena (length x.arena) c.new.result.atoms
      (c.new.ensures.backs x.arena x.graph.memo 1).atoms;
}

pub returns-clause-regexes : goal.returns-clause-regexes
returns-clause-regexes c = λ n. none-below [] n c.new.result.atoms (c.new.ensures.backs [] [] 1).atoms

none-declared : (rs : List Regex) (sorts : List Sort) (atoms : List (AtomOver ℕ)) → [] ≡ atoms_in rs atoms
    → are_declared sorts atoms ≡ true
none-declared rs sorts [] h = refl
none-declared rs sorts (a ∷ atoms) h = absurd (cc (h))

pub returns-clause-declared : goal.returns-clause-declared
returns-clause-declared c = λ sorts.
    none-declared [] sorts c.new.result.atoms (c.new.ensures.backs [] [] 1).atoms

pub returns-clause-levels : goal.returns-clause-levels
returns-clause-levels c = λ live place a there.
    absurd (none-there place a (ap (λ xs. asserted_at xs place) (sym c.new.ensures.nothing) ∙ there))

pub returns-clause-sound : goal.returns-clause-sound
returns-clause-sound c = λ asked x. record {
  kept = nothing_kept 1;
  backs = c.new.ensures.backs x.arena x.graph.memo 1;
  sound = c.nothing_is_sound.ensures asked 1;
  counted = refl;
}
