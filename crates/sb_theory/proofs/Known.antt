-- Atoms of kept clauses that the theory knows.
use Rattle.sb_theory.proofs.Words.{[], ◌∷◌, ◌≡◌, List, Option, length, subst, suc, true, zero, ℕ, AtomOver, Kept, KeptClause, all_among, and_parts, is_atom, has_room_for, is_reserved, AreAllKnown}

-- where each has a number below that of the table's next one
pub all_known : (atoms : List (AtomOver ℕ)) (kept : Kept) → has_room_for (length atoms) kept ≡ true
    → AreAllKnown (λ atom. is_atom atoms atom ≡ true) kept
all_known atoms [] h zero clause there = absurd (Prim.cc (there))
all_known atoms [] h (suc id) clause there = absurd (Prim.cc (there))
all_known atoms (o ∷ kept) h zero clause there = λ l among.
    all_among (λ m. is_atom atoms m.atom) clause.literals l
    (subst (λ (p : Option KeptClause). is_reserved (length atoms) p ≡ true) there
    (and_parts (is_reserved (length atoms) o) (has_room_for (length atoms) kept) h).0) among
all_known atoms (o ∷ kept) h (suc id) clause there =
    all_known atoms kept (and_parts (is_reserved (length atoms) o) (has_room_for (length atoms) kept) h).1 id clause there
