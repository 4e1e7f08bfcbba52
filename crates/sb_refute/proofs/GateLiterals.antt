-- The literals of a gate's clauses are of its atom, or of those of which the atom speaks.
use Rattle.sb_refute.proofs.Words.{◌≡◌, ℕ, Bool, true, false, ◌&&◌, if◌then◌else◌, List, [], ◌∷◌, map, refl, list_all, and_parts, and_from, all_append, Lit, negation, literal_order, AtomOver, bool_atom, in_atom, le_atom, sum_atom, and_atom, iff_atom, in_order, with_literal, clause_of, clauses_of, gate, gate_clauses, is_trivial, Ordering}
use Rattle.std.specs.List.{flat_map}
use Rattle.std.specs.Ordering.{match_ordering}
use Rattle.std.specs.declared.cmp.Ordering.TheVariants.{Less, Equal, Greater}

module _ (p : Lit → Bool) where
  all-placed : (l : Lit) (ls : List Lit) → p l ≡ true → list_all p ls ≡ true → list_all p (with_literal l ls) ≡ true
  all-placed l [] h t = and_from (p l) true h refl
  all-placed l (m ∷ ms) h t = step (literal_order l m) (and_parts (p m) (list_all p ms) t) (all-placed l ms h)
    where
      step : (o : Ordering) → (p m ≡ true) × (list_all p ms ≡ true)
          → (list_all p ms ≡ true → list_all p (with_literal l ms) ≡ true)
          → list_all p (match_ordering o (l ∷ m ∷ ms) (m ∷ ms) (m ∷ with_literal l ms)) ≡ true
      step Less q rest = and_from (p l) (list_all p (m ∷ ms)) h t
      step Equal q rest = t
      step Greater q rest = and_from (p m) (list_all p (with_literal l ms)) q.0 (rest q.1)

  pub all-ordered : (ls : List Lit) → list_all p ls ≡ true → list_all p (in_order ls) ≡ true
  all-ordered [] h = refl
  all-ordered (l ∷ ls) h =
      let q = and_parts (p l) (list_all p ls) h in
      all-placed l (in_order ls) q.0 (all-ordered ls q.1)

  of-clause : (ls : List Lit) → list_all p ls ≡ true → list_all (list_all p) (clause_of ls) ≡ true
  of-clause ls h = step (is_trivial (in_order ls))
    where
      step : (b : Bool) → list_all (list_all p) (if b then [] else in_order ls ∷ []) ≡ true
      step true = refl
      step false = and_from (list_all p (in_order ls)) true (all-ordered ls h) refl

-- each atom of which this one speaks passes
abbrev pub each-part : (ℕ → Bool) → AtomOver ℕ → Bool
each-part test (and_atom ls) = list_all (λ l. test l.atom) ls
each-part test (iff_atom l m) = test l.atom && test m.atom
each-part test _ = true

-- the literals of each clause
each-said : (test : ℕ → Bool) (g : ℕ) (a : AtomOver ℕ) → test g ≡ true → each-part test a ≡ true
    → list_all (list_all (λ (l : Lit). test l.atom)) (clauses_of g a) ≡ true
each-said test g (bool_atom serial) h t = refl
each-said test g (in_atom ps r) h t = refl
each-said test g (le_atom x k) h t = refl
each-said test g (sum_atom k ss) h t = refl
each-said test g (and_atom ls) h t =
    all_append (list_all p) (map (λ l. gate g false ∷ l ∷ []) ls) ((gate g true ∷ map negation ls) ∷ []) (parts ls t)
    (and_from (list_all p (gate g true ∷ map negation ls)) true
    (and_from (test g) (list_all p (map negation ls)) h (negations ls t)) refl)
  where
    p : Lit → Bool
    p = λ l. test l.atom

    negations : (ls : List Lit) → list_all p ls ≡ true → list_all p (map negation ls) ≡ true
    negations [] t = refl
    negations (l ∷ ls) t =
        let q = and_parts (p l) (list_all p ls) t in
        and_from (p l) (list_all p (map negation ls)) q.0 (negations ls q.1)

    parts : (ls : List Lit) → list_all p ls ≡ true
        → list_all (list_all p) (map (λ l. gate g false ∷ l ∷ []) ls) ≡ true
    parts [] t = refl
    parts (l ∷ ls) t =
        let q = and_parts (p l) (list_all p ls) t in
        and_from (test g && (p l && true)) (list_all (list_all p) (map (λ l. gate g false ∷ l ∷ []) ls))
        (and_from (test g) (p l && true) h (and_from (p l) true q.0 refl)) (parts ls q.1)
each-said test g (iff_atom l m) h t =
    let q = and_parts (test l.atom) (test m.atom) t in rw (h, q.0, q.1) refl

pub of-gate : (test : ℕ → Bool) (g : ℕ) (a : AtomOver ℕ) → test g ≡ true → each-part test a ≡ true
    → list_all (list_all (λ (l : Lit). test l.atom)) (gate_clauses g a) ≡ true
of-gate test g a h t = each-ordered (clauses_of g a) (each-said test g a h t)
  where
    p : Lit → Bool
    p = λ l. test l.atom

    each-ordered : (cs : List (List Lit)) → list_all (list_all p) cs ≡ true
        → list_all (list_all p) (flat_map clause_of cs) ≡ true
    each-ordered [] h = refl
    each-ordered (c ∷ cs) h =
        let q = and_parts (list_all p c) (list_all (list_all p) cs) h in
        all_append (list_all p) (clause_of c) (flat_map clause_of cs) (of-clause p c q.0) (each-ordered cs q.1)
