-- Atoms by number, with one more atom of the code.
use Rattle.std.proofs.Common.{◌≡◌, ℕ, zero, suc, Bool, true, false, ◌||◌, ◌&&◌, ◌⊎◌, inl, inr}
use Rattle.std.proofs.Common.{cond, Some, List, [], ◌∷◌, ◌++◌, length, get_or, slice_get, refl, sym, ap, ◌∙◌}
use Rattle.std.proofs.Common.{arith}
use Rattle.std.specs.List.{list_all, list_any, position}
use Rattle.std.specs.Prelude.{Option, None, is_some, option_map}
use Rattle.std.proofs.Math.Bool.{and-true}
use Rattle.std.proofs.lemmas.Bool.{and_parts, and_from, false≢true, or_right}
use Rattle.std.proofs.lemmas.List.Folds.{list_all-append}
use Rattle.std.proofs.lemmas.List.Quantifiers.{position-Some}
use Rattle.std.proofs.lemmas.Option.{slice_get_within, slice_get-get_or, slice_get-map, same_Some}
use Rattle.sb_facts.proofs.CallerLemmas.{get_push}
use Rattle.sb_rulebook.specs.Atoms.{AtomOver}
use Rattle.sb_rulebook.specs.Brought.{is_brought_atom}
use Rattle.sb_proof.specs.declared.atom.Atom as code
use Rattle.sb_proof.specs.Lines.{atom_in}
use Rattle.sb_atoms.specs.Numbered.{numbered_atoms, Names, IsWith, AreDistinct}

-- the test of atoms of the code is whether they stand for one atom, where they are of the kinds that are brought
pub record Decides (same : code.Atom ℕ → code.Atom ℕ → Bool) : Type 0 where
  pub gives : (d e : code.Atom ℕ) → is_brought_atom (atom_in d) ≡ true → same d e ≡ true → atom_in d ≡ atom_in e
  pub given : (d e : code.Atom ℕ) → is_brought_atom (atom_in d) ≡ true → atom_in d ≡ atom_in e → same d e ≡ true

abbrev are_brought : List (code.Atom ℕ) → Bool
are_brought ds = list_all is_brought_atom (numbered_atoms ds)

map_push : (ds : List (code.Atom ℕ)) (d : code.Atom ℕ)
    → numbered_atoms (ds ++ d ∷ []) ≡ numbered_atoms ds ++ atom_in d ∷ []
map_push [] d = refl
map_push (x ∷ xs) d = ap (λ ys. atom_in x ∷ ys) (map_push xs d)

brought_push : (ds : List (code.Atom ℕ)) (d : code.Atom ℕ) → are_brought ds ≡ true → is_brought_atom (atom_in d) ≡ true
    → are_brought (ds ++ d ∷ []) ≡ true
brought_push ds d all is =
    ap (list_all is_brought_atom) (map_push ds d)
    ∙ list_all-append is_brought_atom (numbered_atoms ds) (atom_in d ∷ [])
    ∙ and_from (list_all is_brought_atom (numbered_atoms ds)) (is_brought_atom (atom_in d) && true) all
    (and-true (is_brought_atom (atom_in d)) ∙ is)

-- the atom of a number is brought
pub brought_there : (ds : List (code.Atom ℕ)) (n : ℕ) (d : code.Atom ℕ) → are_brought ds ≡ true
    → slice_get ds n ≡ Some d → is_brought_atom (atom_in d) ≡ true
brought_there [] n d all at = absurd (omega (arith, slice_get_within [] n d at))
brought_there (x ∷ xs) zero d all at =
    ap (λ y. is_brought_atom (atom_in y)) (sym (same_Some x d at))
    ∙ (and_parts (is_brought_atom (atom_in x)) (are_brought xs) all).0
brought_there (x ∷ xs) (suc n) d all at =
    brought_there xs n d (and_parts (is_brought_atom (atom_in x)) (are_brought xs) all).1 at

module _ (same : code.Atom ℕ → code.Atom ℕ → Bool) (decides : Decides same) where
  -- an atom of the table is found in it
  listed : (ds : List (code.Atom ℕ)) (d : code.Atom ℕ) (i : ℕ) → is_brought_atom (atom_in d) ≡ true
      → Names (numbered_atoms ds) i (atom_in d) → list_any (same d) ds ≡ true
  listed [] d i is h = absurd (omega (arith, slice_get_within [] i (atom_in d) h))
  listed (x ∷ xs) d zero is h =
      ap (λ b. b || list_any (same d) xs) (decides.given d x is (sym (same_Some (atom_in x) (atom_in d) h)))
  listed (x ∷ xs) d (suc i) is h = or_right (same d x) (list_any (same d) xs) (listed xs d i is h)

  distinct_more : (ds : List (code.Atom ℕ)) (d : code.Atom ℕ) → is_brought_atom (atom_in d) ≡ true
      → AreDistinct (numbered_atoms ds) → list_any (same d) ds ≡ false → AreDistinct (numbered_atoms (ds ++ d ∷ []))
  distinct_more ds d is once fresh = λ i j a h k.
      apart i j a (get_push (numbered_atoms ds) (atom_in d) a i (rw (map_push ds d) at h))
      (get_push (numbered_atoms ds) (atom_in d) a j (rw (map_push ds d) at k))
    where
      none : (i : ℕ) (a : AtomOver ℕ) → Names (numbered_atoms ds) i a → a ≡ atom_in d → ⊥
      none i a h e = false≢true (sym fresh ∙ listed ds d i is (h ∙ ap Some e))

      apart : (i j : ℕ) (a : AtomOver ℕ)
          → (Names (numbered_atoms ds) i a) ⊎ ((i ≡ length (numbered_atoms ds)) × (a ≡ atom_in d))
          → (Names (numbered_atoms ds) j a) ⊎ ((j ≡ length (numbered_atoms ds)) × (a ≡ atom_in d)) → i ≡ j
      apart i j a (inl h) (inl k) = once i j a h k
      apart i j a (inl h) (inr k) = absurd (none i a h k.1)
      apart i j a (inr h) (inl k) = absurd (none j a k h.1)
      apart i j a (inr h) (inr k) = h.0 ∙ sym k.0

  -- What adding an atom makes of the table.

  pub added : (ds after : List (code.Atom ℕ)) (d : code.Atom ℕ) → is_brought_atom (atom_in d) ≡ true
      → AreDistinct (numbered_atoms ds) × (are_brought ds ≡ true)
      → after ≡ cond (list_any (same d) ds) ds (ds ++ d ∷ [])
      → AreDistinct (numbered_atoms after) × (are_brought after ≡ true)
  added ds after d is old e = rw e (step (list_any (same d) ds) refl)
    where
      step : (b : Bool) → list_any (same d) ds ≡ b
          → AreDistinct (numbered_atoms (cond b ds (ds ++ d ∷ [])))
          × (are_brought (cond b ds (ds ++ d ∷ [])) ≡ true)
      step true h = old
      step false h = (distinct_more ds d is old.0 h, brought_push ds d old.1 is)

  pub with_one : (old : List (AtomOver ℕ)) (ds after : List (code.Atom ℕ)) (d : code.Atom ℕ) → numbered_atoms ds ≡ old
      → after ≡ cond (list_any (same d) ds) ds (ds ++ d ∷ []) → IsWith old (numbered_atoms after) (atom_in d)
  with_one old ds after d is e = rw (← is, e) (step (list_any (same d) ds))
    where
      step : (b : Bool) → IsWith (numbered_atoms ds) (numbered_atoms (cond b ds (ds ++ d ∷ []))) (atom_in d)
      step true = inl refl
      step false = inr (map_push ds d)

  -- the atom of the code that is found, or added, stands for the atom
  pub named : (after : List (code.Atom ℕ)) (d : code.Atom ℕ) (n : ℕ) → is_brought_atom (atom_in d) ≡ true
      → ((k : code.Atom ℕ) × (slice_get after n ≡ Some k) × (same d k ≡ true))
      → Names (numbered_atoms after) n (atom_in d)
  named after d n is stored =
      slice_get-map atom_in after n ∙ ap (option_map atom_in) stored.1
      ∙ ap Some (sym (decides.gives d stored.0 is stored.2))

  -- Looking for an atom.

  pub found : (old : List (AtomOver ℕ)) (ds : List (code.Atom ℕ)) (d : code.Atom ℕ) (o : Option ℕ) (n id : ℕ)
      → is_brought_atom (atom_in d) ≡ true → numbered_atoms ds ≡ old → o ≡ position (same d) ds → o ≡ Some n → id ≡ n
      → Names old id (atom_in d)
  found old ds d o n id brought is place some e =
      let p = position-Some (same d) ds n d (sym place ∙ some) in
      rw (← is, e) (named ds d n brought (get_or ds n d, slice_get-get_or ds n d p.0, p.1))

  pub missing : (old : List (AtomOver ℕ)) (ds : List (code.Atom ℕ)) (d : code.Atom ℕ) (o : Option ℕ)
      → is_brought_atom (atom_in d) ≡ true → numbered_atoms ds ≡ old → is_some o ≡ list_any (same d) ds → o ≡ None
      → (i : ℕ) → Names old i (atom_in d) → ⊥
  missing old ds d o brought is any none i h =
      false≢true (sym (ap is_some none) ∙ any ∙ listed ds d i brought (rw is h))
