-- Atoms of the table, and what is made of one more.
use Rattle.std.proofs.Common.{◌≡◌, ℕ, zero, suc, Bool, true, false, ◌||◌, ◌==◌, inl, inr, if◌then◌else◌, List, [], ◌∷◌, ◌++◌, length, Option, Some, None, Result, Ok, Err, refl, ap, ap₂, sym, subst, ◌∙◌}
use Rattle.std.specs.List.{list_all, list_any}
use Rattle.std.proofs.lemmas.Bool.{and_parts, and_from}
use Rattle.std.proofs.lemmas.Bool.Decides.{nat_tests}
use Rattle.std.proofs.lemmas.List.{map-append}
use Rattle.std.proofs.Common.{arith}
use Rattle.sb_lang.specs.Regex.{Regex}
use Rattle.sb_lang.specs.OrderLaws.{OrderTellsApart}
use Rattle.sb_regex.specs.Numbered as regex
use Rattle.sb_atoms.specs.Numbered.{Names, IsWith, over, atoms_in, HasRegexBelow, HaveRegexesBelow}
use Rattle.sb_atoms.proofs.CallerLemmas.{over_one, atoms_more}
use Rattle.sb_rulebook.specs.Refusals.{Refusal, repeated, not_normal}
use Rattle.sb_rulebook.specs.Atoms.{Atom, AtomOver, bool_atom, in_atom, le_atom, sum_atom, and_atom, iff_atom, is_same_atom, is_well_formed}
use Rattle.sb_rulebook.specs.AtomRules.{defined}
use Rattle.sb_rulebook.specs.Kept.{AllKept}
use Rattle.sb_rulebook.proofs.CallerLemmas.{same_atom, atom_itself}
use Rattle.sb_rules.specs.declared.fault.Fault.{Fault}
use Rattle.sb_rules.specs.declared.fault.Fault.TheVariants as fault
use Rattle.sb_rules.specs.declared.kept.Kept.{Kept}
use Rattle.sb_rules.specs.Judged.{Meets}
use Rattle.sb_rules.specs.Kept.{kept_in}

-- An atom is among those of the table exactly where it has a number.

either : (a b : Bool) → b ≡ true → (a || b) ≡ true
either true b h = refl
either false b h = h

some_is : {X : Type 0} (x y : X) → Some x ≡ Some y → x ≡ y
some_is x y e = cc

pub listed_over : OrderTellsApart → (rs : List Regex) (atoms : List (AtomOver ℕ)) (a : AtomOver ℕ) (i : ℕ)
    → Names atoms i a → list_any (is_same_atom (over rs a)) (atoms_in rs atoms) ≡ true
listed_over apart rs [] a zero h = absurd (Prim.cc (h))
listed_over apart rs [] a (suc i) h = absurd (Prim.cc (h))
listed_over apart rs (b ∷ atoms) a zero h =
    ap (λ t. t || list_any (is_same_atom (over rs a)) (atoms_in rs atoms))
    (ap (λ c. is_same_atom (over rs a) (over rs c)) (some_is b a h) ∙ atom_itself apart (over rs a))
listed_over apart rs (b ∷ atoms) a (suc i) h =
    either (is_same_atom (over rs a) (over rs b)) _ (listed_over apart rs atoms a i h)

pub unlisted_over : OrderTellsApart → (rs : List Regex) (atoms : List (AtomOver ℕ)) (a : AtomOver ℕ)
    → regex.AreDistinct rs → HasRegexBelow (length rs) a → HaveRegexesBelow (length rs) atoms
    → ((i : ℕ) → Names atoms i a → ⊥) → list_any (is_same_atom (over rs a)) (atoms_in rs atoms) ≡ false
unlisted_over apart rs [] a once here all none = refl
unlisted_over apart rs (b ∷ atoms) a once here all none =
    ap (λ t. t || list_any (is_same_atom (over rs a)) (atoms_in rs atoms)) (unlike (is_same_atom (over rs a) (over rs b)) refl)
    ∙ unlisted_over apart rs atoms a once here (λ i c g. all (suc i) c g) (λ i g. none (suc i) g)
  where
    unlike : (t : Bool) → is_same_atom (over rs a) (over rs b) ≡ t → is_same_atom (over rs a) (over rs b) ≡ false
    unlike true h =
        let one : a ≡ b = over_one rs a b once here (all 0 b refl) (same_atom apart (over rs a) (over rs b) h) in
        absurd (none 0 (ap Some (sym one)))
    unlike false h = h

pub more_below : (n : ℕ) (atoms : List (AtomOver ℕ)) (a : AtomOver ℕ) → HaveRegexesBelow n atoms → HasRegexBelow n a
    → HaveRegexesBelow n (atoms ++ a ∷ [])
more_below n [] a h g zero b e = subst (HasRegexBelow n) (some_is a b e) g
more_below n [] a h g (suc i) b e = absurd (none_is b e)
  where
    none_is : {X : Type 0} (x : X) → ◌≡◌ {A = Option X} None (Some x) → ⊥
    none_is x e = Prim.cc (e)
more_below n (x ∷ xs) a h g zero b e = h 0 b e
more_below n (x ∷ xs) a h g (suc i) b e = more_below n xs a (λ j c d. h (suc j) c d) g i b e

pub more_pass : (test : AtomOver ℕ → Bool) (atoms : List (AtomOver ℕ)) (a : AtomOver ℕ)
    → list_all test atoms ≡ true → test a ≡ true → list_all test (atoms ++ a ∷ []) ≡ true
more_pass test [] a h g = and_from (test a) true g refl
more_pass test (x ∷ xs) a h g =
    let parts = and_parts (test x) (list_all test xs) h in
    and_from (test x) (list_all test (xs ++ a ∷ [])) parts.0 (more_pass test xs a parts.1 g)

-- what adding an atom makes of the table, where it has no number there
pub added_new : (old new : List (AtomOver ℕ)) (a : AtomOver ℕ) (id : ℕ) → IsWith old new a → Names new id a
    → ((i : ℕ) → Names old i a → ⊥) → new ≡ old ++ a ∷ []
added_new old new a id (inl same) named none = absurd (none id (subst (λ xs. Names xs id a) same named))
added_new old new a id (inr more) named none = more

-- memory was wanted for an atom, which may be kept
pub atom_wanted : (A : Type 0) (result : Result A Fault) (e : Fault) (ruled : Result AllKept Refusal) (k : Kept)
    (others : AllKept) (a : AtomOver ℕ) (atoms : List (AtomOver ℕ)) → result ≡ Err e → e ≡ fault.NoMemory
    → IsWith k.atoms atoms a → Meets result ruled k (record k { atoms = atoms }) others
atom_wanted A result e ruled k others a atoms r s (inl same) =
    rw (r, s) (inl (ap (λ (xs : List (AtomOver ℕ)). record (kept_in k others) { atoms = atoms_in k.arena xs }) same))
atom_wanted A result e ruled k others a atoms r s (inr more) = rw (r, s) (inr (
  over k.arena a,
  ap (λ (xs : List Atom). record (kept_in k others) { atoms = xs })
      (ap (atoms_in k.arena) more ∙ map-append (over k.arena) k.atoms (a ∷ [])),
))

-- after adding an atom, whether it is there
pub all_with : (test : AtomOver ℕ → Bool) (old new : List (AtomOver ℕ)) (a : AtomOver ℕ) → IsWith old new a
    → list_all test old ≡ true → test a ≡ true → list_all test new ≡ true
all_with test old new a (inl same) all is = rw same all
all_with test old new a (inr more) all is = rw more (more_pass test old a all is)

pub below_with : (n : ℕ) (old new : List (AtomOver ℕ)) (a : AtomOver ℕ) → IsWith old new a → HaveRegexesBelow n old
    → HasRegexBelow n a → HaveRegexesBelow n new
below_with n old new a (inl same) all here = rw same all
below_with n old new a (inr more) all here = rw more (more_below n old a all here)

-- An atom is as well formed as the atom with the regex itself.

formed_over : (rs : List Regex) (a : AtomOver ℕ) → is_well_formed (over rs a) ≡ is_well_formed a
formed_over rs (bool_atom serial) = refl
formed_over rs (in_atom ps r) = refl
formed_over rs (le_atom x k) = refl
formed_over rs (sum_atom k ss) = refl
formed_over rs (and_atom ls) = refl
formed_over rs (iff_atom l m) = refl

not_one : (n : ℕ) → (suc (suc n) == 1) ≡ false
not_one n = grind (arith, nat_tests)

-- What is made of an atom whose parts are there.

pub kept_before : OrderTellsApart → (k : Kept) (others : AllKept) (a : AtomOver ℕ) (id : ℕ) → Names k.atoms id a
    → defined (kept_in k others) (over k.arena a) ≡ Err repeated
kept_before apart k others a id named =
    ap (λ b. if b then Err repeated else if is_well_formed (over k.arena a) then Ok (record (kept_in k others) {
      atoms = atoms_in k.arena k.atoms ++ over k.arena a ∷ [];
    }) else Err not_normal) (listed_over apart k.arena k.atoms a id named)

pub kept_by_form : OrderTellsApart → (k : Kept) (others : AllKept) (a : AtomOver ℕ) (b : Bool)
    → regex.AreDistinct k.arena → HasRegexBelow (length k.arena) a → HaveRegexesBelow (length k.arena) k.atoms
    → ((i : ℕ) → Names k.atoms i a → ⊥) → b ≡ is_well_formed a
    → defined (kept_in k others) (over k.arena a)
    ≡ (if b then Ok (record (kept_in k others) { atoms = atoms_in k.arena (k.atoms ++ a ∷ []) }) else Err not_normal)
kept_by_form apart k others a b once here all none is =
    ap (λ t. if t then Err repeated else if is_well_formed (over k.arena a) then Ok (record (kept_in k others) {
      atoms = atoms_in k.arena k.atoms ++ over k.arena a ∷ [];
    }) else Err not_normal) (unlisted_over apart k.arena k.atoms a once here all none)
    ∙ ap₂ (λ t xs. if t then Ok (record (kept_in k others) { atoms = xs }) else Err not_normal)
    (formed_over k.arena a ∙ sym is) (sym (atoms_more k.arena k.atoms (a ∷ [])))
