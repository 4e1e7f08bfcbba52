-- Clauses of steps, literal by literal.
use Rattle.std.proofs.Common.{◌≡◌, ℕ, ◌+◌, ◌<◌, Bool, true, false, not, ◌&&◌, ◌||◌, List, [], ◌∷◌, length, drop, get_or, Some, option_map, refl, sym, ap, ◌∙◌}
use Rattle.std.specs.List.{list_all, list_any}
use Rattle.std.proofs.lemmas.Bool.{false≢true, or_left, true_from_ne_false}
use Rattle.std.proofs.lemmas.List.Folds.{list_all_at}
use Rattle.std.proofs.lemmas.Option.{slice_get-map, get_or_from_slice_get, slice_get_within}
use Rattle.sb_lang.specs.Regex.{Regex}
use Rattle.sb_lit.specs.declared.clause.Lit.{Lit}
use Rattle.sb_lit.specs.Clauses.{are_among}
use Rattle.sb_hints.specs.Sets.{are_equal}
use Rattle.sb_regex.specs.Numbered.{Extends}
use Rattle.sb_plain.specs.Memory.{Memory, IsRight}
use Rattle.sb_rulebook.specs.Atoms.{Atom, AtomOver}
use Rattle.sb_rulebook.specs.Gates.{is_set_of, atom_of, differ_in_sign}
use Rattle.sb_rulebook.specs.Splits.{is_cut, is_end, is_split, is_split_by, is_step_of}
use Rattle.sb_atoms.specs.Numbered.{Names, over, atoms_in, HaveRegexesBelow}
use Rattle.sb_atoms.proofs.CallerLemmas.{atoms_kept, regexes_kept}
use Rattle.sb_rules.specs.Stepping.{AreReady, is_ended_by, is_split_with}
use Rattle.sb_rules.proofs.Gated.{among_few, any_there, any_more}

-- The atom of a literal.

pub atom_named : (rs : List Regex) (atoms : List (AtomOver ℕ)) (l : Lit) (a : AtomOver ℕ) → Names atoms l.atom a
    → atom_of (atoms_in rs atoms) l ≡ Some (over rs a)
atom_named rs atoms l a h = slice_get-map (over rs) atoms l.atom ∙ ap (option_map (over rs)) h

pub test_named : (test : AtomOver ℕ → Bool) (atoms : List (AtomOver ℕ)) (i : ℕ) (a : AtomOver ℕ)
    → list_all test atoms ≡ true → Names atoms i a → test a ≡ true
test_named test atoms i a all h =
    true_from_ne_false (test a) (λ e. false≢true
    (sym (list_all_at test atoms i a (slice_get_within atoms i a h) (ap test (get_or_from_slice_get atoms i a a h) ∙ e))
    ∙ all))

pub ready_on : (atoms : List (AtomOver ℕ)) (old new : List Regex) (m n : Memory) → AreReady atoms old m
    → Extends old new → IsRight new n → AreReady atoms new n
ready_on atoms old new m n h e r =
    record { formed = h.formed; regexes = regexes_kept old new atoms e h.regexes; right = r }

-- A few literals.

pub these_first : (clause few : List Lit) (one other : Bool)
    → one ≡ list_all (λ l. list_any (λ m. are_equal m l) few) clause
    → other ≡ list_all (λ l. list_any (λ m. are_equal m l) clause) few → one ≡ true → other ≡ is_set_of clause few
these_first clause few one other is so h =
    so ∙ among_few few clause ∙ ap (λ t. t && are_among few clause) (sym h ∙ is ∙ among_few clause few)

pub these_lack : (clause few : List Lit) (one : Bool)
    → one ≡ list_all (λ l. list_any (λ m. are_equal m l) few) clause → one ≡ false → one ≡ is_set_of clause few
these_lack clause few one is h = h ∙ ap (λ t. t && are_among few clause) (sym h ∙ is ∙ among_few clause few)

-- What is said of the atoms of some literals.

and_assoc : (a b c : Bool) → ((a && b) && c) ≡ (a && (b && c))
and_assoc true b c = refl
and_assoc false b c = refl

pub ended_first : (rs : List Regex) (atoms : List (AtomOver ℕ)) (clause : List Lit) (a : Lit) (d : AtomOver ℕ)
    (set ends : Bool) → Names atoms a.atom d → set ≡ is_set_of clause (a ∷ [])
    → ends ≡ is_end a.positive (Some (over rs d)) → set ≡ true → ends ≡ is_ended_by (atoms_in rs atoms) clause a
ended_first rs atoms clause a d set ends named is so h =
    so
    ∙ ap (is_end a.positive) (sym (atom_named rs atoms a d named))
    ∙ ap (λ t. t && is_end a.positive (atom_of (atoms_in rs atoms) a)) (sym h ∙ is)

pub ended_lacks : (atoms : List Atom) (clause : List Lit) (a : Lit) (set : Bool) → set ≡ is_set_of clause (a ∷ [])
    → set ≡ false → set ≡ is_ended_by atoms clause a
ended_lacks atoms clause a set is h = h ∙ ap (λ t. t && is_end a.positive (atom_of atoms a)) (sym h ∙ is)

pub cut_lacks : (atoms : List Atom) (clause : List Lit) (a c : Lit) (set : Bool)
    → set ≡ is_set_of clause (a ∷ c ∷ []) → set ≡ false
    → false ≡ (is_set_of clause (a ∷ c ∷ []) && is_cut (atom_of atoms a) (atom_of atoms c))
cut_lacks atoms clause a c set is h = ap (λ t. t && is_cut (atom_of atoms a) (atom_of atoms c)) (sym h ∙ is)

pub cut_found : (rs : List Regex) (atoms : List (AtomOver ℕ)) (clause : List Lit) (a c : Lit) (d e : AtomOver ℕ)
    (set : Bool) → Names atoms a.atom d → Names atoms c.atom e → set ≡ is_set_of clause (a ∷ c ∷ []) → set ≡ true
    → is_cut (Some (over rs d)) (Some (over rs e))
    ≡ (is_set_of clause (a ∷ c ∷ []) && is_cut (atom_of (atoms_in rs atoms) a) (atom_of (atoms_in rs atoms) c))
cut_found rs atoms clause a c d e set one other is h =
    ap (λ o. is_cut o (Some (over rs e))) (sym (atom_named rs atoms a d one))
    ∙ ap (is_cut (atom_of (atoms_in rs atoms) a)) (sym (atom_named rs atoms c e other))
    ∙ ap (λ t. t && is_cut (atom_of (atoms_in rs atoms) a) (atom_of (atoms_in rs atoms) c)) (sym h ∙ is)

pub split_lacks : (atoms : List Atom) (clause : List Lit) (a c b : Lit) (set : Bool)
    → set ≡ (not b.positive && is_set_of clause (b ∷ a ∷ c ∷ [])) → set ≡ false
    → false ≡ is_split_with atoms clause a c b
split_lacks atoms clause a c b set is h =
    ap (λ t. t && is_split (atom_of atoms a) (atom_of atoms b) (atom_of atoms c)) (sym h ∙ is)
    ∙ and_assoc (not b.positive) (is_set_of clause (b ∷ a ∷ c ∷ []))
    (is_split (atom_of atoms a) (atom_of atoms b) (atom_of atoms c))

pub split_found : (rs : List Regex) (atoms : List (AtomOver ℕ)) (clause : List Lit) (a c b : Lit)
    (d e f : AtomOver ℕ) (set : Bool) → Names atoms a.atom d → Names atoms c.atom e → Names atoms b.atom f
    → set ≡ (not b.positive && is_set_of clause (b ∷ a ∷ c ∷ [])) → set ≡ true
    → is_split (Some (over rs d)) (Some (over rs f)) (Some (over rs e))
    ≡ is_split_with (atoms_in rs atoms) clause a c b
split_found rs atoms clause a c b d e f set one other between is h =
    ap (λ o. is_split o (Some (over rs f)) (Some (over rs e))) (sym (atom_named rs atoms a d one))
    ∙ ap (λ o. is_split (atom_of (atoms_in rs atoms) a) o (Some (over rs e))) (sym (atom_named rs atoms b f between))
    ∙ ap (is_split (atom_of (atoms_in rs atoms) a) (atom_of (atoms_in rs atoms) b))
    (sym (atom_named rs atoms c e other))
    ∙ ap (λ t. t && is_split (atom_of (atoms_in rs atoms) a) (atom_of (atoms_in rs atoms) b)
    (atom_of (atoms_in rs atoms) c)) (sym h ∙ is)
    ∙ and_assoc (not b.positive) (is_set_of clause (b ∷ a ∷ c ∷ []))
    (is_split (atom_of (atoms_in rs atoms) a) (atom_of (atoms_in rs atoms) b) (atom_of (atoms_in rs atoms) c))

-- Two literals are a step by a cut, or by a third one.
module _ (atoms : List Atom) (clause : List Lit) (a c : Lit) (differ : Bool) (is : differ ≡ differ_in_sign a c) where
  abbrev cuts : Bool
  cuts = is_set_of clause (a ∷ c ∷ []) && is_cut (atom_of atoms a) (atom_of atoms c)

  pub one_sign : differ ≡ false → false ≡ is_step_of atoms clause a c
  one_sign h = ap (λ t. t && (cuts || is_split_by atoms clause a c)) (sym h ∙ is)

  pub by_cut : (cut : Bool) → differ ≡ true → cut ≡ cuts → cut ≡ true → true ≡ is_step_of atoms clause a c
  by_cut cut h so there =
      sym (or_left cuts (is_split_by atoms clause a c) (sym so ∙ there))
      ∙ ap (λ t. t && (cuts || is_split_by atoms clause a c)) (sym h ∙ is)

  pub by_split : (cut : Bool) → differ ≡ true → cut ≡ cuts → cut ≡ false
      → is_split_by atoms clause a c ≡ is_step_of atoms clause a c
  by_split cut h so none =
      ap (λ t. t || is_split_by atoms clause a c) (sym none ∙ so)
      ∙ ap (λ t. t && (cuts || is_split_by atoms clause a c)) (sym h ∙ is)

-- The literals are tried one by one, over an arena that grows.
module _ (old now : List Regex) (atoms : List (AtomOver ℕ)) (test : List Atom → Lit → Bool) (ls : List Lit) (i : ℕ)
    (d : Lit) (b : Bool) (e : Extends old now) (below : HaveRegexesBelow (length old) atoms) (low : i < length ls)
    (so : list_any (test (atoms_in old atoms)) (drop i ls) ≡ list_any (test (atoms_in old atoms)) ls)
    (is : b ≡ test (atoms_in now atoms) (get_or ls i d)) where
  over_old : b ≡ test (atoms_in old atoms) (get_or ls i d)
  over_old = is ∙ ap (λ xs. test xs (get_or ls i d)) (atoms_kept old now atoms e below)

  pub found_there : (both : Bool) → b ≡ true → true ≡ (both || list_any (test (atoms_in old atoms)) ls)
  found_there both h = any_there (test (atoms_in old atoms)) ls i d both b low so over_old h

  pub not_there : b ≡ false
      → list_any (test (atoms_in old atoms)) (drop (i + 1) ls) ≡ list_any (test (atoms_in old atoms)) ls
  not_there h = any_more (test (atoms_in old atoms)) ls i d b low so over_old h
