-- What a caller cites of atoms by their numbers, in a table and an arena that grow, of literals in order, of values and
-- of the clauses of gates.
use Rattle.std.proofs.Common.{◌≡◌, ℕ, zero, suc, ◌+◌, ◌<◌, ◌≤◌, Bool, true, false, nat_lt, List, [], ◌∷◌, ◌++◌, length, refl, ap, ap₂, subst, ◌∙◌, arith}
use Rattle.std.proofs.lemmas.Bool.{and_from, ltb-true}
use Rattle.std.proofs.lemmas.Bool.Decides.{nat_tests}
use Rattle.std.proofs.lemmas.Option.{slice_get_within}
use Rattle.sb_lang.specs.Regex.{Regex}
use Rattle.sb_regex.specs.Numbered as regex
use Rattle.sb_regex.proofs.CallerLemmas.{at_kept, long_kept}
use Rattle.sb_rulebook.specs.Atoms.{AtomOver, bool_atom, in_atom, le_atom, sum_atom, and_atom, iff_atom}
use Rattle.sb_rulebook.specs.Tables.{names_below, is_table_from, is_table}
use Rattle.sb_atoms.specs.Numbered.{Names, Extends, over, atoms_in, HasRegexBelow, HaveRegexesBelow, NameEarlier}
-- atoms over an arena are one where their numbers are
pub use Rattle.sb_atoms.proofs.Translating.{over_one}
-- literals in order ascend, and are of atoms below a number where all are, as their negations
pub use Rattle.sb_atoms.proofs.Ordered.{order_ascends, below_in_order, below_negations}
-- words give the values of a term that asks something of one constant's word
pub use Rattle.sb_atoms.proofs.GivenValues.{asked_given, asked_value}
-- together the clauses of a gate say what the atom does
pub use Rattle.sb_atoms.proofs.Saying.{all_say}
-- the clauses of an atom are the same over the regexes
pub use Rattle.sb_atoms.proofs.GateFacts.{clauses_over}

pub no_atoms : (n : ℕ) → HaveRegexesBelow n []
no_atoms n i a h = absurd (nothing i a h)
  where
    nothing : (i : ℕ) (a : AtomOver ℕ) → Names [] i a → ⊥
    nothing i a h = omega (arith, slice_get_within [] i a h)

-- where the arena grows
pub regex_kept : (n m : ℕ) (a : AtomOver ℕ) → n ≤ m → HasRegexBelow n a → HasRegexBelow m a
regex_kept n m (bool_atom serial) l h = tt
regex_kept n m (in_atom ps r) l h = omega (arith, l, h)
regex_kept n m (le_atom x k) l h = tt
regex_kept n m (sum_atom k ss) l h = tt
regex_kept n m (and_atom ls) l h = tt
regex_kept n m (iff_atom a b) l h = tt

pub regexes_kept : (old new : List Regex) (atoms : List (AtomOver ℕ)) → regex.Extends old new
    → HaveRegexesBelow (length old) atoms → HaveRegexesBelow (length new) atoms
regexes_kept old new atoms e h = λ i a g. regex_kept (length old) (length new) a (long_kept old new e) (h i a g)

over_kept : (old new : List Regex) (a : AtomOver ℕ) → regex.Extends old new → HasRegexBelow (length old) a
    → over new a ≡ over old a
over_kept old new (bool_atom serial) e h = refl
over_kept old new (in_atom ps r) e h = ap (in_atom ps) (at_kept old new r e h)
over_kept old new (le_atom x k) e h = refl
over_kept old new (sum_atom k ss) e h = refl
over_kept old new (and_atom ls) e h = refl
over_kept old new (iff_atom a b) e h = refl

pub atoms_kept : (old new : List Regex) (atoms : List (AtomOver ℕ)) → regex.Extends old new
    → HaveRegexesBelow (length old) atoms → atoms_in new atoms ≡ atoms_in old atoms
atoms_kept old new [] e h = refl
atoms_kept old new (a ∷ atoms) e h =
    ap₂ (λ b bs. b ∷ bs) (over_kept old new a e (h 0 a refl)) (atoms_kept old new atoms e (λ i b g. h (suc i) b g))

-- where the table grows
pub atoms_more : (rs : List Regex) (old more : List (AtomOver ℕ)) → atoms_in rs (old ++ more)
    ≡ atoms_in rs old ++ atoms_in rs more
atoms_more rs [] more = refl
atoms_more rs (a ∷ old) more = ap (λ bs. over rs a ∷ bs) (atoms_more rs old more)

-- an old atom has its number in the smaller table
pub named_before : (old more : List (AtomOver ℕ)) (i : ℕ) (a : AtomOver ℕ) → i < length old → Names (old ++ more) i a
    → Names old i a
named_before [] more i a low h = absurd (omega (arith, low))
named_before (x ∷ xs) more zero a low h = h
named_before (x ∷ xs) more (suc i) a low h = named_before xs more i a (omega (arith, low)) h

-- Atoms that name no literal but of those before them.

pub earlier_none : (atoms : List (AtomOver ℕ)) → NameEarlier (length atoms) atoms
earlier_none atoms i a from h = absurd (early (slice_get_within atoms i a h))
  where
    early : i < length atoms → ⊥
    early low = omega (arith, from, low)

pub earlier_more : (from : ℕ) (old new : List (AtomOver ℕ)) → Extends old new → NameEarlier from old
    → NameEarlier (length old) new → NameEarlier from new
earlier_more from old new e p q = λ i a low h rs. step i a low h rs (nat_lt i (length old)) refl
  where
    step : (i : ℕ) (a : AtomOver ℕ) → from ≤ i → Names new i a → (rs : List Regex) → (b : Bool)
        → nat_lt i (length old) ≡ b → names_below i (over rs a) ≡ true
    step i a low h rs true is =
        p i a low
        (named_before old e.more i a (ltb-true i (length old) is)
        (subst (λ (atoms : List (AtomOver ℕ)). Names atoms i a) e.is h)) rs
    step i a low h rs false is = q i a (grind (arith, nat_tests)) h rs

table_from : (rs : List Regex) (n : ℕ) (atoms : List (AtomOver ℕ))
    → ((i : ℕ) (a : AtomOver ℕ) → Names atoms i a → names_below (n + i) (over rs a) ≡ true)
    → is_table_from n (atoms_in rs atoms) ≡ true
table_from rs n [] h = refl
table_from rs n (a ∷ atoms) h =
    let first : n ≡ n + 0 = omega arith in
    and_from (names_below n (over rs a)) (is_table_from (suc n) (atoms_in rs atoms))
    (ap (λ m. names_below m (over rs a)) first ∙ h 0 a refl)
    (table_from rs (suc n) atoms (later n h))
  where
    later : (n : ℕ) → ((i : ℕ) (b : AtomOver ℕ) → Names (a ∷ atoms) i b → names_below (n + i) (over rs b) ≡ true)
        → (i : ℕ) (b : AtomOver ℕ) → Names atoms i b → names_below (suc n + i) (over rs b) ≡ true
    later n h i b k =
        let at : suc n + i ≡ n + suc i = omega arith in
        ap (λ m. names_below m (over rs b)) at ∙ h (suc i) b k

-- they are a table, over whatever regexes
pub earlier_table : (rs : List Regex) (atoms : List (AtomOver ℕ)) → NameEarlier 0 atoms
    → is_table (atoms_in rs atoms) ≡ true
earlier_table rs atoms h =
    table_from rs 0 atoms (λ i a k.
    let at : 0 + i ≡ i = omega arith in ap (λ n. names_below n (over rs a)) at ∙ h i a (omega arith) k rs)
