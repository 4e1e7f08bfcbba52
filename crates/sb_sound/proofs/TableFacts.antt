-- The truth of an atom of a table, by its number, and the atoms in front that it names.
use Rattle.std.proofs.Common.{◌≡◌, ℕ, zero, suc, ◌+◌, ◌<◌, ◌≤◌, Bool, true, false, not, ◌&&◌, nat_lt, if◌then◌else◌, List, [], ◌∷◌, ◌++◌, length, take, get_or, slice_get, Some, refl, sym, ap, ap₂, ◌∙◌, subst, arith, append_assoc, length-append}
use Rattle.std.specs.List.{list_all}
use Rattle.std.proofs.lemmas.Bool.{and_parts, ltb-true}
use Rattle.std.proofs.lemmas.List.{append-nil}
use Rattle.std.proofs.lemmas.Option.{unwrap_or-slice_get}
use Rattle.std.proofs.Math.Seq.{get_or-append_seam, take-append_seam}
use Rattle.sb_lit.specs.declared.clause.Lit.{Lit}
use Rattle.sb_meaning.specs.Values.{Valuation}
use Rattle.sb_rulebook.specs.Atoms.{Atom, atom_holds, truths_from, truths_of, literal_holds}
use Rattle.sb_rulebook.specs.Gates.{atom_of}
use Rattle.sb_sound.specs.Tables.{names_below, is_table_from}

-- what the pass over a table adds stands behind what there was
pub truths_from-front : (v : Valuation) (truths : List Bool) (atoms : List Atom)
    → (more : List Bool) × (truths_from v truths atoms ≡ truths ++ more)
truths_from-front v truths [] = ([], sym (append-nil truths))
truths_from-front v truths (atom ∷ atoms) =
    let b = atom_holds v truths atom in
    let rest = truths_from-front v (truths ++ b ∷ []) atoms in
    (b ∷ rest.0, rest.1 ∙ append_assoc truths (b ∷ []) rest.0)

-- the truth at a place of the table is that of its atom, from those in front
abbrev pub IsTruthAt : Valuation → List Bool → ℕ → Atom → Type 0
IsTruthAt v truths i atom = (i < length truths) × (get_or truths i false ≡ atom_holds v (take i truths) atom)

pub truth_from : (v : Valuation) (truths : List Bool) (atoms : List Atom) (k : ℕ) (atom : Atom)
    → slice_get atoms k ≡ Some atom → IsTruthAt v (truths_from v truths atoms) (length truths + k) atom
truth_from v truths [] k atom there = absurd (Prim.cc (there))
truth_from v truths (a ∷ atoms) zero atom there =
    let b = atom_holds v truths a in
    let rest = truths_from-front v (truths ++ b ∷ []) atoms in
    let whole : truths_from v (truths ++ b ∷ []) atoms ≡ truths ++ b ∷ rest.0 =
    rest.1 ∙ append_assoc truths (b ∷ []) rest.0 in
    let same : a ≡ atom = Prim.cc (there) in
    subst (λ (ts : List Bool). IsTruthAt v ts (length truths + 0) atom) (sym whole)
    (subst (λ (i : ℕ). IsTruthAt v (truths ++ b ∷ rest.0) i atom) (here (length truths)) (
      omega (arith, length-append truths (b ∷ rest.0)),
      get_or-append_seam truths b rest.0 false
          ∙ ap (atom_holds v truths) same
          ∙ ap (λ (ts : List Bool). atom_holds v ts atom) (sym (take-append_seam truths (b ∷ rest.0))),
    ))
  where
    here : (n : ℕ) → n ≡ n + 0
    here n = omega arith
truth_from v truths (a ∷ atoms) (suc k) atom there =
    let b = atom_holds v truths a in
    subst (λ (i : ℕ). IsTruthAt v (truths_from v (truths ++ b ∷ []) atoms) i atom)
    (omega (arith, length-append truths (b ∷ [])))
    (truth_from v (truths ++ b ∷ []) atoms k atom there)

-- the same over the whole table
pub truth_at_place : (v : Valuation) (atoms : List Atom) (i : ℕ) (atom : Atom) → slice_get atoms i ≡ Some atom
    → IsTruthAt v (truths_of v atoms) i atom
truth_at_place v atoms i atom there =
    subst (λ (n : ℕ). IsTruthAt v (truths_of v atoms) n atom) (omega arith) (truth_from v [] atoms i atom there)

-- the truth of a literal is that of its atom, or not
pub literal_holds-atom : (v : Valuation) (atoms : List Atom) (l : Lit) (atom : Atom) → atom_of atoms l ≡ Some atom
    → literal_holds (truths_of v atoms) l ≡ (let b = atom_holds v (take l.atom (truths_of v atoms)) atom in
    if l.positive then b else not b)
literal_holds-atom v atoms l atom there =
    let at = truth_at_place v atoms l.atom atom there in
    ap (λ b. if l.positive then b else not b)
    (unwrap_or-slice_get (truths_of v atoms) l.atom false ∙ at.1)

-- a literal of an atom in front has the same truth in front
pub literal_holds-take : (truths : List Bool) (n : ℕ) (l : Lit) → l.atom < n → n ≤ length truths
    → literal_holds (take n truths) l ≡ literal_holds truths l
literal_holds-take truths n l below within =
    ap (λ b. if l.positive then b else not b)
    (unwrap_or-slice_get (take n truths) l.atom false ∙ at truths n l.atom below
    ∙ sym (unwrap_or-slice_get truths l.atom false))
  where
    at : (ts : List Bool) (n i : ℕ) → i < n → get_or (take n ts) i false ≡ get_or ts i false
    at [] zero i h = refl
    at [] (suc n) i h = refl
    at (t ∷ ts) zero i h = absurd (omega (arith, h))
    at (t ∷ ts) (suc n) zero h = refl
    at (t ∷ ts) (suc n) (suc i) h = at ts n i (omega (arith, h))

-- an atom of a table names those before it
pub names_from : (n : ℕ) (atoms : List Atom) (k : ℕ) (atom : Atom) → is_table_from n atoms ≡ true
    → slice_get atoms k ≡ Some atom → names_below (n + k) atom ≡ true
names_from n [] k atom table there = absurd (Prim.cc (there))
names_from n (a ∷ atoms) zero atom table there =
    let parts = and_parts (names_below n a) (is_table_from (suc n) atoms) table in
    let same : a ≡ atom = Prim.cc (there) in
    subst (λ (m : ℕ). names_below m atom ≡ true) (here n) (ap (names_below n) (sym same) ∙ parts.0)
  where
    here : (n : ℕ) → n ≡ n + 0
    here n = omega arith
names_from n (a ∷ atoms) (suc k) atom table there =
    let parts = and_parts (names_below n a) (is_table_from (suc n) atoms) table in
    subst (λ (m : ℕ). names_below m atom ≡ true) (next n k) (names_from (suc n) atoms k atom parts.1 there)
  where
    next : (n k : ℕ) → suc n + k ≡ n + suc k
    next n k = omega arith

-- literals of atoms in front have the same truth in front
pub all_in_front : (truths : List Bool) (n : ℕ) (ls : List Lit) → list_all (λ l. nat_lt l.atom n) ls ≡ true
    → n ≤ length truths → list_all (literal_holds (take n truths)) ls ≡ list_all (literal_holds truths) ls
all_in_front truths n [] below within = refl
all_in_front truths n (l ∷ ls) below within =
    let parts = and_parts (nat_lt l.atom n) (list_all (λ l. nat_lt l.atom n) ls) below in
    ap₂ ◌&&◌ (literal_holds-take truths n l (ltb-true l.atom n parts.0) within)
    (all_in_front truths n ls parts.1 within)
