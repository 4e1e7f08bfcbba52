-- A table that gains memberships: what is known of its atoms, of what is wanted of them, and of the evidence.
use Rattle.sb_solve.proofs.Words.{◌≡◌, ℕ, ◌<◌, ◌≤◌, Bool, true, ◌&&◌, List, [], ◌∷◌, ◌++◌, length, get_or, slice_get, Option, Some, None, refl, sym, ap, subst, ◌∙◌, arith, suc, zero, list_all, all_weaker, and_from, and_parts, get_or_from_slice_get, lt-ltb, ltb-true, slice_get-get_or, slice_get_within, AtomOver, Backing, Lit, Names, Stand, TableGrows, are_atoms, atom_at, bool_atom, is_atom, is_closed, is_in, is_simple, over, parts_of, stand-atoms}
use Rattle.std.proofs.lemmas.List.{length-append}
use Rattle.sb_rulebook.specs.Tables.{names_below}
use Rattle.sb_atoms.proofs.CallerLemmas.{earlier_more}
use Rattle.sb_atoms.specs.Numbered.{NameEarlier}
use Rattle.sb_atoms.specs.Numbered as table

-- Atoms that stay.

pub names_more : (old more : List (AtomOver ℕ)) (i : ℕ) (a : AtomOver ℕ) → Names old i a → Names (old ++ more) i a
names_more [] more i a h = absurd (omega (arith, slice_get_within [] i a h))
names_more (x ∷ old) more zero a h = h
names_more (x ∷ old) more (suc i) a h = names_more old more i a h

pub named_still : (e f : List (AtomOver ℕ)) (i : ℕ) (a : AtomOver ℕ) → table.Extends e f → Names e i a → Names f i a
named_still e f i a extends named =
    subst (λ (ts : List (AtomOver ℕ)). Names ts i a) (sym extends.is) (names_more e extends.more i a named)

-- the atom of a number is the one that it was
pub named_as : (old new : List (AtomOver ℕ)) (i : ℕ) → table.Extends old new → i < length old
    → slice_get new i ≡ slice_get old i
named_as old new i extends low =
    let there : Names old i (get_or old i (bool_atom 0)) = slice_get-get_or old i (bool_atom 0) low in
    named_still old new i (get_or old i (bool_atom 0)) extends there ∙ sym there

pub place_still : (old new : List (AtomOver ℕ)) (i : ℕ) → table.Extends old new → i < length old
    → atom_at new i ≡ atom_at old i
place_still old new i extends low =
    get_or_from_slice_get new i (get_or old i (bool_atom 0)) (bool_atom 0)
    (named_still old new i (get_or old i (bool_atom 0)) extends (slice_get-get_or old i (bool_atom 0) low))

-- Numbers of atoms.

pub grown_long : (e f : List (AtomOver ℕ)) → table.Extends e f → length e ≤ length f
grown_long e f h = omega (arith, ap length h.is, length-append e h.more)

pub atom_still : (old new : List (AtomOver ℕ)) (i : ℕ) → table.Extends old new → is_atom old i ≡ true
    → is_atom new i ≡ true
atom_still old new i extends h =
    lt-ltb i (length new) (omega (arith, ltb-true i (length old) h, grown_long old new extends))

pub numbers_still : (old new : List (AtomOver ℕ)) (xs : List ℕ) → table.Extends old new
    → list_all (is_atom old) xs ≡ true → list_all (is_atom new) xs ≡ true
numbers_still old new xs extends =
    all_weaker (is_atom old) (is_atom new) (λ i known. atom_still old new i extends known) xs

pub literals_still : (old new : List (AtomOver ℕ)) (ls : List Lit) → table.Extends old new
    → are_atoms old ls ≡ true → are_atoms new ls ≡ true
literals_still old new ls extends =
    all_weaker (λ (l : Lit). is_atom old l.atom) (λ (l : Lit). is_atom new l.atom)
    (λ l known. atom_still old new l.atom extends known) ls

-- What is closed.

-- an atom is simple, and its parts are among the numbers, if it is there
abbrev is_closed_by : List ℕ → Option (AtomOver ℕ) → Bool
is_closed_by numbers o = elim o as (λ _. Bool) [ None ↦ true | Some b ↦ is_simple b ]
    && list_all (is_in numbers) (elim o as (λ _. List ℕ) [ None ↦ [] | Some b ↦ parts_of b ])

pub closed_still : (old new : List (AtomOver ℕ)) (numbers xs : List ℕ) → table.Extends old new
    → list_all (is_atom old) xs ≡ true → list_all (is_closed old numbers) xs ≡ true
    → list_all (is_closed new numbers) xs ≡ true
closed_still old new numbers [] extends known h = refl
closed_still old new numbers (x ∷ xs) extends known h =
    let p = and_parts (is_atom old x) (list_all (is_atom old) xs) known in
    let q = and_parts (is_closed old numbers x) (list_all (is_closed old numbers) xs) h in
    let same : is_closed new numbers x ≡ is_closed old numbers x =
    ap (is_closed_by numbers) (named_as old new x extends (ltb-true x (length old) p.0)) in
    and_from (is_closed new numbers x) (list_all (is_closed new numbers) xs) (same ∙ q.0)
    (closed_still old new numbers xs extends p.1 q.1)

-- Memberships name no literals.

fresh_earlier : (old new : List (AtomOver ℕ)) → TableGrows old new → NameEarlier (length old) new
fresh_earlier old new grows = λ i a low named rs.
    let it = grows.members i a low named in
    subst (λ (b : AtomOver ℕ). names_below i (over rs b) ≡ true) (sym it.is) refl

pub earlier_grown : (old new : List (AtomOver ℕ)) → TableGrows old new → NameEarlier 0 old → NameEarlier 0 new
earlier_grown old new grows h = earlier_more 0 old new grows.extends h (fresh_earlier old new grows)

-- what is known of all that stands in a proof stays so
pub stand_grown : (e : Backing) (new : List (AtomOver ℕ)) → TableGrows e.atoms new → Stand e
    → Stand (record e { atoms = new })
stand_grown e new grows h =
    stand-atoms e new grows.extends (fresh_earlier e.atoms new grows)
    (λ i a low named. grows.formed h.formed i a named) h
