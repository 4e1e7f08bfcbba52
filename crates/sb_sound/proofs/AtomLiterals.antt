-- The literal of an atom that is in a table is true exactly where the atom is.
use Rattle.std.proofs.Common.{◌≡◌, ℕ, suc, ◌+◌, ◌<◌, ◌≤◌, Bool, true, false, not, cond, nat_lt, if◌then◌else◌, List, [], ◌∷◌, length, take, slice_get, Option, Some, None, option_map, refl, sym, ap, ap₂, ◌∙◌, subst, arith}
use Rattle.std.specs.List.{position_from}
use Rattle.std.proofs.lemmas.Bool.{and_parts, ltb-true}
use Rattle.sb_lit.specs.declared.clause.Lit.{Lit}
use Rattle.sb_lang.specs.OrderLaws.{OrderTellsApart}
use Rattle.sb_meaning.specs.Values.{Valuation}
use Rattle.sb_rulebook.specs.Atoms.{Atom, bool_atom, in_atom, le_atom, sum_atom, and_atom, iff_atom, is_same_atom, number_of, literal_holds, atom_holds, truths_of}
use Rattle.sb_rulebook.specs.Translation.{positive}
use Rattle.sb_sound.specs.Tables.{names_below, is_table}
use Rattle.sb_sound.proofs.SameParts.{same_atom}
use Rattle.sb_sound.proofs.TableFacts.{truth_at_place, literal_holds-atom, literal_holds-take, names_from, all_in_front}

-- What stands at a number that is found.

record Stands {A : Type 0} (test : A → Bool) (xs : List A) (i n : ℕ) : Type 0 where
  place : ℕ
  number : n ≡ i + place
  element : A
  there : slice_get xs place ≡ Some element
  passes : test element ≡ true

found : {A : Type 0} (test : A → Bool) (i : ℕ) (xs : List A) (n : ℕ) → position_from test i xs ≡ Some n
    → Stands test xs i n
found test i [] n h = absurd (Prim.cc (h))
found test i (x ∷ xs) n h = step (test x) refl h (found test (i + 1) xs n)
  where
    step : (b : Bool) → test x ≡ b → cond b (Some i) (position_from test (i + 1) xs) ≡ Some n
        → (position_from test (i + 1) xs ≡ Some n → Stands test xs (i + 1) n) → Stands test (x ∷ xs) i n
    step true passes e later =
        let same : i ≡ n = Prim.cc (e) in
        record { place = 0; number = omega arith; element = x; there = refl; passes = passes }
    step false fails e later =
        let rest = later e in
        record {
          place = suc rest.place;
          number = next i n rest.place rest.number;
          element = rest.element;
          there = rest.there;
          passes = rest.passes;
        }
      where
        next : (i n k : ℕ) → n ≡ i + 1 + k → n ≡ i + suc k
        next i n k e = omega arith

-- an atom that names atoms in front is as true by those in front as by all
atom_holds-take : (v : Valuation) (truths : List Bool) (n : ℕ) (atom : Atom) → names_below n atom ≡ true
    → n ≤ length truths → atom_holds v (take n truths) atom ≡ atom_holds v truths atom
atom_holds-take v truths n (bool_atom s) names within = refl
atom_holds-take v truths n (in_atom ps r) names within = refl
atom_holds-take v truths n (le_atom x k) names within = refl
atom_holds-take v truths n (sum_atom k ss) names within = refl
atom_holds-take v truths n (and_atom ls) names within = all_in_front truths n ls names within
atom_holds-take v truths n (iff_atom l m) names within =
    let parts = and_parts (nat_lt l.atom n) (nat_lt m.atom n) names in
    ap₂ (λ x y. if x then y else not y)
    (literal_holds-take truths n l (ltb-true l.atom n parts.0) within)
    (literal_holds-take truths n m (ltb-true m.atom n parts.1) within)

-- the literal of an atom, where there is one, has the atom's truth
abbrev pub HasAtomsTruth : Valuation → List Atom → Type 0
HasAtomsTruth v atoms = (atom : Atom) (l : Lit) → positive atoms atom ≡ Some l
    → literal_holds (truths_of v atoms) l ≡ atom_holds v (truths_of v atoms) atom

pub positive_holds : OrderTellsApart → (v : Valuation) (atoms : List Atom) → is_table atoms ≡ true
    → HasAtomsTruth v atoms
positive_holds apart v atoms table atom l h = step (number_of atoms atom) refl h
  where
    step : (o : Option ℕ) → number_of atoms atom ≡ o
        → option_map (λ n. record { atom = n; positive = true }) o ≡ Some l
        → literal_holds (truths_of v atoms) l ≡ atom_holds v (truths_of v atoms) atom
    step None e g = absurd (Prim.cc (g))
    step (Some n) e g =
        let at = found (is_same_atom atom) 0 atoms n e in
        let place : n ≡ at.place = zero_more n at.place at.number in
        let same = same_atom apart atom at.element at.passes in
        let there : slice_get atoms n ≡ Some atom = ap (slice_get atoms) place ∙ at.there ∙ ap Some (sym same) in
        let names = names_from 0 atoms n atom table there in
        let ts = truths_of v atoms in
        let lit : record { atom = n; positive = true } ≡ l = the_literal _ l g in
        ap (literal_holds ts) (sym lit)
        ∙ literal_holds-atom v atoms (record { atom = n; positive = true }) atom there
        ∙ atom_holds-take v ts n atom (subst (λ (m : ℕ). names_below m atom ≡ true) (omega arith) names)
        (less n (length ts) (truth_at_place v atoms n atom there).0)
      where
        zero_more : (n k : ℕ) → n ≡ 0 + k → n ≡ k
        zero_more n k e = omega arith

        less : (i n : ℕ) → i < n → i ≤ n
        less i n h = omega arith

        the_literal : (k l : Lit) → Some k ≡ Some l → k ≡ l
        the_literal k l e = cc
