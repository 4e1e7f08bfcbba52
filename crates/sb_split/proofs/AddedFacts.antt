-- Tables of atoms that grow by memberships, and arenas beside them.
use Rattle.std.proofs.lemmas.Bool.{ltb-true}
use Rattle.std.proofs.lemmas.Bool.Decides.{nat_tests}
use Rattle.std.specs.Prelude.{nat_lt}
use Rattle.sb_facts.proofs.CallerLemmas.{get_push}
use Rattle.sb_regex.specs.Numbered as regex
use Rattle.sb_split.proofs.Words.{Bool, List, [], ap, append_assoc, arith, false, inl, inr, length, refl, subst, suc, sym, true, zero, ℕ, ◌++◌, ◌<◌, ◌∙◌, ◌∷◌, ◌≡◌, ◌≤◌, ◌⊎◌, Adds, AreDefined, AreMemberships, Atom, AtomOver, Extends, HasRegexBelow, HaveRegexesBelow, IsMembership, IsWith, Names, Piece, Regex, Sort, and_from, and_parts, append-nil, are_pieces, bool_atom, constant_piece, declares, declares_at, earlier_more, earlier_none, extends_more, extends_same, get_or_from_slice_get, has_its_parts, in_atom, is_declared_piece, is_well_formed, list_all, named_before, over, regexes_kept, slice_get_within}
use Rattle.sb_rulebook.specs.Tables as tables

-- Names that stay.

pub names_more : (old new : List (AtomOver ℕ)) (i : ℕ) (a : AtomOver ℕ) → Extends old new → Names old i a
    → Names new i a
names_more old new i a e h =
    subst (λ (atoms : List (AtomOver ℕ)). Names atoms i a) (sym e.is) (step old e.more i h)
  where
    step : (old more : List (AtomOver ℕ)) (i : ℕ) → Names old i a → Names (old ++ more) i a
    step [] more i h = absurd (none i h)
      where
        none : (i : ℕ) → Names [] i a → ⊥
        none i h = omega (arith, slice_get_within [] i a h)
    step (x ∷ xs) more zero h = h
    step (x ∷ xs) more (suc i) h = step xs more i h

-- Nothing is added to the table.

none_behind : (atoms : List (AtomOver ℕ)) (i : ℕ) (a : AtomOver ℕ) → length atoms ≤ i → Names atoms i a → ⊥
none_behind atoms i a low h = omega (arith, low, slice_get_within atoms i a h)

nothing_new : (given : List Sort → Bool) (atoms : List (AtomOver ℕ)) → AreDefined given atoms atoms
nothing_new given atoms i a low h = absurd (none_behind atoms i a low h)

pub adds_arena : (given : List Sort → Bool) (rs ss : List Regex) (atoms : List (AtomOver ℕ)) → regex.Extends rs ss
    → HaveRegexesBelow (length rs) atoms → Adds given rs ss atoms atoms
adds_arena given rs ss atoms e h = record {
  arena = e;
  atoms = record { more = []; is = sym (append-nil atoms) };
  regexes = regexes_kept rs ss atoms e h;
  members = λ i a low h. absurd (none_behind atoms i a low h);
  earlier = earlier_none atoms;
  defined = nothing_new given atoms;
}

pub adds_none : (given : List Sort → Bool) (rs : List Regex) (atoms : List (AtomOver ℕ))
    → HaveRegexesBelow (length rs) atoms → Adds given rs rs atoms atoms
adds_none given rs atoms h = adds_arena given rs rs atoms (extends_same rs) h

-- A membership is, where it is new.

abbrev pub declare : List Piece → List Sort → Bool
declare ps sorts = list_all (is_declared_piece sorts) ps

pub adds_member : (rs : List Regex) (old new : List (AtomOver ℕ)) (ps : List Piece) (r : ℕ)
    → IsWith old new (in_atom ps r) → are_pieces ps ≡ true → r < length rs → HaveRegexesBelow (length rs) old
    → Adds (declare ps) rs rs old new
adds_member rs old new ps r (inl same) formed low h =
    subst (λ (atoms : List (AtomOver ℕ)). Adds (declare ps) rs rs old atoms) (sym same)
    (adds_none (declare ps) rs old h)
adds_member rs old new ps r (inr one) formed low h = record {
  arena = extends_same rs;
  atoms = record { more = in_atom ps r ∷ []; is = one };
  regexes = λ i a names. elim (there i a names) [
    | inl before ↦ h i a before
    | inr last ↦ subst (HasRegexBelow (length rs)) (sym last.1) low
  ];
  members = λ i a from names. elim (there i a names) [
    | inl before ↦ absurd (early i a from before)
    | inr last ↦ record { pieces = ps; regex = r; is = last.1 }
  ];
  earlier = λ i a from names ss. elim (there i a names) [
    | inl before ↦ absurd (early i a from before)
    | inr last ↦ subst (λ b. tables.names_below i (over ss b) ≡ true) (sym last.1) refl
  ];
  defined = λ i a from names. elim (there i a names) [
    | inl before ↦ absurd (early i a from before)
    | inr last ↦ (
      ap is_well_formed last.1 ∙ formed,
      λ sorts before given. ap (has_its_parts sorts before) last.1 ∙ given,
    )
  ];
}
  where
    there : (i : ℕ) (a : AtomOver ℕ) → Names new i a → (Names old i a) ⊎ ((i ≡ length old) × (a ≡ in_atom ps r))
    there i a names =
        get_push old (in_atom ps r) a i (subst (λ (atoms : List (AtomOver ℕ)). Names atoms i a) one names)

    early : (i : ℕ) (a : AtomOver ℕ) → length old ≤ i → Names old i a → ⊥
    early i a from names = omega (arith, from, slice_get_within old i a names)

-- One after the other.

defined_both : (given : List Sort → Bool) (old mid new : List (AtomOver ℕ)) → Extends mid new
    → AreDefined given old mid → AreDefined given mid new → AreDefined given old new
defined_both given old mid new e p q = λ i a low h. step i a low h (nat_lt i (length mid)) refl
  where
    step : (i : ℕ) (a : AtomOver ℕ) → length old ≤ i → Names new i a → (b : Bool) → nat_lt i (length mid) ≡ b
        → (is_well_formed a ≡ true)
        × ((sorts : List Sort) (before : List Atom) → given sorts ≡ true → has_its_parts sorts before a ≡ true)
    step i a low h true is =
        p i a low
        (named_before mid e.more i a (ltb-true i (length mid) is)
        (subst (λ (atoms : List (AtomOver ℕ)). Names atoms i a) e.is h))
    step i a low h false is = q i a (grind (arith, nat_tests)) h

members_both : (old mid new : List (AtomOver ℕ)) → Extends mid new → AreMemberships old mid → AreMemberships mid new
    → AreMemberships old new
members_both old mid new e p q = λ i a low h. step i a low h (nat_lt i (length mid)) refl
  where
    step : (i : ℕ) (a : AtomOver ℕ) → length old ≤ i → Names new i a → (b : Bool) → nat_lt i (length mid) ≡ b
        → IsMembership a
    step i a low h true is =
        p i a low
        (named_before mid e.more i a (ltb-true i (length mid) is)
        (subst (λ (atoms : List (AtomOver ℕ)). Names atoms i a) e.is h))
    step i a low h false is = q i a (grind (arith, nat_tests)) h

pub adds_both : (given : List Sort → Bool) (rs ss ts : List Regex) (old mid new : List (AtomOver ℕ))
    → Adds given rs ss old mid → Adds given ss ts mid new → Adds given rs ts old new
adds_both given rs ss ts old mid new p q = record {
  arena = extends_more rs ss ts p.arena q.arena;
  atoms = record {
    more = p.atoms.more ++ q.atoms.more;
    is = q.atoms.is ∙ ap (λ xs. xs ++ q.atoms.more) p.atoms.is ∙ append_assoc old p.atoms.more q.atoms.more;
  };
  regexes = q.regexes;
  members = members_both old mid new q.atoms p.members q.members;
  earlier = earlier_more (length old) mid new q.atoms p.earlier q.earlier;
  defined = defined_both given old mid new q.atoms p.defined q.defined;
}

-- what is given says more
pub adds_given : (given wider : List Sort → Bool) (rs ss : List Regex) (old new : List (AtomOver ℕ))
    → ((sorts : List Sort) → wider sorts ≡ true → given sorts ≡ true) → Adds given rs ss old new
    → Adds wider rs ss old new
adds_given given wider rs ss old new f h = record {
  arena = h.arena;
  atoms = h.atoms;
  regexes = h.regexes;
  members = h.members;
  earlier = h.earlier;
  defined = λ i a low names.
      let d = h.defined i a low names in (d.0, λ sorts before is. d.1 sorts before (f sorts is));
}

pub declares_one : (x : ℕ) (sorts : List Sort) → declares x sorts ≡ true → declare (constant_piece x ∷ []) sorts ≡ true
declares_one x sorts h = and_from (declares x sorts) true h refl

-- a membership of a constant, in an arena that grew
pub adds_path : (rs ss : List Regex) (old new : List (AtomOver ℕ)) (x : ℕ) → regex.Extends rs ss
    → HaveRegexesBelow (length rs) old → Adds (declare (constant_piece x ∷ [])) ss ss old new
    → Adds (declares x) rs ss old new
adds_path rs ss old new x e h added =
    adds_both (declares x) rs ss ss old old new (adds_arena (declares x) rs ss old e h)
    (adds_given (declare (constant_piece x ∷ [])) (declares x) ss ss old new (declares_one x) added)

-- what the atom of a number declares
pub at_declares : (atoms : List (AtomOver ℕ)) (i : ℕ) (ps : List Piece) (r : ℕ) → Names atoms i (in_atom ps r)
    → (sorts : List Sort) → declares_at atoms i sorts ≡ true → declare ps sorts ≡ true
at_declares atoms i ps r names sorts h =
    ap (has_its_parts sorts []) (sym (get_or_from_slice_get atoms i (in_atom ps r) (bool_atom 0) names)) ∙ h

-- what a constant in front of pieces declares, and what the pieces do
pub front_declares : (x : ℕ) (ps : List Piece) (sorts : List Sort) → declare (constant_piece x ∷ ps) sorts ≡ true
    → declares x sorts ≡ true
front_declares x ps sorts h = (and_parts (declares x sorts) (declare ps sorts) h).0

pub rest_declares : (x : ℕ) (ps : List Piece) (sorts : List Sort) → declare (constant_piece x ∷ ps) sorts ≡ true
    → declare ps sorts ≡ true
rest_declares x ps sorts h = (and_parts (declares x sorts) (declare ps sorts) h).1

-- the constant's path is added, and then the membership of the pieces behind it
pub adds_front : (rs ss : List Regex) (old new : List (AtomOver ℕ)) (x : ℕ) (ps : List Piece)
    → Adds (declares x) rs ss old new → Adds (declare (constant_piece x ∷ ps)) rs ss old new
adds_front rs ss old new x ps h =
    adds_given (declares x) (declare (constant_piece x ∷ ps)) rs ss old new (front_declares x ps) h

pub adds_split : (rs ss : List Regex) (old mid new : List (AtomOver ℕ)) (x : ℕ) (ps : List Piece)
    → Adds (declares x) rs ss old mid → Adds (declare ps) ss ss mid new
    → Adds (declare (constant_piece x ∷ ps)) rs ss old new
adds_split rs ss old mid new x ps p q =
    adds_both (declare (constant_piece x ∷ ps)) rs ss ss old mid new (adds_front rs ss old mid x ps p)
    (adds_given (declare ps) (declare (constant_piece x ∷ ps)) ss ss mid new (rest_declares x ps) q)
