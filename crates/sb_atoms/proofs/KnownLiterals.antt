-- Literals that are known of terms by their numbers, over an arena and a table of atoms that grow.
use Rattle.std.proofs.Common.{◌≡◌, ℕ, Bool, true, false, List, [], ◌∷◌, length, map, Option, Some, None, IfSome, MatchOption, Vec, Global, option_map, refl, sym, ap, subst, ◌∙◌}
use Rattle.std.proofs.lemmas.Bool.{and_from}
use Rattle.std.proofs.lemmas.Option.{same_Some}
use Rattle.sb_facts.proofs.CallerLemmas.{some-none, after_map}
use Rattle.sb_lang.specs.Regex.{Regex}
use Rattle.sb_lit.specs.declared.clause.Lit.{Lit}
use Rattle.sb_meaning.specs.Terms.{Sort, Term}
use Rattle.sb_rulebook.specs.Atoms.{Atom, AtomOver}
use Rattle.sb_rulebook.specs.Parts.{together}
use Rattle.sb_rulebook.specs.Translation.{translation}
use Rattle.sb_term.specs.Numbered.{term_at, terms_at}
use Rattle.sb_fragment.specs.declared.shape.Connective.{Connective}
use Rattle.sb_atoms.specs.Numbered.{atoms_in, HaveRegexesBelow}
use Rattle.sb_atoms.specs.Connecting.{connected}
use Rattle.sb_atoms.specs.Growing.{is_below, are_below, GrownByGates, GivesLike, Finds, Moves}
use Rattle.sb_atoms.specs.Shapes.{literals_of, connected_literal}
use Rattle.sb_atoms.specs.Truths.{AllOf}
use Rattle.sb_term.specs.Descending.{known_at, AreKnown}
use Rattle.sb_atoms.proofs.CallerLemmas.{atoms_kept}
use Rattle.sb_atoms.proofs.Connected.{below_more}
use Rattle.sb_atoms.proofs.Found.{part_stays, then_made, then_none}
use Rattle.sb_atoms.proofs.Growth.{grown_longer, grown_still, moved}
use Rattle.sb_atoms.proofs.Structured.{front_none, none_behind, later_none}

-- What was found stays.

still_none : {adds : Bool} (given : List Sort → Bool) (make : List Atom → Option Lit) (rs ss : List Regex)
    (old new : List (AtomOver ℕ)) (b : Bool) → adds ≡ b → HaveRegexesBelow (length rs) old
    → Moves adds given rs ss old new → Finds is_below adds rs old make None → None ≡ make (atoms_in ss new)
still_none given make rs ss old new true on below m h = sym (h.none on refl (atoms_in ss new))
still_none given make rs ss old new false off below m h =
    let g = subst (λ a. Moves a given rs ss old new) off m in
    h.is
    ∙ ap make (sym (atoms_kept rs ss old m.arena below))
    ∙ sym (ap (λ atoms. make (atoms_in ss atoms)) (grown_still (length ss) given old new g.atoms))

pub finds_moved : (adds : Bool) (given : List Sort → Bool) (rs ss : List Regex) (old new : List (AtomOver ℕ))
    (t : Term) (found : Option Lit) → HaveRegexesBelow (length rs) old → Moves adds given rs ss old new
    → Finds is_below adds rs old (λ atoms. translation atoms t) found
    → Finds is_below adds ss new (λ atoms. translation atoms t) found
finds_moved adds given rs ss old new t None below m h = record {
  is = still_none given (λ atoms. translation atoms t) rs ss old new adds refl below m h;
  none = h.none;
  below = λ l e. absurd (some-none l (sym e));
}
finds_moved adds given rs ss old new t (Some l) below m h = record {
  is = moved l rs ss old new (part_stays t) below m h.is;
  none = λ on e. absurd (some-none l e);
  below = λ k e. below_more (length old) (length new) k (grown_longer old new m.atoms) (h.below k e);
}

pub known_moved : (adds : Bool) (given : List Sort → Bool) (rs ss : List Regex) (old new : List (AtomOver ℕ))
    (ts : List Term) (known : List (ℕ × Option Lit)) (is : List ℕ) → HaveRegexesBelow (length rs) old
    → Moves adds given rs ss old new
    → AreKnown None (λ i found. Finds is_below adds rs old (λ atoms. translation atoms (term_at ts i)) found) known is
    → AreKnown None (λ i found. Finds is_below adds ss new (λ atoms. translation atoms (term_at ts i)) found) known is
known_moved adds given rs ss old new ts known is below m h =
    λ i there. finds_moved adds given rs ss old new (term_at ts i) (known_at None known i) below m (h i there)

-- What is found of all arguments.

finds_with : (adds : Bool) (rs : List Regex) (new : List (AtomOver ℕ)) (make : List Atom → Option Lit)
    (rest : List Atom → List (Option Lit)) (o : Option Lit) (os : List (Option Lit))
    → Finds is_below adds rs new make o → Finds are_below adds rs new (λ atoms. together (rest atoms)) (together os)
    → Finds are_below adds rs new (λ atoms. together (make atoms ∷ rest atoms)) (together (o ∷ os))
finds_with adds rs new make rest None os g h = record {
  is = sym (front_none (make (atoms_in rs new)) (rest (atoms_in rs new)) (sym g.is));
  none = λ on e atoms. front_none (make atoms) (rest atoms) (g.none on refl atoms);
  below = λ ls e. absurd (some-none ls (sym e));
}
finds_with adds rs new make rest (Some l) os g h = record {
  is = sym (ap (λ p. together (p ∷ rest (atoms_in rs new))) (sym g.is)
      ∙ ap (option_map (λ ms. l ∷ ms)) (sym h.is));
  none = λ on e atoms. none_behind (make atoms) (rest atoms) (h.none on (later_none l os e) atoms);
  below = λ ls e. after_map (λ ms. l ∷ ms) (together os) ls e (λ ms is same.
      subst (λ ks. are_below (length new) ks ≡ true) same
      (and_from (is_below (length new) l) (are_below (length new) ms) (g.below l refl) (h.below ms is)));
}

pub finds_all : (adds : Bool) (rs : List Regex) (new : List (AtomOver ℕ)) (ts : List Term) (f : ℕ → Option Lit)
    (is : List ℕ) → AllOf (λ i. Finds is_below adds rs new (λ atoms. translation atoms (term_at ts i)) (f i)) is
    → Finds are_below adds rs new (λ atoms. literals_of atoms (terms_at ts is)) (together (map f is))
finds_all adds rs new ts f [] h = record {
  is = refl;
  none = λ on e. absurd (some-none [] e);
  below = λ ls e. ap (are_below (length new)) (sym (same_Some [] ls e));
}
finds_all adds rs new ts f (i ∷ is) h =
    finds_with adds rs new (λ atoms. translation atoms (term_at ts i))
    (λ atoms. map (translation atoms) (terms_at ts is)) (f i) (map f is) h.0 (finds_all adds rs new ts f is h.1)

pub parts_found : (adds : Bool) (rs : List Regex) (new : List (AtomOver ℕ)) (ts us : List Term) (f : ℕ → Option Lit)
    (is : List ℕ) (found : Option (Vec Lit Global)) → terms_at ts is ≡ us
    → AllOf (λ i. Finds is_below adds rs new (λ atoms. translation atoms (term_at ts i)) (f i)) is
    → option_map (λ v. v.items) found ≡ together (map f is)
    → Finds are_below adds rs new (λ atoms. literals_of atoms us) (option_map (λ v. v.items) found)
parts_found adds rs new ts us f is found same h e =
    subst (λ vs. Finds are_below adds rs new (λ atoms. literals_of atoms vs) (option_map (λ v. v.items) found)) same
    (subst (λ o. Finds are_below adds rs new (λ atoms. literals_of atoms (terms_at ts is)) o) (sym e)
    (finds_all adds rs new ts f is h))

pub parts_below : (adds : Bool) (rs : List Regex) (new : List (AtomOver ℕ)) (make : List Atom → Option (List Lit))
    (found : Option (Vec Lit Global)) → Finds are_below adds rs new make (option_map (λ v. v.items) found)
    → IfSome found (λ v. are_below (length new) v.items ≡ true)
parts_below adds rs new make None h = tt
parts_below adds rs new make (Some v) h = h.below v.items refl

-- What is made of them.

pub connection_finds : (adds : Bool) (rs : List Regex) (old new : List (AtomOver ℕ)) (us : List Term)
    (c : Connective) (literals : Option (Vec Lit Global)) (found : Option Lit)
    → Finds are_below adds rs old (λ atoms. literals_of atoms us) (option_map (λ v. v.items) literals)
    → GrownByGates adds old new
    → MatchOption literals ((found ≡ None) × (new ≡ old)) (λ v. GivesLike adds new (connected c) v.items found)
    → Finds is_below adds rs new (λ atoms. connected_literal atoms c us) found
connection_finds adds rs old new us c None found h grows made =
    subst (λ o. Finds is_below adds rs new (λ atoms. connected_literal atoms c us) o) (sym made.0)
    (subst (λ atoms. Finds is_below adds rs atoms (λ atoms. connected_literal atoms c us) None) (sym made.1)
    (then_none translation (connected c) adds rs old us None refl h))
connection_finds adds rs old new us c (Some v) found h grows made =
    then_made translation part_stays (connected c) adds rs old new us v.items (Some v.items) found refl h grows made
