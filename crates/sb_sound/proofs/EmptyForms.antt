-- Which clauses are by rule empty.
use Rattle.std.proofs.Common.{◌≡◌, ◌≢◌, ℕ, Bool, true, false, ◌==◌, if◌then◌else◌, List, [], ◌∷◌, map, slice_get, Option, Some, None, option_map, refl, sym, ap, subst, ◌∙◌}
use Rattle.std.specs.List.{list_all}
use Rattle.std.proofs.lemmas.Bool.{and_parts, and_from, false≢true, eqb-true, eq-eqb}
use Rattle.sb_lit.specs.declared.clause.Lit.{Lit}
use Rattle.sb_lang.specs.Regex.{Regex}
use Rattle.sb_lang.specs.Order.{regex_eq}
use Rattle.sb_lang.specs.OrderLaws.{OrderTellsApart}
use Rattle.sb_lang.specs.Constructors.{mkand, mknot}
use Rattle.sb_rulebook.specs.Atoms.{Atom, in_atom}
use Rattle.sb_rulebook.specs.Gates.{atom_of}
use Rattle.sb_rulebook.specs.Kept.{AllKept}
use Rattle.sb_rulebook.specs.Parts.{together}
use Rattle.sb_rulebook.specs.Splits.{denied, is_dead_regex, have_no_word, is_empty}
use Rattle.sb_rulebook.proofs.CallerLemmas.{same_regex, regex_itself}
use Rattle.sb_script.specs.Pieces.{constant_piece}
use Rattle.sb_sound.specs.MembershipLaws.{IsDeniedIn, AreDeniedIn, IsEmpty, EmptyIsExact}
use Rattle.sb_sound.proofs.ByNumber.{find_beside, any_beside}
use Rattle.sb_sound.proofs.DeadFacts.{together-parts}
use Rattle.sb_sound.proofs.MembershipFacts.{seen_denied}

-- what the literals deny
abbrev denials : List Atom → List Lit → List (Option (ℕ × Regex))
denials atoms clause = map (λ l. denied l.positive (atom_of atoms l)) clause

-- From the test.

denied_in : (atoms : List Atom) (x : ℕ) (l : Lit) (m : ℕ × Regex) → denied l.positive (atom_of atoms l) ≡ Some m
    → m.0 ≡ x → IsDeniedIn atoms x l m.1
denied_in atoms x l m h same =
    let d = seen_denied l.positive (atom_of atoms l) m h in
    record {
      regex = d.regex;
      there = d.there ∙ ap (λ n. Some (in_atom (constant_piece n ∷ []) d.regex)) same;
      is = d.is;
    }

all_denied : (atoms : List Atom) (x : ℕ) (clause : List Lit) (ms : List (ℕ × Regex))
    → together (denials atoms clause) ≡ Some ms → list_all (λ n. n.0 == x) ms ≡ true
    → AreDeniedIn atoms x clause (map (λ n. n.1) ms)
all_denied atoms x [] ms h same =
    let none : [] ≡ ms = Prim.cc (h) in
    subst (λ (ms : List (ℕ × Regex)). AreDeniedIn atoms x [] (map (λ n. n.1) ms)) none tt
all_denied atoms x (l ∷ ls) ms h same =
    let parts = together-parts (denied l.positive (atom_of atoms l)) (denials atoms ls) ms h in
    let both = and_parts (parts.first.0 == x) (list_all (λ n. n.0 == x) parts.others)
    (ap (list_all (λ n. n.0 == x)) parts.whole ∙ same) in
    subst (λ (ms : List (ℕ × Regex)). AreDeniedIn atoms x (l ∷ ls) (map (λ n. n.1) ms)) parts.whole (
      denied_in atoms x l parts.first parts.is (eqb-true parts.first.0 x both.0),
      all_denied atoms x ls parts.others parts.rest both.1,
    )

module _ (apart : OrderTellsApart) (kept : AllKept) (clause : List Lit) where
  empty_of : (ms : List (ℕ × Regex)) → clause ≢ [] → together (denials kept.atoms clause) ≡ Some ms
      → have_no_word kept ms ≡ true → IsEmpty kept clause
  empty_of [] some are h = absurd (false≢true h)
  empty_of (m ∷ ms) some are h =
      let rs = map (λ n. n.1) (m ∷ ms) in
      let parts = and_parts (list_all (λ n. n.0 == m.0) ms) (is_dead_regex kept (mkand rs)) h in
      let f = find_beside (regex_eq (mkand rs)) kept.regexes kept.dead parts.1 in
      record {
        some = some;
        constant = m.0;
        regexes = rs;
        denied =
            all_denied kept.atoms m.0 clause (m ∷ ms) are
            (and_from (m.0 == m.0) (list_all (λ n. n.0 == m.0) ms) (eq-eqb m.0 m.0 refl) parts.0);
        place = f.number;
        defined = f.there ∙ ap Some (sym (same_regex apart (mkand rs) f.element f.passes));
        dead = f.is_marked;
      }

  empty_form : is_empty kept clause ≡ true → IsEmpty kept clause
  empty_form h = by (together (denials kept.atoms clause)) refl h
    where
      no_literal : (ms : List (ℕ × Regex)) → together (denials kept.atoms clause) ≡ Some ms
          → have_no_word kept ms ≡ true → clause ≢ []
      no_literal ms are h = λ e.
          let none : Some [] ≡ Some ms = sym (ap (λ ls. together (denials kept.atoms ls)) e) ∙ are in
          let nil : [] ≡ ms = Prim.cc (none) in
          false≢true (ap (have_no_word kept) nil ∙ h)

      by : (o : Option (List (ℕ × Regex))) → together (denials kept.atoms clause) ≡ o
          → elim o as (λ _. Bool) [ None ↦ false | Some ms ↦ have_no_word kept ms ] ≡ true → IsEmpty kept clause
      by None are h = absurd (false≢true h)
      by (Some ms) are h = empty_of ms (no_literal ms are h) are h

-- To the test.

-- the regexes, each with the constant
abbrev with_constant : ℕ → List Regex → List (ℕ × Regex)
with_constant x rs = map (λ r. (x, r)) rs

denied_of : (atoms : List Atom) (x : ℕ) (l : Lit) (r : Regex) → IsDeniedIn atoms x l r
    → denied l.positive (atom_of atoms l) ≡ Some (x, r)
denied_of atoms x l r d = ap (denied l.positive) d.there ∙ step l.positive ∙ ap (λ s. Some (x, s)) (sym d.is)
  where
    step : (s : Bool) → denied s (Some (in_atom (constant_piece x ∷ []) d.regex))
        ≡ Some (x, (if s then mknot d.regex else d.regex))
    step true = refl
    step false = refl

together_of : (atoms : List Atom) (x : ℕ) (clause : List Lit) (rs : List Regex) → AreDeniedIn atoms x clause rs
    → together (denials atoms clause) ≡ Some (with_constant x rs)
together_of atoms x [] [] all = refl
together_of atoms x [] (r ∷ rs) all = absurd all
together_of atoms x (l ∷ ls) [] all = absurd all
together_of atoms x (l ∷ ls) (r ∷ rs) all =
    ap (λ o. together (o ∷ denials atoms ls)) (denied_of atoms x l r all.0)
    ∙ ap (option_map (λ others. (x, r) ∷ others)) (together_of atoms x ls rs all.1)

one_constant : (x : ℕ) (rs : List Regex) → list_all (λ (n : ℕ × Regex). n.0 == x) (with_constant x rs) ≡ true
one_constant x [] = refl
one_constant x (r ∷ rs) =
    and_from (x == x) (list_all (λ (n : ℕ × Regex). n.0 == x) (with_constant x rs)) (eq-eqb x x refl)
    (one_constant x rs)

their_regexes : (x : ℕ) (rs : List Regex) → map (λ (n : ℕ × Regex). n.1) (with_constant x rs) ≡ rs
their_regexes x [] = refl
their_regexes x (r ∷ rs) = ap (λ ss. r ∷ ss) (their_regexes x rs)

no_word_of : OrderTellsApart → (kept : AllKept) (x : ℕ) (clause : List Lit) (rs : List Regex) (place : ℕ)
    → clause ≢ [] → AreDeniedIn kept.atoms x clause rs → slice_get kept.regexes place ≡ Some (mkand rs)
    → slice_get kept.dead place ≡ Some true → have_no_word kept (with_constant x rs) ≡ true
no_word_of apart kept x [] rs place some all defined dead = absurd (some refl)
no_word_of apart kept x (l ∷ ls) [] place some all defined dead = absurd all
no_word_of apart kept x (l ∷ ls) (r ∷ rs) place some all defined dead =
    and_from (list_all (λ (n : ℕ × Regex). n.0 == x) (with_constant x rs)) _ (one_constant x rs)
    (ap (λ ss. is_dead_regex kept (mkand ss)) (their_regexes x (r ∷ rs))
    ∙ any_beside (regex_eq (mkand (r ∷ rs))) kept.regexes kept.dead place (mkand (r ∷ rs)) defined dead
    (regex_itself apart (mkand (r ∷ rs))))

from_empty : OrderTellsApart → (kept : AllKept) (clause : List Lit) → IsEmpty kept clause → is_empty kept clause ≡ true
from_empty apart kept clause e =
    ap (λ o. elim o as (λ _. Bool) [ None ↦ false | Some ms ↦ have_no_word kept ms ])
    (together_of kept.atoms e.constant clause e.regexes e.denied)
    ∙ no_word_of apart kept e.constant clause e.regexes e.place e.some e.denied e.defined e.dead

pub empty_exact : OrderTellsApart → EmptyIsExact
empty_exact apart kept clause = (empty_form apart kept clause, from_empty apart kept clause)
