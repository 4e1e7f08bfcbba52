-- The literals of terms of Boolean structure, by their shapes.
use Rattle.std.proofs.Common.{◌≡◌, ◌<◌, ◌≤◌, Bool, true, false, ◌&&◌, if◌then◌else◌, List, [], ◌∷◌, ◌++◌, length, map, Option, Some, None, option_map, option_and_then, refl, sym, ap, ◌∙◌, arith}
use Rattle.std.specs.List.{list_all}
use Rattle.std.proofs.lemmas.Bool.{and_parts, and_from, false≢true}
use Rattle.std.proofs.lemmas.Option.{same_Some}
use Rattle.sb_facts.proofs.CallerLemmas.{some-none}
use Rattle.sb_lit.specs.declared.clause.Lit.{Lit}
use Rattle.sb_meaning.specs.Terms.{Sort, boolean, integer, text, reglan, Term, Terms, constant, word, numeral, apply, parameter, no_terms, with_term, terms_in}
use Rattle.sb_meaning.specs.Terms as symbol
use Rattle.sb_meaning.specs.Sorts.{sort_of, is_same_sort}
use Rattle.sb_script.specs.Brought.{is_structure}
use Rattle.sb_script.specs.Fragment.{sort_of_first}
use Rattle.sb_script.specs.Pieces.{pieces_of}
use Rattle.sb_script.proofs.CallerLemmas.{same_sort}
use Rattle.sb_rulebook.specs.Atoms.{Atom}
use Rattle.sb_rulebook.specs.Parts.{together}
use Rattle.sb_rulebook.specs.Translation.{translation, arguments_of, negated, conjunction, equivalence, truth_equality, word_equality, number_equality, Argument, equality, of_neighbours, of_pairs, all_true, only_one, of_literals}
use Rattle.sb_rulebook.proofs.CallerLemmas.{argument, arguments_are}
use Rattle.sb_fragment.specs.declared.shape.Connective.{Connective}
use Rattle.sb_fragment.specs.declared.shape.Connective.TheVariants as connective
use Rattle.sb_fragment.specs.declared.shape.Shape.TheVariants as shape
use Rattle.sb_fragment.specs.Compared.{neighbours, pairs, compared}
use Rattle.sb_fragment.specs.Shapes.{IsApplied, IsComparison, IsConnected, IsShape, parts_of, truth_of, comparison_of}
use Rattle.sb_fragment.proofs.CallerLemmas.{structure_sort, compared_all, compared_map, map-map, map_same}
use Rattle.sb_atoms.specs.Connecting.{signed, connected}
use Rattle.sb_atoms.specs.Shapes.{literals_of, words_literal, connected_literal}
use Rattle.sb_atoms.proofs.ComparedPairs.{neighbours_of, pairs_of}
use Rattle.sb_atoms.proofs.TextFacts.{no_pieces}

literals_are : (atoms : List Atom) (terms : Terms)
    → map (λ (a : Argument). a.1) (arguments_of atoms terms) ≡ map (translation atoms) (terms_in terms)
literals_are atoms no_terms = refl
literals_are atoms (with_term t terms) = ap (λ os. translation atoms t ∷ os) (literals_are atoms terms)

of_literals_are : (atoms : List Atom) (make : List Lit → Option Lit) (terms : Terms)
    → of_literals make (arguments_of atoms terms) ≡ option_and_then make (literals_of atoms (terms_in terms))
of_literals_are atoms make terms = ap (λ os. option_and_then make (together os)) (literals_are atoms terms)

-- Connectives.

negated_then : (make : List Lit → Option Lit) (o : Option (List Lit))
    → negated (option_and_then make o) ≡ option_and_then (λ ls. negated (make ls)) o
negated_then make None = refl
negated_then make (Some ls) = refl

-- Comparisons.

-- what is compared, as arguments
translated_by : (distinct : Bool) (atoms : List Atom) (terms : Terms)
    → translation atoms (apply (comparison_of distinct) terms)
    ≡ all_true atoms (map (λ p. signed distinct (equality atoms (argument atoms p.0) (argument atoms p.1)))
    (compared distinct (terms_in terms)))
translated_by true atoms terms =
    ap (all_true atoms)
    (ap (of_pairs (λ a b. negated (equality atoms a b))) (arguments_are atoms terms)
    ∙ pairs_of (λ a b. negated (equality atoms a b)) (argument atoms) (terms_in terms))
translated_by false atoms terms =
    ap (all_true atoms)
    (ap (of_neighbours (equality atoms)) (arguments_are atoms terms)
    ∙ neighbours_of (equality atoms) (argument atoms) (terms_in terms))

-- Of Bool terms.

abbrev by_kind : Sort → List Atom → Argument → Argument → Option Lit
by_kind k atoms a b = elim k [
  | boolean ↦ truth_equality atoms a.1 b.1
  | integer ↦ number_equality atoms a.0 b.0
  | text ↦ word_equality atoms a.0 b.0
  | reglan ↦ None
]

pub equality_of_sort : (atoms : List Atom) (t u : Term) (k : Sort) → sort_of t ≡ k
    → equality atoms (argument atoms t) (argument atoms u) ≡ by_kind k atoms (argument atoms t) (argument atoms u)
equality_of_sort atoms t u k e = ap (λ s. by_kind s atoms (argument atoms t) (argument atoms u)) e

-- all have a literal
all_some : (os : List (Option Lit)) (ls : List Lit) → together os ≡ Some ls → os ≡ map Some ls
all_some [] ls h = ap (map Some) (same_Some [] ls h)
all_some (None ∷ os) ls h = absurd (some-none ls (sym h))
all_some (Some l ∷ os) ls h = step (together os) h (λ ms e. all_some os ms e) refl
  where
    step : (o : Option (List Lit)) → option_map (λ ms. l ∷ ms) o ≡ Some ls
        → ((ms : List Lit) → together os ≡ Some ms → os ≡ map Some ms) → together os ≡ o → Some l ∷ os ≡ map Some ls
    step None h rest e = absurd (some-none ls (sym h))
    step (Some ms) h rest e = ap (λ ps. Some l ∷ ps) (rest ms e) ∙ ap (map Some) (same_Some (l ∷ ms) ls h)

-- one has none
pub later_none : (l : Lit) (os : List (Option Lit)) → together (Some l ∷ os) ≡ None → together os ≡ None
later_none l os h = step (together os) refl h
  where
    step : (o : Option (List Lit)) → together os ≡ o → option_map (λ ms. l ∷ ms) o ≡ None → together os ≡ None
    step None e h = e
    step (Some ms) e h = absurd (some-none (l ∷ ms) h)

pub none_behind : (o : Option Lit) (os : List (Option Lit)) → together os ≡ None → together (o ∷ os) ≡ None
none_behind None os h = refl
none_behind (Some l) os h = ap (option_map (λ ms. l ∷ ms)) h

abbrev of_two : Bool → List Atom → Option Lit × Option Lit → Option Lit
of_two distinct atoms p = signed distinct (truth_equality atoms p.0 p.1)

first_none : (distinct : Bool) (atoms : List Atom) (o : Option Lit) → of_two distinct atoms (None, o) ≡ None
first_none true atoms o = refl
first_none false atoms o = refl

second_none : (distinct : Bool) (atoms : List Atom) (l : Lit) → of_two distinct atoms (Some l, None) ≡ None
second_none true atoms l = refl
second_none false atoms l = refl

pub front_none : (o : Option Lit) (os : List (Option Lit)) → o ≡ None → together (o ∷ os) ≡ None
front_none o os e = ap (λ p. together (p ∷ os)) e

neighbours_none : (distinct : Bool) (atoms : List Atom) (o p : Option Lit) (os : List (Option Lit))
    → together (o ∷ p ∷ os) ≡ None → together (map (of_two distinct atoms) (neighbours (o ∷ p ∷ os))) ≡ None
neighbours_none distinct atoms None p os h = front_none _ _ (first_none distinct atoms p)
neighbours_none distinct atoms (Some l) None os h = front_none _ _ (second_none distinct atoms l)
neighbours_none distinct atoms (Some l) (Some m) [] h =
    absurd (some-none (l ∷ m ∷ []) h)
neighbours_none distinct atoms (Some l) (Some m) (q ∷ os) h =
    none_behind _ (map (of_two distinct atoms) (neighbours (Some m ∷ q ∷ os)))
    (neighbours_none distinct atoms (Some m) q os (later_none l (Some m ∷ q ∷ os) h))

with_each_none : (distinct : Bool) (atoms : List Atom) (l : Lit) (os : List (Option Lit))
    (ps : List (Option Lit × Option Lit)) → together os ≡ None
    → together (map (of_two distinct atoms) (map (λ o. (Some l, o)) os ++ ps)) ≡ None
with_each_none distinct atoms l [] ps h = absurd (some-none [] h)
with_each_none distinct atoms l (None ∷ os) ps h = front_none _ _ (second_none distinct atoms l)
with_each_none distinct atoms l (Some m ∷ os) ps h =
    none_behind _ (map (of_two distinct atoms) (map (λ o. (Some l, o)) os ++ ps))
    (with_each_none distinct atoms l os ps (later_none m os h))

pairs_none : (distinct : Bool) (atoms : List Atom) (o p : Option Lit) (os : List (Option Lit))
    → together (o ∷ p ∷ os) ≡ None → together (map (of_two distinct atoms) (pairs (o ∷ p ∷ os))) ≡ None
pairs_none distinct atoms None p os h = front_none _ _ (first_none distinct atoms p)
pairs_none distinct atoms (Some l) p os h =
    with_each_none distinct atoms l (p ∷ os) (pairs (p ∷ os)) (later_none l (p ∷ os) h)

compared_none : (distinct : Bool) (atoms : List Atom) (o p : Option Lit) (os : List (Option Lit))
    → together (o ∷ p ∷ os) ≡ None
    → together (map (of_two distinct atoms) (compared distinct (o ∷ p ∷ os))) ≡ None
compared_none true atoms o p os h = pairs_none true atoms o p os h
compared_none false atoms o p os h = neighbours_none false atoms o p os h

compared_some : (distinct : Bool) (atoms : List Atom) (os : List (Option Lit)) (ls : List Lit) → together os ≡ Some ls
    → map (of_two distinct atoms) (compared distinct os)
    ≡ map (λ p. signed distinct (equivalence atoms p.0 p.1)) (compared distinct ls)
compared_some distinct atoms os ls h =
    ap (λ ps. map (of_two distinct atoms) (compared distinct ps)) (all_some os ls h)
    ∙ ap (map (of_two distinct atoms)) (compared_map Some distinct ls)
    ∙ map-map (of_two distinct atoms) (λ p. (Some p.0, Some p.1)) (compared distinct ls)

truths_compared : (distinct : Bool) (atoms : List Atom) (o p : Option Lit) (os : List (Option Lit))
    → all_true atoms (map (of_two distinct atoms) (compared distinct (o ∷ p ∷ os)))
    ≡ option_and_then (connected (connective.Compare distinct) atoms) (together (o ∷ p ∷ os))
truths_compared distinct atoms o p os = step (together (o ∷ p ∷ os)) refl
  where
    step : (found : Option (List Lit)) → together (o ∷ p ∷ os) ≡ found
        → all_true atoms (map (of_two distinct atoms) (compared distinct (o ∷ p ∷ os)))
        ≡ option_and_then (connected (connective.Compare distinct) atoms) found
    step None e = ap (option_and_then (conjunction atoms)) (compared_none distinct atoms o p os e)
    step (Some ls) e = ap (all_true atoms) (compared_some distinct atoms (o ∷ p ∷ os) ls e)

-- By shapes.

pub always_translated : (t : Term) (truth : Bool) → IsApplied t (truth_of truth) → (atoms : List Atom)
    → translation atoms t ≡ (if truth then conjunction atoms [] else negated (conjunction atoms []))
always_translated t true h atoms = ap (translation atoms) h.is
always_translated t false h atoms = ap (translation atoms) h.is

none_compared : {X : Type 0} (distinct : Bool) (xs : List X) → length xs < 2 → compared distinct xs ≡ []
none_compared true [] few = refl
none_compared true (x ∷ []) few = refl
none_compared false [] few = refl
none_compared false (x ∷ []) few = refl
none_compared distinct (x ∷ y ∷ xs) few = absurd (omega (arith, few))

pub alone_translated : (t : Term) → IsShape t shape.Alone → (atoms : List Atom)
    → translation atoms t ≡ conjunction atoms []
alone_translated t h atoms =
    ap (translation atoms) h.1.is
    ∙ translated_by h.0 atoms h.1.terms
    ∙ ap (λ ps. all_true atoms (map (λ p. signed h.0 (equality atoms (argument atoms p.0) (argument atoms p.1))) ps))
    (none_compared h.0 (terms_in h.1.terms) few)
  where
    few : length (terms_in h.1.terms) < 2
    few = rw h.1.is at h.2

truths_translated : (distinct : Bool) (terms : Terms) → 2 ≤ length (terms_in terms)
    → list_all is_structure (terms_in terms) ≡ true → (atoms : List Atom)
    → translation atoms (apply (comparison_of distinct) terms)
    ≡ connected_literal atoms (connective.Compare distinct) (terms_in terms)
truths_translated distinct no_terms some all atoms = absurd (omega (arith, some))
truths_translated distinct (with_term t no_terms) some all atoms = absurd (omega (arith, some))
truths_translated distinct (with_term t (with_term u terms)) some all atoms =
    let ts = terms_in terms in
    translated_by distinct atoms (with_term t (with_term u terms))
    ∙ ap (all_true atoms) (map_same (λ (p : Term × Term). is_structure p.0 && is_structure p.1)
    (λ p. signed distinct (equality atoms (argument atoms p.0) (argument atoms p.1)))
    (λ p. of_two distinct atoms (translation atoms p.0, translation atoms p.1)) (compared distinct (t ∷ u ∷ ts))
    (compared_all is_structure distinct (t ∷ u ∷ ts) all)
    (λ p h. ap (signed distinct) (equality_of_sort atoms p.0 p.1 boolean
    (structure_sort p.0 (and_parts (is_structure p.0) (is_structure p.1) h).0)))
    ∙ sym (ap (map (of_two distinct atoms)) (compared_map (translation atoms) distinct (t ∷ u ∷ ts))
    ∙ map-map (of_two distinct atoms) (λ p. (translation atoms p.0, translation atoms p.1))
    (compared distinct (t ∷ u ∷ ts))))
    ∙ truths_compared distinct atoms (translation atoms t) (translation atoms u) (map (translation atoms) ts)

pub connected_translated : (t : Term) (c : Connective) → IsConnected t c
    → list_all is_structure (parts_of t) ≡ true → (atoms : List Atom)
    → translation atoms t ≡ connected_literal atoms c (parts_of t)
connected_translated t connective.Not h all atoms =
    rw h.is (ap negated (of_literals_are atoms only_one h.terms)
    ∙ negated_then only_one (literals_of atoms (terms_in h.terms)))
connected_translated t connective.And h all atoms = rw h.is (of_literals_are atoms _ h.terms)
connected_translated t connective.Or h all atoms = rw h.is (of_literals_are atoms _ h.terms)
connected_translated t connective.Implies h all atoms = rw h.is (of_literals_are atoms _ h.terms)
connected_translated t connective.Xor h all atoms = rw h.is (of_literals_are atoms _ h.terms)
connected_translated t connective.Ite h all atoms = rw h.is (of_literals_are atoms _ h.terms)
connected_translated t (connective.Compare distinct) h all atoms =
    rw h.0.is (truths_translated distinct h.0.terms (rw h.0.is at h.1) (rw h.0.is at all) atoms)

-- Of String terms.

abbrev is_string : Term → Bool
is_string t = is_same_sort text (sort_of t)

other_pieces : (t : Term) → is_string t ≡ false → pieces_of t ≡ None
other_pieces (constant serial text) h = absurd (false≢true (sym h))
other_pieces (constant serial boolean) h = refl
other_pieces (constant serial integer) h = refl
other_pieces (constant serial reglan) h = refl
other_pieces (word w) h = absurd (false≢true (sym h))
other_pieces (numeral n) h = refl
other_pieces (parameter place sort) h = refl
other_pieces (apply symbol.str_concat terms) h = absurd (false≢true (sym h))
other_pieces (apply _ terms) h = refl

pub signed_none : (distinct : Bool) → signed distinct None ≡ None
signed_none true = refl
signed_none false = refl

-- the literal of an equality of String terms, and of one of terms by their sort
abbrev of_words : Bool → List Atom → Term × Term → Option Lit
of_words distinct atoms p = signed distinct (word_equality atoms p.0 p.1)

abbrev of_terms : Bool → List Atom → Term × Term → Option Lit
of_terms distinct atoms p = signed distinct (equality atoms (argument atoms p.0) (argument atoms p.1))

same_words : (distinct : Bool) (atoms : List Atom) (t u : Term) → is_string t ≡ true
    → of_terms distinct atoms (t, u) ≡ of_words distinct atoms (t, u)
same_words distinct atoms t u h =
    ap (signed distinct) (equality_of_sort atoms t u text (same_sort text (sort_of t) h))

-- with a term of another sort there is none
abbrev HasNone : (Term × Term → Option Lit) → Type 0
HasNone make = (t u : Term) → is_string t ≡ true → is_string u ≡ false → make (t, u) ≡ None

words_none : (distinct : Bool) (atoms : List Atom) → HasNone (of_words distinct atoms)
words_none distinct atoms t u h other =
    ap (signed distinct) (no_pieces atoms t u (other_pieces u other)) ∙ signed_none distinct

terms_none : (distinct : Bool) (atoms : List Atom) → HasNone (of_terms distinct atoms)
terms_none distinct atoms t u h other = same_words distinct atoms t u h ∙ words_none distinct atoms t u h other

neighbours_other : (make : Term × Term → Option Lit) → HasNone make → (t : Term) (ts : List Term)
    → is_string t ≡ true → list_all is_string ts ≡ false → together (map make (neighbours (t ∷ ts))) ≡ None
neighbours_other make none t [] h other = absurd (false≢true (sym other))
neighbours_other make none t (u ∷ ts) h other =
    step (is_string u) refl (λ is rest. neighbours_other make none u ts is rest)
  where
    step : (b : Bool) → is_string u ≡ b
        → (is_string u ≡ true → list_all is_string ts ≡ false → together (map make (neighbours (u ∷ ts))) ≡ None)
        → together (map make (neighbours (t ∷ u ∷ ts))) ≡ None
    step true is rest =
        none_behind (make (t, u)) (map make (neighbours (u ∷ ts)))
        (rest is (sym (ap (λ b. b && list_all is_string ts) is) ∙ other))
    step false is rest = front_none (make (t, u)) (map make (neighbours (u ∷ ts))) (none t u h is)

with_each_other : (make : Term × Term → Option Lit) → HasNone make → (t : Term) (ts : List Term)
    (ps : List (Term × Term)) → is_string t ≡ true → list_all is_string ts ≡ false
    → together (map make (map (λ u. (t, u)) ts ++ ps)) ≡ None
with_each_other make none t [] ps h other = absurd (false≢true (sym other))
with_each_other make none t (u ∷ ts) ps h other =
    step (is_string u) refl (λ rest. with_each_other make none t ts ps h rest)
  where
    step : (b : Bool) → is_string u ≡ b
        → (list_all is_string ts ≡ false → together (map make (map (λ w. (t, w)) ts ++ ps)) ≡ None)
        → together (map make (map (λ w. (t, w)) (u ∷ ts) ++ ps)) ≡ None
    step true is rest =
        none_behind (make (t, u)) (map make (map (λ w. (t, w)) ts ++ ps))
        (rest (sym (ap (λ b. b && list_all is_string ts) is) ∙ other))
    step false is rest = front_none (make (t, u)) (map make (map (λ w. (t, w)) ts ++ ps)) (none t u h is)

compared_other : (distinct : Bool) (make : Term × Term → Option Lit) → HasNone make → (t : Term) (ts : List Term)
    → is_string t ≡ true → list_all is_string ts ≡ false → together (map make (compared distinct (t ∷ ts))) ≡ None
compared_other true make none t ts h other = with_each_other make none t ts (pairs ts) h other
compared_other false make none t ts h other = neighbours_other make none t ts h other

-- where the first is a String, all are compared as Strings
words_same : (distinct : Bool) (atoms : List Atom) (ts : List Term) → sort_of_first ts ≡ text
    → together (map (of_terms distinct atoms) (compared distinct ts))
    ≡ together (map (of_words distinct atoms) (compared distinct ts))
words_same distinct atoms [] e = absurd (Prim.cc (e))
words_same distinct atoms (t ∷ ts) e = step (list_all is_string ts) refl
  where
    h : is_string t ≡ true
    h = ap (is_same_sort text) e

    step : (b : Bool) → list_all is_string ts ≡ b
        → together (map (of_terms distinct atoms) (compared distinct (t ∷ ts)))
        ≡ together (map (of_words distinct atoms) (compared distinct (t ∷ ts)))
    step true all =
        ap together (map_same (λ (p : Term × Term). is_string p.0 && is_string p.1) (of_terms distinct atoms)
        (of_words distinct atoms) (compared distinct (t ∷ ts))
        (compared_all is_string distinct (t ∷ ts) (and_from (is_string t) (list_all is_string ts) h all))
        (λ p both. same_words distinct atoms p.0 p.1 (and_parts (is_string p.0) (is_string p.1) both).0))
    step false other =
        compared_other distinct (of_terms distinct atoms) (terms_none distinct atoms) t ts h other
        ∙ sym (compared_other distinct (of_words distinct atoms) (words_none distinct atoms) t ts h other)

pub words_translated : (t : Term) (distinct : Bool) → IsComparison t distinct text → (atoms : List Atom)
    → translation atoms t ≡ words_literal atoms distinct (parts_of t)
words_translated t distinct h atoms = rw h.is (step h.terms h.first)
  where
    step : (terms : Terms) → sort_of_first (terms_in terms) ≡ text
        → translation atoms (apply (comparison_of distinct) terms)
        ≡ words_literal atoms distinct (terms_in terms)
    step terms first =
        translated_by distinct atoms terms
        ∙ ap (option_and_then (conjunction atoms)) (words_same distinct atoms (terms_in terms) first)
