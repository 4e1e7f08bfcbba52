-- What is known of assertions, one after the other, and as the state grows.
use Rattle.std.proofs.Common.{◌≡◌, ℕ, zero, suc, ◌+◌, ◌<◌, ◌≤◌, Bool, true, false, ◌&&◌, List, [], ◌∷◌, ◌++◌, length, map, take, get_or, refl, sym, ap, ap₂, subst, ◌∙◌, arith, Some, None, slice_get}
use Rattle.std.specs.List.{All, list_all}
use Rattle.std.proofs.lemmas.Bool.{false≢true}
use Rattle.std.proofs.lemmas.List.{take_more, take_all, take-map, take-append-le, map-append, length-map}
use Rattle.std.proofs.lemmas.List.Elements.{All-take}
use Rattle.sb_meaning.specs.Terms.{Term}
use Rattle.sb_meaning.specs.Values.{Valuation}
use Rattle.sb_meaning.specs.Truth.{holds}
use Rattle.sb_script.specs.State.{Assertion, asserted, a_mark}
use Rattle.sb_script.specs.Brought.{is_structure}
use Rattle.sb_script.specs.Fragment.{in_fragment, fits, is_decided}
use Rattle.sb_term.specs.declared.assertion.Assertion as code
use Rattle.sb_term.specs.Numbered.{term_at, Extends}
use Rattle.sb_fragment.specs.declared.keeper.Fragment.{Fragment}
use Rattle.sb_fragment.specs.Inside.{AreInside}
use Rattle.sb_fragment.specs.Rules.{FragmentIsOfEach}
use Rattle.sb_fragment.proofs.CallerLemmas.{inside_none, inside_all, inside_stays, inside_left, assertions_kept, front_of_front}
use Rattle.sb_atoms.specs.Given.{GivesValues}
use Rattle.sb_stack.specs.Stacked.{Stacked, state_of, assertion_in, assertion_of, HasNumberBelow, IsLonger}
use Rattle.sb_models.specs.declared.models.Models.{Models}
use Rattle.sb_stack.proofs.CallerLemmas.{live_laid}
use Rattle.sb_models.specs.Knowing.{Knows, GiveAll, AreTrueBy, is_true_under, assertions_of, word_at, AreEmptyBut}
use Rattle.sb_models.specs.Tried.{IsOfSame, MayPass}
use Rattle.sb_models.proofs.Passing.{all_at, decided_structure, decided_fits}

and_false : (b : Bool) → (b && false) ≡ false
and_false true = refl
and_false false = refl

-- one assertion for which the test fails
pub one_fails : (test : Assertion → Bool) (ts : List Term) (xs : List code.Assertion) (i : ℕ) (x : code.Assertion)
    → i < length xs → x ≡ get_or xs i x → test (assertion_in ts x) ≡ false →
    list_all test (map (assertion_in ts) xs) ≡ false
one_fails test ts [] i x low is h = absurd (omega arith)
one_fails test ts (y ∷ xs) zero x low is h = rw (← is) (rw h refl)
one_fails test ts (y ∷ xs) (suc i) x low is h =
    ap (λ b. test (assertion_in ts y) && b) (one_fails test ts xs i x (omega arith) is h)
    ∙ and_false (test (assertion_in ts y))

pub there : (ts : List Term) (xs : List code.Assertion) (i : ℕ) (x : code.Assertion) → i < length xs
    → x ≡ get_or xs i x → slice_get (map (assertion_in ts) xs) i ≡ Some (assertion_in ts x)
there ts [] i x low is = absurd (omega arith)
there ts (y ∷ xs) zero x low is = ap (λ z. Some (assertion_in ts z)) (sym is)
there ts (y ∷ xs) (suc i) x low is = there ts xs i x (omega arith) is

-- Nothing is known.
pub knows_none : (m : Models) (stack : Stacked) → m.fragment.inside ≡ 0 → m.held ≡ 0 → m.words.items ≡ []
    → Knows m stack
knows_none m stack inside held words = record {
  inside = inside_none m.fragment.inside stack.table stack.assertions inside;
  held_front = omega (arith, inside, held);
  held = rw held tt;
  empty = λ serial h. ap (λ ws. word_at ws serial) words;
}

-- more of them are decided ones
pub knows_more : (m : Models) (f : Fragment) (stack : Stacked) (ts : List Term) (xs : List code.Assertion)
    → ts ≡ stack.table → xs ≡ stack.assertions → AreInside f.inside ts xs → m.fragment.inside ≤ f.inside
    → Knows m stack → Knows (record m { fragment = f }) stack
knows_more m f stack ts xs table assertions inside more k = record {
  inside = rw (table, assertions) at inside;
  held_front = omega (arith, k.held_front, more);
  held = k.held;
  empty = k.empty;
}

-- whether all of them are
pub all_decided : FragmentIsOfEach → (stack : Stacked) (ts : List Term) (xs : List code.Assertion) → ts ≡ stack.table
    → xs ≡ stack.assertions → list_all is_decided (map (assertion_in ts) xs) ≡ in_fragment (state_of stack)
all_decided each stack ts xs table assertions =
    ap₂ (λ us ys. list_all is_decided (map (assertion_in us) ys)) table assertions
    ∙ (ap (list_all is_decided) (sym (live_laid stack)) ∙ sym (each (state_of stack)))

-- nothing of the last model is known any more
pub knows_no_model : (m n : Models) (stack : Stacked) → Knows m stack → n.fragment ≡ m.fragment → n.held ≡ 0
    → n.words.items ≡ [] → Knows n stack
knows_no_model m n stack k same held words = record {
  inside = subst (λ (f : Fragment). AreInside f.inside stack.table stack.assertions) (sym same) k.inside;
  held_front = omega (arith, held);
  held = subst (λ i. AreTrueBy n.words.items n.truths.items (take i (assertions_of stack))) (sym held) tt;
  empty = λ serial none. ap (λ ws. word_at ws serial) words;
}

-- a model was found
pub knows_model : (m : Models) (stack : Stacked) → m.fragment.inside ≡ length stack.assertions
    → m.held ≡ m.fragment.inside → All (HasNumberBelow (length stack.table)) stack.assertions
    → list_all is_decided (assertions_of stack) ≡ true
    → AreTrueBy m.words.items m.truths.items (assertions_of stack) → AreEmptyBut m.constants.items m.words.items
    → Knows m stack
knows_model m stack inside held numbers decided true_by empty =
    let whole : take m.fragment.inside (assertions_of stack) ≡ assertions_of stack =
    take_all m.fragment.inside (map (assertion_in stack.table) stack.assertions)
    (omega (arith, inside, length-map stack.assertions (assertion_in stack.table))) in
    record {
      inside = inside_all m.fragment.inside stack.table stack.assertions inside numbers decided;
      held_front = omega (arith, held);
      held = rw (held, whole) true_by;
      empty = empty;
    }

-- The table and the assertions grow.

-- the first so many live assertions are what they were
front_kept : (old new : Stacked) (n held : ℕ) → Extends old.table new.table → IsLonger old.assertions new.assertions
    → n ≤ length old.assertions → All (HasNumberBelow (length old.table)) (take n old.assertions) → held ≤ n
    → take held (assertions_of new) ≡ take held (assertions_of old)
front_kept old new n held e longer low numbers few =
    take-map (assertion_in new.table) held new.assertions
    ∙ (ap (map (assertion_in new.table)) (ap (take held) longer.1
    ∙ take-append-le held old.assertions longer.0 (omega (arith, low, few)))
    ∙ (assertions_kept old.table new.table (take held old.assertions) e first
    ∙ sym (take-map (assertion_in old.table) held old.assertions)))
  where
    first : All (HasNumberBelow (length old.table)) (take held old.assertions)
    first = subst (All (HasNumberBelow (length old.table))) (front_of_front old.assertions n held few)
        (All-take (HasNumberBelow (length old.table)) held (take n old.assertions) numbers)

pub models_stay : (m : Models) (old new : Stacked) → Extends old.table new.table
    → IsLonger old.assertions new.assertions → Knows m old → Knows m new
models_stay m old new e longer k = record {
  inside = inside_stays m.fragment.inside old.table new.table old.assertions new.assertions longer.0 e longer.1
      k.inside;
  held_front = k.held_front;
  held = rw (front_kept old new m.fragment.inside m.held e longer k.inside.front k.inside.numbers k.held_front) k.held;
  empty = k.empty;
}

-- Levels are left: a front of the assertions is there.

true_in_front : (words : List (List ℕ)) (truths : List Bool) (xs : List Assertion) (n held : ℕ) → held ≤ n
    → AreTrueBy words truths (take n xs) → AreTrueBy words truths (take held xs)
true_in_front words truths xs n zero l h = tt
true_in_front words truths xs zero (suc held) l h = absurd (omega arith)
true_in_front words truths [] (suc n) (suc held) l h = tt
true_in_front words truths (asserted t ∷ xs) (suc n) (suc held) l h =
    (h.0, true_in_front words truths xs n held (omega arith) h.1)
true_in_front words truths (a_mark ∷ xs) (suc n) (suc held) l h = absurd h

-- the first so many of those that are there are what they were
front_there : (old new : Stacked) (n held : ℕ) → Extends old.table new.table → IsLonger new.assertions old.assertions
    → All (HasNumberBelow (length old.table)) (take n old.assertions) → held ≤ n → held ≤ length new.assertions
    → take held (assertions_of new) ≡ take held (assertions_of old)
front_there old new n held e longer numbers few there =
    take-map (assertion_in new.table) held new.assertions
    ∙ (ap (map (assertion_in new.table)) (sym (take-append-le held new.assertions longer.0 there)
    ∙ ap (take held) (sym longer.1))
    ∙ (assertions_kept old.table new.table (take held old.assertions) e
    (subst (All (HasNumberBelow (length old.table))) (front_of_front old.assertions n held few)
    (All-take (HasNumberBelow (length old.table)) held (take n old.assertions) numbers))
    ∙ sym (take-map (assertion_in old.table) held old.assertions)))

-- what is known of so many of them
pub knows_front : (m m' : Models) (old new : Stacked) → Extends old.table new.table
    → IsLonger new.assertions old.assertions → Knows m old → m'.fragment.inside ≤ m.fragment.inside
    → m'.fragment.inside ≤ length new.assertions → m'.held ≤ m.held → m'.held ≤ m'.fragment.inside
    → m'.words ≡ m.words → m'.truths ≡ m.truths → m'.constants ≡ m.constants → Knows m' new
knows_front m m' old new e longer k inside there held front words truths constants = record {
  inside = inside_left m.fragment.inside m'.fragment.inside old.table new.table old.assertions new.assertions longer.0 e
      longer.1 inside there k.inside;
  held_front = front;
  held = rw (words, truths)
      (subst (AreTrueBy m.words.items m.truths.items)
      (sym (front_there old new m.fragment.inside m'.held e longer k.inside.numbers (omega (arith, front, inside))
      (omega (arith, front, there))))
      (true_in_front m.words.items m.truths.items (assertions_of old) m.held m'.held held k.held));
  empty = rw (words, constants) k.empty;
}

-- What a loop over the assertions finds.

-- a mark is no decided one
pub no_mark : (ts : List Term) (xs : List code.Assertion) (i : ℕ) (x : code.Assertion) → i < length xs
    → x ≡ get_or xs i x → x.term ≡ None → list_all is_decided (map (assertion_in ts) xs) ≡ true → ⊥
no_mark ts xs i x low is none decided =
    false≢true (sym (one_fails is_decided ts xs i x low is (ap (λ o. is_decided (assertion_of ts o)) none)) ∙ decided)

-- each assertion is a decided one
pub decided_at : (ts : List Term) (xs : List code.Assertion) (i : ℕ) (x : code.Assertion) (id : ℕ) → i < length xs
    → x ≡ get_or xs i x → x.term ≡ Some id → list_all is_decided (map (assertion_in ts) xs) ≡ true →
    is_decided (asserted (term_at ts id)) ≡ true
decided_at ts xs i x id low is some decided =
    ap (λ o. is_decided (assertion_of ts o)) (sym some)
    ∙ all_at is_decided (map (assertion_in ts) xs) i (assertion_in ts x) decided (there ts xs i x low is)

pub structure_at : (ts : List Term) (xs : List code.Assertion) (i : ℕ) (x : code.Assertion) (id : ℕ) → i < length xs
    → x ≡ get_or xs i x → x.term ≡ Some id → list_all is_decided (map (assertion_in ts) xs) ≡ true →
    is_structure (term_at ts id) ≡ true
structure_at ts xs i x id low is some decided =
    decided_structure (term_at ts id) (decided_at ts xs i x id low is some decided)

pub fits_at : (ts : List Term) (xs : List code.Assertion) (i : ℕ) (x : code.Assertion) (id : ℕ) → i < length xs
    → x ≡ get_or xs i x → x.term ≡ Some id → list_all is_decided (map (assertion_in ts) xs) ≡ true →
    fits (term_at ts id) ≡ true
fits_at ts xs i x id low is some decided =
    decided_fits (term_at ts id) (decided_at ts xs i x id low is some decided)

pub true_first : (words : List (List ℕ)) (truths : List Bool) (ts : List Term) (xs : List code.Assertion) (i : ℕ)
    → AreTrueBy words truths (take i (map (assertion_in ts) xs))
    → AreTrueBy words truths (map (assertion_in ts) (take i xs))
true_first words truths ts xs i h = subst (AreTrueBy words truths) (take-map (assertion_in ts) i xs) h

true_pushed : (words : List (List ℕ)) (truths : List Bool) (xs : List Assertion) (a : Assertion)
    → AreTrueBy words truths xs → AreTrueBy words truths (a ∷ []) → AreTrueBy words truths (xs ++ a ∷ [])
true_pushed words truths [] a h one = one
true_pushed words truths (asserted t ∷ xs) a h one = (h.0, true_pushed words truths xs a h.1 one)
true_pushed words truths (a_mark ∷ xs) a h one = absurd h

one_true : (words : List (List ℕ)) (truths : List Bool) (a : Assertion) (t : Term) → a ≡ asserted t
    → ((v : Valuation) → GivesValues words truths v t → true ≡ holds t v) → AreTrueBy words truths (a ∷ [])
one_true words truths a t is h = rw is (λ v gives. sym (h v gives), tt)

pub true_more : (words : List (List ℕ)) (truths : List Bool) (ts : List Term) (xs : List code.Assertion) (i : ℕ)
    (x : code.Assertion) (id : ℕ) → i < length xs → x ≡ get_or xs i x → x.term ≡ Some id →
    ((v : Valuation) → GivesValues words truths v (term_at ts id) → true ≡ holds (term_at ts id) v) →
    AreTrueBy words truths (map (assertion_in ts) (take i xs)) →
    AreTrueBy words truths (map (assertion_in ts) (take (i + 1) xs))
true_more words truths ts xs i x id low is some here before =
    subst (AreTrueBy words truths)
    (sym (ap (map (assertion_in ts)) (take_more xs i x low ∙ ap (λ y. take i xs ++ y ∷ []) (sym is))
    ∙ map-append (assertion_in ts) (take i xs) (x ∷ [])))
    (true_pushed words truths (map (assertion_in ts) (take i xs)) (assertion_in ts x) before
    (one_true words truths (assertion_in ts x) (term_at ts id) (ap (assertion_of ts) some) here))

-- what values give all assertions, and each of them
rest_given : (words : List (List ℕ)) (truths : List Bool) (v : Valuation) (a : Assertion) (rest : List Assertion)
    → GiveAll words truths v (a ∷ rest) → GiveAll words truths v rest
rest_given words truths v (asserted t) rest h = h.1
rest_given words truths v a_mark rest h = h

first_given : (words : List (List ℕ)) (truths : List Bool) (v : Valuation) (a : Assertion) (rest : List Assertion)
    (t : Term) → a ≡ asserted t → GiveAll words truths v (a ∷ rest) → GivesValues words truths v t
first_given words truths v a rest t is h = (rw is at h).0

given_at : (words : List (List ℕ)) (truths : List Bool) (v : Valuation) (ts : List Term) (xs : List code.Assertion)
    (i : ℕ) (x : code.Assertion) (id : ℕ) → i < length xs → x ≡ get_or xs i x → x.term ≡ Some id →
    GiveAll words truths v (map (assertion_in ts) xs) → GivesValues words truths v (term_at ts id)
given_at words truths v ts [] i x id low is some h = absurd (omega arith)
given_at words truths v ts (y ∷ xs) zero x id low is some h =
    first_given words truths v (assertion_in ts y) (map (assertion_in ts) xs) (term_at ts id)
    (ap (λ z. assertion_in ts z) (sym is) ∙ ap (assertion_of ts) some) h
given_at words truths v ts (y ∷ xs) (suc i) x id low is some h =
    given_at words truths v ts xs i x id (omega arith) is some
    (rest_given words truths v (assertion_in ts y) (map (assertion_in ts) xs) h)

pub false_at : (words : List (List ℕ)) (truths : List Bool) (ts : List Term) (xs : List code.Assertion) (i : ℕ)
    (x : code.Assertion) (id : ℕ) → i < length xs → x ≡ get_or xs i x → x.term ≡ Some id →
    ((v : Valuation) → GivesValues words truths v (term_at ts id) → false ≡ holds (term_at ts id) v) →
    (v : Valuation) → GiveAll words truths v (map (assertion_in ts) xs)
    → list_all (is_true_under v) (map (assertion_in ts) xs) ≡ false
false_at words truths ts xs i x id low is some here v gives =
    one_fails (is_true_under v) ts xs i x low is
    (ap (λ o. is_true_under v (assertion_of ts o)) some
    ∙ sym (here v (given_at words truths v ts xs i x id low is some gives)))

-- what is passed over is true
pub passed : (words : List (List ℕ)) (truths : List Bool) (marks : ℕ → Bool) (held : ℕ) (ts : List Term)
    (xs : List code.Assertion) (i : ℕ) (x : code.Assertion) (id : ℕ) → i < length xs → x ≡ get_or xs i x →
    x.term ≡ Some id → i < held → IsOfSame marks (term_at ts id) →
    MayPass words truths marks held (map (assertion_in ts) xs) →
    (v : Valuation) → GivesValues words truths v (term_at ts id) → true ≡ holds (term_at ts id) v
passed words truths marks held ts xs i x id low is some few member pass v gives =
    sym (pass i (term_at ts id) few (there ts xs i x low is ∙ ap (λ o. Some (assertion_of ts o)) some) member v gives)

pub true_all : (words : List (List ℕ)) (truths : List Bool) (ts : List Term) (xs : List code.Assertion) (i : ℕ)
    → length xs ≤ i → AreTrueBy words truths (map (assertion_in ts) (take i xs))
    → AreTrueBy words truths (map (assertion_in ts) xs)
true_all words truths ts xs i long h =
    subst (λ ys. AreTrueBy words truths (map (assertion_in ts) ys)) (take_all i xs long) h
