-- What was true under other words stays so where the words of its constants are the same.
use Rattle.std.proofs.Common.{◌≡◌, ℕ, zero, suc, ◌<◌, Bool, true, false, ◌&&◌, List, [], ◌∷◌, take, sym, ap, subst, ◌∙◌, arith, Some, None, slice_get}
use Rattle.std.specs.List.{list_all}
use Rattle.std.proofs.lemmas.Bool.{and_parts}
use Rattle.sb_meaning.specs.Terms.{boolean, integer, text, reglan, Term, Terms, constant, word, numeral, apply, parameter, no_terms, with_term}
use Rattle.sb_meaning.specs.Values.{Valuation, Text}
use Rattle.sb_meaning.specs.Truth.{holds}
use Rattle.sb_script.specs.Brought.{is_structure}
use Rattle.sb_script.specs.State.{Assertion, asserted, a_mark}
use Rattle.sb_script.specs.Fragment.{fits, is_decided}
use Rattle.sb_fragment.proofs.CallerLemmas.{asked_structure}
use Rattle.sb_atoms.specs.Given.{GivesValues, GivesEach}
use Rattle.sb_atoms.proofs.CallerLemmas.{asked_given, asked_value}
use Rattle.sb_models.specs.Knowing.{AreTrueBy, word_at}
use Rattle.sb_models.specs.Tried.{AreSame, IsOfSame, MayPass}

pub all_at : (test : Assertion → Bool) (xs : List Assertion) (place : ℕ) (x : Assertion) → list_all test xs ≡ true
    → slice_get xs place ≡ Some x → test x ≡ true
all_at test [] place x h e = absurd (let both : None ≡ Some x = e in cc)
all_at test (y ∷ xs) zero x h e =
    let same : y ≡ x = cc in
    ap test (sym same) ∙ (and_parts (test y) (list_all test xs) h).0
all_at test (y ∷ xs) (suc place) x h e = all_at test xs place x (and_parts (test y) (list_all test xs) h).1 e

-- one of those that were true
true_there : (words : List (List ℕ)) (truths : List Bool) (xs : List Assertion) (held place : ℕ) (t : Term)
    → place < held → slice_get xs place ≡ Some (asserted t) → AreTrueBy words truths (take held xs)
    → (v : Valuation) → GivesValues words truths v t → holds t v ≡ true
true_there words truths xs zero place t l e h = absurd (omega (arith, l))
true_there words truths [] (suc held) place t l e h = absurd (let both : None ≡ Some (asserted t) = e in cc)
true_there words truths (a_mark ∷ xs) (suc held) place t l e h = absurd h
true_there words truths (asserted u ∷ xs) (suc held) zero t l e h =
    let same : u ≡ t = cc in
    subst (λ s. (v : Valuation) → GivesValues words truths v s → holds s v ≡ true) same h.0
true_there words truths (asserted u ∷ xs) (suc held) (suc place) t l e h =
    true_there words truths xs held place t (omega (arith, l)) e h.1

-- a decided term is Boolean structure, and keeps the rules of the fragment
decided_parts : (t : Term) → is_decided (asserted t) ≡ true → (is_structure t ≡ true) × (fits t ≡ true)
decided_parts t h = and_parts (is_structure t) (fits t) h

pub decided_structure : (t : Term) → is_decided (asserted t) ≡ true → is_structure t ≡ true
decided_structure t h = (decided_parts t h).0

pub decided_fits : (t : Term) → is_decided (asserted t) ≡ true → fits t ≡ true
decided_fits t h = (decided_parts t h).1

-- a decided term that asks something of one constant's word, where that word is the same
same_given : (old new : List (List ℕ)) (bs cs : List Bool) (marks : ℕ → Bool) (v : Valuation) (t : Term)
    → AreSame old new marks → IsOfSame marks t → is_decided (asserted t) ≡ true → GivesValues new cs v t
    → GivesValues old bs v t
same_given old new bs cs marks v t words m decided gives =
    let kind = sym (asked_structure t m.serial m.regex m.is) ∙ decided_structure t decided in
    asked_given old bs v t m.serial m.regex m.is kind
    (asked_value new cs v t m.serial m.regex m.is gives ∙ ap Text (sym (words m.serial m.same)))

pub may_pass : (old new : List (List ℕ)) (bs cs : List Bool) (marks : ℕ → Bool) (held : ℕ)
    (assertions : List Assertion) → AreTrueBy old bs (take held assertions) → list_all is_decided assertions ≡ true
    → AreSame old new marks → MayPass new cs marks held assertions
may_pass old new bs cs marks held assertions before decided words place t low at m v gives =
    true_there old bs assertions held place t low at before v
    (same_given old new bs cs marks v t words m (all_at is_decided assertions place (asserted t) decided at) gives)

-- the same, of words and a number that are read out of where they are kept
pub may_pass_of : (old o new n : List (List ℕ)) (bs cs ds : List Bool) (marks : ℕ → Bool) (held h : ℕ)
    (assertions : List Assertion) → o ≡ old → n ≡ new → ds ≡ cs → h ≡ held → AreTrueBy old bs (take held assertions)
    → list_all is_decided assertions ≡ true → AreSame o new marks → MayPass n ds marks h assertions
may_pass_of old o new n bs cs ds marks held h assertions p q s r before decided same =
    rw (q, s, r) (may_pass old new bs cs marks held assertions before decided
    (subst (λ ws. AreSame ws new marks) p same))

-- What was true is true where each constant has the same word and the same truth value.

mutual
  kept_given : (old new : List (List ℕ)) (bs : List Bool) (v : Valuation)
      → ((serial : ℕ) → word_at old serial ≡ word_at new serial) → (t : Term) → GivesValues new bs v t
      → GivesValues old bs v t
  kept_given old new bs v same (constant serial text) h = h ∙ ap Text (sym (same serial))
  kept_given old new bs v same (constant serial boolean) h = h
  kept_given old new bs v same (constant serial integer) h = tt
  kept_given old new bs v same (constant serial reglan) h = tt
  kept_given old new bs v same (word w) h = tt
  kept_given old new bs v same (numeral n) h = tt
  kept_given old new bs v same (parameter place sort) h = tt
  kept_given old new bs v same (apply s terms) h = kept_each old new bs v same terms h

  kept_each : (old new : List (List ℕ)) (bs : List Bool) (v : Valuation)
      → ((serial : ℕ) → word_at old serial ≡ word_at new serial) → (ts : Terms) → GivesEach new bs v ts
      → GivesEach old bs v ts
  kept_each old new bs v same no_terms h = tt
  kept_each old new bs v same (with_term t ts) h =
      (kept_given old new bs v same t h.0, kept_each old new bs v same ts h.1)

true_kept : (old new : List (List ℕ)) (bs : List Bool) (xs : List Assertion)
    → ((serial : ℕ) → word_at old serial ≡ word_at new serial) → AreTrueBy old bs xs → AreTrueBy new bs xs
true_kept old new bs [] same h = tt
true_kept old new bs (asserted t ∷ xs) same h =
    (λ v gives. h.0 v (kept_given old new bs v same t gives), true_kept old new bs xs same h.1)
true_kept old new bs (a_mark ∷ xs) same h = absurd h

pub true_kept_of : (old o new n : List (List ℕ)) (bs cs ls ms : List Bool) (marks : ℕ → Bool) (held h : ℕ)
    (assertions : List Assertion) → o ≡ old → n ≡ new → ls ≡ bs → ls ≡ ms → cs ≡ ms → h ≡ held
    → AreTrueBy old bs (take held assertions) → AreSame o new marks → ((serial : ℕ) → marks serial ≡ false)
    → AreTrueBy n cs (take h assertions)
true_kept_of old o new n bs cs ls ms marks held h assertions p q l m c r before same none =
    rw (q, r) (subst (λ ds. AreTrueBy new ds (take held assertions)) (sym l ∙ m ∙ sym c)
    (true_kept old new bs (take held assertions)
    (λ serial. ap (λ ws. word_at ws serial) (sym p) ∙ same serial (none serial)) before))
