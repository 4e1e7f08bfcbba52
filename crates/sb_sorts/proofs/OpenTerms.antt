-- The arguments of a term in which parameters stand, by their numbers.
use Rattle.std.proofs.Common.{◌≡◌, ℕ, ◌+◌, ◌<◌, Bool, true, false, cond, List, [], ◌∷◌, ◌++◌, length, take, get_or, All, refl, sym, ap, subst, ◌∙◌}
use Rattle.std.specs.List.{list_all, filter}
use Rattle.std.proofs.lemmas.Bool.{and_parts, and_from}
use Rattle.std.proofs.lemmas.List.{append-nil}
use Rattle.std.proofs.lemmas.List.Elements.{filter_more, All-filter}
use Rattle.std.proofs.lemmas.List.Folds.{list_all-append}
use Rattle.sb_facts.proofs.CallerLemmas.{all_append, all_weaker}
use Rattle.sb_meaning.specs.Terms.{Term}
use Rattle.sb_term.specs.Numbered.{term_at, terms_at}
use Rattle.sb_term.specs.Parameters.{has_parameters}
use Rattle.sb_term.specs.Descending.{has, GoesDown, AreReached, Puts}
use Rattle.sb_sorts.specs.Unfolding.{arguments_in, open_parts, open_numbers, AreOpen}

-- They are put one by one.

pub open_none : (ts : List Term) (ks : List ℕ) → Puts ks (open_numbers ts []) ks
open_none ts ks = record { kept = λ i h. h; there = refl; only = λ test h p. h }

puts_both : (old mid new is js : List ℕ) → Puts old is mid → Puts mid js new → Puts old (is ++ js) new
puts_both old mid new is js p q = record {
  kept = λ i h. q.kept i (p.kept i h);
  there = all_append (has new) is js (all_weaker (has mid) (has new) q.kept is p.there) q.there;
  only = λ test h more.
      let both = and_parts (list_all test is) (list_all test js) (sym (list_all-append test is js) ∙ more) in
      q.only test (p.only test h both.0) both.1;
}

module _ (ts : List Term) (old mid is : List ℕ) (i x : ℕ) (within : i < length is) (at : x ≡ get_or is i x) where
  next_open : (b : Bool) → has_parameters (term_at ts x) ≡ b
      → open_numbers ts (take (i + 1) is) ≡ open_numbers ts (take i is) ++ cond b (x ∷ []) []
  next_open b e =
      filter_more (λ j. has_parameters (term_at ts j)) is i x within
      ∙ ap (λ y. open_numbers ts (take i is) ++ cond (has_parameters (term_at ts y)) (y ∷ []) []) (sym at)
      ∙ ap (λ c. open_numbers ts (take i is) ++ cond c (x ∷ []) []) e

  pub open_more : (new : List ℕ) → Puts old (open_numbers ts (take i is)) mid → has_parameters (term_at ts x) ≡ true
      → Puts mid (x ∷ []) new → Puts old (open_numbers ts (take (i + 1) is)) new
  open_more new p stands q =
      subst (λ js. Puts old js new) (sym (next_open true stands))
      (puts_both old mid new (open_numbers ts (take i is)) (x ∷ []) p q)

  pub open_skip : Puts old (open_numbers ts (take i is)) mid → has_parameters (term_at ts x) ≡ false
      → Puts old (open_numbers ts (take (i + 1) is)) mid
  open_skip p closed =
      subst (λ js. Puts old js mid) (sym (next_open false closed ∙ append-nil (open_numbers ts (take i is)))) p

pub open_end : (ts : List Term) (old new is : List ℕ) (i : ℕ) → take i is ≡ is
    → Puts old (open_numbers ts (take i is)) new → Puts old (open_numbers ts is) new
open_end ts old new is i all p = subst (λ js. Puts old (open_numbers ts js) new) all p

-- Their terms.

open_terms_are : (ts : List Term) (is : List ℕ)
    → terms_at ts (open_numbers ts is) ≡ filter has_parameters (terms_at ts is)
open_terms_are ts [] = refl
open_terms_are ts (i ∷ is) = step (has_parameters (term_at ts i)) (open_terms_are ts is)
  where
    step : (b : Bool) → terms_at ts (open_numbers ts is) ≡ filter has_parameters (terms_at ts is)
        → terms_at ts (cond b (i ∷ open_numbers ts is) (open_numbers ts is))
        ≡ cond b (term_at ts i ∷ filter has_parameters (terms_at ts is)) (filter has_parameters (terms_at ts is))
    step true rest = ap (λ us. term_at ts i ∷ us) rest
    step false rest = rest

pub open_parts_are : (ts : List Term) (t : Term) (is : List ℕ) → terms_at ts is ≡ arguments_in t
    → terms_at ts (open_numbers ts is) ≡ open_parts t
open_parts_are ts t is e = open_terms_are ts is ∙ ap (filter has_parameters) e

pub open_below : (ts : List Term) (k : ℕ) (is : List ℕ) → All (λ j. j < k) is
    → All (λ j. j < k) (open_numbers ts is)
open_below ts k is below = All-filter (λ j. has_parameters (term_at ts j)) (λ j. j < k) is below

all_that_pass : (test : Term → Bool) (ts : List Term) → list_all test (filter test ts) ≡ true
all_that_pass test [] = refl
all_that_pass test (t ∷ ts) = step (test t) refl (all_that_pass test ts)
  where
    step : (b : Bool) → test t ≡ b → list_all test (filter test ts) ≡ true
        → list_all test (cond b (t ∷ filter test ts) (filter test ts)) ≡ true
    step true e rest = and_from (test t) (list_all test (filter test ts)) e rest
    step false e rest = rest

parameters_down : GoesDown open_parts has_parameters
parameters_down t h = all_that_pass has_parameters (arguments_in t)

-- parameters stand in all that is reached from a term in which some stand
pub are_open : (ts : List Term) (body : ℕ) (is : List ℕ) → has_parameters (term_at ts body) ≡ true
    → AreReached open_parts ts body is → AreOpen ts is
are_open ts body is stands r = record {
  below = r.below;
  parametric = r.passes has_parameters parameters_down stands;
  parts = r.behind;
}
