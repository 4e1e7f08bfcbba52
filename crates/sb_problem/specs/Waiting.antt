-- Private: terms that wait until it is known what they are, each behind the one that it is an argument of.
use Rattle.std.specs.Prelude.{◌≡◌, ℕ, suc, ◌+◌, ◌*◌, ◌<◌, Bool, true, false, ◌||◌, nat_eq, nat_lt, if◌then◌else◌, List, [], ◌∷◌, length}
use Rattle.std.specs.List.{list_all, list_any}
use Rattle.sb_meaning.specs.Terms.{Term, Terms, constant, word, numeral, apply, parameter, no_terms, with_term}
use Rattle.sb_term.specs.Numbered.{term_at}
use Rattle.sb_problem.specs.declared.normals.Known.{Known}
use Rattle.sb_problem.specs.declared.waiting.Waiting.{Waiting}
use Rattle.sb_problem.specs.Known.{PartsPass, is_known}

-- a term whose arguments were not put behind it yet
abbrev pub waits : ℕ → Waiting
waits i = record { id = i; entered = false }

-- one whose arguments were put behind it
abbrev pub enters : ℕ → Waiting
enters i = record { id = i; entered = true }

-- the term is known, or waits
abbrev pub is_met : List Known → List Waiting → ℕ → Bool
is_met ks ws i = is_known ks i || list_any (λ w. nat_eq i w.id) ws

-- each argument of one that was entered is known, or waits behind it
abbrev pub AreEntered : List Term → List Known → List Waiting → Type 0
AreEntered ts ks [] = Unit {0}
AreEntered ts ks (w ∷ ws) = (w.entered ≡ true → PartsPass ts (is_met ks ws) w.id) × AreEntered ts ks ws

abbrev pub is_below : ℕ → Waiting → Bool
is_below n w = nat_lt w.id n

pub record AreWaiting (ts : List Term) (ks : List Known) (ws : List Waiting) : Type 0 where
  pub below : list_all (is_below (length ks)) ws ≡ true
  pub entered : AreEntered ts ks ws

-- how many terms there are in a term
abbrev mutual
  pub size : Term → ℕ
  size (apply s ts) = suc (sizes ts)
  size (constant serial sort) = 1
  size (word w) = 1
  size (numeral n) = 1
  size (parameter place sort) = 1

  pub sizes : Terms → ℕ
  sizes no_terms = 0
  sizes (with_term t ts) = size t + sizes ts

-- how often those that wait may still be looked at for a term: once where it was entered, else for each term in it when
-- it is put there, and when it is taken away
abbrev pub weight : List Term → Waiting → ℕ
weight ts w = if w.entered then 1 else 2 * size (term_at ts w.id)

abbrev pub weights : List Term → List Waiting → ℕ
weights ts [] = 0
weights ts (w ∷ ws) = weight ts w + weights ts ws

-- What waits becomes lighter, and what was known or waited is known or waits.
pub record Settles (ts : List Term) (old new : List Known) (before after : List Waiting) : Type 0 where
  pub waiting : AreWaiting ts new after
  pub kept : (i : ℕ) → is_met old before i ≡ true → is_met new after i ≡ true
  pub lighter : weights ts after < weights ts before
