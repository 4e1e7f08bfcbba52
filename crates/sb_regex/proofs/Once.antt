-- Numbers, each where it first stands.
use Rattle.std.proofs.Common.{◌≡◌, ℕ, ◌+◌, ◌<◌, ◌≤◌, Bool, true, false, ◌||◌, cond, nat_eq, List, [], ◌∷◌, ◌++◌, length, get_or, drop, refl, sym, ap, ap₂, ◌∙◌, inl, inr, add-one, drop-cons}
use Rattle.std.specs.List.{list_any}
use Rattle.std.proofs.lemmas.Bool.{false≢true, or_cases, or_left, or_right}
use Rattle.std.proofs.lemmas.List.{drop_all}
use Rattle.std.proofs.lemmas.List.Folds.{list_any-append}
use Rattle.std.proofs.lemmas.List.Elements.{All-nil}
use Rattle.sb_lang.specs.Regex.{Regex}
use Rattle.sb_lang.specs.Order.{regex_eq}
use Rattle.sb_lang.specs.OrderLaws.{OrderTellsApart}
use Rattle.sb_lang.specs.SortedLaws.{is_member}
use Rattle.sb_regex.specs.Numbered.{regex_at, regexes_at, AllNumbers}
use Rattle.sb_lang.specs.FoldLaws.{SameMembers}
use Rattle.sb_regex.proofs.Spines.{numbers_push}
use Rattle.sb_regex.proofs.NodeEq.{nat_same}
use Rattle.sb_regex.proofs.Gathering.{ats-append}
use Rattle.sb_regex.proofs.Ordered.{regex_same, same_regex}

any_member : OrderTellsApart → (rs : List Regex) (x : ℕ) (all : List ℕ) → list_any (λ y. nat_eq x y) all ≡ true
    → is_member (regex_at rs x) (regexes_at rs all) ≡ true
any_member tells rs x [] h = absurd (false≢true h)
any_member tells rs x (y ∷ ys) h = elim (or_cases (nat_eq x y) (list_any (λ y. nat_eq x y) ys) h) [
  | inl here ↦ or_left _ _ (same_regex tells _ _ (ap (regex_at rs) (nat_same x y here)))
  | inr later ↦ or_right (regex_eq (regex_at rs x) (regex_at rs y)) _ (any_member tells rs x ys later)
]

module _ (rs : List Regex) (all after ids : List ℕ) (i x : ℕ) (r : Regex) (l : i < length ids)
    (is : x ≡ get_or ids i x) where
  rest_members : is_member r (regexes_at rs (drop i ids))
      ≡ (regex_eq r (regex_at rs x) || is_member r (regexes_at rs (drop (i + 1) ids)))
  rest_members =
      ap (λ xs. is_member r (regexes_at rs xs)) (drop-cons ids i x l)
      ∙ ap₂ (λ z k. regex_eq r (regex_at rs z) || is_member r (regexes_at rs (drop k ids))) (sym is) (sym (add-one i))

  pub once_new : after ≡ all ++ x ∷ []
      → (is_member r (regexes_at rs after) || is_member r (regexes_at rs (drop (i + 1) ids)))
      ≡ (is_member r (regexes_at rs all) || is_member r (regexes_at rs (drop i ids)))
  once_new pushed =
      ap (λ b. b || is_member r (regexes_at rs (drop (i + 1) ids)))
      (ap (λ xs. is_member r xs) (ats-append rs all (x ∷ []) after pushed)
      ∙ list_any-append (regex_eq r) (regexes_at rs all) (regex_at rs x ∷ []))
      ∙ turned (is_member r (regexes_at rs all)) (regex_eq r (regex_at rs x))
      (is_member r (regexes_at rs (drop (i + 1) ids)))
      ∙ ap (λ b. is_member r (regexes_at rs all) || b) (sym rest_members)
    where
      turned : (a b d : Bool) → ((a || (b || false)) || d) ≡ (a || (b || d))
      turned true b d = refl
      turned false true d = refl
      turned false false d = refl

  pub once_more : OrderTellsApart → list_any (λ y. nat_eq x y) all ≡ true
      → (is_member r (regexes_at rs all) || is_member r (regexes_at rs (drop (i + 1) ids)))
      ≡ (is_member r (regexes_at rs all) || is_member r (regexes_at rs (drop i ids)))
  once_more tells found =
      step (regex_eq r (regex_at rs x)) refl
      ∙ ap (λ b. is_member r (regexes_at rs all) || b) (sym rest_members)
    where
      step : (e : Bool) → regex_eq r (regex_at rs x) ≡ e
          → (is_member r (regexes_at rs all) || is_member r (regexes_at rs (drop (i + 1) ids)))
          ≡ (is_member r (regexes_at rs all)
          || (regex_eq r (regex_at rs x) || is_member r (regexes_at rs (drop (i + 1) ids))))
      step true e =
          let there : is_member r (regexes_at rs all) ≡ true =
          ap (λ z. is_member z (regexes_at rs all)) (regex_same tells r (regex_at rs x) e)
          ∙ any_member tells rs x all found in
          ap (λ b. b || is_member r (regexes_at rs (drop (i + 1) ids))) there
          ∙ sym (ap (λ b. b || (regex_eq r (regex_at rs x) || is_member r (regexes_at rs (drop (i + 1) ids)))) there)
      step false e =
          ap (λ b. is_member r (regexes_at rs all) || (b || is_member r (regexes_at rs (drop (i + 1) ids)))) (sym e)

-- One turn of the walk that keeps each number where it first stands.

or_none : (b : Bool) → b ≡ (b || false)
or_none true = refl
or_none false = refl

abbrev pub OnceSoFar : List Regex → List ℕ → List ℕ → ℕ → Type 0
OnceSoFar rs all ids i =
    AllNumbers rs all
    × ((r : Regex) → (is_member r (regexes_at rs all) || is_member r (regexes_at rs (drop i ids)))
    ≡ is_member r (regexes_at rs ids))

pub once_begun : (rs : List Regex) (all ids : List ℕ) → all ≡ [] → OnceSoFar rs all ids 0
once_begun rs all ids none = rw none (All-nil (λ i. i < length rs), λ r. refl)

pub turn : OrderTellsApart → (rs : List Regex) (all now ids : List ℕ) (i x : ℕ) → i < length ids → x ≡ get_or ids i x
    → x < length rs → (b : Bool) → list_any (λ y. nat_eq x y) all ≡ b → now ≡ cond b all (all ++ x ∷ [])
    → OnceSoFar rs all ids i → OnceSoFar rs now ids (i + 1)
turn tells rs all now ids i x l is below true there e so_far =
    rw e (so_far.0, λ r. once_more rs all all ids i x r l is tells there ∙ so_far.1 r)
turn tells rs all now ids i x l is below false none e so_far =
    rw e (
      numbers_push rs all (all ++ x ∷ []) x so_far.0 below refl,
      λ r. once_new rs all (all ++ x ∷ []) ids i x r l is refl ∙ so_far.1 r,
    )

pub once_end : (rs : List Regex) (all ids : List ℕ) (i : ℕ) → length ids ≤ i → OnceSoFar rs all ids i
    → SameMembers (regexes_at rs all) (regexes_at rs ids)
once_end rs all ids i l so_far r =
    or_none (is_member r (regexes_at rs all))
    ∙ sym (ap (λ xs. is_member r (regexes_at rs all) || is_member r (regexes_at rs xs)) (drop_all i ids l))
    ∙ so_far.1 r
