-- Lists of numbers without runs, and what is made of them.
use Rattle.std.proofs.Common.{◌≡◌, ℕ, zero, suc, ◌+◌, ◌-◌, ◌<◌, Bool, true, false, List, [], ◌∷◌, ◌++◌, length, get_or, take, refl, sym, ap, ap₂, ◌∙◌, arith}
use Rattle.std.specs.Prelude.{◌||◌, not, nat_lt}
use Rattle.std.specs.List.{list_any, list_all, All}
use Rattle.std.proofs.lemmas.Bool.{or_left, or_right}
use Rattle.std.proofs.lemmas.Bool.Decides.{nat_tests}
use Rattle.std.proofs.lemmas.List.{take_more}
use Rattle.std.proofs.lemmas.List.Folds.{list_any-append, list_any_none}
use Rattle.std.proofs.lemmas.List.Sums.{AllPass-from_list_all}
use Rattle.sb_lang.specs.Regex.{Regex, none}
use Rattle.sb_lang.specs.Order.{regex_eq}
use Rattle.sb_lang.specs.Constructors.{mkalt, mkand}
use Rattle.sb_lang.specs.NormalForm.{is_normal}
use Rattle.sb_lang.specs.FoldLaws.{AllNormal, SameMembers, UnionOfMembers, IntersectionOfMembers}
use Rattle.sb_lang.specs.SortedLaws.{is_member}
use Rattle.sb_regex.specs.Numbered.{regex_at, regexes_at, AllNumbers}
use Rattle.sb_plain.proofs.PointFacts.{both}

-- the lists have the same numbers
abbrev pub SameNumbers : List ℕ → List ℕ → Type 0
SameNumbers xs ys = (t : ℕ → Bool) → list_any t xs ≡ list_any t ys

or_none : (b : Bool) → (b || false) ≡ b
or_none true = refl
or_none false = refl

any_taken : (t : ℕ → Bool) (xs : List ℕ) (i x : ℕ) → i < length xs → x ≡ get_or xs i x
    → list_any t (take (i + 1) xs) ≡ (list_any t (take i xs) || t x)
any_taken t xs i x l is =
    ap (list_any t) (take_more xs i x l) ∙ list_any-append t (take i xs) (get_or xs i x ∷ [])
    ∙ ap (λ b. list_any t (take i xs) || b) (or_none (t (get_or xs i x)) ∙ ap t (sym is))

pub run_pushed : (xs xs' ids : List ℕ) (i x : ℕ) → i < length ids → x ≡ get_or ids i x → xs' ≡ xs ++ x ∷ []
    → SameNumbers xs (take i ids) → SameNumbers xs' (take (i + 1) ids)
run_pushed xs xs' ids i x l is pushed s t =
    ap (list_any t) pushed ∙ list_any-append t xs (x ∷ []) ∙ ap₂ ◌||◌ (s t) (or_none (t x))
    ∙ sym (any_taken t ids i x l is)

pub run_skipped : (xs ids : List ℕ) (i x : ℕ) → i < length ids → x ≡ get_or ids i x
    → ((t : ℕ → Bool) → t x ≡ true → list_any t xs ≡ true) → SameNumbers xs (take i ids)
    → SameNumbers xs (take (i + 1) ids)
run_skipped xs ids i x l is last s t = step (t x) refl ∙ ap (λ b. b || t x) (s t) ∙ sym (any_taken t ids i x l is)
  where
    step : (b : Bool) → t x ≡ b → list_any t xs ≡ (list_any t xs || t x)
    step true e = last t e ∙ sym (or_left (list_any t xs) (t x) (last t e))
    step false e = sym (or_none (list_any t xs)) ∙ ap (λ b. list_any t xs || b) (sym e)

pub last_one : (ids : List ℕ) (t : ℕ → Bool) → 0 < length ids → t (get_or ids (length ids - 1) 0) ≡ true
    → list_any t ids ≡ true
last_one ids t l h = at ids (length ids - 1) (omega arith) h
  where
    at : (xs : List ℕ) (i : ℕ) → i < length xs → t (get_or xs i 0) ≡ true → list_any t xs ≡ true
    at [] i b e = absurd (omega (arith, b))
    at (x ∷ xs) zero b e = or_left (t x) (list_any t xs) e
    at (x ∷ xs) (suc i) b e = or_right (t x) (list_any t xs) (at xs i (omega (arith, b)) e)

-- the same numbers are of the same regexes

members_of : (rs : List Regex) (r : Regex) (xs : List ℕ)
    → is_member r (regexes_at rs xs) ≡ list_any (λ i. regex_eq r (regex_at rs i)) xs
members_of rs r [] = refl
members_of rs r (x ∷ xs) = ap (λ b. regex_eq r (regex_at rs x) || b) (members_of rs r xs)

same_members : (rs : List Regex) (xs ys : List ℕ) → SameNumbers xs ys
    → SameMembers (regexes_at rs xs) (regexes_at rs ys)
same_members rs xs ys s r = members_of rs r xs ∙ s (λ i. regex_eq r (regex_at rs i)) ∙ sym (members_of rs r ys)

-- what no number of the one list has, none of the other has
or_both : (a b : Bool) → (a || b) ≡ false → (a ≡ false) × (b ≡ false)
or_both false false h = (refl, refl)
or_both false true h = absurd (cc)
or_both true b h = absurd (cc)

none_has : (t : ℕ → Bool) (xs : List ℕ) → list_any t xs ≡ false → All (λ i. t i ≡ false) xs
none_has t [] h i d l = absurd (omega (arith, l))
none_has t (x ∷ xs) h zero d l = (or_both (t x) (list_any t xs) h).0
none_has t (x ∷ xs) h (suc i) d l = none_has t xs (or_both (t x) (list_any t xs) h).1 i d (omega (arith, l))

below : (n i : ℕ) → not (nat_lt i n) ≡ false → i < n
below n i h = grind (arith, nat_tests)

not_above : (n i : ℕ) → i < n → not (nat_lt i n) ≡ false
not_above n i h = grind (arith, nat_tests)

pub numbers_same : (rs : List Regex) (xs ys : List ℕ) → SameNumbers xs ys → AllNumbers rs ys → AllNumbers rs xs
numbers_same rs xs ys s h i d l =
    let t : ℕ → Bool = λ j. not (nat_lt j (length rs)) in
    let g = s t ∙ list_any_none t ys (λ k e m. not_above (length rs) (get_or ys k e) (h k e m)) in
    below (length rs) (get_or xs i d) (none_has t xs g i d l)

all_normal : (rs : List Regex) (xs : List ℕ) → list_all is_normal rs ≡ true → AllNumbers rs xs
    → AllNormal (regexes_at rs xs)
all_normal rs [] n h = refl
all_normal rs (x ∷ xs) n h =
    both (is_normal (regex_at rs x)) (list_all is_normal (regexes_at rs xs))
    (AllPass-from_list_all is_normal rs n x none (h 0 0 (omega arith)))
    (all_normal rs xs n (λ i d l. h (suc i) d (omega (arith, l))))

pub union_same : (rs : List Regex) (xs ys : List ℕ) → UnionOfMembers → list_all is_normal rs ≡ true
    → SameNumbers xs ys → AllNumbers rs ys → mkalt (regexes_at rs xs) ≡ mkalt (regexes_at rs ys)
union_same rs xs ys law n s h =
    law (regexes_at rs xs) (regexes_at rs ys) (all_normal rs xs n (numbers_same rs xs ys s h)) (all_normal rs ys n h)
    (same_members rs xs ys s)

pub intersection_same : (rs : List Regex) (xs ys : List ℕ) → IntersectionOfMembers → list_all is_normal rs ≡ true
    → SameNumbers xs ys → AllNumbers rs ys → mkand (regexes_at rs xs) ≡ mkand (regexes_at rs ys)
intersection_same rs xs ys law n s h =
    law (regexes_at rs xs) (regexes_at rs ys) (all_normal rs xs n (numbers_same rs xs ys s h)) (all_normal rs ys n h)
    (same_members rs xs ys s)
