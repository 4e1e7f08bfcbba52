-- What the members of a normal union and of a normal intersection have in common.
use Rattle.std.proofs.Common.{◌≡◌, ℕ, ◌<◌, ◌≤◌, Bool, true, not, ◌&&◌, nat_lt, List, [], ◌∷◌, length, refl, ap, ap₂, arith, length-append}
use Rattle.std.specs.List.{list_all}
use Rattle.std.proofs.lemmas.Bool.{and_parts, lt-ltb}
use Rattle.sb_class.specs.Ranges.{Range, rises_from}
use Rattle.sb_lang.specs.Regex.{Regex, Regexes, set, no_more, more, parts}
use Rattle.sb_lang.specs.Order.{code, codes, regex_eq}
use Rattle.sb_lang.specs.Constructors.{is_none, is_anything, mkset, ranges_of, union_of, inter_of}
use Rattle.sb_lang.specs.NormalForm.{is_normal, all_normal}
use Rattle.sb_lang.proofs.OrderFacts.{same_regex, regex_eq-itself}
use Rattle.sb_lang.proofs.SetFacts.{IsCanonical-union, IsCanonical-inter}
use Rattle.sb_lang.proofs.SortedFacts.{ascending, sets_in}

-- the members of a union (an intersection): normal, none of that kind, none and every word not among them, at most one
-- set, ascending
pub record AreMembers (is_kind : Regex → Bool) (rs : List Regex) : Type 0 where
  pub normal : list_all is_normal rs ≡ true
  pub flat : list_all (λ r. not (is_kind r)) rs ≡ true
  pub no_none : list_all (λ r. not (is_none r)) rs ≡ true
  pub no_anything : list_all (λ r. not (is_anything r)) rs ≡ true
  pub few : length (sets_in rs) ≤ 1
  pub rising : ascending rs ≡ true

pub all_normal-parts : (ps : Regexes) → all_normal ps ≡ list_all is_normal (parts ps)
unfolding is_normal all_normal parts
all_normal-parts no_more = refl
all_normal-parts (more r rs) = ap (λ x. is_normal r && x) (all_normal-parts rs)

-- the length of the code: a part's is less

abbrev pub size : Regex → ℕ
size r = length (code r)

codes-some : (ps : Regexes) → 0 < length (codes ps)
unfolding code codes
codes-some no_more = omega arith
codes-some (more r rs) = omega arith

pub parts-small : (ps : Regexes) (n : ℕ) → length (codes ps) ≤ n → list_all (λ r. nat_lt (size r) n) (parts ps) ≡ true
unfolding code codes parts
parts-small no_more n le = refl
parts-small (more r rs) n le =
    ap₂ ◌&&◌ (lt-ltb (size r) n (omega (arith, length-append (code r) (codes rs), codes-some rs)))
    (parts-small rs n (omega (arith, length-append (code r) (codes rs))))

-- Sets.

pub IsCanonical-normal : (s : List Range) → is_normal (set s) ≡ true → rises_from 0 s ≡ true
unfolding is_normal all_normal
IsCanonical-normal s h = (and_parts (rises_from 0 s) (regex_eq (mkset s) (set s)) h).0

pub is_normal-mkset : (s : List Range) → rises_from 0 s ≡ true → is_normal (mkset s) ≡ true
unfolding is_normal all_normal mkset
is_normal-mkset [] h = refl
is_normal-mkset (r ∷ rs) h = ap₂ ◌&&◌ h (regex_eq-itself (set (r ∷ rs)))

abbrev pub all_canonical : List (List Range) → Bool
all_canonical ss = list_all (rises_from 0) ss

pub sets_in-canonical : (rs : List Regex) → list_all is_normal rs ≡ true → all_canonical (sets_in rs) ≡ true
unfolding ranges_of
sets_in-canonical [] h = refl
sets_in-canonical (set s ∷ rs) h =
    let p = and_parts (is_normal (set s)) _ h in
    ap₂ ◌&&◌ (IsCanonical-normal s p.0) (sets_in-canonical rs p.1)
sets_in-canonical (r ∷ rs) h = sets_in-canonical rs (and_parts (is_normal r) _ h).1

pub IsCanonical-union_of : (ss : List (List Range)) → all_canonical ss ≡ true → rises_from 0 (union_of ss) ≡ true
unfolding union_of rises_from
IsCanonical-union_of [] h = refl
IsCanonical-union_of (s ∷ ss) h =
    let p = and_parts (rises_from 0 s) _ h in
    IsCanonical-union s (union_of ss) p.0 (IsCanonical-union_of ss p.1)

pub IsCanonical-inter_of : (s : List Range) (ss : List (List Range)) → rises_from 0 s ≡ true → all_canonical ss ≡ true
    → rises_from 0 (inter_of s ss) ≡ true
unfolding inter_of
IsCanonical-inter_of s [] h g = h
IsCanonical-inter_of s (t ∷ ts) h g =
    let p = and_parts (rises_from 0 t) _ g in
    IsCanonical-inter s (inter_of t ts) h (IsCanonical-inter_of t ts p.0 p.1)

pub mkset-normal : (s : List Range) → is_normal (set s) ≡ true → mkset s ≡ set s
unfolding is_normal all_normal
mkset-normal s h = same_regex (mkset s) (set s) (and_parts (rises_from 0 s) (regex_eq (mkset s) (set s)) h).1

pub few_in_mkset : (s : List Range) → length (ranges_of (mkset s)) ≤ 1
unfolding ranges_of mkset
few_in_mkset [] = omega arith
few_in_mkset (r ∷ rs) = omega arith

pub few_in_one : (a : Regex) → length (sets_in (a ∷ [])) ≤ 1
unfolding ranges_of
few_in_one (set s) = omega arith
few_in_one r = omega arith
