-- Two characters between which not_so range of some lists begins or has just ended are in the same ranges. So what
-- holds of an expansion at the greatest such place up to a character holds at the character.
use Rattle.std.proofs.Common.{◌≡◌, ℕ, ◌+◌, ◌≤◌, ◌<◌, Bool, true, false, cond, not, ◌&&◌, ◌||◌, List, [], ◌∷◌, ◌++◌, nat_le, filter, refl, sym, ap, ap₂, ◌∙◌, arith}
use Rattle.std.specs.List.{list_all, flat_map}
use Rattle.std.proofs.lemmas.Bool.{and_parts, and_from, leb-true, leb-false, le-leb, lt-leb, true≢false}
use Rattle.sb_class.specs.Ranges.{Range, in_range, in_ranges}
use Rattle.sb_word.specs.Words.{is_character}
use Rattle.sb_lang.specs.Regex.{Regex, Regexes, none, eps, set, cat, alt, and, neg, star, rep, path, no_more, more}
use Rattle.sb_lang.specs.Order.{regex_eq}
use Rattle.sb_lang.specs.Derivative.{nd}
use Rattle.sb_lang.specs.DerivativeLaws.{SameSets, AllSameSets, DerivativeIsBySets}
use Rattle.sb_rulebook.specs.Expansions.{Branch, leads_right, is_right_at, are_classes, IsExpansion, ends_of, ends_in, ends_in_all, points_of, is_expansion}
use Rattle.sb_rulebook.specs.ExpansionLaws.{TestDecidesExpansion}

-- The greatest number of a list up to c, or a number before the list that is greater.

nearer : ℕ → ℕ → ℕ → ℕ
nearer c m e = cond (nat_le e c && nat_le m e) e m

floor : ℕ → ℕ → List ℕ → ℕ
floor c m [] = m
floor c m (e ∷ es) = floor c (nearer c m e) es

nearer-le : (c m e : ℕ) → m ≤ c → nearer c m e ≤ c
unfolding nearer
nearer-le c m e low = step (nat_le e c) (nat_le m e) refl
  where
    step : (a b : Bool) → nat_le e c ≡ a → cond (a && b) e m ≤ c
    step true true up = leb-true e c up
    step true false up = low
    step false b up = low

le-nearer : (c m e : ℕ) → m ≤ nearer c m e
unfolding nearer
le-nearer c m e = step (nat_le e c) (nat_le m e) refl
  where
    step : (a b : Bool) → nat_le m e ≡ b → m ≤ cond (a && b) e m
    step true true up = leb-true m e up
    step true false up = omega arith
    step false b up = omega arith

end-le-nearer : (c m e : ℕ) → nat_le e c ≡ true → e ≤ nearer c m e
unfolding nearer
end-le-nearer c m e under = step (nat_le e c) (nat_le m e) refl refl under
  where
    step : (a b : Bool) → nat_le e c ≡ a → nat_le m e ≡ b → a ≡ true → e ≤ cond (a && b) e m
    step true true up over held_so = omega arith
    step true false up over held_so = let below : e < m = leb-false m e over in omega (arith, below)
    step false b up over held_so = absurd (true≢false (sym held_so))

floor-le : (c m : ℕ) (es : List ℕ) → m ≤ c → floor c m es ≤ c
unfolding floor
floor-le c m [] low = low
floor-le c m (e ∷ es) low = floor-le c (nearer c m e) es (nearer-le c m e low)

le-floor : (c m : ℕ) (es : List ℕ) → m ≤ floor c m es
unfolding floor
le-floor c m [] = omega arith
le-floor c m (e ∷ es) =
    let first : m ≤ nearer c m e = le-nearer c m e in
    let rest : nearer c m e ≤ floor c (nearer c m e) es = le-floor c (nearer c m e) es in
    omega (arith, first, rest)

-- both characters are on the same side of each of the numbers
Agrees : ℕ → ℕ → List ℕ → Type 0
Agrees c p [] = Unit {0}
Agrees c p (e ∷ es) = (nat_le e c ≡ nat_le e p) × Agrees c p es

same_side : (c p e : ℕ) → p ≤ c → (nat_le e c ≡ true → e ≤ p) → nat_le e c ≡ nat_le e p
same_side c p e low up = step (nat_le e c) refl
  where
    step : (b : Bool) → nat_le e c ≡ b → b ≡ nat_le e p
    step true held_so = sym (le-leb e p (up held_so))
    step false not_so = let above : c < e = leb-false e c not_so in sym (lt-leb e p (omega (arith, above, low)))

floor-agrees : (c m : ℕ) (es : List ℕ) → m ≤ c → Agrees c (floor c m es) es
unfolding floor Agrees
floor-agrees c m [] low = tt
floor-agrees c m (e ∷ es) low = (
  same_side c (floor c (nearer c m e) es) e (floor-le c (nearer c m e) es (nearer-le c m e low)) (λ held_so.
      let first : e ≤ nearer c m e = end-le-nearer c m e held_so in
      let rest : nearer c m e ≤ floor c (nearer c m e) es = le-floor c (nearer c m e) es in
      omega (arith, first, rest)),
  floor-agrees c (nearer c m e) es (nearer-le c m e low),
)

-- a test that holds of all characters of a list, and before it, holds of the greatest up to a character
nearer-passes : (test : ℕ → Bool) (c m e : ℕ) → test m ≡ true → (nat_le e c ≡ true → test e ≡ true)
    → test (nearer c m e) ≡ true
unfolding nearer
nearer-passes test c m e first other = step (nat_le e c) (nat_le m e) refl
  where
    step : (a b : Bool) → nat_le e c ≡ a → test (cond (a && b) e m) ≡ true
    step true true up = other up
    step true false up = first
    step false b up = first

kept-passes : (test : ℕ → Bool) (e : ℕ) (es : List ℕ) → list_all test (filter is_character (e ∷ es)) ≡ true
    → is_character e ≡ true → test e ≡ true
kept-passes test e es all held_so = step (is_character e) all held_so
  where
    step : (b : Bool) → list_all test (cond b (e ∷ filter is_character es) (filter is_character es)) ≡ true → b ≡ true
        → test e ≡ true
    step true held is = (and_parts (test e) (list_all test (filter is_character es)) held).0
    step false held is = absurd (true≢false (sym is))

rest-passes : (test : ℕ → Bool) (e : ℕ) (es : List ℕ) → list_all test (filter is_character (e ∷ es)) ≡ true
    → list_all test (filter is_character es) ≡ true
rest-passes test e es all = step (is_character e) all
  where
    step : (b : Bool) → list_all test (cond b (e ∷ filter is_character es) (filter is_character es)) ≡ true
        → list_all test (filter is_character es) ≡ true
    step true held = (and_parts (test e) (list_all test (filter is_character es)) held).1
    step false held = held

character-below : (e c : ℕ) → is_character c ≡ true → nat_le e c ≡ true → is_character e ≡ true
character-below e c is held_so =
    let high : c ≤ 0x2ffff = leb-true c 0x2ffff is in
    let low : e ≤ c = leb-true e c held_so in
    le-leb e 0x2ffff (omega (arith, high, low))

floor-passes : (test : ℕ → Bool) (c m : ℕ) (es : List ℕ) → is_character c ≡ true → test m ≡ true
    → list_all test (filter is_character es) ≡ true → test (floor c m es) ≡ true
unfolding floor
floor-passes test c m [] is first all = first
floor-passes test c m (e ∷ es) is first all =
    floor-passes test c (nearer c m e) es is
    (nearer-passes test c m e first (λ held_so. kept-passes test e es all (character-below e c is held_so)))
    (rest-passes test e es all)

-- Lists one behind the other.

agrees-first : (c p : ℕ) (es fs : List ℕ) → Agrees c p (es ++ fs) → Agrees c p es
unfolding Agrees
agrees-first c p [] fs all = tt
agrees-first c p (e ∷ es) fs all = (all.0, agrees-first c p es fs all.1)

agrees-second : (c p : ℕ) (es fs : List ℕ) → Agrees c p (es ++ fs) → Agrees c p fs
unfolding Agrees
agrees-second c p [] fs all = all
agrees-second c p (e ∷ es) fs all = agrees-second c p es fs all.1

-- So they are in the same ranges, and the sets of a regex don't tell them apart.

not-le : (c n : ℕ) → nat_le c n ≡ not (nat_le (n + 1) c)
not-le c n = step (nat_le c n) refl
  where
    step : (b : Bool) → nat_le c n ≡ b → b ≡ not (nat_le (n + 1) c)
    step true held_so = let low : c ≤ n = leb-true c n held_so in ap not (sym (lt-leb (n + 1) c (omega (arith, low))))
    step false held_so = let high : n < c = leb-false c n held_so in
        ap not (sym (le-leb (n + 1) c (omega (arith, high))))

in_range-same : (c p : ℕ) (r : Range) → nat_le r.0 c ≡ nat_le r.0 p → nat_le (r.1 + 1) c ≡ nat_le (r.1 + 1) p
    → in_range r c ≡ in_range r p
unfolding in_range
in_range-same c p r first behind = ap₂ ◌&&◌ first (not-le c r.1 ∙ ap not behind ∙ sym (not-le p r.1))

in_ranges-same : (c p : ℕ) (rs : List Range) → Agrees c p (ends_of rs) → in_ranges rs c ≡ in_ranges rs p
unfolding in_ranges Agrees
in_ranges-same c p [] all = refl
in_ranges-same c p (r ∷ rs) all = ap₂ ◌||◌ (in_range-same c p r all.0 all.1.0) (in_ranges-same c p rs all.1.1)

mutual
  unfolding SameSets AllSameSets Agrees

  same-sets : (c p : ℕ) (r : Regex) → Agrees c p (ends_in r) → SameSets c p r
  same-sets c p none all = tt
  same-sets c p eps all = tt
  same-sets c p (set rs) all = in_ranges-same c p rs all
  same-sets c p (cat a b) all = (
    same-sets c p a (agrees-first c p (ends_in a) (ends_in b) all),
    same-sets c p b (agrees-second c p (ends_in a) (ends_in b) all),
  )
  same-sets c p (alt ps) all = all-same-sets c p ps all
  same-sets c p (and ps) all = all-same-sets c p ps all
  same-sets c p (neg a) all = same-sets c p a all
  same-sets c p (star a) all = same-sets c p a all
  same-sets c p (rep a n m) all = same-sets c p a all
  same-sets c p (path a b) all = same-sets c p a all

  all-same-sets : (c p : ℕ) (rs : Regexes) → Agrees c p (ends_in_all rs) → AllSameSets c p rs
  all-same-sets c p no_more all = tt
  all-same-sets c p (more r rs) all = (
    same-sets c p r (agrees-first c p (ends_in r) (ends_in_all rs) all),
    all-same-sets c p rs (agrees-second c p (ends_in r) (ends_in_all rs) all),
  )

-- the ends of the classes
class_ends : List Branch → List ℕ
class_ends ps = flat_map (λ q. ends_of q.0) ps

keep-same : (q : Branch) (ps us vs : List Branch) (a b : Bool) → a ≡ b → us ≡ vs
    → cond a (q ∷ us) us ≡ cond b (q ∷ vs) vs
keep-same q ps us vs a b same rest = ap₂ (λ t ws. cond t (q ∷ ws) ws) same rest

parts-same : (c p : ℕ) (ps : List Branch) → Agrees c p (class_ends ps)
    → filter (λ q. in_ranges q.0 c) ps ≡ filter (λ q. in_ranges q.0 p) ps
unfolding class_ends Agrees
parts-same c p [] all = refl
parts-same c p (q ∷ ps) all =
    keep-same q ps (filter (λ t. in_ranges t.0 c) ps) (filter (λ t. in_ranges t.0 p) ps) (in_ranges q.0 c)
    (in_ranges q.0 p)
    (in_ranges-same c p q.0 (agrees-first c p (ends_of q.0) (class_ends ps) all))
    (parts-same c p ps (agrees-second c p (ends_of q.0) (class_ends ps) all))

leads-same : (r : Regex) (c p : ℕ) (us : List Branch) → nd r c ≡ nd r p → leads_right r c us ≡ leads_right r p us
leads-same r c p [] same = refl
leads-same r c p (u ∷ []) same = ap (λ d. regex_eq d u.1) same
leads-same r c p (u ∷ v ∷ us) same = refl

right-same : DerivativeIsBySets → (r : Regex) (ps : List Branch) (c p : ℕ) → Agrees c p (class_ends ps ++ ends_in r)
    → is_right_at r ps c ≡ is_right_at r ps p
right-same law r ps c p all =
    leads-same r c p (filter (λ q. in_ranges q.0 c) ps)
    (law r c p (same-sets c p r (agrees-second c p (class_ends ps) (ends_in r) all)))
    ∙ ap (leads_right r p) (parts-same c p ps (agrees-first c p (class_ends ps) (ends_in r) all))

-- The two directions.

all-pass : (test : ℕ → Bool) (es : List ℕ) → ((c : ℕ) → is_character c ≡ true → test c ≡ true)
    → list_all test (filter is_character es) ≡ true
all-pass test [] all = refl
all-pass test (e ∷ es) all = step (all-pass test es all) (is_character e) refl
  where
    step : list_all test (filter is_character es) ≡ true → (b : Bool) → is_character e ≡ b
        → list_all test (cond b (e ∷ filter is_character es) (filter is_character es)) ≡ true
    step rest true is = and_from (test e) (list_all test (filter is_character es)) (all e is) rest
    step rest false is = rest

of-test : DerivativeIsBySets → (r : Regex) (ps : List Branch) → is_expansion r ps ≡ true → IsExpansion r ps
unfolding class_ends
of-test law r ps held = record {
  classes = both.0;
  right = λ c is.
      right-same law r ps c (floor c 0 others) (floor-agrees c 0 others (omega arith))
      ∙ floor-passes (is_right_at r ps) c 0 others is (kept-passes (is_right_at r ps) 0 others both.1 refl)
      (rest-passes (is_right_at r ps) 0 others both.1);
}
  where
    others : List ℕ
    others = class_ends ps ++ ends_in r

    both : (are_classes ps ≡ true) × (list_all (is_right_at r ps) (points_of r ps) ≡ true)
    both = and_parts (are_classes ps) (list_all (is_right_at r ps) (points_of r ps)) held

of-expansion : (r : Regex) (ps : List Branch) → IsExpansion r ps → is_expansion r ps ≡ true
of-expansion r ps e =
    and_from (are_classes ps) (list_all (is_right_at r ps) (points_of r ps)) e.classes
    (all-pass (is_right_at r ps) (0 ∷ (flat_map (λ q. ends_of q.0) ps ++ ends_in r)) e.right)

pub test_decides : DerivativeIsBySets → TestDecidesExpansion
test_decides law r ps = (of-test law r ps, of-expansion r ps)
