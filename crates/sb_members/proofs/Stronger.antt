-- Members of an intersection that follow from others.
use Rattle.std.proofs.Common.{◌≡◌, ℕ, zero, suc, ◌+◌, ◌-◌, ◌<◌, ◌≤◌, Bool, true, false, not, ◌&&◌, ◌||◌, nat_le, nat_eq, cond, List, [], ◌∷◌, ◌++◌, length, get_or, take, drop, refl, sym, ap, subst, ◌∙◌, arith, append_assoc, inl, inr}
use Rattle.std.specs.List.{All, list_any, list_all}
use Rattle.std.specs.List.Sorted.{IsPermutation}
use Rattle.std.proofs.lemmas.Bool.{and_parts, and_from, or_cases, or_left, or_right, false≢true, true≢false}
use Rattle.std.proofs.lemmas.Bool.Decides.{nat_tests}
use Rattle.std.proofs.lemmas.List.{append-nil, at_drop_more, at_drop_all, take_all, get_or_default}
use Rattle.std.proofs.lemmas.List.Folds.{list_all_more}
use Rattle.std.proofs.lemmas.List.Elements.{All-push, All-nil, All-weaker}
use Rattle.std.proofs.lemmas.List.Sorted.{All-permutation, list_any-IsPermutation}
use Rattle.sb_class.specs.Ranges.{Range, in_range, in_ranges}
use Rattle.sb_lang.specs.Regex.{Regex, none, set, cat, and, neg, star, regexes}
use Rattle.sb_lang.specs.Constructors.{mkand}
use Rattle.sb_lang.specs.ConstructorLaws.{MkandKeepsLanguage, IntersectionIsOfEach}
use Rattle.sb_lang.specs.Language.{language}
use Rattle.sb_lang.specs.Languages.{Language, one_character, cut, power, iterate}
use Rattle.sb_lang.specs.LanguageLaws.{CutIsSomeCut, IterationIsSomePower}
use Rattle.sb_regex.specs.Numbered.{regex_at, regexes_at, Names, AllNumbers}
use Rattle.sb_members.specs.Choices.{in_each}
use Rattle.sb_members.specs.Strongest.{IsWithin, TakesUp, FollowsFrom, AreWeaker, IsNext, AreKept, IsTaken, in_rows, AreRows, AreNeeded, AreBehind, IsBehindPart}
use Rattle.sb_members.proofs.Splits.{all_append, numbers_push, each_of, and_is}

-- Heads that take up what stands behind them.

power_appended : CutIsSomeCut → (L : Language) (n : ℕ) (u v : List ℕ) → power L n u ≡ true → L v ≡ true
    → power L (suc n) (u ++ v) ≡ true
unfolding power
power_appended cuts L zero [] v h l =
    (cuts L (power L zero) v).1
    (record { first = v; second = []; whole = append-nil v; in_first = l; in_second = refl })
power_appended cuts L zero (c ∷ u) v h l = absurd (false≢true h)
power_appended cuts L (suc n) u v h l =
    let k = (cuts L (power L n) u).0 h in
    (cuts L (power L (suc n)) (u ++ v)).1
    (record {
      first = k.first;
      second = k.second ++ v;
      whole = sym (append_assoc k.first k.second v) ∙ ap (λ w. w ++ v) k.whole;
      in_first = k.in_first;
      in_second = power_appended cuts L n k.second v k.in_second l;
    })

iterate_appended : CutIsSomeCut → IterationIsSomePower → (L : Language) (u v : List ℕ) → iterate L u ≡ true
    → L v ≡ true → iterate L (u ++ v) ≡ true
iterate_appended cuts powers L u v h l =
    let p = (powers L u).0 h in
    (powers L (u ++ v)).1 (suc p.0, power_appended cuts L p.0 u v p.1 l)

moved : CutIsSomeCut → (H X T M : Language) → ((u v : List ℕ) → H u ≡ true → X v ≡ true → H (u ++ v) ≡ true)
    → IsWithin M (cut X T) → IsWithin (cut H M) (cut H T)
moved cuts H X T M more parts w h =
    let k = (cuts H M w).0 h in
    let m = (cuts X T k.second).0 (parts k.second k.in_second) in
    (cuts H T w).1
    (record {
      first = k.first ++ m.first;
      second = m.second;
      whole = append_assoc k.first m.first m.second ∙ ap (λ s. k.first ++ s) m.whole ∙ k.whole;
      in_first = more k.first m.first k.in_first m.in_first;
      in_second = m.in_second;
    })

star_takes_up : CutIsSomeCut → IterationIsSomePower → (b x : Regex) → IsWithin (language x) (language b)
    → TakesUp (star b) x
unfolding language
star_takes_up cuts powers b x within t =
    moved cuts (language (star b)) (language x) (language t) (language (cat x t))
    (λ u v p q. iterate_appended cuts powers (language b) u v p (within v q)) (λ u h. h)

all_take_up : CutIsSomeCut → (x : Regex) → TakesUp (neg none) x
unfolding language
all_take_up cuts x t =
    moved cuts (language (neg none)) (language x) (language t) (language (cat x t)) (λ u v p q. refl) (λ u h. h)

pub star_head : CutIsSomeCut → IterationIsSomePower → (rs : List Regex) (head body first : ℕ)
    → star (regex_at rs body) ≡ regex_at rs head
    → IsWithin (language (regex_at rs first)) (language (regex_at rs body))
    → TakesUp (regex_at rs head) (regex_at rs first)
star_head cuts powers rs head body first is within =
    subst (λ h. TakesUp h (regex_at rs first)) is
    (star_takes_up cuts powers (regex_at rs body) (regex_at rs first) within)

pub all_head : CutIsSomeCut → (rs : List Regex) (head part first : ℕ) → neg (regex_at rs part) ≡ regex_at rs head
    → regex_at rs part ≡ none → TakesUp (regex_at rs head) (regex_at rs first)
all_head cuts rs head part first is nothing =
    subst (λ h. TakesUp h (regex_at rs first)) (ap neg (sym nothing) ∙ is) (all_take_up cuts (regex_at rs first))

-- Sets.

pub set_within : (rs : List Regex) (n : ℕ) (ranges : List Range) (M : Language) → set ranges ≡ regex_at rs n
    → IsWithin (one_character (in_ranges ranges)) M → IsWithin (language (regex_at rs n)) M
unfolding language
set_within rs n ranges M is within = subst (λ r. IsWithin (language r) M) is (λ u h. within u h)

pub within_set : (rs : List Regex) (n : ℕ) (ranges : List Range) (r : Range) → set ranges ≡ regex_at rs n
    → ((c : ℕ) → in_range r c ≡ true → in_ranges ranges c ≡ true)
    → IsWithin (one_character (in_range r)) (language (regex_at rs n))
unfolding language
within_set rs n ranges r is covered =
    subst (λ s. IsWithin (one_character (in_range r)) (language s)) is inside
  where
    inside : IsWithin (one_character (in_range r)) (language (set ranges))
    inside [] h = h
    inside (c ∷ []) h = covered c h
    inside (c ∷ d ∷ w) h = h

one_range : (r : Range) (M : Language) → IsWithin (one_character (in_range r)) M
    → IsWithin (one_character (in_ranges (r ∷ []))) M
unfolding in_ranges
one_range r M within [] h = within [] h
one_range r M within (c ∷ []) h = within (c ∷ []) (first (in_range r c) h)
  where
    first : (b : Bool) → (b || false) ≡ true → b ≡ true
    first true h = refl
    first false h = h
one_range r M within (c ∷ d ∷ w) h = within (c ∷ d ∷ w) h

pub alone_within : (ranges : List Range) (d : Range) (M : Language) → 1 ≤ length ranges → length ranges < 2
    → IsWithin (one_character (in_range (get_or ranges 0 d))) M → IsWithin (one_character (in_ranges ranges)) M
alone_within [] d M some few within = absurd (omega (arith, some))
alone_within (r ∷ []) d M some few within = one_range r M within
alone_within (r ∷ s ∷ rs) d M some few within = absurd (omega (arith, few))

pub range_within : (r s : Range) → s.0 ≤ r.0 → r.1 ≤ s.1 → (c : ℕ) → in_range r c ≡ true → in_range s c ≡ true
unfolding in_range
range_within r s low high c h =
    let p = and_parts (nat_le r.0 c) (nat_le c r.1) h in
    and_from (nat_le s.0 c) (nat_le c s.1) (grind (arith, nat_tests, low, p.0)) (grind (arith, nat_tests, high, p.1))

pub in_range_at : (rs : List Range) (i : ℕ) (d : Range) → i < length rs → (c : ℕ)
    → in_range (get_or rs i d) c ≡ true → in_ranges rs c ≡ true
unfolding in_ranges
in_range_at [] i d l c h = absurd (omega (arith, l))
in_range_at (r ∷ rs) zero d l c h = or_left _ _ h
in_range_at (r ∷ rs) (suc i) d l c h = or_right _ _ (in_range_at rs i d (omega (arith, l)) c h)

-- What follows from a head and a rest.

pub record IsNoting (rs : List Regex) (head rest at : ℕ) (old new : List (ℕ × ℕ)) : Type 0 where
  pub known : at < length rs
  pub follows : (L : Language) → FollowsFrom rs L (head, rest) → FollowsFrom rs L (head, at)
  pub weaker : AreWeaker rs (head, rest) old new

pub noting_next : (rs : List Regex) (head rest at next : ℕ) (old now new : List (ℕ × ℕ)) (there : Bool)
    → IsNoting rs head rest at old now → IsNext rs head at next
    → new ≡ cond there now (now ++ (head, next) ∷ []) → IsNoting rs head rest next old new
noting_next rs head rest at next old now new there n x is = record {
  known = x.known;
  follows = λ L f. x.follows L (n.follows L f);
  weaker = λ L f o. more L there (x.follows L (n.follows L f)) (n.weaker L f o) is;
}
  where
    more : (L : Language) (b : Bool) → FollowsFrom rs L (head, next) → All (FollowsFrom rs L) now
        → new ≡ cond b now (now ++ (head, next) ∷ []) → All (FollowsFrom rs L) new
    more L true f o e = rw e o
    more L false f o e = rw e (All-push (FollowsFrom rs L) now (head, next) o f)

-- One member.

abbrev pub is_pair : ℕ × ℕ → ℕ × ℕ → Bool
is_pair p q = nat_eq p.0 q.0 && nat_eq p.1 q.1

found_follows : (rs : List Regex) (L : Language) (pairs : List (ℕ × ℕ)) (p : ℕ × ℕ) → All (FollowsFrom rs L) pairs
    → list_any (is_pair p) pairs ≡ true → FollowsFrom rs L p
found_follows rs L [] p all found = absurd (false≢true found)
found_follows rs L (q ∷ qs) p all found = elim (or_cases (is_pair p q) _ found) [
  | inl here ↦
      let e = and_parts (nat_eq p.0 q.0) (nat_eq p.1 q.1) here in
      let first : q.0 ≡ p.0 = grind (arith, nat_tests, e.0) in
      let second : q.1 ≡ p.1 = grind (arith, nat_tests, e.1) in
      subst (λ n. FollowsFrom rs L (p.0, n)) second
      (subst (λ n. FollowsFrom rs L (n, q.1)) first (all 0 q (omega arith)))
  | inr later ↦ found_follows rs L qs p (λ k d l. all (suc k) d (omega (arith, l))) later
]

implied : (a b : Bool) → (a ≡ true → b ≡ true) → a ≡ (a && b)
implied true b h = sym (h refl)
implied false b h = refl

fewer : (rs : List Regex) (n : ℕ) (L : Language) (weaker : List (ℕ × ℕ)) → All (FollowsFrom rs L) weaker
    → All (FollowsFrom rs (λ u. L u && language (regex_at rs n) u)) weaker
fewer rs n L weaker all =
    All-weaker (FollowsFrom rs L) (FollowsFrom rs (λ u. L u && language (regex_at rs n) u))
    (λ p f u h. f u (and_parts (L u) (language (regex_at rs n) u) h).0) weaker all

pub taken_dropped : (rs : List Regex) (n head rest : ℕ) (kept : List ℕ) (weaker : List (ℕ × ℕ))
    → cat (regex_at rs head) (regex_at rs rest) ≡ regex_at rs n → list_any (is_pair (head, rest)) weaker ≡ true
    → IsTaken rs n kept weaker kept weaker
taken_dropped rs n head rest kept weaker is found L a = record {
  known = a.known;
  same = λ u. a.same u ∙ implied (L u) (language (regex_at rs n) u)
      (λ h. subst (λ r. language r u ≡ true) is (found_follows rs L weaker (head, rest) a.follow found u h));
  follow = fewer rs n L weaker a.follow;
}

pub taken_kept : (rs : List Regex) (n : ℕ) (kept kept' : List ℕ) (weaker : List (ℕ × ℕ)) → n < length rs
    → kept' ≡ kept ++ n ∷ [] → IsTaken rs n kept weaker kept' weaker
taken_kept rs n kept kept' weaker known is L a = record {
  known = numbers_push rs kept kept' n a.known known is;
  same = λ u. ap (λ ns. in_each rs ns u) is ∙ all_append (λ n. language (regex_at rs n) u) kept n
      ∙ ap (λ b. b && language (regex_at rs n) u) (a.same u);
  follow = fewer rs n L weaker a.follow;
}

pub taken_noted : (rs : List Regex) (n head rest : ℕ) (kept kept' : List ℕ) (weaker weaker' : List (ℕ × ℕ))
    → n < length rs → cat (regex_at rs head) (regex_at rs rest) ≡ regex_at rs n → kept' ≡ kept ++ n ∷ []
    → AreWeaker rs (head, rest) weaker weaker' → IsTaken rs n kept weaker kept' weaker'
taken_noted rs n head rest kept kept' weaker weaker' known is e noted L a =
    let t = taken_kept rs n kept kept' weaker known e L a in
    record {
      known = t.known;
      same = t.same;
      follow = noted (λ u. L u && language (regex_at rs n) u)
          (λ u h. subst (λ r. language r u ≡ true) (sym is) (and_parts (L u) (language (regex_at rs n) u) h).1)
          t.follow;
    }

-- Fronts with every word behind them.

cat_within : CutIsSomeCut → (h s t : Regex) → IsWithin (language s) (language t)
    → IsWithin (language (cat h s)) (language (cat h t))
unfolding language
cat_within cuts h s t within u c =
    let k = (cuts (language h) (language s) u).0 c in
    (cuts (language h) (language t) u).1
    (record {
      first = k.first;
      second = k.second;
      whole = k.whole;
      in_first = k.in_first;
      in_second = within k.second k.in_second;
    })

pub behind_head : CutIsSomeCut → (rs : List Regex) (wide narrow head other x y : ℕ) → x < wide → y < narrow
    → cat (regex_at rs head) (regex_at rs x) ≡ regex_at rs wide
    → cat (regex_at rs other) (regex_at rs y) ≡ regex_at rs narrow → nat_eq head other ≡ true
    → AreBehind rs wide narrow (x, y)
behind_head cuts rs wide narrow head other x y l m is other_is same =
    let e : head ≡ other = grind (arith, nat_tests, same) in
    record {
      first = l;
      second = m;
      within = λ w.
          subst (λ r. IsWithin (language r) (language (regex_at rs wide))) other_is
          (subst (λ r. IsWithin (language (cat (regex_at rs other) (regex_at rs y))) (language r)) is
          (subst (λ n. IsWithin (language (cat (regex_at rs n) (regex_at rs y)))
          (language (cat (regex_at rs head) (regex_at rs x)))) e
          (cat_within cuts (regex_at rs head) (regex_at rs y) (regex_at rs x) w)));
    }

-- every word is one of the complement of none
pub every_word : (rs : List Regex) (n part : ℕ) (L : Language) → neg (regex_at rs part) ≡ regex_at rs n
    → regex_at rs part ≡ none → IsWithin L (language (regex_at rs n))
unfolding language
every_word rs n part L is nothing u h = subst (λ r. language r u ≡ true) (ap neg (sym nothing) ∙ is) refl

-- a word of the body, with one of the star behind it
star_more : CutIsSomeCut → IterationIsSomePower → (b t : Regex) → IsWithin (language t) (language (star b))
    → IsWithin (language (cat b t)) (language (star b))
unfolding language power
star_more cuts powers b t within u h =
    let k = (cuts (language b) (language t) u).0 h in
    let p = (powers (language b) k.second).0 (within k.second k.in_second) in
    (powers (language b) u).1 (
      suc p.0,
      (cuts (language b) (power (language b) p.0) u).1
          (record { first = k.first; second = k.second; whole = k.whole; in_first = k.in_first; in_second = p.1 }),
    )

star_once : CutIsSomeCut → IterationIsSomePower → (b : Regex) → IsWithin (language b) (language (star b))
unfolding language power
star_once cuts powers b u h =
    (powers (language b) u).1 (
      suc zero,
      (cuts (language b) (power (language b) zero) u).1
          (record { first = u; second = []; whole = append-nil u; in_first = h; in_second = refl }),
    )

pub part_behind : CutIsSomeCut → (rs : List Regex) (body at first next : ℕ) → next < at
    → cat (regex_at rs first) (regex_at rs next) ≡ regex_at rs at
    → IsWithin (language (regex_at rs first)) (language (regex_at rs body)) → IsBehindPart rs body at next
unfolding language
part_behind cuts rs body at first next less is within = record {
  part = less;
  within = subst (λ r. IsWithin (language r) (language (cat (regex_at rs body) (regex_at rs next)))) is
      (λ u h.
      let k = (cuts (language (regex_at rs first)) (language (regex_at rs next)) u).0 h in
      (cuts (language (regex_at rs body)) (language (regex_at rs next)) u).1
      (record {
        first = k.first;
        second = k.second;
        whole = k.whole;
        in_first = within k.first k.in_first;
        in_second = k.in_second;
      }));
}

pub row_more : CutIsSomeCut → IterationIsSomePower → (rs : List Regex) (all body at next : ℕ)
    → star (regex_at rs body) ≡ regex_at rs all → IsBehindPart rs body at next
    → IsWithin (language (regex_at rs next)) (language (regex_at rs all))
    → IsWithin (language (regex_at rs at)) (language (regex_at rs all))
row_more cuts powers rs all body at next is b within u h =
    subst (λ r. language r u ≡ true) is
    (star_more cuts powers (regex_at rs body) (regex_at rs next)
    (λ v w. subst (λ r. language r v ≡ true) (sym is) (within v w)) u (b.within u h))

pub row_ends : CutIsSomeCut → IterationIsSomePower → (rs : List Regex) (all body at : ℕ)
    → star (regex_at rs body) ≡ regex_at rs all
    → IsWithin (language (regex_at rs at)) (language (regex_at rs body))
    → IsWithin (language (regex_at rs at)) (language (regex_at rs all))
row_ends cuts powers rs all body at is within u h =
    subst (λ r. language r u ≡ true) is (star_once cuts powers (regex_at rs body) u (within u h))

pub row_whole : (rs : List Regex) (all at : ℕ) → not (nat_eq at all) ≡ false
    → IsWithin (language (regex_at rs at)) (language (regex_at rs all))
row_whole rs all at same = by (nat_eq at all) refl same
  where
    by : (b : Bool) → nat_eq at all ≡ b → not b ≡ false
        → IsWithin (language (regex_at rs at)) (language (regex_at rs all))
    by true e h =
        let f : at ≡ all = grind (arith, nat_tests, e) in
        subst (λ n. IsWithin (language (regex_at rs at)) (language (regex_at rs n))) f (λ u w. w)
    by false e h = absurd (true≢false h)

before_within : (rs : List Regex) (parts : List ℕ) (i d : ℕ) (M : Language) → 0 < i → i < length parts
    → IsWithin (language (regex_at rs (get_or parts (i - 1) d))) M → IsWithin (in_each rs (take i parts)) M
before_within rs parts i d M some l within u h =
    let one : (i - 1) + 1 ≡ i = omega (arith, some) in
    within u (and_parts (in_each rs (take (i - 1) parts) u) (language (regex_at rs (get_or parts (i - 1) d)) u)
    (sym (list_all_more (λ n. language (regex_at rs n) u) parts (i - 1) d (omega (arith, l)))
    ∙ ap (λ k. in_each rs (take k parts) u) one
    ∙ h)).1

pub before_front : (rs : List Regex) (parts : List ℕ) (i front regex : ℕ) → (i ≡ 0 → ⊥) → i < length parts
    → front ≡ get_or parts i front → regex ≡ get_or parts (i - 1) regex
    → IsWithin (language (regex_at rs regex)) (language (regex_at rs front))
    → IsWithin (in_each rs (take i parts)) (language (regex_at rs (get_or parts i 0)))
before_front rs parts i front regex some l here before within =
    before_within rs parts i regex (language (regex_at rs (get_or parts i 0))) (omega (arith, some)) l
    (subst (λ n. IsWithin (language (regex_at rs n)) (language (regex_at rs (get_or parts i 0)))) before
    (subst (λ n. IsWithin (language (regex_at rs regex)) (language (regex_at rs n)))
    (here ∙ get_or_default parts i front 0 l) within))

-- the numbers that are kept, of those before a place
pub record AreFronts (rs : List Regex) (parts kept : List ℕ) (i : ℕ) : Type 0 where
  pub known : AllNumbers rs kept
  pub same : (u : List ℕ) → in_each rs kept u ≡ in_each rs (take i parts) u

pub fronts_start : (rs : List Regex) (parts kept : List ℕ) → kept ≡ [] → AreFronts rs parts kept 0
fronts_start rs parts kept e = record {
  known = rw e (All-nil (λ i. i < length rs));
  same = λ u. ap (λ ns. in_each rs ns u) e;
}

pub front_dropped : (rs : List Regex) (parts kept : List ℕ) (i d : ℕ) → i < length parts
    → IsWithin (in_each rs (take i parts)) (language (regex_at rs (get_or parts i d))) → AreFronts rs parts kept i
    → AreFronts rs parts kept (i + 1)
front_dropped rs parts kept i d l within f = record {
  known = f.known;
  same = λ u. f.same u ∙ implied (in_each rs (take i parts) u) _ (within u)
      ∙ sym (list_all_more (λ n. language (regex_at rs n) u) parts i d l);
}

pub front_kept : (rs : List Regex) (parts kept kept' : List ℕ) (i part : ℕ) → i < length parts → part < length rs
    → part ≡ get_or parts i part → kept' ≡ kept ++ part ∷ [] → AreFronts rs parts kept i
    → AreFronts rs parts kept' (i + 1)
front_kept rs parts kept kept' i part l known is e f = record {
  known = numbers_push rs kept kept' part f.known known e;
  same = λ u. ap (λ ns. in_each rs ns u) e ∙ all_append (λ n. language (regex_at rs n) u) kept part
      ∙ ap (λ b. b && language (regex_at rs part) u) (f.same u)
      ∙ ap (λ n. in_each rs (take i parts) u && language (regex_at rs n) u) is
      ∙ sym (list_all_more (λ n. language (regex_at rs n) u) parts i part l);
}

pub fronts_done : (rs : List Regex) (parts kept : List ℕ) (i : ℕ) → length parts ≤ i → AreFronts rs parts kept i
    → (u : List ℕ) → in_each rs kept u ≡ in_each rs parts u
fronts_done rs parts kept i l f u = f.same u ∙ ap (λ ns. in_each rs ns u) (take_all i parts l)

-- All members.

all_any : {A : Type 0} (p : A → Bool) (xs : List A) → list_all p xs ≡ not (list_any (λ x. not (p x)) xs)
all_any p [] = refl
all_any p (x ∷ xs) = ap (λ b. p x && b) (all_any p xs) ∙ step (p x) (list_any (λ x. not (p x)) xs)
  where
    step : (a b : Bool) → (a && not b) ≡ not (not a || b)
    step true b = refl
    step false b = refl

pub rows_start : (rs : List Regex) (parts : List ℕ) (u : List ℕ)
    → (in_rows rs [] u && in_each rs parts u) ≡ in_each rs parts u
rows_start rs parts u = refl

pub rows_next : (rs : List Regex) (parts : List ℕ) (i part key : ℕ) (rows rows' : List (ℕ × ℕ)) → i < length parts
    → part ≡ get_or parts i part → rows' ≡ rows ++ (key, part) ∷ [] → (u : List ℕ)
    → (in_rows rs rows u && in_each rs (drop i parts) u) ≡ in_each rs parts u
    → (in_rows rs rows' u && in_each rs (drop (i + 1) parts) u) ≡ in_each rs parts u
rows_next rs parts i part key rows rows' l is e u inv =
    ap (λ b. b && in_each rs (drop (i + 1) parts) u)
    (ap (λ rows. in_rows rs rows u) e ∙ all_append (λ row. language (regex_at rs row.1) u) rows (key, part))
    ∙ step (in_rows rs rows u) (language (regex_at rs part) u) (in_each rs (drop (i + 1) parts) u)
    ∙ ap (λ b. in_rows rs rows u && b) (sym (at_drop_more (λ ns. in_each rs ns u) parts i part l
    ∙ ap (λ n. in_each rs (n ∷ drop (i + 1) parts) u) (sym is)))
    ∙ inv
  where
    step : (a p r : Bool) → ((a && p) && r) ≡ (a && (p && r))
    step true p r = refl
    step false p r = refl

pub rows_known : (rs : List Regex) (rows rows' : List (ℕ × ℕ)) (key part : ℕ) → part < length rs
    → rows' ≡ rows ++ (key, part) ∷ [] → All (λ row. row.1 < length rs) rows → All (λ row. row.1 < length rs) rows'
rows_known rs rows rows' key part l e all = rw e (All-push (λ row. row.1 < length rs) rows (key, part) all l)

pub rows_done : (rs : List Regex) (parts : List ℕ) (i : ℕ) (rows sorted : List (ℕ × ℕ)) → length parts ≤ i
    → All (λ row. row.1 < length rs) rows
    → ((u : List ℕ) → (in_rows rs rows u && in_each rs (drop i parts) u) ≡ in_each rs parts u)
    → IsPermutation rows sorted → AreRows rs parts sorted
rows_done rs parts i rows sorted l known inv same = record {
  known = All-permutation (λ row. row.1 < length rs) rows sorted same known;
  same = λ u.
      all_any (λ row. language (regex_at rs row.1) u) sorted
      ∙ ap not (sym (list_any-IsPermutation (λ row. not (language (regex_at rs row.1) u)) rows sorted same))
      ∙ sym (all_any (λ row. language (regex_at rs row.1) u) rows)
      ∙ whole (in_rows rs rows u)
      ∙ ap (λ b. in_rows rs rows u && b) (sym (at_drop_all (λ ns. in_each rs ns u) parts i l))
      ∙ inv u;
}
  where
    whole : (b : Bool) → b ≡ (b && true)
    whole true = refl
    whole false = refl

-- The rows that are gone through.
pub record IsGoing (rs : List Regex) (rows : List (ℕ × ℕ)) (kept : List ℕ) (weaker : List (ℕ × ℕ)) (i : ℕ)
    : Type 0 where
  pub so_far : Language
  pub kept_are : AreKept rs kept weaker so_far
  pub same : (u : List ℕ) → (so_far u && in_rows rs (drop i rows) u) ≡ in_rows rs rows u

pub going_start : (rs : List Regex) (rows : List (ℕ × ℕ)) (kept : List ℕ) (weaker : List (ℕ × ℕ)) → kept ≡ []
    → weaker ≡ [] → IsGoing rs rows kept weaker 0
going_start rs rows kept weaker none_kept none_noted = record {
  so_far = λ u. true;
  kept_are = record {
    known = rw none_kept (All-nil (λ i. i < length rs));
    same = λ u. ap (λ ns. in_each rs ns u) none_kept;
    follow = rw none_noted (All-nil (FollowsFrom rs (λ u. true)));
  };
  same = λ u. refl;
}

pub going_next : (rs : List Regex) (rows : List (ℕ × ℕ)) (kept kept' : List ℕ) (weaker weaker' : List (ℕ × ℕ)) (i : ℕ)
    (row : ℕ × ℕ) → i < length rows → row ≡ get_or rows i row → IsTaken rs row.1 kept weaker kept' weaker'
    → IsGoing rs rows kept weaker i → IsGoing rs rows kept' weaker' (i + 1)
going_next rs rows kept kept' weaker weaker' i row l is taken g = record {
  so_far = λ u. g.so_far u && language (regex_at rs row.1) u;
  kept_are = taken g.so_far g.kept_are;
  same = λ u. step (g.so_far u) (language (regex_at rs row.1) u) (in_rows rs (drop (i + 1) rows) u)
      ∙ ap (λ b. g.so_far u && b) (sym (at_drop_more (λ rows. in_rows rs rows u) rows i row l
      ∙ ap (λ r. in_rows rs (r ∷ drop (i + 1) rows) u) (sym is)))
      ∙ g.same u;
}
  where
    step : (a p r : Bool) → ((a && p) && r) ≡ (a && (p && r))
    step true p r = refl
    step false p r = refl

pub going_done : (rs : List Regex) (rows : List (ℕ × ℕ)) (kept : List ℕ) (weaker : List (ℕ × ℕ)) (i : ℕ)
    → length rows ≤ i → IsGoing rs rows kept weaker i → (u : List ℕ) → in_each rs kept u ≡ in_rows rs rows u
going_done rs rows kept weaker i l g u =
    g.kept_are.same u
    ∙ whole (g.so_far u)
    ∙ ap (λ b. g.so_far u && b) (sym (at_drop_all (λ rows. in_rows rs rows u) rows i l))
    ∙ g.same u
  where
    whole : (b : Bool) → b ≡ (b && true)
    whole true = refl
    whole false = refl

-- The whole intersection.

pub needed_and : IntersectionIsOfEach → (rs : List Regex) (n : ℕ) (parts kept : List ℕ)
    → and (regexes (regexes_at rs parts)) ≡ regex_at rs n → AllNumbers rs kept
    → ((u : List ℕ) → in_each rs kept u ≡ in_each rs parts u) → AreNeeded rs n kept
needed_and each rs n parts kept is known same = record {
  known = known;
  same = λ u. same u ∙ sym (each_of rs parts u) ∙ sym (each (regexes_at rs parts) u) ∙ ap (λ r. language r u) is;
}

pub strong_and : MkandKeepsLanguage → IntersectionIsOfEach → (old new : List Regex) (n id : ℕ) (kept : List ℕ)
    → Names new id (mkand (regexes_at old kept)) → AreNeeded old n kept → (u : List ℕ)
    → language (regex_at new id) u ≡ language (regex_at old n) u
strong_and keeps each old new n id kept names needed u = and_is keeps each old new kept id names u ∙ needed.same u
