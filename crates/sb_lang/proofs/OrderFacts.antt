-- The order of regexes by their codes is the order by kinds and parts, is total, and tells regexes apart.
use Rattle.std.proofs.Common.{◌≡◌, ℕ, ◌<◌, true, List, [], ◌∷◌, ◌++◌, refl, sym, ap, ap₂, ◌∙◌, arith, append_assoc}
use Rattle.std.specs.declared.cmp.Ordering.{Ordering}
use Rattle.std.specs.declared.cmp.Ordering.TheVariants.{Less, Equal, Greater}
use Rattle.std.specs.Ordering.{nat_cmp, is_eq, ordering_then}
use Rattle.std.specs.Cmp.{IsTotalOrder}
use Rattle.std.specs.Cmp.Lexicographic.{slice_cmp}
use Rattle.std.proofs.lemmas.Bool.{false≢true}
use Rattle.std.proofs.lemmas.Bool.Decides.{nat_tests}
use Rattle.std.proofs.lemmas.Cmp.{nat_list_cmp_total, on_total, tied_itself}
use Rattle.sb_class.specs.Ranges.{Range}
use Rattle.sb_lang.specs.Regex.{Regex, Regexes, none, eps, set, cat, alt, and, neg, star, rep, path, no_more, more, parts}
use Rattle.sb_lang.specs.Order.{range_code, code, codes, regex_cmp, regex_eq}
use Rattle.sb_lang.specs.OrderLaws.{kind, ends, IsByKindThenParts}

abbrev pub word_cmp : List ℕ → List ℕ → Ordering
word_cmp u v = slice_cmp nat_cmp u v

pub then_assoc : (x y z : Ordering) → ordering_then (ordering_then x y) z ≡ ordering_then x (ordering_then y z)
then_assoc Less y z = refl
then_assoc Equal y z = refl
then_assoc Greater y z = refl

then-Equal : (x : Ordering) → ordering_then x Equal ≡ x
then-Equal Less = refl
then-Equal Equal = refl
then-Equal Greater = refl

-- two numbers in front
range_code-append : (rs ss : List Range) (u v : List ℕ)
    → word_cmp (range_code rs ++ u) (range_code ss ++ v)
    ≡ ordering_then (word_cmp (range_code rs) (range_code ss)) (word_cmp u v)
unfolding range_code
range_code-append [] [] u v = refl
range_code-append [] (s ∷ ss) u v = refl
range_code-append (r ∷ rs) [] u v = refl
range_code-append (r ∷ rs) (s ∷ ss) u v =
    ap (λ o. ordering_then (nat_cmp r.0 s.0) (ordering_then (nat_cmp r.1 s.1) o)) (range_code-append rs ss u v)
    ∙ ap (λ o. ordering_then (nat_cmp r.0 s.0) o) (sym (then_assoc (nat_cmp r.1 s.1) _ _))
    ∙ sym (then_assoc (nat_cmp r.0 s.0) _ _)

-- what stands behind codes counts only where they are one
mutual
  unfolding code codes

  pub code-append : (a b : Regex) (u v : List ℕ)
      → word_cmp (code a ++ u) (code b ++ v) ≡ ordering_then (regex_cmp a b) (word_cmp u v)
  code-append none none u v = refl
  code-append eps eps u v = refl
  code-append (set rs) (set ss) u v = range_code-append rs ss u v
  code-append (cat a b) (cat c d) u v =
      ap₂ (λ x y. word_cmp x y) (append_assoc (code a) (code b) u) (append_assoc (code c) (code d) v)
      ∙ code-append a c (code b ++ u) (code d ++ v)
      ∙ ap (λ o. ordering_then (regex_cmp a c) o) (code-append b d u v)
      ∙ sym (then_assoc (regex_cmp a c) (regex_cmp b d) (word_cmp u v))
      ∙ ap (λ o. ordering_then o (word_cmp u v)) (sym (code-append a c (code b) (code d)))
  code-append (alt ps) (alt qs) u v = codes-append ps qs u v
  code-append (and ps) (and qs) u v = codes-append ps qs u v
  code-append (neg a) (neg b) u v = code-append a b u v
  code-append (star a) (star b) u v = code-append a b u v
  code-append (rep a n m) (rep b k l) u v =
      ap₂ (λ x y. word_cmp x y) (append_assoc (code a) (n ∷ m ∷ []) u) (append_assoc (code b) (k ∷ l ∷ []) v)
      ∙ code-append a b (n ∷ m ∷ u) (k ∷ l ∷ v)
      ∙ ap (λ o. ordering_then (regex_cmp a b) o) (sym (then_assoc (nat_cmp n k) (nat_cmp m l) (word_cmp u v)))
      ∙ sym (then_assoc (regex_cmp a b) (ordering_then (nat_cmp n k) (nat_cmp m l)) (word_cmp u v))
      ∙ ap (λ o. ordering_then o (word_cmp u v))
      (ap (λ o. ordering_then (regex_cmp a b) (ordering_then (nat_cmp n k) o)) (sym (then-Equal (nat_cmp m l)))
      ∙ sym (code-append a b (n ∷ m ∷ []) (k ∷ l ∷ [])))
  code-append (path a b) (path c d) u v =
      ap₂ (λ x y. word_cmp x y) (append_assoc (code a) (code b) u) (append_assoc (code c) (code d) v)
      ∙ code-append a c (code b ++ u) (code d ++ v)
      ∙ ap (λ o. ordering_then (regex_cmp a c) o) (code-append b d u v)
      ∙ sym (then_assoc (regex_cmp a c) (regex_cmp b d) (word_cmp u v))
      ∙ ap (λ o. ordering_then o (word_cmp u v)) (sym (code-append a c (code b) (code d)))
  code-append _ _ u v = refl

  pub codes-append : (ps qs : Regexes) (u v : List ℕ)
      → word_cmp (codes ps ++ u) (codes qs ++ v) ≡ ordering_then (word_cmp (codes ps) (codes qs)) (word_cmp u v)
  codes-append no_more no_more u v = refl
  codes-append no_more (more b qs) u v = refl
  codes-append (more a ps) no_more u v = refl
  codes-append (more a ps) (more b qs) u v =
      ap₂ (λ x y. word_cmp x y) (append_assoc (code a) (codes ps) u) (append_assoc (code b) (codes qs) v)
      ∙ code-append a b (codes ps ++ u) (codes qs ++ v)
      ∙ ap (λ o. ordering_then (regex_cmp a b) o) (codes-append ps qs u v)
      ∙ sym (then_assoc (regex_cmp a b) (word_cmp (codes ps) (codes qs)) (word_cmp u v))
      ∙ ap (λ o. ordering_then o (word_cmp u v)) (sym (code-append a b (codes ps) (codes qs)))

is_eq-then : (x y : Ordering) → is_eq (ordering_then x y) ≡ true → (is_eq x ≡ true) × (is_eq y ≡ true)
is_eq-then Less y h = absurd (false≢true h)
is_eq-then Equal y h = (refl, h)
is_eq-then Greater y h = absurd (false≢true h)

number_from_cmp : (n k : ℕ) → is_eq (nat_cmp n k) ≡ true → n ≡ k
number_from_cmp n k h = grind (arith, nat_tests)

-- what a tie of two parts tells of each
two_tied : (a c : Regex) (u v : List ℕ) → is_eq (word_cmp (code a ++ u) (code c ++ v)) ≡ true
    → (regex_eq a c ≡ true) × (is_eq (word_cmp u v) ≡ true)
two_tied a c u v h = is_eq-then (regex_cmp a c) (word_cmp u v) (ap is_eq (sym (code-append a c u v)) ∙ h)

ranges_from_cmp : (rs ss : List Range) → is_eq (word_cmp (range_code rs) (range_code ss)) ≡ true → rs ≡ ss
unfolding range_code
ranges_from_cmp [] [] h = refl
ranges_from_cmp [] (s ∷ ss) h = absurd (false≢true h)
ranges_from_cmp (r ∷ rs) [] h = absurd (false≢true h)
ranges_from_cmp (r ∷ rs) (s ∷ ss) h =
    let p = is_eq-then (nat_cmp r.0 s.0) _ h in
    let q = is_eq-then (nat_cmp r.1 s.1) _ p.1 in
    ap₂ ◌∷◌ (ap₂ (λ x y. (x, y)) (number_from_cmp r.0 s.0 p.0) (number_from_cmp r.1 s.1 q.0))
    (ranges_from_cmp rs ss q.1)

mutual
  unfolding code codes

  pub same_regex : (a b : Regex) → regex_eq a b ≡ true → a ≡ b
  same_regex none none h = refl
  same_regex eps eps h = refl
  same_regex (set rs) (set ss) h = ap set (ranges_from_cmp rs ss h)
  same_regex (cat a b) (cat c d) h =
      let p = two_tied a c (code b) (code d) h in
      ap₂ cat (same_regex a c p.0) (same_regex b d p.1)
  same_regex (alt ps) (alt qs) h = ap alt (same_regexes ps qs h)
  same_regex (and ps) (and qs) h = ap and (same_regexes ps qs h)
  same_regex (neg a) (neg b) h = ap neg (same_regex a b h)
  same_regex (star a) (star b) h = ap star (same_regex a b h)
  same_regex (rep a n m) (rep b k l) h =
      let p = two_tied a b (n ∷ m ∷ []) (k ∷ l ∷ []) h in
      let q = is_eq-then (nat_cmp n k) _ p.1 in
      let r = is_eq-then (nat_cmp m l) _ q.1 in
      rw (number_from_cmp n k q.0, number_from_cmp m l r.0) (ap (λ x. rep x k l) (same_regex a b p.0))
  same_regex (path a b) (path c d) h =
      let p = two_tied a c (code b) (code d) h in
      ap₂ path (same_regex a c p.0) (same_regex b d p.1)
  same_regex _ _ h = absurd (false≢true h)

  pub same_regexes : (ps qs : Regexes) → is_eq (word_cmp (codes ps) (codes qs)) ≡ true → ps ≡ qs
  same_regexes no_more no_more h = refl
  same_regexes no_more (more b qs) h = absurd (false≢true h)
  same_regexes (more a ps) no_more h = absurd (false≢true h)
  same_regexes (more a ps) (more b qs) h =
      let p = two_tied a b (codes ps) (codes qs) h in
      ap₂ more (same_regex a b p.0) (same_regexes ps qs p.1)

pub regex_cmp_total : IsTotalOrder regex_cmp
regex_cmp_total = on_total code nat_list_cmp_total

pub regex_eq-itself : (a : Regex) → regex_eq a a ≡ true
regex_eq-itself a = ap is_eq (tied_itself regex_cmp_total a)

pub regex_eq-from : (a b : Regex) → a ≡ b → regex_eq a b ≡ true
regex_eq-from a b e = ap (regex_eq a) (sym e) ∙ regex_eq-itself a

pub code_tells_apart : (a b : Regex) → code a ≡ code b → a ≡ b
code_tells_apart a b e =
    same_regex a b (ap (λ w. is_eq (word_cmp (code a) w)) (sym e) ∙ regex_eq-itself a)

pub cmp_decides : (a b : Regex) → (regex_cmp a b ≡ Equal → a ≡ b) × (a ≡ b → regex_cmp a b ≡ Equal)
cmp_decides a b = (
  λ e. same_regex a b (ap is_eq e),
  λ e. ap (regex_cmp a) (sym e) ∙ tied_itself regex_cmp_total a,
)

codes-parts : (ps qs : Regexes) → word_cmp (codes ps) (codes qs) ≡ slice_cmp regex_cmp (parts ps) (parts qs)
unfolding code codes parts
codes-parts no_more no_more = refl
codes-parts no_more (more b qs) = refl
codes-parts (more a ps) no_more = refl
codes-parts (more a ps) (more b qs) = code-append a b (codes ps) (codes qs)
    ∙ ap (λ o. ordering_then (regex_cmp a b) o) (codes-parts ps qs)

ranges-ends : (rs ss : List Range) → word_cmp (range_code rs) (range_code ss) ≡ word_cmp (ends rs) (ends ss)
unfolding range_code ends
ranges-ends [] [] = refl
ranges-ends [] (s ∷ ss) = refl
ranges-ends (r ∷ rs) [] = refl
ranges-ends (r ∷ rs) (s ∷ ss) =
    ap (λ o. ordering_then (nat_cmp r.0 s.0) (ordering_then (nat_cmp r.1 s.1) o)) (ranges-ends rs ss)

number_below : (n k : ℕ) (o : Ordering) → n < k → ordering_then (nat_cmp n k) o ≡ Less
number_below n k o h = ap (λ x. ordering_then x o) (below n k h)
  where
    below : (n k : ℕ) → n < k → nat_cmp n k ≡ Less
    below n k h = grind (arith, nat_tests)

-- a code begins with the kind's place
code-kind : (a : Regex) → (w : List ℕ) × (code a ≡ kind a ∷ w)
unfolding code codes kind
code-kind none = ([], refl)
code-kind eps = ([], refl)
code-kind (set rs) = (range_code rs, refl)
code-kind (cat a b) = (code a ++ code b, refl)
code-kind (alt ps) = (codes ps, refl)
code-kind (and ps) = (codes ps, refl)
code-kind (neg a) = (code a, refl)
code-kind (star a) = (code a, refl)
code-kind (rep a n m) = (code a ++ n ∷ m ∷ [], refl)
code-kind (path a b) = (code a ++ code b, refl)

pub order_by_parts : IsByKindThenParts regex_cmp
unfolding code codes
order_by_parts = record {
  kinds = λ a b h.
      let p = code-kind a in
      let q = code-kind b in
      ap₂ (λ u v. word_cmp u v) p.1 q.1 ∙ number_below (kind a) (kind b) (word_cmp p.0 q.0) h;
  sets = ranges-ends;
  concatenations = λ a b c d. code-append a c (code b) (code d);
  unions = codes-parts;
  intersections = codes-parts;
  complements = λ a b. refl;
  stars = λ a b. refl;
  repetitions = λ a n m b k l.
      code-append a b (n ∷ m ∷ []) (k ∷ l ∷ [])
      ∙ ap (λ o. ordering_then (regex_cmp a b) (ordering_then (nat_cmp n k) o)) (then-Equal (nat_cmp m l));
  paths = λ a b c d. code-append a c (code b) (code d);
}

pub regex_eq-sym : (a b : Regex) → regex_eq a b ≡ true → regex_eq b a ≡ true
regex_eq-sym a b h = regex_eq-from b a (sym (same_regex a b h))
