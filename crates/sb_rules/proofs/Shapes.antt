-- Whether what a constructor gives is the node itself.
use Rattle.std.proofs.Common.{◌≡◌, ℕ, suc, ◌<◌, Bool, true, false, ◌&&◌, nat_eq, List, [], ◌∷◌, length, refl, sym, ap, ap₂, ◌∙◌, arith, length-append}
use Rattle.std.specs.List.{All}
use Rattle.std.specs.Cmp.Lexicographic.{pointwise}
use Rattle.std.proofs.lemmas.Bool.{and_parts, false≢true}
use Rattle.std.proofs.lemmas.Bool.Decides.{nat_tests}
use Rattle.sb_class.specs.Ranges.{Range, rises_from}
use Rattle.sb_lang.specs.Regex.{Regex, none, eps, set, cat, alt, and, neg, star, rep, path, regexes, parts}
use Rattle.sb_lang.specs.Order.{code, regex_eq}
use Rattle.sb_lang.specs.OrderLaws.{OrderTellsApart}
use Rattle.sb_lang.specs.Constructors.{mkset, mkcat, mkalt, mkand, mknot, mkstar, mkrep, mkpath}
use Rattle.sb_lang.specs.NormalForm.{is_normal, all_normal}
use Rattle.sb_lang.proofs.CallerLemmas.{parts-regexes, alt_parts, and_parts_of}
use Rattle.sb_regex.specs.Numbered.{regex_at, regexes_at, AllNumbers, AreDistinct}
use Rattle.sb_regex.specs.Nodes.{node_regex, PartsBelow}
use Rattle.sb_regex.specs.declared.node.Node.{Node}
use Rattle.sb_regex.specs.declared.node.Node.TheVariants as node
use Rattle.sb_rulebook.proofs.CallerLemmas.{same_regex}
use Rattle.sb_rules.specs.Making.{is_cat_node, is_cat_of, is_alt_of, is_and_of, is_not_of, is_star_of, is_rep_of, is_path_of}

-- Tests that fail.

pub other-regex : OrderTellsApart → (a b : Regex) → (a ≡ b → ⊥) → regex_eq a b ≡ false
other-regex apart a b h = step (regex_eq a b) refl
  where
    step : (t : Bool) → regex_eq a b ≡ t → t ≡ false
    step true e = absurd (h (same_regex apart a b e))
    step false e = refl

pub and-false : (p q : Bool) → q ≡ false → (p && q) ≡ false
and-false true q h = h
and-false false q h = refl

nat-same : (n m : ℕ) → nat_eq n m ≡ true → n ≡ m
nat-same n m h = grind (arith, nat_tests)

same-nat : (n m : ℕ) → n ≡ m → nat_eq n m ≡ true
same-nat n m h = grind (arith, nat_tests)

numbers-same : (is js : List ℕ) → pointwise nat_eq is js ≡ true → is ≡ js
numbers-same [] [] h = refl
numbers-same [] (j ∷ js) h = absurd (false≢true h)
numbers-same (i ∷ is) [] h = absurd (false≢true h)
numbers-same (i ∷ is) (j ∷ js) h =
    let p = and_parts (nat_eq i j) (pointwise nat_eq is js) h in
    ap₂ ◌∷◌ (nat-same i j p.0) (numbers-same is js p.1)

itself : (is : List ℕ) → pointwise nat_eq is is ≡ true
itself [] = refl
itself (i ∷ is) = ap₂ ◌&&◌ (same-nat i i refl) (itself is)

-- Numbers of the same regexes are the same.

head-of : (a b : Regex) (xs ys : List Regex) → a ∷ xs ≡ b ∷ ys → a ≡ b
head-of a b xs ys h = cc

tail-of : (a b : Regex) (xs ys : List Regex) → a ∷ xs ≡ b ∷ ys → xs ≡ ys
tail-of a b xs ys h = cc

nil-not : (x : Regex) (xs : List Regex) → [] ≡ x ∷ xs → ⊥
nil-not x xs e = cc

not-nil : (x : Regex) (xs : List Regex) → x ∷ xs ≡ [] → ⊥
not-nil x xs e = cc

same-numbers : (rs : List Regex) (is js : List ℕ) → AreDistinct rs → AllNumbers rs is → AllNumbers rs js
    → regexes_at rs is ≡ regexes_at rs js → is ≡ js
same-numbers rs [] [] d p q h = refl
same-numbers rs [] (j ∷ js) d p q h = absurd (nil-not _ _ h)
same-numbers rs (i ∷ is) [] d p q h = absurd (not-nil _ _ h)
same-numbers rs (i ∷ is) (j ∷ js) d p q h =
    ap₂ ◌∷◌ (d i j (p 0 0 (omega arith)) (q 0 0 (omega arith)) (head-of _ _ _ _ h))
    (same-numbers rs is js d (λ k e l. p (suc k) e (omega (arith, l))) (λ k e l. q (suc k) e (omega (arith, l)))
    (tail-of _ _ _ _ h))

-- The parts of a node are regexes.

parts-numbers : (rs : List Regex) (id : ℕ) (ps : List ℕ) → id < length rs → All (λ i. i < id) ps → AllNumbers rs ps
parts-numbers rs id ps l h = λ k d m. let low = h k d m in omega (arith, low, l)

-- No two kinds of regexes are one.

module _ (rs : List Regex) (ids : List ℕ) where
  alt-parts-at : (ps : List ℕ) → alt (regexes (regexes_at rs ps)) ≡ alt (regexes (regexes_at rs ids))
      → regexes_at rs ps ≡ regexes_at rs ids
  alt-parts-at ps h =
      sym (parts-regexes (regexes_at rs ps)) ∙ ap parts (alt_parts _ _ h) ∙ parts-regexes (regexes_at rs ids)

  and-parts-at : (ps : List ℕ) → and (regexes (regexes_at rs ps)) ≡ and (regexes (regexes_at rs ids))
      → regexes_at rs ps ≡ regexes_at rs ids
  and-parts-at ps h =
      sym (parts-regexes (regexes_at rs ps)) ∙ ap parts (and_parts_of _ _ h) ∙ parts-regexes (regexes_at rs ids)

cat-first : (a b c d : Regex) → cat a b ≡ cat c d → a ≡ c
cat-first a b c d h = cc

cat-second : (a b c d : Regex) → cat a b ≡ cat c d → b ≡ d
cat-second a b c d h = cc

path-from : (a b c d : Regex) → path a b ≡ path c d → a ≡ c
path-from a b c d h = cc

path-to : (a b c d : Regex) → path a b ≡ path c d → b ≡ d
path-to a b c d h = cc

neg-part : (a b : Regex) → neg a ≡ neg b → a ≡ b
neg-part a b h = cc

star-part : (a b : Regex) → star a ≡ star b → a ≡ b
star-part a b h = cc

rep-part : (a b : Regex) (k l n m : ℕ) → rep a k l ≡ rep b n m → a ≡ b
rep-part a b k l n m h = cc

rep-least : (a b : Regex) (k l n m : ℕ) → rep a k l ≡ rep b n m → k ≡ n
rep-least a b k l n m h = cc

rep-most : (a b : Regex) (k l n m : ℕ) → rep a k l ≡ rep b n m → l ≡ m
rep-most a b k l n m h = cc

-- A node whose regex is a union has the numbers of its members, and so on.

module _ (rs : List Regex) (id : ℕ) (once : AreDistinct rs) (below : id < length rs) where
  pub node-is-alt : (ids : List ℕ) (d : Node) → AllNumbers rs ids → PartsBelow id d
      → node_regex rs d ≡ alt (regexes (regexes_at rs ids)) → is_alt_of ids d ≡ true
  node-is-alt ids (node.Alt ps) all low h =
      let e = same-numbers rs ps.items ids once (parts-numbers rs id ps.items below low) all
      (alt-parts-at rs ids ps.items h) in
      ap (λ qs. pointwise nat_eq qs ids) e ∙ itself ids
  node-is-alt ids node.None all low h = absurd (cc)
  node-is-alt ids node.Eps all low h = absurd (cc)
  node-is-alt ids (node.Set ranges) all low h = absurd (cc)
  node-is-alt ids (node.Cat a b) all low h = absurd (cc)
  node-is-alt ids (node.And ps) all low h = absurd (cc)
  node-is-alt ids (node.Not a) all low h = absurd (cc)
  node-is-alt ids (node.Star a) all low h = absurd (cc)
  node-is-alt ids (node.Rep a n m) all low h = absurd (cc)
  node-is-alt ids (node.Path a b) all low h = absurd (cc)

  pub node-is-and : (ids : List ℕ) (d : Node) → AllNumbers rs ids → PartsBelow id d
      → node_regex rs d ≡ and (regexes (regexes_at rs ids)) → is_and_of ids d ≡ true
  node-is-and ids (node.And ps) all low h =
      let e = same-numbers rs ps.items ids once (parts-numbers rs id ps.items below low) all
      (and-parts-at rs ids ps.items h) in
      ap (λ qs. pointwise nat_eq qs ids) e ∙ itself ids
  node-is-and ids node.None all low h = absurd (cc)
  node-is-and ids node.Eps all low h = absurd (cc)
  node-is-and ids (node.Set ranges) all low h = absurd (cc)
  node-is-and ids (node.Cat a b) all low h = absurd (cc)
  node-is-and ids (node.Alt ps) all low h = absurd (cc)
  node-is-and ids (node.Not a) all low h = absurd (cc)
  node-is-and ids (node.Star a) all low h = absurd (cc)
  node-is-and ids (node.Rep a n m) all low h = absurd (cc)
  node-is-and ids (node.Path a b) all low h = absurd (cc)

  pub node-is-cat : (a b : ℕ) (d : Node) → a < length rs → b < length rs → PartsBelow id d
      → node_regex rs d ≡ cat (regex_at rs a) (regex_at rs b) → is_cat_of a b d ≡ true
  node-is-cat a b (node.Cat x y) p q low h =
      let all = parts-numbers rs id (x ∷ y ∷ []) below low in
      ap₂ ◌&&◌ (same-nat x a (once x a (all 0 0 (omega arith)) p (cat-first _ _ _ _ h)))
      (same-nat y b (once y b (all 1 0 (omega arith)) q (cat-second _ _ _ _ h)))
  node-is-cat a b node.None p q low h = absurd (cc)
  node-is-cat a b node.Eps p q low h = absurd (cc)
  node-is-cat a b (node.Set ranges) p q low h = absurd (cc)
  node-is-cat a b (node.Alt ps) p q low h = absurd (cc)
  node-is-cat a b (node.And ps) p q low h = absurd (cc)
  node-is-cat a b (node.Not c) p q low h = absurd (cc)
  node-is-cat a b (node.Star c) p q low h = absurd (cc)
  node-is-cat a b (node.Rep c n m) p q low h = absurd (cc)
  node-is-cat a b (node.Path c d) p q low h = absurd (cc)

  pub node-is-path : (a b : ℕ) (d : Node) → a < length rs → b < length rs → PartsBelow id d
      → node_regex rs d ≡ path (regex_at rs a) (regex_at rs b) → is_path_of a b d ≡ true
  node-is-path a b (node.Path x y) p q low h =
      let all = parts-numbers rs id (x ∷ y ∷ []) below low in
      ap₂ ◌&&◌ (same-nat x a (once x a (all 0 0 (omega arith)) p (path-from _ _ _ _ h)))
      (same-nat y b (once y b (all 1 0 (omega arith)) q (path-to _ _ _ _ h)))
  node-is-path a b node.None p q low h = absurd (cc)
  node-is-path a b node.Eps p q low h = absurd (cc)
  node-is-path a b (node.Set ranges) p q low h = absurd (cc)
  node-is-path a b (node.Cat c d) p q low h = absurd (cc)
  node-is-path a b (node.Alt ps) p q low h = absurd (cc)
  node-is-path a b (node.And ps) p q low h = absurd (cc)
  node-is-path a b (node.Not c) p q low h = absurd (cc)
  node-is-path a b (node.Star c) p q low h = absurd (cc)
  node-is-path a b (node.Rep c n m) p q low h = absurd (cc)

  pub node-is-not : (a : ℕ) (d : Node) → a < length rs → PartsBelow id d
      → node_regex rs d ≡ neg (regex_at rs a) → is_not_of a d ≡ true
  node-is-not a (node.Not x) p low h =
      let all = parts-numbers rs id (x ∷ []) below low in
      same-nat x a (once x a (all 0 0 (omega arith)) p (neg-part _ _ h))
  node-is-not a node.None p low h = absurd (cc)
  node-is-not a node.Eps p low h = absurd (cc)
  node-is-not a (node.Set ranges) p low h = absurd (cc)
  node-is-not a (node.Cat b c) p low h = absurd (cc)
  node-is-not a (node.Alt ps) p low h = absurd (cc)
  node-is-not a (node.And ps) p low h = absurd (cc)
  node-is-not a (node.Star b) p low h = absurd (cc)
  node-is-not a (node.Rep b n m) p low h = absurd (cc)
  node-is-not a (node.Path b c) p low h = absurd (cc)

  pub node-is-star : (a : ℕ) (d : Node) → a < length rs → PartsBelow id d
      → node_regex rs d ≡ star (regex_at rs a) → is_star_of a d ≡ true
  node-is-star a (node.Star x) p low h =
      let all = parts-numbers rs id (x ∷ []) below low in
      same-nat x a (once x a (all 0 0 (omega arith)) p (star-part _ _ h))
  node-is-star a node.None p low h = absurd (cc)
  node-is-star a node.Eps p low h = absurd (cc)
  node-is-star a (node.Set ranges) p low h = absurd (cc)
  node-is-star a (node.Cat b c) p low h = absurd (cc)
  node-is-star a (node.Alt ps) p low h = absurd (cc)
  node-is-star a (node.And ps) p low h = absurd (cc)
  node-is-star a (node.Not b) p low h = absurd (cc)
  node-is-star a (node.Rep b n m) p low h = absurd (cc)
  node-is-star a (node.Path b c) p low h = absurd (cc)

  pub node-is-rep : (a n m : ℕ) (d : Node) → a < length rs → PartsBelow id d
      → node_regex rs d ≡ rep (regex_at rs a) n m → is_rep_of a n m d ≡ true
  node-is-rep a n m (node.Rep x k l) p low h =
      let all = parts-numbers rs id (x ∷ []) below low in
      ap₂ ◌&&◌ (same-nat x a (once x a (all 0 0 (omega arith)) p (rep-part _ _ k l n m h)))
      (ap₂ ◌&&◌ (same-nat k n (rep-least _ _ k l n m h)) (same-nat l m (rep-most _ _ k l n m h)))
  node-is-rep a n m node.None p low h = absurd (cc)
  node-is-rep a n m node.Eps p low h = absurd (cc)
  node-is-rep a n m (node.Set ranges) p low h = absurd (cc)
  node-is-rep a n m (node.Cat b c) p low h = absurd (cc)
  node-is-rep a n m (node.Alt ps) p low h = absurd (cc)
  node-is-rep a n m (node.And ps) p low h = absurd (cc)
  node-is-rep a n m (node.Not b) p low h = absurd (cc)
  node-is-rep a n m (node.Star b) p low h = absurd (cc)
  node-is-rep a n m (node.Path b c) p low h = absurd (cc)

-- And the other way round.

pub alt-of-node : (rs : List Regex) (ids : List ℕ) (d : Node) → is_alt_of ids d ≡ true
    → node_regex rs d ≡ alt (regexes (regexes_at rs ids))
alt-of-node rs ids (node.Alt ps) h = ap (λ qs. alt (regexes (regexes_at rs qs))) (numbers-same ps.items ids h)
alt-of-node rs ids node.None h = absurd (false≢true h)
alt-of-node rs ids node.Eps h = absurd (false≢true h)
alt-of-node rs ids (node.Set ranges) h = absurd (false≢true h)
alt-of-node rs ids (node.Cat a b) h = absurd (false≢true h)
alt-of-node rs ids (node.And ps) h = absurd (false≢true h)
alt-of-node rs ids (node.Not a) h = absurd (false≢true h)
alt-of-node rs ids (node.Star a) h = absurd (false≢true h)
alt-of-node rs ids (node.Rep a n m) h = absurd (false≢true h)
alt-of-node rs ids (node.Path a b) h = absurd (false≢true h)

pub and-of-node : (rs : List Regex) (ids : List ℕ) (d : Node) → is_and_of ids d ≡ true
    → node_regex rs d ≡ and (regexes (regexes_at rs ids))
and-of-node rs ids (node.And ps) h = ap (λ qs. and (regexes (regexes_at rs qs))) (numbers-same ps.items ids h)
and-of-node rs ids node.None h = absurd (false≢true h)
and-of-node rs ids node.Eps h = absurd (false≢true h)
and-of-node rs ids (node.Set ranges) h = absurd (false≢true h)
and-of-node rs ids (node.Cat a b) h = absurd (false≢true h)
and-of-node rs ids (node.Alt ps) h = absurd (false≢true h)
and-of-node rs ids (node.Not a) h = absurd (false≢true h)
and-of-node rs ids (node.Star a) h = absurd (false≢true h)
and-of-node rs ids (node.Rep a n m) h = absurd (false≢true h)
and-of-node rs ids (node.Path a b) h = absurd (false≢true h)

pub cat-of-node : (rs : List Regex) (a b : ℕ) (d : Node) → is_cat_of a b d ≡ true
    → node_regex rs d ≡ cat (regex_at rs a) (regex_at rs b)
cat-of-node rs a b (node.Cat x y) h =
    let p = and_parts (nat_eq x a) (nat_eq y b) h in
    ap₂ (λ i j. cat (regex_at rs i) (regex_at rs j)) (nat-same x a p.0) (nat-same y b p.1)
cat-of-node rs a b node.None h = absurd (false≢true h)
cat-of-node rs a b node.Eps h = absurd (false≢true h)
cat-of-node rs a b (node.Set ranges) h = absurd (false≢true h)
cat-of-node rs a b (node.Alt ps) h = absurd (false≢true h)
cat-of-node rs a b (node.And ps) h = absurd (false≢true h)
cat-of-node rs a b (node.Not c) h = absurd (false≢true h)
cat-of-node rs a b (node.Star c) h = absurd (false≢true h)
cat-of-node rs a b (node.Rep c n m) h = absurd (false≢true h)
cat-of-node rs a b (node.Path c d) h = absurd (false≢true h)

pub path-of-node : (rs : List Regex) (a b : ℕ) (d : Node) → is_path_of a b d ≡ true
    → node_regex rs d ≡ path (regex_at rs a) (regex_at rs b)
path-of-node rs a b (node.Path x y) h =
    let p = and_parts (nat_eq x a) (nat_eq y b) h in
    ap₂ (λ i j. path (regex_at rs i) (regex_at rs j)) (nat-same x a p.0) (nat-same y b p.1)
path-of-node rs a b node.None h = absurd (false≢true h)
path-of-node rs a b node.Eps h = absurd (false≢true h)
path-of-node rs a b (node.Set ranges) h = absurd (false≢true h)
path-of-node rs a b (node.Cat c d) h = absurd (false≢true h)
path-of-node rs a b (node.Alt ps) h = absurd (false≢true h)
path-of-node rs a b (node.And ps) h = absurd (false≢true h)
path-of-node rs a b (node.Not c) h = absurd (false≢true h)
path-of-node rs a b (node.Star c) h = absurd (false≢true h)
path-of-node rs a b (node.Rep c n m) h = absurd (false≢true h)

pub not-of-node : (rs : List Regex) (a : ℕ) (d : Node) → is_not_of a d ≡ true → node_regex rs d ≡ neg (regex_at rs a)
not-of-node rs a (node.Not x) h = ap (λ i. neg (regex_at rs i)) (nat-same x a h)
not-of-node rs a node.None h = absurd (false≢true h)
not-of-node rs a node.Eps h = absurd (false≢true h)
not-of-node rs a (node.Set ranges) h = absurd (false≢true h)
not-of-node rs a (node.Cat b c) h = absurd (false≢true h)
not-of-node rs a (node.Alt ps) h = absurd (false≢true h)
not-of-node rs a (node.And ps) h = absurd (false≢true h)
not-of-node rs a (node.Star b) h = absurd (false≢true h)
not-of-node rs a (node.Rep b n m) h = absurd (false≢true h)
not-of-node rs a (node.Path b c) h = absurd (false≢true h)

pub star-of-node : (rs : List Regex) (a : ℕ) (d : Node) → is_star_of a d ≡ true
    → node_regex rs d ≡ star (regex_at rs a)
star-of-node rs a (node.Star x) h = ap (λ i. star (regex_at rs i)) (nat-same x a h)
star-of-node rs a node.None h = absurd (false≢true h)
star-of-node rs a node.Eps h = absurd (false≢true h)
star-of-node rs a (node.Set ranges) h = absurd (false≢true h)
star-of-node rs a (node.Cat b c) h = absurd (false≢true h)
star-of-node rs a (node.Alt ps) h = absurd (false≢true h)
star-of-node rs a (node.And ps) h = absurd (false≢true h)
star-of-node rs a (node.Not b) h = absurd (false≢true h)
star-of-node rs a (node.Rep b n m) h = absurd (false≢true h)
star-of-node rs a (node.Path b c) h = absurd (false≢true h)

pub rep-of-node : (rs : List Regex) (a n m : ℕ) (d : Node) → is_rep_of a n m d ≡ true
    → node_regex rs d ≡ rep (regex_at rs a) n m
rep-of-node rs a n m (node.Rep x k l) h =
    let p = and_parts (nat_eq x a) (nat_eq k n && nat_eq l m) h in
    let q = and_parts (nat_eq k n) (nat_eq l m) p.1 in
    ap₂ (λ i j. rep (regex_at rs i) j l) (nat-same x a p.0) (nat-same k n q.0)
    ∙ ap (rep (regex_at rs a) n) (nat-same l m q.1)
rep-of-node rs a n m node.None h = absurd (false≢true h)
rep-of-node rs a n m node.Eps h = absurd (false≢true h)
rep-of-node rs a n m (node.Set ranges) h = absurd (false≢true h)
rep-of-node rs a n m (node.Cat b c) h = absurd (false≢true h)
rep-of-node rs a n m (node.Alt ps) h = absurd (false≢true h)
rep-of-node rs a n m (node.And ps) h = absurd (false≢true h)
rep-of-node rs a n m (node.Not b) h = absurd (false≢true h)
rep-of-node rs a n m (node.Star b) h = absurd (false≢true h)
rep-of-node rs a n m (node.Path b c) h = absurd (false≢true h)

-- a node that is none of a concatenation
pub cat-node : (rs : List Regex) (d : Node) → is_cat_node d ≡ true
    → (p : Regex) × (q : Regex) × (node_regex rs d ≡ cat p q)
cat-node rs (node.Cat x y) h = (regex_at rs x, regex_at rs y, refl)
cat-node rs node.None h = absurd (false≢true h)
cat-node rs node.Eps h = absurd (false≢true h)
cat-node rs (node.Set ranges) h = absurd (false≢true h)
cat-node rs (node.Alt ps) h = absurd (false≢true h)
cat-node rs (node.And ps) h = absurd (false≢true h)
cat-node rs (node.Not b) h = absurd (false≢true h)
cat-node rs (node.Star b) h = absurd (false≢true h)
cat-node rs (node.Rep b n m) h = absurd (false≢true h)
cat-node rs (node.Path a b) h = absurd (false≢true h)

-- Not normal.

no-own-part : (p q : Regex) → p ≡ cat p q → ⊥
unfolding code
no-own-part p q h =
    let e = ap (λ r. length (code r)) h in let l = length-append (code p) (code q) in omega (arith, e, l)

joined : (p q b : Regex) → mkcat (cat p q) b ≡ cat (cat p q) b → ⊥
unfolding mkcat
joined p q none h = absurd (cc)
joined p q eps h = no-own-part p q (cat-first _ _ _ _ h)
joined p q (set rs) h = no-own-part p q (cat-first _ _ _ _ h)
joined p q (cat a c) h = no-own-part p q (cat-first _ _ _ _ h)
joined p q (alt ps) h = no-own-part p q (cat-first _ _ _ _ h)
joined p q (and ps) h = no-own-part p q (cat-first _ _ _ _ h)
joined p q (neg a) h = no-own-part p q (cat-first _ _ _ _ h)
joined p q (star a) h = no-own-part p q (cat-first _ _ _ _ h)
joined p q (rep a n m) h = no-own-part p q (cat-first _ _ _ _ h)
joined p q (path a c) h = no-own-part p q (cat-first _ _ _ _ h)

-- the first part of a normal concatenation is none
pub cat-of-cat : (p q b : Regex) → OrderTellsApart → is_normal (cat (cat p q) b) ≡ false
unfolding is_normal
cat-of-cat p q b apart =
    and-false (is_normal (cat p q) && is_normal b) (regex_eq (mkcat (cat p q) b) (cat (cat p q) b))
    (other-regex apart _ _ (joined p q b))

module _ (apart : OrderTellsApart) where
  pub cat-differs : (a b : Regex) → (mkcat a b ≡ cat a b → ⊥) → is_normal (cat a b) ≡ false
  unfolding is_normal
  cat-differs a b h =
      and-false (is_normal a && is_normal b) (regex_eq (mkcat a b) (cat a b)) (other-regex apart _ _ h)

  pub path-differs : (a b : Regex) → (mkpath a b ≡ path a b → ⊥) → is_normal (path a b) ≡ false
  unfolding is_normal
  path-differs a b h =
      and-false (is_normal a && is_normal b) (regex_eq (mkpath a b) (path a b)) (other-regex apart _ _ h)

  pub not-differs : (a : Regex) → (mknot a ≡ neg a → ⊥) → is_normal (neg a) ≡ false
  unfolding is_normal
  not-differs a h = and-false (is_normal a) (regex_eq (mknot a) (neg a)) (other-regex apart _ _ h)

  pub star-differs : (a : Regex) → (mkstar a ≡ star a → ⊥) → is_normal (star a) ≡ false
  unfolding is_normal
  star-differs a h = and-false (is_normal a) (regex_eq (mkstar a) (star a)) (other-regex apart _ _ h)

  pub rep-differs : (a : Regex) (n m : ℕ) → (mkrep a n m ≡ rep a n m → ⊥) → is_normal (rep a n m) ≡ false
  unfolding is_normal
  rep-differs a n m h = and-false (is_normal a) (regex_eq (mkrep a n m) (rep a n m)) (other-regex apart _ _ h)

  pub alt-differs : (rs : List Regex) → (mkalt rs ≡ alt (regexes rs) → ⊥) → is_normal (alt (regexes rs)) ≡ false
  unfolding is_normal
  alt-differs rs h =
      and-false (all_normal (regexes rs)) (regex_eq (mkalt (parts (regexes rs))) (alt (regexes rs)))
      (other-regex apart _ _ (λ e. h (ap mkalt (sym (parts-regexes rs)) ∙ e)))

  pub and-differs : (rs : List Regex) → (mkand rs ≡ and (regexes rs) → ⊥) → is_normal (and (regexes rs)) ≡ false
  unfolding is_normal
  and-differs rs h =
      and-false (all_normal (regexes rs)) (regex_eq (mkand (parts (regexes rs))) (and (regexes rs)))
      (other-regex apart _ _ (λ e. h (ap mkand (sym (parts-regexes rs)) ∙ e)))

pub rises-none : (ranges : List Range) → rises_from 0 ranges ≡ false → is_normal (set ranges) ≡ false
unfolding is_normal
rises-none ranges h = ap (λ b. b && regex_eq (mkset ranges) (set ranges)) h

pub no-empty-set : is_normal (set []) ≡ false
unfolding is_normal mkset code rises_from
no-empty-set = refl
