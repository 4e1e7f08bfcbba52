-- The derived test of nodes finds the nodes that stand for one regex.
use Rattle.std.proofs.Common.{◌≡◌, ℕ, suc, Bool, true, false, ◌&&◌, nat_eq, List, [], ◌∷◌, length, refl, sym, ap, ap₂, ◌∙◌, arith}
use Rattle.std.specs.Cmp.Lexicographic.{pointwise, same_text}
use Rattle.std.proofs.lemmas.Bool.{and_parts, false≢true}
use Rattle.std.proofs.lemmas.Bool.Decides.{nat_tests}
use Rattle.sb_class.specs.Ranges.{Range}
use Rattle.sb_lang.specs.Regex.{Regex, set, cat, alt, and, neg, star, rep, path, regexes, parts}
use Rattle.sb_lang.specs.OrderLaws.{kind}
use Rattle.sb_regex.specs.declared.node.Node.{Node}
use Rattle.sb_regex.specs.declared.node.Node.TheVariants as node
use Rattle.sb_regex.specs.contracts.node.NodePartialEq.TheImpl as derived
use Rattle.sb_regex.specs.Numbered.{regex_at, regexes_at, AllNumbers, AreDistinct}
use Rattle.sb_regex.specs.Nodes.{node_regex, PartsBelow}
use Rattle.sb_lang.proofs.CallerLemmas.{parts-regexes, alt_parts, and_parts_of}

abbrev pub same : Node → Node → Bool
same = derived.ghosts.eq

pub nat_same : (x y : ℕ) → nat_eq x y ≡ true → x ≡ y
nat_same x y h = grind (arith, nat_tests)

pub same_nat : (x y : ℕ) → x ≡ y → nat_eq x y ≡ true
same_nat x y h = grind (arith, nat_tests)

-- Lists.

abbrev range_same : Range → Range → Bool
range_same r s = nat_eq r.0 s.0 && nat_eq r.1 s.1

ranges_same : (rs ss : List Range) → pointwise range_same rs ss ≡ true → rs ≡ ss
ranges_same [] [] h = refl
ranges_same [] (s ∷ ss) h = absurd (false≢true h)
ranges_same (r ∷ rs) [] h = absurd (false≢true h)
ranges_same (r ∷ rs) (s ∷ ss) h =
    let p = and_parts (range_same r s) _ h in
    let q = and_parts (nat_eq r.0 s.0) _ p.0 in
    ap₂ (λ x xs. x ∷ xs) (ap₂ (λ x y. (x, y)) (nat_same r.0 s.0 q.0) (nat_same r.1 s.1 q.1)) (ranges_same rs ss p.1)

itself_ranges : (rs : List Range) → pointwise range_same rs rs ≡ true
itself_ranges [] = refl
itself_ranges (r ∷ rs) = ap₂ ◌&&◌ (ap₂ ◌&&◌ (same_nat r.0 r.0 refl) (same_nat r.1 r.1 refl)) (itself_ranges rs)

pub itself_numbers : (is : List ℕ) → pointwise nat_eq is is ≡ true
itself_numbers [] = refl
itself_numbers (i ∷ is) = ap₂ ◌&&◌ (same_nat i i refl) (itself_numbers is)

pub same_regexes : (rs ss : List Regex) → regexes rs ≡ regexes ss → rs ≡ ss
same_regexes rs ss h = sym (parts-regexes rs) ∙ ap parts h ∙ parts-regexes ss

pub same_numbers : (rs : List Regex) (is js : List ℕ) → AreDistinct rs → AllNumbers rs is → AllNumbers rs js
    → regexes_at rs is ≡ regexes_at rs js → is ≡ js
same_numbers rs [] [] d p q h = refl
same_numbers rs [] (j ∷ js) d p q h = absurd (nil_not _ _ h)
  where
    nil_not : (x : Regex) (xs : List Regex) → [] ≡ x ∷ xs → ⊥
    nil_not x xs e = cc
same_numbers rs (i ∷ is) [] d p q h = absurd (not_nil _ _ h)
  where
    not_nil : (x : Regex) (xs : List Regex) → x ∷ xs ≡ [] → ⊥
    not_nil x xs e = cc
same_numbers rs (i ∷ is) (j ∷ js) d p q h =
    let t = two _ _ _ _ h in
    ap₂ (λ x xs. x ∷ xs)
    (d i j (p 0 0 (omega arith)) (q 0 0 (omega arith)) t.0)
    (same_numbers rs is js d (λ k e l. p (suc k) e (omega (arith, l))) (λ k e l. q (suc k) e (omega (arith, l))) t.1)
  where
    two : (x y : Regex) (xs ys : List Regex) → x ∷ xs ≡ y ∷ ys → (x ≡ y) × (xs ≡ ys)
    two x y xs ys e = (cc, cc)

rep_same : (a b : Regex) (n k m l : ℕ) → a ≡ b → n ≡ k → m ≡ l → rep a n m ≡ rep b k l
rep_same a b n k m l e f g = cc

-- Nodes that the test takes for one stand for one regex.

pub same_gives : (rs : List Regex) (d e : Node) → same d e ≡ true → node_regex rs d ≡ node_regex rs e
same_gives rs node.None node.None h = refl
same_gives rs node.Eps node.Eps h = refl
same_gives rs (node.Set a) (node.Set b) h = ap (λ x. set x) (ranges_same a.items b.items h)
same_gives rs (node.Cat a b) (node.Cat c d) h =
    let p = and_parts (nat_eq a c) _ h in
    ap₂ (λ x y. cat (regex_at rs x) (regex_at rs y)) (nat_same a c p.0) (nat_same b d p.1)
same_gives rs (node.Alt a) (node.Alt b) h =
    ap (λ is. alt (regexes (regexes_at rs is))) (same_text a.items b.items (sym h))
same_gives rs (node.And a) (node.And b) h =
    ap (λ is. and (regexes (regexes_at rs is))) (same_text a.items b.items (sym h))
same_gives rs (node.Not a) (node.Not b) h = ap (λ i. neg (regex_at rs i)) (nat_same a b h)
same_gives rs (node.Star a) (node.Star b) h = ap (λ i. star (regex_at rs i)) (nat_same a b h)
same_gives rs (node.Rep a n m) (node.Rep b k l) h =
    let p = and_parts (nat_eq a b) _ h in
    let q = and_parts (nat_eq n k) _ p.1 in
    rep_same (regex_at rs a) (regex_at rs b) n k m l (ap (regex_at rs) (nat_same a b p.0)) (nat_same n k q.0)
    (nat_same m l q.1)
same_gives rs (node.Path a b) (node.Path c d) h =
    let p = and_parts (nat_eq a c) _ h in
    ap₂ (λ x y. path (regex_at rs x) (regex_at rs y)) (nat_same a c p.0) (nat_same b d p.1)
same_gives rs _ _ h = absurd (false≢true h)

-- Regexes of other kinds, and the parts of equal ones.

other_kinds : (r s : Regex) → nat_eq (kind r) (kind s) ≡ false → r ≡ s → ⊥
other_kinds r s h e = false≢true (sym h ∙ same_nat (kind r) (kind s) (ap kind e))

set_parts : (a b : List Range) → set a ≡ set b → a ≡ b
set_parts a b e = cc

cat_parts : (a b c d : Regex) → cat a b ≡ cat c d → (a ≡ c) × (b ≡ d)
cat_parts a b c d e = (cc, cc)

neg_part : (a b : Regex) → neg a ≡ neg b → a ≡ b
neg_part a b e = cc

star_part : (a b : Regex) → star a ≡ star b → a ≡ b
star_part a b e = cc

rep_parts : (a b : Regex) (n k m l : ℕ) → rep a n m ≡ rep b k l → (a ≡ b) × (n ≡ k) × (m ≡ l)
rep_parts a b n k m l e = (cc, cc, cc)

path_parts : (a b c d : Regex) → path a b ≡ path c d → (a ≡ c) × (b ≡ d)
path_parts a b c d e = (cc, cc)

-- The test finds nodes of one regex.

pub gives_same : (rs : List Regex) (d e : Node) → AreDistinct rs → PartsBelow (length rs) d → PartsBelow (length rs) e
    → node_regex rs d ≡ node_regex rs e → same d e ≡ true
unfolding kind
gives_same rs node.None node.None t p q h = refl
gives_same rs node.Eps node.Eps t p q h = refl
gives_same rs (node.Set a) (node.Set b) t p q h = ap (λ xs. pointwise range_same a.items xs) (sym (set_parts _ _ h))
    ∙ itself_ranges a.items
gives_same rs (node.Cat a b) (node.Cat c d) t p q h =
    let e = cat_parts _ _ _ _ h in
    ap₂ ◌&&◌
    (same_nat a c (t a c (p 0 0 (omega arith)) (q 0 0 (omega arith)) e.0))
    (same_nat b d (t b d (p 1 0 (omega arith)) (q 1 0 (omega arith)) e.1))
gives_same rs (node.Alt a) (node.Alt b) t p q h =
    ap (λ xs. pointwise nat_eq a.items xs)
    (sym (same_numbers rs a.items b.items t p q (same_regexes _ _ (alt_parts _ _ h)))) ∙ itself_numbers a.items
gives_same rs (node.And a) (node.And b) t p q h =
    ap (λ xs. pointwise nat_eq a.items xs)
    (sym (same_numbers rs a.items b.items t p q (same_regexes _ _ (and_parts_of _ _ h)))) ∙ itself_numbers a.items
gives_same rs (node.Not a) (node.Not b) t p q h =
    same_nat a b (t a b (p 0 0 (omega arith)) (q 0 0 (omega arith)) (neg_part _ _ h))
gives_same rs (node.Star a) (node.Star b) t p q h =
    same_nat a b (t a b (p 0 0 (omega arith)) (q 0 0 (omega arith)) (star_part _ _ h))
gives_same rs (node.Rep a n m) (node.Rep b k l) t p q h =
    let e = rep_parts _ _ _ _ _ _ h in
    ap₂ ◌&&◌
    (same_nat a b (t a b (p 0 0 (omega arith)) (q 0 0 (omega arith)) e.0))
    (ap₂ ◌&&◌ (same_nat n k e.1) (same_nat m l e.2))
gives_same rs (node.Path a b) (node.Path c d) t p q h =
    let e = path_parts _ _ _ _ h in
    ap₂ ◌&&◌
    (same_nat a c (t a c (p 0 0 (omega arith)) (q 0 0 (omega arith)) e.0))
    (same_nat b d (t b d (p 1 0 (omega arith)) (q 1 0 (omega arith)) e.1))
gives_same rs d e t p q h = absurd (other_kinds _ _ refl h)
