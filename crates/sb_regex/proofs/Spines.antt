-- Concatenations that lean to the right.
use Rattle.std.proofs.Common.{◌≡◌, ℕ, ◌+◌, ◌<◌, true, false, List, [], ◌∷◌, ◌++◌, length, get_or, take, refl, sym, ap, ◌∙◌, arith, length-append}
use Rattle.std.specs.declared.cmp.Ordering.{Ordering}
use Rattle.std.specs.declared.cmp.Ordering.TheVariants.{Less, Equal, Greater}
use Rattle.std.specs.Ordering.{is_eq}
use Rattle.std.proofs.lemmas.Bool.{and_parts, false≢true}
use Rattle.std.proofs.lemmas.List.{map-append, take_more}
use Rattle.std.proofs.lemmas.List.Elements.{All-push}
use Rattle.sb_lang.specs.Regex.{Regex, none, eps, set, cat, alt, and, neg, star, rep, path}
use Rattle.sb_lang.specs.Order.{code, regex_cmp, regex_eq}
use Rattle.sb_lang.specs.OrderLaws.{OrderTellsApart}
use Rattle.sb_lang.specs.Constructors.{mkcat}
use Rattle.sb_lang.specs.NormalForm.{is_normal, IsNormal}
use Rattle.sb_regex.specs.declared.node.Node.{Node}
use Rattle.sb_regex.specs.declared.node.Node.TheVariants as node
use Rattle.sb_regex.specs.Numbered.{regex_at, regexes_at, Names, AllNumbers, Extends}
use Rattle.sb_regex.specs.Nodes.{node_regex}
use Rattle.sb_regex.specs.Spine.{chain, is_cat, is_plain}
use Rattle.sb_regex.proofs.CallerLemmas.{at_kept, names_at, names_from, number_kept}
use Rattle.sb_lang.proofs.CallerLemmas.{mkcat-none, mkcat-eps, eps-mkcat, none_is_no_cat}

pub chain-push : (hs : List Regex) (h x : Regex) → chain (hs ++ h ∷ []) x ≡ chain hs (cat h x)
unfolding chain
chain-push [] h x = refl
chain-push (r ∷ rs) h x = ap (λ y. cat r y) (chain-push rs h x)

pub ats-push : (rs : List Regex) (is : List ℕ) (i : ℕ)
    → regexes_at rs (is ++ i ∷ []) ≡ regexes_at rs is ++ regex_at rs i ∷ []
ats-push rs is i = map-append (regex_at rs) is (i ∷ [])

pub chain_nil : (rs : List Regex) (is : List ℕ) (x : Regex) → is ≡ [] → chain (regexes_at rs is) x ≡ x
unfolding chain
chain_nil rs is x e = ap (λ js. chain (regexes_at rs js) x) e

pub spine_next : (rs : List Regex) (is js : List ℕ) (p q last : ℕ) (whole : Regex) → js ≡ is ++ p ∷ []
    → cat (regex_at rs p) (regex_at rs q) ≡ regex_at rs last → chain (regexes_at rs is) (regex_at rs last) ≡ whole
    → chain (regexes_at rs js) (regex_at rs q) ≡ whole
spine_next rs is js p q last whole pushed e inv =
    ap (λ xs. chain (regexes_at rs xs) (regex_at rs q)) pushed
    ∙ ap (λ xs. chain xs (regex_at rs q)) (ats-push rs is p)
    ∙ chain-push (regexes_at rs is) (regex_at rs p) (regex_at rs q)
    ∙ ap (chain (regexes_at rs is)) e
    ∙ inv

pub numbers_push : (rs : List Regex) (is js : List ℕ) (i : ℕ) → AllNumbers rs is → i < length rs → js ≡ is ++ i ∷ []
    → AllNumbers rs js
numbers_push rs is js i h l e = rw e (All-push (λ i. i < length rs) is i h l)

pub not_cat : (rs : List Regex) (d : Node) (r : Regex) → node_regex rs d ≡ r → ((a b : _) → d ≡ node.Cat a b → ⊥)
    → is_cat r ≡ false
unfolding is_cat
not_cat rs d r e other = sym (ap is_cat e) ∙ step d other
  where
    step : (d : Node) → ((a b : _) → d ≡ node.Cat a b → ⊥) → is_cat (node_regex rs d) ≡ false
    step node.None h = refl
    step node.Eps h = refl
    step (node.Set v) h = refl
    step (node.Cat a b) h = absurd (h a b refl)
    step (node.Alt ps) h = refl
    step (node.And ps) h = refl
    step (node.Not a) h = refl
    step (node.Star a) h = refl
    step (node.Rep a n m) h = refl
    step (node.Path a b) h = refl

pub plain_node : (rs : List Regex) (d : Node) (r : Regex) → node_regex rs d ≡ r → (d ≡ node.None → ⊥)
    → (d ≡ node.Eps → ⊥) → is_plain r ≡ true
unfolding is_plain
plain_node rs d r e f g = sym (ap is_plain e) ∙ step d f g
  where
    step : (d : Node) → (d ≡ node.None → ⊥) → (d ≡ node.Eps → ⊥) → is_plain (node_regex rs d) ≡ true
    step node.None f g = absurd (f refl)
    step node.Eps f g = absurd (g refl)
    step (node.Set v) f g = refl
    step (node.Cat a b) f g = refl
    step (node.Alt ps) f g = refl
    step (node.And ps) f g = refl
    step (node.Not a) f g = refl
    step (node.Star a) f g = refl
    step (node.Rep a n m) f g = refl
    step (node.Path a b) f g = refl

-- From the right.

pub chain_normal : (hs : List Regex) (x : Regex) → IsNormal (chain hs x) → IsNormal x
unfolding chain is_normal
chain_normal [] x n = n
chain_normal (h ∷ hs) x n = chain_normal hs x (and_parts _ _ (and_parts _ _ n).0).1

take_back : (xs : List ℕ) (n i x : ℕ) → n ≡ i + 1 → i < length xs → x ≡ get_or xs i x → take n xs ≡ take i xs ++ x ∷ []
take_back xs n i x e l is = ap (λ k. take k xs) e ∙ take_more xs i x l ∙ ap (λ y. take i xs ++ y ∷ []) (sym is)

lean_at : (old now : List Regex) (heads : List ℕ) (n i x w : ℕ) → n ≡ i + 1 → i < length heads → x ≡ get_or heads i x
    → AllNumbers old heads → Extends old now
    → chain (regexes_at old (take n heads)) (regex_at now w)
    ≡ chain (regexes_at old (take i heads)) (cat (regex_at now x) (regex_at now w))
lean_at old now heads n i x w e l is numbers ext =
    let known : x < length old = rw is (numbers i x l) in
    ap (λ xs. chain (regexes_at old xs) (regex_at now w)) (take_back heads n i x e l is)
    ∙ ap (λ xs. chain xs (regex_at now w)) (ats-push old (take i heads) x)
    ∙ chain-push (regexes_at old (take i heads)) (regex_at old x) (regex_at now w)
    ∙ ap (λ r. chain (regexes_at old (take i heads)) (cat r (regex_at now w))) (sym (at_kept old now x ext known))

pub lean_normal : (old now : List Regex) (heads : List ℕ) (n i x w : ℕ) (whole : Regex) → n ≡ i + 1 → i < length heads
    → x ≡ get_or heads i x → AllNumbers old heads → Extends old now
    → chain (regexes_at old (take n heads)) (regex_at now w) ≡ whole → IsNormal whole
    → IsNormal (cat (regex_at now x) (regex_at now w))
lean_normal old now heads n i x w whole e l is numbers ext inv normal =
    chain_normal (regexes_at old (take i heads)) _ (rw (← lean_at old now heads n i x w e l is numbers ext, inv) normal)

pub lean_next : (old now after : List Regex) (heads : List ℕ) (n i x w v : ℕ) (whole : Regex) → n ≡ i + 1
    → i < length heads → x ≡ get_or heads i x → AllNumbers old heads → Extends old now
    → chain (regexes_at old (take n heads)) (regex_at now w) ≡ whole
    → Names after v (cat (regex_at now x) (regex_at now w))
    → chain (regexes_at old (take i heads)) (regex_at after v) ≡ whole
lean_next old now after heads n i x w v whole e l is numbers ext inv named =
    ap (chain (regexes_at old (take i heads))) (names_at after v _ named)
    ∙ sym (lean_at old now heads n i x w e l is numbers ext)
    ∙ inv

-- The concatenation of a whole spine.

mkcat-cat : (p q b : Regex) → is_plain b ≡ true → mkcat (cat p q) b ≡ cat p (mkcat q b)
unfolding mkcat is_plain
mkcat-cat p q none h = absurd (false≢true h)
mkcat-cat p q eps h = absurd (false≢true h)
mkcat-cat p q (set rs) h = refl
mkcat-cat p q (cat a b) h = refl
mkcat-cat p q (alt ps) h = refl
mkcat-cat p q (and ps) h = refl
mkcat-cat p q (neg a) h = refl
mkcat-cat p q (star a) h = refl
mkcat-cat p q (rep a n m) h = refl
mkcat-cat p q (path a b) h = refl

mkcat-other : (a : Regex) → is_plain a ≡ true → is_cat a ≡ false → (b : Regex) → is_plain b ≡ true → mkcat a b ≡ cat a b
unfolding mkcat is_plain is_cat
mkcat-other none p c b q = absurd (false≢true p)
mkcat-other eps p c b q = absurd (false≢true p)
mkcat-other (cat x y) p c b q = absurd (false≢true (sym c))
mkcat-other a p c none q = absurd (false≢true q)
mkcat-other a p c eps q = absurd (false≢true q)
mkcat-other a p c b q = refl

-- what stands behind a head is plain
unequal_sizes : (h : Regex) → h ≡ cat h eps → ⊥
unfolding code
unequal_sizes h e = omega (arith, ap (λ r. length (code r)) e, length-append (code h) (1 ∷ []))

same_from : OrderTellsApart → (a b : Regex) → regex_eq a b ≡ true → a ≡ b
same_from tells a b h = (tells a b).0 (equal (regex_cmp a b) h)
  where
    equal : (o : Ordering) → is_eq o ≡ true → o ≡ Equal
    equal Less h = absurd (false≢true h)
    equal Equal h = refl
    equal Greater h = absurd (false≢true h)

rest_plain : OrderTellsApart → (h x : Regex) → IsNormal (cat h x) → is_plain x ≡ true
unfolding is_plain is_normal
rest_plain tells h none n = absurd (none_is_no_cat _ _ (sym (mkcat-none h) ∙ same_from tells _ _ (and_parts _ _ n).1))
rest_plain tells h eps n = absurd (unequal_sizes h (sym (mkcat-eps h) ∙ same_from tells _ _ (and_parts _ _ n).1))
rest_plain tells h (set rs) n = refl
rest_plain tells h (cat a b) n = refl
rest_plain tells h (alt ps) n = refl
rest_plain tells h (and ps) n = refl
rest_plain tells h (neg a) n = refl
rest_plain tells h (star a) n = refl
rest_plain tells h (rep a n' m) n = refl
rest_plain tells h (path a b) n = refl

pub mkcat-chain : OrderTellsApart → (hs : List Regex) (l b : Regex) → IsNormal (chain hs l) → is_cat l ≡ false
    → is_plain (chain hs l) ≡ true → is_plain b ≡ true → mkcat (chain hs l) b ≡ chain (hs ++ l ∷ []) b
unfolding chain is_normal
mkcat-chain tells [] l b n c p q = mkcat-other l p c b q
mkcat-chain tells (h ∷ hs) l b n c p q =
    mkcat-cat h (chain hs l) b q
    ∙ ap (λ r. cat h r) (mkcat-chain tells hs l b (and_parts _ _ (and_parts _ _ n).0).1 c
    (rest_plain tells h (chain hs l) n) q)

-- as the spine of a number
pub joined : OrderTellsApart → (rs : List Regex) (heads all : List ℕ) (last a b : ℕ)
    → chain (regexes_at rs heads) (regex_at rs last) ≡ regex_at rs a → is_cat (regex_at rs last) ≡ false
    → IsNormal (regex_at rs a) → is_plain (regex_at rs a) ≡ true → is_plain (regex_at rs b) ≡ true
    → all ≡ heads ++ last ∷ [] → chain (regexes_at rs all) (regex_at rs b) ≡ mkcat (regex_at rs a) (regex_at rs b)
joined tells rs heads all last a b spine ends normal left right pushed =
    ap (λ xs. chain (regexes_at rs xs) (regex_at rs b)) pushed
    ∙ ap (λ xs. chain xs (regex_at rs b)) (ats-push rs heads last)
    ∙ sym (mkcat-chain tells (regexes_at rs heads) (regex_at rs last) (regex_at rs b) (rw spine normal) ends
    (ap is_plain spine ∙ left) right)
    ∙ ap (λ r. mkcat r (regex_at rs b)) spine

none-mkcat : (b : Regex) → none ≡ mkcat none b
unfolding mkcat
none-mkcat b = refl

pub cat_none : (rs : List Regex) (d : Node) (a b : Regex) → node_regex rs d ≡ a → d ≡ node.None → a ≡ mkcat a b
cat_none rs d a b e is = let n = sym e ∙ ap (node_regex rs) is in n ∙ none-mkcat b ∙ ap (λ r. mkcat r b) (sym n)

pub cat_eps : (rs : List Regex) (d : Node) (a b : Regex) → node_regex rs d ≡ a → d ≡ node.Eps → b ≡ mkcat a b
cat_eps rs d a b e is = sym (eps-mkcat b) ∙ ap (λ r. mkcat r b) (sym (sym e ∙ ap (node_regex rs) is))

pub none_cat : (rs : List Regex) (d : Node) (a b : Regex) → node_regex rs d ≡ b → d ≡ node.None → b ≡ mkcat a b
none_cat rs d a b e is = let n = sym e ∙ ap (node_regex rs) is in n ∙ sym (mkcat-none a) ∙ ap (mkcat a) (sym n)

pub eps_cat : (rs : List Regex) (d : Node) (a b : Regex) → node_regex rs d ≡ b → d ≡ node.Eps → a ≡ mkcat a b
eps_cat rs d a b e is = sym (mkcat-eps a) ∙ ap (mkcat a) (sym (sym e ∙ ap (node_regex rs) is))

pub lean_done : (old now : List Regex) (heads : List ℕ) (n w : ℕ) (whole : Regex) → n ≡ 0 → w < length now
    → chain (regexes_at old (take n heads)) (regex_at now w) ≡ whole → Names now w whole
unfolding chain
lean_done old now heads n w whole e l inv =
    names_from now w whole l (sym (ap (λ k. chain (regexes_at old (take k heads)) (regex_at now w)) e) ∙ inv)

pub head_below : (old now : List Regex) (heads : List ℕ) (i x : ℕ) → i < length heads → x ≡ get_or heads i x
    → AllNumbers old heads → Extends old now → x < length now
head_below old now heads i x l is numbers ext =
    let known : x < length old = rw is (numbers i x l) in
    number_kept old now x ext known
