-- The regexes of new nodes are what the constructors give, and are normal.
use Rattle.std.proofs.Common.{◌≡◌, ℕ, zero, suc, ◌<◌, ◌≤◌, ◌==◌, ◌&&◌, ◌||◌, Bool, true, false, nat_lt, if◌then◌else◌, List, [], ◌∷◌, length, refl, sym, ap, ap₂, ◌∙◌, arith}
use Rattle.std.specs.List.{All, list_all}
use Rattle.std.proofs.lemmas.Bool.Decides.{nat_tests}
use Rattle.std.proofs.lemmas.List.Sums.{AllPass-from_list_all}
use Rattle.sb_class.specs.Ranges.{Range, IsCanonical}
use Rattle.sb_lang.specs.Regex.{Regex, none, eps, set, neg, star, rep, path}
use Rattle.sb_lang.specs.Order.{code, regex_eq}
use Rattle.sb_lang.specs.Constructors.{anything, any_character, is_anything, is_none, mkset, mknot, mkstar, mkrep, mkpath}
use Rattle.sb_lang.specs.NormalForm.{is_normal, IsNormal}
use Rattle.sb_lang.specs.NormalFormLaws.{ConstructorsGiveNormal}
use Rattle.sb_regex.specs.declared.node.Node.{Node}
use Rattle.sb_regex.specs.declared.node.Node.TheVariants as node
use Rattle.sb_regex.specs.Numbered.{regex_at, Names}
use Rattle.sb_regex.specs.Nodes.{node_regex}
use Rattle.sb_regex.proofs.CallerLemmas.{names_at}
use Rattle.sb_regex.proofs.NodeEq.{nat_same}

pub normal_at : (rs : List Regex) (i : ℕ) → list_all is_normal rs ≡ true → i < length rs → IsNormal (regex_at rs i)
normal_at rs i h l = AllPass-from_list_all is_normal rs h i none l

pub one_below : (rs : List Regex) (i : ℕ) → i < length rs → All (λ j. j < length rs) (i ∷ [])
one_below rs i h zero d l = h
one_below rs i h (suc k) d l = absurd (omega (arith, l))

normal_anything : IsNormal anything
unfolding is_normal mknot code
normal_anything = refl

pub normal_not_none : (rs : List Regex) (i : ℕ) → Names rs i none → IsNormal (neg (regex_at rs i))
normal_not_none rs i h = rw (names_at rs i none h) normal_anything

pub not_none_is : (rs : List Regex) (i : ℕ) → Names rs i none → neg (regex_at rs i) ≡ anything
not_none_is rs i h = ap (λ r. neg r) (names_at rs i none h)

pub mkset_nil : (rs : List Range) → true ≡ (length rs == 0) → none ≡ mkset rs
unfolding mkset
mkset_nil [] h = refl
mkset_nil (r ∷ rs) h = absurd (grind (arith, nat_tests))

pub mkset_more : (rs : List Range) → false ≡ (length rs == 0) → set rs ≡ mkset rs
unfolding mkset
mkset_more [] h = absurd (grind (arith, nat_tests))
mkset_more (r ∷ rs) h = refl

pub normal_set : (rs : List Range) → ConstructorsGiveNormal → IsCanonical rs → false ≡ (length rs == 0)
    → IsNormal (set rs)
normal_set rs law canonical h = rw (mkset_more rs h) (law.sets rs canonical)

-- Stars.

pub star_none : (rs : List Regex) (d : Node) (r : Regex) → node_regex rs d ≡ r → d ≡ node.None → eps ≡ mkstar r
unfolding mkstar
star_none rs d r e is = ap (λ x. mkstar (node_regex rs x)) (sym is) ∙ ap mkstar e

pub star_eps : (rs : List Regex) (d : Node) (r : Regex) → node_regex rs d ≡ r → d ≡ node.Eps → r ≡ mkstar r
unfolding mkstar
star_eps rs d r e is = sym e ∙ ap (λ x. node_regex rs x) is ∙ ap (λ x. mkstar (node_regex rs x)) (sym is) ∙ ap mkstar e

pub star_star : (rs : List Regex) (d : Node) (r : Regex) (p : ℕ) → node_regex rs d ≡ r → d ≡ node.Star p → r ≡ mkstar r
unfolding mkstar
star_star rs d r p e is = sym e ∙ ap (λ x. node_regex rs x) is ∙ ap (λ x. mkstar (node_regex rs x)) (sym is)
    ∙ ap mkstar e

pub star_full : (rs : List Range) (b : Bool) (r : Regex) → set rs ≡ r → b ≡ regex_eq (set rs) any_character → b ≡ true
    → anything ≡ mkstar r
unfolding mkstar
star_full rs b r e is h = ap (λ t. if t then anything else star (set rs)) (sym h ∙ is) ∙ ap mkstar e

pub star_set : (rs : List Range) (b : Bool) (r : Regex) → set rs ≡ r → b ≡ regex_eq (set rs) any_character → b ≡ false
    → star r ≡ mkstar r
unfolding mkstar
star_set rs b r e is h = ap (λ x. star x) (sym e) ∙ ap (λ t. if t then anything else star (set rs)) (sym h ∙ is)
    ∙ ap mkstar e

pub star_other : (rs : List Regex) (d : Node) (r : Regex) → node_regex rs d ≡ r → (d ≡ node.None → ⊥)
    → (d ≡ node.Eps → ⊥) → ((v : _) → d ≡ node.Set v → ⊥) → ((p : _) → d ≡ node.Star p → ⊥) → star r ≡ mkstar r
unfolding mkstar code
star_other rs d r e f g h k = ap (λ x. star x) (sym e) ∙ plain d f g h k ∙ ap mkstar e
  where
    plain : (d : Node) → (d ≡ node.None → ⊥) → (d ≡ node.Eps → ⊥) → ((v : _) → d ≡ node.Set v → ⊥)
        → ((p : _) → d ≡ node.Star p → ⊥) → star (node_regex rs d) ≡ mkstar (node_regex rs d)
    plain node.None f g h k = absurd (f refl)
    plain node.Eps f g h k = absurd (g refl)
    plain (node.Set v) f g h k = absurd (h v refl)
    plain (node.Cat a b) f g h k = refl
    plain (node.Alt ps) f g h k = refl
    plain (node.And ps) f g h k = refl
    plain (node.Not a) f g h k = refl
    plain (node.Star a) f g h k = absurd (k a refl)
    plain (node.Rep a n m) f g h k = refl
    plain (node.Path a b) f g h k = refl

pub normal_star : (r : Regex) → ConstructorsGiveNormal → IsNormal r → star r ≡ mkstar r → IsNormal (star r)
normal_star r law n e = rw e (law.stars r n)

-- Repetitions.

rep_of : Regex → ℕ → ℕ → Bool → Bool → Regex
rep_of a n m is_eps is_none = if is_eps then eps else if is_none then (if n == 0 then eps else none) else rep a n m

-- where the bounds do not settle it
rep_by_body : (a : Regex) (n m : ℕ) → n ≤ m → 0 < m → (n ≡ 1 → m ≡ 1 → ⊥)
    → mkrep a n m ≡ rep_of a n m (regex_eq a eps) (is_none a)
unfolding mkrep code rep_of
rep_by_body a n m le some other =
    ap (λ b. if b then none else if m == 0 then eps else if (n == 1) && (m == 1) then a
    else rep_of a n m (regex_eq a eps) (is_none a)) in_order
    ∙ ap (λ b. if b then eps else if (n == 1) && (m == 1) then a else rep_of a n m (regex_eq a eps) (is_none a))
    not_zero
    ∙ ap (λ b. if b then a else rep_of a n m (regex_eq a eps) (is_none a)) (step (n == 1) (m == 1) refl refl)
  where
    in_order : nat_lt m n ≡ false
    in_order = grind (arith, nat_tests, le)

    not_zero : (m == 0) ≡ false
    not_zero = grind (arith, nat_tests, some)

    step : (b d : Bool) → (n == 1) ≡ b → (m == 1) ≡ d → ((n == 1) && (m == 1)) ≡ false
    step true true e f = absurd (other (nat_same n 1 e) (nat_same m 1 f))
    step true false e f = ap₂ ◌&&◌ e f
    step false d e f = ap (λ b. b && (m == 1)) e

pub rep_none : (a : Regex) (n m : ℕ) → m < n → none ≡ mkrep a n m
unfolding mkrep code rep_of
rep_none a n m h =
    let e : true ≡ nat_lt m n = grind (arith, nat_tests, h) in
    ap (λ b. if b then none else if m == 0 then eps else if (n == 1) && (m == 1) then a
    else rep_of a n m (regex_eq a eps) (is_none a)) e

pub rep_nothing : (a : Regex) (n m : ℕ) → n ≤ m → m ≡ 0 → eps ≡ mkrep a n m
unfolding mkrep code rep_of
rep_nothing a n m le h =
    let in_order : false ≡ nat_lt m n = grind (arith, nat_tests, le) in
    let e : true ≡ (m == 0) = grind (arith, nat_tests, h) in
    ap (λ b. if b then eps else if (n == 1) && (m == 1) then a else rep_of a n m (regex_eq a eps) (is_none a)) e
    ∙ ap (λ b. if b then none else if m == 0 then eps else if (n == 1) && (m == 1) then a
    else rep_of a n m (regex_eq a eps) (is_none a)) in_order

pub rep_once : (a : Regex) (n m : ℕ) → n ≡ 1 → m ≡ 1 → a ≡ mkrep a n m
unfolding mkrep
rep_once a n m e f = ap₂ (λ x y. mkrep a x y) (sym e) (sym f)

pub rep_eps : (rs : List Regex) (d : Node) (r : Regex) (n m : ℕ) → n ≤ m → 0 < m → (n ≡ 1 → m ≡ 1 → ⊥)
    → node_regex rs d ≡ r → d ≡ node.Eps → r ≡ mkrep r n m
unfolding code rep_of
rep_eps rs d r n m le some other e is =
    let here : eps ≡ r = ap (node_regex rs) (sym is) ∙ e in
    rw (← here) (sym (rep_by_body eps n m le some other))

pub rep_none_of_none : (rs : List Regex) (d : Node) (r : Regex) (n m : ℕ) → n ≤ m → 0 < m → (n ≡ 1 → m ≡ 1 → ⊥)
    → node_regex rs d ≡ r → d ≡ node.None → (if n == 0 then eps else none) ≡ mkrep r n m
unfolding code rep_of
rep_none_of_none rs d r n m le some other e is =
    let here : none ≡ r = ap (node_regex rs) (sym is) ∙ e in
    rw (← here) (sym (rep_by_body none n m le some other))

pub rep_of_none : (rs : List Regex) (d : Node) (r : Regex) (n m : ℕ) → n ≤ m → 0 < m → (n ≡ 1 → m ≡ 1 → ⊥)
    → node_regex rs d ≡ r → d ≡ node.None → (n ≡ 0 → ⊥) → r ≡ mkrep r n m
rep_of_none rs d r n m le some other e is above =
    let here : r ≡ none = sym e ∙ ap (node_regex rs) is in
    let b : false ≡ (n == 0) = grind (arith, nat_tests, above) in
    here ∙ ap (λ b. if b then eps else none) b ∙ rep_none_of_none rs d r n m le some other e is

pub rep_other : (rs : List Regex) (d : Node) (r : Regex) (n m : ℕ) → n ≤ m → 0 < m → (n ≡ 1 → m ≡ 1 → ⊥)
    → node_regex rs d ≡ r → (d ≡ node.None → ⊥) → (d ≡ node.Eps → ⊥) → rep r n m ≡ mkrep r n m
unfolding code rep_of
rep_other rs d r n m le some other e f g =
    let here : mkrep r n m ≡ rep_of r n m (regex_eq r eps) (is_none r) = rep_by_body r n m le some other in
    let neither = plain d f g in
    sym (ap₂ (λ b t. rep_of r n m b t) (ap (λ x. regex_eq x eps) (sym e) ∙ neither.0)
    (ap is_none (sym e) ∙ neither.1)) ∙ sym here
  where
    plain : (d : Node) → (d ≡ node.None → ⊥) → (d ≡ node.Eps → ⊥)
        → (regex_eq (node_regex rs d) eps ≡ false) × (is_none (node_regex rs d) ≡ false)
    plain node.None f g = absurd (f refl)
    plain node.Eps f g = absurd (g refl)
    plain (node.Set v) f g = (refl, refl)
    plain (node.Cat a b) f g = (refl, refl)
    plain (node.Alt ps) f g = (refl, refl)
    plain (node.And ps) f g = (refl, refl)
    plain (node.Not a) f g = (refl, refl)
    plain (node.Star a) f g = (refl, refl)
    plain (node.Rep a k l) f g = (refl, refl)
    plain (node.Path a b) f g = (refl, refl)

pub normal_rep : (r : Regex) (n m : ℕ) → ConstructorsGiveNormal → IsNormal r → rep r n m ≡ mkrep r n m
    → IsNormal (rep r n m)
normal_rep r n m law is e = rw e (law.repetitions r n m is)

-- Complements.

pub not_not : (rs : List Regex) (d : Node) (r : Regex) (b : ℕ) → node_regex rs d ≡ r → d ≡ node.Not b
    → regex_at rs b ≡ mknot r
unfolding mknot
not_not rs d r b e is = ap (λ x. mknot (node_regex rs x)) (sym is) ∙ ap mknot e

pub not_other : (rs : List Regex) (d : Node) (r : Regex) → node_regex rs d ≡ r
    → ((b : ℕ) → d ≡ node.Not b → ⊥) → neg r ≡ mknot r
unfolding mknot
not_other rs d r e f = ap neg (sym e) ∙ plain d f ∙ ap mknot e
  where
    plain : (d : Node) → ((b : ℕ) → d ≡ node.Not b → ⊥) → neg (node_regex rs d) ≡ mknot (node_regex rs d)
    plain node.None f = refl
    plain node.Eps f = refl
    plain (node.Set v) f = refl
    plain (node.Cat a b) f = refl
    plain (node.Alt ps) f = refl
    plain (node.And ps) f = refl
    plain (node.Not a) f = absurd (f a refl)
    plain (node.Star a) f = refl
    plain (node.Rep a n m) f = refl
    plain (node.Path a b) f = refl

pub normal_not : (r : Regex) → ConstructorsGiveNormal → IsNormal r → neg r ≡ mknot r → IsNormal (neg r)
normal_not r law n e = rw e (law.complements r n)

-- Paths.

-- what a path from a regex comes to, where that has no word or every word, or has not
path_of : Regex → Regex → Bool → Bool → Regex
path_of a b stays same = if stays then (if same then anything else none) else path a b

path_by : (a b : Regex) → mkpath a b ≡ path_of a b (is_none a || is_anything a) (regex_eq a b)
unfolding mkpath path_of
path_by a b = refl

pub path_stays : (a b : Regex) (stays same : Bool) → stays ≡ (is_none a || is_anything a) → stays ≡ true
    → same ≡ regex_eq a b → (if same then anything else none) ≡ mkpath a b
unfolding path_of
path_stays a b stays same is h e =
    ap (λ t. path_of a b t same) (sym h ∙ is) ∙ ap (path_of a b (is_none a || is_anything a)) e ∙ sym (path_by a b)

pub path_other : (a b : Regex) (stays : Bool) → stays ≡ (is_none a || is_anything a) → stays ≡ false
    → path a b ≡ mkpath a b
unfolding path_of
path_other a b stays is h =
    ap (λ t. path_of a b t (regex_eq a b)) (sym h ∙ is) ∙ sym (path_by a b)

pub normal_path : (a b : Regex) → ConstructorsGiveNormal → IsNormal a → IsNormal b → path a b ≡ mkpath a b
    → IsNormal (path a b)
normal_path a b law n m e = rw e (law.paths a b n m)

-- whether a regex stays, by its node
pub stays_none : (rs : List Regex) (d : Node) (r : Regex) → node_regex rs d ≡ r → d ≡ node.None
    → true ≡ (is_none r || is_anything r)
unfolding code
stays_none rs d r e is = ap (λ x. is_none (node_regex rs x) || is_anything (node_regex rs x)) (sym is)
    ∙ ap (λ x. is_none x || is_anything x) e

pub stays_not : (rs : List Regex) (d : Node) (r : Regex) (b : ℕ) (t : Bool) → node_regex rs d ≡ r → d ≡ node.Not b
    → t ≡ is_none (regex_at rs b) → t ≡ (is_none r || is_anything r)
unfolding code
stays_not rs d r b t e is h =
    h ∙ ap (λ x. is_none (node_regex rs x) || is_anything (node_regex rs x)) (sym is)
    ∙ ap (λ x. is_none x || is_anything x) e

pub stays_other : (rs : List Regex) (d : Node) (r : Regex) → node_regex rs d ≡ r → (d ≡ node.None → ⊥)
    → ((b : ℕ) → d ≡ node.Not b → ⊥) → false ≡ (is_none r || is_anything r)
unfolding code
stays_other rs d r e f g = plain d f g ∙ ap (λ x. is_none x || is_anything x) e
  where
    plain : (d : Node) → (d ≡ node.None → ⊥) → ((b : ℕ) → d ≡ node.Not b → ⊥)
        → false ≡ (is_none (node_regex rs d) || is_anything (node_regex rs d))
    plain node.None f g = absurd (f refl)
    plain node.Eps f g = refl
    plain (node.Set v) f g = refl
    plain (node.Cat a b) f g = refl
    plain (node.Alt ps) f g = refl
    plain (node.And ps) f g = refl
    plain (node.Not a) f g = absurd (g a refl)
    plain (node.Star a) f g = refl
    plain (node.Rep a n m) f g = refl
    plain (node.Path a b) f g = refl
