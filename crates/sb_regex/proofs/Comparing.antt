-- Comparing nodes part by part.
use Rattle.std.proofs.Common.{◌≡◌, ℕ, suc, ◌+◌, ◌<◌, ◌≤◌, min, Bool, true, false, not, ◌&&◌, cond, nat_eq, nat_lt, List, [], ◌∷◌, length, get_or, drop, refl, sym, ap, ap₂, ◌∙◌, arith, length-drop}
use Rattle.std.specs.declared.cmp.Ordering.{Ordering}
use Rattle.std.specs.declared.cmp.Ordering.TheVariants.{Less, Equal, Greater}
use Rattle.std.specs.Ordering.{nat_cmp, is_eq, ordering_then, ordering_reverse}
use Rattle.std.specs.List.{All}
use Rattle.std.specs.Cmp.{IsTotalOrder}
use Rattle.std.specs.Cmp.Lexicographic.{slice_cmp}
use Rattle.std.proofs.lemmas.Bool.{false≢true}
use Rattle.std.proofs.lemmas.Bool.Decides.{nat_tests}
use Rattle.std.proofs.lemmas.Cmp.{tied_itself, nat_cmp_total}
use Rattle.std.proofs.lemmas.List.{drop_more}
use Rattle.sb_class.specs.Ranges.{Range}
use Rattle.sb_lang.specs.Regex.{Regex, none, eps, set, cat, alt, and, neg, star, rep, path, regexes}
use Rattle.sb_lang.specs.Order.{code, range_code, regex_cmp, regex_eq}
use Rattle.sb_lang.specs.OrderLaws.{ends, kind, IsByKindThenParts, OrderTellsApart}
use Rattle.sb_lang.specs.Constructors.{is_none, any_character}
use Rattle.sb_regex.specs.declared.compare.Difference.{Difference}
use Rattle.sb_regex.specs.declared.compare.Difference.TheVariants.{Decided, Parts}
use Rattle.sb_regex.specs.declared.node.Node.{Node}
use Rattle.sb_regex.specs.declared.node.Node.TheVariants as node
use Rattle.sb_regex.specs.Numbered.{regex_at, regexes_at, AreDistinct}
use Rattle.sb_regex.specs.Nodes.{node_regex}
use Rattle.sb_regex.specs.Interning.{node_kind}
use Rattle.sb_regex.specs.Steps.{first_difference, IsDifference}
use Rattle.sb_regex.proofs.NodeEq.{nat_same, same_nat}
use Rattle.sb_lang.proofs.CallerLemmas.{parts-regexes, then_assoc}

-- ranges compare by their ends
abbrev pub range_cmp : Range → Range → Ordering
range_cmp r s = ordering_then (nat_cmp r.0 s.0) (nat_cmp r.1 s.1)

pub ranges_by_ends : (rs ss : List Range) → slice_cmp range_cmp rs ss ≡ slice_cmp nat_cmp (ends rs) (ends ss)
unfolding ends
ranges_by_ends [] [] = refl
ranges_by_ends [] (s ∷ ss) = refl
ranges_by_ends (r ∷ rs) [] = refl
ranges_by_ends (r ∷ rs) (s ∷ ss) =
    then_assoc (nat_cmp r.0 s.0) (nat_cmp r.1 s.1) (slice_cmp range_cmp rs ss)
    ∙ ap (λ o. ordering_then (nat_cmp r.0 s.0) (ordering_then (nat_cmp r.1 s.1) o)) (ranges_by_ends rs ss)

-- The loop that looks for the first difference.

pub difference_at : (xs ys : List ℕ) (i x y : ℕ) → i < length xs → i < length ys → x ≡ get_or xs i x → y ≡ get_or ys i y
    → first_difference (drop i xs) (drop i ys)
    ≡ cond (nat_eq x y) (first_difference (drop (i + 1) xs) (drop (i + 1) ys)) (Parts x y)
difference_at xs ys i x y l m e f =
    ap₂ (λ u v. first_difference u v) (drop_more xs i x l) (drop_more ys i y m)
    ∙ ap₂ (λ u v. cond (nat_eq u v) (first_difference (drop (i + 1) xs) (drop (i + 1) ys)) (Parts u v)) (sym e) (sym f)

pub difference_found : (xs ys : List ℕ) (i x y : ℕ) (b : Bool) (whole : Difference) → i < length xs → i < length ys
    → x ≡ get_or xs i x → y ≡ get_or ys i y → b ≡ not (nat_eq x y) → b ≡ true
    → first_difference (drop i xs) (drop i ys) ≡ whole → Parts x y ≡ whole
difference_found xs ys i x y b whole l m e f is found inv =
    sym (ap (λ t. cond t (first_difference (drop (i + 1) xs) (drop (i + 1) ys)) (Parts x y))
    (unlike (nat_eq x y) (sym is ∙ found)))
    ∙ sym (difference_at xs ys i x y l m e f) ∙ inv
  where
    unlike : (t : Bool) → not t ≡ true → t ≡ false
    unlike true h = absurd (false≢true h)
    unlike false h = refl

pub difference_next : (xs ys : List ℕ) (i x y : ℕ) (b : Bool) (whole : Difference) → i < length xs → i < length ys
    → x ≡ get_or xs i x → y ≡ get_or ys i y → b ≡ not (nat_eq x y) → b ≡ false
    → first_difference (drop i xs) (drop i ys) ≡ whole → first_difference (drop (i + 1) xs) (drop (i + 1) ys) ≡ whole
difference_next xs ys i x y b whole l m e f is found inv =
    sym (ap (λ t. cond t (first_difference (drop (i + 1) xs) (drop (i + 1) ys)) (Parts x y))
    (alike (nat_eq x y) (sym is ∙ found)))
    ∙ sym (difference_at xs ys i x y l m e f) ∙ inv
  where
    alike : (t : Bool) → not t ≡ false → t ≡ true
    alike true h = refl
    alike false h = absurd (false≢true (sym h))

ended : (u v : List ℕ) (i m n : ℕ) → length u + i ≡ m → length v + i ≡ n → i ≡ min m n
    → first_difference u v ≡ Decided (nat_cmp m n)
ended [] [] i m n p q e = ap (λ o. Decided o) (grind (arith, nat_tests))
ended [] (y ∷ ys) i m n p q e = ap (λ o. Decided o) (grind (arith, nat_tests))
ended (x ∷ xs) [] i m n p q e = ap (λ o. Decided o) (grind (arith, nat_tests))
ended (x ∷ xs) (y ∷ ys) i m n p q e = absurd (omega arith)

pub difference_end : (xs ys : List ℕ) (i : ℕ) (o : Ordering) (whole : Difference) → i ≡ min (length xs) (length ys)
    → o ≡ nat_cmp (length xs) (length ys) → first_difference (drop i xs) (drop i ys) ≡ whole → Decided o ≡ whole
difference_end xs ys i o whole e is inv =
    ap (λ t. Decided t) is
    ∙ sym (ended (drop i xs) (drop i ys) i (length xs) (length ys) (omega (arith, length-drop i xs))
    (omega (arith, length-drop i ys)) e)
    ∙ inv

-- The regex with no word, and the set of all characters.

pub none_at : (rs : List Regex) (d : Node) → d ≡ node.None → true ≡ is_none (node_regex rs d)
unfolding code
none_at rs d e = sym (ap (λ x. is_none (node_regex rs x)) e)

pub not_none : (rs : List Regex) (d : Node) → (d ≡ node.None → ⊥) → false ≡ is_none (node_regex rs d)
unfolding code
not_none rs node.None h = absurd (h refl)
not_none rs node.Eps h = refl
not_none rs (node.Set ranges) h = refl
not_none rs (node.Cat a b) h = refl
not_none rs (node.Alt ps) h = refl
not_none rs (node.And ps) h = refl
not_none rs (node.Not a) h = refl
not_none rs (node.Star a) h = refl
not_none rs (node.Rep a n m) h = refl
not_none rs (node.Path a b) h = refl

tied : (x m : ℕ) → nat_eq x m ≡ is_eq (ordering_then (nat_cmp x m) Equal)
tied x m = step (nat_cmp x m) refl
  where
    step : (o : Ordering) → nat_cmp x m ≡ o → nat_eq x m ≡ is_eq (ordering_then o Equal)
    step Less is = grind (arith, nat_tests)
    step Equal is = grind (arith, nat_tests)
    step Greater is = grind (arith, nat_tests)

below_zero : (x : ℕ) → nat_cmp x 0 ≡ Less → ⊥
below_zero x h = step (nat_lt x 0) refl h
  where
    step : (b : Bool) → nat_lt x 0 ≡ b → cond b Less (cond (nat_eq x 0) Equal Greater) ≡ Less → ⊥
    step true is h = grind (arith, nat_tests)
    step false is h = other (nat_eq x 0) h
      where
        other : (b : Bool) → cond b Equal Greater ≡ Less → ⊥
        other true e = cc
        other false e = cc

one_range : (x y m : ℕ)
    → is_eq (ordering_then (nat_cmp x 0) (ordering_then (nat_cmp y m) Equal)) ≡ (nat_eq x 0 && nat_eq y m)
one_range x y m = step (nat_cmp x 0) refl
  where
    step : (o : Ordering) → nat_cmp x 0 ≡ o
        → is_eq (ordering_then o (ordering_then (nat_cmp y m) Equal)) ≡ (nat_eq x 0 && nat_eq y m)
    step Less is = absurd (below_zero x is)
    step Equal is =
        let e : true ≡ nat_eq x 0 = grind (arith, nat_tests) in
        sym (tied y m) ∙ ap (λ b. b && nat_eq y m) e
    step Greater is =
        let e : false ≡ nat_eq x 0 = grind (arith, nat_tests) in
        ap (λ b. b && nat_eq y m) e

pub full_one : (rs : List Range) → 1 ≤ length rs → length rs < 2
    → regex_eq (set rs) any_character ≡ (nat_eq (get_or rs 0 (0, 0)).0 0 && nat_eq (get_or rs 0 (0, 0)).1 0x2ffff)
unfolding code range_code
full_one [] l m = absurd (omega arith)
full_one (r ∷ []) l m = one_range r.0 r.1 0x2ffff
full_one (r ∷ s ∷ rs) l m = absurd (omega arith)

pub full_then : (rs : List Range) → 1 ≤ length rs → length rs < 2 → (get_or rs 0 (0, 0)).0 ≡ 0
    → nat_eq (get_or rs 0 (0, 0)).1 0x2ffff ≡ regex_eq (set rs) any_character
full_then rs l m h = sym (full_one rs l m ∙ ap (λ b. b && nat_eq (get_or rs 0 (0, 0)).1 0x2ffff) (same_nat _ _ h))

pub full_else : (rs : List Range) → 1 ≤ length rs → length rs < 2 → ((get_or rs 0 (0, 0)).0 ≡ 0 → ⊥)
    → nat_eq (get_or rs 0 (0, 0)).0 0 ≡ regex_eq (set rs) any_character
full_else rs l m h = step (nat_eq (get_or rs 0 (0, 0)).0 0) refl
  where
    step : (b : Bool) → nat_eq (get_or rs 0 (0, 0)).0 0 ≡ b
        → nat_eq (get_or rs 0 (0, 0)).0 0 ≡ regex_eq (set rs) any_character
    step true is = absurd (h (nat_same _ _ is))
    step false is = sym (full_one rs l m ∙ ap (λ b. b && nat_eq (get_or rs 0 (0, 0)).1 0x2ffff) is ∙ sym is)

pub full_no : (rs : List Range) → length rs < 1 → false ≡ regex_eq (set rs) any_character
unfolding code range_code
full_no [] l = refl
full_no (r ∷ rs) l = absurd (omega arith)

pub full_many : (rs : List Range) → 2 ≤ length rs → false ≡ regex_eq (set rs) any_character
unfolding code range_code
full_many [] l = absurd (omega arith)
full_many (r ∷ []) l = absurd (omega arith)
full_many (r ∷ s ∷ rs) l = many (nat_cmp r.0 0) (nat_cmp r.1 0x2ffff)
  where
    many : (o p : Ordering) → false ≡ is_eq (ordering_then o (ordering_then p Greater))
    many Less p = refl
    many Equal Less = refl
    many Equal Equal = refl
    many Equal Greater = refl
    many Greater p = refl

-- Nodes of two kinds.

pub kind_of : (rs : List Regex) (d : Node) → kind (node_regex rs d) ≡ node_kind d
unfolding kind
kind_of rs node.None = refl
kind_of rs node.Eps = refl
kind_of rs (node.Set ranges) = refl
kind_of rs (node.Cat a b) = refl
kind_of rs (node.Alt ps) = refl
kind_of rs (node.And ps) = refl
kind_of rs (node.Not a) = refl
kind_of rs (node.Star a) = refl
kind_of rs (node.Rep a n m) = refl
kind_of rs (node.Path a b) = refl

by_kinds : IsByKindThenParts regex_cmp → IsTotalOrder regex_cmp → (r s : Regex) → (kind r ≡ kind s → ⊥)
    → regex_cmp r s ≡ nat_cmp (kind r) (kind s)
by_kinds law total r s other = step (nat_lt (kind r) (kind s)) refl
  where
    step : (b : Bool) → nat_lt (kind r) (kind s) ≡ b → regex_cmp r s ≡ nat_cmp (kind r) (kind s)
    step true is =
        let l : kind r < kind s = grind (arith, nat_tests) in
        let e : nat_cmp (kind r) (kind s) ≡ Less = grind (arith, nat_tests) in
        law.kinds r s l ∙ sym e
    step false is =
        let l : kind s < kind r = grind (arith, nat_tests, other) in
        let e : nat_cmp (kind r) (kind s) ≡ Greater = grind (arith, nat_tests) in
        total.antisymm r s ∙ ap (λ o. ordering_reverse o) (law.kinds s r l) ∙ sym e

pub other_kind : IsByKindThenParts regex_cmp → IsTotalOrder regex_cmp → (rs : List Regex) (a b : ℕ) (d e : Node)
    → node_regex rs d ≡ regex_at rs a → node_regex rs e ≡ regex_at rs b → (node_kind d ≡ node_kind e → ⊥)
    → regex_cmp (regex_at rs a) (regex_at rs b) ≡ nat_cmp (node_kind d) (node_kind e)
other_kind law total rs a b d e f g other =
    ap₂ (λ x y. regex_cmp x y) (sym f) (sym g)
    ∙ by_kinds law total (node_regex rs d) (node_regex rs e) (λ h. other (sym (kind_of rs d) ∙ h ∙ kind_of rs e))
    ∙ ap₂ (λ x y. nat_cmp x y) (kind_of rs d) (kind_of rs e)

-- a node that has no parts, with any other
pub none_first : IsByKindThenParts regex_cmp → IsTotalOrder regex_cmp → (rs : List Regex) (a b : ℕ) (d e : Node)
    → node_regex rs d ≡ regex_at rs a → node_regex rs e ≡ regex_at rs b → d ≡ node.None
    → regex_cmp (regex_at rs a) (regex_at rs b) ≡ nat_cmp (node_kind d) (node_kind e)
none_first law total rs a b d e f g is = step (nat_eq (node_kind d) (node_kind e)) refl
  where
    same_none : (e : Node) → 0 ≡ node_kind e → node_regex rs e ≡ none
    same_none node.None h = refl
    same_none node.Eps h = absurd (omega arith)
    same_none (node.Set v) h = absurd (omega arith)
    same_none (node.Cat a b) h = absurd (omega arith)
    same_none (node.Alt ps) h = absurd (omega arith)
    same_none (node.And ps) h = absurd (omega arith)
    same_none (node.Not a) h = absurd (omega arith)
    same_none (node.Star a) h = absurd (omega arith)
    same_none (node.Rep a n m) h = absurd (omega arith)
    same_none (node.Path a b) h = absurd (omega arith)

    step : (t : Bool) → nat_eq (node_kind d) (node_kind e) ≡ t
        → regex_cmp (regex_at rs a) (regex_at rs b) ≡ nat_cmp (node_kind d) (node_kind e)
    step true h =
        let k = nat_same _ _ h in
        let zero_kind = ap node_kind (sym is) ∙ k in
        ap₂ (λ x y. regex_cmp x y) (sym f ∙ ap (node_regex rs) is) (sym g ∙ same_none e zero_kind)
        ∙ tied_itself total none
        ∙ sym (tied_itself nat_cmp_total (node_kind e))
        ∙ ap (λ x. nat_cmp x (node_kind e)) (sym k)
    step false h = other_kind law total rs a b d e f g (λ k. false≢true (sym h ∙ same_nat _ _ k))

pub eps_first : IsByKindThenParts regex_cmp → IsTotalOrder regex_cmp → (rs : List Regex) (a b : ℕ) (d e : Node)
    → node_regex rs d ≡ regex_at rs a → node_regex rs e ≡ regex_at rs b → d ≡ node.Eps
    → regex_cmp (regex_at rs a) (regex_at rs b) ≡ nat_cmp (node_kind d) (node_kind e)
eps_first law total rs a b d e f g is = step (nat_eq (node_kind d) (node_kind e)) refl
  where
    same_eps : (e : Node) → 1 ≡ node_kind e → node_regex rs e ≡ eps
    same_eps node.None h = absurd (omega arith)
    same_eps node.Eps h = refl
    same_eps (node.Set v) h = absurd (omega arith)
    same_eps (node.Cat a b) h = absurd (omega arith)
    same_eps (node.Alt ps) h = absurd (omega arith)
    same_eps (node.And ps) h = absurd (omega arith)
    same_eps (node.Not a) h = absurd (omega arith)
    same_eps (node.Star a) h = absurd (omega arith)
    same_eps (node.Rep a n m) h = absurd (omega arith)
    same_eps (node.Path a b) h = absurd (omega arith)

    step : (t : Bool) → nat_eq (node_kind d) (node_kind e) ≡ t
        → regex_cmp (regex_at rs a) (regex_at rs b) ≡ nat_cmp (node_kind d) (node_kind e)
    step true h =
        let k = nat_same _ _ h in
        let one_kind = ap node_kind (sym is) ∙ k in
        ap₂ (λ x y. regex_cmp x y) (sym f ∙ ap (node_regex rs) is) (sym g ∙ same_eps e one_kind)
        ∙ tied_itself total eps
        ∙ sym (tied_itself nat_cmp_total (node_kind e))
        ∙ ap (λ x. nat_cmp x (node_kind e)) (sym k)
    step false h = other_kind law total rs a b d e f g (λ k. false≢true (sym h ∙ same_nat _ _ k))

not_set : (e : Node) → ((v : _) → e ≡ node.Set v → ⊥) → 2 ≡ node_kind e → ⊥
not_set node.None h k = omega arith
not_set node.Eps h k = omega arith
not_set (node.Set v) h k = h v refl
not_set (node.Cat a b) h k = omega arith
not_set (node.Alt ps) h k = omega arith
not_set (node.And ps) h k = omega arith
not_set (node.Not a) h k = omega arith
not_set (node.Star a) h k = omega arith
not_set (node.Rep a n m) h k = omega arith
not_set (node.Path a b) h k = omega arith

pub set_first : IsByKindThenParts regex_cmp → IsTotalOrder regex_cmp → (rs : List Regex) (a b : ℕ) (d e : Node)
    → node_regex rs d ≡ regex_at rs a → node_regex rs e ≡ regex_at rs b → (v : _) → d ≡ node.Set v
    → ((v : _) → e ≡ node.Set v → ⊥) → regex_cmp (regex_at rs a) (regex_at rs b) ≡ nat_cmp (node_kind d) (node_kind e)
set_first law total rs a b d e f g x0 is other =
    other_kind law total rs a b d e f g (λ k. not_set e other (ap node_kind (sym is) ∙ k))

not_cat : (e : Node) → ((p q : _) → e ≡ node.Cat p q → ⊥) → 3 ≡ node_kind e → ⊥
not_cat node.None h k = omega arith
not_cat node.Eps h k = omega arith
not_cat (node.Set v) h k = omega arith
not_cat (node.Cat a b) h k = h a b refl
not_cat (node.Alt ps) h k = omega arith
not_cat (node.And ps) h k = omega arith
not_cat (node.Not a) h k = omega arith
not_cat (node.Star a) h k = omega arith
not_cat (node.Rep a n m) h k = omega arith
not_cat (node.Path a b) h k = omega arith

pub cat_first : IsByKindThenParts regex_cmp → IsTotalOrder regex_cmp → (rs : List Regex) (a b : ℕ) (d e : Node)
    → node_regex rs d ≡ regex_at rs a → node_regex rs e ≡ regex_at rs b → (p q : _) → d ≡ node.Cat p q
    → ((p q : _) → e ≡ node.Cat p q → ⊥)
    → regex_cmp (regex_at rs a) (regex_at rs b) ≡ nat_cmp (node_kind d) (node_kind e)
cat_first law total rs a b d e f g x0 x1 is other =
    other_kind law total rs a b d e f g (λ k. not_cat e other (ap node_kind (sym is) ∙ k))

not_alt : (e : Node) → ((ps : _) → e ≡ node.Alt ps → ⊥) → 4 ≡ node_kind e → ⊥
not_alt node.None h k = omega arith
not_alt node.Eps h k = omega arith
not_alt (node.Set v) h k = omega arith
not_alt (node.Cat a b) h k = omega arith
not_alt (node.Alt ps) h k = h ps refl
not_alt (node.And ps) h k = omega arith
not_alt (node.Not a) h k = omega arith
not_alt (node.Star a) h k = omega arith
not_alt (node.Rep a n m) h k = omega arith
not_alt (node.Path a b) h k = omega arith

pub alt_first : IsByKindThenParts regex_cmp → IsTotalOrder regex_cmp → (rs : List Regex) (a b : ℕ) (d e : Node)
    → node_regex rs d ≡ regex_at rs a → node_regex rs e ≡ regex_at rs b → (ps : _) → d ≡ node.Alt ps
    → ((ps : _) → e ≡ node.Alt ps → ⊥) → regex_cmp (regex_at rs a) (regex_at rs b) ≡ nat_cmp (node_kind d) (node_kind e)
alt_first law total rs a b d e f g x0 is other =
    other_kind law total rs a b d e f g (λ k. not_alt e other (ap node_kind (sym is) ∙ k))

not_and : (e : Node) → ((ps : _) → e ≡ node.And ps → ⊥) → 5 ≡ node_kind e → ⊥
not_and node.None h k = omega arith
not_and node.Eps h k = omega arith
not_and (node.Set v) h k = omega arith
not_and (node.Cat a b) h k = omega arith
not_and (node.Alt ps) h k = omega arith
not_and (node.And ps) h k = h ps refl
not_and (node.Not a) h k = omega arith
not_and (node.Star a) h k = omega arith
not_and (node.Rep a n m) h k = omega arith
not_and (node.Path a b) h k = omega arith

pub and_first : IsByKindThenParts regex_cmp → IsTotalOrder regex_cmp → (rs : List Regex) (a b : ℕ) (d e : Node)
    → node_regex rs d ≡ regex_at rs a → node_regex rs e ≡ regex_at rs b → (ps : _) → d ≡ node.And ps
    → ((ps : _) → e ≡ node.And ps → ⊥) → regex_cmp (regex_at rs a) (regex_at rs b) ≡ nat_cmp (node_kind d) (node_kind e)
and_first law total rs a b d e f g x0 is other =
    other_kind law total rs a b d e f g (λ k. not_and e other (ap node_kind (sym is) ∙ k))

not_not : (e : Node) → ((p : _) → e ≡ node.Not p → ⊥) → 6 ≡ node_kind e → ⊥
not_not node.None h k = omega arith
not_not node.Eps h k = omega arith
not_not (node.Set v) h k = omega arith
not_not (node.Cat a b) h k = omega arith
not_not (node.Alt ps) h k = omega arith
not_not (node.And ps) h k = omega arith
not_not (node.Not a) h k = h a refl
not_not (node.Star a) h k = omega arith
not_not (node.Rep a n m) h k = omega arith
not_not (node.Path a b) h k = omega arith

pub not_first : IsByKindThenParts regex_cmp → IsTotalOrder regex_cmp → (rs : List Regex) (a b : ℕ) (d e : Node)
    → node_regex rs d ≡ regex_at rs a → node_regex rs e ≡ regex_at rs b → (p : _) → d ≡ node.Not p
    → ((p : _) → e ≡ node.Not p → ⊥) → regex_cmp (regex_at rs a) (regex_at rs b) ≡ nat_cmp (node_kind d) (node_kind e)
not_first law total rs a b d e f g x0 is other =
    other_kind law total rs a b d e f g (λ k. not_not e other (ap node_kind (sym is) ∙ k))

not_star : (e : Node) → ((p : _) → e ≡ node.Star p → ⊥) → 7 ≡ node_kind e → ⊥
not_star node.None h k = omega arith
not_star node.Eps h k = omega arith
not_star (node.Set v) h k = omega arith
not_star (node.Cat a b) h k = omega arith
not_star (node.Alt ps) h k = omega arith
not_star (node.And ps) h k = omega arith
not_star (node.Not a) h k = omega arith
not_star (node.Star a) h k = h a refl
not_star (node.Rep a n m) h k = omega arith
not_star (node.Path a b) h k = omega arith

pub star_first : IsByKindThenParts regex_cmp → IsTotalOrder regex_cmp → (rs : List Regex) (a b : ℕ) (d e : Node)
    → node_regex rs d ≡ regex_at rs a → node_regex rs e ≡ regex_at rs b → (p : _) → d ≡ node.Star p
    → ((p : _) → e ≡ node.Star p → ⊥) → regex_cmp (regex_at rs a) (regex_at rs b) ≡ nat_cmp (node_kind d) (node_kind e)
star_first law total rs a b d e f g x0 is other =
    other_kind law total rs a b d e f g (λ k. not_star e other (ap node_kind (sym is) ∙ k))

not_rep : (e : Node) → ((p n m : _) → e ≡ node.Rep p n m → ⊥) → 8 ≡ node_kind e → ⊥
not_rep node.None h k = omega arith
not_rep node.Eps h k = omega arith
not_rep (node.Set v) h k = omega arith
not_rep (node.Cat a b) h k = omega arith
not_rep (node.Alt ps) h k = omega arith
not_rep (node.And ps) h k = omega arith
not_rep (node.Not a) h k = omega arith
not_rep (node.Star a) h k = omega arith
not_rep (node.Rep a n m) h k = h a n m refl
not_rep (node.Path a b) h k = omega arith

pub rep_first : IsByKindThenParts regex_cmp → IsTotalOrder regex_cmp → (rs : List Regex) (a b : ℕ) (d e : Node)
    → node_regex rs d ≡ regex_at rs a → node_regex rs e ≡ regex_at rs b → (p n m : _) → d ≡ node.Rep p n m
    → ((p n m : _) → e ≡ node.Rep p n m → ⊥)
    → regex_cmp (regex_at rs a) (regex_at rs b) ≡ nat_cmp (node_kind d) (node_kind e)
rep_first law total rs a b d e f g x0 x1 x2 is other =
    other_kind law total rs a b d e f g (λ k. not_rep e other (ap node_kind (sym is) ∙ k))

not_path : (e : Node) → ((p q : _) → e ≡ node.Path p q → ⊥) → 9 ≡ node_kind e → ⊥
not_path node.None h k = omega arith
not_path node.Eps h k = omega arith
not_path (node.Set v) h k = omega arith
not_path (node.Cat a b) h k = omega arith
not_path (node.Alt ps) h k = omega arith
not_path (node.And ps) h k = omega arith
not_path (node.Not a) h k = omega arith
not_path (node.Star a) h k = omega arith
not_path (node.Rep a n m) h k = omega arith
not_path (node.Path a b) h k = h a b refl

pub path_first : IsByKindThenParts regex_cmp → IsTotalOrder regex_cmp → (rs : List Regex) (a b : ℕ) (d e : Node)
    → node_regex rs d ≡ regex_at rs a → node_regex rs e ≡ regex_at rs b → (p q : _) → d ≡ node.Path p q
    → ((p q : _) → e ≡ node.Path p q → ⊥)
    → regex_cmp (regex_at rs a) (regex_at rs b) ≡ nat_cmp (node_kind d) (node_kind e)
path_first law total rs a b d e f g x0 x1 is other =
    other_kind law total rs a b d e f g (λ k. not_path e other (ap node_kind (sym is) ∙ k))

-- Members in order.

unlike_then : (o x : Ordering) → (o ≡ Equal → ⊥) → ordering_then o x ≡ o
unlike_then Less x h = refl
unlike_then Equal x h = absurd (h refl)
unlike_then Greater x h = refl

-- where parts differ, so do their regexes
pub differ : OrderTellsApart → (rs : List Regex) → AreDistinct rs → (x y : ℕ) → x < length rs → y < length rs
    → nat_eq x y ≡ false → regex_cmp (regex_at rs x) (regex_at rs y) ≡ Equal → ⊥
differ tells rs distinct x y l m h e =
    false≢true (sym h ∙ same_nat x y (distinct x y l m ((tells (regex_at rs x) (regex_at rs y)).0 e)))

abbrev pub Members : List Regex → ℕ → ℕ → List ℕ → List ℕ → Difference → Type 0
Members rs a b is js (Decided o) = slice_cmp regex_cmp (regexes_at rs is) (regexes_at rs js) ≡ o
Members rs a b is js (Parts x y) =
    (x < a) × (y < b)
    × (slice_cmp regex_cmp (regexes_at rs is) (regexes_at rs js) ≡ regex_cmp (regex_at rs x) (regex_at rs y))

pub members_differ : OrderTellsApart → IsTotalOrder regex_cmp → (rs : List Regex) → AreDistinct rs → (a b : ℕ)
    → a ≤ length rs → b ≤ length rs → (is js : List ℕ) → All (λ i. i < a) is → All (λ i. i < b) js
    → Members rs a b is js (first_difference is js)
members_differ tells total rs distinct a b l m [] [] p q = refl
members_differ tells total rs distinct a b l m [] (j ∷ js) p q = refl
members_differ tells total rs distinct a b l m (i ∷ is) [] p q = refl
members_differ tells total rs distinct a b l m (i ∷ is) (j ∷ js) p q =
    let x = p 0 0 (omega arith) in
    let y = q 0 0 (omega arith) in
    step x y (members_differ tells total rs distinct a b l m is js (λ k d h. p (suc k) d (omega (arith, h)))
    (λ k d h. q (suc k) d (omega (arith, h)))) (nat_eq i j) refl
  where
    further : (d : Difference) → i ≡ j → Members rs a b is js d → Members rs a b (i ∷ is) (j ∷ js) d
    further (Decided o) e h =
        ap (λ t. ordering_then t (slice_cmp regex_cmp (regexes_at rs is) (regexes_at rs js)))
        (ap (λ x. regex_cmp (regex_at rs i) (regex_at rs x)) (sym e) ∙ tied_itself total (regex_at rs i)) ∙ h
    further (Parts x y) e h = (
      h.0,
      h.1,
      ap (λ t. ordering_then t (slice_cmp regex_cmp (regexes_at rs is) (regexes_at rs js)))
          (ap (λ x. regex_cmp (regex_at rs i) (regex_at rs x)) (sym e) ∙ tied_itself total (regex_at rs i)) ∙ h.2,
    )

    step : i < a → j < b → Members rs a b is js (first_difference is js) → (t : Bool) → nat_eq i j ≡ t
        → Members rs a b (i ∷ is) (j ∷ js) (cond t (first_difference is js) (Parts i j))
    step x y rest true is-same = further (first_difference is js) (nat_same i j is-same) rest
    step x y rest false is-other =
        (x, y, unlike_then _ _ (differ tells rs distinct i j (omega (arith, x, l)) (omega (arith, y, m)) is-other))

from_members : (rs : List Regex) (a b : ℕ) (is js : List ℕ) (d : Difference)
    → regex_cmp (regex_at rs a) (regex_at rs b) ≡ slice_cmp regex_cmp (regexes_at rs is) (regexes_at rs js)
    → Members rs a b is js d → IsDifference rs a b d
from_members rs a b is js (Decided o) e h = e ∙ h
from_members rs a b is js (Parts x y) e h = (h.0, h.1, e ∙ h.2)

pub unions_differ : IsByKindThenParts regex_cmp → OrderTellsApart → IsTotalOrder regex_cmp → (rs : List Regex)
    → AreDistinct rs → (a b : ℕ) → a < length rs → b < length rs → (is js : List ℕ) → All (λ i. i < a) is
    → All (λ i. i < b) js → alt (regexes (regexes_at rs is)) ≡ regex_at rs a
    → alt (regexes (regexes_at rs js)) ≡ regex_at rs b → (d : Difference) → d ≡ first_difference is js
    → IsDifference rs a b d
unions_differ law tells total rs distinct a b l m is js p q f g d same-d =
    rw same-d
    (from_members rs a b is js (first_difference is js)
    (ap₂ (λ x y. regex_cmp x y) (sym f) (sym g) ∙ law.unions _ _
    ∙ ap₂ (λ x y. slice_cmp regex_cmp x y) (parts-regexes (regexes_at rs is)) (parts-regexes (regexes_at rs js)))
    (members_differ tells total rs distinct a b (omega (arith, l)) (omega (arith, m)) is js p q))

pub intersections_differ : IsByKindThenParts regex_cmp → OrderTellsApart → IsTotalOrder regex_cmp → (rs : List Regex)
    → AreDistinct rs → (a b : ℕ) → a < length rs → b < length rs → (is js : List ℕ) → All (λ i. i < a) is
    → All (λ i. i < b) js → and (regexes (regexes_at rs is)) ≡ regex_at rs a
    → and (regexes (regexes_at rs js)) ≡ regex_at rs b → (d : Difference) → d ≡ first_difference is js
    → IsDifference rs a b d
intersections_differ law tells total rs distinct a b l m is js p q f g d same-d =
    rw same-d
    (from_members rs a b is js (first_difference is js)
    (ap₂ (λ x y. regex_cmp x y) (sym f) (sym g) ∙ law.intersections _ _
    ∙ ap₂ (λ x y. slice_cmp regex_cmp x y) (parts-regexes (regexes_at rs is)) (parts-regexes (regexes_at rs js)))
    (members_differ tells total rs distinct a b (omega (arith, l)) (omega (arith, m)) is js p q))

-- Concatenations.

pub rests_differ : IsByKindThenParts regex_cmp → IsTotalOrder regex_cmp → (rs : List Regex) (a b p q r s : ℕ)
    → cat (regex_at rs p) (regex_at rs q) ≡ regex_at rs a → cat (regex_at rs r) (regex_at rs s) ≡ regex_at rs b
    → nat_eq p r ≡ true → regex_cmp (regex_at rs a) (regex_at rs b) ≡ regex_cmp (regex_at rs q) (regex_at rs s)
rests_differ law total rs a b p q r s f g h =
    ap₂ (λ x y. regex_cmp x y) (sym f) (sym g)
    ∙ law.concatenations _ _ _ _
    ∙ ap (λ o. ordering_then o (regex_cmp (regex_at rs q) (regex_at rs s)))
    (ap (λ i. regex_cmp (regex_at rs p) (regex_at rs i)) (sym (nat_same p r h)) ∙ tied_itself total (regex_at rs p))

pub heads_differ : IsByKindThenParts regex_cmp → OrderTellsApart → (rs : List Regex) → AreDistinct rs
    → (a b p q r s : ℕ) → cat (regex_at rs p) (regex_at rs q) ≡ regex_at rs a
    → cat (regex_at rs r) (regex_at rs s) ≡ regex_at rs b → p < length rs → r < length rs → nat_eq p r ≡ false
    → regex_cmp (regex_at rs a) (regex_at rs b) ≡ regex_cmp (regex_at rs p) (regex_at rs r)
heads_differ law tells rs distinct a b p q r s f g l m h =
    ap₂ (λ x y. regex_cmp x y) (sym f) (sym g)
    ∙ law.concatenations _ _ _ _
    ∙ unlike_then _ _ (differ tells rs distinct p r l m h)

-- Repetitions.

pub bounds_differ : IsByKindThenParts regex_cmp → IsTotalOrder regex_cmp → (rs : List Regex)
    → (a b p n m q k l : ℕ) → rep (regex_at rs p) n m ≡ regex_at rs a → rep (regex_at rs q) k l ≡ regex_at rs b
    → nat_eq p q ≡ true
    → regex_cmp (regex_at rs a) (regex_at rs b) ≡ ordering_then (nat_cmp n k) (nat_cmp m l)
bounds_differ law total rs a b p n m q k l f g h =
    ap₂ (λ x y. regex_cmp x y) (sym f) (sym g)
    ∙ law.repetitions _ _ _ _ _ _
    ∙ ap (λ o. ordering_then o (ordering_then (nat_cmp n k) (nat_cmp m l)))
    (ap (λ i. regex_cmp (regex_at rs p) (regex_at rs i)) (sym (nat_same p q h)) ∙ tied_itself total (regex_at rs p))

pub bodies_differ : IsByKindThenParts regex_cmp → OrderTellsApart → (rs : List Regex) → AreDistinct rs
    → (a b p n m q k l : ℕ) → rep (regex_at rs p) n m ≡ regex_at rs a → rep (regex_at rs q) k l ≡ regex_at rs b
    → p < length rs → q < length rs → nat_eq p q ≡ false
    → regex_cmp (regex_at rs a) (regex_at rs b) ≡ regex_cmp (regex_at rs p) (regex_at rs q)
bodies_differ law tells rs distinct a b p n m q k l f g u v h =
    ap₂ (λ x y. regex_cmp x y) (sym f) (sym g)
    ∙ law.repetitions _ _ _ _ _ _
    ∙ unlike_then _ _ (differ tells rs distinct p q u v h)

-- Paths.

pub ends_differ : IsByKindThenParts regex_cmp → IsTotalOrder regex_cmp → (rs : List Regex) (a b p q r s : ℕ)
    → path (regex_at rs p) (regex_at rs q) ≡ regex_at rs a → path (regex_at rs r) (regex_at rs s) ≡ regex_at rs b
    → nat_eq p r ≡ true → regex_cmp (regex_at rs a) (regex_at rs b) ≡ regex_cmp (regex_at rs q) (regex_at rs s)
ends_differ law total rs a b p q r s f g h =
    ap₂ (λ x y. regex_cmp x y) (sym f) (sym g)
    ∙ law.paths _ _ _ _
    ∙ ap (λ o. ordering_then o (regex_cmp (regex_at rs q) (regex_at rs s)))
    (ap (λ i. regex_cmp (regex_at rs p) (regex_at rs i)) (sym (nat_same p r h)) ∙ tied_itself total (regex_at rs p))

pub starts_differ : IsByKindThenParts regex_cmp → OrderTellsApart → (rs : List Regex) → AreDistinct rs
    → (a b p q r s : ℕ) → path (regex_at rs p) (regex_at rs q) ≡ regex_at rs a
    → path (regex_at rs r) (regex_at rs s) ≡ regex_at rs b → p < length rs → r < length rs → nat_eq p r ≡ false
    → regex_cmp (regex_at rs a) (regex_at rs b) ≡ regex_cmp (regex_at rs p) (regex_at rs r)
starts_differ law tells rs distinct a b p q r s f g l m h =
    ap₂ (λ x y. regex_cmp x y) (sym f) (sym g)
    ∙ law.paths _ _ _ _
    ∙ unlike_then _ _ (differ tells rs distinct p r l m h)

-- The loop over parts that differ.

pub equal_numbers : OrderTellsApart → (rs : List Regex) → AreDistinct rs → (a b : ℕ) → a < length rs → b < length rs
    → (o : Ordering) → o ≡ regex_cmp (regex_at rs a) (regex_at rs b) → (o ≡ Equal → a ≡ b) × (a ≡ b → o ≡ Equal)
equal_numbers tells rs distinct a b l m o e = (
  λ h. distinct a b l m ((tells (regex_at rs a) (regex_at rs b)).0 (sym e ∙ h)),
  λ h. e ∙ (tells (regex_at rs a) (regex_at rs b)).1 (ap (regex_at rs) h),
)

pub alike_at : OrderTellsApart → (rs : List Regex) (x y : ℕ) (t : Bool) (whole : Ordering) → t ≡ not (nat_eq x y)
    → t ≡ false → regex_cmp (regex_at rs x) (regex_at rs y) ≡ whole → Equal ≡ whole
alike_at tells rs x y t whole is found inv =
    sym ((tells (regex_at rs x) (regex_at rs y)).1
    (ap (regex_at rs) (nat_same x y (alike (nat_eq x y) (sym is ∙ found))))) ∙ inv
  where
    alike : (t : Bool) → not t ≡ false → t ≡ true
    alike true h = refl
    alike false h = absurd (false≢true (sym h))

pub decided : (rs : List Regex) (a b : ℕ) (d : Difference) (o : Ordering) (whole : Ordering) → IsDifference rs a b d
    → d ≡ Decided o → regex_cmp (regex_at rs a) (regex_at rs b) ≡ whole → o ≡ whole
decided rs a b d o whole h e inv = let g = rw e at h in sym g ∙ inv

pub parts_of : (rs : List Regex) (a b : ℕ) (d : Difference) (x y : ℕ) → IsDifference rs a b d → d ≡ Parts x y
    → (x < a) × (y < b) × (regex_cmp (regex_at rs a) (regex_at rs b) ≡ regex_cmp (regex_at rs x) (regex_at rs y))
parts_of rs a b d x y h e = rw e at h

-- Numbers past the end.

pub none_equal : (r : Regex) → true ≡ is_none r → Equal ≡ regex_cmp none r
unfolding code
none_equal none h = refl
none_equal eps h = absurd (false≢true (sym h))
none_equal (set rs) h = absurd (false≢true (sym h))
none_equal (cat a b) h = absurd (false≢true (sym h))
none_equal (alt ps) h = absurd (false≢true (sym h))
none_equal (and ps) h = absurd (false≢true (sym h))
none_equal (neg a) h = absurd (false≢true (sym h))
none_equal (star a) h = absurd (false≢true (sym h))
none_equal (rep a n m) h = absurd (false≢true (sym h))
none_equal (path a b) h = absurd (false≢true (sym h))

pub none_less : (r : Regex) → false ≡ is_none r → (Less ≡ regex_cmp none r) × (Greater ≡ regex_cmp r none)
unfolding code
none_less none h = absurd (false≢true h)
none_less eps h = (refl, refl)
none_less (set rs) h = (refl, refl)
none_less (cat a b) h = (refl, refl)
none_less (alt ps) h = (refl, refl)
none_less (and ps) h = (refl, refl)
none_less (neg a) h = (refl, refl)
none_less (star a) h = (refl, refl)
none_less (rep a n m) h = (refl, refl)
none_less (path a b) h = (refl, refl)

pub both_past : Equal ≡ regex_cmp none none
unfolding code
both_past = refl
