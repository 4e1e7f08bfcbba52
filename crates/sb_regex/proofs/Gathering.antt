-- Lists that a loop gathers from regexes.
use Rattle.std.proofs.Common.{◌≡◌, ℕ, ◌+◌, ◌<◌, ◌≤◌, Bool, true, false, not, cond, List, [], ◌∷◌, ◌++◌, length, get_or, drop, refl, sym, ap, ◌∙◌, arith, append_assoc}
use Rattle.std.specs.List.{flat_map, All}
use Rattle.std.proofs.lemmas.Bool.{and_parts}
use Rattle.std.proofs.lemmas.List.{append-nil, map-append, nil_from_length}
use Rattle.std.proofs.lemmas.List.Elements.{All-append}
use Rattle.sb_class.specs.Ranges.{Range, IsCanonical, in_ranges}
use Rattle.sb_lang.specs.Regex.{Regex, set, alt, and, regexes}
use Rattle.sb_lang.specs.Constructors.{alternatives, conjuncts, ranges_of, is_set}
use Rattle.sb_lang.specs.NormalForm.{is_normal, IsNormal}
use Rattle.sb_regex.specs.declared.node.Node.{Node}
use Rattle.sb_regex.specs.declared.node.Node.TheVariants as node
use Rattle.sb_regex.specs.Numbered.{regex_at, regexes_at, AllNumbers}
use Rattle.sb_regex.specs.Nodes.{node_regex, PartsBelow}
use Rattle.sb_regex.specs.Steps.{without_sets, in_some}
use Rattle.sb_regex.proofs.Rests.{rest_at, rest_nil}
use Rattle.sb_lang.proofs.CallerLemmas.{parts-regexes}

-- F gathers f of each regex in turn
module _ {A : Type 0} (F : List Regex → List A) (f : Regex → List A) (more : (r : Regex) (rs : List Regex)
    → F (r ∷ rs) ≡ f r ++ F rs) (nothing : F [] ≡ []) where
  pub gather_next : (rs : List Regex) (ids : List ℕ) (i x : ℕ) (out after whole : List A) → i < length ids
      → x ≡ get_or ids i x → after ≡ out ++ f (regex_at rs x) → out ++ F (regexes_at rs (drop i ids)) ≡ whole
      → after ++ F (regexes_at rs (drop (i + 1) ids)) ≡ whole
  gather_next rs ids i x out after whole l is e inv =
      ap (λ xs. xs ++ F (regexes_at rs (drop (i + 1) ids))) e
      ∙ append_assoc out (f (regex_at rs x)) (F (regexes_at rs (drop (i + 1) ids)))
      ∙ ap (λ xs. out ++ xs) (sym (more (regex_at rs x) (regexes_at rs (drop (i + 1) ids)))
      ∙ sym (ap F (rest_at rs ids i x l is)))
      ∙ inv

  pub gather_end : (rs : List Regex) (ids : List ℕ) (i : ℕ) (out whole : List A) → length ids ≤ i
      → out ++ F (regexes_at rs (drop i ids)) ≡ whole → out ≡ whole
  gather_end rs ids i out whole l inv =
      sym (append-nil out) ∙ ap (λ xs. out ++ xs) (sym (ap F (rest_nil rs ids i l) ∙ nothing)) ∙ inv

pub flat_more : {A : Type 0} (f : Regex → List A) (r : Regex) (rs : List Regex)
    → flat_map f (r ∷ rs) ≡ f r ++ flat_map f rs
flat_more f r rs = refl

-- a regex that is no set
pub kept_alone : Regex → List Regex
kept_alone r = cond (not (is_set r)) (r ∷ []) []

pub others_more : (r : Regex) (rs : List Regex) → without_sets (r ∷ rs) ≡ kept_alone r ++ without_sets rs
unfolding kept_alone
others_more r rs = step (not (is_set r))
  where
    step : (b : Bool) → cond b (r ∷ without_sets rs) (without_sets rs) ≡ cond b (r ∷ []) [] ++ without_sets rs
    step true = refl
    step false = refl

-- The numbers that are gathered.

pub ats-append : (rs : List Regex) (is js ks : List ℕ) → ks ≡ is ++ js
    → regexes_at rs ks ≡ regexes_at rs is ++ regexes_at rs js
ats-append rs is js ks e = ap (regexes_at rs) e ∙ map-append (regex_at rs) is js

pub numbers-append : (rs : List Regex) (is js ks : List ℕ) → ks ≡ is ++ js → AllNumbers rs is → AllNumbers rs js
    → AllNumbers rs ks
numbers-append rs is js ks e p q = rw e (All-append (λ i. i < length rs) is js p q)

pub parts_numbers : (rs : List Regex) (i : ℕ) (d : Node) → PartsBelow i d → i < length rs → (is : List ℕ)
    → All (λ j. j < i) is → AllNumbers rs is
parts_numbers rs i d p l is h k e m = omega (arith, h k e m, l)

pub alternatives_alt : (rs : List Regex) (ps : List ℕ) (r : Regex) → alt (regexes (regexes_at rs ps)) ≡ r
    → regexes_at rs ps ≡ alternatives r
unfolding alternatives
alternatives_alt rs ps r e = sym (parts-regexes (regexes_at rs ps)) ∙ ap alternatives e

pub conjuncts_and : (rs : List Regex) (ps : List ℕ) (r : Regex) → and (regexes (regexes_at rs ps)) ≡ r
    → regexes_at rs ps ≡ conjuncts r
unfolding conjuncts
conjuncts_and rs ps r e = sym (parts-regexes (regexes_at rs ps)) ∙ ap conjuncts e

pub alternatives_other : (rs : List Regex) (d : Node) (r : Regex) → node_regex rs d ≡ r
    → ((ps : _) → d ≡ node.Alt ps → ⊥) → r ∷ [] ≡ alternatives r
unfolding alternatives
alternatives_other rs d r e other = ap (λ x. x ∷ []) (sym e) ∙ step d other ∙ ap alternatives e
  where
    step : (d : Node) → ((ps : _) → d ≡ node.Alt ps → ⊥) → node_regex rs d ∷ [] ≡ alternatives (node_regex rs d)
    step node.None h = refl
    step node.Eps h = refl
    step (node.Set v) h = refl
    step (node.Cat a b) h = refl
    step (node.Alt ps) h = absurd (h ps refl)
    step (node.And ps) h = refl
    step (node.Not a) h = refl
    step (node.Star a) h = refl
    step (node.Rep a n m) h = refl
    step (node.Path a b) h = refl

pub conjuncts_other : (rs : List Regex) (d : Node) (r : Regex) → node_regex rs d ≡ r → ((ps : _) → d ≡ node.And ps → ⊥)
    → r ∷ [] ≡ conjuncts r
unfolding conjuncts
conjuncts_other rs d r e other = ap (λ x. x ∷ []) (sym e) ∙ step d other ∙ ap conjuncts e
  where
    step : (d : Node) → ((ps : _) → d ≡ node.And ps → ⊥) → node_regex rs d ∷ [] ≡ conjuncts (node_regex rs d)
    step node.None h = refl
    step node.Eps h = refl
    step (node.Set v) h = refl
    step (node.Cat a b) h = refl
    step (node.Alt ps) h = refl
    step (node.And ps) h = absurd (h ps refl)
    step (node.Not a) h = refl
    step (node.Star a) h = refl
    step (node.Rep a n m) h = refl
    step (node.Path a b) h = refl

pub ranges_set : (rs : List Range) (r : Regex) → set rs ≡ r → rs ∷ [] ≡ ranges_of r
unfolding ranges_of
ranges_set rs r e = ap ranges_of e

pub ranges_other : (rs : List Regex) (d : Node) (r : Regex) → node_regex rs d ≡ r → ((v : _) → d ≡ node.Set v → ⊥)
    → [] ≡ ranges_of r
unfolding ranges_of
ranges_other rs d r e other = step d other ∙ ap ranges_of e
  where
    step : (d : Node) → ((v : _) → d ≡ node.Set v → ⊥) → [] ≡ ranges_of (node_regex rs d)
    step node.None h = refl
    step node.Eps h = refl
    step (node.Set v) h = absurd (h v refl)
    step (node.Cat a b) h = refl
    step (node.Alt ps) h = refl
    step (node.And ps) h = refl
    step (node.Not a) h = refl
    step (node.Star a) h = refl
    step (node.Rep a n m) h = refl
    step (node.Path a b) h = refl

pub alone_set : (rs : List Range) (r : Regex) → set rs ≡ r → [] ≡ kept_alone r
unfolding kept_alone is_set
alone_set rs r e = ap kept_alone e

pub alone_other : (rs : List Regex) (d : Node) (r : Regex) → node_regex rs d ≡ r → ((v : _) → d ≡ node.Set v → ⊥)
    → r ∷ [] ≡ kept_alone r
unfolding kept_alone is_set
alone_other rs d r e other = ap (λ x. x ∷ []) (sym e) ∙ step d other ∙ ap kept_alone e
  where
    step : (d : Node) → ((v : _) → d ≡ node.Set v → ⊥) → node_regex rs d ∷ [] ≡ kept_alone (node_regex rs d)
    step node.None h = refl
    step node.Eps h = refl
    step (node.Set v) h = absurd (h v refl)
    step (node.Cat a b) h = refl
    step (node.Alt ps) h = refl
    step (node.And ps) h = refl
    step (node.Not a) h = refl
    step (node.Star a) h = refl
    step (node.Rep a n m) h = refl
    step (node.Path a b) h = refl

pub normal_is_canonical : (rs : List Range) (r : Regex) → set rs ≡ r → IsNormal r → IsCanonical rs
unfolding is_normal
normal_is_canonical rs r e n =
    let whole : is_normal (set rs) ≡ true = ap is_normal e ∙ n in
    (and_parts _ _ whole).0

-- no number is in the empty set, and in none of no sets
pub united_none : (class : List Range) (sets whole : List (List Range)) → class ≡ [] → length sets ≡ 0
    → ((c : ℕ) → in_some sets c ≡ in_some whole c) → (c : ℕ) → in_ranges class c ≡ in_some whole c
unfolding in_ranges
united_none class sets whole e l inv c =
    ap (λ s. in_ranges s c) e ∙ sym (ap (λ xs. in_some xs c) (nil_from_length sets l)) ∙ inv c
