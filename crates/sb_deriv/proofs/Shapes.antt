-- What the derivatives of nodes are made from.
use Rattle.std.proofs.Common.{◌≡◌, ℕ, ◌<◌, Bool, true, false, nat_lt, if◌then◌else◌, List, [], ◌∷◌, length, refl, sym, ap, subst, ◌∙◌, arith}
use Rattle.std.specs.List.{All, list_all}
use Rattle.std.proofs.lemmas.Bool.{and_parts, false≢true}
use Rattle.std.proofs.lemmas.Bool.Decides.{nat_tests}
use Rattle.std.proofs.lemmas.List.Elements.{All-nil, All-cons}
use Rattle.std.proofs.lemmas.List.Sums.{AllPass-from_list_all}
use Rattle.sb_class.specs.Ranges.{Range, IsCanonical}
use Rattle.sb_lang.specs.Regex.{Regex, none, eps, set, alt, and, neg, star, rep, path, regexes}
use Rattle.sb_lang.specs.Constructors.{mkcat, mkalt, mkand, mkrep}
use Rattle.sb_lang.specs.Derivative.{nd, nds}
use Rattle.sb_lang.specs.NormalForm.{is_normal, IsNormal}
use Rattle.sb_lang.specs.Order.{code, regex_eq}
use Rattle.sb_regex.specs.declared.node.Node.{Node}
use Rattle.sb_regex.specs.declared.node.Node.TheVariants as node
use Rattle.sb_regex.specs.Numbered.{regex_at, regexes_at}
use Rattle.sb_regex.specs.Nodes.{node_regex}
use Rattle.sb_deriv.specs.declared.operation.Operation.TheVariants as operation
use Rattle.sb_deriv.specs.Choices.{made, nd_each, IsMade}

nds_each : (rs : List Regex) (c : ℕ) → nds (regexes rs) c ≡ nd_each rs c
unfolding nd nds regexes
nds_each [] c = refl
nds_each (r ∷ rs) c = ap (λ x. nd r c ∷ x) (nds_each rs c)

alt_value : (rs ps : List Regex) (c : ℕ) → nd (alt (regexes ps)) c ≡ made rs operation.Alt (nd_each ps c)
unfolding nd nds made
alt_value rs ps c = ap mkalt (nds_each ps c)

and_value : (rs ps : List Regex) (c : ℕ) → nd (and (regexes ps)) c ≡ made rs operation.And (nd_each ps c)
unfolding nd nds made
and_value rs ps c = ap mkand (nds_each ps c)

not_value : (rs : List Regex) (a : Regex) (c : ℕ) → nd (neg a) c ≡ made rs operation.Not (nd_each (a ∷ []) c)
unfolding nd nds made
not_value rs a c = refl

star_value : (rs : List Regex) (a : Regex) (n c : ℕ) → star a ≡ regex_at rs n
    → nd (star a) c ≡ made rs (operation.Cat n) (nd_each (a ∷ []) c)
unfolding nd nds made
star_value rs a n c e = ap (λ x. mkcat (nd a c) x) e

path_value : (rs : List Regex) (a : Regex) (b c : ℕ)
    → nd (path a (regex_at rs b)) c ≡ made rs (operation.Path b) (nd_each (a ∷ []) c)
unfolding nd nds made
path_value rs a b c = refl

pub shape_none : (rs : List Regex) (d : Node) (r : Regex) → node_regex rs d ≡ r → d ≡ node.None → (c : ℕ)
    → nd r c ≡ none
unfolding nd nds
shape_none rs d r e is c = ap (λ x. nd x c) (sym e ∙ ap (λ x. node_regex rs x) is)

pub shape_eps : (rs : List Regex) (d : Node) (r : Regex) → node_regex rs d ≡ r → d ≡ node.Eps → (c : ℕ) → nd r c ≡ none
unfolding nd nds
shape_eps rs d r e is c = ap (λ x. nd x c) (sym e ∙ ap (λ x. node_regex rs x) is)

set_canonical : (v : List Range) → IsNormal (set v) → IsCanonical v
unfolding is_normal
set_canonical v h = (and_parts _ _ h).0

pub shape_set : (rs : List Regex) (n : ℕ) (v w : List Range) → list_all is_normal rs ≡ true → n < length rs
    → set v ≡ regex_at rs n → w ≡ v → IsCanonical w × (regex_at rs n ≡ set w)
shape_set rs n v w normal l e is =
    let m : IsNormal (regex_at rs n) = AllPass-from_list_all is_normal rs normal n none l in
    let k : IsCanonical v = set_canonical v (subst IsNormal (sym e) m) in
    (subst IsCanonical (sym is) k, sym e ∙ ap set (sym is))

-- a repetition of no time is not normal
no_time : (a : Regex) (n : ℕ) → IsNormal (rep a n 0) → ⊥
unfolding is_normal mkrep code
no_time a n h = step (nat_lt 0 n) (and_parts _ _ h).1
  where
    step : (b : Bool) → regex_eq (if b then none else eps) (rep a n 0) ≡ true → ⊥
    step true e = false≢true e
    step false e = false≢true e

pub shape_rep : (rs : List Regex) (n a least most : ℕ) → list_all is_normal rs ≡ true → n < length rs
    → rep (regex_at rs a) least most ≡ regex_at rs n → 0 < most
shape_rep rs n a least most normal l e = step (nat_lt 0 most) refl
  where
    whole : IsNormal (rep (regex_at rs a) least most)
    whole = subst IsNormal (sym e) (AllPass-from_list_all is_normal rs normal n none l)

    step : (b : Bool) → nat_lt 0 most ≡ b → 0 < most
    step true is = grind (arith, nat_tests)
    step false is =
        let z : most ≡ 0 = grind (arith, nat_tests) in
        absurd (no_time (regex_at rs a) least (subst (λ m. IsNormal (rep (regex_at rs a) least m)) z whole))

pub made_alt : (rs : List Regex) (n : ℕ) (ids ps : List ℕ) → All (λ i. i < n) ids
    → alt (regexes (regexes_at rs ids)) ≡ regex_at rs n → ps ≡ ids → IsMade rs n operation.Alt ps
made_alt rs n ids ps h e is =
    subst (λ (xs : List ℕ). IsMade rs n operation.Alt xs) (sym is) (record { below = h; operand = tt; value = value })
  where
    value : (c : ℕ) → nd (regex_at rs n) c ≡ made rs operation.Alt (nd_each (regexes_at rs ids) c)
    value c = ap (λ x. nd x c) (sym e) ∙ alt_value rs (regexes_at rs ids) c

pub made_and : (rs : List Regex) (n : ℕ) (ids ps : List ℕ) → All (λ i. i < n) ids
    → and (regexes (regexes_at rs ids)) ≡ regex_at rs n → ps ≡ ids → IsMade rs n operation.And ps
made_and rs n ids ps h e is =
    subst (λ (xs : List ℕ). IsMade rs n operation.And xs) (sym is) (record { below = h; operand = tt; value = value })
  where
    value : (c : ℕ) → nd (regex_at rs n) c ≡ made rs operation.And (nd_each (regexes_at rs ids) c)
    value c = ap (λ x. nd x c) (sym e) ∙ and_value rs (regexes_at rs ids) c

pub made_not : (rs : List Regex) (n a : ℕ) (ps : List ℕ) → All (λ i. i < n) (a ∷ [])
    → neg (regex_at rs a) ≡ regex_at rs n → ps ≡ a ∷ [] → IsMade rs n operation.Not ps
made_not rs n a ps h e is =
    subst (λ (xs : List ℕ). IsMade rs n operation.Not xs) (sym is)
    (record { below = h; operand = tt; value = λ c. ap (λ x. nd x c) (sym e) ∙ not_value rs (regex_at rs a) c })

pub made_star : (rs : List Regex) (n a : ℕ) (ps : List ℕ) → n < length rs → All (λ i. i < n) (a ∷ [])
    → star (regex_at rs a) ≡ regex_at rs n → ps ≡ a ∷ [] → IsMade rs n (operation.Cat n) ps
made_star rs n a ps l h e is =
    subst (λ (xs : List ℕ). IsMade rs n (operation.Cat n) xs) (sym is)
    (record { below = h; operand = l; value = λ c. ap (λ x. nd x c) (sym e) ∙ star_value rs (regex_at rs a) n c e })

pub made_path : (rs : List Regex) (n a b : ℕ) (ps : List ℕ) → n < length rs → All (λ i. i < n) (a ∷ b ∷ [])
    → path (regex_at rs a) (regex_at rs b) ≡ regex_at rs n → ps ≡ a ∷ [] → IsMade rs n (operation.Path b) ps
made_path rs n a b ps l h e is =
    subst (λ (xs : List ℕ). IsMade rs n (operation.Path b) xs) (sym is) (record {
      below = All-cons (λ i. i < n) a [] (h 0 0 (omega arith)) (All-nil (λ i. i < n));
      operand = known;
      value = λ c. ap (λ x. nd x c) (sym e) ∙ path_value rs (regex_at rs a) b c;
    })
  where
    known : b < length rs
    known = let s : b < n = h 1 0 (omega arith) in omega (arith, s, l)
