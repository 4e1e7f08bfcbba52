-- What the derivatives of nodes are made from, and what operations make.
use Rattle.std.proofs.Common.{◌≡◌, ℕ, suc, ◌+◌, ◌-◌, ◌<◌, ◌≤◌, true, false, List, [], ◌∷◌, length, drop, refl, sym, ap, subst, ◌∙◌, arith}
use Rattle.std.specs.Prelude.{Vec, ◌||◌, if◌then◌else◌}
use Rattle.std.specs.List.{All}
use Rattle.std.proofs.lemmas.List.{drop_more, drop_all}
use Rattle.std.proofs.lemmas.List.Elements.{All-cons, All-nil}
use Rattle.std.specs.declared.alloc.Global.{Global}
use Rattle.sb_class.specs.Ranges.{Range, in_range, in_ranges}
use Rattle.sb_lang.specs.Regex.{Regex, none, eps, set, cat, alt, and, neg, star, rep, path, regexes}
use Rattle.sb_lang.specs.Order.{code}
use Rattle.sb_lang.specs.Constructors.{anything, mkcat, mkalt, mkand, mknot, mkrep, conjuncts, ranges_of, is_set, meet_sets, meet_of, and_of, sorted}
use Rattle.sb_lang.specs.Derivative.{nd, nds, nullable}
use Rattle.sb_regex.specs.declared.node.Node.{Node}
use Rattle.sb_regex.specs.declared.node.Node.TheVariants as node
use Rattle.sb_regex.specs.Numbered.{regex_at, regexes_at}
use Rattle.sb_regex.specs.Nodes.{node_regex}
use Rattle.sb_plain.proofs.PointFacts.{range_at}
use Rattle.sb_plain.specs.declared.shape.Operation.{Operation}
use Rattle.sb_plain.specs.declared.shape.Operation.TheVariants as operation
use Rattle.sb_plain.specs.Making.{made, least_parts, nd_each, IsShape, IsShapeOfCat, IsShapeOfRep, set_ranges}

-- the shape with its parts as they were passed
pub shape_with : (rs : List Regex) (n : ℕ) (op op' : Operation) (ps ps' : List ℕ) → op' ≡ op → ps' ≡ ps
    → IsShape rs n op ps → IsShape rs n op' ps'
shape_with rs n op op' ps ps' e f h =
    subst (λ (o : Operation). IsShape rs n o ps') (sym e) (subst (λ (xs : List ℕ). IsShape rs n op xs) (sym f) h)

pub cat_with : (rs : List Regex) (a b : ℕ) (op op' : Operation) (ps ps' : List ℕ) → op' ≡ op → ps' ≡ ps
    → IsShapeOfCat rs a b op ps → IsShapeOfCat rs a b op' ps'
cat_with rs a b op op' ps ps' e f h =
    subst (λ (o : Operation). IsShapeOfCat rs a b o ps') (sym e)
    (subst (λ (xs : List ℕ). IsShapeOfCat rs a b op xs) (sym f) h)

nds_each : (rs : List Regex) (c : ℕ) → nds (regexes rs) c ≡ nd_each rs c
unfolding nd nds regexes
nds_each [] c = refl
nds_each (r ∷ rs) c = ap (λ x. nd r c ∷ x) (nds_each rs c)

pub of_none : (rs : List Regex) (n : ℕ) → none ≡ regex_at rs n → IsShape rs n operation.Nothing []
unfolding made nd nds least_parts
of_none rs n e = record {
  below = All-nil (λ i. i < n);
  long = omega arith;
  operand = tt;
  value = λ c. ap (λ x. nd x c) (sym e);
}

pub of_eps : (rs : List Regex) (n : ℕ) → eps ≡ regex_at rs n → IsShape rs n operation.Nothing []
unfolding made nd nds least_parts
of_eps rs n e = record {
  below = All-nil (λ i. i < n);
  long = omega arith;
  operand = tt;
  value = λ c. ap (λ x. nd x c) (sym e);
}

pub of_set_ranges : (rs : List Regex) (n : ℕ) (ranges : Vec Range Global) (rows : List Range) → ranges.items ≡ rows
    → set rows ≡ regex_at rs n → IsShape rs n (operation.Set ranges) []
unfolding made nd nds least_parts
of_set_ranges rs n ranges rows is e = record {
  below = All-nil (λ i. i < n);
  long = omega arith;
  operand = tt;
  value = λ c. ap (λ x. nd x c) (sym e) ∙ ap (λ xs. if in_ranges xs c then eps else none) (sym is);
}

pub of_alt : (rs : List Regex) (n : ℕ) (ids : List ℕ) → All (λ i. i < n) ids
    → alt (regexes (regexes_at rs ids)) ≡ regex_at rs n → IsShape rs n operation.Alt ids
unfolding made nd nds least_parts
of_alt rs n ids h e = record {
  below = h;
  long = omega arith;
  operand = tt;
  value = λ c. ap (λ x. nd x c) (sym e) ∙ ap mkalt (nds_each (regexes_at rs ids) c);
}

pub of_and : (rs : List Regex) (n : ℕ) (ids : List ℕ) → All (λ i. i < n) ids
    → and (regexes (regexes_at rs ids)) ≡ regex_at rs n → IsShape rs n operation.And ids
unfolding made nd nds least_parts
of_and rs n ids h e = record {
  below = h;
  long = omega arith;
  operand = tt;
  value = λ c. ap (λ x. nd x c) (sym e) ∙ ap mkand (nds_each (regexes_at rs ids) c);
}

pub of_not : (rs : List Regex) (n a : ℕ) → All (λ i. i < n) (a ∷ []) → neg (regex_at rs a) ≡ regex_at rs n
    → IsShape rs n operation.Not (a ∷ [])
unfolding made nd nds least_parts
of_not rs n a h e = record {
  below = h;
  long = omega arith;
  operand = tt;
  value = λ c. ap (λ x. nd x c) (sym e);
}

pub of_star : (rs : List Regex) (n a : ℕ) → n < length rs → All (λ i. i < n) (a ∷ [])
    → star (regex_at rs a) ≡ regex_at rs n → IsShape rs n (operation.Cat n) (a ∷ [])
unfolding made nd nds least_parts
of_star rs n a l h e = record {
  below = h;
  long = omega arith;
  operand = l;
  value = λ c. ap (λ x. nd x c) (sym e) ∙ ap (λ x. mkcat (nd (regex_at rs a) c) x) e;
}

pub of_path : (rs : List Regex) (n a b : ℕ) → n < length rs → All (λ i. i < n) (a ∷ b ∷ [])
    → path (regex_at rs a) (regex_at rs b) ≡ regex_at rs n → IsShape rs n (operation.Path b) (a ∷ [])
unfolding made nd nds least_parts
of_path rs n a b l h e = record {
  below = All-cons (λ i. i < n) a [] (h 0 0 (omega arith)) (All-nil (λ i. i < n));
  long = omega arith;
  operand = known;
  value = λ c. ap (λ x. nd x c) (sym e);
}
  where
    known : b < length rs
    known = let s : b < n = h 1 0 (omega arith) in omega (arith, s, l)

pub of_cat : (rs : List Regex) (n a b : ℕ) (op : Operation) (ps : List ℕ) → a < n → b < n
    → cat (regex_at rs a) (regex_at rs b) ≡ regex_at rs n → IsShapeOfCat rs a b op ps → IsShape rs n op ps
of_cat rs n a b op ps p q e h = record {
  below = h.below n p q;
  long = h.long;
  operand = h.operand;
  value = λ c. ap (λ x. nd x c) (sym e) ∙ h.value c;
}

pub cat_alone : (rs : List Regex) (a b : ℕ) → b < length rs → nullable (regex_at rs a) ≡ false
    → IsShapeOfCat rs a b (operation.Cat b) (a ∷ [])
unfolding made nd nds least_parts
cat_alone rs a b l e = record {
  below = λ n p q. All-cons (λ i. i < n) a [] p (All-nil (λ i. i < n));
  long = omega arith;
  operand = l;
  value = λ c.
      ap (λ t. if t then mkalt (mkcat (nd (regex_at rs a) c) (regex_at rs b) ∷ nd (regex_at rs b) c ∷ [])
      else mkcat (nd (regex_at rs a) c) (regex_at rs b)) e;
}

pub cat_or_rest : (rs : List Regex) (a b : ℕ) → b < length rs → nullable (regex_at rs a) ≡ true
    → IsShapeOfCat rs a b (operation.CatOrRest b) (a ∷ b ∷ [])
unfolding made nd nds least_parts
cat_or_rest rs a b l e = record {
  below = λ n p q. All-cons (λ i. i < n) a (b ∷ []) p (All-cons (λ i. i < n) b [] q (All-nil (λ i. i < n)));
  long = omega arith;
  operand = l;
  value = λ c.
      ap (λ t. if t then mkalt (mkcat (nd (regex_at rs a) c) (regex_at rs b) ∷ nd (regex_at rs b) c ∷ [])
      else mkcat (nd (regex_at rs a) c) (regex_at rs b)) e;
}

-- repetitions

pub rep_with : (rs : List Regex) (a least most : ℕ) (op op' : Operation) (ps ps' : List ℕ) → op' ≡ op → ps' ≡ ps
    → IsShapeOfRep rs a least most op ps → IsShapeOfRep rs a least most op' ps'
rep_with rs a least most op op' ps ps' e f h =
    subst (λ (o : Operation). IsShapeOfRep rs a least most o ps') (sym e)
    (subst (λ (xs : List ℕ). IsShapeOfRep rs a least most op xs) (sym f) h)

pub of_rep : (rs : List Regex) (n a least most : ℕ) (op : Operation) (ps : List ℕ) → All (λ i. i < n) (a ∷ [])
    → rep (regex_at rs a) least most ≡ regex_at rs n → IsShapeOfRep rs a least most op ps → IsShape rs n op ps
of_rep rs n a least most op ps l e h = record {
  below = h.below n (l 0 0 (omega arith));
  long = h.long;
  operand = h.operand;
  value = λ c. ap (λ x. nd x c) (sym e) ∙ h.value c;
}

pub rep_nothing : (rs : List Regex) (a least most : ℕ) → most ≡ 0
    → IsShapeOfRep rs a least most operation.Nothing []
unfolding made nd nds least_parts
rep_nothing rs a least most e = record {
  below = λ n p. All-nil (λ i. i < n);
  long = omega arith;
  operand = tt;
  value = λ c. ap (λ m. nd (rep (regex_at rs a) least m) c) e;
}

pub rep_once_less : (rs : List Regex) (a least most fewer lower : ℕ) → a < length rs → 0 < most → fewer ≡ least - 1
    → lower ≡ most - 1 → IsShapeOfRep rs a least most (operation.Rep a fewer lower) (a ∷ [])
unfolding made nd nds least_parts
rep_once_less rs a least most fewer lower l some e f = record {
  below = λ n p. All-cons (λ i. i < n) a [] p (All-nil (λ i. i < n));
  long = omega arith;
  operand = l;
  value = λ c.
      let up : most ≡ suc lower = omega (arith, some, f) in
      ap (λ m. nd (rep (regex_at rs a) least m) c) up
      ∙ ap (λ k. mkcat (nd (regex_at rs a) c) (mkrep (regex_at rs a) k lower)) (sym e);
}

-- operations

pub made_same : (rs : List Regex) (op : Operation) (c d : ℕ) (ps : List Regex)
    → in_ranges (set_ranges op) c ≡ in_ranges (set_ranges op) d → made rs op c ps ≡ made rs op d ps
unfolding made set_ranges
made_same rs operation.Nothing c d ps h = refl
made_same rs (operation.Set ranges) c d ps h = ap (λ b. if b then eps else none) h
made_same rs (operation.Cat b) c d ps h = refl
made_same rs (operation.CatOrRest b) c d ps h = refl
made_same rs operation.Alt c d ps h = refl
made_same rs operation.And c d ps h = refl
made_same rs operation.Not c d ps h = refl
made_same rs (operation.Rep a n m) c d ps h = refl
made_same rs (operation.Path b) c d ps h = refl

-- a number in ranges, as a loop goes over them

pub ranges_found : (rs : List Range) (i c : ℕ) (r : Range) → i < length rs → r ≡ range_at rs i
    → in_ranges (drop i rs) c ≡ in_ranges rs c → in_range r c ≡ true → true ≡ in_ranges rs c
unfolding in_ranges
ranges_found rs i c r l e inv h =
    ap (λ b. b || in_ranges (drop (i + 1) rs) c) (sym (ap (λ x. in_range x c) (sym e) ∙ h))
    ∙ sym (ap (λ xs. in_ranges xs c) (drop_more rs i (0, 0) l)) ∙ inv

pub ranges_next : (rs : List Range) (i c : ℕ) (r : Range) → i < length rs → r ≡ range_at rs i
    → in_ranges (drop i rs) c ≡ in_ranges rs c → in_range r c ≡ false
    → in_ranges (drop (i + 1) rs) c ≡ in_ranges rs c
unfolding in_ranges
ranges_next rs i c r l e inv h =
    ap (λ b. b || in_ranges (drop (i + 1) rs) c) (sym (ap (λ x. in_range x c) (sym e) ∙ h))
    ∙ sym (ap (λ xs. in_ranges xs c) (drop_more rs i (0, 0) l)) ∙ inv

pub ranges_done : (rs : List Range) (i c : ℕ) → length rs ≤ i → in_ranges (drop i rs) c ≡ in_ranges rs c
    → false ≡ in_ranges rs c
unfolding in_ranges
ranges_done rs i c l inv = sym (ap (λ xs. in_ranges xs c) (drop_all i rs l)) ∙ inv

-- complements

pub mknot_neg : (rs : List Regex) (d : Node) (r : Regex) (b : ℕ) → node_regex rs d ≡ r → d ≡ node.Not b
    → regex_at rs b ≡ mknot r
unfolding mknot
mknot_neg rs d r b e is = ap (λ x. mknot (node_regex rs x)) (sym is) ∙ ap mknot e

no_members : mkand [] ≡ anything
unfolding mkand meet_sets meet_of ranges_of is_set conjuncts sorted and_of code
no_members = refl

pub mknot_none : (rs : List Regex) (d : Node) (r : Regex) → node_regex rs d ≡ r → d ≡ node.None → mkand [] ≡ mknot r
unfolding mknot
mknot_none rs d r e is = no_members ∙ ap (λ x. mknot (node_regex rs x)) (sym is) ∙ ap mknot e

-- So many parts there are.

pub two_parts : (op : Operation) (b n : ℕ) → op ≡ operation.CatOrRest b → least_parts op ≤ n → 1 < n
unfolding least_parts
two_parts op b n is h = let two : 2 ≤ n = subst (λ (x : ℕ). x ≤ n) (ap least_parts is) h in omega (arith, two)

pub one_part : (op : Operation) (a least most n : ℕ) → op ≡ operation.Rep a least most → least_parts op ≤ n → 0 < n
unfolding least_parts
one_part op a least most n is h = let one : 1 ≤ n = subst (λ (x : ℕ). x ≤ n) (ap least_parts is) h in omega (arith, one)
