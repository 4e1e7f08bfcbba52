-- Names that are bound: what is found of them where one more is bound, and where one is left.
use Rattle.std.proofs.Common.{◌≡◌, ℕ, zero, suc, ◌+◌, ◌-◌, ◌≤◌, drop, arith, Bool, true, false, cond, if◌then◌else◌, nat_eq, List, [], ◌∷◌, Option, Some, None, refl, sym, ap, ap₂, ◌∙◌, true≢false}
use Rattle.std.proofs.lemmas.Bool.{and_parts, and_from, eqb-true, eq-eqb, false≢true}
use Rattle.std.specs.Cmp.Lexicographic.{pointwise}
use Rattle.std.specs.Map.{lookup}
use Rattle.std.specs.declared.vec.Vec.{Vec}
use Rattle.std.specs.declared.alloc.Global.{Global}
use Rattle.indexmap.specs.IndexMap.{insert_entry}
use Rattle.sb_script.specs.Names.{Name, is_name}
use Rattle.sb_sorts.specs.declared.locals.Binding.{Binding}
use Rattle.sb_sorts.specs.Locals.{bound_to, locals_in, unless_none, found_in, AreBound}

abbrev Entries : Type 0
Entries = List (Vec ℕ Global × Option ℕ)

abbrev inserted : Entries → Vec ℕ Global → Option ℕ → Entries
inserted es key v = insert_entry (λ a b. pointwise nat_eq a.items b.items) es key v

pub same_name : (a b : Name) → pointwise nat_eq a b ≡ true → a ≡ b
same_name [] [] h = refl
same_name [] (y ∷ ys) h = absurd (false≢true h)
same_name (x ∷ xs) [] h = absurd (false≢true h)
same_name (x ∷ xs) (y ∷ ys) h =
    let parts = and_parts (nat_eq x y) (pointwise nat_eq xs ys) h in
    ap₂ ◌∷◌ (eqb-true x y parts.0) (same_name xs ys parts.1)

-- Where a key takes a value, names that are the key have it, and others what they had.

alone : (b : Bool) (v : Option ℕ) → unless_none (cond b (Some v) None) ≡ (if b then v else None)
alone true v = refl
alone false v = refl

at_key : (b c : Bool) (v w : Option ℕ) (l : Option (Option ℕ)) → c ≡ b
    → unless_none (cond c (Some v) l) ≡ (if b then v else unless_none (cond c (Some w) l))
at_key true true v w l same = refl
at_key false false v w l same = refl
at_key true false v w l same = absurd (true≢false (sym same))
at_key false true v w l same = absurd (true≢false same)

behind : (b c : Bool) (v w : Option ℕ) (l m : Option (Option ℕ)) → (b ≡ true → c ≡ false)
    → unless_none m ≡ (if b then v else unless_none l)
    → unless_none (cond c (Some w) m) ≡ (if b then v else unless_none (cond c (Some w) l))
behind true true v w l m apart rest = absurd (true≢false (apart refl))
behind true false v w l m apart rest = rest
behind false true v w l m apart rest = refl
behind false false v w l m apart rest = rest

pub found_inserted : (es : Entries) (key : Vec ℕ Global) (v : Option ℕ) (name : Name)
    → found_in (inserted es key v) name ≡ (if is_name name key.items then v else found_in es name)
found_inserted [] key v name = alone (is_name name key.items) v
found_inserted (e ∷ es) key v name =
    step (pointwise nat_eq key.items e.0.items) refl (found_inserted es key v name)
  where
    step : (b : Bool) → pointwise nat_eq key.items e.0.items ≡ b
        → found_in (inserted es key v) name ≡ (if is_name name key.items then v else found_in es name)
        → found_in (if b then (e.0, v) ∷ es else e ∷ inserted es key v) name
        ≡ (if is_name name key.items then v else found_in (e ∷ es) name)
    step true is rest =
        at_key (is_name name key.items) (pointwise nat_eq name e.0.items) v e.1
        (lookup (λ k. pointwise nat_eq name k.items) es)
        (ap (pointwise nat_eq name) (sym (same_name key.items e.0.items is)))
    step false is rest =
        behind (is_name name key.items) (pointwise nat_eq name e.0.items) v e.1
        (lookup (λ k. pointwise nat_eq name k.items) es) (lookup (λ k. pointwise nat_eq name k.items) (inserted es key v))
        (λ same. ap (λ n. pointwise nat_eq n e.0.items) (same_name name key.items same) ∙ is) rest

-- one more binding
pub bound_more : (es new : Entries) (bs : List Binding) (b : Binding) (key : Vec ℕ Global) (name : Name) → AreBound es bs
    → key.items ≡ name → b.name.items ≡ name → b.outer ≡ bound_to (locals_in bs) name
    → new ≡ inserted es key (Some b.id) → AreBound new (b ∷ bs)
bound_more es new bs b key name h keyed named outer is = record {
  found = λ other.
      ap (λ xs. found_in xs other) is ∙ found_inserted es key (Some b.id) other
      ∙ ap₂ (λ n o. if is_name other n then Some b.id else o) (keyed ∙ sym named) (h.found other);
  outer = (outer ∙ ap (bound_to (locals_in bs)) (sym named), h.outer);
}

-- and one less
restored : (c : Bool) (name : Name) (b : Binding) (bs : List Binding) (found : Option ℕ) → is_name name b.name.items ≡ c
    → b.outer ≡ bound_to (locals_in bs) b.name.items
    → found ≡ (if is_name name b.name.items then Some b.id else bound_to (locals_in bs) name)
    → (if c then b.outer else found) ≡ bound_to (locals_in bs) name
restored true name b bs found is outer there =
    outer ∙ ap (bound_to (locals_in bs)) (sym (same_name name b.name.items is))
restored false name b bs found is outer there =
    there ∙ ap (λ t. if t then Some b.id else bound_to (locals_in bs) name) is

pub bound_less : (es new : Entries) (bs : List Binding) (b : Binding) → AreBound es (b ∷ bs)
    → new ≡ inserted es b.name b.outer → AreBound new bs
bound_less es new bs b h is = record {
  found = λ name.
      ap (λ xs. found_in xs name) is ∙ found_inserted es b.name b.outer name
      ∙ restored (is_name name b.name.items) name b bs (found_in es name) refl h.outer.0 (h.found name);
  outer = h.outer.1;
}

-- A name that is bound is a key.

name_itself : (a : Name) → is_name a a ≡ true
name_itself [] = refl
name_itself (x ∷ xs) = and_from (nat_eq x x) (is_name xs xs) (eq-eqb x x refl) (name_itself xs)

pub bound_there : (es : Entries) (bs : List Binding) (b : Binding) → AreBound es (b ∷ bs)
    → lookup (λ k. pointwise nat_eq b.name.items k.items) es ≡ None → ⊥
bound_there es bs b h none =
    Prim.cc (ap unless_none (sym none) ∙ h.found b.name.items
    ∙ ap (λ t. if t then Some b.id else bound_to (locals_in bs) b.name.items) (name_itself b.name.items))

-- Bindings that are left one by one.

drop_one : {A : Type 0} (n : ℕ) (xs : List A) → drop 1 (drop n xs) ≡ drop (suc n) xs
drop_one zero xs = refl
drop_one (suc n) [] = refl
drop_one (suc n) (x ∷ xs) = drop_one n xs

pub left_one_more : {A : Type 0} (count place : ℕ) (old now next : List A) → now ≡ drop (place - count) old
    → next ≡ drop 1 now → count ≤ place → next ≡ drop (place + 1 - count) old
left_one_more count place old now next so_far one behind_it =
    let more : suc (place - count) ≡ place + 1 - count = omega (arith, behind_it) in
    one ∙ ap (drop 1) so_far ∙ drop_one (place - count) old ∙ ap (λ n. drop n old) more
