-- The merge of two lists of ranges.
use Rattle.std.proofs.Common.{◌≡◌, ℕ, ◌≤◌, ◌||◌, Bool, true, false, List, [], ◌∷◌, refl, sym, ap, ◌∙◌, arith}
use Rattle.std.proofs.Math.Bool.{or-false, or_assoc, or_comm}
use Rattle.sb_class.specs.Ranges.{Range, in_range, in_ranges, fits_from, IsCanonical}
use Rattle.sb_class.specs.Ends.{last_start_or, StartsAfter, IsPushed}
use Rattle.sb_class.proofs.RangeFacts.{in_ranges-nil, in_ranges-cons, le-fits_from, rises_from-nil, rises_from-parts, rises_from-lower, rises_from-weaker}
use Rattle.sb_class.proofs.Pushing.{last_start_or-nil}

-- the ranges so far and what is left of both lists have the members of both
pub record Merging (a b out left right : List Range) : Type 0 where
  pub canonical : IsCanonical out
  pub left_fits : StartsAfter out left
  pub right_fits : StartsAfter out right
  pub members : (c : ℕ)
      → (in_ranges out c || (in_ranges left c || in_ranges right c)) ≡ (in_ranges a c || in_ranges b c)

or_moved : (o l ls r : Bool) → ((o || l) || (ls || r)) ≡ (o || ((l || ls) || r))
or_moved true l ls r = refl
or_moved false true ls r = refl
or_moved false false ls r = refl

pub merge_start : (a b out : List Range) → out ≡ [] → IsCanonical a → IsCanonical b → Merging a b out a b
merge_start a b out none ha hb = rw none (record {
  canonical = rises_from-nil 0;
  left_fits = rw last_start_or-nil ha;
  right_fits = rw last_start_or-nil hb;
  members = λ c. ap (λ x. x || (in_ranges a c || in_ranges b c)) (in_ranges-nil c);
})

pub merge_swap : (a b out left right : List Range) → Merging a b out left right → Merging b a out right left
merge_swap a b out left right m = record {
  canonical = m.canonical;
  left_fits = m.right_fits;
  right_fits = m.left_fits;
  members = λ c. ap (λ x. in_ranges out c || x) (or_comm (in_ranges right c) (in_ranges left c)) ∙ m.members c
      ∙ or_comm (in_ranges a c) (in_ranges b c);
}

-- what is left after the last range so far starts after it
pub rest_fits : (out new : List Range) (r : Range) (rs : List Range) → StartsAfter out (r ∷ rs) → IsPushed out new r
    → StartsAfter new rs
rest_fits out new r rs h pushed =
    let p = rises_from-parts _ r rs h in
    rises_from-weaker _ _ rs (omega (arith, pushed.last)) p.3

pub merge_left : (a b out new : List Range) (l r : Range) (ls rs : List Range) → Merging a b out (l ∷ ls) (r ∷ rs)
    → l.0 ≤ r.0 → IsPushed out new l → Merging a b new ls (r ∷ rs)
merge_left a b out new l r ls rs m le pushed = record {
  canonical = pushed.canonical;
  left_fits = rest_fits out new l ls m.left_fits pushed;
  right_fits = rises_from-lower _ _ r rs m.right_fits (omega (arith, pushed.last));
  members = λ c. ap (λ x. x || (in_ranges ls c || in_ranges (r ∷ rs) c)) (pushed.members c)
      ∙ or_moved (in_ranges out c) (in_range l c) (in_ranges ls c) (in_ranges (r ∷ rs) c)
      ∙ ap (λ x. in_ranges out c || (x || in_ranges (r ∷ rs) c)) (sym (in_ranges-cons l ls c)) ∙ m.members c;
}

pub merge_right : (a b out new : List Range) (l r : Range) (ls rs : List Range) → Merging a b out (l ∷ ls) (r ∷ rs)
    → r.0 ≤ l.0 → IsPushed out new r → Merging a b new (l ∷ ls) rs
merge_right a b out new l r ls rs m le pushed =
    merge_swap b a new rs (l ∷ ls) (merge_left b a out new r l rs ls (merge_swap a b out (l ∷ ls) (r ∷ rs) m) le pushed)

-- the first range that is left may be pushed
pub first_fits : (out : List Range) (r : Range) (rs : List Range) → StartsAfter out (r ∷ rs)
    → fits_from (last_start_or 0 out) r ≡ true
first_fits out r rs h = let p = rises_from-parts _ r rs h in le-fits_from _ r p.0 p.1 p.2

-- where one list is used up, the rest of the other completes the members
pub merge_end_left : (a b out new left : List Range) → Merging a b out left []
    → ((c : ℕ) → in_ranges new c ≡ (in_ranges out c || in_ranges left c)) → (c : ℕ)
    → in_ranges new c ≡ (in_ranges a c || in_ranges b c)
merge_end_left a b out new left m all c =
    all c ∙ ap (λ x. in_ranges out c || x) (sym (or-false (in_ranges left c))
    ∙ ap (λ x. in_ranges left c || x) (sym (in_ranges-nil c))) ∙ m.members c

pub merge_end_right : (a b out new right : List Range) → Merging a b out [] right
    → ((c : ℕ) → in_ranges new c ≡ (in_ranges out c || in_ranges right c)) → (c : ℕ)
    → in_ranges new c ≡ (in_ranges a c || in_ranges b c)
merge_end_right a b out new right m all c =
    all c ∙ ap (λ x. in_ranges out c || (x || in_ranges right c)) (sym (in_ranges-nil c)) ∙ m.members c

-- one more of the ranges that are pushed in turn
pub all_pushed_more : (start out new all : List Range) (r : Range) (rs : List Range) → IsPushed out new r →
    ((c : ℕ) → (in_ranges out c || in_ranges (r ∷ rs) c) ≡ (in_ranges start c || in_ranges all c)) →
    (c : ℕ) → (in_ranges new c || in_ranges rs c) ≡ (in_ranges start c || in_ranges all c)
all_pushed_more start out new all r rs pushed same c =
    ap (λ x. x || in_ranges rs c) (pushed.members c) ∙ or_assoc (in_ranges out c) (in_range r c) (in_ranges rs c)
    ∙ ap (λ x. in_ranges out c || x) (sym (in_ranges-cons r rs c)) ∙ same c

pub all_pushed_end : (start out all : List Range)
    → ((c : ℕ) → (in_ranges out c || in_ranges [] c) ≡ (in_ranges start c || in_ranges all c)) → (c : ℕ)
    → in_ranges out c ≡ (in_ranges start c || in_ranges all c)
all_pushed_end start out all same c =
    sym (or-false (in_ranges out c)) ∙ ap (λ x. in_ranges out c || x) (sym (in_ranges-nil c)) ∙ same c
