-- The ranges that two lists have in common.
use Rattle.std.proofs.Common.{◌≡◌, ℕ, ◌+◌, ◌<◌, ◌≤◌, ◌||◌, ◌&&◌, Bool, true, false, ◌⊎◌, max, min, List, [], ◌∷◌, ◌++◌, refl, sym, ap, ◌∙◌, arith, inl, inr}
use Rattle.std.proofs.Math.Bool.{and_comm, or-false}
use Rattle.std.proofs.lemmas.Bool.{both_ways}
use Rattle.sb_class.specs.Ranges.{Range, in_range, in_ranges, IsCanonical}
use Rattle.sb_class.proofs.RangeFacts.{in_range_tells, in_ranges-nil, in_ranges-cons, in_ranges-push, rises_from-nil, rises_from-parts, rises_from-weaker, members_from}
use Rattle.sb_class.proofs.Pushing.{next_free, next_free-nil, next_free-push, canonical_push}

-- the ranges so far and what is left in common have the members in common, and what is left in common comes after a gap
pub record Meeting (a b out left right : List Range) : Type 0 where
  pub canonical : IsCanonical out
  pub left_canonical : IsCanonical left
  pub right_canonical : IsCanonical right
  pub free : (c : ℕ) → in_ranges left c ≡ true → in_ranges right c ≡ true → next_free 0 out ≤ c
  pub members : (c : ℕ)
      → (in_ranges out c || (in_ranges left c && in_ranges right c)) ≡ (in_ranges a c && in_ranges b c)

-- the same, with what is in common up to a number among the ranges so far
pub record MetUpTo (a b out left right : List Range) (end : ℕ) : Type 0 where
  pub canonical : IsCanonical out
  pub left_canonical : IsCanonical left
  pub right_canonical : IsCanonical right
  pub free : (c : ℕ) → in_ranges left c ≡ true → in_ranges right c ≡ true → end < c → next_free 0 out ≤ c
  pub covered : (c : ℕ) → in_ranges left c ≡ true → in_ranges right c ≡ true → c ≤ end → in_ranges out c ≡ true
  pub members : (c : ℕ)
      → (in_ranges out c || (in_ranges left c && in_ranges right c)) ≡ (in_ranges a c && in_ranges b c)

pub meet_start : (a b out : List Range) → out ≡ [] → IsCanonical a → IsCanonical b → Meeting a b out a b
meet_start a b out none ha hb = rw none (record {
  canonical = rises_from-nil 0;
  left_canonical = ha;
  right_canonical = hb;
  free = λ c _ _. omega (arith, next_free-nil 0);
  members = λ c. ap (λ x. x || (in_ranges a c && in_ranges b c)) (in_ranges-nil c);
})

-- a member of a list is in its first range, or after the gap that follows it
pub member_of_first : (r : Range) (rs : List Range) (c : ℕ) → IsCanonical (r ∷ rs) → in_ranges (r ∷ rs) c ≡ true
    → ((r.0 ≤ c) × (c ≤ r.1)) ⊎ ((r.1 + 2 ≤ c) × (in_ranges rs c ≡ true))
member_of_first r rs c h t =
    let p = rises_from-parts 0 r rs h in
    let is : (in_range r c || in_ranges rs c) ≡ true = sym (in_ranges-cons r rs c) ∙ t in
    elim (in_range_tells r c) [
      | inl inside ↦ inl (inside.1, inside.2)
      | inr outside ↦
          let rest : in_ranges rs c ≡ true = sym (ap (λ b. b || in_ranges rs c) outside.0) ∙ is in
          inr (members_from _ rs c p.3 rest, rest)
    ]

pub member_of_rest : (r : Range) (rs : List Range) (c : ℕ) → in_ranges rs c ≡ true → in_ranges (r ∷ rs) c ≡ true
member_of_rest r rs c t = grind (arith, in_ranges-cons r rs c)

covers : (o x y n : Bool) → (n ≡ true → (x && y) ≡ true) → (o || (x && y)) ≡ ((o || n) || (x && y))
covers true x y n h = refl
covers false true true n h = grind arith
covers false true false n h = grind arith
covers false false y n h = grind arith

-- the part that the first ranges share is added
pub meet_add : (a b out new : List Range) (l r : Range) (ls rs : List Range) (start end : ℕ)
    → Meeting a b out (l ∷ ls) (r ∷ rs) → start ≡ max l.0 r.0 → end ≡ min l.1 r.1 → start ≤ end
    → new ≡ out ++ (start, end) ∷ [] → MetUpTo a b new (l ∷ ls) (r ∷ rs) end
meet_add a b out new l r ls rs start end m from to some is =
    let pl = rises_from-parts 0 l ls m.left_canonical in
    let pr = rises_from-parts 0 r rs m.right_canonical in
    let met : Range = (start, end) in
    let in_left : (c : ℕ) → in_range met c ≡ true → in_ranges (l ∷ ls) c ≡ true =
    λ c t. grind (arith, in_range_tells met c, in_range_tells l c, in_ranges-cons l ls c) in
    let in_right : (c : ℕ) → in_range met c ≡ true → in_ranges (r ∷ rs) c ≡ true =
    λ c t. grind (arith, in_range_tells met c, in_range_tells r c, in_ranges-cons r rs c) in
    let first : in_range met start ≡ true = grind (arith, in_range_tells met start) in
    rw is (record {
      canonical = canonical_push out met m.canonical (m.free start (in_left start first) (in_right start first)) some
          (omega arith);
      left_canonical = m.left_canonical;
      right_canonical = m.right_canonical;
      free = λ c t u above.
          grind (
            arith,
            next_free-push 0 out met,
            member_of_first l ls c m.left_canonical t,
            member_of_first r rs c m.right_canonical u,
          );
      covered = λ c t u le.
          grind (
            arith,
            in_ranges-push out met c,
            in_range_tells met c,
            member_of_first l ls c m.left_canonical t,
            member_of_first r rs c m.right_canonical u,
          );
      members = λ c. ap (λ x. x || (in_ranges (l ∷ ls) c && in_ranges (r ∷ rs) c)) (in_ranges-push out met c)
          ∙ sym (covers (in_ranges out c) (in_ranges (l ∷ ls) c) (in_ranges (r ∷ rs) c) (in_range met c)
          (λ t. grind (arith, in_left c t, in_right c t)))
          ∙ m.members c;
    })

-- the first ranges share nothing
pub meet_skip : (a b out : List Range) (l r : Range) (ls rs : List Range) (start end : ℕ)
    → Meeting a b out (l ∷ ls) (r ∷ rs) → start ≡ max l.0 r.0 → end ≡ min l.1 r.1 → end < start
    → MetUpTo a b out (l ∷ ls) (r ∷ rs) end
meet_skip a b out l r ls rs start end m from to none = record {
  canonical = m.canonical;
  left_canonical = m.left_canonical;
  right_canonical = m.right_canonical;
  free = λ c t u _. m.free c t u;
  covered = λ c t u le.
      absurd (grind (arith, member_of_first l ls c m.left_canonical t, member_of_first r rs c m.right_canonical u));
  members = m.members;
}

dropped : (o l ls r : Bool) → (l ≡ true → r ≡ true → o ≡ true) → (o || (ls && r)) ≡ (o || ((l || ls) && r))
dropped true l ls r h = refl
dropped false false ls r h = refl
dropped false true ls true h = absurd (both_ways false refl (h refl refl))
dropped false true true false h = refl
dropped false true false false h = refl

-- the range that ends first meets nothing more
pub meet_left : (a b out : List Range) (l : Range) (ls right : List Range) (end : ℕ)
    → MetUpTo a b out (l ∷ ls) right end → end ≡ l.1 → Meeting a b out ls right
meet_left a b out l ls right end m is =
    let p = rises_from-parts 0 l ls m.left_canonical in record {
      canonical = m.canonical;
      left_canonical = rises_from-weaker _ _ ls (omega arith) p.3;
      right_canonical = m.right_canonical;
      free = λ c t u. m.free c (member_of_rest l ls c t) u (omega (arith, members_from _ ls c p.3 t));
      members = λ c.
          dropped (in_ranges out c) (in_range l c) (in_ranges ls c) (in_ranges right c)
          (λ t u. m.covered c (in_ranges-cons l ls c ∙ ap (λ x. x || in_ranges ls c) t) u
          (grind (arith, in_range_tells l c)))
          ∙ ap (λ x. in_ranges out c || (x && in_ranges right c)) (sym (in_ranges-cons l ls c)) ∙ m.members c;
    }

met_swap : (a b out left right : List Range) (end : ℕ) → MetUpTo a b out left right end → MetUpTo b a out right left end
met_swap a b out left right end m = record {
  canonical = m.canonical;
  left_canonical = m.right_canonical;
  right_canonical = m.left_canonical;
  free = λ c t u. m.free c u t;
  covered = λ c t u. m.covered c u t;
  members = λ c. ap (λ x. in_ranges out c || x) (and_comm (in_ranges right c) (in_ranges left c)) ∙ m.members c
      ∙ and_comm (in_ranges a c) (in_ranges b c);
}

meeting_swap : (a b out left right : List Range) → Meeting a b out left right → Meeting b a out right left
meeting_swap a b out left right m = record {
  canonical = m.canonical;
  left_canonical = m.right_canonical;
  right_canonical = m.left_canonical;
  free = λ c t u. m.free c u t;
  members = λ c. ap (λ x. in_ranges out c || x) (and_comm (in_ranges right c) (in_ranges left c)) ∙ m.members c
      ∙ and_comm (in_ranges a c) (in_ranges b c);
}

pub meet_right : (a b out left : List Range) (r : Range) (rs : List Range) (end : ℕ) → MetUpTo a b out left (r ∷ rs) end
    → end ≡ r.1 → Meeting a b out left rs
meet_right a b out left r rs end m is =
    meeting_swap b a out rs left (meet_left b a out r rs left end (met_swap a b out left (r ∷ rs) end m) is)

-- where one list is used up, the ranges so far are all
pub meet_end : (a b out left right : List Range) → Meeting a b out left right → (left ≡ []) ⊎ (right ≡ []) → (c : ℕ)
    → in_ranges out c ≡ (in_ranges a c && in_ranges b c)
meet_end a b out left right m done c =
    let none : (in_ranges left c && in_ranges right c) ≡ false = elim done [
      | inl e ↦ rw (e, in_ranges-nil c) refl
      | inr e ↦ rw (e, in_ranges-nil c, and_comm) refl
    ] in
    sym (or-false (in_ranges out c)) ∙ ap (λ x. in_ranges out c || x) (sym none) ∙ m.members c
