-- Entries of a trail and of its fronts.
use Rattle.std.proofs.Common.{◌≡◌, ℕ, zero, suc, ◌+◌, ◌<◌, ◌≤◌, Bool, true, false, cond, ◌⊎◌, eqb, List, [], ◌∷◌, ◌++◌, length, get_or, take, Option, Some, None, refl, sym, ◌∙◌, ap, inl, inr, arith, append_assoc}
use Rattle.std.specs.List.{count_by}
use Rattle.std.proofs.lemmas.Bool.{false≢true, cases_Bool, or_left, or_right, or_cases, eqb-true, eqb-false, eq-eqb}
use Rattle.std.proofs.lemmas.Option.{same_Some}
use Rattle.std.proofs.lemmas.List.{append-nil}
use Rattle.std.proofs.lemmas.List.Sums.{sum_by-cons}
use Rattle.sb_lit.specs.declared.clause.Lit.{Lit}
use Rattle.sb_lit.specs.Clauses.{is_same_literal, is_among, is_true_under}
use Rattle.sb_lit.specs.Kept.{Kept}
use Rattle.sb_trail.specs.declared.assigned.Assigned.{Assigned}
use Rattle.sb_trail.proofs.CallerLemmas.{cond_none, cond_cases, entry_of-push, entry_of-front, entry_of-level}
use Rattle.sb_trail.specs.Assignments.{entry_of, held, level_after, level_behind, AreDistinct, AreLevelled}
use Rattle.sb_analyze.specs.Reasons.{HasReason, AreReasoned, level_in}
use Rattle.sb_analyze.specs.Explained.{Stands}
use Rattle.sb_lit.proofs.CallerLemmas.{is_same_literal-true, is_same_literal-of}

-- the entry of an atom is of that atom
pub entry_of-atom : (es : List Assigned) (a : ℕ) (e : Assigned) → entry_of es a ≡ Some e → e.literal.atom ≡ a
entry_of-atom [] a e h = absurd (cc)
entry_of-atom (x ∷ xs) a e h =
    elim (cond_cases (eqb x.literal.atom a) x e (entry_of xs a) h) [
      | inl here ↦ ap (λ (y : Assigned). y.literal.atom) (sym here.1) ∙ eqb-true x.literal.atom a here.0
      | inr later ↦ entry_of-atom xs a e later.1
    ]

pub stands_from : (es : List Assigned) (a : ℕ) (e : Assigned) → entry_of es a ≡ Some e → Stands es e
stands_from es a e h = ap (entry_of es) (entry_of-atom es a e h) ∙ h

-- one entry at most is of an atom
pub stands_once : (es : List Assigned) (e f : Assigned) → Stands es e → Stands es f → f.literal.atom ≡ e.literal.atom
    → f ≡ e
stands_once es e f he hf same = same_Some f e (sym hf ∙ ap (entry_of es) same ∙ he)

pub stands_head : (e : Assigned) (es : List Assigned) → Stands (e ∷ es) e
stands_head e es = rw (eq-eqb e.literal.atom e.literal.atom refl) refl

-- where an entry stands in a list whose head is of another atom
pub stands_tail : (x : Assigned) (xs : List Assigned) (e : Assigned) → AreDistinct (x ∷ xs) → Stands xs e
    → Stands (x ∷ xs) e
stands_tail x xs e h there =
    elim (cases_Bool (eqb x.literal.atom e.literal.atom)) [
      | inl same ↦
          let none : entry_of xs e.literal.atom ≡ None = rw (← eqb-true x.literal.atom e.literal.atom same) h.0 in
          absurd (Prim.cc (none, there))
      | inr other ↦ rw other there
    ]

pub stands_true : (es : List Assigned) (e : Assigned) → Stands es e → is_true_under (held es) e.literal ≡ true
stands_true [] e h = absurd (cc)
stands_true (x ∷ xs) e h =
    elim (cond_cases (eqb x.literal.atom e.literal.atom) x e (entry_of xs e.literal.atom) h) [
      | inl here ↦ or_left (is_same_literal x.literal e.literal) (is_among (held xs) e.literal)
          (is_same_literal-of x.literal e.literal (ap (λ (y : Assigned). y.literal) here.1))
      | inr later ↦ or_right (is_same_literal x.literal e.literal) (is_among (held xs) e.literal)
          (stands_true xs e later.1)
    ]

-- the entry of a literal that is true
pub record IsEntry (es : List Assigned) (l : Lit) : Type 0 where
  pub entry : Assigned
  pub stands : Stands es entry
  pub literal : entry.literal ≡ l

pub entry_of_true : (es : List Assigned) (l : Lit) → AreDistinct es → is_true_under (held es) l ≡ true → IsEntry es l
entry_of_true [] l h is_true = absurd (false≢true is_true)
entry_of_true (x ∷ xs) l h is_true =
    elim (or_cases (is_same_literal x.literal l) (is_among (held xs) l) is_true) [
      | inl here ↦ record { entry = x; stands = stands_head x xs; literal = is_same_literal-true x.literal l here }
      | inr later ↦
          let found = entry_of_true xs l h.1 later in
          record { entry = found.entry; stands = stands_tail x xs found.entry h found.stands; literal = found.literal }
    ]

-- one more entry at the end
pub stands_push : (es : List Assigned) (e f : Assigned) → Stands es f → Stands (es ++ e ∷ []) f
stands_push es e f h = entry_of-push es e f.literal.atom ∙ rw h refl

pub stands_last : (es : List Assigned) (e : Assigned) → entry_of es e.literal.atom ≡ None → Stands (es ++ e ∷ []) e
stands_last es e none = entry_of-push es e e.literal.atom ∙ rw (none, eq-eqb e.literal.atom e.literal.atom refl) refl

-- an entry with one more behind it stands before it, or is that one
pub stands_cases : (es : List Assigned) (e f : Assigned) → Stands (es ++ e ∷ []) f → Stands es f ⊎ (f ≡ e)
stands_cases es e f h = from (entry_of es f.literal.atom) refl
  where
    last : (b : Bool) → ◌≡◌ {A = Option Assigned} (cond b (Some e) None) (Some f) → f ≡ e
    last true is = same_Some f e (sym is)
    last false is = absurd (Prim.cc)

    from : (o : Option Assigned) → entry_of es f.literal.atom ≡ o → Stands es f ⊎ (f ≡ e)
    from None none = inr (last (eqb e.literal.atom f.literal.atom)
        (sym (entry_of-push es e f.literal.atom ∙ rw none refl) ∙ h))
    from (Some g) some =
        let same : ◌≡◌ {A = Option Assigned} (Some g) (Some f) = sym (entry_of-push es e f.literal.atom ∙ rw some refl)
        ∙ h in
        inl (some ∙ same)

-- fronts
take_none : (n : ℕ) (es : List Assigned) (a : ℕ) → entry_of es a ≡ None → entry_of (take n es) a ≡ None
take_none zero es a h = refl
take_none (suc n) [] a h = refl
take_none (suc n) (x ∷ xs) a h =
    let parts = cond_none (eqb x.literal.atom a) x (entry_of xs a) h in
    rw parts.0 (take_none n xs a parts.1)

pub distinct_front : (n : ℕ) (es : List Assigned) → AreDistinct es → AreDistinct (take n es)
distinct_front zero es h = tt
distinct_front (suc n) [] h = tt
distinct_front (suc n) (x ∷ xs) h = (take_none n xs x.literal.atom h.0, distinct_front n xs h.1)

pub stands_front : (n : ℕ) (es : List Assigned) (e : Assigned) → AreDistinct es → Stands (take n es) e → Stands es e
stands_front n es e h there = entry_of-front e.literal.atom n es e there

-- the level of an entry's literal
pub level_in_stands : (es : List Assigned) (e : Assigned) (l : Lit) → Stands es e → l.atom ≡ e.literal.atom
    → level_in es l ≡ e.level
level_in_stands es e l h same = rw (same, h) refl

-- the reason of the entry at a place
pub reasoned_at : (kept : Kept) (before es : List Assigned) (n : ℕ) (d : Assigned) → n < length es
    → AreReasoned kept before es → ((get_or es n d).reason ≡ None)
    ⊎ HasReason kept (before ++ take n es) (get_or es n d)
reasoned_at kept before [] n d within h = absurd (omega arith)
reasoned_at kept before (e ∷ es) zero d within h = rw append-nil h.0
reasoned_at kept before (e ∷ es) (suc n) d within h =
    rw (← append_assoc before (e ∷ []) (take n es)) (reasoned_at kept (before ++ e ∷ []) es n d (omega arith) h.1)

-- the level of the entry at a place
pub level_at : (m : ℕ) (es : List Assigned) (n : ℕ) (d : Assigned) → n < length es → AreLevelled m es
    → (get_or es n d).level ≡ level_behind (level_after m (take n es)) (get_or es n d).reason
level_at m [] n d within h = absurd (omega arith)
level_at m (e ∷ es) zero d within h = h.0
level_at m (e ∷ es) (suc n) d within h = level_at e.level es n d (omega arith) h.1

-- levels never fall
pub level_below : (m : ℕ) (es : List Assigned) (e : Assigned) → AreLevelled m es → Stands es e
    → e.level ≤ level_after m es
level_below m es e h there = entry_of-level m e.literal.atom es e h there

-- counts of entries by two tests
abbrev pub one_if : Bool → ℕ
one_if b = cond b 1 0

count_cons : (p : Assigned → Bool) (x : Assigned) (xs : List Assigned)
    → count_by p (x ∷ xs) ≡ one_if (p x) + count_by p xs
count_cons p x xs = sum_by-cons (λ y. cond (p y) 1 0) x xs

count_step : (p q : Assigned → Bool) (x : Assigned) (xs : List Assigned) (n : ℕ) → p x ≡ q x
    → count_by q xs ≡ count_by p xs + n → count_by q (x ∷ xs) ≡ count_by p (x ∷ xs) + n
count_step p q x xs n same rest =
    let head : one_if (p x) ≡ one_if (q x) = ap one_if same in
    omega (arith, count_cons p x xs, count_cons q x xs, rest, head)

pub count_agree : (p q : Assigned → Bool) (es : List Assigned) → AreDistinct es
    → ((e : Assigned) → Stands es e → p e ≡ q e) → count_by q es ≡ count_by p es + 0
count_agree p q [] h agree = refl
count_agree p q (x ∷ xs) h agree =
    count_step p q x xs 0 (agree x (stands_head x xs))
    (count_agree p q xs h.1 (λ e there. agree e (stands_tail x xs e h there)))

pub count_more : (p q : Assigned → Bool) (es : List Assigned) (e : Assigned) → AreDistinct es → Stands es e
    → p e ≡ false → q e ≡ true → ((f : Assigned) → Stands es f → (f.literal.atom ≡ e.literal.atom → ⊥) → p f ≡ q f)
    → count_by q es ≡ count_by p es + 1
count_more p q [] e h there off on agree = absurd (Prim.cc)
count_more p q (x ∷ xs) e h there off on agree =
    elim (cond_cases (eqb x.literal.atom e.literal.atom) x e (entry_of xs e.literal.atom) there) [
      | inl here ↦
          let rest : count_by q xs ≡ count_by p xs + 0 =
          count_agree p q xs h.1 (λ f stands. agree f (stands_tail x xs f h stands) (λ same.
          let head : x.literal.atom ≡ f.literal.atom = eqb-true x.literal.atom e.literal.atom here.0 ∙ sym same in
          let none : entry_of xs f.literal.atom ≡ None = ap (entry_of xs) (sym head) ∙ h.0 in
          absurd (Prim.cc (none, stands)))) in
          let before : one_if (p x) ≡ 0 = ap one_if (ap p here.1 ∙ off) in
          let after : one_if (q x) ≡ 1 = ap one_if (ap q here.1 ∙ on) in
          omega (arith, count_cons p x xs, count_cons q x xs, rest, before, after)
      | inr later ↦
          count_step p q x xs 1
          (agree x (stands_head x xs) (λ same. eqb-false x.literal.atom e.literal.atom later.0 same))
          (count_more p q xs e h.1 later.1 off on (λ f stands other. agree f (stands_tail x xs f h stands) other))
    ]

-- where a count is 0 the test fails at each entry
pub count_none : (p : Assigned → Bool) (es : List Assigned) (e : Assigned) → count_by p es ≡ 0 → Stands es e
    → p e ≡ false
count_none p [] e h there = absurd (Prim.cc)
count_none p (x ∷ xs) e h there =
    let sum : one_if (p x) + count_by p xs ≡ 0 = sym (count_cons p x xs) ∙ h in
    elim (cond_cases (eqb x.literal.atom e.literal.atom) x e (entry_of xs e.literal.atom) there) [
      | inl here ↦ ap p (sym here.1) ∙ off (p x) (omega (arith, sum))
      | inr later ↦ count_none p xs e (omega (arith, sum)) later.1
    ]
  where
    off : (b : Bool) → one_if b ≡ 0 → b ≡ false
    off true is = absurd (omega (arith, is))
    off false is = refl
