-- Entries of a trail when one is added or taken off at the end.
use Rattle.std.proofs.Common.{◌≡◌, ℕ, suc, ◌+◌, ◌-◌, ◌<◌, ◌≤◌, Bool, true, false, cond, eqb, leb, List, [], ◌∷◌, ◌++◌, length, Option, Some, None, refl, sym, ◌∙◌, ◌↔◌, ap, arith, ◌⊎◌, inl, inr, zero, take}
use Rattle.std.specs.Option.{option_or, option_map, option_to_list, IsSome, MatchOption}
use Rattle.std.specs.Bool.{MatchBool}
use Rattle.std.specs.List.{slice_get}
use Rattle.std.proofs.lemmas.Bool.{false≢true, cases_lt, eq-eqb, ne_eqb, eqb-false, le-leb, lt-leb}
use Rattle.std.proofs.lemmas.Option.{same_Some, none-some}
use Rattle.std.proofs.lemmas.List.{append-nil}
use Rattle.std.proofs.lemmas.List.Folds.{find-append}
use Rattle.std.proofs.lemmas.List.Elements.{filter-append}
use Rattle.sb_lit.specs.declared.clause.ClauseId.{ClauseId}
use Rattle.sb_trail.specs.declared.assigned.Assigned.{Assigned}
use Rattle.sb_trail.specs.Assignments.{is_of, entry_of, level_after, current_level, level_behind, up_to, AreDistinct, AreLevelled}

option_or_none : {A : Type 0} (o : Option A) → option_or o None ≡ o
option_or_none None = refl
option_or_none (Some x) = refl

-- where a choice gives nothing
pub cond_none : {A : Type 0} (b : Bool) (x : A) (o : Option A) → cond b (Some x) o ≡ None → (b ≡ false) × (o ≡ None)
cond_none true x o h = absurd (cc)
cond_none false x o h = (refl, h)

-- and where it gives something
pub cond_cases : {A : Type 0} (b : Bool) (x y : A) (o : Option A) → cond b (Some x) o ≡ Some y
    → ((b ≡ true) × (x ≡ y)) ⊎ ((b ≡ false) × (o ≡ Some y))
cond_cases true x y o h = inl (refl, same_Some x y h)
cond_cases false x y o h = inr (refl, h)

or_none : {A : Type 0} (o p : Option A) → option_or o p ≡ None → (o ≡ None) × (p ≡ None)
or_none None p h = (refl, h)
or_none (Some x) p h = absurd (cc)

pub entry_of-push : (es : List Assigned) (e : Assigned) (a : ℕ)
    → entry_of (es ++ e ∷ []) a ≡ option_or (entry_of es a) (cond (eqb e.literal.atom a) (Some e) None)
entry_of-push es e a = find-append (is_of a) es (e ∷ [])

pub entry_of-push_same : (es : List Assigned) (e : Assigned) → entry_of es e.literal.atom ≡ None
    → entry_of (es ++ e ∷ []) e.literal.atom ≡ Some e
entry_of-push_same es e none = entry_of-push es e e.literal.atom
    ∙ rw (none, eq-eqb e.literal.atom e.literal.atom refl) refl

pub entry_of-push_other : (es : List Assigned) (e : Assigned) (a : ℕ) → (e.literal.atom ≡ a → ⊥)
    → entry_of (es ++ e ∷ []) a ≡ entry_of es a
entry_of-push_other es e a other =
    entry_of-push es e a ∙ rw (ne_eqb e.literal.atom a other) (option_or_none (entry_of es a))

-- where no entry is of the atom, none of those before the last one is, and the last one is not
pub entry_of-push_none : (es : List Assigned) (e : Assigned) (a : ℕ) → entry_of (es ++ e ∷ []) a ≡ None
    → (entry_of es a ≡ None) × (e.literal.atom ≡ a → ⊥)
entry_of-push_none es e a h =
    let both = or_none (entry_of es a) (cond (eqb e.literal.atom a) (Some e) None) (sym (entry_of-push es e a) ∙ h) in
    let other = cond_none (eqb e.literal.atom a) e None both.1 in
    (both.0, eqb-false e.literal.atom a other.0)

pub AreDistinct-push : (es : List Assigned) (e : Assigned) → AreDistinct es → entry_of es e.literal.atom ≡ None
    → AreDistinct (es ++ e ∷ [])
AreDistinct-push [] e h none = (refl, tt)
AreDistinct-push (x ∷ xs) e h none =
    let parts = cond_none (eqb x.literal.atom e.literal.atom) x (entry_of xs e.literal.atom) none in
    let other : e.literal.atom ≡ x.literal.atom → ⊥ = λ same. eqb-false x.literal.atom e.literal.atom parts.0 (sym same)
    in
    (entry_of-push_other xs e x.literal.atom other ∙ h.0, AreDistinct-push xs e h.1 parts.1)

pub AreDistinct-pop : (es : List Assigned) (e : Assigned) → AreDistinct (es ++ e ∷ [])
    → AreDistinct es × (entry_of es e.literal.atom ≡ None)
AreDistinct-pop [] e h = (tt, refl)
AreDistinct-pop (x ∷ xs) e h =
    let rest = AreDistinct-pop xs e h.1 in
    let parts = entry_of-push_none xs e x.literal.atom h.0 in
    let other : x.literal.atom ≡ e.literal.atom → ⊥ = λ same. parts.1 (sym same) in
    ((parts.0, rest.0), rw (ne_eqb x.literal.atom e.literal.atom other) rest.1)

pub level_after-push : (n : ℕ) (es : List Assigned) (e : Assigned) → level_after n (es ++ e ∷ []) ≡ e.level
level_after-push n [] e = refl
level_after-push n (x ∷ xs) e = level_after-push x.level xs e

pub level_after-last : (n : ℕ) (es : List Assigned) (e : Assigned) → slice_get es (length es - 1) ≡ Some e
    → e.level ≡ level_after n es
level_after-last n [] e h = absurd (cc)
level_after-last n (x ∷ []) e h = ap (λ (y : Assigned). y.level) (sym (same_Some x e h))
level_after-last n (x ∷ y ∷ ys) e h =
    let index : length (x ∷ y ∷ ys) - 1 ≡ suc (length (y ∷ ys) - 1) = omega arith in
    level_after-last x.level (y ∷ ys) e (rw index at h)

pub AreLevelled-push : (n : ℕ) (es : List Assigned) (e : Assigned) → AreLevelled n es
    → e.level ≡ level_behind (level_after n es) e.reason → AreLevelled n (es ++ e ∷ [])
AreLevelled-push n [] e h level = (level, tt)
AreLevelled-push n (x ∷ xs) e h level = (h.0, AreLevelled-push x.level xs e h.1 level)

pub AreLevelled-pop : (n : ℕ) (es : List Assigned) (e : Assigned) → AreLevelled n (es ++ e ∷ []) → AreLevelled n es
AreLevelled-pop n [] e h = tt
AreLevelled-pop n (x ∷ xs) e h = (h.0, AreLevelled-pop x.level xs e h.1)

pub level_behind-bounds : (n : ℕ) (reason : Option ClauseId) → (n ≤ level_behind n reason) × (level_behind n reason ≤ n + 1)
level_behind-bounds n None = (omega arith, omega arith)
level_behind-bounds n (Some _) = (omega arith, omega arith)

pub level_behind-above : (n : ℕ) (reason : Option ClauseId) → n ≤ level_behind n reason
level_behind-above n reason = (level_behind-bounds n reason).0

-- levels never fall,
pub level_after-above : (n : ℕ) (es : List Assigned) → AreLevelled n es → n ≤ level_after n es
level_after-above n [] h = omega arith
level_after-above n (e ∷ es) h = omega (arith, level_behind-bounds n e.reason, h.0, level_after-above e.level es h.1)

-- and there are no more of them than entries
pub level_after-below : (n : ℕ) (es : List Assigned) → AreLevelled n es → level_after n es ≤ n + length es
level_after-below n [] h = omega arith
level_after-below n (e ∷ es) h = omega (arith, level_behind-bounds n e.reason, h.0, level_after-below e.level es h.1)

-- no entry is of a higher level than the newest one
pub entry_of-level : (n a : ℕ) (es : List Assigned) (e : Assigned) → AreLevelled n es → entry_of es a ≡ Some e
    → e.level ≤ level_after n es
entry_of-level n a [] e h is = absurd (cc)
entry_of-level n a (x ∷ xs) e h is =
    elim (cond_cases (eqb x.literal.atom a) x e (entry_of xs a) is) [
      | inl here ↦ omega (arith, level_after-above x.level xs h.1, ap (λ (y : Assigned). y.level) here.1)
      | inr later ↦ entry_of-level x.level a xs e h.1 later.1
    ]

-- the first entries
pub AreLevelled-front : (n k : ℕ) (es : List Assigned) → AreLevelled n es → AreLevelled n (take k es)
AreLevelled-front n zero es h = tt
AreLevelled-front n (suc k) [] h = tt
AreLevelled-front n (suc k) (e ∷ es) h = (h.0, AreLevelled-front e.level k es h.1)

pub entry_of-front : (a k : ℕ) (es : List Assigned) (e : Assigned) → entry_of (take k es) a ≡ Some e
    → entry_of es a ≡ Some e
entry_of-front a zero es e is = absurd (cc)
entry_of-front a (suc k) [] e is = is
entry_of-front a (suc k) (x ∷ xs) e is =
    elim (cond_cases (eqb x.literal.atom a) x e (entry_of (take k xs) a) is) [
      | inl here ↦ rw here.0 (ap (λ (y : Assigned). Some y) here.1)
      | inr later ↦ rw later.0 (entry_of-front a k xs e later.1)
    ]

-- where the newest entry is of a level up to this one all are
pub up_to-all : (level n : ℕ) (es : List Assigned) → AreLevelled n es → level_after n es ≤ level → up_to level es ≡ es
up_to-all level n [] h below = refl
up_to-all level n (e ∷ es) h below =
    rw (le-leb e.level level (omega (arith, level_after-above e.level es h.1)))
    (ap (λ xs. e ∷ xs) (up_to-all level e.level es h.1 below))

pub up_to-push_above : (level : ℕ) (es : List Assigned) (e : Assigned) → level < e.level
    → up_to level (es ++ e ∷ []) ≡ up_to level es
up_to-push_above level es e above =
    filter-append (λ entry. leb entry.level level) es (e ∷ [])
    ∙ rw (lt-leb e.level level above) (append-nil (up_to level es))

pub map_none : {A B : Type 0} (f : A → B) (o : Option A) → option_map f o ≡ None → o ≡ None
map_none f None h = refl
map_none f (Some x) h = absurd (cc)

-- what is taken off
pub popped_last : (n : ℕ) (old new : List Assigned) (popped : Option Assigned) → n ≡ length old
    → IsSome popped ↔ (0 < n) → old ≡ new ++ option_to_list popped
    → MatchOption popped ((new ≡ old) × (old ≡ [])) (λ entry. old ≡ new ++ entry ∷ [])
popped_last n [] new None len some h = (sym (append-nil new) ∙ sym h, refl)
popped_last n (e ∷ es) new None len some h = absurd (false≢true (some.1 (omega (arith, len))))
popped_last n old new (Some e) len some h = h

-- and is of the newest level
pub popped_above : (level : ℕ) (old new : List Assigned) (popped : Bool) → level < current_level old
    → MatchBool popped ((entry : Assigned) × (old ≡ new ++ entry ∷ [])) ((new ≡ old) × (old ≡ []))
    → MatchBool popped ((entry : Assigned) × (old ≡ new ++ entry ∷ []) × (level < entry.level))
    ((new ≡ old) × (up_to level old ≡ old))
popped_above level old new true above h =
    (h.0, h.1, omega (arith, ap current_level h.1, level_after-push 0 new h.0))
popped_above level old new false above h = absurd (omega (arith, ap current_level h.1))

-- what is up to a level, and up to a lower one
pub up_to-up_to : (low high : ℕ) (es : List Assigned) → low ≤ high → up_to low (up_to high es) ≡ up_to low es
up_to-up_to low high [] le = refl
up_to-up_to low high (e ∷ es) le =
    elim (cases_lt high e.level) [
      | inr stays ↦ rw (le-leb e.level high stays) (rw (up_to-up_to low high es le) refl)
      | inl goes ↦ rw (lt-leb e.level high goes, lt-leb e.level low (omega arith)) (up_to-up_to low high es le)
    ]

-- an entry up to a level is the entry of its atom
pub entry_of-up_to : (level a : ℕ) (es : List Assigned) (e : Assigned) → AreDistinct es
    → entry_of (up_to level es) a ≡ Some e → (entry_of es a ≡ Some e) × (e.level ≤ level)
entry_of-up_to level a [] e distinct h = absurd (cc)
entry_of-up_to level a (x ∷ xs) e distinct h =
    elim (cases_lt level x.level) [
      | inr stays ↦
          elim (cond_cases (eqb x.literal.atom a) x e (entry_of (up_to level xs) a) (rw (le-leb x.level level stays) at h)) [
            | inl here ↦ (rw here.0 (ap (λ (y : Assigned). Some y) here.1), omega (arith, ap (λ (y : Assigned). y.level) here.1))
            | inr later ↦ (rw later.0 (entry_of-up_to level a xs e distinct.1 later.1).0, (entry_of-up_to level a xs e distinct.1 later.1).1)
          ]
      | inl goes ↦
          let rest = entry_of-up_to level a xs e distinct.1 (rw (lt-leb x.level level goes) at h) in
          let other : x.literal.atom ≡ a → ⊥ = λ same. none-some e (sym distinct.0 ∙ ap (entry_of xs) same ∙ rest.0) in
          (rw (ne_eqb x.literal.atom a other) rest.0, rest.1)
    ]
