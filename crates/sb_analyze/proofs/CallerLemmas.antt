-- What a search cites of its trail: reasons and levels when entries are added or taken off, and what `learn` wants.
use Rattle.std.proofs.Common.{◌≡◌, ℕ, zero, suc, ◌+◌, ◌-◌, ◌<◌, ◌≤◌, ◌⊎◌, ◌&&◌, ◌||◌, true, false, leb, ltb, List, [], ◌∷◌, ◌++◌, Option, Some, None, refl, sym, ◌∙◌, ap, subst, inl, inr, arith, append_assoc}
use Rattle.std.proofs.lemmas.Option.{same_Some}
use Rattle.std.specs.List.{list_all}
use Rattle.std.proofs.lemmas.Bool.{false≢true, cases_Bool, lt-leb, leb-false, leb-true, ltb-true, ltb-false, and_parts, false_from_ne_true}
use Rattle.std.proofs.lemmas.List.{append-nil}
use Rattle.std.proofs.lemmas.List.Elements.{filter-append}
use Rattle.sb_lit.specs.declared.clause.Lit.{Lit}
use Rattle.sb_lit.specs.Clauses.{negation, is_among, is_same_literal, is_open_under, is_false_under, is_false_clause, leaves_only}
use Rattle.sb_lit.specs.Kept.{Kept, KeptClause, kept_at}
use Rattle.sb_trail.specs.declared.assigned.Assigned.{Assigned}
use Rattle.sb_trail.specs.Assignments.{Assignments, IsTrail, held, current_level, up_to, AreLevelled, level_after, AreDistinct}
use Rattle.sb_clauses.specs.Propagation.{AreForced, GrowsBy, IsSettled, IsConflict}
use Rattle.sb_analyze.specs.Reasons.{AreReasoned, highest}
use Rattle.sb_analyze.specs.Learning.{HasTwoOf, IsTeaching, IsAsserting, IsSettledBelow}
use Rattle.sb_analyze.specs.declared.learned.Learned.{Learned}
pub use Rattle.sb_analyze.proofs.Lessons.{true_up_to_low}
use Rattle.sb_analyze.proofs.Teaching.{has_two_of}
pub use Rattle.sb_analyze.proofs.Teaching.{is_highest}
pub use Rattle.sb_analyze.proofs.Assumptions.{decided_false}
pub use Rattle.sb_analyze.proofs.Orders.{ascending_from_sort}
use Rattle.sb_lit.proofs.CallerLemmas.{is_same_literal-true, all_among}
use Rattle.sb_trail.proofs.CallerLemmas.{level_behind-above, level_after-push, up_to-all, up_to-up_to}

append_one : (xs : List Assigned) (e : Assigned) (ys : List Assigned) → (xs ++ e ∷ []) ++ ys ≡ xs ++ e ∷ ys
append_one xs e ys = append_assoc xs (e ∷ []) ys

reasoned_append : (kept : Kept) (before xs ys : List Assigned) → AreReasoned kept before xs
    → AreReasoned kept (before ++ xs) ys → AreReasoned kept before (xs ++ ys)
reasoned_append kept before [] ys h k = subst (λ (b : List Assigned). AreReasoned kept b ys) (append-nil before) k
reasoned_append kept before (x ∷ xs) ys h k = (
  h.0,
  reasoned_append kept (before ++ x ∷ []) xs ys h.1
      (subst (λ (b : List Assigned). AreReasoned kept b ys) (sym (append_one before x xs)) k),
)

reasoned_forced : (kept : Kept) (before xs : List Assigned) → AreForced kept before xs → AreReasoned kept before xs
reasoned_forced kept before [] h = tt
reasoned_forced kept before (x ∷ xs) h =
    let f = h.0 in (
      inr (record { id = f.id; reason = f.reason; clause = f.clause; there = f.there; forces = f.forces }),
      reasoned_forced kept (before ++ x ∷ []) xs h.1,
    )

-- a trail that grew by propagation
pub reasoned_grown : (kept : Kept) (old new : Assignments) → AreReasoned kept [] old.literals → GrowsBy kept old new
    → AreReasoned kept [] new.literals
reasoned_grown kept old new h grows =
    subst (λ (es : List Assigned). AreReasoned kept [] es) (sym grows.literals)
    (reasoned_append kept [] old.literals grows.added h
    (reasoned_forced kept old.literals grows.added grows.forced))

-- one more decision
pub reasoned_decided : (kept : Kept) (es : List Assigned) (e : Assigned) → AreReasoned kept [] es → e.reason ≡ None
    → AreReasoned kept [] (es ++ e ∷ [])
reasoned_decided kept es e h is = reasoned_append kept [] es (e ∷ []) h (inl is, tt)

-- what is forced stays on the current level
pub level_forced : (kept : Kept) (before xs : List Assigned) → AreForced kept before xs
    → current_level (before ++ xs) ≡ current_level before
level_forced kept before [] h = ap current_level (append-nil before)
level_forced kept before (x ∷ xs) h =
    ap current_level (sym (append_one before x xs)) ∙ level_forced kept (before ++ x ∷ []) xs h.1
    ∙ level_after-push 0 before x ∙ h.0.level

above_forced : (kept : Kept) (before xs : List Assigned) (n : ℕ) → AreForced kept before xs → n < current_level before
    → up_to n xs ≡ []
above_forced kept before [] n h below = refl
above_forced kept before (x ∷ xs) n h below =
    rw (lt-leb x.level n (omega (arith, below, h.0.level)))
    (above_forced kept (before ++ x ∷ []) xs n h.1 (omega (arith, below, h.0.level, level_after-push 0 before x)))

up_to-none : (level n : ℕ) (es : List Assigned) → AreLevelled n es → level < n → up_to level es ≡ []
up_to-none level n [] h above = refl
up_to-none level n (e ∷ es) h above =
    let high : level < e.level = omega (arith, above, level_behind-above n e.reason, h.0) in
    rw (lt-leb e.level level high) (up_to-none level e.level es h.1 high)

-- a trail that is taken back
pub reasoned_up_to : (kept : Kept) (before es : List Assigned) (level n : ℕ) → AreReasoned kept before es
    → AreLevelled n es → AreReasoned kept before (up_to level es)
reasoned_up_to kept before [] level n h k = tt
reasoned_up_to kept before (e ∷ es) level n h k =
    elim (cases_Bool (leb e.level level)) [
      | inl low ↦ rw low (h.0, reasoned_up_to kept (before ++ e ∷ []) es level e.level h.1 k.1)
      | inr high ↦ rw (high, up_to-none level e.level es k.1 (leb-false e.level level high)) tt
    ]

-- one more kept clause
kept_more : (kept : Kept) (k : Option KeptClause) (id : ℕ) (clause : KeptClause) → kept_at kept id ≡ Some clause
    → kept_at (kept ++ k ∷ []) id ≡ Some clause
kept_more [] k id clause h = absurd (Prim.cc (h))
kept_more (x ∷ xs) k zero clause h = h
kept_more (x ∷ xs) k (suc id) clause h = kept_more xs k id clause h

pub reasoned_more : (kept : Kept) (k : Option KeptClause) (before es : List Assigned) → AreReasoned kept before es
    → AreReasoned (kept ++ k ∷ []) before es
reasoned_more kept k before [] h = tt
reasoned_more kept k before (e ∷ es) h = (
  elim h.0 [
    | inl none ↦ inl none
    | inr f ↦ inr (record {
      id = f.id;
      reason = f.reason;
      clause = f.clause;
      there =
          kept_more kept k f.id.0 f.clause f.there;
      forces = f.forces;
    })
  ],
  reasoned_more kept k (before ++ e ∷ []) es h.1,
)

-- a conflict on the level of a decision teaches
pub teaches : (kept : Kept) (old middle new : Assignments) (e : Assigned) → IsTrail old
    → IsSettled kept (held old.literals) → e.level ≡ current_level old.literals + 1
    → middle.literals ≡ old.literals ++ e ∷ []
    → GrowsBy kept middle new → (id : ℕ) (h : IsConflict kept (held new.literals) id)
    → highest new.literals h.clause.literals ≡ current_level new.literals
    → HasTwoOf new.literals h.clause.literals (current_level new.literals)
    → (clause : KeptClause) × IsTeaching kept new.literals id clause
teaches kept old middle new e is_trail settled level pushed grows id h top two =
    let now : current_level new.literals ≡ e.level = ap current_level grows.literals
    ∙ level_forced kept middle.literals grows.added grows.forced ∙ ap current_level pushed
    ∙ level_after-push 0 old.literals e in
    let n : highest new.literals h.clause.literals - 1 ≡ current_level old.literals = omega (arith, top, now, level) in
    let added : up_to (current_level old.literals) grows.added ≡ [] =
    above_forced kept middle.literals grows.added (current_level old.literals) grows.forced
    (omega (arith, ap current_level pushed ∙ level_after-push 0 old.literals e, level)) in
    let decision : up_to (current_level old.literals) (e ∷ []) ≡ [] =
    rw (lt-leb e.level (current_level old.literals) (omega (arith, level))) refl in
    let whole : new.literals ≡ (old.literals ++ e ∷ []) ++ grows.added =
    grows.literals ∙ ap (λ (es : List Assigned). es ++ grows.added) pushed in
    let below : up_to (current_level old.literals) new.literals ≡ old.literals =
    ap (up_to (current_level old.literals)) whole
    ∙ filter-append (λ x. leb x.level (current_level old.literals)) (old.literals ++ e ∷ []) grows.added
    ∙ ap (λ (es : List Assigned). up_to (current_level old.literals) (old.literals ++ e ∷ []) ++ es) added
    ∙ append-nil (up_to (current_level old.literals) (old.literals ++ e ∷ []))
    ∙ filter-append (λ x. leb x.level (current_level old.literals)) old.literals (e ∷ [])
    ∙ ap (λ (es : List Assigned). up_to (current_level old.literals) old.literals ++ es) decision
    ∙ append-nil (up_to (current_level old.literals) old.literals)
    ∙ up_to-all (current_level old.literals) 0 old.literals is_trail.levelled (omega arith) in (
      h.clause,
      record {
        there = h.there;
        is_false = h.is_false;
        above = omega (arith, top, now, level);
        two = subst (λ (m : ℕ). HasTwoOf new.literals h.clause.literals m) (sym top) two;
        settled = subst (λ (es : List Assigned). IsSettled kept (held es))
            (sym (ap (λ (m : ℕ). up_to m new.literals) n ∙ below)) settled;
      },
    )

-- the levels below the current one are settled where the trail grew by propagation,
pub below_grown : (kept : Kept) (old new : Assignments) → IsSettledBelow kept old.literals → GrowsBy kept old new
    → IsSettledBelow kept new.literals
below_grown kept old new h grows = λ n low.
    let now : current_level new.literals ≡ current_level old.literals = ap current_level grows.literals
    ∙ level_forced kept old.literals grows.added grows.forced in
    let below : n < current_level old.literals = omega (arith, low, now) in
    let same : up_to n new.literals ≡ up_to n old.literals = ap (up_to n) grows.literals
    ∙ filter-append (λ x. leb x.level n) old.literals grows.added
    ∙ ap (λ (es : List Assigned). up_to n old.literals ++ es)
    (above_forced kept old.literals grows.added n grows.forced below)
    ∙ append-nil (up_to n old.literals) in
    subst (λ (es : List Assigned). IsSettled kept (held es)) (sym same) (h n below)

-- where a literal was decided behind a propagation that came to its end,
pub below_decided : (kept : Kept) (old : Assignments) (new : List Assigned) (e : Assigned) → IsTrail old
    → IsSettledBelow kept old.literals → IsSettled kept (held old.literals)
    → e.level ≡ current_level old.literals + 1 → new ≡ old.literals ++ e ∷ [] → IsSettledBelow kept new
below_decided kept old new e is_trail h settled level pushed = λ n low.
    let now : current_level new ≡ e.level = ap current_level pushed ∙ level_after-push 0 old.literals e in
    let decision : up_to n (e ∷ []) ≡ [] = rw (lt-leb e.level n (omega (arith, low, now))) refl in
    let same : up_to n new ≡ up_to n old.literals = ap (up_to n) pushed
    ∙ filter-append (λ x. leb x.level n) old.literals (e ∷ [])
    ∙ ap (λ (es : List Assigned). up_to n old.literals ++ es) decision
    ∙ append-nil (up_to n old.literals) in
    subst (λ (es : List Assigned). IsSettled kept (held es)) (sym same)
    (elim (cases_Bool (ltb n (current_level old.literals))) [
      | inl below ↦ h n (ltb-true n (current_level old.literals) below)
      | inr top ↦
          let whole : up_to n old.literals ≡ old.literals = up_to-all n 0 old.literals is_trail.levelled
          (omega (arith, ltb-false n (current_level old.literals) top)) in
          subst (λ (es : List Assigned). IsSettled kept (held es)) (sym whole) settled
    ])

pub level_up_to : (level m : ℕ) (es : List Assigned) → m ≤ level → level_after m (up_to level es) ≤ level
level_up_to level m [] h = h
level_up_to level m (e ∷ es) h =
    elim (cases_Bool (leb e.level level)) [
      | inl low ↦ rw low (level_up_to level e.level es (leb-true e.level level low))
      | inr high ↦ rw high (level_up_to level m es h)
    ]

-- where the trail was taken back,
pub below_up_to : (kept : Kept) (es : List Assigned) (level : ℕ) → IsSettledBelow kept es
    → level < current_level es → IsSettledBelow kept (up_to level es)
below_up_to kept es level h below = λ n low.
    let under : n < level = omega (arith, low, level_up_to level 0 es (omega arith)) in
    subst (λ (xs : List Assigned). IsSettled kept (held xs)) (sym (up_to-up_to n level es (omega (arith, under))))
    (h n (omega (arith, under, below)))

added_at : (kept : Kept) (k clause : KeptClause) (id : ℕ) → kept_at (kept ++ Some k ∷ []) id ≡ Some clause
    → (kept_at kept id ≡ Some clause) ⊎ (k ≡ clause)
added_at [] k clause zero h = inr (same_Some k clause h)
added_at [] k clause (suc id) h = absurd (Prim.cc (h))
added_at (x ∷ xs) k clause zero h = inl h
added_at (x ∷ xs) k clause (suc id) h = added_at xs k clause id h

pub settled_more : (kept : Kept) (k : KeptClause) (literals : List Lit) → IsSettled kept literals
    → is_false_clause literals k.literals ≡ false → ((l : Lit) → leaves_only literals k.literals l ≡ false)
    → IsSettled (kept ++ Some k ∷ []) literals
settled_more kept k literals h none_false none_forces = record {
  none_false = λ id clause there. elim (added_at kept k clause id there) [
    | inl old ↦ h.none_false id clause old
    | inr new ↦ subst (λ (c : KeptClause). is_false_clause literals c.literals ≡ false) new none_false
  ];
  none_forces = λ id clause there l. elim (added_at kept k clause id there) [
    | inl old ↦ h.none_forces id clause old l
    | inr new ↦ subst (λ (c : KeptClause). leaves_only literals c.literals l ≡ false) new (none_forces l)
  ];
}

-- a clause with a literal that is not false is not false, and leaves no other literal
pub not_false_with : (literals clause : List Lit) (a : Lit) → is_among clause a ≡ true
    → is_false_under literals a ≡ false → is_false_clause literals clause ≡ false
not_false_with literals clause a among stays =
    false_from_ne_true (is_false_clause literals clause) (λ all.
    false≢true (sym stays ∙ all_among (is_false_under literals) clause a all among))

leaves_no_other : (literals clause : List Lit) (a l : Lit) → is_among clause a ≡ true
    → is_false_under literals a ≡ false → leaves_only literals clause a ≡ false
    → leaves_only literals clause l ≡ false
leaves_no_other literals clause a l among stays not_it =
    false_from_ne_true (leaves_only literals clause l) (λ leaves.
    let others = (and_parts (is_among clause l && is_open_under literals l)
    (list_all (λ m. is_same_literal m l || is_false_under literals m) clause) leaves).1 in
    let at : (is_same_literal a l || is_false_under literals a) ≡ true =
    all_among (λ m. is_same_literal m l || is_false_under literals m) clause a others among in
    elim (cases_Bool (is_same_literal a l)) [
      | inl same ↦ false≢true (sym (subst (λ (m : Lit). leaves_only literals clause m ≡ false)
          (is_same_literal-true a l same) not_it) ∙ leaves)
      | inr other ↦ false≢true (sym (rw (other, stays) refl) ∙ at)
    ])

-- and where the asserting clause was added behind that
pub below_learned : (kept : Kept) (es : List Assigned) (level : ℕ) (lesson : Learned) → AreDistinct es
    → IsAsserting kept es level lesson → IsSettledBelow kept (up_to lesson.backjump_level es)
    → IsSettledBelow (kept ++ Some (record { literals = lesson.clause; level = lesson.level }) ∷ [])
    (up_to lesson.backjump_level es)
below_learned kept es level lesson distinct a h = λ n low.
    let under : n < lesson.backjump_level =
    omega (arith, low, level_up_to lesson.backjump_level 0 es (omega arith)) in
    let among : is_among lesson.clause a.asserted ≡ true =
    (and_parts (is_among lesson.clause a.asserted) (is_open_under (held (up_to lesson.backjump_level es)) a.asserted)
    (and_parts (is_among lesson.clause a.asserted && is_open_under (held (up_to lesson.backjump_level es)) a.asserted)
    (list_all (λ m. is_same_literal m a.asserted || is_false_under (held (up_to lesson.backjump_level es)) m)
    lesson.clause) a.leaves).0).0 in
    let stays : is_false_under (held (up_to n es)) a.asserted ≡ false =
    false_from_ne_true (is_false_under (held (up_to n es)) a.asserted) (λ is_false.
    absurd (omega (
      arith,
      true_up_to_low n es (negation a.asserted) a.asserted distinct is_false refl,
      a.asserted_level,
      a.below,
      under,
    ))) in
    let same = up_to-up_to n lesson.backjump_level es (omega (arith, under)) in
    let old : IsSettled kept (held (up_to n es)) =
    subst (λ (xs : List Assigned). IsSettled kept (held xs)) same (h n low) in
    subst (λ (xs : List Assigned). IsSettled
    (kept ++ Some (record { literals = lesson.clause; level = lesson.level }) ∷ []) (held xs)) (sym same)
    (settled_more kept (record { literals = lesson.clause; level = lesson.level }) (held (up_to n es)) old
    (not_false_with (held (up_to n es)) lesson.clause a.asserted among stays)
    (λ l. leaves_no_other (held (up_to n es)) lesson.clause a.asserted l among stays (a.lowest n under)))

-- and then a conflict above level 0 teaches
pub teaches_below : (kept : Kept) (trail : Assignments) → IsTrail trail → IsSettledBelow kept trail.literals
    → 0 < current_level trail.literals → (id : ℕ) → IsConflict kept (held trail.literals) id
    → (clause : KeptClause) × IsTeaching kept trail.literals id clause
teaches_below kept trail is_trail h above id conflict =
    let level = is_highest kept trail is_trail h above id conflict in (
      conflict.clause,
      record {
        there = conflict.there;
        is_false = conflict.is_false;
        above = omega (arith, level, above);
        two = subst (λ (m : ℕ). HasTwoOf trail.literals conflict.clause.literals m) (sym level)
            (has_two_of kept trail is_trail h above id conflict);
        settled = h (highest trail.literals conflict.clause.literals - 1) (omega (arith, level, above));
      },
    )
