-- Clauses that are found in the lists.
use Rattle.std.proofs.Common.{◌≡◌, ◌≢◌, ◌⊎◌, ℕ, zero, suc, ◌+◌, ◌<◌, ◌≤◌, Bool, true, false, not, eqb, ◌&&◌, ◌||◌, List, [], ◌∷◌, ◌++◌, length, get_or, set, Option, Some, None, refl, sym, ◌∙◌, ap, subst, inl, inr, arith}
use Rattle.std.specs.List.{list_any, list_all}
use Rattle.std.proofs.lemmas.Bool.{false≢true, cases_Bool, cases_eq, and_parts, or_cases, or_left, or_right, eqb-true, eq-eqb}
use Rattle.std.proofs.lemmas.List.{get_or_append_left, length-append, length-set, get_or-set_same, get_or-set_other}
use Rattle.std.proofs.lemmas.Option.{none-some}
use Rattle.sb_lit.specs.declared.clause.Lit.{Lit}
use Rattle.sb_lit.specs.Clauses.{is_same_literal, is_among}
use Rattle.sb_lit.specs.Kept.{Kept, KeptClause, kept_at}
use Rattle.sb_lit.specs.Hints.{has_only, is_repeated}
use Rattle.sb_lit.proofs.CallerLemmas.{is_same_literal-true, is_same_literal-beq, is_same_literal-self, all_among}
use Rattle.sb_hints.specs.Listing.{are_equal, put_at, passed_at, begun_at, IsPlace, IsBelow, AreLinked, steps_of, on_list, passes, passes_in, AreListed}

pub below_later : (n m : ℕ) (next : Option ℕ) → n ≤ m → IsBelow n next → IsBelow m next
below_later n m None le h = tt
below_later n m (Some k) le h = omega arith

-- the steps that a walk takes
pub steps_same : (p : ℕ → Bool) (before : List (Option ℕ)) → AreLinked before → (n m : ℕ) (next : Option ℕ)
    → IsBelow n next → IsBelow m next → on_list p before n next ≡ on_list p before m next
steps_same p before linked zero zero next a b = refl
steps_same p before linked zero (suc m) None a b = refl
steps_same p before linked zero (suc m) (Some k) a b = absurd (omega arith)
steps_same p before linked (suc n) zero None a b = refl
steps_same p before linked (suc n) zero (Some k) a b = absurd (omega arith)
steps_same p before linked (suc n) (suc m) None a b = refl
steps_same p before linked (suc n) (suc m) (Some k) a b =
    ap (λ rest. p k || rest)
    (steps_same p before linked n m (get_or before k None)
    (below_later k n (get_or before k None) (omega arith) (linked k))
    (below_later k m (get_or before k None) (omega arith) (linked k)))

-- a walk that goes on, in any number of steps that is enough
pub record IsWalk (p : ℕ → Bool) (before : List (Option ℕ)) (next : Option ℕ) (found : Bool) : Type 0 where
  pub enough : (n : ℕ) → IsBelow n next → on_list p before n next ≡ found

pub walk_start : (p : ℕ → Bool) (before : List (Option ℕ)) (m : ℕ) (next : Option ℕ) → AreLinked before
    → IsBelow m next → IsWalk p before next (on_list p before m next)
walk_start p before m next linked below =
    record { enough = λ n enough. steps_same p before linked n m next enough below }

pub walk_next : (p : ℕ → Bool) (before : List (Option ℕ)) (k : ℕ) (found : Bool) → AreLinked before
    → IsWalk p before (Some k) found → p k ≡ false → IsWalk p before (get_or before k None) found
walk_next p before k found linked walk fails =
    let next = get_or before k None in
    record {
      enough = λ n enough.
          steps_same p before linked n k next enough (linked k)
          ∙ sym (ap (λ b. b || on_list p before k next) fails) ∙ walk.enough (suc k) (omega arith);
    }

pub walk_found : (p : ℕ → Bool) (before : List (Option ℕ)) (k : ℕ) (found : Bool) → IsWalk p before (Some k) found
    → p k ≡ true → true ≡ found
walk_found p before k found walk passes =
    sym (or_left (p k) (on_list p before k (get_or before k None)) passes) ∙ walk.enough (suc k) (omega arith)

pub walk_end : (p : ℕ → Bool) (before : List (Option ℕ)) (found : Bool) → IsWalk p before None found → false ≡ found
walk_end p before found walk = walk.enough zero tt

pub steps_fall : (k : ℕ) (next : Option ℕ) → IsBelow k next → steps_of next < suc k
steps_fall k None below = omega arith
steps_fall k (Some j) below = omega arith

-- one clause more
at_push : (P : Option ℕ → Type 0) (before : List (Option ℕ)) (next : Option ℕ) (k : ℕ) → P None
    → (k < length before → P (get_or before k None)) → (k ≡ length before → P next)
    → P (get_or (before ++ next ∷ []) k None)
at_push P [] next zero past front here = here refl
at_push P [] next (suc k) past front here = past
at_push P (x ∷ xs) next zero past front here = front (omega arith)
at_push P (x ∷ xs) next (suc k) past front here =
    at_push P xs next k past (λ within. front (omega arith)) (λ e. here (omega arith))

at_end : (before : List (Option ℕ)) (next : Option ℕ) → get_or (before ++ next ∷ []) (length before) None ≡ next
at_end [] next = refl
at_end (x ∷ xs) next = at_end xs next

linked_push : (before : List (Option ℕ)) (next : Option ℕ) → AreLinked before → IsBelow (length before) next
    → AreLinked (before ++ next ∷ [])
linked_push before next linked below k =
    at_push (IsBelow k) before next k tt (λ within. linked k)
    (λ e. below_later (length before) k next (omega arith) below)

front_same : (p : ℕ → Bool) (before : List (Option ℕ)) (last : Option ℕ) → AreLinked before → (n : ℕ) (next : Option ℕ)
    → IsBelow (length before) next → on_list p before n next ≡ on_list p (before ++ last ∷ []) n next
front_same p before last linked zero next below = refl
front_same p before last linked (suc n) None below = refl
front_same p before last linked (suc n) (Some k) below =
    ap (λ rest. p k || rest)
    (front_same p before last linked n (get_or before k None)
    (below_later k (length before) (get_or before k None) (omega arith) (linked k))
    ∙ ap (on_list p (before ++ last ∷ []) n) (sym (get_or_append_left before (last ∷ []) None k below)))

-- at a place another clause is the newest one
put_cases : (place : Option Lit) (n : ℕ) (lists : Option Lit → Option ℕ) (q : Option Lit)
    → (put_at place n lists q ≡ lists q) ⊎ ((put_at place n lists q ≡ Some n) × (lists q ≡ lists place))
put_cases None n lists None = inr (refl, refl)
put_cases None n lists (Some m) = inl refl
put_cases (Some l) n lists None = inl refl
put_cases (Some l) n lists (Some m) =
    elim (cases_Bool (are_equal l m)) [
      | inl same ↦
          let e : l ≡ m = is_same_literal-true l m (sym (is_same_literal-beq l m) ∙ same) in
          inr (rw same refl, ap (λ x. lists (Some x)) (sym e))
      | inr other ↦ inl (rw other refl)
    ]

put_here : (place : Option Lit) (n : ℕ) (lists : Option Lit → Option ℕ) → put_at place n lists place ≡ Some n
put_here None n lists = refl
put_here (Some l) n lists = rw (is_same_literal-beq l l, is_same_literal-self l) refl

-- the clauses with one more
pub push_cases : (kept : Kept) (clause : KeptClause) (id : ℕ) (found : KeptClause)
    → kept_at (kept ++ Some clause ∷ []) id ≡ Some found
    → (kept_at kept id ≡ Some found) ⊎ ((id ≡ length kept) × (clause ≡ found))
push_cases [] clause zero found h = inr (refl, cc)
push_cases [] clause (suc id) found h = inl h
push_cases (x ∷ xs) clause zero found h = inl h
push_cases (x ∷ xs) clause (suc id) found h =
    elim (push_cases xs clause id found h) [ inl old ↦ inl old | inr new ↦ inr (ap suc new.0, new.1) ]

module _ (kept : Kept) (before : List (Option ℕ)) (lists later : Option Lit → Option ℕ) (clause : KeptClause)
    (place : Option Lit) (same : length kept ≡ length before) (fits : IsPlace clause.literals place)
    (h : AreListed kept before lists) (put : (q : Option Lit) → later q ≡ put_at place (length before) lists q) where
  abbrev longer : List (Option ℕ)
  longer = before ++ lists place ∷ []

  longer_len : length longer ≡ length before + 1
  longer_len = length-append before (lists place ∷ [])

  longer_linked : AreLinked longer
  longer_linked = linked_push before (lists place) h.linked (h.below place)

  -- a walk over the longer list that begins at its newest clause
  from_newest : (p : ℕ → Bool) → on_list p longer (length longer) (Some (length before))
      ≡ (p (length before) || on_list p longer (length before) (lists place))
  from_newest p =
      steps_same p longer longer_linked (length longer) (suc (length before)) (Some (length before))
      (omega (arith, longer_len)) (omega arith)
      ∙ ap (λ next. p (length before) || on_list p longer (length before) next) (at_end before (lists place))

  still_found : (p : ℕ → Bool) (q : Option Lit) → on_list p before (length before) (lists q) ≡ true
      → on_list p longer (length longer) (later q) ≡ true
  still_found p q found =
      elim (put_cases place (length before) lists q) [
        | inl stays ↦
            ap (on_list p longer (length longer)) (put q ∙ stays)
            ∙ steps_same p longer longer_linked (length longer) (length before) (lists q)
            (below_later (length before) (length longer) (lists q) (omega (arith, longer_len)) (h.below q)) (h.below q)
            ∙ sym (front_same p before (lists place) h.linked (length before) (lists q) (h.below q)) ∙ found
        | inr moved ↦
            ap (on_list p longer (length longer)) (put q ∙ moved.0) ∙ from_newest p
            ∙ or_right (p (length before)) (on_list p longer (length before) (lists place))
            (ap (on_list p longer (length before)) (sym moved.1)
            ∙ sym (front_same p before (lists place) h.linked (length before) (lists q) (h.below q)) ∙ found)
      ]

  newest_found : (p : ℕ → Bool) → p (length before) ≡ true → on_list p longer (length longer) (later place) ≡ true
  newest_found p passes =
      ap (on_list p longer (length longer)) (put place ∙ put_here place (length before) lists) ∙ from_newest p
      ∙ or_left (p (length before)) (on_list p longer (length before) (lists place)) passes

  still_below : (q : Option Lit) → IsBelow (length longer) (later q)
  still_below q =
      elim (put_cases place (length before) lists q) [
        | inl stays ↦ rw (put q, stays)
            (below_later (length before) (length longer) (lists q) (omega (arith, longer_len)) (h.below q))
        | inr moved ↦ rw (put q, moved.0) (omega (arith, longer_len))
      ]

  pub listed_push : AreListed (kept ++ Some clause ∷ []) longer later
  listed_push = record {
    linked = longer_linked;
    below = still_below;
    listed = λ id found there.
        elim (push_cases kept clause id found there) [
          | inl old ↦
              let was = h.listed id found old in
              record {
                place = was.place;
                fits = was.fits;
                found = λ p passes. still_found p was.place (was.found p passes);
              }
          | inr new ↦ record {
            place = place;
            fits = subst (λ (c : KeptClause). IsPlace c.literals place) new.1 fits;
            found = λ p passes. newest_found p (ap p (sym (new.0 ∙ same)) ∙ passes);
          }
        ];
  }

-- fewer clauses
pub listed_fewer : (kept fewer : Kept) (before : List (Option ℕ)) (lists : Option Lit → Option ℕ)
    → ((id : ℕ) (clause : KeptClause) → kept_at fewer id ≡ Some clause → kept_at kept id ≡ Some clause)
    → AreListed kept before lists → AreListed fewer before lists
listed_fewer kept fewer before lists stays h = record {
  linked = h.linked;
  below = h.below;
  listed = λ id clause there. h.listed id clause (stays id clause there);
}

-- a walk finds what a narrower test finds
on_list_more : (p q : ℕ → Bool) → ((j : ℕ) → p j ≡ true → q j ≡ true) → (before : List (Option ℕ)) (n : ℕ)
    (next : Option ℕ) → on_list p before n next ≡ true → on_list q before n next ≡ true
on_list_more p q more before zero next h = absurd (false≢true h)
on_list_more p q more before (suc n) None h = absurd (false≢true h)
on_list_more p q more before (suc n) (Some k) h =
    elim (or_cases (p k) (on_list p before n (get_or before k None)) h) [
      | inl here ↦ or_left (q k) (on_list q before n (get_or before k None)) (more k here)
      | inr later ↦ or_right (q k) (on_list q before n (get_or before k None))
          (on_list_more p q more before n (get_or before k None) later)
    ]

-- a clause that fails is passed over
module _ (before : List (Option ℕ)) (k : ℕ) (next : Option ℕ) (linked : AreLinked before)
    (leads : get_or before k None ≡ next) where
  next_below : IsBelow k next
  next_below = subst (IsBelow k) leads (linked k)

  skipped : (p : ℕ → Bool) → p k ≡ false → (n m : ℕ) → k < n → IsBelow m next
      → on_list p before n (Some k) ≡ on_list p before m next
  skipped p fails zero m inside below = absurd (omega arith)
  skipped p fails (suc n) m inside below =
      ap (λ b. b || on_list p before n (get_or before k None)) fails ∙ ap (on_list p before n) leads
      ∙ steps_same p before linked n m next (below_later k n next (omega arith) next_below) below

  module _ (newer : ℕ) (inside : newer < length before) (led : get_or before newer None ≡ Some k) where
    abbrev shorter : List (Option ℕ)
    shorter = set before newer next

    here : get_or shorter newer None ≡ next
    here = get_or-set_same before newer next None inside

    elsewhere : (j : ℕ) → j ≢ newer → get_or shorter j None ≡ get_or before j None
    elsewhere j other = get_or-set_other before newer j next None other

    older : k < newer
    older = subst (IsBelow newer) led (linked newer)

    shorter_linked : AreLinked shorter
    shorter_linked j =
        elim (cases_eq j newer) [
          | inl same ↦ rw (same, here) (below_later k newer next (omega (arith, older)) next_below)
          | inr other ↦ rw (elsewhere j other) (linked j)
        ]

    shorter_same : (p : ℕ → Bool) → p k ≡ false → (n : ℕ) (o : Option ℕ) → IsBelow n o
        → on_list p shorter n o ≡ on_list p before n o
    shorter_same p fails zero o below = refl
    shorter_same p fails (suc n) None below = refl
    shorter_same p fails (suc n) (Some j) below =
        ap (λ rest. p j || rest)
        (elim (cases_eq j newer) [
          | inl same ↦
              let low : k < n = omega (arith, older, same, below) in
              let room : IsBelow n next = below_later k n next (omega (arith, low)) next_below in
              ap (λ i. on_list p shorter n (get_or shorter i None)) same ∙ ap (on_list p shorter n) here
              ∙ shorter_same p fails n next room ∙ sym (skipped p fails n n low room)
              ∙ ap (on_list p before n) (sym led) ∙ ap (λ i. on_list p before n (get_or before i None)) (sym same)
          | inr other ↦
              ap (on_list p shorter n) (elsewhere j other)
              ∙ shorter_same p fails n (get_or before j None)
              (below_later j n (get_or before j None) (omega (arith, below)) (linked j))
        ])

-- a clause that is dropped leaves its list
module _ (kept : Kept) (before : List (Option ℕ)) (lists : Option Lit → Option ℕ) (k : ℕ) (next : Option ℕ)
    (h : AreListed kept before lists) (gone : kept_at kept k ≡ None) (leads : get_or before k None ≡ next) where
  abbrev but : (ℕ → Bool) → ℕ → Bool
  but p j = p j && not (eqb j k)

  but_here : (p : ℕ → Bool) → but p k ≡ false
  but_here p = rw (eq-eqb k k refl) (and_false (p k))
    where
      and_false : (b : Bool) → (b && false) ≡ false
      and_false true = refl
      and_false false = refl

  but_there : (p : ℕ → Bool) (id : ℕ) (clause : KeptClause) → kept_at kept id ≡ Some clause → p id ≡ true
      → but p id ≡ true
  but_there p id clause there passes =
      elim (cases_Bool (eqb id k)) [
        | inl same ↦
            absurd (none-some clause (sym gone ∙ ap (kept_at kept) (sym (eqb-true id k same)) ∙ there))
        | inr other ↦ rw (passes, other) refl
      ]

  but_less : (p : ℕ → Bool) (j : ℕ) → but p j ≡ true → p j ≡ true
  but_less p j both = (and_parts (p j) (not (eqb j k)) both).0

  pub listed_passed : (newer : ℕ) → newer < length before → get_or before newer None ≡ Some k
      → AreListed kept (set before newer next) lists
  listed_passed newer inside led =
      let len : length (set before newer next) ≡ length before = length-set before newer next in
      record {
        linked = shorter_linked before k next h.linked leads newer inside led;
        below = λ q. subst (λ n. IsBelow n (lists q)) (sym len) (h.below q);
        listed = λ id clause there.
            let was = h.listed id clause there in
            record {
              place = was.place;
              fits = was.fits;
              found = λ p passes.
                  on_list_more (but p) p (but_less p) (set before newer next) (length (set before newer next))
                  (lists was.place)
                  (ap (λ n. on_list (but p) (set before newer next) n (lists was.place)) len
                  ∙ shorter_same before k next h.linked leads newer inside led (but p) (but_here p) (length before)
                  (lists was.place) (h.below was.place)
                  ∙ was.found (but p) (but_there p id clause there passes));
            };
      }

  passed_cases : (o : Option ℕ) → (passed_at k next o ≡ o) ⊎ ((o ≡ Some k) × (passed_at k next o ≡ next))
  passed_cases None = inl refl
  passed_cases (Some newest) =
      elim (cases_Bool (eqb newest k)) [
        | inl same ↦ inr (ap (λ n. Some n) (eqb-true newest k same), rw same refl)
        | inr other ↦ inl (rw other refl)
      ]

  begun_cases : (place q : Option Lit) → (begun_at place k next lists q ≡ lists q)
      ⊎ ((lists q ≡ Some k) × (begun_at place k next lists q ≡ next))
  begun_cases None None = passed_cases (lists None)
  begun_cases None (Some m) = inl refl
  begun_cases (Some l) None = inl refl
  begun_cases (Some l) (Some m) =
      elim (cases_Bool (are_equal l m)) [
        | inl same ↦ rw same (passed_cases (lists (Some m)))
        | inr other ↦ inl (rw other refl)
      ]

  pub listed_begun : (place : Option Lit) (later : Option Lit → Option ℕ)
      → ((q : Option Lit) → later q ≡ begun_at place k next lists q) → AreListed kept before later
  listed_begun place later begun = record {
    linked = h.linked;
    below = λ q. elim (begun_cases place q) [
      | inl stays ↦ rw (begun q, stays) (h.below q)
      | inr moved ↦
          let inside : k < length before = subst (IsBelow (length before)) moved.0 (h.below q) in
          rw (begun q, moved.1) (below_later k (length before) next (omega (arith, inside))
          (next_below before k next h.linked leads))
    ];
    listed = λ id clause there.
        let was = h.listed id clause there in
        record {
          place = was.place;
          fits = was.fits;
          found = λ p passes. elim (begun_cases place was.place) [
            | inl stays ↦ rw (begun was.place, stays) (was.found p passes)
            | inr moved ↦
                let inside : k < length before =
                subst (IsBelow (length before)) moved.0 (h.below was.place) in
                rw (begun was.place, moved.1)
                (on_list_more (but p) p (but_less p) before (length before) next
                (sym (skipped before k next h.linked leads (but p) (but_here p) (length before) (length before) inside
                (below_later k (length before) next (omega (arith, inside))
                (next_below before k next h.linked leads)))
                ∙ ap (on_list (but p) before (length before)) (sym moved.0)
                ∙ was.found (but p) (but_there p id clause there passes)))
          ];
        };
  }

-- a clause that is repeated
same_tests : (a b : Bool) → (a ≡ true → b ≡ true) → (b ≡ true → a ≡ true) → a ≡ b
same_tests true true f g = refl
same_tests true false f g = absurd (false≢true (f refl))
same_tests false true f g = absurd (false≢true (g refl))
same_tests false false f g = refl

any_same : (f g : Option KeptClause → Bool) → ((o : Option KeptClause) → f o ≡ g o) → (kept : Kept)
    → list_any f kept ≡ list_any g kept
any_same f g h [] = refl
any_same f g h (x ∷ xs) = rw (h x, any_same f g h xs) refl

all_same : (f g : Lit → Bool) → ((l : Lit) → f l ≡ g l) → (ls : List Lit) → list_all f ls ≡ list_all g ls
all_same f g h [] = refl
all_same f g h (l ∷ ls) = rw (h l, all_same f g h ls) refl

pub passes-only : (has : Lit → Bool) (clause : List Lit) → ((l : Lit) → has l ≡ is_among clause l)
    → (o : Option KeptClause) → has_only clause o ≡ passes has o
passes-only has clause h None = refl
passes-only has clause h (Some kept) = sym (all_same has (is_among clause) h kept.literals)

found_number : (test : Option KeptClause → Bool) (kept : Kept) → list_any test kept ≡ true
    → (id : ℕ) × (test (kept_at kept id) ≡ true)
found_number test [] h = absurd (false≢true h)
found_number test (x ∷ xs) h =
    elim (or_cases (test x) (list_any test xs) h) [
      | inl here ↦ (zero, here)
      | inr later ↦ let rest = found_number test xs later in (suc rest.0, rest.1)
    ]

number_found : (test : Option KeptClause → Bool) → test None ≡ false → (kept : Kept) (id : ℕ)
    → test (kept_at kept id) ≡ true → list_any test kept ≡ true
number_found test none [] id h = absurd (false≢true (sym none ∙ h))
number_found test none (x ∷ xs) zero h = or_left (test x) (list_any test xs) h
number_found test none (x ∷ xs) (suc id) h = or_right (test x) (list_any test xs) (number_found test none xs id h)

on_list_found : (test : Option KeptClause → Bool) → test None ≡ false → (kept : Kept) (before : List (Option ℕ)) (n : ℕ)
    (next : Option ℕ)
    → on_list (λ id. test (kept_at kept id)) before n next ≡ true → list_any test kept ≡ true
on_list_found test none kept before zero next h = absurd (false≢true h)
on_list_found test none kept before (suc n) None h = absurd (false≢true h)
on_list_found test none kept before (suc n) (Some k) h =
    elim (or_cases (test (kept_at kept k)) (on_list (λ id. test (kept_at kept id)) before n (get_or before k None)) h) [
      | inl here ↦ number_found test none kept k here
      | inr later ↦ on_list_found test none kept before n (get_or before k None) later
    ]

any_among : (f : Lit → Bool) (ls : List Lit) (l : Lit) → is_among ls l ≡ true → f l ≡ true → list_any f ls ≡ true
any_among f [] l among h = absurd (false≢true among)
any_among f (m ∷ ms) l among h =
    elim (or_cases (is_same_literal m l) (is_among ms l) among) [
      | inl here ↦ or_left (f m) (list_any f ms) (ap f (is_same_literal-true m l here) ∙ h)
      | inr later ↦ or_right (f m) (list_any f ms) (any_among f ms l later h)
    ]

each_found : (f : Lit → Bool) (P : Type 0) → ((l : Lit) → f l ≡ true → P) → (ls : List Lit) → list_any f ls ≡ true → P
each_found f P h [] any = absurd (false≢true any)
each_found f P h (l ∷ ls) any =
    elim (or_cases (f l) (list_any f ls) any) [
      | inl here ↦ h l here
      | inr later ↦ each_found f P h ls later
    ]

module _ (kept : Kept) (before : List (Option ℕ)) (lists : Option Lit → Option ℕ) (clause : List Lit) (has : Lit → Bool)
    (h : AreListed kept before lists) (set : (l : Lit) → has l ≡ is_among clause l) where
  abbrev finds : Option Lit → Bool
  finds place = on_list (passes_in has kept) before (length before) (lists place)

  repeated_found : (id : ℕ) (o : Option KeptClause) → kept_at kept id ≡ o → passes has o ≡ true
      → (finds None || list_any (λ l. finds (Some l)) clause) ≡ true
  repeated_found id None is ok = absurd (false≢true ok)
  repeated_found id (Some part) is ok =
      let was = h.listed id part is in
      let found : finds was.place ≡ true = was.found (passes_in has kept) (ap (passes has) is ∙ ok) in
      go was.place was.fits found
    where
      go : (place : Option Lit) → IsPlace part.literals place → finds place ≡ true
          → (finds None || list_any (λ l. finds (Some l)) clause) ≡ true
      go None fits found = or_left (finds None) (list_any (λ l. finds (Some l)) clause) found
      go (Some l) fits found =
          or_right (finds None) (list_any (λ l. finds (Some l)) clause)
          (any_among (λ l. finds (Some l)) clause l (sym (set l) ∙ all_among has part.literals l ok fits) found)

  pub repeated-finds : is_repeated kept clause ≡ (finds None || list_any (λ l. finds (Some l)) clause)
  repeated-finds =
      any_same (has_only clause) (passes has) (passes-only has clause set) kept
      ∙ same_tests (list_any (passes has) kept) (finds None || list_any (λ l. finds (Some l)) clause)
      (λ any. let found = found_number (passes has) kept any in repeated_found found.0 (kept_at kept found.0) refl
      found.1)
      (λ any. elim (or_cases (finds None) (list_any (λ l. finds (Some l)) clause) any) [
        | inl bare ↦ on_list_found (passes has) refl kept before (length before) (lists None) bare
        | inr under ↦ each_found (λ l. finds (Some l)) (list_any (passes has) kept ≡ true)
            (λ l found. on_list_found (passes has) refl kept before (length before) (lists (Some l)) found) clause under
      ])
