-- Lists of clause numbers by literal.
use Rattle.std.proofs.Common.{◌≡◌, ◌≢◌, ℕ, zero, suc, ◌+◌, ◌<◌, ◌≤◌, Bool, true, false, eqb, List, [], ◌∷◌, ◌++◌, length, set, Option, Some, None, refl, sym, ◌∙◌, ap, subst, inl, inr, ltb, arith}
use Rattle.std.specs.List.{list_all, list_any}
use Rattle.std.specs.Option.{unwrap_or, option_map}
use Rattle.std.proofs.lemmas.Bool.{false≢true, and_parts, or_left, or_right, cases_Bool, cases_eq, cases_lt, or_cases, eqb-true, ltb-true}
use Rattle.std.proofs.lemmas.Option.{none-some, same_Some, slice_get_past}
use Rattle.std.proofs.lemmas.List.{length-set, length-map, map-set, map-append, length_push, get_or-set_same, get_or-set_other, get_or_past}
use Rattle.sb_lit.specs.declared.clause.Lit.{Lit}
use Rattle.sb_lit.specs.Clauses.{negation, is_same_literal, is_among, is_false_clause}
use Rattle.sb_lit.specs.Kept.{Kept, KeptClause, kept_at}
use Rattle.sb_lit.proofs.CallerLemmas.{negation_twice, all_among, is_same_literal-self}
use Rattle.sb_clauses.specs.declared.occurrences.Node.{Node}
use Rattle.sb_clauses.specs.Watching.{list_of}
use Rattle.sb_clauses.specs.Adding.{AreEnough}
use Rattle.sb_clauses.specs.Propagation.{IsConflict, HasNoneFalse}
use Rattle.sb_clauses.specs.Occurring.{node_at, head_at, IsIn, IsReached, IsHome, AreFound, AreSame, IsLed, IsPut, IsWider, are_false_by, is_false_place, HasNoneIn, AreOlder}
use Rattle.sb_clauses.specs.declared.record.Record.{Record}
use Rattle.sb_clauses.specs.Records.{clause_of, kept_of}
use Rattle.sb_clauses.proofs.Adding.{kept_last, kept_front}
use Rattle.sb_clauses.proofs.Scoping.{at_emptied}

in_same : (old new : List Node) (low high list : ℕ) (o : Option ℕ) → low ≤ high
    → ((k : ℕ) → k < low → (node_at new k).list ≡ (node_at old k).list) → IsIn old low list o → IsIn new high list o
in_same old new low high list None le same h = tt
in_same old new low high list (Some k) le same h = (omega (arith, le, h.0), same k h.0 ∙ h.1)

in_wider : (nodes : List Node) (low high list list' : ℕ) (o : Option ℕ) → low ≤ high → list ≡ list'
    → IsIn nodes low list o → IsIn nodes high list' o
in_wider nodes low high list list' None le same h = tt
in_wider nodes low high list list' (Some k) le same h = (omega (arith, le, h.0), h.1 ∙ same)

-- a number that is kept is not one that is not
apart : (kept : Kept) (number id : ℕ) (clause : KeptClause) → kept_at kept number ≡ None
    → kept_at kept id ≡ Some clause → id ≢ number
apart kept number id clause gone there same = none-some clause (sym gone ∙ ap (kept_at kept) (sym same) ∙ there)

-- one that is reached from a number that is not kept is reached from the one before it
module _ (kept : Kept) (heads : List (Option ℕ)) (nodes : List Node) (number : ℕ) (before : Option ℕ)
    (h : AreFound kept heads nodes) (gone : kept_at kept number ≡ None) (inside : number < length kept)
    (leads : (node_at nodes number).before ≡ before) where
  past : (id : ℕ) (clause : KeptClause) → kept_at kept id ≡ Some clause
      → (node_at nodes id).list ≡ (node_at nodes number).list → (o : Option ℕ) → o ≡ Some number → IsReached id o
      → IsReached id before
  past id clause there same o is reached =
      let here : reached.number ≡ number = same_Some reached.number number (sym reached.there ∙ is) in
      let other : id ≢ number = apart kept number id clause gone there in
      subst (IsReached id) leads
      (h.older number id clause inside there same (omega (arith, reached.above, here, other)))

  pub found_led : (new : List Node) (newer : ℕ) → (node_at nodes newer).before ≡ Some number
      → IsLed nodes new newer before → AreFound kept heads new
  found_led new newer led is = record {
    enough = omega (arith, h.enough, is.len);
    begins = λ list. in_same nodes new (length kept) (length kept) list (head_at heads list) (omega arith)
        (λ k _. is.lists k) (h.begins list);
    leads = λ n below. elim (cases_eq n newer) [
      | inl here ↦
          let at : IsIn nodes newer (node_at nodes newer).list (node_at nodes newer).before =
          h.leads newer (omega (arith, below, here)) in
          let at' : IsIn nodes newer (node_at nodes newer).list (Some number) =
          subst (IsIn nodes newer (node_at nodes newer).list) led at in
          let next : IsIn nodes number (node_at nodes number).list before =
          subst (IsIn nodes number (node_at nodes number).list) leads (h.leads number inside) in
          rw (here, is.lists newer, is.here)
          (in_same nodes new newer newer (node_at nodes newer).list before (omega arith) (λ k _. is.lists k)
          (in_wider nodes number newer (node_at nodes number).list (node_at nodes newer).list before
          (omega (arith, at'.0)) at'.1 next))
      | inr other ↦
          rw (is.lists n, is.befores n other)
          (in_same nodes new n n (node_at nodes n).list (node_at nodes n).before (omega arith) (λ k _. is.lists k)
          (h.leads n below))
    ];
    homed = λ id clause there. rw (is.lists id) (h.homed id clause there);
    newest = λ id clause there. rw (is.lists id) (h.newest id clause there);
    older = λ n id clause below there same less.
        let same' : (node_at nodes id).list ≡ (node_at nodes n).list = sym (is.lists id) ∙ same ∙ is.lists n in
        elim (cases_eq n newer) [
          | inl here ↦
              let at : IsIn nodes newer (node_at nodes newer).list (Some number) =
              subst (IsIn nodes newer (node_at nodes newer).list) led
              (h.leads newer (omega (arith, below, here))) in
              let before_n : (node_at nodes n).before ≡ Some number = ap (λ k. (node_at nodes k).before) here ∙ led in
              let lists : (node_at nodes id).list ≡ (node_at nodes number).list =
              same' ∙ ap (λ k. (node_at nodes k).list) here ∙ sym at.1 in
              rw (here, is.here)
              (past id clause there lists (node_at nodes n).before before_n
              (h.older n id clause below there same' less))
          | inr other ↦ rw (is.befores n other) (h.older n id clause below there same' less)
        ];
  }

  pub found_begun : (new : List (Option ℕ)) (list : ℕ) → (node_at nodes number).list ≡ list
      → head_at heads list ≡ Some number → head_at new list ≡ before
      → ((k : ℕ) → k ≢ list → head_at new k ≡ head_at heads k) → AreFound kept new nodes
  found_begun new list here begins now others = record {
    enough = h.enough;
    begins = λ l. elim (cases_eq l list) [
      | inl same ↦
          rw (same, now) (in_wider nodes number (length kept) (node_at nodes number).list list before
          (omega (arith, inside)) here
          (subst (IsIn nodes number (node_at nodes number).list) leads (h.leads number inside)))
      | inr other ↦ rw (others l other) (h.begins l)
    ];
    leads = h.leads;
    homed = h.homed;
    newest = λ id clause there. elim (cases_eq (node_at nodes id).list list) [
      | inl same ↦ rw (same, now)
          (past id clause there (same ∙ sym here) (head_at heads (node_at nodes id).list)
          (ap (head_at heads) same ∙ begins) (h.newest id clause there))
      | inr other ↦ rw (others (node_at nodes id).list other) (h.newest id clause there)
    ];
    older = h.older;
  }

pub found_same : (kept : Kept) (heads : List (Option ℕ)) (nodes new : List Node) → AreFound kept heads nodes
    → AreSame nodes new → AreFound kept heads new
found_same kept heads nodes new h is = record {
  enough = omega (arith, h.enough, is.len);
  begins = λ list. in_same nodes new (length kept) (length kept) list (head_at heads list) (omega arith)
      (λ k _. is.lists k) (h.begins list);
  leads = λ n below. rw (is.lists n, is.befores n)
      (in_same nodes new n n (node_at nodes n).list (node_at nodes n).before (omega arith) (λ k _. is.lists k)
      (h.leads n below));
  homed = λ id clause there. rw (is.lists id) (h.homed id clause there);
  newest = λ id clause there. rw (is.lists id) (h.newest id clause there);
  older = λ n id clause below there same less.
      let same' : (node_at nodes id).list ≡ (node_at nodes n).list = sym (is.lists id) ∙ same ∙ is.lists n in
      rw (is.befores n) (h.older n id clause below there same' less);
}

-- where clauses are dropped
pub found_fewer : (kept new : Kept) (heads : List (Option ℕ)) (nodes : List Node) → AreFound kept heads nodes
    → length new ≡ length kept
    → ((id : ℕ) (clause : KeptClause) → kept_at new id ≡ Some clause → kept_at kept id ≡ Some clause)
    → AreFound new heads nodes
found_fewer kept new heads nodes h len were = record {
  enough = omega (arith, h.enough, len);
  begins = λ list. in_wider nodes (length kept) (length new) list list (head_at heads list) (omega (arith, len)) refl
      (h.begins list);
  leads = λ n below. h.leads n (omega (arith, below, len));
  homed = λ id clause there. h.homed id clause (were id clause there);
  newest = λ id clause there. h.newest id clause (were id clause there);
  older = λ n id clause below there same less.
      h.older n id clause (omega (arith, below, len)) (were id clause there) same less;
}

kept_inside : (kept : Kept) (id : ℕ) (clause : KeptClause) → kept_at kept id ≡ Some clause → id < length kept
kept_inside kept id clause there =
    elim (cases_lt id (length kept)) [
      | inl below ↦ below
      | inr past' ↦ absurd (none-some clause
          (sym (ap (λ (o : Option (Option KeptClause)). unwrap_or o None) (slice_get_past kept id past')) ∙ there))
    ]

-- where there is more room
pub found_wider : (kept : Kept) (heads new_heads : List (Option ℕ)) (nodes new : List Node)
    → AreFound kept heads nodes → IsWider heads nodes new_heads new → AreFound kept new_heads new
found_wider kept heads new_heads nodes new h is =
    let same : (k : ℕ) → k < length kept → node_at new k ≡ node_at nodes k =
    λ k below. is.same k (omega (arith, below, h.enough)) in
    let lists : (k : ℕ) → k < length kept → (node_at new k).list ≡ (node_at nodes k).list =
    λ k below. ap (λ (n : Node). n.list) (same k below) in
    record {
      enough = omega (arith, h.enough, is.more);
      begins = λ list. rw (is.heads list) (in_same nodes new (length kept) (length kept) list (head_at heads list)
          (omega arith) lists (h.begins list));
      leads = λ n below. rw (same n below)
          (in_same nodes new n n (node_at nodes n).list (node_at nodes n).before (omega arith)
          (λ k less. lists k (omega (arith, less, below))) (h.leads n below));
      homed = λ id clause there. rw (same id (kept_inside kept id clause there)) (h.homed id clause there);
      newest = λ id clause there. rw (same id (kept_inside kept id clause there), is.heads (node_at nodes id).list)
          (h.newest id clause there);
      older = λ n id clause below there eq less.
          let eq' : (node_at nodes id).list ≡ (node_at nodes n).list =
          sym (lists id (kept_inside kept id clause there)) ∙ eq ∙ lists n below in
          rw (same n below) (h.older n id clause below there eq' less);
    }

-- one clause more
pub found_put : (kept : Kept) (k : KeptClause) (heads new_heads : List (Option ℕ)) (nodes new : List Node)
    (number list : ℕ) → AreFound kept heads nodes → number ≡ length kept → number < length nodes
    → IsHome k.literals list → list < length heads → IsPut heads nodes new_heads new number list
    → AreFound (kept ++ Some k ∷ []) new_heads new
found_put kept k heads new_heads nodes new number list h last room home inside is =
    let one_more : length (kept ++ Some k ∷ []) ≡ length kept + 1 = length_push kept (Some k) in
    let there : head_at new_heads list ≡ Some number =
    ap (λ hs. head_at hs list) is.heads ∙ get_or-set_same heads list (Some number) None inside in
    let elsewhere : (l : ℕ) → l ≢ list → head_at new_heads l ≡ head_at heads l =
    λ l other. ap (λ hs. head_at hs l) is.heads ∙ get_or-set_other heads list l (Some number) None other in
    let lists : (j : ℕ) → j < length kept → (node_at new j).list ≡ (node_at nodes j).list =
    λ j below. is.lists j (λ same. omega (arith, below, same, last)) in
    let was : (id : ℕ) (clause : KeptClause) → id ≢ number → kept_at (kept ++ Some k ∷ []) id ≡ Some clause
    → kept_at kept id ≡ Some clause =
    λ id clause other at. kept_front kept (Some k) id clause (λ same. other (same ∙ sym last)) at in
    let is_k : (id : ℕ) (clause : KeptClause) → id ≡ number → kept_at (kept ++ Some k ∷ []) id ≡ Some clause
    → k ≡ clause =
    λ id clause same at. same_Some k clause (sym (ap (kept_at (kept ++ Some k ∷ [])) (same ∙ last)
    ∙ kept_last kept (Some k)) ∙ at) in
    record {
      enough = omega (arith, one_more, last, room, is.len);
      begins = λ l. elim (cases_eq l list) [
        | inl same ↦ rw (same, there) (omega (arith, one_more, last), is.here)
        | inr other ↦ rw (elsewhere l other) (in_same nodes new (length kept) (length (kept ++ Some k ∷ [])) l
            (head_at heads l) (omega (arith, one_more)) lists (h.begins l))
      ];
      leads = λ n below. elim (cases_eq n number) [
        | inl same ↦ rw (same, is.here, is.before)
            (in_same nodes new (length kept) number list (head_at heads list) (omega (arith, last)) lists
            (h.begins list))
        | inr other ↦
            let low : n < length kept = omega (arith, below, one_more, other, last) in
            rw (is.lists n other, is.befores n other)
            (in_same nodes new n n (node_at nodes n).list (node_at nodes n).before (omega arith)
            (λ j less. lists j (omega (arith, less, low))) (h.leads n low))
      ];
      homed = λ id clause at. elim (cases_eq id number) [
        | inl same ↦ rw (same, is.here, ← is_k id clause same at) home
        | inr other ↦ rw (is.lists id other) (h.homed id clause (was id clause other at))
      ];
      newest = λ id clause at. elim (cases_eq id number) [
        | inl same ↦ rw (same, is.here, there) (record { number = number; there = refl; above = omega arith })
        | inr other ↦
            let low : id < length kept = kept_inside kept id clause (was id clause other at) in
            rw (is.lists id other) (elim (cases_eq (node_at nodes id).list list) [
              | inl here ↦ rw (here, there)
                  (record { number = number; there = refl; above = omega (arith, low, last) })
              | inr apart' ↦ rw (elsewhere (node_at nodes id).list apart')
                  (h.newest id clause (was id clause other at))
            ])
      ];
      older = λ n id clause below at eq less.
          let other : id ≢ number = λ same. omega (arith, same, less, below, one_more, last) in
          let before : kept_at kept id ≡ Some clause = was id clause other at in
          elim (cases_eq n number) [
            | inl same ↦
                let home' : (node_at nodes id).list ≡ list =
                sym (is.lists id other) ∙ eq ∙ ap (λ j. (node_at new j).list) same ∙ is.here in
                rw (same, is.before) (subst (λ (l : ℕ). IsReached id (head_at heads l)) home'
                (h.newest id clause before))
            | inr other' ↦
                let low : n < length kept = omega (arith, below, one_more, other', last) in
                let eq' : (node_at nodes id).list ≡ (node_at nodes n).list =
                sym (is.lists id other) ∙ eq ∙ is.lists n other' in
                rw (is.befores n other') (h.older n id clause low before eq' less)
          ];
    }

-- the list of a clause is one of those that there are
pub home_inside : (clause : List Lit) (list lists : ℕ) → AreEnough clause lists → IsHome clause list → list < lists
home_inside clause list lists h (inr bare) = omega (arith, h.begun, bare.1)
home_inside clause list lists h (inl one) = go clause h.listed one
  where
    go : (ls : List Lit) → list_all (λ l. ltb (list_of l) lists) ls ≡ true
        → list_any (λ l. eqb (list_of l) list) ls ≡ true → list < lists
    go [] all some = absurd (false≢true some)
    go (l ∷ ls) all some =
        let parts = and_parts (ltb (list_of l) lists) (list_all (λ m. ltb (list_of m) lists) ls) all in
        elim (or_cases (eqb (list_of l) list) (list_any (λ m. eqb (list_of m) list) ls) some) [
          | inl here ↦ omega (arith, ltb-true (list_of l) lists parts.0, eqb-true (list_of l) list here)
          | inr later ↦ go ls parts.1 later
        ]

-- a walk over a list
module _ (kept : Kept) (heads : List (Option ℕ)) (nodes : List Node) (has : Lit → Bool)
    (h : AreFound kept heads nodes) (list : ℕ) where
  pub walk_start : (start : Option ℕ) → start ≡ head_at heads list → AreOlder kept nodes has list start
  walk_start start is id clause there same _ =
      rw (is, ← same) (h.newest id clause there)

  pub walk_next : (number : ℕ) → number < length kept → (node_at nodes number).list ≡ list
      → AreOlder kept nodes has list (Some number) → is_false_place has (kept_at kept number) ≡ false
      → AreOlder kept nodes has list (node_at nodes number).before
  walk_next number inside here older fails id clause there same passes =
      let reached = older id clause there same passes in
      let at : reached.number ≡ number = same_Some reached.number number (sym reached.there) in
      let other : id ≢ number = λ e. false≢true (sym fails ∙ ap (λ n. is_false_place has (kept_at kept n)) (sym e)
      ∙ ap (is_false_place has) there ∙ passes) in
      h.older number id clause inside there (same ∙ sym here) (omega (arith, reached.above, at, other))

  pub walk_end : AreOlder kept nodes has list None → HasNoneIn kept nodes has list
  walk_end older id clause there same =
      elim (cases_Bool (are_false_by has clause.literals)) [
        | inl passes ↦
            let reached = older id clause there same passes in
            absurd (none-some reached.number reached.there)
        | inr fails ↦ fails
      ]

  -- a list that is not there is empty
  pub walk_none : length heads ≤ list → HasNoneIn kept nodes has list
  walk_none outside = walk_end (λ id clause there same passes.
      walk_start None (sym (get_or_past heads list None outside)) id clause there same passes)

pub in_next : (nodes : List Node) (bound list number : ℕ) → IsIn nodes bound list (Some number)
    → IsIn nodes number (node_at nodes number).list (node_at nodes number).before
    → IsIn nodes bound list (node_at nodes number).before
in_next nodes bound list number h next =
    in_wider nodes number bound (node_at nodes number).list list (node_at nodes number).before (omega (arith, h.0)) h.1
    next

-- the literal of a clause whose list it is in
home_literal : (clause : List Lit) (list : ℕ) → list_any (λ l. eqb (list_of l) list) clause ≡ true
    → (l : Lit) × (is_among clause l ≡ true) × (list_of l ≡ list)
home_literal [] list h = absurd (false≢true h)
home_literal (l ∷ ls) list h =
    elim (or_cases (eqb (list_of l) list) (list_any (λ m. eqb (list_of m) list) ls) h) [
      | inl here ↦ (
        l,
        or_left (is_same_literal l l) (is_among ls l) (is_same_literal-self l),
        eqb-true (list_of l) list here,
      )
      | inr later ↦
          let rest = home_literal ls list later in
          (rest.0, or_right (is_same_literal l rest.0) (is_among ls rest.0) rest.1, rest.2)
    ]

false_by_same : (has : Lit → Bool) (held : List Lit) → ((l : Lit) → has l ≡ is_among held l) → (ls : List Lit)
    → are_false_by has ls ≡ is_false_clause held ls
false_by_same has held same [] = refl
false_by_same has held same (l ∷ ls) = rw (same (negation l), false_by_same has held same ls) refl

module _ (kept : Kept) (heads : List (Option ℕ)) (nodes : List Node) (has : Lit → Bool)
    (h : AreFound kept heads nodes) (held : List Lit) (same : (l : Lit) → has l ≡ is_among held l) where
  pub none_false : HasNoneIn kept nodes has 1
      → ((l : Lit) → is_among held l ≡ true → HasNoneIn kept nodes has (list_of (negation l)))
      → HasNoneFalse kept held
  none_false bare others id clause there =
      sym (false_by_same has held same clause.literals)
      ∙ elim (h.homed id clause there) [
        | inr none ↦ bare id clause there none.1
        | inl some ↦ elim (cases_Bool (are_false_by has clause.literals)) [
          | inr fails ↦ fails
          | inl passes ↦
              let l = home_literal clause.literals (node_at nodes id).list some in
              let among : is_among held (negation l.0) ≡ true =
              sym (same (negation l.0)) ∙ all_among (λ m. has (negation m)) clause.literals l.0 passes l.1 in
              others (negation l.0) among id clause there
              (sym l.2 ∙ ap list_of (sym (negation_twice l.0)))
        ]
      ]

  pub is_conflict : (id : ℕ) → is_false_place has (kept_at kept id) ≡ true → IsConflict kept held id
  is_conflict id passes = go (kept_at kept id) refl passes
    where
      go : (o : Option KeptClause) → kept_at kept id ≡ o → is_false_place has o ≡ true → IsConflict kept held id
      go None is passes' = absurd (false≢true passes')
      go (Some clause) is passes' = record {
        clause = clause;
        there = is;
        is_false = sym (false_by_same has held same clause.literals) ∙ passes';
      }

-- a place that is emptied
none_at : (kept : Kept) (number : ℕ) → kept_at (set kept number None) number ≡ None
none_at [] number = refl
none_at (x ∷ xs) zero = refl
none_at (x ∷ xs) (suc number) = none_at xs number

pub none_there : (records : List (Option Record)) (number : ℕ)
    → kept_at (kept_of (set records number None)) number ≡ None
none_there records number = rw (map-set (option_map clause_of) records number None) (none_at (kept_of records) number)

pub still_inside : (records : List (Option Record)) (number : ℕ) → number < length records
    → number < length (kept_of (set records number None))
still_inside records number inside =
    omega (
      arith,
      length-map (set records number None) (option_map clause_of),
      length-set records number None,
    )

pub found_emptied : (records : List (Option Record)) (number : ℕ) (heads : List (Option ℕ)) (nodes : List Node)
    → AreFound (kept_of records) heads nodes → AreFound (kept_of (set records number None)) heads nodes
found_emptied records number heads nodes h =
    rw (map-set (option_map clause_of) records number None)
    (found_fewer (kept_of records) (set (kept_of records) number None) heads nodes h
    (length-set (kept_of records) number None)
    (λ id clause at. (at_emptied (kept_of records) number id clause at).0))

-- a record more
pub found_more : (records : List (Option Record)) (r : Record) (heads new_heads : List (Option ℕ))
    (nodes new : List Node) (number list : ℕ) → AreFound (kept_of records) heads nodes → number ≡ length records
    → number < length nodes → IsHome r.literals.items list → list < length heads
    → IsPut heads nodes new_heads new number list → AreFound (kept_of (records ++ Some r ∷ [])) new_heads new
found_more records r heads new_heads nodes new number list h last room home inside is =
    rw (map-append (option_map clause_of) records (Some r ∷ []))
    (found_put (kept_of records) (clause_of r) heads new_heads nodes new number list h
    (last ∙ sym (length-map records (option_map clause_of))) room home inside is)
