-- One turn of a walk over the clauses that watch a literal.
use Rattle.std.proofs.Common.{◌≡◌, ◌≢◌, ℕ, ◌+◌, ◌<◌, ◌≤◌, Bool, true, false, ◌||◌, ltb, List, [], ◌∷◌, ◌++◌, length, set, drop, Option, Some, None, refl, sym, ◌∙◌, ap, subst, inl, inr, arith}
use Rattle.std.specs.List.{slice_get}
use Rattle.std.proofs.lemmas.Bool.{cases_eq, cases_lt, cases_Bool, eq-eqb, ne_eqb, false≢true, or_left, false_from_ne_true, ltb-true}
use Rattle.std.proofs.lemmas.Option.{same_Some, none-some}
use Rattle.std.proofs.lemmas.List.{length-set, get_or-set_other, map-append}
use Rattle.std.proofs.lemmas.List.Folds.{list_any-append}
use Rattle.sb_lit.specs.declared.clause.Lit.{Lit}
use Rattle.sb_lit.specs.Clauses.{negation, is_same_literal, is_among, is_true_under, is_false_under, is_false_clause}
use Rattle.sb_lit.specs.Kept.{Kept, KeptClause, kept_at}
use Rattle.sb_trail.specs.declared.assigned.Assigned.{Assigned}
use Rattle.sb_trail.specs.Assignments.{Assignments, held, current_level, IsConsistent}
use Rattle.sb_clauses.specs.WatchLists.{times_in, times}
use Rattle.sb_clauses.specs.Propagation.{GrowsBy, IsForced}
use Rattle.sb_clauses.specs.Looking.{IsLeft, IsHeld}
use Rattle.sb_clauses.specs.Watching.{list_of, literal_of, is_short, home, stands, IsPlaced, HasClause, watched_at}
use Rattle.sb_clauses.specs.Ways.{IsPassed, IsOpenTo}
use Rattle.sb_clauses.specs.Walking.{Walk, IsWalking, IsTurn}
use Rattle.sb_clauses.specs.Settling.{Grown}
use Rattle.sb_clauses.specs.declared.walk.Turn.TheVariants.{Goes, Ends, Stops}
use Rattle.sb_lit.proofs.CallerLemmas.{is_same_literal-self, all_among}
use Rattle.sb_clauses.proofs.Growing.{GrowsBy-none, GrowsBy-push, place_of_forced}
use Rattle.sb_clauses.proofs.Literals.{some_among}
use Rattle.sb_clauses.proofs.Codes.{list_of-literal_of, watched-set_same, watched-set_other}
use Rattle.sb_clauses.proofs.Moving.{list_at, pushed, popped, part_le, stood, popped_other, popped_shorter, popped_times, pushed_other, pushed_self, pushed_off, pushed_times, ends_empty}

pub grown_by : (kept : Kept) (old now : Assignments) → GrowsBy kept old now
    → Grown (held old.literals) (held now.literals)
grown_by kept old now h l among =
    ap (λ es. is_among (held es) l) h.literals
    ∙ ap (λ ls. is_among ls l) (map-append (λ (e : Assigned). e.literal) old.literals h.added)
    ∙ list_any-append (λ m. is_same_literal m l) (held old.literals) (held h.added)
    ∙ or_left (is_among (held old.literals) l) (is_among (held h.added) l) among

pub true_of_pushed : (entries : List Assigned) (e : Assigned)
    → is_true_under (held (entries ++ e ∷ [])) e.literal ≡ true
true_of_pushed entries e =
    ap (λ ls. is_among ls e.literal) (map-append (λ (x : Assigned). x.literal) entries (e ∷ []))
    ∙ list_any-append (λ m. is_same_literal m e.literal) (held entries) (e.literal ∷ [])
    ∙ last (is_among (held entries) e.literal) (is_same_literal e.literal e.literal)
    (is_same_literal-self e.literal)
  where
    last : (a b : Bool) → b ≡ true → (a || (b || false)) ≡ true
    last true b h = refl
    last false b h = rw h refl

pub list_of-positive : (l : Lit) → 1 < list_of l
list_of-positive l = elim (cases_Bool l.positive) [
  | inl is ↦ rw is (omega arith)
  | inr is ↦ rw is (omega arith)
]

pub only_clause : (kept : Kept) (id : ℕ) (c d : List Lit) → HasClause kept id c → HasClause kept id d → d ≡ c
only_clause kept id c d h k =
    sym k.literals ∙ ap (λ (f : KeptClause). f.literals) (same_Some k.found h.found (sym k.there ∙ h.there))
    ∙ h.literals

pub stands_self : (n : ℕ) → stands n n ≡ 1
stands_self n = rw (eq-eqb n n refl) refl

pub stands_other : (n l : ℕ) → (n ≡ l → ⊥) → stands n l ≡ 0
stands_other n l other = rw (ne_eqb n l other) refl

pub stands_is : (n l : ℕ) → 1 ≤ stands n l → n ≡ l
stands_is n l h =
    elim (cases_eq n l) [
      | inl same ↦ same
      | inr other ↦ absurd (omega (arith, stands_other n l other))
    ]

pub held_more : (old now clause : List Lit) (other : Lit) → Grown old now → IsHeld old clause other
    → IsHeld now clause other
held_more old now clause other grown h = record { inside = h.inside; holds = grown other h.holds }

-- where the list is empty
pub turn_ends : (list : ℕ) (w : Walk) → IsWalking list w → None ≡ slice_get (list_at w.all.lists list) 0
    → IsTurn list w w Ends
turn_ends list w h ends = record {
  walking = h;
  advances = record { grows = GrowsBy-none w.kept w.trail; len = refl; moved = λ id c has. inl refl };
  out = ends_empty (list_at w.all.lists list) ends;
}

module _ (list : ℕ) (w : Walk) (h : IsWalking list w) (n : ℕ) (first : Some n ≡ slice_get (list_at w.all.lists list) 0)
  where
    abbrev pub rest : List (List ℕ)
    rest = popped w.all.lists list

    pub number_below : n < length w.kept
    number_below =
        elim (cases_lt n (length w.kept)) [
          | inl below ↦ below
          | inr past ↦ absurd (omega (
            arith,
            h.fresh n past,
            stood w.all.lists list n h.inside first,
            part_le w.all.lists n list,
          ))
        ]

    same_len : length rest ≡ length w.all.lists
    same_len = length-set w.all.lists list (drop 1 (list_at w.all.lists list))

    -- where no clause is kept at the number
    pub turn_drops : kept_at w.kept n ≡ None → IsTurn list w (record w { all = record w.all { lists = rest } }) Goes
    turn_drops none =
        let apart : (id : ℕ) (c : List Lit) → HasClause w.kept id c → id ≢ n =
        λ id c has same. none-some has.found (sym none ∙ ap (kept_at w.kept) (sym same) ∙ has.there) in
        record {
          walking = record {
            begun = h.begun;
            inside = omega (arith, h.inside, same_len);
            own_places = h.own_places;
            other_places = h.other_places;
            nodes = h.nodes;
            placed = λ id c has. rw same_len (h.placed id c has);
            elsewhere = λ id c has l a b. popped_other w.all.lists list n h.inside first id (apart id c has) l
                ∙ h.elsewhere id c has l a b;
            here = λ id c has. rw (
              popped_other w.all.lists list n h.inside first id (apart id c has) 0,
              popped_other w.all.lists list n h.inside first id (apart id c has) list,
            ) (h.here id c has);
            holds = λ id c has many.
                h.holds id c has (rw (popped_other w.all.lists list n h.inside first id (apart id c has) 0) at many);
            fresh = λ id past. omega (arith, popped_times w.all.lists list n h.inside first id, h.fresh id past);
            are_false = h.are_false;
            room = h.room;
          };
          advances = record { grows = GrowsBy-none w.kept w.trail; len = refl; moved = λ id c has. inl refl };
          out = popped_shorter w.all.lists list n h.inside first;
        }

    -- where no clause is kept at the number, it may come to any other list
    pub turn_idles : times n rest ≡ 0 → kept_at w.kept n ≡ None → (own : List ℕ) → length own ≡ length w.own
        → ((id : ℕ) → id ≢ n → watched_at own id ≡ watched_at w.own id) → (to : ℕ) → to < length w.all.lists
        → list ≢ to → IsTurn list w (record w { own = own; all = record w.all { lists = pushed rest to n } }) Goes
    turn_idles nowhere none own len same to inside off =
        let to_rest : to < length rest = omega (arith, same_len, inside) in
        let whole_len : length (pushed rest to n) ≡ length w.all.lists = length-set rest to (n ∷ list_at rest to)
        ∙ same_len in
        let apart : (id : ℕ) (c : List Lit) → HasClause w.kept id c → id ≢ n =
        λ id c has is. none-some has.found (sym none ∙ ap (kept_at w.kept) (sym is) ∙ has.there) in
        let other : (id : ℕ) → id ≢ n → (l : ℕ)
        → times_in id (list_at (pushed rest to n) l) ≡ times_in id (list_at w.all.lists l) = λ id a l.
        pushed_other rest to n to_rest id a l ∙ popped_other w.all.lists list n h.inside first id a l in
        record {
          walking = record {
            begun = h.begun;
            inside = omega (arith, h.inside, whole_len);
            own_places = omega (arith, h.own_places, len);
            other_places = h.other_places;
            nodes = h.nodes;
            placed = λ id d k. rw (whole_len, same id (apart id d k)) (h.placed id d k);
            elsewhere = λ id d k l a b.
                rw (same id (apart id d k)) (other id (apart id d k) l ∙ h.elsewhere id d k l a b);
            here = λ id d k. rw (
              same id (apart id d k),
              other id (apart id d k) 0,
              other id (apart id d k) list,
            ) (h.here id d k);
            holds = λ id d k many. h.holds id d k (rw (other id (apart id d k) 0) at many);
            fresh = λ id past.
                let past_n : n ≢ id = λ e. omega (arith, number_below, e) in
                omega (
                  arith,
                  pushed_times rest to n to_rest id,
                  popped_times w.all.lists list n h.inside first id,
                  h.fresh id past,
                  rw (ne_eqb n id past_n) at (pushed_times rest to n to_rest id),
                  rw (ne_eqb n id past_n) at (popped_times w.all.lists list n h.inside first id),
                );
            are_false = h.are_false;
            room = h.room;
          };
          advances = record {
            grows = GrowsBy-none w.kept w.trail;
            len = len;
            moved = λ id d k. inl (same id (apart id d k));
          };
          out = rw (pushed_off rest to n to_rest list off) (popped_shorter w.all.lists list n h.inside first);
        }

    module _ (nowhere : times n rest ≡ 0) (c : List Lit) (has : HasClause w.kept n c) where
      pub home_is : home (watched_at w.own n) (watched_at w.other n) ≡ list
      home_is =
          stands_is (home (watched_at w.own n) (watched_at w.other n)) list
          (omega (arith, h.here n c has, stood w.all.lists list n h.inside first))

      -- a push on some list
      pub turn_pushes : (own : List ℕ) (trail : Assignments) (to : ℕ) → to < length w.all.lists
          → length own ≡ length w.own → ((id : ℕ) → id ≢ n → watched_at own id ≡ watched_at w.own id)
          → IsPlaced (length w.all.lists) c (watched_at own n) (watched_at w.other n) → trail.reserved ≡ w.trail.reserved
          → Grown (held w.trail.literals) (held trail.literals)
          → ((l : ℕ) → l ≢ 0 → l ≢ list → stands to l ≡ stands (home (watched_at own n) (watched_at w.other n)) l)
          → stands to 0 + stands to list ≡ stands (home (watched_at own n) (watched_at w.other n)) list
          → (to ≡ 0 → IsHeld (held trail.literals) c (watched_at w.other n))
          → IsWalking list (record w { own = own; trail = trail; all = record w.all { lists = pushed rest to n } })
      turn_pushes own trail to inside len same placed reserved grown elsewhere_n here_n holds_n =
          let to_rest : to < length rest = omega (arith, same_len) in
          let whole_len : length (pushed rest to n) ≡ length w.all.lists = length-set rest to (n ∷ list_at rest to)
          ∙ same_len in
          let other : (id : ℕ) → id ≢ n → (l : ℕ)
          → times_in id (list_at (pushed rest to n) l) ≡ times_in id (list_at w.all.lists l) = λ id apart l.
          pushed_other rest to n to_rest id apart l ∙ popped_other w.all.lists list n h.inside first id apart l in
          let self : (l : ℕ) → times_in n (list_at (pushed rest to n) l) ≡ stands to l =
          pushed_self rest to n to_rest nowhere in
          record {
            begun = h.begun;
            inside = omega (arith, h.inside, whole_len);
            own_places = omega (arith, h.own_places, len);
            other_places = h.other_places;
            nodes = h.nodes;
            placed = λ id d k. rw whole_len (elim (cases_eq id n) [
              | inl at_n ↦
                  let is_c : d ≡ c = only_clause w.kept n c d has (subst (λ i. HasClause w.kept i d) at_n k) in
                  rw (at_n, is_c) placed
              | inr apart ↦ rw (same id apart) (h.placed id d k)
            ]);
            elsewhere = λ id d k l a b. elim (cases_eq id n) [
              | inl at_n ↦ rw at_n (self l ∙ elsewhere_n l a b)
              | inr apart ↦ rw (same id apart) (other id apart l ∙ h.elsewhere id d k l a b)
            ];
            here = λ id d k. elim (cases_eq id n) [
              | inl at_n ↦ rw (at_n, self 0, self list) here_n
              | inr apart ↦ rw (same id apart, other id apart 0, other id apart list) (h.here id d k)
            ];
            holds = λ id d k many. elim (cases_eq id n) [
              | inl at_n ↦
                  let is_c : d ≡ c = only_clause w.kept n c d has (subst (λ i. HasClause w.kept i d) at_n k) in
                  let there : to ≡ 0 = stands_is to 0 (rw (at_n, self 0) at many) in
                  rw (at_n, is_c) (holds_n there)
              | inr apart ↦ held_more (held w.trail.literals) (held trail.literals) d (watched_at w.other id) grown
                  (h.holds id d k (rw (other id apart 0) at many))
            ];
            fresh = λ id past.
                let apart : n ≢ id = λ e. omega (arith, number_below, e) in
                omega (
                  arith,
                  pushed_times rest to n to_rest id,
                  popped_times w.all.lists list n h.inside first id,
                  h.fresh id past,
                  rw (ne_eqb n id apart) at (pushed_times rest to n to_rest id),
                  rw (ne_eqb n id apart) at (popped_times w.all.lists list n h.inside first id),
                );
            are_false = λ l is. grown (negation l) (h.are_false l is);
            room = rw reserved h.room;
          }

      abbrev pub pushed_state : List ℕ → Assignments → ℕ → Walk
      pushed_state own trail to = record w { own = own; trail = trail; all = record w.all { lists = pushed rest to n } }

      -- a clause that stays, with a true literal at its other place
      turn_keeps : (trail : Assignments) → GrowsBy w.kept w.trail trail
          → IsHeld (held trail.literals) c (watched_at w.other n) → IsTurn list w (pushed_state w.own trail 0) Goes
      turn_keeps trail grows is_true =
          let scratch_apart : list ≢ 0 = λ e. omega (arith, h.begun, e) in
          record {
            walking = turn_pushes w.own trail 0 (omega (arith, h.inside)) refl (λ id apart. refl) (h.placed n c has)
                grows.reserved (grown_by w.kept w.trail trail grows)
                (λ l a b. rw home_is (stands_other 0 l (λ e. a (sym e)) ∙ sym (stands_other list l (λ e. b (sym e)))))
                (rw home_is (omega (arith, stands_self list, stands_other 0 list (λ e. scratch_apart (sym e)))))
                (λ _. is_true);
            advances = record { grows = grows; len = refl; moved = λ id d k. inl refl };
            out = rw (pushed_off rest 0 n (omega (arith, h.inside, same_len)) list scratch_apart)
                (popped_shorter w.all.lists list n h.inside first);
          }

      pub turn_holds : IsHeld (held w.trail.literals) c (watched_at w.other n)
          → IsTurn list w (pushed_state w.own w.trail 0) Goes
      turn_holds seen = turn_keeps w.trail (GrowsBy-none w.kept w.trail) seen

      pub turn_place : (l : Lit) → IsLeft w.trail.literals c (watched_at w.other n) l → l.atom < w.trail.reserved
      turn_place l seen =
          place_of_forced w.kept w.trail.reserved n has.found h.room has.there (held w.trail.literals) l
          (rw has.literals seen.forces)

      pub turn_forces : (l : Lit) → IsLeft w.trail.literals c (watched_at w.other n) l
          → IsTurn list w (pushed_state w.own
          (record w.trail {
            literals =
                w.trail.literals ++ record {
                  literal = l;
                  level = current_level w.trail.literals;
                  reason =
                      Some (record { 0 = n });
                } ∷ [];
          }) 0) Goes
      turn_forces l seen =
          let e : Assigned = record {
            literal = l;
            level = current_level w.trail.literals;
            reason =
                Some (record { 0 = n });
          } in
          let forced : IsForced w.kept w.trail.literals e =
          record {
            id = record { 0 = n };
            reason = refl;
            clause = has.found;
            there = has.there;
            forces =
                rw has.literals seen.forces;
            level = refl;
          } in
          turn_keeps (record w.trail { literals = w.trail.literals ++ e ∷ [] })
          (GrowsBy-push w.kept w.trail w.trail e (GrowsBy-none w.kept w.trail) forced)
          (record {
            inside = seen.inside;
            holds = ap (is_true_under (held (w.trail.literals ++ e ∷ []))) (sym seen.there)
                ∙ true_of_pushed w.trail.literals e;
          })

      pub turn_stops : is_false_clause (held w.trail.literals) c ≡ true
          → IsTurn list w (pushed_state w.own w.trail list) (Stops (record { 0 = n }))
      turn_stops seen =
          let scratch_apart : list ≢ 0 = λ e. omega (arith, h.begun, e) in
          record {
            walking = turn_pushes w.own w.trail list h.inside refl (λ id apart. refl) (h.placed n c has) refl
                (λ l among. among)
                (λ l a b. rw home_is refl)
                (rw home_is (omega (arith, stands_other list 0 scratch_apart)))
                (λ e. absurd (scratch_apart e));
            advances = record { grows = GrowsBy-none w.kept w.trail; len = refl; moved = λ id d k. inl refl };
            out = record { clause = has.found; there = has.there; is_false = rw has.literals seen };
          }

      -- another literal of the clause is watched
      module _ (l : Lit) (among : is_among c l ≡ true) (apart : is_same_literal l (watched_at w.other n) ≡ false)
          (not_false : is_false_under (held w.trail.literals) l ≡ false)
          (consistent : IsConsistent (held w.trail.literals)) where
        placed : IsPlaced (length w.all.lists) c (watched_at w.own n) (watched_at w.other n)
        placed = h.placed n c has

        old_long : is_short (watched_at w.own n) (watched_at w.other n) ≡ false
        old_long = false_from_ne_true (is_short (watched_at w.own n) (watched_at w.other n)) (λ short.
            false≢true (sym apart
            ∙ all_among (λ m. is_same_literal m (watched_at w.other n)) c l (placed.short short) among))

        own_list : list_of (watched_at w.own n) ≡ list
        own_list = rw old_long at home_is

        own_false : is_false_under (held w.trail.literals) (watched_at w.own n) ≡ true
        own_false = h.are_false (watched_at w.own n) own_list

        to_inside : list_of l < length w.all.lists
        to_inside = ltb-true (list_of l) (length w.all.lists)
            (all_among (λ m. ltb (list_of m) (length w.all.lists)) c l placed.listed among)

        elsewhere : list_of l ≢ list
        elsewhere e = false≢true (sym not_false ∙ h.are_false l e)

        pub turn_to : IsTurn list w (pushed_state (set w.own n (list_of l)) w.trail (list_of l)) Goes
        turn_to =
            let inside : n < length w.own = omega (arith, number_below, h.own_places) in
            let at_n : watched_at (set w.own n (list_of l)) n ≡ l = watched-set_same w.own n l inside in
            let other : (id : ℕ) → id ≢ n → watched_at (set w.own n (list_of l)) id ≡ watched_at w.own id =
            λ id off. watched-set_other w.own n id l off in
            let new_home : home (watched_at (set w.own n (list_of l)) n) (watched_at w.other n) ≡ list_of l =
            rw at_n (rw apart refl) in
            let some : 0 < length c = some_among c l among in
            record {
              walking = turn_pushes (set w.own n (list_of l)) w.trail (list_of l) to_inside
                  (length-set w.own n (list_of l)) other
                  (record {
                    inside = λ _. (rw at_n among, (placed.inside some).1);
                    bare = λ none. absurd (omega (arith, ap length none, some));
                    short = λ short. absurd (false≢true (sym apart ∙ rw at_n at short));
                    small = placed.small;
                    listed = placed.listed;
                    begun = placed.begun;
                  })
                  refl (λ m is_true. is_true)
                  (λ m a b. rw new_home refl)
                  (rw new_home (omega (
                    arith,
                    stands_other (list_of l) 0 (λ e. omega (arith, list_of-positive l, e)),
                  )))
                  (λ e. absurd (omega (arith, list_of-positive l, e)));
              advances = record {
                grows = GrowsBy-none w.kept w.trail;
                len = length-set w.own n (list_of l);
                moved = λ id d k. elim (cases_eq id n) [
                  | inl here ↦
                      rw (here, at_n) (inr (record {
                        left = false_from_ne_true
                            (is_true_under (held w.trail.literals) (watched_at w.own n))
                            (λ is. false≢true (sym (consistent (watched_at w.own n) is) ∙ own_false));
                        came = not_false;
                        old_long = old_long;
                        now_long = apart;
                      }))
                  | inr off ↦ inl (other id off)
                ];
              };
              out = rw (pushed_off rest (list_of l) n (omega (arith, to_inside, same_len)) list
                  (λ e. elsewhere (sym e))) (popped_shorter w.all.lists list n h.inside first);
            }

    -- a clause without literals stands among the short ones
    some_here : times n rest ≡ 0 → 1 < list → (c : List Lit) → HasClause w.kept n c → 0 < length c
    some_here nowhere long [] has =
        let bare = (h.placed n [] has).bare refl in
        let short : home (watched_at w.own n) (watched_at w.other n) ≡ 1 = rw (bare.0, bare.1) refl in
        absurd (omega (arith, long, home_is nowhere [] has, short))
    some_here nowhere long (x ∷ xs) has = omega arith

    -- where the other literal is true, whether or not a clause is kept at the number
    pub turn_stays : times n rest ≡ 0 → IsPassed w.kept (held w.trail.literals) (watched_at w.other n) list n
        → IsTurn list w (record w { all = record w.all { lists = pushed rest 0 n } }) Goes
    turn_stays nowhere passed = go (kept_at w.kept n) refl
      where
        go : (o : Option KeptClause) → kept_at w.kept n ≡ o
            → IsTurn list w (record w { all = record w.all { lists = pushed rest 0 n } }) Goes
        go None is =
            turn_idles nowhere is w.own refl (λ id apart. refl) 0 (omega (arith, h.inside))
            (λ e. omega (arith, h.begun, e))
        go (Some k) is =
            let has : HasClause w.kept n k.literals = record { found = k; there = is; literals = refl } in
            turn_holds nowhere k.literals has
            (record {
              inside = elim passed.among [
                | inl long ↦ ((h.placed n k.literals has).inside (some_here nowhere long k.literals has)).1
                | inr among ↦ among k.literals has
              ];
              holds = passed.holds;
            })

    -- where the literal of a list is watched, whether or not a clause is kept at the number
    module _ (nowhere : times n rest ≡ 0) (code : ℕ)
        (open_to : IsOpenTo w.kept (held w.trail.literals) (watched_at w.other n) (length w.all.lists) n code) where
      its_list : list_of (literal_of code) ≡ code
      its_list = list_of-literal_of code open_to.begun

      -- the literal that was watched is one of the clause
      pub watched_among : (c : List Lit) → HasClause w.kept n c → is_among c (watched_at w.own n) ≡ true
      watched_among c has = ((h.placed n c has).inside (some_among c (literal_of code) (open_to.among c has))).0

      pub turn_moves : IsTurn list w
          (record w { own = set w.own n code; all = record w.all { lists = pushed rest code n } }) Goes
      turn_moves = go (kept_at w.kept n) refl
        where
          go : (o : Option KeptClause) → kept_at w.kept n ≡ o
              → IsTurn list w
              (record w { own = set w.own n code; all = record w.all { lists = pushed rest code n } }) Goes
          go None is =
              turn_idles nowhere is (set w.own n code) (length-set w.own n code)
              (λ id apart. ap literal_of (get_or-set_other w.own n id code 0 apart)) code open_to.inside
              (λ e. false≢true (sym open_to.not_false ∙ h.are_false (literal_of code) (its_list ∙ sym e)))
          go (Some k) is =
              let has : HasClause w.kept n k.literals = record { found = k; there = is; literals = refl } in
              subst (λ m. IsTurn list w
              (record w { own = set w.own n m; all = record w.all { lists = pushed rest m n } }) Goes) its_list
              (turn_to nowhere k.literals has (literal_of code) (open_to.among k.literals has) open_to.apart
              open_to.not_false open_to.consistent)
