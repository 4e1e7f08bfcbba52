-- A number that gets its clause.
use Rattle.std.proofs.Common.{◌≡◌, ◌≢◌, ℕ, zero, suc, ◌+◌, ◌^◌, ◌<◌, ◌≤◌, true, ltb, List, [], ◌∷◌, ◌++◌, length, get_or, set, take, Option, Some, None, refl, sym, ◌∙◌, ap, inl, inr, arith}
use Rattle.std.specs.List.{list_all}
use Rattle.std.specs.Option.{unwrap_or}
use Rattle.std.proofs.lemmas.Bool.{and_from, ltb-true, lt-ltb, cases_lt, cases_eq, ne_eqb}
use Rattle.std.proofs.lemmas.Option.{none-some, same_Some, slice_get_past}
use Rattle.std.proofs.lemmas.List.{length-set, length_push}
use Rattle.std.proofs.lemmas.List.Folds.{list_all_more}
use Rattle.sb_lit.specs.declared.clause.Lit.{Lit}
use Rattle.sb_lit.specs.Kept.{Kept, KeptClause, kept_at}
use Rattle.sb_clauses.specs.WatchLists.{WatchLists, times}
use Rattle.sb_clauses.specs.Watching.{list_of, is_small, literal_of, home, IsPlaced, HasClause, watched_at, IsSide, AreWatched}
use Rattle.sb_clauses.specs.Adding.{IsRoomier, AreEnough}
use Rattle.sb_clauses.proofs.Literals.{all_weaker}
use Rattle.sb_clauses.proofs.Moving.{list_at, pushed, pushed_self, pushed_other, pushed_times}
use Rattle.sb_clauses.proofs.Walked.{home_inside}
use Rattle.sb_clauses.proofs.Codes.{watched-set_same, watched-set_other}
use Rattle.sb_clauses.proofs.Settling.{watched_back}

pub enough_more : (clause : List Lit) (i lists more : ℕ) (d : Lit) → i < length clause → AreEnough (take i clause) lists
    → lists ≤ more → list_of (get_or clause i d) < more → (get_or clause i d).atom < 2 ^ 30
    → AreEnough (take (i + 1) clause) more
enough_more clause i lists more d within h grown last small = record {
  begun = omega (arith, h.begun);
  small = list_all_more is_small clause i d within
      ∙ and_from (list_all is_small (take i clause)) (is_small (get_or clause i d)) h.small
      (lt-ltb (get_or clause i d).atom (2 ^ 30) small);
  listed =
      let wider : list_all (λ l. ltb (list_of l) more) (take i clause) ≡ true =
      all_weaker (λ l. ltb (list_of l) lists) (λ l. ltb (list_of l) more) (λ m below.
      let inside : list_of m < lists = ltb-true (list_of m) lists below in
      lt-ltb (list_of m) more (omega (arith, inside))) (take i clause) h.listed
      in
      list_all_more (λ l. ltb (list_of l) more) clause i d within
      ∙ and_from (list_all (λ l. ltb (list_of l) more) (take i clause)) (ltb (list_of (get_or clause i d)) more)
      wider (lt-ltb (list_of (get_or clause i d)) more last);
}

pub clause_below : (kept : Kept) (id : ℕ) (clause : List Lit) → HasClause kept id clause → id < length kept
clause_below kept id clause h =
    elim (cases_lt id (length kept)) [
      | inl below ↦ below
      | inr past ↦ absurd (none-some h.found (sym (ap (λ o. unwrap_or o None) (slice_get_past kept id past)) ∙ h.there))
    ]

placed_wider : (lists more : ℕ) (c : List Lit) (a b : Lit) → lists ≤ more → IsPlaced lists c a b → IsPlaced more c a b
placed_wider lists more c a b grown h = record {
  inside = h.inside;
  bare = h.bare;
  short = h.short;
  small = h.small;
  listed = all_weaker (λ l. ltb (list_of l) lists) (λ l. ltb (list_of l) more) (λ m below.
      let inside : list_of m < lists = ltb-true (list_of m) lists below in
      lt-ltb (list_of m) more (omega (arith, inside))) c h.listed;
  begun = omega (arith, h.begun);
}

pub enough_wider : (lists more : ℕ) (c : List Lit) → lists ≤ more → AreEnough c lists → AreEnough c more
enough_wider lists more c grown h = record {
  begun = omega (arith, h.begun);
  small = h.small;
  listed = all_weaker (λ l. ltb (list_of l) lists) (λ l. ltb (list_of l) more) (λ m below.
      let inside : list_of m < lists = ltb-true (list_of m) lists below in
      lt-ltb (list_of m) more (omega (arith, inside))) c h.listed;
}

-- a side with more room
module _ (kept : Kept) (own0 own1 other : List ℕ) (all0 all1 : WatchLists) (h : IsRoomier own0 all0 own1 all1) where
  own_roomier : IsSide kept own0 other all0 → IsSide kept own1 other all1
  own_roomier side =
      let same : (id : ℕ) (c : List Lit) → HasClause kept id c → watched_at own1 id ≡ watched_at own0 id =
      λ id c has. ap literal_of (h.same_places id (omega (arith, clause_below kept id c has, side.own_places))) in
      record {
        own_places = omega (arith, side.own_places, h.more_places);
        other_places = side.other_places;
        nodes = omega (arith, side.nodes, h.more_nodes);
        placed = λ id c has. rw (same id c has)
            (placed_wider (length all0.lists) (length all1.lists) c (watched_at own0 id) (watched_at other id) h.more_lists
            (side.placed id c has));
        listed = λ id c has list. rw (same id c has, h.same_lists list) (side.listed id c has list);
        fresh = λ id past. h.same_times id ∙ side.fresh id past;
      }

  other_roomier : (all : WatchLists) → IsSide kept own0 other all0 → IsSide kept other own0 all
      → IsSide kept other own1 all
  other_roomier all side back =
      let same : (id : ℕ) (c : List Lit) → HasClause kept id c → watched_at own1 id ≡ watched_at own0 id =
      λ id c has. ap literal_of (h.same_places id (omega (arith, clause_below kept id c has, side.own_places))) in
      record {
        own_places = back.own_places;
        other_places = omega (arith, back.other_places, h.more_places);
        nodes = back.nodes;
        placed = λ id c has. rw (same id c has) (back.placed id c has);
        listed = λ id c has list. rw (same id c has) (back.listed id c has list);
        fresh = back.fresh;
      }

  pub watched_roomier : (all : WatchLists) → AreWatched kept own0 all0 other all → AreWatched kept own1 all1 other all
  watched_roomier all w =
      record { at_first = own_roomier w.at_first; at_second = other_roomier all w.at_first w.at_second }

pub both_roomier : (kept : Kept) (f0 f1 s0 s1 : List ℕ) (a0 a1 b0 b1 : WatchLists) → IsRoomier f0 a0 f1 a1
    → IsRoomier s0 b0 s1 b1 → AreWatched kept f0 a0 s0 b0 → AreWatched kept f1 a1 s1 b1
both_roomier kept f0 f1 s0 s1 a0 a1 b0 b1 h k w =
    watched_back kept s1 f1 b1 a1
    (watched_roomier kept s0 s1 f1 b0 b1 k a1
    (watched_back kept f1 s0 a1 b0 (watched_roomier kept f0 f1 s0 a0 a1 h b0 w)))

pub kept_last : (kept : Kept) (o : Option KeptClause) → kept_at (kept ++ o ∷ []) (length kept) ≡ o
kept_last [] o = refl
kept_last (x ∷ xs) o = kept_last xs o

pub kept_front : (kept : Kept) (o : Option KeptClause) (id : ℕ) (found : KeptClause) → id ≢ length kept
    → kept_at (kept ++ o ∷ []) id ≡ Some found → kept_at kept id ≡ Some found
kept_front [] o zero found other h = absurd (other refl)
kept_front [] o (suc id) found other h = h
kept_front (x ∷ xs) o zero found other h = h
kept_front (x ∷ xs) o (suc id) found other h = kept_front xs o id found (λ same. other (ap suc same)) h

pub last_clause : (kept : Kept) (k : KeptClause) (id : ℕ) (c : List Lit) → id ≡ length kept
    → HasClause (kept ++ Some k ∷ []) id c → c ≡ k.literals
last_clause kept k id c here has =
    sym has.literals ∙ ap (λ (f : KeptClause). f.literals)
    (same_Some has.found k (sym has.there ∙ ap (kept_at (kept ++ Some k ∷ [])) here ∙ kept_last kept (Some k)))

pub earlier_clause : (kept : Kept) (o : Option KeptClause) (id : ℕ) (c : List Lit) → id ≢ length kept
    → HasClause (kept ++ o ∷ []) id c → HasClause kept id c
earlier_clause kept o id c apart has =
    record { found = has.found; there = kept_front kept o id has.found apart has.there; literals = has.literals }

-- one more clause
added_side : (kept : Kept) (k : KeptClause) (own other : List ℕ) (all : WatchLists) (n : ℕ) (a b : Lit)
    → IsSide kept own other all
    → n ≡ length kept → n < length own → n < length other → n < all.nodes → IsPlaced (length all.lists) k.literals a b
    → IsSide (kept ++ Some k ∷ []) (set own n (list_of a)) (set other n (list_of b))
    (record all { lists = pushed all.lists (home a b) n })
added_side kept k own other all n a b side is_n own_room other_room node_room placed =
    let to : ℕ = home a b in
    let inside : to < length all.lists = home_inside (length all.lists) k.literals a b placed in
    let one_more : length (kept ++ Some k ∷ []) ≡ length kept + 1 = length_push kept (Some k) in
    let nowhere : times n all.lists ≡ 0 = side.fresh n (omega (arith, is_n)) in
    let lists_len : length (pushed all.lists to n) ≡ length all.lists =
    length-set all.lists to (n ∷ list_at all.lists to) in
    let at_n : (id : ℕ) (c : List Lit) → id ≡ n → HasClause (kept ++ Some k ∷ []) id c → c ≡ k.literals =
    λ id c same has. last_clause kept k id c (same ∙ is_n) has in
    let before : (id : ℕ) (c : List Lit) → id ≢ n → HasClause (kept ++ Some k ∷ []) id c → HasClause kept id c =
    λ id c apart has. earlier_clause kept (Some k) id c (λ same. apart (same ∙ sym is_n)) has in
    let own_n : watched_at (set own n (list_of a)) n ≡ a = watched-set_same own n a own_room in
    let other_n : watched_at (set other n (list_of b)) n ≡ b = watched-set_same other n b other_room in
    record {
      own_places = omega (arith, one_more, length-set own n (list_of a), is_n);
      other_places = omega (arith, one_more, length-set other n (list_of b), is_n);
      nodes = omega (arith, one_more, is_n);
      placed = λ id c has. rw lists_len (elim (cases_eq id n) [
        | inl here ↦ rw (here, at_n id c here has, own_n, other_n) placed
        | inr apart ↦ rw (watched-set_other own n id a apart, watched-set_other other n id b apart)
            (side.placed id c (before id c apart has))
      ]);
      listed = λ id c has list. elim (cases_eq id n) [
        | inl here ↦ rw (here, own_n, other_n) (pushed_self all.lists to n inside nowhere list)
        | inr apart ↦ rw (watched-set_other own n id a apart, watched-set_other other n id b apart)
            (pushed_other all.lists to n inside id apart list ∙ side.listed id c (before id c apart has) list)
      ];
      fresh = λ id past.
          let apart : n ≢ id = λ e. omega (arith, one_more, is_n, e) in
          omega (
            arith,
            rw (ne_eqb n id apart) at (pushed_times all.lists to n inside id),
            side.fresh id (omega (arith, one_more)),
          );
    }

pub added_watched : (kept : Kept) (k : KeptClause) (firsts seconds : List ℕ) (first second : WatchLists) (n : ℕ) (a b : Lit)
    → AreWatched kept firsts first seconds second → n ≡ length kept → n < length firsts → n < length seconds
    → n < first.nodes → n < second.nodes
    → IsPlaced (length first.lists) k.literals a b → IsPlaced (length second.lists) k.literals b a
    → AreWatched (kept ++ Some k ∷ []) (set firsts n (list_of a))
    (record first { lists = pushed first.lists (home a b) n }) (set seconds n (list_of b))
    (record second { lists = pushed second.lists (home b a) n })
added_watched kept k firsts seconds first second n a b w is_n f s nf ns pf ps = record {
  at_first = added_side kept k firsts seconds first n a b w.at_first is_n f s nf pf;
  at_second = added_side kept k seconds firsts second n b a w.at_second is_n s f ns ps;
}
