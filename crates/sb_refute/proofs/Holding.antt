-- What is known of all that stands in a proof stays so where clauses are added and dropped.
use Rattle.sb_refute.proofs.Words.{kept_at-up_to, ◌≡◌, ℕ, ◌+◌, ◌<◌, ◌≤◌, inl, inr, Bool, true, false, nat_lt, List, [], ◌∷◌, ◌++◌, length, map, take, Option, Some, None, Result, Ok, Err, IfSome, refl, sym, ap, subst, ◌∙◌, arith, length-append, ◌≢◌, OnErr, IfOk, ltb-true, lt-ltb, nat_tests, none-some, all_push, all_weaker, Lit, Kept, KeptClause, are_reserved, is_reserved, has_room_for, AtomOver, Names, Extends, NameEarlier, earlier_none, earlier_more, named_before, Traced, Asserted, EmptyClause, Backing, HasGates, HasGatesOf, IsLowestEmpty, left_above, left_all, Becomes, placed, Stand, is_well_formed, slice_get_within}
use Rattle.sb_refute.proofs.Clauses.{front, none-at, none-kept, kept-stays, each-reserved, room-for-each, stays, none-stays}
use Rattle.sb_refute.proofs.Lowest.{lowest-more, lowest-left}
use Rattle.sb_refute.proofs.Places.{placed-cases}

none-named : (i : ℕ) (a : AtomOver ℕ) → Names [] i a → ⊥
none-named i a h = omega (arith, slice_get_within [] i a h)

pub stand-none : (t : Traced)
    → Stand (record { trace = t; atoms = []; kept = []; asserted = []; refuted = None; gates = 0 })
stand-none t = record {
  of_atoms = λ place a h. absurd (none-some a (sym (none-at place) ∙ h));
  earlier = earlier_none [];
  formed = λ i a h. absurd (none-named i a h);
  known = refl;
  lowest = λ id clause h. absurd (none-kept id clause h);
  gates_known = omega arith;
  gated = λ i low. absurd (omega (arith, low));
}

-- nothing is known of the trace
pub stand-traced : (e : Backing) (t : Traced) → Stand e → Stand (record e { trace = t })
stand-traced e t h = record {
  of_atoms = h.of_atoms;
  earlier = h.earlier;
  formed = h.formed;
  known = h.known;
  lowest = h.lowest;
  gates_known = h.gates_known;
  gated = h.gated;
}

-- the clauses of gates stay
pub gates-more : (gates : ℕ) (atoms : List (AtomOver ℕ)) (kept : Kept) (x : Option KeptClause)
    → HasGates gates atoms kept → HasGates gates atoms (kept ++ x ∷ [])
gates-more gates atoms kept x h = λ i low a clause named among.
    let it = h i low a clause named among in
    (it.0, kept-stays kept (x ∷ []) it.0 (record { literals = clause; level = 0 }) it.1)

-- With one clause more.
pub stand-clause : (e : Backing) (clause : KeptClause) → are_reserved (length e.atoms) clause.literals ≡ true
    → clause.literals ≢ [] → Stand e → Stand (record e { kept = e.kept ++ Some clause ∷ [] })
stand-clause e clause new some h = record {
  of_atoms = h.of_atoms;
  earlier = h.earlier;
  formed = h.formed;
  known = all_push (is_reserved (length e.atoms)) e.kept (Some clause) h.known new;
  lowest = lowest-more e.kept clause e.refuted some h.lowest;
  gates_known = h.gates_known;
  gated = gates-more e.gates e.atoms e.kept (Some clause) h.gated;
}

-- With the gates of one atom more.
pub stand-gates : (e : Backing) → e.gates < length e.atoms → HasGatesOf e.gates e.atoms e.kept → Stand e
    → Stand (record e { gates = e.gates + 1 })
stand-gates e lacking has h = record {
  of_atoms = h.of_atoms;
  earlier = h.earlier;
  formed = h.formed;
  known = h.known;
  lowest = h.lowest;
  gates_known = omega (arith, lacking);
  gated = λ i low. step i low (nat_lt i e.gates) refl;
}
  where
    step : (i : ℕ) → i < e.gates + 1 → (b : Bool) → nat_lt i e.gates ≡ b → HasGatesOf i e.atoms e.kept
    step i low true is = h.gated i (ltb-true i e.gates is)
    step i low false is =
        let same : e.gates ≡ i = grind (arith, nat_tests, low) in
        subst (λ n. HasGatesOf n e.atoms e.kept) same has

-- With other assertions, and more atoms.

pub stand-placed : (e : Backing) (place : ℕ) (x : Option Asserted) → IfSome x (λ a. a.literal.atom < length e.atoms)
    → Stand e → Stand (record e { asserted = placed e.asserted place x })
stand-placed e place x known h = record {
  of_atoms = λ q a there. elim (placed-cases e.asserted place q x a there) [
    | inl same ↦ subst (λ (y : Option Asserted). IfSome y (λ a. a.literal.atom < length e.atoms)) same known
    | inr before ↦ h.of_atoms q a before
  ];
  earlier = h.earlier;
  formed = h.formed;
  known = h.known;
  lowest = h.lowest;
  gates_known = h.gates_known;
  gated = h.gated;
}

pub literals-grown : (n m : ℕ) (ls : List Lit) → n ≤ m → are_reserved n ls ≡ true → are_reserved m ls ≡ true
literals-grown n m ls more =
    all_weaker (λ l. nat_lt l.atom n) (λ l. nat_lt l.atom m)
    (λ l low. lt-ltb l.atom m (omega (arith, more, ltb-true l.atom n low))) ls

pub stand-atoms : (e : Backing) (new : List (AtomOver ℕ)) → Extends e.atoms new → NameEarlier (length e.atoms) new
    → ((i : ℕ) (a : AtomOver ℕ) → length e.atoms ≤ i → Names new i a → is_well_formed a ≡ true)
    → Stand e → Stand (record e { atoms = new })
stand-atoms e new extends fresh formed h =
    let more : length e.atoms ≤ length new = omega (arith, ap length extends.is, length-append e.atoms extends.more) in
    record {
      of_atoms = λ place a there.
          let it = h.of_atoms place a there in omega (arith, it, more);
      earlier = earlier_more 0 e.atoms new extends h.earlier fresh;
      formed = λ i a named. each i a named (nat_lt i (length e.atoms)) refl;
      known = room-for-each (length new) e.kept
          (λ id c there. literals-grown (length e.atoms) (length new) c.literals more
          (each-reserved (length e.atoms) e.kept h.known id c there));
      lowest = h.lowest;
      gates_known = omega (arith, h.gates_known, more);
      gated = λ i low a clause named.
          h.gated i low a clause (before i a (omega (arith, low, h.gates_known)) named);
    }
  where
    before : (i : ℕ) (a : AtomOver ℕ) → i < length e.atoms → Names new i a → Names e.atoms i a
    before i a low named =
        named_before e.atoms extends.more i a low
        (subst (λ (atoms : List (AtomOver ℕ)). Names atoms i a) extends.is named)

    each : (i : ℕ) (a : AtomOver ℕ) → Names new i a → (b : Bool) → nat_lt i (length e.atoms) ≡ b
        → is_well_formed a ≡ true
    each i a named true is = h.formed i a (before i a (ltb-true i (length e.atoms) is) named)
    each i a named false is =
        let high : length e.atoms ≤ i = grind (arith, nat_tests) in formed i a high named

-- Where levels are left.

pub stand-left : (level count : ℕ) (e : Backing) → Stand e → Stand (left_above level count e)
stand-left level count e h = record {
  of_atoms = λ place a there. h.of_atoms place a (front e.asserted count place a there).1;
  earlier = h.earlier;
  formed = h.formed;
  known = room-for-each (length e.atoms) (left_above level count e).kept
      (λ id c there. each-reserved (length e.atoms) e.kept h.known id c (kept_at-up_to level e.kept id c there).0);
  lowest = lowest-left level e.kept e.refuted h.lowest;
  gates_known = h.gates_known;
  gated = λ i low a clause named among.
      let it = h.gated i low a clause named among in
      (it.0, stays level e.kept it.0 (record { literals = clause; level = 0 }) it.1 (omega arith));
}

pub stand-left_all : (e : Backing) → Stand e → Stand (left_all e)
stand-left_all e h = record {
  of_atoms = λ place a there. absurd (none-some a (sym (none-at place) ∙ there));
  earlier = h.earlier;
  formed = h.formed;
  known = room-for-each (length e.atoms) (map (λ clause. None) e.kept)
      (λ id c there. absurd (none-stays e.kept id c there));
  lowest = λ id c there. absurd (none-stays e.kept id c there);
  gates_known = omega arith;
  gated = λ i low. absurd (omega (arith, low));
}

-- With more clauses behind the first ones, among which is the empty one.
pub stand-found : (e : Backing) (n : ℕ) (new : Option EmptyClause) → has_room_for (length e.atoms) e.kept ≡ true
    → IsLowestEmpty e.kept new → Stand (record e { kept = take n e.kept }) → Stand (record e { refuted = new })
stand-found e n new known lowest h = record {
  of_atoms = h.of_atoms;
  earlier = h.earlier;
  formed = h.formed;
  known = known;
  lowest = lowest;
  gates_known = h.gates_known;
  gated = λ i low a clause named among.
      let it = h.gated i low a clause named among in
      (it.0, (front e.kept n it.0 (record { literals = clause; level = 0 }) it.1).1);
}

-- With what a call that may fail made of it.

pub becomes-by : {T E X : Type 0} (result : Result T E) (old new that : X) → IfOk result (λ _. new ≡ that)
    → OnErr result (new ≡ old) → Becomes result old new that
becomes-by (Ok x) old new that ok err = ok
becomes-by (Err e) old new that ok err = err

pub becomes-is : {T E X : Type 0} (P : X → Type 0) (result : Result T E) (old new that : X)
    → Becomes result old new that → P old → P that → P new
becomes-is P (Ok x) old new that is before after = subst P (sym is) after
becomes-is P (Err e) old new that is before after = subst P (sym is) before

pub becomes-under : {T E X Y : Type 0} (f : X → Y) (result : Result T E) (old new that : X)
    → Becomes result old new that → Becomes result (f old) (f new) (f that)
becomes-under f (Ok x) old new that is = ap f is
becomes-under f (Err e) old new that is = ap f is
