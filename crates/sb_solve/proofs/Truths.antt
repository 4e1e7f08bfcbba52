-- What stays true of the evidence: where lines are put that follow, and where clauses that follow are kept by no lines.
use Rattle.sb_solve.proofs.Words.{◌≡◌, ℕ, zero, suc, ◌+◌, ◌≤◌, Bool, true, false, nat_lt, if◌then◌else◌, List, [], ◌∷◌, map, length, slice_get, Option, Some, None, unwrap_or, Result, Ok, Err, refl, sym, ap, subst, ◌∙◌, inl, inr, arith, ltb-false, le-ltb, length-map, slice_get_within, same_Some, Kept, KeptClause, kept_at, Regex, Memo, Spending, Store, Term, Valuation, Atom, are_known, AllKept, Asked, count_again, AreTerms, IsSound, LevelsHold, PlacesHold, StandsAt, FollowsByRule, LineStaysSound, CountedAgainStaysSound, HaveRegexesBelow, atoms_in, atoms_kept, Puts, follow_all, tracks_grow, cons-cases, not-in-nil, Asserted, Backing, Backs, asserted_at, unit_at, AreEntailed, IsSearched, IsTrue, Contains, Refusal, Line, follows, Traced, Tracks, are_known_in, tracks_kept, ◌++◌, HasWords, Lit, are_atoms, clause_holds, kept-cases, kept-stays, atoms_more, earlier_table, is_table}
use Rattle.sb_solve.proofs.Ended.{kept_grown}
use Rattle.sb_atoms.specs.Numbered.{NameEarlier}
use Rattle.sb_solve.proofs.Entailing.{entailed_more, searched_entailed, slice_there, with_entailed}
use Rattle.sb_solve.proofs.Growing.{earlier_grown}

-- Lines are put.

-- what is counted says nothing of what is known
pub backs-again : (rs : List Regex) (memo : Memo) (e : Backing) (kept : AllKept) → Backs rs memo e kept
    → Backs rs memo e (count_again kept)
backs-again rs memo e kept h = record {
  tracks = tracks_kept rs memo e.trace kept kept.clauses kept.rests 0 h.tracks;
  atoms = h.atoms;
  clauses = h.clauses;
  asserted = h.asserted;
}

-- lines that follow keep true what is kept
pub sound-behind : FollowsByRule → LineStaysSound → (asked : Asked) → AreTerms asked → (ls : List Line)
    → (kept after : AllKept) → IsSound asked kept → follow_all asked kept ls ≡ Ok after → IsSound asked after
sound-behind rule line asked terms [] kept after sound h = subst (λ (k : AllKept). IsSound asked k) (same h) sound
  where
    same : ◌≡◌ {A = Result AllKept Refusal} (Ok kept) (Ok after) → kept ≡ after
    same h = cc
sound-behind rule line asked terms (l ∷ ls) kept after sound h =
    step (λ mid. sound-behind rule line asked terms ls mid after) (follows asked kept l) refl h
  where
    never : (refusal : Refusal) → ◌≡◌ {A = Result AllKept Refusal} (Err refusal) (Ok after) → ⊥
    never refusal h = cc

    step : ((mid : AllKept) → IsSound asked mid → follow_all asked mid ls ≡ Ok after → IsSound asked after)
        → (r : Result AllKept Refusal) → follows asked kept l ≡ r
        → elim r as (λ _. Result AllKept Refusal)
        [ Ok mid ↦ follow_all asked mid ls | Err refusal ↦ Err refusal ] ≡ Ok after
        → IsSound asked after
    step rest (Ok mid) is h = rest mid (line asked kept mid l terms sound (rule asked kept mid l is)) h
    step rest (Err refusal) is h = absurd (never refusal h)

-- Lines are put, and the next check may count again.
pub true-behind : FollowsByRule → LineStaysSound → CountedAgainStaysSound → (asked : Asked) (rs more : List Regex)
    (memo new : Memo) (e f : Backing) → AreTerms asked → (t : IsTrue asked rs memo e) (after : AllKept)
    (old now : Option (List ℕ)) → Puts asked t.kept after old now → Backs more new f after → IsTrue asked more new f
true-behind rule line again asked rs more memo new e f terms t after old now puts backs = record {
  kept = count_again after;
  backs = backs-again more new f after backs;
  sound = again asked after (sound-behind rule line asked terms puts.lines t.kept after t.sound puts.follow);
  counted = refl;
}

-- The places of live assertions of levels up to one.

-- where the first of these assertions stands at this place
abbrev places_from : ℕ → ℕ → List (Option Term × ℕ) → List ℕ
places_from level place [] = []
places_from level place (a ∷ live) =
    if nat_lt level a.1 then places_from level (suc place) live else place ∷ places_from level (suc place) live

pub contains_first : {X : Type 0} (x : X) (xs : List X) → Contains (x ∷ xs) x
contains_first x xs = (0, omega arith, refl)

pub contains_later : {X : Type 0} (y : X) (xs : List X) (x : X) → Contains xs x → Contains (y ∷ xs) x
contains_later y xs x h = let less = h.1 in (suc h.0, omega (arith, less), h.2)

-- such an assertion stands so far behind the first
record StandsBehind (live : List (Option Term × ℕ)) (level first place : ℕ) : Type 0 where
  behind : ℕ
  is : place ≡ first + behind
  stands : StandsAt live level behind

stands_later : (a : Option Term × ℕ) (live : List (Option Term × ℕ)) (level first place : ℕ)
    → StandsBehind live level (suc first) place → StandsBehind (a ∷ live) level first place
stands_later a live level first place h =
    let before = h.is in
    record {
      behind = suc h.behind;
      is = omega (arith, before);
      stands = record { assertion = h.stands.assertion; there = h.stands.there; low = h.stands.low };
    }

stands_among : (level first : ℕ) (live : List (Option Term × ℕ)) (place : ℕ)
    → Contains (places_from level first live) place → StandsBehind live level first place
stands_among level first [] place h = absurd (not-in-nil place h)
stands_among level first (a ∷ live) place h =
    step (nat_lt level a.1) refl (stands_among level (suc first) live place) h
  where
    step : (b : Bool) → nat_lt level a.1 ≡ b
        → (Contains (places_from level (suc first) live) place → StandsBehind live level (suc first) place)
        → Contains (if b then places_from level (suc first) live else first ∷ places_from level (suc first) live) place
        → StandsBehind (a ∷ live) level first place
    step true above rest h = stands_later a live level first place (rest h)
    step false low rest h = elim (cons-cases first (places_from level (suc first) live) place h) [
      | inl here ↦
          record {
            behind = 0;
            is = omega (arith, here);
            stands = record { assertion = a; there = refl; low = ltb-false level a.1 low };
          }
      | inr more ↦ stands_later a live level first place (rest more)
    ]

stands_at : (live : List (Option Term × ℕ)) (level place : ℕ) → Contains (places_from level 0 live) place
    → StandsAt live level place
stands_at live level place h =
    let found = stands_among level 0 live place h in
    let so_far = found.is in
    let here : found.behind ≡ place = omega (arith, so_far) in
    subst (λ (n : ℕ). StandsAt live level n) here found.stands

-- and each of them is among the places
among_places : (level first : ℕ) (live : List (Option Term × ℕ)) (k place : ℕ) (a : Option Term × ℕ)
    → slice_get live k ≡ Some a → a.1 ≤ level → place ≡ first + k → Contains (places_from level first live) place
among_places level first [] k place a there low at = absurd (omega (arith, slice_get_within [] k a there))
among_places level first (b ∷ live) zero place a there low at =
    let same = same_Some b a there in
    let below = subst (λ (c : Option Term × ℕ). c.1 ≤ level) (sym same) low in
    let here : first ≡ place = omega (arith, at) in
    subst (λ (c : Bool). Contains
    (if c then places_from level (suc first) live else first ∷ places_from level (suc first) live) place)
    (sym (le-ltb level b.1 below))
    (subst (λ (n : ℕ). Contains (first ∷ places_from level (suc first) live) n) here
    (contains_first first (places_from level (suc first) live)))
among_places level first (b ∷ live) (suc k) place a there low at =
    step (nat_lt level b.1) (among_places level (suc first) live k place a there low (omega (arith, at)))
  where
    step : (c : Bool) → Contains (places_from level (suc first) live) place
        → Contains (if c then places_from level (suc first) live else first ∷ places_from level (suc first) live) place
    step true h = h
    step false h = contains_later first (places_from level (suc first) live) place h

-- where those at the places are true, all of them are
levels_hold : (v : Valuation) (live : List (Option Term × ℕ)) (level : ℕ)
    → PlacesHold v live (places_from level 0 live) → LevelsHold v live level
levels_hold v live level h = λ a t among is low.
    let there = slice_there live among.0 a among.1 among.2 in
    h among.0 a t (among_places level 0 live among.0 among.0 a there low (omega arith)) there is

-- Clauses are kept that follow, by no lines.

-- a clause rests on all of those up to its level
abbrev rest_of : List (Option Term × ℕ) → Option KeptClause → List ℕ
rest_of live None = []
rest_of live (Some clause) = places_from clause.level 0 live

abbrev rests_on : List (Option Term × ℕ) → Kept → List (List ℕ)
rests_on live kept = map (rest_of live) kept

rests_there : (live : List (Option Term × ℕ)) (kept : Kept) (id : ℕ) (clause : KeptClause)
    → kept_at kept id ≡ Some clause
    → unwrap_or (slice_get (rests_on live kept) id) [] ≡ places_from clause.level 0 live
rests_there live [] zero clause h = absurd (Prim.cc (h))
rests_there live [] (suc id) clause h = absurd (Prim.cc (h))
rests_there live (place ∷ kept) zero clause h = ap (rest_of live) h
rests_there live (place ∷ kept) (suc id) clause h = rests_there live kept id clause h

-- what is kept, with this table and these clauses in place of its own
abbrev keeping : Asked → AllKept → List Atom → Kept → AllKept
keeping asked kept table now =
    record kept { atoms = table; clauses = now; rests = rests_on asked.live now; counted = 0 }

tracks_keeping : (asked : Asked) (rs : List Regex) (memo : Memo) (t : Traced) (kept : AllKept) (table : List Atom)
    (now : Kept) → Tracks rs memo t kept → Tracks rs memo t (keeping asked kept table now)
tracks_keeping asked rs memo t kept table now h = record {
  numbers = h.numbers;
  regexes = h.regexes;
  expansions_long = h.expansions_long;
  dead_long = h.dead_long;
  expanded = h.expanded;
  dead = h.dead;
  targets = h.targets;
}

sound-keeping : (asked : Asked) (kept : AllKept) (table : List Atom) (now : Kept) → IsSound asked kept
    → is_table table ≡ true
    → ((id : ℕ) (clause : KeptClause) → kept_at now id ≡ Some clause → are_known table clause.literals ≡ true)
    → AreEntailed asked table now → IsSound asked (keeping asked kept table now)
sound-keeping asked kept table now sound is known entailed = record {
  table = is;
  right = sound.right;
  empty = sound.empty;
  expanded = sound.expanded;
  died = sound.died;
  resting = length-map now (rest_of asked.live);
  known = known;
  clauses = entailed;
  places = λ id clause there place among.
      stands_at asked.live clause.level place
      (subst (λ (ps : List ℕ). Contains ps place) (rests_there asked.live now id clause there) among);
  rested = λ id clause there v words sorts hold.
      entailed id clause there v words sorts
      (levels_hold v asked.live clause.level
      (subst (λ (ps : List ℕ). PlacesHold v asked.live ps) (rests_there asked.live now id clause there) hold));
}

-- Clauses follow level by level over a table that gained memberships, and what stands of regexes stays: a search put no
-- lines.
pub true-following : (asked : Asked) (proves : Bool) (x y : Store) (e f : Backing) (before after : Spending)
    (old new : Option (List ℕ)) → proves ≡ false → IsSearched proves x e before old y f after new
    → HaveRegexesBelow (length x.arena) e.atoms → NameEarlier 0 e.atoms → IsTrue asked x.arena x.graph.memo e
    → IsTrue asked y.arena y.graph.memo f
true-following asked proves x y e f before after old new off h below earlier t = record {
  kept = keeping asked t.kept (atoms_in y.arena f.atoms) f.kept;
  backs = record {
    tracks = tracks_keeping asked y.arena y.graph.memo f.trace t.kept (atoms_in y.arena f.atoms) f.kept
        (subst (λ (traced : Traced). Tracks y.arena y.graph.memo traced t.kept) (sym (h.silent off))
        (tracks_grow x.arena y.arena x.graph.memo y.graph.memo e.trace t.kept h.store.more.extends
        h.store.more.derivatives t.backs.tracks));
    atoms = refl;
    clauses = refl;
    asserted = λ place a there.
        kept_grown e.kept f.kept a.clause.0 (unit_at a) h.kept (t.backs.asserted place a
        (subst (λ (xs : List (Option Asserted)). asserted_at xs place ≡ Some a) h.asserted there));
  };
  sound = sound-keeping asked t.kept (atoms_in y.arena f.atoms) f.kept t.sound
      (earlier_table y.arena f.atoms (earlier_grown e.atoms f.atoms h.atoms earlier))
      (λ id clause there.
      are_known_in y.arena f.atoms (atoms_in y.arena f.atoms) clause.literals refl (h.known id clause there)) entailed;
  counted = refl;
}
  where
    table : t.kept.atoms ≡ atoms_in y.arena e.atoms
    table = t.backs.atoms ∙ sym (atoms_kept x.arena y.arena e.atoms h.store.more.extends below)

    at_first : AreEntailed asked (atoms_in y.arena e.atoms) e.kept
    at_first = subst (λ (kept : Kept). AreEntailed asked (atoms_in y.arena e.atoms) kept) t.backs.clauses
        (subst (λ (ts : List Atom). AreEntailed asked ts t.kept.clauses) table t.sound.clauses)

    known_first : (id : ℕ) (clause : KeptClause) → kept_at e.kept id ≡ Some clause
        → are_known (atoms_in y.arena e.atoms) clause.literals ≡ true
    known_first id clause there =
        subst (λ (ts : List Atom). are_known ts clause.literals ≡ true) table
        (t.sound.known id clause (ap (λ (k : Kept). kept_at k id) t.backs.clauses ∙ there))

    over_more : AreEntailed asked (atoms_in y.arena f.atoms) e.kept
    over_more =
        let more = h.atoms.extends.more in
        subst (λ (ts : List Atom). AreEntailed asked ts e.kept)
        (sym (ap (atoms_in y.arena) h.atoms.extends.is ∙ atoms_more y.arena e.atoms more))
        (entailed_more asked (atoms_in y.arena e.atoms) (atoms_in y.arena more) e.kept known_first at_first)

    entailed : AreEntailed asked (atoms_in y.arena f.atoms) f.kept
    entailed = searched_entailed asked y.arena f.atoms e.kept f.kept over_more h.follows

-- A clause is kept that follows from nothing, by no line.
pub true-kept : (asked : Asked) (rs : List Regex) (memo : Memo) (e f : Backing) (clause : List Lit)
    → f ≡ record e { kept = e.kept ++ Some (record { literals = clause; level = 0 }) ∷ [] }
    → are_atoms e.atoms clause ≡ true
    → ((v : Valuation) → HasWords v → clause_holds v (atoms_in rs e.atoms) clause ≡ true)
    → IsTrue asked rs memo e → IsTrue asked rs memo f
true-kept asked rs memo e f clause is known holds t =
    subst (λ (g : Backing). IsTrue asked rs memo g) (sym is) (record {
      kept = keeping asked t.kept t.kept.atoms (e.kept ++ Some (record { literals = clause; level = 0 }) ∷ []);
      backs = record {
        tracks = tracks_keeping asked rs memo e.trace t.kept t.kept.atoms
            (e.kept ++ Some (record { literals = clause; level = 0 }) ∷ []) t.backs.tracks;
        atoms = t.backs.atoms;
        clauses = refl;
        asserted = λ place a there.
            kept-stays e.kept (Some (record { literals = clause; level = 0 }) ∷ []) a.clause.0 (unit_at a)
            (t.backs.asserted place a there);
      };
      sound = sound-keeping asked t.kept t.kept.atoms (e.kept ++ Some (record { literals = clause; level = 0 }) ∷ [])
          t.sound t.sound.table known_there entailed;
      counted = refl;
    })
  where
    known_there : (id : ℕ) (c : KeptClause)
        → kept_at (e.kept ++ Some (record { literals = clause; level = 0 }) ∷ []) id ≡ Some c
        → are_known t.kept.atoms c.literals ≡ true
    known_there id c there =
        elim (kept-cases e.kept (Some (record { literals = clause; level = 0 })) id c there) [
          | inl before ↦ t.sound.known id c (ap (λ (k : Kept). kept_at k id) t.backs.clauses ∙ before)
          | inr last ↦
              subst (λ (k : KeptClause). are_known t.kept.atoms k.literals ≡ true)
              (same_Some (record { literals = clause; level = 0 }) c last.1)
              (are_known_in rs e.atoms t.kept.atoms clause t.backs.atoms known)
        ]

    entailed : AreEntailed asked t.kept.atoms (e.kept ++ Some (record { literals = clause; level = 0 }) ∷ [])
    entailed =
        with_entailed asked t.kept.atoms e.kept clause 0
        (subst (λ (k : Kept). AreEntailed asked t.kept.atoms k) t.backs.clauses t.sound.clauses)
        (λ v words sorts levels.
        ap (λ (ts : List Atom). clause_holds v ts clause) t.backs.atoms ∙ holds v words)
