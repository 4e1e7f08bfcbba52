-- What a search leaves, and what comes of it.
use Rattle.sb_solve.proofs.Words.{◌≡◌, ◌≤◌, ℕ, Bool, true, List, length, take, Option, Some, None, refl, sym, ap, subst, ◌∙◌, take-append_seam, Asserted, Global, Vec, Lit, Spending, Kept, KeptClause, kept_at, has_room_for, AtomOver, Stacked, Store, AreDistinct, Backing, unit_at, Stand, each-reserved, kept-stays, room-for-each, stand-traced, FollowsByLevel, GrowsTo, HaveAtoms, IsValid, IsTaught, AreWanted, AreTaken, Answers, IsDone, IsSearched, Runs, backing_in, Solved, State, Traced, EmptyClause, written, Written, Strings, Tables, Choices, [], HaveRegexesBelow, Sort, are_declared, is_atom, list_all}
use Rattle.sb_theory.specs.Strings as theory
use Rattle.sb_solve.proofs.Growing.{stand_grown}

-- Kept clauses.

pub kept_grown : (old new : Kept) (id : ℕ) (clause : KeptClause) → GrowsTo old new → kept_at old id ≡ Some clause
    → kept_at new id ≡ Some clause
kept_grown old new id clause g h =
    subst (λ (kept : Kept). kept_at kept id ≡ Some clause) (sym g.1) (kept-stays old g.0 id clause h)

-- The search.

pub declared_behind : (sorts : List Sort) (x y : Strings) (before after : Written) → theory.Writes x y before after
    → are_declared sorts x.atoms ≡ true → are_declared sorts y.atoms ≡ true
declared_behind sorts x y before after writes h = writes.table.declared sorts h

searched_over : (b : Tables) (y : Strings) (z : State) (before after : Spending) (old new : Option (List ℕ))
    (refuted : Option EmptyClause) → has_room_for (length b.strings.atoms) b.engine.kept ≡ true
    → HaveRegexesBelow (length b.strings.store.arena) b.strings.atoms → theory.Stands y z.trail.literals
    → GrowsTo b.engine.kept z.kept → FollowsByLevel (IsValid y.store.arena y.atoms) b.engine.kept z.kept
    → theory.Writes b.strings y (written b.engine.kept before old) (written z.kept after new)
    → after.limit ≡ before.limit → before.spent ≤ after.spent
    → IsSearched b.strings.proves b.strings.store (backing_in b) before old y.store
    (record (backing_in b) { trace = y.trace; atoms = y.atoms; kept = z.kept; refuted = refuted }) after new
searched_over b y z before after old new refuted room below stands grows follows writes limit spends = record {
  store = writes.store;
  regexes = stands.holds.regexes;
  atoms = writes.table;
  asserted = refl;
  kept = grows;
  known = writes.known have;
  follows = follows;
  silent = writes.silent;
  limit = limit;
  spends = spends;
  puts = λ on asked kept declared e counted.
      let start : theory.Backs asked b.strings kept (written b.engine.kept before old) =
      record {
        tracks = e.tracks;
        atoms = e.atoms;
        declared = declared;
        clauses = e.clauses;
        known = have;
        counted = counted;
      } in
      let lines = writes.lines on below asked kept start in
      record {
        after = lines.0;
        puts = lines.1;
        backs = record {
          tracks = lines.2.tracks;
          atoms = lines.2.atoms;
          clauses = lines.2.clauses;
          asserted = λ place a there.
              kept_grown b.engine.kept z.kept a.clause.0 (unit_at a) grows (e.asserted place a there);
        };
        counts = lines.2.counted;
      };
}
  where
    have : HaveAtoms b.strings.atoms b.engine.kept
    have = each-reserved (length b.strings.atoms) b.engine.kept room

-- the theory's words may be taken then
pub runs_to : (s : Stacked) (assumed : List Lit) (b c : Tables) (y : Strings) (z : State) (choices : Choices)
    (words : Vec (Option (List ℕ)) Global) (before after : Spending) (old new : Option (List ℕ)) (answer : Solved)
    → c ≡ record b { strings = record y { words = words }; engine = z; choices = choices } → y.wanted ≡ b.strings.wanted
    → has_room_for (length b.strings.atoms) b.engine.kept ≡ true → theory.Stands b.strings []
    → theory.Stands y z.trail.literals → GrowsTo b.engine.kept z.kept
    → FollowsByLevel (IsTaught y.store.arena y.atoms) b.engine.kept z.kept
    → theory.Writes b.strings y (written b.engine.kept before old) (written z.kept after new)
    → after.limit ≡ before.limit → before.spent ≤ after.spent
    → Answers s assumed y.store.arena y.atoms z.kept y.wanted after answer
    → Runs s assumed b before old c after new answer
runs_to s assumed b c y z choices words before after old new answer is same room start stands grows follows writes limit
    spends says =
    subst (λ (t : Tables). Runs s assumed b before old t after new answer) (sym is) (record {
      searched = λ refuted.
          searched_over b y z before after old new refuted room start.holds.regexes stands grows
          (λ level values obeys. follows level values (λ clause taught. obeys clause taught.1)) writes limit spends;
      answers = subst (λ (ns : List ℕ). Answers s assumed y.store.arena y.atoms z.kept ns after answer) same says;
      refuted_stays = refl;
      gates_stay = refl;
      first_stays = refl;
    })

same_backing : (t : Traced) (ts : List (AtomOver ℕ)) (ks js : Kept) (xs ys : List (Option Asserted))
    (q r : Option EmptyClause) (n m : ℕ) → ks ≡ js → xs ≡ ys → q ≡ r → n ≡ m
    → ◌≡◌ {A = Backing}
    (record { trace = t; atoms = ts; kept = ks; asserted = xs; refuted = q; gates = n })
    (record { trace = t; atoms = ts; kept = js; asserted = ys; refuted = r; gates = m })
same_backing t ts ks js xs ys q r n m kept asserted refuted gates = cc

-- What comes of it, over tables that were taken.

module _ (s : Stacked) (assumed : List Lit) (x : Store) (e : Backing) (wanted : List ℕ) (proves : Bool) (b c : Tables)
    (before after : Spending) (old new : Option (List ℕ)) (solution : Solved) (taken : AreTaken x e wanted proves b)
    (runs : Runs s assumed b before old c after new solution) where
  searched : (refuted : Option EmptyClause) → IsSearched proves x e before old c.strings.store
      (record (backing_in c) { refuted = refuted }) after new
  searched refuted =
      let f = record (backing_in c) { refuted = refuted } in
      subst (λ (on : Bool). IsSearched on x e before old c.strings.store f after new) taken.proves
      (subst (λ (y : Store). IsSearched b.strings.proves y e before old c.strings.store f after new) taken.store
      (subst (λ (d : Backing). IsSearched b.strings.proves b.strings.store d before old c.strings.store f after new)
      taken.backing (runs.searched refuted)))

  pub room_left : has_room_for (length c.strings.atoms) c.engine.kept ≡ true
  room_left = room-for-each (length c.strings.atoms) c.engine.kept (searched None).known

  pub stand_left : Stand (record (backing_in c) { kept = take c.before c.engine.kept })
  stand_left =
      let after = searched None in
      let refuted = runs.refuted_stays ∙ ap (λ (d : Backing). d.refuted) taken.backing in
      let gates = runs.gates_stay ∙ ap (λ (d : Backing). d.gates) taken.backing in
      let front : take c.before c.engine.kept ≡ e.kept =
      ap (λ n. take n c.engine.kept) (runs.first_stays ∙ taken.first) ∙ ap (take (length e.kept)) after.kept.1
      ∙ take-append_seam e.kept after.kept.0 in
      subst Stand
      (sym (same_backing c.strings.trace c.strings.atoms (take c.before c.engine.kept) e.kept c.asserted.items
      e.asserted c.refuted e.refuted c.gates e.gates front after.asserted refuted gates))
      (stand_grown (record e { trace = c.strings.trace }) c.strings.atoms after.atoms
      (stand-traced e c.strings.trace taken.stand))

  pub done : (literals : List Lit) (f : Backing) → AreDistinct f.atoms → AreWanted e.atoms literals wanted
      → list_all (is_atom e.atoms) wanted ≡ true → f ≡ record (backing_in c) { refuted = f.refuted }
      → IsDone s literals assumed proves x e before old c.strings.store f after new solution
  done literals f distinct closed known is = record {
    stand = taken.stand;
    searched = subst (λ (d : Backing). IsSearched proves x e before old c.strings.store d after new) (sym is)
        (searched f.refuted);
    wanted = wanted;
    distinct = distinct;
    closed = closed;
    known = known;
    answers = subst (λ (d : Backing). Answers s assumed c.strings.store.arena d.atoms d.kept wanted after solution)
        (sym is)
        (subst (λ (ns : List ℕ).
        Answers s assumed c.strings.store.arena c.strings.atoms c.engine.kept ns after solution) taken.wanted
        runs.answers);
  }
