-- The line that says that regexes are dead follows, and what is tracked behind it.
use Rattle.std.proofs.Common.{◌≡◌, ℕ, suc, ◌^◌, ◌<◌, ◌≤◌, nat_eq, Bool, true, false, cond, not, ◌||◌, ◌==◌, if◌then◌else◌, List, [], ◌∷◌, length, get_or, map, Option, Some, None, is_some, option_map, Result, Ok, Err, refl, sym, ap, ap₂, subst, ◌∙◌, arith}
use Rattle.std.specs.List.{list_all, list_any, IsDistinct}
use Rattle.std.proofs.lemmas.Bool.{and_parts, and_from, lt-ltb, not-true, false≢true, true≢false}
use Rattle.std.proofs.lemmas.Bool.Decides.{nat_tests}
use Rattle.std.proofs.lemmas.List.{length-set}
use Rattle.std.proofs.lemmas.List.Elements.{All-from_recursion}
use Rattle.std.proofs.lemmas.List.Folds.{list_any_none}
use Rattle.std.proofs.lemmas.Map.Keys.{IsDistinct-head, IsDistinct-tail}
use Rattle.std.proofs.lemmas.Option.{slice_get-map, unwrap_or-slice_get}
use Rattle.sb_script.specs.Steps.{line}
use Rattle.sb_lang.specs.Regex.{Regex}
use Rattle.sb_regex.specs.Numbered.{regex_at, regexes_at}
use Rattle.sb_deriv.specs.Faithful.{Memo, entry_of}
use Rattle.sb_deriv.specs.Pieces.{targets_of}
use Rattle.sb_graph.specs.Findings.{is_marked, AreBarren}
use Rattle.sb_proof.specs.Tapes.{with_bytes}
use Rattle.sb_rulebook.specs.Lines.{dead_line, text_of}
use Rattle.sb_rulebook.specs.LineLaws.{is_small, are_small}
use Rattle.sb_rulebook.specs.Refusals.{Refusal, unknown_id, repeated, holds_empty_word, not_closed}
use Rattle.sb_rulebook.specs.Parts.{together}
use Rattle.sb_rulebook.specs.Kept.{AllKept, Asked, is_among_numbers, is_dead, targets_in, marked, with_dead}
use Rattle.sb_rulebook.specs.RegexRules.{has_repeated, is_settled, is_closed, first_alive, died, member_at, follows_dead}
use Rattle.sb_rulebook.specs.Follows.{follows}
use Rattle.sb_trace.specs.Tracking.{Traced, number_in, Tracks, TracesUncounted, is_dead_in}
use Rattle.sb_trace.specs.Reaching.{is_member}
use Rattle.sb_trace.specs.Closing.{is_unburied, is_settled_in, IsClosedIn, AreClosedUpTo}
use Rattle.sb_trace.proofs.Positions.{number-there, number-below, nat_same}
use Rattle.sb_trace.proofs.Numbering.{number_of_at, one_number, eq_itself}
use Rattle.sb_trace.proofs.Branches.{together-cons}
use Rattle.sb_trace.proofs.ExpansionLines.{mark_set}
use Rattle.sb_trace.proofs.Puts.{puts_one}

-- The members, with their regexes.

abbrev pub members_of : List Regex → List ℕ → List ℕ → List (ℕ × Regex)
members_of rs [] ids = []
members_of rs (m ∷ ms) [] = []
members_of rs (m ∷ ms) (id ∷ ids) = (id, regex_at rs m) ∷ members_of rs ms ids

-- the numbers of members
abbrev pub AreNumbers : List ℕ → List ℕ → List ℕ → Type 0
AreNumbers order ms ids = map (number_in order) ms ≡ map Some ids

first_number : (order : List ℕ) (m : ℕ) (ms : List ℕ) (id : ℕ) (ids : List ℕ) → AreNumbers order (m ∷ ms) (id ∷ ids)
    → number_in order m ≡ Some id
first_number order m ms id ids h = Prim.cc (h)

other_numbers : (order : List ℕ) (m : ℕ) (ms : List ℕ) (id : ℕ) (ids : List ℕ) → AreNumbers order (m ∷ ms) (id ∷ ids)
    → AreNumbers order ms ids
other_numbers order m ms id ids h = Prim.cc (h)

member_there : (rs : List Regex) (order : List ℕ) (m id : ℕ) → number_in order m ≡ Some id
    → member_at (regexes_at rs order) id ≡ Some (id, regex_at rs m)
member_there rs order m id h =
    ap (option_map (λ (r : Regex). (id, r)))
    (slice_get-map (regex_at rs) order id ∙ ap (option_map (regex_at rs)) (number-there order m id h))

members_there : (rs : List Regex) (order ms ids : List ℕ) → AreNumbers order ms ids
    → together (map (member_at (regexes_at rs order)) ids) ≡ Some (members_of rs ms ids)
members_there rs order [] [] h = refl
members_there rs order [] (id ∷ ids) h = absurd (Prim.cc (h))
members_there rs order (m ∷ ms) [] h = refl
members_there rs order (m ∷ ms) (id ∷ ids) h =
    together-cons (member_at (regexes_at rs order) id) (map (member_at (regexes_at rs order)) ids)
    (id, regex_at rs m) (members_of rs ms ids)
    (member_there rs order m id (first_number order m ms id ids h))
    (members_there rs order ms ids (other_numbers order m ms id ids h))

-- The line follows.

follows_by : (kept : AllKept) (ids : List ℕ) (ms : List (ℕ × Regex))
    → together (map (member_at kept.regexes) ids) ≡ Some ms → has_repeated kept ids ≡ false
    → first_alive kept ids ms ≡ None → follows_dead kept ids ≡ Ok (with_dead ids kept)
follows_by kept ids ms there once dead =
    ap (λ o. elim o as (λ _. Result AllKept Refusal) [ None ↦ Err unknown_id | Some ms ↦ died kept ids ms ]) there
    ∙ ap (λ b. if b then Err repeated else elim (first_alive kept ids ms) as (λ _. Result AllKept Refusal)
    [ Some refusal ↦ Err refusal | None ↦ Ok (with_dead ids kept) ]) once
    ∙ ap (λ o. elim o as (λ _. Result AllKept Refusal)
    [ Some refusal ↦ Err refusal | None ↦ Ok (with_dead ids kept) ]) dead

-- A number is among others where its regex is.

equal_itself : (n : ℕ) → (n == n) ≡ true
equal_itself n = grind (arith, nat_tests)

equal_same : (m n : ℕ) → (m == n) ≡ true → m ≡ n
equal_same m n h = grind (arith, nat_tests, h)

one_test : (a b c d : ℕ) → (a ≡ b → c ≡ d) → (c ≡ d → a ≡ b) → (b == a) ≡ nat_eq c d
one_test a b c d to from = step (b == a) refl (nat_eq c d) refl
  where
    step : (s : Bool) → (b == a) ≡ s → (r : Bool) → nat_eq c d ≡ r → s ≡ r
    step true g true h = refl
    step false g false h = refl
    step true g false h =
        let e : c ≡ d = to (sym (equal_same b a g)) in
        absurd (true≢false (sym (subst (λ n. nat_eq c n ≡ true) e (eq_itself c)) ∙ h))
    step false g true h =
        let e : a ≡ b = from (nat_same c d h) in
        absurd (true≢false (sym (subst (λ n. (b == n) ≡ true) (sym e) (equal_itself b)) ∙ g))

same_number : (order : List ℕ) (m n i k : ℕ) → number_in order m ≡ Some i → number_in order n ≡ Some k → m ≡ n → i ≡ k
same_number order m n i k g h e =
    let both : Some i ≡ Some k = sym g ∙ ap (number_in order) e ∙ h in Prim.cc (both)

among : (order ms ids : List ℕ) (m id : ℕ) → AreNumbers order ms ids → number_in order m ≡ Some id
    → is_among_numbers ids id ≡ is_member ms m
among order [] [] m id h here = refl
among order [] (k ∷ ids) m id h here = absurd (Prim.cc (h))
among order (n ∷ ms) [] m id h here = absurd (Prim.cc (h))
among order (n ∷ ms) (k ∷ ids) m id h here =
    let first = first_number order n ms k ids h in
    ap₂ (λ a b. a || b)
    (one_test id k m n (λ e. one_number order m n k (here ∙ ap Some e) first) (same_number order m n id k here first))
    (among order ms ids m id (other_numbers order n ms k ids h) here)

-- None is repeated.

or_none : (a b c : Bool) → a ≡ false → b ≡ false → c ≡ false → (a || (b || c)) ≡ false
or_none a b c e f g = ap₂ (λ x y. x || y) e (ap₂ (λ x y. x || y) f g)

dead_at : (t : Traced) (m id : ℕ) → number_in t.order m ≡ Some id → is_dead_in t m ≡ is_marked t.dead id
dead_at t m id here =
    ap (λ o. elim o as (λ _. Bool) [ None ↦ false | Some number ↦ is_marked t.dead number ]) here

unburied_alive : (marks : List Bool) (t : Traced) (m : ℕ) → is_unburied marks t m ≡ true → is_dead_in t m ≡ false
unburied_alive marks t m h = not-true (is_dead_in t m) (and_parts (is_marked marks m) (not (is_dead_in t m)) h).1

none_repeated : (rs : List Regex) (memo : Memo) (t : Traced) (kept : AllKept) (marks : List Bool) (ms ids : List ℕ)
    → Tracks rs memo t kept → IsDistinct nat_eq ms → list_all (is_unburied marks t) ms ≡ true
    → AreNumbers t.order ms ids → has_repeated kept ids ≡ false
none_repeated rs memo t kept marks [] [] tracks once all h = refl
none_repeated rs memo t kept marks [] (id ∷ ids) tracks once all h = absurd (Prim.cc (h))
none_repeated rs memo t kept marks (m ∷ ms) [] tracks once all h = refl
none_repeated rs memo t kept marks (m ∷ ms) (id ∷ ids) tracks once all h =
    let first = first_number t.order m ms id ids h in
    let others = other_numbers t.order m ms id ids h in
    let parts = and_parts (is_unburied marks t m) (list_all (is_unburied marks t) ms) all in
    let apart = list_any_none (nat_eq m) ms
    (All-from_recursion (λ n. nat_eq m n ≡ false) ms (IsDistinct-head nat_eq m ms once)) in
    or_none (is_among_numbers ids id) (is_dead kept id) (has_repeated kept ids)
    (among t.order ms ids m id others first ∙ apart)
    (tracks.dead id ∙ sym (dead_at t m id first) ∙ unburied_alive marks t m parts.0)
    (none_repeated rs memo t kept marks ms ids tracks (IsDistinct-tail nat_eq m ms once) parts.1 others)

-- Each is closed.

settled_alike : (rs : List Regex) (memo : Memo) (t : Traced) (kept : AllKept) (members ids ns ks : List ℕ)
    → Tracks rs memo t kept → AreNumbers t.order members ids → AreNumbers t.order ns ks
    → list_all (is_settled_in t members) ns ≡ true → list_all (is_settled kept ids) ks ≡ true
settled_alike rs memo t kept members ids ns [] tracks h g all = refl
settled_alike rs memo t kept members ids [] (k ∷ ks) tracks h g all = absurd (Prim.cc (g))
settled_alike rs memo t kept members ids (n ∷ ns) (k ∷ ks) tracks h g all =
    let first = first_number t.order n ns k ks g in
    let others = other_numbers t.order n ns k ks g in
    let parts = and_parts (is_settled_in t members n) (list_all (is_settled_in t members) ns) all in
    let same : is_settled kept ids k ≡ is_settled_in t members n =
    ap₂ (λ a b. a || b) (among t.order members ids n k h first) (tracks.dead k ∙ sym (dead_at t n k first)) in
    and_from (is_settled kept ids k) (list_all (is_settled kept ids) ks) (same ∙ parts.0)
    (settled_alike rs memo t kept members ids ns ks tracks h others parts.1)

closed_by : (kept : AllKept) (ids : List ℕ) (id : ℕ) (targets : List ℕ) → targets_in kept.expansions id ≡ Some targets
    → list_all (is_settled kept ids) targets ≡ true → is_closed kept ids id ≡ true
closed_by kept ids id targets there all =
    ap (λ o. elim o as (λ _. Bool) [ None ↦ false | Some targets ↦ list_all (is_settled kept ids) targets ]) there ∙ all

pub record HasTargets (kept : AllKept) (id : ℕ) : Type 0 where
  pub targets : List ℕ
  pub there : targets_in kept.expansions id ≡ Some targets

has_targets : (kept : AllKept) (id : ℕ) → is_some (targets_in kept.expansions id) ≡ true → HasTargets kept id
has_targets kept id h = step (targets_in kept.expansions id) refl h
  where
    step : (o : Option (List ℕ)) → targets_in kept.expansions id ≡ o → is_some o ≡ true → HasTargets kept id
    step None is some = absurd (false≢true some)
    step (Some targets) is some = record { targets = targets; there = is }

member_closed : (rs : List Regex) (memo : Memo) (t : Traced) (kept : AllKept) (members ids : List ℕ) (m id : ℕ)
    → Tracks rs memo t kept → AreNumbers t.order members ids → number_in t.order m ≡ Some id
    → IsClosedIn memo t members m → is_closed kept ids id ≡ true
member_closed rs memo t kept members ids m id tracks h here closed =
    let e = closed.expanded in
    let both : Some e.0 ≡ Some id = sym e.1 ∙ here in
    let same : e.0 ≡ id = Prim.cc (both) in
    let there = has_targets kept id (tracks.expanded id ∙ ap (is_marked t.expanded) (sym same) ∙ e.2) in
    let to = tracks.targets id there.targets there.there in
    let pieces_twice : Some to.pieces ≡ Some closed.pieces =
    sym to.derivative ∙ ap (entry_of memo) (number_of_at t.order m id here) ∙ closed.derivative in
    let pieces_same : to.pieces ≡ closed.pieces = Prim.cc (pieces_twice) in
    closed_by kept ids id there.targets there.there
    (settled_alike rs memo t kept members ids (targets_of to.pieces) there.targets tracks h to.are
    (ap (λ (ps : List (ℕ × ℕ)). list_all (is_settled_in t members) (targets_of ps)) pieces_same ∙ closed.settled))

none_alive : (rs : List Regex) (memo : Memo) (t : Traced) (kept : AllKept) (marks : List Bool)
    (members ids ms sids : List ℕ) → Tracks rs memo t kept → AreBarren rs marks → AreNumbers t.order members ids
    → AreNumbers t.order ms sids → list_all (is_unburied marks t) ms ≡ true
    → ((k : ℕ) → k < length ms → IsClosedIn memo t members (get_or ms k 0))
    → first_alive kept ids (members_of rs ms sids) ≡ None
none_alive rs memo t kept marks members ids [] sids tracks barren h g all closed = refl
none_alive rs memo t kept marks members ids (m ∷ ms) [] tracks barren h g all closed = refl
none_alive rs memo t kept marks members ids (m ∷ ms) (id ∷ sids) tracks barren h g all closed =
    let first = first_number t.order m ms id sids g in
    let others = other_numbers t.order m ms id sids g in
    let parts = and_parts (is_unburied marks t m) (list_all (is_unburied marks t) ms) all in
    let mark = (and_parts (is_marked marks m) (not (is_dead_in t m)) parts.0).0 in
    let rest = first_alive kept ids (members_of rs ms sids) in
    ap (λ b. if b then Some holds_empty_word else if is_closed kept ids id then rest else Some not_closed)
    (barren m mark).empty_word
    ∙ ap (λ b. if b then rest else Some not_closed)
    (member_closed rs memo t kept members ids m id tracks h first (closed 0 (omega arith)))
    ∙ none_alive rs memo t kept marks members ids ms sids tracks barren h others parts.1
    (λ k l. closed (suc k) (omega (arith, l)))

dead_follows : (asked : Asked) (rs : List Regex) (memo : Memo) (t : Traced) (kept : AllKept) (marks : List Bool)
    (members ids : List ℕ) → Tracks rs memo t kept → AreBarren rs marks → IsDistinct nat_eq members
    → list_all (is_unburied marks t) members ≡ true → AreClosedUpTo memo t members (length members)
    → AreNumbers t.order members ids → follows asked kept (dead_line ids) ≡ Ok (with_dead ids kept)
dead_follows asked rs memo t kept marks members ids tracks barren once all closed h =
    follows_by kept ids (members_of rs members ids)
    (ap (λ known. together (map (member_at known) ids)) tracks.regexes ∙ members_there rs t.order members ids h)
    (none_repeated rs memo t kept marks members ids tracks once all h)
    (none_alive rs memo t kept marks members ids members ids tracks barren h h all closed)

-- It has a text.

dead_has_text : (order ms ids : List ℕ) → length order ≤ 2 ^ 64 → AreNumbers order ms ids → are_small ids ≡ true
dead_has_text order ms [] long h = refl
dead_has_text order [] (id ∷ ids) long h = absurd (Prim.cc (h))
dead_has_text order (m ∷ ms) (id ∷ ids) long h =
    let low = number-below order m id (first_number order m ms id ids h) in
    and_from (is_small id) (are_small ids) (lt-ltb id (2 ^ 64) (omega (arith, low, long)))
    (dead_has_text order ms ids long (other_numbers order m ms id ids h))

-- What is tracked behind it.

length_marked : (ids : List ℕ) (dead : List Bool) → length (marked ids dead) ≡ length dead
length_marked [] dead = refl
length_marked (id ∷ ids) dead = length-set (marked ids dead) id true ∙ length_marked ids dead

pub cond_or : (a b : Bool) → cond a true b ≡ (a || b)
cond_or true b = refl
cond_or false b = refl

or_more : (a b c : Bool) → (a || (b || c)) ≡ ((a || b) || c)
or_more true b c = refl
or_more false b c = refl

marked_behind : (order ms ids : List ℕ) (dead : List Bool) (n : ℕ) → length order ≤ length dead
    → AreNumbers order ms ids → is_marked (marked ids dead) n ≡ (list_any (nat_eq n) ids || is_marked dead n)
marked_behind order ms [] dead n long h = refl
marked_behind order [] (id ∷ ids) dead n long h = absurd (Prim.cc (h))
marked_behind order (m ∷ ms) (id ∷ ids) dead n long h =
    let low = number-below order m id (first_number order m ms id ids h) in
    let l : id < length (marked ids dead) = omega (arith, low, long, length_marked ids dead) in
    mark_set (marked ids dead) id n l
    ∙ cond_or (nat_eq n id) (is_marked (marked ids dead) n)
    ∙ ap (λ b. nat_eq n id || b) (marked_behind order ms ids dead n long (other_numbers order m ms id ids h))
    ∙ or_more (nat_eq n id) (list_any (nat_eq n) ids) (is_marked dead n)

tracks_dead : (rs : List Regex) (memo : Memo) (t : Traced) (kept : AllKept) (dead : List Bool) (ms ids : List ℕ)
    → AreNumbers t.order ms ids
    → ((n : ℕ) → is_marked dead n ≡ (list_any (nat_eq n) ids || is_marked t.dead n)) → Tracks rs memo t kept
    → Tracks rs memo (record t { dead = dead }) (with_dead ids kept)
tracks_dead rs memo t kept dead ms ids h marks tracks =
    let long : length t.order ≤ length kept.dead = omega (arith, tracks.dead_long) in
    record {
      numbers = tracks.numbers;
      regexes = tracks.regexes;
      expansions_long = tracks.expansions_long;
      dead_long = length_marked ids kept.dead ∙ tracks.dead_long;
      expanded = tracks.expanded;
      dead = λ n.
          unwrap_or-slice_get (marked ids kept.dead) n false
          ∙ marked_behind t.order ms ids kept.dead n long h
          ∙ ap (λ b. list_any (nat_eq n) ids || b) (sym (unwrap_or-slice_get kept.dead n false) ∙ tracks.dead n)
          ∙ sym (marks n);
      targets = tracks.targets;
    }

pub dead_traced : (asked : Asked) (rs : List Regex) (memo : Memo) (t : Traced) (kept : AllKept) (marks : List Bool)
    (dead : List Bool) (members ids : List ℕ) (told after : Option (List ℕ)) → length t.order ≤ 2 ^ 64
    → IsDistinct nat_eq members → AreNumbers t.order members ids
    → ((n : ℕ) → is_marked dead n ≡ (list_any (nat_eq n) ids || is_marked t.dead n))
    → after ≡ with_bytes (line (text_of (dead_line ids))) told → AreBarren rs marks
    → list_all (is_unburied marks t) members ≡ true → AreClosedUpTo memo t members (length members)
    → Tracks rs memo t kept → TracesUncounted asked kept rs memo (record t { dead = dead }) told after
dead_traced asked rs memo t kept marks dead members ids told after long once h marked put barren all closed tracks = (
  with_dead ids kept,
  puts_one asked kept (with_dead ids kept) (dead_line ids) told after
      (dead_follows asked rs memo t kept marks members ids tracks barren once all closed h)
      (dead_has_text t.order members ids long h) put,
  tracks_dead rs memo t kept dead members ids h marked tracks,
  record { format = refl; atoms = refl; clauses = refl; rests = refl },
  refl,
)

-- the same of a trace that is seen in two ways
pub dead_traced_at : (asked : Asked) (rs : List Regex) (memo : Memo) (t u : Traced) (kept : AllKept)
    (marks dead : List Bool) (members ids : List ℕ) (told after : Option (List ℕ)) → u ≡ t
    → length u.order ≤ 2 ^ 64 → IsDistinct nat_eq members → AreNumbers u.order members ids
    → ((n : ℕ) → is_marked dead n ≡ (list_any (nat_eq n) ids || is_marked u.dead n))
    → after ≡ with_bytes (line (text_of (dead_line ids))) told → AreBarren rs marks
    → list_all (is_unburied marks t) members ≡ true → AreClosedUpTo memo t members (length members)
    → Tracks rs memo t kept → TracesUncounted asked kept rs memo (record u { dead = dead }) told after
dead_traced_at asked rs memo t u kept marks dead members ids told after same long once h marked put barren all closed
    tracks =
    subst (λ (v : Traced). length v.order ≤ 2 ^ 64 → AreNumbers v.order members ids
    → ((n : ℕ) → is_marked dead n ≡ (list_any (nat_eq n) ids || is_marked v.dead n))
    → TracesUncounted asked kept rs memo (record v { dead = dead }) told after) (sym same)
    (λ long h marked. dead_traced asked rs memo t kept marks dead members ids told after long once h marked put barren
    all closed tracks) long h marked

-- All of them are dead then.

pub or_first : (a b : Bool) → a ≡ true → (a || b) ≡ true
or_first a b h = ap (λ x. x || b) h

or_second : (a b : Bool) → b ≡ true → (a || b) ≡ true
or_second true b h = refl
or_second false b h = h

pub members_dead : (t : Traced) (ms ids : List ℕ) → AreNumbers t.order ms ids
    → ((n : ℕ) → list_any (nat_eq n) ids ≡ true → is_marked t.dead n ≡ true) → list_all (is_dead_in t) ms ≡ true
members_dead t [] ids h marks = refl
members_dead t (m ∷ ms) [] h marks = absurd (Prim.cc (h))
members_dead t (m ∷ ms) (id ∷ ids) h marks =
    and_from (is_dead_in t m) (list_all (is_dead_in t) ms)
    (dead_at t m id (first_number t.order m ms id ids h)
    ∙ marks id (or_first (nat_eq id id) (list_any (nat_eq id) ids) (eq_itself id)))
    (members_dead t ms ids (other_numbers t.order m ms id ids h)
    (λ n there. marks n (or_second (nat_eq n id) (list_any (nat_eq n) ids) there)))
