-- What is kept stays orderly behind each line that follows.
use Rattle.std.proofs.Common.{◌≡◌, ℕ, suc, ◌+◌, ◌<◌, ◌≤◌, nat_lt, nat_eq, Bool, true, false, not, ◌&&◌, if◌then◌else◌, List, [], ◌∷◌, ◌++◌, length, map, slice_get, Option, Some, None, is_some, option_map, Result, Ok, Err, refl, sym, ap, subst, ◌∙◌, arith, length-append}
use Rattle.std.specs.List.{list_all, list_any}
use Rattle.std.proofs.lemmas.Bool.{and_parts, and_from, not-false, ltb-true, lt-ltb, false≢true}
use Rattle.std.proofs.lemmas.Bool.Decides.{nat_tests}
use Rattle.std.proofs.lemmas.List.{length-map, length-set}
use Rattle.std.proofs.lemmas.Option.{slice_get_within}
use Rattle.sb_lit.specs.declared.clause.Lit.{Lit}
use Rattle.sb_lit.specs.Clauses.{negation, are_ascending}
use Rattle.sb_lit.specs.Kept.{KeptClause, is_above, stays_up_to}
use Rattle.sb_lit.specs.Hints.{Course, ends_false, stays_open, has_idle_hint, Unlearned, unknown_hint, repeated_clause, not_by_hints, hinted, is_repeated, course, level_by, greatest_level, learned}
use Rattle.sb_lang.specs.Regex.{Regex}
use Rattle.sb_lang.specs.Order.{regex_eq}
use Rattle.sb_lang.specs.OrderLaws.{OrderTellsApart}
use Rattle.sb_lang.specs.NormalForm.{is_normal}
use Rattle.sb_meaning.specs.Terms.{Sort, Term}
use Rattle.sb_rulebook.specs.Refusals.{Refusal, unknown_id, repeated, not_normal, wrong_target, rule_broken, wrong_verdict}
use Rattle.sb_rulebook.specs.Brought.{is_brought}
use Rattle.sb_rulebook.specs.Atoms.{Atom, AtomOver, bool_atom, in_atom, le_atom, sum_atom, and_atom, iff_atom, is_well_formed, is_same_atom}
use Rattle.sb_rulebook.specs.Parts.{together}
use Rattle.sb_rulebook.specs.Lines.{Line, header_line, regex_line, atom_line, expansion_line, dead_line, assertion_line, rule_line, learned_line, verdict_line, end_line, Node, Class, Rule}
use Rattle.sb_rulebook.specs.Kept.{AllKept, Asked, targets_in, with_regex, with_expansion, marked, with_dead, most_counted, counting, with_clause, rests_of, with_number, with_numbers, rests_of_any}
use Rattle.sb_rulebook.specs.Expansions.{Branch, is_expansion}
use Rattle.sb_rulebook.specs.RegexRules.{regex_of_node, follows_regex, branch_of, expanded, follows_expansion, has_repeated, first_alive, died, member_at, follows_dead}
use Rattle.sb_rulebook.specs.RegexRules as regex_rules
use Rattle.sb_rulebook.specs.AtomRules.{is_known, are_known, has_its_parts, follows_atom}
use Rattle.sb_rulebook.specs.AtomRules as atom_rules
use Rattle.sb_rulebook.specs.ClauseRules.{holds_by, is_counted, follows_rule, is_translation, asserted, follows_assertion, refusal_of, follows_learned}
use Rattle.sb_rulebook.specs.Tables.{names_below, is_table_from}
use Rattle.sb_rulebook.specs.Follows.{by_rule, not_brought}
use Rattle.sb_rulebook.specs.KeptLaws.{has_targets_below, names_regex_of, is_orderly_clause, rises_above, is_rising, IsOrderly, NothingIsOrderly, LineKeepsOrder, DroppingKeepsOrder, AllDroppedKeepsOrder, CountingAgainKeepsOrder}
use Rattle.sb_rulebook.proofs.Accepting.{some_of, if_so, if_not, same_ok}
use Rattle.sb_rulebook.proofs.ListFacts.{by_order, all-push, all-map, all-made, all-weaker, all-set, any-at, any-push, distinct-push}
use Rattle.sb_rulebook.proofs.SameFacts.{regex_itself}

pub nothing_is_orderly : NothingIsOrderly
nothing_is_orderly format = record {
  regexes = record { normal = refl; once = refl; expanded = refl; targets = refl; died = refl };
  atoms = record { formed = refl; once = refl; table = refl; named = refl };
  clauses = record { literals = refl; resting = refl; rising = refl };
}

-- how many lines were counted is no matter of order
recounted : (kept : AllKept) (n : ℕ) → IsOrderly kept → IsOrderly (record kept { counted = n })
recounted kept n orderly = record { regexes = orderly.regexes; atoms = orderly.atoms; clauses = orderly.clauses }

counted-orderly : (asked : Asked) (kept after : AllKept) → IsOrderly kept → counting asked kept ≡ Ok after
    → IsOrderly after
counted-orderly asked kept after orderly h =
    let now : AllKept = record kept { counted = kept.counted + 1 } in
    let within = if_so (nat_lt kept.counted (most_counted asked)) wrong_verdict (Ok now) after h in
    subst IsOrderly (same_ok {E = Refusal} now after within.1) (recounted kept (kept.counted + 1) orderly)

-- Regexes.

below-more : (n m target : ℕ) → n ≤ m → nat_lt target n ≡ true → nat_lt target m ≡ true
below-more n m target more low = lt-ltb target m (omega (arith, more, ltb-true target n low))

targets-more : (n m : ℕ) → n ≤ m → (o : Option (List ℕ)) → has_targets_below n o ≡ true
    → has_targets_below m o ≡ true
targets-more n m more None low = refl
targets-more n m more (Some targets) low =
    all-weaker (λ target. nat_lt target n) (λ target. nat_lt target m) (λ target. below-more n m target more) targets
    low

names-more : (regexes : List Regex) (r : Regex) (a : Atom) → names_regex_of regexes a ≡ true
    → names_regex_of (regexes ++ r ∷ []) a ≡ true
names-more regexes r (bool_atom serial) there = refl
names-more regexes r (in_atom ps s) there = any-push (regex_eq s) regexes r there
names-more regexes r (le_atom x k) there = refl
names-more regexes r (sum_atom k ss) there = refl
names-more regexes r (and_atom ls) there = refl
names-more regexes r (iff_atom l m) there = refl

regex-orderly : (kept : AllKept) (r : Regex) → IsOrderly kept → list_any (regex_eq r) kept.regexes ≡ false
    → is_normal r ≡ true → IsOrderly (with_regex r kept)
regex-orderly kept r orderly new normal =
    let more : length kept.regexes ≤ length (kept.regexes ++ r ∷ []) =
    omega (arith, length-append kept.regexes (r ∷ [])) in
    let now = has_targets_below (length (kept.regexes ++ r ∷ [])) in
    record {
      regexes = record {
        normal = all-push is_normal kept.regexes r orderly.regexes.normal normal;
        once = distinct-push regex_eq kept.regexes r orderly.regexes.once new;
        expanded = omega (
          arith,
          length-append kept.expansions (None ∷ []),
          length-append kept.regexes (r ∷ []),
          orderly.regexes.expanded,
        );
        targets = all-push now kept.expansions None
            (all-weaker (has_targets_below (length kept.regexes)) now
            (targets-more (length kept.regexes) (length (kept.regexes ++ r ∷ [])) more) kept.expansions
            orderly.regexes.targets) refl;
        died = omega (
          arith,
          length-append kept.dead (false ∷ []),
          length-append kept.regexes (r ∷ []),
          orderly.regexes.died,
        );
      };
      atoms = record {
        formed = orderly.atoms.formed;
        once = orderly.atoms.once;
        table = orderly.atoms.table;
        named = all-weaker (names_regex_of kept.regexes) (names_regex_of (kept.regexes ++ r ∷ []))
            (names-more kept.regexes r) kept.atoms orderly.atoms.named;
      };
      clauses = orderly.clauses;
    }

regex-line : (kept after : AllKept) (node : Node) → IsOrderly kept → follows_regex kept node ≡ Ok after
    → IsOrderly after
regex-line kept after node orderly h =
    let found = some_of (regex_of_node kept.regexes node) unknown_id (regex_rules.defined kept) after h in
    let r = found.0 in
    let now = with_regex r kept in
    let new = if_not (list_any (regex_eq r) kept.regexes) repeated (if is_normal r then Ok now else Err not_normal)
    after found.2 in
    let normal = if_so (is_normal r) not_normal (Ok now) after new.1 in
    subst IsOrderly (same_ok {E = Refusal} now after normal.1) (regex-orderly kept r orderly new.0 normal.0)

-- Expansions and dead regexes.

branches-below : (known : List Regex) (ks : List Class) (ps : List Branch)
    → together (map (branch_of known) ks) ≡ Some ps
    → list_all (λ target. nat_lt target (length known)) (map (λ (k : Class). k.1) ks) ≡ true
branches-below known [] ps are = refl
branches-below known (k ∷ ks) ps are = step (slice_get known k.1) refl are (branches-below known ks)
  where
    rest : (o : Option (List Branch)) (p : Branch) → option_map (λ others. p ∷ others) o ≡ Some ps → is_some o ≡ true
    rest None p h = absurd (false≢true (ap is_some h))
    rest (Some others) p h = refl

    step : (o : Option Regex) → slice_get known k.1 ≡ o
        → together (option_map (λ r. (k.0, r)) o ∷ map (branch_of known) ks) ≡ Some ps
        → ((others : List Branch) → together (map (branch_of known) ks) ≡ Some others
        → list_all (λ target. nat_lt target (length known)) (map (λ (k : Class). k.1) ks) ≡ true)
        → list_all (λ target. nat_lt target (length known)) (map (λ (k : Class). k.1) (k ∷ ks)) ≡ true
    step None there h more = absurd (false≢true (ap is_some h))
    step (Some r) there h more =
        and_from (nat_lt k.1 (length known))
        (list_all (λ target. nat_lt target (length known)) (map (λ (k : Class). k.1) ks))
        (lt-ltb k.1 (length known) (slice_get_within known k.1 r there))
        (others (together (map (branch_of known) ks)) refl (rest (together (map (branch_of known) ks)) (k.0, r) h))
      where
        others : (o : Option (List Branch)) → together (map (branch_of known) ks) ≡ o → is_some o ≡ true
            → list_all (λ target. nat_lt target (length known)) (map (λ (k : Class). k.1) ks) ≡ true
        others None is some = absurd (false≢true some)
        others (Some bs) is some = more bs is

expansion-orderly : (kept : AllKept) (id : ℕ) (targets : List ℕ) → IsOrderly kept
    → list_all (λ target. nat_lt target (length kept.regexes)) targets ≡ true
    → IsOrderly (with_expansion id targets kept)
expansion-orderly kept id targets orderly low = record {
  regexes = record {
    normal = orderly.regexes.normal;
    once = orderly.regexes.once;
    expanded = length-set kept.expansions id (Some targets) ∙ orderly.regexes.expanded;
    targets =
        all-set (has_targets_below (length kept.regexes)) kept.expansions id (Some targets) orderly.regexes.targets low;
    died = orderly.regexes.died;
  };
  atoms = orderly.atoms;
  clauses = orderly.clauses;
}

expansion-line : (asked : Asked) (kept after : AllKept) (id : ℕ) (ks : List Class) → IsOrderly kept
    → follows_expansion asked kept id ks ≡ Ok after → IsOrderly after
expansion-line asked kept after id ks orderly h =
    let found = some_of (slice_get kept.regexes id) unknown_id
    (λ r. elim (together (map (branch_of kept.regexes) ks)) as (λ _. Result AllKept Refusal)
    [ None ↦ Err unknown_id | Some ps ↦ expanded asked kept id ks r ps ]) after h in
    let r = found.0 in
    let branches = some_of (together (map (branch_of kept.regexes) ks)) unknown_id (expanded asked kept id ks r) after
    found.2 in
    let now = with_expansion id (map (λ (k : Class). k.1) ks) kept in
    let new = if_not (is_some (targets_in kept.expansions id)) repeated
    (if is_expansion r branches.0 then counting asked now else Err wrong_target) after branches.2 in
    let right = if_so (is_expansion r branches.0) wrong_target (counting asked now) after new.1 in
    counted-orderly asked now after
    (expansion-orderly kept id (map (λ (k : Class). k.1) ks) orderly
    (branches-below kept.regexes ks branches.0 branches.1)) right.1

length-marked : (ids : List ℕ) (dead : List Bool) → length (marked ids dead) ≡ length dead
length-marked [] dead = refl
length-marked (id ∷ ids) dead = length-set (marked ids dead) id true ∙ length-marked ids dead

dead-orderly : (kept : AllKept) (ids : List ℕ) → IsOrderly kept → IsOrderly (with_dead ids kept)
dead-orderly kept ids orderly = record {
  regexes = record {
    normal = orderly.regexes.normal;
    once = orderly.regexes.once;
    expanded = orderly.regexes.expanded;
    targets = orderly.regexes.targets;
    died = length-marked ids kept.dead ∙ orderly.regexes.died;
  };
  atoms = orderly.atoms;
  clauses = orderly.clauses;
}

dead-line : (kept after : AllKept) (ids : List ℕ) → IsOrderly kept → follows_dead kept ids ≡ Ok after
    → IsOrderly after
dead-line kept after ids orderly h =
    let found = some_of (together (map (member_at kept.regexes) ids)) unknown_id (died kept ids) after h in
    let new = if_not (has_repeated kept ids) repeated
    (elim (first_alive kept ids found.0) as (λ _. Result AllKept Refusal)
    [ Some refusal ↦ Err refusal | None ↦ Ok (with_dead ids kept) ]) after found.2 in
    step (first_alive kept ids found.0) new.1
  where
    step : (o : Option Refusal) → (elim o as (λ _. Result AllKept Refusal)
        [ Some refusal ↦ Err refusal | None ↦ Ok (with_dead ids kept) ]) ≡ Ok after → IsOrderly after
    step (Some refusal) e = absurd (Prim.cc (e))
    step None e = subst IsOrderly (same_ok {E = Refusal} (with_dead ids kept) after e) (dead-orderly kept ids orderly)

-- Atoms.

known-push : (atoms : List Atom) (a : Atom) (l : Lit) → is_known atoms l ≡ true → is_known (atoms ++ a ∷ []) l ≡ true
known-push atoms a l known =
    below-more (length atoms) (length (atoms ++ a ∷ [])) l.atom (omega (arith, length-append atoms (a ∷ []))) known

clause-push : (atoms : List Atom) (a : Atom) (o : Option KeptClause) → is_orderly_clause atoms o ≡ true
    → is_orderly_clause (atoms ++ a ∷ []) o ≡ true
clause-push atoms a None is = refl
clause-push atoms a (Some clause) is =
    let parts = and_parts (are_ascending clause.literals) (are_known atoms clause.literals) is in
    and_from (are_ascending clause.literals) (are_known (atoms ++ a ∷ []) clause.literals) parts.0
    (all-weaker (is_known atoms) (is_known (atoms ++ a ∷ [])) (known-push atoms a) clause.literals parts.1)

pub table-push : (n : ℕ) (atoms : List Atom) (a : Atom) → is_table_from n atoms ≡ true
    → names_below (n + length atoms) a ≡ true → is_table_from n (atoms ++ a ∷ []) ≡ true
table-push n [] a table low =
    and_from (names_below n a) true (subst (λ (k : ℕ). names_below k a ≡ true) (omega arith) low) refl
table-push n (b ∷ atoms) a table low =
    let parts = and_parts (names_below n b) (is_table_from (suc n) atoms) table in
    and_from (names_below n b) (is_table_from (suc n) (atoms ++ a ∷ [])) parts.0
    (table-push (suc n) atoms a parts.1 (subst (λ (k : ℕ). names_below k a ≡ true) (omega arith) low))

-- what an atom that is defined names
pub record NamesKept (kept : AllKept) (a : Atom) : Type 0 where
  pub below : names_below (length kept.atoms) a ≡ true
  pub regex : names_regex_of kept.regexes a ≡ true

pub names-kept : OrderTellsApart → (kept : AllKept) (sorts : List Sort) (line : AtomOver ℕ) (a : Atom)
    → atom_rules.with_regex kept.regexes line ≡ Some a → has_its_parts sorts kept.atoms line ≡ true → NamesKept kept a
names-kept apart kept sorts (bool_atom serial) a is parts =
    let same : bool_atom serial ≡ a = Prim.cc (is) in
    subst (NamesKept kept) same (record { below = refl; regex = refl })
names-kept apart kept sorts (in_atom ps r) a is parts = step (slice_get kept.regexes r) refl is
  where
    step : (o : Option Regex) → slice_get kept.regexes r ≡ o → option_map (in_atom ps) o ≡ Some a → NamesKept kept a
    step None there is = absurd (Prim.cc (is))
    step (Some s) there is =
        let same : in_atom ps s ≡ a = Prim.cc (is) in
        subst (NamesKept kept) same
        (record { below = refl; regex = any-at (regex_eq s) kept.regexes r s there (regex_itself apart s) })
names-kept apart kept sorts (le_atom x k) a is parts =
    let same : le_atom x k ≡ a = Prim.cc (is) in
    subst (NamesKept kept) same (record { below = refl; regex = refl })
names-kept apart kept sorts (sum_atom k ss) a is parts =
    let same : sum_atom k ss ≡ a = Prim.cc (is) in
    subst (NamesKept kept) same (record { below = refl; regex = refl })
names-kept apart kept sorts (and_atom ls) a is parts =
    let same : and_atom ls ≡ a = Prim.cc (is) in
    subst (NamesKept kept) same (record { below = parts; regex = refl })
names-kept apart kept sorts (iff_atom l m) a is parts =
    let same : iff_atom l m ≡ a = Prim.cc (is) in
    let first = and_parts (is_known kept.atoms l) (is_known kept.atoms m && true) parts in
    let second = and_parts (is_known kept.atoms m) true first.1 in
    subst (NamesKept kept) same (record {
      below = and_from (is_known kept.atoms l) (is_known kept.atoms m) first.0 second.0;
      regex = refl;
    })

atom-orderly : (kept : AllKept) (a : Atom) → IsOrderly kept → list_any (is_same_atom a) kept.atoms ≡ false
    → is_well_formed a ≡ true → NamesKept kept a → IsOrderly (record kept { atoms = kept.atoms ++ a ∷ [] })
atom-orderly kept a orderly new formed names = record {
  regexes = orderly.regexes;
  atoms = record {
    formed = all-push is_well_formed kept.atoms a orderly.atoms.formed formed;
    once = distinct-push is_same_atom kept.atoms a orderly.atoms.once new;
    table = table-push 0 kept.atoms a orderly.atoms.table
        (subst (λ (n : ℕ). names_below n a ≡ true) (omega arith) names.below);
    named = all-push (names_regex_of kept.regexes) kept.atoms a orderly.atoms.named names.regex;
  };
  clauses = record {
    literals = all-weaker (is_orderly_clause kept.atoms) (is_orderly_clause (kept.atoms ++ a ∷ []))
        (clause-push kept.atoms a) kept.clauses orderly.clauses.literals;
    resting = orderly.clauses.resting;
    rising = orderly.clauses.rising;
  };
}

atom-line : OrderTellsApart → (asked : Asked) (kept after : AllKept) (line : AtomOver ℕ) → IsOrderly kept
    → follows_atom asked kept line ≡ Ok after → IsOrderly after
atom-line apart asked kept after line orderly h =
    let found = some_of (atom_rules.with_regex kept.regexes line) unknown_id
    (λ (a : Atom). if has_its_parts asked.sorts kept.atoms line then atom_rules.defined kept a else Err unknown_id)
    after h in
    let a = found.0 in
    let now : AllKept = record kept { atoms = kept.atoms ++ a ∷ [] } in
    let parts =
    if_so (has_its_parts asked.sorts kept.atoms line) unknown_id (atom_rules.defined kept a) after found.2 in
    let new = if_not (list_any (is_same_atom a) kept.atoms) repeated
    (if is_well_formed a then Ok now else Err not_normal) after parts.1 in
    let formed = if_so (is_well_formed a) not_normal (Ok now) after new.1 in
    subst IsOrderly (same_ok {E = Refusal} now after formed.1)
    (atom-orderly kept a orderly new.0 formed.0 (names-kept apart kept asked.sorts line a found.1 parts.0))

-- Clauses.

clause-orderly : (kept : AllKept) (clause : List Lit) (level : ℕ) (rests : List ℕ) → IsOrderly kept
    → are_ascending clause ≡ true → are_known kept.atoms clause ≡ true → is_rising rests ≡ true
    → IsOrderly (with_clause kept clause level rests)
clause-orderly kept clause level rests orderly ascending known rising =
    let new : Option KeptClause = Some (record { literals = clause; level = level }) in
    record {
      regexes = orderly.regexes;
      atoms = orderly.atoms;
      clauses = record {
        literals = all-push (is_orderly_clause kept.atoms) kept.clauses new orderly.clauses.literals
            (and_from (are_ascending clause) (are_known kept.atoms clause) ascending known);
        resting = omega (
          arith,
          length-append kept.rests (rests ∷ []),
          length-append kept.clauses (new ∷ []),
          orderly.clauses.resting,
        );
        rising = all-push is_rising kept.rests rests orderly.clauses.rising rising;
      };
    }

assertion-line : (asked : Asked) (kept after : AllKept) (place : ℕ) (l : Lit) → IsOrderly kept
    → follows_assertion asked kept place l ≡ Ok after → IsOrderly after
assertion-line asked kept after place l orderly h =
    let found = some_of (slice_get asked.live place) unknown_id
    (λ (a : Option Term × ℕ). if is_known kept.atoms l then asserted kept place a l else Err unknown_id) after h in
    let a = found.0 in
    let known = if_so (is_known kept.atoms l) unknown_id (asserted kept place a l) after found.2 in
    let now = with_clause kept (l ∷ []) a.1 (place ∷ []) in
    let translated = if_so (is_translation kept.atoms a.0 l) rule_broken (Ok now) after known.1 in
    subst IsOrderly (same_ok {E = Refusal} now after translated.1)
    (clause-orderly kept (l ∷ []) a.1 (place ∷ []) orderly refl (and_from (is_known kept.atoms l) true known.0 refl)
    refl)

rule-line : (asked : Asked) (kept after : AllKept) (rule : Rule) (clause : List Lit) → IsOrderly kept
    → follows_rule asked kept rule clause ≡ Ok after → IsOrderly after
rule-line asked kept after rule clause orderly h =
    let now = with_clause kept clause 0 [] in
    let last : Result AllKept Refusal = if is_counted rule then counting asked now else Ok now in
    let right = are_ascending clause && holds_by kept rule clause in
    let holding : Result AllKept Refusal = if not right then Err rule_broken else last in
    let known = if_not (not (are_known kept.atoms clause)) unknown_id
    (if is_counted rule && is_repeated kept.clauses clause then Err repeated else holding) after h in
    let new = if_not (is_counted rule && is_repeated kept.clauses clause) repeated holding after known.1 in
    let holds = if_not (not right) rule_broken last after new.1 in
    let both = and_parts (are_ascending clause) (holds_by kept rule clause) (not-false right holds.0) in
    let all_known = not-false (are_known kept.atoms clause) known.0 in
    step (is_counted rule) (clause-orderly kept clause 0 [] orderly both.0 all_known refl) holds.1
  where
    step : (b : Bool) → IsOrderly (with_clause kept clause 0 [])
        → (if b then counting asked (with_clause kept clause 0 []) else Ok (with_clause kept clause 0 [])) ≡ Ok after
        → IsOrderly after
    step true orderly_now e = counted-orderly asked (with_clause kept clause 0 []) after orderly_now e
    step false orderly_now e =
        subst IsOrderly (same_ok {E = Refusal} (with_clause kept clause 0 []) after e) orderly_now

-- numbers put together in order are in order
rises-with : (m n : ℕ) (ns : List ℕ) → m < n → rises_above m ns ≡ true → rises_above m (with_number n ns) ≡ true
rises-with m n [] low rising = and_from (nat_lt m n) true (lt-ltb m n low) refl
rises-with m n (k ∷ ks) low rising =
    step (nat_lt n k) (nat_eq n k) refl refl (and_parts (nat_lt m k) (rises_above k ks) rising) (rises-with k n ks)
  where
    step : (b d : Bool) → nat_lt n k ≡ b → nat_eq n k ≡ d → (nat_lt m k ≡ true) × (rises_above k ks ≡ true)
        → (k < n → rises_above k ks ≡ true → rises_above k (with_number n ks) ≡ true)
        → rises_above m (by_order b d (n ∷ k ∷ ks) (k ∷ ks) (k ∷ with_number n ks)) ≡ true
    step true d less same parts rest =
        and_from (nat_lt m n) (nat_lt n k && rises_above k ks) (lt-ltb m n low)
        (and_from (nat_lt n k) (rises_above k ks) less parts.1)
    step false true less same parts rest = and_from (nat_lt m k) (rises_above k ks) parts.0 parts.1
    step false false less same parts rest =
        and_from (nat_lt m k) (rises_above k (with_number n ks)) parts.0
        (rest (grind (arith, nat_tests)) parts.1)

rising-with : (n : ℕ) (ns : List ℕ) → is_rising ns ≡ true → is_rising (with_number n ns) ≡ true
rising-with n [] rising = refl
rising-with n (k ∷ ks) rising = step (nat_lt n k) (nat_eq n k) refl refl
  where
    step : (b d : Bool) → nat_lt n k ≡ b → nat_eq n k ≡ d
        → is_rising (by_order b d (n ∷ k ∷ ks) (k ∷ ks) (k ∷ with_number n ks)) ≡ true
    step true d less same = and_from (nat_lt n k) (rises_above k ks) less rising
    step false true less same = rising
    step false false less same = rises-with k n ks (grind (arith, nat_tests)) rising

rising-all : (ns ms : List ℕ) → is_rising ms ≡ true → is_rising (with_numbers ns ms) ≡ true
rising-all [] ms rising = rising
rising-all (n ∷ ns) ms rising = rising-with n (with_numbers ns ms) (rising-all ns ms rising)

rests-rise : (kept : AllKept) (ids : List ℕ) → is_rising (rests_of_any kept ids) ≡ true
rests-rise kept [] = refl
rests-rise kept (id ∷ ids) = rising-all (rests_of kept id) (rests_of_any kept ids) (rests-rise kept ids)

level-ascends : (c : Course) (clause : List Lit) (hints : List KeptClause) (level : ℕ)
    → level_by c clause hints ≡ Ok level → are_ascending clause ≡ true
level-ascends ends_false clause hints level h =
    (if_so (are_ascending clause) not_by_hints (Ok (greatest_level hints)) level h).0
level-ascends stays_open clause hints level h = absurd (Prim.cc (h))
level-ascends has_idle_hint clause hints level h = absurd (Prim.cc (h))

learned-ascends : (kept : AllKept) (clause : List Lit) (ids : List ℕ) (level : ℕ)
    → learned kept.clauses clause ids ≡ Ok level → are_ascending clause ≡ true
learned-ascends kept clause ids level h =
    let found = some_of (hinted kept.clauses ids) unknown_hint
    (λ (hints : List KeptClause). if is_repeated kept.clauses clause then Err repeated_clause
    else level_by (course (map negation clause) hints) clause hints) level h in
    let new = if_not (is_repeated kept.clauses clause) repeated_clause
    (level_by (course (map negation clause) found.0) clause found.0) level found.2 in
    level-ascends (course (map negation clause) found.0) clause found.0 level new.1

learned-line : (asked : Asked) (kept after : AllKept) (clause : List Lit) (ids : List ℕ) → IsOrderly kept
    → follows_learned asked kept clause ids ≡ Ok after → IsOrderly after
learned-line asked kept after clause ids orderly h =
    let known = if_not (not (are_known kept.atoms clause)) unknown_id
    (elim (learned kept.clauses clause ids) as (λ _. Result AllKept Refusal) [
      | Err unlearned ↦ Err (refusal_of unlearned)
      | Ok level ↦ counting asked (with_clause kept clause level (rests_of_any kept ids))
    ]) after h in
    step (learned kept.clauses clause ids) refl (not-false (are_known kept.atoms clause) known.0) known.1
  where
    step : (r : Result ℕ Unlearned) → learned kept.clauses clause ids ≡ r → are_known kept.atoms clause ≡ true
        → (elim r as (λ _. Result AllKept Refusal) [
          | Err unlearned ↦ Err (refusal_of unlearned)
          | Ok level ↦ counting asked (with_clause kept clause level (rests_of_any kept ids))
        ]) ≡ Ok after → IsOrderly after
    step (Err unlearned) is known e = absurd (Prim.cc (e))
    step (Ok level) is known e =
        counted-orderly asked (with_clause kept clause level (rests_of_any kept ids)) after
        (clause-orderly kept clause level (rests_of_any kept ids) orderly (learned-ascends kept clause ids level is)
        known (rests-rise kept ids)) e

-- Lines.

rule-keeps-order : OrderTellsApart → (asked : Asked) (kept after : AllKept) (line : Line) → IsOrderly kept
    → by_rule asked kept line ≡ Ok after → IsOrderly after
rule-keeps-order apart asked kept after (regex_line node) orderly h = regex-line kept after node orderly h
rule-keeps-order apart asked kept after (atom_line atom) orderly h = atom-line apart asked kept after atom orderly h
rule-keeps-order apart asked kept after (expansion_line r ks) orderly h =
    expansion-line asked kept after r ks orderly h
rule-keeps-order apart asked kept after (dead_line ids) orderly h = dead-line kept after ids orderly h
rule-keeps-order apart asked kept after (assertion_line place l) orderly h =
    assertion-line asked kept after place l orderly h
rule-keeps-order apart asked kept after (rule_line rule clause) orderly h =
    rule-line asked kept after rule clause orderly h
rule-keeps-order apart asked kept after (learned_line clause ids) orderly h =
    learned-line asked kept after clause ids orderly h
rule-keeps-order apart asked kept after (header_line format) orderly h = absurd (Prim.cc (h))
rule-keeps-order apart asked kept after (verdict_line said) orderly h = absurd (Prim.cc (h))
rule-keeps-order apart asked kept after end_line orderly h = absurd (Prim.cc (h))

-- what is not brought never follows
not-brought-never : {P : Type 0} (r : Result AllKept Refusal) (after : AllKept) → not_brought r ≡ Ok after → P
not-brought-never (Ok kept) after h = absurd (Prim.cc (h))
not-brought-never (Err unknown_id) after h = absurd (Prim.cc (h))
not-brought-never (Err _) after h = absurd (Prim.cc (h))

pub line_keeps_order : OrderTellsApart → LineKeepsOrder
line_keeps_order apart asked kept after line orderly h = step (is_brought line) h
  where
    step : (b : Bool) → (if b then by_rule asked kept line else not_brought (by_rule asked kept line)) ≡ Ok after
        → IsOrderly after
    step true e = rule-keeps-order apart asked kept after line orderly e
    step false e = not-brought-never (by_rule asked kept line) after e

-- Levels and verdicts.

stays-orderly : (atoms : List Atom) (level : ℕ) (o : Option KeptClause) → is_orderly_clause atoms o ≡ true
    → is_orderly_clause atoms (stays_up_to level o) ≡ true
stays-orderly atoms level o is = step (is_above o level)
  where
    step : (b : Bool) → is_orderly_clause atoms (if b then None else o) ≡ true
    step true = refl
    step false = is

pub dropping_keeps_order : DroppingKeepsOrder
dropping_keeps_order level kept orderly = record {
  regexes = orderly.regexes;
  atoms = orderly.atoms;
  clauses = record {
    literals = all-made (is_orderly_clause kept.atoms) (is_orderly_clause kept.atoms) (stays_up_to level)
        (stays-orderly kept.atoms level) kept.clauses orderly.clauses.literals;
    resting = orderly.clauses.resting ∙ sym (length-map kept.clauses (stays_up_to level));
    rising = orderly.clauses.rising;
  };
}

pub all_dropped_keeps_order : AllDroppedKeepsOrder
all_dropped_keeps_order kept orderly = record {
  regexes = orderly.regexes;
  atoms = orderly.atoms;
  clauses = record {
    literals = all-map (is_orderly_clause kept.atoms) (λ clause. None) (λ clause. refl) kept.clauses;
    resting = orderly.clauses.resting ∙ sym (length-map kept.clauses (λ clause. None));
    rising = orderly.clauses.rising;
  };
}

pub counting_again_keeps_order : CountingAgainKeepsOrder
counting_again_keeps_order kept orderly = recounted kept 0 orderly
