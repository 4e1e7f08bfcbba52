-- A line that follows counts one, or nothing.
use Rattle.std.proofs.Common.{◌≡◌, ℕ, ◌+◌, nat_lt, Bool, true, false, not, ◌&&◌, if◌then◌else◌, List, [], ◌∷◌, ◌++◌, map, slice_get, Option, Some, None, is_some, Result, Ok, Err, sym, ap}
use Rattle.std.specs.List.{list_any}
use Rattle.sb_lit.specs.declared.clause.Lit.{Lit}
use Rattle.sb_lit.specs.Clauses.{are_ascending}
use Rattle.sb_lit.specs.Hints.{is_repeated, learned}
use Rattle.sb_lang.specs.Regex.{Regex}
use Rattle.sb_lang.specs.Order.{regex_eq}
use Rattle.sb_lang.specs.NormalForm.{is_normal}
use Rattle.sb_meaning.specs.Terms.{Term}
use Rattle.sb_rulebook.specs.Refusals.{Refusal, unknown_id, repeated, not_normal, wrong_target, wrong_verdict, rule_broken}
use Rattle.sb_rulebook.specs.Lines.{Node, Class, Rule, header_line, regex_line, atom_line, expansion_line, dead_line, assertion_line, rule_line, learned_line, verdict_line, end_line}
use Rattle.sb_rulebook.specs.Parts.{together}
use Rattle.sb_rulebook.specs.Atoms.{Atom, AtomOver, is_well_formed, is_same_atom}
use Rattle.sb_rulebook.specs.AtomRules as atoms
use Rattle.sb_rulebook.specs.AtomRules.{is_known, are_known, has_its_parts, with_regex, follows_atom}
use Rattle.sb_rulebook.specs.Kept.{AllKept, Asked, targets_in, counting, most_counted, with_clause, rests_of_any, with_expansion, with_dead}
use Rattle.sb_rulebook.specs.Kept as kept_regexes
use Rattle.sb_rulebook.specs.Expansions.{is_expansion}
use Rattle.sb_rulebook.specs.RegexRules.{regex_of_node, defined, follows_regex, branch_of, expanded, follows_expansion, has_repeated, first_alive, died, member_at, follows_dead}
use Rattle.sb_rulebook.specs.ClauseRules.{holds_by, is_counted, follows_rule, is_translation, asserted, follows_assertion, refusal_of, follows_learned}
use Rattle.sb_sound.specs.CountLaws.{LinesAreCounted}
use Rattle.sb_sound.proofs.Accepting.{some_of, if_so, if_not, same_ok}
use Rattle.sb_sound.proofs.ClauseGrowth.{learned-parts}

accepted_counts : (now after : AllKept) → ◌≡◌ {A = Result AllKept Refusal} (Ok now) (Ok after)
    → after.counted ≡ now.counted
accepted_counts now after h = ap (λ (k : AllKept). k.counted) (sym (same_ok {E = Refusal} now after h))

counting_counts : (asked : Asked) (kept after : AllKept) → counting asked kept ≡ Ok after
    → after.counted ≡ kept.counted + 1
counting_counts asked kept after h =
    let now : AllKept = record kept { counted = kept.counted + 1 } in
    accepted_counts now after (if_so (nat_lt kept.counted (most_counted asked)) wrong_verdict (Ok now) after h).1

-- Lines that count nothing.

regex_counts : (kept after : AllKept) (node : Node) → follows_regex kept node ≡ Ok after → after.counted ≡ kept.counted
regex_counts kept after node h =
    let found = some_of (regex_of_node kept.regexes node) unknown_id (defined kept) after h in
    let r = found.0 in
    let now = kept_regexes.with_regex r kept in
    let new =
    if_not (list_any (regex_eq r) kept.regexes) repeated (if is_normal r then Ok now else Err not_normal) after
    found.2 in
    accepted_counts now after (if_so (is_normal r) not_normal (Ok now) after new.1).1

atom_counts : (asked : Asked) (kept after : AllKept) (line : AtomOver ℕ) → follows_atom asked kept line ≡ Ok after
    → after.counted ≡ kept.counted
atom_counts asked kept after line h =
    let found =
    some_of (with_regex kept.regexes line) unknown_id
    (λ (a : Atom). if has_its_parts asked.sorts kept.atoms line then atoms.defined kept a else Err unknown_id) after
    h in
    let a = found.0 in
    let now : AllKept = record kept { atoms = kept.atoms ++ a ∷ [] } in
    let parts = if_so (has_its_parts asked.sorts kept.atoms line) unknown_id (atoms.defined kept a) after found.2 in
    let new =
    if_not (list_any (is_same_atom a) kept.atoms) repeated (if is_well_formed a then Ok now else Err not_normal) after
    parts.1 in
    accepted_counts now after (if_so (is_well_formed a) not_normal (Ok now) after new.1).1

dead_counts : (kept after : AllKept) (ids : List ℕ) → follows_dead kept ids ≡ Ok after → after.counted ≡ kept.counted
dead_counts kept after ids h =
    let now = with_dead ids kept in
    let are = some_of (together (map (member_at kept.regexes) ids)) unknown_id (died kept ids) after h in
    let new =
    if_not (has_repeated kept ids) repeated (elim (first_alive kept ids are.0) as (λ _. Result AllKept Refusal)
    [ Some refusal ↦ Err refusal | None ↦ Ok now ]) after are.2 in
    none_alive (first_alive kept ids are.0) now new.1
  where
    none_alive : (o : Option Refusal) (now : AllKept) → (elim o as (λ _. Result AllKept Refusal)
        [ Some refusal ↦ Err refusal | None ↦ Ok now ]) ≡ Ok after → after.counted ≡ now.counted
    none_alive None now h = accepted_counts now after h
    none_alive (Some refusal) now h = absurd (Prim.cc (h))

assertion_counts : (asked : Asked) (kept after : AllKept) (place : ℕ) (l : Lit)
    → follows_assertion asked kept place l ≡ Ok after → after.counted ≡ kept.counted
assertion_counts asked kept after place l h =
    let found =
    some_of (slice_get asked.live place) unknown_id
    (λ (a : Option Term × ℕ). if is_known kept.atoms l then asserted kept place a l else Err unknown_id) after h in
    let a = found.0 in
    let now = with_clause kept (l ∷ []) a.1 (place ∷ []) in
    let known = if_so (is_known kept.atoms l) unknown_id (asserted kept place a l) after found.2 in
    accepted_counts now after (if_so (is_translation kept.atoms a.0 l) rule_broken (Ok now) after known.1).1

-- Lines that count.

expansion_counts : (asked : Asked) (kept after : AllKept) (id : ℕ) (ks : List Class)
    → follows_expansion asked kept id ks ≡ Ok after → after.counted ≡ kept.counted + 1
expansion_counts asked kept after id ks h =
    let branches = together (map (branch_of kept.regexes) ks) in
    let now = with_expansion id (map (λ (k : Class). k.1) ks) kept in
    let there =
    some_of (slice_get kept.regexes id) unknown_id
    (λ (r : Regex). elim branches as (λ _. Result AllKept Refusal)
    [ None ↦ Err unknown_id | Some ps ↦ expanded asked kept id ks r ps ]) after h in
    let are = some_of branches unknown_id (expanded asked kept id ks there.0) after there.2 in
    let new =
    if_not (is_some (targets_in kept.expansions id)) repeated
    (if is_expansion there.0 are.0 then counting asked now else Err wrong_target) after are.2 in
    counting_counts asked now after
    (if_so (is_expansion there.0 are.0) wrong_target (counting asked now) after new.1).1

learned_counts : (asked : Asked) (kept after : AllKept) (clause : List Lit) (ids : List ℕ)
    → follows_learned asked kept clause ids ≡ Ok after → after.counted ≡ kept.counted + 1
learned_counts asked kept after clause ids h =
    let result = learned kept.clauses clause ids in
    let rests = rests_of_any kept ids in
    let one =
    if_not (not (are_known kept.atoms clause)) unknown_id (elim result as (λ _. Result AllKept Refusal)
    [ Err unlearned ↦ Err (refusal_of unlearned) | Ok level ↦ counting asked (with_clause kept clause level rests) ])
    after h in
    let two = learned-parts asked kept after clause rests result one.1 in
    counting_counts asked (with_clause kept clause two.0 rests) after two.2

-- A clause by a rule counts where the rule does.

counted_or_not : (b : Bool) (asked : Asked) (kept after : AllKept)
    → ◌≡◌ {A = Result AllKept Refusal} (if b then counting asked kept else Ok kept) (Ok after)
    → after.counted ≡ (if b then kept.counted + 1 else kept.counted)
counted_or_not true asked kept after h = counting_counts asked kept after h
counted_or_not false asked kept after h = accepted_counts kept after h

rule_counts : (asked : Asked) (kept after : AllKept) (rule : Rule) (clause : List Lit)
    → follows_rule asked kept rule clause ≡ Ok after
    → after.counted ≡ (if is_counted rule then kept.counted + 1 else kept.counted)
rule_counts asked kept after rule clause h =
    let now = with_clause kept clause 0 [] in
    let last : Result AllKept Refusal = if is_counted rule then counting asked now else Ok now in
    let again = is_counted rule && is_repeated kept.clauses clause in
    let right = are_ascending clause && holds_by kept rule clause in
    let one =
    if_not (not (are_known kept.atoms clause)) unknown_id
    (if again then Err repeated else if not right then Err rule_broken else last) after h in
    let two = if_not again repeated (if not right then Err rule_broken else last) after one.1 in
    let three = if_not (not right) rule_broken last after two.1 in
    counted_or_not (is_counted rule) asked now after three.1

pub lines_counted : LinesAreCounted
lines_counted asked kept after (regex_line node) h = regex_counts kept after node h
lines_counted asked kept after (atom_line atom) h = atom_counts asked kept after atom h
lines_counted asked kept after (expansion_line r ks) h = expansion_counts asked kept after r ks h
lines_counted asked kept after (dead_line ids) h = dead_counts kept after ids h
lines_counted asked kept after (assertion_line place l) h = assertion_counts asked kept after place l h
lines_counted asked kept after (rule_line rule clause) h = rule_counts asked kept after rule clause h
lines_counted asked kept after (learned_line clause ids) h = learned_counts asked kept after clause ids h
lines_counted asked kept after (header_line format) h = absurd (Prim.cc (h))
lines_counted asked kept after (verdict_line said) h = absurd (Prim.cc (h))
lines_counted asked kept after end_line h = absurd (Prim.cc (h))
