-- What is kept of regexes stays right where a regex is appended, and where one is expanded or dead.
use Rattle.std.proofs.Common.{◌≡◌, ℕ, ◌+◌, nat_lt, Bool, true, false, if◌then◌else◌, List, [], ◌∷◌, ◌++◌, length, map, slice_get, Option, Some, None, is_some, Result, Ok, Err, refl, sym, subst, ◌∙◌, inl, inr, arith, length-append}
use Rattle.std.specs.List.{list_any}
use Rattle.std.proofs.lemmas.Bool.{false≢true}
use Rattle.std.proofs.lemmas.List.{length-set}
use Rattle.std.proofs.lemmas.Option.{slice_get_within}
use Rattle.sb_lang.specs.Regex.{Regex}
use Rattle.sb_lang.specs.Order.{regex_eq}
use Rattle.sb_lang.specs.NormalForm.{is_normal}
use Rattle.sb_lang.specs.Derivative.{nd}
use Rattle.sb_rulebook.specs.Refusals.{Refusal, unknown_id, repeated, not_normal, wrong_target, wrong_verdict}
use Rattle.sb_rulebook.specs.Lines.{Node, Class}
use Rattle.sb_rulebook.specs.Parts.{together}
use Rattle.sb_rulebook.specs.Kept.{AllKept, Asked, targets_in, with_regex, with_expansion, with_dead, marked, counting, most_counted}
use Rattle.sb_rulebook.specs.Expansions.{is_expansion}
use Rattle.sb_rulebook.specs.RegexRules.{regex_of_node, defined, follows_regex, branch_of, expanded, follows_expansion, has_repeated, first_alive, died, member_at, follows_dead}
use Rattle.sb_sound.specs.MembershipLaws.{AreEmpty}
use Rattle.sb_sound.specs.DeadLaws.{AreRight, ExpandedIsRight, DeadStaysEmpty}
use Rattle.sb_sound.specs.SoundLaws.{IsSound}
use Rattle.sb_sound.proofs.ByNumber.{slice_get-push, targets_there, there_targets}
use Rattle.sb_sound.proofs.Accepting.{some_of, if_so, if_not, same_ok, slice_get-front, slice_get-more}

-- A regex is appended.

right-more : (known : List Regex) (new : Regex) (es : List (Option (List ℕ))) → length es ≡ length known
    → AreRight known es → AreRight (known ++ new ∷ []) (es ++ None ∷ [])
right-more known new es long right id r targets are there c is =
    elim (slice_get-push es None id (Some targets) (targets_there (es ++ None ∷ []) id targets are)) [
      | inl before ↦
          let within = slice_get_within es id (Some targets) before in
          let at : slice_get known id ≡ Some r =
          sym (slice_get-front known (new ∷ []) id (omega (arith, within, long))) ∙ there in
          let l = right id r targets (there_targets es id targets before) at c is in
          record {
            target = l.target;
            among = l.among;
            there = slice_get-more known (new ∷ []) l.target (nd r c) l.there;
          }
      | inr last ↦ absurd (Prim.cc (last.1))
    ]

empty-more : (known : List Regex) (new : Regex) (dead : List Bool) → length dead ≡ length known
    → AreEmpty known dead → AreEmpty (known ++ new ∷ []) (dead ++ false ∷ [])
empty-more known new dead long empty id r mark there = elim (slice_get-push dead false id true mark) [
  | inl before ↦
      let within = slice_get_within dead id true before in
      empty id r before (sym (slice_get-front known (new ∷ []) id (omega (arith, within, long))) ∙ there)
  | inr last ↦ absurd (false≢true last.1)
]

pub regex_sound : (asked : Asked) (kept after : AllKept) (node : Node) → IsSound asked kept
    → follows_regex kept node ≡ Ok after → IsSound asked after
regex_sound asked kept after node sound h =
    let found = some_of (regex_of_node kept.regexes node) unknown_id (defined kept) after h in
    let r = found.0 in
    let now = with_regex r kept in
    let new =
    if_not (list_any (regex_eq r) kept.regexes) repeated (if is_normal r then Ok now else Err not_normal) after
    found.2 in
    let normal = if_so (is_normal r) not_normal (Ok now) after new.1 in
    let more = length-append kept.regexes (r ∷ []) in
    subst (λ (k : AllKept). IsSound asked k) (same_ok {E = Refusal} now after normal.1) (record {
      table = sound.table;
      right = right-more kept.regexes r kept.expansions sound.expanded sound.right;
      empty = empty-more kept.regexes r kept.dead sound.died sound.empty;
      expanded = omega (arith, more, length-append kept.expansions (None ∷ []), sound.expanded);
      died = omega (arith, more, length-append kept.dead (false ∷ []), sound.died);
      resting = sound.resting;
      known = sound.known;
      clauses = sound.clauses;
      places = sound.places;
      rested = sound.rested;
    })

-- A line is counted.

pub counting_sound : (asked : Asked) (kept after : AllKept) → counting asked kept ≡ Ok after → IsSound asked kept
    → IsSound asked after
counting_sound asked kept after h sound =
    let now : AllKept = record kept { counted = kept.counted + 1 } in
    let within = if_so (nat_lt kept.counted (most_counted asked)) wrong_verdict (Ok now) after h in
    subst (λ (k : AllKept). IsSound asked k) (same_ok {E = Refusal} now after within.1) (record {
      table = sound.table;
      right = sound.right;
      empty = sound.empty;
      expanded = sound.expanded;
      died = sound.died;
      resting = sound.resting;
      known = sound.known;
      clauses = sound.clauses;
      places = sound.places;
      rested = sound.rested;
    })

counting_regexes : (asked : Asked) (kept after : AllKept) → counting asked kept ≡ Ok after
    → AreRight after.regexes after.expansions → AreRight kept.regexes kept.expansions
counting_regexes asked kept after h right =
    let now : AllKept = record kept { counted = kept.counted + 1 } in
    let within = if_so (nat_lt kept.counted (most_counted asked)) wrong_verdict (Ok now) after h in
    subst (λ (k : AllKept). AreRight k.regexes k.expansions) (sym (same_ok {E = Refusal} now after within.1)) right

-- A regex is expanded.

pub expansion_sound : ExpandedIsRight → (asked : Asked) (kept after : AllKept) (id : ℕ) (ks : List Class)
    → IsSound asked kept → follows_expansion asked kept id ks ≡ Ok after → IsSound asked after
expansion_sound expands asked kept after id ks sound h =
    let known = kept.regexes in
    let branches = together (map (branch_of known) ks) in
    let targets = map (λ (k : Class). k.1) ks in
    let now = with_expansion id targets kept in
    let there =
    some_of (slice_get known id) unknown_id
    (λ (r : Regex). elim branches as (λ _. Result AllKept Refusal)
    [ None ↦ Err unknown_id | Some ps ↦ expanded asked kept id ks r ps ]) after h in
    let are = some_of branches unknown_id (expanded asked kept id ks there.0) after there.2 in
    let new =
    if_not (is_some (targets_in kept.expansions id)) repeated
    (if is_expansion there.0 are.0 then counting asked now else Err wrong_target) after are.2 in
    let counted = (if_so (is_expansion there.0 are.0) wrong_target (counting asked now) after new.1).1 in
    counting_sound asked now after counted (record {
      table = sound.table;
      right = counting_regexes asked now after counted (expands asked kept after id ks h sound.right);
      empty = sound.empty;
      expanded = length-set kept.expansions id (Some targets) ∙ sound.expanded;
      died = sound.died;
      resting = sound.resting;
      known = sound.known;
      clauses = sound.clauses;
      places = sound.places;
      rested = sound.rested;
    })

-- Regexes are dead.

length-marked : (ids : List ℕ) (dead : List Bool) → length (marked ids dead) ≡ length dead
length-marked [] dead = refl
length-marked (id ∷ ids) dead = length-set (marked ids dead) id true ∙ length-marked ids dead

pub dead_sound : DeadStaysEmpty → (asked : Asked) (kept after : AllKept) (ids : List ℕ) → IsSound asked kept
    → follows_dead kept ids ≡ Ok after → IsSound asked after
dead_sound stays asked kept after ids sound h =
    let known = kept.regexes in
    let now = with_dead ids kept in
    let are = some_of (together (map (member_at known) ids)) unknown_id (died kept ids) after h in
    let new =
    if_not (has_repeated kept ids) repeated (elim (first_alive kept ids are.0) as (λ _. Result AllKept Refusal)
    [ Some refusal ↦ Err refusal | None ↦ Ok now ]) after are.2 in
    let same = none_alive (first_alive kept ids are.0) now after new.1 in
    subst (λ (k : AllKept). IsSound asked k) same (record {
      table = sound.table;
      right = sound.right;
      empty =
          subst (λ (k : AllKept). AreEmpty k.regexes k.dead) (sym same)
          (stays kept after ids h sound.right sound.empty);
      expanded = sound.expanded;
      died = length-marked ids kept.dead ∙ sound.died;
      resting = sound.resting;
      known = sound.known;
      clauses = sound.clauses;
      places = sound.places;
      rested = sound.rested;
    })
  where
    none_alive : (o : Option Refusal) (now after : AllKept) → (elim o as (λ _. Result AllKept Refusal)
        [ Some refusal ↦ Err refusal | None ↦ Ok now ]) ≡ Ok after → now ≡ after
    none_alive None now after h = same_ok {E = Refusal} now after h
    none_alive (Some refusal) now after h = absurd (Prim.cc (h))
