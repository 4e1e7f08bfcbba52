-- Which regexes are accepted as dead.
use Rattle.std.proofs.Common.{◌≡◌, ℕ, Bool, true, false, ◌||◌, eqb, if◌then◌else◌, List, [], ◌∷◌, map, slice_get, Option, Some, None, option_map, unwrap_or, Result, Ok, Err, refl, sym, ap, ◌∙◌, ◌⊎◌, inl, inr}
use Rattle.std.specs.List.{list_all, Contains}
use Rattle.std.proofs.lemmas.Bool.{or_cases, or_parts, or_left, or_right, eq-eqb, false≢true, false_from_ne_true}
use Rattle.sb_lang.specs.Regex.{Regex}
use Rattle.sb_lang.specs.Derivative.{nullable}
use Rattle.sb_rulebook.specs.Refusals.{Refusal, unknown_id, repeated, holds_empty_word, not_closed}
use Rattle.sb_rulebook.specs.Parts.{together}
use Rattle.sb_rulebook.specs.Kept.{AllKept, is_among_numbers, is_dead, targets_in, with_dead}
use Rattle.sb_rulebook.specs.RegexRules.{has_repeated, is_settled, is_closed, first_alive, died, member_at, follows_dead}
use Rattle.sb_sound.specs.DeadLaws.{StandOnce, MayDie, DeadIsExact}
use Rattle.sb_sound.proofs.ByNumber.{targets_there, there_targets, mark_there}
use Rattle.sb_sound.proofs.DeadFacts.{together-parts, dead-parts, members-are, among_contains}
use Rattle.sb_sound.proofs.PassFacts.{Contains-cases, Contains-first, Contains-later, Contains-none, any_of, all_contained, all_from}

contains_among : (ns : List ℕ) (n : ℕ) → Contains ns n → is_among_numbers ns n ≡ true
contains_among ns n within = any_of (λ m. eqb m n) ns n within (eq-eqb n n refl)

there_mark : (kept : AllKept) (id : ℕ) → slice_get kept.dead id ≡ Some true → is_dead kept id ≡ true
there_mark kept id h = ap (λ o. unwrap_or o false) h

-- From the test.

once_form : (kept : AllKept) (ids : List ℕ) → has_repeated kept ids ≡ false → StandOnce ids
once_form kept [] h = tt
once_form kept (id ∷ ids) h =
    let parts = or_parts (is_among_numbers ids id) (is_dead kept id || has_repeated kept ids) h in
    let rest = or_parts (is_dead kept id) (has_repeated kept ids) parts.1 in
    ((λ within. false≢true (sym parts.0 ∙ contains_among ids id within)), once_form kept ids rest.1)

new_form : (kept : AllKept) (ids : List ℕ) → has_repeated kept ids ≡ false → (id : ℕ) → Contains ids id
    → slice_get kept.dead id ≡ Some true → ⊥
new_form kept [] h id within dead = Contains-none id within
new_form kept (n ∷ ids) h id within dead =
    let parts = or_parts (is_among_numbers ids n) (is_dead kept n || has_repeated kept ids) h in
    let rest = or_parts (is_dead kept n) (has_repeated kept ids) parts.1 in
    elim (Contains-cases n ids id within) [
      | inl here ↦ false≢true (sym rest.0 ∙ ap (is_dead kept) here ∙ there_mark kept id dead)
      | inr later ↦ new_form kept ids rest.1 id later dead
    ]

member_there : (known : List Regex) (id : ℕ) (m : ℕ × Regex) → member_at known id ≡ Some m
    → slice_get known id ≡ Some m.1
member_there known id m h = step (slice_get known id) h
  where
    step : (o : Option Regex) → option_map (λ (r : Regex). (id, r)) o ≡ Some m → o ≡ Some m.1
    step None h = absurd (Prim.cc (h))
    step (Some r) h =
        let same : ◌≡◌ {A = ℕ × Regex} (id, r) m = Prim.cc (h) in ap (λ (n : ℕ × Regex). Some n.1) same

regex_of : (known : List Regex) (ids : List ℕ) (ms : List (ℕ × Regex)) → together (map (member_at known) ids) ≡ Some ms
    → (id : ℕ) → Contains ids id → (r : Regex) × (slice_get known id ≡ Some r)
regex_of known [] ms are id within = absurd (Contains-none id within)
regex_of known (n ∷ ids) ms are id within =
    let parts = together-parts (member_at known n) (map (member_at known) ids) ms are in
    elim (Contains-cases n ids id within) [
      | inl here ↦
          (parts.first.1, ap (slice_get known) (sym here) ∙ member_there known n parts.first parts.is)
      | inr later ↦ regex_of known ids parts.others parts.rest id later
    ]

-- what is closed
abbrev Settled : AllKept → List ℕ → ℕ → Type 0
Settled kept ids target = Contains ids target ⊎ (slice_get kept.dead target ≡ Some true)

settled_form : (kept : AllKept) (ids : List ℕ) (target : ℕ) → is_settled kept ids target ≡ true
    → Settled kept ids target
settled_form kept ids target h = elim (or_cases (is_among_numbers ids target) (is_dead kept target) h) [
  | inl among ↦ inl (among_contains ids target among)
  | inr dead ↦ inr (mark_there kept.dead target dead)
]

from_settled : (kept : AllKept) (ids : List ℕ) (target : ℕ) → Settled kept ids target
    → is_settled kept ids target ≡ true
from_settled kept ids target (inl among) =
    or_left (is_among_numbers ids target) (is_dead kept target) (contains_among ids target among)
from_settled kept ids target (inr dead) =
    or_right (is_among_numbers ids target) (is_dead kept target) (there_mark kept target dead)

record IsClosed (kept : AllKept) (ids : List ℕ) (id : ℕ) : Type 0 where
  targets : List ℕ
  expanded : targets_in kept.expansions id ≡ Some targets
  settled : (target : ℕ) → Contains targets target → Settled kept ids target

closed_form : (kept : AllKept) (ids : List ℕ) (id : ℕ) → is_closed kept ids id ≡ true → IsClosed kept ids id
closed_form kept ids id h = step (targets_in kept.expansions id) refl h
  where
    step : (o : Option (List ℕ)) → targets_in kept.expansions id ≡ o
        → (elim o as (λ _. Bool) [ None ↦ false | Some targets ↦ list_all (is_settled kept ids) targets ]) ≡ true
        → IsClosed kept ids id
    step None at h = absurd (false≢true h)
    step (Some targets) at h = record {
      targets = targets;
      expanded = at;
      settled = λ target within.
          settled_form kept ids target (all_contained (is_settled kept ids) targets target h within);
    }

from_closed : (kept : AllKept) (ids : List ℕ) (id : ℕ) (targets : List ℕ)
    → slice_get kept.expansions id ≡ Some (Some targets)
    → ((target : ℕ) → Contains targets target → Settled kept ids target) → is_closed kept ids id ≡ true
from_closed kept ids id targets there settled =
    ap (λ o. elim o as (λ _. Bool) [ None ↦ false | Some targets ↦ list_all (is_settled kept ids) targets ])
    (there_targets kept.expansions id targets there)
    ∙ all_from (is_settled kept ids) targets (λ target within. from_settled kept ids target (settled target within))

dead_form : (kept after : AllKept) (ids : List ℕ) → follows_dead kept ids ≡ Ok after
    → StandOnce ids × ((id : ℕ) → Contains ids id → MayDie kept ids id) × (after ≡ with_dead ids kept)
dead_form kept after ids h =
    let l = dead-parts kept after ids h in (
      once_form kept ids l.none_repeated,
      (λ id within.
          let r = regex_of kept.regexes ids l.members l.are id within in
          let m = members-are kept ids ids l.members l.are l.none_alive id r.0 within r.1 in
          let c = closed_form kept ids id m.closed in
          record {
            regex = r.0;
            there = r.1;
            new = new_form kept ids l.none_repeated id within;
            no_empty_word = m.empty_word;
            targets = c.targets;
            expanded = targets_there kept.expansions id c.targets c.expanded;
            closed = c.settled;
          }),
      l.whole,
    )

-- To the test.

from_once : (kept : AllKept) (ids : List ℕ) → StandOnce ids
    → ((id : ℕ) → Contains ids id → slice_get kept.dead id ≡ Some true → ⊥) → has_repeated kept ids ≡ false
from_once kept [] once new = refl
from_once kept (id ∷ ids) once new = false_from_ne_true (has_repeated kept (id ∷ ids)) (λ h.
    elim (or_cases (is_among_numbers ids id) (is_dead kept id || has_repeated kept ids) h) [
      | inl among ↦ once.0 (among_contains ids id among)
      | inr others ↦ elim (or_cases (is_dead kept id) (has_repeated kept ids) others) [
        | inl dead ↦ new id (Contains-first id ids) (mark_there kept.dead id dead)
        | inr rest ↦
            let none = from_once kept ids once.1 (λ other within. new other (Contains-later id ids other within)) in
            false≢true (sym none ∙ rest)
      ]
    ])

-- the members with their regexes
record AreMembers (kept : AllKept) (all ids : List ℕ) : Type 0 where
  members : List (ℕ × Regex)
  are : together (map (member_at kept.regexes) ids) ≡ Some members
  none_alive : first_alive kept all members ≡ None

one_dies : (kept : AllKept) (all : List ℕ) (id : ℕ) (r : Regex) (ms : List (ℕ × Regex)) → nullable r ≡ false
    → is_closed kept all id ≡ true → first_alive kept all ms ≡ None → first_alive kept all ((id, r) ∷ ms) ≡ None
one_dies kept all id r ms empty closed rest =
    ap (λ b. if b then Some holds_empty_word else if is_closed kept all id then first_alive kept all ms
    else Some not_closed) empty
    ∙ ap (λ b. if b then first_alive kept all ms else Some not_closed) closed
    ∙ rest

members_of : (kept : AllKept) (all ids : List ℕ) → ((id : ℕ) → Contains ids id → MayDie kept all id)
    → AreMembers kept all ids
members_of kept all [] die = record { members = []; are = refl; none_alive = refl }
members_of kept all (id ∷ ids) die =
    let m = die id (Contains-first id ids) in
    let rest = members_of kept all ids (λ other within. die other (Contains-later id ids other within)) in
    record {
      members = (id, m.regex) ∷ rest.members;
      are =
          ap (λ o. together (option_map (λ (r : Regex). (id, r)) o ∷ map (member_at kept.regexes) ids)) m.there
          ∙ ap (option_map (λ others. (id, m.regex) ∷ others)) rest.are;
      none_alive =
          one_dies kept all id m.regex rest.members m.no_empty_word
          (from_closed kept all id m.targets m.expanded m.closed) rest.none_alive;
    }

from_dead : (kept after : AllKept) (ids : List ℕ) → StandOnce ids
    → ((id : ℕ) → Contains ids id → MayDie kept ids id) → after ≡ with_dead ids kept → follows_dead kept ids ≡ Ok after
from_dead kept after ids once die is =
    let m = members_of kept ids ids die in
    ap (λ o. elim o as (λ _. Result AllKept Refusal) [ None ↦ Err unknown_id | Some ms ↦ died kept ids ms ]) m.are
    ∙ ap (λ b. if b then Err repeated else elim (first_alive kept ids m.members) as (λ _. Result AllKept Refusal)
    [ Some refusal ↦ Err refusal | None ↦ Ok (with_dead ids kept) ])
    (from_once kept ids once (λ id within. (die id within).new))
    ∙ ap (λ o. elim o as (λ _. Result AllKept Refusal) [ Some refusal ↦ Err refusal | None ↦ Ok (with_dead ids kept) ])
    m.none_alive
    ∙ ap Ok (sym is)

pub dead_exact : DeadIsExact
dead_exact kept after ids = (dead_form kept after ids, λ d. from_dead kept after ids d.0 d.1 d.2)
