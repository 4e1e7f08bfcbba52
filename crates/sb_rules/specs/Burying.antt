-- Private: the line of dead regexes, over what is kept of regexes alone.
use Rattle.std.specs.Prelude.{◌≡◌, ℕ, Bool, true, false, ◌||◌, nat_eq, if◌then◌else◌, List, [], ◌∷◌, get_or, slice_get, position, Option, Some, None, unwrap_or}
use Rattle.std.specs.List.{list_all, list_any}
use Rattle.indexmap.specs.IndexSet.{IndexSet}
use Rattle.sb_lang.specs.Regex.{Regex}
use Rattle.sb_lang.specs.Derivative.{nullable}
use Rattle.sb_regex.specs.Numbered.{regex_at}
use Rattle.sb_rulebook.specs.Refusals as rules
use Rattle.sb_rulebook.specs.Kept.{is_among_numbers, targets_in}
use Rattle.sb_rules.specs.Known.{Known}

abbrev pub is_dead_by : List Bool → ℕ → Bool
is_dead_by dead n = unwrap_or (slice_get dead n) false

-- a member is twice among these, or dead before
abbrev pub has_twice : List Bool → List ℕ → Bool
has_twice dead [] = false
has_twice dead (n ∷ ns) = is_among_numbers ns n || (is_dead_by dead n || has_twice dead ns)

-- the set of the members, each of which is new
abbrev pub AreMembers : {S : Type 0} → List Bool → List ℕ → Option (IndexSet ℕ S) → Type 0
AreMembers dead ns None = has_twice dead ns ≡ true
AreMembers dead ns (Some members) =
    (has_twice dead ns ≡ false) × ((n : ℕ) → list_any (nat_eq n) members.keys ≡ is_among_numbers ns n)

abbrev pub is_settled_by : List Bool → List ℕ → ℕ → Bool
is_settled_by dead members n = list_any (nat_eq n) members || is_dead_by dead n

abbrev pub are_settled_by : List Bool → List ℕ → Option (List ℕ) → Bool
are_settled_by dead members None = false
are_settled_by dead members (Some targets) = list_all (is_settled_by dead members) targets

-- why a member may not be dead
abbrev pub alive_at : List Regex → Known → List ℕ → ℕ → Option rules.Refusal
alive_at rs known members n =
    if nullable (regex_at rs (get_or known.order n 0)) then Some rules.holds_empty_word
    else if are_settled_by known.dead members (targets_in known.expansions n) then None
    else Some rules.not_closed

-- the same of the first member that may not
abbrev pub first_alive_of : List Regex → Known → List ℕ → List ℕ → Option rules.Refusal
first_alive_of rs known members [] = None
first_alive_of rs known members (n ∷ ns) =
    elim (alive_at rs known members n) [ Some refusal ↦ Some refusal | None ↦ first_alive_of rs known members ns ]

-- whether a number of the arena is kept and dead
abbrev pub has_dead : Known → ℕ → Bool
has_dead known id =
    elim (position (nat_eq id) known.order) as (λ _. Bool) [ None ↦ false | Some n ↦ is_dead_by known.dead n ]
