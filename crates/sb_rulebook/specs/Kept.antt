-- What a proof keeps: all that its lines have established so far.
use Rattle.std.specs.Prelude.{ℕ, ◌+◌, ◌-◌, ◌^◌, Bool, true, false, ◌==◌, nat_lt, if◌then◌else◌, List, [], ◌∷◌, ◌++◌, map, set, slice_get, Option, Some, None, unwrap_or, Result, Ok, Err}
use Rattle.std.specs.List.{list_any}
use Rattle.std.specs.Ordering.{nat_cmp}
use Rattle.std.specs.BTreeSet.{insert_key}
use Rattle.sb_lit.specs.declared.clause.Lit.{Lit}
use Rattle.sb_lit.specs.Kept.{Kept, kept_up_to}
use Rattle.sb_lang.specs.Regex.{Regex}
use Rattle.sb_meaning.specs.Terms.{Sort, Term}
use Rattle.sb_rulebook.specs.Refusals.{Refusal, wrong_verdict}
use Rattle.sb_rulebook.specs.Atoms.{Atom}

-- all that is kept, by numbers from 0
pub record AllKept : Type 0 where
  -- the format of the proof
  pub format : ℕ
  pub regexes : List Regex
  -- of each regex the targets of its expansion, where it is expanded, and whether it is known to have no word
  pub expansions : List (Option (List ℕ))
  pub dead : List Bool
  pub atoms : List Atom
  pub clauses : Kept
  -- of each clause the places of the live assertions on which it rests, ascending
  pub rests : List (List ℕ)
  -- the lines that were counted since the last verdict
  pub counted : ℕ

-- at first, in a format
abbrev pub nothing_kept : ℕ → AllKept
nothing_kept format = record {
  format = format;
  regexes = [];
  expansions = [];
  dead = [];
  atoms = [];
  clauses = [];
  rests = [];
  counted = 0;
}

abbrev pub is_among_numbers : List ℕ → ℕ → Bool
is_among_numbers ns n = list_any (λ m. m == n) ns

abbrev pub is_dead : AllKept → ℕ → Bool
is_dead kept r = unwrap_or (slice_get kept.dead r) false

-- the targets of a regex that is expanded
abbrev pub targets_in : List (Option (List ℕ)) → ℕ → Option (List ℕ)
targets_in expansions r = unwrap_or (slice_get expansions r) None

-- with one more regex, which is neither expanded nor dead
abbrev pub with_regex : Regex → AllKept → AllKept
with_regex r kept =
    record kept {
      regexes = kept.regexes ++ r ∷ [];
      expansions = kept.expansions ++ None ∷ [];
      dead = kept.dead ++ false ∷ [];
    }

abbrev pub with_expansion : ℕ → List ℕ → AllKept → AllKept
with_expansion r targets kept = record kept { expansions = set kept.expansions r (Some targets) }

abbrev pub marked : List ℕ → List Bool → List Bool
marked [] dead = dead
marked (r ∷ rs) dead = set (marked rs dead) r true

abbrev pub with_dead : List ℕ → AllKept → AllKept
with_dead rs kept = record kept { dead = marked rs kept.dead }

-- What the script says where a line stands.
pub record Asked : Type 0 where
  -- the live assertions, each with its level: a term, or none of a mark
  pub live : List (Option Term × ℕ)
  -- the sorts of all constants declared so far, by serial
  pub sorts : List Sort
  -- the limit in force
  pub limit : ℕ

-- how many lines may be counted in a check: 0 stands for 2^64 - 1
abbrev pub most_counted : Asked → ℕ
most_counted asked = if asked.limit == 0 then 2 ^ 64 - 1 else asked.limit

-- with one more counted line, unless it is past the limit
abbrev pub counting : Asked → AllKept → Result AllKept Refusal
counting asked kept = if nat_lt kept.counted (most_counted asked) then Ok (record kept { counted = kept.counted + 1 })
    else Err wrong_verdict

-- with one more clause, of a level, that rests on these assertions
abbrev pub with_clause : AllKept → List Lit → ℕ → List ℕ → AllKept
with_clause kept clause level rests =
    record kept {
      clauses = kept.clauses ++ Some (record { literals = clause; level = level }) ∷ [];
      rests = kept.rests ++ rests ∷ [];
    }

-- the assertions on which a clause rests
abbrev pub rests_of : AllKept → ℕ → List ℕ
rests_of kept id = unwrap_or (slice_get kept.rests id) []

-- ascending lists put together, each number once
abbrev pub with_number : ℕ → List ℕ → List ℕ
with_number n ns = insert_key nat_cmp ns n

abbrev pub with_numbers : List ℕ → List ℕ → List ℕ
with_numbers [] ms = ms
with_numbers (n ∷ ns) ms = with_number n (with_numbers ns ms)

-- what any of the clauses rests on
abbrev pub rests_of_any : AllKept → List ℕ → List ℕ
rests_of_any kept [] = []
rests_of_any kept (id ∷ ids) = with_numbers (rests_of kept id) (rests_of_any kept ids)

-- after a verdict the count begins again
abbrev pub count_again : AllKept → AllKept
count_again kept = record kept { counted = 0 }

-- a clause of a level that is left is dropped; its number stays its own
abbrev pub dropped_above : ℕ → AllKept → AllKept
dropped_above level kept = record kept { clauses = kept_up_to level kept.clauses }

-- all clauses are dropped
abbrev pub all_dropped : AllKept → AllKept
all_dropped kept = record kept { clauses = map (λ clause. None) kept.clauses }
