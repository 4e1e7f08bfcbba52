-- Private: each kept clause stands in the list of one of its literals, where older ones stand behind newer ones.
use Rattle.std.specs.Prelude.{◌≡◌, ◌≢◌, ◌⊎◌, ℕ, ◌+◌, ◌==◌, ◌<◌, ◌≤◌, Bool, true, false, ◌&&◌, List, [], length, slice_index_or, slice_set, Option, Some, None}
use Rattle.std.specs.List.{list_all, list_any}
use mathlib.Core.Bool.{beq}
use Rattle.sb_lit.specs.declared.clause.Lit.{Lit}
use Rattle.sb_lit.specs.Clauses.{negation}
use Rattle.sb_lit.specs.Kept.{Kept, KeptClause, kept_at}
use Rattle.sb_clauses.specs.declared.occurrences.Node.{Node}
use Rattle.sb_clauses.specs.Watching.{list_of}

-- the literals are one, as `==` finds out
abbrev pub are_equal : Lit → Lit → Bool
are_equal l m = (l.atom == m.atom) && beq l.positive m.positive

-- what a read past the end gives
abbrev pub no_node : Node
no_node = record { list = 0; before = None; behind = None }

abbrev pub node_at : List Node → ℕ → Node
node_at nodes id = slice_index_or nodes id no_node

-- the number that came to the list last
abbrev pub head_at : List (Option ℕ) → ℕ → Option ℕ
head_at heads list = slice_index_or heads list None

-- if there is a number, it is below this one, and stands in the list
abbrev pub IsIn : List Node → ℕ → ℕ → Option ℕ → Type 0
IsIn nodes bound list None = Unit {0}
IsIn nodes bound list (Some id) = (id < bound) × ((node_at nodes id).list ≡ list)

-- there is a number, which is this one or a greater one
pub record IsReached (id : ℕ) (start : Option ℕ) : Type 0 where
  pub number : ℕ
  pub there : start ≡ Some number
  pub above : id ≤ number

-- how many numbers may be on the way
abbrev pub steps_of : Option ℕ → ℕ
steps_of None = 0
steps_of (Some id) = id + 1

-- the list is that of a literal of the clause, or list 1 where it has none
abbrev pub IsHome : List Lit → ℕ → Type 0
IsHome clause list = (list_any (λ l. list_of l == list) clause ≡ true) ⊎ ((clause ≡ []) × (list ≡ 1))

-- Each list begins with one of its numbers, and each number leads to an older one of its list. No kept clause of the
-- list is passed over on the way.
pub record AreFound (kept : Kept) (heads : List (Option ℕ)) (nodes : List Node) : Type 0 where
  pub enough : length kept ≤ length nodes
  pub begins : (list : ℕ) → IsIn nodes (length kept) list (head_at heads list)
  pub leads : (n : ℕ) → n < length kept → IsIn nodes n (node_at nodes n).list (node_at nodes n).before
  pub homed : (id : ℕ) (clause : KeptClause) → kept_at kept id ≡ Some clause
      → IsHome clause.literals (node_at nodes id).list
  pub newest : (id : ℕ) (clause : KeptClause) → kept_at kept id ≡ Some clause
      → IsReached id (head_at heads (node_at nodes id).list)
  pub older : (n id : ℕ) (clause : KeptClause) → n < length kept → kept_at kept id ≡ Some clause
      → (node_at nodes id).list ≡ (node_at nodes n).list → id < n → IsReached id (node_at nodes n).before

-- the nodes have the same lists, and lead to the same numbers
pub record AreSame (old new : List Node) : Type 0 where
  pub len : length new ≡ length old
  pub lists : (k : ℕ) → (node_at new k).list ≡ (node_at old k).list
  pub befores : (k : ℕ) → (node_at new k).before ≡ (node_at old k).before

-- the same but at one place, which leads to another number
pub record IsLed (old new : List Node) (at : ℕ) (before : Option ℕ) : Type 0 where
  pub len : length new ≡ length old
  pub lists : (k : ℕ) → (node_at new k).list ≡ (node_at old k).list
  pub here : (node_at new at).before ≡ before
  pub befores : (k : ℕ) → k ≢ at → (node_at new k).before ≡ (node_at old k).before

-- a number came to a list
pub record IsPut (old_heads : List (Option ℕ)) (old : List Node) (new_heads : List (Option ℕ)) (new : List Node)
    (number list : ℕ) : Type 0 where
  pub heads : new_heads ≡ slice_set old_heads list (Some number)
  pub len : length new ≡ length old
  pub here : (node_at new number).list ≡ list
  pub before : (node_at new number).before ≡ head_at old_heads list
  pub lists : (k : ℕ) → k ≢ number → (node_at new k).list ≡ (node_at old k).list
  pub befores : (k : ℕ) → k ≢ number → (node_at new k).before ≡ (node_at old k).before

-- with room for more, and otherwise the same
pub record IsWider (old_heads : List (Option ℕ)) (old : List Node) (new_heads : List (Option ℕ)) (new : List Node)
    : Type 0 where
  pub heads : (list : ℕ) → head_at new_heads list ≡ head_at old_heads list
  pub more : length old ≤ length new
  pub same : (k : ℕ) → k < length old → node_at new k ≡ node_at old k

-- the literals are all false where those are true that pass
abbrev pub are_false_by : (Lit → Bool) → List Lit → Bool
are_false_by has literals = list_all (λ l. has (negation l)) literals

-- the same of the clause of a place, if there is one
abbrev pub is_false_place : (Lit → Bool) → Option KeptClause → Bool
is_false_place has None = false
is_false_place has (Some clause) = are_false_by has clause.literals

-- no kept clause of the list is false
abbrev pub HasNoneIn : Kept → List Node → (Lit → Bool) → ℕ → Type 0
HasNoneIn kept nodes has list = (id : ℕ) (clause : KeptClause) → kept_at kept id ≡ Some clause
    → (node_at nodes id).list ≡ list → are_false_by has clause.literals ≡ false

-- each one that is false stands at this number or is an older one
abbrev pub AreOlder : Kept → List Node → (Lit → Bool) → ℕ → Option ℕ → Type 0
AreOlder kept nodes has list start = (id : ℕ) (clause : KeptClause) → kept_at kept id ≡ Some clause
    → (node_at nodes id).list ≡ list → are_false_by has clause.literals ≡ true → IsReached id start

-- no kept clause is false
abbrev pub HasNone : Kept → (Lit → Bool) → Type 0
HasNone kept has = (id : ℕ) (clause : KeptClause) → kept_at kept id ≡ Some clause
    → are_false_by has clause.literals ≡ false

-- the list of a literal of the clause, none where it has no literals
abbrev pub IsHomeSoFar : List Lit → Option ℕ → Type 0
IsHomeSoFar clause None = clause ≡ []
IsHomeSoFar clause (Some list) = list_any (λ l. list_of l == list) clause ≡ true
