-- Private: what holds between two entries, and what an entry keeps.
use Rattle.std.specs.Prelude.{◌≡◌, ℕ, ◌<◌, ◌≤◌, Bool, true, false, ◌&&◌, nat_le, List, [], ◌∷◌, ◌++◌, map, take, drop, length, Option, Some, None, Result}
use Rattle.std.specs.List.{list_all, All}
use Rattle.sb_meaning.specs.Terms.{Sort, Term}
use Rattle.sb_script.specs.Brought.{is_brought_sort}
use Rattle.sb_term.specs.Symbols.{sort_in}
use Rattle.sb_script.specs.Names.{Name}
use Rattle.sb_script.specs.State as meaning
use Rattle.sb_script.specs.State.{Assumption}
use Rattle.sb_term.specs.declared.assertion.Assertion.{Assertion}
use Rattle.sb_term.specs.Numbered.{term_at, Extends}
use Rattle.sb_term.specs.Serials.{all_below}
use Rattle.sb_sorts.specs.Scopes.{ScopeNames, constants_among, AreBodies}
use Rattle.sb_sorts.specs.declared.scope.Named.{Named}
use Rattle.sb_sorts.specs.declared.scope.Named.TheVariants as code
use Rattle.sb_stack.specs.declared.level.Level.{Level}
use Rattle.sb_stack.specs.declared.stack.Step.{Step}
use Rattle.sb_stack.specs.Speaking.{speaks_of, are_assumed}
use Rattle.sb_stack.specs.Stacked.{Stacked, HasNumberBelow, IsLonger, assertion_in, front_names, have_levels}
use Rattle.sb_stack.specs.Steps.{IsMoved}

-- levels began one within the other, and the innermost with at most so many names and assertions
abbrev pub are_nested : List Level → ℕ → ℕ → Bool
are_nested [] names assertions = true
are_nested (l ∷ ls) names assertions =
    (nat_le l.names names && nat_le l.assertions assertions) && are_nested ls l.names l.assertions

-- the assertion, where it is no mark, speaks of these constants alone
abbrev pub asserts_of : List (ℕ × Sort) → meaning.Assertion → Bool
asserts_of cs (meaning.asserted t) = speaks_of cs t
asserts_of cs meaning.a_mark = true

-- each assertion speaks of the constants of its level and of those below alone, or of all where names are global
abbrev pub speak_of_theirs : Bool → List Level → List (Name × Named) → List meaning.Assertion → Bool
speak_of_theirs global [] names assertions = list_all (asserts_of (constants_among names)) assertions
speak_of_theirs global (l ∷ ls) names assertions =
    list_all (asserts_of (constants_among names)) (drop l.assertions assertions)
    && speak_of_theirs global ls (front_names global l.names names) (take l.assertions assertions)

-- a body speaks of these constants alone
abbrev pub kind_speaks : List (ℕ × Sort) → List Term → Named → Bool
kind_speaks cs ts (code.Constant serial sort) = true
kind_speaks cs ts (code.Definition d) = speaks_of cs (term_at ts d.body)
kind_speaks cs ts code.Marked = true

-- each body speaks of these constants, and of those in front of it, alone
abbrev pub speak_before : List (ℕ × Sort) → List (Name × Named) → List Term → Bool
speak_before cs [] ts = true
speak_before cs (n ∷ ns) ts = kind_speaks cs ts n.1 && speak_before (cs ++ constants_among (n ∷ [])) ns ts

-- Bodies and assertions have numbers of the table, whose terms speak of declared constants. Assertions stand on their
-- levels, and speak of what was declared there; a body speaks of what was declared before it. The sorts of constants are
-- read. There is no name before something is said.
pub record IsKept (begun : Bool) (scope : ScopeNames) (table : List Term) (assertions : List Assertion)
    (levels : List Level) : Type 0 where
  pub fresh : begun ≡ false → scope.names ≡ []
  pub bodies : AreBodies table scope
  pub defined : speak_before [] scope.names table ≡ true
  pub numbers : All (HasNumberBelow (length table)) assertions
  pub below : all_below (length scope.sorts) table ≡ true
  pub brought : list_all (λ sort. is_brought_sort (sort_in sort)) scope.sorts ≡ true
  pub nested : are_nested levels (length scope.names) (length assertions) ≡ true
  pub levelled : have_levels levels assertions ≡ true
  pub theirs : speak_of_theirs scope.global levels scope.names (map (assertion_in table) assertions) ≡ true

-- and the assumptions of the last check are of live constants
pub record IsStacked (begun : Bool) (scope : ScopeNames) (table : List Term) (assertions : List Assertion)
    (levels : List Level) (assumptions : List Assumption) : Type 0 where
  pub kept : IsKept begun scope table assertions levels
  pub assumed : are_assumed (constants_among scope.names) assumptions ≡ true

-- what is known by number and by place stays so
pub record Keeps (old new : Stacked) : Type 0 where
  pub extends : Extends old.table new.table
  pub grows : IsLonger old.assertions new.assertions
  pub words : new.words ≡ old.words
  pub constants : length old.scope.sorts ≤ length new.scope.sorts

-- and so does what is known by the place of an assertion that is left, where levels are left
pub record KeepsBy {E : Type 0} (result : Result Step E) (old new : Stacked) : Type 0 where
  pub extends : Extends old.table new.table
  pub moved : IsMoved result old.assertions new.assertions
  pub words : new.words ≡ old.words
  pub constants : length old.scope.sorts ≤ length new.scope.sorts

-- the number, where there is one, is of a term of the table that speaks of live constants alone
abbrev pub StandsFor : Stacked → Option ℕ → Type 0
StandsFor kept (Some id) =
    (id < length kept.table) × (speaks_of (constants_among kept.scope.names) (term_at kept.table id) ≡ true)
StandsFor kept None = Unit {0}

-- where levels are left: what is known by number stays, and what is known by the place of an assertion that is left
pub record Leaves (old new : Stacked) : Type 0 where
  pub extends : Extends old.table new.table
  pub front : IsLonger new.assertions old.assertions
  pub words : new.words ≡ old.words
  pub constants : length old.scope.sorts ≤ length new.scope.sorts
