-- The rules of the fragment that assertions break, as far as it is decided so far.
use Rattle.std.specs.Prelude.{◌≡◌, ℕ, ◌<◌, Bool, true, false, not, ◌&&◌, List, Option, Some, None, IfSome}
use Rattle.std.specs.List.{list_all, list_any}
use Rattle.sb_meaning.specs.Terms.{Term}
use Rattle.sb_script.specs.Brought.{a_check_of, is_brought}
use Rattle.sb_script.specs.Fragment.{fits, in_fragment, is_decided, is_unmarked}
use Rattle.sb_script.specs.Rules.{repeats_variable, lacks_ground}
use Rattle.sb_script.specs.State.{State, Assertion, asserted, a_mark, live}
use Rattle.sb_term.specs.declared.assertion.Assertion as code
use Rattle.sb_term.specs.Numbered.{term_at}
use Rattle.sb_fragment.specs.declared.rules.Standing.{Standing}
use Rattle.sb_fragment.specs.declared.rules.Standing.TheVariants.{Inside, Outside}
use Rattle.sb_fragment.specs.declared.rules.Reason.{Reason}
use Rattle.sb_fragment.specs.declared.rules.Reason.TheVariants.{Marked, RepeatedVariable, NotGround, NotBrought, TooLarge}

-- the assertion, among the terms of a table
abbrev pub assertion_in : List Term → code.Assertion → Assertion
assertion_in ts a = elim a.term [ Some id ↦ asserted (term_at ts id) | None ↦ a_mark ]

abbrev pub HasNumberBelow : ℕ → code.Assertion → Type 0
HasNumberBelow n a = IfSome a.term (λ id. id < n)

-- a check is decided exactly where each live assertion is
abbrev pub FragmentIsOfEach : Type 0
FragmentIsOfEach = (s : State) → in_fragment s ≡ list_all is_decided (live s)

-- the term keeps the two rules that it may break by its form
abbrev pub keeps_both : Term → Bool
keeps_both t = not (repeats_variable t) && not (lacks_ground t)

-- the assertion breaks the rule
abbrev pub is_broken : Reason → Assertion → Bool
is_broken Marked a = not (is_unmarked a)
is_broken RepeatedVariable (asserted t) = repeats_variable t
is_broken NotGround (asserted t) = lacks_ground t
is_broken NotBrought (asserted t) = not (is_brought (a_check_of t)) && keeps_both t
is_broken TooLarge (asserted t) = (is_brought (a_check_of t) && not (fits t)) && keeps_both t
is_broken _ a_mark = false

-- the rule that an assertion breaks, and none where it is decided
abbrev pub IsBrokenBy : Assertion → Option Reason → Type 0
IsBrokenBy a None = is_decided a ≡ true
IsBrokenBy a (Some reason) = (is_decided a ≡ false) × (is_broken reason a ≡ true)

-- all are decided, or one breaks the rule
abbrev pub IsStanding : List Assertion → Standing → Type 0
IsStanding assertions (Inside problem) = list_all is_decided assertions ≡ true
IsStanding assertions (Outside reason) =
    (list_all is_decided assertions ≡ false) × (list_any (is_broken reason) assertions ≡ true)
