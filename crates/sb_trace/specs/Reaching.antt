-- Regexes to which derivatives lead.
use Rattle.std.specs.Prelude.{◌≡◌, ◌⊎◌, ◌↔◌, ℕ, Bool, true, not, nat_eq, List, Some}
use Rattle.std.specs.List.{list_all, list_any}
use Rattle.sb_lang.specs.Regex.{Regex}
use Rattle.sb_lang.specs.Language.{language}
use Rattle.sb_deriv.specs.Faithful.{Memo, entry_of}
use Rattle.sb_deriv.specs.Pieces.{targets_of}
use Rattle.sb_graph.specs.Witness.{IsReachedBy}
use Rattle.sb_trace.specs.Tracking.{Traced, is_expanded_in}
use Rattle.sb_trace.specs.declared.trace.closing.Closure.{Closure}
use Rattle.sb_trace.specs.declared.trace.closing.Closure.TheVariants as closure

abbrev pub is_member : List ℕ → ℕ → Bool
is_member members n = list_any (nat_eq n) members

abbrev pub is_unexpanded : Traced → ℕ → Bool
is_unexpanded t n = not (is_expanded_in t n)

-- the derivative of the regex is known, and each of its targets is a member
pub record LeadsWithin (memo : Memo) (members : List ℕ) (n : ℕ) : Type 0 where
  pub pieces : List (ℕ × ℕ)
  pub derivative : entry_of memo n ≡ Some pieces
  pub within : list_all (is_member members) (targets_of pieces) ≡ true

-- the members lead to members
abbrev pub IsClosed : Memo → List ℕ → Type 0
IsClosed memo members = (n : ℕ) → is_member members n ≡ true → LeadsWithin memo members n

-- some word leads from the regex to that of the number
abbrev pub IsReached : List Regex → Regex → ℕ → Type 0
IsReached rs r n = IsReachedBy rs r (λ v. Unit {0}) n

abbrev pub AreReached : List Regex → Regex → List ℕ → Type 0
AreReached rs r members = (n : ℕ) → is_member members n ≡ true → IsReached rs r n

-- some word of the guard does
abbrev pub IsReachedWithin : List Regex → Regex → Regex → ℕ → Type 0
IsReachedWithin rs r guard n = IsReachedBy rs r (λ word. language guard word ≡ true) n

-- the members are those to which words of the guard lead
abbrev pub AreReachedWithin : List Regex → Regex → Regex → List ℕ → Type 0
AreReachedWithin rs r guard members = (n : ℕ) → (is_member members n ≡ true) ↔ IsReachedWithin rs r guard n

-- each regex that is expanded now was so before, or some word leads to it
abbrev pub ExpandsReached : List Regex → Regex → Traced → Traced → Type 0
ExpandsReached rs r old new =
    (n : ℕ) → is_expanded_in new n ≡ true → (is_expanded_in old n ≡ true) ⊎ IsReached rs r n

-- the same of two regexes, from one of which a word leads to it
abbrev pub ExpandsReachedOfTwo : List Regex → Regex → Regex → Traced → Traced → Type 0
ExpandsReachedOfTwo rs r s old new = (n : ℕ) → is_expanded_in new n ≡ true
    → (is_expanded_in old n ≡ true) ⊎ (IsReached rs r n ⊎ IsReached rs s n)

-- what is said of the list of regexes, where there is one
abbrev pub IfClosed : Closure → (List ℕ → Type 0) → Type 0
IfClosed (closure.Closed members) P = P members.items
IfClosed closure.Spent P = Unit {0}
