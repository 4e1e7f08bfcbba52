-- A regex is numbered, the targets of its derivative are, and then its expansion is put.
use Rattle.std.proofs.Common.{◌≡◌, ◌≢◌, ◌↔◌, ℕ, false, List, get_or, Option, Some, sym, ap, subst, ◌∙◌}
use Rattle.std.proofs.lemmas.Bool.{true≢false}
use Rattle.sb_lit.specs.Budgets.{Spending}
use Rattle.sb_lang.specs.Regex.{Regex}
use Rattle.sb_deriv.specs.Faithful.{Memo, IsKnown, entry_of}
use Rattle.sb_graph.specs.Findings.{is_marked}
use Rattle.sb_proof.specs.declared.line.Class.{Class}
use Rattle.sb_rulebook.specs.Kept.{AllKept, Asked}
use Rattle.sb_trace.specs.declared.trace.Expand.{Expand}
use Rattle.sb_trace.specs.declared.trace.Expand.TheVariants as expand
use Rattle.sb_trace.specs.Putting.{IsCounted}
use Rattle.sb_trace.specs.Tracking.{Traced, Tracks, Traces, TracesUncounted, StaysNumbered, IsExpandedIn, number_in}
use Rattle.sb_trace.specs.Defining.{AreClassesOf}
use Rattle.sb_trace.proofs.Numbering.{number_of_at}
use Rattle.sb_trace.proofs.Puts.{traces_both as uncounted_both}
use Rattle.sb_trace.proofs.Growing.{number_kept, traces_uncounted, traces_both}

-- what the call that puts the line is told
abbrev pub PutsExpansion : ℕ → List Class → Traced → Traced → Spending → Spending → Option (List ℕ) → Option (List ℕ)
    → Type 0
PutsExpansion number classes t u budget left old new =
    (asked : Asked) (rs : List Regex) (memo : Memo) (pieces : List (ℕ × ℕ)) (before : AllKept)
    → IsKnown rs (get_or t.order number 0) pieces → entry_of memo (get_or t.order number 0) ≡ Some pieces
    → AreClassesOf t.order pieces classes → is_marked t.expanded number ≡ false → Tracks rs memo t before
    → IsCounted asked before budget → Traces asked before rs memo u left old new

pub puts_expansion : (rs : List Regex) (t u v w : Traced) (budget left : Spending) (a b c d : Option (List ℕ))
    (regex number : ℕ) (pieces : List (ℕ × ℕ)) (classes : List Class) → StaysNumbered u v
    → number_in u.order regex ≡ Some number → is_marked v.expanded number ≡ false → AreClassesOf v.order pieces classes
    → ((asked : Asked) (memo : Memo) (before : AllKept) → Tracks rs memo t before
    → TracesUncounted asked before rs memo u a b)
    → ((asked : Asked) (memo : Memo) (before : AllKept) → Tracks rs memo u before
    → TracesUncounted asked before rs memo v b c)
    → PutsExpansion number classes v w budget left c d → (asked : Asked) (memo : Memo) (before : AllKept)
    → IsKnown rs regex pieces → entry_of memo regex ≡ Some pieces → Tracks rs memo t before
    → IsCounted asked before budget → Traces asked before rs memo w left a d
puts_expansion rs t u v w budget left a b c d regex number pieces classes stays first new are numbered targets put asked
    memo before known entry tracks counts =
    let same : regex ≡ get_or v.order number 0 =
    sym (number_of_at v.order regex number (number_kept u v regex number stays first)) in
    let there = subst (λ n. IsKnown rs n pieces) same known in
    let kept = subst (λ n. entry_of memo n ≡ Some pieces) same entry in
    traces_both asked before rs rs memo memo v w budget left a c d
    (traces_uncounted asked before rs memo v budget a c counts
    (uncounted_both asked before rs memo u v a b c (numbered asked memo before tracks)
    (λ after. targets asked memo after)))
    (λ after tracks counts. put asked rs memo pieces after there kept are new tracks counts)

pub not_expanded : (t u : Traced) (regex number : ℕ) → StaysNumbered t u → number_in u.order regex ≡ Some number
    → ((n : ℕ) → is_marked u.expanded n ≡ is_marked t.expanded n) → is_marked u.expanded number ≡ false
    → IsExpandedIn t regex → ⊥
not_expanded t u regex number stays first marks new e =
    let both : Some e.0 ≡ Some number = sym (number_kept t u regex e.0 stays e.1) ∙ first in
    let same : e.0 ≡ number = Prim.cc (both) in
    true≢false (sym e.2 ∙ sym (marks e.0) ∙ ap (is_marked u.expanded) same ∙ new)

pub anew_is_not_already : (e : Expand) (P : Type 0) → (P → ⊥) → e ≢ expand.Already → (e ≡ expand.Already) ↔ P
anew_is_not_already e P new anew = (λ is. absurd (anew is), λ p. absurd (new p))
