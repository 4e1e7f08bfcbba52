-- Marks of a trace that is seen from inside, `u`, and by its value, `t`.
use Rattle.std.proofs.Common.{◌≡◌, ℕ, ◌<◌, ◌≤◌, Bool, true, false, nat_eq, cond, ◌||◌, length, get_or, set, refl, sym, ap, subst, ◌∙◌, arith}
use Rattle.std.proofs.lemmas.List.{get_or_default}
use Rattle.sb_graph.specs.Findings.{is_marked}
use Rattle.sb_trace.specs.Tracking.{Traced}
use Rattle.sb_trace.proofs.ExpansionLines.{mark_set}
use Rattle.sb_trace.proofs.DeadLines.{cond_or}

module _ (t u : Traced) (same : u ≡ t) where
  pub within_expanded : (k : ℕ) → length u.order ≤ length u.expanded → k < length t.order → k < length u.expanded
  within_expanded k long l =
      let h : k < length u.order = subst (λ (v : Traced). k < length v.order) (sym same) l in omega (arith, h, long)

  pub expanded_read : (k : ℕ) (b : Bool) → k < length u.expanded → b ≡ get_or u.expanded k b
      → b ≡ is_marked t.expanded k
  expanded_read k b l is =
      is ∙ get_or_default u.expanded k b false l ∙ ap (λ (v : Traced). is_marked v.expanded k) same

  pub expanded_after : (k n : ℕ) → k < length u.expanded → is_marked t.expanded n ≡ true
      → is_marked (set u.expanded k true) n ≡ true
  expanded_after k n l h =
      mark_set u.expanded k n l
      ∙ either (nat_eq n k) (is_marked u.expanded n) (ap (λ (v : Traced). is_marked v.expanded n) same ∙ h)
    where
      either : (b m : Bool) → m ≡ true → cond b true m ≡ true
      either true m h = refl
      either false m h = h

  pub expanded_set : (k n : ℕ) → k < length u.expanded
      → is_marked (set u.expanded k true) n ≡ (nat_eq n k || is_marked t.expanded n)
  expanded_set k n l =
      mark_set u.expanded k n l ∙ cond_or (nat_eq n k) (is_marked u.expanded n)
      ∙ ap (λ (v : Traced). nat_eq n k || is_marked v.expanded n) same
