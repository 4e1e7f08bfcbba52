-- Why a verdict does not follow.
use Rattle.std.proofs.Common.{◌≡◌, ℕ, Bool, ◌&&◌, ◌==◌, ◌-◌, ◌^◌, List, Option, Some, None, option_map, Result, IfOk, refl, ap, sym, ◌∙◌}
use Rattle.std.specs.declared.alloc.AllocError.{AllocError}
use Rattle.std.specs.List.{list_all}
use Rattle.sb_lit.specs.declared.clause.Lit.{Lit}
use Rattle.sb_lit.specs.Kept.{KeptClause, kept_at}
use Rattle.sb_rulebook.specs.Lines.{Said, said_unsat, said_unknown}
use Rattle.sb_rulebook.specs.Kept.{AllKept}
use Rattle.sb_rules.specs.declared.kept.Kept.{Kept}
use Rattle.sb_rules.specs.Kept.{kept_in}
use Rattle.sb_check.specs.declared.reason.Reason.{Reason}
use Rattle.sb_check.specs.Reasons.{reason_in}
use Rattle.sb_stack.specs.Stacked.{Stacked, state_of, question_of}
use Rattle.sb_script.specs.Fragment.{in_fragment}
use Rattle.sb_rulebook.specs.Verdicts.{Question, refusal_of, denies_assumption, is_listed, unless_wrong}

pub of_clause : (q : Question) (kept : AllKept) (id : ℕ) (clause : KeptClause) → kept_at kept.clauses id ≡ Some clause
    → kept.format ≡ 1 → refusal_of q kept (said_unsat id None)
    ≡ unless_wrong (q.inside && list_all (denies_assumption q kept) clause.literals)
of_clause q kept id clause h format = rw (h, refusal_of) (rw (format, is_listed) refl)

-- by its literals, as they were found
pub of_literals : (q : Question) (kept : AllKept) (id : ℕ) (ls : List Lit)
    → Some ls ≡ option_map (λ (clause : KeptClause). clause.literals) (kept_at kept.clauses id)
    → kept.format ≡ 1
    → refusal_of q kept (said_unsat id None) ≡ unless_wrong (q.inside && list_all (denies_assumption q kept) ls)
of_literals q kept id ls h format = at (kept_at kept.clauses id) refl h
  where
    same : (xs ys : List Lit) → Some xs ≡ Some ys → xs ≡ ys
    same xs ys e = Prim.cc (e)

    at : (o : Option KeptClause) → kept_at kept.clauses id ≡ o
        → Some ls ≡ option_map (λ (clause : KeptClause). clause.literals) o
        → refusal_of q kept (said_unsat id None) ≡ unless_wrong (q.inside && list_all (denies_assumption q kept) ls)
    at None is g = absurd (Prim.cc (g))
    at (Some clause) is g = of_clause q kept id clause is format
        ∙ ap (λ xs. unless_wrong (q.inside && list_all (denies_assumption q kept) xs)) (sym (same ls clause.literals g))

-- what a verdict says, as the rules have it
pub found_as : (r : Result (Option Reason) AllocError) (q : Question) (k : Kept) (a b : Said) → a ≡ b
    → IfOk r (λ found. (others : AllKept) → others.format ≡ 1
    → refusal_of q (kept_in k others) b ≡ option_map reason_in found)
    → IfOk r (λ found. (others : AllKept) → others.format ≡ 1
    → refusal_of q (kept_in k others) a ≡ option_map reason_in found)
found_as r q k a b e h = rw e h

pub unknown_found : (stack : Stacked) (kept : AllKept) (said : Said) (n : ℕ) (inside used : Bool)
    → said ≡ said_unknown n → inside ≡ in_fragment (state_of stack) → used ≡ (n == 2 ^ 64 - 1) && (kept.counted == n)
    → refusal_of (question_of stack) kept said ≡ unless_wrong (inside && used)
unknown_found stack kept said n inside used is i u = rw (is, i, u) refl
