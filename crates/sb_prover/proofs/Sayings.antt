-- Verdicts that may be said.
use Rattle.sb_prover.proofs.Words.{KeptClause, ◌≡◌, ℕ, ◌^◌, ◌-◌, true, false, not, cond, ◌&&◌, ◌==◌, Option, Some, None, ap, ap₂, ◌∙◌, AllKept, Question, Refusal, are_live, has_rests, kept_at, most_counted, newest_format, refusal_of, refutes, said_unknown, said_unsat, said_unsupported, unknown_id, unless_wrong}
use Rattle.sb_rulebook.specs.Verdicts.{is_listed}

pub unsat-right : (q : Question) (kept : AllKept) (id : ℕ) (clause : KeptClause) → q.inside ≡ true
    → kept.format ≡ newest_format → kept_at kept.clauses id ≡ Some clause → refutes q kept clause ≡ true
    → refusal_of q kept (said_unsat id None) ≡ None
unsat-right q kept id clause inside format there refuting =
    ap (λ o. elim o as (λ _. Option Refusal) [
      | None ↦ Some unknown_id
      | Some clause ↦ cond (are_live q kept None)
          (unless_wrong (q.inside && (is_listed kept id None && refutes q kept clause))) (Some unknown_id)
    ]) there
    ∙ ap₂ (λ b f. unless_wrong (b && (not (has_rests f) && refutes q kept clause))) inside format
    ∙ ap unless_wrong refuting

pub unknown-right : (q : Question) (kept : AllKept) → q.inside ≡ true → most_counted q.asked ≡ 2 ^ 64 - 1
    → kept.counted ≡ 2 ^ 64 - 1 → refusal_of q kept (said_unknown (2 ^ 64 - 1)) ≡ None
unknown-right q kept inside limit counted =
    ap₂ (λ (m c : ℕ). unless_wrong (q.inside && (((2 ^ 64 - 1) == m) && (c == (2 ^ 64 - 1))))) limit counted
    ∙ ap (λ b. unless_wrong (b && true)) inside

pub unsupported-right : (q : Question) (kept : AllKept) → q.inside ≡ false → refusal_of q kept said_unsupported ≡ None
unsupported-right q kept outside = ap (λ b. unless_wrong (not b)) outside
