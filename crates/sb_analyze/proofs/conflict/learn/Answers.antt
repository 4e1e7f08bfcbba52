use Rattle.std.proofs.Common.{◌≡◌, ◌++◌, ◌∷◌, [], ℕ, refl, sym, ◌∙◌, ap, subst}
use Rattle.sb_lit.specs.declared.clause.Lit.{Lit}
use Rattle.sb_lit.specs.Clauses.{negation}
use Rattle.sb_lit.specs.Kept.{KeptClause}
use Rattle.sb_analyze.specs.Reasons.{highest}
use Rattle.sb_analyze.specs.Learning.{IsTeaching}
use Rattle.sb_analyze.specs.Shown.{shown}
use Rattle.sb_analyze.specs.Explained.{IsWalked, IsFirstUip, IsMadeOf}
use Rattle.sb_analyze.proofs.Starts.{same_clause, walked_begin}
use Rattle.sb_analyze.proofs.Lessons.{lesson_from}
use Rattle.sb_analyze.proofs.conflict.learn.Goals as goal

pub resolve_to_first_uip-requires-clause-walked : goal.resolve_to_first_uip-requires-clause-walked
resolve_to_first_uip-requires-clause-walked c =
    let walked = walked_begin c.args.clauses.now c.args.trail.now c.literals-entries.ensures.trail c.args.conflict.0
    c.requires.conflict.0 c.requires.conflict.1 c.in-Some.literals.now c.highest_kept.result
    (shown c.new-analysis.result) (shown c.resolve.new.self) c.in-Some.ensures c.highest_kept.ensures
    c.new-analysis.ensures c.in_ok-resolve.ensures in
    subst (λ (n : ℕ). IsWalked c.args.clauses.now c.args.trail.now.literals n c.args.trail.now.literals
    (shown c.resolve.new.self)) (sym walked.here) walked

pub returns : goal.returns
returns c = λ clause there.
    let teaching = subst (λ (k : KeptClause). IsTeaching c.args.clauses.now c.args.trail.now.literals c.args.conflict.0
    k) (same_clause c.args.clauses.now c.args.conflict.0 c.requires.conflict.0 clause c.requires.conflict.1.there
    there) c.requires.conflict.1 in
    let walked = walked_begin c.args.clauses.now c.args.trail.now c.literals-entries.ensures.trail c.args.conflict.0
    clause teaching c.in-Some.literals.now c.highest_kept.result
    (shown c.new-analysis.result) (shown c.resolve.new.self) c.in-Some.ensures c.highest_kept.ensures
    c.new-analysis.ensures c.in_ok-resolve.ensures in
    let before = subst (λ (n : ℕ). IsFirstUip c.args.clauses.now c.args.trail.now.literals n
    (shown c.resolve_to_first_uip.new.self) c.in_ok-uip.uip) walked.here c.in_ok-uip.ensures in
    let uip = c.in_ok-minimise.ensures _ _ before in
    let clause_is : c.push.new.self.items ≡ c.minimise.new.self.clause.items ++ negation c.in_ok-uip.uip ∷ [] =
    c.in_ok-push.ensures.items
    ∙ ap (λ (l : Lit). c.minimise.new.self.clause.items ++ l ∷ []) c.negated.ensures in
    lesson_from c.args.clauses.now c.args.trail.now.literals c.literals-entries.ensures.trail.distinct c.args.conflict.0
    clause teaching
    (shown c.minimise.new.self) c.in_ok-uip.uip uip
    (record (shown c.minimise.new.self) { clause = c.push.new.self.items }) clause_is refl c.lesson.result
    (subst (λ (n : ℕ). IsMadeOf c.args.clauses.now
    (record (shown c.minimise.new.self) { clause = c.push.new.self.items }) n
    c.lesson.result) (c.highest-backjump_level.ensures ∙ ap (highest c.args.trail.now.literals) c.deref.ensures.value)
    c.lesson.ensures)
