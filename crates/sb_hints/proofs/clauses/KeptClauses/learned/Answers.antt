use Rattle.std.proofs.Common.{sym, ◌∙◌, map}
use Rattle.sb_lit.specs.Clauses.{negation}
use Rattle.sb_lit.specs.Hints.{stays_open, has_idle_hint}
use Rattle.sb_hints.proofs.Steps.{learned-unknown, learned-repeated, learned-course, learned-level, learned-unsorted}
use Rattle.sb_hints.proofs.clauses.KeptClauses.learned.Goals as goal

pub returns-then-not-are_known : goal.returns-then-not-are_known
returns-then-not-are_known c =
    learned-unknown c.args.self.now c.args.clause.now c.args.ids.now (sym c.if-not-are_known.ensures)

pub returns-then-branch : goal.returns-then-branch
returns-then-branch c =
    learned-repeated c.args.self.now c.args.clause.now c.args.ids.now (sym c.if-not-are_known.ensures)
    (sym c.if-branch.true ∙ c.in_ok-is_repeated.ensures)

pub returns-then-are_ascending : goal.returns-then-are_ascending
returns-then-are_ascending c =
    let same = c.in_ok-follow.ensures (map negation c.args.clause.now) c.in_ok-held.ensures in
    learned-level c.args.self.now c.args.clause.now c.args.ids.now (sym c.if-not-are_known.ensures)
    (sym c.if-branch.false ∙ c.in_ok-is_repeated.ensures) (rw c.in-EndsFalse.is at same) c.if-are_ascending.ensures
    c.greatest_level.result c.greatest_level.ensures

pub returns-in-EndsFalse : goal.returns-in-EndsFalse
returns-in-EndsFalse c =
    let same = c.in_ok-follow.ensures (map negation c.args.clause.now) c.in_ok-held.ensures in
    learned-unsorted c.args.self.now c.args.clause.now c.args.ids.now (sym c.if-not-are_known.ensures)
    (sym c.if-branch.false ∙ c.in_ok-is_repeated.ensures) (rw c.in-EndsFalse.is at same) c.if-are_ascending.ensures

pub returns-in-StaysOpen : goal.returns-in-StaysOpen
returns-in-StaysOpen c =
    let same = c.in_ok-follow.ensures (map negation c.args.clause.now) c.in_ok-held.ensures in
    learned-course c.args.self.now c.args.clause.now c.args.ids.now (sym c.if-not-are_known.ensures)
    (sym c.if-branch.false ∙ c.in_ok-is_repeated.ensures) stays_open (rw c.in-StaysOpen.is at same)

pub returns : goal.returns
returns c =
    let same = c.in_ok-follow.ensures (map negation c.args.clause.now) c.in_ok-held.ensures in
    learned-course c.args.self.now c.args.clause.now c.args.ids.now (sym c.if-not-are_known.ensures)
    (sym c.if-branch.false ∙ c.in_ok-is_repeated.ensures) has_idle_hint (rw c.in-HasIdleHint.is at same)
