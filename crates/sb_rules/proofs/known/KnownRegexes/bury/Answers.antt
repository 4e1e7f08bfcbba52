use Rattle.std.proofs.Common.{option_map, sym, ap, ◌∙◌}
use Rattle.sb_rules.specs.Answers.{refusal_in}
use Rattle.sb_rules.proofs.Buried.{dead-unknown, dead-repeated, dead-alive, dead-taken}
use Rattle.sb_rules.proofs.Loops.{members-none, members-some}
use Rattle.sb_rules.proofs.known.KnownRegexes.bury.Goals as goal

pub returns-then-not-are_known-clause-follows : goal.returns-then-not-are_known-clause-follows
returns-then-not-are_known-clause-follows c = λ asked kept.
    dead-unknown asked kept c.args.arena.now c.args.self.now c.args.numbers.now
    (sym c.are_known.ensures ∙ c.if-not-are_known.true)

pub returns-in_default-clause-follows : goal.returns-in_default-clause-follows
returns-in_default-clause-follows c = λ asked kept.
    dead-repeated asked kept c.args.arena.now c.args.self.now c.args.numbers.now
    (sym c.are_known.ensures ∙ c.if-not-are_known.false)
    (members-none c.args.self.now.dead c.args.numbers.now c.in_ok-members.field-0 c.in_default.is
    c.in_ok-members.ensures)

pub returns-in-Some-first_alive-clause-follows : goal.returns-in-Some-first_alive-clause-follows
returns-in-Some-first_alive-clause-follows c = λ asked kept.
    let m = members-some c.args.self.now.dead c.args.numbers.now c.in_ok-members.field-0 c.in-Some.members c.in-Some.is
    c.in_ok-members.ensures in
    dead-alive asked kept c.args.arena.now c.args.self.now c.args.numbers.now
    (sym c.are_known.ensures ∙ c.if-not-are_known.false) c.in-Some.members.keys m.0 m.1
    (refusal_in c.in-Some-first_alive.refusal) (sym c.in-Some-first_alive.ensures)

pub returns-clause-follows : goal.returns-clause-follows
returns-clause-follows c = λ asked kept.
    let m = members-some c.args.self.now.dead c.args.numbers.now c.in_ok-members.field-0 c.in-Some.members c.in-Some.is
    c.in_ok-members.ensures in
    dead-taken asked kept c.args.arena.now c.args.self.now c.args.numbers.now
    (sym c.are_known.ensures ∙ c.if-not-are_known.false) c.in-Some.members.keys m.0 m.1 c.mark.new.self
    (sym c.first_alive.ensures ∙ ap (option_map refusal_in) c.in_default-first_alive.is) c.mark.ensures
