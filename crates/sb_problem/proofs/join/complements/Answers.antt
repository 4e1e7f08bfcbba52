use Rattle.sb_regex.proofs.CallerLemmas.{number_in, number_kept, extends_more}
use Rattle.sb_problem.proofs.Joins.{complements_none, complements_further, complements_end}
use Rattle.sb_problem.proofs.join.complements.Goals as goal

pub loop-id-init : goal.loop-id-init
loop-id-init c = rw c.new-found.ensures.items (complements_none c.args.arena.now)

pub not-requires : goal.not-requires
not-requires c =
    number_kept c.args.arena.now c.loop-id.arena c.id-item.result c.loop-id.invariant.extends
    (number_in c.args.arena.now c.args.ids.now c.loop-id.id-index c.id-item.result c.requires c.loop-id-test.true
    c.id-item.is)

pub returns-in_err-complement-clause-extends : goal.returns-in_err-complement-clause-extends
returns-in_err-complement-clause-extends c =
    extends_more c.args.arena.now c.loop-id.arena c.not.new.self c.loop-id.invariant.extends
    c.in_err-complement.ensures.extends

pub returns-in_err-push-clause-extends : goal.returns-in_err-push-clause-extends
returns-in_err-push-clause-extends c =
    extends_more c.args.arena.now c.loop-id.arena c.not.new.self c.loop-id.invariant.extends
    c.in_ok-complement.ensures.extends

pub loop-id-preserved : goal.loop-id-preserved
loop-id-preserved c =
    complements_further c.args.arena.now c.loop-id.arena c.not.new.self c.args.ids.now c.loop-id.found.items
    c.push.new.self.items c.loop-id.id-index c.id-item.result c.in_ok-complement.complement c.requires
    c.loop-id.invariant c.loop-id-test.true c.id-item.is c.in_ok-complement.ensures.extends
    c.in_ok-complement.ensures.ok c.in_ok-push.ensures.items

pub returns-clause-regexes : goal.returns-clause-regexes
returns-clause-regexes c =
    complements_end c.args.arena.now c.loop-id.arena c.args.ids.now c.loop-id.found.items c.loop-id.id-index
    c.loop-id.invariant c.loop-id-test.false
