use Rattle.sb_theory.proofs.Words.{◌∙◌, ap, arith, filter, refl, sym, take_all, is_joined}
use Rattle.sb_theory.proofs.Beginning.{list_more, list_passed}
use Rattle.sb_theory.proofs.strings.joined_of.Goals as goal

pub loop-atom-init : goal.loop-atom-init
loop-atom-init c = c.new-found.ensures.items

pub loop-atom-preserved-then-not-is_joined : goal.loop-atom-preserved-then-not-is_joined
loop-atom-preserved-then-not-is_joined c =
    list_passed (is_joined c.args.atoms.now) c.args.wanted.now c.loop-atom.found.items c.loop-atom.atom-index _ 0
    c.loop-atom-test.true refl (sym c.is_joined.ensures ∙ c.if-not-is_joined.true) c.loop-atom.invariant

pub loop-atom-preserved : goal.loop-atom-preserved
loop-atom-preserved c =
    list_more (is_joined c.args.atoms.now) c.args.wanted.now c.loop-atom.found.items c.push.new.self.items
    c.loop-atom.atom-index _ 0 c.loop-atom-test.true refl (sym c.is_joined.ensures ∙ c.if-not-is_joined.false)
    c.loop-atom.invariant c.in_ok-push.ensures.items

pub returns : goal.returns
returns c =
    c.loop-atom.invariant
    ∙ ap (filter (is_joined c.args.atoms.now))
    (take_all c.loop-atom.atom-index c.args.wanted.now (omega (arith, c.loop-atom-test.false)))
