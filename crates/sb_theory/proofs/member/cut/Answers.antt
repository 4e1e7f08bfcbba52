use Rattle.sb_theory.proofs.Words.{◌∙◌, List, ap, subst, sym, AreMembers, Lit, is_above, wanted_on}
use Rattle.sb_theory.proofs.Rows.{wanted_push}
use Rattle.sb_theory.proofs.Standing.{cut_end, cut_step}
use Rattle.sb_theory.proofs.member.cut.Goals as goal

pub loop-taken-preserved-in-Some : goal.loop-taken-preserved-in-Some
loop-taken-preserved-in-Some c = (
  cut_step c.args.level c.args.taken.now.items c.loop-taken.taken.items c.pop.new.self.items c.in-Some.entry
      (ap (is_above c.args.level) (sym c.deref.ensures.value) ∙ sym c.is_above.ensures ∙ c.loop-taken-test.true)
      c.in-Some.ensures.items c.loop-taken.invariant.0,
  λ h. c.forget.ensures (wanted_on c.args.wanted.now c.pop.new.self.items)
      (subst (λ (ls : List Lit). AreMembers c.args.atoms.now c.loop-taken.rows.items ls)
      (wanted_push c.args.wanted.now c.pop.new.self.items c.loop-taken.taken.items c.in-Some.entry c.literal.result
      c.in-Some.ensures.items c.literal.ensures) (c.loop-taken.invariant.1 h)),
)

pub returns-clause-taken : goal.returns-clause-taken
returns-clause-taken c = λ levelled.
    cut_end c.args.level c.args.taken.now.items c.loop-taken.taken.items
    (ap (is_above c.args.level) (sym c.deref.ensures.value) ∙ sym c.is_above.ensures ∙ c.loop-taken-test.false)
    levelled c.loop-taken.invariant.0
