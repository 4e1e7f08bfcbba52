use Rattle.std.proofs.Common.{◌<◌, refl, ap, arith}
use Rattle.sb_trail.specs.Assignments.{Assignments, current_level}
use Rattle.sb_trail.proofs.EntryLemmas.{up_to-all, popped_above}
use Rattle.sb_trail.proofs.trail.Trail.pop_above.Goals as goal

pub returns-then-newest_level-level-clause-cases : goal.returns-then-newest_level-level-clause-cases
returns-then-newest_level-level-clause-cases c =
    let same = ap (λ (t : Assignments). t.literals) c.self.view_is in (
      refl,
      rw (← same)
          (up_to-all c.args.level 0 c.self.inside.entries.items c.self.invariant.trail.levelled
          (omega (
            arith,
            c.newest_level.ensures,
            ap current_level c.deref.ensures.value,
            c.if-newest_level-level.true,
          ))),
    )

pub returns-clause-cases : goal.returns-clause-cases
returns-clause-cases c =
    let same = ap (λ (t : Assignments). t.literals) c.self.view_is in
    let above : c.args.level < current_level c.args.self.now.literals =
    omega (
      arith,
      c.newest_level.ensures,
      ap current_level c.deref.ensures.value,
      ap current_level same,
      c.if-newest_level-level.false,
    ) in
    popped_above c.args.level _ _ c.pop.result above c.pop.ensures.cases
