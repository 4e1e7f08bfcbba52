use Rattle.std.proofs.Common.{arith}
use Rattle.std.proofs.lemmas.Bool.Decides.{nat_tests}
use Rattle.sb_problem.specs.Known.{is_known}
use Rattle.sb_problem.proofs.Keeping.{all_item, told_at, other_or_text, concat_other, concat_known}
use Rattle.sb_problem.proofs.normals.Normals.concatenated.Goals as goal

pub returns-in-Nothing : goal.returns-in-Nothing
returns-in-Nothing c = λ rs.
    concat_other rs c.args.table.now c.args.ids.now c.loop-id.id-index c.id-item.result c.loop-id-test.true c.id-item.is
    (told_at c.args.table.now c.args.self.now c.id-item.result c.kept.result c.requires.told
    (all_item (is_known c.args.self.now) c.args.ids.now c.loop-id.id-index c.id-item.result c.requires.known
    c.loop-id-test.true c.id-item.is)
    c.kept.ensures (other_or_text c.kept.result c.in-Nothing.is))

pub returns : goal.returns
returns c = λ rs.
    concat_known c.args.table.now c.args.ids.now c.loop-id.id-index c.loop-id.invariant c.loop-id-test.false
    (λ none. grind (arith, nat_tests, none, c.if-is_empty.ensures))
