use Rattle.sb_fragment.proofs.Structured.{member_of_two, member_of_others}
use Rattle.sb_fragment.proofs.shape.member.Goals as goal

pub returns-then-arguments-eq2 : goal.returns-then-arguments-eq2
returns-then-arguments-eq2 c = λ ts. member_of_two ts c.args.arguments.now c.if-arguments-eq2.true

pub returns-else-arguments-eq2 : goal.returns-else-arguments-eq2
returns-else-arguments-eq2 c = λ ts. member_of_others ts c.args.arguments.now c.if-arguments-eq2.false
