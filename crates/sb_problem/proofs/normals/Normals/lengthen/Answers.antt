use Rattle.std.proofs.Common.{sym, refl, subst, arith}
use Rattle.sb_problem.specs.Known.{AreNormals}
use Rattle.sb_problem.proofs.Keeping.{normals_pushed}
use Rattle.sb_problem.proofs.normals.Normals.lengthen.Goals as goal

pub loop-id-init : goal.loop-id-init
loop-id-init c = λ ts rs l n. subst (AreNormals ts rs) (sym c.self.view_is) n

pub loop-id-preserved : goal.loop-id-preserved
loop-id-preserved c = λ ts rs l n.
    normals_pushed ts rs c.loop-id.self-inside.known.items c.loop-id.self-inside.known.items c.push.new.self.items
    (c.loop-id.invariant ts rs l n) refl c.in_ok-push.ensures.items (omega (arith, l))

pub returns-in_err-push-clause-normals : goal.returns-in_err-push-clause-normals
returns-in_err-push-clause-normals c = λ ts rs l n.
    subst (AreNormals ts rs) (sym c.in_err-push.ensures.items) (c.loop-id.invariant ts rs l n)
