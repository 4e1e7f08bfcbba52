use Rattle.sb_plain.proofs.Staying.{stay_start}
use Rattle.sb_plain.proofs.walked.Stay.start.Goals as goal

pub returns-clause-right : goal.returns-clause-right
returns-clause-right c = λ rs codes l. stay_start rs c.args.regex codes l
