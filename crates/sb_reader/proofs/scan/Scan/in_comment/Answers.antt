use Rattle.sb_reader.proofs.Goes.{IsScan-comment}
use Rattle.sb_reader.proofs.scan.Scan.in_comment.Goals as goal

pub returns-clause-scan : goal.returns-clause-scan
returns-clause-scan c = IsScan-comment
