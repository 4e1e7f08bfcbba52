use Rattle.std.proofs.Common.{nat_le, length, ap, ◌∙◌}
use Rattle.sb_reader.proofs.Laying.{marks_length}
use Rattle.sb_reader.proofs.parse.OpenLists.is_full.Goals as goal

pub returns : goal.returns
returns c = λ levels laid. ap (nat_le 512)
    (c.len.ensures ∙ c.args.self.now.marks.ok.0 ∙ ap length laid.marks ∙ marks_length levels)
