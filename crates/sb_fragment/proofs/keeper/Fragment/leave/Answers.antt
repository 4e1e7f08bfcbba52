use Rattle.sb_fragment.proofs.keeper.Fragment.leave.Goals as goal

pub returns : goal.returns
returns c = c.min-self.ensures
