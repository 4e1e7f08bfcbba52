use Rattle.sb_decide.proofs.Words.{refl}
use Rattle.sb_decide.proofs.Knowledge.{knows_none}
use Rattle.sb_decide.proofs.TakingOver.{no_items}
use Rattle.sb_decide.proofs.decide.Decider.new.Goals as goal

pub returns : goal.returns
returns c = λ stack words.
    knows_none _ stack c.new-2.ensures (no_items c.new-3.result c.new-3.ensures.len)
    (no_items c.new-4.result c.new-4.ensures.len) (no_items c.new-5.result c.new-5.ensures.len)
    (no_items c.new-6.result c.new-6.ensures.len) (no_items c.new-7.result c.new-7.ensures.len)
    (no_items c.new-8.result c.new-8.ensures.len) c.new-9.ensures.empty refl refl (c.new.ensures stack.table) words
