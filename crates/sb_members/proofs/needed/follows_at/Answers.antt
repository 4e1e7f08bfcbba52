use Rattle.sb_members.proofs.Stronger.{before_front}
use Rattle.sb_members.proofs.needed.follows_at.Goals as goal

pub returns : goal.returns
returns c = λ yes.
    before_front c.args.arena.now c.args.parts.now c.args.i c.index-parts-i.result c.index-parts-i-2.result
    c.if-i-eq0.false c.requires.place c.index-parts-i.is c.index-parts-i-2.is (c.is_front_of.ensures yes)
