use Rattle.std.proofs.Common.{refl}
use Rattle.sb_reader.proofs.Laying.{push_laid}
use Rattle.sb_reader.proofs.parse.OpenLists.push.Goals as goal

pub returns : goal.returns
returns c = λ forms outer laid.
    push_laid c.args.self.now _ forms outer c.args.atom.kind c.args.atom.bytes.now _ laid
    c.in_ok-length.ensures c.in_ok-push.ensures.items c.in_ok-extend_from_slice.ensures.items refl
