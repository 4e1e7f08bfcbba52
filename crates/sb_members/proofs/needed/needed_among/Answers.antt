use Rattle.std.proofs.Common.{subst, sym}
use Rattle.sb_regex.specs.Numbered.{AllNumbers}
use Rattle.sb_members.proofs.needed.needed_among.Goals as goal

pub without_ends-requires : goal.without_ends-requires
without_ends-requires c =
    subst (AllNumbers c.args.arena.now) (sym c.deref.ensures.value) c.in_ok-longest.ensures.known
