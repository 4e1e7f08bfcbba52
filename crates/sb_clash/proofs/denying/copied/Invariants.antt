use Rattle.sb_clash.proofs.Words.{◌≡◌, take, true, is_small_literal, list_all}
use Rattle.sb_clash.proofs.denying.copied.Given as goal

abbrev pub invariant-loop-literal : goal.invariant-loop-literal
invariant-loop-literal l = (l.all.items ≡ take l.literal-index l.literals)
    × (list_all is_small_literal (take l.literal-index l.literals) ≡ true)
