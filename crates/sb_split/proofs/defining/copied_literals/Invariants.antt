use Rattle.sb_split.proofs.Words.{◌≡◌, true, take, list_all, is_small_literal}
use Rattle.sb_split.proofs.defining.copied_literals.Given as goal

abbrev pub invariant-loop-literal : goal.invariant-loop-literal
invariant-loop-literal l = (l.all.items ≡ take l.literal-index l.literals)
    × (list_all is_small_literal (take l.literal-index l.literals) ≡ true)
