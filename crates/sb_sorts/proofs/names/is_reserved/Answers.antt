use Rattle.std.proofs.Common.{◌≡◌, Bool, true, false, ◌||◌, sym, ◌∙◌}
use Rattle.sb_sorts.proofs.names.is_reserved.Goals as goal

behind_false : (a b r : Bool) → a ≡ false → r ≡ b → r ≡ a || b
behind_false false b r h e = e
behind_false true b r h e = cc

pub returns-else-is_among : goal.returns-else-is_among
returns-else-is_among c =
    behind_false _ _ _ (sym c.is_among.ensures ∙ c.if-is_among.false) c.is_among-else-is_among.ensures
