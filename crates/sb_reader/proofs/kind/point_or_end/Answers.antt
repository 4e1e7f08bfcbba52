use Rattle.std.proofs.Common.{◌∙◌, rules, tests, arith, ◌==◌}
use Rattle.std.proofs.lemmas.Iterator.{YieldsList-from_slice}
use Rattle.std.proofs.lemmas.Iterator.Search.{position_from_yields_List}
use Rattle.sb_reader.proofs.Positions.{unwrapped, position_or_len-le}
use Rattle.sb_reader.proofs.kind.point_or_end.Goals as goal

pub returns-clause-at : goal.returns-clause-at
returns-clause-at c =
    c.unwrap_or.ensures
    ∙ unwrapped (λ b. b == 46) c.args.bytes.now _
    (position_from_yields_List (λ b. b == 46) _ _ _ c.position.ensures.ran (YieldsList-from_slice c.args.bytes.now cc)
    (λ x b q k. search (rules, tests)))

pub returns-clause-within : goal.returns-clause-within
returns-clause-within c = let at : _ = returns-clause-at c in
    omega (arith, at, position_or_len-le (λ b. b == 46) c.args.bytes.now)
