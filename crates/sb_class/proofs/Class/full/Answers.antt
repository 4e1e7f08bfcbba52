use Rattle.std.proofs.Common.{ℕ, ◌≡◌, ◌∙◌, arith}
use Rattle.std.proofs.lemmas.Bool.Decides.{nat_tests}
use Rattle.std.proofs.lemmas.Result.{IfOk-weaker}
use Rattle.sb_class.specs.Ranges.{in_range, in_ranges}
use Rattle.sb_word.specs.Words.{is_character}
use Rattle.sb_class.proofs.RangeFacts.{in_range_tells}
use Rattle.sb_class.proofs.Class.full.Goals as goal

-- every character lies between the first and the last
all : (c : ℕ) → in_range (0, 0x2ffff) c ≡ is_character c
all c = grind (arith, nat_tests, in_range_tells (0, 0x2ffff) c)

pub returns : goal.returns
returns c =
    IfOk-weaker c.range.result (λ class. (x : ℕ) → in_ranges class x ≡ in_range (0, 0x2ffff) x) _
    (λ class h x. h x ∙ all x) c.range.ensures
