-- What a caller cites of characters and of lists of ranges.
use Rattle.std.proofs.Common.{◌≡◌, ℕ, ◌<◌, true, arith}
use Rattle.std.proofs.lemmas.Bool.{leb-true}
use Rattle.sb_word.specs.Words.{is_character}
-- the test of a range, membership by the first range, canonical lists by their first range, and that lists with the
-- same members are equal
pub use Rattle.sb_class.proofs.RangeFacts.{in_range_tells, in_ranges-nil, in_ranges-cons, in_ranges-one, in_ranges-below, rises_from-nil, rises_from-parts, rises_from-join, rises_from-weaker, same_from}

pub character_below : (c : ℕ) → is_character c ≡ true → c < 0x30000
character_below c h = omega (arith, leb-true c 0x2ffff h)
