-- The regex of the words that stand so to a word.
use Rattle.std.specs.Prelude.{ℕ, List}
use Rattle.sb_lang.specs.Regex.{Regex}
use Rattle.sb_lang.specs.Affixes.{beginning_with, ending_with, containing, prefixes, suffixes, factors}
use Rattle.sb_affix.specs.declared.kinds.Affix.{Affix}
use Rattle.sb_affix.specs.declared.kinds.Affix.TheVariants as affix

abbrev pub affix_regex : Affix → List ℕ → Regex
affix_regex affix.Beginning = beginning_with
affix_regex affix.Ending = ending_with
affix_regex affix.Holder = containing
affix_regex affix.Prefixes = prefixes
affix_regex affix.Suffixes = suffixes
affix_regex affix.Factors = factors
