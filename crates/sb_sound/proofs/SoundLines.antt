-- A line that follows keeps true what is kept.
use Rattle.sb_rulebook.specs.Lines.{header_line, regex_line, atom_line, expansion_line, dead_line, assertion_line, rule_line, learned_line, verdict_line, end_line}
use Rattle.sb_sound.specs.GateLaws.{GatesHold}
use Rattle.sb_sound.specs.BoundLaws.{OrdersHold}
use Rattle.sb_sound.specs.LinearLaws.{LinearHolds}
use Rattle.sb_sound.specs.MembershipLaws.{StepsHold, EmptyHolds}
use Rattle.sb_sound.specs.HintLaws.{LearnedHolds, LearnedHasLevels}
use Rattle.sb_sound.specs.DeadLaws.{ExpandedIsRight, DeadStaysEmpty}
use Rattle.sb_sound.specs.TranslationLaws.{TranslationHolds}
use Rattle.sb_sound.specs.SoundLaws.{LineStaysSound}
use Rattle.sb_sound.proofs.RegexGrowth.{regex_sound, expansion_sound, dead_sound}
use Rattle.sb_sound.proofs.TableGrowth.{atom_sound}
use Rattle.sb_sound.proofs.ClauseGrowth.{assertion_sound, rule_sound, learned_sound}

module _ (gates : GatesHold) (orders : OrdersHold) (sums : LinearHolds) (steps : StepsHold) (empties : EmptyHolds)
    (learns : LearnedHolds) (levels : LearnedHasLevels) (expands : ExpandedIsRight) (dies : DeadStaysEmpty)
    (translates : TranslationHolds) where
  pub line_sound : LineStaysSound
  line_sound asked kept after (regex_line node) terms sound h = regex_sound asked kept after node sound h
  line_sound asked kept after (atom_line atom) terms sound h = atom_sound asked kept after atom sound h
  line_sound asked kept after (expansion_line r ks) terms sound h =
      expansion_sound expands asked kept after r ks sound h
  line_sound asked kept after (dead_line ids) terms sound h = dead_sound dies asked kept after ids sound h
  line_sound asked kept after (assertion_line place l) terms sound h =
      assertion_sound translates asked kept after place l terms sound h
  line_sound asked kept after (rule_line rule clause) terms sound h =
      rule_sound gates orders sums steps empties asked kept after rule clause sound h
  line_sound asked kept after (learned_line clause ids) terms sound h =
      learned_sound learns levels asked kept after clause ids sound h
  line_sound asked kept after (header_line format) terms sound h = absurd (Prim.cc (h))
  line_sound asked kept after (verdict_line said) terms sound h = absurd (Prim.cc (h))
  line_sound asked kept after end_line terms sound h = absurd (Prim.cc (h))
