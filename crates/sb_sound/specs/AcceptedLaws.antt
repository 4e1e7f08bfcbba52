-- What an accepted proof means.
use Rattle.std.specs.Prelude.{◌≡◌, ℕ, Bool, true, false, not, List, [], ◌∷◌, ◌++◌, Result, Ok, Err}
use Rattle.std.specs.List.{list_all, count_by}
use Rattle.sb_reader.specs.Entries.{Entry}
use Rattle.sb_script.specs.State as state
use Rattle.sb_rulebook.specs.Refusals.{Refusal}
use Rattle.sb_rulebook.specs.Lines.{Line, verdict_line, Said}
use Rattle.sb_rulebook.specs.Reading.{LineText, texts_of, read}
use Rattle.sb_rulebook.specs.Kept.{AllKept, Asked, count_again}
use Rattle.sb_rulebook.specs.Verdicts.{Question}
use Rattle.sb_rulebook.specs.Judging.{Event, leaves_above, leaves_all, asks, ends, Progress, beginning, meets, accepted}
use Rattle.sb_rulebook.specs.JudgingTexts.{through, judged}
use Rattle.sb_rulebook.specs.Accepted.{events, asked_in}
use Rattle.sb_sound.specs.CountLaws.{is_counted_line}
use Rattle.sb_sound.specs.SoundLaws.{AreTerms, KeepsSorts, Continues, GoesOn, MeansSo}

-- The events are those of a script that goes on from what was asked before: up to a check no assertion is lost, and
-- where levels are left none below; sorts stay, also where all assertions are left.
abbrev pub IsHistory : Asked → List Event → Type 0
IsHistory before [] = Unit {0}
IsHistory before (leaves_above level ∷ es) = (now : Asked) × GoesOn level before now × IsHistory now es
IsHistory before (leaves_all ∷ es) = (now : Asked) × KeepsSorts before now × IsHistory now es
IsHistory before (asks q ∷ es) = Continues before q.asked × AreTerms q.asked × IsHistory q.asked es
IsHistory before (ends ∷ es) = Unit {0}

-- What came for a check.

abbrev pub is_counted_read : Result Line Refusal → Bool
is_counted_read (Ok line) = is_counted_line line
is_counted_read (Err refusal) = false

abbrev pub is_verdict_read : Result Line Refusal → Bool
is_verdict_read (Ok (verdict_line said)) = true
is_verdict_read _ = false

-- how many of the lines count
abbrev pub counted_among : List LineText → ℕ
counted_among lines = count_by (λ text. is_counted_read (read text)) lines

-- The verdict of a check means so, by what was kept where it came, and is kept on; as many lines were counted as came
-- for the check and count.
pub record IsAnswered (q : Question) (said : Said) (lines : List LineText) (verdict : LineText) (after : Progress)
    : Type 0
  where
    pub no_verdicts : list_all (λ text. not (is_verdict_read (read text))) lines ≡ true
    pub is_verdict : read verdict ≡ Ok (verdict_line said)
    pub kept : AllKept
    pub kept_on : after.kept ≡ count_again kept
    pub counted : kept.counted ≡ counted_among lines
    pub means : MeansSo q kept said

-- There is one verdict for each check among the events, and it means so. The lines up to a verdict came for its check,
-- and take the proof from how far it had come before it; those behind it are for the next one. The first line of the
-- proof stands in front of those of the first check.
abbrev pub AllMeanSo : Progress → List Event → List LineText → List Said → Type 0
AllMeanSo p [] came verdicts = verdicts ≡ []
AllMeanSo p (leaves_above level ∷ es) came verdicts = AllMeanSo (meets (leaves_above level) p) es came verdicts
AllMeanSo p (leaves_all ∷ es) came verdicts = AllMeanSo (meets leaves_all p) es came verdicts
AllMeanSo p (asks q ∷ es) came [] = ⊥
AllMeanSo p (asks q ∷ es) came (said ∷ rest) = (lines : List LineText) × (verdict : LineText) × (left : List LineText)
    × (came ≡ lines ++ verdict ∷ left) × (after : Progress) × (through (meets (asks q) p) came ≡ (after, left))
    × IsAnswered q said lines verdict after × AllMeanSo after es left rest
AllMeanSo p (ends ∷ es) came verdicts = verdicts ≡ []

-- an accepted proof of a history
abbrev pub AcceptedMeansSo : Type 0
AcceptedMeansSo = (asked : Asked) (es : List Event) (bytes : List ℕ) (verdicts : List Said) → IsHistory asked es
    → judged es bytes ≡ accepted verdicts → AllMeanSo beginning es (texts_of bytes) verdicts

-- the events of a script are a history
abbrev pub ScriptIsHistory : Type 0
ScriptIsHistory = (entries : List Entry) → IsHistory (asked_in state.start) (events state.start entries)

-- an accepted proof of a script
abbrev pub AcceptedScriptMeansSo : Type 0
AcceptedScriptMeansSo = (entries : List Entry) (bytes : List ℕ) (verdicts : List Said)
    → judged (events state.start entries) bytes ≡ accepted verdicts
    → AllMeanSo beginning (events state.start entries) (texts_of bytes) verdicts
