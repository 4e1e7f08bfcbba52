-- What is kept is orderly along each proof.
use Rattle.std.proofs.Common.{◌≡◌, ◌+◌, nat_le, Bool, true, false, ◌&&◌, if◌then◌else◌, List, [], ◌∷◌, ◌++◌, Option, Some, None, Result, Ok, Err, refl}
use Rattle.sb_lang.specs.OrderLaws.{OrderTellsApart}
use Rattle.sb_rulebook.specs.Refusals.{Refusal, misplaced}
use Rattle.sb_rulebook.specs.Brought.{newest_format}
use Rattle.sb_rulebook.specs.Lines.{Line, header_line, regex_line, atom_line, expansion_line, dead_line, assertion_line, rule_line, learned_line, verdict_line, end_line, Said}
use Rattle.sb_rulebook.specs.Reading.{LineText, read}
use Rattle.sb_rulebook.specs.Kept.{AllKept, nothing_kept}
use Rattle.sb_rulebook.specs.Follows.{follows}
use Rattle.sb_rulebook.specs.Verdicts.{Question, refusal_of}
use Rattle.sb_rulebook.specs.Judging.{Event, leaves_above, leaves_all, asks, ends, Phase, at_rest, at_check, at_end, behind_end, stopped, Progress, beginning, met, meets, stop, takes_first, takes_verdict, takes_kept, takes_at_check, takes_last, takes_in, is_at_check}
use Rattle.sb_rulebook.specs.JudgingTexts.{takes_lines, takes_read, takes, takes_all, through, along}
use Rattle.sb_rulebook.specs.KeptLaws.{IsOrderly, BeginningIsOrderly, TakingKeepsOrder, MeetingKeepsOrder, ProofsKeepOrder}
use Rattle.sb_rulebook.proofs.KeptFacts.{nothing_is_orderly, line_keeps_order, dropping_keeps_order, all_dropped_keeps_order, counting_again_keeps_order}

pub beginning_is_orderly : BeginningIsOrderly
beginning_is_orderly = nothing_is_orderly 1

-- Lines.

first-line : (line : Line) (p : Progress) → IsOrderly p.kept → IsOrderly (takes_first line p).kept
first-line (header_line format) p orderly = step (nat_le 1 format && nat_le format newest_format)
  where
    step : (b : Bool) → IsOrderly (if b
        then record p { begun = true; kept = nothing_kept format; next = p.next + 1 } else stop misplaced p).kept
    step true = nothing_is_orderly format
    step false = orderly
first-line _ p orderly = orderly

verdict-line : (said : Said) (o : Option Refusal) (p : Progress) → IsOrderly p.kept
    → IsOrderly (takes_verdict said o p).kept
verdict-line said None p orderly = counting_again_keeps_order p.kept orderly
verdict-line said (Some refusal) p orderly = orderly

module _ (apart : OrderTellsApart) where
  kept-line : (q : Question) (line : Line) (p : Progress) → IsOrderly p.kept
      → IsOrderly (takes_kept (follows q.asked p.kept line) p).kept
  kept-line q line p orderly = step (follows q.asked p.kept line) refl
    where
      step : (r : Result AllKept Refusal) → follows q.asked p.kept line ≡ r → IsOrderly (takes_kept r p).kept
      step (Ok after) is = line_keeps_order apart q.asked p.kept after line orderly is
      step (Err refusal) is = orderly

  check-line : (q : Question) (line : Line) (p : Progress) → IsOrderly p.kept
      → IsOrderly (takes_at_check q line p).kept
  check-line q (verdict_line said) p orderly = verdict-line said (refusal_of q p.kept said) p orderly
  check-line q (header_line format) p orderly = kept-line q (header_line format) p orderly
  check-line q (regex_line node) p orderly = kept-line q (regex_line node) p orderly
  check-line q (atom_line atom) p orderly = kept-line q (atom_line atom) p orderly
  check-line q (expansion_line r ks) p orderly = kept-line q (expansion_line r ks) p orderly
  check-line q (dead_line ids) p orderly = kept-line q (dead_line ids) p orderly
  check-line q (assertion_line place l) p orderly = kept-line q (assertion_line place l) p orderly
  check-line q (rule_line rule clause) p orderly = kept-line q (rule_line rule clause) p orderly
  check-line q (learned_line clause ids) p orderly = kept-line q (learned_line clause ids) p orderly
  check-line q end_line p orderly = kept-line q end_line p orderly

  last-line : (line : Line) (p : Progress) → IsOrderly p.kept → IsOrderly (takes_last line p).kept
  last-line end_line p orderly = orderly
  last-line _ p orderly = orderly

  due-line : (phase : Phase) (line : Line) (p : Progress) → IsOrderly p.kept → IsOrderly (takes_in phase line p).kept
  due-line at_rest line p orderly = orderly
  due-line (at_check q) line p orderly = step p.begun
    where
      step : (b : Bool) → IsOrderly (if b then takes_at_check q line p else takes_first line p).kept
      step true = check-line q line p orderly
      step false = first-line line p orderly
  due-line at_end line p orderly = step p.begun
    where
      step : (b : Bool) → IsOrderly (if b then takes_last line p else takes_first line p).kept
      step true = last-line line p orderly
      step false = first-line line p orderly
  due-line behind_end line p orderly = orderly
  due-line (stopped n refusal) line p orderly = orderly

  read-line : (r : Result Line Refusal) (p : Progress) → IsOrderly p.kept → IsOrderly (takes_read r p).kept
  read-line (Ok line) p orderly = due-line p.phase line p orderly
  read-line (Err refusal) p orderly = step (takes_lines p.phase)
    where
      step : (b : Bool) → IsOrderly (if b then stop refusal p else p).kept
      step true = orderly
      step false = orderly

  pub taking_keeps_order : TakingKeepsOrder
  taking_keeps_order text p orderly = read-line (read text) p orderly

  -- Events.

  met-orderly : (e : Event) (p : Progress) → IsOrderly p.kept → IsOrderly (met e p).kept
  met-orderly (leaves_above level) p orderly = dropping_keeps_order level p.kept orderly
  met-orderly leaves_all p orderly = all_dropped_keeps_order p.kept orderly
  met-orderly (asks q) p orderly = orderly
  met-orderly ends p orderly = orderly

  pub meeting_keeps_order : MeetingKeepsOrder
  meeting_keeps_order e p orderly = step p.phase
    where
      step : (phase : Phase) → IsOrderly (elim phase as (λ _. Progress) [
        | at_rest ↦ met e p
        | at_check q ↦ p
        | at_end ↦ p
        | behind_end ↦ p
        | stopped n refusal ↦ p
      ]).kept
      step at_rest = met-orderly e p orderly
      step (at_check q) = orderly
      step at_end = orderly
      step behind_end = orderly
      step (stopped n refusal) = orderly

  -- Proofs.

  all-orderly : (texts : List LineText) (p : Progress) → IsOrderly p.kept → IsOrderly (takes_all texts p).kept
  all-orderly [] p orderly = orderly
  all-orderly (text ∷ texts) p orderly = all-orderly texts (takes text p) (taking_keeps_order text p orderly)

  through-orderly : (p : Progress) (texts : List LineText) → IsOrderly p.kept → IsOrderly (through p texts).0.kept
  through-orderly p [] orderly = orderly
  through-orderly p (text ∷ texts) orderly =
      step (is_at_check p.phase) (through-orderly (takes text p) texts (taking_keeps_order text p orderly))
    where
      step : (b : Bool) → IsOrderly (through (takes text p) texts).0.kept
          → IsOrderly (if b then through (takes text p) texts else (p, text ∷ texts)).0.kept
      step true rest = rest
      step false rest = orderly

  along-orderly : (p : Progress) (es : List Event) (texts : List LineText) → IsOrderly p.kept
      → IsOrderly (along p es texts).0.kept
  along-orderly p [] texts orderly = orderly
  along-orderly p (e ∷ es) texts orderly =
      let r = through (meets e p) texts in
      along-orderly r.0 es r.1 (through-orderly (meets e p) texts (meeting_keeps_order e p orderly))

  pub proofs_keep_order : ProofsKeepOrder
  proofs_keep_order es texts =
      let r = along beginning (es ++ ends ∷ []) texts in
      all-orderly r.1 r.0 (along-orderly beginning (es ++ ends ∷ []) texts beginning_is_orderly)
