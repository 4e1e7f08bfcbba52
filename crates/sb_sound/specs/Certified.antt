-- A script that is answered with its proof: the lines that are written for a check prove its verdict.
use Rattle.std.specs.Prelude.{◌≡◌, ℕ, true, false, if◌then◌else◌, List, [], ◌∷◌, ◌++◌, map, Option, Some, None}
use Rattle.std.specs.List.{list_all}
use Rattle.sb_lit.specs.Kept.{KeptClause, kept_at}
use Rattle.sb_reader.specs.Entries.{Entry}
use Rattle.sb_meaning.specs.Values.{Valuation}
use Rattle.sb_script.specs.State.{State}
use Rattle.sb_script.specs.Replies.{step_of, is_exit}
use Rattle.sb_script.specs.Verdicts.{Verdict, is_sat, is_unsat, is_unknown, is_outside, IsVerdict, Finding, Replies}
use Rattle.sb_rulebook.specs.Brought.{newest_format}
use Rattle.sb_rulebook.specs.Lines.{Line, header_line, end_line, text_of, Said, said_sat, said_unsat, said_unknown, said_unsupported}
use Rattle.sb_rulebook.specs.LineLaws.{is_one_line, bytes_of}
use Rattle.sb_rulebook.specs.Kept.{AllKept}
use Rattle.sb_rulebook.specs.Verdicts.{Question, valued, denied_by}
use Rattle.sb_rulebook.specs.Judging.{Event, asks, at_rest, Progress, meets, take_line, goes_through}
use Rattle.sb_rulebook.specs.Accepted.{question_in, events_of}
use Rattle.sb_rulebook.specs.Printed.{ArePrinted}

-- The verdict that a line says is the one that is found: with the values of its constants, and with the assumptions
-- that its clause denies.
abbrev pub SaysVerdict : Question → AllKept → Said → Verdict → Type 0
SaysVerdict q kept (said_sat values) v = (valuation : Valuation) × (valued q.constants values ≡ Some valuation)
    × (v ≡ is_sat valuation)
SaysVerdict q kept (said_unsat id places) v = (clause : KeptClause) × (kept_at kept.clauses id ≡ Some clause)
    × (v ≡ is_unsat (denied_by q kept clause))
SaysVerdict q kept (said_unknown n) v = v ≡ is_unknown
SaysVerdict q kept said_unsupported v = v ≡ is_outside

-- The bytes are whole lines: texts, each with a line feed behind it.
abbrev pub AreWholeLines : List ℕ → Type 0
AreWholeLines bytes = (texts : List (List ℕ)) × ((bytes ≡ bytes_of texts) × (list_all is_one_line texts ≡ true))

-- These are all the lines of a check: they follow, one after another, and the last one says the verdict.
pub record Proves (before after : Progress) (q : Question) (lines : List ℕ) (v : Verdict) : Type 0 where
  pub said : Said
  pub printed : List Line
  pub are_printed : ArePrinted printed lines
  pub lines_follow : goes_through take_line (meets (asks q) before) printed ≡ (after, [])
  pub answered : after.phase ≡ at_rest
  pub said_last : after.said ≡ before.said ++ said ∷ []
  pub says : SaysVerdict q after.kept said v

-- a check finds a verdict that may be given, and its lines prove it
abbrev pub FindsProved : Progress → Progress → Finding
FindsProved before after s given lines v = IsVerdict s given v × Proves before after (question_in s given) lines v

-- the proof behind the events of an entry that is no check
abbrev pub behind : List Event → Progress → Progress
behind [] p = p
behind (e ∷ es) p = behind es (meets e p)

-- where no verdict was found the proof goes along with what the entry left
abbrev pub KeepsStep : State → Entry → Option Verdict → Progress → Progress → Type 0
KeepsStep s entry None before after = after ≡ behind (events_of (step_of entry s) s) before
KeepsStep s entry (Some v) before after = Unit {0}

-- A script and its proof together: the reply to an entry, the lines that are written for it, and how far both come.
pub record Certifies (before : State × Progress) (entry : Entry) (lines reply : List ℕ) (found : Option Verdict)
    (after : State × Progress) : Type 0
  where
    pub replies : Replies (FindsProved before.1 after.1) before.0 entry lines found reply after.0
    pub keeps : KeepsStep before.0 entry found before.1 after.1

-- an entry behind which the run goes on, answered with its proof
abbrev pub CertifiesOn : State × Progress → Entry → List ℕ → State × Progress → Type 0
CertifiesOn before entry lines after =
    (is_exit entry ≡ false)
    × ((reply : List ℕ) × (found : Option Verdict) × Certifies before entry lines reply found after)

-- The lines that come last, behind those of all checks: the last line, and in front of it the first one where no check
-- had it among its lines.
abbrev pub last_lines_in : Progress → List Line
last_lines_in p = if p.begun then end_line ∷ [] else header_line newest_format ∷ end_line ∷ []

abbrev pub last_lines : Progress → List ℕ
last_lines p = bytes_of (map text_of (last_lines_in p))
