-- Computed examples of a script that is answered with its proof.
use Rattle.std.specs.Prelude.{◌≡◌, ℕ, List, [], ◌∷◌, ◌++◌, codes, refl}
use Rattle.sb_reader.specs.Forms.{Symbol}
use Rattle.sb_reader.specs.Entries.{Entry, Command}
use Rattle.sb_script.specs.ReadingExamples.{group}
use Rattle.sb_script.specs.State as state
use Rattle.sb_script.specs.Verdicts.{is_sat}
use Rattle.sb_rulebook.specs.Lines.{Line, header_line, verdict_line, said_sat}
use Rattle.sb_rulebook.specs.Verdicts.{Question}
use Rattle.sb_rulebook.specs.Judging.{asks, Progress, beginning, meets, take_line, goes_through}
use Rattle.sb_rulebook.specs.JudgingTexts.{judged}
use Rattle.sb_rulebook.specs.Accepted.{question_in, events, answer}
use Rattle.sb_rulebook.specs.ProofExamples.{computing}
use Rattle.sb_sound.specs.Certified.{Proves, last_lines}

-- (check-sat), where nothing is asserted, with the lines that are written for it at first, and behind others

abbrev check_sat : Entry
check_sat = Command (group (Symbol (codes "check-sat") ∷ []))

abbrev question : Question
question = question_in state.start []

abbrev first_lines : List ℕ
first_lines = codes "strproof 1\nv sat\n"

abbrev next_lines : List ℕ
next_lines = codes "v sat\n"

abbrev first_printed : List Line
first_printed = header_line 1 ∷ verdict_line (said_sat []) ∷ []

abbrev next_printed : List Line
next_printed = verdict_line (said_sat []) ∷ []

abbrev behind_one : Progress
behind_one = (goes_through take_line (meets (asks question) beginning) first_printed).0

abbrev behind_two : Progress
behind_two = (goes_through take_line (meets (asks question) behind_one) next_printed).0

a_first_check : Proves beginning behind_one question first_lines (is_sat [])
unfolding computing
a_first_check = record {
  said = said_sat [];
  printed = first_printed;
  are_printed = (refl, refl);
  lines_follow = refl;
  answered = refl;
  said_last = refl;
  says = ([], refl, refl);
}

another_check : Proves behind_one behind_two question next_lines (is_sat [])
unfolding computing
another_check = record {
  said = said_sat [];
  printed = next_printed;
  are_printed = (refl, refl);
  lines_follow = refl;
  answered = refl;
  said_last = refl;
  says = ([], refl, refl);
}

-- the last lines

behind_checks : last_lines behind_two ≡ codes "end\n"
unfolding computing
behind_checks = refl

behind_no_check : last_lines beginning ≡ codes "strproof 1\nend\n"
unfolding computing
behind_no_check = refl

-- the proof of a script

abbrev outcome : List Entry → List ℕ → List ℕ
outcome entries proof = answer (judged (events state.start entries) proof)

two_checks : outcome (check_sat ∷ check_sat ∷ []) (first_lines ++ (next_lines ++ last_lines behind_two))
    ≡ codes "check 1: sat\ncheck 2: sat\naccepted\n"
unfolding computing
two_checks = refl

no_check : outcome [] (last_lines beginning) ≡ codes "accepted\n"
unfolding computing
no_check = refl

no_last_line : outcome (check_sat ∷ []) first_lines ≡ codes "check 1: sat\nrefused at line 3: missing line\n"
unfolding computing
no_last_line = refl

no_first_line : outcome (check_sat ∷ []) (next_lines ++ last_lines behind_two)
    ≡ codes "refused at line 1: misplaced line\n"
unfolding computing
no_first_line = refl

-- what is written behind an end stands nowhere
lines_behind_the_end : outcome (check_sat ∷ []) (first_lines ++ (last_lines behind_one ++ next_lines))
    ≡ codes "check 1: sat\nrefused at line 4: misplaced line\n"
unfolding computing
lines_behind_the_end = refl
