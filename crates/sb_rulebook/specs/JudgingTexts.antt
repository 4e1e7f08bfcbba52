-- A proof along a script by the texts of its lines, as a checker has them.
use Rattle.std.specs.Prelude.{ℕ, Bool, true, false, if◌then◌else◌, List, Result, Ok, Err}
use Rattle.sb_rulebook.specs.Refusals.{Refusal}
use Rattle.sb_rulebook.specs.Lines.{Line}
use Rattle.sb_rulebook.specs.Reading.{LineText, texts_of, read}
use Rattle.sb_rulebook.specs.Judging.{Event, Phase, at_rest, at_check, at_end, behind_end, stopped, Progress, beginning, stop, take_line, takes_each, goes_through, goes_along, goes_along_all, Outcome, outcome_of, closed}

-- lines are due
abbrev pub takes_lines : Phase → Bool
takes_lines at_rest = false
takes_lines (at_check q) = true
takes_lines at_end = true
takes_lines behind_end = true
takes_lines (stopped n refusal) = false

abbrev pub takes_read : Result Line Refusal → Progress → Progress
takes_read (Ok line) p = take_line line p
takes_read (Err refusal) p = if takes_lines p.phase then stop refusal p else p

abbrev pub takes : LineText → Progress → Progress
takes text p = takes_read (read text) p

-- all of these lines
abbrev pub takes_all : List LineText → Progress → Progress
takes_all texts p = takes_each takes texts p

-- where a check waits it takes its lines; with the lines that are left
abbrev pub through : Progress → List LineText → Progress × List LineText
through p texts = goes_through takes p texts

-- the events of a script, each with the lines that are due then; with the lines that are left
abbrev pub along : Progress → List Event → List LineText → Progress × List LineText
along p es texts = goes_along takes p es texts

-- all events of a script and all lines of a proof
abbrev pub along_all : Progress → List Event → List LineText → Progress
along_all p es texts = goes_along_all takes p es texts

-- what becomes of a proof, by its bytes: its lines are numbered from 1
abbrev pub judged : List Event → List ℕ → Outcome
judged es bytes = outcome_of (closed (along_all beginning es (texts_of bytes)))
