-- Laws of scripts that are answered with their proofs: the lines that are written are an accepted proof.
use Rattle.std.specs.Prelude.{◌≡◌, ℕ, true, List, [], ◌∷◌, ◌++◌, Option}
use Rattle.sb_reader.specs.Entries.{Entry}
use Rattle.sb_script.specs.State.{State}
use Rattle.sb_script.specs.State as state
use Rattle.sb_script.specs.Replies.{is_exit}
use Rattle.sb_script.specs.Scripts.{Along}
use Rattle.sb_script.specs.Verdicts.{Verdict}
use Rattle.sb_rulebook.specs.Reading.{texts_of}
use Rattle.sb_rulebook.specs.Judging.{at_rest, Progress, beginning}
use Rattle.sb_rulebook.specs.JudgingTexts.{along}
use Rattle.sb_rulebook.specs.Accepted.{events}
use Rattle.sb_rulebook.specs.Printed.{IsPrintedProof}
use Rattle.sb_sound.specs.Certified.{AreWholeLines, Certifies, CertifiesOn, last_lines}

-- The entries are answered with their proof from the beginning: these lines are written for them, and so far both come.
abbrev pub CertifiedUpTo : List Entry → List ℕ → State × Progress → Type 0
CertifiedUpTo entries bytes after = Along CertifiesOn (state.start, beginning) entries bytes after

-- The lines of all entries, with the last lines behind them, are an accepted proof.
abbrev pub CertifiedIsAccepted : Type 0
CertifiedIsAccepted = (entries : List Entry) (bytes : List ℕ) (s : State) (p : Progress)
    → CertifiedUpTo entries bytes (s, p) → IsPrintedProof entries (bytes ++ last_lines p)

-- The entry that ends the run has no lines and changes nothing, and those in front of it, with the last lines behind
-- them, are an accepted proof, whatever entries stand behind it.
abbrev pub CertifiedToExitIsAccepted : Type 0
CertifiedToExitIsAccepted = (entries others : List Entry) (exit : Entry) (bytes lines reply : List ℕ)
    (found : Option Verdict) (s : State) (p : Progress) (after : State × Progress)
    → CertifiedUpTo entries bytes (s, p) → is_exit exit ≡ true → Certifies (s, p) exit lines reply found after
    → (lines ≡ []) × ((after ≡ (s, p)) × IsPrintedProof (entries ++ exit ∷ others) (bytes ++ last_lines p))

-- The lines so far are whole, and all of them are taken for the checks among the entries: none is refused, and no more
-- are due.
abbrev pub CertifiedFollows : Type 0
CertifiedFollows = (entries : List Entry) (bytes : List ℕ) (s : State) (p : Progress)
    → CertifiedUpTo entries bytes (s, p)
    → AreWholeLines bytes
    × ((along beginning (events state.start entries) (texts_of bytes) ≡ (p, [])) × (p.phase ≡ at_rest))

-- Where others come behind the entries, and more lines behind theirs, the events of the others stand behind those of
-- the entries, and the proof goes along with them from where it had come.
abbrev pub CertifiedGoesOn : Type 0
CertifiedGoesOn = (entries others : List Entry) (bytes more : List ℕ) (s : State) (p : Progress)
    → CertifiedUpTo entries bytes (s, p)
    → (events state.start (entries ++ others) ≡ events state.start entries ++ events s others)
    × (along beginning (events state.start (entries ++ others)) (texts_of (bytes ++ more))
    ≡ along p (events s others) (texts_of more))
