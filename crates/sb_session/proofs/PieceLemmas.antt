-- A piece of the script is read.
use Rattle.sb_session.proofs.Words.{arith, ◌+◌, ◌≡◌, ℕ, Bool, false, List, ◌++◌, length, length-append, refl, sym, ap, ◌∙◌, subst, inl, Begins, Cut, Outside, SessionState, Sofar, Write, beginning_stays, is_proved, moved_by, read_at, shortens_before, work}
use Rattle.sb_world.specs.declared.InPort.TheVariants as in_port
use Rattle.sb_reader.specs.Feeding as feed
use Rattle.sb_session.proofs.ReadingLemmas.{cut_between}
use Rattle.sb_session.proofs.WritingLemmas.{reads_on}

-- more is read
piece_read : (opened before now : Outside) (bytes piece : List ℕ) (writes : List Write)
    → before ≡ moved_by (work (length bytes) writes) opened → now ≡ read_at in_port.Script (length piece) before
    → now ≡ moved_by (work (length (bytes ++ piece)) writes) opened
piece_read opened before now bytes piece writes e h =
    reads_on opened before now (length bytes) (length piece) writes e h
    ∙ ap (λ (n : ℕ). moved_by (work n writes) opened)
    (let long : length (bytes ++ piece) ≡ length bytes + length piece = length-append bytes piece in omega arith)

-- a piece more is there
pub push_on : (opened : Outside) (bytes piece : List ℕ) (old pushed : feed.Unanswered) (s : SessionState)
    (before now : Outside) → pushed ≡ (old.0 ++ piece, false) → old.1 ≡ false → Sofar opened bytes old s before
    → now ≡ read_at in_port.Script (length piece) before → Sofar opened (bytes ++ piece) pushed s now
push_on opened bytes piece old pushed s before now e goes sofar moved =
    subst (λ (k : feed.Unanswered). Sofar opened (bytes ++ piece) k s now) (sym e) (record {
      entries = sofar.entries;
      writes = sofar.writes;
      left = sofar.left ++ piece;
      shorter = shortens_before sofar.left old.0 piece sofar.shorter;
      answered = record {
        begins = beginning_stays false bytes piece sofar.entries sofar.left
            (subst (λ (ended : Bool). Begins ended bytes sofar.entries sofar.left) goes sofar.answered.begins);
        along = sofar.answered.along;
      };
      progress = sofar.progress;
      tracked = sofar.tracked;
      outside = piece_read opened before now bytes piece sofar.writes sofar.outside moved;
    })

-- the piece is not taken
pub push_cut : (opened : Outside) (bytes piece : List ℕ) (old : feed.Unanswered) (s : SessionState)
    (before now : Outside) → old.1 ≡ false → Sofar opened bytes old s before
    → now ≡ read_at in_port.Script (length piece) before → Cut (is_proved s) opened (bytes ++ piece) false now
push_cut opened bytes piece old s before now goes sofar moved =
    inl (cut_between opened (bytes ++ piece) (old.0 ++ piece, false) s now
    (push_on opened bytes piece old (old.0 ++ piece, false) s before now refl goes sofar moved))
