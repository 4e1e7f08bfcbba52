-- What is written: one piece, or pieces one after another.
use Rattle.sb_session.proofs.Words.{◌≡◌, ℕ, ◌<◌, List, [], ◌∷◌, ◌++◌, length, ◌+◌, take, arith, refl, sym, ap, subst, ◌∙◌, inl, inr, CutOf, IsProperFront, Moved, Outside, Write, both, both-assoc, moved_by, moved_by-both, moved_by-nothing, read_at, read_at-moves, reading, reading-add, reading_first, with_lines, work, write_at, write_at-moves, writing_all, writing_all-append, writing_all-one, OutPort}
use Rattle.sb_world.specs.declared.InPort.TheVariants as in_port
use Rattle.sb_world.specs.declared.OutPort.TheVariants as out_port

pub one_written : (port : OutPort) (bytes : List ℕ) (old new : Outside) → new ≡ write_at port bytes old
    → new ≡ moved_by (writing_all ((port, bytes) ∷ [])) old
one_written port bytes old new e =
    e ∙ (write_at-moves port bytes old ∙ ap (λ (m : Moved). moved_by m old) (sym (writing_all-one (port, bytes))))

-- less than all of one piece
pub one_cut : (port : OutPort) (bytes : List ℕ) (old new : Outside)
    → ((out : ℕ) × (out < length bytes) × (new ≡ write_at port (take out bytes) old))
    → CutOf ((port, bytes) ∷ []) old new
one_cut port bytes old new cut = (
  (port, take cut.0 bytes) ∷ [],
  inl (cut.0, cut.1, refl),
  one_written port (take cut.0 bytes) old new cut.2,
)

-- more is written
pub writes_on : (opened before now : Outside) (count : ℕ) (writes more : List Write)
    → before ≡ moved_by (work count writes) opened → now ≡ moved_by (writing_all more) before
    → now ≡ moved_by (work count (writes ++ more)) opened
writes_on opened before now count writes more e h =
    h
    ∙ (ap (moved_by (writing_all more)) e
    ∙ (moved_by-both (work count writes) (writing_all more) opened
    ∙ ap (λ (m : Moved). moved_by m opened)
    (both-assoc (reading in_port.Script count) (writing_all writes) (writing_all more)
    ∙ ap (both (reading in_port.Script count)) (sym (writing_all-append writes more)))))

-- more is read
pub reads_on : (opened before now : Outside) (count more : ℕ) (writes : List Write)
    → before ≡ moved_by (work count writes) opened → now ≡ read_at in_port.Script more before
    → now ≡ moved_by (work (more + count) writes) opened
reads_on opened before now count more writes e h =
    h
    ∙ (read_at-moves in_port.Script more before
    ∙ (ap (moved_by (reading in_port.Script more)) e
    ∙ (moved_by-both (work count writes) (reading in_port.Script more) opened
    ∙ ap (λ (m : Moved). moved_by m opened)
    (reading_first in_port.Script more (work count writes)
    ∙ (sym (both-assoc (reading in_port.Script more) (reading in_port.Script count) (writing_all writes))
    ∙ ap (λ (m : Moved). both m (writing_all writes)) (reading-add in_port.Script more count))))))

-- nothing is read or written
pub nothing_yet : (opened : Outside) → opened ≡ moved_by (work 0 []) opened
nothing_yet opened = sym (moved_by-nothing opened)

-- what is written is not read
writes_read_nothing : (writes : List Write) → (writing_all writes).script ≡ 0
writes_read_nothing [] = refl
writes_read_nothing ((out_port.Answers, bytes) ∷ writes) = let h = writes_read_nothing writes in omega arith
writes_read_nothing ((out_port.Proof, bytes) ∷ writes) = let h = writes_read_nothing writes in omega arith
writes_read_nothing ((out_port.Faults, bytes) ∷ writes) = let h = writes_read_nothing writes in omega arith

pub work_reads : (count : ℕ) (writes : List Write) → (work count writes).script ≡ count
work_reads count writes = let h = writes_read_nothing writes in omega arith

-- a front of pieces is one of more pieces
pub front-longer : (front writes more : List Write) → IsProperFront front writes → IsProperFront front (writes ++ more)
front-longer front [] more h = absurd h
front-longer front (w ∷ ws) more (inl h) = inl h
front-longer front (w ∷ ws) more (inr h) = inr (h.0, h.1, front-longer h.0 ws more h.2)

-- pieces, and a front of those behind them
pub front-behind : (whole front writes : List Write) → IsProperFront front writes
    → IsProperFront (whole ++ front) (whole ++ writes)
front-behind [] front writes h = h
front-behind (w ∷ ws) front writes h = inr (ws ++ front, refl, front-behind ws front writes h)

-- pieces are written, and then others
pub written_behind : (writes more : List Write) (old between now : Outside)
    → between ≡ moved_by (writing_all writes) old → now ≡ moved_by (writing_all more) between
    → now ≡ moved_by (writing_all (writes ++ more)) old
written_behind writes more old between now e h =
    h
    ∙ (ap (moved_by (writing_all more)) e
    ∙ (moved_by-both (writing_all writes) (writing_all more) old
    ∙ ap (λ (m : Moved). moved_by m old) (sym (writing_all-append writes more))))

-- none of a piece is written
pub none_cut : (port : OutPort) (b : ℕ) (bytes : List ℕ) (more : List Write) (old new : Outside) → new ≡ old
    → CutOf ((port, b ∷ bytes) ∷ more) old new
none_cut port b bytes more old new same = (
  (port, []) ∷ [],
  inl (0, omega arith, refl),
  same ∙ written_nothing port old,
)
  where
    written_nothing : (port : OutPort) (old : Outside) → old ≡ moved_by (writing_all ((port, []) ∷ [])) old
    written_nothing out_port.Answers old = sym (moved_by-nothing old)
    written_nothing out_port.Proof old = sym (moved_by-nothing old)
    written_nothing out_port.Faults old = sym (moved_by-nothing old)

-- The lines of a proof, in front of other pieces.

lines_in_front : (lines : List ℕ) (writes : List Write) → with_lines lines [] ++ writes ≡ with_lines lines writes
lines_in_front [] writes = refl
lines_in_front (b ∷ bs) writes = refl

pub lines_written : (lines : List ℕ) (old new : Outside) → new ≡ write_at out_port.Proof lines old
    → new ≡ moved_by (writing_all (with_lines lines [])) old
lines_written [] old new e = e ∙ write_at-moves out_port.Proof [] old
lines_written (b ∷ bs) old new e = one_written out_port.Proof (b ∷ bs) old new e

pub lines_cut : (lines : List ℕ) (old new : Outside)
    → ((out : ℕ) × (out < length lines) × (new ≡ write_at out_port.Proof (take out lines) old))
    → CutOf (with_lines lines []) old new
lines_cut [] old new cut = absurd (let h = cut.1 in omega arith)
lines_cut (b ∷ bs) old new cut = one_cut out_port.Proof (b ∷ bs) old new cut

pub behind_lines : (lines : List ℕ) (writes : List Write) (old between now : Outside)
    → between ≡ moved_by (writing_all (with_lines lines [])) old → now ≡ moved_by (writing_all writes) between
    → now ≡ moved_by (writing_all (with_lines lines writes)) old
behind_lines lines writes old between now e h =
    written_behind (with_lines lines []) writes old between now e h
    ∙ ap (λ (ws : List Write). moved_by (writing_all ws) old) (lines_in_front lines writes)

pub cut_in_lines : (lines : List ℕ) (writes : List Write) (old now : Outside) → CutOf (with_lines lines []) old now
    → CutOf (with_lines lines writes) old now
cut_in_lines lines writes old now cut = (
  cut.0,
  subst (IsProperFront cut.0) (lines_in_front lines writes)
      (front-longer cut.0 (with_lines lines []) writes cut.1),
  cut.2,
)

pub cut_behind_lines : (lines : List ℕ) (writes : List Write) (old between now : Outside)
    → between ≡ moved_by (writing_all (with_lines lines [])) old → CutOf writes between now
    → CutOf (with_lines lines writes) old now
cut_behind_lines lines writes old between now e cut = (
  with_lines lines [] ++ cut.0,
  subst (IsProperFront (with_lines lines [] ++ cut.0)) (lines_in_front lines writes)
      (front-behind (with_lines lines []) cut.0 writes cut.1),
  written_behind (with_lines lines []) cut.0 old between now e cut.2,
)
