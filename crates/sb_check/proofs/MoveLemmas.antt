-- What was read and written so far, and one read or one write more.
use Rattle.std.proofs.Common.{◌≡◌, ℕ, ◌+◌, List, [], ◌++◌, drop, Some, option_map, refl, sym, ap, ◌∙◌, arith}
use Rattle.std.proofs.lemmas.List.{append-nil}
use Rattle.sb_world.specs.Outside.{Outside, write_at}
use Rattle.sb_world.specs.Moved.{Moved, moved_by, nothing, reading, writing}
use Rattle.sb_world.specs.declared.InPort.TheVariants as in_port
use Rattle.sb_world.specs.declared.OutPort.TheVariants as out_port
use Rattle.sb_world.proofs.CallerLemmas.{moved_by-both, moved_by-nothing, write_at-moves}

-- so many bytes of the script and of the proof were read, and this text was written to standard output
abbrev pub gone : ℕ → ℕ → List ℕ → Moved
gone script proof answers = record nothing { script = script; proof = proof; answers = answers }

pub same_gone : (a a' b b' : ℕ) (t t' : List ℕ) (old now : Outside) → a ≡ a' → b ≡ b' → t ≡ t'
    → now ≡ moved_by (gone a b t) old → now ≡ moved_by (gone a' b' t') old
same_gone a a' b b' t t' old now p q r h = h ∙ ap (λ (m : Moved). moved_by m old) (rw (p, q, r) refl)

pub reads_script : (a b count : ℕ) (t : List ℕ) (old now after : Outside) → now ≡ moved_by (gone a b t) old
    → after ≡ moved_by (reading in_port.Script count) now → after ≡ moved_by (gone (a + count) b t) old
reads_script a b count t old now after e h =
    same_gone (a + count) (a + count) (b + 0) b (t ++ []) t old after refl (omega arith) (append-nil t)
    (h ∙ (ap (moved_by (reading in_port.Script count)) e
    ∙ moved_by-both (gone a b t) (reading in_port.Script count) old))

pub reads_proof : (a b count : ℕ) (t : List ℕ) (old now after : Outside) → now ≡ moved_by (gone a b t) old
    → after ≡ moved_by (reading in_port.Proof count) now → after ≡ moved_by (gone a (b + count) t) old
reads_proof a b count t old now after e h =
    same_gone (a + 0) a (b + count) (b + count) (t ++ []) t old after (omega arith) refl (append-nil t)
    (h ∙ (ap (moved_by (reading in_port.Proof count)) e
    ∙ moved_by-both (gone a b t) (reading in_port.Proof count) old))

pub writes_answer : (a b : ℕ) (t more : List ℕ) (old now after : Outside) → now ≡ moved_by (gone a b t) old
    → after ≡ moved_by (writing (out_port.Answers, more)) now → after ≡ moved_by (gone a b (t ++ more)) old
writes_answer a b t more old now after e h =
    same_gone (a + 0) a (b + 0) b (t ++ more) (t ++ more) old after (omega arith) (omega arith) refl
    (h ∙ (ap (moved_by (writing (out_port.Answers, more))) e
    ∙ moved_by-both (gone a b t) (writing (out_port.Answers, more)) old))

-- nothing is written
pub writes_nothing : (o : Outside) → o ≡ moved_by (writing (out_port.Answers, [])) o
writes_nothing o = sym (moved_by-nothing o)

pub writes_text : (text more : List ℕ) (o after : Outside) → text ≡ more → after ≡ write_at out_port.Answers text o
    → after ≡ moved_by (writing (out_port.Answers, more)) o
writes_text text more o after same h =
    h ∙ (ap (λ (bytes : List ℕ). write_at out_port.Answers bytes o) same ∙ write_at-moves out_port.Answers more o)

-- What is left of the other input, and of both behind a write.

pub script_left_behind_proof : (count : ℕ) (left : List ℕ) (o after : Outside)
    → after ≡ moved_by (reading in_port.Proof count) o → o.script_in.left ≡ Some left
    → after.script_in.left ≡ Some left
script_left_behind_proof count left o after h told =
    ap (λ (x : Outside). x.script_in.left) h ∙ ap (option_map (drop 0)) told

pub proof_left_behind_script : (count : ℕ) (left : List ℕ) (o after : Outside)
    → after ≡ moved_by (reading in_port.Script count) o → o.proof_in.left ≡ Some left
    → after.proof_in.left ≡ Some left
proof_left_behind_script count left o after h told =
    ap (λ (x : Outside). x.proof_in.left) h ∙ ap (option_map (drop 0)) told

pub script_left_behind_answer : (text left : List ℕ) (o after : Outside)
    → after ≡ moved_by (writing (out_port.Answers, text)) o → o.script_in.left ≡ Some left
    → after.script_in.left ≡ Some left
script_left_behind_answer text left o after h told =
    ap (λ (x : Outside). x.script_in.left) h ∙ ap (option_map (drop 0)) told

pub proof_left_behind_answer : (text left : List ℕ) (o after : Outside)
    → after ≡ moved_by (writing (out_port.Answers, text)) o → o.proof_in.left ≡ Some left
    → after.proof_in.left ≡ Some left
proof_left_behind_answer text left o after h told =
    ap (λ (x : Outside). x.proof_in.left) h ∙ ap (option_map (drop 0)) told
