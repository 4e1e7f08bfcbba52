-- Private: what is kept of the bytes that were read, and what each step makes of it.
use Rattle.std.specs.Prelude.{◌≡◌, ℕ, ◌+◌, ◌-◌, ◌<◌, ◌≤◌, Bool, true, false, List, [], ◌++◌, length, take, Option, Some, None}
use Rattle.sb_world.specs.Outside.{Outside}
use Rattle.sb_reader.specs.declared.feed.Next.{Next}
use Rattle.sb_reader.specs.declared.feed.Next.TheVariants as next
use Rattle.sb_reader.specs.Feeding.{Unanswered, Waits, IsNext}
use Rattle.sb_input.specs.TakingEntries.{EntriesState, ReadsOn}
use Rattle.sb_input.specs.Pieces.{turns_of}

-- no more bytes than the limit were read, and fewer where the script's end was met
pub record IsWithin (s : EntriesState) : Type 0 where
  pub most : s.read ≤ s.limit
  pub below : s.kept.1 ≡ true → s.read < s.limit

-- no whole entry is left, and more bytes may come
abbrev pub is_waiting : Next → Bool
is_waiting next.NotYet = true
is_waiting (next.Command sexpr) = false
is_waiting (next.Refused refusal) = false
is_waiting (next.Ended ending) = false

abbrev pub with_kept : EntriesState → Unanswered → EntriesState
with_kept s kept = record s { kept = kept }

-- what is found among the bytes that are kept
abbrev pub FindsKept : Option Next → EntriesState → EntriesState → Type 0
FindsKept (Some found) old new =
    (new ≡ with_kept old new.kept) × (IsNext found old.kept new.kept) × (is_waiting found ≡ true → old.read ≡ old.limit)
FindsKept None old new = (new ≡ with_kept old new.kept) × (Waits old.kept new.kept) × (old.read < old.limit)

-- the next bytes are read, or the end is met
pub record ReadsPiece (old new : EntriesState) (before after : Outside) : Type 0 where
  pub count : ℕ
  pub reads : ReadsOn count old new before after
  pub grown : length new.kept.0 ≡ length old.kept.0 + count
  pub nothing : new.kept.1 ≡ true → count ≡ 0
  pub something : new.kept.1 ≡ false → 0 < count
  pub bytes : (left : List ℕ) → before.script_in.left ≡ Some left
      → (new.kept.0 ≡ old.kept.0 ++ take count left) × ((count ≤ length left) × (count ≡ 0 → left ≡ []))

-- how many pieces may still be read
abbrev pub turns_left : EntriesState → ℕ
turns_left s = turns_of s.kept.1 (s.limit - s.read)
