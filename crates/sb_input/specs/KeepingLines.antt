-- Private: what is kept of the bytes that were read, and what each step makes of it.
use Rattle.std.specs.Prelude.{◌≡◌, ℕ, ◌+◌, ◌-◌, ◌<◌, ◌≤◌, Bool, true, false, List, [], ◌∷◌, ◌++◌, length, take, drop, Option, Some, None}
use Rattle.sb_world.specs.Outside.{Outside}
use Rattle.sb_rulebook.specs.LineLaws.{is_one_line}
use Rattle.sb_input.specs.declared.lines.Found.{Found}
use Rattle.sb_input.specs.declared.lines.Found.TheVariants.{Line, End, Limit}
use Rattle.sb_input.specs.TakingLines.{LinesState, ReadsOn}
use Rattle.sb_input.specs.Pieces.{turns_of}

-- where the first line feed stands
abbrev pub FindsFeed : Option ℕ → List ℕ → Type 0
FindsFeed None bytes = is_one_line bytes ≡ true
FindsFeed (Some place) bytes =
    (place < length bytes)
    × ((is_one_line (take place bytes) ≡ true) × (bytes ≡ take place bytes ++ 10 ∷ drop (place + 1) bytes))

pub record IsSearched (bytes : List ℕ) (start line_start line_end searched : ℕ) (ended : Bool) (read limit : ℕ)
    : Type 0 where
  pub line_from : line_start ≤ line_end
  pub line_to : line_end ≤ length bytes
  pub within : start + searched ≤ length bytes
  pub none : is_one_line (take searched (drop start bytes)) ≡ true
  pub limited : read ≤ limit
  pub below : ended ≡ true → read < limit

abbrev pub cleared : LinesState → LinesState
cleared s = record s { line = [] }

-- a line is taken that a line feed ends
pub record TakesLine (old new : LinesState) : Type 0 where
  pub split : old.kept ≡ new.line ++ 10 ∷ new.kept
  pub one : is_one_line new.line ≡ true
  pub same : new ≡ record old { line = new.line; kept = new.kept }

-- all that is kept is taken as a line
abbrev pub all_taken : LinesState → LinesState
all_taken s = record s { line = s.kept; kept = [] }

abbrev pub Takes : Bool → LinesState → LinesState → Type 0
Takes true old new = TakesLine old new
Takes false old new = (new ≡ cleared old) × (is_one_line old.kept ≡ true)

abbrev pub TakesRest : Found → LinesState → LinesState → Type 0
TakesRest (Line ended) old new = (ended ≡ false) × ((0 < length old.kept) × (new ≡ all_taken old))
TakesRest End old new = (old.kept ≡ []) × (new ≡ old)
TakesRest Limit old new = ⊥

-- what is found among the bytes that are kept
abbrev pub FindsKept : Option Found → LinesState → LinesState → Type 0
FindsKept (Some (Line true)) old new = TakesLine old new
FindsKept (Some (Line false)) old new =
    (old.ended ≡ true) × ((is_one_line old.kept ≡ true) × ((0 < length old.kept) × (new ≡ all_taken old)))
FindsKept (Some End) old new = (old.ended ≡ true) × ((old.kept ≡ []) × (new ≡ cleared old))
FindsKept (Some Limit) old new =
    (old.ended ≡ false) × ((old.read ≡ old.limit) × ((is_one_line old.kept ≡ true) × (new ≡ cleared old)))
FindsKept None old new = (old.ended ≡ false) × ((old.read < old.limit) × (new ≡ cleared old))

-- the next bytes are read, or the end is met
pub record ReadsPiece (old new : LinesState) (before after : Outside) : Type 0 where
  pub count : ℕ
  pub reads : ReadsOn count old new before after
  pub length : length new.kept ≡ length old.kept + count
  pub nothing : new.ended ≡ true → count ≡ 0
  pub something : new.ended ≡ false → 0 < count
  pub bytes : (left : List ℕ) → before.proof_in.left ≡ Some left
      → (old.kept ++ left ≡ new.kept ++ drop count left) × (count ≡ 0 → left ≡ [])

-- how many pieces may still be read
abbrev pub turns_left : LinesState → ℕ
turns_left s = turns_of s.ended (s.limit - s.read)
