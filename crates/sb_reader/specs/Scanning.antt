-- Private: how a scan for the end of an entry goes on byte by byte, and what it knows of the bytes behind it: for
-- private functions alone.
use Rattle.std.specs.Prelude.{◌≡◌, ℕ, ◌+◌, ◌-◌, ◌≤◌, zero, suc, Bool, true, false, not, ◌&&◌, ◌==◌, nat_le, if◌then◌else◌, List, [], ◌∷◌, ◌++◌, length, take, drop}
use Rattle.sb_reader.specs.declared.scan.Place.{Place}
use Rattle.sb_reader.specs.declared.scan.Place.TheVariants.{InGap, InComment, InText, BehindQuote, InQuoted, InRun}
use Rattle.sb_reader.specs.declared.scan.Step.{Step}
use Rattle.sb_reader.specs.declared.scan.Step.TheVariants.{To, EndsBefore, EndsBehind}
use Rattle.sb_reader.specs.declared.scan.Found.{Found}
use Rattle.sb_reader.specs.declared.scan.Found.TheVariants as found
use Rattle.sb_reader.specs.declared.scan.Scan.{Scan}
use Rattle.sb_reader.specs.Tokens.{Token, Open, all_pass, has_paired_quotes, is_blank, is_line_end, is_run_byte, is_gap, is_open_gap}
use Rattle.sb_reader.specs.Entries.{closes_at_end, stays_open, is_open_entry, Spells, HoldsNoEntry}
use Rattle.sb_reader.specs.OneEntry.{is_one_entry}

-- what a byte outside a token and a comment does, behind so many open parentheses
abbrev pub step_in_gap : ℕ → ℕ → Step
step_in_gap depth b =
    if b == 40 then To InGap (depth + 1)
    else if b == 41 then (if nat_le depth 1 then EndsBehind else To InGap (depth - 1))
    else if b == 34 then To InText depth
    else if b == 124 then To InQuoted depth
    else if b == 59 then To InComment depth
    else if is_blank b then To InGap depth
    else To InRun depth

-- what a byte behind a token does that ends in front of it
abbrev pub step_behind_token : ℕ → ℕ → Step
step_behind_token depth b = if depth == 0 then EndsBefore else step_in_gap depth b

-- what a byte does at a place
abbrev pub step_at : Place → ℕ → ℕ → Step
step_at InGap depth b = step_in_gap depth b
step_at InComment depth b = if is_line_end b then To InGap depth else To InComment depth
step_at InText depth b = if b == 34 then To BehindQuote depth else To InText depth
step_at BehindQuote depth b = if b == 34 then To InText depth else step_behind_token depth b
step_at InQuoted depth b = if b == 124 then (if depth == 0 then EndsBehind else To InGap depth) else To InQuoted depth
step_at InRun depth b = if is_run_byte b then To InRun depth else step_behind_token depth b

-- the scan with one more byte, which leads to that place
abbrev pub scan_to : Scan → Place → ℕ → Scan
scan_to scan place depth =
    record { scanned = scan.scanned + 1; depth = depth; place = place }

-- what has been found where all bytes are scanned
abbrev pub found_at_end : Bool → Place → ℕ → ℕ → Found
found_at_end ended InGap depth n = if depth == 0 then found.Gap else found.Part
found_at_end ended InComment depth n = if depth == 0 then found.Gap else found.Part
found_at_end ended InText depth n = found.Part
found_at_end ended BehindQuote depth n = if ended && (depth == 0) then found.End n else found.Part
found_at_end ended InQuoted depth n = found.Part
found_at_end ended InRun depth n = if ended && (depth == 0) then found.End n else found.Part

-- A gap: with more behind it, that decides.
pub record EndsInGap (gap : List ℕ) : Type 0 where
  pub closed : (more : List ℕ) → is_gap (gap ++ more) ≡ is_gap more
  pub opened : (more : List ℕ) → is_open_gap (gap ++ more) ≡ is_open_gap more

-- a gap, and the beginning of a comment
pub record EndsInComment (rest : List ℕ) : Type 0 where
  pub gap : List ℕ
  pub inside : List ℕ
  pub split : rest ≡ gap ++ 59 ∷ inside
  pub is_gap : EndsInGap gap
  pub no_line_end : all_pass (λ b. not (is_line_end b)) inside ≡ true

-- a gap, and the beginning of a text
pub record EndsInText (rest : List ℕ) : Type 0 where
  pub gap : List ℕ
  pub inside : List ℕ
  pub split : rest ≡ gap ++ 34 ∷ inside
  pub is_gap : EndsInGap gap
  pub paired : (more : List ℕ) → has_paired_quotes (inside ++ more) ≡ has_paired_quotes more

-- the same, and a quote
pub record EndsBehindQuote (rest : List ℕ) : Type 0 where
  pub gap : List ℕ
  pub inside : List ℕ
  pub split : rest ≡ gap ++ (34 ∷ (inside ++ 34 ∷ []))
  pub is_gap : EndsInGap gap
  pub paired : (more : List ℕ) → has_paired_quotes (inside ++ more) ≡ has_paired_quotes more

-- a gap, and the beginning of a quoted symbol
pub record EndsInQuoted (rest : List ℕ) : Type 0 where
  pub gap : List ℕ
  pub inside : List ℕ
  pub split : rest ≡ gap ++ 124 ∷ inside
  pub is_gap : EndsInGap gap
  pub no_bar : (more : List ℕ) → all_pass (λ b. not (b == 124)) (inside ++ more) ≡ all_pass (λ b. not (b == 124)) more

-- a gap, and the beginning of a run
pub record EndsInRun (rest : List ℕ) : Type 0 where
  pub gap : List ℕ
  pub first : ℕ
  pub others : List ℕ
  pub split : rest ≡ gap ++ first ∷ others
  pub is_gap : EndsInGap gap
  pub first_passes : is_run_byte first ≡ true
  pub others_pass : (more : List ℕ) → all_pass is_run_byte (others ++ more) ≡ all_pass is_run_byte more

-- what stands behind the whole tokens, at each place
abbrev pub EndsAt : Place → List ℕ → Type 0
EndsAt InGap rest = EndsInGap rest
EndsAt InComment rest = EndsInComment rest
EndsAt InText rest = EndsInText rest
EndsAt BehindQuote rest = EndsBehindQuote rest
EndsAt InQuoted rest = EndsInQuoted rest
EndsAt InRun rest = EndsInRun rest

-- with so many parentheses open in front, no entry is whole
abbrev pub stays_open_behind : ℕ → List Token → Bool
stays_open_behind zero tokens = is_open_entry tokens
stays_open_behind (suc depth) tokens = stays_open (suc depth) tokens

-- with so many parentheses open in front, the entry ends with the last of the tokens
abbrev pub ends_behind : ℕ → List Token → Bool
ends_behind zero tokens = is_one_entry tokens
ends_behind (suc depth) tokens = closes_at_end (suc depth) tokens

-- the tokens that come first where so many parentheses are open: none, or an opening one
abbrev pub BeginsAt : ℕ → List Token → Type 0
BeginsAt zero tokens = tokens ≡ []
BeginsAt (suc depth) tokens = (others : List Token) × (tokens ≡ Open ∷ others)

-- Behind the tokens so many parentheses are open.
pub record LeavesOpen (tokens : List Token) (depth : ℕ) : Type 0 where
  pub begins : BeginsAt depth tokens
  pub open_is : (more : List Token) → is_open_entry (tokens ++ more) ≡ stays_open_behind depth more
  pub one_is : (token : Token) (more : List Token)
      → is_one_entry (tokens ++ token ∷ more) ≡ ends_behind depth (token ∷ more)

-- The bytes are the tokens of an entry that isn't whole, and what stands at that place behind them.
pub record Scanned (place : Place) (depth : ℕ) (bytes : List ℕ) : Type 0 where
  pub tokens : List Token
  pub front : List ℕ
  pub rest : List ℕ
  pub split : bytes ≡ front ++ rest
  pub spelled : Spells false tokens front rest
  pub leaves : LeavesOpen tokens depth
  pub ends : EndsAt place rest

-- A scan of the first of these bytes.
pub record IsScan (scan : Scan) (bytes : List ℕ) : Type 0 where
  pub within : scan.scanned ≤ length bytes
  pub depth_within : scan.depth ≤ scan.scanned
  pub knows : Scanned scan.place scan.depth (take scan.scanned bytes)

-- The tokens of one entry are the front, and rest follows them.
pub record SpellsOne (ended : Bool) (front rest : List ℕ) : Type 0 where
  pub tokens : List Token
  pub one : is_one_entry tokens ≡ true
  pub spelled : Spells ended tokens front rest

-- The first entry ends there.
pub record EndsEntry (ended : Bool) (bytes : List ℕ) (n : ℕ) : Type 0 where
  pub within : n ≤ length bytes
  pub spells : SpellsOne ended (take n bytes) (drop n bytes)

-- what a scan has found says of the bytes
abbrev pub FindsEnd : Bool → List ℕ → Found → Type 0
FindsEnd ended bytes (found.End n) = EndsEntry ended bytes n
FindsEnd ended bytes found.Gap = (is_open_gap bytes ≡ true) × HoldsNoEntry ended bytes
FindsEnd ended bytes found.Part = (is_open_gap bytes ≡ false) × HoldsNoEntry ended bytes

-- no byte is left to scan, if no end is found
abbrev pub ScansAll : Found → Scan → List ℕ → Type 0
ScansAll (found.End n) scan bytes = Unit {0}
ScansAll found.Gap scan bytes = scan.scanned ≡ length bytes
ScansAll found.Part scan bytes = scan.scanned ≡ length bytes

-- The entries up to the start are answered, and the scan is of what follows.
pub record IsStarted (bytes : List ℕ) (start : ℕ) (scan : Scan) : Type 0 where
  pub within : start ≤ length bytes
  pub scan_of : IsScan scan (drop start bytes)
