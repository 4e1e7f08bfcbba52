-- Tokens (SMT-LIB 2.6, section 3.1).
use Rattle.std.specs.Prelude.{ℕ, Bool, true, false, not, ◌&&◌, ◌||◌, ◌==◌, nat_le, nat_lt, if◌then◌else◌, List, [], ◌∷◌, ◌++◌, codes}
use Rattle.std.specs.List.{list_any}

-- A token. A text and a quoted symbol have the bytes between their quotes or bars; a run is a longest row of
-- other bytes.
pub data Token : Type 0 where
  Open : Token
  Close : Token
  Text : List ℕ → Token
  Quoted : List ℕ → Token
  Run : List ℕ → Token

-- how a token is written: 40 and 41 are the parentheses, 34 is the quote, 124 the bar
abbrev pub spelling_of : Token → List ℕ
spelling_of Open = 40 ∷ []
spelling_of Close = 41 ∷ []
spelling_of (Text bytes) = 34 ∷ (bytes ++ 34 ∷ [])
spelling_of (Quoted bytes) = 124 ∷ (bytes ++ 124 ∷ [])
spelling_of (Run bytes) = bytes

-- tab, line feed, carriage return, space
abbrev pub is_blank : ℕ → Bool
is_blank b = (b == 9) || ((b == 10) || ((b == 13) || (b == 32)))

-- a line feed or a carriage return, which ends a comment
abbrev pub is_line_end : ℕ → Bool
is_line_end b = (b == 10) || (b == 13)

-- a byte of a run: no white space, and none of ( ) " ; |
abbrev pub is_run_byte : ℕ → Bool
is_run_byte b = not (is_blank b)
    && (not (b == 40) && (not (b == 41) && (not (b == 34) && (not (b == 59) && not (b == 124)))))

-- each byte passes
abbrev pub all_pass : (ℕ → Bool) → List ℕ → Bool
all_pass test [] = true
all_pass test (b ∷ bs) = test b && all_pass test bs

-- one byte or more, all of which pass
abbrev pub some_pass : (ℕ → Bool) → List ℕ → Bool
some_pass test [] = false
some_pass test (b ∷ bs) = test b && all_pass test bs

-- the first byte is there, and passes
abbrev pub begins_with : (ℕ → Bool) → List ℕ → Bool
begins_with test [] = false
begins_with test (b ∷ bs) = test b

-- quotes stand in pairs alone
abbrev mutual
  pub has_paired_quotes : List ℕ → Bool
  has_paired_quotes [] = true
  has_paired_quotes (b ∷ bs) = if b == 34 then begins_with_second bs else has_paired_quotes bs

  -- the second quote of a pair, and behind it quotes in pairs
  pub begins_with_second : List ℕ → Bool
  begins_with_second [] = false
  begins_with_second (b ∷ bs) = (b == 34) && has_paired_quotes bs

-- Something follows, or no more bytes come.
abbrev pub is_settled : Bool → List ℕ → Bool
is_settled ended [] = ended
is_settled ended (b ∷ bs) = true

-- The token is whole where these bytes follow it: a text isn't followed at once by a quote, which would be the
-- second of a pair, and a run is as long as it can be.
abbrev pub is_whole : Bool → Token → List ℕ → Bool
is_whole ended Open after = true
is_whole ended Close after = true
is_whole ended (Text bytes) after =
    has_paired_quotes bytes && (is_settled ended after && not (begins_with (λ b. b == 34) after))
is_whole ended (Quoted bytes) after = all_pass (λ b. not (b == 124)) bytes
is_whole ended (Run bytes) after =
    some_pass is_run_byte bytes && (is_settled ended after && not (begins_with is_run_byte after))

-- White space and comments, each comment up to the end of its line: what may stand before a token.
abbrev mutual
  pub is_gap : List ℕ → Bool
  is_gap [] = true
  is_gap (b ∷ bs) = if b == 59 then is_comment_then_gap bs else is_blank b && is_gap bs

  pub is_comment_then_gap : List ℕ → Bool
  is_comment_then_gap [] = false
  is_comment_then_gap (b ∷ bs) = if is_line_end b then is_gap bs else is_comment_then_gap bs

-- the same, but the last comment may go on
abbrev mutual
  pub is_open_gap : List ℕ → Bool
  is_open_gap [] = true
  is_open_gap (b ∷ bs) = if b == 59 then is_comment_then_open_gap bs else is_blank b && is_open_gap bs

  pub is_comment_then_open_gap : List ℕ → Bool
  is_comment_then_open_gap [] = true
  is_comment_then_open_gap (b ∷ bs) = if is_line_end b then is_open_gap bs else is_comment_then_open_gap bs

-- a byte that a text and a quoted symbol may not hold: below 32 but for white space, or 127
abbrev pub is_bad_byte : ℕ → Bool
is_bad_byte b = (nat_lt b 32 && not (is_blank b)) || (b == 127)

abbrev pub is_digit : ℕ → Bool
is_digit b = nat_le 48 b && nat_le b 57

abbrev pub is_letter : ℕ → Bool
is_letter b = (nat_le 65 b && nat_le b 90) || (nat_le 97 b && nat_le b 122)

-- 0, or digits without a leading zero
abbrev pub is_numeral : List ℕ → Bool
is_numeral [] = false
is_numeral (b ∷ []) = is_digit b
is_numeral (b ∷ c ∷ bs) = (is_digit b && not (b == 48)) && all_pass is_digit (c ∷ bs)

-- the bytes before the first point, which is 46, and those behind it
abbrev pub before_point : List ℕ → List ℕ
before_point [] = []
before_point (b ∷ bs) = if b == 46 then [] else b ∷ before_point bs

abbrev pub behind_point : List ℕ → List ℕ
behind_point [] = []
behind_point (b ∷ bs) = if b == 46 then bs else behind_point bs

-- a numeral, a point, and one digit or more
abbrev pub is_decimal : List ℕ → Bool
is_decimal bytes = is_numeral (before_point bytes) && some_pass is_digit (behind_point bytes)

abbrev pub is_hex_digit : ℕ → Bool
is_hex_digit b = is_digit b || ((nat_le 65 b && nat_le b 70) || (nat_le 97 b && nat_le b 102))

abbrev pub is_binary_digit : ℕ → Bool
is_binary_digit b = (b == 48) || (b == 49)

-- #x and hexadecimal digits, or #b and binary digits
abbrev pub is_hexadecimal_or_binary : List ℕ → Bool
is_hexadecimal_or_binary [] = false
is_hexadecimal_or_binary (b ∷ []) = false
is_hexadecimal_or_binary (b ∷ c ∷ bs) =
    (b == 35) && (((c == 120) && some_pass is_hex_digit bs) || ((c == 98) && some_pass is_binary_digit bs))

-- ~ ! @ $ % ^ & * _ - + = < > . ? /
abbrev pub symbol_marks : List ℕ
symbol_marks = codes "~!@$%^&*_-+=<>.?/"

abbrev pub is_symbol_byte : ℕ → Bool
is_symbol_byte b = is_letter b || (is_digit b || list_any (λ mark. b == mark) symbol_marks)

-- letters, digits and marks, the first of them no digit
abbrev pub is_simple_symbol : List ℕ → Bool
is_simple_symbol bytes = not (begins_with is_digit bytes) && some_pass is_symbol_byte bytes

-- a colon, and behind it a simple symbol
abbrev pub is_keyword : List ℕ → Bool
is_keyword [] = false
is_keyword (b ∷ bs) = (b == 58) && is_simple_symbol bs

-- delimited as a token, and none
abbrev pub is_bad : Token → Bool
is_bad Open = false
is_bad Close = false
is_bad (Text bytes) = not (all_pass (λ b. not (is_bad_byte b)) bytes)
is_bad (Quoted bytes) = not (all_pass (λ b. not (is_bad_byte b) && not (b == 92)) bytes)
is_bad (Run bytes) = not
    (is_numeral bytes
    || (is_decimal bytes || (is_hexadecimal_or_binary bytes || (is_simple_symbol bytes || is_keyword bytes))))
