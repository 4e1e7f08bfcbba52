-- Private: how the code finds the first token of bytes: for private contracts alone.
use Rattle.std.specs.Prelude.{ℕ, ◌+◌, Bool, true, false, not, ◌==◌, nat_lt, if◌then◌else◌, List, [], ◌∷◌, Option, Some, None, take, drop, length}
use Rattle.std.specs.List.{position_or_len}
use Rattle.std.specs.Borrow.{Bor}
use Rattle.sb_reader.specs.Tokens.{Token, Open, Close, Text, Quoted, Run, is_blank, is_line_end, is_run_byte}
use Rattle.sb_reader.specs.declared.token.Lexeme.TheVariants as lexeme
use Rattle.sb_reader.specs.declared.token.Lexeme.{Lexeme}

-- what is behind the white space and the comments in front, inside a comment or not
abbrev pub skip_from : Bool → List ℕ → List ℕ
skip_from in_comment [] = []
skip_from true (b ∷ bs) = skip_from (not (is_line_end b)) bs
skip_from false (b ∷ bs) = if b == 59 then skip_from true bs else (if is_blank b then skip_from false bs else b ∷ bs)

-- The index of the quote that closes a text, counted from an index; the second looks at what follows a quote there.
abbrev mutual
  pub closing_from : ℕ → List ℕ → Option ℕ
  closing_from i [] = None
  closing_from i (b ∷ bs) = if b == 34 then closing_behind i bs else closing_from (i + 1) bs

  pub closing_behind : ℕ → List ℕ → Option ℕ
  closing_behind i [] = Some i
  closing_behind i (b ∷ bs) = if b == 34 then closing_from (i + 2) bs else Some i

-- a token, and the bytes behind it
abbrev pub Lexed : Type 0
Lexed = Option (Token × List ℕ)

abbrev pub cut_text : List ℕ → Option ℕ → Lexed
cut_text inside None = None
cut_text inside (Some end) = Some (Text (take end inside), drop (end + 1) inside)

abbrev pub cut_quoted : List ℕ → ℕ → Lexed
cut_quoted inside end = if nat_lt end (length inside) then Some (Quoted (take end inside), drop (end + 1) inside)
    else None

abbrev pub cut_run : List ℕ → ℕ → Lexed
cut_run bytes end = Some (Run (take end bytes), drop end bytes)

abbrev pub text_in : List ℕ → Lexed
text_in inside = cut_text inside (closing_from 0 inside)

abbrev pub quoted_in : List ℕ → Lexed
quoted_in inside = cut_quoted inside (position_or_len (λ b. b == 124) inside)

abbrev pub run_in : List ℕ → Lexed
run_in bytes = cut_run bytes (position_or_len (λ b. not (is_run_byte b)) bytes)

-- the token that begins with the first byte
abbrev pub token_in : List ℕ → Lexed
token_in [] = None
token_in (b ∷ bs) =
    if b == 40 then Some (Open, bs)
    else (if b == 41 then Some (Close, bs)
    else (if b == 34 then text_in bs
    else (if b == 124 then quoted_in bs
    else run_in (b ∷ bs))))

-- the first token
abbrev pub first_token : List ℕ → Lexed
first_token bytes = token_in (skip_from false bytes)

-- what the code keeps, as a token
abbrev pub token_of : Lexeme → Token
token_of lexeme.Open = Open
token_of lexeme.Close = Close
token_of (lexeme.Text bytes) = Text bytes.now
token_of (lexeme.Quoted bytes) = Quoted bytes.now
token_of (lexeme.Run bytes) = Run bytes.now

abbrev pub lexed_of : Option (Lexeme × Bor (List ℕ)) → Lexed
lexed_of None = None
lexed_of (Some (lexeme, behind)) = Some (token_of lexeme, behind.now)
