-- The entries of a script: forms, and refusals with the first fault (SMT-LIB 2.6, section 3.2).
use Rattle.std.specs.Prelude.{◌≡◌, ℕ, ◌+◌, ◌-◌, ◌⊎◌, Bool, true, false, not, ◌&&◌, ◌==◌, if◌then◌else◌, List, [], ◌∷◌, ◌++◌, Option, Some, None, nat_le}
use Rattle.sb_reader.specs.declared.feed.Refusal.{Refusal}
use Rattle.sb_reader.specs.declared.feed.Refusal.TheVariants.{StrayClose, BadToken, TooDeep, BareToken}
use Rattle.sb_reader.specs.Tokens.{Token, Open, Close, spelling_of, is_run_byte, some_pass, all_pass, has_paired_quotes, is_whole, is_gap, is_open_gap, is_bad}
use Rattle.sb_reader.specs.Forms.{Form, Forms, Group, tokens_of, has_kinds}

-- an entry: a form in parentheses, or a refusal
pub data Entry : Type 0 where
  Command : Form → Entry
  Refused : Refusal → Entry

-- how deep parentheses may be nested
abbrev pub depth_limit : ℕ
depth_limit = 512

-- With so many parentheses open, the last of the tokens closes the outermost one, and none before it does.
abbrev pub closes_at_end : ℕ → List Token → Bool
closes_at_end depth [] = false
closes_at_end depth (Open ∷ tokens) = closes_at_end (depth + 1) tokens
closes_at_end depth (Close ∷ []) = depth == 1
closes_at_end depth (Close ∷ token ∷ tokens) = not (depth == 1) && closes_at_end (depth - 1) (token ∷ tokens)
closes_at_end depth (token ∷ tokens) = closes_at_end depth tokens

-- an opening parenthesis, and all up to the one that closes it
abbrev pub is_parenthesized : List Token → Bool
is_parenthesized (Open ∷ tokens) = closes_at_end 1 tokens
is_parenthesized _ = false

-- With so many parentheses open, none of the tokens closes the outermost one.
abbrev pub stays_open : ℕ → List Token → Bool
stays_open depth [] = true
stays_open depth (Open ∷ tokens) = stays_open (depth + 1) tokens
stays_open depth (Close ∷ tokens) = not (depth == 1) && stays_open (depth - 1) tokens
stays_open depth (token ∷ tokens) = stays_open depth tokens

-- no token, or an opening parenthesis that is not closed
abbrev pub is_open_entry : List Token → Bool
is_open_entry [] = true
is_open_entry (Open ∷ tokens) = stays_open 1 tokens
is_open_entry _ = false

-- the first fault of tokens behind so many open parentheses
abbrev pub first_fault : ℕ → List Token → Option Refusal
first_fault depth [] = None
first_fault depth (Open ∷ tokens) = if nat_le depth_limit depth then Some TooDeep else first_fault (depth + 1) tokens
first_fault depth (Close ∷ tokens) = first_fault (depth - 1) tokens
first_fault depth (token ∷ tokens) = if is_bad token then Some BadToken else first_fault depth tokens

abbrev pub is_parenthesis : Token → Bool
is_parenthesis Open = true
is_parenthesis Close = true
is_parenthesis _ = false

-- the tokens of a form in parentheses without a fault
pub record IsCommand (form : Form) (tokens : List Token) : Type 0 where
  pub forms : Forms
  pub list : form ≡ Group forms
  pub tokens_are : tokens ≡ tokens_of form
  pub kinds : has_kinds form ≡ true
  pub no_fault : first_fault 0 tokens ≡ None

-- a closing parenthesis outside a form
abbrev pub IsStrayClose : Refusal → List Token → Type 0
IsStrayClose refusal tokens = (tokens ≡ Close ∷ []) × (refusal ≡ StrayClose)

-- a token outside a form, bad or not
abbrev pub IsBareToken : Refusal → List Token → Type 0
IsBareToken refusal tokens = (token : Token) × (tokens ≡ token ∷ []) × (is_parenthesis token ≡ false)
    × (refusal ≡ (if is_bad token then BadToken else BareToken))

-- a form in parentheses with a fault inside
abbrev pub IsFaultyForm : Refusal → List Token → Type 0
IsFaultyForm refusal tokens = (is_parenthesized tokens ≡ true) × (first_fault 0 tokens ≡ Some refusal)

-- the tokens of an entry
abbrev pub IsEntry : Entry → List Token → Type 0
IsEntry (Command form) tokens = IsCommand form tokens
IsEntry (Refused refusal) tokens =
    IsStrayClose refusal tokens ⊎ (IsBareToken refusal tokens ⊎ IsFaultyForm refusal tokens)

-- front is the tokens in order, each whole where it stands, with gaps before them; rest follows
abbrev pub Spells : Bool → List Token → List ℕ → List ℕ → Type 0
Spells ended [] front rest = front ≡ []
Spells ended (token ∷ tokens) front rest =
    (gap : List ℕ) × (behind : List ℕ) × (is_gap gap ≡ true) × (front ≡ gap ++ (spelling_of token ++ behind))
    × (is_whole ended token (behind ++ rest) ≡ true) × Spells ended tokens behind rest

-- The beginning of a text, whose closing quote is not there, or may be the first of a pair.
abbrev pub IsPartText : Bool → List ℕ → Type 0
IsPartText ended bytes =
    (inside : List ℕ) × ((bytes ≡ 34 ∷ inside) ⊎ ((ended ≡ false) × (bytes ≡ 34 ∷ (inside ++ 34 ∷ []))))
    × (has_paired_quotes inside ≡ true)

-- the beginning of a quoted symbol
abbrev pub IsPartQuoted : List ℕ → Type 0
IsPartQuoted bytes = (inside : List ℕ) × (bytes ≡ 124 ∷ inside) × (all_pass (λ b. not (b == 124)) inside ≡ true)

-- a run that may go on
abbrev pub IsPartRun : Bool → List ℕ → Type 0
IsPartRun ended bytes = (ended ≡ false) × (some_pass is_run_byte bytes ≡ true)

-- White space and comments, and behind them at most the beginning of a token: no token is whole in it.
abbrev pub HoldsNoToken : Bool → List ℕ → Type 0
HoldsNoToken ended bytes =
    (is_open_gap bytes ≡ true)
    ⊎ ((gap : List ℕ) × (part : List ℕ) × (is_gap gap ≡ true) × (bytes ≡ gap ++ part)
    × (IsPartText ended part ⊎ (IsPartQuoted part ⊎ IsPartRun ended part)))

-- No entry is whole in the bytes: they hold no token, or the tokens of a form that is not closed.
pub record HoldsNoEntry (ended : Bool) (bytes : List ℕ) : Type 0 where
  pub tokens : List Token
  pub front : List ℕ
  pub rest : List ℕ
  pub split : bytes ≡ front ++ rest
  pub spelled : Spells ended tokens front rest
  pub open_entry : is_open_entry tokens ≡ true
  pub no_token : HoldsNoToken ended rest

-- front is the entry, and rest follows it
abbrev pub SpellsEntry : Bool → Entry → List ℕ → List ℕ → Type 0
SpellsEntry ended entry front rest = (tokens : List Token) × IsEntry entry tokens × Spells ended tokens front rest

-- The bytes begin with these entries, each whole where it stands, and what is left follows them.
abbrev pub Begins : Bool → List ℕ → List Entry → List ℕ → Type 0
Begins ended bytes [] left = bytes ≡ left
Begins ended bytes (entry ∷ entries) left =
    (front : List ℕ) × (behind : List ℕ) × (bytes ≡ front ++ behind) × SpellsEntry ended entry front behind
    × Begins ended behind entries left

-- The bytes, behind which no more come where they are ended, are these entries and a rest without a whole one.
abbrev pub Reads : Bool → List ℕ → List Entry → Type 0
Reads ended bytes [] = HoldsNoEntry ended bytes
Reads ended bytes (entry ∷ entries) =
    (front : List ℕ) × (rest : List ℕ) × (bytes ≡ front ++ rest) × SpellsEntry ended entry front rest
    × Reads ended rest entries
