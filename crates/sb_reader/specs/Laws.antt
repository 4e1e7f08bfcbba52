-- Laws of the definitions: bytes are read in one way, and what is read stays read.
use Rattle.std.specs.Prelude.{◌≡◌, ℕ, ◌<◌, Bool, true, false, List, [], ◌∷◌, ◌++◌, length}
use Rattle.sb_reader.specs.Tokens.{Token, spelling_of, is_gap, is_open_gap, is_whole}
use Rattle.sb_reader.specs.Entries.{Entry, Spells, SpellsEntry, HoldsNoEntry, Reads, Begins}
use Rattle.sb_reader.specs.Feeding.{ShortensTo}

-- Tokens that are whole stay whole when more bytes come, or no more come.
abbrev pub TokensStay : Type 0
TokensStay = (ended : Bool) (tokens : List Token) (front rest more : List ℕ) → Spells false tokens front rest
    → Spells ended tokens front (rest ++ more)

-- So does an entry.
abbrev pub EntryStays : Type 0
EntryStays = (ended : Bool) (entry : Entry) (front rest more : List ℕ) → SpellsEntry false entry front rest
    → SpellsEntry ended entry front (rest ++ more)

-- a token that is whole behind a gap, and the bytes behind it
pub record IsFirst (ended : Bool) (bytes : List ℕ) (token : Token) (gap behind : List ℕ) : Type 0 where
  pub is_gap : is_gap gap ≡ true
  pub split : bytes ≡ gap ++ (spelling_of token ++ behind)
  pub whole : is_whole ended token behind ≡ true

-- The first token of bytes, the gap before it and what is behind it are determined.
abbrev pub OneFirstToken : Type 0
OneFirstToken = (ended later : Bool) (bytes : List ℕ) (token token' : Token) (gap gap' behind behind' : List ℕ)
    → IsFirst ended bytes token gap behind → IsFirst later bytes token' gap' behind' → (token ≡ token') × (gap ≡ gap')
    × (behind ≡ behind')

-- As many tokens, spelled in the same bytes, are the same tokens, and stand in the same part of the bytes.
abbrev pub OneReading : Type 0
OneReading = (ended later : Bool) (tokens tokens' : List Token) (front front' rest rest' : List ℕ)
    → Spells ended tokens front rest → Spells later tokens' front' rest' → front ++ rest ≡ front' ++ rest'
    → length tokens ≡ length tokens' → (tokens ≡ tokens') × (front ≡ front') × (rest ≡ rest')

-- Bytes are read as one list of entries.
abbrev pub OneScript : Type 0
OneScript = (ended : Bool) (bytes : List ℕ) (entries entries' : List Entry) → Reads ended bytes entries
    → Reads ended bytes entries' → entries ≡ entries'

-- The first entry of bytes, where it stands and what is behind it are determined.
abbrev pub OneEntry : Type 0
OneEntry = (ended : Bool) (entry entry' : Entry) (front front' rest rest' : List ℕ) → SpellsEntry ended entry front rest
    → SpellsEntry ended entry' front' rest' → front ++ rest ≡ front' ++ rest' → (entry ≡ entry') × (front ≡ front')
    × (rest ≡ rest')

-- An entry has a byte.
abbrev pub EntryHasBytes : Type 0
EntryHasBytes = (ended : Bool) (entry : Entry) (front rest : List ℕ) → SpellsEntry ended entry front rest
    → 0 < length front

-- Bytes that hold no whole entry begin with none.
abbrev pub NoEntry : Type 0
NoEntry = (ended : Bool) (entry : Entry) (bytes front rest : List ℕ) → HoldsNoEntry ended bytes → bytes ≡ front ++ rest
    → SpellsEntry ended entry front rest → ⊥

-- Bytes shorten to themselves, twice is once, and more bytes behind change nothing.
abbrev pub ShortensToItself : Type 0
ShortensToItself = (bytes : List ℕ) → ShortensTo bytes bytes

abbrev pub ShortensTwice : Type 0
ShortensTwice = (left kept less : List ℕ) → ShortensTo left kept → ShortensTo kept less → ShortensTo left less

abbrev pub ShortensBefore : Type 0
ShortensBefore = (left kept more : List ℕ) → ShortensTo left kept → ShortensTo (left ++ more) (kept ++ more)

-- What bytes shorten to has the same entry, with as much behind it, or none, and it is outside a form where they are.
abbrev pub SameEntry : Type 0
SameEntry = (ended : Bool) (entry : Entry) (left kept front rest : List ℕ) → ShortensTo left kept → kept ≡ front ++ rest
    → SpellsEntry ended entry front rest
    → (longer : List ℕ) × (left ≡ longer ++ rest) × SpellsEntry ended entry longer rest

abbrev pub SameNone : Type 0
SameNone = (ended : Bool) (left kept : List ℕ) → ShortensTo left kept → HoldsNoEntry ended kept
    → HoldsNoEntry ended left

abbrev pub SameEnd : Type 0
SameEnd = (left kept : List ℕ) → ShortensTo left kept → is_open_gap left ≡ is_open_gap kept

-- Entries that the bytes begin with stay when more bytes come, or no more come.
abbrev pub BeginningStays : Type 0
BeginningStays = (ended : Bool) (bytes more : List ℕ) (entries : List Entry) (left : List ℕ)
    → Begins false bytes entries left → Begins ended (bytes ++ more) entries (left ++ more)

-- one more entry
abbrev pub BeginningGrows : Type 0
BeginningGrows = (ended : Bool) (bytes : List ℕ) (entries : List Entry) (entry : Entry) (front left : List ℕ)
    → Begins ended bytes entries (front ++ left) → SpellsEntry ended entry front left
    → Begins ended bytes (entries ++ entry ∷ []) left

-- Where bytes begin with entries, and are others with a rest without a whole one, the former are the first of the
-- latter.
abbrev pub BeginningIsFirst : Type 0
BeginningIsFirst = (ended : Bool) (bytes : List ℕ) (entries all : List Entry) (left rest : List ℕ)
    → Begins ended bytes entries left → Begins ended bytes all rest → HoldsNoEntry ended rest
    → (others : List Entry) × (all ≡ entries ++ others)
