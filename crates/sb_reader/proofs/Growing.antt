-- Tokens that are spelled stay spelled where more is known to follow, where nothing follows, and with more tokens
-- behind them.
use Rattle.std.proofs.Common.{◌≡◌, ℕ, Bool, true, false, List, [], ◌∷◌, ◌++◌, refl}
use Rattle.std.proofs.lemmas.List.{append-nil, append_assoc}
use Rattle.std.proofs.lemmas.Bool.{and_parts, and_from, false≢true}
use Rattle.sb_reader.specs.Tokens.{Token, Open, Close, Text, Quoted, Run, spelling_of, is_whole, is_gap, has_paired_quotes, some_pass, is_run_byte}
use Rattle.sb_reader.specs.Entries.{Spells}

-- a token that is whole stays whole where more follows
is_whole-grow : (ended : Bool) (token : Token) (after more : List ℕ) → is_whole false token after ≡ true
    → is_whole ended token (after ++ more) ≡ true
is_whole-grow ended Open after more h = refl
is_whole-grow ended Close after more h = refl
is_whole-grow ended (Text bytes) [] more h = absurd (false≢true (and_parts (has_paired_quotes bytes) false h).1)
is_whole-grow ended (Text bytes) (b ∷ bs) more h = h
is_whole-grow ended (Quoted bytes) after more h = h
is_whole-grow ended (Run bytes) [] more h = absurd (false≢true (and_parts (some_pass is_run_byte bytes) false h).1)
is_whole-grow ended (Run bytes) (b ∷ bs) more h = h

-- a token that is whole stays whole where the input ends sooner
is_whole-alone : (ended : Bool) (token : Token) (after rest : List ℕ) → is_whole ended token (after ++ rest) ≡ true
    → is_whole true token after ≡ true
is_whole-alone ended Open after rest h = refl
is_whole-alone ended Close after rest h = refl
is_whole-alone ended (Text bytes) [] rest h =
    and_from (has_paired_quotes bytes) true (and_parts (has_paired_quotes bytes) _ h).0 refl
is_whole-alone ended (Text bytes) (b ∷ bs) rest h = h
is_whole-alone ended (Quoted bytes) after rest h = h
is_whole-alone ended (Run bytes) [] rest h =
    and_from (some_pass is_run_byte bytes) true (and_parts (some_pass is_run_byte bytes) _ h).0 refl
is_whole-alone ended (Run bytes) (b ∷ bs) rest h = h

pub Spells-grow : (ended : Bool) (tokens : List Token) (front rest more : List ℕ) → Spells false tokens front rest
    → Spells ended tokens front (rest ++ more)
Spells-grow ended [] front rest more s = s
Spells-grow ended (token ∷ tokens) front rest more s = (
  s.0,
  s.1,
  s.2,
  s.3,
  rw append_assoc at (is_whole-grow ended token (s.1 ++ rest) more s.4),
  Spells-grow ended tokens s.1 rest more s.5,
)

pub Spells-alone : (ended : Bool) (tokens : List Token) (front rest : List ℕ) → Spells ended tokens front rest
    → Spells true tokens front []
Spells-alone ended [] front rest s = s
Spells-alone ended (token ∷ tokens) front rest s = (
  s.0,
  s.1,
  s.2,
  s.3,
  rw append-nil (is_whole-alone ended token s.1 rest s.4),
  Spells-alone ended tokens s.1 rest s.5,
)

pub Spells-append : (ended : Bool) (tokens more : List Token) (front behind rest : List ℕ)
    → Spells ended tokens front (behind ++ rest) → Spells ended more behind rest
    → Spells ended (tokens ++ more) (front ++ behind) rest
Spells-append ended [] more front behind rest s m = rw s m
Spells-append ended (token ∷ tokens) more front behind rest s m = (
  s.0,
  s.1 ++ behind,
  s.2,
  rw s.3 (simp append_assoc),
  rw append_assoc s.4,
  Spells-append ended tokens more s.1 behind rest s.5 m,
)

-- one more token, behind a gap
pub Spells-push : (ended : Bool) (tokens : List Token) (token : Token) (front rest after gap : List ℕ)
    → Spells ended tokens front (rest ++ after) → is_gap gap ≡ true → rest ≡ gap ++ spelling_of token
    → is_whole ended token after ≡ true → Spells ended (tokens ++ token ∷ []) (front ++ rest) after
Spells-push ended tokens token front rest after gap s g split whole =
    Spells-append ended tokens (token ∷ []) front rest after s
    (gap, [], g, rw (append-nil (spelling_of token)) split, whole, refl)
