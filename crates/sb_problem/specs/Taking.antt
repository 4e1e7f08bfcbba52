-- Private: the letters of a word, and the pieces of a String term, from the parts that are left of it. The part that
-- comes first in the term stands last among them, and is taken first.
use Rattle.std.specs.Prelude.{◌≡◌, ℕ, ◌<◌, Bool, true, false, nat_lt, List, [], ◌∷◌, ◌++◌, length, Option, Some, None, option_map, All}
use Rattle.std.specs.List.{list_all}
use Rattle.sb_word.specs.Words.{IsWord}
use Rattle.sb_meaning.specs.Terms.{Term, terms_of}
use Rattle.sb_script.specs.Brought.{is_text}
use Rattle.sb_script.specs.Pieces.{Piece, constant_piece, word_piece, onto_pieces, before_pieces, pieces_of, single_pieces}
use Rattle.sb_script.specs.Rules.{stand_once}
use Rattle.sb_term.specs.Descending.{has}
use Rattle.sb_term.specs.Numbered.{term_at, terms_at}
use Rattle.sb_problem.specs.Parts.{are_written}
use Rattle.sb_problem.specs.Shapes.{arguments_in}
use Rattle.sb_problem.specs.Waiting.{sizes}
use Rattle.sb_problem.specs.Words.{letters_of}

-- numbers the other way round
abbrev pub backwards : List ℕ → List ℕ
backwards [] = []
backwards (i ∷ is) = backwards is ++ i ∷ []

-- how many terms there are in all of them
abbrev pub weight_of : List Term → ℕ
weight_of ts = sizes (terms_of ts)

-- A word.

-- the letters of what is left
abbrev pub letters_left : List Term → List ℕ
letters_left [] = []
letters_left (t ∷ ts) = letters_left ts ++ letters_of t

-- the letters that were taken, and those of what is left, are those of the whole
pub record Spelling (ts : List Term) (root : ℕ) (letters left : List ℕ) : Type 0 where
  pub below : list_all (λ i. nat_lt i (length ts)) left ≡ true
  pub texts : list_all is_text (terms_at ts left) ≡ true
  pub whole : letters ++ letters_left (terms_at ts left) ≡ letters_of (term_at ts root)
  pub written : IsWord letters

-- one that is taken gives its letters, or its parts are left in its place
pub record Spells (ts : List Term) (next : ℕ) (letters more before after : List ℕ) : Type 0 where
  pub spelling : (root : ℕ) → Spelling ts root letters (before ++ next ∷ []) → Spelling ts root more after
  pub lighter : weight_of (terms_at ts after) < weight_of (terms_at ts (before ++ next ∷ []))

-- Pieces.

-- the constants among pieces
abbrev pub constants_in : List Piece → List ℕ
constants_in [] = []
constants_in (constant_piece serial ∷ ps) = serial ∷ constants_in ps
constants_in (word_piece w ∷ ps) = constants_in ps

-- a word as pieces: none where it has no letters
abbrev pub spelled : List ℕ → List Piece
spelled w = onto_pieces (word_piece w) []

abbrev pub joined_before : Option (List Piece) → Option (List Piece) → Option (List Piece)
joined_before (Some ps) (Some qs) = Some (before_pieces ps qs)
joined_before _ _ = None

-- the pieces of what is left, in front of others
abbrev pub stacked : List Term → Option (List Piece) → Option (List Piece)
stacked [] rest = rest
stacked (t ∷ ts) rest = stacked ts (joined_before (pieces_of t) rest)

-- the pieces that were taken, the letters behind them, and the pieces of what is left
abbrev pub put_together : List Piece → List ℕ → List Term → Option (List Piece)
put_together parts run left = option_map (λ qs. parts ++ onto_pieces (word_piece run) qs) (stacked left (Some []))

-- Together they are the pieces of the whole; the constants among them were met, and each stands once.
pub record Taking (whole : Term) (parts : List Piece) (run met : List ℕ) (left : List Term) : Type 0 where
  pub pieces : pieces_of whole ≡ put_together parts run left
  pub once : stand_once (constants_in parts) ≡ true
  pub were_met : (n : ℕ) → has met n ≡ has (constants_in parts) n
  pub written : are_written parts ≡ true
  pub run_written : IsWord run

-- taking goes on, or the whole has no pieces in which each constant stands once
abbrev pub GoesOn : Bool → Term → List Piece → List ℕ → List ℕ → List Term → Type 0
GoesOn true whole parts run met left = Taking whole parts run met left
GoesOn false whole parts run met left = single_pieces whole ≡ None

-- Parts in place of what was taken.

-- the arguments of a term behind what is left, the other way round
pub record PutsParts (ts : List Term) (next : ℕ) (before after : List ℕ) : Type 0 where
  pub numbers : List ℕ
  pub are : terms_of (terms_at ts numbers) ≡ arguments_in (term_at ts next)
  pub below : All (λ i. i < next) numbers
  pub behind : after ≡ before ++ backwards numbers

-- what is left are numbers of the table, and fewer terms are in it
pub record Fewer (ts : List Term) (next : ℕ) (before after : List ℕ) : Type 0 where
  pub below : list_all (λ i. nat_lt i (length ts)) before ≡ true → list_all (λ i. nat_lt i (length ts)) after ≡ true
  pub lighter : weight_of (terms_at ts after) < weight_of (terms_at ts (before ++ next ∷ []))
