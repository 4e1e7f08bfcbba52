-- Private: truths of terms under values, and what connectives make of truths.
use Rattle.std.specs.Prelude.{◌≡◌, ℕ, Bool, false, not, if◌then◌else◌, List, [], ◌∷◌, slice_get, unwrap_or}
use Rattle.std.specs.List.{list_all, flat_map}
use Rattle.sb_word.specs.Words.{IsWord}
use Rattle.sb_lang.specs.Regex.{Regex}
use Rattle.sb_lang.specs.Derivative.{nd_along}
use Rattle.sb_lang.specs.Language.{language}
use Rattle.sb_regex.specs.Numbered.{Names}
use Rattle.sb_meaning.specs.Terms.{Term}
use Rattle.sb_meaning.specs.Values.{Valuation}
use Rattle.sb_meaning.specs.Truth.{all_true, some_true, implied, differs, xor_of, is_chain, are_pairs, means_word, meaning_of, holds}
use Rattle.sb_script.specs.Pieces.{Piece, constant_piece, word_piece}
use Rattle.sb_plain.specs.Memory.{Memory, IsRight}
pub use Rattle.sb_term.specs.Descending.{AllOf}
use Rattle.sb_problem.specs.declared.normals.Known.{Known}
use Rattle.sb_problem.specs.Known.{AreNormals}
use Rattle.sb_fragment.specs.declared.shape.Connective.{Connective}
use Rattle.sb_fragment.specs.declared.shape.Connective.TheVariants as connective
use Rattle.sb_fragment.specs.Memberships.{equality}
use Rattle.sb_atoms.specs.Given.{GivesValues}

-- the term is true or not where its constants have these words, whatever the truths are
abbrev pub IsTruthUnder : List (List ℕ) → Term → Bool → Type 0
IsTruthUnder ws t truth = (v : Valuation) (bs : List Bool) → GivesValues ws bs v t → truth ≡ holds t v

-- and these truths
abbrev pub IsTruthOf : List (List ℕ) → List Bool → Term → Bool → Type 0
IsTruthOf ws bs t truth = (v : Valuation) → GivesValues ws bs v t → truth ≡ holds t v

-- the word that is given a constant, by its serial
abbrev pub word_at : List (List ℕ) → ℕ → List ℕ
word_at ws serial = unwrap_or (slice_get ws serial) []

-- the word of a piece, and that of pieces one behind the other
abbrev pub piece_word : List (List ℕ) → Piece → List ℕ
piece_word ws (constant_piece serial) = word_at ws serial
piece_word ws (word_piece w) = w

abbrev pub joined_word : List (List ℕ) → List Piece → List ℕ
joined_word ws ps = flat_map (piece_word ws) ps

-- it is a word, and in the language or not
abbrev pub IsIn : List ℕ → Regex → Bool → Type 0
IsIn w r truth = IsWord w × (truth ≡ language r w)

-- the number is of the regex that is left behind the word
abbrev pub IsBehind : List Regex → Regex → List ℕ → ℕ → Type 0
IsBehind rs r w id = IsWord w × Names rs id (nd_along r w)

-- the term means a word, which is in the language or not
pub record MeansIn (v : Valuation) (t : Term) (r : Regex) (truth : Bool) : Type 0 where
  pub letters : List ℕ
  pub means : meaning_of v t ≡ means_word letters
  pub is : IsIn letters r truth

-- where its constants have these words
abbrev pub IsWithin : List (List ℕ) → Term → Regex → Bool → Type 0
IsWithin ws t r truth = (v : Valuation) (bs : List Bool) → GivesValues ws bs v t → MeansIn v t r truth

-- the two are equal or not, in either order, where the constants of the first have these words
abbrev pub AreEqualUnder : List (List ℕ) → Term → Term → Bool → Type 0
AreEqualUnder ws t u truth = (v : Valuation) (bs : List Bool) → GivesValues ws bs v t
    → (truth ≡ holds (equality t u) v) × (truth ≡ holds (equality u t) v)

abbrev pub GivesPair : List (List ℕ) → List Bool → Valuation → Term × Term → Type 0
GivesPair ws bs v p = GivesValues ws bs v p.0 × GivesValues ws bs v p.1

-- the two are equal, or differ where they are to be distinct
abbrev pub are_as_wanted : Bool → Valuation → Term × Term → Bool
are_as_wanted distinct v p = differs distinct (holds (equality p.0 p.1) v)

-- these pairs, among more
abbrev pub AreAsWanted : List (List ℕ) → Bool → List (Term × Term) → List (Term × Term) → Bool → Type 0
AreAsWanted ws distinct all ps truth = (v : Valuation) (bs : List Bool) → AllOf (GivesPair ws bs v) all
    → truth ≡ list_all (are_as_wanted distinct v) ps

-- the second where the first is true, else the third
abbrev pub chosen_truth : List Bool → Bool
chosen_truth (c ∷ a ∷ b ∷ []) = if c then a else b
chosen_truth _ = false

abbrev pub is_same : Bool → Bool → Bool
is_same a b = not (differs a b)

-- what a connective makes of truths
abbrev pub connected_truth : Connective → List Bool → Bool
connected_truth connective.Not bs = not (all_true bs)
connected_truth connective.And bs = all_true bs
connected_truth connective.Or bs = some_true bs
connected_truth connective.Implies bs = implied bs
connected_truth connective.Xor bs = xor_of bs
connected_truth connective.Ite bs = chosen_truth bs
connected_truth (connective.Compare distinct) bs = if distinct then are_pairs differs bs else is_chain is_same bs

-- what is kept of terms and regexes is right for the arena
pub record AreReady (ts : List Term) (rs : List Regex) (ks : List Known) (m : Memory) : Type 0 where
  pub normals : AreNormals ts rs ks
  pub right : IsRight rs m
