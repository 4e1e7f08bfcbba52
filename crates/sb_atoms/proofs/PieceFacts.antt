-- The pieces of a String term: the word of them is the term's, they are well formed where their words are written, and
-- what is asked of the term is true of them.
use Rattle.std.proofs.Common.{◌≡◌, ℕ, Bool, true, false, if◌then◌else◌, List, [], ◌∷◌, ◌++◌, map, Some, None, option_map, refl, sym, ap, ◌∙◌, append_assoc}
use Rattle.std.specs.List.{list_all, flat_map}
use Rattle.std.proofs.lemmas.Bool.{and_parts, and_from, false≢true}
use Rattle.std.proofs.lemmas.List.{append-nil}
use Rattle.std.proofs.lemmas.Option.{option_and_then_some}
use Rattle.sb_facts.proofs.CallerLemmas.{after_map}
use Rattle.sb_word.specs.Words.{are_characters}
use Rattle.sb_meaning.specs.Terms.{Sort, boolean, integer, text, reglan, Term, Terms, constant, word, numeral, apply, parameter, no_terms, with_term}
use Rattle.sb_meaning.specs.Terms as symbol
use Rattle.sb_meaning.specs.Values.{Valuation}
use Rattle.sb_meaning.specs.Truth.{Meaning, means_word, word_in, meaning_of_value, meaning_of, meanings_of}
use Rattle.sb_script.specs.Pieces.{Piece, constant_piece, word_piece, onto_pieces, before_pieces, concatenation, is_short, if_short, pieces_of, all_pieces, are_single, single_pieces}
use Rattle.sb_rulebook.specs.Atoms.{are_pieces}
use Rattle.sb_rulebook.specs.AtomRules.{is_declared, is_declared_piece}
use Rattle.sb_problem.specs.Parts.{are_written}
use Rattle.sb_atoms.specs.Given.{GivesValues, GivesEach}
use Rattle.sb_atoms.specs.Translated.{has_declared, have_declared}
use Rattle.sb_atoms.specs.Growing.{are_declared_pieces}
use Rattle.sb_atoms.specs.Shapes.{ArePiecesOf}
use Rattle.sb_atoms.specs.Truths.{word_at, piece_word, joined_word}

pub some_if : {A : Type 0} (b : Bool) (x y : A) → (if b then Some x else None) ≡ Some y → x ≡ y
some_if true x y h = Prim.cc (h)
some_if false x y h = absurd (Prim.cc (h))

-- the pieces in which each constant stands once at most are the pieces
single_are : (t : Term) (ps : List Piece) → single_pieces t ≡ Some ps → pieces_of t ≡ Some ps
single_are t ps h =
    option_and_then_some (λ qs. if are_single qs then Some qs else None) (pieces_of t) ps h
    (λ qs there is. there ∙ ap Some (some_if (are_single qs) qs ps is))

-- The word of pieces.

onto_word : (ws : List (List ℕ)) (p : Piece) (ps : List Piece)
    → joined_word ws (onto_pieces p ps) ≡ piece_word ws p ++ joined_word ws ps
onto_word ws (constant_piece s) ps = refl
onto_word ws (word_piece []) ps = refl
onto_word ws (word_piece (c ∷ w)) [] = refl
onto_word ws (word_piece (c ∷ w)) (constant_piece s ∷ ps) = refl
onto_word ws (word_piece (c ∷ w)) (word_piece u ∷ ps) = append_assoc (c ∷ w) u (joined_word ws ps)

before_word : (ws : List (List ℕ)) (ps qs : List Piece)
    → joined_word ws (before_pieces ps qs) ≡ joined_word ws ps ++ joined_word ws qs
before_word ws [] qs = refl
before_word ws (p ∷ ps) qs =
    onto_word ws p (before_pieces ps qs)
    ∙ ap (λ w. piece_word ws p ++ w) (before_word ws ps qs)
    ∙ sym (append_assoc (piece_word ws p) (joined_word ws ps) (joined_word ws qs))

abbrev meant : List (List ℕ) → List Piece → Meaning
meant ws ps = means_word (joined_word ws ps)

concatenation_word : (ws : List (List ℕ)) (pss : List (List Piece))
    → flat_map (λ w. w) (flat_map word_in (map (meant ws) pss)) ≡ joined_word ws (concatenation pss)
concatenation_word ws [] = refl
concatenation_word ws (ps ∷ pss) =
    ap (λ w. joined_word ws ps ++ w) (concatenation_word ws pss) ∙ sym (before_word ws ps (concatenation pss))

mutual
  pub pieces_mean : (ws : List (List ℕ)) (bs : List Bool) (v : Valuation) (t : Term) (ps : List Piece)
      → GivesValues ws bs v t → pieces_of t ≡ Some ps → meaning_of v t ≡ means_word (joined_word ws ps)
  pieces_mean ws bs v (constant serial text) ps gives h =
      let one : constant_piece serial ∷ [] ≡ ps = Prim.cc (h) in
      ap meaning_of_value gives
      ∙ ap (λ u. means_word u) (sym (append-nil (word_at ws serial)))
      ∙ ap (meant ws) one
  pieces_mean ws bs v (constant serial boolean) ps gives h = absurd (Prim.cc (h))
  pieces_mean ws bs v (constant serial integer) ps gives h = absurd (Prim.cc (h))
  pieces_mean ws bs v (constant serial reglan) ps gives h = absurd (Prim.cc (h))
  pieces_mean ws bs v (word w) ps gives h =
      let own = onto_pieces (word_piece w) [] in
      ap (λ u. means_word u) (sym (onto_word ws (word_piece w) [] ∙ append-nil w))
      ∙ ap (meant ws) (some_if (is_short own) own ps h)
  pieces_mean ws bs v (numeral n) ps gives h = absurd (Prim.cc (h))
  pieces_mean ws bs v (apply symbol.str_concat terms) ps gives h =
      option_and_then_some (λ pss. if_short (concatenation pss)) (all_pieces terms) ps h
      (λ pss there short. ap (λ ms. means_word (flat_map (λ w. w) (flat_map word_in ms)))
      (all_pieces_mean ws bs v terms pss gives there)
      ∙ ap (λ u. means_word u) (concatenation_word ws pss)
      ∙ ap (meant ws) (some_if (is_short (concatenation pss)) (concatenation pss) ps short))
  pieces_mean ws bs v (apply _ terms) ps gives h = absurd (Prim.cc (h))
  pieces_mean ws bs v (parameter place sort) ps gives h = absurd (Prim.cc (h))

  all_pieces_mean : (ws : List (List ℕ)) (bs : List Bool) (v : Valuation) (terms : Terms) (pss : List (List Piece))
      → GivesEach ws bs v terms → all_pieces terms ≡ Some pss → meanings_of v terms ≡ map (meant ws) pss
  all_pieces_mean ws bs v no_terms pss gives h =
      let none : [] ≡ pss = Prim.cc (h) in
      ap (map (meant ws)) none
  all_pieces_mean ws bs v (with_term term terms) pss gives h =
      option_and_then_some (λ ps. option_map (λ rest. ps ∷ rest) (all_pieces terms)) (pieces_of term) pss h
      (λ ps first others. after_map (λ rest. ps ∷ rest) (all_pieces terms) pss others
      (λ rest there same. ap (λ m. m ∷ meanings_of v terms) (pieces_mean ws bs v term ps gives.0 first)
      ∙ ap (λ ms. meant ws ps ∷ ms) (all_pieces_mean ws bs v terms rest gives.1 there)
      ∙ ap (map (meant ws)) same))

pub single_mean : (ws : List (List ℕ)) (bs : List Bool) (v : Valuation) (t : Term) (ps : List Piece)
    → GivesValues ws bs v t → single_pieces t ≡ Some ps → meaning_of v t ≡ means_word (joined_word ws ps)
single_mean ws bs v t ps gives h = pieces_mean ws bs v t ps gives (single_are t ps h)

-- Pieces are well formed.

-- no word is empty, and no two are adjacent, whatever they are made of
abbrev are_apart : List Piece → Bool
are_apart [] = true
are_apart (constant_piece serial ∷ ps) = are_apart ps
are_apart (word_piece [] ∷ ps) = false
are_apart (word_piece (c ∷ w) ∷ word_piece v ∷ ps) = false
are_apart (word_piece (c ∷ w) ∷ ps) = are_apart ps

onto_apart : (p : Piece) (ps : List Piece) → are_apart ps ≡ true → are_apart (onto_pieces p ps) ≡ true
onto_apart (constant_piece s) ps h = h
onto_apart (word_piece []) ps h = h
onto_apart (word_piece (c ∷ w)) [] h = refl
onto_apart (word_piece (c ∷ w)) (constant_piece s ∷ ps) h = h
onto_apart (word_piece (c ∷ w)) (word_piece [] ∷ ps) h = absurd (false≢true h)
onto_apart (word_piece (c ∷ w)) (word_piece (d ∷ u) ∷ []) h = refl
onto_apart (word_piece (c ∷ w)) (word_piece (d ∷ u) ∷ constant_piece s ∷ ps) h = h
onto_apart (word_piece (c ∷ w)) (word_piece (d ∷ u) ∷ word_piece x ∷ ps) h = absurd (false≢true h)

before_apart : (ps qs : List Piece) → are_apart qs ≡ true → are_apart (before_pieces ps qs) ≡ true
before_apart [] qs h = h
before_apart (p ∷ ps) qs h = onto_apart p (before_pieces ps qs) (before_apart ps qs h)

concatenation_apart : (pss : List (List Piece)) → are_apart (concatenation pss) ≡ true
concatenation_apart [] = refl
concatenation_apart (ps ∷ pss) = before_apart ps (concatenation pss) (concatenation_apart pss)

pieces_apart : (t : Term) (ps : List Piece) → pieces_of t ≡ Some ps → are_apart ps ≡ true
pieces_apart (constant serial text) ps h =
    let one : constant_piece serial ∷ [] ≡ ps = Prim.cc (h) in ap are_apart (sym one)
pieces_apart (constant serial boolean) ps h = absurd (Prim.cc (h))
pieces_apart (constant serial integer) ps h = absurd (Prim.cc (h))
pieces_apart (constant serial reglan) ps h = absurd (Prim.cc (h))
pieces_apart (word w) ps h =
    let own = onto_pieces (word_piece w) [] in
    ap are_apart (sym (some_if (is_short own) own ps h)) ∙ onto_apart (word_piece w) [] refl
pieces_apart (numeral n) ps h = absurd (Prim.cc (h))
pieces_apart (apply symbol.str_concat terms) ps h =
    option_and_then_some (λ pss. if_short (concatenation pss)) (all_pieces terms) ps h
    (λ pss there short. ap are_apart (sym (some_if (is_short (concatenation pss)) (concatenation pss) ps short))
    ∙ concatenation_apart pss)
pieces_apart (apply _ terms) ps h = absurd (Prim.cc (h))
pieces_apart (parameter place sort) ps h = absurd (Prim.cc (h))

formed : (ps : List Piece) → are_apart ps ≡ true → are_written ps ≡ true → are_pieces ps ≡ true
formed [] h w = refl
formed (constant_piece s ∷ ps) h w = formed ps h w
formed (word_piece [] ∷ ps) h w = absurd (false≢true h)
formed (word_piece (c ∷ u) ∷ []) h w = w
formed (word_piece (c ∷ u) ∷ constant_piece s ∷ ps) h w =
    let q = and_parts (are_characters (c ∷ u)) (are_written ps) w in
    and_from (are_characters (c ∷ u)) (are_pieces ps) q.0 (formed ps h q.1)
formed (word_piece (c ∷ u) ∷ word_piece x ∷ ps) h w = absurd (false≢true h)

-- the pieces that are found are those of the term
pub found_pieces : (t : Term) (ps : List Piece) → single_pieces t ≡ Some ps → are_written ps ≡ true
    → ArePiecesOf t (Some ps)
found_pieces t ps h written = (h, formed ps (pieces_apart t ps (single_are t ps h)) written)

-- Constants that are declared.

onto_declared : (sorts : List Sort) (p : Piece) (ps : List Piece) → is_declared_piece sorts p ≡ true
    → list_all (is_declared_piece sorts) ps ≡ true → list_all (is_declared_piece sorts) (onto_pieces p ps) ≡ true
onto_declared sorts (constant_piece s) ps one h =
    and_from (is_declared sorts text s) (list_all (is_declared_piece sorts) ps) one h
onto_declared sorts (word_piece []) ps one h = h
onto_declared sorts (word_piece (c ∷ w)) [] one h = refl
onto_declared sorts (word_piece (c ∷ w)) (constant_piece s ∷ ps) one h = h
onto_declared sorts (word_piece (c ∷ w)) (word_piece u ∷ ps) one h = h

before_declared : (sorts : List Sort) (ps qs : List Piece) → list_all (is_declared_piece sorts) ps ≡ true
    → list_all (is_declared_piece sorts) qs ≡ true → list_all (is_declared_piece sorts) (before_pieces ps qs) ≡ true
before_declared sorts [] qs h k = k
before_declared sorts (p ∷ ps) qs h k =
    let q = and_parts (is_declared_piece sorts p) (list_all (is_declared_piece sorts) ps) h in
    onto_declared sorts p (before_pieces ps qs) q.0 (before_declared sorts ps qs q.1 k)

concatenation_declared : (sorts : List Sort) (pss : List (List Piece))
    → list_all (list_all (is_declared_piece sorts)) pss ≡ true
    → list_all (is_declared_piece sorts) (concatenation pss) ≡ true
concatenation_declared sorts [] h = refl
concatenation_declared sorts (ps ∷ pss) h =
    let q = and_parts (list_all (is_declared_piece sorts) ps) (list_all (list_all (is_declared_piece sorts)) pss) h in
    before_declared sorts ps (concatenation pss) q.0 (concatenation_declared sorts pss q.1)

mutual
  pieces_declared : (sorts : List Sort) (t : Term) (ps : List Piece) → pieces_of t ≡ Some ps
      → has_declared sorts t ≡ true → list_all (is_declared_piece sorts) ps ≡ true
  pieces_declared sorts (constant serial text) ps h d =
      let one : constant_piece serial ∷ [] ≡ ps = Prim.cc (h) in
      ap (list_all (is_declared_piece sorts)) (sym one) ∙ and_from (is_declared sorts text serial) true d refl
  pieces_declared sorts (constant serial boolean) ps h d = absurd (Prim.cc (h))
  pieces_declared sorts (constant serial integer) ps h d = absurd (Prim.cc (h))
  pieces_declared sorts (constant serial reglan) ps h d = absurd (Prim.cc (h))
  pieces_declared sorts (word w) ps h d =
      let own = onto_pieces (word_piece w) [] in
      ap (list_all (is_declared_piece sorts)) (sym (some_if (is_short own) own ps h))
      ∙ onto_declared sorts (word_piece w) [] refl refl
  pieces_declared sorts (numeral n) ps h d = absurd (Prim.cc (h))
  pieces_declared sorts (apply symbol.str_concat terms) ps h d =
      option_and_then_some (λ pss. if_short (concatenation pss)) (all_pieces terms) ps h
      (λ pss there short. ap (list_all (is_declared_piece sorts))
      (sym (some_if (is_short (concatenation pss)) (concatenation pss) ps short))
      ∙ concatenation_declared sorts pss (all_pieces_declared sorts terms pss there d))
  pieces_declared sorts (apply _ terms) ps h d = absurd (Prim.cc (h))
  pieces_declared sorts (parameter place sort) ps h d = absurd (Prim.cc (h))

  all_pieces_declared : (sorts : List Sort) (terms : Terms) (pss : List (List Piece)) → all_pieces terms ≡ Some pss
      → have_declared sorts terms ≡ true → list_all (list_all (is_declared_piece sorts)) pss ≡ true
  all_pieces_declared sorts no_terms pss h d =
      let none : [] ≡ pss = Prim.cc (h) in
      ap (list_all (list_all (is_declared_piece sorts))) (sym none)
  all_pieces_declared sorts (with_term term terms) pss h d =
      let q = and_parts (has_declared sorts term) (have_declared sorts terms) d in
      option_and_then_some (λ ps. option_map (λ rest. ps ∷ rest) (all_pieces terms)) (pieces_of term) pss h
      (λ ps first others. after_map (λ rest. ps ∷ rest) (all_pieces terms) pss others
      (λ rest there same. ap (list_all (list_all (is_declared_piece sorts))) (sym same)
      ∙ and_from (list_all (is_declared_piece sorts) ps) (list_all (list_all (is_declared_piece sorts)) rest)
      (pieces_declared sorts term ps first q.0) (all_pieces_declared sorts terms rest there q.1)))

-- the pieces of a term whose constants are declared
pub single_declared : (sorts : List Sort) (t : Term) (ps : List Piece) → single_pieces t ≡ Some ps
    → has_declared sorts t ≡ true → are_declared_pieces sorts ps ≡ true
single_declared sorts t ps h d = pieces_declared sorts t ps (single_are t ps h) d
