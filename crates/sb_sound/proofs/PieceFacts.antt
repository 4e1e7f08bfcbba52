-- The pieces of a String term: their word is the term's, and their constants are declared.
use Rattle.std.proofs.Common.{◌≡◌, ℕ, Bool, true, false, if◌then◌else◌, List, [], ◌∷◌, ◌++◌, map, Option, Some, None, refl, sym, ap, ◌∙◌, subst, append_assoc}
use Rattle.std.specs.Prelude.{slice_get, option_map}
use Rattle.std.specs.List.{flat_map}
use Rattle.std.proofs.lemmas.List.{append-nil}
use Rattle.std.proofs.lemmas.Option.{option_and_then_some}
use Rattle.std.proofs.lemmas.Bool.{and_parts}
use Rattle.sb_meaning.specs.Terms.{Sort, boolean, integer, text, reglan, Term, Terms, constant, word, numeral, apply, parameter, no_terms, with_term}
use Rattle.sb_meaning.specs.Terms as symbol
use Rattle.sb_meaning.specs.Sorts.{is_same_sort}
use Rattle.sb_meaning.specs.Values.{Valuation, Value, Text, Int, Truth, is_of, value_in}
use Rattle.sb_meaning.specs.Truth.{Meaning, means_word, word_in, meaning_of_value, meaning_of, meanings_of}
use Rattle.sb_rulebook.specs.Atoms.{word_of_piece}
use Rattle.sb_rulebook.specs.AtomRules.{is_declared}
use Rattle.sb_sound.specs.TermLaws.{HasSorts, fits_sorts, all_fit}
use Rattle.sb_script.specs.Pieces.{Piece, constant_piece, word_piece, onto_pieces, before_pieces, concatenation, is_short, if_short, pieces_of, all_pieces}

-- Options.

pub option_map_some : {A B P : Type 0} (f : A → B) (o : Option A) (y : B) → option_map f o ≡ Some y
    → ((x : A) → o ≡ Some x → f x ≡ y → P) → P
option_map_some f None y h more = absurd (Prim.cc (h))
option_map_some f (Some x) y h more = more x refl (Prim.cc (h))

pub some_if : {A : Type 0} (b : Bool) (x y : A) → (if b then Some x else None) ≡ Some y → x ≡ y
some_if true x y h = Prim.cc (h)
some_if false x y h = absurd (Prim.cc (h))

-- Sorts.

pub same_sort : (j k : Sort) → is_same_sort j k ≡ true → j ≡ k
same_sort boolean boolean h = refl
same_sort integer integer h = refl
same_sort text text h = refl
same_sort reglan reglan h = refl
same_sort boolean _ h = absurd (Prim.cc (h))
same_sort integer _ h = absurd (Prim.cc (h))
same_sort text _ h = absurd (Prim.cc (h))
same_sort reglan _ h = absurd (Prim.cc (h))

sort_at : (sort : Sort) (o : Option Sort)
    → (elim o [ None ↦ false | Some other ↦ is_same_sort sort other ]) ≡ true → o ≡ Some sort
sort_at sort None h = absurd (Prim.cc (h))
sort_at sort (Some other) h = ap (λ k. Some k) (sym (same_sort sort other h))

pub declared_at : (sorts : List Sort) (sort : Sort) (serial : ℕ) → is_declared sorts sort serial ≡ true
    → slice_get sorts serial ≡ Some sort
declared_at sorts sort serial h = sort_at sort (slice_get sorts serial) h

-- The word of pieces.

abbrev pub words_of : Valuation → List Piece → List ℕ
words_of v ps = flat_map (word_of_piece v) ps

onto_word : (v : Valuation) (p : Piece) (ps : List Piece)
    → words_of v (onto_pieces p ps) ≡ word_of_piece v p ++ words_of v ps
onto_word v (constant_piece s) ps = refl
onto_word v (word_piece []) ps = refl
onto_word v (word_piece (c ∷ w)) [] = refl
onto_word v (word_piece (c ∷ w)) (constant_piece s ∷ ps) = refl
onto_word v (word_piece (c ∷ w)) (word_piece u ∷ ps) = append_assoc (c ∷ w) u (words_of v ps)

before_word : (v : Valuation) (ps qs : List Piece)
    → words_of v (before_pieces ps qs) ≡ words_of v ps ++ words_of v qs
before_word v [] qs = refl
before_word v (p ∷ ps) qs =
    onto_word v p (before_pieces ps qs)
    ∙ ap (λ w. word_of_piece v p ++ w) (before_word v ps qs)
    ∙ sym (append_assoc (word_of_piece v p) (words_of v ps) (words_of v qs))

abbrev pub meant : Valuation → List Piece → Meaning
meant v ps = means_word (words_of v ps)

concatenation_word : (v : Valuation) (pss : List (List Piece))
    → flat_map (λ w. w) (flat_map word_in (map (meant v) pss)) ≡ words_of v (concatenation pss)
concatenation_word v [] = refl
concatenation_word v (ps ∷ pss) =
    ap (λ w. words_of v ps ++ w) (concatenation_word v pss) ∙ sym (before_word v ps (concatenation pss))

-- The word is the term's.

text_meant : (x : Value) → is_of text x ≡ true
    → meaning_of_value x ≡ means_word ((elim x [ Text w ↦ w | Int n ↦ [] | Truth b ↦ [] ]) ++ [])
text_meant (Text w) h = ap (λ u. means_word u) (sym (append-nil w))
text_meant (Int n) h = absurd (Prim.cc (h))
text_meant (Truth b) h = absurd (Prim.cc (h))

mutual
  pub pieces_keep : (v : Valuation) (sorts : List Sort) (t : Term) (ps : List Piece) → HasSorts v sorts
      → fits_sorts sorts t ≡ true → pieces_of t ≡ Some ps → meaning_of v t ≡ means_word (words_of v ps)
  pieces_keep v sorts (constant serial text) ps has fits h =
      let one : constant_piece serial ∷ [] ≡ ps = Prim.cc (h) in
      text_meant (value_in v serial text) (has serial text (declared_at sorts text serial fits)) ∙ ap (meant v) one
  pieces_keep v sorts (constant serial boolean) ps has fits h = absurd (Prim.cc (h))
  pieces_keep v sorts (constant serial integer) ps has fits h = absurd (Prim.cc (h))
  pieces_keep v sorts (constant serial reglan) ps has fits h = absurd (Prim.cc (h))
  pieces_keep v sorts (word w) ps has fits h =
      let own = onto_pieces (word_piece w) [] in
      ap (λ u. means_word u) (sym (onto_word v (word_piece w) [] ∙ append-nil w))
      ∙ ap (meant v) (some_if (is_short own) own ps h)
  pieces_keep v sorts (numeral n) ps has fits h = absurd (Prim.cc (h))
  pieces_keep v sorts (apply symbol.str_concat terms) ps has fits h =
      option_and_then_some (λ pss. if_short (concatenation pss)) (all_pieces terms) ps h
      (λ pss there short. ap (λ ms. means_word (flat_map (λ w. w) (flat_map word_in ms)))
      (all_pieces_keep v sorts terms pss has fits there)
      ∙ ap (λ u. means_word u) (concatenation_word v pss)
      ∙ ap (meant v) (some_if (is_short (concatenation pss)) (concatenation pss) ps short))
  pieces_keep v sorts (apply _ terms) ps has fits h = absurd (Prim.cc (h))
  pieces_keep v sorts (parameter place sort) ps has fits h = absurd (Prim.cc (h))

  all_pieces_keep : (v : Valuation) (sorts : List Sort) (terms : Terms) (pss : List (List Piece)) → HasSorts v sorts
      → all_fit sorts terms ≡ true → all_pieces terms ≡ Some pss → meanings_of v terms ≡ map (meant v) pss
  all_pieces_keep v sorts no_terms pss has fits h =
      let none : [] ≡ pss = Prim.cc (h) in
      ap (map (meant v)) none
  all_pieces_keep v sorts (with_term term terms) pss has fits h =
      let parts = and_parts (fits_sorts sorts term) (all_fit sorts terms) fits in
      option_and_then_some (λ ps. option_map (λ rest. ps ∷ rest) (all_pieces terms)) (pieces_of term) pss h
      (λ ps first others. option_map_some (λ rest. ps ∷ rest) (all_pieces terms) pss others
      (λ rest there same. ap (λ m. m ∷ meanings_of v terms) (pieces_keep v sorts term ps has parts.0 first)
      ∙ ap (λ ms. meant v ps ∷ ms) (all_pieces_keep v sorts terms rest has parts.1 there)
      ∙ ap (map (meant v)) same))

-- The constants among the pieces are declared.

abbrev pub PiecesDeclared : List Sort → List Piece → Type 0
PiecesDeclared sorts [] = Unit {0}
PiecesDeclared sorts (constant_piece serial ∷ ps) = (is_declared sorts text serial ≡ true) × PiecesDeclared sorts ps
PiecesDeclared sorts (word_piece w ∷ ps) = PiecesDeclared sorts ps

abbrev pub AllPiecesDeclared : List Sort → List (List Piece) → Type 0
AllPiecesDeclared sorts [] = Unit {0}
AllPiecesDeclared sorts (ps ∷ pss) = PiecesDeclared sorts ps × AllPiecesDeclared sorts pss

onto_word_declared : (sorts : List Sort) (w : List ℕ) (ps : List Piece) → PiecesDeclared sorts ps
    → PiecesDeclared sorts (onto_pieces (word_piece w) ps)
onto_word_declared sorts [] ps d = d
onto_word_declared sorts (c ∷ w) [] d = d
onto_word_declared sorts (c ∷ w) (constant_piece s ∷ ps) d = d
onto_word_declared sorts (c ∷ w) (word_piece u ∷ ps) d = d

before_declared : (sorts : List Sort) (ps qs : List Piece) → PiecesDeclared sorts ps → PiecesDeclared sorts qs
    → PiecesDeclared sorts (before_pieces ps qs)
before_declared sorts [] qs d e = e
before_declared sorts (constant_piece s ∷ ps) qs d e = (d.0, before_declared sorts ps qs d.1 e)
before_declared sorts (word_piece w ∷ ps) qs d e =
    onto_word_declared sorts w (before_pieces ps qs) (before_declared sorts ps qs d e)

concatenation_declared : (sorts : List Sort) (pss : List (List Piece)) → AllPiecesDeclared sorts pss
    → PiecesDeclared sorts (concatenation pss)
concatenation_declared sorts [] d = tt
concatenation_declared sorts (ps ∷ pss) d =
    before_declared sorts ps (concatenation pss) d.0 (concatenation_declared sorts pss d.1)

mutual
  pub pieces_declared : (sorts : List Sort) (t : Term) (ps : List Piece) → fits_sorts sorts t ≡ true
      → pieces_of t ≡ Some ps → PiecesDeclared sorts ps
  pieces_declared sorts (constant serial text) ps fits h =
      let one : constant_piece serial ∷ [] ≡ ps = Prim.cc (h) in
      subst (PiecesDeclared sorts) one (fits, tt)
  pieces_declared sorts (constant serial boolean) ps fits h = absurd (Prim.cc (h))
  pieces_declared sorts (constant serial integer) ps fits h = absurd (Prim.cc (h))
  pieces_declared sorts (constant serial reglan) ps fits h = absurd (Prim.cc (h))
  pieces_declared sorts (word w) ps fits h =
      let own = onto_pieces (word_piece w) [] in
      subst (PiecesDeclared sorts) (some_if (is_short own) own ps h) (onto_word_declared sorts w [] tt)
  pieces_declared sorts (numeral n) ps fits h = absurd (Prim.cc (h))
  pieces_declared sorts (apply symbol.str_concat terms) ps fits h =
      option_and_then_some (λ pss. if_short (concatenation pss)) (all_pieces terms) ps h
      (λ pss there short. subst (PiecesDeclared sorts)
      (some_if (is_short (concatenation pss)) (concatenation pss) ps short)
      (concatenation_declared sorts pss (all_pieces_declared sorts terms pss fits there)))
  pieces_declared sorts (apply _ terms) ps fits h = absurd (Prim.cc (h))
  pieces_declared sorts (parameter place sort) ps fits h = absurd (Prim.cc (h))

  all_pieces_declared : (sorts : List Sort) (terms : Terms) (pss : List (List Piece)) → all_fit sorts terms ≡ true
      → all_pieces terms ≡ Some pss → AllPiecesDeclared sorts pss
  all_pieces_declared sorts no_terms pss fits h =
      let none : [] ≡ pss = Prim.cc (h) in
      subst (AllPiecesDeclared sorts) none tt
  all_pieces_declared sorts (with_term term terms) pss fits h =
      let parts = and_parts (fits_sorts sorts term) (all_fit sorts terms) fits in
      option_and_then_some (λ ps. option_map (λ rest. ps ∷ rest) (all_pieces terms)) (pieces_of term) pss h
      (λ ps first others. option_map_some (λ rest. ps ∷ rest) (all_pieces terms) pss others
      (λ rest there same. subst (AllPiecesDeclared sorts) same (
        pieces_declared sorts term ps parts.0 first,
        all_pieces_declared sorts terms rest parts.1 there,
      )))
