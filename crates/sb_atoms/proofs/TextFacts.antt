-- Words among terms, and the literals of memberships and of equalities with a word.
use Rattle.std.proofs.Common.{◌≡◌, ℕ, ◌+◌, ◌<◌, ◌≤◌, Bool, true, false, ◌&&◌, nat_le, if◌then◌else◌, List, [], ◌∷◌, Option, Some, None, option_map, option_and_then, refl, sym, ap, ◌∙◌, arith}
use Rattle.std.specs.Prelude.{is_some}
use Rattle.std.proofs.lemmas.Bool.{and_parts, and_from, false≢true}
use Rattle.std.proofs.lemmas.Bool.Decides.{nat_tests}
use Rattle.sb_lang.specs.Regex.{Regex}
use Rattle.sb_lang.specs.Normal.{normal, word_regex}
use Rattle.sb_lit.specs.declared.clause.Lit.{Lit}
use Rattle.sb_meaning.specs.Terms.{Term, Terms, word, apply, no_terms, with_term}
use Rattle.sb_meaning.specs.Terms as symbol
use Rattle.sb_meaning.specs.Truth.{means_word, meaning_of, applied}
use Rattle.sb_script.specs.Brought.{is_text, are_texts}
use Rattle.sb_script.specs.Fragment.{is_word_pair}
use Rattle.sb_script.specs.Pieces.{Piece, is_ground, are_ground, word_of, are_single, pieces_of, single_pieces, ground_word}
use Rattle.sb_script.specs.Sizes.{size_of, has_short_words, is_regular}
use Rattle.sb_rulebook.specs.Atoms.{Atom, in_atom}
use Rattle.sb_rulebook.specs.Parts.{regex_meant, regex_of}
use Rattle.sb_rulebook.specs.Translation.{positive, membership, word_equality}
use Rattle.sb_term.specs.Numbered.{term_at}
use Rattle.sb_fragment.specs.declared.measures.Sides.{Sides}
use Rattle.sb_fragment.specs.Shapes.{sides_in}
use Rattle.sb_problem.specs.Patterns.{literal_of}
use Rattle.sb_problem.specs.Words.{letters_of}
use Rattle.sb_problem.proofs.CallerLemmas.{text_means, no_ground_word, short_ground_word, long_text, long_single}
use Rattle.sb_atoms.specs.Shapes.{member_literal}

-- A word.

mutual
  text_ground : (t : Term) → is_text t ≡ true → is_ground t ≡ true
  text_ground (word w) h = refl
  text_ground (apply symbol.str_concat terms) h = texts_ground terms h
  text_ground _ h = absurd (false≢true h)

  texts_ground : (terms : Terms) → are_texts terms ≡ true → are_ground terms ≡ true
  texts_ground no_terms h = refl
  texts_ground (with_term t terms) h =
      let p = and_parts (is_text t) (are_texts terms) h in
      and_from (is_ground t) (are_ground terms) (text_ground t p.0) (texts_ground terms p.1)

short_by_size : (t : Term) → is_text t ≡ true → has_short_words t ≡ nat_le (size_of t) 65535
short_by_size (word w) h = refl
short_by_size (apply symbol.str_concat terms) h = refl
short_by_size _ h = absurd (false≢true h)

short_enough : (n : ℕ) → ((nat_le n 65535 && true) && nat_le (1 + (n + 0)) 1000000) ≡ nat_le n 65535
short_enough n = grind (arith, nat_tests)

-- the regular expression of a word is within the limits where the word is
text_regular : (t : Term) → is_text t ≡ true → is_regular (literal_of t) ≡ has_short_words t
text_regular t h =
    ap (λ b. (b && true) && ((has_short_words t && true) && nat_le (1 + (size_of t + 0)) 1000000)) (text_ground t h)
    ∙ ap (λ b. (b && true) && nat_le (1 + (size_of t + 0)) 1000000) (short_by_size t h)
    ∙ short_enough (size_of t)
    ∙ sym (short_by_size t h)

at_most : (n : ℕ) → nat_le n 65535 ≡ true → n ≤ 65535
at_most n h = grind (arith, nat_tests, h)

above : (n : ℕ) → nat_le n 65535 ≡ false → 65535 < n
above n h = grind (arith, nat_tests, h)

-- a word within the limit, and one past it
short_word : (t : Term) → is_text t ≡ true → has_short_words t ≡ true → ground_word t ≡ Some (letters_of t)
short_word t h short = short_ground_word t h (at_most (size_of t) (sym (short_by_size t h) ∙ short))

long_pieces : (t : Term) → is_text t ≡ true → has_short_words t ≡ false → pieces_of t ≡ None
long_pieces t h long = long_text t h (above (size_of t) (sym (short_by_size t h) ∙ long))

long_alone : (t : Term) → is_text t ≡ true → has_short_words t ≡ false → single_pieces t ≡ None
long_alone t h long = long_single t h (above (size_of t) (sym (short_by_size t h) ∙ long))

word_meant : (w : List ℕ) → regex_meant (applied symbol.str_to_re (means_word w ∷ [])) ≡ Some (word_regex w)
unfolding normal
word_meant w = refl

-- the regex of a word's regular expression is that of the word
text_regex : (t : Term) → is_text t ≡ true → regex_of (literal_of t) ≡ option_map word_regex (ground_word t)
text_regex t h = step (has_short_words t) refl
  where
    step : (b : Bool) → has_short_words t ≡ b
        → regex_of (literal_of t) ≡ option_map word_regex (ground_word t)
    step true is =
        ap (λ (b : Bool). if b then regex_meant (meaning_of [] (literal_of t)) else None) (text_regular t h ∙ is)
        ∙ ap (λ m. regex_meant (applied symbol.str_to_re (m ∷ []))) (text_means [] t h)
        ∙ word_meant (letters_of t)
        ∙ sym (ap (option_map word_regex) (short_word t h is))
    step false is =
        ap (λ (b : Bool). if b then regex_meant (meaning_of [] (literal_of t)) else None) (text_regular t h ∙ is)
        ∙ sym (ap (λ o. option_map word_regex (option_and_then word_of o)) (long_pieces t h is))

-- Memberships.

pub membership_none : (atoms : List Atom) (t : Term) → single_pieces t ≡ None → (o : Option Regex)
    → membership atoms t o ≡ None
membership_none atoms t none None = refl
membership_none atoms t none (Some r) = ap (option_and_then (λ ps. positive atoms (in_atom ps r))) none

pub membership_some : (t : Term) (ps : List Piece) (R : Term) → single_pieces t ≡ Some ps → (atoms : List Atom)
    → member_literal atoms ps R ≡ membership atoms t (regex_of R)
membership_some t ps R is atoms = step (regex_of R)
  where
    step : (o : Option Regex) → option_and_then (λ r. positive atoms (in_atom ps r)) o ≡ membership atoms t o
    step None = refl
    step (Some r) = sym (ap (option_and_then (λ qs. positive atoms (in_atom qs r))) is)

-- Equalities with a word.

abbrev by_word : List Atom → Term → Term → Option (List ℕ) → Option Lit
by_word atoms a b o = elim o [
  | Some w ↦ membership atoms a (Some (word_regex w))
  | None ↦ membership atoms b (option_map word_regex (ground_word a))
]

pub second_is_word : (a b : Term) → is_text b ≡ true → (atoms : List Atom)
    → membership atoms a (regex_of (literal_of b)) ≡ word_equality atoms a b
second_is_word a b h atoms = step (has_short_words b) refl
  where
    step : (short : Bool) → has_short_words b ≡ short
        → membership atoms a (regex_of (literal_of b)) ≡ word_equality atoms a b
    step true is =
        let it = short_word b h is in
        ap (membership atoms a) (text_regex b h ∙ ap (option_map word_regex) it) ∙ sym (ap (by_word atoms a b) it)
    step false is =
        let it = ap (option_and_then word_of) (long_pieces b h is) in
        ap (membership atoms a) (text_regex b h ∙ ap (option_map word_regex) it)
        ∙ sym (ap (by_word atoms a b) it
        ∙ membership_none atoms b (long_alone b h is) (option_map word_regex (ground_word a)))

pub first_is_word : (a b : Term) → is_text b ≡ false → is_text a ≡ true → (atoms : List Atom)
    → membership atoms b (regex_of (literal_of a)) ≡ word_equality atoms a b
first_is_word a b other h atoms =
    ap (membership atoms b) (text_regex a h) ∙ sym (ap (by_word atoms a b) (no_ground_word b other))

pub none_is_word : (a b : Term) → is_text b ≡ false → is_text a ≡ false → (atoms : List Atom)
    → word_equality atoms a b ≡ None
none_is_word a b other first atoms =
    ap (by_word atoms a b) (no_ground_word b other)
    ∙ ap (λ o. membership atoms b (option_map word_regex o)) (no_ground_word a first)

-- a term without pieces is equal to no word
pub no_pieces : (atoms : List Atom) (a b : Term) → pieces_of b ≡ None → word_equality atoms a b ≡ None
no_pieces atoms a b none =
    ap (by_word atoms a b) (ap (option_and_then word_of) none)
    ∙ membership_none atoms b (ap (option_and_then (λ ps. if are_single ps then Some ps else None)) none)
    (option_map word_regex (ground_word a))

-- The sides of an equality: the word, and the other term.

abbrev sides_by : ℕ → ℕ → Bool → Sides
sides_by one two second = if second then record { word = two; other = one } else record { word = one; other = two }

abbrev of_sides : List Term → List Atom → Sides → Option Lit
of_sides ts atoms s = membership atoms (term_at ts s.other) (regex_of (literal_of (term_at ts s.word)))

pub sides_word : (ts : List Term) (one two : ℕ) (sides : Sides) → sides ≡ sides_in ts one two
    → is_text (term_at ts sides.word) ≡ true → (atoms : List Atom)
    → of_sides ts atoms sides ≡ word_equality atoms (term_at ts one) (term_at ts two)
sides_word ts one two sides is it atoms = step (is_text (term_at ts two)) refl
  where
    step : (b : Bool) → is_text (term_at ts two) ≡ b
        → of_sides ts atoms sides ≡ word_equality atoms (term_at ts one) (term_at ts two)
    step true second =
        ap (of_sides ts atoms) (is ∙ ap (sides_by one two) second)
        ∙ second_is_word (term_at ts one) (term_at ts two) second atoms
    step false second =
        let same : sides ≡ sides_by one two false = is ∙ ap (sides_by one two) second in
        ap (of_sides ts atoms) same
        ∙ first_is_word (term_at ts one) (term_at ts two) second
        (ap (λ (s : Sides). is_text (term_at ts s.word)) (sym same) ∙ it) atoms

pub sides_none : (ts : List Term) (one two : ℕ) (sides : Sides) → sides ≡ sides_in ts one two
    → is_text (term_at ts sides.word) ≡ false → (atoms : List Atom)
    → word_equality atoms (term_at ts one) (term_at ts two) ≡ None
sides_none ts one two sides is no_text atoms = step (is_text (term_at ts two)) refl
  where
    step : (b : Bool) → is_text (term_at ts two) ≡ b
        → word_equality atoms (term_at ts one) (term_at ts two) ≡ None
    step true second =
        let same : sides ≡ sides_by one two true = is ∙ ap (sides_by one two) second in
        absurd (false≢true (sym no_text ∙ (ap (λ (s : Sides). is_text (term_at ts s.word)) same ∙ second)))
    step false second =
        let same : sides ≡ sides_by one two false = is ∙ ap (sides_by one two) second in
        none_is_word (term_at ts one) (term_at ts two) second
        (ap (λ (s : Sides). is_text (term_at ts s.word)) (sym same) ∙ no_text) atoms

-- each side is one of the two
pub sides_below : (ts : List Term) (one two : ℕ) (sides : Sides) → sides ≡ sides_in ts one two → (n : ℕ) → one < n
    → two < n → (sides.word < n) × (sides.other < n)
sides_below ts one two sides is n low high = rw is (step (is_text (term_at ts two)))
  where
    step : (b : Bool) → ((sides_by one two b).word < n) × ((sides_by one two b).other < n)
    step true = (high, low)
    step false = (low, high)

pub sides_pass : (test : Term → Bool) (ts : List Term) (one two : ℕ) (sides : Sides) → sides ≡ sides_in ts one two
    → (test (term_at ts one) && test (term_at ts two)) ≡ true → test (term_at ts sides.other) ≡ true
sides_pass test ts one two sides is both =
    ap (λ (s : Sides). test (term_at ts s.other)) is ∙ step (is_text (term_at ts two))
  where
    step : (b : Bool) → test (term_at ts (sides_by one two b).other) ≡ true
    step true = (and_parts (test (term_at ts one)) (test (term_at ts two)) both).0
    step false = (and_parts (test (term_at ts one)) (test (term_at ts two)) both).1

-- Of a pair within the fragment.

abbrev pair_by : Term → Term → Option (List ℕ) → Bool
pair_by a b o = elim o [
  | Some w ↦ is_some (single_pieces a)
  | None ↦ is_some (ground_word a) && is_some (single_pieces b)
]

pub pair_second : (a b : Term) → is_word_pair a b ≡ true → is_text b ≡ true → is_some (single_pieces a) ≡ true
pair_second a b pair h = step (has_short_words b) refl
  where
    step : (short : Bool) → has_short_words b ≡ short → is_some (single_pieces a) ≡ true
    step true is = sym (ap (pair_by a b) (short_word b h is)) ∙ pair
    step false is =
        let none = sym (ap (pair_by a b) (ap (option_and_then word_of) (long_pieces b h is))) ∙ pair in
        let there = (and_parts (is_some (ground_word a)) (is_some (single_pieces b)) none).1 in
        absurd (false≢true (sym (ap is_some (long_alone b h is)) ∙ there))

a_word : (a : Term) → is_some (ground_word a) ≡ true → is_text a ≡ true
a_word a there = step (is_text a) refl
  where
    step : (b : Bool) → is_text a ≡ b → is_text a ≡ true
    step true is = is
    step false is = absurd (false≢true (sym (ap is_some (no_ground_word a is)) ∙ there))

pub pair_first : (a b : Term) → is_word_pair a b ≡ true → is_text b ≡ false
    → (is_text a ≡ true) × (is_some (single_pieces b) ≡ true)
pair_first a b pair other =
    let both = and_parts (is_some (ground_word a)) (is_some (single_pieces b))
    (sym (ap (pair_by a b) (no_ground_word b other)) ∙ pair) in
    (a_word a both.0, both.1)
