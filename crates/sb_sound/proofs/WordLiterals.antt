-- Memberships of String terms, equalities of them and affixes: the literal is true exactly where the words are so.
use Rattle.std.proofs.Common.{◌≡◌, ℕ, Bool, true, false, ◌&&◌, ◌==◌, nat_le, if◌then◌else◌, List, [], ◌∷◌, ◌++◌, length, Option, Some, None, option_map, option_and_then, refl, sym, ap, ap₂, subst, ◌∙◌, arith}
use Rattle.std.specs.List.{flat_map}
use Rattle.std.proofs.lemmas.List.{append-nil}
use Rattle.std.proofs.lemmas.Option.{option_and_then_some}
use Rattle.std.proofs.lemmas.Bool.{and_parts, and_from}
use Rattle.std.proofs.lemmas.Bool.Decides.{nat_tests}
use Rattle.sb_lit.specs.declared.clause.Lit.{Lit}
use Rattle.sb_word.specs.Words.{is_character, are_characters, IsWord}
use Rattle.sb_lang.specs.Regex.{Regex}
use Rattle.sb_lang.specs.RegLan.{RegLan, re_word}
use Rattle.sb_lang.specs.Membership.{in_re, is_word}
use Rattle.sb_lang.specs.Normal.{normal, word_regex}
use Rattle.sb_lang.specs.NormalLaws.{NormalHasTermsWords}
use Rattle.sb_lang.specs.AffixLaws.{AffixesHaveTheirWords}
use Rattle.sb_lang.specs.Language.{language}
use Rattle.sb_meaning.specs.Terms.{Sort, boolean, integer, text, reglan, Symbol, Term, Terms, constant, word, numeral, apply, parameter, no_terms, with_term}
use Rattle.sb_meaning.specs.Terms as symbol
use Rattle.sb_meaning.specs.Values.{Value, Text, Int, Truth, Valuation, is_of, value_in}
use Rattle.sb_meaning.specs.Truth.{Meaning, means_word, means_number, means_truth, means_reglan, meaning_of_value, word_in, reglan_in, are_equal, is_member, chosen, applied, meaning_of, meanings_of}
use Rattle.sb_rulebook.specs.Atoms.{Atom, word_of_piece, in_atom}
use Rattle.sb_rulebook.specs.AtomRules.{is_declared}
use Rattle.sb_rulebook.specs.Parts.{regex_meant, regex_of}
use Rattle.sb_rulebook.specs.Translation.{positive, membership, word_equality, affix}
use Rattle.sb_sound.specs.TermLaws.{HasSorts, fits_sorts, all_fit, PiecesKeepWord, SumsKeepNumber}
use Rattle.sb_sound.proofs.PieceFacts.{declared_at}
use Rattle.sb_sound.proofs.AtomLiterals.{HasAtomsTruth}
use Rattle.sb_sound.proofs.GateLiterals.{T, Says}
use Rattle.sb_script.specs.Pieces.{Piece, constant_piece, word_piece, is_ground, are_ground, word_of, pieces_of, are_single, single_pieces, ground_word, whole_word}
use Rattle.sb_script.specs.Sizes.{is_regular}

-- a table and a valuation, and the laws of terms
pub record Setting (v : Valuation) (sorts : List Sort) (atoms : List Atom) : Type 0 where
  pub truth : HasAtomsTruth v atoms
  pub sorted : HasSorts v sorts
  pub pieces : PiecesKeepWord
  pub sums : SumsKeepNumber
  pub normals : NormalHasTermsWords
  pub affixes : AffixesHaveTheirWords

-- A word that a term means is one of characters.

abbrev HasCharacters : Meaning → Type 0
HasCharacters (means_word w) = IsWord w
HasCharacters (means_number n) = Unit {0}
HasCharacters (means_truth b) = Unit {0}
HasCharacters (means_reglan R) = Unit {0}

abbrev AllHaveCharacters : List Meaning → Type 0
AllHaveCharacters [] = Unit {0}
AllHaveCharacters (m ∷ ms) = HasCharacters m × AllHaveCharacters ms

-- the value of a declared constant is of its sort
pub declared_value : (v : Valuation) (sorts : List Sort) (serial : ℕ) (sort : Sort) → HasSorts v sorts
    → is_declared sorts sort serial ≡ true → is_of sort (value_in v serial sort) ≡ true
declared_value v sorts serial sort sorted h = sorted serial sort (declared_at sorts sort serial h)

value_has_characters : (sort : Sort) (x : Value) → is_of sort x ≡ true → HasCharacters (meaning_of_value x)
value_has_characters text (Text w) h = h
value_has_characters boolean (Text w) h = absurd (Prim.cc (h))
value_has_characters integer (Text w) h = absurd (Prim.cc (h))
value_has_characters reglan (Text w) h = absurd (Prim.cc (h))
value_has_characters sort (Int n) h = tt
value_has_characters sort (Truth b) h = tt

word_of_both : (v w : List ℕ) → IsWord v → IsWord w → IsWord (v ++ w)
word_of_both [] w f g = g
word_of_both (c ∷ v) w f g =
    let parts = and_parts (is_character c) (are_characters v) f in
    and_from (is_character c) (are_characters (v ++ w)) parts.0 (word_of_both v w parts.1 g)

words_have_characters : (ms : List Meaning) → AllHaveCharacters ms → IsWord (flat_map (λ w. w) (flat_map word_in ms))
words_have_characters [] h = refl
words_have_characters (means_word w ∷ ms) h =
    word_of_both w (flat_map (λ w. w) (flat_map word_in ms)) h.0 (words_have_characters ms h.1)
words_have_characters (means_number n ∷ ms) h = words_have_characters ms h.1
words_have_characters (means_truth b ∷ ms) h = words_have_characters ms h.1
words_have_characters (means_reglan R ∷ ms) h = words_have_characters ms h.1

chosen_has_characters : (ms : List Meaning) → AllHaveCharacters ms → HasCharacters (chosen ms)
chosen_has_characters (means_truth true ∷ a ∷ b ∷ []) h = h.1.0
chosen_has_characters (means_truth false ∷ a ∷ b ∷ []) h = h.1.1.0
chosen_has_characters _ h = tt

applied_has_characters : (s : Symbol) (ms : List Meaning) → AllHaveCharacters ms → HasCharacters (applied s ms)
applied_has_characters symbol.core_ite ms h = chosen_has_characters ms h
applied_has_characters symbol.str_concat ms h = words_have_characters ms h
applied_has_characters _ ms h = tt

mutual
  term_has_characters : (v : Valuation) (sorts : List Sort) → HasSorts v sorts → (t : Term)
      → fits_sorts sorts t ≡ true → HasCharacters (meaning_of v t)
  term_has_characters v sorts sorted (constant serial sort) fits =
      value_has_characters sort (value_in v serial sort) (declared_value v sorts serial sort sorted fits)
  term_has_characters v sorts sorted (word w) fits = fits
  term_has_characters v sorts sorted (numeral n) fits = tt
  term_has_characters v sorts sorted (apply s terms) fits =
      applied_has_characters s (meanings_of v terms) (terms_have_characters v sorts sorted terms fits)
  term_has_characters v sorts sorted (parameter place sort) fits = absurd (Prim.cc (fits))

  terms_have_characters : (v : Valuation) (sorts : List Sort) → HasSorts v sorts → (terms : Terms)
      → all_fit sorts terms ≡ true → AllHaveCharacters (meanings_of v terms)
  terms_have_characters v sorts sorted no_terms fits = tt
  terms_have_characters v sorts sorted (with_term term terms) fits =
      let parts = and_parts (fits_sorts sorts term) (all_fit sorts terms) fits in
      (term_has_characters v sorts sorted term parts.0, terms_have_characters v sorts sorted terms parts.1)

-- Memberships.

-- the term means a word, and the literal is true where the word is in the regex
pub record IsMembership (v : Valuation) (atoms : List Atom) (t : Term) (o : Option Regex) (l : Lit) : Type 0 where
  pub regex : Regex
  pub there : o ≡ Some regex
  pub found : List ℕ
  pub meaning : meaning_of v t ≡ means_word found
  pub characters : IsWord found
  pub truth : T v atoms l ≡ language regex found

some_if : {A : Type 0} (b : Bool) (o : Option A) (y : A) → (if b then o else None) ≡ Some y
    → (b ≡ true) × (o ≡ Some y)
some_if true o y h = (refl, h)
some_if false o y h = absurd (Prim.cc (h))

single_are_pieces : (t : Term) (ps : List Piece) → single_pieces t ≡ Some ps → pieces_of t ≡ Some ps
single_are_pieces t ps h =
    option_and_then_some (λ qs. if are_single qs then Some qs else None) (pieces_of t) ps h
    (λ qs there single. there ∙ (some_if (are_single qs) (Some qs) ps single).1)

membership_says : (v : Valuation) (sorts : List Sort) (atoms : List Atom) → Setting v sorts atoms
    → (t : Term) → fits_sorts sorts t ≡ true → (o : Option Regex) (l : Lit) → membership atoms t o ≡ Some l
    → IsMembership v atoms t o l
membership_says v sorts atoms s t fits o l h =
    option_and_then_some (λ r. option_and_then (λ ps. positive atoms (in_atom ps r)) (single_pieces t)) o l h
    (λ r there rest. option_and_then_some (λ ps. positive atoms (in_atom ps r)) (single_pieces t) l rest
    (λ ps single atom.
    let means : meaning_of v t ≡ means_word (flat_map (word_of_piece v) ps) =
    s.pieces v sorts t ps s.sorted fits (single_are_pieces t ps single) in
    record {
      regex = r;
      there = there;
      found = flat_map (word_of_piece v) ps;
      meaning = means;
      characters = subst HasCharacters means (term_has_characters v sorts s.sorted t fits);
      truth = s.truth (in_atom ps r) l atom;
    }))

the_regex : (q r : Regex) → Some q ≡ Some r → r ≡ q
the_regex q r e = cc

-- Equalities of words.

word_of_words : (v : Valuation) (ps : List Piece) (w : List ℕ) → word_of ps ≡ Some w
    → flat_map (word_of_piece v) ps ≡ w
word_of_words v [] w h = Prim.cc (h)
word_of_words v (word_piece u ∷ []) w h =
    let same : u ≡ w = Prim.cc (h) in
    append-nil u ∙ same
word_of_words v (word_piece u ∷ p ∷ ps) w h = absurd (Prim.cc (h))
word_of_words v (constant_piece s ∷ ps) w h = absurd (Prim.cc (h))

ground_means : (v : Valuation) (sorts : List Sort) (atoms : List Atom) → Setting v sorts atoms
    → (t : Term) → fits_sorts sorts t ≡ true → (w : List ℕ) → ground_word t ≡ Some w → meaning_of v t ≡ means_word w
ground_means v sorts atoms s t fits w h =
    option_and_then_some word_of (pieces_of t) w h
    (λ ps there one. s.pieces v sorts t ps s.sorted fits there ∙ ap (λ u. means_word u) (word_of_words v ps w one))

word_regex_words : NormalHasTermsWords → (w u : List ℕ) → IsWord u → language (word_regex w) u ≡ is_word w u
unfolding normal in_re
word_regex_words normals w u h = normals (re_word w) u h

same_turned : (a b : ℕ) → (a == b) ≡ (b == a)
same_turned a b = grind (arith, nat_tests)

is_word_turned : (v w : List ℕ) → is_word v w ≡ is_word w v
is_word_turned [] [] = refl
is_word_turned [] (c ∷ w) = refl
is_word_turned (a ∷ v) [] = refl
is_word_turned (a ∷ v) (c ∷ w) = ap₂ ◌&&◌ (same_turned a c) (is_word_turned v w)

pub word_equality_says : (v : Valuation) (sorts : List Sort) (atoms : List Atom) → Setting v sorts atoms
    → (a b : Term) → fits_sorts sorts a ≡ true → fits_sorts sorts b ≡ true
    → Says v atoms (word_equality atoms a b) (are_equal (meaning_of v a) (meaning_of v b))
word_equality_says v sorts atoms s a b fits_a fits_b l h = step (ground_word b) refl h
  where
    step : (o : Option (List ℕ)) → ground_word b ≡ o
        → (elim o [
          | Some w ↦ membership atoms a (Some (word_regex w))
          | None ↦ membership atoms b (option_map word_regex (ground_word a))
        ]) ≡ Some l
        → T v atoms l ≡ are_equal (meaning_of v a) (meaning_of v b)
    step (Some w) e h =
        let m = membership_says v sorts atoms s a fits_a (Some (word_regex w)) l h in
        m.truth
        ∙ ap (λ r. language r m.found) (the_regex (word_regex w) m.regex m.there)
        ∙ word_regex_words s.normals w m.found m.characters
        ∙ is_word_turned w m.found
        ∙ sym (ap₂ are_equal m.meaning (ground_means v sorts atoms s b fits_b w e))
    step None e h =
        let m = membership_says v sorts atoms s b fits_b (option_map word_regex (ground_word a)) l h in
        other m (ground_word a) refl m.there
      where
        other : (m : IsMembership v atoms b (option_map word_regex (ground_word a)) l) (o : Option (List ℕ))
            → ground_word a ≡ o → option_map word_regex o ≡ Some m.regex
            → T v atoms l ≡ are_equal (meaning_of v a) (meaning_of v b)
        other m None e h = absurd (Prim.cc (h))
        other m (Some w) e h =
            let same : m.regex ≡ word_regex w = the_regex (word_regex w) m.regex h in
            m.truth
            ∙ ap (λ r. language r m.found) same
            ∙ word_regex_words s.normals w m.found m.characters
            ∙ sym (ap₂ are_equal (ground_means v sorts atoms s a fits_a w e) m.meaning)

-- Affixes.

-- the regexes of the words that hold a word so, and of its parts, have the words that the test says
pub record AreAffixes (holders parts : List ℕ → Regex) (test : List ℕ → List ℕ → Bool) : Type 0 where
  pub wholes_have : (w u : List ℕ) → language (holders w) u ≡ test w u
  pub parts_have : (w u : List ℕ) → language (parts w) u ≡ test u w

-- the terms mean words, and the literal is true where the test of them is
pub record IsTestOfWords (v : Valuation) (atoms : List Atom) (test : List ℕ → List ℕ → Bool) (a b : Term) (l : Lit)
    : Type 0 where
  pub first : List ℕ
  pub second : List ℕ
  pub first_meaning : meaning_of v a ≡ means_word first
  pub second_meaning : meaning_of v b ≡ means_word second
  pub truth : T v atoms l ≡ test first second

whole_is_ground : (t : Term) (w : List ℕ) → whole_word t ≡ Some w → ground_word t ≡ Some w
whole_is_ground t w h =
    option_and_then_some (λ u. if nat_le (length u) 1000 then Some u else None) (ground_word t) w h
    (λ u there short. there ∙ (some_if (nat_le (length u) 1000) (Some u) w short).1)

pub affix_says : (v : Valuation) (sorts : List Sort) (atoms : List Atom) → Setting v sorts atoms
    → (holders parts : List ℕ → Regex) (test : List ℕ → List ℕ → Bool) → AreAffixes holders parts test
    → (part whole : Term) → fits_sorts sorts part ≡ true → fits_sorts sorts whole ≡ true → (l : Lit)
    → affix atoms holders parts part whole ≡ Some l → IsTestOfWords v atoms test part whole l
affix_says v sorts atoms s holders parts test are part whole fits_part fits_whole l h = step (ground_word part) refl h
  where
    step : (o : Option (List ℕ)) → ground_word part ≡ o
        → (elim o [
          | Some w ↦ membership atoms whole (Some (holders w))
          | None ↦ membership atoms part (option_map parts (whole_word whole))
        ]) ≡ Some l
        → IsTestOfWords v atoms test part whole l
    step (Some w) e h =
        let m = membership_says v sorts atoms s whole fits_whole (Some (holders w)) l h in
        record {
          first = w;
          second = m.found;
          first_meaning = ground_means v sorts atoms s part fits_part w e;
          second_meaning = m.meaning;
          truth = m.truth
              ∙ ap (λ r. language r m.found) (the_regex (holders w) m.regex m.there)
              ∙ are.wholes_have w m.found;
        }
    step None e h =
        let m = membership_says v sorts atoms s part fits_part (option_map parts (whole_word whole)) l h in
        other m (whole_word whole) refl m.there
      where
        other : (m : IsMembership v atoms part (option_map parts (whole_word whole)) l) (o : Option (List ℕ))
            → whole_word whole ≡ o → option_map parts o ≡ Some m.regex → IsTestOfWords v atoms test part whole l
        other m None e h = absurd (Prim.cc (h))
        other m (Some w) e h = record {
          first = m.found;
          second = w;
          first_meaning = m.meaning;
          second_meaning = ground_means v sorts atoms s whole fits_whole w (whole_is_ground whole w e);
          truth = m.truth
              ∙ ap (λ r. language r m.found) (the_regex (parts w) m.regex h)
              ∙ are.parts_have w m.found;
        }

-- Memberships in the regex of a term.

mutual
  ground_meaning : (v w : Valuation) (t : Term) → is_ground t ≡ true → meaning_of v t ≡ meaning_of w t
  ground_meaning v w (constant serial sort) h = absurd (Prim.cc (h))
  ground_meaning v w (word u) h = refl
  ground_meaning v w (numeral n) h = refl
  ground_meaning v w (apply s terms) h = ap (applied s) (ground_meanings v w terms h)
  ground_meaning v w (parameter place sort) h = absurd (Prim.cc (h))

  ground_meanings : (v w : Valuation) (terms : Terms) → are_ground terms ≡ true
      → meanings_of v terms ≡ meanings_of w terms
  ground_meanings v w no_terms h = refl
  ground_meanings v w (with_term term terms) h =
      let parts = and_parts (is_ground term) (are_ground terms) h in
      ap₂ ◌∷◌ (ground_meaning v w term parts.0) (ground_meanings v w terms parts.1)

record IsRegex (m : Meaning) (r : Regex) : Type 0 where
  term : RegLan
  meaning : m ≡ means_reglan term
  is_normal : r ≡ normal term

regex_is_meant : (m : Meaning) (r : Regex) → regex_meant m ≡ Some r → IsRegex m r
regex_is_meant (means_reglan R) r h = record { term = R; meaning = refl; is_normal = the_regex (normal R) r h }
regex_is_meant (means_word w) r h = absurd (Prim.cc (h))
regex_is_meant (means_number n) r h = absurd (Prim.cc (h))
regex_is_meant (means_truth b) r h = absurd (Prim.cc (h))

regex_of_means : (v : Valuation) (t : Term) (r : Regex) → regex_of t ≡ Some r → IsRegex (meaning_of v t) r
regex_of_means v t r h =
    let parts = some_if (is_regular t) (regex_meant (meaning_of [] t)) r h in
    let ground = and_parts (is_ground t) _ parts.0 in
    let meant = regex_is_meant (meaning_of [] t) r parts.1 in
    record {
      term = meant.term;
      meaning = ground_meaning v [] t ground.0 ∙ meant.meaning;
      is_normal = meant.is_normal;
    }

abbrev member_in : List Meaning → Bool
member_in ms = is_member (flat_map word_in ms) (flat_map reglan_in ms)

pub member_says : (v : Valuation) (sorts : List Sort) (atoms : List Atom) → Setting v sorts atoms
    → (t R : Term) → fits_sorts sorts t ≡ true
    → Says v atoms (membership atoms t (regex_of R))
    (is_member (flat_map word_in (meaning_of v t ∷ meaning_of v R ∷ []))
    (flat_map reglan_in (meaning_of v t ∷ meaning_of v R ∷ [])))
member_says v sorts atoms s t R fits l h =
    let m = membership_says v sorts atoms s t fits (regex_of R) l h in
    let r = regex_of_means v R m.regex m.there in
    m.truth
    ∙ ap (λ q. language q m.found) r.is_normal
    ∙ s.normals r.term m.found m.characters
    ∙ sym (ap₂ (λ x y. member_in (x ∷ y ∷ [])) m.meaning r.meaning)
