-- Words: their letters, their sizes, what they mean, and their pieces.
use Rattle.std.proofs.Common.{◌≡◌, ℕ, ◌+◌, ◌<◌, ◌≤◌, ◌==◌, Bool, true, false, ◌&&◌, nat_le, if◌then◌else◌, List, [], ◌∷◌, ◌++◌, length, Option, Some, None, option_map, refl, sym, ap, ap₂, ◌∙◌, arith, length-append}
use Rattle.std.specs.Prelude.{◌||◌, option_and_then}
use Rattle.std.specs.List.{flat_map}
use Rattle.std.proofs.lemmas.Bool.{and_parts, or_left, or_right, false≢true}
use Rattle.std.proofs.lemmas.Bool.Decides.{nat_tests}
use Rattle.std.proofs.lemmas.List.{append-nil}
use Rattle.std.proofs.lemmas.Option.{same_Some, none-some}
use Rattle.sb_facts.proofs.CallerLemmas.{after_map, same_number}
use Rattle.sb_meaning.specs.Terms.{text, Term, Terms, constant, word, apply, no_terms, with_term}
use Rattle.sb_meaning.specs.Terms as symbol
use Rattle.sb_meaning.specs.Values.{Valuation}
use Rattle.sb_meaning.specs.Truth.{meaning_of, meanings_of, means_word, word_in}
use Rattle.sb_script.specs.Brought.{is_regex, is_text, are_texts}
use Rattle.sb_script.specs.Pieces.{Piece, constant_piece, word_piece, onto_pieces, before_pieces, concatenation, word_of, is_short, if_short, pieces_of, all_pieces, are_single, single_pieces, ground_word}
use Rattle.sb_script.specs.Sizes.{size_of, sizes_of}
use Rattle.sb_problem.specs.Known.{IsTextBy, count_known, is_silent, is_something}
use Rattle.sb_problem.specs.declared.normals.Known.{Known}
use Rattle.sb_problem.specs.declared.normals.Known.TheVariants as known
use Rattle.sb_problem.specs.Taking.{spelled}
use Rattle.sb_problem.specs.Words.{letters_of, letters_of_each, up_to_limit}

-- Sizes.

mutual
  pub text_size : (t : Term) → is_text t ≡ true → size_of t ≡ length (letters_of t)
  text_size (word w) h = refl
  text_size (apply symbol.str_concat terms) h = texts_size terms h
  text_size _ h = absurd (false≢true h)

  pub texts_size : (ts : Terms) → are_texts ts ≡ true → sizes_of ts ≡ length (letters_of_each ts)
  texts_size no_terms h = refl
  texts_size (with_term t ts) h =
      let parts = and_parts (is_text t) (are_texts ts) h in
      ap₂ ◌+◌ (text_size t parts.0) (texts_size ts parts.1)
      ∙ sym (length-append (letters_of t) (letters_of_each ts))

limit_none : (n : ℕ) → up_to_limit n ≡ 0 → n ≡ 0
limit_none n h = grind (arith, nat_tests, h)

no_letters : (w : List ℕ) → length w ≡ 0 → w ≡ []
no_letters [] h = refl
no_letters (c ∷ w) h = absurd (omega (arith, h))

-- what is known to have no letters has none
none_counted : (t : Term) (count : ℕ) → IsTextBy t (Some count) → (count == 0) ≡ true → letters_of t ≡ []
none_counted t count h none =
    let no_size = limit_none (size_of t) (sym (same_number count 0 none ∙ h.1)) in
    no_letters (letters_of t) (sym (text_size t h.0) ∙ no_size)

pub silent_letters : (t : Term) (k : Known) → (is_something k ≡ true → IsTextBy t (count_known k)) → is_silent k ≡ true
    → letters_of t ≡ []
silent_letters t known.Nothing h none = absurd (false≢true none)
silent_letters t known.Other h none = absurd (false≢true none)
silent_letters t known.Concatenation h none = absurd (false≢true none)
silent_letters t (known.Made id) h none = absurd (false≢true none)
silent_letters t (known.Text count) h none = none_counted t count (h refl) none
silent_letters t (known.Spelled id count) h none = none_counted t count (h refl) none

-- counts up to the limit
pub limit_sum : (a b : ℕ) → up_to_limit (up_to_limit a + up_to_limit b) ≡ up_to_limit (a + b)
limit_sum a b = grind (arith, nat_tests)

pub limit_kept : (n count : ℕ) → count ≡ up_to_limit n → count ≤ 65535 → n ≤ 65535
limit_kept n count is l = grind (arith, nat_tests, is, l)

pub limit_past : (n count : ℕ) → count ≡ up_to_limit n → 65535 < count → 65535 < n
limit_past n count is l = grind (arith, nat_tests, is, l)

-- A regular expression is no word.
pub regex_no_text : (t : Term) → is_regex t ≡ true → is_text t ≡ false
regex_no_text (word w) h = absurd (false≢true h)
regex_no_text (apply symbol.str_concat ts) h = absurd (false≢true h)
regex_no_text _ h = refl

pub text_no_regex : (t : Term) → is_text t ≡ true → is_regex t ≡ false
text_no_regex (word w) h = refl
text_no_regex (apply symbol.str_concat ts) h = refl
text_no_regex _ h = absurd (false≢true h)

-- The meaning.

mutual
  pub text_means : (v : Valuation) (t : Term) → is_text t ≡ true → meaning_of v t ≡ means_word (letters_of t)
  text_means v (word w) h = refl
  text_means v (apply symbol.str_concat terms) h = ap means_word (texts_mean v terms h)
  text_means v _ h = absurd (false≢true h)

  texts_mean : (v : Valuation) (ts : Terms) → are_texts ts ≡ true
      → flat_map (λ w. w) (flat_map word_in (meanings_of v ts)) ≡ letters_of_each ts
  texts_mean v no_terms h = refl
  texts_mean v (with_term t ts) h =
      let parts = and_parts (is_text t) (are_texts ts) h in
      ap (λ m. flat_map (λ w. w) (flat_map word_in (m ∷ meanings_of v ts))) (text_means v t parts.0)
      ∙ ap (λ w. letters_of t ++ w) (texts_mean v ts parts.1)

-- Options.

pub after_then : {A B P : Type 0} (f : A → Option B) (o : Option A) (y : B) → option_and_then f o ≡ Some y
    → ((x : A) → o ≡ Some x → f x ≡ Some y → P) → P
after_then f None y h more = absurd (none-some y h)
after_then f (Some x) y h more = more x refl h

pub short_is : (qs ps : List Piece) → if_short qs ≡ Some ps → qs ≡ ps
short_is qs ps e = step (is_short qs) e
  where
    step : (b : Bool) → (if b then Some qs else None) ≡ Some ps → qs ≡ ps
    step true h = same_Some qs ps h
    step false h = absurd (none-some ps h)

kept_short : (qs ps : List Piece) → if_short qs ≡ Some ps → is_short ps ≡ true
kept_short qs ps e = step (is_short qs) refl e
  where
    step : (b : Bool) → is_short qs ≡ b → (if b then Some qs else None) ≡ Some ps → is_short ps ≡ true
    step true is h = ap is_short (sym (same_Some qs ps h)) ∙ is
    step false is h = absurd (none-some ps h)

pub short_gives : (qs : List Piece) → is_short qs ≡ true → if_short qs ≡ Some qs
short_gives qs h = ap (λ (b : Bool). if b then Some qs else None) h

-- The pieces of a word.

pub word_of_spelled : (w : List ℕ) → word_of (spelled w) ≡ Some w
word_of_spelled [] = refl
word_of_spelled (c ∷ w) = refl

spelled_before : (v w : List ℕ) → before_pieces (spelled v) (spelled w) ≡ spelled (v ++ w)
spelled_before [] w = refl
spelled_before (c ∷ v) [] = ap (λ u. word_piece u ∷ []) (sym (append-nil (c ∷ v)))
spelled_before (c ∷ v) (d ∷ w) = refl

mutual
  pub text_pieces : (t : Term) (ps : List Piece) → is_text t ≡ true → pieces_of t ≡ Some ps → ps ≡ spelled (letters_of t)
  text_pieces (word w) ps h e = sym (short_is (spelled w) ps e)
  text_pieces (apply symbol.str_concat terms) ps h e =
      after_then (λ pss. if_short (concatenation pss)) (all_pieces terms) ps e (λ pss all short.
      sym (short_is (concatenation pss) ps short) ∙ texts_pieces terms pss h all)
  text_pieces _ ps h e = absurd (false≢true h)

  pub texts_pieces : (ts : Terms) (pss : List (List Piece)) → are_texts ts ≡ true → all_pieces ts ≡ Some pss
      → concatenation pss ≡ spelled (letters_of_each ts)
  texts_pieces no_terms pss h e = ap concatenation (sym (same_Some [] pss e))
  texts_pieces (with_term t ts) pss h e =
      let parts = and_parts (is_text t) (are_texts ts) h in
      after_then (λ ps. option_map (λ qss. ps ∷ qss) (all_pieces ts)) (pieces_of t) pss e (λ ps first rest.
      after_map (λ qss. ps ∷ qss) (all_pieces ts) pss rest (λ qss others is.
      ap concatenation (sym is)
      ∙ (ap₂ before_pieces (text_pieces t ps parts.0 first) (texts_pieces ts qss parts.1 others)
      ∙ spelled_before (letters_of t) (letters_of_each ts))))

small_enough : (n : ℕ) → n ≤ 65535 → nat_le n 65535 ≡ true
small_enough n l = grind (arith, nat_tests)

spelled_short : (w : List ℕ) → length w ≤ 65535 → is_short (spelled w) ≡ true
spelled_short [] l = refl
spelled_short (c ∷ w) l = small_enough (length (c ∷ w)) l

at_most : (n : ℕ) → nat_le n 65535 ≡ true → n ≤ 65535
at_most n h = grind (arith, nat_tests, h)

short_length : (w : List ℕ) → is_short (spelled w) ≡ true → length w ≤ 65535
short_length [] h = omega arith
short_length (c ∷ w) h = at_most (length (c ∷ w)) h

mutual
  pub short_text : (t : Term) → is_text t ≡ true → size_of t ≤ 65535 → pieces_of t ≡ Some (spelled (letters_of t))
  short_text (word w) h l = short_gives (spelled w) (spelled_short w l)
  short_text (apply symbol.str_concat terms) h l =
      let all = short_texts terms h l in
      let small : length (letters_of_each terms) ≤ 65535 = omega (arith, l, texts_size terms h) in
      ap (option_and_then (λ pss. if_short (concatenation pss))) all.1
      ∙ (ap if_short (texts_pieces terms all.0 h all.1)
      ∙ short_gives (spelled (letters_of_each terms)) (spelled_short (letters_of_each terms) small))
  short_text _ h l = absurd (false≢true h)

  short_texts : (ts : Terms) → are_texts ts ≡ true → sizes_of ts ≤ 65535
      → (pss : List (List Piece)) × (all_pieces ts ≡ Some pss)
  short_texts no_terms h l = ([], refl)
  short_texts (with_term t ts) h l =
      let parts = and_parts (is_text t) (are_texts ts) h in
      let rest = short_texts ts parts.1 (omega (arith, l)) in (
        spelled (letters_of t) ∷ rest.0,
        ap (option_and_then (λ ps. option_map (λ pss. ps ∷ pss) (all_pieces ts)))
            (short_text t parts.0 (omega (arith, l)))
            ∙ ap (option_map (λ pss. spelled (letters_of t) ∷ pss)) rest.1,
      )

text_short : (t : Term) (ps : List Piece) → is_text t ≡ true → pieces_of t ≡ Some ps → is_short ps ≡ true
text_short (word w) ps h e = kept_short (spelled w) ps e
text_short (apply symbol.str_concat terms) ps h e =
    after_then (λ pss. if_short (concatenation pss)) (all_pieces terms) ps e (λ pss all short.
    kept_short (concatenation pss) ps short)
text_short _ ps h e = absurd (false≢true h)

-- a word past the limit has no pieces
pub long_text : (t : Term) → is_text t ≡ true → 65535 < size_of t → pieces_of t ≡ None
long_text t h l = step (pieces_of t) refl
  where
    step : (o : Option (List Piece)) → pieces_of t ≡ o → pieces_of t ≡ None
    step None e = e
    step (Some ps) e =
        let short = ap is_short (sym (text_pieces t ps h e)) ∙ text_short t ps h e in
        let few = short_length (letters_of t) short in
        absurd (omega (arith, l, text_size t h, few))

-- What is no word has a constant among its pieces, so it has no word.

abbrev pub some_constant : List Piece → Bool
some_constant [] = false
some_constant (constant_piece serial ∷ ps) = true
some_constant (word_piece w ∷ ps) = some_constant ps

onto_constant : (w : List ℕ) (ps : List Piece) → some_constant ps ≡ true
    → some_constant (onto_pieces (word_piece w) ps) ≡ true
onto_constant [] ps h = h
onto_constant (c ∷ w) [] h = h
onto_constant (c ∷ w) (constant_piece serial ∷ ps) h = refl
onto_constant (c ∷ w) (word_piece v ∷ ps) h = h

before_constant : (ps qs : List Piece) → (some_constant ps || some_constant qs) ≡ true
    → some_constant (before_pieces ps qs) ≡ true
before_constant [] qs h = h
before_constant (constant_piece serial ∷ ps) qs h = refl
before_constant (word_piece w ∷ ps) qs h = onto_constant w (before_pieces ps qs) (before_constant ps qs h)

constant_word : (ps : List Piece) → some_constant ps ≡ true → word_of ps ≡ None
constant_word [] h = absurd (false≢true h)
constant_word (constant_piece serial ∷ ps) h = refl
constant_word (word_piece w ∷ []) h = absurd (false≢true h)
constant_word (word_piece w ∷ q ∷ ps) h = refl

constant_short : (ps : List Piece) → some_constant ps ≡ true → is_short ps ≡ true
constant_short ps h =
    ap (λ (o : Option (List ℕ)). elim o as (λ _. Bool) [ Some w ↦ nat_le (length w) 65535 | None ↦ true ])
    (constant_word ps h)

one_is_other : (a b c d : Bool) → (a && b) ≡ false → (a ≡ false → c ≡ true) → (b ≡ false → d ≡ true)
    → (c || d) ≡ true
one_is_other true b c d h f g = or_right c d (g h)
one_is_other false b c d h f g = or_left c d (f refl)

mutual
  other_constant : (t : Term) (ps : List Piece) → is_text t ≡ false → pieces_of t ≡ Some ps → some_constant ps ≡ true
  other_constant (constant serial text) ps h e = ap some_constant (sym (same_Some (constant_piece serial ∷ []) ps e))
  other_constant (word w) ps h e = absurd (false≢true (sym h))
  other_constant (apply symbol.str_concat terms) ps h e =
      after_then (λ pss. if_short (concatenation pss)) (all_pieces terms) ps e (λ pss all short.
      ap some_constant (sym (short_is (concatenation pss) ps short)) ∙ others_constant terms pss h all)
  other_constant _ ps h e = absurd (none-some ps e)

  others_constant : (ts : Terms) (pss : List (List Piece)) → are_texts ts ≡ false → all_pieces ts ≡ Some pss
      → some_constant (concatenation pss) ≡ true
  others_constant no_terms pss h e = absurd (false≢true (sym h))
  others_constant (with_term t ts) pss h e =
      after_then (λ ps. option_map (λ qss. ps ∷ qss) (all_pieces ts)) (pieces_of t) pss e (λ ps first rest.
      after_map (λ qss. ps ∷ qss) (all_pieces ts) pss rest (λ qss others is.
      ap (λ xss. some_constant (concatenation xss)) (sym is)
      ∙ before_constant ps (concatenation qss)
      (one_is_other (is_text t) (are_texts ts) (some_constant ps) (some_constant (concatenation qss)) h
      (λ k. other_constant t ps k first) (λ k. others_constant ts qss k others))))

-- a concatenation that is no word has the pieces of its parts
pub other_opens : (ts : Terms) → are_texts ts ≡ false
    → pieces_of (apply symbol.str_concat ts) ≡ option_map concatenation (all_pieces ts)
other_opens ts h = step (all_pieces ts) refl
  where
    step : (o : Option (List (List Piece))) → all_pieces ts ≡ o
        → option_and_then (λ pss. if_short (concatenation pss)) o ≡ option_map concatenation o
    step None e = refl
    step (Some pss) e =
        short_gives (concatenation pss) (constant_short (concatenation pss) (others_constant ts pss h e))

pub no_ground_word : (t : Term) → is_text t ≡ false → ground_word t ≡ None
no_ground_word t h = step (pieces_of t) refl
  where
    step : (o : Option (List Piece)) → pieces_of t ≡ o → option_and_then word_of o ≡ None
    step None e = refl
    step (Some ps) e = constant_word ps (other_constant t ps h e)

pub short_ground_word : (t : Term) → is_text t ≡ true → size_of t ≤ 65535 → ground_word t ≡ Some (letters_of t)
short_ground_word t h l = ap (option_and_then word_of) (short_text t h l) ∙ word_of_spelled (letters_of t)

pub long_ground_word : (t : Term) → is_text t ≡ true → 65535 < size_of t → ground_word t ≡ None
long_ground_word t h l = ap (option_and_then word_of) (long_text t h l)

-- a word within the limit is one piece, or none where it has no letters
single_spelled : (w : List ℕ) → are_single (spelled w) ≡ true
single_spelled [] = refl
single_spelled (c ∷ w) = refl

pub text_single : (t : Term) → is_text t ≡ true → size_of t ≤ 65535 → single_pieces t ≡ Some (spelled (letters_of t))
text_single t h l =
    ap (option_and_then (λ ps. if are_single ps then Some ps else None)) (short_text t h l)
    ∙ ap (λ (b : Bool). if b then Some (spelled (letters_of t)) else None) (single_spelled (letters_of t))

pub long_single : (t : Term) → is_text t ≡ true → 65535 < size_of t → single_pieces t ≡ None
long_single t h l = ap (option_and_then (λ ps. if are_single ps then Some ps else None)) (long_text t h l)
