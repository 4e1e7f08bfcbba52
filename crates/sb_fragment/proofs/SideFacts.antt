-- String terms that are compared, asked to be in a regular expression, or to be parts of others: their pieces and the
-- constants in them.
use Rattle.std.proofs.Common.{◌≡◌, ℕ, zero, suc, ◌<◌, ◌≤◌, Bool, true, false, ◌&&◌, nat_le, if◌then◌else◌, List, [], ◌∷◌, ◌++◌, length, drop, get_or, slice_get, Option, Some, None, option_map, Result, IfOk, refl, sym, ap, ap₂, ◌∙◌, arith}
use Rattle.std.specs.Prelude.{is_some, option_and_then}
use Rattle.std.specs.List.{list_all}
use Rattle.std.proofs.lemmas.Bool.{false≢true}
use Rattle.std.proofs.lemmas.Bool.Decides.{nat_tests}
use Rattle.std.proofs.lemmas.List.{drop_all}
use Rattle.std.proofs.lemmas.Option.{none-some, same_Some, slice_get-get_or}
use Rattle.std.proofs.Math.Bool.{and-true, and-false}
use Rattle.sb_facts.proofs.CallerLemmas.{after_map, ok_more}
use Rattle.sb_meaning.specs.Terms.{text, Term, Terms, constant, word, apply, no_terms, with_term, terms_of}
use Rattle.sb_meaning.specs.Terms as symbol
use Rattle.sb_script.specs.Brought.{is_text, are_texts}
use Rattle.sb_script.specs.Fragment.{is_affix_pair, is_word_pair}
use Rattle.sb_script.specs.Pieces.{Piece, constant_piece, word_piece, onto_pieces, before_pieces, concatenation, if_short, are_single, pieces_of, all_pieces, ground_word, whole_word}
use Rattle.sb_script.specs.Rules.{constants_joined, constants_joined_in, has_each_once, stand_once}
use Rattle.sb_script.specs.Sizes.{size_of}
use Rattle.sb_term.specs.Numbered.{term_at, terms_at}
use Rattle.sb_problem.specs.Taking.{constants_in, spelled}
use Rattle.sb_problem.specs.Words.{letters_of}
use Rattle.sb_problem.proofs.CallerLemmas.{after_then, short_is, text_size, short_text, long_text, other_opens, no_ground_word, short_ground_word, long_ground_word, text_single, single_constants}
use Rattle.sb_fragment.specs.declared.measure.Measure.{Measure}
use Rattle.sb_fragment.specs.declared.sides.Side.{Side}
use Rattle.sb_fragment.specs.declared.sides.Behind.{Behind}
use Rattle.sb_fragment.specs.Compared.{each_two, facing}
use Rattle.sb_fragment.specs.Measured.{is_short_word, is_whole_word}
use Rattle.sb_fragment.specs.Fitting.{is_short_text, is_single, side_in, is_nothing, behind_in, row_fits, with_side}
use Rattle.sb_fragment.specs.Measures.{within_limit, IsMeasure, AreMeasures}
use Rattle.sb_fragment.proofs.ComparedPairs.{two_more}

-- Words, by their size.

at_most : (n : ℕ) → nat_le n 65535 ≡ true → n ≤ 65535
at_most n h = grind (arith, nat_tests, h)

more : (n : ℕ) → nat_le n 65535 ≡ false → 65535 < n
more n h = grind (arith, nat_tests, h)

-- what is said of a term by whether it is within the limit
by_size : (t : Term) (P : Bool → Type 0) → (size_of t ≤ 65535 → P true) → (65535 < size_of t → P false)
    → P (nat_le (size_of t) 65535)
by_size t P few many = step (nat_le (size_of t) 65535) refl
  where
    step : (b : Bool) → nat_le (size_of t) 65535 ≡ b → P b
    step true e = few (at_most (size_of t) e)
    step false e = many (more (size_of t) e)

pub text_has : (t : Term) → is_text t ≡ true → is_some (pieces_of t) ≡ nat_le (size_of t) 65535
text_has t h =
    by_size t (λ b. is_some (pieces_of t) ≡ b) (λ few. ap is_some (short_text t h few))
    (λ many. ap is_some (long_text t h many))

pub ground_words : (t : Term) → is_some (ground_word t) ≡ (is_text t && is_some (pieces_of t))
ground_words t = step (is_text t) refl
  where
    step : (b : Bool) → is_text t ≡ b → is_some (ground_word t) ≡ (b && is_some (pieces_of t))
    step true h =
        by_size t (λ b. is_some (ground_word t) ≡ b) (λ few. ap is_some (short_ground_word t h few))
        (λ many. ap is_some (long_ground_word t h many))
        ∙ sym (text_has t h)
    step false h = ap is_some (no_ground_word t h)

-- The pieces of a concatenation.

have_both : (o : Option (List Piece)) (r : Option (List (List Piece)))
    → is_some (option_and_then (λ ps. option_map (λ pss. ps ∷ pss) r) o) ≡ (is_some o && is_some r)
have_both None r = refl
have_both (Some ps) None = refl
have_both (Some ps) (Some pss) = refl

all_have : (ts : List Term) → is_some (all_pieces (terms_of ts)) ≡ list_all (λ t. is_some (pieces_of t)) ts
all_have [] = refl
all_have (t ∷ ts) =
    have_both (pieces_of t) (all_pieces (terms_of ts)) ∙ ap (λ b. is_some (pieces_of t) && b) (all_have ts)

mapped_some : (o : Option (List (List Piece))) → is_some (option_map concatenation o) ≡ is_some o
mapped_some None = refl
mapped_some (Some pss) = refl

pub joined_have : (ts : List Term) → are_texts (terms_of ts) ≡ false
    → list_all (λ t. is_some (pieces_of t)) ts ≡ is_some (pieces_of (apply symbol.str_concat (terms_of ts)))
joined_have ts h =
    sym (all_have ts)
    ∙ (sym (mapped_some (all_pieces (terms_of ts))) ∙ sym (ap is_some (other_opens (terms_of ts) h)))

-- The constants among pieces.

onto_constants : (w : List ℕ) (ps : List Piece) → constants_in (onto_pieces (word_piece w) ps) ≡ constants_in ps
onto_constants [] ps = refl
onto_constants (c ∷ w) [] = refl
onto_constants (c ∷ w) (constant_piece serial ∷ ps) = refl
onto_constants (c ∷ w) (word_piece v ∷ ps) = refl

before_constants : (ps qs : List Piece) → constants_in (before_pieces ps qs) ≡ constants_in ps ++ constants_in qs
before_constants [] qs = refl
before_constants (constant_piece serial ∷ ps) qs = ap (λ ns. serial ∷ ns) (before_constants ps qs)
before_constants (word_piece w ∷ ps) qs = onto_constants w (before_pieces ps qs) ∙ before_constants ps qs

mutual
  piece_constants : (t : Term) (ps : List Piece) → pieces_of t ≡ Some ps → constants_in ps ≡ constants_joined t
  piece_constants (constant serial text) ps e = ap constants_in (sym (same_Some (constant_piece serial ∷ []) ps e))
  piece_constants (word w) ps e = ap constants_in (sym (short_is (spelled w) ps e)) ∙ onto_constants w []
  piece_constants (apply symbol.str_concat terms) ps e =
      after_then (λ pss. if_short (concatenation pss)) (all_pieces terms) ps e (λ pss all short.
      ap constants_in (sym (short_is (concatenation pss) ps short)) ∙ pieces_constants terms pss all)
  piece_constants _ ps e = absurd (none-some ps e)

  pieces_constants : (ts : Terms) (pss : List (List Piece)) → all_pieces ts ≡ Some pss
      → constants_in (concatenation pss) ≡ constants_joined_in ts
  pieces_constants no_terms pss e = ap (λ qss. constants_in (concatenation qss)) (sym (same_Some [] pss e))
  pieces_constants (with_term t ts) pss e =
      after_then (λ ps. option_map (λ qss. ps ∷ qss) (all_pieces ts)) (pieces_of t) pss e (λ ps first rest.
      after_map (λ qss. ps ∷ qss) (all_pieces ts) pss rest (λ qss others is.
      ap (λ xss. constants_in (concatenation xss)) (sym is)
      ∙ (before_constants ps (concatenation qss)
      ∙ ap₂ (λ ms ns. ms ++ ns) (piece_constants t ps first) (pieces_constants ts qss others))))

by_test : (b : Bool) (ps : List Piece) → is_some (if b then Some ps else None) ≡ b
by_test true ps = refl
by_test false ps = refl

-- pieces, in which each constant stands once at most
pub singles : (t : Term) → is_single t ≡ (is_some (pieces_of t) && has_each_once t)
singles t = step (pieces_of t) refl
  where
    step : (o : Option (List Piece)) → pieces_of t ≡ o
        → is_some (option_and_then (λ ps. if are_single ps then Some ps else None) o)
        ≡ (is_some o && has_each_once t)
    step None e = refl
    step (Some ps) e =
        by_test (are_single ps) ps ∙ (single_constants ps ∙ ap stand_once (piece_constants t ps e))

short_is_single : (t : Term) → is_short_text t ≡ true → is_single t ≡ true
short_is_single t h = step (is_text t) refl
  where
    step : (b : Bool) → is_text t ≡ b → is_single t ≡ true
    step true k =
        by_size t (λ b. is_single t ≡ true) (λ few. ap is_some (text_single t k few))
        (λ many. absurd (false≢true (sym (ap is_some (long_ground_word t k many)) ∙ h)))
    step false k = absurd (false≢true (sym (ap is_some (no_ground_word t k)) ∙ h))

-- Two of them.

by_option : {A : Type 0} (o : Option A) (x y : Bool)
    → (elim o as (λ _. Bool) [ Some w ↦ x | None ↦ y ]) ≡ (if is_some o then x else y)
by_option None x y = refl
by_option (Some w) x y = refl

-- two by whether they are words within the limit, and single
two_ways : (s c r d : Bool) → (s ≡ true → c ≡ true) → (r ≡ true → d ≡ true)
    → (if r then c else (s && d)) ≡ (if s then d else (c && r))
two_ways true c true d one other = one refl ∙ sym (other refl)
two_ways true c false d one other = refl
two_ways false c true d one other = sym (and-true c)
two_ways false c false d one other = sym (and-false c)

pair_by : (t u : Term)
    → is_word_pair t u ≡ (if is_short_text t then is_single u else (is_single t && is_short_text u))
pair_by t u =
    by_option (ground_word u) (is_single t) (is_short_text t && is_single u)
    ∙ two_ways (is_short_text t) (is_single t) (is_short_text u) (is_single u) (short_is_single t) (short_is_single u)

-- One in front of others.

row_by : (t : Term) (us : List Term)
    → list_all (is_word_pair t) us
    ≡ list_all (λ u. if is_short_text t then is_single u else (is_single t && is_short_text u)) us
row_by t [] = refl
row_by t (u ∷ us) = ap₂ ◌&&◌ (pair_by t u) (row_by t us)

row_all : (t : Term) (us : List Term) → list_all (is_word_pair t) us ≡ row_fits (side_in t) (behind_in us)
row_all t us = row_by t us ∙ step (is_short_text t) (is_single t) us
  where
    step : (s c : Bool) (us : List Term)
        → list_all (λ u. if s then is_single u else (c && is_short_text u)) us
        ≡ (if s then list_all is_single us else if c then list_all is_short_text us else is_nothing us)
    step true c us = refl
    step false true us = refl
    step false false [] = refl
    step false false (u ∷ us) = refl

behind_more : (distinct : Bool) (t : Term) (us : List Term)
    → with_side distinct (side_in t) (behind_in (facing distinct us)) ≡ behind_in (facing distinct (t ∷ us))
behind_more true t us = refl
behind_more false t us = refl

-- terms by number
dropped : (ts : List Term) (is : List ℕ) (k x : ℕ) → k < length is → x ≡ get_or is k x
    → terms_at ts (drop k is) ≡ term_at ts x ∷ terms_at ts (drop (suc k) is)
dropped ts [] k x l at = absurd (omega arith)
dropped ts (i ∷ is) zero x l at = ap (λ j. term_at ts j ∷ terms_at ts is) (sym at)
dropped ts (i ∷ is) (suc k) x l at = dropped ts is k x (omega (arith, l)) at

nothing_dropped : (ts : List Term) (is : List ℕ) (k : ℕ) → k ≡ length is → terms_at ts (drop k is) ≡ []
nothing_dropped ts is k e = ap (terms_at ts) (drop_all k is (omega (arith, e)))

pub record AreBehind (distinct : Bool) (us : List Term) (all : Bool) (behind : Behind) : Type 0 where
  pub fit : all ≡ each_two distinct is_word_pair us
  pub behind_is : behind ≡ behind_in (facing distinct us)

pub behind_none : (distinct : Bool) (ts : List Term) (is : List ℕ) (k : ℕ) (behind : Behind) → k ≡ length is
    → behind ≡ behind_in [] → AreBehind distinct (terms_at ts (drop k is)) true behind
behind_none distinct ts is k behind e b = rw (nothing_dropped ts is k e, b) (step distinct)
  where
    step : (d : Bool) → AreBehind d [] true (behind_in [])
    step true = record { fit = refl; behind_is = refl }
    step false = record { fit = refl; behind_is = refl }

pub behind_step : (distinct : Bool) (ts : List Term) (is : List ℕ) (k x : ℕ) (all row now : Bool) (side : Side)
    (behind next : Behind) → k < length is → x ≡ get_or is k x → side ≡ side_in (term_at ts x)
    → row ≡ row_fits side behind → now ≡ (row && all) → next ≡ with_side distinct side behind
    → AreBehind distinct (terms_at ts (drop (suc k) is)) all behind
    → AreBehind distinct (terms_at ts (drop k is)) now next
behind_step distinct ts is k x all row now side behind next l there s r n b h =
    let rest = terms_at ts (drop (suc k) is) in
    rw (dropped ts is k x l there) (record {
      fit = n
          ∙ (ap₂ ◌&&◌
          (r ∙ (ap₂ row_fits s h.behind_is ∙ sym (row_all (term_at ts x) (facing distinct rest)))) h.fit
          ∙ sym (two_more distinct is_word_pair (term_at ts x) rest));
      behind_is = b ∙ (ap₂ (with_side distinct) s h.behind_is ∙ behind_more distinct (term_at ts x) rest);
    })

pub behind_end : (distinct : Bool) (ts : List Term) (is : List ℕ) (k : ℕ) (all : Bool) (behind : Behind) → k ≡ 0
    → AreBehind distinct (terms_at ts (drop k is)) all behind
    → all ≡ each_two distinct is_word_pair (terms_at ts is)
behind_end distinct ts is k all behind e h =
    h.fit ∙ ap (λ n. each_two distinct is_word_pair (terms_at ts (drop n is))) e

-- What a term is as a side, by its measure.

pub measured_at : (ts : List Term) (ms : List Measure) (i n : ℕ) (d : Measure) → AreMeasures ts ms → n ≡ i
    → i < length ms → IsMeasure (term_at ts i) (get_or ms n d)
measured_at ts ms i n d h e l =
    h.each i (get_or ms n d) (ap (slice_get ms) (sym e) ∙ slice_get-get_or ms n d (omega (arith, e, l)))

-- without pieces
pub no_single : (ts : List Term) (ms : List Measure) (i n : ℕ) (d : Measure) → AreMeasures ts ms → n ≡ i
    → i < length ms → (get_or ms n d).has_pieces ≡ false → false ≡ is_single (term_at ts i)
no_single ts ms i n d h e l none =
    let t = term_at ts i in
    sym (singles t
    ∙ ap (λ b. b && has_each_once t) (sym (measured_at ts ms i n d h e l).pieces ∙ none))

pub once_single : (ts : List Term) (ms : List Measure) (i n : ℕ) (d : Measure) (once : Bool) → AreMeasures ts ms
    → n ≡ i → i < length ms → (get_or ms n d).has_pieces ≡ true → once ≡ has_each_once (term_at ts i)
    → once ≡ is_single (term_at ts i)
once_single ts ms i n d once h e l some is =
    let t = term_at ts i in
    is
    ∙ sym (singles t
    ∙ ap (λ b. b && has_each_once t) (sym (measured_at ts ms i n d h e l).pieces ∙ some))

pub short_measured : (ts : List Term) (ms : List Measure) (i n : ℕ) (d : Measure) (short : Bool) → AreMeasures ts ms
    → n ≡ i → i < length ms → short ≡ is_short_word (get_or ms n d) → short ≡ is_short_text (term_at ts i)
short_measured ts ms i n d short h e l is =
    let measure = measured_at ts ms i n d h e l in
    is ∙ (ap₂ ◌&&◌ measure.text measure.pieces ∙ sym (ground_words (term_at ts i)))

abbrev made_side : Bool → Bool → Side
made_side s c = record { is_short = s; is_single = c }

pub side_measured : (ts : List Term) (ms : List Measure) (i n : ℕ) (d : Measure) (short single : Bool)
    → AreMeasures ts ms → n ≡ i → i < length ms → short ≡ is_short_word (get_or ms n d)
    → single ≡ is_single (term_at ts i) → made_side short single ≡ side_in (term_at ts i)
side_measured ts ms i n d short single h e l made is = ap₂ made_side (short_measured ts ms i n d short h e l made) is

-- A part and the whole of which it is said to be one.

within_whole : (n : ℕ) → nat_le (within_limit n) 1000 ≡ nat_le n 1000
within_whole n = grind (arith, nat_tests)

too_many : (n : ℕ) → 65535 < n → false ≡ nat_le n 1000
too_many n l = grind (arith, nat_tests, l)

some_word : (b : Bool) (w : List ℕ) → is_some (if b then Some w else None) ≡ b
some_word true w = refl
some_word false w = refl

abbrev few_of : Option (List ℕ) → Bool
few_of o = is_some (option_and_then (λ w. if nat_le (length w) 1000 then Some w else None) o)

whole_words : (t : Term) → is_some (whole_word t) ≡ (is_text t && nat_le (size_of t) 1000)
whole_words t = step (is_text t) refl
  where
    step : (b : Bool) → is_text t ≡ b → is_some (whole_word t) ≡ (b && nat_le (size_of t) 1000)
    step true h =
        by_size t (λ b. is_some (whole_word t) ≡ nat_le (size_of t) 1000)
        (λ few. ap few_of (short_ground_word t h few)
        ∙ (some_word (nat_le (length (letters_of t)) 1000) (letters_of t)
        ∙ ap (λ n. nat_le n 1000) (sym (text_size t h))))
        (λ many. ap few_of (long_ground_word t h many) ∙ too_many (size_of t) many)
    step false h = ap few_of (no_ground_word t h)

whole_measured : (ts : List Term) (ms : List Measure) (i n : ℕ) (d : Measure) (small : Bool) → AreMeasures ts ms
    → n ≡ i → i < length ms → small ≡ is_whole_word (get_or ms n d) → small ≡ is_some (whole_word (term_at ts i))
whole_measured ts ms i n d small h e l is =
    let measure = measured_at ts ms i n d h e l in
    is
    ∙ (ap₂ (λ b m. b && nat_le m 1000) measure.text measure.size
    ∙ (ap (λ b. is_text (term_at ts i) && b) (within_whole (size_of (term_at ts i)))
    ∙ sym (whole_words (term_at ts i))))

affix_by : (part whole : Term) → is_affix_pair part whole
    ≡ (if is_short_text part then is_single whole else (is_some (whole_word whole) && is_single part))
affix_by part whole =
    by_option (ground_word part) (is_single whole) (is_some (whole_word whole) && is_single part)

-- by whether the part is a word within the limit, and else whether the whole is one of 1,000 characters at most
short_part : (part whole : Term) (short fit : Bool) → short ≡ is_short_text part → short ≡ true
    → fit ≡ is_single whole → fit ≡ is_affix_pair part whole
short_part part whole short fit s yes_short f =
    f
    ∙ sym (affix_by part whole
    ∙ ap (λ (b : Bool). if b then is_single whole else (is_some (whole_word whole) && is_single part))
    (sym s ∙ yes_short))

long_part : (part whole : Term) (short small fit : Bool) → short ≡ is_short_text part → short ≡ false
    → small ≡ is_some (whole_word whole) → fit ≡ (small && is_single part) → fit ≡ is_affix_pair part whole
long_part part whole short small fit s not_short w f =
    f
    ∙ (ap (λ b. b && is_single part) w
    ∙ sym (affix_by part whole
    ∙ ap (λ (b : Bool). if b then is_single whole else (is_some (whole_word whole) && is_single part))
    (sym s ∙ not_short)))

pub affix_short : {E : Type 0} (ts : List Term) (ms : List Measure) (part whole n : ℕ) (d : Measure) (short : Bool)
    (found : Result Bool E) → AreMeasures ts ms → n ≡ part → part < length ms → short ≡ is_short_word (get_or ms n d)
    → short ≡ true → IfOk found (λ fit. fit ≡ is_single (term_at ts whole))
    → IfOk found (λ fit. fit ≡ is_affix_pair (term_at ts part) (term_at ts whole))
affix_short ts ms part whole n d short found h e l s is_short f =
    ok_more (λ fit. fit ≡ is_single (term_at ts whole))
    (λ fit. fit ≡ is_affix_pair (term_at ts part) (term_at ts whole)) found
    (λ fit k. short_part (term_at ts part) (term_at ts whole) short fit (short_measured ts ms part n d short h e l s)
    is_short k)
    f

-- the measures of both
pub record AreLong (ts : List Term) (part whole : ℕ) (small : Bool) : Type 0 where
  pub part_long : false ≡ is_short_text (term_at ts part)
  pub whole_small : small ≡ is_some (whole_word (term_at ts whole))

pub long_measured : (ts : List Term) (ms : List Measure) (part whole n m : ℕ) (d e : Measure) (short small : Bool)
    → AreMeasures ts ms → n ≡ part → part < length ms → m ≡ whole → whole < length ms
    → short ≡ is_short_word (get_or ms n d) → short ≡ false → small ≡ is_whole_word (get_or ms m e)
    → AreLong ts part whole small
long_measured ts ms part whole n m d e short small h at_part p at_whole w s not_short is = record {
  part_long = sym not_short ∙ short_measured ts ms part n d short h at_part p s;
  whole_small = whole_measured ts ms whole m e small h at_whole w is;
}

pub affix_whole : {E : Type 0} (ts : List Term) (part whole : ℕ) (small : Bool) (found : Result Bool E)
    → AreLong ts part whole small → small ≡ true → IfOk found (λ fit. fit ≡ is_single (term_at ts part))
    → IfOk found (λ fit. fit ≡ is_affix_pair (term_at ts part) (term_at ts whole))
affix_whole ts part whole small found long is_small f =
    ok_more (λ fit. fit ≡ is_single (term_at ts part))
    (λ fit. fit ≡ is_affix_pair (term_at ts part) (term_at ts whole)) found
    (λ fit k. long_part (term_at ts part) (term_at ts whole) false small fit long.part_long refl long.whole_small
    (k ∙ ap (λ b. b && is_single (term_at ts part)) (sym is_small)))
    f

pub affix_none : (ts : List Term) (part whole : ℕ) (small : Bool) → AreLong ts part whole small → small ≡ false
    → false ≡ is_affix_pair (term_at ts part) (term_at ts whole)
affix_none ts part whole small long not_small =
    long_part (term_at ts part) (term_at ts whole) false small false long.part_long refl long.whole_small
    (ap (λ b. b && is_single (term_at ts part)) (sym not_small))
