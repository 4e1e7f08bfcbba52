-- The text of a line is read as the line.
use Rattle.std.proofs.Common.{◌≡◌, ℕ, suc, ◌<◌, ℤ, pos, negsuc, Bool, true, false, cond, not, ◌&&◌, ◌==◌, List, [], ◌∷◌, ◌++◌, map, codes, decimal, Option, Some, is_some, option_map, option_and_then, refl, ap, ◌∙◌, arith, inl, inr}
use Rattle.std.specs.List.{list_all, join_with_byte, flat_map}
use Rattle.std.specs.Fmt.{digits, signed_decimal}
use Rattle.std.proofs.lemmas.Bool.{and_parts, not-true, false≢true}
use Rattle.sb_lit.specs.declared.clause.Lit.{Lit}
use Rattle.sb_word.specs.Literals.{hex_number_from}
use Rattle.sb_class.specs.Ranges.{Range}
use Rattle.sb_meaning.specs.Values.{Value, Text, Int, Truth}
use Rattle.sb_rulebook.specs.Lines.{Field, Class, hexadecimal, range_text, ranges_text, literal_text, piece_text, variable_text, summand_fields, class_text, value_text}
use Rattle.sb_rulebook.specs.Reading.{is_text, split_at, each, number, hexadecimal_number, negative, integer, literal, characters, piece, variable, value, both, range, ranges, class, summands, one, around_colon, before_last_colon, has_pairs}
use Rattle.sb_rulebook.specs.LineLaws.{is_small, are_small, is_small_integer, is_small_literal, is_small_piece, is_small_variable, is_small_summand, is_small_value, is_small_range, have_text, is_small_class}
use Rattle.sb_rulebook.proofs.ListFacts.{all-cons, all-append, all-map}
use Rattle.sb_rulebook.proofs.DigitFacts.{number-read, hexadecimal-read, is_other, is_free, decimal-free, hexadecimal-free, split-joined}
use Rattle.sb_script.specs.Pieces.{Piece, constant_piece, word_piece}
use Rattle.sb_script.specs.Sums.{Variable, int_constant, length_of, Summand}

-- Fields.

first-is-free : (c b : ℕ) (bs : Field) → is_free c (b ∷ bs) ≡ true → (b == c) ≡ false
first-is-free c b bs free = not-true (b == c) (and_parts (not (b == c)) (is_free c bs) free).0

integer-plain : (f : Field) → is_free 45 f ≡ true → integer f ≡ option_map pos (number f)
unfolding digits
integer-plain [] free = refl
integer-plain (b ∷ bs) free =
    ap (λ t. cond t (option_and_then negative (number bs)) (option_map pos (number (b ∷ bs))))
    (first-is-free 45 b bs free)

pub integer-read : (z : ℤ) → is_small_integer z ≡ true → integer (signed_decimal z) ≡ Some z
integer-read (pos n) small = integer-plain (decimal n) (decimal-free 45 n (inl (omega arith)))
    ∙ ap (option_map pos) (number-read n small)
integer-read (negsuc n) small = ap (option_and_then negative) (number-read (suc n) small)

pub literal-read : (l : Lit) → is_small_literal l ≡ true → literal (literal_text l) ≡ Some l
literal-read l small = step l.positive
  where
    step : (b : Bool) → literal (cond b 43 45 ∷ decimal l.atom) ≡ Some (record { atom = l.atom; positive = b })
    step true = ap (option_map (λ n. record { atom = n; positive = true })) (number-read l.atom small)
    step false = ap (option_map (λ n. record { atom = n; positive = false })) (number-read l.atom small)

pub variable-read : (x : Variable) → is_small_variable x ≡ true → variable (variable_text x) ≡ Some x
variable-read (int_constant serial) small = ap (option_map int_constant) (number-read serial small)
variable-read (length_of serial) small = ap (option_map length_of) (number-read serial small)

pub each-read : {A : Type 0} (shape : Field → Option A) (spell : A → Field) (fit : A → Bool)
    → ((x : A) → fit x ≡ true → shape (spell x) ≡ Some x) →
    (xs : List A) → list_all fit xs ≡ true → each shape (map spell xs) ≡ Some xs
each-read shape spell fit law [] all = refl
each-read shape spell fit law (x ∷ xs) all =
    let parts = and_parts (fit x) (list_all fit xs) all in
    ap (option_and_then (λ y. option_map (λ ys. y ∷ ys) (each shape (map spell xs)))) (law x parts.0)
    ∙ ap (option_map (λ ys. x ∷ ys)) (each-read shape spell fit law xs parts.1)

pub both-read : {A B : Type 0} (first : Field → Option A) (second : Field → Option B) (f g : Field) (x : A) (y : B)
    → first f ≡ Some x → second g ≡ Some y → both first second (f ∷ g ∷ []) ≡ Some (x, y)
both-read first second f g x y one other = ap (option_and_then (λ u. option_map (λ v. (u, v)) (second g))) one
    ∙ ap (option_map (λ v. (x, v))) other

-- Separators.

pub all-joined : (test : ℕ → Bool) (separator : ℕ) (fs : List Field) → test separator ≡ true
    → list_all (list_all test) fs ≡ true → list_all test (join_with_byte separator fs) ≡ true
all-joined test separator [] other all = refl
all-joined test separator (f ∷ []) other all = (and_parts (list_all test f) true all).0
all-joined test separator (f ∷ g ∷ fs) other all =
    let parts = and_parts (list_all test f) (list_all (list_all test) (g ∷ fs)) all in
    all-append test f (separator ∷ join_with_byte separator (g ∷ fs)) parts.0
    (all-cons test separator (join_with_byte separator (g ∷ fs)) other
    (all-joined test separator (g ∷ fs) other parts.1))

all-range : (test : ℕ → Bool) → ((n : ℕ) → list_all test (hexadecimal n) ≡ true) → test 45 ≡ true → (r : Range)
    → list_all test (range_text r) ≡ true
all-range test digits_pass minus_passes r =
    all-append test (hexadecimal r.0) (45 ∷ hexadecimal r.1) (digits_pass r.0)
    (all-cons test 45 (hexadecimal r.1) minus_passes (digits_pass r.1))

pub all-ranges : (test : ℕ → Bool) → ((n : ℕ) → list_all test (hexadecimal n) ≡ true) → test 45 ≡ true
    → test 44 ≡ true → (rs : List Range) → list_all test (ranges_text rs) ≡ true
all-ranges test digits_pass minus_passes comma_passes rs =
    all-joined test 44 (map range_text rs) comma_passes
    (all-map (list_all test) range_text (all-range test digits_pass minus_passes) rs)

range-read : (r : Range) → is_small_range r ≡ true → range (range_text r) ≡ Some r
range-read r small =
    let parts = and_parts (is_small r.0) (is_small r.1) small in
    ap (both hexadecimal_number hexadecimal_number)
    (split-joined 45 (hexadecimal r.0) (hexadecimal r.1 ∷ [])
    (all-cons (is_free 45) (hexadecimal r.0) (hexadecimal r.1 ∷ []) (hexadecimal-free 45 r.0 (inl (omega arith)))
    (all-cons (is_free 45) (hexadecimal r.1) [] (hexadecimal-free 45 r.1 (inl (omega arith))) refl)))
    ∙ both-read hexadecimal_number hexadecimal_number (hexadecimal r.0) (hexadecimal r.1) r.0 r.1
    (hexadecimal-read r.0 parts.0) (hexadecimal-read r.1 parts.1)

pub ranges-read : (rs : List Range) → have_text rs ≡ true → ranges (ranges_text rs) ≡ Some rs
ranges-read [] small = absurd (false≢true small)
ranges-read (r ∷ rs) small =
    ap (each range) (split-joined 44 (range_text r) (map range_text rs)
    (all-map (is_free 44) range_text
    (all-range (is_other 44) (λ n. hexadecimal-free 44 n (inl (omega arith))) refl) (r ∷ rs)))
    ∙ each-read range range_text is_small_range range-read (r ∷ rs) small

pub class-read : (k : Class) → is_small_class k ≡ true → class (class_text k) ≡ Some k
class-read k small =
    let parts = and_parts (have_text k.0) (is_small k.1) small in
    ap (both ranges number)
    (split-joined 62 (ranges_text k.0) (decimal k.1 ∷ [])
    (all-cons (is_free 62) (ranges_text k.0) (decimal k.1 ∷ [])
    (all-ranges (is_other 62) (λ n. hexadecimal-free 62 n (inr (omega arith, omega arith))) refl refl k.0)
    (all-cons (is_free 62) (decimal k.1) [] (decimal-free 62 k.1 (inr (omega arith))) refl)))
    ∙ both-read ranges number (ranges_text k.0) (decimal k.1) k.0 k.1 (ranges-read k.0 parts.0)
    (number-read k.1 parts.1)

-- Words.

filled : Field → Bool
filled [] = false
filled (b ∷ bs) = true

filled-append : (f g : Field) → filled f ≡ true → filled (f ++ g) ≡ true
unfolding filled
filled-append [] g h = absurd (false≢true h)
filled-append (b ∷ bs) g h = refl

filled-joined : (c : ℕ) (f : Field) (fs : List Field) → filled f ≡ true → filled (join_with_byte c (f ∷ fs)) ≡ true
filled-joined c f [] h = h
filled-joined c f (g ∷ gs) h = filled-append f (c ∷ join_with_byte c (g ∷ gs)) h

hexadecimal-filled : (n : ℕ) → is_small n ≡ true → filled (hexadecimal n) ≡ true
unfolding filled digits hex_number_from
hexadecimal-filled n small = step (hexadecimal n) (hexadecimal-read n small)
  where
    step : (f : Field) → hexadecimal_number f ≡ Some n → filled f ≡ true
    step [] h = absurd (false≢true (ap is_some h))
    step (b ∷ bs) h = refl

characters-filled : (f : Field) → filled f ≡ true → characters f ≡ each hexadecimal_number (split_at 46 f)
unfolding filled
characters-filled [] h = absurd (false≢true h)
characters-filled (b ∷ bs) h = refl

characters-read : (w : List ℕ) → are_small w ≡ true → characters (join_with_byte 46 (map hexadecimal w)) ≡ Some w
characters-read [] small = refl
characters-read (c ∷ w) small =
    characters-filled (join_with_byte 46 (map hexadecimal (c ∷ w)))
    (filled-joined 46 (hexadecimal c) (map hexadecimal w)
    (hexadecimal-filled c (and_parts (is_small c) (are_small w) small).0))
    ∙ ap (each hexadecimal_number)
    (split-joined 46 (hexadecimal c) (map hexadecimal w)
    (all-map (is_free 46) hexadecimal (λ n. hexadecimal-free 46 n (inl (omega arith))) (c ∷ w)))
    ∙ each-read hexadecimal_number hexadecimal is_small hexadecimal-read (c ∷ w) small

pub piece-read : (p : Piece) → is_small_piece p ≡ true → piece (piece_text p) ≡ Some p
piece-read (constant_piece serial) small = ap (option_map constant_piece) (number-read serial small)
piece-read (word_piece w) small = ap (option_map word_piece) (characters-read w small)

pub all-signed : (test : ℕ → Bool) → ((n : ℕ) → list_all test (decimal n) ≡ true) → test 45 ≡ true → (z : ℤ)
    → list_all test (signed_decimal z) ≡ true
all-signed test digits_pass minus_passes (pos n) = digits_pass n
all-signed test digits_pass minus_passes (negsuc n) =
    all-cons test 45 (decimal (suc n)) minus_passes (digits_pass (suc n))

signed-free : (c : ℕ) → 57 < c → is_other c 45 ≡ true → (z : ℤ) → is_free c (signed_decimal z) ≡ true
signed-free c outside other = all-signed (is_other c) (λ n. decimal-free c n (inr outside)) other

value-plain : (f : Field) → is_free 116 f ≡ true → is_free 102 f ≡ true → is_free 119 f ≡ true
    → value f ≡ option_map Int (integer f)
value-plain [] t f w = refl
value-plain (b ∷ bs) t f w =
    ap (λ s. cond (s && is_text bs []) (Some (Truth true))
    (cond (is_text (b ∷ bs) (codes "f")) (Some (Truth false))
    (cond (b == 119) (option_map Text (characters bs)) (option_map Int (integer (b ∷ bs))))))
    (first-is-free 116 b bs t)
    ∙ ap (λ s. cond (s && is_text bs []) (Some (Truth false))
    (cond (b == 119) (option_map Text (characters bs)) (option_map Int (integer (b ∷ bs)))))
    (first-is-free 102 b bs f)
    ∙ ap (λ s. cond s (option_map Text (characters bs)) (option_map Int (integer (b ∷ bs)))) (first-is-free 119 b bs w)

pub value-read : (x : Value) → is_small_value x ≡ true → value (value_text x) ≡ Some x
value-read (Text w) small = ap (option_map Text) (characters-read w small)
value-read (Int z) small =
    value-plain (signed_decimal z) (signed-free 116 (omega arith) refl z)
    (signed-free 102 (omega arith) refl z) (signed-free 119 (omega arith) refl z)
    ∙ ap (option_map Int) (integer-read z small)
value-read (Truth true) small = refl
value-read (Truth false) small = refl

-- Sums, and fields around a colon.

pub summands-read : (ss : List Summand) → list_all is_small_summand ss ≡ true
    → summands (flat_map summand_fields ss) ≡ Some ss
summands-read [] small = refl
summands-read (s ∷ ss) small =
    let parts = and_parts (is_small_summand s) (list_all is_small_summand ss) small in
    let own = and_parts (is_small_integer s.0) (is_small_variable s.1) parts.0 in
    ap (option_and_then (λ t. option_map (λ ts. t ∷ ts) (summands (flat_map summand_fields ss))))
    (both-read integer variable (signed_decimal s.0) (variable_text s.1) s.0 s.1 (integer-read s.0 own.0)
    (variable-read s.1 own.1))
    ∙ ap (option_map (λ ts. s ∷ ts)) (summands-read ss parts.1)

pub pairs-there : (s : Summand) (ss : List Summand) → has_pairs (flat_map summand_fields (s ∷ ss)) ≡ true
pairs-there s [] = refl
pairs-there s (t ∷ ss) = pairs-there t ss

pub last-colon : (us : List Field) (g : Field) → before_last_colon (us ++ codes ":" ∷ g ∷ []) ≡ Some (us, g)
last-colon [] g = refl
last-colon (u ∷ []) g = refl
last-colon (u ∷ v ∷ []) g = refl
last-colon (u ∷ v ∷ w ∷ us) g = ap (option_map (λ p. (u ∷ p.0, p.1))) (last-colon (v ∷ w ∷ us) g)

pub first-colon : (ls : List Lit) (gs : List Field)
    → around_colon (map literal_text ls ++ codes ":" ∷ gs) ≡ Some (map literal_text ls, gs)
first-colon [] gs = refl
first-colon (l ∷ ls) gs = step l.positive (first-colon ls gs)
  where
    step : (b : Bool) → around_colon (map literal_text ls ++ codes ":" ∷ gs) ≡ Some (map literal_text ls, gs) →
        around_colon ((cond b 43 45 ∷ decimal l.atom) ∷ (map literal_text ls ++ codes ":" ∷ gs))
        ≡ Some ((cond b 43 45 ∷ decimal l.atom) ∷ map literal_text ls, gs)
    step true rest = ap (option_map (λ p. ((43 ∷ decimal l.atom) ∷ p.0, p.1))) rest
    step false rest = ap (option_map (λ p. ((45 ∷ decimal l.atom) ∷ p.0, p.1))) rest
