-- Digits: what is written of a number is read as the number, and no separator stands in it.
use Rattle.std.proofs.Common.{◌≡◌, ℕ, zero, suc, ◌+◌, ◌-◌, ◌*◌, ◌/◌, ◌%◌, ◌^◌, ◌≤◌, ◌<◌, ◌⊎◌, Bool, true, false, cond, not, ◌==◌, ltb, nat_eq, nat_lt, nat_le, List, [], ◌∷◌, ◌++◌, Option, Some, None, option_and_then, decimal, refl, sym, ap, ◌∙◌, arith}
use Rattle.std.specs.List.{list_all, join_with_byte, onto_first}
use Rattle.std.specs.Fmt.{digits, digits_onto, digit_glyph}
use Rattle.std.proofs.lemmas.Bool.{and_parts, and_from, eqb-true, le-leb, lt-ltb, false≢true}
use Rattle.std.proofs.lemmas.Bool.Decides.{nat_tests}
use Rattle.std.proofs.Math.Nat.{pow-suc, pow-zero}
use Rattle.sb_word.specs.Literals.{hex_number_from}
use Rattle.sb_word.proofs.CallerLemmas.{hex_number-glyph}
use Rattle.sb_rulebook.specs.Lines.{Field, hexadecimal}
use Rattle.sb_rulebook.proofs.ListFacts.{all-cons}
use Rattle.sb_rulebook.specs.Reading.{is_text, split_at, decimal_from, if_spelled, number, hexadecimal_number}

-- how digits of a base are read, each behind what came before it
record ReadsDigits (base : ℕ) (read : ℕ → Field → Option ℕ) : Type 0 where
  goes_on : (n d m : ℕ) (bs : Field) → d < base → base * n + d ≡ m → read n (digit_glyph false d ∷ bs) ≡ read m bs
  whole : (n : ℕ) → base * (n / base) + n % base ≡ n
  small : (n : ℕ) → n % base < base
  fewer : (k n : ℕ) → n < base ^ suc k → n / base < base ^ k

-- the digits of a number of at most k digits are read as the number, and what stands behind them goes on
digits_read : (base : ℕ) (read : ℕ → Field → Option ℕ) → ReadsDigits base read → (k n : ℕ) (bs : Field) → n < base ^ k
    → read 0 (digits_onto k base false n bs) ≡ read n bs
digits_read base read law zero n bs h = let e : 0 ≡ n = omega (arith, pow-zero base, h) in ap (λ m. read m bs) e
digits_read base read law (suc k) n bs h =
    step (digits_read base read law k (n / base) (digit_glyph false (n % base) ∷ bs) (law.fewer k n h)) (n / base == 0)
    refl
  where
    step : read 0 (digits_onto k base false (n / base) (digit_glyph false (n % base) ∷ bs))
        ≡ read (n / base) (digit_glyph false (n % base) ∷ bs) →
        (t : Bool) → (n / base == 0) ≡ t
        → read 0 (cond t (digit_glyph false (n % base) ∷ bs)
        (digits_onto k base false (n / base) (digit_glyph false (n % base) ∷ bs))) ≡ read n bs
    step rest true is = law.goes_on 0 (n % base) n bs (law.small n)
        (ap (λ q. base * q + n % base) (sym (eqb-true (n / base) 0 is)) ∙ law.whole n)
    step rest false is = rest ∙ law.goes_on (n / base) (n % base) n bs (law.small n) (law.whole n)

glyph-decimal : (d : ℕ) → d < 10 → digit_glyph false d ≡ 48 + d
glyph-decimal d h = ap (λ t. cond t (48 + d) (87 + d)) (lt-ltb d 10 h)

decimal_goes_on : (n d m : ℕ) (bs : Field) → d < 10 → 10 * n + d ≡ m
    → decimal_from n (digit_glyph false d ∷ bs) ≡ decimal_from m bs
decimal_goes_on n d m bs h e =
    ap (λ b. decimal_from n (b ∷ bs)) (glyph-decimal d h)
    ∙ ap (λ t. cond t (decimal_from (10 * n + (48 + d - 48)) bs) None)
    (and_from (nat_le 48 (48 + d)) (nat_le (48 + d) 57) (le-leb 48 (48 + d) (omega arith))
    (le-leb (48 + d) 57 (omega (arith, h))))
    ∙ ap (λ v. decimal_from v bs) (omega (arith, e))

decimal_digits : ReadsDigits 10 decimal_from
decimal_digits = record {
  goes_on = decimal_goes_on;
  whole = λ n. omega arith;
  small = λ n. omega arith;
  fewer = λ k n h. omega (arith, pow-suc 10 k, h);
}

hexadecimal_digits : ReadsDigits 16 hex_number_from
hexadecimal_digits = record {
  goes_on = hex_number-glyph;
  whole = λ n. omega arith;
  small = λ n. omega arith;
  fewer = λ k n h. omega (arith, pow-suc 16 k, h);
}

pub text-same : (f : Field) → is_text f f ≡ true
text-same [] = refl
text-same (b ∷ bs) = and_from (nat_eq b b) (is_text bs bs) (grind (arith, nat_tests)) (text-same bs)

spelled-itself : (spell : ℕ → Field) (n : ℕ) → nat_lt n (2 ^ 64) ≡ true → if_spelled spell (spell n) n ≡ Some n
spelled-itself spell n small =
    ap (λ t. cond t (Some n) None)
    (and_from (nat_lt n (2 ^ 64)) (is_text (spell n) (spell n)) small (text-same (spell n)))

below : (n : ℕ) → nat_lt n (2 ^ 64) ≡ true → n < 2 ^ 64
below n h = grind (arith, nat_tests)

pub number-read : (n : ℕ) → nat_lt n (2 ^ 64) ≡ true → number (decimal n) ≡ Some n
unfolding digits
number-read n small =
    let less : n < 2 ^ 64 = below n small in
    ap (option_and_then (if_spelled decimal (decimal n)))
    (digits_read 10 decimal_from decimal_digits 64 n [] (omega (arith, less)))
    ∙ spelled-itself decimal n small

pub hexadecimal-read : (n : ℕ) → nat_lt n (2 ^ 64) ≡ true → hexadecimal_number (hexadecimal n) ≡ Some n
unfolding digits hex_number_from
hexadecimal-read n small =
    let less : n < 2 ^ 64 = below n small in
    ap (option_and_then (if_spelled hexadecimal (hexadecimal n)))
    (digits_read 16 hex_number_from hexadecimal_digits 64 n [] (omega (arith, less)))
    ∙ spelled-itself hexadecimal n small

-- Separators.

-- another byte
abbrev pub is_other : ℕ → ℕ → Bool
is_other c b = not (b == c)

-- the byte is not in the field
abbrev pub is_free : ℕ → Field → Bool
is_free c f = list_all (is_other c) f

-- the byte is behind the space, so neither that nor a line feed
abbrev pub is_visible : ℕ → Bool
is_visible b = nat_lt 32 b

abbrev pub are_visible : Field → Bool
are_visible f = list_all is_visible f

pub visible-free : (c : ℕ) (f : Field) → c ≤ 32 → are_visible f ≡ true → is_free c f ≡ true
visible-free c [] low seen = refl
visible-free c (b ∷ bs) low seen =
    let parts = and_parts (is_visible b) (are_visible bs) seen in
    let above : nat_lt 32 b ≡ true = parts.0 in
    and_from (is_other c b) (is_free c bs) (grind (arith, nat_tests)) (visible-free c bs low parts.1)

all-digits : (test : ℕ → Bool) (base k n : ℕ) (bs : Field) → ((m : ℕ) → test (digit_glyph false (m % base)) ≡ true)
    → list_all test bs ≡ true → list_all test (digits_onto k base false n bs) ≡ true
all-digits test base zero n bs each rest = rest
all-digits test base (suc k) n bs each rest =
    step (all-digits test base k (n / base) (digit_glyph false (n % base) ∷ bs) each more) (n / base == 0)
  where
    more : list_all test (digit_glyph false (n % base) ∷ bs) ≡ true
    more = all-cons test (digit_glyph false (n % base)) bs (each n) rest

    step : list_all test (digits_onto k base false (n / base) (digit_glyph false (n % base) ∷ bs)) ≡ true → (t : Bool)
        → list_all test (cond t (digit_glyph false (n % base) ∷ bs)
        (digits_onto k base false (n / base) (digit_glyph false (n % base) ∷ bs))) ≡ true
    step others true = more
    step others false = others

apart : (b c : ℕ) → (b < c) ⊎ (c < b) → not (b == c) ≡ true
apart b c h = grind (arith, nat_tests)

decimal-apart : (c d : ℕ) → (c < 48) ⊎ (57 < c) → d < 10 → not (digit_glyph false d == c) ≡ true
decimal-apart c d outside h = ap (λ b. not (b == c)) (glyph-decimal d h) ∙ grind (arith, nat_tests)

pub decimal-free : (c n : ℕ) → (c < 48) ⊎ (57 < c) → is_free c (decimal n) ≡ true
unfolding digits
decimal-free c n outside = all-digits (is_other c) 10 64 n [] (λ m. decimal-apart c (m % 10) outside (omega arith)) refl

hexadecimal-apart : (c d : ℕ) → (c < 48) ⊎ ((57 < c) × (c < 97)) → d < 16 → not (digit_glyph false d == c) ≡ true
hexadecimal-apart c d outside h = by (ltb d 10) refl
  where
    by : (t : Bool) → ltb d 10 ≡ t → not (cond t (48 + d) (87 + d) == c) ≡ true
    by true e = grind (arith, nat_tests)
    by false e = grind (arith, nat_tests)

pub hexadecimal-free : (c n : ℕ) → (c < 48) ⊎ ((57 < c) × (c < 97)) → is_free c (hexadecimal n) ≡ true
unfolding digits
hexadecimal-free c n outside =
    all-digits (is_other c) 16 64 n [] (λ m. hexadecimal-apart c (m % 16) outside (omega arith)) refl

digit-visible : (d : ℕ) → d < 16 → is_visible (digit_glyph false d) ≡ true
digit-visible d h = by (ltb d 10)
  where
    by : (t : Bool) → is_visible (cond t (48 + d) (87 + d)) ≡ true
    by true = grind (arith, nat_tests)
    by false = grind (arith, nat_tests)

pub decimal-visible : (n : ℕ) → are_visible (decimal n) ≡ true
unfolding digits
decimal-visible n = all-digits is_visible 10 64 n [] (λ m. digit-visible (m % 10) (omega arith)) refl

pub hexadecimal-visible : (n : ℕ) → are_visible (hexadecimal n) ≡ true
unfolding digits
hexadecimal-visible n = all-digits is_visible 16 64 n [] (λ m. digit-visible (m % 16) (omega arith)) refl

-- Fields that are joined are split where they were joined.

split-free : (c : ℕ) (f : Field) → is_free c f ≡ true → split_at c f ≡ f ∷ []
split-free c [] free = refl
split-free c (b ∷ bs) free = step (b == c) (and_parts (not (b == c)) (is_free c bs) free) (λ rest. split-free c bs rest)
  where
    step : (t : Bool) → (not t ≡ true) × (is_free c bs ≡ true) → (is_free c bs ≡ true → split_at c bs ≡ bs ∷ [])
        → cond t ([] ∷ split_at c bs) (onto_first b (split_at c bs)) ≡ (b ∷ bs) ∷ []
    step true both rest = absurd (false≢true both.0)
    step false both rest = ap (onto_first b) (rest both.1)

pub split-front : (c : ℕ) (f g : Field) → is_free c f ≡ true → split_at c (f ++ c ∷ g) ≡ f ∷ split_at c g
split-front c [] g free = step (c == c) (grind (arith, nat_tests))
  where
    step : (t : Bool) → t ≡ true → cond t ([] ∷ split_at c g) (onto_first c (split_at c g)) ≡ [] ∷ split_at c g
    step true is = refl
    step false is = absurd (false≢true is)
split-front c (b ∷ bs) g free =
    step (b == c) (and_parts (not (b == c)) (is_free c bs) free) (λ rest. split-front c bs g rest)
  where
    step : (t : Bool) → (not t ≡ true) × (is_free c bs ≡ true)
        → (is_free c bs ≡ true → split_at c (bs ++ c ∷ g) ≡ bs ∷ split_at c g) →
        cond t ([] ∷ split_at c (bs ++ c ∷ g)) (onto_first b (split_at c (bs ++ c ∷ g))) ≡ (b ∷ bs) ∷ split_at c g
    step true both rest = absurd (false≢true both.0)
    step false both rest = ap (onto_first b) (rest both.1)

pub split-joined : (c : ℕ) (f : Field) (fs : List Field) → list_all (is_free c) (f ∷ fs) ≡ true
    → split_at c (join_with_byte c (f ∷ fs)) ≡ f ∷ fs
split-joined c f [] free = split-free c f (and_parts (is_free c f) true free).0
split-joined c f (g ∷ gs) free =
    let parts = and_parts (is_free c f) (list_all (is_free c) (g ∷ gs)) free in
    split-front c f (join_with_byte c (g ∷ gs)) parts.0 ∙ ap (λ us. f ∷ us) (split-joined c g gs parts.1)
