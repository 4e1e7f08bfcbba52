-- The last hexadecimal digit of a number, and those before it.
use Rattle.std.proofs.Common.{◌≡◌, ℕ, zero, suc, ◌/◌, ◌%◌, ◌^◌, ◌<◌, Bool, true, false, cond, ◌&&◌, ◌==◌, [], ◌∷◌, ◌++◌, length, refl, sym, ap, ◌∙◌, arith}
use Rattle.std.specs.Fmt.{digits, digits_onto, digit_glyph}
use Rattle.std.proofs.Math.Nat.{pow-suc, pow-zero}
use Rattle.std.proofs.lemmas.Bool.Decides.{nat_tests}
use Rattle.std.proofs.lemmas.List.{append_assoc}
use Rattle.sb_rulebook.specs.Lines.{Field, hexadecimal}
use Rattle.sb_rulebook.specs.Reading.{is_text}

abbrev pub last_digit : ℕ → ℕ
last_digit n = digit_glyph false (n % 16)

abbrev onto : ℕ → ℕ → Field → Field
onto k n bs = digits_onto k 16 false n bs

-- what stands behind the digits
onto-behind : (k n : ℕ) (bs cs : Field) → onto k n (bs ++ cs) ≡ onto k n bs ++ cs
onto-behind zero n bs cs = refl
onto-behind (suc k) n bs cs = by (n / 16 == 0) (onto-behind k (n / 16) (last_digit n ∷ bs) cs)
  where
    by : (t : Bool) → onto k (n / 16) (last_digit n ∷ bs ++ cs) ≡ onto k (n / 16) (last_digit n ∷ bs) ++ cs
        → cond t (last_digit n ∷ bs ++ cs) (onto k (n / 16) (last_digit n ∷ bs ++ cs))
        ≡ cond t (last_digit n ∷ bs) (onto k (n / 16) (last_digit n ∷ bs)) ++ cs
    by true rest = refl
    by false rest = rest

-- one digit more than there are makes no difference
onto-more : (k n : ℕ) (bs : Field) → n < 16 ^ suc k → onto (suc (suc k)) n bs ≡ onto (suc k) n bs
onto-more zero n bs h = ap (λ t. cond t (last_digit n ∷ bs) (onto 1 (n / 16) (last_digit n ∷ bs))) none
    ∙ sym (ap (λ t. cond t (last_digit n ∷ bs) (onto 0 (n / 16) (last_digit n ∷ bs))) none)
  where
    none : (n / 16 == 0) ≡ true
    none = let small : n / 16 ≡ 0 = omega (arith, pow-suc 16 0, pow-zero 16, h) in ap (λ m. m == 0) small
onto-more (suc k) n bs h =
    by (n / 16 == 0) (onto-more k (n / 16) (last_digit n ∷ bs) (omega (arith, pow-suc 16 (suc k), h)))
  where
    by : (t : Bool) → onto (suc (suc k)) (n / 16) (last_digit n ∷ bs) ≡ onto (suc k) (n / 16) (last_digit n ∷ bs)
        → cond t (last_digit n ∷ bs) (onto (suc (suc k)) (n / 16) (last_digit n ∷ bs))
        ≡ cond t (last_digit n ∷ bs) (onto (suc k) (n / 16) (last_digit n ∷ bs))
    by true rest = refl
    by false rest = rest

onto-last : (k n : ℕ) → n < 16 ^ suc k
    → onto (suc (suc k)) n [] ≡ cond (n / 16 == 0) [] (onto (suc (suc k)) (n / 16) []) ++ last_digit n ∷ []
onto-last k n h = by (n / 16 == 0)
  where
    others : onto (suc k) (n / 16) (last_digit n ∷ []) ≡ onto (suc (suc k)) (n / 16) [] ++ last_digit n ∷ []
    others =
        onto-behind (suc k) (n / 16) [] (last_digit n ∷ [])
        ∙ ap (λ fs. fs ++ last_digit n ∷ []) (sym (onto-more k (n / 16) [] (omega (arith, h))))

    by : (t : Bool) → cond t (last_digit n ∷ []) (onto (suc k) (n / 16) (last_digit n ∷ []))
        ≡ cond t [] (onto (suc (suc k)) (n / 16) []) ++ last_digit n ∷ []
    by true = refl
    by false = others

hexadecimal-last : (n : ℕ) → n < 2 ^ 64
    → hexadecimal n ≡ cond (n / 16 == 0) [] (hexadecimal (n / 16)) ++ last_digit n ∷ []
unfolding digits
hexadecimal-last n h = onto-last 62 n (omega (arith, h))

differ : (m n : ℕ) → (m ≡ n → ⊥) → (m == n) ≡ false
differ m n h = grind (arith, nat_tests)

pub one-digit : (n : ℕ) → n < 16 → hexadecimal n ≡ last_digit n ∷ []
one-digit n h =
    hexadecimal-last n (omega (arith, h)) ∙ ap (λ t. cond t [] (hexadecimal (n / 16)) ++ last_digit n ∷ []) none
  where
    none : (n / 16 == 0) ≡ true
    none = let small : n / 16 ≡ 0 = omega (arith, h) in ap (λ m. m == 0) small

pub two-digits : (n : ℕ) → n < 256 → (n < 16 → ⊥)
    → hexadecimal n ≡ digit_glyph false (n / 16 % 16) ∷ last_digit n ∷ []
two-digits n h more =
    hexadecimal-last n (omega (arith, h))
    ∙ ap (λ t. cond t [] (hexadecimal (n / 16)) ++ last_digit n ∷ []) some
    ∙ ap (λ ds. ds ++ last_digit n ∷ []) (one-digit (n / 16) (omega (arith, h)))
  where
    some : (n / 16 == 0) ≡ false
    some = differ (n / 16) 0 (λ e. more (omega (arith, e)))

-- digits put behind a text
pub one-put : (n : ℕ) (old new digit : Field) → n < 16 → digit ≡ last_digit n ∷ [] → new ≡ old ++ digit
    → new ≡ old ++ hexadecimal n
one-put n old new digit h is put = put ∙ ap (λ ds. old ++ ds) (is ∙ sym (one-digit n h))

pub two-put : (n : ℕ) (old middle new first last : Field) → n < 256 → (n < 16 → ⊥)
    → first ≡ digit_glyph false (n / 16 % 16) ∷ [] → last ≡ last_digit n ∷ [] → middle ≡ old ++ first
    → new ≡ middle ++ last → new ≡ old ++ hexadecimal n
two-put n old middle new first last h more is ends put later =
    later ∙ ap (λ t. t ++ last) put ∙ append_assoc old first last
    ∙ ap (λ ds. old ++ ds) (ap (λ ds. ds ++ last) is ∙ ap (λ ds. digit_glyph false (n / 16 % 16) ∷ ds) ends
    ∙ sym (two-digits n h more))

-- Two texts by their last bytes.

text-both : (xs ys : Field) (a b : ℕ) → is_text (xs ++ a ∷ []) (ys ++ b ∷ []) ≡ is_text xs ys && (a == b)
text-both [] [] a b = by (a == b)
  where
    by : (t : Bool) → t && true ≡ t
    by true = refl
    by false = refl
text-both [] (y ∷ []) a b = by (a == y)
  where
    by : (t : Bool) → t && false ≡ false
    by true = refl
    by false = refl
text-both [] (y ∷ z ∷ ys) a b = by (a == y)
  where
    by : (t : Bool) → t && false ≡ false
    by true = refl
    by false = refl
text-both (x ∷ []) [] a b = by (x == b)
  where
    by : (t : Bool) → t && false ≡ false
    by true = refl
    by false = refl
text-both (x ∷ z ∷ xs) [] a b = by (x == b)
  where
    by : (t : Bool) → t && false ≡ false
    by true = refl
    by false = refl
text-both (x ∷ xs) (y ∷ ys) a b = by (x == y) (text-both xs ys a b)
  where
    by : (t : Bool) → is_text (xs ++ a ∷ []) (ys ++ b ∷ []) ≡ is_text xs ys && (a == b)
        → t && is_text (xs ++ a ∷ []) (ys ++ b ∷ []) ≡ (t && is_text xs ys) && (a == b)
    by true rest = rest
    by false rest = refl

-- no digits are no text of a number
hexadecimal-some : (n : ℕ) → n < 2 ^ 64 → is_text (hexadecimal n) [] ≡ false
hexadecimal-some n h = ap (λ fs. is_text fs []) (hexadecimal-last n h) ∙ by (cond (n / 16 == 0) [] (hexadecimal (n / 16)))
  where
    by : (fs : Field) → is_text (fs ++ last_digit n ∷ []) [] ≡ false
    by [] = refl
    by (f ∷ fs) = refl

-- the text by its last byte
by_last : (n : ℕ) (ys : Field) (b : ℕ) → n < 2 ^ 64
    → is_text (hexadecimal n) (ys ++ b ∷ [])
    ≡ is_text (cond (n / 16 == 0) [] (hexadecimal (n / 16))) ys && (last_digit n == b)
by_last n ys b h =
    ap (λ fs. is_text fs (ys ++ b ∷ [])) (hexadecimal-last n h)
    ∙ text-both (cond (n / 16 == 0) [] (hexadecimal (n / 16))) ys (last_digit n) b

and-false : (t u : Bool) → u ≡ false → t && u ≡ false
and-false true u e = e
and-false false u e = refl

and-true : (t u : Bool) → u ≡ true → t && u ≡ t
and-true true u e = e
and-true false u e = refl

by_last_of : (n g b : ℕ) (field front : Field) → n < 2 ^ 64 → field ≡ front ++ b ∷ [] → g ≡ last_digit n
    → is_text (hexadecimal n) field ≡ is_text (cond (n / 16 == 0) [] (hexadecimal (n / 16))) front && (g == b)
by_last_of n g b field front h e is =
    ap (is_text (hexadecimal n)) e ∙ by_last n front b h
    ∙ ap (λ d. is_text (cond (n / 16 == 0) [] (hexadecimal (n / 16))) front && (d == b)) (sym is)

agree : (m n : ℕ) → m ≡ n → (m == n) ≡ true
agree m n h = grind (arith, nat_tests)

pub other_last : (n g b : ℕ) (field front : Field) → n < 2 ^ 64 → field ≡ front ++ b ∷ [] → g ≡ last_digit n
    → (g ≡ b → ⊥) → is_text (hexadecimal n) field ≡ false
other_last n g b field front h e is other =
    by_last_of n g b field front h e is
    ∙ and-false (is_text (cond (n / 16 == 0) [] (hexadecimal (n / 16))) front) (g == b) (differ g b other)

same_last : (n g b : ℕ) (field front : Field) → n < 2 ^ 64 → field ≡ front ++ b ∷ [] → g ≡ last_digit n → g ≡ b
    → is_text (hexadecimal n) field ≡ is_text (cond (n / 16 == 0) [] (hexadecimal (n / 16))) front
same_last n g b field front h e is same =
    by_last_of n g b field front h e is
    ∙ and-true (is_text (cond (n / 16 == 0) [] (hexadecimal (n / 16))) front) (g == b) (agree g b same)

pub more_before : (n g b : ℕ) (field front : Field) → n < 2 ^ 64 → field ≡ front ++ b ∷ [] → g ≡ last_digit n → g ≡ b
    → (n / 16 ≡ 0 → ⊥) → is_text (hexadecimal n) field ≡ is_text (hexadecimal (n / 16)) front
more_before n g b field front h e is same more =
    same_last n g b field front h e is same
    ∙ ap (λ t. is_text (cond t [] (hexadecimal (n / 16))) front) (differ (n / 16) 0 more)

pub none_before : (n g b : ℕ) (field front : Field) → n < 2 ^ 64 → field ≡ front ++ b ∷ [] → g ≡ last_digit n → g ≡ b
    → n / 16 ≡ 0 → is_text (hexadecimal n) field ≡ (length front == 0)
none_before n g b field front h e is same none =
    same_last n g b field front h e is same
    ∙ ap (λ t. is_text (cond t [] (hexadecimal (n / 16))) front) (agree (n / 16) 0 none) ∙ empty_text front
  where
    empty_text : (fs : Field) → is_text [] fs ≡ (length fs == 0)
    empty_text [] = refl
    empty_text (f ∷ fs) = differ-suc (length fs)
      where
        differ-suc : (m : ℕ) → false ≡ (suc m == 0)
        differ-suc m = grind (arith, nat_tests)

pub none_left : (n : ℕ) (field : Field) → n < 2 ^ 64 → length field ≡ 0 → is_text (hexadecimal n) field ≡ false
none_left n [] h empty = hexadecimal-some n h
none_left n (b ∷ bs) h empty = absurd (omega arith)
