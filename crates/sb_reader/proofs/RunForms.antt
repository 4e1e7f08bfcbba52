-- A run is of one kind at most.
use Rattle.std.proofs.Common.{◌≡◌, ℕ, Bool, true, false, ◌&&◌, ◌||◌, ◌==◌, cond, eqb, List, [], ◌∷◌, sym, refl, ap, ◌∙◌, ⊎_elim}
use Rattle.std.proofs.lemmas.Bool.{and_parts, or_cases, false≢true, not-true, eqb-true, false_from_ne_true}
use Rattle.sb_reader.specs.Tokens.{all_pass, some_pass, begins_with, is_digit, is_symbol_byte, is_numeral, before_point, behind_point, is_decimal, is_hexadecimal_or_binary, is_simple_symbol, is_keyword}
use Rattle.sb_reader.specs.Forms.{Form, Symbol, Keyword, Numeral, OtherNumber}

-- the first byte
abbrev Begins : (ℕ → Bool) → List ℕ → Type 0
Begins p xs = begins_with p xs ≡ true

numeral_begins : (xs : List ℕ) → is_numeral xs ≡ true → Begins is_digit xs
numeral_begins [] h = h
numeral_begins (b ∷ []) h = h
numeral_begins (b ∷ c ∷ bs) h = (and_parts _ _ (and_parts _ _ h).0).0

point_begins : (point : Bool) (b : ℕ) (bs before : List ℕ) → is_numeral (cond point [] (b ∷ before)) ≡ true
    → Begins is_digit (b ∷ bs)
point_begins true b bs before h = absurd (false≢true h)
point_begins false b bs before h = numeral_begins (b ∷ before) h

decimal_begins : (xs : List ℕ) → is_decimal xs ≡ true → Begins is_digit xs
decimal_begins [] h = h
decimal_begins (b ∷ bs) h = point_begins (eqb b 46) b bs (before_point bs) (and_parts _ _ h).0

hex_begins : (xs : List ℕ) → is_hexadecimal_or_binary xs ≡ true → Begins (λ b. b == 35) xs
hex_begins [] h = h
hex_begins (b ∷ []) h = absurd (false≢true h)
hex_begins (b ∷ c ∷ bs) h = (and_parts _ _ h).0

keyword_begins : (xs : List ℕ) → is_keyword xs ≡ true → Begins (λ b. b == 58) xs
keyword_begins [] h = h
keyword_begins (b ∷ bs) h = (and_parts _ _ h).0

symbol_byte_begins : (xs : List ℕ) → some_pass is_symbol_byte xs ≡ true → Begins is_symbol_byte xs
symbol_byte_begins [] h = h
symbol_byte_begins (b ∷ bs) h = (and_parts _ _ h).0

-- two tests that a byte does not pass together
differ : (p q : ℕ → Bool) (xs : List ℕ) → ((b : ℕ) → p b ≡ true → q b ≡ true → ⊥) → Begins p xs → Begins q xs → ⊥
differ p q [] apart h k = false≢true h
differ p q (b ∷ bs) apart h k = apart b h k

digit_hash : (b : ℕ) → is_digit b ≡ true → (b == 35) ≡ true → ⊥
digit_hash b h k = false≢true (ap is_digit (sym (eqb-true b 35 k)) ∙ h)

digit_colon : (b : ℕ) → is_digit b ≡ true → (b == 58) ≡ true → ⊥
digit_colon b h k = false≢true (ap is_digit (sym (eqb-true b 58 k)) ∙ h)

symbol_hash : (b : ℕ) → is_symbol_byte b ≡ true → (b == 35) ≡ true → ⊥
symbol_hash b h k = false≢true (ap is_symbol_byte (sym (eqb-true b 35 k)) ∙ h)

symbol_colon : (b : ℕ) → is_symbol_byte b ≡ true → (b == 58) ≡ true → ⊥
symbol_colon b h k = false≢true (ap is_symbol_byte (sym (eqb-true b 58 k)) ∙ h)

hash_colon : (b : ℕ) → (b == 35) ≡ true → (b == 58) ≡ true → ⊥
hash_colon b h k = false≢true (ap (λ n. n == 58) (sym (eqb-true b 35 h)) ∙ k)

-- digits hold no point
no_point_at : (point : Bool) (b : ℕ) (bs behind : List ℕ) → eqb b 46 ≡ point → is_digit b ≡ true → behind ≡ []
    → cond point bs behind ≡ []
no_point_at true b bs behind e h none = absurd (false≢true (ap is_digit (sym (eqb-true b 46 e)) ∙ h))
no_point_at false b bs behind e h none = none

no_point : (xs : List ℕ) → all_pass is_digit xs ≡ true → behind_point xs ≡ []
no_point [] h = refl
no_point (b ∷ bs) h = let parts = and_parts _ _ h in
    no_point_at (eqb b 46) b bs (behind_point bs) refl parts.0 (no_point bs parts.1)

numeral_digits : (xs : List ℕ) → is_numeral xs ≡ true → all_pass is_digit xs ≡ true
numeral_digits [] h = refl
numeral_digits (b ∷ []) h = ap (λ t. t && true) h
numeral_digits (b ∷ c ∷ bs) h = let parts = and_parts _ _ h in
    ap (λ t. t && all_pass is_digit (c ∷ bs)) (and_parts _ _ parts.0).0 ∙ parts.1

numeral_decimal : (xs : List ℕ) → is_numeral xs ≡ true → is_decimal xs ≡ true → ⊥
numeral_decimal xs h k =
    false≢true (ap (some_pass is_digit) (sym (no_point xs (numeral_digits xs h))) ∙ (and_parts _ _ k).1)

-- the other number is a decimal, or begins with a hash
other_begins : (xs : List ℕ) (p : ℕ → Bool) → is_decimal xs || is_hexadecimal_or_binary xs ≡ true
    → ((b : ℕ) → is_digit b ≡ true → p b ≡ true → ⊥) → ((b : ℕ) → (b == 35) ≡ true → p b ≡ true → ⊥) → Begins p xs → ⊥
other_begins xs p h digit hash k =
    ⊎_elim (λ decimal. differ is_digit p xs digit (decimal_begins xs decimal) k)
    (λ hex. differ (λ b. b == 35) p xs hash (hex_begins xs hex) k) (or_cases _ _ h)

numeral_other : (xs : List ℕ) → is_numeral xs ≡ true → is_decimal xs || is_hexadecimal_or_binary xs ≡ true → ⊥
numeral_other xs h k =
    ⊎_elim (λ decimal. numeral_decimal xs h decimal)
    (λ hex. differ is_digit (λ b. b == 35) xs digit_hash (numeral_begins xs h) (hex_begins xs hex)) (or_cases _ _ k)

digit_symbol : (xs : List ℕ) → Begins is_digit xs → is_simple_symbol xs ≡ true → ⊥
digit_symbol xs h k = false≢true (sym (not-true _ (and_parts _ _ k).0) ∙ h)

other_symbol : (xs : List ℕ) → is_decimal xs || is_hexadecimal_or_binary xs ≡ true → is_simple_symbol xs ≡ true → ⊥
other_symbol xs h k =
    ⊎_elim (λ decimal. digit_symbol xs (decimal_begins xs decimal) k)
    (λ hex. differ is_symbol_byte (λ b. b == 35) xs symbol_hash (symbol_byte_begins xs (and_parts _ _ k).1)
    (hex_begins xs hex)) (or_cases _ _ h)

-- the form of a run, whichever it is
abbrev pub form_of_run : List ℕ → Form
form_of_run xs = cond (is_numeral xs) (Numeral xs)
    (cond (is_decimal xs || is_hexadecimal_or_binary xs) (OtherNumber xs)
    (cond (is_simple_symbol xs) (Symbol xs) (Keyword xs)))

pub numeral_form : (xs : List ℕ) → is_numeral xs ≡ true → Numeral xs ≡ form_of_run xs
numeral_form xs h = ap
    (λ t. cond t (Numeral xs)
    (cond (is_decimal xs || is_hexadecimal_or_binary xs) (OtherNumber xs)
    (cond (is_simple_symbol xs) (Symbol xs) (Keyword xs)))) (sym h)

not_numeral : (xs : List ℕ) → is_numeral xs ≡ false
    → form_of_run xs ≡ cond (is_decimal xs || is_hexadecimal_or_binary xs) (OtherNumber xs)
    (cond (is_simple_symbol xs) (Symbol xs) (Keyword xs))
not_numeral xs h = ap
    (λ t. cond t (Numeral xs)
    (cond (is_decimal xs || is_hexadecimal_or_binary xs) (OtherNumber xs)
    (cond (is_simple_symbol xs) (Symbol xs) (Keyword xs)))) h

pub other_form : (xs : List ℕ) → is_decimal xs || is_hexadecimal_or_binary xs ≡ true → OtherNumber xs ≡ form_of_run xs
other_form xs h =
    sym (not_numeral xs (false_from_ne_true _ (λ k. numeral_other xs k h))
    ∙ ap (λ t. cond t (OtherNumber xs) (cond (is_simple_symbol xs) (Symbol xs) (Keyword xs))) h)

not_other : (xs : List ℕ) → is_numeral xs ≡ false → is_decimal xs || is_hexadecimal_or_binary xs ≡ false
    → form_of_run xs ≡ cond (is_simple_symbol xs) (Symbol xs) (Keyword xs)
not_other xs h k = not_numeral xs h
    ∙ ap (λ t. cond t (OtherNumber xs) (cond (is_simple_symbol xs) (Symbol xs) (Keyword xs))) k

pub symbol_form : (xs : List ℕ) → is_simple_symbol xs ≡ true → Symbol xs ≡ form_of_run xs
symbol_form xs h =
    sym (not_other xs (false_from_ne_true _ (λ k. digit_symbol xs (numeral_begins xs k) h))
    (false_from_ne_true _ (λ k. other_symbol xs k h)) ∙ ap (λ t. cond t (Symbol xs) (Keyword xs)) h)

pub keyword_form : (xs : List ℕ) → is_keyword xs ≡ true → Keyword xs ≡ form_of_run xs
keyword_form xs h =
    let colon = keyword_begins xs h in
    sym
    (not_other xs
    (false_from_ne_true _ (λ k. differ is_digit (λ b. b == 58) xs digit_colon (numeral_begins xs k) colon))
    (false_from_ne_true _ (λ k. other_begins xs (λ b. b == 58) k digit_colon hash_colon colon))
    ∙ ap (λ t. cond t (Symbol xs) (Keyword xs))
    (false_from_ne_true _
    (λ k. differ is_symbol_byte (λ b. b == 58) xs symbol_colon (symbol_byte_begins xs (and_parts _ _ k).1) colon)))
