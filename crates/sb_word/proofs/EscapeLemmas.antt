-- The escape that is found in front of bytes is one, and where bytes begin with an escape one is found.
use Rattle.std.proofs.Common.{◌≡◌, ℕ, ◌+◌, ◌≤◌, Bool, true, false, not, ◌&&◌, nat_eq, nat_le, if◌then◌else◌, List, [], ◌∷◌, ◌++◌, length, Option, Some, None, option_map, option_and_then, refl, sym, ap, ap₂, ◌∙◌, subst, inl, inr, arith}
use Rattle.std.specs.List.{list_all}
use Rattle.std.proofs.lemmas.Bool.{and_parts, and_from, eqb-true, false_from_ne_true}
use Rattle.std.proofs.lemmas.Bool.Decides.{nat_tests}
use Rattle.std.proofs.lemmas.List.{append_assoc, length-append}
use Rattle.std.proofs.lemmas.List.Folds.{list_all-append}
use Rattle.sb_word.specs.Literals.{hex_value, hex_number_from, is_printable, IsEscape, BeginsWithEscape}
use Rattle.sb_word.proofs.DigitLemmas.{AreHex, are_hex}
use Rattle.sb_word.specs.LiteralWords.{Spelled, before_brace, character_of, in_braces, of_four, escape_behind, escape_in_front}

-- Digits.

open_brace_is_no_digit : hex_value 123 ≡ None
unfolding hex_value
open_brace_is_no_digit = refl

close_brace_is_no_digit : hex_value 125 ≡ None
unfolding hex_value
close_brace_is_no_digit = refl

another : (b d : ℕ) → (hex_value b ≡ None → ⊥) → hex_value d ≡ None → nat_eq b d ≡ false
another b d digit none = false_from_ne_true (nat_eq b d) (λ h. digit (ap hex_value (eqb-true b d h) ∙ none))

-- a byte that is printable and no quote
abbrev pub is_plain : ℕ → Bool
is_plain b = not (nat_eq b 34) && is_printable b

none_other : (b : ℕ) → is_plain b ≡ false → hex_value b ≡ None
unfolding hex_value
none_other b h = grind (arith, nat_tests)

a_digit : (b : ℕ) → (hex_value b ≡ None → ⊥) → is_plain b ≡ true
a_digit b digit = step (is_plain b) refl
  where
    step : (t : Bool) → is_plain b ≡ t → is_plain b ≡ true
    step true h = h
    step false h = absurd (digit (none_other b h))

digits_are_plain : (ds : List ℕ) → AreHex ds → list_all is_plain ds ≡ true
digits_are_plain [] hex = refl
digits_are_plain (d ∷ ds) hex =
    and_from (is_plain d) (list_all is_plain ds) (a_digit d hex.0) (digits_are_plain ds hex.1)

pub escape_is_plain : (front : List ℕ) (c : ℕ) → IsEscape front c → list_all is_plain front ≡ true
escape_is_plain front c (inl p) =
    ap (list_all is_plain) p.spelled ∙ digits_are_plain p.digits (are_hex 0 c p.digits p.number)
escape_is_plain front c (inr p) =
    ap (list_all is_plain) p.spelled ∙ list_all-append is_plain p.digits (125 ∷ [])
    ∙ and_from (list_all is_plain p.digits) true (digits_are_plain p.digits (are_hex 0 c p.digits p.number)) refl

-- Digits in braces.

braced : (ds rest : List ℕ) → AreHex ds → before_brace (ds ++ 125 ∷ rest) ≡ Some ds
braced [] rest hex = refl
braced (d ∷ ds) rest hex =
    ap (λ b. if b then Some [] else option_map (λ front. d ∷ front) (before_brace (ds ++ 125 ∷ rest)))
    (another d 125 hex.0 close_brace_is_no_digit)
    ∙ ap (option_map (λ front. d ∷ front)) (braced ds rest hex.1)

-- the bytes are these, a closing brace, and a rest
record IsBraced (bytes ds : List ℕ) : Type 0 where
  rest : List ℕ
  split : bytes ≡ ds ++ 125 ∷ rest

is_braced : (bytes ds : List ℕ) → before_brace bytes ≡ Some ds → IsBraced bytes ds
is_braced [] ds h = absurd (Prim.cc (h))
is_braced (b ∷ bs) ds h = step (nat_eq b 125) refl (before_brace bs) refl h (is_braced bs)
  where
    step : (t : Bool) → nat_eq b 125 ≡ t → (o : Option (List ℕ)) → before_brace bs ≡ o
        → (if t then Some [] else option_map (λ front. b ∷ front) o) ≡ Some ds
        → ((front : List ℕ) → before_brace bs ≡ Some front → IsBraced bs front) → IsBraced (b ∷ bs) ds
    step true e o f h later =
        let none : [] ≡ ds = Prim.cc (h) in
        record { rest = bs; split = ap (λ d. d ∷ bs) (eqb-true b 125 e) ∙ ap (λ ds. ds ++ 125 ∷ bs) none }
    step false e None f h later = absurd (Prim.cc (h))
    step false e (Some front) f h later =
        let same : b ∷ front ≡ ds = Prim.cc (h) in
        let more = later front f in
        record {
          rest = more.rest;
          split = ap (λ bs. b ∷ bs) more.split ∙ ap (λ ds. ds ++ 125 ∷ more.rest) same;
        }

-- one to five digits of a character
record AreOf (ds : List ℕ) (c : ℕ) : Type 0 where
  some : 1 ≤ length ds
  few : length ds ≤ 5
  number : hex_number_from 0 ds ≡ Some c
  character : c ≤ 0x2ffff

abbrev if_character : ℕ → Option ℕ
if_character c = if nat_le c 0x2ffff then Some c else None

at_most : (a b : ℕ) → nat_le a b ≡ true → a ≤ b
at_most a b h = grind (arith, nat_tests)

is_at_most : (a b : ℕ) → a ≤ b → nat_le a b ≡ true
is_at_most a b h = grind (arith, nat_tests)

are_of : (ds : List ℕ) (c : ℕ) → character_of ds ≡ Some c → AreOf ds c
are_of ds c h =
    step (nat_le 1 (length ds) && nat_le (length ds) 5) refl (hex_number_from 0 ds) refl h
  where
    small : (d : ℕ) → nat_le 1 (length ds) ≡ true → nat_le (length ds) 5 ≡ true → hex_number_from 0 ds ≡ Some d
        → (t : Bool) → nat_le d 0x2ffff ≡ t → (if t then Some d else None) ≡ Some c → AreOf ds c
    small d some few number true e h =
        let same : d ≡ c = Prim.cc (h) in
        subst (λ (c : ℕ). AreOf ds c) same
        (record {
          some = at_most 1 (length ds) some;
          few = at_most (length ds) 5 few;
          number = number;
          character = at_most d 0x2ffff e;
        })
    small d some few number false e h = absurd (Prim.cc (h))

    step : (t : Bool) → (nat_le 1 (length ds) && nat_le (length ds) 5) ≡ t → (o : Option ℕ)
        → hex_number_from 0 ds ≡ o → (if t then option_and_then if_character o else None) ≡ Some c → AreOf ds c
    step false e o f h = absurd (Prim.cc (h))
    step true e None f h = absurd (Prim.cc (h))
    step true e (Some d) f h =
        let parts = and_parts (nat_le 1 (length ds)) (nat_le (length ds) 5) e in
        small d parts.0 parts.1 f (nat_le d 0x2ffff) refl h

character_is : (ds : List ℕ) (c : ℕ) → AreOf ds c → character_of ds ≡ Some c
character_is ds c a =
    ap (λ b. if b then option_and_then if_character (hex_number_from 0 ds) else None)
    (and_from (nat_le 1 (length ds)) (nat_le (length ds) 5) (is_at_most 1 (length ds) a.some)
    (is_at_most (length ds) 5 a.few))
    ∙ ap (option_and_then if_character) a.number
    ∙ ap (λ b. if b then Some c else None) (is_at_most c 0x2ffff a.character)

-- What is found is an escape.

-- the bytes begin with an escape of the character, of so many bytes
pub record IsSpelled (bytes : List ℕ) (s : Spelled) : Type 0 where
  pub front : List ℕ
  pub rest : List ℕ
  pub split : bytes ≡ front ++ rest
  pub long : length front ≡ s.1
  pub escape : IsEscape front s.0

four_spelled : (bytes : List ℕ) (s : Spelled) → of_four bytes ≡ Some s → IsSpelled (92 ∷ 117 ∷ bytes) s
four_spelled [] s h = absurd (Prim.cc (h))
four_spelled (a ∷ []) s h = absurd (Prim.cc (h))
four_spelled (a ∷ b ∷ []) s h = absurd (Prim.cc (h))
four_spelled (a ∷ b ∷ c ∷ []) s h = absurd (Prim.cc (h))
four_spelled (a ∷ b ∷ c ∷ d ∷ rest) s h = step (hex_number_from 0 (a ∷ b ∷ c ∷ d ∷ [])) refl h
  where
    step : (o : Option ℕ) → hex_number_from 0 (a ∷ b ∷ c ∷ d ∷ []) ≡ o → option_map (λ n. (n, 6)) o ≡ Some s
        → IsSpelled (92 ∷ 117 ∷ a ∷ b ∷ c ∷ d ∷ rest) s
    step None e h = absurd (Prim.cc (h))
    step (Some n) e h =
        let same : (n, 6) ≡ s = Prim.cc (h) in
        subst (λ (s : Spelled). IsSpelled (92 ∷ 117 ∷ a ∷ b ∷ c ∷ d ∷ rest) s) same
        (record {
          front = 92 ∷ 117 ∷ a ∷ b ∷ c ∷ d ∷ [];
          rest = rest;
          split = refl;
          long = refl;
          escape = inl (record { digits = a ∷ b ∷ c ∷ d ∷ []; spelled = refl; four = refl; number = e });
        })

braces_spelled : (ds rest : List ℕ) (s : Spelled) → in_braces ds ≡ Some s
    → IsSpelled (92 ∷ 117 ∷ 123 ∷ (ds ++ 125 ∷ rest)) s
braces_spelled ds rest s h = step (character_of ds) refl h
  where
    step : (o : Option ℕ) → character_of ds ≡ o → option_map (λ c. (c, length ds + 4)) o ≡ Some s
        → IsSpelled (92 ∷ 117 ∷ 123 ∷ (ds ++ 125 ∷ rest)) s
    step None e h = absurd (Prim.cc (h))
    step (Some c) e h =
        let same : (c, length ds + 4) ≡ s = Prim.cc (h) in
        let a = are_of ds c e in
        subst (λ (s : Spelled). IsSpelled (92 ∷ 117 ∷ 123 ∷ (ds ++ 125 ∷ rest)) s) same
        (record {
          front = 92 ∷ 117 ∷ 123 ∷ (ds ++ 125 ∷ []);
          rest = rest;
          split = ap (λ bytes. 92 ∷ 117 ∷ 123 ∷ bytes) (sym (append_assoc ds (125 ∷ []) rest));
          long = omega (arith, length-append ds (125 ∷ []));
          escape = inr (record {
            digits = ds;
            spelled = refl;
            some = a.some;
            few = a.few;
            number = a.number;
            character = a.character;
          });
        })

behind_spelled : (bytes : List ℕ) (s : Spelled) → escape_behind bytes ≡ Some s → IsSpelled (92 ∷ 117 ∷ bytes) s
behind_spelled [] s h = absurd (Prim.cc (h))
behind_spelled (b ∷ bs) s h = step (nat_eq b 123) refl (before_brace bs) refl h
  where
    step : (t : Bool) → nat_eq b 123 ≡ t → (o : Option (List ℕ)) → before_brace bs ≡ o
        → (if t then option_and_then in_braces o else of_four (b ∷ bs)) ≡ Some s → IsSpelled (92 ∷ 117 ∷ b ∷ bs) s
    step false e o f h = four_spelled (b ∷ bs) s h
    step true e None f h = absurd (Prim.cc (h))
    step true e (Some ds) f h =
        let found = is_braced bs ds f in
        subst (λ (bytes : List ℕ). IsSpelled (92 ∷ 117 ∷ bytes) s)
        (sym (ap₂ ◌∷◌ (eqb-true b 123 e) found.split)) (braces_spelled ds found.rest s h)

pub front_spelled : (bytes : List ℕ) (s : Spelled) → escape_in_front bytes ≡ Some s → IsSpelled bytes s
front_spelled [] s h = absurd (Prim.cc (h))
front_spelled (b ∷ []) s h = absurd (Prim.cc (h))
front_spelled (b ∷ c ∷ bs) s h = step (nat_eq b 92 && nat_eq c 117) refl h
  where
    step : (t : Bool) → (nat_eq b 92 && nat_eq c 117) ≡ t → (if t then escape_behind bs else None) ≡ Some s
        → IsSpelled (b ∷ c ∷ bs) s
    step false e h = absurd (Prim.cc (h))
    step true e h =
        let parts = and_parts (nat_eq b 92) (nat_eq c 117) e in
        subst (λ (bytes : List ℕ). IsSpelled bytes s)
        (sym (ap₂ ◌∷◌ (eqb-true b 92 parts.0) (ap (λ c. c ∷ bs) (eqb-true c 117 parts.1))))
        (behind_spelled bs s h)

-- An escape is found.

four_found : (ds rest : List ℕ) (c : ℕ) → length ds ≡ 4 → hex_number_from 0 ds ≡ Some c
    → escape_behind (ds ++ rest) ≡ Some (c, 6)
four_found (a ∷ b ∷ d ∷ e ∷ []) rest c four number =
    ap (λ t. if t then option_and_then in_braces (before_brace (b ∷ d ∷ e ∷ rest)) else of_four (a ∷ b ∷ d ∷ e ∷ rest))
    (another a 123 (are_hex 0 c (a ∷ b ∷ d ∷ e ∷ []) number).0 open_brace_is_no_digit)
    ∙ ap (option_map (λ n. (n, 6))) number
four_found [] rest c four number = absurd (omega arith)
four_found (a ∷ []) rest c four number = absurd (omega arith)
four_found (a ∷ b ∷ []) rest c four number = absurd (omega arith)
four_found (a ∷ b ∷ d ∷ []) rest c four number = absurd (omega arith)
four_found (a ∷ b ∷ d ∷ e ∷ f ∷ ds) rest c four number = absurd (omega arith)

braces_found : (ds rest : List ℕ) (c : ℕ) → AreOf ds c
    → escape_behind (123 ∷ ((ds ++ 125 ∷ []) ++ rest)) ≡ Some (c, length ds + 4)
braces_found ds rest c a =
    ap (λ bytes. option_and_then in_braces (before_brace bytes)) (append_assoc ds (125 ∷ []) rest)
    ∙ ap (option_and_then in_braces) (braced ds rest (are_hex 0 c ds a.number))
    ∙ ap (option_map (λ c. (c, length ds + 4))) (character_is ds c a)

pub escape_found : (bytes : List ℕ) → BeginsWithEscape bytes → (s : Spelled) × (escape_in_front bytes ≡ Some s)
escape_found bytes b = by b.is
  where
    by : IsEscape b.escape b.c → (s : Spelled) × (escape_in_front bytes ≡ Some s)
    by (inl p) = (
      (b.c, 6),
      ap escape_in_front (b.split ∙ ap (λ front. front ++ b.rest) p.spelled)
          ∙ four_found p.digits b.rest b.c p.four p.number,
    )
    by (inr p) = (
      (b.c, length p.digits + 4),
      ap escape_in_front (b.split ∙ ap (λ front. front ++ b.rest) p.spelled)
          ∙ braces_found p.digits b.rest b.c
          (record { some = p.some; few = p.few; number = p.number; character = p.character }),
    )
