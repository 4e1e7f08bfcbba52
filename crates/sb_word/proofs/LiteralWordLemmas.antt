-- The word that is read from the bytes of a literal is its word, and bytes all of which a literal holds are one.
use Rattle.std.proofs.Common.{◌≡◌, ℕ, zero, suc, ◌+◌, ◌-◌, ◌*◌, ◌≤◌, Bool, true, false, not, nat_eq, if◌then◌else◌, List, [], ◌∷◌, ◌++◌, length, drop, Option, Some, None, option_map, refl, sym, ap, ◌∙◌, subst, inl, inr, arith}
use Rattle.std.specs.List.{list_all}
use Rattle.std.proofs.lemmas.Bool.{and_parts, and_from, eqb-true, not-true}
use Rattle.std.proofs.lemmas.Bool.Decides.{nat_tests}
use Rattle.std.proofs.lemmas.List.{drop_at, length-append}
use Rattle.sb_word.specs.Words.{is_character, are_characters}
use Rattle.sb_word.specs.Literals.{hex_value, hex_number_from, is_printable, IsEscape, Spells, Literal}
use Rattle.sb_word.specs.LiteralWords.{Spelled, escape_in_front, in_front, word_of_literal, first_bad, first_bad_behind_quote, TextIsLiteral, LiteralHasItsWord, RestHasItsWord}
use Rattle.sb_word.proofs.EscapeLemmas.{is_plain, escape_is_plain, front_spelled, escape_found}
use Rattle.sb_word.proofs.OneWord.{stands_for_one_word}

pub word_of_rest : RestHasItsWord
word_of_rest zero bytes = refl
word_of_rest (suc n) [] = refl
word_of_rest (suc n) (b ∷ bs) = word_of_rest n bs

-- Bytes that no literal holds.

moved_none : (o : Option ℕ) → o ≡ option_map (λ place. place + 0) o
moved_none None = refl
moved_none (Some place) = ap Some (omega arith)

pub moved_more : (n m k : ℕ) (o : Option ℕ) → n + m ≡ k
    → option_map (λ place. place + m) (option_map (λ place. place + n) o) ≡ option_map (λ place. place + k) o
moved_more n m k None e = refl
moved_more n m k (Some place) e = ap Some (omega (arith, e))

plain_first : (b : ℕ) (bs : List ℕ) → is_plain b ≡ true
    → first_bad (b ∷ bs) ≡ option_map (λ place. place + 1) (first_bad bs)
plain_first b bs h =
    let parts = and_parts _ (is_printable b) h in
    ap (λ t. if t then first_bad_behind_quote bs else if is_printable b
    then option_map (λ place. place + 1) (first_bad bs) else Some 0) (not-true (nat_eq b 34) parts.0)
    ∙ ap (λ t. if t then option_map (λ place. place + 1) (first_bad bs) else Some 0) parts.1

-- none is bad in plain bytes
pub behind_plain : (front rest : List ℕ) → list_all is_plain front ≡ true
    → first_bad (front ++ rest) ≡ option_map (λ place. place + length front) (first_bad rest)
behind_plain [] rest plain = moved_none (first_bad rest)
behind_plain (b ∷ bs) rest plain =
    let parts = and_parts (is_plain b) (list_all is_plain bs) plain in
    plain_first b (bs ++ rest) parts.0
    ∙ ap (option_map (λ place. place + 1)) (behind_plain bs rest parts.1)
    ∙ moved_more (length bs) 1 (length (b ∷ bs)) (first_bad rest) (omega arith)

none_moved : (n : ℕ) (o : Option ℕ) → option_map (λ place. place + n) o ≡ None → o ≡ None
none_moved n None h = refl
none_moved n (Some place) h = absurd (Prim.cc (h))

-- Characters.

hex_low : (b d : ℕ) → hex_value b ≡ Some d → d ≤ 15
unfolding hex_value
hex_low b d h = grind (arith, nat_tests)

record NextDigit (m : ℕ) (bs : List ℕ) (n : ℕ) : Type 0 where
  digit : ℕ
  low : digit ≤ 15
  rest : hex_number_from (16 * m + digit) bs ≡ Some n

next_digit : (m b : ℕ) (bs : List ℕ) (n : ℕ) → hex_number_from m (b ∷ bs) ≡ Some n → NextDigit m bs n
unfolding hex_number_from
next_digit m b bs n h = step (hex_value b) refl h
  where
    step : (o : Option ℕ) → hex_value b ≡ o
        → (elim o as (λ _. Option ℕ) [ None ↦ None | Some d ↦ hex_number_from (16 * m + d) bs ]) ≡ Some n
        → NextDigit m bs n
    step None is h = absurd (Prim.cc (h))
    step (Some d) is h = record { digit = d; low = hex_low b d is; rest = h }

no_more : (m n : ℕ) → hex_number_from m [] ≡ Some n → m ≡ n
unfolding hex_number_from
no_more m n h = Prim.cc (h)

four_low : (ds : List ℕ) (n : ℕ) → length ds ≡ 4 → hex_number_from 0 ds ≡ Some n → n ≤ 65535
four_low (a ∷ b ∷ c ∷ d ∷ []) n four h =
    let one = next_digit 0 a (b ∷ c ∷ d ∷ []) n h in
    let two = next_digit (16 * 0 + one.digit) b (c ∷ d ∷ []) n one.rest in
    let three = next_digit (16 * (16 * 0 + one.digit) + two.digit) c (d ∷ []) n two.rest in
    let last = next_digit (16 * (16 * (16 * 0 + one.digit) + two.digit) + three.digit) d [] n three.rest in
    let all =
    no_more (16 * (16 * (16 * (16 * 0 + one.digit) + two.digit) + three.digit) + last.digit) n last.rest in
    omega (arith, all, one.low, two.low, three.low, last.low)
four_low [] n four h = absurd (omega arith)
four_low (a ∷ []) n four h = absurd (omega arith)
four_low (a ∷ b ∷ []) n four h = absurd (omega arith)
four_low (a ∷ b ∷ c ∷ []) n four h = absurd (omega arith)
four_low (a ∷ b ∷ c ∷ d ∷ e ∷ ds) n four h = absurd (omega arith)

low_is_character : (c : ℕ) → c ≤ 0x2ffff → is_character c ≡ true
low_is_character c h = grind (arith, nat_tests)

printable_is_low : (c : ℕ) → is_printable c ≡ true → c ≤ 0x7e
printable_is_low c h = grind (arith, nat_tests)

-- what is spelled is a character
pub spelled_character : (front rest : List ℕ) (c : ℕ) → Spells front rest c → is_character c ≡ true
spelled_character front rest c (inl p) = ap is_character p.1
spelled_character front rest c (inr (inl (inl p))) =
    low_is_character c (omega (arith, four_low p.digits c p.four p.number))
spelled_character front rest c (inr (inl (inr p))) = low_is_character c p.character
spelled_character front rest c (inr (inr p)) =
    low_is_character c (omega (arith, printable_is_low c p.printable))

-- so a literal is one of a word
pub literal_is_word : (w bytes : List ℕ) → Literal bytes w → are_characters w ≡ true
literal_is_word [] bytes p = refl
literal_is_word (c ∷ w) bytes p =
    and_from (is_character c) (are_characters w) (spelled_character p.0 p.1 c p.3) (literal_is_word w p.1 p.4)

-- What is spelled in front.

-- what is spelled in front of bytes, and what stands behind it
pub record HasFront (bytes : List ℕ) (s : Spelled) : Type 0 where
  pub front : List ℕ
  pub rest : List ℕ
  pub split : bytes ≡ front ++ rest
  pub long : length front ≡ s.1
  pub some : 1 ≤ s.1
  pub spells : Spells front rest s.0
  pub bad : first_bad bytes ≡ option_map (λ place. place + s.1) (first_bad rest)

escape_long : (front : List ℕ) (c : ℕ) → IsEscape front c → 1 ≤ length front
escape_long front c (inl p) = subst (λ (bytes : List ℕ). 1 ≤ length bytes) (sym p.spelled) (omega arith)
escape_long front c (inr p) = subst (λ (bytes : List ℕ). 1 ≤ length bytes) (sym p.spelled) (omega arith)

-- an escape
pub escape_front : (bytes : List ℕ) (s : Spelled) → escape_in_front bytes ≡ Some s → HasFront bytes s
escape_front bytes s e =
    let found = front_spelled bytes s e in
    let some : 1 ≤ length found.front = escape_long found.front s.0 found.escape in
    record {
      front = found.front;
      rest = found.rest;
      split = found.split;
      long = found.long;
      some = subst (λ (n : ℕ). 1 ≤ n) found.long some;
      spells = inr (inl found.escape);
      bad = ap first_bad found.split
          ∙ behind_plain found.front found.rest (escape_is_plain found.front s.0 found.escape)
          ∙ ap (λ n. option_map (λ place. place + n) (first_bad found.rest)) found.long;
    }

-- a pair of quotes
pub pair_front : (bs : List ℕ) → HasFront (34 ∷ 34 ∷ bs) (34, 2)
pair_front bs = record {
  front = 34 ∷ 34 ∷ [];
  rest = bs;
  split = refl;
  long = refl;
  some = omega arith;
  spells = inl (refl, refl);
  bad = refl;
}

-- a byte that stands for itself
pub byte_front : (b : ℕ) (bs : List ℕ) → escape_in_front (b ∷ bs) ≡ None → nat_eq b 34 ≡ false
    → is_printable b ≡ true → HasFront (b ∷ bs) (b, 1)
byte_front b bs e f printable = record {
  front = b ∷ [];
  rest = bs;
  split = refl;
  long = refl;
  some = omega arith;
  spells = inr (inr (record {
    byte = refl;
    printable = printable;
    no_quote = f;
    no_escape = λ begins.
        let found = escape_found (b ∷ bs) begins in
        let both : None ≡ Some found.0 = sym e ∙ found.1 in Prim.cc (both);
  }));
  bad = plain_first b bs (and_from _ (is_printable b) (ap not f) printable);
}

-- what a quote that is no bad byte is the first of
second : (b : ℕ) (bs : List ℕ) → nat_eq b 34 ≡ true → first_bad_behind_quote bs ≡ None → HasFront (b ∷ bs) (b, 2)
second b [] q h = absurd (Prim.cc (h))
second b (c ∷ bs) q h = step (nat_eq c 34) refl h
  where
    step : (t : Bool) → nat_eq c 34 ≡ t → (if t then option_map (λ place. place + 2) (first_bad bs) else Some 0) ≡ None
        → HasFront (b ∷ c ∷ bs) (b, 2)
    step false e h = absurd (Prim.cc (h))
    step true e h =
        subst (λ b. HasFront (b ∷ c ∷ bs) (b, 2)) (sym (eqb-true b 34 q))
        (subst (λ c. HasFront (34 ∷ c ∷ bs) (34, 2)) (sym (eqb-true c 34 e)) (pair_front bs))

has_front : (b : ℕ) (bs : List ℕ) → first_bad (b ∷ bs) ≡ None → HasFront (b ∷ bs) (in_front (b ∷ bs))
has_front b bs text = step (escape_in_front (b ∷ bs)) refl (nat_eq b 34) refl (is_printable b) refl text
  where
    step : (o : Option Spelled) → escape_in_front (b ∷ bs) ≡ o → (t : Bool) → nat_eq b 34 ≡ t
        → (u : Bool) → is_printable b ≡ u
        → (if t then first_bad_behind_quote bs else if u then option_map (λ place. place + 1) (first_bad bs)
        else Some 0) ≡ None
        → HasFront (b ∷ bs) (elim o as (λ _. Spelled) [ Some spelled ↦ spelled | None ↦ (b, if t then 2 else 1) ])
    step (Some s) e t f u g h = escape_front (b ∷ bs) s e
    step None e true f u g h = second b bs f h
    step None e false f true g h = byte_front b bs e f g
    step None e false f false g h = absurd (Prim.cc (h))

-- the rest begins so many bytes behind the first one
rest_begins : (b : ℕ) (bs : List ℕ) (s : Spelled) (f : HasFront (b ∷ bs) s) → drop (s.1 - 1) bs ≡ f.rest
rest_begins b bs s f = step (s.1 - 1) (omega (arith, f.some))
  where
    step : (n : ℕ) → s.1 ≡ suc n → drop n bs ≡ f.rest
    step n e = ap (drop (suc n)) f.split ∙ drop_at f.front f.rest (suc n) (f.long ∙ e)

-- bytes of at most this length
literal_within : (n : ℕ) (bytes : List ℕ) → length bytes ≤ n → first_bad bytes ≡ None
    → Literal bytes (word_of_literal bytes)
literal_within n [] small text = refl
literal_within zero (b ∷ bs) small text = absurd (omega arith)
literal_within (suc n) (b ∷ bs) small text =
    let f = has_front b bs text in
    let s = in_front (b ∷ bs) in
    let whole : length (b ∷ bs) ≡ length f.front + length f.rest = ap length f.split ∙ length-append f.front f.rest in
    let less : length f.rest ≤ n = omega (arith, whole, f.long, f.some, small) in (
      f.front,
      f.rest,
      f.split,
      f.spells,
      subst (λ (w : List ℕ). Literal f.rest w)
          (sym (word_of_rest (s.1 - 1) bs ∙ ap word_of_literal (rest_begins b bs s f)))
          (literal_within n f.rest less (none_moved s.1 (first_bad f.rest) (sym f.bad ∙ text))),
    )

pub text_is_literal : TextIsLiteral
text_is_literal bytes text = literal_within (length bytes) bytes (omega arith) text

-- A literal of a word.

none_in_front : (front rest : List ℕ) (c : ℕ) → Spells front rest c → first_bad rest ≡ None
    → first_bad (front ++ rest) ≡ None
none_in_front front rest c (inl p) h =
    ap (λ bytes. first_bad (bytes ++ rest)) p.0 ∙ ap (option_map (λ place. place + 2)) h
none_in_front front rest c (inr (inl p)) h =
    behind_plain front rest (escape_is_plain front c p) ∙ ap (option_map (λ place. place + length front)) h
none_in_front front rest c (inr (inr p)) h =
    ap (λ bytes. first_bad (bytes ++ rest)) p.byte
    ∙ plain_first c rest (and_from _ (is_printable c) (ap not p.no_quote) p.printable)
    ∙ ap (option_map (λ place. place + 1)) h

pub none_bad : (w bytes : List ℕ) → Literal bytes w → first_bad bytes ≡ None
none_bad [] bytes p = ap first_bad p
none_bad (c ∷ w) bytes p =
    ap first_bad p.2 ∙ none_in_front p.0 p.1 c p.3 (none_bad w p.1 p.4)

pub literal_has_its_word : LiteralHasItsWord
literal_has_its_word bytes w p =
    let none = none_bad w bytes p in
    (none, stands_for_one_word bytes (word_of_literal bytes) w (text_is_literal bytes none) p)
