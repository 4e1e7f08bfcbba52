-- What the code finds in front of the bytes of a literal, and the word that it reads from them.
use Rattle.std.proofs.Common.{◌≡◌, ℕ, zero, suc, ◌+◌, ◌-◌, ◌*◌, ◌^◌, ◌<◌, ◌≤◌, Bool, true, nat_eq, if◌then◌else◌, List, [], ◌∷◌, ◌++◌, length, take, drop, get_or, Option, Some, None, option_map, refl, sym, ap, ◌∙◌, subst, arith, append_assoc}
use Rattle.std.proofs.lemmas.Bool.{and_parts, and_from}
use Rattle.std.proofs.Math.Nat.{pow-suc}
use Rattle.std.proofs.lemmas.List.{take_all, drop_at, drop_all, drop_more, length-append, append-nil, length-drop}
use Rattle.std.proofs.Math.Seq.{drop-nil}
use Rattle.sb_word.specs.Words.{is_character, are_characters}
use Rattle.sb_word.specs.Literals.{hex_value, hex_number_from}
use Rattle.sb_word.specs.LiteralWords as meaning
use Rattle.sb_word.specs.LiteralWords.{before_brace, escape_in_front, in_front, word_behind, word_of_literal, first_bad}
use Rattle.sb_word.specs.Spelling.{IsFront}
use Rattle.sb_word.proofs.DigitLemmas.{hex_number-digit}
use Rattle.sb_word.proofs.LiteralWordLemmas.{HasFront, escape_front, word_of_rest, moved_more, spelled_character}

-- Digits.

no_digit : (n b : ℕ) (bs : List ℕ) → hex_value b ≡ None → hex_number_from n (b ∷ bs) ≡ None
unfolding hex_number_from
no_digit n b bs h = ap (λ o. elim o as (λ _. Option ℕ) [ None ↦ None | Some v ↦ hex_number_from (16 * n + v) bs ]) h

-- a number of so many digits, and what is left of them
pub record HasNumber (digits : List ℕ) (place number : ℕ) : Type 0 where
  pub whole : hex_number_from 0 digits ≡ hex_number_from number (drop place digits)
  pub small : number < 16 ^ place

power_small : (n : ℕ) → n < 5 → 16 ^ n ≤ 65536
power_small zero h = omega arith
power_small (suc zero) h = omega arith
power_small (suc (suc zero)) h = omega arith
power_small (suc (suc (suc zero))) h = omega arith
power_small (suc (suc (suc (suc zero)))) h = omega arith
power_small (suc (suc (suc (suc (suc n))))) h = absurd (omega arith)

power_more : (n : ℕ) → 16 ^ (n + 1) ≡ 16 * 16 ^ n
power_more n = let e : n + 1 ≡ suc n = omega arith in omega (arith, ap (λ (k : ℕ). 16 ^ k) e, pow-suc 16 n)

pub small_number : (digits : List ℕ) (place number : ℕ) → HasNumber digits place number → place < 5 → number < 65536
small_number digits place number so_far within = omega (arith, so_far.small, power_small place within)

pub one_more_digit : (digits : List ℕ) (place number value more : ℕ) → HasNumber digits place number
    → place < length digits → hex_value (get_or digits place 0) ≡ Some value → value < 16
    → more ≡ 16 * number + value → HasNumber digits (place + 1) more
one_more_digit digits place number value more so_far within is low e =
    subst (λ (n : ℕ). HasNumber digits (place + 1) n) (sym e)
    (record {
      whole = so_far.whole ∙ ap (hex_number_from number) (drop_more digits place 0 within)
          ∙ hex_number-digit number (get_or digits place 0) value (drop (place + 1) digits) is;
      small = omega (arith, so_far.small, power_more place, low);
    })

pub no_number : (digits : List ℕ) (place number : ℕ) → HasNumber digits place number → place < length digits
    → hex_value (get_or digits place 0) ≡ None → hex_number_from 0 digits ≡ None
no_number digits place number so_far within is =
    so_far.whole ∙ ap (hex_number_from number) (drop_more digits place 0 within)
    ∙ no_digit number (get_or digits place 0) (drop (place + 1) digits) is

pub number_whole : (digits : List ℕ) (place number : ℕ) → HasNumber digits place number → length digits ≤ place
    → Some number ≡ hex_number_from 0 digits
unfolding hex_number_from
number_whole digits place number so_far all =
    sym (so_far.whole ∙ ap (hex_number_from number) (drop_all place digits all))

-- Braces.

-- no closing brace stands before the place
pub record HasNoBrace (bytes : List ℕ) (place : ℕ) : Type 0 where
  pub before : before_brace bytes ≡ option_map (λ front. take place bytes ++ front) (before_brace (drop place bytes))
  pub near : place ≤ 6

-- What is spelled in front.

-- the rest begins so many bytes behind the first one
rest_is : (bytes : List ℕ) (s : meaning.Spelled) (f : HasFront bytes s) → drop s.1 bytes ≡ f.rest
rest_is bytes s f = ap (drop s.1) f.split ∙ drop_at f.front f.rest s.1 f.long

one_less : (n b : ℕ) (bs : List ℕ) → 1 ≤ n → drop (n - 1) bs ≡ drop n (b ∷ bs)
one_less zero b bs h = absurd (omega arith)
one_less (suc n) b bs h = let e : suc n - 1 ≡ n = omega arith in ap (λ k. drop k bs) e

is_front : (b : ℕ) (bs : List ℕ) (s : meaning.Spelled) → HasFront (b ∷ bs) s → in_front (b ∷ bs) ≡ s
    → IsFront (b ∷ bs) s
is_front b bs s f e = record {
  word = ap (λ g. g.0 ∷ word_behind (g.1 - 1) bs) e
      ∙ ap (λ w. s.0 ∷ w) (word_of_rest (s.1 - 1) bs ∙ ap word_of_literal (one_less s.1 b bs f.some));
  bad = f.bad ∙ ap (λ rest. option_map (λ place. place + s.1) (first_bad rest)) (sym (rest_is (b ∷ bs) s f));
  character = spelled_character f.front f.rest s.0 f.spells;
  some = f.some;
  within = omega (arith, ap length f.split, length-append f.front f.rest, f.long);
}

abbrev chosen : (b : ℕ) (t : Bool) → Option meaning.Spelled → meaning.Spelled
chosen b t o = elim o as (λ _. meaning.Spelled) [ Some spelled ↦ spelled | None ↦ (b, if t then 2 else 1) ]

pub escape_is_front : (bytes : List ℕ) (s : meaning.Spelled) → escape_in_front bytes ≡ Some s → IsFront bytes s
escape_is_front [] s e = absurd (Prim.cc (e))
escape_is_front (b ∷ bs) s e =
    is_front b bs s (escape_front (b ∷ bs) s e) (ap (chosen b (nat_eq b 34)) e)

-- What is read so far.

pub record HasRead (bytes codes : List ℕ) (place : ℕ) : Type 0 where
  pub word : word_of_literal bytes ≡ codes ++ word_of_literal (drop place bytes)
  pub bad : first_bad bytes ≡ option_map (λ here. here + place) (first_bad (drop place bytes))
  pub characters : are_characters codes ≡ true
  pub within : place ≤ length bytes

drop_again : (n m : ℕ) (xs : List ℕ) → drop n (drop m xs) ≡ drop (m + n) xs
drop_again n zero xs = let e : n ≡ 0 + n = omega arith in ap (λ k. drop k xs) e
drop_again n (suc m) [] = drop-nil n ∙ sym (drop-nil (suc m + n))
drop_again n (suc m) (x ∷ xs) =
    let e : suc (m + n) ≡ suc m + n = omega arith in drop_again n m xs ∙ ap (λ k. drop k (x ∷ xs)) e

same_place : (o : Option ℕ) → o ≡ option_map (λ here. here + 0) o
same_place None = refl
same_place (Some place) = ap Some (omega arith)

pub nothing_read : (bytes : List ℕ) → HasRead bytes [] 0
nothing_read bytes =
    record { word = refl; bad = same_place (first_bad bytes); characters = refl; within = omega arith }

one_character_more : (codes : List ℕ) (c : ℕ) → are_characters codes ≡ true → is_character c ≡ true
    → are_characters (codes ++ c ∷ []) ≡ true
one_character_more [] c all h = and_from (is_character c) true h refl
one_character_more (d ∷ codes) c all h =
    let parts = and_parts (is_character d) (are_characters codes) all in
    and_from (is_character d) (are_characters (codes ++ c ∷ [])) parts.0 (one_character_more codes c parts.1 h)

-- a slice from a place on is what stands from there
whole_rest : (bytes : List ℕ) (place : ℕ) → take (length bytes - place) (drop place bytes) ≡ drop place bytes
whole_rest bytes place = take_all (length bytes - place) (drop place bytes) (omega (arith, length-drop place bytes))

-- one more character is read
pub one_more_read : (bytes codes more : List ℕ) (place next : ℕ) (s : meaning.Spelled) → HasRead bytes codes place
    → IsFront (take (length bytes - place) (drop place bytes)) s → more ≡ codes ++ s.0 ∷ [] → next ≡ place + s.1 → HasRead bytes more next
one_more_read bytes codes more place next s so_far at pushed moved =
    let front = subst (λ (bs : List ℕ). IsFront bs s) (whole_rest bytes place) at in
    let rest : drop s.1 (drop place bytes) ≡ drop (place + s.1) bytes = drop_again s.1 place bytes in
    subst (λ (cs : List ℕ). HasRead bytes cs next) (sym pushed)
    (subst (λ (n : ℕ). HasRead bytes (codes ++ s.0 ∷ []) n) (sym moved)
    (record {
      word = so_far.word ∙ ap (λ w. codes ++ w) (front.word ∙ ap (λ bs. s.0 ∷ word_of_literal bs) rest)
          ∙ sym (append_assoc codes (s.0 ∷ []) (word_of_literal (drop (place + s.1) bytes)));
      bad = so_far.bad ∙ ap (option_map (λ here. here + place)) front.bad
          ∙ moved_more s.1 place (place + s.1) (first_bad (drop s.1 (drop place bytes))) (omega arith)
          ∙ ap (λ bs. option_map (λ here. here + (place + s.1)) (first_bad bs)) rest;
      characters = one_character_more codes s.0 so_far.characters front.character;
      within = omega (arith, so_far.within, front.within, length-drop place bytes);
    }))

-- all is read
pub all_read : (bytes codes : List ℕ) (place : ℕ) → HasRead bytes codes place → length bytes ≤ place
    → (codes ≡ word_of_literal bytes) × (first_bad bytes ≡ None)
all_read bytes codes place so_far all =
    let none = drop_all place bytes all in (
      sym (append-nil codes) ∙ sym (so_far.word ∙ ap (λ bs. codes ++ word_of_literal bs) none),
      so_far.bad ∙ ap (λ bs. option_map (λ here. here + place) (first_bad bs)) none,
    )
