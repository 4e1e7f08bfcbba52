-- Computed examples: the texts of a few words, and what a few literals stand for.
use Rattle.std.proofs.Common.{◌≡◌, ℕ, Bool, true, false, not, ◌&&◌, eqb, List, [], ◌∷◌, ◌++◌, refl, sym, ap, ◌∙◌, inl, inr, arith}
use Rattle.std.specs.Fmt.{digits}
use Rattle.std.proofs.lemmas.Bool.{and_parts}
use Rattle.std.proofs.lemmas.Bool.Decides.{nat_tests}
use Rattle.sb_word.specs.Words.{are_characters, IsFirstOutside}
use Rattle.sb_word.specs.Literals.{hex_value, hex_number_from, IsEscape, is_printable, Literal, literal_text}
use Rattle.sb_word.proofs.LiteralLemmas.{tail_same, no_escape}
use Rattle.sb_word.proofs.DigitLemmas.{are_hex}
use Rattle.sb_word.proofs.OneWord.{same_value, same_braced, four_not_braced}

last_character : are_characters (97 ∷ 0x2ffff ∷ []) ≡ true
last_character = refl

past_the_last : are_characters (97 ∷ 0x30000 ∷ []) ≡ false
past_the_last = refl

first_outside : IsFirstOutside (97 ∷ 0x2ffff ∷ 0x30000 ∷ 0x40000 ∷ []) 2
first_outside = record { code = 0x30000; there = refl; outside = refl; before = refl }

-- `a"b\` is printed as `a""b\u{5c}`
quote_and_backslash : literal_text (97 ∷ 34 ∷ 98 ∷ 92 ∷ []) ≡ 97 ∷ 34 ∷ 34 ∷ 98 ∷ 92 ∷ 117 ∷ 123 ∷ 53 ∷ 99 ∷ 125 ∷ []
unfolding digits
quote_and_backslash = refl

-- `\u{0}`
first_character : literal_text (0 ∷ []) ≡ 92 ∷ 117 ∷ 123 ∷ 48 ∷ 125 ∷ []
unfolding digits
first_character = refl

-- `~` and `\u{7f}`
last_printable : literal_text (0x7e ∷ 0x7f ∷ []) ≡ 126 ∷ 92 ∷ 117 ∷ 123 ∷ 55 ∷ 102 ∷ 125 ∷ []
unfolding digits
last_printable = refl

-- `\u{2ffff}`
five_digits : literal_text (0x2ffff ∷ []) ≡ 92 ∷ 117 ∷ 123 ∷ 50 ∷ 102 ∷ 102 ∷ 102 ∷ 102 ∷ 125 ∷ []
unfolding digits
five_digits = refl

-- `""` stands for a quote
doubled_quote : Literal (34 ∷ 34 ∷ []) (34 ∷ [])
doubled_quote = (34 ∷ 34 ∷ [], [], refl, inl (refl, refl), refl)

-- `\u004A` and `\u{4a}` stand for J
four_digits : Literal (92 ∷ 117 ∷ 48 ∷ 48 ∷ 52 ∷ 65 ∷ []) (74 ∷ [])
unfolding hex_value hex_number_from
four_digits = (
  92 ∷ 117 ∷ 48 ∷ 48 ∷ 52 ∷ 65 ∷ [],
  [],
  refl,
  inr (inl (inl (record { digits = 48 ∷ 48 ∷ 52 ∷ 65 ∷ []; spelled = refl; four = refl; number = refl }))),
  refl,
)

braced : Literal (92 ∷ 117 ∷ 123 ∷ 52 ∷ 97 ∷ 125 ∷ []) (74 ∷ [])
unfolding hex_value hex_number_from
braced = (
  92 ∷ 117 ∷ 123 ∷ 52 ∷ 97 ∷ 125 ∷ [],
  [],
  refl,
  inr (inl (inr
      (record {
        digits = 52 ∷ 97 ∷ [];
        spelled = refl;
        some = omega arith;
        few = omega arith;
        number = refl;
        character =
            omega arith;
      }))),
  refl,
)

-- no escape begins `\u{30000}`, whose number is no character
no_escape_by : (bytes rest : List ℕ) (c : ℕ) → IsEscape bytes c
    → 92 ∷ 117 ∷ 123 ∷ 51 ∷ 48 ∷ 48 ∷ 48 ∷ 48 ∷ 125 ∷ [] ≡ bytes ++ rest → ⊥
unfolding hex_value hex_number_from
no_escape_by bytes rest c (inl p) e =
    let whole = e ∙ ap (λ bs. bs ++ rest) p.spelled in
    four_not_braced p.digits (51 ∷ 48 ∷ 48 ∷ 48 ∷ 48 ∷ 125 ∷ []) rest [] p.four (are_hex 0 c p.digits p.number)
    (sym (tail_same (tail_same whole)))
no_escape_by bytes rest c (inr p) e =
    let whole = e ∙ ap (λ bs. bs ++ rest) p.spelled in
    let digits : List ℕ = 51 ∷ 48 ∷ 48 ∷ 48 ∷ 48 ∷ [] in
    let same = same_braced digits p.digits [] rest (are_hex 0 0x30000 digits refl) (are_hex 0 c p.digits p.number)
    (tail_same (tail_same (tail_same whole))) in
    let number : c ≡ 0x30000 = same_value (ap (hex_number_from 0) same.0 ∙ p.number) refl in
    omega (arith, p.character)

-- each byte is printable and neither a quote nor a backslash
abbrev are_plain : List ℕ → Bool
are_plain [] = true
are_plain (c ∷ bytes) = (is_printable c && (not (eqb c 34) && not (eqb c 92))) && are_plain bytes

-- such bytes stand for themselves
plain_stand : (bytes : List ℕ) → are_plain bytes ≡ true → Literal bytes bytes
plain_stand [] h = refl
plain_stand (c ∷ bytes) h =
    let plain = and_parts (is_printable c && (not (eqb c 34) && not (eqb c 92))) (are_plain bytes) h in
    let first = and_parts (is_printable c) (not (eqb c 34) && not (eqb c 92)) plain.0 in
    let tests = and_parts (not (eqb c 34)) (not (eqb c 92)) first.1 in
    let no_quote = tests.0 in
    let no_backslash = tests.1 in (
      c ∷ [],
      bytes,
      refl,
      inr (inr (record {
        byte = refl;
        printable = first.0;
        no_quote = grind (arith, nat_tests);
        no_escape = no_escape c bytes (grind (arith, nat_tests));
      })),
      plain_stand bytes plain.1,
    )

-- so each of its bytes stands for itself
past_the_last_stands : Literal (92 ∷ 117 ∷ 123 ∷ 51 ∷ 48 ∷ 48 ∷ 48 ∷ 48 ∷ 125 ∷ [])
    (92 ∷ 117 ∷ 123 ∷ 51 ∷ 48 ∷ 48 ∷ 48 ∷ 48 ∷ 125 ∷ [])
past_the_last_stands =
    let behind : List ℕ = 117 ∷ 123 ∷ 51 ∷ 48 ∷ 48 ∷ 48 ∷ 48 ∷ 125 ∷ [] in (
      92 ∷ [],
      behind,
      refl,
      inr (inr (record {
        byte = refl;
        printable = refl;
        no_quote = refl;
        no_escape = λ b. no_escape_by b.escape b.rest b.c b.is b.split;
      })),
      plain_stand behind refl,
    )
