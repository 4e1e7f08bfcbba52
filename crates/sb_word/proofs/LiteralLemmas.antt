-- The printed text is a literal of the word.
use Rattle.std.proofs.Common.{◌≡◌, ℕ, ◌≤◌, ◌≢◌, Bool, true, false, not, ◌&&◌, cond, eqb, List, [], ◌∷◌, ◌++◌, refl, ap, ◌∙◌, inl, inr, arith}
use Rattle.std.specs.Fmt.{digits}
use Rattle.std.proofs.lemmas.Bool.{and_parts}
use Rattle.std.proofs.lemmas.Bool.Decides.{nat_tests}
use Rattle.sb_word.specs.Words.{is_character, are_characters, IsWord}
use Rattle.sb_word.specs.Literals.{IsEscape, BeginsWithEscape, is_printable, Spells, Literal, character_text, literal_text}
use Rattle.sb_word.proofs.HexLemmas.{hex_number-digits, length-digits-le, digits-some}

-- equal lists have one first number and one rest
pub head_same : {x y : ℕ} {xs ys : List ℕ} → x ∷ xs ≡ y ∷ ys → x ≡ y
head_same e = cc

pub tail_same : {x y : ℕ} {xs ys : List ℕ} → x ∷ xs ≡ y ∷ ys → xs ≡ ys
tail_same e = cc

-- an escape begins with a backslash
backslash_first : {bytes : List ℕ} {c : ℕ} → IsEscape bytes c → (rest : List ℕ) × (bytes ≡ 92 ∷ rest)
backslash_first (inl e) = (117 ∷ e.digits, e.spelled)
backslash_first (inr e) = (117 ∷ 123 ∷ (e.digits ++ 125 ∷ []), e.spelled)

pub no_escape : (c : ℕ) (rest : List ℕ) → c ≢ 92 → BeginsWithEscape (c ∷ rest) → ⊥
no_escape c rest other b =
    let first = backslash_first b.is in
    other (head_same (b.split ∙ ap (λ bytes. bytes ++ b.rest) first.1))

escaped : (c : ℕ) → is_character c ≡ true → IsEscape (92 ∷ 117 ∷ 123 ∷ (digits 16 false c ++ 125 ∷ [])) c
escaped c h =
    let small : c ≤ 0x2ffff = grind (arith, nat_tests) in
    inr (record {
      digits = digits 16 false c;
      spelled = refl;
      some = digits-some c small;
      few = length-digits-le c small;
      number = hex_number-digits c small;
      character = small;
    })

spells_by : (c : ℕ) (rest : List ℕ) (quote plain : Bool) → eqb c 34 ≡ quote → (is_printable c && not (eqb c 92)) ≡ plain
    → is_character c ≡ true
    → Spells (cond quote (34 ∷ 34 ∷ []) (cond plain (c ∷ []) (92 ∷ 117 ∷ 123 ∷ (digits 16 false c ++ 125 ∷ [])))) rest c
spells_by c rest true plain q p h = inl (refl, grind (arith, nat_tests))
spells_by c rest false true q p h =
    let tests = and_parts (is_printable c) (not (eqb c 92)) p in
    let other = tests.1 in
    inr (inr (record {
      byte = refl;
      printable = tests.0;
      no_quote = q;
      no_escape = no_escape c rest (grind (arith, nat_tests));
    }))
spells_by c rest false false q p h = inr (inl (escaped c h))

spells : (c : ℕ) (rest : List ℕ) → is_character c ≡ true → Spells (character_text c) rest c
spells c rest h = spells_by c rest (eqb c 34) (is_printable c && not (eqb c 92)) refl refl h

-- the printed text is a literal of the word
pub literal-printed : (word : List ℕ) → IsWord word → Literal (literal_text word) word
literal-printed [] h = refl
literal-printed (c ∷ word) h =
    let tests = and_parts (is_character c) (are_characters word) h in (
      character_text c,
      literal_text word,
      refl,
      spells c (literal_text word) tests.0,
      literal-printed word tests.1,
    )
