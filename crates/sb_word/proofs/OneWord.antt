-- A literal stands for one word: what its first character is, and where the rest begins, is determined.
use Rattle.std.proofs.Common.{◌≡◌, ℕ, false, eqb, List, [], ◌∷◌, ◌++◌, length, take, drop, refl, sym, ap, ◌∙◌, subst, inl, inr, Option, Some, None, arith}
use Rattle.std.proofs.lemmas.List.{take_at, drop_at}
use Rattle.sb_word.proofs.DigitLemmas.{AreHex, are_hex}
use Rattle.sb_word.proofs.LiteralLemmas.{head_same, tail_same}
use Rattle.sb_word.specs.Literals.{hex_value, hex_number_from, IsEscape, StandsForItself, Spells, Literal, StandsForOneWord}

-- two values of one option are equal
pub same_value : {x y : ℕ} {o : Option ℕ} → o ≡ Some x → o ≡ Some y → x ≡ y
same_value e f = cc

-- braces are no hexadecimal digits
open_brace : hex_value 123 ≡ None
unfolding hex_value
open_brace = refl

close_brace : hex_value 125 ≡ None
unfolding hex_value
close_brace = refl

-- digits in braces end at the first closing brace
pub same_braced : (ds es r s : List ℕ) → AreHex ds → AreHex es → (ds ++ 125 ∷ []) ++ r ≡ (es ++ 125 ∷ []) ++ s
    → (ds ≡ es) × (r ≡ s)
same_braced [] [] r s p q e = (refl, tail_same e)
same_braced [] (x ∷ es) r s p q e =
    absurd (q.0 (ap hex_value (sym (head_same e)) ∙ close_brace))
same_braced (x ∷ ds) [] r s p q e = absurd (p.0 (ap hex_value (head_same e) ∙ close_brace))
same_braced (x ∷ ds) (y ∷ es) r s p q e =
    let rest = same_braced ds es r s p.1 q.1 (tail_same e) in
    let first = head_same e in
    (cc, rest.1)

-- four digits are no digits in braces
pub four_not_braced : (ds es r s : List ℕ) → length ds ≡ 4 → AreHex ds → ds ++ r ≡ 123 ∷ es ++ s → ⊥
four_not_braced [] es r s four p e = absurd (omega arith)
four_not_braced (x ∷ ds) es r s four p e = p.0 (ap hex_value (head_same e) ∙ open_brace)

-- the same front and the same rest, where both fronts have n bytes
same_four : (n : ℕ) (ds es r s : List ℕ) → length ds ≡ n → length es ≡ n → ds ++ r ≡ es ++ s → (ds ≡ es) × (r ≡ s)
same_four n ds es r s l m e = (
  sym (take_at ds r n l) ∙ ap (take n) e ∙ take_at es s n m,
  sym (drop_at ds r n l) ∙ ap (drop n) e
      ∙ drop_at es s n m,
)

same_escape : {front other : List ℕ} (c d : ℕ) (r s : List ℕ) → IsEscape front c → IsEscape other d
    → front ++ r ≡ other ++ s → (c ≡ d) × (r ≡ s)
same_escape c d r s (inl p) (inl q) e =
    let whole = sym (ap (λ bytes. bytes ++ r) p.spelled) ∙ e ∙ ap (λ bytes. bytes ++ s) q.spelled in
    let same = same_four 4 p.digits q.digits r s p.four q.four (tail_same (tail_same whole)) in
    (same_value p.number (ap (hex_number_from 0) same.0 ∙ q.number), same.1)
same_escape c d r s (inl p) (inr q) e =
    let whole = sym (ap (λ bytes. bytes ++ r) p.spelled) ∙ e ∙ ap (λ bytes. bytes ++ s) q.spelled in
    absurd (four_not_braced p.digits (q.digits ++ 125 ∷ []) r s p.four (are_hex 0 c p.digits p.number)
    (tail_same (tail_same whole)))
same_escape c d r s (inr p) (inl q) e =
    let whole = sym (ap (λ bytes. bytes ++ s) q.spelled) ∙ sym e ∙ ap (λ bytes. bytes ++ r) p.spelled in
    absurd (four_not_braced q.digits (p.digits ++ 125 ∷ []) s r q.four (are_hex 0 d q.digits q.number)
    (tail_same (tail_same whole)))
same_escape c d r s (inr p) (inr q) e =
    let whole = sym (ap (λ bytes. bytes ++ r) p.spelled) ∙ e ∙ ap (λ bytes. bytes ++ s) q.spelled in
    let same = same_braced p.digits q.digits r s (are_hex 0 c p.digits p.number) (are_hex 0 d q.digits q.number)
    (tail_same (tail_same (tail_same whole))) in
    (same_value p.number (ap (hex_number_from 0) same.0 ∙ q.number), same.1)

backslash_no_quote : ◌≡◌ {A = ℕ} 92 34 → ⊥
backslash_no_quote e = omega arith

-- an escape begins with a backslash, and so with no quote
no_quote_escape : {front : List ℕ} (c : ℕ) (r s : List ℕ) → IsEscape front c → front ++ r ≡ 34 ∷ s → ⊥
no_quote_escape c r s (inl p) e =
    backslash_no_quote (head_same (sym (ap (λ bytes. bytes ++ r) p.spelled) ∙ e))
no_quote_escape c r s (inr p) e =
    backslash_no_quote (head_same (sym (ap (λ bytes. bytes ++ r) p.spelled) ∙ e))

-- no byte that stands for itself begins a doubled quote or an escape
itself_no_quote : {front : List ℕ} (c : ℕ) (r s : List ℕ) → StandsForItself front r c → front ++ r ≡ 34 ∷ s → ⊥
itself_no_quote c r s p e =
    let first : c ≡ 34 = head_same (sym (ap (λ bytes. bytes ++ r) p.byte) ∙ e) in
    let quote : eqb 34 34 ≡ false = subst (λ x. eqb x 34 ≡ false) first p.no_quote in cc

itself_no_escape : {front other : List ℕ} (c d : ℕ) (r s : List ℕ) → StandsForItself front r c → IsEscape other d
    → front ++ r ≡ other ++ s → ⊥
itself_no_escape c d r s p q e =
    p.no_escape (record {
      escape = _;
      rest = s;
      c = d;
      split = sym (ap (λ bytes. bytes ++ r) p.byte) ∙ e;
      is = q;
    })

same_first : {front other : List ℕ} (c d : ℕ) (r s : List ℕ) → Spells front r c → Spells other s d
    → front ++ r ≡ other ++ s → (c ≡ d) × (r ≡ s)
same_first c d r s (inl p) (inl q) e =
    let whole = sym (ap (λ bytes. bytes ++ r) p.0) ∙ e ∙ ap (λ bytes. bytes ++ s) q.0 in
    (p.1 ∙ sym q.1, tail_same (tail_same whole))
same_first c d r s (inl p) (inr (inl q)) e =
    absurd (no_quote_escape d s (34 ∷ r) q (sym e ∙ ap (λ bytes. bytes ++ r) p.0))
same_first c d r s (inl p) (inr (inr q)) e =
    absurd (itself_no_quote d s (34 ∷ r) q (sym e ∙ ap (λ bytes. bytes ++ r) p.0))
same_first c d r s (inr (inl p)) (inl q) e =
    absurd (no_quote_escape c r (34 ∷ s) p (e ∙ ap (λ bytes. bytes ++ s) q.0))
same_first c d r s (inr (inl p)) (inr (inl q)) e = same_escape c d r s p q e
same_first c d r s (inr (inl p)) (inr (inr q)) e =
    absurd (itself_no_escape d c s r q p (sym e))
same_first c d r s (inr (inr p)) (inl q) e =
    absurd (itself_no_quote c r (34 ∷ s) p (e ∙ ap (λ bytes. bytes ++ s) q.0))
same_first c d r s (inr (inr p)) (inr (inl q)) e = absurd (itself_no_escape c d r s p q e)
same_first c d r s (inr (inr p)) (inr (inr q)) e =
    let whole = sym (ap (λ bytes. bytes ++ r) p.byte) ∙ e ∙ ap (λ bytes. bytes ++ s) q.byte in
    (head_same whole, tail_same whole)

-- what spells a character is not empty
not_empty : {front : List ℕ} (c : ℕ) (r : List ℕ) → Spells front r c → front ++ r ≡ [] → ⊥
not_empty c r (inl p) e =
    let whole = sym (ap (λ bytes. bytes ++ r) p.0) ∙ e in cc
not_empty c r (inr (inl (inl p))) e =
    let whole = sym (ap (λ bytes. bytes ++ r) p.spelled) ∙ e in cc
not_empty c r (inr (inl (inr p))) e =
    let whole = sym (ap (λ bytes. bytes ++ r) p.spelled) ∙ e in cc
not_empty c r (inr (inr p)) e =
    let whole = sym (ap (λ bytes. bytes ++ r) p.byte) ∙ e in cc

one_word : (v w bytes : List ℕ) → Literal bytes v → Literal bytes w → v ≡ w
one_word [] [] bytes p q = refl
one_word [] (d ∷ w) bytes p q = absurd (not_empty d q.1 q.3 (sym q.2 ∙ p))
one_word (c ∷ v) [] bytes p q = absurd (not_empty c p.1 p.3 (sym p.2 ∙ q))
one_word (c ∷ v) (d ∷ w) bytes p q =
    let same = same_first c d p.1 q.1 p.3 q.3 (sym p.2 ∙ q.2) in
    let rest = one_word v w q.1 (subst (λ bs. Literal bs v) same.1 p.4) q.4 in
    let first = same.0 in cc

pub stands_for_one_word : StandsForOneWord
stands_for_one_word bytes v w p q = one_word v w bytes p q
