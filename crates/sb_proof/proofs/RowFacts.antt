-- Fields in memory: pairs of them, and those around a colon.
use Rattle.std.proofs.Common.{◌≡◌, ℕ, ℤ, map, ◌%◌, ◌<◌, zero, suc, Bool, true, false, cond, nat_eq, length, List, [], ◌∷◌, ◌++◌, Option, Some, None, option_map, option_and_then, take, drop, get_or, ◌-◌, ◌≤◌, refl, sym, ap, ◌∙◌, arith}
use Rattle.std.proofs.Math.Seq.{take-length}
use Rattle.sb_rulebook.specs.Lines.{Field}
use Rattle.sb_rulebook.specs.Reading.{is_colon, before_last_colon, has_pairs, both, integer, variable, summands}
use Rattle.sb_script.specs.Sums.{Summand}
use Rattle.sb_proof.specs.declared.atom.Variable.{Variable}
use Rattle.sb_proof.specs.Lines.{summand_in}
use Rattle.sb_proof.specs.Views.{texts}
use denote.Ref.{Bor}

pub pairs-by_length : (xs : List (Bor Field)) → 0 < length xs → nat_eq (length xs % 2) 0 ≡ has_pairs (texts xs)
pairs-by_length [] some = absurd (omega arith)
pairs-by_length (x ∷ []) some = refl
pairs-by_length (x ∷ y ∷ []) some = refl
pairs-by_length (x ∷ y ∷ z ∷ zs) some =
    let less : suc (suc (length (z ∷ zs))) % 2 ≡ length (z ∷ zs) % 2 = omega arith in
    ap (λ n. nat_eq n 0) less ∙ pairs-by_length (z ∷ zs) (omega arith)

abbrev put_first : Field → List Field × Field → List Field × Field
put_first u p = (u ∷ p.0, p.1)

behind_first : (u : Field) (us : List Field) (g : Field) (o : Option (List Field × Field)) (t : Bool)
    → o ≡ cond t (Some (us, g)) None
    → option_map (put_first u) o ≡ cond t (Some (u ∷ us, g)) None
behind_first u us g o true e = ap (option_map (put_first u)) e
behind_first u us g o false e = ap (option_map (put_first u)) e

-- the last field, and the last one of the others
abbrev LastTwo : Bor Field → List (Bor Field) → ℕ → ℕ → Bool → Type 0
LastTwo d fields m n t = is_colon (get_or fields m d).now ≡ t
    → before_last_colon (texts fields) ≡ cond t (Some (texts (take m fields), (get_or fields n d).now)) None

last_two : (d : Bor Field) (fields : List (Bor Field)) (m n : ℕ) (t : Bool) → n ≡ suc m → length fields ≡ suc n
    → LastTwo d fields m n t
last_two d [] m n t e long is = absurd (omega arith)
last_two d (f ∷ []) m n t e long is = absurd (omega arith)
last_two d (f ∷ g ∷ []) zero n t e long is =
    let one : n ≡ 1 = omega arith in
    ap (λ b. cond b (Some ([], g.now)) None) is
    ∙ ap (λ k. cond t (Some ([], (get_or (f ∷ g ∷ []) k d).now)) None) (sym one)
last_two d (f ∷ g ∷ []) (suc m) n t e long is = absurd (omega arith)
last_two d (f ∷ g ∷ h ∷ fs) zero n t e long is = absurd (omega arith)
last_two d (f ∷ g ∷ h ∷ fs) (suc m) zero t e long is = absurd (omega arith)
last_two d (f ∷ g ∷ h ∷ fs) (suc m) (suc n) t e long is =
    behind_first f.now (texts (take m (g ∷ h ∷ fs))) (get_or (g ∷ h ∷ fs) n d).now
    (before_last_colon (texts (g ∷ h ∷ fs))) t
    (last_two d (g ∷ h ∷ fs) m n t (omega arith) (omega arith) is)

pub last_colon : (d : Bor Field) (fields : List (Bor Field)) (t : Bool) → 2 ≤ length fields
    → LastTwo d fields (length fields - 2) (length fields - 1) t
last_colon d fields t two = last_two d fields (length fields - 2) (length fields - 1) t (omega arith) (omega arith)

pub no_colon : (fields : List (Bor Field)) → length fields < 2 → None ≡ before_last_colon (texts fields)
no_colon [] few = refl
no_colon (f ∷ []) few = refl
no_colon (f ∷ g ∷ fs) few = absurd (omega arith)

-- one summand more
summands_more : {all : Option (List Summand)} (xs : List (ℤ × Variable)) (s : ℤ × Variable)
    (left others : Option (List Summand)) → all ≡ option_map (λ ys. map summand_in xs ++ ys) left
    → left ≡ option_map (λ ys. summand_in s ∷ ys) others
    → all ≡ option_map (λ ys. map summand_in (xs ++ s ∷ []) ++ ys) others
summands_more xs s left None e f = e ∙ ap (option_map (λ ys. map summand_in xs ++ ys)) f
summands_more xs s left (Some ys) e f =
    e ∙ ap (option_map (λ ys. map summand_in xs ++ ys)) f ∙ ap Some (behind xs)
  where
    behind : (xs : List (ℤ × Variable)) → map summand_in xs ++ summand_in s ∷ ys ≡ map summand_in (xs ++ s ∷ []) ++ ys
    behind [] = refl
    behind (x ∷ xs) = ap (λ zs. summand_in x ∷ zs) (behind xs)

-- the summand of the first two fields, put behind those before
pub summands_pushed : (all : Option (List Summand)) (left : List (Bor Field)) (d : Bor Field)
    (xs ys : List (ℤ × Variable)) (s : ℤ × Variable) → 2 ≤ length left
    → all ≡ option_map (λ zs. map summand_in xs ++ zs) (summands (texts left))
    → Some (summand_in s) ≡ both integer variable ((get_or left 0 d).now ∷ (get_or left 1 d).now ∷ [])
    → ys ≡ xs ++ s ∷ []
    → all ≡ option_map (λ zs. map summand_in ys ++ zs) (summands (texts (take (length left - 2) (drop 2 left))))
summands_pushed all [] d xs ys s two e read pushed = absurd (omega arith)
summands_pushed all (c ∷ []) d xs ys s two e read pushed = absurd (omega arith)
summands_pushed all (c ∷ x ∷ rest) d xs ys s two e read pushed =
    let same : length (c ∷ x ∷ rest) - 2 ≡ length rest = omega arith in
    summands_more xs s (summands (texts (c ∷ x ∷ rest))) (summands (texts rest)) e
    (ap (option_and_then (λ t. option_map (λ ts. t ∷ ts) (summands (texts rest)))) (sym read))
    ∙ ap (λ zs. option_map (λ us. map summand_in zs ++ us) (summands (texts rest))) (sym pushed)
    ∙ ap (λ fs. option_map (λ us. map summand_in ys ++ us) (summands (texts fs)))
    (sym (ap (λ n. take n rest) same ∙ take-length rest))

-- a field that is left alone
pub summands_odd : (all : Option (List Summand)) (left : List (Bor Field)) (xs : List (ℤ × Variable)) → length left < 2
    → 0 < length left → all ≡ option_map (λ zs. map summand_in xs ++ zs) (summands (texts left)) → None ≡ all
summands_odd all [] xs few some e = absurd (omega arith)
summands_odd all (c ∷ []) xs few some e = sym e
summands_odd all (c ∷ x ∷ rest) xs few some e = absurd (omega arith)
