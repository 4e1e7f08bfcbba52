-- What the pieces say of the test of an expansion.
use Rattle.std.proofs.Common.{◌≡◌, ℕ, ◌<◌, Bool, true, false, ◌&&◌, nat_eq, List, [], ◌∷◌, map, length, Result, Ok, Err, IfOk, refl, sym, ap, ap₂, ◌∙◌, arith}
use Rattle.std.specs.List.{list_all, All}
use Rattle.std.specs.List.Sorted.{IsPermutation}
use Rattle.std.proofs.lemmas.Bool.{and_parts, true≢false}
use Rattle.std.proofs.lemmas.Bool.Decides.{nat_tests}
use Rattle.std.proofs.lemmas.List.Sorted.{sum_by-IsPermutation}
use Rattle.sb_word.specs.Words.{is_character}
use Rattle.sb_class.specs.Ranges.{rises_from}
use Rattle.sb_lang.specs.Regex.{Regex}
use Rattle.sb_regex.specs.Numbered.{regex_at, Extends}
use Rattle.sb_rulebook.specs.Expansions.{Branch, are_classes, is_right_at, is_expansion}
use Rattle.sb_rulebook.specs.ExpansionLaws.{TestDecidesExpansion}
use Rattle.sb_proof.specs.declared.line.Class.{Class}
use Rattle.sb_rules.specs.Branches.{branches_at}
use Rattle.sb_rules.specs.Pieces.{Piece, Ranged, ranged_at, pieces_in, are_canonical, AreRising, covers_from, is_right_in, LeadRight}
use Rattle.sb_rules.proofs.Between.{all-kept}
use Rattle.sb_rules.proofs.Counts.{one_if, is_counted, count, any, held, held-once, AreWithin, covers-all, leads, all-right, some-wrong, class_count, count-by-classes, branch_at, right-by-counts}

pub branches-are : (rs : List Regex) (ks : List Class) (ids : List ℕ)
    → branches_at rs ks ids ≡ map (branch_at rs) (ranged_at ks ids)
branches-are rs [] ids = refl
branches-are rs (k ∷ ks) [] = refl
branches-are rs (k ∷ ks) (id ∷ ids) = ap (λ bs. branch_at rs (k.ranges.items, id) ∷ bs) (branches-are rs ks ids)

classes-are : (rs : List Regex) (ks : List Ranged) → are_classes (map (branch_at rs) ks) ≡ are_canonical ks
classes-are rs [] = refl
classes-are rs (k ∷ ks) = ap (λ b. rises_from 0 k.0 && b) (classes-are rs ks)

one : (n : ℕ) → n ≡ 1 → nat_eq n 1 ≡ true
one n e = grind (arith, nat_tests)

is-one : (n : ℕ) → nat_eq n 1 ≡ true → n ≡ 1
is-one n e = grind (arith, nat_tests)

module _ (rs : List Regex) (r : Regex) (ks : List Ranged) (ps : List Piece) (decides : TestDecidesExpansion) where
  abbrev branches : List Branch
  branches = map (branch_at rs) ks

  pub not-canonical : are_canonical ks ≡ false → is_expansion r (map (branch_at rs) ks) ≡ false
  not-canonical h = step (is_expansion r branches) refl
    where
      step : (b : Bool) → is_expansion r branches ≡ b → b ≡ false
      step true e =
          absurd (true≢false (sym ((decides r branches).0 e).classes ∙ classes-are rs ks ∙ h))
      step false e = refl

  module _ (canonical : are_canonical ks ≡ true) (same : IsPermutation (pieces_in ks) ps) where
    counts-are : (w : ℕ → Bool) (c : ℕ) → count w c ps ≡ class_count w c ks
    counts-are w c =
        sum_by-IsPermutation (λ p. one_if (is_counted w c p)) (pieces_in ks) ps same ∙ count-by-classes w c ks canonical

    right-is : (c : ℕ) → is_right_at r branches c ≡ (nat_eq (held c ps) 1 && nat_eq (count (leads rs r c) c ps) 1)
    right-is c =
        right-by-counts rs r c ks
        ∙ sym (ap₂ (λ n m. nat_eq n 1 && nat_eq m 1) (counts-are any c) (counts-are (leads rs r c) c))

    pub is-expansion : covers_from 0 ps ≡ true → ((c : ℕ) → list_all (is_right_in rs r c) ps ≡ true)
        → is_expansion r (map (branch_at rs) ks) ≡ true
    is-expansion covers lead =
        (decides r branches).1 (record {
          classes = classes-are rs ks ∙ canonical;
          right = λ c char.
              let once = held-once 0 ps c covers (omega arith) char in
              right-is c ∙ ap₂ ◌&&◌ (one _ once) (one _ (all-right rs r c ps (lead c) ∙ once));
        })

    module _ (e : is_expansion r branches ≡ true) where
      right-at : (c : ℕ) → is_character c ≡ true → (nat_eq (held c ps) 1 && nat_eq (count (leads rs r c) c ps) 1) ≡ true
      right-at c char = sym (right-is c) ∙ ((decides r branches).0 e).right c char

      held-one : (c : ℕ) → is_character c ≡ true → held c ps ≡ 1
      held-one c char = is-one _ (and_parts (nat_eq (held c ps) 1) _ (right-at c char)).0

      lead-one : (c : ℕ) → is_character c ≡ true → count (leads rs r c) c ps ≡ 1
      lead-one c char = is-one _ (and_parts (nat_eq (held c ps) 1) _ (right-at c char)).1

    pub not-covered : AreRising 0 ps → AreWithin ps → covers_from 0 ps ≡ false
        → is_expansion r (map (branch_at rs) ks) ≡ false
    not-covered rising within h = step (is_expansion r branches) refl
      where
        step : (b : Bool) → is_expansion r branches ≡ b → b ≡ false
        step true e =
            absurd (true≢false (sym (covers-all 0 ps rising within (omega arith) (λ c l char. held-one e c char)) ∙ h))
        step false e = refl

    pub not-leading : (c : ℕ) → is_character c ≡ true → list_all (is_right_in rs r c) ps ≡ false
        → is_expansion r (map (branch_at rs) ks) ≡ false
    not-leading c char h = step (is_expansion r branches) refl
      where
        step : (b : Bool) → is_expansion r branches ≡ b → b ≡ false
        step true e =
            let a = held-one e c char in
            let b = lead-one e c char in
            let less = some-wrong rs r c ps h in
            absurd (omega (arith, a, b, less))
        step false e = refl

-- The test of the pieces, in an arena that grows.

module _ (old new : List Regex) (n : ℕ) (e : Extends old new) (l : n < length old) (ks : List Ranged) (ps : List Piece)
    (decides : TestDecidesExpansion) (canonical : are_canonical ks ≡ true) (same : IsPermutation (pieces_in ks) ps)
    (covers : covers_from 0 ps ≡ true) (known : All (λ p. p.1.1 < length old) ps) where
  judged : (b : Bool) → LeadRight new (regex_at new n) ps b
      → b ≡ is_expansion (regex_at old n) (map (branch_at old) ks)
  judged true h =
      sym
      (is-expansion old (regex_at old n) ks ps decides canonical same covers
      (λ c. sym (all-kept old new n e l ps known c) ∙ h c))
  judged false h =
      sym
      (not-leading old (regex_at old n) ks ps decides canonical same h.0 h.1
      (sym (all-kept old new n e l ps known h.0) ∙ h.2))

  pub all-judged : {E : Type 0} (result : Result Bool E) → IfOk result (λ b. LeadRight new (regex_at new n) ps b)
      → IfOk result (λ b. b ≡ is_expansion (regex_at old n) (map (branch_at old) ks))
  all-judged (Ok b) h = judged b h
  all-judged (Err f) h = tt
