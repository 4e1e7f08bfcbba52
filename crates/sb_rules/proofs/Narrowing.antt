-- Ranges with an end past the characters are no set.
use Rattle.std.proofs.Common.{◌≡◌, ℕ, zero, suc, ◌+◌, ◌<◌, ◌==◌, Bool, true, false, ◌&&◌, nat_le, List, [], ◌∷◌, length, get_or, Vec, Option, None, refl, ap, subst, ◌∙◌, arith}
use Rattle.std.specs.Global.{Global}
use Rattle.std.proofs.lemmas.Bool.Decides.{nat_tests}
use Rattle.sb_class.specs.Ranges.{Range, fits_from, rises_from}
use Rattle.sb_lang.specs.Regex.{set}
use Rattle.sb_lang.specs.Constructors.{mkset}
use Rattle.sb_lang.specs.NormalForm.{is_normal}
use Rattle.sb_rules.specs.Ranging.{AreNarrowed, IsClassOf}
use Rattle.sb_rules.proofs.Shapes.{no-empty-set, rises-none}

and-no : (b : Bool) → (b && false) ≡ false
and-no true = refl
and-no false = refl

no-end : (a c : Bool) → ((a && false) && c) ≡ false
no-end true c = refl
no-end false c = refl

-- from a first end to a last one, which is a character
abbrev spans : ℕ → ℕ → Bool
spans a b = nat_le a b && nat_le b 0x2ffff

wide-start : (a b : ℕ) → 0x2ffff < a → spans a b ≡ false
wide-start a b l = step (nat_le a b) (nat_le b 0x2ffff) refl refl
  where
    step : (p q : Bool) → nat_le a b ≡ p → nat_le b 0x2ffff ≡ q → (p && q) ≡ false
    step true true e f = absurd (grind (arith, nat_tests))
    step true false e f = refl
    step false q e f = refl

wide-end : (a b : ℕ) → 0x2ffff < b → spans a b ≡ false
wide-end a b l = step (nat_le a b) (nat_le b 0x2ffff) refl
  where
    step : (p q : Bool) → nat_le b 0x2ffff ≡ q → (p && q) ≡ false
    step true true f = absurd (grind (arith, nat_tests))
    step true false f = refl
    step false q f = refl

wide-at : (ranges : List Range) (n i : ℕ) (d : Range) → i < length ranges
    → spans (get_or ranges i d).0 (get_or ranges i d).1 ≡ false → rises_from n ranges ≡ false
unfolding rises_from
wide-at [] n i d l h = absurd (omega arith)
wide-at (r ∷ rs) n zero d l h =
    ap (λ b. (nat_le n r.0 && b) && rises_from (r.1 + 2) rs) h ∙ no-end (nat_le n r.0) (rises_from (r.1 + 2) rs)
wide-at (r ∷ rs) n (suc i) d l h =
    ap (λ b. fits_from n r && b) (wide-at rs (r.1 + 2) i d (omega (arith, l)) h) ∙ and-no (fits_from n r)

module _ (ranges : List Range) (i : ℕ) (d : Range) (l : i < length ranges) where
  pub starts-wide : 0x2ffff < (get_or ranges i d).0 → rises_from 0 ranges ≡ false
  starts-wide h = wide-at ranges 0 i d l (wide-start (get_or ranges i d).0 (get_or ranges i d).1 h)

  pub ends-wide : 0x2ffff < (get_or ranges i d).1 → rises_from 0 ranges ≡ false
  ends-wide h = wide-at ranges 0 i d l (wide-end (get_or ranges i d).0 (get_or ranges i d).1 h)

-- The set of a class.

pub empty-set : (ranges : List Range) → (length ranges == 0) ≡ true → is_normal (set ranges) ≡ false
empty-set [] h = no-empty-set
empty-set (r ∷ rs) h = absurd (grind (arith, nat_tests))

pub full-set : (ranges : List Range) → (length ranges == 0) ≡ false → mkset ranges ≡ set ranges
unfolding mkset
full-set [] h = absurd (grind (arith, nat_tests))
full-set (r ∷ rs) h = refl

pub class-none : (ranges : List Range) (found : Option (List Range)) → found ≡ None → IsClassOf ranges found
    → is_normal (set ranges) ≡ false
class-none ranges found is h =
    rises-none ranges (subst (λ (o : Option (List Range)). IsClassOf ranges o) is h)

pub narrowed-none : (ranges : List Range) (found : Option (Vec Range Global)) → found ≡ None
    → AreNarrowed ranges found → IsClassOf ranges None
narrowed-none ranges found is h = subst (λ (o : Option (Vec Range Global)). AreNarrowed ranges o) is h
