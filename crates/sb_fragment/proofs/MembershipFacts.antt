-- Memberships, by their arguments.
use Rattle.std.proofs.Common.{◌≡◌, ℕ, false, List, [], ◌∷◌, length, refl}
use Rattle.smallvec.specs.SmallVec.{SmallVec}
use Rattle.sb_meaning.specs.Terms.{Term, apply, terms_of, str_in_re, core_equal}
use Rattle.sb_term.specs.declared.sort.Symbol.{Symbol}
use Rattle.sb_term.specs.declared.sort.Symbol.TheVariants as symbol
use Rattle.sb_term.specs.declared.term.Term as code
use Rattle.sb_term.specs.declared.term.Term.TheVariants as node
use Rattle.sb_term.specs.Nodes.{node_term}
use Rattle.sb_term.specs.Numbered.{terms_at}
use Rattle.sb_fragment.specs.Memberships.{is_equality, is_in_re}

other_count : (ts : List Term) (is : List ℕ) → (length is ≡ 2 → ⊥)
    → is_in_re (apply str_in_re (terms_of (terms_at ts is))) ≡ false
other_count ts [] other = refl
other_count ts (i ∷ []) other = refl
other_count ts (i ∷ j ∷ []) other = absurd (other refl)
other_count ts (i ∷ j ∷ k ∷ is) other = refl

pub not_two : (ts : List Term) (d : code.Term) (s : Symbol) (is : SmallVec ℕ) (t : Term) → d ≡ node.Apply s is
    → s ≡ symbol.StrInRe → node_term ts d ≡ t → (length is.items ≡ 2 → ⊥) → is_in_re t ≡ false
not_two ts d s is t e f g other = rw (← g, e, f) (other_count ts is.items other)

other_sides : (ts : List Term) (is : List ℕ) → (length is ≡ 2 → ⊥)
    → is_equality (apply core_equal (terms_of (terms_at ts is))) ≡ false
other_sides ts [] other = refl
other_sides ts (i ∷ []) other = refl
other_sides ts (i ∷ j ∷ []) other = absurd (other refl)
other_sides ts (i ∷ j ∷ k ∷ is) other = refl

pub not_two_sides : (ts : List Term) (d : code.Term) (s : Symbol) (is : SmallVec ℕ) (t : Term) → d ≡ node.Apply s is
    → s ≡ symbol.Equal → node_term ts d ≡ t → (length is.items ≡ 2 → ⊥) → is_equality t ≡ false
not_two_sides ts d s is t e f g other = rw (← g, e, f) (other_sides ts is.items other)
