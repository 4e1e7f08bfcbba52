-- Literals that deny assumptions, by the atoms of the arena.
use Rattle.std.proofs.Common.{◌≡◌, ◌==◌, ℕ, Bool, true, false, not, ◌&&◌, ◌||◌, List, [], ◌∷◌, slice_get, Option, Some, None, option_map, refl, ap, ap₂, ◌∙◌, arith}
use Rattle.std.specs.List.{list_all, list_any}
use mathlib.Core.Bool.{beq}
use Rattle.std.proofs.lemmas.Bool.Decides.{nat_tests}
use Rattle.std.proofs.lemmas.Option.{slice_get-map}
use Rattle.sb_lang.specs.Regex.{Regex}
use Rattle.sb_lit.specs.declared.clause.Lit.{Lit}
use Rattle.sb_script.specs.State.{Assumption}
use Rattle.sb_regex.specs.Numbered.{regex_at}
use Rattle.sb_rulebook.specs.Atoms.{Atom, AtomOver, bool_atom, in_atom, le_atom, sum_atom, and_atom, iff_atom}
use Rattle.sb_rulebook.specs.Kept.{AllKept}
use Rattle.sb_rulebook.specs.Verdicts.{Question, is_same_truth, denies, denies_assumption}
use Rattle.sb_atoms.specs.Numbered.{over}
use Rattle.sb_rules.specs.declared.kept.Kept.{Kept}
use Rattle.sb_rules.specs.Kept.{kept_in}
use Rattle.sb_check.specs.Denying.{is_given, constant_in, denies_by, denies_in}

same_number : (m n : ℕ) → (m == n) ≡ (n == m)
same_number m n = grind (arith, nat_tests)

other_sign : (p q : Bool) → is_same_truth p (not q) ≡ beq q (not p)
other_sign true true = refl
other_sign true false = refl
other_sign false true = refl
other_sign false false = refl

-- a literal of a constant's truth denies one of the assumptions
some_denied : (l : Lit) (serial : ℕ) (given : List Assumption)
    → list_any (denies l (Some (bool_atom serial))) given ≡ is_given given (serial, not l.positive)
some_denied l serial [] = refl
some_denied l serial (a ∷ given) =
    ap₂ (λ b c. b || c) (ap₂ (λ b c. b && c) (same_number serial a.0) (other_sign l.positive a.1))
    (some_denied l serial given)

-- another one denies none
none_denied : (l : Lit) (atom : Option Atom) → ((a : Assumption) → denies l atom a ≡ false)
    → (given : List Assumption) → list_any (denies l atom) given ≡ false
none_denied l atom h [] = refl
none_denied l atom h (a ∷ given) = ap₂ (λ b c. b || c) (h a) (none_denied l atom h given)

one_denied : (l : Lit) (rs : List Regex) (given : List Assumption) (atom : Option (AtomOver ℕ))
    → list_any (denies l (option_map (over rs) atom)) given ≡ denies_by (is_given given) l (constant_in atom)
one_denied l rs given None = none_denied l None (λ a. refl) given
one_denied l rs given (Some (bool_atom serial)) = some_denied l serial given
one_denied l rs given (Some (in_atom ps r)) = none_denied l (Some (in_atom ps (regex_at rs r))) (λ a. refl) given
one_denied l rs given (Some (le_atom x k)) = none_denied l (Some (le_atom x k)) (λ a. refl) given
one_denied l rs given (Some (sum_atom k ss)) = none_denied l (Some (sum_atom k ss)) (λ a. refl) given
one_denied l rs given (Some (and_atom ls)) = none_denied l (Some (and_atom ls)) (λ a. refl) given
one_denied l rs given (Some (iff_atom m n)) = none_denied l (Some (iff_atom m n)) (λ a. refl) given

-- each literal of a clause denies an assumption, as the rules have it
pub all_denied : (k : Kept) (others : AllKept) (q : Question) (ls : List Lit)
    → list_all (denies_assumption q (kept_in k others)) ls ≡ list_all (denies_in (is_given q.assumptions) k.atoms) ls
all_denied k others q [] = refl
all_denied k others q (l ∷ ls) =
    ap₂ (λ b c. b && c)
    (ap (λ atom. list_any (denies l atom) q.assumptions) (slice_get-map (over k.arena) k.atoms l.atom)
    ∙ one_denied l k.arena q.assumptions (slice_get k.atoms l.atom))
    (all_denied k others q ls)

-- tests that are the same say the same of the literals
pub denied_same : (one other : Assumption → Bool) → ((a : Assumption) → one a ≡ other a) → (atoms : List (AtomOver ℕ))
    (ls : List Lit) → list_all (denies_in one atoms) ls ≡ list_all (denies_in other atoms) ls
denied_same one other same atoms [] = refl
denied_same one other same atoms (l ∷ ls) =
    ap₂ (λ b c. b && c) (by (constant_in (slice_get atoms l.atom))) (denied_same one other same atoms ls)
  where
    by : (o : Option ℕ) → denies_by one l o ≡ denies_by other l o
    by None = refl
    by (Some serial) = same (serial, not l.positive)
