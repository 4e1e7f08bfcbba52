-- The clauses of memberships: by rule step, which are true under every valuation, and by rule empty, which are where
-- dead regexes have no word.
use Rattle.std.specs.Prelude.{ℕ, Bool, true, false, not, ◌&&◌, ◌||◌, ◌==◌, if◌then◌else◌, List, [], ◌∷◌, map, Option, Some, None}
use Rattle.std.specs.List.{list_all, list_any, zip}
use Rattle.std.specs.Cmp.Lexicographic.{pointwise}
use Rattle.sb_lit.specs.declared.clause.Lit.{Lit}
use Rattle.sb_lang.specs.Regex.{Regex}
use Rattle.sb_lang.specs.Order.{regex_eq}
use Rattle.sb_lang.specs.Constructors.{mkand, mknot, mkpath}
use Rattle.sb_lang.specs.Derivative.{nullable, nd_along}
use Rattle.sb_rulebook.specs.Atoms.{Atom, in_atom, is_same_piece, is_same_atom}
use Rattle.sb_rulebook.specs.Parts.{together}
use Rattle.sb_rulebook.specs.Kept.{AllKept}
use Rattle.sb_rulebook.specs.Gates.{is_set_of, atom_of, differ_in_sign}
use Rattle.sb_script.specs.Pieces.{constant_piece, word_piece}

-- Steps: a membership of a constant and more pieces, split at the regex to which the constant leads; a membership of
-- a word and more pieces; a membership of no pieces.

-- a: the constant x and more pieces are in r; b: x leads from r to q; c: the other pieces are in q
abbrev pub is_split : Option Atom → Option Atom → Option Atom → Bool
is_split (Some (in_atom (constant_piece x ∷ ps) r)) (Some b) (Some (in_atom qs q)) =
    pointwise is_same_piece ps qs && is_same_atom (in_atom (constant_piece x ∷ []) (mkpath r q)) b
is_split _ _ _ = false

-- a: a word and more pieces are in r; c: the other pieces are in the derivative along the word
abbrev pub is_cut : Option Atom → Option Atom → Bool
is_cut (Some (in_atom (word_piece w ∷ ps) r)) (Some (in_atom qs q)) =
    pointwise is_same_piece ps qs && regex_eq (nd_along r w) q
is_cut _ _ = false

-- no pieces are in a regex exactly where it is nullable
abbrev pub is_end : Bool → Option Atom → Bool
is_end positive (Some (in_atom [] r)) = if positive then nullable r else not (nullable r)
is_end positive _ = false

abbrev pub is_split_by : List Atom → List Lit → Lit → Lit → Bool
is_split_by atoms clause a c =
    list_any (λ b. not b.positive
    && (is_set_of clause (b ∷ a ∷ c ∷ []) && is_split (atom_of atoms a) (atom_of atoms b) (atom_of atoms c))) clause

abbrev pub is_step_of : List Atom → List Lit → Lit → Lit → Bool
is_step_of atoms clause a c =
    differ_in_sign a c &&
    (is_set_of clause (a ∷ c ∷ []) && is_cut (atom_of atoms a) (atom_of atoms c) || is_split_by atoms clause a c)

abbrev pub is_step : List Atom → List Lit → Bool
is_step atoms clause =
    list_any (λ a. is_set_of clause (a ∷ []) && is_end a.positive (atom_of atoms a)
    || list_any (is_step_of atoms clause a) clause) clause

-- Empty: the memberships of one constant, all taken as their literals' negations, have no word in common.

-- the constant, and the regex in which it is where the literal is false
abbrev pub denied : Bool → Option Atom → Option (ℕ × Regex)
denied true (Some (in_atom (constant_piece x ∷ []) r)) = Some (x, mknot r)
denied false (Some (in_atom (constant_piece x ∷ []) r)) = Some (x, r)
denied _ _ = None

abbrev pub is_dead_regex : AllKept → Regex → Bool
is_dead_regex kept r = list_any (λ p. p.1 && regex_eq r p.0) (zip kept.regexes kept.dead)

-- they are of one constant, and their intersection is a dead regex
abbrev pub have_no_word : AllKept → List (ℕ × Regex) → Bool
have_no_word kept [] = false
have_no_word kept (m ∷ ms) = list_all (λ n. n.0 == m.0) ms && is_dead_regex kept (mkand (map (λ n. n.1) (m ∷ ms)))

abbrev pub is_empty : AllKept → List Lit → Bool
is_empty kept clause =
    elim (together (map (λ l. denied l.positive (atom_of kept.atoms l)) clause))
    [ None ↦ false | Some ms ↦ have_no_word kept ms ]
