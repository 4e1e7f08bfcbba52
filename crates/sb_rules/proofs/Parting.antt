-- What steps say of memberships.
use Rattle.std.proofs.Common.{◌≡◌, ℕ, ◌-◌, ◌<◌, ◌≤◌, ◌==◌, Bool, true, false, not, ◌&&◌, nat_eq, nat_le, if◌then◌else◌, List, [], ◌∷◌, map, length, get_or, take, drop, Option, Some, Result, Ok, Err, IfOk, refl, sym, ap₂, ◌∙◌, arith}
use Rattle.std.specs.Cmp.Lexicographic.{pointwise}
use Rattle.std.proofs.lemmas.Bool.{and_left, and_right, false≢true, true_from_ne_false}
use Rattle.std.proofs.lemmas.Bool.Decides.{nat_tests}
use Rattle.std.proofs.lemmas.List.{take_all}
use Rattle.std.proofs.lemmas.List.Folds.{list_all_at}
use Rattle.sb_word.specs.Words.{is_character, are_characters}
use Rattle.sb_lang.specs.Regex.{Regex}
use Rattle.sb_lang.specs.OrderLaws.{OrderTellsApart}
use Rattle.sb_lang.specs.Membership.{is_word}
use Rattle.sb_lang.specs.Derivative.{nullable}
use Rattle.sb_regex.specs.Numbered.{Names, AreDistinct, Extends}
use Rattle.sb_script.specs.Pieces.{constant_piece, word_piece}
use Rattle.sb_rulebook.specs.Atoms.{Atom, AtomOver, bool_atom, in_atom, le_atom, sum_atom, and_atom, iff_atom, is_same_atom, is_same_piece, member_in}
use Rattle.sb_rulebook.specs.Kept.{AllKept}
use Rattle.sb_rulebook.specs.Splits.{is_end, is_cut, is_split}
use Rattle.sb_proof.specs.declared.atom.Piece.{Piece}
use Rattle.sb_proof.specs.declared.atom.Piece.TheVariants as piece
use Rattle.sb_proof.specs.contracts.atom.PiecePartialEq.TheImpl as of_piece
use Rattle.sb_proof.specs.Lines.{piece_in}
use Rattle.sb_atoms.specs.Numbered.{over, HasRegexBelow}
use Rattle.sb_rules.specs.Stepping.{is_this}
use Rattle.sb_rules.proofs.Judged.{same-at}

-- an answer that is the same by an equation
pub ok_for : {E : Type 0} (result : Result Bool E) (x y : Bool) → x ≡ y → IfOk result (λ b. b ≡ x)
    → IfOk result (λ b. b ≡ y)
ok_for (Ok b) x y e h = h ∙ e
ok_for (Err f) x y e h = tt

-- one that is the same whatever else there is
pub ok_always : {E : Type 0} (result : Result Bool E) (x : Bool) → IfOk result (λ b. b ≡ x)
    → IfOk result (λ b. (others : AllKept) → b ≡ x)
ok_always (Ok b) x h = λ others. h
ok_always (Err f) x h = tt

-- Pieces from the first one on.

pub parted : {A : Type 0} (xs : List A) (x : A) → 1 ≤ length xs → x ≡ get_or xs 0 x
    → xs ≡ x ∷ take (length xs - 1) (drop 1 xs)
parted [] x low is = absurd (omega (arith, low))
parted (y ∷ xs) x low is =
    ap₂ (λ z zs. z ∷ zs) (sym is) (sym (take_all (length (y ∷ xs) - 1) xs (omega arith)))

pub nothing_cut : (ps : List Piece) (r : Regex) (o : Option Atom) → length ps < 1
    → false ≡ is_cut (Some (in_atom (map piece_in ps) r)) o
nothing_cut [] r o low = refl
nothing_cut (p ∷ ps) r o low = absurd (omega (arith, low))

pub nothing_split : (ps : List Piece) (r : Regex) (b o : Option Atom) → length ps < 1
    → false ≡ is_split (Some (in_atom (map piece_in ps) r)) b o
nothing_split [] r b o low = refl
nothing_split (p ∷ ps) r b o low = absurd (omega (arith, low))

-- no pieces, or some
pub end_at : (positive : Bool) (ps : List Piece) (r : Regex) → (length ps == 0) ≡ true
    → (if positive then nullable r else not (nullable r)) ≡ is_end positive (Some (in_atom (map piece_in ps) r))
end_at positive [] r h = refl
end_at positive (p ∷ ps) r h = absurd (grind (arith, nat_tests))

pub no_end : (positive : Bool) (ps : List Piece) (r : Regex) → (length ps == 0) ≡ false
    → false ≡ is_end positive (Some (in_atom (map piece_in ps) r))
no_end positive [] r h = absurd (grind (arith, nat_tests))
no_end positive (p ∷ ps) r h = refl

-- Pieces are the same as `==` finds out.

same_number : (s t : ℕ) → nat_eq s t ≡ (s == t)
same_number s t = grind (arith, nat_tests)

words_tested : (v w : List ℕ) → pointwise nat_eq v w ≡ is_word v w
words_tested [] [] = refl
words_tested [] (c ∷ w) = refl
words_tested (a ∷ v) [] = refl
words_tested (a ∷ v) (c ∷ w) = ap₂ ◌&&◌ (same_number a c) (words_tested v w)

piece_tested : (p q : Piece) → of_piece.ghosts.eq p q ≡ is_same_piece (piece_in p) (piece_in q)
piece_tested (piece.Constant s) (piece.Constant t) = same_number s t
piece_tested (piece.Word v) (piece.Word w) = words_tested v.items w.items
piece_tested (piece.Constant s) (piece.Word w) = refl
piece_tested (piece.Word v) (piece.Constant t) = refl

pub pieces_tested : (ps qs : List Piece)
    → pointwise of_piece.ghosts.eq ps qs ≡ pointwise is_same_piece (map piece_in ps) (map piece_in qs)
pieces_tested [] [] = refl
pieces_tested [] (q ∷ qs) = refl
pieces_tested (p ∷ ps) [] = refl
pieces_tested (p ∷ ps) (q ∷ qs) = ap₂ ◌&&◌ (piece_tested p q) (pieces_tested ps qs)

-- A character of a word.

at_most : (n m : ℕ) → nat_le n m ≡ true → n ≤ m
at_most n m h = grind (arith, nat_tests)

pub character_at : (w : List ℕ) (i : ℕ) → are_characters w ≡ true → i < length w → get_or w i 0 ≤ 0x2ffff
character_at w i h low =
    at_most (get_or w i 0) 0x2ffff
    (true_from_ne_false (is_character (get_or w i 0))
    (λ e. false≢true (sym (list_all_at is_character w i 0 low e) ∙ h)))

-- A membership of one constant, by the numbers of it and of its regex.

turned : (s x : ℕ) → nat_eq s x ≡ (x == s)
turned s x = grind (arith, nat_tests)

flipped : (n m : ℕ) → nat_eq n m ≡ nat_eq m n
flipped n m = grind (arith, nat_tests)

with_true : (b : Bool) → b ≡ (b && true)
with_true true = refl
with_true false = refl

module _ (old new : List Regex) (to : ℕ) (r : Regex) (x : ℕ) (apart : OrderTellsApart) (once : AreDistinct new)
    (grew : Extends old new) (is : Names new to r) where
  pub this_member : (b : AtomOver ℕ) → HasRegexBelow (length old) b
      → is_this x to (member_in b) ≡ is_same_atom (in_atom (constant_piece x ∷ []) r) (over old b)
  this_member (bool_atom serial) low = refl
  this_member (in_atom [] n) low = refl
  this_member (in_atom (constant_piece s ∷ []) n) low =
      ap₂ ◌&&◌ (turned s x ∙ with_true (x == s))
      (flipped n to ∙ sym (same-at old new r to apart once grew is n low))
  this_member (in_atom (constant_piece s ∷ p ∷ ps) n) low =
      sym (and_left ((x == s) && false) _ (and_right (x == s) false refl))
  this_member (in_atom (word_piece w ∷ ps) n) low = refl
  this_member (le_atom y k) low = refl
  this_member (sum_atom k ss) low = refl
  this_member (and_atom ls) low = refl
  this_member (iff_atom l m) low = refl
