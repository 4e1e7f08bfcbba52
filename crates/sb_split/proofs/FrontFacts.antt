-- Memberships, taken apart at their first piece.
use Rattle.std.specs.Prelude.{◌==◌, nat_le}
use Rattle.std.proofs.lemmas.Bool.{eqb-true}
use Rattle.std.proofs.lemmas.Bool.Decides.{nat_tests}
use Rattle.std.proofs.lemmas.List.Sums.{AllPass-from_list_all}
use Rattle.sb_word.specs.Words.{is_character}
use Rattle.sb_proof.specs.declared.atom.Piece as code
use Rattle.sb_split.proofs.Words.{IsConstantFront, IsWordFront, in_atom, is_whole, true≢false, List, [], ◌∷◌, ◌≡◌, ◌∙◌, ◌-◌, ◌<◌, ◌≤◌, ap, ap₂, arith, drop, false, get_or, length, map, refl, sym, take, true, ℕ, Piece, and_parts, are_characters, are_pieces, constant_piece, false≢true, piece_in, take_all, word_piece}

-- a word in front of pieces, and these
pub word_parts : (w : List ℕ) (ps : List Piece) → are_pieces (word_piece w ∷ ps) ≡ true
    → (are_characters w ≡ true) × (are_pieces ps ≡ true)
word_parts [] ps h = absurd (false≢true h)
word_parts (c ∷ w) [] h = and_parts (are_characters (c ∷ w)) (are_pieces []) h
word_parts (c ∷ w) (constant_piece x ∷ ps) h = and_parts (are_characters (c ∷ w)) (are_pieces (constant_piece x ∷ ps)) h
word_parts (c ∷ w) (word_piece v ∷ ps) h = absurd (false≢true h)

pub parted : {A : Type 0} (xs : List A) (x : A) → 1 ≤ length xs → x ≡ get_or xs 0 x
    → xs ≡ x ∷ take (length xs - 1) (drop 1 xs)
parted [] x low is = absurd (omega (arith, low))
parted (y ∷ xs) x low is =
    ap₂ (λ z zs. z ∷ zs) (sym is) (sym (take_all (length (y ∷ xs) - 1) xs (omega arith)))

-- A character of a word.

at_most : (n m : ℕ) → nat_le n m ≡ true → n ≤ m
at_most n m h = grind (arith, nat_tests)

pub character_at : (w : List ℕ) (i : ℕ) → are_characters w ≡ true → i < length w → get_or w i 0 ≤ 0x2ffff
character_at w i h low = at_most (get_or w i 0) 0x2ffff (AllPass-from_list_all is_character w h i 0 low)

-- What is taken apart.

pub no_pieces : (ps : List code.Piece) (r : ℕ) → length ps < 1 → in_atom (map piece_in ps) r ≡ in_atom [] r
no_pieces [] r low = refl
no_pieces (p ∷ ps) r low = absurd (omega (arith, low))

pub alone_whole : (x : ℕ) (ps : List code.Piece) (r : ℕ) → (length ps == 0) ≡ true
    → is_whole (in_atom (constant_piece x ∷ map piece_in ps) r) ≡ true
alone_whole x [] r h = refl
alone_whole x (p ∷ ps) r h = absurd (omega (arith, eqb-true (length (p ∷ ps)) 0 h))

pub constant_front_is : (x : ℕ) (ps : List code.Piece) (qs : List Piece) (r : ℕ) → (length ps == 0) ≡ false
    → are_pieces (map piece_in ps) ≡ true → qs ≡ map piece_in ps
    → IsConstantFront (in_atom (constant_piece x ∷ map piece_in ps) r) x qs r
constant_front_is x [] qs r more formed same = absurd (true≢false more)
constant_front_is x (p ∷ ps) qs r more formed same = record {
  first = piece_in p;
  others = map piece_in ps;
  more = same;
  is = ap (λ all. in_atom (constant_piece x ∷ all) r) (sym same);
  formed = ap are_pieces same ∙ formed;
}

pub word_front_is : (w v : List ℕ) (ps qs : List Piece) (r : ℕ) → are_characters w ≡ true → are_pieces ps ≡ true
    → v ≡ w → qs ≡ ps → IsWordFront (in_atom (word_piece w ∷ ps) r) v qs r
word_front_is w v ps qs r word formed letters same = record {
  is = ap₂ (λ u all. in_atom (word_piece u ∷ all) r) (sym letters) (sym same);
  word = ap are_characters letters ∙ word;
  formed = ap are_pieces same ∙ formed;
}
