-- The pieces of a String term, as the code has them.
use Rattle.std.specs.Prelude.{Bool, true, List, map}
use Rattle.std.specs.List.{list_all}
use Rattle.sb_word.specs.Words.{are_characters}
use Rattle.sb_script.specs.Pieces.{Piece, constant_piece, word_piece}
use Rattle.sb_problem.specs.declared.pieces.Part.{Part}
use Rattle.sb_problem.specs.declared.pieces.Part.TheVariants as part

abbrev pub piece_in : Part → Piece
piece_in (part.Constant serial) = constant_piece serial.0
piece_in (part.Word codes) = word_piece codes.items

abbrev pub parts_in : List Part → List Piece
parts_in parts = map piece_in parts

-- each word is one of characters
abbrev pub is_written : Piece → Bool
is_written (constant_piece serial) = true
is_written (word_piece w) = are_characters w

abbrev pub are_written : List Piece → Bool
are_written ps = list_all is_written ps
