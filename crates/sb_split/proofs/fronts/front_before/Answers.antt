use Rattle.sb_proof.specs.declared.atom.Piece.{Piece}
use Rattle.sb_split.proofs.Words.{◌≡◌, ◌∷◌, ◌∙◌, ap, map, subst, sym, true, IfOk, IsFrontOf, are_characters, are_pieces, in_atom, piece_in, word_piece}
use Rattle.sb_split.proofs.FrontFacts.{word_parts}
use Rattle.sb_split.proofs.fronts.front_before.Goals as goal

pub constant_front-requires : goal.constant_front-requires
constant_front-requires c =
    subst (λ (p : Piece). are_pieces (piece_in p ∷ map piece_in c.args.behind.now) ≡ true) c.in-Constant.is c.requires

pub returns-in-Constant : goal.returns-in-Constant
returns-in-Constant c =
    subst (λ (p : Piece). IfOk c.constant_front.result
    (IsFrontOf (in_atom (piece_in p ∷ map piece_in c.args.behind.now) c.args.regex))) (sym c.in-Constant.is)
    c.constant_front.ensures

pub word_front-requires : goal.word_front-requires
word_front-requires c =
    let parts = word_parts c.in-Word.word.items (map piece_in c.args.behind.now)
    (subst (λ (p : Piece). are_pieces (piece_in p ∷ map piece_in c.args.behind.now) ≡ true) c.in-Word.is c.requires) in
    record { word = ap are_characters c.as_slice.ensures.value ∙ parts.0; formed = parts.1 }

pub returns-in-Word : goal.returns-in-Word
returns-in-Word c =
    subst (λ (p : Piece). IfOk c.word_front.result
    (IsFrontOf (in_atom (piece_in p ∷ map piece_in c.args.behind.now) c.args.regex))) (sym c.in-Word.is)
    (subst (λ w. IfOk c.word_front.result
    (IsFrontOf (in_atom (word_piece w ∷ map piece_in c.args.behind.now) c.args.regex))) c.as_slice.ensures.value
    c.word_front.ensures)
