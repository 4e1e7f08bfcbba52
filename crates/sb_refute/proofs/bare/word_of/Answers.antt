use Rattle.std.specs.Option.{option_copied}
use Rattle.sb_proof.specs.Lines.{piece_in}
use Rattle.sb_proof.specs.declared.atom.Piece as code
use Rattle.sb_refute.proofs.Words.{List, map, Some, refl, sym, ap, ◌∙◌, arith, take_all, IfOk-from_err, are_letters, letters_of}
use Rattle.sb_refute.proofs.Settled.{letters-more, not-letters, of-constant, of-word, piece-characters, piece-there}
use Rattle.sb_refute.proofs.bare.word_of.Goals as goal

pub loop-piece-init : goal.loop-piece-init
loop-piece-init c = (refl, c.new-word.ensures.items)

pub returns-in_default : goal.returns-in_default
returns-in_default c =
    let p = c.piece-item.result in
    not-letters (map piece_in c.args.pieces.now) c.loop-piece.piece-index (piece_in p)
    (piece-there c.args.pieces.now c.loop-piece.piece-index p c.loop-piece-test.true c.piece-item.is)
    (of-constant (piece_in p) (sym (ap option_copied c.in_default.is) ∙ c.characters_of.ensures))

pub add_characters-requires : goal.add_characters-requires
add_characters-requires c =
    let p = c.piece-item.result in
    let w = c.in-Some.characters.now in
    piece-characters (map piece_in c.args.pieces.now) c.loop-piece.piece-index w c.requires
    (piece-there c.args.pieces.now c.loop-piece.piece-index p c.loop-piece-test.true c.piece-item.is
    ∙ ap Some (of-word (piece_in p) w (sym (ap option_copied c.in-Some.is) ∙ c.characters_of.ensures)))

pub loop-piece-preserved : goal.loop-piece-preserved
loop-piece-preserved c =
    let p = c.piece-item.result in
    let w = c.in-Some.characters.now in
    letters-more c.args.pieces.now c.loop-piece.piece-index p w c.loop-piece.word.items c.add_characters.new.word.items
    c.loop-piece-test.true c.piece-item.is
    (of-word (piece_in p) w (sym (ap option_copied c.in-Some.is) ∙ c.characters_of.ensures)) c.loop-piece.invariant
    c.in_ok-add_characters.ensures

pub returns : goal.returns
returns c =
    let all = take_all c.loop-piece.piece-index c.args.pieces.now (omega (arith, c.loop-piece-test.false)) in (
      ap (λ (ps : List code.Piece). are_letters (map piece_in ps)) (sym all) ∙ c.loop-piece.invariant.0,
      c.loop-piece.invariant.1 ∙ ap (λ (ps : List code.Piece). letters_of (map piece_in ps)) all,
    )

pub returns-in_err-add_characters : goal.returns-in_err-add_characters
returns-in_err-add_characters c = IfOk-from_err c.from_residual.result _ c.from_residual.ensures.0
