use Rattle.sb_proof.specs.Lines.{piece_in}
use Rattle.sb_refute.proofs.Words.{map, refl, sym, ap, subst, ◌∙◌, IfOk-from_err, IsLettersOf, are_characters, pieces_of_word}
use Rattle.sb_refute.proofs.Settled.{bare-pieces, letters-characters}
use Rattle.sb_refute.proofs.bare.member_of.Goals as goal

pub returns-in-Some : goal.returns-in-Some
returns-in-Some c =
    let ps = map piece_in c.args.pieces.now in
    let word = subst (IsLettersOf ps) c.in-Some.is c.in_ok-found.ensures in (
      bare-pieces ps c.requires word.0 ∙ ap pieces_of_word (sym word.1),
      refl,
      ap are_characters word.1 ∙ letters-characters ps c.requires,
    )

pub returns-in-None : goal.returns-in-None
returns-in-None c = subst (IsLettersOf (map piece_in c.args.pieces.now)) c.in-None.is c.in_ok-found.ensures

pub returns-in_err-found : goal.returns-in_err-found
returns-in_err-found c = IfOk-from_err c.from_residual.result _ c.from_residual.ensures.0
