use Rattle.std.proofs.Common.{[], ◌∷◌, map, ap, ◌∙◌}
use Rattle.std.proofs.lemmas.List.{map-append}
use Rattle.sb_problem.specs.Parts as problem
use Rattle.sb_proof.specs.Lines.{piece_in}
use Rattle.sb_atoms.proofs.Gathering.{mapped-more, mapped-all}
use Rattle.sb_atoms.proofs.pieces.pieces_of.Goals as goal

pub loop-part-preserved : goal.loop-part-preserved
loop-part-preserved c =
    mapped-more problem.piece_in c.args.parts.now c.loop-part.part-index c.part-item.result []
    (map piece_in c.loop-part.all.items) (map piece_in c.push.new.self.items) (piece_in c.in_ok-piece_of.field-0)
    c.loop-part-test.true c.loop-part.invariant (c.in_ok-piece_of.ensures ∙ ap problem.piece_in c.part-item.is)
    (ap (map piece_in) c.in_ok-push.ensures.ok
    ∙ map-append piece_in c.loop-part.all.items (c.in_ok-piece_of.field-0 ∷ []))

pub returns : goal.returns
returns c =
    mapped-all problem.piece_in c.args.parts.now c.loop-part.part-index [] (map piece_in c.loop-part.all.items)
    c.loop-part-test.false c.loop-part.invariant
