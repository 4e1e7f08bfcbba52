use Rattle.std.proofs.Common.{map, ap, ◌∙◌}
use Rattle.std.proofs.lemmas.List.{take_all}
use Rattle.sb_deriv.proofs.Turns.{mapped_one}
use Rattle.sb_deriv.specs.Choices.{map_of}
use Rattle.sb_deriv.proofs.deriver.Deriver.maps.Goals as goal

pub loop-part-preserved : goal.loop-part-preserved
loop-part-preserved c =
    mapped_one (map_of c.args.self.now) c.args.parts.now c.loop-part.maps.items c.push.new.self.items
    c.loop-part.part-index c.part-item.result c.new.result c.loop-part-test.true c.part-item.is
    (c.new.ensures ∙ c.pieces_of.ensures.value) c.loop-part.invariant c.in_ok-push.ensures.items

pub returns : goal.returns
returns c =
    c.loop-part.invariant
    ∙ ap (map (map_of c.args.self.now)) (take_all c.loop-part.part-index c.args.parts.now c.loop-part-test.false)
