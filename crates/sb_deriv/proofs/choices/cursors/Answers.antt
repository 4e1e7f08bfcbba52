use Rattle.std.proofs.Common.{◌∙◌}
use Rattle.std.proofs.lemmas.List.{take_all}
use Rattle.sb_deriv.proofs.Turns.{taken_one}
use Rattle.sb_deriv.proofs.choices.cursors.Goals as goal

pub loop-map-preserved : goal.loop-map-preserved
loop-map-preserved c =
    taken_one c.args.maps.now c.loop-map.cursors.items c.push.new.self.items c.loop-map.map-index c.map-item.result
    c.new.result c.loop-map-test.true c.map-item.is c.new.ensures c.loop-map.invariant c.in_ok-push.ensures.items

pub returns : goal.returns
returns c = c.loop-map.invariant ∙ take_all c.loop-map.map-index c.args.maps.now c.loop-map-test.false
