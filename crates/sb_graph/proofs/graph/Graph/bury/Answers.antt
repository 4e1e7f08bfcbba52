use Rattle.std.proofs.Common.{◌≡◌, ◌-◌, ◌++◌, false, length, take, replicate, ap, sym, subst, ◌∙◌, arith, vec_len}
use Rattle.std.proofs.lemmas.List.{take_at}
use Rattle.sb_graph.specs.Search.{AreMarked}
use Rattle.sb_graph.proofs.Steps.{regexes_below, buried}
use Rattle.sb_graph.proofs.graph.Graph.bury.Goals as goal

pub mark-requires : goal.mark-requires
mark-requires c =
    let l : length c.deref_mut.result.now ≡ c.args.len = c.deref_mut.ensures.len ∙ c.in_ok-resize.ensures.len in
    λ k h. let x = regexes_below c.args.queue.now c.regexes.result.now c.args.len c.regexes.ensures c.requires.known k h
    in omega (arith, x, l)

pub returns-clause-marks : goal.returns-clause-marks
returns-clause-marks c =
    let l : length c.deref_mut.result.now ≡ c.args.len = c.deref_mut.ensures.len ∙ c.in_ok-resize.ensures.len in
    let old = ap (λ g. g.dead) c.self.view_is in
    let made = c.deref_mut.ensures.value ∙ c.in_ok-resize.ensures.items
    ∙ ap (λ dead. take c.args.len dead ++ replicate (c.args.len - vec_len c.self.inside.dead) false) old in
    let new = take_at c.mark.new.dead _ c.resize.new.self.len (c.mark.auto.dead ∙ c.deref_mut.ensures.len) in
    subst (λ dead. AreMarked c.args.self.now.dead c.args.queue.now dead) (sym new)
    (buried c.args.self.now.dead c.deref_mut.result.now c.mark.new.dead c.args.queue.now c.regexes.result.now c.args.len
    _ made l c.regexes.ensures c.requires.known c.requires.marks c.mark.ensures)
