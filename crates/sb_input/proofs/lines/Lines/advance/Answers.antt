use Rattle.std.proofs.Common.{◌∙◌}
use Rattle.std.proofs.lemmas.Result.{err_from_is_err_and}
use Rattle.sb_input.proofs.LineLemmas.{found_behind, sofar_on, cut_behind, turns_left-smaller}
use Rattle.sb_input.proofs.lines.Lines.advance.Goals as goal

pub returns-in-Some-clause-ok : goal.returns-in-Some-clause-ok
returns-in-Some-clause-ok g c =
    found_behind c.in-Some.found _ _ _ _ _ c.loop-found.invariant.sofar c.in-Some.ensures.found c.in-Some.ensures.within
    c.in-Some.ensures.below

pub loop-found-preserved : goal.loop-found-preserved
loop-found-preserved g c = record {
  faults = c.in_ok-read_on.ensures.faults ∙ c.loop-found.invariant.faults;
  sofar = sofar_on _ _ _ _ _ _ _ c.loop-found.invariant.sofar c.in_default.ensures.found c.in_ok-read_on.ensures.ok;
}

pub returns-in_err-read_on-clause-err : goal.returns-in_err-read_on-clause-err
returns-in_err-read_on-clause-err g c =
    let p = err_from_is_err_and c.from_residual.result c.from_residual.ensures.1 in
    rw p.1
    (cut_behind _ _ _ _ _ _ _ c.loop-found.invariant.sofar c.in_default.ensures.found c.in_err-read_on.ensures.err)

pub loop-found-smaller : goal.loop-found-smaller
loop-found-smaller g c =
    turns_left-smaller c.loop-found.self c.find.new.self c.read_on.new.self (g.W.World.outside c.loop-found.world)
    (g.W.World.outside c.read_on.new.world) c.in_default.ensures.found c.in_ok-read_on.ensures.ok
