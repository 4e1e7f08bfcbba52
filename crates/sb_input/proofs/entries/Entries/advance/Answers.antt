use Rattle.std.proofs.Common.{◌∙◌, ◌≤◌, subst}
use Rattle.std.proofs.lemmas.Result.{err_from_is_err_and}
use Rattle.sb_input.specs.TakingEntries.{EntriesState}
use Rattle.sb_input.proofs.EntryLemmas.{found_behind, sofar_on, cut_now, cut_behind, turns_left-smaller}
use Rattle.sb_input.proofs.entries.Entries.advance.Goals as goal

pub returns-in-Some-clause-ok : goal.returns-in-Some-clause-ok
returns-in-Some-clause-ok g c =
    let found = rw c.in-Some.is at c.in_ok-next.ensures.ok in
    found_behind c.one_entry.ensures.bytes c.in-Some.next _ _ _ _ _ c.loop-next.invariant.sofar found
    c.in_ok-next.ensures.within

pub returns-in_err-next-clause-err : goal.returns-in_err-next-clause-err
returns-in_err-next-clause-err g c =
    let p = err_from_is_err_and c.from_residual.result c.from_residual.ensures.1 in
    let same = c.in_err-next.ensures.err in
    rw p.1
    (cut_now _ _ _ _ c.loop-next.invariant.sofar
    (subst (λ (s : EntriesState). s.read ≤ s.limit) same c.in_err-next.ensures.within.most))

pub loop-next-preserved : goal.loop-next-preserved
loop-next-preserved g c =
    let none = rw c.in_default.is at c.in_ok-next.ensures.ok in
    record {
      faults = c.in_ok-read_on.ensures.faults ∙ c.loop-next.invariant.faults;
      sofar = sofar_on _ _ _ _ _ _ _ c.loop-next.invariant.sofar none c.in_ok-read_on.ensures.ok;
    }

pub returns-in_err-read_on-clause-err : goal.returns-in_err-read_on-clause-err
returns-in_err-read_on-clause-err g c =
    let p = err_from_is_err_and c.from_residual-in_err-read_on.result c.from_residual-in_err-read_on.ensures.1 in
    let none = rw c.in_default.is at c.in_ok-next.ensures.ok in
    rw p.1 (cut_behind _ _ _ _ _ _ c.loop-next.invariant.sofar none c.in_err-read_on.ensures.err)

pub loop-next-smaller : goal.loop-next-smaller
loop-next-smaller g c =
    let none = rw c.in_default.is at c.in_ok-next.ensures.ok in
    turns_left-smaller c.loop-next.self c.find.new.self c.read_on.new.self (g.W.World.outside c.loop-next.world)
    (g.W.World.outside c.read_on.new.world) none c.in_ok-read_on.ensures.ok
