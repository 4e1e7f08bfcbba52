use Rattle.std.proofs.Common.{◌<◌, length, get_or, ap, sym, subst, ◌∙◌, arith}
use Rattle.sb_regex.specs.Numbered.{AllNumbers}
use Rattle.sb_regex.proofs.CallerLemmas.{number_in}
use Rattle.std.specs.List.{Contains}
use Rattle.sb_members.specs.Passing.{GoesOn}
use Rattle.sb_members.proofs.Beginnings.{passing_start, passing_next, passing_done}
use Rattle.sb_members.proofs.starts.starts_of.Goals as goal

pub loop-place-init : goal.loop-place-init
loop-place-init c =
    let put = c.in_ok-put_each.ensures in
    let states = c.args.states.now in
    let keys = c.put_each.new.starts.keys in
    passing_start c.args.arena.now states keys c.requires
    (subst (λ ns. GoesOn (Contains states) ns keys) c.new-starts.ensures.empty put.0) put.1

pub pass-requires : goal.pass-requires
pass-requires c =
    let keys = c.as_slice.ensures.keys in
    number_in c.args.arena.now c.as_slice.result.now c.loop-place.place c.index-as_slice-place.result
    (subst (AllNumbers c.args.arena.now) (sym keys) c.loop-place.invariant.known)
    (subst (λ ns. c.loop-place.place < length ns) (sym keys) (omega (arith, c.loop-place-test.true, c.len.ensures.len)))
    c.index-as_slice-place.is

pub loop-place-preserved : goal.loop-place-preserved
loop-place-preserved c =
    let n = c.index-as_slice-place.result in
    let place = c.loop-place.place in
    passing_next c.args.arena.now c.args.states.now c.loop-place.starts.keys c.pass.new.starts.keys place n
    (omega (arith, c.loop-place-test.true, c.len.ensures.len))
    (c.index-as_slice-place.is ∙ ap (λ ns. get_or ns place n) c.as_slice.ensures.keys) c.in_ok-pass.ensures
    c.loop-place.invariant

pub returns : goal.returns
returns c =
    passing_done c.args.arena.now c.args.states.now c.loop-place.starts.keys c.loop-place.place
    (omega (arith, c.loop-place-test.false, c.len.ensures.len)) c.loop-place.invariant
