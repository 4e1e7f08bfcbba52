use Rattle.std.proofs.Common.{arith}
use Rattle.std.proofs.lemmas.Bool.{false≢true}
use Rattle.sb_term.specs.Numbered.{term_at}
use Rattle.sb_term.proofs.CallerLemmas.{reaching_start, next_within, reaching_step, reached_all, top_falls}
use Rattle.sb_sorts.specs.Unfolding.{open_parts, open_numbers}
use Rattle.sb_sorts.proofs.OpenTerms.{open_parts_are, open_below}
use Rattle.sb_sorts.proofs.unfold.open_terms.Goals as goal

pub loop-next-init : goal.loop-next-init
loop-next-init c =
    reaching_start open_parts c.args.table.now c.args.body c.new-ids.result.items c.new-left.result.keys
    c.insert.new.self.keys c.requires c.new-ids.ensures.items c.new-left.ensures.empty c.in_ok-insert.ensures.keys

pub arguments_of-requires : goal.arguments_of-requires
arguments_of-requires c =
    next_within open_parts c.args.table.now c.args.body c.loop-next.ids.items c.loop-next.left.keys
    c.pop_last.new.self.keys c.in-Some.next c.loop-next.invariant c.in-Some.ensures.removal

pub put_open-requires : goal.put_open-requires
put_open-requires c =
    let within = next_within open_parts c.args.table.now c.args.body c.loop-next.ids.items c.loop-next.left.keys
    c.pop_last.new.self.keys c.in-Some.next c.loop-next.invariant c.in-Some.ensures.removal in
    λ k d l. omega (arith, c.arguments_of.ensures.below k d l, within)

pub loop-next-preserved : goal.loop-next-preserved
loop-next-preserved c =
    let ts = c.args.table.now in
    let is = c.arguments_of.result.now in
    reaching_step open_parts ts c.args.body c.loop-next.ids.items c.push.new.self.items c.loop-next.left.keys
    c.pop_last.new.self.keys c.put_open.new.left.keys (open_numbers ts is) c.in-Some.next c.terms_each_once.ensures
    c.loop-next.invariant c.in-Some.ensures.removal
    (open_parts_are ts (term_at ts c.in-Some.next) is c.arguments_of.ensures.terms)
    (open_below ts c.in-Some.next is c.arguments_of.ensures.below) c.in_ok-put_open.ensures c.in_ok-push.ensures.items

pub loop-next-smaller : goal.loop-next-smaller
loop-next-smaller c =
    let ts = c.args.table.now in
    let is = c.arguments_of.result.now in
    top_falls c.loop-next.left.keys c.pop_last.new.self.keys c.put_open.new.left.keys (open_numbers ts is)
    c.in-Some.next c.in-Some.ensures.removal c.in-Some.ensures.all_below
    (open_below ts c.in-Some.next is c.arguments_of.ensures.below) c.in_ok-put_open.ensures

pub returns : goal.returns
returns c =
    reached_all open_parts c.args.table.now c.args.body c.loop-next.ids.items c.loop-next.left.keys
    (λ some. false≢true (c.in_default.ensures.variant.1 some)) c.loop-next.invariant
