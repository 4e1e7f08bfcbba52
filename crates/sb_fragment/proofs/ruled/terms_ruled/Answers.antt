use Rattle.std.proofs.lemmas.Bool.{false≢true}
use Rattle.sb_term.proofs.CallerLemmas.{reaching_start, next_within, reaching_step, reached_all, top_falls}
use Rattle.sb_fragment.specs.Ruled.{ruled_parts}
use Rattle.sb_fragment.proofs.ruled.terms_ruled.Goals as goal

pub loop-next-init : goal.loop-next-init
loop-next-init c =
    reaching_start ruled_parts c.args.table.now c.args.id c.new-ids.result.items c.new-left.result.keys
    c.insert.new.self.keys c.requires c.new-ids.ensures.items c.new-left.ensures.empty c.in_ok-insert.ensures.keys

pub ruled_parts-requires : goal.ruled_parts-requires
ruled_parts-requires c =
    next_within ruled_parts c.args.table.now c.args.id c.loop-next.ids.items c.loop-next.left.keys
    c.pop_last.new.self.keys c.in-Some.next c.loop-next.invariant c.in-Some.ensures.removal

pub loop-next-preserved : goal.loop-next-preserved
loop-next-preserved c =
    reaching_step ruled_parts c.args.table.now c.args.id c.loop-next.ids.items c.push.new.self.items
    c.loop-next.left.keys c.pop_last.new.self.keys c.put_all.new.left.keys c.ruled_parts.result.now c.in-Some.next
    c.terms_each_once.ensures c.loop-next.invariant c.in-Some.ensures.removal c.ruled_parts.ensures.terms
    c.ruled_parts.ensures.below c.in_ok-put_all.ensures c.in_ok-push.ensures.items

pub loop-next-smaller : goal.loop-next-smaller
loop-next-smaller c =
    top_falls c.loop-next.left.keys c.pop_last.new.self.keys c.put_all.new.left.keys c.ruled_parts.result.now
    c.in-Some.next c.in-Some.ensures.removal c.in-Some.ensures.all_below c.ruled_parts.ensures.below
    c.in_ok-put_all.ensures

pub returns : goal.returns
returns c =
    reached_all ruled_parts c.args.table.now c.args.id c.loop-next.ids.items c.loop-next.left.keys
    (λ some. false≢true (c.in_default.ensures.variant.1 some)) c.loop-next.invariant
