use Rattle.std.proofs.lemmas.Bool.{false≢true}
use Rattle.sb_script.specs.Brought.{is_structure}
use Rattle.sb_term.proofs.CallerLemmas.{reaching_start, next_within, next_passes, reaching_step, reached_all, top_falls}
use Rattle.sb_atoms.specs.Reaching.{connected_parts}
use Rattle.sb_atoms.proofs.Connections.{structure_down}
use Rattle.sb_atoms.proofs.reached.terms_reached.Goals as goal

pub loop-next-init : goal.loop-next-init
loop-next-init c =
    reaching_start connected_parts c.args.table.now c.args.id c.new-ids.result.items c.new-left.result.keys
    c.insert.new.self.keys c.requires.number c.new-ids.ensures.items c.new-left.ensures.empty
    c.in_ok-insert.ensures.keys

pub connected_parts-requires : goal.connected_parts-requires
connected_parts-requires c = record {
  number = next_within connected_parts c.args.table.now c.args.id c.loop-next.ids.items c.loop-next.left.keys
      c.pop_last.new.self.keys c.in-Some.next c.loop-next.invariant c.in-Some.ensures.removal;
  structure = next_passes connected_parts c.args.table.now c.args.id is_structure structure_down c.requires.structure
      c.loop-next.ids.items c.loop-next.left.keys c.pop_last.new.self.keys c.in-Some.next c.loop-next.invariant
      c.in-Some.ensures.removal;
}

pub loop-next-preserved : goal.loop-next-preserved
loop-next-preserved c =
    reaching_step connected_parts c.args.table.now c.args.id c.loop-next.ids.items c.push.new.self.items
    c.loop-next.left.keys c.pop_last.new.self.keys c.put_all.new.left.keys c.connected_parts.result.now c.in-Some.next
    c.terms_each_once.ensures c.loop-next.invariant c.in-Some.ensures.removal c.connected_parts.ensures.terms
    c.connected_parts.ensures.below c.in_ok-put_all.ensures c.in_ok-push.ensures.items

pub loop-next-smaller : goal.loop-next-smaller
loop-next-smaller c =
    top_falls c.loop-next.left.keys c.pop_last.new.self.keys c.put_all.new.left.keys c.connected_parts.result.now
    c.in-Some.next c.in-Some.ensures.removal c.in-Some.ensures.all_below c.connected_parts.ensures.below
    c.in_ok-put_all.ensures

pub returns : goal.returns
returns c =
    reached_all connected_parts c.args.table.now c.args.id c.loop-next.ids.items c.loop-next.left.keys
    (λ some. false≢true (c.in_default.ensures.variant.1 some)) c.loop-next.invariant
