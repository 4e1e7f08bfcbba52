use Rattle.std.proofs.Common.{ap, sym, ◌∙◌, arith}
use Rattle.sb_regex.specs.Nodes.{node_regex}
use Rattle.sb_regex.proofs.Spines.{chain_nil, spine_next, numbers_push, not_cat}
use Rattle.sb_regex.proofs.arena.Arena.spine.Goals as goal

pub loop-head-init : goal.loop-head-init
loop-head-init c = (
  c.requires,
  rw (c.new-heads.ensures.items) (λ k d l. absurd (omega arith)),
  chain_nil c.args.self.now _ _ c.new-heads.ensures.items,
)

pub node-requires : goal.node-requires
node-requires c = c.loop-head.invariant.0

pub loop-head-smaller : goal.loop-head-smaller
loop-head-smaller c = let p = rw (c.in-Cat.is) at c.node.ensures.parts in p 1 0 (omega arith)

pub loop-head-preserved : goal.loop-head-preserved
loop-head-preserved c =
    let p = rw (c.in-Cat.is) at c.node.ensures.parts in
    let value = ap (node_regex c.args.self.now) (sym c.in-Cat.is) ∙ c.node.ensures.value in
    let head = p 0 0 (omega arith) in
    let rest = p 1 0 (omega arith) in (
      omega (arith, rest, c.loop-head.invariant.0),
      numbers_push c.args.self.now _ _ _ c.loop-head.invariant.1 (omega (arith, head, c.loop-head.invariant.0))
          c.in_ok-push.ensures.items,
      spine_next c.args.self.now _ _ _ _ _ _ c.in_ok-push.ensures.items value c.loop-head.invariant.2,
    )

pub returns : goal.returns
returns c = record {
  value = c.loop-head.invariant.2;
  heads = c.loop-head.invariant.1;
  last = c.loop-head.invariant.0;
  ends = not_cat c.args.self.now _ _ c.node.ensures.value c.in_default.not-Cat;
}
