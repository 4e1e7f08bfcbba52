use Rattle.std.proofs.Common.{arith}
use Rattle.sb_regex.proofs.CallerLemmas.{names_below, extends_more}
use Rattle.sb_problem.proofs.Keeping.{known_at, known_inside, normals_grown}
use Rattle.sb_problem.proofs.Chains.{joining_start, joining_made, joining_parts, joining_end, none_left, popped_known, smaller_made, smaller_parts}
use Rattle.sb_problem.proofs.normals.Normals.concatenation.Goals as goal

pub loop-last-init : goal.loop-last-init
loop-last-init c = (
  joining_start c.args.table.now c.eps.new.self c.args.self.now c.args.id c.in_ok-left.left.items c.in_ok-whole.whole
      c.requires.known c.requires.kind c.in_ok-whole.ensures.ok c.in_ok-left.ensures.items,
  c.in_ok-whole.ensures.extends,
)

pub cat-requires-clause-left : goal.cat-requires-clause-left
cat-requires-clause-left c =
    let j = c.loop-last.invariant in
    let known = popped_known c.args.table.now c.loop-last.arena c.args.self.now c.args.id c.loop-last.left.items
    c.pop.new.self.items c.loop-last.whole c.in-Some.last j.0 c.in-Some.ensures.items in
    let k = known_at c.args.table.now c.loop-last.arena c.args.self.now c.in-Some.last c.kept.result
    (normals_grown c.args.table.now c.args.arena.now c.loop-last.arena c.args.self.now j.1 c.requires.normals) known
    c.kept.ensures in
    names_below _ _ _ (rw c.in-Made.is at k).1

pub loop-last-smaller-in-Made : goal.loop-last-smaller-in-Made
loop-last-smaller-in-Made c =
    smaller_made c.args.table.now c.loop-last.left.items c.pop.new.self.items c.in-Some.last c.in-Some.ensures.items

pub loop-last-preserved-in-Made : goal.loop-last-preserved-in-Made
loop-last-preserved-in-Made c =
    let j = c.loop-last.invariant in
    let known = popped_known c.args.table.now c.loop-last.arena c.args.self.now c.args.id c.loop-last.left.items
    c.pop.new.self.items c.loop-last.whole c.in-Some.last j.0 c.in-Some.ensures.items in
    let k = known_at c.args.table.now c.loop-last.arena c.args.self.now c.in-Some.last c.kept.result
    (normals_grown c.args.table.now c.args.arena.now c.loop-last.arena c.args.self.now j.1 c.requires.normals) known
    c.kept.ensures in (
      joining_made c.args.table.now c.loop-last.arena c.cat.new.self c.args.self.now c.args.id c.loop-last.left.items
          c.pop.new.self.items c.loop-last.whole c.in-Some.last c.in-Made.regex c.in_ok-whole-in-Made.whole j.0
          c.in-Some.ensures.items (rw c.in-Made.is at k).1 c.in_ok-whole-in-Made.ensures.ok,
      extends_more _ _ _ j.1 c.in_ok-whole-in-Made.ensures.extends,
    )

pub arguments_of-requires : goal.arguments_of-requires
arguments_of-requires c =
    let known = popped_known c.args.table.now c.loop-last.arena c.args.self.now c.args.id c.loop-last.left.items
    c.pop.new.self.items c.loop-last.whole c.in-Some.last c.loop-last.invariant.0 c.in-Some.ensures.items in
    let inside = known_inside c.args.self.now c.in-Some.last known in
    omega (arith, inside, c.requires.normals.short)

pub loop-last-smaller : goal.loop-last-smaller
loop-last-smaller c =
    smaller_parts c.args.table.now c.loop-last.left.items c.pop.new.self.items c.arguments_of.result.now
    c.extend_from_slice.new.self.items c.in-Some.last c.in-Some.ensures.items c.arguments_of.ensures.terms
    c.in_ok-extend_from_slice-in_default-kept.ensures.items

pub loop-last-preserved : goal.loop-last-preserved
loop-last-preserved c =
    let j = c.loop-last.invariant in (
      joining_parts c.concatenation_groups.ensures c.args.table.now c.loop-last.arena c.args.self.now c.args.id
          c.loop-last.left.items c.pop.new.self.items c.arguments_of.result.now c.extend_from_slice.new.self.items
          c.loop-last.whole c.in-Some.last
          (normals_grown c.args.table.now c.args.arena.now c.loop-last.arena c.args.self.now j.1 c.requires.normals)
          j.0 c.in-Some.ensures.items c.kept.result c.kept.ensures c.in_default-kept.not-Made
          c.arguments_of.ensures.terms c.arguments_of.ensures.below
          c.in_ok-extend_from_slice-in_default-kept.ensures.items,
      j.1,
    )

pub returns-clause-names : goal.returns-clause-names
returns-clause-names c =
    joining_end c.args.table.now c.loop-last.arena c.args.self.now c.args.id c.loop-last.left.items c.loop-last.whole
    c.loop-last.invariant.0 (none_left c.loop-last.left c.in_default.ensures.cases.0)

pub returns-in_err-whole-in-Made-clause-extends : goal.returns-in_err-whole-in-Made-clause-extends
returns-in_err-whole-in-Made-clause-extends c =
    extends_more _ _ _ c.loop-last.invariant.1 c.in_err-whole-in-Made.ensures.extends
