use Rattle.std.proofs.Common.{◌≡◌, ◌<◌, length, get_or, false, ap, ◌∙◌, sym, Some, arith}
use Rattle.std.specs.HashSet.{contains}
use Rattle.std.specs.Option.{option_map}
use Rattle.std.proofs.lemmas.List.{length-map, get_or_read}
use Rattle.sb_lit.specs.Kept.{kept_at}
use Rattle.sb_clauses.specs.Records.{kept_of, clause_of}
use Rattle.sb_clauses.specs.Occurring.{are_equal, IsIn, is_false_place, node_at, no_node}
use Rattle.sb_clauses.proofs.Growing.{kept_at_place}
use Rattle.sb_clauses.proofs.OccurrenceLemmas.{in_next, walk_next, walk_end}
use Rattle.std.proofs.lemmas.Grind.{common_steps, elements}
use Rattle.sb_clauses.proofs.occurrences.false_in.Goals as goal

pub loop-next-preserved : goal.loop-next-preserved
loop-next-preserved c =
    let records = c.args.records.now in
    let kept = kept_of records in
    let has = contains are_equal c.args.all.now in
    let number = c.in-Some.number in
    let inside : IsIn c.args.nodes.now (length kept) c.args.list (Some number) =
    rw c.in-Some.is at c.loop-next.invariant.inside in
    let below : number < length records = omega (arith, inside.0, length-map records (option_map clause_of)) in
    let node : get_or c.args.nodes.now number c.index-nodes-number.result ≡ node_at c.args.nodes.now number =
    sym c.index-nodes-number.is ∙ get_or_read c.args.nodes.now number c.index-nodes-number.result
    (omega (arith, inside.0, c.requires.enough)) c.index-nodes-number.is no_node in
    let fails : is_false_place has (kept_at kept number) ≡ false =
    ap (is_false_place has)
    (kept_at_place records number c.index-records-number.result below c.index-records-number.is)
    ∙ sym c.is_false_place.ensures ∙ c.if-is_false_place.false in
    record {
      inside = rw (c.number-next.ensures, node) (in_next c.args.nodes.now (length kept) c.args.list number inside (c.requires.leads number inside.0));
      older = rw (c.number-next.ensures, node) (walk_next kept c.args.heads.now c.args.nodes.now has c.requires c.args.list number inside.0 inside.1
          (rw c.in-Some.is at c.loop-next.invariant.older) fails);
    }

pub returns : goal.returns
returns c =
    walk_end (kept_of c.args.records.now) c.args.heads.now c.args.nodes.now (contains are_equal c.args.all.now)
    c.requires c.args.list (rw c.in_default.is at c.loop-next.invariant.older)

pub bounds-records-number : goal.bounds-records-number
bounds-records-number c = grind (arith, common_steps)

pub offset_bounds-records-number : goal.offset_bounds-records-number
offset_bounds-records-number c = grind (arith, common_steps)

pub returns-then-is_false_place : goal.returns-then-is_false_place
returns-then-is_false_place c = grind (arith, elements)
