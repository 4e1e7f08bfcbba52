use Rattle.std.proofs.Common.{sym, ◌∙◌, ap}
use Rattle.std.specs.Option.{option_map}
use Rattle.sb_lit.specs.Kept.{is_above}
use Rattle.sb_clauses.specs.Records.{clause_of}
use Rattle.sb_clauses.proofs.Scoping.{emptied_record, kept_record, no_record}
use Rattle.sb_clauses.proofs.OccurrenceLemmas.{found_emptied, none_there, still_inside}
use Rattle.sb_clauses.proofs.clauses.drop_record.Goals as goal

pub returns-then-number-records-clause-dropped : goal.returns-then-number-records-clause-dropped
returns-then-number-records-clause-dropped c =
    no_record c.args.level c.args.records.now c.args.number c.if-number-records.true

pub returns-then-is_above-clause-dropped : goal.returns-then-is_above-clause-dropped
returns-then-is_above-clause-dropped c =
    emptied_record c.args.level c.args.records.now c.args.number c.index-records-number.result c.if-number-records.false
    c.index-records-number.is
    (ap (λ o. is_above (option_map clause_of o) c.args.level) c.index-records-number.is
    ∙ sym c.is_above.ensures ∙ c.if-is_above.true)

pub returns-then-is_above-clause-found : goal.returns-then-is_above-clause-found
returns-then-is_above-clause-found c =
    c.remove.ensures _ (none_there c.args.records.now c.args.number)
    (still_inside c.args.records.now c.args.number c.if-number-records.false)
    (found_emptied c.args.records.now c.args.number c.args.occurrences.now.heads
    c.args.occurrences.now.nodes.items c.requires)

pub returns-else-is_above-clause-dropped : goal.returns-else-is_above-clause-dropped
returns-else-is_above-clause-dropped c =
    kept_record c.args.level c.args.records.now c.args.number c.index-records-number.result c.if-number-records.false
    c.index-records-number.is
    (ap (λ o. is_above (option_map clause_of o) c.args.level) c.index-records-number.is
    ∙ sym c.is_above.ensures ∙ c.if-is_above.false)
