use Rattle.std.proofs.Common.{None}
use Rattle.std.specs.Option.{option_map}
use Rattle.std.proofs.lemmas.List.{map-set}
use Rattle.sb_clauses.specs.Records.{clause_of}
use Rattle.sb_clauses.proofs.OccurrenceLemmas.{found_emptied, none_there, still_inside}
use Rattle.sb_clauses.proofs.clauses.empty.Goals as goal

pub returns-clause-emptied : goal.returns-clause-emptied
returns-clause-emptied c = map-set (option_map clause_of) c.args.records.now.items c.args.number None

pub returns-clause-found : goal.returns-clause-found
returns-clause-found c =
    c.remove.ensures _ (none_there c.args.records.now.items c.args.number)
    (still_inside c.args.records.now.items c.args.number c.requires.inside)
    (found_emptied c.args.records.now.items c.args.number c.args.occurrences.now.heads c.args.occurrences.now.nodes.items
    c.requires.found)
