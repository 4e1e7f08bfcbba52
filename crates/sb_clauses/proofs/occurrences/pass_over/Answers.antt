use Rattle.std.proofs.Common.{List, ap, ◌∙◌, sym}
use Rattle.sb_clauses.specs.declared.occurrences.Node.{Node}
use Rattle.sb_clauses.specs.Occurring.{node_at}
use Rattle.sb_clauses.proofs.OccurrenceLemmas.{found_led}
use Rattle.sb_clauses.proofs.occurrences.pass_over.Goals as goal

pub returns-clause-found : goal.returns-clause-found
returns-clause-found c = λ kept gone inside heads h.
    found_led kept heads c.args.nodes.now.items c.args.number c.args.before h gone inside c.requires.before
    c.lead.new.nodes.items c.in-Some.newer
    (ap (λ (ns : List Node). (node_at ns c.in-Some.newer).before) (sym c.deref.ensures.value)
    ∙ (c.is_led.ensures c.if-not-is_led.false).1) c.lead.ensures
