use Rattle.std.proofs.Common.{◌≡◌, List, ap, ◌∙◌, sym, arith}
use Rattle.std.proofs.lemmas.List.{get_or_default}
use Rattle.sb_clauses.specs.declared.occurrences.Node.{Node}
use Rattle.sb_clauses.specs.Occurring.{no_node, node_at}
use Rattle.sb_clauses.proofs.OccurrenceLemmas.{found_same}
use Rattle.sb_clauses.proofs.occurrences.Occurrences.remove.Goals as goal

pub returns-then-not-pass_over : goal.returns-then-not-pass_over
returns-then-not-pass_over c = λ kept gone inside h.
    let heads = c.args.self.now.heads in
    let at : node_at c.args.self.now.nodes.items c.args.number ≡ c.index.result.now =
    get_or_default c.args.self.now.nodes.items c.args.number no_node c.index.result.now
    (omega (arith, c.if-number-len.false, c.len.ensures, c.args.self.now.nodes.ok.0)) ∙ sym c.index.ensures in
    let same = c.pass_over.ensures.same c.if-not-pass_over.true in
    let led = c.pass_over.ensures.found kept gone inside heads
    (found_same kept heads c.args.self.now.nodes.items c.set_behind.new.nodes.items h c.set_behind.ensures) in
    c.begin_behind.ensures kept gone inside c.pass_over.new.nodes.items
    (ap (λ (ns : List Node). (node_at ns c.args.number).before) same
    ∙ c.set_behind.ensures.befores c.args.number ∙ ap (λ (n : Node). n.before) at ∙ sym c.number.ensures)
    (ap (λ (ns : List Node). (node_at ns c.args.number).list) same
    ∙ c.set_behind.ensures.lists c.args.number ∙ ap (λ (n : Node). n.list) at) led

pub returns-else-not-pass_over : goal.returns-else-not-pass_over
returns-else-not-pass_over c = λ kept gone inside h.
    c.pass_over.ensures.found kept gone inside c.args.self.now.heads
    (found_same kept c.args.self.now.heads c.args.self.now.nodes.items c.set_behind.new.nodes.items h
    c.set_behind.ensures)
