use Rattle.std.proofs.Common.{sym, subst}
use Rattle.sb_deriv.specs.Faithful.{IsFaithful, KeepsEntries}
use Rattle.sb_graph.specs.Findings.{AreBarren, AreAnswers}
use Rattle.sb_graph.proofs.Carrying.{graph_carried}
use Rattle.sb_graph.proofs.graph.Graph.outcome_by_members.Goals as goal

pub find_word-requires-clause-faithful : goal.find_word-requires-clause-faithful
find_word-requires-clause-faithful c =
    subst (λ g. IsFaithful c.args.arena.now g.memo) (sym c.self.view_is) c.requires.graph.faithful

pub returns-in_err-outcome-clause-graph : goal.returns-in_err-outcome-clause-graph
returns-in_err-outcome-clause-graph c =
    graph_carried c.args.arena.now c.find_word.new.arena c.find_word.ensures.extends c.find_word.new.deriver
    c.self.inside.dead.items c.self.inside.answers.entries c.self.inside.expanded.items
    c.find_word.ensures.faithful
    (subst (λ g. AreBarren c.args.arena.now g.dead) (sym c.self.view_is) c.requires.graph.barren)
    (subst (λ g. AreAnswers c.args.arena.now g.answers) (sym c.self.view_is) c.requires.graph.answered)

pub returns-clause-graph : goal.returns-clause-graph
returns-clause-graph c =
    graph_carried c.args.arena.now c.find_word.new.arena c.find_word.ensures.extends c.find_word.new.deriver
    c.self.inside.dead.items c.self.inside.answers.entries c.self.inside.expanded.items
    c.find_word.ensures.faithful
    (subst (λ g. AreBarren c.args.arena.now g.dead) (sym c.self.view_is) c.requires.graph.barren)
    (subst (λ g. AreAnswers c.args.arena.now g.answers) (sym c.self.view_is) c.requires.graph.answered)

pub returns-clause-derivatives_stay : goal.returns-clause-derivatives_stay
returns-clause-derivatives_stay c =
    subst (λ g. KeepsEntries g.memo c.find_word.new.deriver) c.self.view_is c.find_word.ensures.kept
