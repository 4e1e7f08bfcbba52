use Rattle.std.proofs.Common.{sym, subst, ◌∙◌}
use Rattle.sb_lang.specs.Language.{language}
use Rattle.sb_lang.specs.Least.{IsShortestLeast}
use Rattle.sb_regex.specs.Numbered.{regex_at}
use Rattle.sb_deriv.specs.Faithful.{IsFaithful}
use Rattle.sb_graph.specs.Findings.{AreBarren, AreAnswers}
use Rattle.sb_graph.proofs.Steps.{answers_with}
use Rattle.sb_graph.proofs.graph.Graph.keep.Goals as goal

pub returns-clause-graph : goal.returns-clause-graph
returns-clause-graph c = λ rs known least g.
    let copy = sym (c.in_ok-copy.ensures ∙ c.codes.ensures.value) in
    record {
      faithful = subst (λ g. IsFaithful rs g.memo) (sym c.self.view_is) g.faithful;
      barren = subst (λ g. AreBarren rs g.dead) (sym c.self.view_is) g.barren;
      answered = answers_with rs c.self.inside.answers.entries c.insert.new.self.entries c.args.root c.in_ok-copy.copy
          c.in_ok-insert.ensures.updates.0 known
          (subst (IsShortestLeast (language (regex_at rs c.args.root))) copy least)
          (subst (λ g. AreAnswers rs g.answers) (sym c.self.view_is) g.answered);
    }
