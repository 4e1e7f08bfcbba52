use Rattle.std.proofs.Common.{sym, ap, subst, ◌∙◌}
use Rattle.sb_lang.specs.Language.{language}
use Rattle.sb_lang.specs.Least.{IsShortestLeast}
use Rattle.sb_deriv.specs.Faithful.{IsFaithful, KeepsEntries}
use Rattle.sb_regex.specs.Numbered.{regex_at}
use Rattle.sb_regex.proofs.CallerLemmas.{at_kept, number_kept}
use Rattle.sb_graph.specs.Members.{IsOutcome}
use Rattle.sb_graph.specs.Findings.{AreBarren, AreAnswers}
use Rattle.sb_graph.proofs.Carrying.{graph_carried}
use Rattle.sb_graph.proofs.graph.Graph.walk_members.Goals as goal

pub find_word-requires : goal.find_word-requires
find_word-requires c = record {
  known = c.requires.known;
  faithful = subst (λ g. IsFaithful c.args.arena.now g.memo) (sym c.self.view_is) c.requires.graph.faithful;
}

pub returns-in_err-outcome : goal.returns-in_err-outcome
returns-in_err-outcome c =
    let f = c.find_word.ensures in
    record {
      extends = f.extends;
      graph = graph_carried c.args.arena.now c.find_word.new.arena f.extends c.find_word.new.deriver
          c.self.inside.dead.items c.self.inside.answers.entries c.self.inside.expanded.items f.faithful
          (subst (λ g. AreBarren c.args.arena.now g.dead) (sym c.self.view_is) c.requires.graph.barren)
          (subst (λ g. AreAnswers c.args.arena.now g.answers) (sym c.self.view_is) c.requires.graph.answered);
      marks = ap (λ g. g.dead) c.self.view_is;
      expanded = ap (λ g. g.expanded) c.self.view_is;
      derivatives_stay = subst (λ g. KeepsEntries g.memo c.find_word.new.deriver) c.self.view_is f.kept;
    }

pub returns-in_err-keep : goal.returns-in_err-keep
returns-in_err-keep c =
    let f = c.find_word.ensures in
    let k = c.in_err-keep.ensures in
    let least = subst (IsOutcome (language (regex_at c.args.arena.now c.args.root))) c.in-Found.is
    c.in_ok-outcome.ensures.found in
    let kept = at_kept c.args.arena.now c.find_word.new.arena c.args.root f.extends c.requires.known in
    record {
      extends = f.extends;
      graph = k.graph c.find_word.new.arena
          (number_kept c.args.arena.now c.find_word.new.arena c.args.root f.extends c.requires.known)
          (subst (λ r. IsShortestLeast (language r) c.in-Found.word) (sym kept) least)
          (graph_carried c.args.arena.now c.find_word.new.arena f.extends c.find_word.new.deriver
          c.self.inside.dead.items c.self.inside.answers.entries c.self.inside.expanded.items f.faithful
          (subst (λ g. AreBarren c.args.arena.now g.dead) (sym c.self.view_is) c.requires.graph.barren)
          (subst (λ g. AreAnswers c.args.arena.now g.answers) (sym c.self.view_is) c.requires.graph.answered));
      marks = k.rest.1 ∙ ap (λ g. g.dead) c.self.view_is;
      expanded = k.rest.2 ∙ ap (λ g. g.expanded) c.self.view_is;
      derivatives_stay = subst (KeepsEntries c.args.self.now.memo) (sym k.rest.0)
          (subst (λ g. KeepsEntries g.memo c.find_word.new.deriver) c.self.view_is f.kept);
    }

pub returns-in_ok-keep : goal.returns-in_ok-keep
returns-in_ok-keep c =
    let f = c.find_word.ensures in
    let k = c.in_ok-keep.ensures in
    let least = subst (IsOutcome (language (regex_at c.args.arena.now c.args.root))) c.in-Found.is
    c.in_ok-outcome.ensures.found in
    let kept = at_kept c.args.arena.now c.find_word.new.arena c.args.root f.extends c.requires.known in
    record {
      extends = f.extends;
      graph = k.graph c.find_word.new.arena
          (number_kept c.args.arena.now c.find_word.new.arena c.args.root f.extends c.requires.known)
          (subst (λ r. IsShortestLeast (language r) c.in-Found.word) (sym kept) least)
          (graph_carried c.args.arena.now c.find_word.new.arena f.extends c.find_word.new.deriver
          c.self.inside.dead.items c.self.inside.answers.entries c.self.inside.expanded.items f.faithful
          (subst (λ g. AreBarren c.args.arena.now g.dead) (sym c.self.view_is) c.requires.graph.barren)
          (subst (λ g. AreAnswers c.args.arena.now g.answers) (sym c.self.view_is) c.requires.graph.answered));
      marks = k.rest.1 ∙ ap (λ g. g.dead) c.self.view_is;
      expanded = k.rest.2 ∙ ap (λ g. g.expanded) c.self.view_is;
      derivatives_stay = subst (KeepsEntries c.args.self.now.memo) (sym k.rest.0)
          (subst (λ g. KeepsEntries g.memo c.find_word.new.deriver) c.self.view_is f.kept);
    }

pub returns-in_default : goal.returns-in_default
returns-in_default c =
    let f = c.find_word.ensures in
    record {
      extends = f.extends;
      graph = graph_carried c.args.arena.now c.find_word.new.arena f.extends c.find_word.new.deriver
          c.self.inside.dead.items c.self.inside.answers.entries c.self.inside.expanded.items f.faithful
          (subst (λ g. AreBarren c.args.arena.now g.dead) (sym c.self.view_is) c.requires.graph.barren)
          (subst (λ g. AreAnswers c.args.arena.now g.answers) (sym c.self.view_is) c.requires.graph.answered);
      marks = ap (λ g. g.dead) c.self.view_is;
      expanded = ap (λ g. g.expanded) c.self.view_is;
      derivatives_stay = subst (λ g. KeepsEntries g.memo c.find_word.new.deriver) c.self.view_is f.kept;
    }
