use Rattle.std.proofs.Common.{sym, subst, ap, ◌≡◌, ◌∷◌, [], ◌++◌, refl, ◌∙◌}
use Rattle.std.proofs.lemmas.List.Elements.{All-nil, All-cons}
use Rattle.std.proofs.lemmas.List.{append-nil}
use Rattle.sb_deriv.specs.Faithful.{IsFaithful}
use Rattle.sb_graph.specs.Findings.{AreBarren, AreAnswers}
use Rattle.sb_graph.proofs.Carrying.{barren_carried, answers_carried}
use Rattle.sb_regex.proofs.CallerLemmas.{extends_same}
use Rattle.sb_graph.proofs.graph.Graph.derive.Goals as goal

pub derive-requires-clause-faithful : goal.derive-requires-clause-faithful
derive-requires-clause-faithful c =
    subst (λ g. IsFaithful c.args.arena.now g.memo) (sym c.self.view_is) c.requires.graph.faithful

pub returns-clause-graph : goal.returns-clause-graph
returns-clause-graph c =
    let more = c.derive.ensures.extends in
    record {
      faithful = c.derive.ensures.faithful;
      barren = barren_carried c.args.arena.now c.derive.new.arena more c.self.inside.dead.items
          (subst (λ g. AreBarren c.args.arena.now g.dead) (sym c.self.view_is) c.requires.graph.barren);
      answered = answers_carried c.args.arena.now c.derive.new.arena more c.self.inside.answers.entries
          (subst (λ g. AreAnswers c.args.arena.now g.answers) (sym c.self.view_is) c.requires.graph.answered);
    }

pub returns-then-is_some-clause-expands : goal.returns-then-is_some-clause-expands
returns-then-is_some-clause-expands c =
    record { more = []; is = sym (append-nil c.args.self.now.expanded); each = All-nil (λ n. n ≡ c.args.regex) }

pub returns-then-is_some-clause-extends : goal.returns-then-is_some-clause-extends
returns-then-is_some-clause-extends c = extends_same c.args.arena.now

pub returns-in_err-push-clause-extends : goal.returns-in_err-push-clause-extends
returns-in_err-push-clause-extends c = extends_same c.args.arena.now

pub returns-clause-extends : goal.returns-clause-extends
returns-clause-extends c = c.derive.ensures.extends

pub returns-clause-expands : goal.returns-clause-expands
returns-clause-expands c =
    record {
      more = c.args.regex ∷ [];
      is = c.in_ok-push.ensures.items ∙ ap (λ g. g.expanded ++ c.args.regex ∷ []) c.self.view_is;
      each = All-cons (λ n. n ≡ c.args.regex) c.args.regex [] refl (All-nil (λ n. n ≡ c.args.regex));
    }
