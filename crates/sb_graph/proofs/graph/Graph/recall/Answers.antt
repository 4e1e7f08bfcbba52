use Rattle.std.proofs.Common.{ap, sym, subst, ◌∙◌, option_copied}
use Rattle.sb_lang.specs.Language.{language}
use Rattle.sb_lang.specs.Least.{IsShortestLeast}
use Rattle.sb_regex.specs.Numbered.{regex_at}
use Rattle.sb_graph.specs.Findings.{answer_of}
use Rattle.sb_graph.proofs.Ends.{marked_has_no_word}
use Rattle.sb_graph.proofs.graph.Graph.recall.Goals as goal

pub returns-then-is_dead-clause-found : goal.returns-then-is_dead-clause-found
returns-then-is_dead-clause-found c = λ rs g.
    marked_has_no_word c.nullable_has_empty_word.ensures c.derivative_along_has_rests.ensures rs c.args.self.now.dead
    c.args.root g.barren (sym c.is_dead.ensures ∙ c.if-is_dead.true)

pub returns-clause-found : goal.returns-clause-found
returns-clause-found c = λ rs g.
    let entry = ap (λ g. answer_of g.answers c.args.root) (sym c.self.view_is) ∙ sym c.get.ensures.value
    ∙ ap option_copied c.in-Some.is in
    subst (IsShortestLeast (language (regex_at rs c.args.root))) (sym (c.in_ok-word.ensures ∙ c.codes.ensures.value))
    (g.answered c.args.root c.in-Some.word.now entry).least
