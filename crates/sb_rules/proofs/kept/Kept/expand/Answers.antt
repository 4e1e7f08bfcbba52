use Rattle.std.proofs.Common.{map, refl, ap, sym, ◌∙◌}
use Rattle.std.proofs.lemmas.Result.{err_from_is_err_and}
use Rattle.sb_proof.specs.Lines.{class_in}
use Rattle.sb_rulebook.specs.Follows.{follows}
use Rattle.sb_rulebook.specs.Lines.{expansion_line}
use Rattle.sb_rulebook.specs.Kept.{counting, with_expansion}
use Rattle.sb_rules.specs.Kept.{kept_in}
use Rattle.sb_rules.proofs.Staying.{judged_by, exits, wanted}
use Rattle.sb_regex.proofs.CallerLemmas.{extends_more}
use Rattle.sb_rules.proofs.kept.Kept.expand.Goals as goal

pub returns-in_err-judge_expansion-clause-judges : goal.returns-in_err-judge_expansion-clause-judges
returns-in_err-judge_expansion-clause-judges c = λ asked limit others.
    let p = err_from_is_err_and c.from_residual-in_err-judge_expansion.result
    c.from_residual-in_err-judge_expansion.ensures.1 in
    exits _ c.from_residual-in_err-judge_expansion.result p.0 _
    (follows asked (kept_in c.args.self.now others) (expansion_line c.args.number (map class_in c.args.classes.now)))
    c.args.self.now c.judge_expansion.new.self others p.1 p.2 (c.in_err-judge_expansion.ensures.judges asked others)

pub returns-clause-judges : goal.returns-clause-judges
returns-clause-judges c = λ asked limit others.
    let j = c.in_ok-judge_expansion.ensures.judges asked others in
    judged_by c.keep_expansion.result
    (follows asked (kept_in c.args.self.now others) (expansion_line c.args.number (map class_in c.args.classes.now)))
    (counting asked (with_expansion c.args.number c.in_ok-targets.targets.items
    (kept_in c.judge_expansion.new.self others)))
    c.args.self.now c.judge_expansion.new.self c.keep_expansion.new.self others
    (j.0 ∙ ap (λ ns. counting asked (with_expansion c.args.number ns (kept_in c.judge_expansion.new.self others)))
    (sym c.in_ok-targets.ensures)) j.1 (c.keep_expansion.ensures.counts asked others limit)

pub returns-clause-terms : goal.returns-clause-terms
returns-clause-terms c = record {
  extends = extends_more _ _ _ c.judge_expansion.ensures.terms.extends c.keep_expansion.ensures.terms.extends;
  normals = c.keep_expansion.ensures.terms.normals ∙ c.judge_expansion.ensures.terms.normals;
  measures = c.keep_expansion.ensures.terms.measures ∙ c.judge_expansion.ensures.terms.measures;
}

pub returns-in_err-targets-clause-judges : goal.returns-in_err-targets-clause-judges
returns-in_err-targets-clause-judges c = λ asked limit others.
    let x = c.from_residual in
    let p = err_from_is_err_and x.result x.ensures.1 in
    wanted _ x.result p.0 _ c.args.self.now c.args.self.now others p.1 p.2 refl
