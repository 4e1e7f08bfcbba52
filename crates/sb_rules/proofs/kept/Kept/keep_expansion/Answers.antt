use Rattle.std.proofs.Common.{Ok, refl, ap, ◌∙◌, subst, sym}
use Rattle.std.proofs.lemmas.Result.{err_from_is_err_and}
use Rattle.sb_rulebook.specs.Kept.{with_expansion}
use Rattle.sb_rules.specs.Kept.{kept_in}
use Rattle.sb_rules.proofs.Staying.{refused_count}
use Rattle.sb_rules.proofs.Expanded.{expansion_kept}
use Rattle.sb_regex.specs.Numbered.{AllNumbers}
use Rattle.sb_regex.proofs.CallerLemmas.{extends_same}
use Rattle.sb_rules.proofs.kept.Kept.keep_expansion.Goals as goal

pub returns-in_err-counted-clause-counts : goal.returns-in_err-counted-clause-counts
returns-in_err-counted-clause-counts c = λ asked others limit.
    let kept = with_expansion c.args.number c.args.targets.items (kept_in c.args.self.now others) in
    let p = err_from_is_err_and c.from_residual.result c.from_residual.ensures.1 in
    refused_count _ c.from_residual.result p.0 _ asked c.args.self.now kept others p.1 p.2
    (c.in_err-counted.ensures asked kept limit refl)

pub returns-clause-counts : goal.returns-clause-counts
returns-clause-counts c = λ asked others limit.
    let kept = with_expansion c.args.number c.args.targets.items (kept_in c.args.self.now others) in (
      others.rests,
      c.in_ok-counted.ensures asked kept limit refl
          ∙ ap Ok (expansion_kept c.args.self.now others c.args.number c.args.targets.items c.in_ok-counted.counted
          c.expand.new.self c.expand.ensures),
    )

pub returns-clause-whole : goal.returns-clause-whole
returns-clause-whole c = record {
  regexes = subst (λ k. AllNumbers c.args.self.now.arena k.order) (sym c.expand.ensures) c.requires.whole.regexes;
  plain = c.requires.whole.plain;
  atoms = c.requires.whole.atoms;
  brought = c.requires.whole.brought;
  formed = c.requires.whole.formed;
}

pub returns-in_err-counted-clause-terms : goal.returns-in_err-counted-clause-terms
returns-in_err-counted-clause-terms c = record { extends = extends_same _; normals = refl; measures = refl }
