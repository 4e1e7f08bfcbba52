use Rattle.std.proofs.Common.{[], ◌∷◌, ◌++◌, Ok, refl, ap, ◌∙◌}
use Rattle.std.proofs.lemmas.Result.{err_from_is_err_and}
use Rattle.sb_rulebook.specs.Kept.{AllKept, with_clause}
use Rattle.sb_rules.specs.Kept.{kept_in}
use Rattle.sb_rules.proofs.Staying.{refused_count, clause_kept, clauses_wanted}
use Rattle.sb_regex.proofs.CallerLemmas.{extends_same}
use Rattle.sb_rules.proofs.kept.Kept.add_counted.Goals as goal

pub returns-in_err-counted-clause-counts : goal.returns-in_err-counted-clause-counts
returns-in_err-counted-clause-counts c = λ asked others rests limit.
    let kept = with_clause (kept_in c.args.self.now others) c.args.literals.now c.args.level rests in
    let p = err_from_is_err_and c.from_residual.result c.from_residual.ensures.1 in
    refused_count _ c.from_residual.result p.0 _ asked c.args.self.now kept others p.1 p.2
    (c.in_err-counted.ensures asked kept limit refl)

pub returns-clause-counts : goal.returns-clause-counts
returns-clause-counts c = λ asked others rests limit.
    let kept = with_clause (kept_in c.args.self.now others) c.args.literals.now c.args.level rests in (
      others.rests ++ rests ∷ [],
      c.in_ok-counted.ensures asked kept limit refl
          ∙ ap (λ (k : AllKept). Ok (record k { counted = c.in_ok-counted.counted }))
          (clause_kept c.args.self.now c.args.self.now others c.add.new.self c.args.literals.now c.args.level rests refl
          c.in_ok-add.ensures.ok),
    )

pub returns-in_err-add-clause-terms : goal.returns-in_err-add-clause-terms
returns-in_err-add-clause-terms c = record { extends = extends_same _; normals = refl; measures = refl }

pub returns-in_err-add-clause-counts : goal.returns-in_err-add-clause-counts
returns-in_err-add-clause-counts c = λ asked others rests limit.
    let x = c.from_residual-in_err-add in
    let p = err_from_is_err_and x.result x.ensures.1 in
    clauses_wanted _ x.result p.0 _ c.args.self.now c.args.self.now others c.add.new.self p.1 p.2 refl
    c.in_err-add.ensures.err
