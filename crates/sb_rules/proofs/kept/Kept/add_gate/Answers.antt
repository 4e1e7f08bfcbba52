use Rattle.std.proofs.Common.{[], ◌∷◌, ◌++◌, not, if◌then◌else◌, Ok, Err, refl, ap, sym, ◌∙◌}
use Rattle.std.proofs.lemmas.Result.{err_from_is_err_and}
use Rattle.sb_rulebook.specs.Kept.{with_clause}
use Rattle.sb_rulebook.specs.Refusals.{rule_broken}
use Rattle.sb_rules.specs.Kept.{kept_in}
use Rattle.sb_rules.proofs.Staying.{clause_kept, clauses_wanted, wanted}
use Rattle.sb_rules.proofs.Gated.{by_rule_gate}
use Rattle.sb_regex.proofs.CallerLemmas.{extends_same}
use Rattle.sb_rules.proofs.kept.Kept.add_gate.Goals as goal

pub returns-clause-judges : goal.returns-clause-judges
returns-clause-judges c = λ asked others.
    let k = c.args.self.now in
    let ls = c.args.literals.now in (
      others.rests ++ [] ∷ [],
      by_rule_gate asked k others ls c.in_ok-is_gate.field-0 c.requires.known
          (sym c.are_ascending.ensures ∙ c.if-not-are_ascending.false) c.in_ok-is_gate.ensures
          ∙ (ap (λ b. if not b then Err rule_broken else Ok (with_clause (kept_in k others) ls 0 [])) c.if-not-branch.false
          ∙ ap Ok (clause_kept k k others c.add.new.self ls 0 [] refl c.in_ok-add.ensures.ok)),
    )

pub returns-then-not-are_ascending-clause-terms : goal.returns-then-not-are_ascending-clause-terms
returns-then-not-are_ascending-clause-terms c = record { extends = extends_same _; normals = refl; measures = refl }

pub returns-then-not-branch-clause-terms : goal.returns-then-not-branch-clause-terms
returns-then-not-branch-clause-terms c = record { extends = extends_same _; normals = refl; measures = refl }

pub returns-in_err-is_gate-clause-terms : goal.returns-in_err-is_gate-clause-terms
returns-in_err-is_gate-clause-terms c = record { extends = extends_same _; normals = refl; measures = refl }

pub returns-in_err-add-clause-terms : goal.returns-in_err-add-clause-terms
returns-in_err-add-clause-terms c = record { extends = extends_same _; normals = refl; measures = refl }

pub returns-clause-terms : goal.returns-clause-terms
returns-clause-terms c = record { extends = extends_same _; normals = refl; measures = refl }

pub returns-in_err-is_gate-clause-judges : goal.returns-in_err-is_gate-clause-judges
returns-in_err-is_gate-clause-judges c = λ asked others.
    let x = c.from_residual in
    let p = err_from_is_err_and x.result x.ensures.1 in
    wanted _ x.result p.0 _ c.args.self.now c.args.self.now others p.1 p.2 refl

pub returns-in_err-add-clause-judges : goal.returns-in_err-add-clause-judges
returns-in_err-add-clause-judges c = λ asked others.
    let x = c.from_residual-in_err-add in
    let p = err_from_is_err_and x.result x.ensures.1 in
    clauses_wanted _ x.result p.0 _ c.args.self.now c.args.self.now others c.add.new.self p.1 p.2 refl
    c.in_err-add.ensures.err
