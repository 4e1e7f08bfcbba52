use Rattle.std.proofs.lemmas.Option.{slice_get_read, slice_get_past}
use Rattle.std.proofs.lemmas.Result.{err_from_is_err_and}
use Rattle.std.proofs.Common.{length, [], ◌∷◌, ◌++◌, if◌then◌else◌, Ok, Err, refl, ap, sym, ◌∙◌}
use Rattle.sb_rulebook.specs.Kept.{with_clause}
use Rattle.sb_rulebook.specs.Refusals.{rule_broken}
use Rattle.sb_rules.specs.Kept.{kept_in}
use Rattle.sb_rules.proofs.Staying.{clause_kept, clauses_wanted, wanted}
use Rattle.sb_rules.proofs.Clausal.{by_asserted, by_no_assertion, by_unknown}
use Rattle.sb_rules.proofs.kept.Kept.assert.Goals as goal

pub returns-then-not-branch-clause-judges : goal.returns-then-not-branch-clause-judges
returns-then-not-branch-clause-judges c = λ asked live others. (
  by_asserted asked c.args.self.now others c.args.place c.args.literal c.args.table.now c.args.live.now
      c.in-Some.assertion.now c.in-Some-term.term c.in_ok-is_asserted.field-0 live (slice_get_read c.args.live.now (length c.args.live.now) c.args.place c.in-Some.assertion.now refl
      c.in-Some.ensures.lookup.3.0 c.in-Some.ensures.lookup.1)
      c.in-Some-term.is (sym c.is_known.ensures ∙ c.if-not-is_known.false)
      (c.in_ok-is_asserted.ensures.ok others)
      ∙ ap (λ b. if b then Ok (with_clause (kept_in c.args.self.now others) (c.args.literal ∷ []) c.in-Some.assertion.now.level (c.args.place ∷ []))
      else Err rule_broken) c.if-not-branch.true,
  c.is_asserted.ensures.kept others,
)

pub returns-clause-judges : goal.returns-clause-judges
returns-clause-judges c = λ asked live others. (
  others.rests ++ (c.args.place ∷ []) ∷ [],
  by_asserted asked c.args.self.now others c.args.place c.args.literal c.args.table.now c.args.live.now
      c.in-Some.assertion.now c.in-Some-term.term c.in_ok-is_asserted.field-0 live (slice_get_read c.args.live.now (length c.args.live.now) c.args.place c.in-Some.assertion.now refl
      c.in-Some.ensures.lookup.3.0 c.in-Some.ensures.lookup.1)
      c.in-Some-term.is (sym c.is_known.ensures ∙ c.if-not-is_known.false)
      (c.in_ok-is_asserted.ensures.ok others)
      ∙ (ap (λ b. if b then Ok (with_clause (kept_in c.args.self.now others) (c.args.literal ∷ []) c.in-Some.assertion.now.level (c.args.place ∷ []))
      else Err rule_broken) c.if-not-branch.false
      ∙ ap Ok (clause_kept c.args.self.now c.is_asserted.new.self others c.add.new.self (c.args.literal ∷ []) c.in-Some.assertion.now.level
      (c.args.place ∷ []) (c.is_asserted.ensures.kept (record others { rests = others.rests ++ (c.args.place ∷ []) ∷ [] }))
      c.in_ok-add.ensures.ok)),
)

pub returns-in_default-clause-judges : goal.returns-in_default-clause-judges
returns-in_default-clause-judges c = λ asked live others. (
  by_no_assertion asked c.args.self.now others c.args.place c.args.literal c.args.table.now c.args.live.now live
      (slice_get_past c.args.live.now c.args.place c.in_default.ensures.lookup.3),
  refl,
)

pub returns-then-not-is_known-clause-judges : goal.returns-then-not-is_known-clause-judges
returns-then-not-is_known-clause-judges c = λ asked live others. (
  by_unknown asked c.args.self.now others c.args.place c.args.literal c.args.table.now c.args.live.now
      c.in-Some.assertion.now live
      (slice_get_read c.args.live.now (length c.args.live.now) c.args.place c.in-Some.assertion.now refl
      c.in-Some.ensures.lookup.3.0 c.in-Some.ensures.lookup.1)
      (sym c.is_known.ensures ∙ c.if-not-is_known.true),
  refl,
)

pub returns-in_err-is_asserted-clause-judges : goal.returns-in_err-is_asserted-clause-judges
returns-in_err-is_asserted-clause-judges c = λ asked live others.
    let x = c.from_residual in
    let p = err_from_is_err_and x.result x.ensures.1 in
    wanted _ x.result p.0 _ c.args.self.now c.is_asserted.new.self others p.1 p.2 (c.is_asserted.ensures.kept others)

pub returns-in_err-add-clause-judges : goal.returns-in_err-add-clause-judges
returns-in_err-add-clause-judges c = λ asked live others.
    let x = c.from_residual-in_err-add in
    let p = err_from_is_err_and x.result x.ensures.1 in
    clauses_wanted _ x.result p.0 _ c.args.self.now c.is_asserted.new.self others c.add.new.self p.1 p.2
    (c.is_asserted.ensures.kept others) c.in_err-add.ensures.err
