use Rattle.std.proofs.Common.{arith, length, map, sym, ap, ◌∙◌}
use Rattle.std.proofs.lemmas.List.{length-map}
use Rattle.std.specs.List.{list_all}
use Rattle.sb_script.specs.Fragment.{is_decided}
use Rattle.sb_proof.specs.Lines.{value_in}
use Rattle.sb_stack.specs.Stacked.{state_of, live_in}
use Rattle.sb_models.specs.Tried.{are_kinds}
use Rattle.sb_stack.proofs.CallerLemmas.{live_laid}
use Rattle.sb_models.proofs.Judging.{other_kinds, other_number, named_in, model_of}
use Rattle.sb_models.proofs.models.Models.is_model.Goals as goal

pub returns-then-values-len-clause-ok : goal.returns-then-values-len-clause-ok
returns-then-values-len-clause-ok c =
    other_number c.args.stack.now (map value_in c.args.values.now) c.in_ok-constants.constants.items
    c.declared-declared.ensures.fit c.in_ok-constants.ensures
    (λ same. c.if-values-len.true
    (omega (
      arith,
      c.len.ensures,
      same,
      length-map c.args.values.now value_in,
      c.in_ok-constants.constants.ok.0,
    )))

pub are_kinds-requires : goal.are_kinds-requires
are_kinds-requires c =
    omega (
      arith,
      c.len.ensures,
      c.if-values-len.false,
      c.in_ok-constants.constants.ok.0,
      ap length c.deref.ensures.value,
    )

pub returns-then-not-are_kinds-clause-ok : goal.returns-then-not-are_kinds-clause-ok
returns-then-not-are_kinds-clause-ok c =
    other_kinds c.args.stack.now (map value_in c.args.values.now) c.declared-declared.ensures.fit
    (ap (λ ds. are_kinds ds (map value_in c.args.values.now))
    (sym (ap (map live_in) c.deref.ensures.value ∙ c.in_ok-constants.ensures))
    ∙ (sym c.are_kinds.ensures ∙ c.if-not-are_kinds.true))

pub hold_under-requires-clause-decided : goal.hold_under-requires-clause-decided
hold_under-requires-clause-decided c =
    sym (c.fragment_is_of_each.ensures (state_of c.args.stack.now)
    ∙ ap (list_all is_decided) (live_laid c.args.stack.now)) ∙ c.requires.inside

pub hold_under-requires-clause-long : goal.hold_under-requires-clause-long
hold_under-requires-clause-long c =
    omega (arith, c.len.ensures, c.if-values-len.false, c.in_ok-constants.constants.ok.0)

pub hold_under-requires-clause-named : goal.hold_under-requires-clause-named
hold_under-requires-clause-named c =
    named_in c.args.stack.now (map live_in c.in_ok-constants.constants.items) c.in_ok-constants.ensures
    c.assertions-assertions.ensures.named

pub hold_under-requires-clause-kinds : goal.hold_under-requires-clause-kinds
hold_under-requires-clause-kinds c =
    ap (λ cs. are_kinds (map live_in cs) (map value_in c.args.values.now)) (sym c.deref.ensures.value)
    ∙ (sym c.are_kinds.ensures ∙ c.if-not-are_kinds.false)

pub returns-clause-ok : goal.returns-clause-ok
returns-clause-ok c =
    model_of c.hold_under.result c.args.stack.now (map value_in c.args.values.now) c.in_ok-constants.constants.items
    c.declared-declared.ensures.fit c.in_ok-constants.ensures
    (ap (λ ds. are_kinds ds (map value_in c.args.values.now))
    (sym (ap (map live_in) c.deref.ensures.value ∙ c.in_ok-constants.ensures))
    ∙ (sym c.are_kinds.ensures ∙ c.if-not-are_kinds.false)) c.hold_under.ensures.ok
