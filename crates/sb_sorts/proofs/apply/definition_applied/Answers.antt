use Rattle.std.proofs.Common.{map, sym, ap, ap₂, subst, ◌∙◌}
use Rattle.std.proofs.lemmas.Result.{err_from_is_err_and}
use Rattle.sb_script.specs.Heads.{with_arguments, judged_definition, unless}
use Rattle.sb_term.specs.Numbered.{term_at, terms_at}
use Rattle.sb_term.specs.Symbols.{sort_in}
use Rattle.sb_sorts.specs.declared.read.ReadFault.TheVariants.{NoMemory}
use Rattle.sb_sorts.specs.Defined.{Defined}
use Rattle.sb_sorts.specs.Reads.{Faults}
use Rattle.sb_sorts.proofs.Applying.{definition_made}
use Rattle.sb_sorts.proofs.Reading.{grows_same, exits}
use Rattle.sb_sorts.proofs.apply.definition_applied.Goals as goal

pub returns-in_err-sorts : goal.returns-in_err-sorts
returns-in_err-sorts c =
    let p = err_from_is_err_and c.from_residual.result c.from_residual.ensures.1 in record {
      reads = exits c.args.table.now _ c.from_residual.result NoMemory p.0 p.1 p.2 tt;
      grows = λ n. grows_same n c.args.table.now;
    }

pub returns-in_err-judge_definition : goal.returns-in_err-judge_definition
returns-in_err-judge_definition c =
    let ts = c.args.table.now in
    let us = terms_at ts c.args.ids.now in
    let body = term_at ts c.args.definition.now.body in
    let e = c.in_err-judge_definition.field-0.0 in
    let r = c.from_residual-in_err-judge_definition in
    let p = err_from_is_err_and r.result r.ensures.1 in record {
      reads = exits ts _ r.result e p.0 p.1 p.2
          (subst (λ o. Faults (unless o (with_arguments us body)) e)
          (ap₂ judged_definition
          (ap (map sort_in) c.deref.ensures.value ∙ ap (λ (d : Defined). map sort_in d.sorts) c.definition.view_is)
          (ap (map sort_in) c.deref-2.ensures.value ∙ c.in_ok-sorts.ensures))
          (c.in_err-judge_definition.ensures (with_arguments us body)));
      grows = λ n. grows_same n ts;
    }

pub returns-in_err-unfolded : goal.returns-in_err-unfolded
returns-in_err-unfolded c =
    let r = c.from_residual-in_err-unfolded in
    let p = err_from_is_err_and r.result r.ensures.1 in record {
      reads = exits c.unfolded.new.table _ r.result NoMemory p.0 p.1 p.2 tt;
      grows = c.unfolded.ensures.grows;
    }

pub returns : goal.returns
returns c =
    let ts = c.args.table.now in
    let us = terms_at ts c.args.ids.now in
    let parameters = map sort_in c.args.definition.now.sorts in
    let body = term_at ts c.args.definition.now.body in record {
      reads = (
        definition_made parameters body _ us
            (sym (ap₂ judged_definition
            (ap (map sort_in) c.deref.ensures.value ∙ ap (λ (d : Defined). map sort_in d.sorts) c.definition.view_is)
            (ap (map sort_in) c.deref-2.ensures.value ∙ c.in_ok-sorts.ensures)) ∙ c.in_ok-judge_definition.ensures)
            (c.in_ok-unfolded.ensures.value
            ∙ ap (λ (d : Defined). with_arguments us (term_at ts d.body)) c.definition.view_is),
        c.in_ok-unfolded.ensures.number,
      );
      grows = c.unfolded.ensures.grows;
    }
