use Rattle.std.proofs.Common.{◌<◌, length, sym, ap, subst, ◌∙◌}
use Rattle.std.proofs.lemmas.Result.{IfOk-from_err}
use Rattle.sb_term.specs.Numbered.{term_at, terms_at}
use Rattle.sb_term.specs.Descending.{AreReached}
use Rattle.sb_sorts.specs.Unfolding.{open_parts}
use Rattle.sb_sorts.proofs.Unfolding.{closed_same}
use Rattle.sb_sorts.proofs.OpenTerms.{are_open}
use Rattle.sb_sorts.proofs.Reading.{grows_same}
use Rattle.sb_sorts.proofs.unfold.unfolded.Goals as goal

pub returns-then-not-is_open : goal.returns-then-not-is_open
returns-then-not-is_open c =
    let ts = c.args.table.now in record {
      value = sym (closed_same (terms_at ts c.args.given.now) (term_at ts c.args.body)
          (sym c.is_open.ensures ∙ c.if-not-is_open.true));
      number = c.requires.body;
      grows = λ n. grows_same n ts;
    }

pub returns-in_err-ids : goal.returns-in_err-ids
returns-in_err-ids c = record {
  value = IfOk-from_err c.from_residual.result _ c.from_residual.ensures.0;
  number = IfOk-from_err c.from_residual.result _ c.from_residual.ensures.0;
  grows = λ n. grows_same n c.args.table.now;
}

pub remake_all-requires : goal.remake_all-requires
remake_all-requires c =
    let ts = c.args.table.now in
    let ids = subst (AreReached open_parts ts c.args.body) (sym c.deref.ensures.value) c.in_ok-ids.ensures in record {
      given = c.requires.given;
      none = c.new-made.ensures.empty;
      ids = are_open ts c.args.body c.deref.result.now (sym c.is_open.ensures ∙ c.if-not-is_open.false) ids;
    }

pub returns-in_err-remake_all : goal.returns-in_err-remake_all
returns-in_err-remake_all c =
    let e = c.from_residual-in_err-remake_all in record {
      value = IfOk-from_err e.result _ e.ensures.0;
      number = IfOk-from_err e.result _ e.ensures.0;
      grows = c.remake_all.ensures.grows;
    }

pub returns : goal.returns
returns c =
    let ids = subst (AreReached open_parts c.args.table.now c.args.body) (sym c.deref.ensures.value)
    c.in_ok-ids.ensures in
    let made = c.in_ok-remake_all.ensures.all c.args.body ids.first in record {
      value = ap (term_at c.remake_all.new.table) c.next_of.ensures ∙ made.1;
      number = subst (λ n. n < length c.remake_all.new.table) (sym c.next_of.ensures) made.0;
      grows = c.remake_all.ensures.grows;
    }
