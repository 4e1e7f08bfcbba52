use Rattle.sb_theory.proofs.Words.{◌∙◌, List, map, subst, sym, AreSingle, IsPermutation, Lit, negation}
use Rattle.sb_theory.proofs.Answering.{look_behind, look_failed}
use Rattle.sb_theory.proofs.Denied.{denied_row, few_single}
use Rattle.sb_theory.proofs.Moving.{entries_stay, stands_looked}
use Rattle.sb_theory.proofs.strings.Strings.clash.Goals as goal

pub returns-in_err-few : goal.returns-in_err-few
returns-in_err-few g c =
    let r = c.from_residual in look_failed r.result r.ensures.0 r.ensures.1 c.in_err-few.ensures.looks.keeps.grows

pub denial-requires : goal.denial-requires
denial-requires g c =
    let few = c.in_ok-few.ensures in
    record {
      single = subst (λ (ls : List Lit). AreSingle ls) (sym c.deref.ensures.value)
          (few_single c.clashing.new.self c.args.trail.now.literals c.args.serial.0 c.in_ok-few.few.items few.few
          (entries_stay few.looks ∙ c.requires.whole) c.literals-trail.ensures.trail.distinct);
    }

pub returns-in_err-clause : goal.returns-in_err-clause
returns-in_err-clause g c =
    let r = c.from_residual-in_err-clause in
    look_failed r.result r.ensures.0 r.ensures.1 c.in_ok-few.ensures.looks.keeps.grows

pub answer-requires : goal.answer-requires
answer-requires g c =
    let few = c.in_ok-few.ensures in
    record {
      stands = stands_looked few.few.holds (entries_stay few.looks) c.requires.stands;
      denied = denied_row c.mkand_keeps_language.ensures c.clashing.new.self c.args.trail.now.literals c.args.serial.0
          c.in_ok-few.few.items c.in_ok-clause.clause few.few (entries_stay few.looks ∙ c.requires.whole)
          c.in_ok-clause.ensures.ascend
          (subst (λ (ls : List Lit). IsPermutation (map negation ls) c.in_ok-clause.clause) c.deref.ensures.value
          c.in_ok-clause.ensures.permutation);
    }

pub returns : goal.returns
returns g c = look_behind c.answer.result c.in_ok-few.ensures.looks.keeps c.answer.ensures
