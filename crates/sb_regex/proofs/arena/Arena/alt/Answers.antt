use Rattle.std.proofs.Common.{Some, ap, sym, ◌∙◌, subst}
use Rattle.std.proofs.lemmas.Result.{IfOk-from_err}
use Rattle.sb_lang.proofs.CallerLemmas.{parts-regexes}
use Rattle.sb_lang.specs.Constructors.{mkalt}
use Rattle.sb_regex.specs.Numbered.{regexes_at, Names, Extends}
use Rattle.sb_regex.proofs.CallerLemmas.{ats_kept, extends_same, numbers_kept}
use Rattle.sb_regex.proofs.Combining.{ats_normal}
use Rattle.sb_regex.proofs.arena.Arena.alt.Goals as goal

pub returns-in-Some : goal.returns-in-Some
returns-in-Some c =
    record {
      ok = let rs = c.args.self.now in
          let members = c.in_ok-members.members.items in
          let normal = c.normal_regexes_each_once.ensures.normal in
          c.in-Some.ensures
          ∙ ap Some (ap (λ xs. mkalt xs) (parts-regexes (regexes_at rs members))
          ∙ c.union_of_members.ensures (regexes_at rs members) (regexes_at rs c.args.ids.now)
          (ats_normal rs members normal c.in_ok-members.ensures.numbers)
          (ats_normal rs c.args.ids.now normal c.requires) c.in_ok-members.ensures.members);
      extends = extends_same c.args.self.now;
    }

pub remember-requires-clause-answer : goal.remember-requires-clause-answer
remember-requires-clause-answer c =
    let rs = c.args.self.now in
    let members = c.in_ok-members.members.items in
    let normal = c.normal_regexes_each_once.ensures.normal in
    c.in_ok-id.ensures.ok
    ∙ ap Some (sym (ap (λ xs. mkalt xs) (parts-regexes (regexes_at c.union_of.new.self members)
    ∙ ats_kept rs c.union_of.new.self members c.in_ok-id.ensures.extends c.in_ok-members.ensures.numbers)
    ∙ c.union_of_members.ensures (regexes_at rs members) (regexes_at rs c.args.ids.now)
    (ats_normal rs members normal c.in_ok-members.ensures.numbers)
    (ats_normal rs c.args.ids.now normal c.requires) c.in_ok-members.ensures.members))

pub returns-in_err-members : goal.returns-in_err-members
returns-in_err-members c =
    let x = c.from_residual in
    record {
      ok = IfOk-from_err x.result _ x.ensures.0;
      extends = extends_same c.args.self.now;
    }

pub returns-in_err-id : goal.returns-in_err-id
returns-in_err-id c =
    let x = c.from_residual-in_err-id in
    record {
      ok = IfOk-from_err x.result _ x.ensures.0;
      extends = c.union_of.ensures.extends;
    }

pub returns-in_err-remember : goal.returns-in_err-remember
returns-in_err-remember c =
    let x = c.from_residual-in_err-remember in
    record {
      ok = IfOk-from_err x.result _ x.ensures.0;
      extends = subst (Extends c.args.self.now) (sym c.remember.ensures) c.union_of.ensures.extends;
    }

pub returns : goal.returns
returns c =
    record {
      ok = subst (λ rs. Names rs c.in_ok-id.id (mkalt (regexes_at c.args.self.now c.args.ids.now)))
          (sym c.remember.ensures) c.in_ok-id.ensures.ok;
      extends = subst (Extends c.args.self.now) (sym c.remember.ensures) c.union_of.ensures.extends;
    }

pub remember-requires-clause-parts : goal.remember-requires-clause-parts
remember-requires-clause-parts c =
    numbers_kept c.args.self.now c.union_of.new.self c.in_ok-members.members.items c.in_ok-id.ensures.extends
    c.in_ok-members.ensures.numbers
