use Rattle.std.proofs.Common.{ap, ◌∙◌}
use Rattle.std.proofs.lemmas.Result.{IfOk-from_err}
use Rattle.sb_lang.specs.Constructors.{join_sets}
use Rattle.sb_regex.specs.Numbered.{regexes_at}
use Rattle.sb_regex.proofs.Combining.{ats_normal, mkalt_is}
use Rattle.sb_regex.proofs.CallerLemmas.{extends_same, extends_more}
use Rattle.sb_regex.proofs.arena.Arena.union_of.Goals as goal

pub unite_members-requires-clause-normal : goal.unite_members-requires-clause-normal
unite_members-requires-clause-normal c =
    let old = c.args.self.now in
    let joined = c.in_ok-members-2.ensures.value ∙ ap (λ is. join_sets (regexes_at old is)) c.deref.ensures.value in
    rw (mkalt_is (regexes_at old c.args.ids.now) _ _ c.in_ok-members.ensures.value joined)
    (c.constructors_give_normal.ensures.unions _
    (ats_normal old c.args.ids.now c.normal_regexes_each_once.ensures.normal c.requires))

pub returns : goal.returns
returns c =
    record {
      ok = let old = c.args.self.now in
          let joined = c.in_ok-members-2.ensures.value ∙ ap (λ is. join_sets (regexes_at old is))
          c.deref.ensures.value in
          rw (← mkalt_is (regexes_at old c.args.ids.now) _ _ c.in_ok-members.ensures.value joined)
          (c.unite_members.ensures.ok);
      extends = extends_more c.args.self.now c.join_sets.new.self c.unite_members.new.self c.join_sets.ensures.extends
          c.unite_members.ensures.extends;
    }

pub returns-in_err-members : goal.returns-in_err-members
returns-in_err-members c =
    let x = c.from_residual in
    record {
      ok = IfOk-from_err x.result _ x.ensures.0;
      extends = extends_same c.args.self.now;
    }

pub returns-in_err-members-2 : goal.returns-in_err-members-2
returns-in_err-members-2 c =
    let x = c.from_residual-in_err-members-2 in
    record {
      ok = IfOk-from_err x.result _ x.ensures.0;
      extends = c.join_sets.ensures.extends;
    }
