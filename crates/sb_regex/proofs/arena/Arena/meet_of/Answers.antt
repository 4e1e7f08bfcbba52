use Rattle.std.proofs.Common.{◌≡◌, ℕ, ◌<◌, ◌∷◌, [], length, ap, ◌∙◌}
use Rattle.std.proofs.lemmas.List.Elements.{All-nil}
use Rattle.std.proofs.lemmas.Option.{MatchOption-at_some, MatchOption-at_none}
use Rattle.std.proofs.lemmas.Result.{IfOk-weaker, IfOk-from_err}
use Rattle.sb_class.specs.Ranges.{in_ranges}
use Rattle.sb_lang.specs.Constructors.{meet_of}
use Rattle.sb_regex.specs.Numbered.{regexes_at}
use Rattle.sb_regex.specs.Steps.{in_all}
use Rattle.sb_regex.proofs.Combining.{meet_none, meet_value, alone_number}
use Rattle.sb_regex.proofs.CallerLemmas.{extends_same}
use Rattle.sb_regex.proofs.arena.Arena.meet_of.Goals as goal

pub returns-in-None-clause-value : goal.returns-in-None-clause-value
returns-in-None-clause-value c =
    let nothing = MatchOption-at_none (c.in_ok-sets.field-0.items ≡ []) _ c.in-None.is c.in_ok-meet.ensures in
    ap (regexes_at c.args.self.now) c.new.ensures.items ∙ meet_none _ nothing ∙ ap (λ s. meet_of s) c.in_ok-sets.ensures

pub returns-in_ok-id-in-Some-clause-value : goal.returns-in_ok-id-in-Some-clause-value
returns-in_ok-id-in-Some-clause-value c =
    let good = rw (c.class.view_is) at c.class.invariant in
    let found = MatchOption-at_some _ (λ class. (0 < length c.in_ok-sets.field-0.items)
    × ((x : ℕ) → in_ranges class x ≡ in_all c.in_ok-sets.field-0.items x)) c.in-Some.class c.in-Some.is
    c.in_ok-meet.ensures in
    IfOk-weaker c.from_slice.result (λ v. v.items ≡ c.in_ok-id-in-Some.id ∷ []) _
    (λ v alone. meet_value c.intersection_has_common.ensures c.intersection_is_canonical.ensures c.same_members.ensures
    c.args.self.now c.set.new.self c.args.members.now v.items c.in_ok-id-in-Some.id c.in-Some.class
    c.normal_regexes_each_once.ensures.normal c.requires good c.in_ok-sets.field-0.items c.in_ok-sets.ensures found.0
    found.1 c.in_ok-id-in-Some.ensures.ok alone)
    c.from_slice.ensures.items

pub returns-in_ok-id-in-Some-clause-numbers : goal.returns-in_ok-id-in-Some-clause-numbers
returns-in_ok-id-in-Some-clause-numbers c =
    IfOk-weaker c.from_slice.result (λ v. v.items ≡ c.in_ok-id-in-Some.id ∷ []) _
    (λ v alone. alone_number c.set.new.self v.items c.in_ok-id-in-Some.id _ c.in_ok-id-in-Some.ensures.ok alone)
    c.from_slice.ensures.items

pub returns-in-None-clause-numbers : goal.returns-in-None-clause-numbers
returns-in-None-clause-numbers c = rw (c.new.ensures.items) (All-nil (λ i. i < length c.args.self.now))

pub returns-in-None-clause-extends : goal.returns-in-None-clause-extends
returns-in-None-clause-extends c = extends_same c.args.self.now

pub returns-in_ok-id-in-Some-clause-extends : goal.returns-in_ok-id-in-Some-clause-extends
returns-in_ok-id-in-Some-clause-extends c = c.set.ensures.extends

pub returns-in_err-sets : goal.returns-in_err-sets
returns-in_err-sets c =
    let x = c.from_residual in
    record {
      value = IfOk-from_err x.result _ x.ensures.0;
      numbers = IfOk-from_err x.result _ x.ensures.0;
      extends = extends_same c.args.self.now;
    }

pub returns-in_err-meet : goal.returns-in_err-meet
returns-in_err-meet c =
    let x = c.from_residual-in_err-meet in
    record {
      value = IfOk-from_err x.result _ x.ensures.0;
      numbers = IfOk-from_err x.result _ x.ensures.0;
      extends = extends_same c.args.self.now;
    }

pub returns-in_err-id-in-Some : goal.returns-in_err-id-in-Some
returns-in_err-id-in-Some c =
    let x = c.from_residual-in_err-id-in-Some in
    record {
      value = IfOk-from_err x.result _ x.ensures.0;
      numbers = IfOk-from_err x.result _ x.ensures.0;
      extends = c.set.ensures.extends;
    }
