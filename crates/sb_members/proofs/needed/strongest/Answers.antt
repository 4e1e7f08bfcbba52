use Rattle.std.proofs.Common.{◌≡◌, ℕ, List, subst, sym}
use Rattle.std.specs.Option.{IfSome}
use Rattle.std.proofs.lemmas.Result.{IfOk-weaker, IfOk-from_err}
use Rattle.sb_lang.specs.Constructors.{mkand}
use Rattle.sb_lang.specs.Language.{language}
use Rattle.sb_regex.specs.Numbered.{regex_at, regexes_at, Names, AllNumbers}
use Rattle.sb_members.specs.Strongest.{AreNeeded}
use Rattle.sb_members.proofs.Stronger.{strong_and}
use Rattle.sb_regex.proofs.CallerLemmas.{extends_same, names_below}
use Rattle.sb_members.proofs.needed.strongest.Goals as goal

pub returns-in-Some-clause-same : goal.returns-in-Some-clause-same
returns-in-Some-clause-same c =
    let old = c.args.arena.now in
    let new = c.and.new.self in
    let kept = c.in-Some.kept.items in
    let needed : AreNeeded old c.args.regex kept =
    subst (λ o. IfSome o (λ kept. AreNeeded old c.args.regex kept.items)) c.in-Some.is c.in_ok-kept.ensures in
    IfOk-weaker c.and.result (λ id. Names new id (mkand (regexes_at old c.deref.result.now)))
    (λ id. (u : List ℕ) → language (regex_at new id) u ≡ language (regex_at old c.args.regex) u)
    (λ id names. strong_and c.mkand_keeps_language.ensures c.intersection_is_of_each.ensures old new c.args.regex id
    kept (subst (λ ns. Names new id (mkand (regexes_at old ns))) c.deref.ensures.value names) needed)
    c.and.ensures.ok

pub returns-in-Some-clause-known : goal.returns-in-Some-clause-known
returns-in-Some-clause-known c =
    IfOk-weaker c.and.result _ _ (λ id names. names_below c.and.new.self id _ names) c.and.ensures.ok

pub returns-in-Some-clause-extends : goal.returns-in-Some-clause-extends
returns-in-Some-clause-extends c = c.and.ensures.extends

pub returns-in-None-clause-extends : goal.returns-in-None-clause-extends
returns-in-None-clause-extends c = extends_same c.args.arena.now

pub and-requires : goal.and-requires
and-requires c =
    let old = c.args.arena.now in
    let needed : AreNeeded old c.args.regex c.in-Some.kept.items =
    subst (λ o. IfSome o (λ kept. AreNeeded old c.args.regex kept.items)) c.in-Some.is c.in_ok-kept.ensures in
    subst (AllNumbers old) (sym c.deref.ensures.value) needed.known

pub returns-in_err-kept : goal.returns-in_err-kept
returns-in_err-kept c =
    let x = c.from_residual in
    record {
      known = IfOk-from_err x.result _ x.ensures.0;
      same = IfOk-from_err x.result _ x.ensures.0;
      extends = extends_same c.args.arena.now;
    }
