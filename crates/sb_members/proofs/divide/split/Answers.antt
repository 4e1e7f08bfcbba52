use Rattle.std.proofs.Common.{◌&&◌, sym, ap, subst, ◌∙◌}
use Rattle.std.proofs.lemmas.Result.{IfOk-from_err}
use Rattle.sb_lang.specs.Constructors.{mkand}
use Rattle.sb_lang.specs.Language.{language}
use Rattle.sb_regex.specs.Numbered.{regex_at, regexes_at, AllNumbers, Names}
use Rattle.sb_regex.proofs.CallerLemmas.{extends_same, extends_more, names_below, numbers_kept}
use Rattle.sb_members.specs.Choices.{in_each}
use Rattle.sb_members.proofs.Splits.{split_by}
use Rattle.sb_members.proofs.divide.split.Goals as goal

pub choose-requires : goal.choose-requires
choose-requires c = c.requires

pub returns-in_err-choice : goal.returns-in_err-choice
returns-in_err-choice c = record {
  split = IfOk-from_err c.from_residual.result _ c.from_residual.ensures.0;
  extends = extends_same c.args.arena.now;
}

pub members_of-requires : goal.members_of-requires
members_of-requires c = c.requires

pub returns-then-is_empty : goal.returns-then-is_empty
returns-then-is_empty c = record { split = c.members_of.ensures; extends = extends_same c.args.arena.now }

pub and-requires : goal.and-requires
and-requires c =
    subst (AllNumbers c.args.arena.now) (sym c.deref.ensures.value) c.in_ok-choice.ensures.whole_known

pub returns-in_err-first : goal.returns-in_err-first
returns-in_err-first c =
    let x = c.from_residual-in_err-first in
    record { split = IfOk-from_err x.result _ x.ensures.0; extends = c.in_err-first.ensures.extends }

pub cross_all-requires : goal.cross_all-requires
cross_all-requires c =
    let e = c.in_ok-first.ensures in
    record {
      first = names_below c.and.new.self c.in_ok-first.first _ e.ok;
      unions = subst (AllNumbers c.and.new.self) (sym c.deref-2.ensures.value)
          (numbers_kept c.args.arena.now c.and.new.self c.in_ok-choice.choice.1.items e.extends
          c.in_ok-choice.ensures.divided_known);
    }

pub returns-in_err-members : goal.returns-in_err-members
returns-in_err-members c =
    let x = c.from_residual-in_err-members in
    record {
      split = IfOk-from_err x.result _ x.ensures.0;
      extends = extends_more c.args.arena.now c.and.new.self c.cross_all.new.arena c.in_ok-first.ensures.extends
          c.in_err-members.ensures.extends;
    }

pub returns : goal.returns
returns c =
    let start = c.args.arena.now in
    let old = c.and.new.self in
    let first = c.in_ok-first.first in
    let e = c.in_ok-first.ensures in
    let m = c.in_ok-members.ensures in
    let names = subst (λ ns. Names old first (mkand (regexes_at start ns))) c.deref.ensures.value e.ok in
    record {
      split = split_by c.mkand_keeps_language.ensures c.intersection_is_of_each.ensures start old c.cross_all.new.arena
          e.extends m.extends c.args.regex first c.in_ok-choice.choice.0.items c.in_ok-choice.choice.1.items
          c.in_ok-members.members.items c.requires c.in_ok-choice.ensures names m.known
          (λ u. m.both u ∙ ap (λ ns. language (regex_at old first) u && in_each old ns u) c.deref-2.ensures.value);
      extends = extends_more start old c.cross_all.new.arena e.extends m.extends;
    }
