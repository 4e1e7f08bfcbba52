use Rattle.std.proofs.Common.{refl, ◌∙◌}
use Rattle.std.proofs.lemmas.Result.{IfOk-from_err}
use Rattle.sb_lang.specs.Regex.{none}
use Rattle.sb_regex.specs.Numbered.{regexes_at}
use Rattle.sb_regex.proofs.CallerLemmas.{ats_kept, numbers_kept, extends_more}
use Rattle.sb_regex.proofs.Combining.{decider_found, none_decides}
use Rattle.sb_regex.proofs.arena.Arena.and.Goals as goal

pub returns-then-contains : goal.returns-then-contains
returns-then-contains c =
    record {
      ok = let old = c.args.self.now in
          let new = c.none.new.self in
          let ids = c.args.ids.now in
          let there = numbers_kept old new ids c.in_ok-none.ensures.extends c.requires in
          let found = decider_found c.order_tells_apart.ensures old new c.normal_regexes_each_once.ensures.distinct
          c.in_ok-none.ensures.extends c.in_ok-none.none none c.in_ok-none.ensures.ok ids ids refl c.requires there
          c.contains.result c.contains.ensures.value ∙ c.if-contains.true in
          rw (← none_decides c.order_tells_apart.ensures (regexes_at old ids) found) c.in_ok-none.ensures.ok;
      extends = c.none.ensures.extends;
    }

pub meet_all-requires : goal.meet_all-requires
meet_all-requires c =
    numbers_kept c.args.self.now c.none.new.self c.args.ids.now c.in_ok-none.ensures.extends c.requires

pub returns : goal.returns
returns c =
    record {
      ok = rw (ats_kept c.args.self.now c.none.new.self c.args.ids.now c.in_ok-none.ensures.extends c.requires)
          at c.meet_all.ensures.ok;
      extends = extends_more c.args.self.now c.none.new.self c.meet_all.new.self c.none.ensures.extends
          c.meet_all.ensures.extends;
    }

pub returns-in_err-none : goal.returns-in_err-none
returns-in_err-none c =
    let x = c.from_residual in
    record {
      ok = IfOk-from_err x.result _ x.ensures.0;
      extends = c.none.ensures.extends;
    }
