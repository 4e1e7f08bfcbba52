use Rattle.std.proofs.Common.{◌∙◌}
use Rattle.sb_regex.proofs.CallerLemmas.{two_numbers}
use Rattle.sb_regex.proofs.Building.{normal_at, normal_path, path_other, path_stays}
use Rattle.sb_regex.proofs.Ordered.{tests_agree}
use Rattle.sb_regex.proofs.arena.Arena.path.Goals as goal

pub intern-requires : goal.intern-requires
intern-requires c =
    let rs = c.args.self.now in
    let normal = c.normal_regexes_each_once.ensures.normal in
    record {
      parts = two_numbers _ c.args.from c.args.to c.requires.from c.requires.to;
      normal = normal_path _ _ c.constructors_give_normal.ensures (normal_at rs c.args.from normal c.requires.from)
          (normal_at rs c.args.to normal c.requires.to)
          (path_other _ _ c.stays.result c.stays.ensures c.if-stays.false);
    }

pub returns-then-stays-clause-ok : goal.returns-then-stays-clause-ok
returns-then-stays-clause-ok c =
    rw (← path_stays _ _ c.stays.result c.eq.result c.stays.ensures c.if-stays.true
    (c.eq.ensures
    ∙ tests_agree c.order_tells_apart.ensures c.args.self.now c.normal_regexes_each_once.ensures.distinct c.args.from
    c.args.to c.requires.from c.requires.to))
    (c.every_word_if.ensures.ok)

pub returns-clause-ok : goal.returns-clause-ok
returns-clause-ok c = rw (← path_other _ _ c.stays.result c.stays.ensures c.if-stays.false) (c.intern.ensures.ok)
