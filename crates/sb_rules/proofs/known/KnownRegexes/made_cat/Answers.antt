use Rattle.std.proofs.lemmas.Result.{err_from_is_err_and}
use Rattle.sb_lang.specs.Regex.{cat}
use Rattle.sb_regex.specs.Numbered.{regex_at}
use Rattle.sb_rules.proofs.Made.{cat-made, first-fails, second-fails}
use Rattle.sb_rules.proofs.Judged.{known_number}
use Rattle.sb_rules.proofs.known.KnownRegexes.made_cat.Goals as goal

pub returns-clause-made : goal.returns-clause-made
returns-clause-made c =
    let rs = c.args.arena.now in (
      cat (regex_at rs c.in_ok-first.first) (regex_at rs c.in_ok-second.second),
      cat-made rs c.args.self.now.order c.args.a c.args.b c.in_ok-first.first c.in_ok-second.second
          c.in_ok-first.ensures
          c.in_ok-second.ensures,
      c.in_ok-cat.ensures.normal,
    )

pub cat-requires-clause-left : goal.cat-requires-clause-left
cat-requires-clause-left c =
    known_number c.args.arena.now c.args.self.now.order c.args.a c.in_ok-first.first c.requires.known
    c.in_ok-first.ensures

pub cat-requires-clause-right : goal.cat-requires-clause-right
cat-requires-clause-right c =
    known_number c.args.arena.now c.args.self.now.order c.args.b c.in_ok-second.second c.requires.known
    c.in_ok-second.ensures

pub returns-in_err-first-clause-made : goal.returns-in_err-first-clause-made
returns-in_err-first-clause-made c =
    let p = err_from_is_err_and c.from_residual.result c.from_residual.ensures.1 in
    rw (p.1, p.2)
    (first-fails c.args.arena.now c.args.self.now.order c.args.arena.now cat c.args.a c.args.b c.in_err-first.field-0.0
    c.in_err-first.ensures)

pub returns-in_err-second-clause-made : goal.returns-in_err-second-clause-made
returns-in_err-second-clause-made c =
    let x = c.from_residual-in_err-second in
    let p = err_from_is_err_and x.result x.ensures.1 in
    rw (p.1, p.2)
    (second-fails c.args.arena.now c.args.self.now.order c.args.arena.now cat c.args.a c.args.b
    c.in_err-second.field-0.0 c.in_err-second.ensures)
