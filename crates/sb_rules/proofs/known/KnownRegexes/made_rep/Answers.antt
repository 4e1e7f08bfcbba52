use Rattle.std.proofs.lemmas.Result.{err_from_is_err_and}
use Rattle.sb_lang.specs.Regex.{rep}
use Rattle.sb_regex.specs.Numbered.{regex_at}
use Rattle.sb_rules.proofs.Made.{one-made, one-fails}
use Rattle.sb_rules.proofs.Judged.{known_number}
use Rattle.sb_rules.proofs.known.KnownRegexes.made_rep.Goals as goal

pub returns-clause-made : goal.returns-clause-made
returns-clause-made c =
    let rs = c.args.arena.now in (
      rep (regex_at rs c.in_ok-id.id) c.args.least c.args.most,
      one-made rs c.args.self.now.order (λ r. rep r c.args.least c.args.most) c.args.a c.in_ok-id.id
          c.in_ok-id.ensures,
      c.in_ok-rep.ensures.normal,
    )

pub rep-requires : goal.rep-requires
rep-requires c =
    known_number c.args.arena.now c.args.self.now.order c.args.a c.in_ok-id.id c.requires.known
    c.in_ok-id.ensures

pub returns-in_err-id-clause-made : goal.returns-in_err-id-clause-made
returns-in_err-id-clause-made c =
    let p = err_from_is_err_and c.from_residual.result c.from_residual.ensures.1 in
    rw (p.1, p.2)
    (one-fails c.args.arena.now c.args.self.now.order c.args.arena.now (λ r. rep r c.args.least c.args.most)
    c.args.a c.in_err-id.field-0.0 c.in_err-id.ensures)
