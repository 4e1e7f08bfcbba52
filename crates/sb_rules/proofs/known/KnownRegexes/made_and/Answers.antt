use Rattle.std.proofs.Common.{Some, sym, ap, subst, ◌∙◌}
use Rattle.std.proofs.lemmas.Result.{err_from_is_err_and}
use Rattle.sb_lang.specs.Regex.{and, regexes}
use Rattle.sb_regex.specs.Numbered.{regexes_at, AllNumbers}
use Rattle.sb_rules.proofs.Made.{several-made, several-numbers, several-fails}
use Rattle.sb_rules.proofs.known.KnownRegexes.made_and.Goals as goal

pub returns-in_err-ids-clause-made : goal.returns-in_err-ids-clause-made
returns-in_err-ids-clause-made c =
    let p = err_from_is_err_and c.from_residual.result c.from_residual.ensures.1 in
    rw (p.1, p.2)
    (several-fails c.args.arena.now c.args.self.now.order c.args.arena.now (λ rs. and (regexes rs)) c.args.numbers.now
    c.in_err-ids.field-0.0 c.in_err-ids.ensures)

pub and-requires : goal.and-requires
and-requires c =
    subst (AllNumbers c.args.arena.now) (sym c.deref.ensures.value)
    (several-numbers c.args.arena.now c.args.self.now.order c.args.numbers.now c.in_ok-ids.ids.items c.requires.known
    c.in_ok-ids.ensures)

pub returns-clause-made : goal.returns-clause-made
returns-clause-made c =
    let rs = c.args.arena.now in (
      and (regexes (regexes_at rs c.deref.result.now)),
      several-made rs c.args.self.now.order (λ ss. and (regexes ss)) c.args.numbers.now c.in_ok-ids.ids.items
          c.in_ok-ids.ensures
          ∙ ap (λ ids. Some (and (regexes (regexes_at rs ids)))) (sym c.deref.ensures.value),
      c.in_ok-and.ensures.normal,
    )
