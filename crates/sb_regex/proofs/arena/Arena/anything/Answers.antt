use Rattle.std.proofs.Common.{subst, sym}
use Rattle.std.proofs.lemmas.Result.{IfOk-from_err}
use Rattle.sb_regex.proofs.Building.{normal_not_none, not_none_is}
use Rattle.sb_regex.proofs.CallerLemmas.{extends_more, one_number, names_below}
use Rattle.sb_regex.specs.Numbered.{Names}
use Rattle.sb_lang.specs.Constructors.{anything}
use Rattle.sb_regex.proofs.arena.Arena.anything.Goals as goal

pub intern-requires-clause-normal : goal.intern-requires-clause-normal
intern-requires-clause-normal c = normal_not_none c.none.new.self c.in_ok-none.none c.in_ok-none.ensures.ok

pub returns : goal.returns
returns c =
    record {
      ok = let named = rw (not_none_is c.none.new.self c.in_ok-none.none c.in_ok-none.ensures.ok) at
          c.in_ok-id.ensures.ok in
          rw (c.self-2.view_is) named;
      extends = rw (c.self-2.view_is)
          (extends_more c.args.self.now c.none.new.self c.intern.new.self c.none.ensures.extends
          c.intern.ensures.extends);
    }

pub returns-in_err-none : goal.returns-in_err-none
returns-in_err-none c =
    let x = c.from_residual in
    record {
      ok = IfOk-from_err x.result _ x.ensures.0;
      extends = c.none.ensures.extends;
    }

pub returns-in_err-id : goal.returns-in_err-id
returns-in_err-id c =
    let x = c.from_residual-in_err-id in
    record {
      ok = IfOk-from_err x.result _ x.ensures.0;
      extends = extends_more c.args.self.now c.none.new.self c.intern.new.self c.none.ensures.extends
          c.intern.ensures.extends;
    }

pub intern-requires-clause-parts : goal.intern-requires-clause-parts
intern-requires-clause-parts c =
    one_number c.none.new.self c.in_ok-none.none (names_below _ _ _ c.in_ok-none.ensures.ok)

pub invariant_of-self : goal.invariant_of-self
invariant_of-self c = (
  c.self-2.invariant.0,
  c.self-2.invariant.1,
  record {
    no_word = c.self-2.invariant.2.no_word;
    empty_word = c.self-2.invariant.2.empty_word;
    every_word = subst (λ rs. Names rs c.in_ok-id.id anything) (sym c.self-2.view_is)
        (rw (not_none_is c.none.new.self c.in_ok-none.none c.in_ok-none.ensures.ok) at c.in_ok-id.ensures.ok);
  },
)
