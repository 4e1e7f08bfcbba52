use Rattle.std.proofs.Common.{arith}
use Rattle.std.proofs.lemmas.Result.{IfOk-from_err}
use Rattle.sb_lang.specs.Affixes.{prefixes}
use Rattle.sb_affix.proofs.EndFacts.{first_end}
use Rattle.sb_affix.proofs.ends.prefixes.Goals as goal

pub returns-in_err-ends : goal.returns-in_err-ends
returns-in_err-ends c =
    let x = c.from_residual in
    record {
      ok = IfOk-from_err x.result _ x.ensures.0;
      extends = c.parts_of_ends.ensures.extends;
    }

pub index-requires : goal.index-requires
index-requires c =
    let first = first_end prefixes c.args.codes.now c.parts_of_ends.new.arena c.in_ok-ends.ends.items
    c.in_ok-ends.ensures.value c.in_ok-ends.ensures.numbers in
    omega (arith, first.0, c.in_ok-ends.ends.ok.0)

pub returns : goal.returns
returns c =
    record {
      ok = (first_end prefixes c.args.codes.now c.parts_of_ends.new.arena c.in_ok-ends.ends.items
          c.in_ok-ends.ensures.value c.in_ok-ends.ensures.numbers).1 c.index.result.now c.index.ensures;
      extends = c.in_ok-ends.ensures.extends;
    }
