use Rattle.std.proofs.Common.{sym, ◌∙◌, arith}
use Rattle.sb_reader.proofs.Quotes.{passed_other, passed_pair}
use Rattle.sb_reader.proofs.token.closing_quote.Goals as goal

pub loop-i-preserved-then-inside-i-ne34 : goal.loop-i-preserved-then-inside-i-ne34
loop-i-preserved-then-inside-i-ne34 c =
    record {
      in_range = omega (arith, c.loop-i-test.true);
      same = sym (passed_other c.args.inside.now c.loop-i.i c.loop-i-test.true c.if-inside-i-ne34.true)
          ∙ c.loop-i.invariant.same;
    }

pub loop-i-preserved : goal.loop-i-preserved
loop-i-preserved c =
    record {
      in_range = omega (arith, c.if-i-inside.true);
      same = sym (passed_pair c.args.inside.now c.loop-i.i c.if-i-inside.true c.if-inside-i-ne34.false
          c.if-inside-i-eq34.true) ∙ c.loop-i.invariant.same;
    }
