use Rattle.std.proofs.Common.{◌≡◌, ◌==◌, length, sym, ◌∙◌, arith}
use Rattle.sb_rulebook.specs.Lines.{hexadecimal}
use Rattle.sb_rulebook.specs.Reading.{is_text}
use Rattle.sb_proof.proofs.HexadecimalFacts.{other_last, more_before, none_before, none_left}
use Rattle.sb_proof.proofs.numbers.is_hexadecimal.Goals as goal

pub loop-last-preserved : goal.loop-last-preserved
loop-last-preserved c =
    record {
      same =
          c.loop-last.invariant.same
          ∙ more_before c.loop-last.left c.hexadecimal_glyph.result c.in-Some.last.now c.loop-last.unread.now
          c.in-Some.front.now c.loop-last.invariant.fits c.in-Some.ensures.cases.0 c.hexadecimal_glyph.ensures
          c.if-hexadecimal_glyph-last.false c.if-left-eq0.false;
      fits = let less = c.loop-last.invariant.fits in omega (arith, less);
    }

pub returns-then-hexadecimal_glyph-last : goal.returns-then-hexadecimal_glyph-last
returns-then-hexadecimal_glyph-last c =
    sym (c.loop-last.invariant.same
    ∙ other_last c.loop-last.left c.hexadecimal_glyph.result c.in-Some.last.now c.loop-last.unread.now
    c.in-Some.front.now c.loop-last.invariant.fits c.in-Some.ensures.cases.0 c.hexadecimal_glyph.ensures
    c.if-hexadecimal_glyph-last.true)

pub returns-then-left-eq0 : goal.returns-then-left-eq0
returns-then-left-eq0 c =
    let e : is_text (hexadecimal c.args.n) c.args.field.now ≡ (length c.in-Some.front.now == 0) =
    c.loop-last.invariant.same
    ∙ none_before c.loop-last.left c.hexadecimal_glyph.result c.in-Some.last.now c.loop-last.unread.now
    c.in-Some.front.now c.loop-last.invariant.fits c.in-Some.ensures.cases.0 c.hexadecimal_glyph.ensures
    c.if-hexadecimal_glyph-last.false c.if-left-eq0.true in
    c.is_empty.ensures ∙ sym e

pub returns : goal.returns
returns c =
    sym (c.loop-last.invariant.same
    ∙ none_left c.loop-last.left c.loop-last.unread.now c.loop-last.invariant.fits c.in_default.ensures.cases)
