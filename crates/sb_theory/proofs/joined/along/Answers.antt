use Rattle.sb_theory.proofs.Words.{arith, IfOk-from_err}
use Rattle.sb_regex.proofs.CallerLemmas.{extends_more, extends_same, names_below}
use Rattle.sb_theory.proofs.Pieces.{along_none, character_below, character_more, characters_all}
use Rattle.sb_theory.proofs.joined.along.Goals as goal

pub loop-character-init : goal.loop-character-init
loop-character-init c = (
  along_none c.args.arena.now c.args.regex c.requires.known,
  extends_same c.args.arena.now,
  c.requires.right,
)

pub code_of-requires : goal.code_of-requires
code_of-requires c =
    character_below c.args.characters.now c.loop-character.character-index c.requires.word c.loop-character-test.true

pub plain_derivative-requires : goal.plain_derivative-requires
plain_derivative-requires c = record {
  known = names_below c.loop-character.arena c.loop-character.rest _ c.loop-character.invariant.0;
  character = omega (
    arith,
    c.code_of.ensures,
    character_below c.args.characters.now c.loop-character.character-index c.requires.word c.loop-character-test.true,
  );
  right = c.loop-character.invariant.2;
}

pub loop-character-preserved : goal.loop-character-preserved
loop-character-preserved c =
    let l = c.loop-character in (
      character_more l.arena c.plain_derivative.new.arena _ c.args.characters.now l.character-index l.rest
          c.in_ok-rest.rest c.code_of.result c.loop-character-test.true c.code_of.ensures l.invariant.0
          c.in_ok-rest.ensures.ok,
      extends_more c.args.arena.now l.arena c.plain_derivative.new.arena l.invariant.1 c.in_ok-rest.ensures.extends,
      c.in_ok-rest.ensures.right,
    )

pub returns : goal.returns
returns c =
    let l = c.loop-character in
    record {
      ok = characters_all l.arena _ c.args.characters.now l.character-index l.rest
          (omega (arith, c.loop-character-test.false)) l.invariant.0;
      extends = l.invariant.1;
      right = l.invariant.2;
    }

pub returns-in_err-rest : goal.returns-in_err-rest
returns-in_err-rest c =
    let x = c.from_residual in
    record {
      ok = IfOk-from_err x.result _ x.ensures.0;
      extends = extends_more c.args.arena.now c.loop-character.arena c.plain_derivative.new.arena
          c.loop-character.invariant.1 c.in_err-rest.ensures.extends;
      right = c.in_err-rest.ensures.right;
    }
