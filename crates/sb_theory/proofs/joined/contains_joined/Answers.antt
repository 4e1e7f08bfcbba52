use Rattle.sb_theory.proofs.Words.{arith, IfOk-from_err, regex_at, regexes_both, regexes_same}
use Rattle.sb_regex.proofs.CallerLemmas.{names_below}
use Rattle.sb_theory.proofs.Pieces.{along_none, joined_in, piece_formed, piece_more}
use Rattle.sb_theory.proofs.joined.contains_joined.Goals as goal

pub loop-piece-init : goal.loop-piece-init
loop-piece-init c = (
  along_none c.args.store.now.arena c.args.regex c.requires.known,
  regexes_same c.args.store.now,
)

pub behind-requires : goal.behind-requires
behind-requires c =
    let l = c.loop-piece in
    record {
      known = names_below l.store.arena l.rest _ l.invariant.0;
      formed = piece_formed c.args.pieces.now l.piece-index c.piece-item.result c.loop-piece-test.true c.piece-item.is
          c.requires.formed;
      store = l.invariant.1.right c.requires.store;
    }

pub loop-piece-preserved : goal.loop-piece-preserved
loop-piece-preserved c =
    let l = c.loop-piece in (
      piece_more l.store.arena c.behind.new.store.arena c.args.words.now (regex_at c.args.store.now.arena c.args.regex)
          c.args.pieces.now l.piece-index c.piece-item.result l.rest c.in_ok-rest.rest c.loop-piece-test.true
          c.piece-item.is l.invariant.0 c.in_ok-rest.ensures.ok,
      regexes_both c.args.store.now l.store c.behind.new.store l.invariant.1 c.in_ok-rest.ensures.grows,
    )

pub nullable-requires : goal.nullable-requires
nullable-requires c = names_below c.loop-piece.store.arena c.loop-piece.rest _ c.loop-piece.invariant.0

pub returns : goal.returns
returns c =
    let l = c.loop-piece in
    record {
      ok = joined_in c.derivative_along_has_rests.ensures c.nullable_has_empty_word.ensures l.store.arena
          c.args.words.now (regex_at c.args.store.now.arena c.args.regex) c.args.pieces.now l.piece-index l.rest
          c.nullable.result (omega (arith, c.loop-piece-test.false)) l.invariant.0 c.nullable.ensures;
      grows = l.invariant.1;
    }

pub returns-in_err-rest : goal.returns-in_err-rest
returns-in_err-rest c =
    let x = c.from_residual in
    record {
      ok = IfOk-from_err x.result _ x.ensures.0;
      grows = regexes_both c.args.store.now c.loop-piece.store c.behind.new.store c.loop-piece.invariant.1
          c.in_err-rest.ensures.grows;
    }
