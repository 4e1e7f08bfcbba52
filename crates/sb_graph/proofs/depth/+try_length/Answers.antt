use Rattle.std.proofs.Common.{◌-◌, refl, ap, subst, ◌∙◌, arith}
use Rattle.std.specs.List.{list_any}
use Rattle.std.proofs.lemmas.Result.{IfOk-from_err}
use Rattle.sb_lang.specs.Language.{language}
use Rattle.sb_regex.specs.Numbered.{regex_at}
use Rattle.sb_regex.proofs.CallerLemmas.{at_kept, number_kept, extends_same, extends_more}
use Rattle.sb_graph.specs.Lengths.{IsTried}
use Rattle.sb_graph.proofs.LeastWords.{zeros_found}
use Rattle.sb_graph.proofs.Looping.{is_pair, failed_more, cut_back, expanding_begun, expanding_next, expanding_found, expanding_done, target_below}
use Rattle.sb_graph.proofs.depth.+try_length.Goals as goal

pub look-requires : goal.look-requires
look-requires t c = record { known = c.requires.known; failed = c.requires.failed }

pub returns-in_err-put_zeros-in-Every : goal.returns-in_err-put_zeros-in-Every
returns-in_err-put_zeros-in-Every t c =
    let x = c.from_residual in
    record {
      tried = IfOk-from_err x.result _ x.ensures.0;
      failed = IfOk-from_err x.result _ x.ensures.0;
      extends = extends_same c.args.arena.now;
      faithful = c.requires.faithful;
      kept = λ m ps h. h;
    }

pub returns-in-Every : goal.returns-in-Every
returns-in-Every t c = record {
  tried = zeros_found (language (regex_at c.args.arena.now c.args.state)) c.args.wanted c.args.codes.now.items
      c.put_zeros.new.codes.items c.in-Every.ensures c.in_ok-put_zeros-in-Every.ensures;
  failed = c.requires.failed;
  extends = extends_same c.args.arena.now;
  faithful = c.requires.faithful;
  kept = λ m ps h. h;
}

pub returns-in-Nothing : goal.returns-in-Nothing
returns-in-Nothing t c = record {
  tried = (c.in-Nothing.ensures, refl);
  failed = c.requires.failed;
  extends = extends_same c.args.arena.now;
  faithful = c.requires.faithful;
  kept = λ m ps h. h;
}

pub returns-then-left-eq0 : goal.returns-then-left-eq0
returns-then-left-eq0 t c = record {
  tried = tt;
  failed = c.requires.failed;
  extends = extends_same c.args.arena.now;
  faithful = c.requires.faithful;
  kept = λ m ps h. h;
}

pub derive-requires : goal.derive-requires
derive-requires t c = record { known = c.requires.known; faithful = c.requires.faithful }

pub returns-in_err-derive : goal.returns-in_err-derive
returns-in_err-derive t c =
    let x = c.from_residual-in_err-derive in
    let e = c.in_err-derive.ensures in
    record {
      tried = IfOk-from_err x.result _ x.ensures.0;
      failed = IfOk-from_err x.result _ x.ensures.0;
      extends = e.extends;
      faithful = e.faithful;
      kept = e.kept;
    }

pub count_of-count-requires : goal.count_of-count-requires
count_of-count-requires t c = c.in_ok-derive.ensures.done

pub loop-place-init : goal.loop-place-init
loop-place-init t c =
    expanding_begun c.args.arena.now c.derive.new.arena c.args.deriver.now c.derive.new.self c.args.failed.now.keys
    c.args.state c.args.wanted c.count_of-count.result c.args.codes.now.items c.in_ok-derive.ensures.extends
    c.in_ok-derive.ensures.faithful c.in_ok-derive.ensures.kept c.requires.failed c.in_ok-derive.ensures.done
    c.count_of-count.ensures

pub try_length-requires : goal.try_length-requires
try_length-requires t c =
    let x = c.loop-place.invariant in (
      omega (arith, c.decreases, c.in-Open.ensures),
      (
        target_below c.derivative_has_rests.ensures c.args.arena.now c.loop-place.arena c.args.deriver.now
            c.loop-place.deriver c.loop-place.failed.keys c.args.state c.args.wanted c.count_of-count.result
            c.loop-place.place c.args.codes.now.items c.loop-place.codes.items c.requires.known c.in-Open.ensures x
            c.piece_at-character.result.0 c.piece_at-character.result.1
            (c.piece_at-character.ensures x.passed.pieces x.passed.known),
        (x.faithful, x.failed),
      ),
    )

pub piece_at-character-requires : goal.piece_at-character-requires
piece_at-character-requires t c =
    let x = c.loop-place.invariant in
    (x.passed.pieces, x.passed.known, omega (arith, x.passed.long, c.loop-place-test.true))

pub returns-in_err-push : goal.returns-in_err-push
returns-in_err-push t c =
    let r = c.from_residual-in_err-push in
    let x = c.loop-place.invariant in
    record {
      tried = IfOk-from_err r.result _ r.ensures.0;
      failed = IfOk-from_err r.result _ r.ensures.0;
      extends = x.extends;
      faithful = x.faithful;
      kept = x.kept;
    }

pub returns-in_err-try_length : goal.returns-in_err-try_length
returns-in_err-try_length t c =
    let r = c.from_residual-in_err-try_length in
    let x = c.loop-place.invariant in
    let e = c.in_err-try_length.ensures in
    record {
      tried = IfOk-from_err r.result _ r.ensures.0;
      failed = IfOk-from_err r.result _ r.ensures.0;
      extends = extends_more c.args.arena.now c.loop-place.arena c.try_length.new.arena x.extends e.extends;
      faithful = e.faithful;
      kept = λ m ps h. e.kept m ps (x.kept m ps h);
    }

pub returns-in-Found : goal.returns-in-Found
returns-in-Found t c =
    let x = c.loop-place.invariant in
    let e = c.in_ok-try_length.ensures in
    record {
      tried = expanding_found c.derivative_has_rests.ensures c.args.arena.now c.loop-place.arena c.args.deriver.now
          c.loop-place.deriver c.loop-place.failed.keys c.args.state c.args.wanted c.count_of-count.result
          c.loop-place.place c.args.codes.now.items c.loop-place.codes.items c.requires.known c.in-Open.ensures x
          c.piece_at-character.result.0 c.piece_at-character.result.1
          (c.piece_at-character.ensures x.passed.pieces x.passed.known)
          c.push.new.self.items c.try_length.new.codes.items c.in_ok-push.ensures.items
          (subst (IsTried (language (regex_at c.loop-place.arena c.piece_at-character.result.1)) (c.args.wanted - 1)
          c.push.new.self.items c.try_length.new.codes.items) c.in-Found.is c.in_ok-try_length.ensures.tried);
      failed = e.failed;
      extends = extends_more c.args.arena.now c.loop-place.arena c.try_length.new.arena x.extends e.extends;
      faithful = e.faithful;
      kept = λ m ps h. e.kept m ps (x.kept m ps h);
    }

pub returns-in-Stopped : goal.returns-in-Stopped
returns-in-Stopped t c =
    let x = c.loop-place.invariant in
    let e = c.in_ok-try_length.ensures in
    record {
      tried = tt;
      failed = e.failed;
      extends = extends_more c.args.arena.now c.loop-place.arena c.try_length.new.arena x.extends e.extends;
      faithful = e.faithful;
      kept = λ m ps h. e.kept m ps (x.kept m ps h);
    }

pub loop-place-preserved : goal.loop-place-preserved
loop-place-preserved t c =
    let x = c.loop-place.invariant in
    let nothing = subst
    (IsTried (language (regex_at c.loop-place.arena c.piece_at-character.result.1)) (c.args.wanted - 1)
    c.push.new.self.items c.try_length.new.codes.items) c.in-Nothing-2.is c.in_ok-try_length.ensures.tried in
    expanding_next c.derivative_has_rests.ensures c.args.arena.now c.loop-place.arena c.args.deriver.now
    c.loop-place.deriver c.loop-place.failed.keys c.args.state c.args.wanted c.count_of-count.result
    c.loop-place.place c.args.codes.now.items c.loop-place.codes.items c.requires.known c.in-Open.ensures x
    c.piece_at-character.result.0 c.piece_at-character.result.1
    (c.piece_at-character.ensures x.passed.pieces x.passed.known)
    c.try_length.new.arena c.try_length.new.deriver c.try_length.new.failed.keys c.truncate.new.self.items
    c.in_ok-try_length.ensures.extends c.in_ok-try_length.ensures.faithful c.in_ok-try_length.ensures.kept
    c.in_ok-try_length.ensures.failed nothing.0
    (cut_back c.args.codes.now.items c.loop-place.codes.items c.push.new.self.items c.try_length.new.codes.items
    c.truncate.new.self.items c.len-depth.result c.piece_at-character.result.0
    (c.len-depth.ensures ∙ c.args.codes.now.ok.0) x.same c.in_ok-push.ensures.items nothing.1
    c.truncate.ensures.items)

pub returns-in_err-insert : goal.returns-in_err-insert
returns-in_err-insert t c =
    let r = c.from_residual-in_err-insert in
    let x = c.loop-place.invariant in
    record {
      tried = IfOk-from_err r.result _ r.ensures.0;
      failed = IfOk-from_err r.result _ r.ensures.0;
      extends = x.extends;
      faithful = x.faithful;
      kept = x.kept;
    }

pub returns : goal.returns
returns t c =
    let x = c.loop-place.invariant in
    let none = expanding_done c.derivative_has_rests.ensures c.args.arena.now c.loop-place.arena c.args.deriver.now
    c.loop-place.deriver c.loop-place.failed.keys c.args.state c.args.wanted c.count_of-count.result
    c.loop-place.place c.args.codes.now.items c.loop-place.codes.items c.requires.known c.in-Open.ensures x
    c.loop-place-test.false in
    record {
      tried = (none, x.same);
      failed = failed_more c.loop-place.arena c.loop-place.failed.keys c.insert.new.self.keys c.args.state c.args.wanted
          (list_any (is_pair (c.args.state, c.args.wanted)) c.loop-place.failed.keys) x.failed
          (number_kept c.args.arena.now c.loop-place.arena c.args.state x.extends c.requires.known)
          (λ w word long.
          ap (λ r. language r w) (at_kept c.args.arena.now c.loop-place.arena c.args.state x.extends c.requires.known)
          ∙ none w word long)
          c.in_ok-insert.ensures.keys;
      extends = x.extends;
      faithful = x.faithful;
      kept = x.kept;
    }
