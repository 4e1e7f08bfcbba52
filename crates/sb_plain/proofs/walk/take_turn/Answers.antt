use Rattle.std.proofs.Common.{◌∙◌, ap, sym, drop, arith}
use Rattle.std.proofs.lemmas.Result.{IfOk-from_err}
use Rattle.std.proofs.lemmas.Bool.{false≢true}
use Rattle.sb_lang.specs.Language.{language}
use Rattle.sb_regex.specs.Numbered.{regex_at}
use Rattle.sb_plain.proofs.Turns.{states_dropped, states_entered, states_kept, matches_at_end}
use Rattle.sb_regex.proofs.CallerLemmas.{extends_same}
use Rattle.sb_plain.proofs.Failing.{failed_kept}
use Rattle.sb_plain.proofs.walk.take_turn.Goals as goal

pub returns-in_err-put : goal.returns-in_err-put
returns-in_err-put c =
    let x = c.from_residual in
    record {
      found = IfOk-from_err x.result _ x.ensures.0;
      next = IfOk-from_err x.result _ x.ensures.0;
      extends = extends_same c.args.arena.now;
      right = c.requires.right;
      failed = c.in_err-put.ensures.right c.args.arena.now c.requires.failed c.requires.state.known
          (ap (λ w. language (regex_at c.args.arena.now c.args.state.regex) (drop c.args.state.place w)) c.requires.same
          ∙ c.requires.fails c.if-state.true);
      same = c.in_err-put.ensures.word ∙ c.requires.same;
    }

pub returns-then-state : goal.returns-then-state
returns-then-state c =
    record {
      found = λ t. absurd (false≢true t);
      next = λ e found a.
          states_dropped c.args.arena.now c.args.codes.now found c.args.states.now.items c.args.state
          (c.requires.fails c.if-state.true) a;
      extends = extends_same c.args.arena.now;
      right = c.requires.right;
      failed = c.in_ok-put.ensures.right c.args.arena.now c.requires.failed c.requires.state.known
          (ap (λ w. language (regex_at c.args.arena.now c.args.state.regex) (drop c.args.state.place w)) c.requires.same
          ∙ c.requires.fails c.if-state.true);
      same = c.in_ok-put.ensures.word ∙ c.requires.same;
    }

pub returns-then-has : goal.returns-then-has
returns-then-has c =
    record {
      found = λ t. absurd (false≢true t);
      next = λ e found a.
          states_dropped c.args.arena.now c.args.codes.now found c.args.states.now.items c.args.state
          (ap (λ w. language (regex_at c.args.arena.now c.args.state.regex) (drop c.args.state.place w)) (sym
          c.requires.same)
          ∙ c.has.ensures c.if-has.true c.args.arena.now c.requires.failed) a;
      extends = extends_same c.args.arena.now;
      right = c.requires.right;
      failed = c.requires.failed;
      same = c.requires.same;
    }

pub returns-then-state-codes : goal.returns-then-state-codes
returns-then-state-codes c =
    record {
      found = λ t.
          matches_at_end c.nullable_has_empty_word.ensures c.args.arena.now c.args.codes.now c.args.state
          c.nullable.result c.if-state-codes.true c.nullable.ensures
          ∙ t;
      next = λ e found a.
          states_dropped c.args.arena.now c.args.codes.now found c.args.states.now.items c.args.state
          (matches_at_end c.nullable_has_empty_word.ensures c.args.arena.now c.args.codes.now c.args.state
          c.nullable.result
          c.if-state-codes.true c.nullable.ensures ∙ e) a;
      extends = extends_same c.args.arena.now;
      right = c.requires.right;
      failed = c.requires.failed;
      same = c.requires.same;
    }

pub returns : goal.returns
returns c =
    let e = c.in_ok-enter.ensures in
    record {
      found = λ t. absurd (false≢true t);
      next = λ e found a.
          states_entered c.enter.new.arena c.args.codes.now found c.args.state c.args.states.now.items
          c.enter.new.states.items (omega (arith, c.if-state-codes.false, c.requires.state.within))
          c.in_ok-enter.ensures.entered
          (states_kept c.args.arena.now c.enter.new.arena c.args.codes.now found _ c.in_ok-enter.ensures.extends a);
      extends = e.extends;
      right = e.right;
      failed = failed_kept c.args.arena.now c.enter.new.arena c.args.failed.now e.extends c.requires.failed;
      same = c.requires.same;
    }

pub nullable-requires : goal.nullable-requires
nullable-requires c = c.requires.state.known

pub enter-requires : goal.enter-requires
enter-requires c =
    record {
      known = c.requires.state.known;
      place = omega (arith, c.if-state-codes.false, c.requires.state.within);
      word = c.requires.word;
      right = c.requires.right;
    }

pub returns-in_err-enter : goal.returns-in_err-enter
returns-in_err-enter c =
    let x = c.from_residual-in_err-enter in
    let e = c.enter.ensures in
    record {
      found = IfOk-from_err x.result _ x.ensures.0;
      next = IfOk-from_err x.result _ x.ensures.0;
      extends = e.extends;
      right = e.right;
      failed = failed_kept c.args.arena.now c.enter.new.arena c.args.failed.now e.extends c.requires.failed;
      same = c.requires.same;
    }
