use Rattle.std.proofs.lemmas.Result.{IfOk-from_err, IfOk-weaker}
use Rattle.sb_lang.specs.Language.{language}
use Rattle.sb_regex.specs.Numbered.{regex_at}
use Rattle.sb_regex.proofs.CallerLemmas.{extends_more}
use Rattle.sb_graph.specs.Members.{IsOutcome, MeetsBound}
use Rattle.sb_graph.proofs.Walking.{outcome_same, bound_same}
use Rattle.sb_graph.proofs.members.find_word.Goals as goal

pub returns-in_err-start : goal.returns-in_err-start
returns-in_err-start c =
    let x = c.from_residual in
    let e = c.strongest.ensures in
    record {
      found = IfOk-from_err x.result _ x.ensures.0;
      bound = IfOk-from_err x.result _ x.ensures.0;
      extends = e.extends;
      faithful = c.faithful_stays.ensures c.args.arena.now c.strongest.new.arena c.args.deriver.now e.extends
          c.requires.faithful;
      kept = λ n pieces h. h;
    }

pub returns-in_err-queue : goal.returns-in_err-queue
returns-in_err-queue c =
    let x = c.from_residual-in_err-queue in
    let e = c.in_ok-start.ensures in
    record {
      found = IfOk-from_err x.result _ x.ensures.0;
      bound = IfOk-from_err x.result _ x.ensures.0;
      extends = e.extends;
      faithful = c.faithful_stays.ensures c.args.arena.now c.strongest.new.arena c.args.deriver.now e.extends
          c.requires.faithful;
      kept = λ n pieces h. h;
    }

pub find_from-requires : goal.find_from-requires
find_from-requires c = record {
  known = c.in_ok-start.ensures.known;
  faithful = c.faithful_stays.ensures c.args.arena.now c.strongest.new.arena c.args.deriver.now
      c.in_ok-start.ensures.extends c.requires.faithful;
  start = c.in_ok-queue.ensures;
}

pub returns : goal.returns
returns c =
    let rs = c.find_from.new.arena in
    let L = language (regex_at c.strongest.new.arena c.in_ok-start.start) in
    let M = language (regex_at c.args.arena.now c.args.root) in
    let s = c.in_ok-start.ensures in
    let f = c.find_from.ensures in
    record {
      found = IfOk-weaker c.find_from.result (IsOutcome L) (IsOutcome M) (outcome_same L M s.same) f.found;
      bound = IfOk-weaker c.find_from.result (MeetsBound rs L c.args.bound) (MeetsBound rs M c.args.bound)
          (bound_same L M s.same rs c.args.bound) f.bound;
      extends = extends_more c.args.arena.now c.strongest.new.arena rs s.extends f.extends;
      faithful = f.faithful;
      kept = f.kept;
    }
