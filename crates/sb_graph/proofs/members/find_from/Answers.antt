use Rattle.std.proofs.Common.{IfOk, sym, ap, subst, ◌∙◌}
use Rattle.std.proofs.lemmas.Result.{IfOk-from_err}
use Rattle.sb_lang.specs.Language.{language}
use Rattle.sb_lang.specs.Least.{IsShortestLeast, HasNoWord}
use Rattle.sb_regex.specs.Numbered.{regex_at}
use Rattle.sb_regex.proofs.CallerLemmas.{at_kept, number_kept, extends_more}
use Rattle.sb_graph.specs.Members.{IsOutcome, MeetsBound, AreMany}
use Rattle.sb_graph.specs.Queue.{regex_of}
use Rattle.sb_graph.specs.Walks.{first_language, IsStop}
use Rattle.sb_graph.proofs.Walking.{started, found_leads}
use Rattle.sb_graph.proofs.WalkEnds.{found_is, whole_is}
use Rattle.sb_graph.proofs.members.find_from.Goals as goal

pub walk-requires : goal.walk-requires
walk-requires c = record {
  start = started c.args.arena.now c.args.queue.now c.args.root c.requires.start c.requires.known;
  faithful = c.requires.faithful;
}

pub returns-in_err-stop : goal.returns-in_err-stop
returns-in_err-stop c =
    let x = c.from_residual in
    let e = c.in_err-stop.ensures in
    record {
      found = IfOk-from_err x.result _ x.ensures.0;
      bound = IfOk-from_err x.result _ x.ensures.0;
      extends = e.extends;
      faithful = e.faithful;
      kept = e.kept;
    }

pub word_of-requires : goal.word_of-requires
word_of-requires c =
    let L = first_language c.args.arena.now c.args.queue.now in
    let f = subst (IsStop c.walk.new.arena L c.walk.new.queue c.args.bound) c.in-Nullable.is c.in_ok-stop.ensures.stop
    in
    record {
      within = f.within;
      back = f.searched.reached.back;
      word = found_leads c.walk.new.arena L c.walk.new.queue c.in-Nullable.place f;
    }

pub returns-in_err-word-in-Nullable : goal.returns-in_err-word-in-Nullable
returns-in_err-word-in-Nullable c =
    let x = c.from_residual-in_err-word-in-Nullable in
    let e = c.in_ok-stop.ensures in
    record {
      found = IfOk-from_err x.result _ x.ensures.0;
      bound = IfOk-from_err x.result _ x.ensures.0;
      extends = e.extends;
      faithful = e.faithful;
      kept = e.kept;
    }

pub returns-in_ok-word-in-Nullable : goal.returns-in_ok-word-in-Nullable
returns-in_ok-word-in-Nullable c =
    let is = ap (λ queue. regex_of queue 0) c.requires.start in
    let L = first_language c.args.arena.now c.args.queue.now in
    let e = c.in_ok-stop.ensures in
    let f = subst (IsStop c.walk.new.arena L c.walk.new.queue c.args.bound) c.in-Nullable.is e.stop in
    let w = c.in_ok-word-in-Nullable.ensures in
    record {
      found = subst (λ n. IsShortestLeast (language (regex_at c.args.arena.now n)) c.in_ok-word-in-Nullable.word) is
          (found_is c.nullable_has_empty_word.ensures c.walk.new.arena L c.walk.new.queue c.in-Nullable.place f _ w.word
          w.along);
      bound = tt;
      extends = e.extends;
      faithful = e.faithful;
      kept = e.kept;
    }

pub returns-in-End : goal.returns-in-End
returns-in-End c =
    let is = ap (λ queue. regex_of queue 0) c.requires.start in
    let L = first_language c.args.arena.now c.args.queue.now in
    let e = c.in_ok-stop.ensures in
    let f = subst (IsStop c.walk.new.arena L c.walk.new.queue c.args.bound) c.in-End.is e.stop in
    record {
      found = subst (λ n. HasNoWord (language (regex_at c.args.arena.now n))) is
          (whole_is c.nullable_has_empty_word.ensures c.walk.new.arena L c.walk.new.queue f);
      bound = tt;
      extends = e.extends;
      faithful = e.faithful;
      kept = e.kept;
    }

pub search_lengths-requires : goal.search_lengths-requires
search_lengths-requires c =
    let first = c.args.arena.now in
    let rs = c.walk.new.arena in
    let is = ap (λ queue. regex_of queue 0) c.requires.start in
    let L = first_language first c.args.queue.now in
    let e = c.in_ok-stop.ensures in
    let f = subst (IsStop rs L c.walk.new.queue c.args.bound) c.in-Bound.is e.stop in
    record {
      known = number_kept first rs c.args.root e.extends c.requires.known;
      faithful = e.faithful;
      many = subst (λ r. AreMany rs (language r) c.args.bound)
          (ap (regex_at first) is ∙ sym (at_kept first rs c.args.root e.extends c.requires.known)) f;
    }

pub returns-in-Bound : goal.returns-in-Bound
returns-in-Bound c =
    let first = c.args.arena.now in
    let rs = c.walk.new.arena in
    let e = c.in_ok-stop.ensures in
    let s = c.search_lengths.ensures in
    let kept = at_kept first rs c.args.root e.extends c.requires.known in
    record {
      found = subst (λ r. IfOk c.search_lengths.result (IsOutcome (language r))) kept s.found;
      bound = subst (λ r. IfOk c.search_lengths.result
          (MeetsBound c.search_lengths.new.arena (language r) c.args.bound)) kept s.bound;
      extends = extends_more first rs c.search_lengths.new.arena e.extends s.extends;
      faithful = s.faithful;
      kept = λ n pieces h. s.kept n pieces (e.kept n pieces h);
    }
