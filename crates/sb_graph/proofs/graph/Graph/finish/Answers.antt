use Rattle.std.proofs.Common.{◌≡◌, ◌||◌, true, ◌<◌, refl, sym, ap, subst, ◌∙◌}
use Rattle.std.proofs.lemmas.Result.{IfOk-from_err, err_from_is_err_and}
use Rattle.std.specs.declared.cmp.Ordering.TheVariants.{Less}
use Rattle.sb_lang.specs.Language.{language}
use Rattle.sb_lang.specs.Least.{IsShortestLeast}
use Rattle.sb_deriv.specs.Faithful.{IsFaithful, KeepsEntries}
use Rattle.sb_regex.specs.Numbered.{regex_at}
use Rattle.sb_regex.proofs.CallerLemmas.{at_kept, names_below, number_kept}
use Rattle.sb_graph.specs.Findings.{is_marked, AreBarren, AreAnswers}
use Rattle.sb_graph.specs.Search.{IsSearchEnd}
use Rattle.sb_graph.specs.Witness.{shortlex, GoesOn, IsReachedBy}
use Rattle.sb_graph.proofs.Expanding.{found_reached}
use Rattle.sb_graph.proofs.Steps.{settled_by}
use Rattle.sb_graph.proofs.Searching.{come_start, root_known, found_answer, dead_barren, dead_root, dead_answer}
use Rattle.sb_graph.proofs.graph.Graph.finish.Goals as goal
use Rattle.sb_graph.specs.Queue.{has_regex, regex_of}

pub search-requires : goal.search-requires
search-requires c = record {
  graph = c.requires.graph;
  start = c.requires.start;
  within = c.requires.within;
}

pub returns-in_err-place : goal.returns-in_err-place
returns-in_err-place c =
    let x = c.from_residual in
    let p = err_from_is_err_and x.result x.ensures.1 in
    let e = c.in_err-place.ensures in
    record {
      found = IfOk-from_err x.result _ x.ensures.0;
      dead = IfOk-from_err x.result _ x.ensures.0;
      extends = e.extends;
      graph = e.graph;
      marks_stay = λ n h. subst (λ dead. is_marked dead n ≡ true) (sym e.marks) h;
      derivatives_stay = e.derivatives_stay;
      expands = λ before h. rw p.1 (e.expands before h);
      idle = e.idle;
      settles = IfOk-from_err x.result _ x.ensures.0;
    }

pub word_of-requires : goal.word_of-requires
word_of-requires c =
    let e = c.in_ok-place.ensures in
    let f = subst (IsSearchEnd c.search.new.arena c.args.root c.search.new.self.dead c.search.new.queue
    c.args.self.now.expanded c.search.new.self.expanded) c.in-Some.is (e.end c.args.self.now.expanded
    (come_start c.args.arena.now c.args.root c.args.self.now.dead c.args.queue.now c.args.from c.args.self.now.expanded
    c.requires.start c.requires.within)) in
    record {
      within = f.within;
      back = f.searched.reached.back;
      word = record {
        words = f.searched.words;
        are = f.searched.reached.words_are;
        is = f.searched.reached.characters c.in-Some.place f.within;
      };
    }

pub returns-in_err-word-in-Some : goal.returns-in_err-word-in-Some
returns-in_err-word-in-Some c =
    let x = c.from_residual-in_err-word-in-Some in
    let p = err_from_is_err_and x.result x.ensures.1 in
    let e = c.in_ok-place.ensures in
    record {
      found = IfOk-from_err x.result _ x.ensures.0;
      dead = IfOk-from_err x.result _ x.ensures.0;
      extends = e.extends;
      graph = e.graph;
      marks_stay = λ n h. subst (λ dead. is_marked dead n ≡ true) (sym e.marks) h;
      derivatives_stay = e.derivatives_stay;
      expands = λ before h. rw p.1 (e.expands before h);
      idle = e.idle;
      settles = IfOk-from_err x.result _ x.ensures.0;
    }

pub returns-in_err-keep-in-Some : goal.returns-in_err-keep-in-Some
returns-in_err-keep-in-Some c =
    let known = root_known c.args.arena.now c.args.root c.args.self.now.dead c.args.queue.now c.args.from c.requires.start
    in
    let e = c.in_ok-place.ensures in
    let f = subst (IsSearchEnd c.search.new.arena c.args.root c.search.new.self.dead c.search.new.queue
    c.args.self.now.expanded c.search.new.self.expanded) c.in-Some.is (e.end c.args.self.now.expanded
    (come_start c.args.arena.now c.args.root c.args.self.now.dead c.args.queue.now c.args.from c.args.self.now.expanded
    c.requires.start c.requires.within)) in
    let w = c.in_ok-word-in-Some.ensures in
    let least = found_answer c.nullable_has_empty_word.ensures c.derivative_along_has_rests.ensures c.args.arena.now
    c.search.new.arena e.extends c.args.root c.args.root known refl c.search.new.self.dead c.search.new.queue
    e.graph.barren c.args.self.now.expanded c.search.new.self.expanded c.in-Some.place f _ w.word w.along in
    let x = c.from_residual-in_err-keep-in-Some in
    let p = err_from_is_err_and x.result x.ensures.1 in
    let k = c.in_err-keep-in-Some.ensures in
    record {
      found = IfOk-from_err x.result _ x.ensures.0;
      dead = IfOk-from_err x.result _ x.ensures.0;
      extends = e.extends;
      graph = k.graph c.search.new.arena (number_kept c.args.arena.now c.search.new.arena c.args.root e.extends known)
          (subst (λ r. IsShortestLeast (language r) c.in_ok-word-in-Some.word)
          (sym (at_kept c.args.arena.now c.search.new.arena c.args.root e.extends known)) least) e.graph;
      marks_stay = λ n h. subst (λ dead. is_marked dead n ≡ true) (sym (k.rest.1 ∙ e.marks)) h;
      derivatives_stay = subst (KeepsEntries c.args.self.now.memo) (sym k.rest.0) e.derivatives_stay;
      expands = λ before h. rw p.1
          (subst (GoesOn (IsReachedBy c.search.new.arena (regex_at c.args.arena.now c.args.root) (λ v. Unit {0}))
          before) (sym k.rest.2) (e.expands before h));
      idle = λ same. k.rest.0 ∙ e.idle (sym k.rest.2 ∙ same);
      settles = IfOk-from_err x.result _ x.ensures.0;
    }

pub returns-in_ok-keep-in-Some : goal.returns-in_ok-keep-in-Some
returns-in_ok-keep-in-Some c =
    let known = root_known c.args.arena.now c.args.root c.args.self.now.dead c.args.queue.now c.args.from c.requires.start
    in
    let e = c.in_ok-place.ensures in
    let f = subst (IsSearchEnd c.search.new.arena c.args.root c.search.new.self.dead c.search.new.queue
    c.args.self.now.expanded c.search.new.self.expanded) c.in-Some.is (e.end c.args.self.now.expanded
    (come_start c.args.arena.now c.args.root c.args.self.now.dead c.args.queue.now c.args.from c.args.self.now.expanded
    c.requires.start c.requires.within)) in
    let w = c.in_ok-word-in-Some.ensures in
    let least = found_answer c.nullable_has_empty_word.ensures c.derivative_along_has_rests.ensures c.args.arena.now
    c.search.new.arena e.extends c.args.root c.args.root known refl c.search.new.self.dead c.search.new.queue
    e.graph.barren c.args.self.now.expanded c.search.new.self.expanded c.in-Some.place f _ w.word w.along in
    let k = c.in_ok-keep-in-Some.ensures in
    record {
      found = least;
      dead = tt;
      extends = e.extends;
      graph = k.graph c.search.new.arena (number_kept c.args.arena.now c.search.new.arena c.args.root e.extends known)
          (subst (λ r. IsShortestLeast (language r) c.in_ok-word-in-Some.word)
          (sym (at_kept c.args.arena.now c.search.new.arena c.args.root e.extends known)) least) e.graph;
      marks_stay = λ n h. subst (λ dead. is_marked dead n ≡ true) (sym (k.rest.1 ∙ e.marks)) h;
      derivatives_stay = subst (KeepsEntries c.args.self.now.memo) (sym k.rest.0) e.derivatives_stay;
      expands = λ before h.
          let found = subst (IsSearchEnd c.search.new.arena c.args.root c.search.new.self.dead c.search.new.queue before
          c.search.new.self.expanded) c.in-Some.is (e.end before h) in
          subst (GoesOn (IsReachedBy c.search.new.arena (regex_at c.args.arena.now c.args.root)
          (λ v. shortlex v c.in_ok-word-in-Some.word ≡ Less)) before) (sym k.rest.2)
          (found_reached c.args.arena.now c.search.new.arena e.extends c.args.root known c.search.new.self.dead
          c.search.new.queue before c.search.new.self.expanded c.in-Some.place found _ w.word w.along);
      idle = λ same. k.rest.0 ∙ e.idle (sym k.rest.2 ∙ same);
      settles = k.kept;
    }

pub bury-requires : goal.bury-requires
bury-requires c =
    let e = c.in_ok-place.ensures in
    let f = subst (IsSearchEnd c.search.new.arena c.args.root c.search.new.self.dead c.search.new.queue
    c.args.self.now.expanded c.search.new.self.expanded) c.in-None.is (e.end c.args.self.now.expanded
    (come_start c.args.arena.now c.args.root c.args.self.now.dead c.args.queue.now c.args.from c.args.self.now.expanded
    c.requires.start c.requires.within)) in
    record {
      known = λ k h. subst (λ len. regex_of c.search.new.queue k < len) (sym c.len.ensures)
          (names_below c.search.new.arena _ _ (f.reached.along k h));
      marks = λ n h. subst (λ len. n < len) (sym c.len.ensures) (e.graph.barren n h).known;
    }

pub returns-in_err-bury-in-None : goal.returns-in_err-bury-in-None
returns-in_err-bury-in-None c =
    let x = c.from_residual-in_err-bury-in-None in
    let p = err_from_is_err_and x.result x.ensures.1 in
    let e = c.in_ok-place.ensures in
    let b = c.in_err-bury-in-None.ensures in
    record {
      found = IfOk-from_err x.result _ x.ensures.0;
      dead = IfOk-from_err x.result _ x.ensures.0;
      extends = e.extends;
      graph = record {
        faithful = subst (IsFaithful c.search.new.arena) (sym b.memo) e.graph.faithful;
        barren = subst (AreBarren c.search.new.arena) (sym b.unchanged) e.graph.barren;
        answered = subst (AreAnswers c.search.new.arena) (sym b.answers) e.graph.answered;
      };
      marks_stay = λ n h. subst (λ dead. is_marked dead n ≡ true) (sym (b.unchanged ∙ e.marks)) h;
      derivatives_stay = subst (KeepsEntries c.args.self.now.memo) (sym b.memo) e.derivatives_stay;
      expands = λ before h. rw p.1
          (subst (GoesOn (IsReachedBy c.search.new.arena (regex_at c.args.arena.now c.args.root) (λ v. Unit {0}))
          before) (sym b.expanded) (e.expands before h));
      idle = λ same. b.memo ∙ e.idle (sym b.expanded ∙ same);
      settles = IfOk-from_err x.result _ x.ensures.0;
    }

pub returns-in_ok-bury-in-None : goal.returns-in_ok-bury-in-None
returns-in_ok-bury-in-None c =
    let first = c.args.arena.now in
    let rs = c.search.new.arena in
    let empty = c.nullable_has_empty_word.ensures in
    let along = c.derivative_along_has_rests.ensures in
    let known = root_known c.args.arena.now c.args.root c.args.self.now.dead c.args.queue.now c.args.from c.requires.start
    in
    let e = c.in_ok-place.ensures in
    let b = c.in_ok-bury-in-None.ensures in
    let f = subst (IsSearchEnd c.search.new.arena c.args.root c.search.new.self.dead c.search.new.queue
    c.args.self.now.expanded c.search.new.self.expanded) c.in-None.is (e.end c.args.self.now.expanded
    (come_start c.args.arena.now c.args.root c.args.self.now.dead c.args.queue.now c.args.from c.args.self.now.expanded
    c.requires.start c.requires.within)) in
    let dead = dead_root empty along first rs e.extends c.args.root c.args.root known refl c.search.new.self.dead
    c.search.new.queue e.graph.barren c.bury.new.self.dead f b.marks in
    record {
      found = dead_answer empty along first rs e.extends c.args.root c.args.root known refl c.search.new.self.dead
          c.search.new.queue e.graph.barren c.bury.new.self.dead f b.marks;
      dead = dead;
      extends = e.extends;
      graph = record {
        faithful = subst (IsFaithful rs) (sym b.memo) e.graph.faithful;
        barren = dead_barren empty along first rs e.extends c.args.root c.args.root known refl c.search.new.self.dead
            c.search.new.queue e.graph.barren c.bury.new.self.dead f b.marks;
        answered = subst (AreAnswers rs) (sym b.answers) e.graph.answered;
      };
      marks_stay = λ n h.
          b.marks n
          ∙ ap (λ m. m || has_regex c.search.new.queue n) (subst (λ dead. is_marked dead n ≡ true) (sym e.marks) h);
      derivatives_stay = subst (KeepsEntries c.args.self.now.memo) (sym b.memo) e.derivatives_stay;
      expands = λ before h.
          subst (GoesOn (IsReachedBy rs (regex_at first c.args.root) (λ v. Unit {0})) before) (sym b.expanded)
          (e.expands before h);
      idle = λ same. b.memo ∙ e.idle (sym b.expanded ∙ same);
      settles = settled_by c.bury.new.self c.args.root dead;
    }
