use Rattle.std.proofs.Common.{◌≡◌, Some, sym, ap, ◌∙◌, refl}
use Rattle.std.specs.Option.{option_copied}
use Rattle.std.proofs.lemmas.Result.{IfOk-from_err, err_from_is_err_and}
use Rattle.sb_deriv.specs.Faithful.{entry_of}
use Rattle.sb_trace.proofs.Growing.{tracks_grow, dead_in_stays, expanded_in_stays, stays_same}
use Rattle.sb_trace.proofs.Exits.{on_ok_more, on_ok_known, counts_none}
use Rattle.sb_trace.proofs.Spent.{spent_none}
use Rattle.sb_regex.proofs.CallerLemmas.{number_kept}
use Rattle.sb_trace.proofs.trace.Trace.expand.Goals as goal

pub expand_by-requires : goal.expand_by-requires
expand_by-requires g c =
    record {
      known = number_kept c.args.arena.now c.derive.new.arena c.args.regex c.in_ok-derive.ensures.extends
          c.requires.known;
      targets = let entry : entry_of c.derive.new.self.memo c.args.regex ≡ Some c.unwrap-derivative.result.now =
          sym c.derivative.ensures ∙ ap option_copied c.unwrap-derivative.ensures in
          let known = c.in_ok-derive.ensures.graph.faithful c.args.regex c.unwrap-derivative.result.now entry in
          known.derivative.targets;
    }

pub returns : goal.returns
returns g c =
    let d = c.in_ok-derive.ensures in
    let e = c.expand_by.ensures in
    record {
      puts = let entry : entry_of c.derive.new.self.memo c.args.regex ≡ Some c.unwrap-derivative.result.now =
          sym c.derivative.ensures ∙ ap option_copied c.unwrap-derivative.ensures in
          let known = c.in_ok-derive.ensures.graph.faithful c.args.regex c.unwrap-derivative.result.now entry in
          let grown = c.in_ok-derive.ensures in
          on_ok_more c.expand_by.result _ _
          (λ put asked before tracks counts. put asked c.derive.new.self.memo before known entry
          (tracks_grow c.args.arena.now c.derive.new.arena c.args.graph.now.memo c.derive.new.self.memo
          c.args.self.now before
          grown.extends grown.derivatives_stay tracks) counts) c.expand_by.ensures.puts;
      expanded = e.expanded;
      already = e.already;
      spent = e.spent;
      spends = e.spends;
      limit = e.limit;
      only = e.only;
      derived = on_ok_known c.expand_by.result _ d.done;
      stays = e.stays;
      dead = e.dead;
      buried = dead_in_stays c.args.self.now c.expand_by.new.self c.expand_by.ensures.stays c.expand_by.ensures.dead
          c.marks_have_numbers.ensures.dead;
      expanded_stay = expanded_in_stays c.args.self.now c.expand_by.new.self c.expand_by.ensures.stays
          c.expand_by.ensures.marks;
      extends = d.extends;
      graph = d.graph;
      marks = d.marks;
      derivatives_stay = d.derivatives_stay;
      steps = e.steps;
      counts = e.counts;
    }

pub returns-in_err-derive : goal.returns-in_err-derive
returns-in_err-derive g c =
    let x = c.from_residual in
    let p = err_from_is_err_and x.result x.ensures.1 in
    let d = c.in_err-derive.ensures in
    record {
      puts = IfOk-from_err x.result _ x.ensures.0;
      expanded = IfOk-from_err x.result _ x.ensures.0;
      already = IfOk-from_err x.result _ x.ensures.0;
      spent = IfOk-from_err x.result _ x.ensures.0;
      spends = IfOk-from_err x.result _ x.ensures.0;
      limit = refl;
      only = IfOk-from_err x.result _ x.ensures.0;
      derived = IfOk-from_err x.result _ x.ensures.0;
      stays = stays_same c.args.self.now;
      dead = λ n. refl;
      buried = λ n. refl;
      expanded_stay = λ n e. e;
      extends = d.extends;
      graph = d.graph;
      marks = d.marks;
      derivatives_stay = d.derivatives_stay;
      steps = spent_none c.args.budget.now;
      counts = counts_none x.result p.0 _ p.1 p.2;
    }
