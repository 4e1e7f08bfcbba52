use Rattle.std.proofs.Common.{◌≡◌, true, false, List, IfSome, IfNone, refl, sym, subst, ◌∙◌}
use Rattle.std.proofs.lemmas.Bool.{false≢true}
use Rattle.std.proofs.lemmas.Result.{IfOk-from_err}
use Rattle.sb_lang.specs.Regex.{Regex}
use Rattle.sb_lang.specs.Language.{language}
use Rattle.sb_regex.specs.Numbered.{regex_at}
use Rattle.sb_regex.proofs.CallerLemmas.{extends_same}
use Rattle.sb_graph.specs.Findings.{is_settled, IsGraph}
use Rattle.sb_graph.specs.Witness.{IsFinding, MarksDead}
use Rattle.sb_graph.proofs.Expanding.{goes_on_same}
use Rattle.sb_graph.proofs.graph.Graph.explore.Goals as goal

pub returns-in_err-explored : goal.returns-in_err-explored
returns-in_err-explored c =
    let x = c.from_residual in
    record {
      found = IfOk-from_err x.result _ x.ensures.0;
      dead = IfOk-from_err x.result _ x.ensures.0;
      extends = extends_same c.args.arena.now;
      graph = c.requires.graph;
      marks_stay = λ n h. h;
      derivatives_stay = λ n pieces h. h;
      expands = goes_on_same _ c.args.self.now.expanded c.args.self.now.expanded refl;
      idle = λ same. refl;
      settles = IfOk-from_err x.result _ x.ensures.0;
      settled = λ s. refl;
    }

pub returns-in-Some : goal.returns-in-Some
returns-in-Some c =
    let r = c.in_ok-explored.ensures in
    record {
      found = subst (λ found. IfSome found (λ explored. (regexes : List Regex) → IsGraph regexes c.args.self.now
          → IsFinding (language (regex_at regexes c.args.root)) explored)) c.in-Some.is r.found c.args.arena.now
          c.requires.graph;
      dead = subst (λ found. IfSome found (MarksDead c.args.self.now.dead c.args.root)) c.in-Some.is r.dead;
      extends = extends_same c.args.arena.now;
      graph = c.requires.graph;
      marks_stay = λ n h. h;
      derivatives_stay = λ n pieces h. h;
      expands = goes_on_same _ c.args.self.now.expanded c.args.self.now.expanded refl;
      idle = λ same. refl;
      settles = subst (λ found. IfSome found (λ explored. is_settled c.args.self.now c.args.root ≡ true)) c.in-Some.is
          r.settled;
      settled = λ s. refl;
    }

pub walk-requires : goal.walk-requires
walk-requires c = record { known = c.requires.known; graph = c.requires.graph }

pub returns-in-None : goal.returns-in-None
returns-in-None c =
    let w = c.walk.ensures in
    let open_yet = subst (λ found. IfNone found (is_settled c.args.self.now c.args.root ≡ false)) c.in-None.is
    c.in_ok-explored.ensures.open in
    record {
      found = w.found;
      dead = w.dead;
      extends = w.extends;
      graph = w.graph;
      marks_stay = w.marks_stay;
      derivatives_stay = w.derivatives_stay;
      expands = w.expands;
      idle = w.idle;
      settles = w.settles;
      settled = λ s. absurd (false≢true (sym open_yet ∙ s));
    }
