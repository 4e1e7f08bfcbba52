use Rattle.std.proofs.Common.{◌≡◌, ◌||◌, ℕ, true, List, Bool, Some, refl, sym, ap, ◌∙◌}
use Rattle.std.specs.List.{list_all}
use Rattle.std.specs.Option.{option_copied}
use Rattle.sb_deriv.specs.Faithful.{entry_of}
use Rattle.sb_deriv.specs.Pieces.{targets_of}
use Rattle.sb_graph.specs.Findings.{is_marked}
use Rattle.sb_trace.specs.Reaching.{is_member}
use Rattle.sb_trace.specs.Closing.{is_met}
use Rattle.sb_trace.proofs.Growing.{stays_same}
use Rattle.sb_trace.proofs.Closures.{unburied_stay, targets_marked, numbers_from}
use Rattle.sb_trace.proofs.Exits.{on_ok_more}
use Rattle.sb_trace.proofs.Reached.{members_reached}
use Rattle.sb_trace.proofs.trace.Trace.gather_at.Goals as goal

pub returns-clause-led : goal.returns-clause-led
returns-clause-led c =
    let met = is_met c.args.skips c.args.self.now c.add_targets.new.members.keys in
    on_ok_more c.add_targets.result _ _
    (λ all. record {
      pieces = c.unwrap.result.now;
      derivative = sym c.derivative.ensures ∙ ap option_copied c.unwrap.ensures;
      met = ap (λ (ps : List (ℕ × ℕ)). list_all met (targets_of ps)) (sym c.pieces.ensures.value) ∙ all;
    }) c.add_targets.ensures.met

pub returns-clause-known : goal.returns-clause-known
returns-clause-known c =
    let entry : entry_of c.derive.new.self.memo c.args.regex ≡ Some c.unwrap.result.now =
    sym c.derivative.ensures ∙ ap option_copied c.unwrap.ensures in
    let h = c.in_ok-derive.ensures in
    let known = h.graph.faithful c.args.regex c.unwrap.result.now entry in
    let old = c.args.members.now.keys in
    let new = c.add_targets.new.members.keys in
    on_ok_more c.add_targets.result _ _
    (λ only. numbers_from c.args.arena.now c.derive.new.arena old new (targets_of c.unwrap.result.now) h.extends
    c.requires.known known.derivative.targets
    (λ n there. ap (λ (ps : List (ℕ × ℕ)). is_member old n || is_member (targets_of ps) n) (sym c.pieces.ensures.value)
    ∙ only n there)) c.add_targets.ensures.only

pub returns-clause-reached : goal.returns-clause-reached
returns-clause-reached c =
    let entry : entry_of c.derive.new.self.memo c.args.regex ≡ Some c.unwrap.result.now =
    sym c.derivative.ensures ∙ ap option_copied c.unwrap.ensures in
    let h = c.in_ok-derive.ensures in
    let known = h.graph.faithful c.args.regex c.unwrap.result.now entry in
    let old = c.args.members.now.keys in
    let new = c.add_targets.new.members.keys in
    on_ok_more c.add_targets.result _ _
    (λ only r here before. members_reached c.args.arena.now c.derive.new.arena r c.args.regex c.unwrap.result.now old
    new h.extends known
    (λ n there. ap (λ (ps : List (ℕ × ℕ)). is_member old n || is_member (targets_of ps) n) (sym c.pieces.ensures.value)
    ∙ only n there) here before) c.add_targets.ensures.only

pub returns-clause-unburied : goal.returns-clause-unburied
returns-clause-unburied c =
    let entry : entry_of c.derive.new.self.memo c.args.regex ≡ Some c.unwrap.result.now =
    sym c.derivative.ensures ∙ ap option_copied c.unwrap.ensures in
    let h = c.in_ok-derive.ensures in
    let known = h.graph.faithful c.args.regex c.unwrap.result.now entry in
    let old = c.args.graph.now.dead in
    let marks = c.derive.new.self.dead in
    on_ok_more c.add_targets.result _ _
    (λ more skips mark all.
    let now : is_marked marks c.args.regex ≡ true =
    ap (λ (ds : List Bool). is_marked ds c.args.regex) h.marks ∙ mark in
    let targets = targets_marked c.derive.new.arena marks c.args.regex c.unwrap.result.now
    c.normal_regexes_each_once.ensures.distinct (h.graph.barren c.args.regex now) known in
    more skips marks
    (ap (λ (ps : List (ℕ × ℕ)). list_all (is_marked marks) (targets_of ps)) c.pieces.ensures.value ∙ targets)
    (unburied_stay old marks c.args.self.now c.args.self.now c.args.members.now.keys h.marks (λ n. refl) all))
    c.add_targets.ensures.unburied

pub returns-in_err-derive-clause-goes : goal.returns-in_err-derive-clause-goes
returns-in_err-derive-clause-goes c =
    let h = c.in_err-derive.ensures in
    record {
      stays = stays_same c.args.self.now;
      buried = λ n. refl;
      expanded = λ n e. e;
      extends = h.extends;
      graph = h.graph;
      marks = h.marks;
      derivatives = h.derivatives_stay;
    }

pub returns-clause-goes : goal.returns-clause-goes
returns-clause-goes c =
    let h = c.in_ok-derive.ensures in
    record {
      stays = stays_same c.args.self.now;
      buried = λ n. refl;
      expanded = λ n e. e;
      extends = h.extends;
      graph = h.graph;
      marks = h.marks;
      derivatives = h.derivatives_stay;
    }
