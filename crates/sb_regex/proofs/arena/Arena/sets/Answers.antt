use Rattle.std.proofs.Common.{◌∷◌, [], ◌++◌, refl, ap, sym, ◌∙◌}
use Rattle.std.specs.List.{flat_map}
use Rattle.std.proofs.lemmas.List.{append-nil}
use Rattle.std.proofs.lemmas.Result.{IfOk-from_err}
use Rattle.sb_lang.specs.Constructors.{ranges_of}
use Rattle.sb_regex.specs.Nodes.{node_regex}
use Rattle.sb_regex.proofs.Building.{normal_at}
use Rattle.sb_regex.proofs.Gathering.{gather_next, flat_more, ranges_set, ranges_other, normal_is_canonical, gather_end}
use Rattle.sb_regex.proofs.CallerLemmas.{number_in}
use Rattle.sb_regex.proofs.arena.Arena.sets.Goals as goal
use Rattle.sb_regex.proofs.arena.Arena.sets.Goals.{in-Set+in_ok-class+in_ok-push_back, in_default}

pub class_of-requires : goal.class_of-requires
class_of-requires c =
    let rs = c.args.self.now in
    let x = number_in rs c.args.members.now c.loop-id.id-index c.id-item.result c.requires c.loop-id-test.true
    c.id-item.is in
    let value = ap (node_regex rs) (sym c.in-Set.is) ∙ c.node.ensures.value in
    rw (c.as_slice.ensures.value)
    (normal_is_canonical _ _ value (normal_at rs c.id-item.result c.normal_regexes_each_once.ensures.normal x))

pub loop-id-preserved : goal.loop-id-preserved
loop-id-preserved c =
    let rs = c.args.self.now in
    elim c.match-node.branch [
      | in-Set+in_ok-class+in_ok-push_back w ↦
          let value = ap (node_regex rs) (sym w.in-Set.is) ∙ c.node.ensures.value in
          let class = w.in_ok-class.ensures ∙ w.as_slice.ensures.value in
          rw (w.classes-is)
          (gather_next (flat_map ranges_of) ranges_of (flat_more ranges_of) refl rs c.args.members.now
          c.loop-id.id-index c.id-item.result _ _ _ c.loop-id-test.true c.id-item.is
          (w.in_ok-push_back.ensures.items
          ∙ ap (λ xs. c.loop-id.classes.items ++ xs) (ap (λ s. s ∷ []) class ∙ ranges_set _ _ value))
          c.loop-id.invariant)
      | in_default w ↦
          rw (w.classes-is)
          (gather_next (flat_map ranges_of) ranges_of (flat_more ranges_of) refl rs c.args.members.now
          c.loop-id.id-index c.id-item.result _ _ _ c.loop-id-test.true c.id-item.is
          (sym (append-nil c.loop-id.classes.items)
          ∙ ap (λ xs. c.loop-id.classes.items ++ xs)
          (ranges_other rs _ _ c.node.ensures.value w.in_default.not-Set)) c.loop-id.invariant)
    ]

pub returns-in_err-class : goal.returns-in_err-class
returns-in_err-class c = IfOk-from_err c.from_residual.result _ c.from_residual.ensures.0

pub returns-in_err-push_back : goal.returns-in_err-push_back
returns-in_err-push_back c =
    IfOk-from_err c.from_residual-in_err-push_back.result _ c.from_residual-in_err-push_back.ensures.0

pub returns : goal.returns
returns c =
    gather_end (flat_map ranges_of) ranges_of (flat_more ranges_of) refl c.args.self.now c.args.members.now
    c.loop-id.id-index c.loop-id.classes.items _ c.loop-id-test.false c.loop-id.invariant
