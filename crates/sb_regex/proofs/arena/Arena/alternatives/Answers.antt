use Rattle.std.proofs.Common.{◌++◌, refl, ap, sym, ◌∙◌}
use Rattle.std.specs.List.{flat_map}
use Rattle.std.proofs.lemmas.Result.{IfOk-from_err}
use Rattle.sb_lang.specs.Constructors.{alternatives}
use Rattle.sb_regex.specs.Numbered.{regexes_at}
use Rattle.sb_regex.specs.Nodes.{node_regex}
use Rattle.sb_regex.proofs.Gathering.{gather_next, flat_more, ats-append, numbers-append, parts_numbers, alternatives_alt, alternatives_other, gather_end}
use Rattle.sb_regex.proofs.CallerLemmas.{number_in, one_number}
use Rattle.sb_regex.proofs.arena.Arena.alternatives.Goals as goal
use Rattle.sb_regex.proofs.arena.Arena.alternatives.Goals.{in-Alt+in_ok-extend_from_slice-in-Alt, in_default+in_ok-push-in_default}

pub loop-id-preserved : goal.loop-id-preserved
loop-id-preserved c =
    let rs = c.args.self.now in
    let x = number_in rs c.args.ids.now c.loop-id.id-index c.id-item.result c.requires c.loop-id-test.true c.id-item.is
    in
    elim c.match-node.branch [
      | in-Alt+in_ok-extend_from_slice-in-Alt w ↦
          let parts = rw (w.in-Alt.is) at c.node.ensures.parts in
          let value = ap (node_regex rs) (sym w.in-Alt.is) ∙ c.node.ensures.value in
          let items = w.in_ok-extend_from_slice-in-Alt.ensures.items
          ∙ ap (λ xs. c.loop-id.members.items ++ xs) w.as_slice.ensures in
          rw (w.members-is) (
            numbers-append rs _ _ _ items c.loop-id.invariant.0
                (parts_numbers rs c.id-item.result c.node.result.now c.node.ensures.parts x _ parts),
            gather_next (flat_map alternatives) alternatives (flat_more alternatives) refl rs c.args.ids.now
                c.loop-id.id-index c.id-item.result _ _ _ c.loop-id-test.true c.id-item.is
                (ats-append rs _ _ _ items
                ∙ ap (λ xs. regexes_at rs c.loop-id.members.items ++ xs) (alternatives_alt rs _ _ value))
                c.loop-id.invariant.1,
          )
      | in_default+in_ok-push-in_default w ↦
          rw (w.members-is) (
            numbers-append rs _ _ _ w.in_ok-push-in_default.ensures.items c.loop-id.invariant.0
                (one_number rs c.id-item.result x),
            gather_next (flat_map alternatives) alternatives (flat_more alternatives) refl rs c.args.ids.now
                c.loop-id.id-index c.id-item.result _ _ _ c.loop-id-test.true c.id-item.is
                (ats-append rs _ _ _ w.in_ok-push-in_default.ensures.items
                ∙ ap (λ xs. regexes_at rs c.loop-id.members.items ++ xs)
                (alternatives_other rs _ _ c.node.ensures.value w.in_default.not-Alt)) c.loop-id.invariant.1,
          )
    ]

pub returns-in_err-extend_from_slice-in-Alt : goal.returns-in_err-extend_from_slice-in-Alt
returns-in_err-extend_from_slice-in-Alt c =
    let x = c.from_residual in
    record {
      value = IfOk-from_err x.result _ x.ensures.0;
      numbers = IfOk-from_err x.result _ x.ensures.0;
    }

pub returns-in_err-push-in_default : goal.returns-in_err-push-in_default
returns-in_err-push-in_default c =
    let x = c.from_residual-in_err-push-in_default in
    record {
      value = IfOk-from_err x.result _ x.ensures.0;
      numbers = IfOk-from_err x.result _ x.ensures.0;
    }

pub returns : goal.returns
returns c =
    let i = c.loop-id.invariant in
    record {
      value = gather_end (flat_map alternatives) alternatives (flat_more alternatives) refl c.args.self.now
          c.args.ids.now c.loop-id.id-index
          _ _ c.loop-id-test.false i.1;
      numbers = i.0;
    }
