use Rattle.std.proofs.Common.{◌++◌, refl, ap, sym, ◌∙◌}
use Rattle.std.proofs.lemmas.List.{append-nil}
use Rattle.sb_regex.specs.Numbered.{regexes_at}
use Rattle.sb_regex.specs.Nodes.{node_regex}
use Rattle.sb_regex.specs.Steps.{without_sets}
use Rattle.sb_regex.proofs.Gathering.{gather_next, kept_alone, others_more, ats-append, numbers-append, alone_set, alone_other}
use Rattle.sb_regex.proofs.CallerLemmas.{number_in, one_number}
use Rattle.sb_regex.proofs.arena.Arena.push_others.Goals as goal
use Rattle.sb_regex.proofs.arena.Arena.push_others.Goals.{in-Set, in_default+in_ok-push-in_default}

pub loop-id-preserved : goal.loop-id-preserved
loop-id-preserved c =
    let rs = c.args.self.now in
    let x = number_in rs c.args.members.now c.loop-id.id-index c.id-item.result c.requires c.loop-id-test.true
    c.id-item.is in
    elim c.match-node.branch [
      | in-Set w ↦
          let value = ap (node_regex rs) (sym w.in-Set.is) ∙ c.node.ensures.value in
          rw (w.all-is) (
            c.loop-id.invariant.0,
            gather_next without_sets kept_alone others_more refl rs c.args.members.now c.loop-id.id-index
                c.id-item.result _ _ _ c.loop-id-test.true c.id-item.is
                (sym (append-nil (regexes_at rs c.loop-id.all.items))
                ∙ ap (λ xs. regexes_at rs c.loop-id.all.items ++ xs) (alone_set _ _ value)) c.loop-id.invariant.1,
          )
      | in_default+in_ok-push-in_default w ↦
          let items = w.in_ok-push-in_default.ensures.items in
          rw (w.all-is) (
            (λ known. numbers-append rs _ _ _ items (c.loop-id.invariant.0 known) (one_number rs c.id-item.result x)),
            gather_next without_sets kept_alone others_more refl rs c.args.members.now c.loop-id.id-index
                c.id-item.result _ _ _ c.loop-id-test.true c.id-item.is
                (ats-append rs _ _ _ items
                ∙ ap (λ xs. regexes_at rs c.loop-id.all.items ++ xs)
                (alone_other rs _ _ c.node.ensures.value w.in_default.not-Set)) c.loop-id.invariant.1,
          )
    ]
