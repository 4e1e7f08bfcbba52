use Rattle.std.proofs.Common.{nat_eq, refl, sym, subst, ◌∙◌}
use Rattle.std.specs.List.{list_any}
use Rattle.std.proofs.lemmas.Result.{IfOk-from_err, IfOk-weaker}
use Rattle.sb_lang.specs.FoldLaws.{SameMembers}
use Rattle.sb_regex.specs.Numbered.{AllNumbers, regexes_at}
use Rattle.sb_regex.proofs.CallerLemmas.{number_in}
use Rattle.sb_regex.proofs.Once.{once_begun, turn, once_end}
use Rattle.sb_regex.proofs.arena.Arena.once.Goals as goal

pub loop-id-init : goal.loop-id-init
loop-id-init c = once_begun c.args.self.now c.new-seen.result.keys c.args.ids.now c.new-seen.ensures.empty

pub returns-in_err-insert : goal.returns-in_err-insert
returns-in_err-insert c =
    let x = c.from_residual in
    record { members = IfOk-from_err x.result _ x.ensures.0; numbers = IfOk-from_err x.result _ x.ensures.0 }

pub loop-id-preserved : goal.loop-id-preserved
loop-id-preserved c =
    let rs = c.args.self.now in
    let below = number_in rs c.args.ids.now c.loop-id.id-index c.id-item.result c.requires c.loop-id-test.true
    c.id-item.is in
    turn c.order_tells_apart.ensures rs c.loop-id.seen.keys c.insert.new.self.keys c.args.ids.now c.loop-id.id-index
    c.id-item.result c.loop-id-test.true c.id-item.is below
    (list_any (λ y. nat_eq c.id-item.result y) c.loop-id.seen.keys) refl c.in_ok-insert.ensures.keys
    c.loop-id.invariant

pub returns : goal.returns
returns c =
    let rs = c.args.self.now in
    let keys = c.loop-id.seen.keys in
    let i = c.loop-id.invariant in
    let same = once_end rs keys c.args.ids.now c.loop-id.id-index c.loop-id-test.false i in
    record {
      members = IfOk-weaker c.from_slice.result _ _
          (λ all e. subst (λ xs. SameMembers (regexes_at rs xs) (regexes_at rs c.args.ids.now))
          (sym (e ∙ c.as_slice.ensures.keys)) same) c.from_slice.ensures.items;
      numbers = IfOk-weaker c.from_slice.result _ _
          (λ all e. subst (AllNumbers rs) (sym (e ∙ c.as_slice.ensures.keys)) i.0) c.from_slice.ensures.items;
    }
