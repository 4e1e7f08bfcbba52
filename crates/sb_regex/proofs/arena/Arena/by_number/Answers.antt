use Rattle.std.proofs.Common.{length, nat_eq, ap, ◌∙◌}
use Rattle.std.specs.List.{dedup}
use Rattle.sb_regex.proofs.Ordered.{once_members, once_numbers, refill_whole}
use Rattle.sb_regex.proofs.arena.Arena.by_number.Goals as goal

pub returns-clause-members : goal.returns-clause-members
returns-clause-members c =
    let copied = c.as_mut_slice.ensures.value ∙ c.in_ok-all.ensures.ok in
    let filled = refill_whole (length c.in_ok-all.all.items) c.in_ok-all.all.items c.sort.new.self
    (c.sort.ensures.len ∙ ap length c.as_mut_slice.ensures.value) in
    once_members c.order_tells_apart.ensures c.args.self.now c.normal_regexes_each_once.ensures.distinct c.args.ids.now
    c.sort.new.self _ c.requires (rw (copied) at c.sort.ensures.permutation)
    (c.dedup.ensures.items ∙ ap (λ xs. dedup nat_eq xs) filled)

pub returns-clause-numbers : goal.returns-clause-numbers
returns-clause-numbers c =
    let copied = c.as_mut_slice.ensures.value ∙ c.in_ok-all.ensures.ok in
    let filled = refill_whole (length c.in_ok-all.all.items) c.in_ok-all.all.items c.sort.new.self
    (c.sort.ensures.len ∙ ap length c.as_mut_slice.ensures.value) in
    once_numbers c.args.self.now c.args.ids.now c.sort.new.self _ c.requires (rw (copied) at c.sort.ensures.permutation)
    (c.dedup.ensures.items ∙ ap (λ xs. dedup nat_eq xs) filled)
