use Rattle.std.proofs.Common.{◌∙◌}
use Rattle.sb_regex.proofs.CallerLemmas.{extends_more}
use Rattle.sb_problem.proofs.Joins.{parted, others_numbers, members_numbers, first_found, difference_found}
use Rattle.sb_problem.proofs.join.difference.Goals as goal

pub returns-then-is_empty-clause-ok : goal.returns-then-is_empty-clause-ok
returns-then-is_empty-clause-ok c =
    first_found c.args.arena.now c.args.ids.now _ c.first-item.result c.requires
    (parted c.args.ids.now c.first-item.result c.in-len1-up.len_at_least c.first-item.is) c.if-is_empty.ensures

pub complements-requires : goal.complements-requires
complements-requires c =
    others_numbers c.args.arena.now c.args.ids.now _ c.first-item.result c.requires
    (parted c.args.ids.now c.first-item.result c.in-len1-up.len_at_least c.first-item.is)

pub and-requires : goal.and-requires
and-requires c =
    members_numbers c.args.arena.now c.complements.new.arena c.args.ids.now c.in_ok-members.members.items
    c.deref.result.now c.first-item.result c.requires c.in-len1-up.len_at_least c.first-item.is
    c.in_ok-members.ensures.extends c.in_ok-members.ensures.numbers
    (c.deref.ensures.value ∙ c.in_ok-push.ensures.items)

pub returns-clause-ok : goal.returns-clause-ok
returns-clause-ok c =
    difference_found c.intersection_of_more.ensures c.intersection_of_members.ensures
    c.constructors_give_normal.ensures c.args.arena.now c.complements.new.arena c.and.new.self c.args.ids.now _
    c.in_ok-members.members.items c.deref.result.now c.first-item.result c.in_ok-and.field-0
    c.normal_regexes_each_once.ensures.normal c.requires
    (parted c.args.ids.now c.first-item.result c.in-len1-up.len_at_least c.first-item.is) c.if-is_empty.ensures
    c.in_ok-members.ensures.extends c.in_ok-members.ensures.regexes
    (c.deref.ensures.value ∙ c.in_ok-push.ensures.items) c.in_ok-and.ensures.ok

pub returns-in_err-and-clause-extends : goal.returns-in_err-and-clause-extends
returns-in_err-and-clause-extends c =
    extends_more c.args.arena.now c.complements.new.arena c.and.new.self c.in_ok-members.ensures.extends
    c.in_err-and.ensures.extends

pub returns-clause-extends : goal.returns-clause-extends
returns-clause-extends c =
    extends_more c.args.arena.now c.complements.new.arena c.and.new.self c.in_ok-members.ensures.extends
    c.in_ok-and.ensures.extends
