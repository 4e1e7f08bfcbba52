use Rattle.std.proofs.Common.{false, [], ◌∷◌, ◌++◌, length, take, get_or, sym, subst, map, ap, ◌∙◌}
use Rattle.std.proofs.lemmas.List.{take_more, take_all}
use Rattle.sb_lit.specs.declared.clause.Lit.{Lit}
use Rattle.sb_regex.proofs.CallerLemmas.{number_kept, extends_more}
use Rattle.sb_rules.specs.Refuting.{AreDenied, denied_at}
use Rattle.sb_rules.proofs.Emptied.{member_below, one_denied, atom-within, member-there}
use Rattle.sb_rules.proofs.members.denied.Goals as goal

pub denied_in-requires : goal.denied_in-requires
denied_in-requires c =
    number_kept c.args.arena.now c.loop-literal.arena _ c.loop-literal.invariant.extends
    (member_below (length c.args.arena.now) c.args.atoms.now _ _ _ c.requires.regexes c.in-Some.ensures)

pub loop-literal-preserved : goal.loop-literal-preserved
loop-literal-preserved c =
    let d : Lit = record { atom = 0; positive = false } in
    let old = c.args.arena.now in
    let atoms = c.args.atoms.now in
    let ls = c.args.literals.now in
    let i = c.loop-literal.literal-index in
    subst (AreDenied old atoms c.denied_in.new.arena c.push.new.self.items)
    (sym (take_more ls i d c.loop-literal-test.true))
    (subst (λ ids. AreDenied old atoms c.denied_in.new.arena ids (take i ls ++ get_or ls i d ∷ []))
    (sym c.in_ok-push.ensures.items)
    (one_denied old c.loop-literal.arena c.denied_in.new.arena atoms c.loop-literal.ids.items (take i ls) (get_or ls i d)
    _ _ c.in_ok-id.id c.requires.regexes c.loop-literal.invariant c.in-Some.ensures c.in_ok-id.ensures.id
    c.in_ok-id.ensures.known c.denied_in.ensures.extends))

pub returns-in_err-push-clause-extends : goal.returns-in_err-push-clause-extends
returns-in_err-push-clause-extends c =
    extends_more c.args.arena.now c.loop-literal.arena c.denied_in.new.arena c.loop-literal.invariant.extends
    c.denied_in.ensures.extends

pub returns-in_err-id-clause-extends : goal.returns-in_err-id-clause-extends
returns-in_err-id-clause-extends c =
    extends_more c.args.arena.now c.loop-literal.arena c.denied_in.new.arena c.loop-literal.invariant.extends
    c.denied_in.ensures.extends

pub member-requires : goal.member-requires
member-requires c =
    atom-within c.args.literals.now (length c.args.atoms.now) c.loop-literal.literal-index _ c.requires.known
    c.loop-literal-test.true

pub unreachable-requires : goal.unreachable-requires
unreachable-requires c =
    member-there c.args.atoms.now c.args.literals.now c.loop-literal.literal-index _ c.requires.members
    c.loop-literal-test.true c.in_default.ensures

pub returns-clause-ids : goal.returns-clause-ids
returns-clause-ids c =
    c.loop-literal.invariant.regexes
    ∙ ap (map (denied_at c.args.arena.now c.args.atoms.now))
    (take_all c.loop-literal.literal-index c.args.literals.now c.loop-literal-test.false)
