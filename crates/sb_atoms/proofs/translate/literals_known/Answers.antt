use Rattle.std.proofs.Common.{Some, None, map, sym, ap, ◌∙◌, arith}
use Rattle.std.proofs.lemmas.List.{take_all}
use Rattle.sb_rulebook.specs.Parts.{together}
use Rattle.sb_term.specs.Descending.{known_at}
use Rattle.sb_atoms.proofs.Connected.{all_push, all_stop}
use Rattle.sb_atoms.proofs.translate.literals_known.Goals as goal

pub loop-id-init : goal.loop-id-init
loop-id-init c = ap Some c.new-literals.ensures.items

pub loop-id-preserved : goal.loop-id-preserved
loop-id-preserved c =
    ap Some c.in_ok-push.ensures.items
    ∙ all_push (known_at None c.args.known.now.entries) c.args.ids.now c.loop-id.id-index c.id-item.result
    c.loop-id.literals.items c.in-Some.literal c.loop-id-test.true c.id-item.is c.loop-id.invariant
    (sym c.in-Some.is ∙ c.literal_known.ensures)

pub returns-in_default : goal.returns-in_default
returns-in_default c =
    sym (all_stop (known_at None c.args.known.now.entries) c.args.ids.now c.loop-id.id-index c.id-item.result
    c.loop-id-test.true c.id-item.is (sym c.literal_known.ensures ∙ c.in_default.is))

pub returns : goal.returns
returns c =
    c.loop-id.invariant
    ∙ ap (λ is. together (map (known_at None c.args.known.now.entries) is))
    (take_all c.loop-id.id-index c.args.ids.now (omega (arith, c.loop-id-test.false)))
