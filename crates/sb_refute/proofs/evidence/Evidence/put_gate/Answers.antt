use Rattle.sb_refute.proofs.Words.{◌≡◌, ◌++◌, ◌∷◌, [], List, length, refl, sym, ap, ◌∙◌, on_ok_weaker, list_all, is_small_literal, Lit, are_reserved, at_bottom, called_none}
use Rattle.sb_refute.proofs.GateLines.{gate-put, kept-alone, some-gate}
use Rattle.sb_refute.proofs.evidence.Evidence.put_gate.Goals as goal

pub add-requires-clause-known : goal.add-requires-clause-known
add-requires-clause-known g c = ap (are_reserved (length c.args.self.now.atoms)) c.literals-2.ensures ∙ c.requires.known

pub add-requires-clause-some : goal.add-requires-clause-some
add-requires-clause-some g c = λ none.
    some-gate c.args.self.now.atoms c.args.clause.now c.requires (sym c.literals-2.ensures ∙ none)

pub returns : goal.returns
returns g c =
    let e = c.args.self.now in
    let adds : c.add.new.self ≡ record e { kept = e.kept ++ at_bottom c.args.clause.now ∷ [] } =
    c.in_ok-add.ensures.adds
    ∙ ap (λ (ls : List Lit). record e { kept = e.kept ++ at_bottom ls ∷ [] }) c.literals-2.ensures in
    record {
      ok = on_ok_weaker c.put_line.result
          (λ told. (
            gate-put c.rule_lines_are_exact.ensures c.gates_are_exact.ensures e c.add.new.self c.args.clause.now
                c.in_ok-literals.literals.items (g.L.Tape.told c.args.tape.now) (g.L.Tape.told c.put_line.new.tape)
                c.requires (ap (list_all is_small_literal) c.in_ok-literals.ensures.0 ∙ c.in_ok-literals.ensures.1)
                (c.in_ok-literals.ensures.0 ∙ c.literals.ensures) adds told,
            adds,
          ))
          c.put_line.ensures.told;
      rest = kept-alone e c.add.new.self _ adds;
      counts = c.put_line.ensures.counts;
    }

pub returns-in_err-literals : goal.returns-in_err-literals
returns-in_err-literals g c =
    let x = c.from_residual in called_none _ x.result _ _ x.ensures.0 x.ensures.1 refl refl

pub returns-in_err-add : goal.returns-in_err-add
returns-in_err-add g c =
    let x = c.from_residual-in_err-add in
    called_none _ x.result _ _ x.ensures.0 x.ensures.1 refl
    (kept-alone c.args.self.now c.add.new.self c.args.self.now.kept c.in_err-add.ensures.adds)
