use Rattle.sb_refute.proofs.Words.{◌<◌, Some, length, refl, sym, ap, subst, arith, ◌∙◌, Asserted, Backing, placed, called_none, called_on}
use Rattle.sb_refute.proofs.Asserting.{claimed-new, claims-alone}
use Rattle.sb_refute.proofs.evidence.Evidence.claim.Goals as goal

pub keep-requires : goal.keep-requires
keep-requires g c =
    subst (λ n. c.args.literal.atom < n) (sym (ap (λ (f : Backing). length f.atoms) c.in_ok-clause.ensures.adds))
    c.requires.known

pub returns : goal.returns
returns g c =
    let e = c.args.self.now in
    let one : Asserted =
    record { clause = c.in_ok-clause.clause; literal = c.args.literal; level = c.args.level } in
    let is = c.in_ok-keep.ensures
    ∙ ap (λ (f : Backing). record f { asserted = placed f.asserted c.args.place (Some one) })
    c.in_ok-clause.ensures.adds in
    record {
      ok = claimed-new c.assertion_lines_are_exact.ensures e c.keep.new.self c.args.place one
          (g.L.Tape.told c.args.tape.now) (g.L.Tape.told c.put_line.new.tape) c.stands.ensures c.requires.lacks
          c.requires.known c.in_ok-clause.ensures.number (omega arith) (omega arith) c.in_ok-put_line.ensures.told is;
      rest = claims-alone e c.keep.new.self _ _ is;
      counts = c.in_ok-put_line.ensures.counts;
    }

pub returns-in_err-put_line : goal.returns-in_err-put_line
returns-in_err-put_line g c =
    let x = c.from_residual in
    called_on (Unit {0}) _ x.result _ _ _ _ x.ensures.0 x.ensures.1 refl c.in_err-put_line.ensures.counts refl

pub returns-in_err-clause : goal.returns-in_err-clause
returns-in_err-clause g c =
    let x = c.from_residual-in_err-clause in
    let e = c.args.self.now in
    called_none _ x.result _ _ x.ensures.0 x.ensures.1 c.in_ok-put_line.ensures.counts
    (claims-alone e c.add.new.self e.kept e.asserted c.in_err-clause.ensures.adds)

pub returns-in_err-keep : goal.returns-in_err-keep
returns-in_err-keep g c =
    let x = c.from_residual-in_err-keep in
    called_none _ x.result _ _ x.ensures.0 x.ensures.1 c.in_ok-put_line.ensures.counts
    (claims-alone c.args.self.now c.keep.new.self _ c.args.self.now.asserted
    (c.in_err-keep.ensures ∙ c.in_ok-clause.ensures.adds))
