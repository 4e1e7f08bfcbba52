use Rattle.sb_solve.proofs.Words.{true, ap, ◌∙◌, subst, and_parts, IfOk-from_err, err_from_is_err_and, assumption_fits, counts_on, Assumption, Lit, Says}
use Rattle.sb_solve.proofs.Declaring.{declared_with}
use Rattle.sb_solve.proofs.stating.assume.Goals as goal

pub returns : goal.returns
returns g c =
    let a = c.args.assumption in
    let e = c.in_ok-literal.ensures in
    let is = c.assumption.view_is in
    record {
      assumes = record {
        puts = λ asked memo before fits b.
            e.puts asked memo before b
            (ap (assumption_fits asked.sorts) is ∙ (and_parts (assumption_fits asked.sorts a) true fits).0);
        atoms = e.extends;
        regexes = e.regexes;
        declared = λ sorts fits before.
            declared_with sorts c.args.evidence.now.atoms c.assume.new.self.atoms _ e.grows
            (ap (assumption_fits sorts) is ∙ (and_parts (assumption_fits sorts a) true fits).0) before;
        asserted = e.asserted;
        gates = λ has. e.gates;
        own = λ some. e.gates;
        all = (subst (λ (b : Assumption). Says c.assume.new.self.atoms b c.in_ok-literal.literal) is e.literal, tt);
      };
      counts = e.counts;
    }

pub returns-in_err-literal : goal.returns-in_err-literal
returns-in_err-literal g c =
    let x = c.from_residual in
    let p = err_from_is_err_and x.result x.ensures.1 in
    record {
      assumes = IfOk-from_err x.result _ x.ensures.0;
      counts = counts_on Lit x.result p.0 _ _ _ p.1 p.2 c.in_err-literal.ensures.counts;
    }
