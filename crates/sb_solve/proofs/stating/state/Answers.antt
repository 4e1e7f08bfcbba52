use Rattle.sb_solve.proofs.Words.{◌≡◌, ◌<◌, ℕ, List, length, Option, Some, refl, sym, ap, subst, ◌∙◌, option_map, IfSome, IfOk-from_err, err_from_is_err_and, Term, term_at, asked_in, state_of, atoms_in, brought_translation, AreDefined, Asserted, EvidencesUncounted, Grows, HasNoLiteral, IsStatement, IsStoreOf, live, structure-is, counts_on}
use Rattle.sb_graph.specs.Findings.{Findings}
use Rattle.sb_solve.proofs.Declaring.{declared_more}
use Rattle.sb_solve.proofs.LiveRows.{has_literal}
use Rattle.sb_solve.proofs.stating.state.Goals as goal

pub statement-requires : goal.statement-requires
statement-requires g c =
    let same = sym c.table.ensures in
    record {
      number = subst (λ (ts : List Term). c.assertion_at-stated.result.term < length ts) same
          c.assertion_at-stated.ensures.known;
      store = subst (λ (ts : List Term). IsStoreOf ts c.args.store.now) same c.requires.store;
      regexes = c.requires.regexes;
    }

pub unreachable-requires : goal.unreachable-requires
unreachable-requires g c =
    let s = c.args.stack.now in
    let is = c.assertion_at-stated.ensures in
    let id = c.assertion_at-stated.result.term in
    has_literal c.fitting_is_translated.ensures (live (state_of s)) c.args.place (term_at s.table id) c.requires.decided
    c.requires.sorted is.stands
    (subst (λ (ts : List Term). HasNoLiteral (term_at ts id)) c.table.ensures (c.in_ok-found.ensures.none c.in-None.is))

pub returns : goal.returns
returns g c =
    let s = c.args.stack.now in
    let asked = asked_in (state_of s) in
    let is = c.assertion_at-stated.ensures in
    let id = c.assertion_at-stated.result.term in
    let level = c.assertion_at-stated.result.level in
    let x = c.args.store.now in
    let y = c.statement.new.store in
    let f = c.statement.new.self in
    let atoms = atoms_in y.arena f.atoms in
    let h = c.in_ok-found.ensures in
    record {
      states = record {
        puts = λ before b.
            subst (λ (known : Findings). EvidencesUncounted asked before y.arena known.memo f
            (g.L.Tape.told c.args.tape.now) (g.L.Tape.told c.statement.new.tape)) (sym h.graph)
            (h.puts asked x.graph.memo before b
            (subst (λ (ts : List Term). IsStatement asked c.args.place (term_at ts id) level) (sym c.table.ensures)
            is.statement));
        store = subst (λ (ts : List Term). Grows ts x y) c.table.ensures h.store;
        atoms = h.extends;
        below = c.requires.regexes;
        regexes = h.regexes;
        declared = declared_more (state_of s).sorts c.args.evidence.now.atoms f.atoms (term_at s.table id) h.extends
            (subst (λ (ts : List Term). AreDefined c.args.evidence.now.atoms f.atoms (term_at ts id)) c.table.ensures
            c.statement.ensures.defined) is.statement.declared;
        others = h.others;
        level = λ a there.
            ap (option_map (λ (one : Option Term × ℕ). one.1)) is.statement.live
            ∙ ap Some (sym (subst (λ (o : Option Asserted). IfSome o (λ one. one.level ≡ level)) (h.asserted ∙ there)
            h.level));
        gates = h.gates;
        stated = record {
          term = term_at s.table id;
          stands = is.stands;
          translates = structure-is atoms (term_at s.table id) c.in-Some.asserted.literal
              (ap (option_map (λ (a : Asserted). a.literal)) (sym c.in-Some.is) ∙ h.literal
              ∙ ap (λ (ts : List Term). brought_translation atoms (term_at ts id)) c.table.ensures);
          clause = c.in-Some.asserted;
          there = sym h.asserted ∙ c.in-Some.is;
          literal = refl;
        };
      };
      counts = h.counts;
    }

pub returns-in_err-found : goal.returns-in_err-found
returns-in_err-found g c =
    let x = c.from_residual in
    let p = err_from_is_err_and x.result x.ensures.1 in
    record {
      states = IfOk-from_err x.result _ x.ensures.0;
      counts = counts_on (Option Asserted) x.result p.0 _ _ _ p.1 p.2 c.in_err-found.ensures.counts;
    }
