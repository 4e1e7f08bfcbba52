use Rattle.sb_refute.proofs.Words.{ℕ, ap, refl, sym, subst, take, IfSome, List, length, ◌<◌, ◌∙◌, IfOk-weaker, AtomOver, atoms_in, CountsTapeFault, OnlyNumbers, Backing, IsAssertion, called_on}
use Rattle.sb_refute.proofs.Asserting.{claimed-after, leads-both}
use Rattle.sb_refute.proofs.evidence.Evidence.lines.Goals as goal

pub stated-requires : goal.stated-requires
stated-requires g c =
    let atoms = ap (λ (f : Backing). f.atoms) c.put_gates.ensures.rest
    ∙ ap (λ (f : Backing). f.atoms) c.define.ensures.rest.1 in
    subst (λ (ts : List (AtomOver ℕ)). IfSome c.args.literal (λ l. l.atom < length ts)) (sym atoms) c.requires.known

pub returns : goal.returns
returns g c =
    let e = c.args.self.now in
    let mid = c.define.new.self in
    let f = c.put_gates.new.self in
    let arena = c.args.arena.now in
    let atoms = ap (λ (f : Backing). f.atoms) c.put_gates.ensures.rest
    ∙ ap (λ (f : Backing). f.atoms) c.define.ensures.rest.1 in
    let trace = ap (λ (f : Backing). f.trace) c.stated.ensures.rest
    ∙ ap (λ (f : Backing). f.trace) c.put_gates.ensures.rest in
    record {
      ok = IfOk-weaker c.stated.result _ _
          (λ found claimed. (
            claimed-after c.args.place c.args.level c.args.literal e f c.stated.new.self found
                (ap (λ (f : Backing). f.asserted) c.put_gates.ensures.rest
                ∙ ap (λ (f : Backing). f.asserted) c.define.ensures.rest.1)
                (λ put asked memo due term.
                leads-both asked arena memo (record e { atoms = take c.args.known e.atoms }) f c.stated.new.self
                (g.L.Tape.told c.args.tape.now) (g.L.Tape.told c.put_gates.new.tape) (g.L.Tape.told c.stated.new.tape)
                (leads-both asked arena memo (record e { atoms = take c.args.known e.atoms }) mid f
                (g.L.Tape.told c.args.tape.now) (g.L.Tape.told c.define.new.tape) (g.L.Tape.told c.put_gates.new.tape)
                (c.in_ok-define.ensures.ok asked memo due) (c.in_ok-put_gates.ensures.ok.0 asked arena memo))
                (put asked arena memo
                (subst (λ (ts : List (AtomOver ℕ)). IfSome c.args.literal
                (λ l. IsAssertion asked (atoms_in arena ts) c.args.place l c.args.level)) (sym atoms) term))) claimed,
            ap (λ (f : Backing). f.gates) c.stated.ensures.rest ∙ c.in_ok-put_gates.ensures.ok.1
                ∙ ap (λ (f : Backing). length f.atoms) (sym c.stated.ensures.rest),
          ))
          c.stated.ensures.ok;
      rest = (
        subst (OnlyNumbers e.trace) (sym trace) c.define.ensures.rest.0,
        ap (λ (f : Backing). f.atoms) c.stated.ensures.rest ∙ atoms,
      );
      counts = subst (λ old. CountsTapeFault c.stated.result old (g.L.Tape.faults c.stated.new.tape))
          (c.in_ok-put_gates.ensures.counts ∙ c.in_ok-define.ensures.counts) c.stated.ensures.counts;
    }

pub returns-in_err-define : goal.returns-in_err-define
returns-in_err-define g c =
    let x = c.from_residual in
    let rest = c.define.ensures.rest in
    called_on (Unit {0}) _ x.result _ _ _ _ x.ensures.0 x.ensures.1 refl c.in_err-define.ensures.counts
    (rest.0, ap (λ (f : Backing). f.atoms) rest.1)

pub returns-in_err-put_gates : goal.returns-in_err-put_gates
returns-in_err-put_gates g c =
    let x = c.from_residual-in_err-put_gates in
    let first = c.define.ensures.rest in
    let second = c.put_gates.ensures.rest in
    called_on (Unit {0}) _ x.result _ _ _ _ x.ensures.0 x.ensures.1 c.in_ok-define.ensures.counts
    c.in_err-put_gates.ensures.counts (
      subst (OnlyNumbers c.args.self.now.trace) (sym (ap (λ (f : Backing). f.trace) second)) first.0,
      ap (λ (f : Backing). f.atoms) second ∙ ap (λ (f : Backing). f.atoms) first.1,
    )
