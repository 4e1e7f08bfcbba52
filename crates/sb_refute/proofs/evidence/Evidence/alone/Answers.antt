use Rattle.sb_proof.specs.Lines.{atom_in}
use Rattle.sb_refute.proofs.Words.{◌≡◌, ℕ, length, take, List, sym, ap, subst, ◌∙◌, IfOk-from_err, err_from_is_err_and, AtomOver, CountsTapeFault, Extends, HasGates, HaveRegexesBelow, IsWith, Kept, Names, kept_at, counts_none, counts_on, Backing, Backs, backing_of, take_known}
use Rattle.sb_refute.proofs.Asserting.{leads-both}
use Rattle.sb_refute.proofs.OneAtom.{stand-one, with_due, with_extends, with_regexes}
use Rattle.sb_refute.proofs.evidence.Evidence.alone.Goals as goal

pub invariant_of-self : goal.invariant_of-self
invariant_of-self g c = (
  stand-one (length c.args.arena.now) (backing_of c.self.inside.parts) c.add.new.self (atom_in c.args.atom)
      c.requires.alone c.add.ensures.grows c.self.invariant.0,
  c.self.invariant.1,
)

pub invariant_of-self-2 : goal.invariant_of-self-2
invariant_of-self-2 g c = (
  stand-one (length c.args.arena.now) (backing_of c.self.inside.parts) c.add.new.self (atom_in c.args.atom)
      c.requires.alone c.add.ensures.grows c.self.invariant.0,
  c.self.invariant.1,
)

pub add-requires : goal.add-requires
add-requires g c = c.requires.alone.brought

pub define-requires : goal.define-requires
define-requires g c = record {
  regexes = with_regexes (length c.args.arena.now) (backing_of c.self.inside.parts).atoms c.add.new.self
      (atom_in c.args.atom) c.requires.alone c.add.ensures.grows
      (subst (λ (e : Backing). HaveRegexesBelow (length c.args.arena.now) e.atoms) (sym c.self.view_is)
      c.requires.regexes);
}

pub returns : goal.returns
returns g c =
    let w = backing_of c.self.inside.parts in
    let atoms = c.add.new.self in
    let arena = c.args.arena.now in
    let n = length arena in
    let a = atom_in c.args.atom in
    let speaks = c.requires.alone in
    let grows = c.add.ensures.grows in
    let extends = with_extends w.atoms atoms a grows in
    let mid = c.define.new.self in
    let f = c.put_gates.new.self in
    let start = g.L.Tape.told c.args.tape.now in
    let same : f.atoms ≡ atoms =
    ap (λ (b : Backing). b.atoms) c.put_gates.ensures.rest ∙ ap (λ (b : Backing). b.atoms) c.define.ensures.rest.1 in
    let kept : mid.kept ≡ c.args.self.now.kept =
    ap (λ (b : Backing). b.kept) c.define.ensures.rest.1 ∙ ap (λ (b : Backing). b.kept) c.self.view_is in
    let gates = c.in_ok-put_gates.ensures.ok.1 in
    record {
      is = record {
        puts = λ asked memo declared before b.
            leads-both asked arena memo (record w { atoms = take c.len-known.result atoms }) mid f start
            (g.L.Tape.told c.define.new.tape) (g.L.Tape.told c.put_gates.new.tape)
            (c.in_ok-define.ensures.ok asked memo
            (with_due n w.atoms atoms a speaks grows asked c.len-known.result c.len-known.ensures declared))
            (c.in_ok-put_gates.ensures.ok.0 asked arena memo) before
            (subst (λ (ts : List (AtomOver ℕ)). Backs arena memo (record w { atoms = ts }) before)
            (sym (take_known w.atoms atoms c.len-known.result extends c.len-known.ensures))
            (subst (λ (e : Backing). Backs arena memo e before) (sym c.self.view_is) b));
        names = subst (λ (ts : List (AtomOver ℕ)). Names ts c.number.result a) (sym same)
            (subst (λ (m : ℕ). Names atoms m a) (sym c.number.ensures) c.in_ok-id.ensures.ok);
        grows = subst (λ (ts : List (AtomOver ℕ)). IsWith c.args.self.now.atoms ts a) (sym same)
            (subst (λ (e : Backing). IsWith e.atoms atoms a) c.self.view_is grows);
        extends = subst (Extends c.args.self.now.atoms) (sym same)
            (subst (λ (e : Backing). Extends e.atoms atoms) c.self.view_is extends);
        regexes = subst (HaveRegexesBelow n) (sym same)
            (with_regexes n w.atoms atoms a speaks grows
            (subst (λ (e : Backing). HaveRegexesBelow n e.atoms) (sym c.self.view_is) c.requires.regexes));
        asserted = ap (λ (b : Backing). b.asserted) c.put_gates.ensures.rest
            ∙ ap (λ (b : Backing). b.asserted) c.define.ensures.rest.1
            ∙ ap (λ (b : Backing). b.asserted) c.self.view_is;
        stay = λ id clause h.
            c.in_ok-put_gates.ensures.ok.2 id clause (ap (λ (k : Kept). kept_at k id) kept ∙ h);
        gates = subst (λ m. HasGates m f.atoms f.kept) gates c.stands.ensures.gated;
      };
      counts = c.in_ok-put_gates.ensures.counts ∙ c.in_ok-define.ensures.counts;
    }

pub returns-in_err-id : goal.returns-in_err-id
returns-in_err-id g c =
    let x = c.from_residual in
    let p = err_from_is_err_and x.result x.ensures.1 in
    record { is = IfOk-from_err x.result _ x.ensures.0; counts = counts_none x.result p.0 _ p.1 p.2 }

pub returns-in_err-define : goal.returns-in_err-define
returns-in_err-define g c =
    let x = c.from_residual-in_err-define in
    let p = err_from_is_err_and x.result x.ensures.1 in
    record {
      is = IfOk-from_err x.result _ x.ensures.0;
      counts = counts_on (Unit {0}) x.result p.0 _ _ _ p.1 p.2 c.in_err-define.ensures.counts;
    }

pub returns-in_err-put_gates : goal.returns-in_err-put_gates
returns-in_err-put_gates g c =
    let x = c.from_residual-in_err-put_gates in
    let p = err_from_is_err_and x.result x.ensures.1 in
    record {
      is = IfOk-from_err x.result _ x.ensures.0;
      counts = subst (λ n. CountsTapeFault x.result n (g.L.Tape.faults c.put_gates.new.tape))
          c.in_ok-define.ensures.counts
          (counts_on (Unit {0}) x.result p.0 _ _ _ p.1 p.2 c.in_err-put_gates.ensures.counts);
    }
