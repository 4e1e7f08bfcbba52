use Rattle.sb_theory.proofs.Words.{◌∙◌, List, arith, eqb, refl, subst, sym, take_all, ℕ}
use Rattle.std.specs.List.{IsDistinct}
use Rattle.sb_theory.proofs.Pieces.{copied_more}
use Rattle.sb_theory.proofs.wanted.WantedAtoms.copied.Goals as goal

pub loop-atom-preserved : goal.loop-atom-preserved
loop-atom-preserved c =
    let all = c.as_slice-all.result.now in
    copied_more all c.loop-atom.atoms.keys c.insert_full.new.self.keys c.loop-atom.atom-index _ 0
    (subst (λ (ns : List ℕ). IsDistinct eqb ns) (sym c.as_slice-all.ensures.keys) c.as_slice-all.ensures.unique)
    c.loop-atom-test.true refl c.loop-atom.invariant c.in_ok-insert_full.ensures.keys

pub returns : goal.returns
returns c =
    c.loop-atom.invariant
    ∙ take_all c.loop-atom.atom-index c.as_slice-all.result.now (omega (arith, c.loop-atom-test.false))
    ∙ c.as_slice-all.ensures.keys ∙ c.self.view_is
