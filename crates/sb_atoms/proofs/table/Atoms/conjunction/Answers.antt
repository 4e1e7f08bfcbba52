use Rattle.std.proofs.Common.{◌∙◌, ap, arith, false, length, List}
use Rattle.sb_facts.proofs.CallerLemmas.{ok_more}
use Rattle.sb_lit.specs.declared.clause.Lit.{Lit}
use Rattle.sb_rulebook.specs.Translation.{conjunction}
use Rattle.sb_rulebook.specs.Atoms.{and_atom}
use Rattle.sb_atoms.specs.Growing.{is_below, Gives, IsLiteralOf}
use Rattle.sb_atoms.proofs.Connected.{gives_first, gives_conjunction, grown_conjunction}
use Rattle.sb_atoms.proofs.table.Atoms.conjunction.Goals as goal
use Rattle.sb_atoms.proofs.table.Atoms.conjunction.Goals.{then-as_slice-lt1, else-as_slice-lt1+else-this-lt2}

pub returns-in-len1-clause-ok : goal.returns-in-len1-clause-ok
returns-in-len1-clause-ok c =
    gives_first c.args.adds c.args.self.now c.args.literals.items c.as_slice.result.now
    (record { atom = 0; positive = false }) c.requires (c.as_slice.ensures ∙ c.in_ok-ordered.ensures)
    (omega (arith, c.in-len1.len_at_least)) (omega (arith, c.in-len1.len_below))

pub returns-clause-ok : goal.returns-clause-ok
returns-clause-ok c =
    ok_more (λ found. IsLiteralOf c.args.adds c.literal.new.self (and_atom c.in_ok-ordered.ordered.items) found)
    (λ found. Gives is_below c.args.adds c.literal.new.self (λ atoms. conjunction atoms c.args.literals.items) found)
    c.literal.result
    (λ found h. gives_conjunction c.args.adds c.literal.new.self c.args.literals.items c.in_ok-ordered.ordered.items found
    c.in_ok-ordered.ensures (λ one.
    let same = ap (λ (xs : List Lit). length xs) c.as_slice.ensures in
    elim c.if-as_slice-lt1.branch [
      | then-as_slice-lt1 w ↦ grind arith
      | else-as_slice-lt1+else-this-lt2 w ↦ grind arith
    ]) h)
    c.literal.ensures.ok

pub returns-clause-grows : goal.returns-clause-grows
returns-clause-grows c =
    grown_conjunction c.args.adds c.args.self.now c.literal.new.self c.args.literals.items
    c.in_ok-ordered.ordered.items c.in_ok-ordered.ensures (λ one.
    let same = ap (λ (xs : List Lit). length xs) c.as_slice.ensures in
    elim c.if-as_slice-lt1.branch [
      | then-as_slice-lt1 w ↦ grind arith
      | else-as_slice-lt1+else-this-lt2 w ↦ grind arith
    ]) c.requires c.literal.ensures.grows
