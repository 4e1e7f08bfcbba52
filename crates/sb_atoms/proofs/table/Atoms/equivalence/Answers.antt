use Rattle.sb_rulebook.specs.Translation.{equivalence}
use Rattle.sb_facts.proofs.CallerLemmas.{ok_more}
use Rattle.sb_proof.specs.Lines.{atom_in}
use Rattle.sb_atoms.specs.Growing.{is_below, Gives, IsLiteralOf}
use Rattle.sb_atoms.proofs.Connected.{gives_equivalence, grown_equivalence}
use Rattle.sb_atoms.proofs.table.Atoms.equivalence.Goals as goal

pub returns-clause-ok : goal.returns-clause-ok
returns-clause-ok c =
    ok_more (λ found. IsLiteralOf c.args.adds c.literal.new.self (atom_in c.equivalence_of.result) found)
    (λ found. Gives is_below c.args.adds c.literal.new.self (λ atoms. equivalence atoms c.args.one c.args.other) found)
    c.literal.result
    (λ found h. gives_equivalence c.args.adds c.literal.new.self c.args.one c.args.other
    (atom_in c.equivalence_of.result) found c.equivalence_of.ensures.is h)
    c.literal.ensures.ok

pub returns-clause-grows : goal.returns-clause-grows
returns-clause-grows c =
    grown_equivalence c.args.adds c.args.self.now c.literal.new.self c.args.one c.args.other
    (atom_in c.equivalence_of.result) c.equivalence_of.ensures.is c.requires.one c.requires.other
    c.literal.ensures.grows

pub literal-requires : goal.literal-requires
literal-requires c = c.equivalence_of.ensures.brought
