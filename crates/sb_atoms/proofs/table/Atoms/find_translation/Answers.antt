use Rattle.std.proofs.Common.{◌≡◌, length, false}
use Rattle.sb_facts.proofs.CallerLemmas.{ok_more}
use Rattle.sb_term.specs.Numbered.{term_at}
use Rattle.sb_atoms.specs.Numbered.{atoms_in}
use Rattle.sb_atoms.specs.Translated.{has_declared, brought_translation}
use Rattle.sb_atoms.specs.Growing.{is_below, Finds}
use Rattle.sb_atoms.proofs.Growth.{grown_still}
use Rattle.sb_atoms.proofs.table.Atoms.find_translation.Goals as goal

pub find_or_add-requires-clause-ready : goal.find_or_add-requires-clause-ready
find_or_add-requires-clause-ready c =
    record { right = c.requires.right; normals = c.requires.normals; regexes = c.requires.regexes }

pub returns-clause-ok : goal.returns-clause-ok
returns-clause-ok c =
    let t = term_at c.args.table.now c.args.id in
    ok_more
    (λ found. Finds is_below false c.find_or_add.new.arena c.find_or_add.new.self
    (λ atoms. brought_translation atoms t) found)
    (λ found. found ≡ brought_translation (atoms_in c.find_or_add.new.arena c.find_or_add.new.self) t)
    c.find_or_add.result (λ found h. h.is) c.find_or_add.ensures.ok

pub returns-clause-stays : goal.returns-clause-stays
returns-clause-stays c =
    grown_still (length c.find_or_add.new.arena) (λ sorts. has_declared sorts (term_at c.args.table.now c.args.id))
    c.args.self.now c.find_or_add.new.self c.find_or_add.ensures.moves.atoms
