use Rattle.std.proofs.Common.{◌≡◌, ◌<◌, length, true, None, IfSome, refl}
use Rattle.sb_facts.proofs.CallerLemmas.{ok_more}
use Rattle.sb_term.specs.Numbered.{term_at}
use Rattle.sb_atoms.specs.Numbered.{atoms_in}
use Rattle.sb_atoms.specs.Translated.{brought_translation, HasNoLiteral}
use Rattle.sb_atoms.specs.Growing.{is_below, Finds}
use Rattle.sb_atoms.proofs.Growth.{grown_defined, grown_extends, grown_earlier}
use Rattle.sb_atoms.proofs.Found.{finds_known}
use Rattle.sb_atoms.proofs.table.Atoms.translate.Goals as goal

pub find_or_add-requires-clause-ready : goal.find_or_add-requires-clause-ready
find_or_add-requires-clause-ready c =
    record { right = c.requires.right; normals = c.requires.normals; regexes = c.requires.regexes }

pub returns-clause-ok : goal.returns-clause-ok
returns-clause-ok c =
    let t = term_at c.args.table.now c.args.id in
    ok_more
    (λ found. Finds is_below true c.find_or_add.new.arena c.find_or_add.new.self
    (λ atoms. brought_translation atoms t) found)
    (λ found. found ≡ brought_translation (atoms_in c.find_or_add.new.arena c.find_or_add.new.self) t)
    c.find_or_add.result (λ found h. h.is) c.find_or_add.ensures.ok

pub returns-clause-known : goal.returns-clause-known
returns-clause-known c =
    let t = term_at c.args.table.now c.args.id in
    ok_more
    (λ found. Finds is_below true c.find_or_add.new.arena c.find_or_add.new.self
    (λ atoms. brought_translation atoms t) found)
    (λ found. IfSome found (λ l. l.atom < length c.find_or_add.new.self))
    c.find_or_add.result
    (λ found h. finds_known true c.find_or_add.new.arena c.find_or_add.new.self
    (λ atoms. brought_translation atoms t) found h) c.find_or_add.ensures.ok

pub returns-clause-none : goal.returns-clause-none
returns-clause-none c =
    let t = term_at c.args.table.now c.args.id in
    ok_more
    (λ found. Finds is_below true c.find_or_add.new.arena c.find_or_add.new.self
    (λ atoms. brought_translation atoms t) found)
    (λ found. found ≡ None → HasNoLiteral t) c.find_or_add.result (λ found h. h.none refl) c.find_or_add.ensures.ok

pub returns-clause-extends : goal.returns-clause-extends
returns-clause-extends c = grown_extends c.args.self.now c.find_or_add.new.self c.find_or_add.ensures.moves.atoms

pub returns-clause-defined : goal.returns-clause-defined
returns-clause-defined c =
    grown_defined (length c.find_or_add.new.arena) (term_at c.args.table.now c.args.id) c.args.self.now
    c.find_or_add.new.self c.find_or_add.ensures.moves.atoms

pub returns-clause-earlier : goal.returns-clause-earlier
returns-clause-earlier c = grown_earlier c.args.self.now c.find_or_add.new.self c.find_or_add.ensures.moves.atoms
