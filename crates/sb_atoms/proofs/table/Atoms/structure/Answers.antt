use Rattle.std.proofs.Common.{sym, subst}
use Rattle.std.specs.List.{list_all}
use Rattle.sb_script.specs.Brought.{is_structure}
use Rattle.sb_term.specs.Descending.{AreReached}
use Rattle.sb_term.specs.Numbered.{term_at}
use Rattle.sb_rulebook.specs.Translation.{translation}
use Rattle.sb_atoms.specs.Translated.{has_declared}
use Rattle.sb_atoms.specs.Growing.{is_below, Finds}
use Rattle.sb_atoms.specs.Reaching.{connected_parts}
use Rattle.sb_atoms.proofs.Connections.{structure_down, declared_down}
use Rattle.sb_atoms.proofs.Growth.{moves_none, moves_given}
use Rattle.sb_atoms.proofs.table.Atoms.structure.Goals as goal

pub returns-in_err-ids-clause-moves : goal.returns-in_err-ids-clause-moves
returns-in_err-ids-clause-moves c =
    moves_none c.args.adds (λ sorts. has_declared sorts (term_at c.args.table.now c.args.id)) c.args.arena.now
    c.args.self.now

pub find_literals-requires : goal.find_literals-requires
find_literals-requires c =
    let r = subst (AreReached connected_parts c.args.table.now c.args.id) (sym c.deref.ensures.value) c.in_ok-ids.ensures in record {
      numbers = r.below;
      structure = r.passes is_structure structure_down c.requires.structure;
      parts = r.behind;
      ready = c.requires.ready;
    }

pub returns-in_err-find_literals-clause-moves : goal.returns-in_err-find_literals-clause-moves
returns-in_err-find_literals-clause-moves c =
    let ts = c.args.table.now in
    let r = subst (AreReached connected_parts ts c.args.id) (sym c.deref.ensures.value) c.in_ok-ids.ensures in
    moves_given c.args.adds (λ sorts. list_all (λ i. has_declared sorts (term_at ts i)) c.deref.result.now)
    (λ sorts. has_declared sorts (term_at ts c.args.id)) c.args.arena.now c.find_literals.new.arena c.args.self.now
    c.find_literals.new.self (λ sorts d. r.passes (has_declared sorts) (declared_down sorts) d)
    c.find_literals.ensures.moves

pub returns-clause-ok : goal.returns-clause-ok
returns-clause-ok c =
    let ts = c.args.table.now in
    let r = subst (AreReached connected_parts ts c.args.id) (sym c.deref.ensures.value) c.in_ok-ids.ensures in
    subst (λ found. Finds is_below c.args.adds c.find_literals.new.arena c.find_literals.new.self
    (λ atoms. translation atoms (term_at ts c.args.id)) found) (sym c.literal_known.ensures)
    (c.in_ok-find_literals.ensures.ok c.args.id r.first)

pub returns-clause-moves : goal.returns-clause-moves
returns-clause-moves c =
    let ts = c.args.table.now in
    let r = subst (AreReached connected_parts ts c.args.id) (sym c.deref.ensures.value) c.in_ok-ids.ensures in
    moves_given c.args.adds (λ sorts. list_all (λ i. has_declared sorts (term_at ts i)) c.deref.result.now)
    (λ sorts. has_declared sorts (term_at ts c.args.id)) c.args.arena.now c.find_literals.new.arena c.args.self.now
    c.find_literals.new.self (λ sorts d. r.passes (has_declared sorts) (declared_down sorts) d)
    c.find_literals.ensures.moves
