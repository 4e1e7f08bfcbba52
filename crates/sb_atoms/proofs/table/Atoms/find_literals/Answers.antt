use Rattle.std.proofs.Common.{◌-◌, ◌<◌, None, length, nat_lt, arith}
use Rattle.std.specs.List.{list_all}
use Rattle.std.proofs.lemmas.Bool.{ltb-true}
use Rattle.sb_script.specs.Brought.{is_structure}
use Rattle.sb_term.specs.Numbered.{term_at}
use Rattle.sb_term.proofs.CallerLemmas.{none_known, parts_known, next_known, all_known}
use Rattle.sb_rulebook.specs.Translation.{translation}
use Rattle.sb_fragment.proofs.CallerLemmas.{all_at}
use Rattle.sb_atoms.specs.Translated.{has_declared}
use Rattle.sb_atoms.specs.Growing.{is_below, Finds}
use Rattle.sb_atoms.proofs.Growth.{moves_none, moves_both, moves_given}
use Rattle.sb_atoms.specs.Reaching.{connected_parts}
use Rattle.sb_atoms.proofs.KnownLiterals.{known_moved}
use Rattle.sb_atoms.proofs.table.Atoms.find_literals.Goals as goal

pub loop-place-init : goal.loop-place-init
loop-place-init c = (
  omega arith,
  none_known None (λ i found. Finds is_below c.args.adds c.args.arena.now c.args.self.now
      (λ atoms. translation atoms (term_at c.args.table.now i)) found) c.args.known.now.entries c.args.ids.now,
  moves_none c.args.adds (λ sorts. list_all (λ i. has_declared sorts (term_at c.args.table.now i)) c.args.ids.now)
      c.args.arena.now c.args.self.now,
  c.requires.ready,
)

pub literal_of-requires : goal.literal_of-requires
literal_of-requires c =
    let ts = c.args.table.now in
    let is = c.args.ids.now in
    let i = c.loop-place.place in
    let x = c.index-ids-place.result in
    let within : i - 1 < length is = omega (arith, c.loop-place.invariant.0, c.loop-place-test.true) in record {
      number = ltb-true x (length ts) (all_at (λ j. nat_lt j (length ts)) is (i - 1) x c.requires.numbers within
          c.index-ids-place.is);
      structure = all_at (λ j. is_structure (term_at ts j)) is (i - 1) x c.requires.structure within
          c.index-ids-place.is;
      ready = c.loop-place.invariant.3;
      parts = parts_known connected_parts None (λ j found. Finds is_below c.args.adds c.loop-place.arena c.loop-place.self
          (λ atoms. translation atoms (term_at ts j)) found) c.loop-place.known.entries ts is i x c.requires.parts
          c.loop-place-test.true c.loop-place.invariant.0 c.index-ids-place.is c.loop-place.invariant.1;
    }

pub loop-place-preserved : goal.loop-place-preserved
loop-place-preserved c =
    let ts = c.args.table.now in
    let is = c.args.ids.now in
    let i = c.loop-place.place in
    let x = c.index-ids-place.result in
    let within : i - 1 < length is = omega (arith, c.loop-place.invariant.0, c.loop-place-test.true) in
    let own = c.literal_of.ensures.moves in (
      omega (arith, c.loop-place.invariant.0),
      next_known None (λ j found. Finds is_below c.args.adds c.literal_of.new.arena c.literal_of.new.self
          (λ atoms. translation atoms (term_at ts j)) found) c.loop-place.known.entries c.insert.new.self.entries is i x
          c.in_ok-found.found c.loop-place-test.true c.loop-place.invariant.0 c.index-ids-place.is
          c.in_ok-insert.ensures.updates.0 c.in_ok-found.ensures.ok
          (known_moved c.args.adds (λ sorts. has_declared sorts (term_at ts x)) c.loop-place.arena
          c.literal_of.new.arena c.loop-place.self c.literal_of.new.self ts c.loop-place.known.entries _
          c.loop-place.invariant.3.regexes own c.loop-place.invariant.1),
      moves_both c.args.adds (λ sorts. list_all (λ j. has_declared sorts (term_at ts j)) is) c.args.arena.now
          c.loop-place.arena c.literal_of.new.arena c.args.self.now c.loop-place.self c.literal_of.new.self
          c.loop-place.invariant.2
          (moves_given c.args.adds (λ sorts. has_declared sorts (term_at ts x))
          (λ sorts. list_all (λ j. has_declared sorts (term_at ts j)) is) c.loop-place.arena c.literal_of.new.arena
          c.loop-place.self c.literal_of.new.self
          (λ sorts d. all_at (λ j. has_declared sorts (term_at ts j)) is (i - 1) x d within c.index-ids-place.is) own),
      c.literal_of.ensures.ready,
    )

pub returns-in_err-found-clause-moves : goal.returns-in_err-found-clause-moves
returns-in_err-found-clause-moves c =
    let ts = c.args.table.now in
    let is = c.args.ids.now in
    let i = c.loop-place.place in
    let x = c.index-ids-place.result in
    let within : i - 1 < length is = omega (arith, c.loop-place.invariant.0, c.loop-place-test.true) in
    moves_both c.args.adds (λ sorts. list_all (λ j. has_declared sorts (term_at ts j)) is) c.args.arena.now
    c.loop-place.arena c.literal_of.new.arena c.args.self.now c.loop-place.self c.literal_of.new.self
    c.loop-place.invariant.2
    (moves_given c.args.adds (λ sorts. has_declared sorts (term_at ts x))
    (λ sorts. list_all (λ j. has_declared sorts (term_at ts j)) is) c.loop-place.arena c.literal_of.new.arena
    c.loop-place.self c.literal_of.new.self
    (λ sorts d. all_at (λ j. has_declared sorts (term_at ts j)) is (i - 1) x d within c.index-ids-place.is)
    c.literal_of.ensures.moves)

pub returns-in_err-insert-clause-moves : goal.returns-in_err-insert-clause-moves
returns-in_err-insert-clause-moves c =
    let ts = c.args.table.now in
    let is = c.args.ids.now in
    let i = c.loop-place.place in
    let x = c.index-ids-place.result in
    let within : i - 1 < length is = omega (arith, c.loop-place.invariant.0, c.loop-place-test.true) in
    moves_both c.args.adds (λ sorts. list_all (λ j. has_declared sorts (term_at ts j)) is) c.args.arena.now
    c.loop-place.arena c.literal_of.new.arena c.args.self.now c.loop-place.self c.literal_of.new.self
    c.loop-place.invariant.2
    (moves_given c.args.adds (λ sorts. has_declared sorts (term_at ts x))
    (λ sorts. list_all (λ j. has_declared sorts (term_at ts j)) is) c.loop-place.arena c.literal_of.new.arena
    c.loop-place.self c.literal_of.new.self
    (λ sorts d. all_at (λ j. has_declared sorts (term_at ts j)) is (i - 1) x d within c.index-ids-place.is)
    c.literal_of.ensures.moves)

pub returns : goal.returns
returns c = record {
  ok = all_known None (λ i found. Finds is_below c.args.adds c.loop-place.arena c.loop-place.self
      (λ atoms. translation atoms (term_at c.args.table.now i)) found) c.loop-place.known.entries c.args.ids.now
      c.loop-place.place (omega (arith, c.loop-place-test.false)) c.loop-place.invariant.1;
  moves = c.loop-place.invariant.2;
  ready = c.loop-place.invariant.3;
}
