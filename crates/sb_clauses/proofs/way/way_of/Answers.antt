use Rattle.std.proofs.Common.{◌≡◌, refl, ◌∙◌, inl, arith}
use Rattle.std.proofs.lemmas.List.{length-map}
use Rattle.std.specs.Option.{option_map}
use Rattle.sb_trail.specs.Assignments.{held}
use Rattle.sb_clauses.specs.Records.{kept_of, clause_of}
use Rattle.sb_clauses.specs.Watching.{literal_at}
use Rattle.sb_clauses.proofs.Growing.{clause_at, no_clause_at, literal_read}
use Rattle.sb_clauses.proofs.Ways.{open_to_spare, passed_held, place_small, open_to_place}
use Rattle.std.proofs.lemmas.Grind.{common_steps}
use Rattle.sb_clauses.proofs.way.way_of.Goals as goal

pub is_gone-requires : goal.is_gone-requires
is_gone-requires c = c.requires.number

pub returns-then-is_gone : goal.returns-then-is_gone
returns-then-is_gone c = c.is_gone.ensures c.if-is_gone.true

pub bounds-other-number : goal.bounds-other-number
bounds-other-number c = c.requires.other

pub returns-then-is_passed : goal.returns-then-is_passed
returns-then-is_passed c =
    let passed = c.is_passed.ensures c.if-is_passed.true in
    record { holds = passed.1; among = inl passed.0 }

pub returns-in-Some : goal.returns-in-Some
returns-in-Some c = open_to_spare _ _ _ _ _ _ _ c.requires.spared c.in-Some.ensures

pub bounds-records-number : goal.bounds-records-number
bounds-records-number c = omega (arith, c.requires.number, length-map c.args.records.now (option_map clause_of))

pub returns-in_default-records : goal.returns-in_default-records
returns-in_default-records c =
    no_clause_at c.args.records.now c.args.number c.index-records-number.result c.requires.number
    c.index-records-number.is c.in_default-records.is

pub look-requires : goal.look-requires
look-requires c =
    let has = clause_at c.args.records.now c.args.number c.index-records-number.result c.in-Some-records.record
    c.as_slice-literals.result.now c.requires.number c.index-records-number.is c.in-Some-records.is
    c.as_slice-literals.ensures in
    rw c.literal_of.ensures (c.requires.readable c.as_slice-literals.result.now has).inside

pub returns-in-Holds : goal.returns-in-Holds
returns-in-Holds c =
    let has = clause_at c.args.records.now c.args.number c.index-records-number.result c.in-Some-records.record
    c.as_slice-literals.result.now c.requires.number c.index-records-number.is c.in-Some-records.is
    c.as_slice-literals.ensures in
    passed_held _ _ _ _ has _ _ (rw c.literal_of.ensures at c.in-Holds.ensures)

pub returns-in-Forces : goal.returns-in-Forces
returns-in-Forces c = record {
  clause = c.as_slice-literals.result.now;
  has = clause_at c.args.records.now c.args.number c.index-records-number.result c.in-Some-records.record
      c.as_slice-literals.result.now c.requires.number c.index-records-number.is c.in-Some-records.is
      c.as_slice-literals.ensures;
  left = rw c.literal_of.ensures at c.in-Forces.ensures;
}

pub bounds-literals-place : goal.bounds-literals-place
bounds-literals-place c = c.in-Moves.ensures.replacement.inside

pub code_of-requires : goal.code_of-requires
code_of-requires c =
    let has = clause_at c.args.records.now c.args.number c.index-records-number.result c.in-Some-records.record
    c.as_slice-literals.result.now c.requires.number c.index-records-number.is c.in-Some-records.is
    c.as_slice-literals.ensures in
    let read : c.literal.result ≡ literal_at c.as_slice-literals.result.now c.in-Moves.place =
    c.literal.ensures
    ∙ literal_read c.as_slice-literals.result.now c.as_slice-literals.result.now c.in-Moves.place
    c.index-literals-place.result refl c.in-Moves.ensures.replacement.inside c.index-literals-place.is in
    rw read
    (place_small (kept_of c.args.records.now) (held c.args.trail.now.literals) c.args.number _ has _ c.args.lists
    c.in-Moves.place (c.requires.readable _ has) (rw c.literal_of.ensures at c.in-Moves.ensures))

pub returns-in-Moves : goal.returns-in-Moves
returns-in-Moves c =
    let has = clause_at c.args.records.now c.args.number c.index-records-number.result c.in-Some-records.record
    c.as_slice-literals.result.now c.requires.number c.index-records-number.is c.in-Some-records.is
    c.as_slice-literals.ensures in
    let read : c.literal.result ≡ literal_at c.as_slice-literals.result.now c.in-Moves.place =
    c.literal.ensures
    ∙ literal_read c.as_slice-literals.result.now c.as_slice-literals.result.now c.in-Moves.place
    c.index-literals-place.result refl c.in-Moves.ensures.replacement.inside c.index-literals-place.is in
    rw (c.code_of.ensures, read)
    (open_to_place _ _ _ _ has _ _ c.in-Moves.place (c.requires.readable _ has)
    (rw c.literal_of.ensures at c.in-Moves.ensures))

pub returns-in-False : goal.returns-in-False
returns-in-False c = record {
  clause = c.as_slice-literals.result.now;
  has = clause_at c.args.records.now c.args.number c.index-records-number.result c.in-Some-records.record
      c.as_slice-literals.result.now c.requires.number c.index-records-number.is c.in-Some-records.is
      c.as_slice-literals.ensures;
  is_false = c.in-False.ensures;
}

pub offset_bounds-records-number : goal.offset_bounds-records-number
offset_bounds-records-number c = grind (arith, common_steps)
