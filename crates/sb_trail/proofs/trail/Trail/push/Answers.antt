use Rattle.std.proofs.Common.{◌≡◌, ◌+◌, ◌<◌, ◌∷◌, [], ◌++◌, length, None, refl, ap, ◌∙◌, arith}
use Rattle.std.specs.Vec.{vec_capacity}
use Rattle.sb_trail.specs.declared.assigned.Assigned.{Assigned}
use Rattle.sb_trail.specs.Assignments.{Assignments, entry_of, value_of, AreLevelled}
use Rattle.sb_trail.proofs.EntryLemmas.{map_none, level_after-below, level_behind-bounds}
use Rattle.sb_trail.proofs.TableLemmas.{AreTables-push}
use Rattle.sb_trail.proofs.trail.Trail.push.Goals as goal

pub level_behind-level-requires : goal.level_behind-level-requires
level_behind-level-requires c =
    let levelled : AreLevelled 0 c.deref.result.now = rw c.deref.ensures.value c.self.invariant.trail.levelled in
    omega (arith, c.newest_level.ensures, level_after-below 0 c.deref.result.now levelled)

pub new-entry-requires-clause-atom : goal.new-entry-requires-clause-atom
new-entry-requires-clause-atom c =
    omega (arith, ap (λ (t : Assignments). t.reserved) c.self.view_is, c.requires.reserved, c.self.invariant.small)

pub new-entry-requires-clause-level : goal.new-entry-requires-clause-level
new-entry-requires-clause-level c =
    let levelled : AreLevelled 0 c.deref.result.now = rw c.deref.ensures.value c.self.invariant.trail.levelled in
    omega (
      arith,
      c.newest_level.ensures,
      level_after-below 0 c.deref.result.now levelled,
      ap length c.deref.ensures.value,
      c.level_behind-level.ensures,
      level_behind-bounds c.newest_level.result c.args.reason,
      c.self.invariant.counted,
      c.self.invariant.small,
    )

pub invariant_of-self : goal.invariant_of-self
invariant_of-self c =
    let entry : Assigned =
    record { literal = c.args.literal; level = c.level_behind-level.result; reason = c.args.reason } in
    let unassigned : entry_of c.self.inside.entries.items c.args.literal.atom ≡ None =
    map_none (λ (e : Assigned). e.literal.positive) (entry_of c.self.inside.entries.items c.args.literal.atom)
    (ap (λ (t : Assignments). value_of t.literals c.args.literal.atom) c.self.view_is ∙ c.requires.unassigned) in
    let place : c.args.literal.atom < length c.self.inside.places.items =
    omega (arith, ap (λ (t : Assignments). t.reserved) c.self.view_is, c.requires.reserved) in
    let added : c.push.new.self.items ≡ c.self.inside.entries.items ++ entry ∷ [] =
    rw (← c.new-entry.ensures) (rw (c.is_err.ensures.negation, c.if-is_err.false) at c.push.ensures.items) in
    let behind : c.behind.result ≡ length c.self.inside.entries.items + 1 =
    omega (arith, c.behind.ensures, c.len.ensures, c.self.inside.entries.ok.0) in
    rw (added, behind) (AreTables-push c.self.invariant entry (vec_capacity c.push.new.self) c.push.ensures.capacity place
    unassigned (rw (c.level_behind-level.ensures, c.newest_level.ensures, c.deref.ensures.value) refl))
