use Rattle.std.proofs.Common.{◌≡◌, ◌-◌, ◌||◌, true, nat_eq, get_or, sym, ap, ◌∙◌, arith, ◌++◌, ◌∷◌, [], false, if◌then◌else◌, drop, subst}
use Rattle.std.specs.List.{list_any}
use Rattle.sb_rules.specs.Burying.{is_dead_by}
use Rattle.sb_rules.proofs.Loops.{gathered-twice, or-right, Gathered, gathered-more}
use Rattle.sb_rules.proofs.known.KnownRegexes.members.Goals as goal
use Rattle.sb_rules.proofs.known.KnownRegexes.members.Goals.{then-is_dead-via-then-is_dead, then-is_dead-via-else-is_dead+then-contains}

pub returns-then-is_dead : goal.returns-then-is_dead
returns-then-is_dead c =
    let place = c.loop-place.place in
    let dead = c.args.self.now.dead in
    let keys = c.loop-place.members.keys in
    let n = get_or c.args.numbers.now (place - 1) 0 in
    let twice : (is_dead_by dead n || list_any (nat_eq n) keys) ≡ true =
    elim c.then-is_dead.branch as (λ _. (is_dead_by dead n || list_any (nat_eq n) keys) ≡ true) [
      | then-is_dead-via-then-is_dead w ↦
          ap (λ b. b || list_any (nat_eq n) keys) (sym c.is_dead.ensures ∙ w.if-is_dead.true)
      | then-is_dead-via-else-is_dead+then-contains w ↦
          or-right (is_dead_by dead n) (list_any (nat_eq n) keys) (sym w.contains.ensures ∙ w.if-contains.true)
    ] in
    gathered-twice dead c.args.numbers.now keys place (place - 1) (omega arith) (omega arith)
    c.loop-place.invariant.gathered twice

pub loop-place-preserved : goal.loop-place-preserved
loop-place-preserved c =
    let place = c.loop-place.place in
    let dead = c.args.self.now.dead in
    let keys = c.loop-place.members.keys in
    let n = get_or c.args.numbers.now (place - 1) 0 in
    let none : list_any (nat_eq n) keys ≡ false = sym c.contains.ensures ∙ c.if-contains.false in
    record {
      within = omega (arith, c.loop-place.invariant.within);
      gathered =
          subst (Gathered dead (drop (place - 1) c.args.numbers.now))
          (sym (c.in_ok-insert.ensures.keys ∙ ap (λ b. if b then keys else keys ++ n ∷ []) none))
          (gathered-more dead c.args.numbers.now keys place (place - 1) (omega (arith, c.loop-place-test.true))
          (omega (arith, c.loop-place-test.true, c.loop-place.invariant.within)) c.loop-place.invariant.gathered
          (sym c.is_dead.ensures ∙ c.if-is_dead.false) none);
    }
