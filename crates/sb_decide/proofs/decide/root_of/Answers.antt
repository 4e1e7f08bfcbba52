use Rattle.sb_decide.proofs.Words.{◌<◌, length, sym, subst, arith, All, IfOk-from_err, extends_same}
use Rattle.sb_decide.proofs.RootFacts.{places_within, rooted_grown}
use Rattle.sb_decide.proofs.TakingOver.{root_made}
use Rattle.sb_decide.proofs.decide.root_of.Goals as goal

pub conjuncts_at-requires-clause-within : goal.conjuncts_at-requires-clause-within
conjuncts_at-requires-clause-within c =
    subst (All (λ place. place < length c.args.members.now)) (sym c.requires.places)
    (places_within c.args.serial.0 c.args.members.now)

pub and-requires : goal.and-requires
and-requires c =
    let conjuncts = c.in_ok-ids.ensures c.args.arena.now c.args.serial.0 c.requires.places
    (rw c.deref.ensures.value c.requires.rooted) in
    rw c.deref-2.ensures.value conjuncts.known

pub keep_root-requires : goal.keep_root-requires
keep_root-requires c =
    let all = subst (All (λ place. place < length c.args.members.now)) (sym c.requires.places)
    (places_within c.args.serial.0 c.args.members.now) in
    record { within = λ k d l. let low = all k d l in omega (arith, low, c.requires.rooted.abreast) }

pub returns-in_err-ids : goal.returns-in_err-ids
returns-in_err-ids c =
    let x = c.from_residual in
    record {
      root = IfOk-from_err x.result _ x.ensures.0;
      rooted = c.requires.rooted;
      extends = extends_same c.args.arena.now;
    }

pub returns-in_err-root : goal.returns-in_err-root
returns-in_err-root c =
    let x = c.from_residual-in_err-root in
    record {
      root = IfOk-from_err x.result _ x.ensures.0;
      rooted = rooted_grown _ _ _ _ c.and.ensures.extends c.requires.rooted;
      extends = c.and.ensures.extends;
    }

pub returns : goal.returns
returns c =
    let root = root_made c.mkand_keeps_language.ensures c.intersection_is_of_each.ensures c.args.arena.now
    c.and.new.self c.args.members.now c.args.serial.0 c.in_ok-ids.ids.items c.deref-2.result.now c.in_ok-root.root
    c.deref-2.ensures.value
    (c.in_ok-ids.ensures c.args.arena.now c.args.serial.0 c.requires.places
    (rw c.deref.ensures.value c.requires.rooted))
    c.and.ensures.extends c.requires.rooted.numbers c.in_ok-root.ensures.ok in
    record {
      root = root;
      rooted = c.keep_root.ensures c.and.new.self c.args.members.now c.args.serial.0 c.requires.places root
          (rooted_grown _ _ _ _ c.and.ensures.extends c.requires.rooted);
      extends = c.and.ensures.extends;
    }
