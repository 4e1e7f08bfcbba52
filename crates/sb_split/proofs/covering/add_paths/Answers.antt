use Rattle.sb_split.proofs.Words.{[], ◌∷◌, sym, ◌<◌, length, All-take, declares, number_kept, numbers_kept, subst, IsPath}
use Rattle.sb_split.proofs.AddedFacts.{adds_both, adds_none}
use Rattle.sb_split.proofs.OnlyFacts.{of_both, of_none, of_same}
use Rattle.sb_split.proofs.CoverFacts.{with_none, with_path}
use Rattle.sb_split.proofs.covering.add_paths.Goals as goal

pub loop-to-init : goal.loop-to-init
loop-to-init c = record {
  adds = adds_none (declares c.args.serial) c.args.arena.now c.args.atoms.now c.requires.regexes;
  only = of_none c.args.atoms.now c.args.literals.now.items;
  paths = with_none c.args.arena.now c.args.atoms.now c.args.serial c.args.from c.args.literals.now.items;
}

pub returns-in_err-literal-clause-adds : goal.returns-in_err-literal-clause-adds
returns-in_err-literal-clause-adds c =
    adds_both (declares c.args.serial) c.args.arena.now c.loop-to.arena c.path.new.arena c.args.atoms.now
    c.loop-to.atoms
    c.path.new.atoms c.loop-to.invariant.adds c.path.ensures.adds

pub returns-in_err-push-clause-adds : goal.returns-in_err-push-clause-adds
returns-in_err-push-clause-adds c =
    adds_both (declares c.args.serial) c.args.arena.now c.loop-to.arena c.path.new.arena c.args.atoms.now
    c.loop-to.atoms
    c.path.new.atoms c.loop-to.invariant.adds c.path.ensures.adds

pub loop-to-preserved : goal.loop-to-preserved
loop-to-preserved c =
    let e = c.loop-to.invariant.adds.arena in
    record {
      adds = adds_both (declares c.args.serial) c.args.arena.now c.loop-to.arena c.path.new.arena c.args.atoms.now
          c.loop-to.atoms c.path.new.atoms c.loop-to.invariant.adds c.path.ensures.adds;
      only = of_same c.args.atoms.now c.path.new.atoms _ c.push.new.self.items (sym c.in_ok-push.ensures.items)
          (of_both c.args.atoms.now c.loop-to.atoms c.path.new.atoms c.loop-to.literals.items
          (c.in_ok-literal.literal ∷ [])
          c.loop-to.invariant.only c.in_ok-literal.ensures.only);
      paths = with_path (declares c.args.serial) c.loop-to.arena c.path.new.arena c.loop-to.atoms c.path.new.atoms
          c.args.serial c.args.from c.args.list.now c.loop-to.to-index c.to-item.result c.args.literals.now.items
          c.loop-to.literals.items c.push.new.self.items c.in_ok-literal.literal c.path.ensures.adds
          (number_kept c.args.arena.now c.loop-to.arena c.args.from e c.requires.from)
          (All-take (λ n. n < length c.loop-to.arena) c.loop-to.to-index c.args.list.now
          (numbers_kept c.args.arena.now c.loop-to.arena c.args.list.now e c.requires.list)) c.loop-to-test.true
          c.loop-to.invariant.paths
          (subst (λ q. IsPath c.path.new.arena c.path.new.atoms c.args.serial c.args.from q c.in_ok-literal.literal)
          c.to-item.is c.in_ok-literal.ensures.path) c.in_ok-push.ensures.items;
    }
