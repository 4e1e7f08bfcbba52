use Rattle.sb_theory.proofs.Words.{refl, regexes_both, regexes_kept, regexes_same}
use Rattle.sb_theory.proofs.Pieces.{known_at}
use Rattle.sb_theory.proofs.hint.values.Goals as goal

pub loop-literal-init : goal.loop-literal-init
loop-literal-init c = regexes_same c.args.store.now

pub put_goal-requires : goal.put_goal-requires
put_goal-requires c = record {
  known = known_at c.args.atoms.now c.args.literals.now c.loop-literal.literal-index _ c.requires.known
      c.loop-literal-test.true;
  regexes = regexes_kept c.args.store.now.arena c.loop-literal.store.arena c.args.atoms.now
      c.loop-literal.invariant.more.extends c.requires.regexes;
  formed = c.requires.formed;
}

pub loop-literal-preserved : goal.loop-literal-preserved
loop-literal-preserved c =
    let x = c.loop-literal.store in
    regexes_both c.args.store.now x (record x { arena = c.put_goal.new.arena }) c.loop-literal.invariant
    (c.regexes_grow.ensures.arena x (record x { arena = c.put_goal.new.arena }) c.in_ok-put_goal.ensures refl)

pub returns-in_err-put_goal : goal.returns-in_err-put_goal
returns-in_err-put_goal c =
    let x = c.loop-literal.store in
    regexes_both c.args.store.now x (record x { arena = c.put_goal.new.arena }) c.loop-literal.invariant
    (c.regexes_grow.ensures.arena x (record x { arena = c.put_goal.new.arena }) c.in_err-put_goal.ensures refl)

pub search-requires : goal.search-requires
search-requires c = c.loop-literal.invariant.right c.requires.store

pub returns : goal.returns
returns c =
    regexes_both c.args.store.now c.loop-literal.store c.search.new.store c.loop-literal.invariant c.search.ensures
