use Rattle.sb_regex.proofs.CallerLemmas.{names_from, extends_same}
use Rattle.sb_regex.proofs.Spines.{plain_node, cat_none, cat_eps, none_cat, eps_cat}
use Rattle.sb_regex.proofs.arena.Arena.cat.Goals as goal

pub join-requires : goal.join-requires
join-requires c = record {
  left = c.requires.left;
  right = c.requires.right;
  left_is_plain = plain_node c.args.self.now _ _ c.node.ensures.value c.in_default.not-None c.in_default.not-Eps;
  right_is_plain = plain_node c.args.self.now _ _ c.node-in_default.ensures.value c.in_default-node.not-None
      c.in_default-node.not-Eps;
}

pub returns-in-None-clause-ok : goal.returns-in-None-clause-ok
returns-in-None-clause-ok c =
    names_from c.args.self.now c.args.a _ c.requires.left
    (cat_none c.args.self.now _ _ _ c.node.ensures.value c.in-None.is)

pub returns-in-Eps-clause-ok : goal.returns-in-Eps-clause-ok
returns-in-Eps-clause-ok c =
    names_from c.args.self.now c.args.b _ c.requires.right
    (cat_eps c.args.self.now _ _ _ c.node.ensures.value c.in-Eps.is)

pub returns-in-None-node : goal.returns-in-None-node
returns-in-None-node c = record {
  ok = names_from c.args.self.now c.args.b _ c.requires.right
      (none_cat c.args.self.now _ _ _ c.node-in_default.ensures.value c.in-None-node.is);
  extends = extends_same c.args.self.now;
}

pub returns-in-Eps-node : goal.returns-in-Eps-node
returns-in-Eps-node c = record {
  ok = names_from c.args.self.now c.args.a _ c.requires.left
      (eps_cat c.args.self.now _ _ _ c.node-in_default.ensures.value c.in-Eps-node.is);
  extends = extends_same c.args.self.now;
}
