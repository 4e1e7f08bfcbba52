use Rattle.std.proofs.Common.{subst, sym}
use Rattle.sb_regex.specs.Numbered.{regexes_at}
use Rattle.sb_rulebook.specs.RegexRules.{regex_of_node}
use Rattle.sb_proof.specs.Lines.{node_in}
use Rattle.sb_rules.specs.Making.{IsMade}
use Rattle.sb_rules.proofs.known.KnownRegexes.made.Goals as goal

pub returns-in-Cat-clause-made : goal.returns-in-Cat-clause-made
returns-in-Cat-clause-made c =
    subst (λ n. IsMade c.made_cat.new.arena
    (regex_of_node (regexes_at c.args.arena.now c.args.self.now.order) (node_in n)) c.made_cat.result)
    (sym c.in-Cat.is) c.made_cat.ensures.made

pub returns-in-Not-clause-made : goal.returns-in-Not-clause-made
returns-in-Not-clause-made c =
    subst (λ n. IsMade c.made_not.new.arena
    (regex_of_node (regexes_at c.args.arena.now c.args.self.now.order) (node_in n)) c.made_not.result)
    (sym c.in-Not.is) c.made_not.ensures.made

pub returns-in-Star-clause-made : goal.returns-in-Star-clause-made
returns-in-Star-clause-made c =
    subst (λ n. IsMade c.made_star.new.arena
    (regex_of_node (regexes_at c.args.arena.now c.args.self.now.order) (node_in n)) c.made_star.result)
    (sym c.in-Star.is) c.made_star.ensures.made

pub returns-in-Rep-clause-made : goal.returns-in-Rep-clause-made
returns-in-Rep-clause-made c =
    subst (λ n. IsMade c.made_rep.new.arena
    (regex_of_node (regexes_at c.args.arena.now c.args.self.now.order) (node_in n)) c.made_rep.result)
    (sym c.in-Rep.is) c.made_rep.ensures.made

pub returns-in-Path-clause-made : goal.returns-in-Path-clause-made
returns-in-Path-clause-made c =
    subst (λ n. IsMade c.made_path.new.arena
    (regex_of_node (regexes_at c.args.arena.now c.args.self.now.order) (node_in n)) c.made_path.result)
    (sym c.in-Path.is) c.made_path.ensures.made
