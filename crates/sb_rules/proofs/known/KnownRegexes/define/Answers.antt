use Rattle.sb_proof.specs.Lines.{node_in}
use Rattle.sb_rules.proofs.Defined.{define-unnormal, define-added, added-known}
use Rattle.sb_regex.proofs.CallerLemmas.{numbers_kept}
use Rattle.sb_rules.proofs.known.KnownRegexes.define.Goals as goal

pub returns-in_default-clause-follows : goal.returns-in_default-clause-follows
returns-in_default-clause-follows c = λ asked kept.
    define-unnormal (node_in c.args.node.now) c.args.arena.now c.made.new.arena c.args.self.now
    c.in_ok-made.ensures.extends c.requires.known c.order_tells_apart.ensures
    c.normal_regexes_each_once.ensures.distinct c.normal_regexes_each_once.ensures.normal asked kept
    c.in_ok-made.made c.in_default.is c.in_ok-made.ensures.made

pub returns-clause-follows : goal.returns-clause-follows
returns-clause-follows c = λ asked kept.
    define-added (node_in c.args.node.now) c.args.arena.now c.made.new.arena c.args.self.now
    c.in_ok-made.ensures.extends c.requires.known c.order_tells_apart.ensures
    c.normal_regexes_each_once.ensures.distinct c.normal_regexes_each_once.ensures.normal asked kept
    c.in_ok-made.made c.in-Some.id c.add_new.new.self c.add_new.result c.in-Some.is c.in_ok-made.ensures.made
    c.add_new.ensures.added

pub returns-clause-known : goal.returns-clause-known
returns-clause-known c =
    added-known (node_in c.args.node.now) c.args.arena.now c.made.new.arena c.args.self.now
    c.in_ok-made.ensures.extends c.requires.known c.in_ok-made.made c.in-Some.id c.add_new.new.self c.add_new.result
    c.in-Some.is c.in_ok-made.ensures.made c.add_new.ensures.added

pub returns-in_default-clause-known : goal.returns-in_default-clause-known
returns-in_default-clause-known c =
    numbers_kept c.args.arena.now c.made.new.arena c.args.self.now.order c.made.ensures.extends c.requires.known

pub returns-in_err-made-clause-known : goal.returns-in_err-made-clause-known
returns-in_err-made-clause-known c =
    numbers_kept c.args.arena.now c.made.new.arena c.args.self.now.order c.made.ensures.extends c.requires.known
