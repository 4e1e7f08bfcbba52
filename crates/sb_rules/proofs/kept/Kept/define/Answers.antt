use Rattle.std.proofs.Common.{refl}
use Rattle.sb_atoms.proofs.CallerLemmas.{regexes_kept}
use Rattle.sb_rulebook.specs.Lines.{regex_line}
use Rattle.sb_proof.specs.Lines.{node_in}
use Rattle.sb_rules.proofs.Staying.{judged-known}
use Rattle.sb_rules.proofs.kept.Kept.define.Goals as goal

pub returns-clause-judges : goal.returns-clause-judges
returns-clause-judges c = λ asked.
    judged-known c.define.result asked c.args.self.now
    (record c.args.self.now { arena = c.define.new.arena; regexes = c.define.new.self })
    (regex_line (node_in c.args.node.now)) c.requires c.define.ensures.extends refl refl refl
    c.define.ensures.unchanged (λ kept. c.define.ensures.follows asked kept)

pub returns-clause-whole : goal.returns-clause-whole
returns-clause-whole c = record {
  regexes = c.define.ensures.known;
  plain = c.right_stays.ensures _ _ _ c.define.ensures.extends c.requires.plain;
  atoms = regexes_kept _ _ _ c.define.ensures.extends c.requires.atoms;
  brought = c.requires.brought;
  formed = c.requires.formed;
}
