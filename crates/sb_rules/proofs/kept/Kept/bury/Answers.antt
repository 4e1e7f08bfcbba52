use Rattle.std.proofs.Common.{refl, subst, sym}
use Rattle.sb_regex.proofs.CallerLemmas.{extends_same}
use Rattle.sb_rulebook.specs.Lines.{dead_line}
use Rattle.sb_rules.proofs.Staying.{judged-known}
use Rattle.sb_regex.specs.Numbered.{AllNumbers}
use Rattle.sb_rules.proofs.kept.Kept.bury.Goals as goal

pub returns-clause-judges : goal.returns-clause-judges
returns-clause-judges c = λ asked.
    judged-known c.bury.result asked c.args.self.now (record c.args.self.now { regexes = c.bury.new.self })
    (dead_line c.args.numbers.now) c.requires (extends_same _) refl refl refl c.bury.ensures.unchanged
    (λ kept. c.bury.ensures.follows asked kept)

pub returns-clause-whole : goal.returns-clause-whole
returns-clause-whole c = record {
  regexes = subst (AllNumbers c.args.self.now.arena) (sym c.bury.ensures.order) c.requires.regexes;
  plain = c.requires.plain;
  atoms = c.requires.atoms;
  brought = c.requires.brought;
  formed = c.requires.formed;
}
