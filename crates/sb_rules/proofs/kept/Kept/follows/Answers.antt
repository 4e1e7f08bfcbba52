use Rattle.std.proofs.Common.{map, ap, ap₂, sym, subst, ◌∙◌}
use Rattle.sb_rulebook.specs.Lines.{expansion_line, dead_line, rule_line, learned_line}
use Rattle.sb_proof.specs.Lines.{class_in, rule_in, line_in}
use Rattle.sb_rules.specs.Judged.{Judges}
use Rattle.sb_rules.proofs.Overs.{over_kept}
use Rattle.sb_rules.proofs.kept.Kept.follows.Goals as goal

pub returns-in-Regex-clause-judges : goal.returns-in-Regex-clause-judges
returns-in-Regex-clause-judges c = λ asked h.
    subst (λ l. Judges c.define.result asked c.args.self.now c.define.new.self l)
    (ap line_in (sym c.in-Regex.is)) (c.define.ensures.judges asked)

pub returns-in-Regex-clause-over : goal.returns-in-Regex-clause-over
returns-in-Regex-clause-over c =
    over_kept c.normals_stay.ensures c.args.table.now c.args.self.now c.define.new.self c.requires.over
    c.define.ensures.whole c.define.ensures.terms

pub returns-in-Atom-clause-judges : goal.returns-in-Atom-clause-judges
returns-in-Atom-clause-judges c = λ asked h.
    subst (λ l. Judges c.define_atom.result asked c.args.self.now c.define_atom.new.self l)
    (ap line_in (sym c.in-Atom.is)) (c.define_atom.ensures.judges asked h.declared)

pub returns-in-Atom-clause-over : goal.returns-in-Atom-clause-over
returns-in-Atom-clause-over c =
    over_kept c.normals_stay.ensures c.args.table.now c.args.self.now c.define_atom.new.self c.requires.over
    c.define_atom.ensures.whole c.define_atom.ensures.terms

pub returns-in-Expansion-clause-judges : goal.returns-in-Expansion-clause-judges
returns-in-Expansion-clause-judges c = λ asked h.
    subst (λ l. Judges c.expand.result asked c.args.self.now c.expand.new.self l)
    (ap (λ ks. expansion_line c.in-Expansion.number (map class_in ks)) c.deref.ensures.value
    ∙ ap line_in (sym c.in-Expansion.is)) (c.expand.ensures.judges asked h.limit)

pub returns-in-Expansion-clause-over : goal.returns-in-Expansion-clause-over
returns-in-Expansion-clause-over c =
    over_kept c.normals_stay.ensures c.args.table.now c.args.self.now c.expand.new.self c.requires.over
    c.expand.ensures.whole c.expand.ensures.terms

pub returns-in-Dead-clause-judges : goal.returns-in-Dead-clause-judges
returns-in-Dead-clause-judges c = λ asked h.
    subst (λ l. Judges c.bury.result asked c.args.self.now c.bury.new.self l)
    (ap dead_line c.deref-in-Dead.ensures.value ∙ ap line_in (sym c.in-Dead.is)) (c.bury.ensures.judges asked)

pub returns-in-Dead-clause-over : goal.returns-in-Dead-clause-over
returns-in-Dead-clause-over c =
    over_kept c.normals_stay.ensures c.args.table.now c.args.self.now c.bury.new.self c.requires.over
    c.bury.ensures.whole c.bury.ensures.terms

pub returns-in-Assertion-clause-judges : goal.returns-in-Assertion-clause-judges
returns-in-Assertion-clause-judges c = λ asked h.
    subst (λ l. Judges c.assert.result asked c.args.self.now c.assert.new.self l)
    (ap line_in (sym c.in-Assertion.is)) (c.assert.ensures.judges asked h.live)

pub returns-in-Rule-clause-judges : goal.returns-in-Rule-clause-judges
returns-in-Rule-clause-judges c = λ asked h.
    subst (λ l. Judges c.add_by_rule.result asked c.args.self.now c.add_by_rule.new.self l)
    (ap (rule_line (rule_in c.in-Rule.rule)) c.deref-in-Rule.ensures.value ∙ ap line_in (sym c.in-Rule.is))
    (c.add_by_rule.ensures.judges asked h.limit)

pub returns-in-Rule-clause-over : goal.returns-in-Rule-clause-over
returns-in-Rule-clause-over c =
    over_kept c.normals_stay.ensures c.args.table.now c.args.self.now c.add_by_rule.new.self c.requires.over
    c.add_by_rule.ensures.whole c.add_by_rule.ensures.terms

pub returns-in-Learned-clause-judges : goal.returns-in-Learned-clause-judges
returns-in-Learned-clause-judges c = λ asked h.
    subst (λ l. Judges c.learn.result asked c.args.self.now c.learn.new.self l)
    (ap₂ learned_line c.deref-in-Learned.ensures.value c.deref-in-Learned-2.ensures.value
    ∙ ap line_in (sym c.in-Learned.is)) (c.learn.ensures.judges asked h.limit)

pub returns-in-Learned-clause-over : goal.returns-in-Learned-clause-over
returns-in-Learned-clause-over c =
    over_kept c.normals_stay.ensures c.args.table.now c.args.self.now c.learn.new.self c.requires.over
    c.learn.ensures.whole c.learn.ensures.terms
