use Rattle.std.proofs.Common.{◌∙◌, arith}
use Rattle.sb_term.specs.Numbered.{term_at}
use Rattle.sb_script.specs.Sizes.{size_of}
use Rattle.sb_problem.proofs.Takings.{taken_none, taken_word}
use Rattle.sb_problem.proofs.Texts.{limit_kept, limit_past, long_text}
use Rattle.sb_problem.proofs.normals.Normals.take_word.Goals as goal

pub returns-then-count-gt-WORD_LIMIT : goal.returns-then-count-gt-WORD_LIMIT
returns-then-count-gt-WORD_LIMIT c = λ whole parts met left h.
    let t = term_at c.args.table.now c.args.next in
    taken_none whole t parts c.args.run.now.items met left h
    (long_text t c.requires.text
    (limit_past (size_of t) c.args.count c.requires.counted (omega (arith, c.if-count-gt-WORD_LIMIT.true))))

pub returns : goal.returns
returns c = λ whole parts met left h.
    let t = term_at c.args.table.now c.args.next in
    let e = c.in_ok-letters.ensures in
    taken_word whole t parts c.args.run.now.items c.extend_from_slice.new.self.items c.deref.result.now met left h
    c.requires.text
    (limit_kept (size_of t) c.args.count c.requires.counted (omega (arith, c.if-count-gt-WORD_LIMIT.false)))
    (c.deref.ensures.value ∙ e.is) (rw c.deref.ensures.value e.written) c.in_ok-extend_from_slice.ensures.items
