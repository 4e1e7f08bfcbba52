use Rattle.std.proofs.Common.{codes, ap, sym, subst, ◌∙◌}
use Rattle.sb_reader.specs.Forms.{shapes_in}
use Rattle.sb_script.specs.Names.{is_name}
use Rattle.sb_script.specs.Heads.{indices_of, with_indices}
use Rattle.sb_sorts.specs.Heads.{head_in, Gives}
use Rattle.sb_sorts.proofs.Bound.{same_name}
use Rattle.sb_sorts.proofs.head.read_with_indices.Goals as goal

pub returns-then-eq-clause-reads : goal.returns-then-eq-clause-reads
returns-then-eq-clause-reads c = λ ts.
    let name = c.args.name.now in
    subst (λ n. Gives (head_in ts) (with_indices n (indices_of (shapes_in c.args.indices))) c.read_power.result)
    (sym (same_name name (codes "re.^") (sym (c.if-eq.ensures ∙ ap (is_name name) c.as_slice.ensures))))
    (c.read_power.ensures.reads ts)

pub returns-then-eq-2-clause-reads : goal.returns-then-eq-2-clause-reads
returns-then-eq-2-clause-reads c = λ ts.
    let name = c.args.name.now in
    subst (λ n. Gives (head_in ts) (with_indices n (indices_of (shapes_in c.args.indices))) c.read_loop.result)
    (sym (same_name name (codes "re.loop") (sym (c.if-eq-2.ensures ∙ ap (is_name name) c.as_slice-else-eq.ensures))))
    (c.read_loop.ensures.reads ts)
