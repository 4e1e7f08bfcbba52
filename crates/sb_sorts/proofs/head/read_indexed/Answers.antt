use Rattle.std.proofs.Common.{Bool, if◌then◌else◌, Result, ap, sym, subst, ◌∙◌}
use Rattle.sb_reader.specs.Forms.{shapes_in}
use Rattle.sb_script.specs.Faults.{Fault}
use Rattle.sb_script.specs.Heads.{Head, indices_of, with_indices, without_indices, read_head}
use Rattle.sb_sorts.specs.Locals.{names_at}
use Rattle.sb_sorts.specs.Heads.{head_in, Gives}
use Rattle.sb_sorts.specs.Reads.{Faults}
use Rattle.sb_sorts.proofs.Staying.{char_free, fault_without}
use Rattle.sb_sorts.proofs.head.read_indexed.Goals as goal

-- what a name with indices is, by whether it takes some
abbrev by_test : Result Head Fault → Result Head Fault → Bool → Result Head Fault
by_test taken other test = if test then taken else other

pub returns-then-takes_indices : goal.returns-then-takes_indices
returns-then-takes_indices c = record {
  reads = λ ts.
      let name = c.args.name.now in
      let indices = shapes_in c.args.indices in
      subst (λ reading. Gives (head_in ts) reading c.read_with_indices.result)
      (sym (ap (by_test (with_indices name (indices_of indices)) (without_indices name indices
      (read_head (names_at ts c.args.locals.now c.args.scope.now) name))) (sym (c.if-takes_indices.ensures ts))))
      (c.read_with_indices.ensures.reads ts);
  declared = c.read_with_indices.ensures.declared;
}

pub returns-then-takes_character : goal.returns-then-takes_character
returns-then-takes_character c = record {
  reads = λ ts.
      let name = c.args.name.now in
      let indices = shapes_in c.args.indices in
      let names = names_at ts c.args.locals.now c.args.scope.now in
      subst (λ reading. Gives (head_in ts) reading c.read_char.result)
      (sym (ap (by_test (with_indices name (indices_of indices)) (without_indices name indices (read_head names name)))
      (sym (c.if-takes_indices.ensures ts))
      ∙ char_free names name indices (sym (c.if-takes_character.ensures ts)))) (c.read_char.ensures.reads ts);
  declared = c.read_char.ensures.declared;
}

pub returns-in-Ok-clause-reads : goal.returns-in-Ok-clause-reads
returns-in-Ok-clause-reads c = λ ts.
    let name = c.args.name.now in
    let indices = shapes_in c.args.indices in
    ap (by_test (with_indices name (indices_of indices)) (without_indices name indices
    (read_head (names_at ts c.args.locals.now c.args.scope.now) name))) (sym (c.if-takes_indices.ensures ts))
    ∙ ap (without_indices name indices) (c.in-Ok.ensures.reads ts)

pub returns-in-Err-clause-reads : goal.returns-in-Err-clause-reads
returns-in-Err-clause-reads c = λ ts.
    let name = c.args.name.now in
    let indices = shapes_in c.args.indices in
    let names = names_at ts c.args.locals.now c.args.scope.now in
    subst (λ reading. Faults reading c.in-Err.fault)
    (sym (ap (by_test (with_indices name (indices_of indices)) (without_indices name indices (read_head names name)))
    (sym (c.if-takes_indices.ensures ts))))
    (fault_without names name indices c.in-Err.fault (sym (c.if-takes_character.ensures ts))
    (c.in-Err.ensures.reads ts))
