use Rattle.std.proofs.Common.{Bool, if◌then◌else◌, Result, Err, codes, ap, ap₂, sym, subst, ◌∙◌}
use Rattle.sb_reader.specs.Forms.{shape_of, shapes_in, more}
use Rattle.sb_script.specs.Names.{is_name}
use Rattle.sb_script.specs.Faults.{Fault, unsupported, malformed}
use Rattle.sb_script.specs.Heads.{Head}
use Rattle.sb_script.specs.Reading.{read_list_head, read_index_list}
use Rattle.sb_sorts.specs.Locals.{names_at}
use Rattle.sb_sorts.specs.Heads.{head_in, Gives}
use Rattle.sb_sorts.proofs.head.read_list_head.Goals as goal

-- what a list is as a head, by its name
abbrev by_word : Result Head Fault → Bool → Bool → Result Head Fault
by_word index underscore ascribed = if underscore then index else if ascribed then Err unsupported else Err malformed

pub returns-in_default-clause-reads : goal.returns-in_default-clause-reads
returns-in_default-clause-reads c = λ ts.
    ap (read_list_head (names_at ts c.args.locals.now c.args.scope.now)) c.in_default.ensures

pub returns-then-eq-clause-reads : goal.returns-then-eq-clause-reads
returns-then-eq-clause-reads c = λ ts.
    let names = names_at ts c.args.locals.now c.args.scope.now in
    let rest = shapes_in c.in-Some.rest in
    let name = c.in-Symbol.name.now in
    let is = ap (read_list_head names) (c.in-Some.ensures ∙ ap (λ first. more (shape_of first) rest) c.in-Symbol.is) in
    let underscore = sym (c.if-eq.ensures ∙ ap (is_name name) c.as_slice.ensures) in
    subst (λ reading. Gives (head_in ts) reading c.read_index_list.result)
    (sym (is ∙ ap (λ b. by_word (read_index_list names rest) b (is_name name (codes "as"))) underscore))
    (c.read_index_list.ensures.reads ts)

pub returns-then-eq-2-clause-reads : goal.returns-then-eq-2-clause-reads
returns-then-eq-2-clause-reads c = λ ts.
    let names = names_at ts c.args.locals.now c.args.scope.now in
    let rest = shapes_in c.in-Some.rest in
    let name = c.in-Symbol.name.now in
    ap (read_list_head names) (c.in-Some.ensures ∙ ap (λ first. more (shape_of first) rest) c.in-Symbol.is)
    ∙ ap₂ (by_word (read_index_list names rest)) (sym (c.if-eq.ensures ∙ ap (is_name name) c.as_slice.ensures))
    (sym (c.if-eq-2.ensures ∙ ap (is_name name) c.as_slice-else-eq.ensures))

pub returns-else-eq-2-clause-reads : goal.returns-else-eq-2-clause-reads
returns-else-eq-2-clause-reads c = λ ts.
    let names = names_at ts c.args.locals.now c.args.scope.now in
    let rest = shapes_in c.in-Some.rest in
    let name = c.in-Symbol.name.now in
    ap (read_list_head names) (c.in-Some.ensures ∙ ap (λ first. more (shape_of first) rest) c.in-Symbol.is)
    ∙ ap₂ (by_word (read_index_list names rest)) (sym (c.if-eq.ensures ∙ ap (is_name name) c.as_slice.ensures))
    (sym (c.if-eq-2.ensures ∙ ap (is_name name) c.as_slice-else-eq.ensures))
