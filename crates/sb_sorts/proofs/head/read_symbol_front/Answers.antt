use Rattle.std.proofs.Common.{Bool, if◌then◌else◌, length, Result, Ok, Err, ap, ap₂, sym, subst, ◌∙◌}
use Rattle.std.proofs.lemmas.Result.{err_from_is_err_and, IfOk-from_err}
use Rattle.sb_reader.specs.Forms.{shapes_in}
use Rattle.sb_script.specs.Names.{is_name, is_reserved}
use Rattle.sb_script.specs.Faults.{Fault}
use Rattle.sb_script.specs.Heads.{Head, read_head}
use Rattle.sb_script.specs.Reading.{◌>>=◌, read_index_list, read_reserved}
use Rattle.sb_sorts.specs.Locals.{names_at}
use Rattle.sb_sorts.specs.Heads.{Beginning, Gives, whole, beginning_in, symbol_beginning, with_arguments}
use Rattle.sb_sorts.specs.Reads.{Faults}
use Rattle.sb_sorts.proofs.Reading.{faults_first}
use Rattle.sb_sorts.proofs.Staying.{of_theories_below, of_theories_number, gives_fault}
use Rattle.sb_sorts.proofs.head.read_symbol_front.Goals as goal

-- what a list begins with, by the tests of its name
abbrev by_word : Result Head Fault → Fault → Result Head Fault → Bool → Bool → Result Beginning Fault
by_word index fault word underscore reserved =
    if underscore then index >>= (λ h. Ok (whole h)) else if reserved then Err fault else with_arguments word

pub returns-in_ok-read_index_list : goal.returns-in_ok-read_index_list
returns-in_ok-read_index_list c =
    let head = c.in_ok-read_index_list.ensures in
    record {
      reads = λ ts.
          let names = names_at ts c.args.locals.now c.args.scope.now in
          let others = shapes_in c.args.others in
          let name = c.args.name.now in
          ap (λ b. by_word (read_index_list names others) (read_reserved name others) (read_head names name) b
          (is_reserved name)) (sym (c.if-eq.ensures ∙ ap (is_name name) c.as_slice.ensures))
          ∙ ap (λ r. r >>= (λ h. Ok (whole h))) (head.reads ts);
      declared = of_theories_below (length c.args.scope.now.sorts) c.in_ok-read_index_list.field-0 head.declared;
      numbers = λ ts right. of_theories_number (length ts) c.in_ok-read_index_list.field-0 head.declared;
    }

pub returns-then-is_reserved-clause-reads : goal.returns-then-is_reserved-clause-reads
returns-then-is_reserved-clause-reads c = λ ts.
    let names = names_at ts c.args.locals.now c.args.scope.now in
    let others = shapes_in c.args.others in
    let name = c.args.name.now in
    subst (λ reading. Faults reading c.read_reserved.result)
    (sym (ap₂ (by_word (read_index_list names others) (read_reserved name others) (read_head names name))
    (sym (c.if-eq.ensures ∙ ap (is_name name) c.as_slice.ensures)) (sym c.if-is_reserved.ensures)))
    c.read_reserved.ensures

pub returns-else-is_reserved : goal.returns-else-is_reserved
returns-else-is_reserved c =
    let given = c.takes_arguments.ensures in
    let head = c.read_head.ensures in
    record {
      reads = λ ts.
          let names = names_at ts c.args.locals.now c.args.scope.now in
          let others = shapes_in c.args.others in
          let name = c.args.name.now in
          subst (λ reading. Gives (beginning_in ts) reading c.takes_arguments.result)
          (sym (ap₂ (by_word (read_index_list names others) (read_reserved name others) (read_head names name))
          (sym (c.if-eq.ensures ∙ ap (is_name name) c.as_slice.ensures)) (sym c.if-is_reserved.ensures)))
          (given.reads ts (read_head names name) (head.reads ts));
      declared = given.declared (length c.args.scope.now.sorts) head.declared;
      numbers = λ ts right. given.numbers (length ts) (head.numbers ts right);
    }

pub returns-in_err-read_index_list : goal.returns-in_err-read_index_list
returns-in_err-read_index_list c =
    let r = c.from_residual.result in
    let e = c.in_err-read_index_list.field-0.0 in
    let p = err_from_is_err_and r c.from_residual.ensures.1 in
    record {
      reads = λ ts.
          let names = names_at ts c.args.locals.now c.args.scope.now in
          let others = shapes_in c.args.others in
          let name = c.args.name.now in
          gives_fault (beginning_in ts) (symbol_beginning names name others)
          (read_index_list names others >>= (λ h. Ok (whole h))) r e p.0 p.1 p.2
          (ap (λ b. by_word (read_index_list names others) (read_reserved name others) (read_head names name) b
          (is_reserved name)) (sym (c.if-eq.ensures ∙ ap (is_name name) c.as_slice.ensures)))
          (faults_first (read_index_list names others) (λ h. Ok (whole h)) e
          (c.in_err-read_index_list.ensures.reads ts));
      declared = IfOk-from_err r _ c.from_residual.ensures.0;
      numbers = λ ts right. IfOk-from_err r _ c.from_residual.ensures.0;
    }
