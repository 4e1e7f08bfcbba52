use Rattle.std.proofs.Common.{refl, Ok, [], ◌∷◌, ◌++◌, length, ap, sym, subst, ◌∙◌, arith}
use Rattle.std.proofs.lemmas.List.{map-append}
use Rattle.std.proofs.lemmas.Result.{err_from_is_err_and}
use Rattle.sb_reader.specs.Forms.{Group, none, more, shape_of, shapes_in}
use Rattle.sb_script.specs.Reading.{read, read_list}
use Rattle.sb_script.specs.Heads.{applied_to}
use Rattle.sb_term.specs.Numbered.{terms_at}
use Rattle.sb_sorts.specs.declared.read.ReadFault.TheVariants.{NoMemory}
use Rattle.sb_sorts.specs.declared.read.Bound.{Bound}
use Rattle.sb_sorts.specs.Heads.{head_in, beginning_in, beginning_below, beginning_number_below, beginning_of}
use Rattle.sb_sorts.specs.Reads.{ReadsAs, Faults}
use Rattle.sb_sorts.specs.Locals.{names_at, AreAt}
use Rattle.sb_sorts.specs.Binding.{pairs_of}
use Rattle.sb_sorts.proofs.Staying.{names_at_stay, at_stays}
use Rattle.sb_sorts.proofs.Reading.{grows_same, grows_more, list_split, list_let, has_read_none, reads_one, reads_fault, reads_all, exits, fault_exits, unsaid, told, front_fault, whole_list, argument_fault, applied_list}
use Rattle.sb_sorts.proofs.Binds.{has_bound_none, bounds_one, bounds_fault, bounds_none, bounds_all, let_at, let_fault, let_body, values_fault, left_again, left_enough}
use Rattle.sb_sorts.proofs.Sizes.{size_of_list, size_of_more, size_of_let, size_of_value, some_size}
use Rattle.sb_sorts.proofs.read.+read.Goals as goal

pub read_form-read_list-requires : goal.read_form-read_list-requires
read_form-read_list-requires t c = (
  omega (
    arith,
    c.decreases,
    size_of_list (shape_of c.args.form) (shapes_in c.in-List.forms)
        (ap shape_of c.in-List.is),
  ),
  c.requires.at,
)

pub read_form-returns-in-Symbol : goal.read_form-returns-in-Symbol
read_form-returns-in-Symbol t c =
    let names = names_at c.args.table.now c.args.locals.now c.args.scope.now in
    let x = c.read_bare_name in
    record {
      reads = subst (λ f. ReadsAs x.new.table (read names (shape_of f)) x.result) (sym c.in-Symbol.is) x.ensures.reads;
      grows = x.ensures.grows;
      locals = told _ x.result refl;
    }

pub read_form-returns-in-QuotedSymbol : goal.read_form-returns-in-QuotedSymbol
read_form-returns-in-QuotedSymbol t c =
    let names = names_at c.args.table.now c.args.locals.now c.args.scope.now in
    let x = c.read_name in
    record {
      reads = subst (λ f. ReadsAs x.new.table (read names (shape_of f)) x.result) (sym c.in-QuotedSymbol.is)
          x.ensures.reads;
      grows = x.ensures.grows;
      locals = told _ x.result refl;
    }

pub read_form-returns-in-Keyword : goal.read_form-returns-in-Keyword
read_form-returns-in-Keyword t c =
    let names = names_at c.args.table.now c.args.locals.now c.args.scope.now in
    record {
      reads = ap (λ f. read names (shape_of f)) c.in-Keyword.is;
      grows = grows_same (length c.args.scope.now.sorts) c.args.table.now;
      locals = tt;
    }

pub read_form-returns-in-Text : goal.read_form-returns-in-Text
read_form-returns-in-Text t c =
    let names = names_at c.args.table.now c.args.locals.now c.args.scope.now in
    let x = c.read_text in
    record {
      reads = subst (λ f. ReadsAs x.new.table (read names (shape_of f)) x.result) (sym c.in-Text.is) x.ensures.reads;
      grows = x.ensures.grows (length c.args.scope.now.sorts);
      locals = told _ x.result refl;
    }

pub read_form-returns-in-List : goal.read_form-returns-in-List
read_form-returns-in-List t c =
    let names = names_at c.args.table.now c.args.locals.now c.args.scope.now in
    let x = c.read_list in
    record {
      reads = subst (λ f. ReadsAs x.new.table (read names (shape_of f)) x.result) (sym c.in-List.is) x.ensures.reads;
      grows = x.ensures.grows;
      locals = x.ensures.locals;
    }

-- A list.

pub read_list-read_let-requires : goal.read_list-read_let-requires
read_list-read_let-requires t c = (
  omega (
    arith,
    c.decreases,
    size_of_let (shapes_in c.args.forms) (shapes_in c.in-Some.bindings)
        (shape_of c.in-Some.body) c.in-Some.ensures.0,
  ),
  c.requires.at,
)

pub read_list-returns-in-Some : goal.read_list-returns-in-Some
read_list-returns-in-Some t c =
    let names = names_at c.args.table.now c.args.locals.now c.args.scope.now in
    let others = more (Group (shapes_in c.in-Some.bindings)) (more (shape_of c.in-Some.body) none) in
    record {
      reads = subst (λ r. ReadsAs c.read_let.new.table r c.read_let.result)
          (sym (list_let names (shapes_in c.args.forms) others c.in-Some.ensures.0 c.in-Some.ensures.1))
          c.read_let.ensures.reads;
      grows = c.read_let.ensures.grows;
      locals = c.read_let.ensures.locals;
    }

pub read_list-returns-in_default-split_first : goal.read_list-returns-in_default-split_first
read_list-returns-in_default-split_first t c =
    record {
      reads = ap (read_list (names_at c.args.table.now c.args.locals.now c.args.scope.now))
          c.in_default-split_first.ensures;
      grows = grows_same (length c.args.scope.now.sorts) c.args.table.now;
      locals = tt;
    }

pub read_list-read_all-requires : goal.read_list-read_all-requires
read_list-read_all-requires t c = (
  omega (arith, c.decreases, size_of_more _ _ _ c.in-Some-split_first.ensures),
  c.requires.at,
)

pub read_list-returns-in_err-front : goal.read_list-returns-in_err-front
read_list-returns-in_err-front t c =
    let ts = c.args.table.now in
    let names = names_at ts c.args.locals.now c.args.scope.now in
    let forms = shapes_in c.args.forms in
    let others = shapes_in c.in-Some-split_first.others in
    let first = shape_of c.in-Some-split_first.first in
    let split = list_split names forms others first c.in-Some-split_first.ensures c.in_default.ensures in
    let p = err_from_is_err_and c.from_residual.result c.from_residual.ensures.1 in
    let e = c.in_err-front.field-0.0 in
    record {
      reads = exits ts (read_list names forms) c.from_residual.result e p.0 p.1 p.2
          (front_fault names others (beginning_of names first others) (read_list names forms) split e
          (c.in_err-front.ensures.reads ts));
      grows = grows_same (length c.args.scope.now.sorts) ts;
      locals = unsaid _ c.from_residual.result p.0 p.1;
    }

pub read_list-returns-in-Whole : goal.read_list-returns-in-Whole
read_list-returns-in-Whole t c =
    let ts = c.args.table.now in
    let n = length c.args.scope.now.sorts in
    let names = names_at ts c.args.locals.now c.args.scope.now in
    let forms = shapes_in c.args.forms in
    let others = shapes_in c.in-Some-split_first.others in
    let first = shape_of c.in-Some-split_first.first in
    let split = list_split names forms others first c.in-Some-split_first.ensures c.in_default.ensures in
    let new = c.applied_to.new.table in
    record {
      reads = whole_list names others (beginning_of names first others) (read_list names forms) split
          (head_in ts c.in-Whole.head) new c.applied_to.result
          (c.in_ok-front.ensures.reads ts ∙ ap (λ f. Ok (beginning_in ts f)) c.in-Whole.is)
          (subst (λ ids. ReadsAs new (applied_to (head_in ts c.in-Whole.head) (terms_at ts ids)) c.applied_to.result)
          c.new.ensures.items c.applied_to.ensures.reads);
      grows = c.applied_to.ensures.grows n
          (ap (beginning_below n) (sym c.in-Whole.is) ∙ c.in_ok-front.ensures.declared);
      locals = told _ c.applied_to.result refl;
    }

pub read_list-returns-in_err-ids-in-Takes : goal.read_list-returns-in_err-ids-in-Takes
read_list-returns-in_err-ids-in-Takes t c =
    let ts = c.args.table.now in
    let names = names_at ts c.args.locals.now c.args.scope.now in
    let forms = shapes_in c.args.forms in
    let others = shapes_in c.in-Some-split_first.others in
    let first = shape_of c.in-Some-split_first.first in
    let split = list_split names forms others first c.in-Some-split_first.ensures c.in_default.ensures in
    let x = c.from_residual-in_err-ids-in-Takes in
    let p = err_from_is_err_and x.result x.ensures.1 in
    let e = c.in_err-ids-in-Takes.field-0.0 in
    record {
      reads = exits c.read_all.new.table (read_list names forms) x.result e p.0 p.1 p.2
          (argument_fault names others (beginning_of names first others) (read_list names forms) split
          (head_in ts c.in-Takes.head) e
          (c.in_ok-front.ensures.reads ts ∙ ap (λ f. Ok (beginning_in ts f)) c.in-Takes.is)
          c.in_err-ids-in-Takes.ensures.reads);
      grows = c.in_err-ids-in-Takes.ensures.grows;
      locals = unsaid _ x.result p.0 p.1;
    }

pub read_list-applied_to-requires-in-Takes : goal.read_list-applied_to-requires-in-Takes
read_list-applied_to-requires-in-Takes t c =
    let us = c.read_all.new.table in
    let at = at_stays c.args.table.now us c.args.locals.now c.args.scope.now
    c.in_ok-ids-in-Takes.ensures.grows.extends c.requires.at in
    record {
      head = ap (beginning_number_below (length us)) (sym c.in-Takes.is) ∙ c.in_ok-front.ensures.numbers us at;
      numbers = c.in_ok-ids-in-Takes.ensures.reads.numbers;
    }

pub read_list-returns-in_ok-ids-in-Takes : goal.read_list-returns-in_ok-ids-in-Takes
read_list-returns-in_ok-ids-in-Takes t c =
    let ts = c.args.table.now in
    let us = c.read_all.new.table in
    let new = c.applied_to-in-Takes.new.table in
    let n = length c.args.scope.now.sorts in
    let names = names_at ts c.args.locals.now c.args.scope.now in
    let forms = shapes_in c.args.forms in
    let others = shapes_in c.in-Some-split_first.others in
    let first = shape_of c.in-Some-split_first.first in
    let split = list_split names forms others first c.in-Some-split_first.ensures c.in_default.ensures in
    let stay = names_at_stay ts us c.args.locals.now c.args.scope.now c.in_ok-ids-in-Takes.ensures.grows.extends
    c.requires.at in
    record {
      reads = applied_list names others (beginning_of names first others) (read_list names forms) split
          (head_in us c.in-Takes.head) (terms_at us c.in_ok-ids-in-Takes.ids.items) new c.applied_to-in-Takes.result
          (ap (λ ns. beginning_of ns first others) (sym stay) ∙ c.in_ok-front.ensures.reads us
          ∙ ap (λ f. Ok (beginning_in us f)) c.in-Takes.is)
          c.in_ok-ids-in-Takes.ensures.reads.terms c.applied_to-in-Takes.ensures.reads;
      grows = grows_more n ts us new c.in_ok-ids-in-Takes.ensures.grows
          (c.applied_to-in-Takes.ensures.grows n
          (ap (beginning_below n) (sym c.in-Takes.is) ∙ c.in_ok-front.ensures.declared));
      locals = told _ c.applied_to-in-Takes.result c.in_ok-ids-in-Takes.ensures.locals;
    }

-- The terms of forms.

pub read_all-loop-form-init : goal.read_all-loop-form-init
read_all-loop-form-init t c =
    has_read_none (length c.args.scope.now.sorts) c.args.scope.now c.args.table.now c.args.locals.now
    (shapes_in c.args.forms) c.new-ids.result.items c.new-ids.ensures.items c.requires.at

pub read_all-read_form-requires : goal.read_all-read_form-requires
read_all-read_form-requires t c = (
  omega (arith, c.decreases, c.loop-form.invariant.no_larger, size_of_more _ _ _ c.in-Some.ensures),
  c.loop-form.invariant.stays.at,
)

pub read_all-loop-form-smaller : goal.read_all-loop-form-smaller
read_all-loop-form-smaller t c =
    omega (arith, size_of_more _ _ _ c.in-Some.ensures, some_size (shape_of c.in-Some.form))

pub read_all-loop-form-preserved : goal.read_all-loop-form-preserved
read_all-loop-form-preserved t c =
    reads_one (length c.args.scope.now.sorts) c.args.scope.now c.args.table.now c.args.locals.now
    (shapes_in c.args.forms) c.loop-form.table c.loop-form.locals c.loop-form.ids.items (shapes_in c.loop-form.left)
    (shapes_in c.in-Some.behind) (shape_of c.in-Some.form) c.loop-form.invariant c.in-Some.ensures
    c.read_form.new.table c.read_form.new.locals c.in_ok-read_form.field-0 c.push.new.self.items
    c.in_ok-read_form.ensures.reads c.in_ok-read_form.ensures.grows c.in_ok-read_form.ensures.locals
    c.in_ok-push.ensures.ok

pub read_all-returns-in_err-read_form : goal.read_all-returns-in_err-read_form
read_all-returns-in_err-read_form t c =
    let n = length c.args.scope.now.sorts in
    let p = err_from_is_err_and c.from_residual.result c.from_residual.ensures.1 in
    let e = c.in_err-read_form.field-0.0 in
    record {
      reads = fault_exits _ _ c.from_residual.result e p.0 p.1 p.2
          (reads_fault n c.args.scope.now c.args.table.now c.args.locals.now (shapes_in c.args.forms)
          c.loop-form.table c.loop-form.locals c.loop-form.ids.items (shapes_in c.loop-form.left)
          (shapes_in c.in-Some.behind) (shape_of c.in-Some.form) c.loop-form.invariant c.in-Some.ensures e
          c.in_err-read_form.ensures.reads);
      grows = grows_more n c.args.table.now c.loop-form.table c.read_form.new.table c.loop-form.invariant.stays.grows
          c.in_err-read_form.ensures.grows;
      locals = unsaid _ c.from_residual.result p.0 p.1;
    }

pub read_all-returns-in_err-push : goal.read_all-returns-in_err-push
read_all-returns-in_err-push t c =
    let n = length c.args.scope.now.sorts in
    let x = c.from_residual-in_err-push in
    let p = err_from_is_err_and x.result x.ensures.1 in
    record {
      reads = fault_exits _ _ x.result NoMemory p.0 p.1 p.2 tt;
      grows = grows_more n c.args.table.now c.loop-form.table c.read_form.new.table c.loop-form.invariant.stays.grows
          c.in_ok-read_form.ensures.grows;
      locals = unsaid _ x.result p.0 p.1;
    }

pub read_all-returns : goal.read_all-returns
read_all-returns t c =
    record {
      reads = reads_all (length c.args.scope.now.sorts) c.args.scope.now c.args.table.now c.args.locals.now
          (shapes_in c.args.forms) (shapes_in c.loop-form.left) c.loop-form.table c.loop-form.locals
          c.loop-form.ids.items c.loop-form.invariant c.in_default.ensures;
      grows = c.loop-form.invariant.stays.grows;
      locals = c.loop-form.invariant.stays.same;
    }

-- Bindings.

pub read_bindings-loop-binding-init : goal.read_bindings-loop-binding-init
read_bindings-loop-binding-init t c =
    has_bound_none (length c.args.scope.now.sorts) c.args.scope.now c.args.table.now c.args.locals.now
    (shapes_in c.args.bindings) c.new-bound.result.items c.new-bound.ensures.items c.requires.at

pub read_bindings-read_form-requires : goal.read_bindings-read_form-requires
read_bindings-read_form-requires t c = (
  omega (
    arith,
    c.decreases,
    c.loop-binding.invariant.no_larger,
    size_of_more _ _ _ c.in-Some.ensures,
    size_of_value (shape_of c.in-Some.binding) c.in-Some-binding_in.name.now (shape_of c.in-Some-binding_in.value)
        c.in-Some-binding_in.ensures,
  ),
  c.loop-binding.invariant.stays.at,
)

pub read_bindings-loop-binding-smaller : goal.read_bindings-loop-binding-smaller
read_bindings-loop-binding-smaller t c =
    omega (arith, size_of_more _ _ _ c.in-Some.ensures, some_size (shape_of c.in-Some.binding))

pub read_bindings-loop-binding-preserved : goal.read_bindings-loop-binding-preserved
read_bindings-loop-binding-preserved t c =
    let one : Bound = record { name = c.in-Some-binding_in.name; id = c.in_ok-id.id } in
    bounds_one (length c.args.scope.now.sorts) c.args.scope.now c.args.table.now c.args.locals.now
    (shapes_in c.args.bindings) c.loop-binding.table c.loop-binding.locals (pairs_of c.loop-binding.bound.items)
    (shapes_in c.loop-binding.left) (shapes_in c.in-Some.behind) (shape_of c.in-Some.binding) c.loop-binding.invariant
    c.in-Some.ensures c.read_form.new.table c.read_form.new.locals c.in_ok-id.id c.in-Some-binding_in.name.now
    (shape_of c.in-Some-binding_in.value) (pairs_of c.push.new.self.items) c.in-Some-binding_in.ensures
    c.in_ok-id.ensures.reads c.in_ok-id.ensures.grows c.in_ok-id.ensures.locals
    (ap pairs_of c.in-Ok.ensures.items
    ∙ map-append (λ (b : Bound). (b.name.now, b.id)) c.loop-binding.bound.items (one ∷ []))

pub read_bindings-returns-in_default-binding_in : goal.read_bindings-returns-in_default-binding_in
read_bindings-returns-in_default-binding_in t c =
    record {
      reads = bounds_none (length c.args.scope.now.sorts) c.args.scope.now c.args.table.now c.args.locals.now
          (shapes_in c.args.bindings) c.loop-binding.table c.loop-binding.locals (pairs_of c.loop-binding.bound.items)
          (shapes_in c.loop-binding.left) (shapes_in c.in-Some.behind) (shape_of c.in-Some.binding)
          c.loop-binding.invariant c.in-Some.ensures c.in_default-binding_in.ensures;
      grows = c.loop-binding.invariant.stays.grows;
      locals = tt;
    }

pub read_bindings-returns-in_default-push : goal.read_bindings-returns-in_default-push
read_bindings-returns-in_default-push t c =
    record {
      reads = tt;
      grows = grows_more (length c.args.scope.now.sorts) c.args.table.now c.loop-binding.table c.read_form.new.table
          c.loop-binding.invariant.stays.grows c.in_ok-id.ensures.grows;
      locals = tt;
    }

pub read_bindings-returns-in_err-id : goal.read_bindings-returns-in_err-id
read_bindings-returns-in_err-id t c =
    let n = length c.args.scope.now.sorts in
    let p = err_from_is_err_and c.from_residual.result c.from_residual.ensures.1 in
    let e = c.in_err-id.field-0.0 in
    record {
      reads = fault_exits _ _ c.from_residual.result e p.0 p.1 p.2
          (bounds_fault n c.args.scope.now c.args.table.now c.args.locals.now (shapes_in c.args.bindings)
          c.loop-binding.table c.loop-binding.locals (pairs_of c.loop-binding.bound.items)
          (shapes_in c.loop-binding.left) (shapes_in c.in-Some.behind) (shape_of c.in-Some.binding)
          c.loop-binding.invariant c.in-Some.ensures c.in-Some-binding_in.name.now
          (shape_of c.in-Some-binding_in.value) e c.in-Some-binding_in.ensures c.in_err-id.ensures.reads);
      grows = grows_more n c.args.table.now c.loop-binding.table c.read_form.new.table
          c.loop-binding.invariant.stays.grows c.in_err-id.ensures.grows;
      locals = unsaid _ c.from_residual.result p.0 p.1;
    }

pub read_bindings-returns : goal.read_bindings-returns
read_bindings-returns t c =
    record {
      reads = bounds_all (length c.args.scope.now.sorts) c.args.scope.now c.args.table.now c.args.locals.now
          (shapes_in c.args.bindings) (shapes_in c.loop-binding.left) c.loop-binding.table c.loop-binding.locals
          (pairs_of c.loop-binding.bound.items) c.loop-binding.invariant c.in_default.ensures;
      grows = c.loop-binding.invariant.stays.grows;
      locals = c.loop-binding.invariant.stays.same;
    }

-- A let.

pub read_let-returns-in_err-bound : goal.read_let-returns-in_err-bound
read_let-returns-in_err-bound t c =
    let names = names_at c.args.table.now c.args.locals.now c.args.scope.now in
    let p = err_from_is_err_and c.from_residual.result c.from_residual.ensures.1 in
    let e = c.in_err-bound.field-0.0 in
    record {
      reads = exits c.read_bindings.new.table _ c.from_residual.result e p.0 p.1 p.2
          (values_fault names (shapes_in c.args.bindings) (shape_of c.args.body) e c.in_err-bound.ensures.reads);
      grows = c.in_err-bound.ensures.grows;
      locals = unsaid _ c.from_residual.result p.0 p.1;
    }

pub read_let-returns-in_err-bind_once : goal.read_let-returns-in_err-bind_once
read_let-returns-in_err-bind_once t c =
    let n = length c.args.scope.now.sorts in
    let x = c.from_residual-in_err-bind_once in
    let p = err_from_is_err_and x.result x.ensures.1 in
    let e = c.in_err-bind_once.field-0.0 in
    record {
      reads = exits c.read_bindings.new.table _ x.result e p.0 p.1 p.2
          (let_fault n c.args.scope.now c.args.table.now c.read_bindings.new.table c.args.locals.now
          (pairs_of c.in_ok-bound.bound.items) (shapes_in c.args.bindings) (shape_of c.args.body) c.requires.at
          c.in_ok-bound.ensures.grows c.in_ok-bound.ensures.reads e c.in_err-bind_once.ensures);
      grows = c.in_ok-bound.ensures.grows;
      locals = unsaid _ x.result p.0 p.1;
    }

pub read_let-read_form-requires : goal.read_let-read_form-requires
read_let-read_form-requires t c =
    let n = length c.args.scope.now.sorts in
    let us = c.read_bindings.new.table in
    let b = pairs_of c.in_ok-bound.bound.items in
    let all = c.in_ok-bind_once.ensures.1 ∙ ap (λ ls. b ++ ls) c.in_ok-bound.ensures.locals in (
      omega (arith, c.decreases),
      subst (λ ls. AreAt us ls c.args.scope.now) (sym all)
          (let_at n c.args.scope.now c.args.table.now us c.args.locals.now b (shapes_in c.args.bindings)
          (shape_of c.args.body) c.requires.at c.in_ok-bound.ensures.grows c.in_ok-bound.ensures.reads),
    )

pub read_let-returns-in_err-term : goal.read_let-returns-in_err-term
read_let-returns-in_err-term t c =
    let n = length c.args.scope.now.sorts in
    let scope = c.args.scope.now in
    let us = c.read_bindings.new.table in
    let b = pairs_of c.in_ok-bound.bound.items in
    let body = shape_of c.args.body in
    let all = c.in_ok-bind_once.ensures.1 ∙ ap (λ ls. b ++ ls) c.in_ok-bound.ensures.locals in
    let x = c.from_residual-in_err-term in
    let p = err_from_is_err_and x.result x.ensures.1 in
    let e = c.in_err-term.field-0.0 in
    record {
      reads = exits c.read_form.new.table _ x.result e p.0 p.1 p.2
          (subst (λ r. Faults r e) (sym (let_body n scope c.args.table.now us c.args.locals.now b
          (shapes_in c.args.bindings) body c.requires.at c.in_ok-bound.ensures.grows c.in_ok-bound.ensures.reads
          c.in_ok-bind_once.ensures.0))
          (subst (λ ls. Faults (read (names_at us ls scope) body) e) all c.in_err-term.ensures.reads));
      grows = grows_more n c.args.table.now us c.read_form.new.table c.in_ok-bound.ensures.grows
          c.in_err-term.ensures.grows;
      locals = unsaid _ x.result p.0 p.1;
    }

pub read_let-leave-requires : goal.read_let-leave-requires
read_let-leave-requires t c =
    let b = pairs_of c.in_ok-bound.bound.items in
    let all = c.in_ok-bind_once.ensures.1 ∙ ap (λ ls. b ++ ls) c.in_ok-bound.ensures.locals in
    left_enough b c.args.locals.now c.read_form.new.locals c.len-outer.result (c.in_ok-term.ensures.locals ∙ all)
    c.len-outer.ensures

pub read_let-returns : goal.read_let-returns
read_let-returns t c =
    let n = length c.args.scope.now.sorts in
    let scope = c.args.scope.now in
    let us = c.read_bindings.new.table in
    let b = pairs_of c.in_ok-bound.bound.items in
    let body = shape_of c.args.body in
    let all = c.in_ok-bind_once.ensures.1 ∙ ap (λ ls. b ++ ls) c.in_ok-bound.ensures.locals in
    record {
      reads = (
        let_body n scope c.args.table.now us c.args.locals.now b (shapes_in c.args.bindings) body c.requires.at
            c.in_ok-bound.ensures.grows c.in_ok-bound.ensures.reads c.in_ok-bind_once.ensures.0
            ∙ ap (λ ls. read (names_at us ls scope) body) (sym all) ∙ c.in_ok-term.ensures.reads.0,
        c.in_ok-term.ensures.reads.1,
      );
      grows = grows_more n c.args.table.now us c.read_form.new.table c.in_ok-bound.ensures.grows
          c.in_ok-term.ensures.grows;
      locals = left_again b c.args.locals.now c.read_form.new.locals c.leave.new.self c.len-outer.result
          (c.in_ok-term.ensures.locals ∙ all) c.len-outer.ensures c.leave.ensures;
    }
