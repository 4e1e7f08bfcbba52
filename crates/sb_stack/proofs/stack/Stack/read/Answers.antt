use Rattle.std.proofs.Common.{◌++◌, reverse, ap, sym, subst, ◌∙◌}
use Rattle.sb_reader.specs.Forms.{shape_of}
use Rattle.sb_script.specs.Reading.{read}
use Rattle.sb_script.specs.State.{names_of}
use Rattle.sb_sorts.specs.Bodies.{bound_in}
use Rattle.sb_sorts.specs.Reads.{ReadsAs}
use Rattle.sb_stack.specs.Stacked.{Stacked, state_of}
use Rattle.sb_stack.specs.Keeping.{Keeps}
use Rattle.sb_stack.proofs.Changes.{kept_read, state_kept, keeps_read, names_live}
use Rattle.sb_stack.proofs.ReadLive.{read_stands}
use Rattle.sb_stack.proofs.stack.Stack.read.Goals as goal

pub read_body-requires : goal.read_body-requires
read_body-requires c = record { bodies = c.self.invariant.kept.bodies }

pub invariant_of-self : goal.invariant_of-self
invariant_of-self c = record {
  kept = kept_read c.self.inside.begun c.self.inside.scope c.self.inside.table c.read_body.new.table
      c.self.inside.assertions.items (reverse c.self.inside.levels.items) c.self.invariant.kept
      c.read_body.ensures.extends c.read_body.ensures.declared;
  assumed = c.self.invariant.assumed;
}

pub returns-clause-reads : goal.returns-clause-reads
returns-clause-reads c =
    let kept : Stacked = record {
      logic_set = c.self.inside.logic_set;
      begun = c.self.inside.begun;
      print_success = c.self.inside.print_success;
      produce_models = c.self.inside.produce_models;
      produce_unsat_assumptions = c.self.inside.produce_unsat_assumptions;
      scope = c.self.inside.scope;
      mode = c.self.inside.mode;
      words = c.self.inside.words.items;
      truths = c.self.inside.truths.items;
      assumptions = c.self.inside.assumptions.items;
      unsat_assumptions = c.self.inside.unsat_assumptions.items;
      table = c.self.inside.table;
      assertions = c.self.inside.assertions.items;
      levels = reverse c.self.inside.levels.items;
    } in
    subst (λ ns. ReadsAs c.read_body.new.table (read (bound_in 0 c.args.parameters.now ++ ns) (shape_of c.args.form))
    c.read_body.result)
    (sym (names_live kept) ∙ ap (λ (k : Stacked). names_of (state_of k)) c.self.view_is) c.read_body.ensures.reads

pub returns-clause-stands : goal.returns-clause-stands
returns-clause-stands c =
    read_stands c.reading_keeps.ensures c.declared-declared.result c.self.inside.scope c.self.inside.table
    c.read_body.new.table c.args.parameters.now (shape_of c.args.form) c.read_body.result
    c.declared-declared.ensures.serials c.self.invariant.kept.defined c.read_body.ensures.reads

pub returns-clause-state : goal.returns-clause-state
returns-clause-state c =
    let kept : Stacked = record {
      logic_set = c.self.inside.logic_set;
      begun = c.self.inside.begun;
      print_success = c.self.inside.print_success;
      produce_models = c.self.inside.produce_models;
      produce_unsat_assumptions = c.self.inside.produce_unsat_assumptions;
      scope = c.self.inside.scope;
      mode = c.self.inside.mode;
      words = c.self.inside.words.items;
      truths = c.self.inside.truths.items;
      assumptions = c.self.inside.assumptions.items;
      unsat_assumptions = c.self.inside.unsat_assumptions.items;
      table = c.self.inside.table;
      assertions = c.self.inside.assertions.items;
      levels = reverse c.self.inside.levels.items;
    } in
    state_kept kept c.read_body.new.table c.self.invariant.kept c.read_body.ensures.extends
    ∙ ap state_of c.self.view_is

pub returns-clause-keeps : goal.returns-clause-keeps
returns-clause-keeps c =
    let kept : Stacked = record {
      logic_set = c.self.inside.logic_set;
      begun = c.self.inside.begun;
      print_success = c.self.inside.print_success;
      produce_models = c.self.inside.produce_models;
      produce_unsat_assumptions = c.self.inside.produce_unsat_assumptions;
      scope = c.self.inside.scope;
      mode = c.self.inside.mode;
      words = c.self.inside.words.items;
      truths = c.self.inside.truths.items;
      assumptions = c.self.inside.assumptions.items;
      unsat_assumptions = c.self.inside.unsat_assumptions.items;
      table = c.self.inside.table;
      assertions = c.self.inside.assertions.items;
      levels = reverse c.self.inside.levels.items;
    } in
    subst (λ (k : Stacked). Keeps k (record kept { table = c.read_body.new.table })) c.self.view_is
    (keeps_read kept c.read_body.new.table c.read_body.ensures.extends)
