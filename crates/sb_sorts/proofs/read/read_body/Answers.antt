use Rattle.std.proofs.Common.{length, subst}
use Rattle.sb_reader.specs.Forms.{shape_of}
use Rattle.sb_script.specs.Reading.{read}
use Rattle.sb_sorts.specs.Reads.{ReadsAs}
use Rattle.sb_sorts.proofs.Binds.{body_names, body_at}
use Rattle.sb_sorts.proofs.read.read_body.Goals as goal

pub returns-in_err-push_parameters-clause-extends : goal.returns-in_err-push_parameters-clause-extends
returns-in_err-push_parameters-clause-extends c =
    (c.push_parameters.ensures.grows (length c.args.scope.now.sorts)).extends

pub read_form-requires : goal.read_form-requires
read_form-requires c =
    record {
      at = body_at c.args.table.now c.push_parameters.new.table c.args.scope.now c.args.parameters.now
          c.push_parameters.new.locals (c.push_parameters.ensures.grows (length c.args.scope.now.sorts)).extends
          c.requires.bodies c.in_ok-push_parameters.ensures.ok;
    }

pub returns-clause-reads : goal.returns-clause-reads
returns-clause-reads c =
    subst (λ ns. ReadsAs c.read_form.new.table (read ns (shape_of c.args.form)) c.read_form.result)
    (body_names c.args.table.now c.push_parameters.new.table c.args.scope.now c.args.parameters.now
    c.push_parameters.new.locals (c.push_parameters.ensures.grows (length c.args.scope.now.sorts)).extends
    c.requires.bodies c.in_ok-push_parameters.ensures.ok) c.read_form.ensures.reads
