use Rattle.std.proofs.Common.{sym, ◌∙◌}
use Rattle.std.proofs.lemmas.Result.{IfOk-from_err}
use Rattle.sb_models.proofs.Knowledge.{all_decided, knows_more}
use Rattle.sb_models.proofs.models.Models.is_inside.Goals as goal

pub stand-requires : goal.stand-requires
stand-requires c = record {
  known = rw (c.table.ensures, c.assertions.ensures.value) c.requires.knows.inside;
  numbers = rw (c.table.ensures, c.assertions.ensures.value) c.assertions.ensures.numbers;
  right = rw c.table.ensures c.requires.measures;
}

pub returns-in_err-standing : goal.returns-in_err-standing
returns-in_err-standing c =
    let e = c.in_err-standing.ensures in
    record {
      ok = IfOk-from_err c.from_residual.result _ c.from_residual.ensures.0;
      knows = knows_more c.args.self.now c.stand.new.self c.args.stack.now c.table.result.now c.assertions.result.now
          c.table.ensures c.assertions.ensures.value e.known e.more c.requires.knows;
      measures = rw c.table.ensures at e.right;
    }

pub returns-in-Inside : goal.returns-in-Inside
returns-in-Inside c =
    let e = c.in_ok-standing.ensures in
    record {
      ok = sym (rw c.in-Inside.is at e.ok)
          ∙ all_decided c.fragment_is_of_each.ensures c.args.stack.now c.table.result.now c.assertions.result.now
          c.table.ensures c.assertions.ensures.value;
      knows = knows_more c.args.self.now c.stand.new.self c.args.stack.now c.table.result.now c.assertions.result.now
          c.table.ensures c.assertions.ensures.value e.known e.more c.requires.knows;
      measures = rw c.table.ensures at e.right;
    }

pub returns-in-Outside : goal.returns-in-Outside
returns-in-Outside c =
    let e = c.in_ok-standing.ensures in
    record {
      ok = sym (rw c.in-Outside.is at e.ok).0
          ∙ all_decided c.fragment_is_of_each.ensures c.args.stack.now c.table.result.now c.assertions.result.now
          c.table.ensures c.assertions.ensures.value;
      knows = knows_more c.args.self.now c.stand.new.self c.args.stack.now c.table.result.now c.assertions.result.now
          c.table.ensures c.assertions.ensures.value e.known e.more c.requires.knows;
      measures = rw c.table.ensures at e.right;
    }
