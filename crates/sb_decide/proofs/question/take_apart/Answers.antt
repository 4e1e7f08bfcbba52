use Rattle.sb_decide.proofs.Words.{ap, sym, ◌∙◌, eqb-true, node_term}
use Rattle.sb_decide.proofs.Occurring.{apart_constant, apart_ground, apart_other, ground_silent}
use Rattle.sb_decide.proofs.question.take_apart.Goals as goal

pub measure-requires : goal.measure-requires
measure-requires c = record { number = c.requires.number; right = c.requires.measures }

pub returns-then-measure : goal.returns-then-measure
returns-then-measure c = record {
  apart = apart_ground c.args.table.now c.args.id c.args.left.now.keys c.args.serials.now.keys
      (λ n. ground_silent c.args.table.now n c.args.id c.in_ok-measure.measure.is_ground
      c.in_ok-measure.ensures.ok.constants c.if-measure.true);
  measures = c.measure.ensures.right;
}

pub returns-in_default : goal.returns-in_default
returns-in_default c = record {
  apart = apart_other c.args.table.now c.args.id c.term.result.now c.args.left.now.keys c.put_all.new.left.keys
      c.arguments_of.result.now c.args.serials.now.keys c.term.ensures.value c.in_default.not-Constant
      c.arguments_of.ensures.terms c.arguments_of.ensures.below
      c.in_ok-put_all.ensures;
  measures = c.measure.ensures.right;
}

pub returns : goal.returns
returns c = record {
  apart = apart_constant _ c.args.table.now c.args.id c.args.left.now.keys c.args.serials.now.keys
      c.insert.new.self.keys c.in-Constant.serial _ (λ x h. sym (eqb-true c.in-Constant.serial.0 x.0 h))
      (ap (node_term c.args.table.now) (sym c.in-Constant.is) ∙ c.term.ensures.value) c.in_ok-insert.ensures.keys;
  measures = c.measure.ensures.right;
}
