use Rattle.std.proofs.Common.{◌∷◌, [], ap, ◌∙◌, arith}
use Rattle.std.proofs.lemmas.Result.{IfOk-weaker, IfOk-from_err}
use Rattle.sb_deriv.specs.declared.operation.Operation.TheVariants as operation
use Rattle.sb_deriv.proofs.Gathering.{choice_numbers_of}
use Rattle.sb_deriv.proofs.Heads.{first_picked, parted_numbers, parted_values}
use Rattle.sb_regex.proofs.CallerLemmas.{extends_same}
use Rattle.sb_deriv.proofs.deriver.Deriver.heads_and_tails.Goals as goal

pub make_each-requires-clause-members : goal.make_each-requires-clause-members
make_each-requires-clause-members c =
    choice_numbers_of c.args.arena.now c.args.constants.now (operation.Cat c.args.b) c.args.self.now (c.args.a ∷ [])
    (c.new.result ∷ []) c.in_ok-heads.heads
    (first_picked c.args.arena.now c.args.constants.now c.args.self.now c.args.a c.args.b (c.new.result ∷ [])
    c.in_ok-heads.heads c.requires.constants c.requires.faithful c.requires.entries
    (ap (λ m. m ∷ []) (c.new.ensures ∙ c.pieces_of.ensures.value)) c.in_ok-heads.ensures.values)

pub returns-clause-numbers : goal.returns-clause-numbers
returns-clause-numbers c =
    IfOk-weaker c.refine_two.result _ _
    (λ cs v. parted_numbers c.args.arena.now c.make_each.new.arena c.args.constants.now c.args.self.now c.args.a
    c.args.b (c.new.result ∷ []) c.in_ok-heads.heads c.in_ok-heads-2.heads.items cs (record {
      constants = c.requires.constants;
      faithful = c.requires.faithful;
      entries = c.requires.entries;
      tail = c.requires.right;
      extends = c.in_ok-heads-2.ensures.extends;
      first_is = ap (λ m. m ∷ []) (c.new.ensures ∙ c.pieces_of.ensures.value);
      firsts = c.in_ok-heads.ensures.values;
      made_heads = c.in_ok-heads-2.ensures.map;
      both = v;
    })) (rw (c.deref.ensures.value, c.pieces_of-2.ensures.value) at c.refine_two.ensures.values)

pub returns-clause-values : goal.returns-clause-values
returns-clause-values c =
    IfOk-weaker c.refine_two.result _ _
    (λ cs v. parted_values c.args.arena.now c.make_each.new.arena c.args.constants.now c.args.self.now c.args.a
    c.args.b (c.new.result ∷ []) c.in_ok-heads.heads c.in_ok-heads-2.heads.items cs (record {
      constants = c.requires.constants;
      faithful = c.requires.faithful;
      entries = c.requires.entries;
      tail = c.requires.right;
      extends = c.in_ok-heads-2.ensures.extends;
      first_is = ap (λ m. m ∷ []) (c.new.ensures ∙ c.pieces_of.ensures.value);
      firsts = c.in_ok-heads.ensures.values;
      made_heads = c.in_ok-heads-2.ensures.map;
      both = v;
    })) (rw (c.deref.ensures.value, c.pieces_of-2.ensures.value) at c.refine_two.ensures.values)

pub pieces_of-requires-2 : goal.pieces_of-requires-2
pieces_of-requires-2 c = c.requires.entries 1 0 (omega arith)

pub returns-clause-extends : goal.returns-clause-extends
returns-clause-extends c = c.in_ok-heads-2.ensures.extends

pub returns-in_err-heads : goal.returns-in_err-heads
returns-in_err-heads c =
    let x = c.from_residual in
    record {
      whole = IfOk-from_err x.result _ x.ensures.0;
      numbers = IfOk-from_err x.result _ x.ensures.0;
      values = IfOk-from_err x.result _ x.ensures.0;
      extends = extends_same c.args.arena.now;
    }

pub returns-in_err-heads-2 : goal.returns-in_err-heads-2
returns-in_err-heads-2 c =
    let x = c.from_residual-in_err-heads-2 in
    record {
      whole = IfOk-from_err x.result _ x.ensures.0;
      numbers = IfOk-from_err x.result _ x.ensures.0;
      values = IfOk-from_err x.result _ x.ensures.0;
      extends = c.make_each.ensures.extends;
    }
