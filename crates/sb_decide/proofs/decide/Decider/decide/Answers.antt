use Rattle.sb_decide.proofs.Words.{◌∙◌, IfOk-from_err, grows_both, state_of}
use Rattle.sb_decide.proofs.TakingOver.{dead_given}
use Rattle.sb_decide.proofs.decide.Decider.decide.Goals as goal

pub returns-in_err-is_inside : goal.returns-in_err-is_inside
returns-in_err-is_inside c =
    let x = c.from_residual in
    record {
      knows = IfOk-from_err x.result _ x.ensures.0;
      decided = IfOk-from_err x.result _ x.ensures.0;
      store = IfOk-from_err x.result _ x.ensures.0;
    }

pub returns-then-not-branch : goal.returns-then-not-branch
returns-then-not-branch c =
    let e = c.in_ok-is_inside.ensures in
    record {
      knows = e.knows;
      decided = λ given.
          c.fragment_is_of_each.ensures (state_of c.args.stack.now) ∙ (e.decided ∙ c.if-not-branch.true);
      store = e.store;
    }

pub take_in-requires : goal.take_in-requires
take_in-requires c =
    let e = c.in_ok-is_inside.ensures in
    record { knows = e.knows; decided = e.decided ∙ c.if-not-branch.false }

pub returns-in_err-take_in : goal.returns-in_err-take_in
returns-in_err-take_in c =
    let x = c.from_residual-in_err-take_in in
    record {
      knows = IfOk-from_err x.result _ x.ensures.0;
      decided = IfOk-from_err x.result _ x.ensures.0;
      store = IfOk-from_err x.result _ x.ensures.0;
    }

pub find_words-requires : goal.find_words-requires
find_words-requires c =
    let e = c.in_ok-take_in.ensures in
    record { knows = e.knows; all = e.all; named = e.named }

pub returns-in_err-find_words : goal.returns-in_err-find_words
returns-in_err-find_words c =
    let x = c.from_residual-in_err-find_words in
    record {
      knows = IfOk-from_err x.result _ x.ensures.0;
      decided = IfOk-from_err x.result _ x.ensures.0;
      store = IfOk-from_err x.result _ x.ensures.0;
    }

pub returns-then-not-branch-2 : goal.returns-then-not-branch-2
returns-then-not-branch-2 c =
    let before = c.in_ok-take_in.ensures in
    let e = c.in_ok-find_words.ensures in
    record {
      knows = e.knows;
      decided = (
        e.dead c.if-not-branch-2.true,
        dead_given c.fragment_is_of_each.ensures c.normal_has_terms_words.ensures c.find_words.new.self
            c.args.stack.now e.knows e.all (e.dead c.if-not-branch-2.true) before.named before.fit,
      );
      store = grows_both _ _ _ _ c.in_ok-is_inside.ensures.store (grows_both _ _ _ _ before.store e.store);
    }

pub returns : goal.returns
returns c =
    let before = c.in_ok-take_in.ensures in
    let e = c.in_ok-find_words.ensures in
    record {
      knows = e.knows;
      decided = e.ready c.if-not-branch-2.false;
      store = grows_both _ _ _ _ c.in_ok-is_inside.ensures.store (grows_both _ _ _ _ before.store e.store);
    }
