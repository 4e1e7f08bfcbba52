use Rattle.sb_decide.proofs.Words.{◌<◌, length, refl, sym, ap, subst, ◌∙◌, arith, All, Decider, Global, IfOk-from_err, Serial, Vec, conjoined_at, is_listed, is_settled}
use Rattle.sb_decide.proofs.ModelWords.{closed_of, knows_through, put_over, settled_over, spoken_within}
use Rattle.sb_decide.proofs.decide.Decider.close.Goals as goal

pub put_found-requires : goal.put_found-requires
put_found-requires c =
    let o = c.in_ok-words.ensures.over in
    record {
      long = ap length c.deref_mut-2.ensures.value ∙ o.over.long ∙ sym o.over.same_length
          ∙ sym (ap length c.deref_mut.ensures.value);
      within = subst (All (λ serial. serial.0 < length c.deref_mut.result.now))
          (sym (c.as_slice.ensures.keys ∙ ap (λ (d : Decider). d.spoken.keys) o.same))
          (λ k d l.
          let one = spoken_within c.args.self.now c.args.stack.now c.requires
          c.assertions-assertions.ensures.declared c.assertions-assertions.ensures.numbers k d l in
          omega (arith, one, o.over.same_length, ap length c.deref_mut.ensures.value));
      settled = λ n h.
          ap (λ cs. is_settled (conjoined_at cs n)) c.deref_mut.ensures.value
          ∙ o.over.settled n (ap (λ (v : Vec Serial Global). is_listed v.items n) (sym o.changed) ∙ h) refl;
      listed = subst (λ (v : Vec Serial Global). All (λ other. other.0 < length c.deref_mut.result.now) v.items)
          (sym o.changed)
          (λ k d l.
          let one = c.requires.knows.taken.counted.left_listed k d l in
          omega (arith, one, o.over.same_length, ap length c.deref_mut.ensures.value));
    }

pub returns-in_err-words : goal.returns-in_err-words
returns-in_err-words c =
    let x = c.from_residual in
    record {
      closed = IfOk-from_err x.result _ x.ensures.0;
      knows = IfOk-from_err x.result _ x.ensures.0;
      taken = IfOk-from_err x.result _ x.ensures.0;
      rest = c.take_found.ensures.rest;
      store = c.take_found.ensures.store;
    }

pub returns-in_err-put_found : goal.returns-in_err-put_found
returns-in_err-put_found c =
    let x = c.from_residual-in_err-put_found in
    record {
      closed = IfOk-from_err x.result _ x.ensures.0;
      knows = IfOk-from_err x.result _ x.ensures.0;
      taken = IfOk-from_err x.result _ x.ensures.0;
      rest = c.take_found.ensures.rest;
      store = c.take_found.ensures.store;
    }

pub returns : goal.returns
returns c =
    let o = c.in_ok-words.ensures.over in
    let self = c.take_found.new.self in
    let e = c.in_ok-put_found.ensures in
    let put = put_over self.constants c.in_ok-words.words c.deref_mut.result.now c.put_found.new.constants
    c.deref_mut-2.result.now c.put_found.new.words c.as_slice.result.now c.args.self.now.spoken.keys
    c.args.found.now c.deref_mut.ensures.value c.deref_mut-2.ensures.value
    (c.as_slice.ensures.keys ∙ ap (λ (d : Decider). d.spoken.keys) o.same) e.put in
    let settled = settled_over self.constants c.deref_mut.result.now c.put_found.new.constants
    c.put_found.new.changed.items c.deref_mut.ensures.value e.put.same_length e.settled in
    record {
      closed = closed_of c.normal_has_terms_words.ensures c.args.self.now c.args.stack.now self.constants.items _
          c.in_ok-words.words.items _ c.args.found.now c.requires o.over
          put;
      knows = λ truths.
          knows_through c.args.self.now self c.args.stack.now c.take_found.new.stack c.put_found.new.changed
          c.in_ok-words.words c.put_found.new.constants c.put_found.new.words c.args.self.now.spoken.keys
          c.args.found.now truths c.requires o c.in_ok-words.ensures.taken put settled
          (λ k d l. let one = e.listed k d l in omega (arith, one, ap length c.deref_mut.ensures.value));
      taken = c.in_ok-words.ensures.taken;
      rest = c.take_found.ensures.rest;
      store = c.take_found.ensures.store;
    }
