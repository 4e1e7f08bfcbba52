use Rattle.sb_decide.proofs.Words.{[], length, refl, sym, ap, ◌∙◌, subst₂, arith, IfOk-from_err, IsTakingOver, with_items_is, without_words}
use Rattle.sb_decide.proofs.TakingOver.{found_within, over_of}
use Rattle.sb_decide.proofs.decide.Decider.take_found.Goals as goal

pub fill-requires : goal.fill-requires
fill-requires c =
    let ready = c.requires.ready in
    let words = ap length c.take_words-words.ensures.words in
    omega (arith, words, c.declared-declared.ensures.value, ready.knows.words.few, ready.all.1)

pub take_over-requires : goal.take_over-requires
take_over-requires c =
    let ready = c.requires.ready in
    record {
      long = ap length c.deref_mut-2.ensures.value ∙ c.in_ok-fill.ensures.long
          ∙ c.declared-declared.ensures.value ∙ sym ready.all.1 ∙ sym (ap length c.deref_mut.ensures.value);
      within = λ k d l.
          let one = found_within c.args.self.now c.args.stack.now c.replace-kept.result.items ready
          (ap (λ v. v.items) c.replace-kept.ensures.value) k d l in
          omega (arith, one, ap length c.deref_mut.ensures.value);
    }

pub returns-in_err-fill : goal.returns-in_err-fill
returns-in_err-fill c =
    let x = c.from_residual in
    record {
      over = IfOk-from_err x.result _ x.ensures.0;
      taken = IfOk-from_err x.result _ x.ensures.0;
      rest = ap without_words c.take_words-words.ensures.rest;
      store = refl;
    }

pub returns : goal.returns
returns c =
    let all = c.requires.ready.all in
    let kept = c.args.self.now in
    let over = over_of kept c.args.stack.now c.replace-kept.result.items c.declared-declared.result
    c.take_words-words.result.items c.fill.new.words.items c.deref_mut.result.now c.take_over.new.constants
    c.deref_mut-2.result.now c.take_over.new.words c.requires.ready (ap (λ v. v.items) c.replace-kept.ensures.value)
    c.take_words-words.ensures.words
    c.declared-declared.ensures.value c.in_ok-fill.ensures c.deref_mut.ensures.value c.deref_mut-2.ensures.value
    c.take_over.ensures in
    let long = c.declared-declared.ensures.value in
    let words = with_items_is c.fill.new.words c.take_over.new.words
    (omega (arith, over.long, long, all.1, c.in_ok-fill.ensures.long, c.fill.new.words.ok.0)) in
    let constants = with_items_is kept.constants c.take_over.new.constants
    (omega (arith, over.same_length, kept.constants.ok.0)) in
    record {
      over = record {
        over = subst₂
            (λ cs ws. IsTakingOver kept.store.arena kept.members.items kept.left.items kept.constants.items cs ws [])
            (sym constants) (sym words) over;
        changed = c.replace.ensures.value;
        nothing = ap (λ v. v.items) c.replace.ensures.after ∙ c.new-2.ensures.items;
        same = refl;
      };
      taken = c.take_words-words.ensures.rest;
      rest = ap without_words c.take_words-words.ensures.rest;
      store = refl;
    }
