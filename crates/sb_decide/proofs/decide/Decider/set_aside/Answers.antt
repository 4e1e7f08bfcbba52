use Rattle.sb_decide.proofs.Words.{◌<◌, ◌++◌, length, ap, ap₂, ◌∙◌, arith, All-drop, Decider, take_rest}
use Rattle.sb_decide.proofs.Hearing.{speaks_all}
use Rattle.sb_decide.proofs.Knowledge.{knows_grown}
use Rattle.sb_decide.proofs.Parted.{knows_parted, left_spoken, spoken_of}
use Rattle.sb_decide.proofs.Questions.{all_others_below}
use Rattle.sb_store.proofs.CallerLemmas.{measured}
use Rattle.sb_decide.proofs.decide.Decider.set_aside.Goals as goal

pub hear-requires : goal.hear-requires
hear-requires c =
    let kept = c.args.self.now in
    let others = kept.others.items in
    record {
      numbers = rw (c.table.ensures, c.assertions.ensures.value) c.assertions.ensures.numbers;
      below = rw (c.assertions.ensures.value, c.as_slice-others.ensures.value, take_rest others kept.heard)
          (All-drop (λ p. p < length c.args.stack.now.assertions) kept.heard others
          (all_others_below kept c.args.stack.now c.requires.knows));
      measures = rw c.table.ensures c.requires.knows.taken.store.measures;
    }

pub part-requires : goal.part-requires
part-requires c = record {
  changed = ap (λ v. v.items) c.replace-all.ensures.after ∙ c.new.ensures.items;
  left = c.clear.ensures.items;
}

pub returns : goal.returns
returns c =
    let kept = c.args.self.now in
    let stack = c.args.stack.now in
    let others = kept.others.items in
    let serials = c.hear.new.serials in
    let grows = measured stack.table kept.store c.hear.new.measures
    (rw c.table.ensures at c.in_ok-hear.ensures.measures) in
    let now : Decider = record kept { store = record kept.store { measures = c.hear.new.measures } } in
    let speaks = speaks_all stack.table stack.assertions others kept.heard kept.spoken.keys serials.keys
    c.requires.knows.taken.heard
    (rw (c.table.ensures, c.assertions.ensures.value, c.as_slice-others.ensures.value, take_rest others kept.heard)
    at c.in_ok-hear.ensures.hears) in
    let spoken = spoken_of others stack serials.keys speaks in
    record {
      knows = knows_parted now
          (record now {
            changed = c.part.new.changed;
            left = c.part.new.left;
            spoken = serials;
            heard = c.len-self.result;
          })
          c.as_slice-2.result.now stack
          (c.as_slice-2.ensures.value ∙ (c.in_ok-extend_from_slice.ensures.items
          ∙ ap₂ ◌++◌ (ap (λ v. v.items) c.replace-all.ensures.value) c.as_slice.ensures.value)) c.in_ok-part.ensures
          (omega (arith, c.len-self.ensures, kept.others.ok.0)) speaks
          (knows_grown kept now.store stack grows c.requires.knows);
      all = c.requires.all;
      spoken = spoken;
      left = left_spoken others stack c.as_slice-2.result.now serials.keys c.part.new.changed.items
          c.part.new.left.items spoken c.in_ok-part.ensures;
      store = grows;
    }
