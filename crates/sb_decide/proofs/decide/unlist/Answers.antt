use Rattle.sb_decide.proofs.Words.{◌-◌, ◌<◌, length, take, sym, ap, ◌∙◌, All-take, blank, get_or_read, is_settled}
use Rattle.sb_decide.proofs.Constants.{unlisted}
use Rattle.sb_decide.proofs.decide.unlist.Goals as goal

pub returns : goal.returns
returns c =
    let xs = c.args.changed.now.items in
    let here = c.in-Some.ensures.lookup in
    let rest = c.pop.ensures.rest ∙ ap (λ n. take (n - 1) xs) c.args.changed.now.ok.0 in
    let has = ap is_settled
    (sym (get_or_read c.args.constants.now c.args.serial.0 c.in-Some.conjuncts.now here.3.0 here.1 blank))
    ∙ (sym c.is_settled.ensures ∙ c.if-not-is_settled.false) in
    record {
      settled = λ left. unlisted c.args.constants.now xs c.pop.new.self.items c.in-Some-last.last.now c.args.serial
          (sym (rw c.deref.ensures.value at c.in-Some-last.ensures.value)) c.if-not-same.false rest has left;
      listed = λ n h. rw rest (All-take (λ other. other.0 < n) (length xs - 1) xs h);
    }
