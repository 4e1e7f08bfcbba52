use Rattle.std.proofs.Common.{ap, ap₂, sym, ◌∙◌, slice_get, length, ◌≡◌}
use Rattle.sb_plain.proofs.Staying.{pushed_there, pushed_others}
use Rattle.sb_plain.proofs.walked.put_at.Goals as goal

pub returns-in_ok-push : goal.returns-in_ok-push
returns-in_ok-push c =
    let xs = c.args.stays.now.items in
    let end : c.args.place ≡ length xs = c.if-place-len-2.true ∙ c.len-2.ensures ∙ c.args.stays.now.ok.0 in
    record {
      there = λ s h. pushed_there xs c.args.stay s
          (sym (ap₂ (λ ys i. slice_get ys i) c.in_ok-push.ensures.items end) ∙ h);
      others = λ i n. ap (λ ys. slice_get ys i) c.in_ok-push.ensures.items
          ∙ pushed_others xs c.args.stay i (λ same. n (same ∙ sym end));
    }
