use Rattle.std.proofs.Common.{◌≡◌, ◌+◌, ◌++◌, ap, sym, subst, append-nil, ◌∙◌, drop}
use Rattle.std.proofs.lemmas.List.{drop_more, drop_all}
use Rattle.sb_class.specs.Ranges.{AreCuts}
use Rattle.sb_class.proofs.RangeFacts.{range_at}
use Rattle.sb_class.proofs.Cutting.{start_cut, end_cut, start_written, start_left_out, end_written, end_left_out, cuts_more, cuts_of, cuts_of-nil, AreCuts-cuts_of}
use Rattle.sb_class.proofs.range_list.cuts.Goals as goal
use Rattle.sb_class.proofs.range_list.cuts.Goals.{then-range-gt0+in_ok-push, else-range-gt0, then-range-lt-LAST_CHARACTER+in_ok-push-2, else-range-lt-LAST_CHARACTER}

pub loop-range-preserved : goal.loop-range-preserved
loop-range-preserved c =
    let rs = c.args.ranges.now in
    let i = c.loop-range.range-index in
    let r = range_at rs i in
    let old = c.loop-range.cuts.items in
    let started = c.if-range-gt0.cuts.items in
    let first : started ≡ old ++ start_cut r = elim c.if-range-gt0.branch [
      | then-range-gt0+in_ok-push w ↦ rw w.cuts-is
          (start_written old _ r w.if-range-gt0.true w.in_ok-push.ensures.items)
      | else-range-gt0 w ↦ rw w.cuts-is (start_left_out old r w.if-range-gt0.false)
    ] in
    let second : c.if-range-lt-LAST_CHARACTER.cuts.items ≡ started ++ end_cut r =
    elim c.if-range-lt-LAST_CHARACTER.branch [
      | then-range-lt-LAST_CHARACTER+in_ok-push-2 w ↦ rw w.cuts-is
          (end_written started _ r w.if-range-lt-LAST_CHARACTER.true w.in_ok-push-2.ensures.items)
      | else-range-lt-LAST_CHARACTER w ↦ rw w.cuts-is (end_left_out started r w.if-range-lt-LAST_CHARACTER.false)
    ] in
    cuts_more old started _ _ r (drop (i + 1) rs) first second
    (ap (λ l. old ++ cuts_of l) (sym (drop_more rs i (0, 0) c.loop-range-test.true)) ∙ c.loop-range.invariant)

pub returns : goal.returns
returns c =
    let rs = c.args.ranges.now in
    let all : cuts_of rs ≡ c.loop-range.cuts.items = sym (sym (append-nil c.loop-range.cuts.items)
    ∙ ap (λ l. c.loop-range.cuts.items ++ l)
    (sym (ap cuts_of (drop_all c.loop-range.range-index rs c.loop-range-test.false) ∙ cuts_of-nil))
    ∙ c.loop-range.invariant) in
    subst (AreCuts rs) all (AreCuts-cuts_of rs c.requires)
