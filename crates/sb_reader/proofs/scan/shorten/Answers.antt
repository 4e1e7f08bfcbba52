-- What is left out is a gap, and what a comment holds.
use Rattle.std.proofs.Common.{◌≡◌, ◌+◌, ◌-◌, ◌<◌, length, drop, [], arith, ◌∷◌, set, sym, ap, subst, ◌∙◌}
use Rattle.std.proofs.lemmas.List.{drop-set, drop_all, length-drop, length-set}
use Rattle.sb_reader.proofs.Shortening.{shortens_to_itself, shortens_to_semicolon, comment_has_a_byte, shortens_to_nothing}
use Rattle.sb_reader.proofs.Goes.{in_no_gap, no_gap_in_token, scanned_in_gap}
use Rattle.sb_reader.specs.Feeding.{ShortensTo}
use Rattle.sb_reader.specs.Scanning.{IsScan}
use Rattle.sb_reader.proofs.scan.shorten.Goals as goal

pub returns-in-InComment-clause-shorter : goal.returns-in-InComment-clause-shorter
returns-in-InComment-clause-shorter c =
    let bytes = c.args.bytes.now in
    let left = drop c.args.start bytes in
    let scan = c.requires.started.scan_of in
    let a_byte : 0 < length bytes - c.args.start = simp length-drop at
    (comment_has_a_byte c.args.scan.now left scan c.requires.all c.if-scan-eq0-2.true c.in-InComment.is) in
    let none_behind : drop (length bytes - 1 + 1) bytes ≡ [] =
    drop_all (length bytes - 1 + 1) bytes (omega (arith, a_byte)) in
    rw (drop-set bytes (length bytes - 1) 59 (omega (arith, a_byte)), none_behind)
    (shortens_to_semicolon c.args.scan.now left scan c.requires.all c.if-scan-eq0-2.true c.in-InComment.is)

pub returns-in-InGap-2-clause-short : goal.returns-in-InGap-2-clause-short
returns-in-InGap-2-clause-short c = λ alone. absurd
    (in_no_gap c.args.scan.now.place c.args.scan.now.depth c.if-scan-eq0.false
    (scanned_in_gap c.args.scan.now (drop c.args.start c.args.bytes.now) c.requires.started.scan_of c.requires.all
    alone))

pub returns-in-InGap-2-2-clause-short : goal.returns-in-InGap-2-2-clause-short
returns-in-InGap-2-2-clause-short c = λ alone. absurd
    (in_no_gap c.args.scan.now.place c.args.scan.now.depth c.if-scan-eq0-2.false
    (scanned_in_gap c.args.scan.now (drop c.args.start c.args.bytes.now) c.requires.started.scan_of c.requires.all
    alone))

pub returns-in-InText : goal.returns-in-InText
returns-in-InText c =
    let bytes = c.args.bytes.now in
    let left = drop c.args.start bytes in
    let scan = c.args.scan.now in
    record {
      shorter = shortens_to_itself left;
      short = λ alone. absurd
          (no_gap_in_token scan.place scan.depth c.in-InText.is
          (scanned_in_gap scan left c.requires.started.scan_of c.requires.all alone));
      started = c.requires.started;
      all = c.requires.all;
    }

pub returns-in-InGap-clause-shorter : goal.returns-in-InGap-clause-shorter
returns-in-InGap-clause-shorter c =
    let none = drop_all (length c.args.bytes.now) c.args.bytes.now (omega arith) in
    let left = drop c.args.start c.args.bytes.now in
    subst (ShortensTo left) (sym none)
    (shortens_to_nothing c.args.scan.now left c.requires.started.scan_of c.requires.all c.if-scan-eq0.true c.in-InGap.is)

pub returns-in-InGap-clause-short : goal.returns-in-InGap-clause-short
returns-in-InGap-clause-short c =
    let none = drop_all (length c.args.bytes.now) c.args.bytes.now (omega arith) in
    λ alone. omega (arith, ap length none)

pub returns-in-InGap-clause-all : goal.returns-in-InGap-clause-all
returns-in-InGap-clause-all c =
    let none = drop_all (length c.args.bytes.now) c.args.bytes.now (omega arith) in
    c.new.ensures.none ∙ sym (ap length none)

pub returns-in-InComment-clause-started : goal.returns-in-InComment-clause-started
returns-in-InComment-clause-started c =
    let bytes = c.args.bytes.now in
    let last = length bytes - 1 in
    let a_byte : 0 < length bytes - c.args.start = simp length-drop at
    (comment_has_a_byte c.args.scan.now (drop c.args.start bytes) c.requires.started.scan_of c.requires.all
    c.if-scan-eq0-2.true c.in-InComment.is) in
    let one : drop last (set bytes last 59) ≡ 59 ∷ [] =
    drop-set bytes last 59 (omega (arith, a_byte))
    ∙ ap (λ rest. 59 ∷ rest) (drop_all (last + 1) bytes (omega (arith, a_byte))) in
    record {
      within = omega (arith, length-set bytes last 59);
      scan_of = subst (IsScan c.in_comment.result) (sym one) c.in_comment.ensures.scan;
    }

pub returns-in-InComment-clause-short : goal.returns-in-InComment-clause-short
returns-in-InComment-clause-short c =
    let bytes = c.args.bytes.now in
    let last = length bytes - 1 in
    let a_byte : 0 < length bytes - c.args.start = simp length-drop at
    (comment_has_a_byte c.args.scan.now (drop c.args.start bytes) c.requires.started.scan_of c.requires.all
    c.if-scan-eq0-2.true c.in-InComment.is) in
    let one : drop last (set bytes last 59) ≡ 59 ∷ [] =
    drop-set bytes last 59 (omega (arith, a_byte))
    ∙ ap (λ rest. 59 ∷ rest) (drop_all (last + 1) bytes (omega (arith, a_byte))) in
    λ alone. omega (arith, ap length one)

pub returns-in-InComment-clause-all : goal.returns-in-InComment-clause-all
returns-in-InComment-clause-all c =
    let bytes = c.args.bytes.now in
    let last = length bytes - 1 in
    let a_byte : 0 < length bytes - c.args.start = simp length-drop at
    (comment_has_a_byte c.args.scan.now (drop c.args.start bytes) c.requires.started.scan_of c.requires.all
    c.if-scan-eq0-2.true c.in-InComment.is) in
    let one : drop last (set bytes last 59) ≡ 59 ∷ [] =
    drop-set bytes last 59 (omega (arith, a_byte))
    ∙ ap (λ rest. 59 ∷ rest) (drop_all (last + 1) bytes (omega (arith, a_byte))) in
    c.in_comment.ensures.one ∙ sym (ap length one)
