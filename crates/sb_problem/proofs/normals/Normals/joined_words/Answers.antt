use Rattle.std.proofs.Common.{◌≡◌, ◌<◌, ◌-◌, suc, length, drop, refl, subst, arith}
use Rattle.sb_term.specs.Numbered.{term_at}
use Rattle.sb_problem.specs.Known.{IsTextBy, is_known}
use Rattle.sb_problem.proofs.Keeping.{AreWords, all_item, joined_other, joined_text, text_at, words_none, words_more}
use Rattle.sb_problem.proofs.normals.Normals.joined_words.Goals as goal

pub loop-left-init : goal.loop-left-init
loop-left-init c = (omega arith, words_none c.args.table.now c.args.ids.now _ 0 (omega arith) refl)

pub loop-left-preserved : goal.loop-left-preserved
loop-left-preserved c =
    let k = c.loop-left.left - 1 in
    let l : k < length c.args.ids.now = omega (arith, c.loop-left.invariant.0, c.loop-left-test.true) in
    let known = all_item (is_known c.args.self.now) c.args.ids.now k c.index-ids-left.result c.requires.known l
    c.index-ids-left.is in
    let t = text_at c.args.table.now c.args.self.now c.index-ids-left.result c.kept.result c.count.result
    c.requires.texts known c.kept.ensures c.count.ensures in
    let same : c.loop-left.left ≡ suc k = omega (arith, c.loop-left-test.true) in (
      omega (arith, c.loop-left.invariant.0),
      words_more c.args.table.now c.args.ids.now k c.index-ids-left.result c.in-Some.count c.loop-left.all c.sum-all.result l
          c.index-ids-left.is (subst (IsTextBy (term_at c.args.table.now c.index-ids-left.result)) c.in-Some.is t)
          c.sum-all.ensures
          (subst (λ n. AreWords c.args.table.now (drop n c.args.ids.now) c.loop-left.all) same
          c.loop-left.invariant.1),
    )

pub returns-in_default : goal.returns-in_default
returns-in_default c = λ rs.
    let k = c.loop-left.left - 1 in
    let l : k < length c.args.ids.now = omega (arith, c.loop-left.invariant.0, c.loop-left-test.true) in
    let known = all_item (is_known c.args.self.now) c.args.ids.now k c.index-ids-left.result c.requires.known l
    c.index-ids-left.is in
    let t = text_at c.args.table.now c.args.self.now c.index-ids-left.result c.kept.result c.count.result
    c.requires.texts known c.kept.ensures c.count.ensures in
    joined_other rs c.args.table.now c.args.ids.now k c.index-ids-left.result l c.index-ids-left.is
    (subst (IsTextBy (term_at c.args.table.now c.index-ids-left.result)) c.in_default.is t)

pub returns : goal.returns
returns c = λ rs.
    joined_text rs c.args.table.now c.args.ids.now c.loop-left.all c.loop-left.left
    (omega (arith, c.loop-left-test.false)) c.loop-left.invariant.1
