use Rattle.sb_fragment.proofs.SideFacts.{affix_none, affix_short, affix_whole, long_measured}
use Rattle.sb_fragment.proofs.sides.fit_part.Goals as goal

pub returns-then-is_short_word : goal.returns-then-is_short_word
returns-then-is_short_word c =
    affix_short c.args.table.now c.args.measures.now c.args.part c.args.whole c.number.result _
    c.is_short_word.result c.is_single.result c.requires.right c.number.ensures c.requires.part
    c.is_short_word.ensures c.if-is_short_word.true c.is_single.ensures

pub returns-then-is_whole_word : goal.returns-then-is_whole_word
returns-then-is_whole_word c =
    let long = long_measured c.args.table.now c.args.measures.now c.args.part c.args.whole c.number.result
    c.number-2.result _ _ c.is_short_word.result c.is_whole_word.result c.requires.right c.number.ensures
    c.requires.part c.number-2.ensures c.requires.whole c.is_short_word.ensures c.if-is_short_word.false
    c.is_whole_word.ensures in
    affix_whole c.args.table.now c.args.part c.args.whole c.is_whole_word.result
    c.is_single-then-is_whole_word.result long c.if-is_whole_word.true c.is_single-then-is_whole_word.ensures

pub returns : goal.returns
returns c =
    let long = long_measured c.args.table.now c.args.measures.now c.args.part c.args.whole c.number.result
    c.number-2.result _ _ c.is_short_word.result c.is_whole_word.result c.requires.right c.number.ensures
    c.requires.part c.number-2.ensures c.requires.whole c.is_short_word.ensures c.if-is_short_word.false
    c.is_whole_word.ensures in
    affix_none c.args.table.now c.args.part c.args.whole c.is_whole_word.result long c.if-is_whole_word.false
