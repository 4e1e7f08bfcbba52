use Rattle.sb_split.proofs.Words.{[], ◌∷◌, ◌++◌, sym, ap₂, ◌∙◌, take_more, take_all}
use Rattle.sb_split.proofs.FrontFacts.{character_at}
use Rattle.sb_split.proofs.fronts.codes_of.Goals as goal

pub character-requires : goal.character-requires
character-requires c =
    character_at c.args.word.now c.loop-number.number-index c.requires c.loop-number-test.true

pub loop-number-preserved : goal.loop-number-preserved
loop-number-preserved c =
    c.in_ok-push.ensures.items
    ∙ (ap₂ (λ xs x. xs ++ x ∷ []) c.loop-number.invariant c.character.ensures
    ∙ sym (take_more c.args.word.now c.loop-number.number-index 0 c.loop-number-test.true))

pub returns : goal.returns
returns c =
    c.loop-number.invariant ∙ take_all c.loop-number.number-index c.args.word.now c.loop-number-test.false
