use Rattle.sb_refute.proofs.Words.{ℕ, List, sym, ap, ◌∙◌, ◌++◌, append-nil, arith, take_all}
use Rattle.sb_refute.proofs.Settled.{character-at, characters-more}
use Rattle.sb_refute.proofs.bare.add_characters.Goals as goal

pub loop-character-init : goal.loop-character-init
loop-character-init c = sym (append-nil c.args.word.now.items)

pub code_of-requires : goal.code_of-requires
code_of-requires c =
    character-at c.args.characters.now c.loop-character.character-index _ c.requires c.loop-character-test.true

pub loop-character-preserved : goal.loop-character-preserved
loop-character-preserved c =
    characters-more c.args.characters.now c.args.word.now.items c.loop-character.word.items c.push.new.self.items
    c.loop-character.character-index _ c.code_of.result c.loop-character-test.true c.loop-character.invariant
    c.code_of.ensures c.in_ok-push.ensures.items

pub returns : goal.returns
returns c =
    c.loop-character.invariant
    ∙ ap (λ (w : List ℕ). c.args.word.now.items ++ w)
    (take_all c.loop-character.character-index c.args.characters.now (omega (arith, c.loop-character-test.false)))
