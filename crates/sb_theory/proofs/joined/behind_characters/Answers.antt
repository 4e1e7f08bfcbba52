use Rattle.sb_theory.proofs.Words.{walked}
use Rattle.sb_theory.proofs.joined.behind_characters.Goals as goal

pub along-requires : goal.along-requires
along-requires c = record { known = c.requires.known; word = c.requires.word; right = c.requires.store.plain }

pub returns : goal.returns
returns c = record {
  ok = c.along.ensures.ok;
  grows = walked c.regexes_grow.ensures.arena _ _ _ c.along.ensures.extends c.along.ensures.right;
}
