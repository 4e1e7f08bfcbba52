use Rattle.sb_theory.proofs.strings.Strings.clash_on.Goals as goal

pub first_clash-requires : goal.first_clash-requires
first_clash-requires c = c.requires

pub returns : goal.returns
returns c = record { ok = c.first_clash.ensures.ok; keeps = c.first_clash.ensures.keeps }
