use Rattle.std.proofs.Common.{refl, sym, subst, ◌∙◌}
use Rattle.std.proofs.lemmas.Option.{slice_get_past, slice_get_read}
use Rattle.sb_word.specs.Words.{IsWord}
use Rattle.sb_regex.specs.Numbered.{regex_at}
use Rattle.sb_atoms.specs.Truths.{word_at}
use Rattle.sb_atoms.proofs.TruthFacts.{there_is, missing_is, behind_word, behind_missing}
use Rattle.sb_atoms.proofs.truth.behind_constant.Goals as goal

pub along-requires-clause-word : goal.along-requires-clause-word
along-requires-clause-word c = subst IsWord (sym c.codes-codes.ensures.value) c.codes-codes.ensures.word

pub returns-in-Some-clause-ok : goal.returns-in-Some-clause-ok
returns-in-Some-clause-ok c =
    behind_word c.along.new.arena (regex_at c.args.arena.now c.args.regex) c.codes-codes.result.now
    (word_at c.args.values.now c.args.serial.0)
    (subst IsWord (sym c.codes-codes.ensures.value) c.codes-codes.ensures.word)
    (c.codes-codes.ensures.value
    ∙ there_is c.args.values.now c.args.serial.0 c.in-Some.word.now
    (slice_get_read c.args.values.now _ c.args.serial.0 c.in-Some.word.now refl c.in-Some.ensures.lookup.3.0
    c.in-Some.ensures.lookup.1))
    c.along.result c.along.ensures.ok

pub returns-in-None-clause-ok : goal.returns-in-None-clause-ok
returns-in-None-clause-ok c =
    behind_missing c.args.arena.now c.args.regex (word_at c.args.values.now c.args.serial.0) c.requires.known
    (missing_is c.args.values.now c.args.serial.0
    (slice_get_past c.args.values.now c.args.serial.0 c.in-None.ensures.lookup.3))
