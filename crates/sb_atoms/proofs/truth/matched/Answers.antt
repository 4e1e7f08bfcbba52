use Rattle.std.proofs.Common.{refl}
use Rattle.std.proofs.lemmas.Option.{slice_get_past, slice_get_read}
use Rattle.sb_regex.specs.Numbered.{regex_at}
use Rattle.sb_atoms.specs.Truths.{word_at}
use Rattle.sb_atoms.proofs.TruthFacts.{there_is, missing_is, matched_there, matched_missing}
use Rattle.sb_atoms.proofs.truth.matched.Goals as goal

pub returns-in-Some-clause-ok : goal.returns-in-Some-clause-ok
returns-in-Some-clause-ok c =
    matched_there (regex_at c.args.arena.now c.args.regex) c.in-Some.word.now
    (word_at c.args.values.now c.args.serial.0) c.codes-codes.ensures.word
    (there_is c.args.values.now c.args.serial.0 c.in-Some.word.now
    (slice_get_read c.args.values.now _ c.args.serial.0 c.in-Some.word.now refl c.in-Some.ensures.lookup.3.0
    c.in-Some.ensures.lookup.1))
    c.matches.result c.matches.ensures.ok

pub returns-in-None-clause-ok : goal.returns-in-None-clause-ok
returns-in-None-clause-ok c =
    matched_missing c.nullable_has_empty_word.ensures (regex_at c.args.arena.now c.args.regex)
    (word_at c.args.values.now c.args.serial.0) c.nullable.result
    (missing_is c.args.values.now c.args.serial.0
    (slice_get_past c.args.values.now c.args.serial.0 c.in-None.ensures.lookup.3))
    c.nullable.ensures
