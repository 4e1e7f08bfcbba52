use Rattle.std.proofs.Common.{ℕ, List, Err, subst, ◌∙◌}
use Rattle.sb_word.specs.Faults.{OutsideFault}
use Rattle.sb_models.proofs.ValueFacts.{outside_fails, no_word_in}
use Rattle.sb_models.proofs.words.word_in.Goals as goal

pub returns-in-Err-NotACharacter : goal.returns-in-Err-NotACharacter
returns-in-Err-NotACharacter c =
    let codes = c.as_slice.result.now in
    let error = c.in-Err-NotACharacter in
    let o = subst (λ e. OutsideFault {T = List ℕ} codes (Err e)) error.field-0-is
    (subst (OutsideFault {T = List ℕ} codes) error.is c.from_codes.ensures.outside) in
    no_word_in c.args.numbers.now codes (c.as_slice.ensures.value ∙ rw c.in-Some.is at c.in_ok-codes.ensures)
    (outside_fails codes error.field-0-0 o.code o.there o.outside)
