use Rattle.std.proofs.Common.{is_some, if◌then◌else◌, Ok, Err, refl, sym, ap, ◌∙◌}
use Rattle.sb_word.specs.LiteralWords.{word_of_literal}
use Rattle.sb_meaning.specs.Terms.{word}
use Rattle.sb_script.specs.Faults.{bad_literal}
use Rattle.sb_term.specs.Serials.{has_serials_below}
use Rattle.sb_term.proofs.CallerLemmas.{names_at, names_below}
use Rattle.sb_sorts.proofs.text.read_text.Goals as goal

pub returns-in_ok-add-in-Ok-clause-reads : goal.returns-in_ok-add-in-Ok-clause-reads
returns-in_ok-add-in-Ok-clause-reads c =
    let id = c.in_ok-add-in-Ok.field-0 in (
      ap (λ bad. if is_some bad then Err bad_literal else Ok (word (word_of_literal c.args.bytes.now))) c.in-Ok.ensures.good
          ∙ ap (λ w. Ok (word w)) (sym c.in-Ok.ensures.word)
          ∙ ap Ok (sym (names_at c.add.new.self id _ c.in_ok-add-in-Ok.ensures.ok ∙ ap word c.into_codes.ensures.value)),
      names_below c.add.new.self id _ c.in_ok-add-in-Ok.ensures.ok,
    )

pub returns-in_ok-add-in-Ok-clause-grows : goal.returns-in_ok-add-in-Ok-clause-grows
returns-in_ok-add-in-Ok-clause-grows c = λ n. record {
  extends = c.in_ok-add-in-Ok.ensures.extends;
  below = λ h. c.in_ok-add-in-Ok.ensures.only (has_serials_below n) h refl;
}
