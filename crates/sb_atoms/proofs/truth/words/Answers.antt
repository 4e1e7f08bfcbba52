use Rattle.std.proofs.Common.{List, length, ap, subst, ◌∙◌, arith}
use Rattle.std.specs.Prelude.{IfOk}
use Rattle.std.specs.List.{list_all}
use Rattle.sb_meaning.specs.Terms.{Term}
use Rattle.sb_script.specs.Fragment.{is_word_pair}
use Rattle.sb_fragment.specs.Compared.{compared}
use Rattle.sb_fragment.specs.Shapes.{are_numbers, terms_of_pairs}
use Rattle.sb_fragment.proofs.CallerLemmas.{numbers_compared, terms_compared}
use Rattle.sb_atoms.specs.Truths.{AreAsWanted}
use Rattle.sb_atoms.proofs.truth.words.Goals as goal

pub word_pairs-requires-clause-numbers : goal.word_pairs-requires-clause-numbers
word_pairs-requires-clause-numbers c =
    ap (are_numbers (length c.args.table.now)) (c.deref.ensures.value ∙ c.in_ok-pairs.ensures)
    ∙ numbers_compared (length c.args.table.now) c.args.id c.args.distinct c.arguments_of.result.now
    (omega (arith, c.requires.number)) c.arguments_of.ensures.below

pub word_pairs-requires-clause-pairs : goal.word_pairs-requires-clause-pairs
word_pairs-requires-clause-pairs c =
    let ts = c.args.table.now in
    let e = ap (terms_of_pairs ts) (c.deref.ensures.value ∙ c.in_ok-pairs.ensures)
    ∙ terms_compared ts c.args.distinct c.arguments_of.result.now
    ∙ ap (compared c.args.distinct) c.arguments_of.ensures.terms in
    ap (list_all (λ (p : Term × Term). is_word_pair p.0 p.1)) e ∙ c.requires.pairs

pub returns-clause-ok : goal.returns-clause-ok
returns-clause-ok c =
    let ts = c.args.table.now in
    let e = ap (terms_of_pairs ts) (c.deref.ensures.value ∙ c.in_ok-pairs.ensures)
    ∙ terms_compared ts c.args.distinct c.arguments_of.result.now
    ∙ ap (compared c.args.distinct) c.arguments_of.ensures.terms in
    subst (λ (ps : List (Term × Term)). IfOk c.word_pairs.result (AreAsWanted c.args.values.now c.args.distinct ps ps)) e
    c.word_pairs.ensures.ok
