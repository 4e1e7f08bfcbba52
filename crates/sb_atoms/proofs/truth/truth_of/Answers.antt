use Rattle.std.proofs.Common.{◌≡◌, Some, false, map, sym, ap, subst, ◌∙◌}
use Rattle.sb_facts.proofs.CallerLemmas.{ok_more}
use Rattle.sb_meaning.specs.Terms.{Term}
use Rattle.sb_meaning.specs.Truth.{holds}
use Rattle.sb_term.specs.Numbered.{term_at}
use Rattle.sb_problem.specs.Patterns.{pattern_in}
use Rattle.sb_script.specs.Brought.{asked}
use Rattle.sb_fragment.specs.Compared.{compared}
use Rattle.sb_fragment.specs.Shapes.{parts_of}
use Rattle.sb_fragment.proofs.CallerLemmas.{asked_structure, connected_structure}
use Rattle.sb_atoms.specs.Truths.{AllOf, IsTruthUnder, IsTruthOf, AreAsWanted, connected_truth}
use Rattle.sb_atoms.specs.Given.{GivesValues}
use Rattle.sb_term.specs.Descending.{known_at}
use Rattle.sb_atoms.proofs.Connections.{connected_parts_are}
use Rattle.sb_atoms.proofs.FitFacts.{words_fit}
use Rattle.sb_atoms.proofs.Meanings.{constant_holds, always_holds, alone_holds, connected_holds, words_hold}
use Rattle.sb_atoms.proofs.TruthFacts.{truths_are}
use Rattle.sb_atoms.proofs.Walking.{compared_given, parts_given}
use Rattle.sb_atoms.proofs.truth.truth_of.Goals as goal

pub member-requires-clause-kind : goal.member-requires-clause-kind
member-requires-clause-kind c =
    sym (asked_structure (term_at c.args.table.now c.args.id) c.in-Some.serial.0
    (pattern_in c.args.table.now c.in-Some.pattern) c.in-Some.ensures.parts)
    ∙ c.requires.structure

pub returns-in-Some-clause-ok : goal.returns-in-Some-clause-ok
returns-in-Some-clause-ok c =
    let t = term_at c.args.table.now c.args.id in
    ok_more (λ truth. (s : Term) → asked s ≡ Some (c.in-Some.serial.0, pattern_in c.args.table.now c.in-Some.pattern)
    → IsTruthUnder c.args.values.now s truth)
    (λ truth. IsTruthOf c.args.values.now c.args.truths.now t truth) c.member.result
    (λ truth f v gives. f t c.in-Some.ensures.parts v c.args.truths.now gives) c.member.ensures.ok

pub returns-in-Constant-clause-ok : goal.returns-in-Constant-clause-ok
returns-in-Constant-clause-ok c = λ v gives.
    c.truth_at.ensures
    ∙ constant_holds (term_at c.args.table.now c.args.id) c.in-Constant.serial.0 c.in-Constant.ensures
    c.args.values.now c.args.truths.now v gives

pub returns-in-Always-clause-ok : goal.returns-in-Always-clause-ok
returns-in-Always-clause-ok c =
    let shape = rw c.in-Always.is at c.shape_of.ensures in
    λ v gives. always_holds (term_at c.args.table.now c.args.id) c.in-Always.truth shape v

pub returns-in-Alone-clause-ok : goal.returns-in-Alone-clause-ok
returns-in-Alone-clause-ok c =
    let shape = rw c.in-Alone.is at c.shape_of.ensures in
    λ v gives. alone_holds (term_at c.args.table.now c.args.id) shape v

pub returns-in_ok-parts-in-Connected-clause-ok : goal.returns-in_ok-parts-in-Connected-clause-ok
returns-in_ok-parts-in-Connected-clause-ok c =
    let ws = c.args.values.now in
    let bs = c.args.truths.now in
    let ts = c.args.table.now in
    let t = term_at ts c.args.id in
    let is = c.arguments_of.result.now in
    let shape = rw c.in-Connected.is at c.shape_of.ensures in
    let all = sym (connected_structure t c.in-Connected.connective shape) ∙ c.requires.structure in
    let known = c.requires.parts is
    (c.arguments_of.ensures.terms ∙ connected_parts_are t c.in-Connected.connective shape)
    c.arguments_of.ensures.below in
    λ v gives.
    c.connected.ensures
    ∙ ap (connected_truth c.in-Connected.connective)
    (c.deref.ensures.value ∙ c.in_ok-parts-in-Connected.ensures
    ∙ truths_are ws bs v ts (known_at false c.args.known.now.entries) is known
    (subst (AllOf (GivesValues ws bs v)) (sym c.arguments_of.ensures.terms) (parts_given ws bs v t gives))
    ∙ ap (λ us. map (λ u. holds u v) us) c.arguments_of.ensures.terms)
    ∙ sym (connected_holds t c.in-Connected.connective shape all ws bs v gives)

pub membership_holds-requires-clause-member : goal.membership_holds-requires-clause-member
membership_holds-requires-clause-member c = rw c.in-Member.is at c.shape_of.ensures

pub returns-in-Member-clause-ok : goal.returns-in-Member-clause-ok
returns-in-Member-clause-ok c =
    let t = term_at c.args.table.now c.args.id in
    ok_more (IsTruthUnder c.args.values.now t) (IsTruthOf c.args.values.now c.args.truths.now t)
    c.membership_holds.result (λ truth h v gives. h v c.args.truths.now gives) c.membership_holds.ensures.ok

pub words-requires-clause-pairs : goal.words-requires-clause-pairs
words-requires-clause-pairs c =
    let shape = rw c.in-Words.is at c.shape_of.ensures in
    sym (words_fit (term_at c.args.table.now c.args.id) c.in-Words.distinct shape) ∙ c.requires.fits

pub returns-in-Words-clause-ok : goal.returns-in-Words-clause-ok
returns-in-Words-clause-ok c =
    let t = term_at c.args.table.now c.args.id in
    let shape = rw c.in-Words.is at c.shape_of.ensures in
    ok_more (λ truth. AreAsWanted c.args.values.now c.in-Words.distinct (compared c.in-Words.distinct (parts_of t))
    (compared c.in-Words.distinct (parts_of t)) truth)
    (λ truth. IsTruthOf c.args.values.now c.args.truths.now t truth) c.words.result
    (λ truth h v gives. h v c.args.truths.now (compared_given c.args.values.now c.args.truths.now v c.in-Words.distinct
    (parts_of t) (parts_given c.args.values.now c.args.truths.now v t gives))
    ∙ words_hold t c.in-Words.distinct shape v) c.words.ensures.ok

pub affix_holds-requires-clause-affix : goal.affix_holds-requires-clause-affix
affix_holds-requires-clause-affix c = rw c.in-Affix.is at c.shape_of.ensures

pub returns-in-Affix-clause-ok : goal.returns-in-Affix-clause-ok
returns-in-Affix-clause-ok c =
    let t = term_at c.args.table.now c.args.id in
    ok_more (IsTruthUnder c.args.values.now t) (IsTruthOf c.args.values.now c.args.truths.now t) c.affix_holds.result
    (λ truth h v gives. h v c.args.truths.now gives) c.affix_holds.ensures.ok
