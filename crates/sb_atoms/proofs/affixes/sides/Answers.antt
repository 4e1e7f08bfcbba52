use Rattle.std.proofs.Common.{ap, subst, ◌∙◌}
use Rattle.sb_word.specs.Words.{are_characters}
use Rattle.sb_regex.specs.Numbered.{Names}
use Rattle.sb_regex.proofs.CallerLemmas.{extends_more}
use Rattle.sb_term.proofs.CallerLemmas.{extends_same}
use Rattle.sb_atoms.specs.Affixes.{holders}
use Rattle.sb_atoms.proofs.AffixFacts.{sides_whole}
use Rattle.sb_atoms.proofs.affixes.sides.Goals as goal

pub sides_of_whole-requires : goal.sides_of_whole-requires
sides_of_whole-requires c =
    let none = rw c.in_default.is at c.in_ok-word.ensures.ok in record {
      part = c.requires.part;
      whole = c.requires.whole;
      none = none;
      normals = c.in_ok-word.ensures.normals;
    }

pub returns-in_default-clause-extends : goal.returns-in_default-clause-extends
returns-in_default-clause-extends c =
    extends_more c.args.arena.now c.ground_word.new.arena c.sides_of_whole.new.arena c.in_ok-word.ensures.extends
    c.sides_of_whole.ensures.extends

pub affix_regex-requires : goal.affix_regex-requires
affix_regex-requires c =
    let is = rw c.in-Some.is at c.in_ok-word.ensures.ok in ap are_characters c.deref.ensures.value ∙ is.1

pub returns-in_err-regex-clause-extends : goal.returns-in_err-regex-clause-extends
returns-in_err-regex-clause-extends c =
    extends_more c.args.arena.now c.ground_word.new.arena c.affix_regex.new.arena c.in_ok-word.ensures.extends
    c.in_err-regex.ensures.extends

pub returns-in_err-regex-clause-normals : goal.returns-in_err-regex-clause-normals
returns-in_err-regex-clause-normals c =
    c.normals_stay.ensures c.args.table.now c.args.table.now c.ground_word.new.arena c.affix_regex.new.arena
    c.ground_word.new.normals (extends_same c.args.table.now) c.in_err-regex.ensures.extends
    c.in_ok-word.ensures.normals

pub returns-clause-ok : goal.returns-clause-ok
returns-clause-ok c =
    let rs = c.affix_regex.new.arena in
    let is = rw c.in-Some.is at c.in_ok-word.ensures.ok in
    sides_whole c.args.table.now rs c.args.kind c.args.part c.args.whole c.in_ok-regex.regex c.in-Some.word.items
    c.requires.whole is.0
    (subst (Names rs c.in_ok-regex.regex)
    (ap (λ f. f c.deref.result.now) c.holders.ensures ∙ ap (holders c.args.kind) c.deref.ensures.value)
    c.in_ok-regex.ensures.ok)

pub returns-clause-extends : goal.returns-clause-extends
returns-clause-extends c =
    extends_more c.args.arena.now c.ground_word.new.arena c.affix_regex.new.arena c.in_ok-word.ensures.extends
    c.in_ok-regex.ensures.extends

pub returns-clause-normals : goal.returns-clause-normals
returns-clause-normals c =
    c.normals_stay.ensures c.args.table.now c.args.table.now c.ground_word.new.arena c.affix_regex.new.arena
    c.ground_word.new.normals (extends_same c.args.table.now) c.in_ok-regex.ensures.extends
    c.in_ok-word.ensures.normals
