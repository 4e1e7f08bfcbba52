use Rattle.std.proofs.Common.{refl, ap, sym, ◌∙◌, subst}
use Rattle.sb_regex.specs.Numbered.{regex_at, regexes_at, AllNumbers}
use Rattle.sb_regex.proofs.CallerLemmas.{numbers_kept, names_at, names_below, extends_more, extends_same}
use Rattle.sb_atoms.proofs.CallerLemmas.{regexes_kept}
use Rattle.sb_rulebook.specs.Splits.{is_dead_regex}
use Rattle.sb_rules.specs.Kept.{kept_in}
use Rattle.sb_rules.proofs.Staying.{same_kept}
use Rattle.sb_rules.proofs.Emptied.{not_member, not_constants, by_regex, all_members}
use Rattle.sb_rules.proofs.kept.Kept.have_no_word.Goals as goal

pub returns-in_default-member-clause-ok : goal.returns-in_default-member-clause-ok
returns-in_default-member-clause-ok c = λ others.
    not_member c.args.self.now others c.in-Some.first.now c.args.literals.now (sym c.in-Some.ensures.value)
    c.in_default-member.ensures

pub returns-then-not-are_of-clause-ok : goal.returns-then-not-are_of-clause-ok
returns-then-not-are_of-clause-ok c = λ others.
    not_constants c.args.self.now others c.in-Some.first.now c.args.literals.now _ _ (sym c.in-Some.ensures.value)
    c.in-Some-member.ensures (sym c.are_of.ensures ∙ c.if-not-are_of.true)

pub denied-requires-clause-members : goal.denied-requires-clause-members
denied-requires-clause-members c =
    all_members c.args.self.now.atoms _ c.args.literals.now (sym c.are_of.ensures ∙ c.if-not-are_of.false)

pub returns-in_err-ids-clause-kept : goal.returns-in_err-ids-clause-kept
returns-in_err-ids-clause-kept c = λ others.
    same_kept c.args.self.now (record c.args.self.now { arena = c.denied.new.arena }) others c.requires.whole
    c.denied.ensures.extends refl refl refl refl

pub returns-in_err-ids-clause-whole : goal.returns-in_err-ids-clause-whole
returns-in_err-ids-clause-whole c = record {
  regexes = numbers_kept _ _ _ c.denied.ensures.extends c.requires.whole.regexes;
  plain = c.right_stays.ensures _ _ _ c.denied.ensures.extends c.requires.whole.plain;
  atoms = regexes_kept _ _ _ c.denied.ensures.extends c.requires.whole.atoms;
  brought = c.requires.whole.brought;
  formed = c.requires.whole.formed;
}

pub returns-in_err-id-clause-kept : goal.returns-in_err-id-clause-kept
returns-in_err-id-clause-kept c = λ others.
    same_kept c.args.self.now (record c.args.self.now { arena = c.and.new.self }) others c.requires.whole
    (extends_more _ _ _ c.denied.ensures.extends c.and.ensures.extends) refl refl refl refl

pub returns-in_err-id-clause-whole : goal.returns-in_err-id-clause-whole
returns-in_err-id-clause-whole c =
    let e = extends_more _ _ _ c.denied.ensures.extends c.and.ensures.extends in
    record {
      regexes = numbers_kept _ _ _ e c.requires.whole.regexes;
      plain = c.right_stays.ensures _ _ _ e c.requires.whole.plain;
      atoms = regexes_kept _ _ _ e c.requires.whole.atoms;
      brought = c.requires.whole.brought;
      formed = c.requires.whole.formed;
    }

pub is_dead_regex-requires-clause-id : goal.is_dead_regex-requires-clause-id
is_dead_regex-requires-clause-id c = names_below _ _ _ c.in_ok-id.ensures.ok

pub returns-clause-ok : goal.returns-clause-ok
returns-clause-ok c = λ others.
    by_regex c.args.self.now others c.in-Some.first.now c.args.literals.now _ c.is_dead_regex.result
    (regex_at c.and.new.self c.in_ok-id.id) (regexes_at c.denied.new.arena c.deref.result.now)
    (sym c.in-Some.ensures.value) (sym c.are_of.ensures ∙ c.if-not-are_of.false)
    (ap (regexes_at c.denied.new.arena) c.deref.ensures.value ∙ c.in_ok-ids.ensures.ids)
    (names_at c.and.new.self c.in_ok-id.id _ c.in_ok-id.ensures.ok)
    (c.is_dead_regex.ensures (kept_in (record c.args.self.now { arena = c.and.new.self }) others)
    ∙ ap (λ k. is_dead_regex k (regex_at c.and.new.self c.in_ok-id.id))
    (same_kept c.args.self.now (record c.args.self.now { arena = c.and.new.self }) others c.requires.whole
    (extends_more _ _ _ c.denied.ensures.extends c.and.ensures.extends) refl refl refl refl))

pub returns-clause-kept : goal.returns-clause-kept
returns-clause-kept c = λ others.
    same_kept c.args.self.now (record c.args.self.now { arena = c.and.new.self }) others c.requires.whole
    (extends_more _ _ _ c.denied.ensures.extends c.and.ensures.extends) refl refl refl refl

pub returns-clause-whole : goal.returns-clause-whole
returns-clause-whole c =
    let e = extends_more _ _ _ c.denied.ensures.extends c.and.ensures.extends in
    record {
      regexes = numbers_kept _ _ _ e c.requires.whole.regexes;
      plain = c.right_stays.ensures _ _ _ e c.requires.whole.plain;
      atoms = regexes_kept _ _ _ e c.requires.whole.atoms;
      brought = c.requires.whole.brought;
      formed = c.requires.whole.formed;
    }

pub is_dead_regex-requires-clause-known : goal.is_dead_regex-requires-clause-known
is_dead_regex-requires-clause-known c =
    numbers_kept _ _ _ (extends_more _ _ _ c.denied.ensures.extends c.and.ensures.extends) c.requires.whole.regexes

pub returns-in_err-id-clause-terms : goal.returns-in_err-id-clause-terms
returns-in_err-id-clause-terms c = record {
  extends = extends_more _ _ _ c.denied.ensures.extends c.and.ensures.extends;
  normals = refl;
  measures = refl;
}

pub returns-clause-terms : goal.returns-clause-terms
returns-clause-terms c = record {
  extends = extends_more _ _ _ c.denied.ensures.extends c.and.ensures.extends;
  normals = refl;
  measures = refl;
}

pub and-requires : goal.and-requires
and-requires c =
    subst (AllNumbers c.denied.new.arena) (sym c.deref.ensures.value) c.in_ok-ids.ensures.known

pub returns-then-not-are_of-clause-terms : goal.returns-then-not-are_of-clause-terms
returns-then-not-are_of-clause-terms c = record { extends = extends_same _; normals = refl; measures = refl }
