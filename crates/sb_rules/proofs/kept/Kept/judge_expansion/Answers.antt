use Rattle.std.proofs.lemmas.Option.{slice_get_within}
use Rattle.std.proofs.lemmas.Result.{err_from_is_err_and}
use Rattle.std.proofs.Common.{◌≡◌, length, false, map, option_map, refl, ap, sym, slice_get, ◌∙◌}
use Rattle.std.proofs.lemmas.List.{length-map}
use Rattle.sb_regex.specs.Numbered.{regex_at}
use Rattle.sb_regex.proofs.CallerLemmas.{numbers_kept, extends_same}
use Rattle.sb_atoms.proofs.CallerLemmas.{regexes_kept}
use Rattle.sb_rulebook.specs.Expansions as rules
use Rattle.sb_rulebook.specs.Kept.{counting, with_expansion}
use Rattle.sb_rulebook.specs.Parts.{together}
use Rattle.sb_rules.specs.Branches.{branches_at}
use Rattle.sb_rules.specs.Kept.{kept_in}
use Rattle.sb_rules.proofs.Staying.{same_kept, found_below}
use Rattle.sb_rules.proofs.Expanded.{unknown_target, by_expansion, expansion_wanted, judged_by}
use Rattle.sb_rules.proofs.Judged.{known_number}
use Rattle.sb_rules.proofs.kept.Kept.judge_expansion.Goals as goal

pub returns-in_default-2-clause-judges : goal.returns-in_default-2-clause-judges
returns-in_default-2-clause-judges c = λ asked others. (
  unknown_target asked c.args.self.now others c.args.number c.in-Some.regex c.args.classes.now
      (sym c.in-Some.ensures)
      (ap (λ ns. together (map (slice_get c.args.self.now.regexes.order) ns)) (sym c.requires.targets)
      ∙ (sym c.in_ok-ids.ensures ∙ ap (option_map (λ ids. ids.items)) c.in_default-2.is)),
  refl,
)

pub is_expansion-requires-clause-targets : goal.is_expansion-requires-clause-targets
is_expansion-requires-clause-targets c = rw c.deref.ensures.value
    (found_below _ c.args.self.now.regexes.order c.args.targets.now c.in-Some-2.ids.items c.requires.whole.regexes
    (ap (option_map (λ ids. ids.items)) (sym c.in-Some-2.is) ∙ c.in_ok-ids.ensures)).0

pub is_expansion-requires-clause-long : goal.is_expansion-requires-clause-long
is_expansion-requires-clause-long c = rw c.deref.ensures.value
    ((found_below _ c.args.self.now.regexes.order c.args.targets.now c.in-Some-2.ids.items c.requires.whole.regexes
    (ap (option_map (λ ids. ids.items)) (sym c.in-Some-2.is) ∙ c.in_ok-ids.ensures)).1
    ∙ ap length c.requires.targets ∙ length-map c.args.classes.now (λ k. k.target))

pub returns-then-is_expanded-clause-judges : goal.returns-then-is_expanded-clause-judges
returns-then-is_expanded-clause-judges c = λ asked others. (
  by_expansion asked c.args.self.now others c.args.number c.in-Some.regex c.args.classes.now c.in-Some-2.ids.items
      (sym c.in-Some.ensures)
      (ap (λ ns. together (map (slice_get c.args.self.now.regexes.order) ns)) (sym c.requires.targets)
      ∙ (sym c.in_ok-ids.ensures ∙ ap (option_map (λ ids. ids.items)) c.in-Some-2.is))
      ∙ ap (λ b. judged_by asked c.args.self.now others c.args.number c.args.classes.now b
      (rules.is_expansion (regex_at c.args.self.now.arena c.in-Some.regex)
      (branches_at c.args.self.now.arena c.args.classes.now c.in-Some-2.ids.items)))
      (sym c.is_expanded.ensures ∙ c.if-is_expanded.true),
  refl,
)

pub returns-then-not-branch-clause-judges : goal.returns-then-not-branch-clause-judges
returns-then-not-branch-clause-judges c = λ asked others. (
  by_expansion asked c.args.self.now others c.args.number c.in-Some.regex c.args.classes.now c.in-Some-2.ids.items
      (sym c.in-Some.ensures)
      (ap (λ ns. together (map (slice_get c.args.self.now.regexes.order) ns)) (sym c.requires.targets)
      ∙ (sym c.in_ok-ids.ensures ∙ ap (option_map (λ ids. ids.items)) c.in-Some-2.is))
      ∙ (ap (λ b. judged_by asked c.args.self.now others c.args.number c.args.classes.now b
      (rules.is_expansion (regex_at c.args.self.now.arena c.in-Some.regex)
      (branches_at c.args.self.now.arena c.args.classes.now c.in-Some-2.ids.items)))
      (sym c.is_expanded.ensures ∙ c.if-is_expanded.false)
      ∙ ap (λ b. judged_by asked c.args.self.now others c.args.number c.args.classes.now false b)
      (ap (λ xs. rules.is_expansion (regex_at c.args.self.now.arena c.in-Some.regex)
      (branches_at c.args.self.now.arena c.args.classes.now xs)) (sym c.deref.ensures.value)
      ∙ (sym c.in_ok-is_expansion.ensures.ok ∙ c.if-not-branch.true))),
  same_kept c.args.self.now (record c.args.self.now {
    arena = c.is_expansion.new.arena;
    plain = c.is_expansion.new.plain;
  }) others c.requires.whole c.is_expansion.ensures.extends refl refl refl refl,
)

pub returns-clause-judges : goal.returns-clause-judges
returns-clause-judges c = λ asked others.
    let new = record c.args.self.now { arena = c.is_expansion.new.arena; plain = c.is_expansion.new.plain } in
    let same : kept_in new others ≡ kept_in c.args.self.now others =
    same_kept c.args.self.now new others c.requires.whole c.is_expansion.ensures.extends refl refl refl refl in (
      by_expansion asked c.args.self.now others c.args.number c.in-Some.regex c.args.classes.now c.in-Some-2.ids.items
          (sym c.in-Some.ensures)
          (ap (λ ns. together (map (slice_get c.args.self.now.regexes.order) ns)) (sym c.requires.targets)
          ∙ (sym c.in_ok-ids.ensures ∙ ap (option_map (λ ids. ids.items)) c.in-Some-2.is))
          ∙ (ap (λ b. judged_by asked c.args.self.now others c.args.number c.args.classes.now b
          (rules.is_expansion (regex_at c.args.self.now.arena c.in-Some.regex)
          (branches_at c.args.self.now.arena c.args.classes.now c.in-Some-2.ids.items)))
          (sym c.is_expanded.ensures ∙ c.if-is_expanded.false)
          ∙ (ap (λ b. judged_by asked c.args.self.now others c.args.number c.args.classes.now false b)
          (ap (λ xs. rules.is_expansion (regex_at c.args.self.now.arena c.in-Some.regex)
          (branches_at c.args.self.now.arena c.args.classes.now xs)) (sym c.deref.ensures.value)
          ∙ (sym c.in_ok-is_expansion.ensures.ok ∙ c.if-not-branch.false))
          ∙ ap (λ k. counting asked (with_expansion c.args.number (map (λ k. k.target) c.args.classes.now) k)) (sym same))),
      same,
    )

pub returns-clause-known : goal.returns-clause-known
returns-clause-known c = slice_get_within c.args.self.now.regexes.order c.args.number c.in-Some.regex (sym c.in-Some.ensures)

pub returns-clause-whole : goal.returns-clause-whole
returns-clause-whole c = record {
  regexes = numbers_kept _ _ _ c.is_expansion.ensures.extends c.requires.whole.regexes;
  plain = c.is_expansion.ensures.right;
  atoms = regexes_kept _ _ _ c.is_expansion.ensures.extends c.requires.whole.atoms;
  brought = c.requires.whole.brought;
  formed = c.requires.whole.formed;
}

pub returns-then-not-branch-clause-whole : goal.returns-then-not-branch-clause-whole
returns-then-not-branch-clause-whole c = record {
  regexes = numbers_kept _ _ _ c.is_expansion.ensures.extends c.requires.whole.regexes;
  plain = c.is_expansion.ensures.right;
  atoms = regexes_kept _ _ _ c.is_expansion.ensures.extends c.requires.whole.atoms;
  brought = c.requires.whole.brought;
  formed = c.requires.whole.formed;
}

pub returns-in_err-is_expansion-clause-whole : goal.returns-in_err-is_expansion-clause-whole
returns-in_err-is_expansion-clause-whole c = record {
  regexes = numbers_kept _ _ _ c.is_expansion.ensures.extends c.requires.whole.regexes;
  plain = c.is_expansion.ensures.right;
  atoms = regexes_kept _ _ _ c.is_expansion.ensures.extends c.requires.whole.atoms;
  brought = c.requires.whole.brought;
  formed = c.requires.whole.formed;
}

pub is_expansion-requires-clause-known : goal.is_expansion-requires-clause-known
is_expansion-requires-clause-known c =
    known_number c.args.self.now.arena c.args.self.now.regexes.order c.args.number c.in-Some.regex
    c.requires.whole.regexes (sym c.in-Some.ensures)

pub returns-then-is_expanded-clause-terms : goal.returns-then-is_expanded-clause-terms
returns-then-is_expanded-clause-terms c = record { extends = extends_same _; normals = refl; measures = refl }

pub returns-in_err-ids-clause-terms : goal.returns-in_err-ids-clause-terms
returns-in_err-ids-clause-terms c = record { extends = extends_same _; normals = refl; measures = refl }

pub returns-in_default-2-clause-terms : goal.returns-in_default-2-clause-terms
returns-in_default-2-clause-terms c = record { extends = extends_same _; normals = refl; measures = refl }

pub returns-in_err-ids-clause-judges : goal.returns-in_err-ids-clause-judges
returns-in_err-ids-clause-judges c = λ asked.
    let x = c.from_residual in
    let p = err_from_is_err_and x.result x.ensures.1 in
    expansion_wanted _ x.result p.0 asked c.args.self.now c.args.self.now c.args.number c.args.classes.now p.1 p.2
    (λ others. refl)

pub returns-in_err-is_expansion-clause-judges : goal.returns-in_err-is_expansion-clause-judges
returns-in_err-is_expansion-clause-judges c = λ asked.
    let x = c.from_residual-in_err-is_expansion in
    let p = err_from_is_err_and x.result x.ensures.1 in
    let new = record c.args.self.now { arena = c.is_expansion.new.arena; plain = c.is_expansion.new.plain } in
    expansion_wanted _ x.result p.0 asked c.args.self.now new c.args.number c.args.classes.now p.1 p.2
    (λ others. same_kept c.args.self.now new others c.requires.whole c.is_expansion.ensures.extends refl refl refl refl)
