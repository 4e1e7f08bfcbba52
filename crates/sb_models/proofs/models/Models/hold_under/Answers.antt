use Rattle.std.proofs.Common.{length, map, false, true, [], refl, sym, ap, ap₂, ◌∙◌}
use Rattle.std.specs.List.{list_all}
use Rattle.sb_proof.specs.Lines.{value_in}
use Rattle.sb_stack.specs.Stacked.{live_in}
use Rattle.sb_models.specs.Knowing.{assertions_of}
use Rattle.sb_models.specs.Tried.{marks_of, word_given, one_given, texts_in, truths_in, is_assumed}
use Rattle.sb_models.proofs.WordFacts.{empty_but_given}
use Rattle.sb_models.proofs.Passing.{may_pass_of, true_kept_of}
use Rattle.sb_models.proofs.Judging.{no_words, not_assumed, tried, true_through}
use Rattle.sb_models.proofs.Knowledge.{knows_model, knows_no_model}
use Rattle.sb_regex.proofs.CallerLemmas.{extends_same}
use Rattle.sb_models.proofs.models.Models.hold_under.Goals as goal

pub returns-in_default-clause-ok : goal.returns-in_default-clause-ok
returns-in_default-clause-ok c =
    no_words (map live_in c.args.constants.items) (map value_in c.args.values.now) (assertions_of c.args.stack.now)
    c.args.stack.now.assumptions (rw c.in_default.is at c.in_ok-changed.ensures.none)

pub returns-then-not-are_assumed : goal.returns-then-not-are_assumed
returns-then-not-are_assumed c = record {
  ok = not_assumed c.args.constants.items c.args.values.now c.in_ok-truths.truths.items c.deref-4.result.now
      (assertions_of c.args.stack.now) c.args.stack.now.assumptions c.assumptions.result.now
      (λ serial. c.in_ok-truths.ensures serial
      ∙ ap (λ cs. one_given cs (truths_in c.args.values.now) serial false) c.deref-3.ensures.value)
      c.deref-4.ensures.value c.assumptions.ensures.value (sym c.are_assumed.ensures ∙ c.if-not-are_assumed.true);
  knows = knows_no_model c.args.self.now _ c.args.stack.now c.requires.knows refl c.replace-held.ensures.after
      (ap (λ v. v.items) c.replace-words.ensures.after ∙ c.new-2.ensures.items);
  extends = extends_same _;
  normals = c.requires.normals;
  right = c.requires.right;
}

pub are_true-requires-clause-pass : goal.are_true-requires-clause-pass
are_true-requires-clause-pass c =
    may_pass_of c.args.self.now.words.items c.replace-words.result.items c.change.new.words.items c.deref-7.result.now
    c.args.self.now.truths.items c.in_ok-truths.truths.items c.deref-8.result.now
    (marks_of c.in-Some.changed) c.args.self.now.held c.replace-held.result (assertions_of c.args.stack.now)
    (ap (λ v. v.items) c.replace-words.ensures.value) c.deref-7.ensures.value c.deref-8.ensures.value
    c.replace-held.ensures.value
    c.requires.knows.held c.requires.decided (rw c.in-Some.is at c.in_ok-changed.ensures.same)

pub are_true-requires-clause-before : goal.are_true-requires-clause-before
are_true-requires-clause-before c = λ same none.
    true_kept_of c.args.self.now.words.items c.replace-words.result.items c.change.new.words.items c.deref-7.result.now
    c.args.self.now.truths.items c.deref-8.result.now c.replace-last.result.items c.in_ok-truths.truths.items
    (marks_of c.in-Some.changed) c.args.self.now.held c.replace-held.result (assertions_of c.args.stack.now)
    (ap (λ v. v.items) c.replace-words.ensures.value) c.deref-7.ensures.value
    (ap (λ v. v.items) c.replace-last.ensures.value)
    (sym c.deref-5.ensures.value ∙ c.are_same-same.ensures same ∙ c.deref-6.ensures.value) c.deref-8.ensures.value
    c.replace-held.ensures.value c.requires.knows.held (rw c.in-Some.is at c.in_ok-changed.ensures.same) none

pub returns-then-not-branch-clause-ok : goal.returns-then-not-branch-clause-ok
returns-then-not-branch-clause-ok c =
    tried c.args.constants.items c.args.values.now c.change.new.words.items c.deref-7.result.now
    c.in_ok-truths.truths.items c.deref-8.result.now (assertions_of c.args.stack.now)
    c.args.stack.now.assumptions c.in_ok-are_true.field-0 false
    c.requires.kinds c.requires.named (rw c.in-Some.is at c.in_ok-changed.ensures.some)
    (λ serial. (rw c.in-Some.is at c.in_ok-changed.ensures.words) serial
    ∙ ap (λ cs. word_given cs (texts_in c.args.values.now) serial []) c.deref-2.ensures.value)
    (λ serial. c.in_ok-truths.ensures serial
    ∙ ap (λ cs. one_given cs (truths_in c.args.values.now) serial false) c.deref-3.ensures.value)
    (ap₂ (λ truths xs. list_all (is_assumed truths) xs) (sym c.deref-4.ensures.value) (sym c.assumptions.ensures.value)
    ∙ (sym c.are_assumed.ensures ∙ c.if-not-are_assumed.false))
    c.deref-7.ensures.value c.deref-8.ensures.value c.if-not-branch.true c.in_ok-are_true.ensures.ok

pub returns-clause-ok : goal.returns-clause-ok
returns-clause-ok c =
    tried c.args.constants.items c.args.values.now c.change.new.words.items c.deref-7.result.now
    c.in_ok-truths.truths.items c.deref-8.result.now (assertions_of c.args.stack.now)
    c.args.stack.now.assumptions c.in_ok-are_true.field-0 true
    c.requires.kinds c.requires.named (rw c.in-Some.is at c.in_ok-changed.ensures.some)
    (λ serial. (rw c.in-Some.is at c.in_ok-changed.ensures.words) serial
    ∙ ap (λ cs. word_given cs (texts_in c.args.values.now) serial []) c.deref-2.ensures.value)
    (λ serial. c.in_ok-truths.ensures serial
    ∙ ap (λ cs. one_given cs (truths_in c.args.values.now) serial false) c.deref-3.ensures.value)
    (ap₂ (λ truths xs. list_all (is_assumed truths) xs) (sym c.deref-4.ensures.value) (sym c.assumptions.ensures.value)
    ∙ (sym c.are_assumed.ensures ∙ c.if-not-are_assumed.false))
    c.deref-7.ensures.value c.deref-8.ensures.value c.if-not-branch.false c.in_ok-are_true.ensures.ok

pub returns-clause-knows : goal.returns-clause-knows
returns-clause-knows c =
    knows_model
    (record {
      fragment = record { inside = length c.assertions.result.now };
      held = length c.assertions.result.now;
      words = c.change.new.words;
      truths = c.in_ok-truths.truths;
      constants = c.args.constants;
    })
    c.args.stack.now (ap length c.assertions.ensures.value) refl c.assertions.ensures.numbers c.requires.decided
    (true_through c.change.new.words.items c.deref-7.result.now c.in_ok-truths.truths.items c.deref-8.result.now
    (assertions_of c.args.stack.now) c.in_ok-are_true.field-0 c.deref-7.ensures.value c.deref-8.ensures.value
    c.if-not-branch.false c.in_ok-are_true.ensures.ok)
    (empty_but_given c.args.constants.items (texts_in c.args.values.now) c.change.new.words.items (λ serial.
    (rw c.in-Some.is at c.in_ok-changed.ensures.words) serial
    ∙ ap (λ cs. word_given cs (texts_in c.args.values.now) serial []) c.deref-2.ensures.value))

pub returns-in_err-changed-clause-extends : goal.returns-in_err-changed-clause-extends
returns-in_err-changed-clause-extends c = extends_same _

pub returns-in_err-changed-clause-normals : goal.returns-in_err-changed-clause-normals
returns-in_err-changed-clause-normals c = c.requires.normals

pub returns-in_err-changed-clause-right : goal.returns-in_err-changed-clause-right
returns-in_err-changed-clause-right c = c.requires.right

pub returns-in_default-clause-extends : goal.returns-in_default-clause-extends
returns-in_default-clause-extends c = extends_same _

pub returns-in_default-clause-normals : goal.returns-in_default-clause-normals
returns-in_default-clause-normals c = c.requires.normals

pub returns-in_default-clause-right : goal.returns-in_default-clause-right
returns-in_default-clause-right c = c.requires.right

pub returns-in_err-truths-clause-extends : goal.returns-in_err-truths-clause-extends
returns-in_err-truths-clause-extends c = extends_same _

pub returns-in_err-truths-clause-normals : goal.returns-in_err-truths-clause-normals
returns-in_err-truths-clause-normals c = c.requires.normals

pub returns-in_err-truths-clause-right : goal.returns-in_err-truths-clause-right
returns-in_err-truths-clause-right c = c.requires.right

pub returns-in_err-are_true-clause-extends : goal.returns-in_err-are_true-clause-extends
returns-in_err-are_true-clause-extends c = c.are_true.ensures.extends

pub returns-in_err-are_true-clause-normals : goal.returns-in_err-are_true-clause-normals
returns-in_err-are_true-clause-normals c = c.are_true.ensures.normals

pub returns-in_err-are_true-clause-right : goal.returns-in_err-are_true-clause-right
returns-in_err-are_true-clause-right c = c.are_true.ensures.right

pub returns-then-not-branch-clause-extends : goal.returns-then-not-branch-clause-extends
returns-then-not-branch-clause-extends c = c.are_true.ensures.extends

pub returns-then-not-branch-clause-normals : goal.returns-then-not-branch-clause-normals
returns-then-not-branch-clause-normals c = c.are_true.ensures.normals

pub returns-then-not-branch-clause-right : goal.returns-then-not-branch-clause-right
returns-then-not-branch-clause-right c = c.are_true.ensures.right

pub returns-clause-extends : goal.returns-clause-extends
returns-clause-extends c = c.are_true.ensures.extends

pub returns-clause-normals : goal.returns-clause-normals
returns-clause-normals c = c.are_true.ensures.normals

pub returns-clause-right : goal.returns-clause-right
returns-clause-right c = c.are_true.ensures.right

pub are_true-requires-clause-decided : goal.are_true-requires-clause-decided
are_true-requires-clause-decided c = c.requires.decided

pub are_true-requires-clause-normals : goal.are_true-requires-clause-normals
are_true-requires-clause-normals c = c.requires.normals

pub are_true-requires-clause-right : goal.are_true-requires-clause-right
are_true-requires-clause-right c = c.requires.right

pub returns-in_err-changed-clause-knows : goal.returns-in_err-changed-clause-knows
returns-in_err-changed-clause-knows c =
    knows_no_model c.args.self.now _ c.args.stack.now c.requires.knows refl c.replace-held.ensures.after
    (ap (λ v. v.items) c.replace-words.ensures.after ∙ c.new-2.ensures.items)

pub returns-in_default-clause-knows : goal.returns-in_default-clause-knows
returns-in_default-clause-knows c =
    knows_no_model c.args.self.now _ c.args.stack.now c.requires.knows refl c.replace-held.ensures.after
    (ap (λ v. v.items) c.replace-words.ensures.after ∙ c.new-2.ensures.items)

pub returns-in_err-truths-clause-knows : goal.returns-in_err-truths-clause-knows
returns-in_err-truths-clause-knows c =
    knows_no_model c.args.self.now _ c.args.stack.now c.requires.knows refl c.replace-held.ensures.after
    (ap (λ v. v.items) c.replace-words.ensures.after ∙ c.new-2.ensures.items)

pub returns-in_err-are_true-clause-knows : goal.returns-in_err-are_true-clause-knows
returns-in_err-are_true-clause-knows c =
    knows_no_model c.args.self.now _ c.args.stack.now c.requires.knows refl c.replace-held.ensures.after
    (ap (λ v. v.items) c.replace-words.ensures.after ∙ c.new-2.ensures.items)

pub returns-then-not-branch-clause-knows : goal.returns-then-not-branch-clause-knows
returns-then-not-branch-clause-knows c =
    knows_no_model c.args.self.now _ c.args.stack.now c.requires.knows refl c.replace-held.ensures.after
    (ap (λ v. v.items) c.replace-words.ensures.after ∙ c.new-2.ensures.items)
