-- Which lines that give a clause are accepted.
use Rattle.std.proofs.Common.{◌≡◌, ℕ, Bool, true, false, not, ◌&&◌, if◌then◌else◌, List, [], ◌∷◌, length, slice_get, Option, Some, None, Result, Ok, Err, refl, sym, ap, ◌∙◌}
use Rattle.std.proofs.lemmas.Bool.{and_parts, and_from, not-false, ltb-true, lt-ltb}
use Rattle.sb_lit.specs.declared.clause.Lit.{Lit}
use Rattle.sb_lit.specs.Clauses.{are_ascending}
use Rattle.sb_lit.specs.Hints.{Unlearned, is_repeated, learned}
use Rattle.sb_lit.proofs.CallerLemmas.{is_same_literal-self}
use Rattle.sb_meaning.specs.Terms.{Term}
use Rattle.sb_rulebook.specs.Refusals.{Refusal, unknown_id, repeated, rule_broken}
use Rattle.sb_rulebook.specs.Atoms.{Atom}
use Rattle.sb_rulebook.specs.AtomRules.{is_known, are_known}
use Rattle.sb_rulebook.specs.Translation.{translation}
use Rattle.sb_rulebook.specs.Lines.{Rule, gate, order, linear, step, empty}
use Rattle.sb_rulebook.specs.Kept.{AllKept, Asked, counting, with_clause, rests_of_any}
use Rattle.sb_script.specs.Brought.{a_statement_of, is_brought}
use Rattle.sb_rulebook.specs.ClauseRules.{holds_by, is_counted, follows_rule, is_this, is_translation, asserted, follows_assertion, refusal_of, follows_learned}
use Rattle.sb_sound.specs.GateLaws.{GatesAreExact}
use Rattle.sb_sound.specs.BoundLaws.{OrdersAreExact}
use Rattle.sb_sound.specs.LinearLaws.{LinearIsExact}
use Rattle.sb_sound.specs.MembershipLaws.{StepsAreExact, EmptyIsExact}
use Rattle.sb_sound.specs.HintLaws.{LearnedIsExact}
use Rattle.sb_sound.specs.ClauseLaws.{AreDefined, IsOfRule, IsByRule, RuleLinesAreExact, IsLearnedLine, LearnedLinesAreExact, IsAssertionLine, AssertionLinesAreExact}
use Rattle.sb_sound.proofs.Accepting.{some_of, if_so, if_not, same_ok}
use Rattle.sb_sound.proofs.ClauseGrowth.{translation-parts, learned-parts}
use Rattle.sb_sound.proofs.ExpansionForms.{counting_form, from_counting}
use Rattle.sb_sound.proofs.HintForms.{no_subset_form, from_no_subset, ascend_form, from_ascend}
use Rattle.sb_sound.proofs.PassFacts.{all_contained, all_from}

defined_form : (atoms : List Atom) (clause : List Lit) → are_known atoms clause ≡ true → AreDefined atoms clause
defined_form atoms clause h l within = ltb-true l.atom (length atoms) (all_contained (is_known atoms) clause l h within)

from_defined : (atoms : List Atom) (clause : List Lit) → AreDefined atoms clause → are_known atoms clause ≡ true
from_defined atoms clause h =
    all_from (is_known atoms) clause (λ l within. lt-ltb l.atom (length atoms) (h l within))

-- Rules.

module _ (gates : GatesAreExact) (orders : OrdersAreExact) (sums : LinearIsExact) (steps : StepsAreExact)
    (empties : EmptyIsExact) where
  form_of : (kept : AllKept) (rule : Rule) (clause : List Lit) → holds_by kept rule clause ≡ true
      → IsOfRule kept rule clause
  form_of kept gate clause h = (gates kept.atoms clause).0 h
  form_of kept order clause h = (orders kept.atoms clause).0 h
  form_of kept linear clause h = (sums kept.atoms clause).0 h
  form_of kept step clause h = (steps kept.atoms clause).0 h
  form_of kept empty clause h = (empties kept clause).0 h

  from_form : (kept : AllKept) (rule : Rule) (clause : List Lit) → IsOfRule kept rule clause
      → holds_by kept rule clause ≡ true
  from_form kept gate clause h = (gates kept.atoms clause).1 h
  from_form kept order clause h = (orders kept.atoms clause).1 h
  from_form kept linear clause h = (sums kept.atoms clause).1 h
  from_form kept step clause h = (steps kept.atoms clause).1 h
  from_form kept empty clause h = (empties kept clause).1 h

  rule_form : (asked : Asked) (kept after : AllKept) (rule : Rule) (clause : List Lit)
      → follows_rule asked kept rule clause ≡ Ok after → IsByRule asked kept after rule clause
  rule_form asked kept after rule clause h =
      let now = with_clause kept clause 0 [] in
      let last : Result AllKept Refusal = if is_counted rule then counting asked now else Ok now in
      let known = are_known kept.atoms clause in
      let again = is_counted rule && is_repeated kept.clauses clause in
      let right = are_ascending clause && holds_by kept rule clause in
      let one =
      if_not (not known) unknown_id
      (if again then Err repeated else if not right then Err rule_broken else last) after h in
      let two = if_not again repeated (if not right then Err rule_broken else last) after one.1 in
      let three = if_not (not right) rule_broken last after two.1 in
      let both = and_parts (are_ascending clause) (holds_by kept rule clause) (not-false right three.0) in
      record {
        defined = defined_form kept.atoms clause (not-false known one.0);
        ascend = ascend_form clause both.0;
        form = form_of kept rule clause both.1;
        new = λ counted.
            no_subset_form kept.clauses clause
            (sym (ap (λ b. b && is_repeated kept.clauses clause) counted) ∙ two.0);
        counts = λ counted.
            counting_form asked now after
            (sym (ap (λ b. if b then counting asked now else Ok now) counted) ∙ three.1);
        is_free = λ free.
            sym (same_ok {E = Refusal} now after
            (sym (ap (λ b. if b then counting asked now else Ok now) free) ∙ three.1));
      }

  from_rule : (asked : Asked) (kept after : AllKept) (rule : Rule) (clause : List Lit)
      → IsByRule asked kept after rule clause → follows_rule asked kept rule clause ≡ Ok after
  from_rule asked kept after rule clause e =
      let right = are_ascending clause && holds_by kept rule clause in
      ap (λ b. if not b then Err unknown_id else if is_counted rule && is_repeated kept.clauses clause then Err repeated
      else if not right then Err rule_broken else last) (from_defined kept.atoms clause e.defined)
      ∙ ap (λ b. if b then Err repeated else if not right then Err rule_broken else last) (new (is_counted rule) refl)
      ∙ ap (λ b. if not b then Err rule_broken else last)
      (and_from (are_ascending clause) (holds_by kept rule clause) (from_ascend clause e.ascend)
      (from_form kept rule clause e.form))
      ∙ ends (is_counted rule) refl
    where
      now : AllKept
      now = with_clause kept clause 0 []

      last : Result AllKept Refusal
      last = if is_counted rule then counting asked now else Ok now

      new : (b : Bool) → is_counted rule ≡ b → (is_counted rule && is_repeated kept.clauses clause) ≡ false
      new true counted =
          ap (λ b. b && is_repeated kept.clauses clause) counted ∙ from_no_subset kept.clauses clause (e.new counted)
      new false free = ap (λ b. b && is_repeated kept.clauses clause) free

      ends : (b : Bool) → is_counted rule ≡ b → last ≡ Ok after
      ends true counted =
          ap (λ b. if b then counting asked now else Ok now) counted
          ∙ from_counting asked now after (e.counts counted).0 (e.counts counted).1
      ends false free = ap (λ b. if b then counting asked now else Ok now) free ∙ ap Ok (sym (e.is_free free))

  pub rule_lines_exact : RuleLinesAreExact
  rule_lines_exact asked kept after rule clause =
      (rule_form asked kept after rule clause, from_rule asked kept after rule clause)

-- Learned clauses.

-- what a learned line gives
abbrev given : Asked → AllKept → List Lit → List ℕ → Result ℕ Unlearned → Result AllKept Refusal
given asked kept clause ids r = elim r as (λ _. Result AllKept Refusal) [
  | Err unlearned ↦ Err (refusal_of unlearned)
  | Ok level ↦ counting asked (with_clause kept clause level (rests_of_any kept ids))
]

learned_form : LearnedIsExact → (asked : Asked) (kept after : AllKept) (clause : List Lit) (ids : List ℕ)
    → follows_learned asked kept clause ids ≡ Ok after → IsLearnedLine asked kept after clause ids
learned_form exact asked kept after clause ids h =
    let known = are_known kept.atoms clause in
    let one =
    if_not (not known) unknown_id (given asked kept clause ids (learned kept.clauses clause ids)) after h in
    let l =
    learned-parts asked kept after clause (rests_of_any kept ids) (learned kept.clauses clause ids) one.1 in
    record {
      defined = defined_form kept.atoms clause (not-false known one.0);
      level = l.0;
      by_hints = (exact kept.clauses clause ids l.0).0 l.1;
      counts = counting_form asked (with_clause kept clause l.0 (rests_of_any kept ids)) after l.2;
    }

from_learned : LearnedIsExact → (asked : Asked) (kept after : AllKept) (clause : List Lit) (ids : List ℕ)
    → IsLearnedLine asked kept after clause ids → follows_learned asked kept clause ids ≡ Ok after
from_learned exact asked kept after clause ids e =
    ap (λ b. if not b then Err unknown_id else given asked kept clause ids (learned kept.clauses clause ids))
    (from_defined kept.atoms clause e.defined)
    ∙ ap (given asked kept clause ids) ((exact kept.clauses clause ids e.level).1 e.by_hints)
    ∙ from_counting asked (with_clause kept clause e.level (rests_of_any kept ids)) after e.counts.0 e.counts.1

pub learned_lines_exact : LearnedIsExact → LearnedLinesAreExact
learned_lines_exact exact asked kept after clause ids =
    (learned_form exact asked kept after clause ids, from_learned exact asked kept after clause ids)

-- Assertions.

assertion_form : (asked : Asked) (kept after : AllKept) (place : ℕ) (l : Lit)
    → follows_assertion asked kept place l ≡ Ok after → IsAssertionLine asked kept after place l
assertion_form asked kept after place l h =
    let atoms = kept.atoms in
    let found =
    some_of (slice_get asked.live place) unknown_id
    (λ (a : Option Term × ℕ). if is_known atoms l then asserted kept place a l else Err unknown_id) after h in
    let a = found.0 in
    let now = with_clause kept (l ∷ []) a.1 (place ∷ []) in
    let known = if_so (is_known atoms l) unknown_id (asserted kept place a l) after found.2 in
    let right = if_so (is_translation atoms a.0 l) rule_broken (Ok now) after known.1 in
    let of_term = translation-parts atoms a.0 l right.0 in
    record {
      term = of_term.term;
      level = a.1;
      live = found.1 ∙ ap (λ (o : Option Term). Some (o, a.1)) of_term.is;
      stated = of_term.stated;
      defined = ltb-true l.atom (length atoms) known.0;
      literal = of_term.there;
      is_kept = sym (same_ok {E = Refusal} now after right.1);
    }

from_assertion : (asked : Asked) (kept after : AllKept) (place : ℕ) (l : Lit)
    → IsAssertionLine asked kept after place l → follows_assertion asked kept place l ≡ Ok after
from_assertion asked kept after place l e =
    let atoms = kept.atoms in
    let now = with_clause kept (l ∷ []) e.level (place ∷ []) in
    ap (λ o. elim o as (λ _. Result AllKept Refusal) [
      | None ↦ Err unknown_id
      | Some a ↦ if is_known atoms l then asserted kept place a l else Err unknown_id
    ]) e.live
    ∙ ap (λ b. if b then asserted kept place (Some e.term, e.level) l else Err unknown_id)
    (lt-ltb l.atom (length atoms) e.defined)
    ∙ ap (λ b. if b then Ok now else Err rule_broken)
    (and_from (is_brought (a_statement_of e.term)) (is_this l (translation atoms e.term)) e.stated
    (ap (is_this l) e.literal ∙ is_same_literal-self l))
    ∙ ap Ok (sym e.is_kept)

pub assertion_lines_exact : AssertionLinesAreExact
assertion_lines_exact asked kept after place l =
    (assertion_form asked kept after place l, from_assertion asked kept after place l)
