-- An entry of the script, and what is known behind it.
use Rattle.std.proofs.Common.{◌≡◌, ℕ, List, [], ◌∷◌, length, Option, Some, None, Ok, ap, sym, refl, ◌∙◌, subst}
use Rattle.std.specs.declared.vec.Vec.{Vec}
use Rattle.std.specs.declared.alloc.Global.{Global}
use Rattle.std.specs.declared.alloc.AllocError.{AllocError}
use Rattle.sb_meaning.specs.Terms.{Term}
use Rattle.sb_script.specs.State.{State}
use Rattle.sb_script.specs.Steps as meaning
use Rattle.sb_rulebook.specs.Kept.{AllKept, nothing_kept}
use Rattle.sb_rulebook.specs.Judging.{Event, asks, Phase, at_rest, at_check, at_end, behind_end, stopped, Progress, met, meets}
use Rattle.sb_rulebook.specs.Accepted.{question_in, event_of_leaving, events_of}
use Rattle.sb_regex.proofs.CallerLemmas.{extends_same}
use Rattle.sb_term.specs.Numbered.{Extends}
use Rattle.sb_problem.specs.Laws.{NormalsStay}
use Rattle.sb_fragment.proofs.CallerLemmas.{measures_kept}
use Rattle.sb_rules.specs.Kept.{IsOver, kept_in, left_in}
use Rattle.sb_models.specs.Knowing.{Knows}
use Rattle.sb_models.specs.Laws.{ModelsStay, LeavesKnown}
use Rattle.sb_stack.specs.declared.stack.Step.{Step}
use Rattle.sb_stack.specs.declared.stack.Step.TheVariants as code
use Rattle.sb_stack.specs.Stacked.{Stacked, state_of, given_in, IsLonger}
use Rattle.sb_stack.specs.Steps.{IsStep, IsUnder, IsMoved, leaving_in}
use Rattle.sb_check.specs.declared.entry.Entered.{Entered}
use Rattle.sb_check.specs.declared.entry.Entered.TheVariants as entered
use Rattle.sb_check.specs.declared.judge.Judge.{Judge}
use Rattle.sb_check.specs.Standing.{IsStanding, IsAt}
use Rattle.sb_check.specs.Entering.{Enters, behind}

-- what becomes of the entry, by the answer of the stack
abbrev pub entered_by : Step → Entered
entered_by (code.Answer text) = entered.Goes
entered_by (code.Left text level) = entered.Left
entered_by code.Check = entered.Waits
entered_by (code.Exit text) = entered.Ends

-- how assertions move, where this is the answer of the stack
abbrev pub MovesBy : Step → Stacked → Stacked → Type 0
MovesBy step old new = IsMoved {E = AllocError} (Ok step) old.assertions new.assertions

pub enters : (is : meaning.Step) (step : Step) (old : State) (new : Stacked) → IsStep is step old (state_of new)
    → IsUnder is step (given_in new) → Enters (entered_by step) is old new
enters (meaning.answers bytes s) (code.Answer text) old new h under = (refl, ap (λ n. Some n) (sym h.1))
enters (meaning.answers bytes s) (code.Left text level) old new h under = absurd h
enters (meaning.answers bytes s) code.Check old new h under = absurd h
enters (meaning.answers bytes s) (code.Exit text) old new h under = absurd h
enters (meaning.leaves what bytes s) (code.Answer text) old new h under = absurd h
enters (meaning.leaves what bytes s) (code.Left text level) old new h under =
    (what, (refl, ap (λ t. Some t) (sym h.1.1)))
enters (meaning.leaves what bytes s) code.Check old new h under = absurd h
enters (meaning.leaves what bytes s) (code.Exit text) old new h under = absurd h
enters (meaning.checks given) (code.Answer text) old new h under = absurd h
enters (meaning.checks given) (code.Left text level) old new h under = absurd h
enters (meaning.checks given) code.Check old new h under = (
  ap (λ step. events_of step old) under ∙ ap (λ s. asks (question_in s (given_in new)) ∷ []) (sym h),
  ap (λ s. Some s) (sym h),
)
enters (meaning.checks given) (code.Exit text) old new h under = absurd h
enters (meaning.exits bytes) (code.Answer text) old new h under = absurd h
enters (meaning.exits bytes) (code.Left text level) old new h under = absurd h
enters (meaning.exits bytes) code.Check old new h under = absurd h
enters (meaning.exits bytes) (code.Exit text) old new h under = (refl, refl)

-- Levels were left.

meets_at_rest : (e : Event) (p : Progress) → p.phase ≡ at_rest → meets e p ≡ met e p
meets_at_rest e p is = ap (λ (phase : Phase). elim phase as (λ _. Progress) [
  | at_rest ↦ met e p
  | at_check q ↦ p
  | at_end ↦ p
  | behind_end ↦ p
  | stopped n refusal ↦ p
]) is

left_by : (is : meaning.Step) (text : Vec ℕ Global) (level : Option ℕ) (old new : State)
    → IsStep is (code.Left text level) old new → events_of is old ≡ event_of_leaving (leaving_in level) ∷ []
left_by (meaning.answers bytes s) text level old new h = absurd h
left_by (meaning.leaves what bytes s) text level old new h = ap (λ l. event_of_leaving l ∷ []) h.1.0
left_by (meaning.checks given) text level old new h = absurd h
left_by (meaning.exits bytes) text level old new h = absurd h

met_leaving : (level : Option ℕ) (p : Progress)
    → met (event_of_leaving (leaving_in level)) p ≡ record p { kept = left_in level p.kept }
met_leaving (Some n) p = refl
met_leaving None p = refl

-- the proof has come behind the event
at_left : (level : Option ℕ) (j k : Judge) (p : Progress) → k.begun ≡ j.begun → k.next ≡ j.next
    → ((others : AllKept) → kept_in k.kept others ≡ left_in level (kept_in j.kept others)) → IsAt at_rest j p
    → IsAt at_rest k (record p { kept = left_in level p.kept })
at_left level j k p begun next kept at = record {
  is = at.is;
  begun = at.begun ∙ sym begun;
  next = at.next ∙ sym next;
  others = at.others;
  format = at.format;
  kept = ap (left_in level) at.kept ∙ sym (kept at.others);
}

pub behind_left : (is : meaning.Step) (text : Vec ℕ Global) (level : Option ℕ) (old new : State) (j k : Judge)
    → IsStep is (code.Left text level) old new → k.begun ≡ j.begun → k.next ≡ j.next
    → ((others : AllKept) → kept_in k.kept others ≡ left_in level (kept_in j.kept others))
    → (p : Progress) → IsAt at_rest j p → IsAt at_rest k (behind (events_of is old) p)
behind_left is text level old new j k h begun next kept p at =
    subst (λ q. IsAt at_rest k q)
    (sym (ap (λ es. behind es p) (left_by is text level old new h)
    ∙ (meets_at_rest (event_of_leaving (leaving_in level)) p at.is ∙ met_leaving level p)))
    (at_left level j k p begun next kept at)

left_nothing : (level : Option ℕ) (format : ℕ) → left_in level (nothing_kept format) ≡ nothing_kept format
left_nothing (Some n) format = refl
left_nothing None format = refl

pub stands_left : (level : Option ℕ) (j k : Judge) (stack : Stacked) → k.stack ≡ stack → IsStanding j
    → Extends j.stack.table stack.table → IsLonger stack.assertions j.stack.assertions → NormalsStay
    → k.begun ≡ j.begun
    → ((others : AllKept) → kept_in k.kept others ≡ left_in level (kept_in j.kept others))
    → ((ts : List Term) → IsOver ts j.kept → IsOver ts k.kept)
    → LeavesKnown (length stack.assertions) j.models k.models → IsStanding k
stands_left level j k stack is h e shorter normals begun kept over models = record {
  over = subst (λ (s : Stacked). IsOver s.table k.kept) (sym is) (over stack.table (record {
    whole = h.over.whole;
    normals = normals j.stack.table stack.table j.kept.arena j.kept.arena j.kept.normals e (extends_same j.kept.arena)
        h.over.normals;
    measures = measures_kept j.stack.table stack.table j.kept.measures e h.over.measures;
  }));
  models = subst (λ (s : Stacked). Knows k.models s) (sym is) (models j.stack stack e shorter refl h.models);
  fresh = λ b format. kept (nothing_kept format)
      ∙ (ap (left_in level) (h.fresh (sym begun ∙ b) format) ∙ left_nothing level format);
}

-- what is known of the state is known of the next one
pub stands : (j : Judge) (stack : Stacked) → IsStanding j → Extends j.stack.table stack.table
    → IsLonger j.stack.assertions stack.assertions → NormalsStay → ModelsStay → IsStanding (record j { stack = stack })
stands j stack h e longer normals models = record {
  over = record {
    whole = h.over.whole;
    normals = normals j.stack.table stack.table j.kept.arena j.kept.arena j.kept.normals e (extends_same j.kept.arena)
        h.over.normals;
    measures = measures_kept j.stack.table stack.table j.kept.measures e h.over.measures;
  };
  models = models j.models j.stack stack e longer h.models;
  fresh = h.fresh;
}
