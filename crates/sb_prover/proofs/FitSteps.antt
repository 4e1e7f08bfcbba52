-- Behind each entry of a script its terms fit the sorts of the constants, and the script goes on.
use Rattle.sb_prover.proofs.Words.{◌≡◌, ℕ, List, Option, Some, None, sym, subst, Continues, EntriesLeadOn, EntriesStayFit, GoesDown, IsFit, IsStep, LeadsOn, LeadsTo, State, Step, answers, asked_in, checks, exits, leaves, leaving_in, step_of}
use Rattle.sb_script.specs.Steps as meaning
use Rattle.sb_stack.specs.declared.stack.Step.TheVariants as code

stays-same : (old new : State) → new ≡ old → IsFit old → IsFit new × Continues (asked_in old) (asked_in new)
stays-same old new same fit =
    subst (λ (s : State). IsFit s × Continues (asked_in old) (asked_in s)) (sym same)
    (fit, record { sorts = λ v has. has; live = λ place a there. there })

goes-down : (what : meaning.Leaving) (level : Option ℕ) (old s : State) (text : List ℕ) → what ≡ leaving_in level
    → LeadsOn old (leaves what text s) → IsFit s × GoesDown level (asked_in old) (asked_in s)
goes-down what None old s text is leads =
    let all-left = subst (λ (w : meaning.Leaving). LeadsOn old (leaves w text s)) is leads in (all-left.1, tt)
goes-down what (Some level) old s text is leads =
    let left = subst (λ (w : meaning.Leaving). LeadsOn old (leaves w text s)) is leads in (left.1, left.0)

by-code : (x : meaning.Step) (old new : State) (step : Step) → IsStep x step old new → LeadsOn old x → IsFit old
    → IsFit new × LeadsTo step old new
by-code (leaves what text s) old new (code.Left bytes level) h leads fit =
    subst (λ (t : State). IsFit t × GoesDown level (asked_in old) (asked_in t)) (sym h.1.1)
    (goes-down what level old s text h.1.0 leads)
by-code (answers text s) old new (code.Answer bytes) h leads fit =
    subst (λ (t : State). IsFit t × Continues (asked_in old) (asked_in t)) (sym h.1) (leads.1, leads.0)
by-code (checks given) old new code.Check h leads fit = stays-same old new h fit
by-code (exits text) old new (code.Exit bytes) h leads fit = stays-same old new h.1 fit
by-code _ old new _ h leads fit = absurd h

pub entries-fit : EntriesLeadOn → EntriesStayFit
entries-fit lead entry old new step is fit =
    by-code (step_of entry old) old new step is (lead entry old fit) fit
