-- What an entry of a script makes of the live assertions with their levels.
use Rattle.sb_prover.proofs.Words.{◌≡◌, ℕ, List, [], ◌∷◌, ◌++◌, length, take, Option, Some, None, IfSome, refl, sym, subst, ◌∙◌, AreLow, EntriesMoveLive, IsStep, MovesLive, Named, State, Step, a_constant, a_definition, a_mark, a_marked_name, above, all, answers, append-nil, asked_in, asserted, checks, entry_keeps, exits, leaves, leaving_in, live, popped, step_of, with_name, Entry, Name}
use Rattle.sb_script.specs.Steps as meaning
use Rattle.sb_stack.specs.declared.stack.Step.TheVariants as code
use Rattle.sb_prover.proofs.LiveLevels.{Row, one-name, one-assertion, levels-opened, levels-left, low-levels}

-- no level that is left is among those that stay
abbrev StayLow : meaning.Leaving → State → Type 0
StayLow (above n) new = AreLow n (asked_in new).live
StayLow all new = Unit {0}

-- what a step makes of them
abbrev Moves : State → meaning.Step → Type 0
Moves s (answers text new) = (more : List Row) × ((asked_in new).live ≡ (asked_in s).live ++ more)
Moves s (leaves what text new) = ((asked_in new).live ≡ take (length (live new)) (asked_in s).live) × StayLow what new
Moves s (checks given) = Unit {0}
Moves s (exits text) = Unit {0}

-- all stay, and none comes
abbrev Stay : State → State → Type 0
Stay s new = (more : List Row) × ((asked_in new).live ≡ (asked_in s).live ++ more)

stays : (s : State) → Stay s s
stays s = ([], sym (append-nil (asked_in s).live))

named : (name : Name) (kind : Named) (s : State) → Stay s (with_name name kind s)
named name kind s = (
  [],
  one-name s.options.global_declarations (name, kind) s.first s.above ∙ sym (append-nil (asked_in s).live),
)

entry-moves : (entry : Entry) (s : State) → Moves s (step_of entry s)
entry-moves entry s = entry_keeps s.mode s (λ ends other x. Moves s x) (record {
  stays = λ bytes text. stays s;
  sets = λ bytes logic begun options. stays s;
  declares = λ bytes name sort brought.
      named name (a_constant (length s.sorts) sort) (record s { sorts = s.sorts ++ sort ∷ [] });
  marks = λ bytes name. named name a_marked_name s;
  makes = λ bytes name ps sorts form body brought is. named name (a_definition sorts body) s;
  asserts = λ bytes form t is truth. one-assertion (asserted t) s.first s.above;
  omits = λ bytes. one-assertion a_mark s.first s.above;
  pushes = λ bytes n. ([], levels-opened n s.first s.above ∙ sym (append-nil (asked_in s).live));
  pops = λ bytes n. (levels-left n s.first s.above, low-levels s.first (popped n s).above);
  clears = λ bytes. (refl, tt);
  resets = λ bytes. (refl, tt);
  asks = λ forms. tt;
  ends = λ bytes. tt;
}) entry

-- The same of the code's steps.

low-down : (what : meaning.Leaving) (level : Option ℕ) (new : State) → what ≡ leaving_in level → StayLow what new
    → IfSome level (λ n. AreLow n (asked_in new).live)
low-down what None new is low = tt
low-down what (Some n) new is low = subst (λ w. StayLow w new) is low

by-code : (st : meaning.Step) (old new : State) (s : Step) → IsStep st s old new → Moves old st → MovesLive s old new
by-code (leaves what text s) old new (code.Left bytes level) h m = (
  subst (λ x. (asked_in x).live ≡ take (length (live x)) (asked_in old).live) (sym h.1.1) m.0,
  low-down what level new h.1.0 (subst (StayLow what) (sym h.1.1) m.1),
)
by-code (answers text s) old new (code.Answer bytes) h m = subst (Stay old) (sym h.1) m
by-code (checks given) old new code.Check h m = subst (Stay old) (sym h) (stays old)
by-code (exits text) old new (code.Exit bytes) h m = subst (Stay old) (sym h.1) (stays old)
by-code _ old new _ h m = absurd h

pub entries-move : EntriesMoveLive
entries-move entry old new s is = by-code (step_of entry old) old new s is (entry-moves entry old)
