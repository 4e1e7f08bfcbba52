-- What is known of a run so far: of the bytes of the script that were read, and of the proof along with its entries.
use Rattle.std.proofs.Common.{◌≡◌, ℕ, ◌<◌, ◌≤◌, Bool, true, false, List, [], ◌∷◌, ◌++◌, length, drop, Option, None, inl, inr, refl, sym, ap, subst, ◌∙◌, append_assoc, arith, length-append}
use Rattle.std.proofs.lemmas.List.{append-nil}
use Rattle.sb_world.specs.Outside.{Outside}
use Rattle.sb_reader.specs.Entries.{Entry, Begins}
use Rattle.sb_reader.proofs.CallerLemmas.{beginning_stays}
use Rattle.sb_script.specs.State.{State, start}
use Rattle.sb_rulebook.specs.Lines.{Said}
use Rattle.sb_rulebook.specs.Reading.{LineText, texts_of}
use Rattle.sb_rulebook.specs.Judging.{Event, ends, Progress, beginning, meets}
use Rattle.sb_rulebook.specs.JudgingTexts.{takes_all, through, along, along_all}
use Rattle.sb_rulebook.specs.JudgingLaws.{EventsAreMetInOrder, ProofGoesAlongInOrder}
use Rattle.sb_rulebook.specs.Accepted.{events}
use Rattle.sb_input.specs.TakingLines.{LinesState}
use Rattle.sb_check.specs.declared.judge.Judge.{Judge}
use Rattle.sb_check.specs.declared.check.Run.{Run}
use Rattle.sb_sound.specs.Outcomes.{behind}
use Rattle.sb_check.specs.Going.{Came}
use Rattle.sb_check.specs.Running.{IsBounded}
use Rattle.sb_check.specs.Sofar.{Sofar}

-- The proof.

pub events_in_order : EventsAreMetInOrder
events_in_order p [] fs texts = refl
events_in_order p (e ∷ es) fs texts = let r = through (meets e p) texts in events_in_order r.0 es fs r.1

proof_in_order : ProofGoesAlongInOrder
proof_in_order p es fs texts =
    ap (λ (all : List Event). let r = along p all texts in takes_all r.1 r.0) (append_assoc es fs (ends ∷ []))
    ∙ ap (λ (r : Progress × List LineText). takes_all r.1 r.0) (events_in_order p es (fs ++ ends ∷ []) texts)

-- it goes on from where it has come
pub goes_behind : (p q : Progress) (es fs : List Event) (texts left : List LineText) → along p es texts ≡ (q, left)
    → along_all p (es ++ fs) texts ≡ along_all q fs left
goes_behind p q es fs texts left h =
    proof_in_order p es fs texts ∙ ap (λ (r : Progress × List LineText). along_all r.0 fs r.1) h

pub came_goes : (count : ℕ) (said : List Said) (es fs : List Event) (s t : LinesState) (after : Outside)
    (left : List ℕ) (before : Progress) (judge : Judge) (came : Came count said es s t after left before judge)
    → along_all before (es ++ fs) (texts_of (s.kept ++ left))
    ≡ along_all came.progress fs (texts_of (t.kept ++ drop count left))
came_goes count said es fs s t after left before judge came =
    goes_behind before came.progress es fs (texts_of (s.kept ++ left)) (texts_of (t.kept ++ drop count left))
    (ap (λ (bytes : List ℕ). along before es (texts_of bytes)) came.split ∙ came.goes (t.kept ++ drop count left))

-- The script.

-- the entries that bytes begin with are those that more bytes begin with, where these may come
pub begins_on : (ended later : Bool) (bytes more rest : List ℕ) (entries : List Entry) → (ended ≡ true → later ≡ true)
    → (ended ≡ true → more ≡ []) → Begins ended bytes entries rest → Begins later (bytes ++ more) entries (rest ++ more)
begins_on false later bytes more rest entries stays none begins = beginning_stays later bytes more entries rest begins
begins_on true later bytes more rest entries stays none begins =
    subst (λ (b : Bool). Begins b (bytes ++ more) entries (rest ++ more)) (sym (stays refl))
    (subst (λ (xs : List ℕ). Begins true (bytes ++ xs) entries (rest ++ xs)) (sym (none refl))
    (subst (λ (xs : List ℕ). Begins true xs entries (rest ++ [])) (sym (append-nil bytes))
    (subst (λ (xs : List ℕ). Begins true bytes entries xs) (sym (append-nil rest)) begins)))

-- (exit) is among the entries that were read
bounded_by : (ended : Bool) (limit : ℕ) (script bytes more rest : List ℕ) (entries : List Entry)
    → script ≡ bytes ++ more → length bytes ≤ limit → (ended ≡ true → more ≡ []) → (ended ≡ true → length bytes < limit)
    → Begins ended bytes entries rest → behind start entries ≡ None → IsBounded limit script
bounded_by true limit script bytes more rest entries split within none below begins last =
    inl (omega (arith, ap length split, length-append bytes more, ap length (none refl), below refl))
bounded_by false limit script bytes more rest entries split within none below begins last = inr (record {
  front = bytes;
  more = more;
  split = split;
  within = within;
  entries = entries;
  left = rest;
  begins = begins;
  last = last;
})

module _ (at : Option State) (taken : List Entry) (limit : ℕ) (script proof : List ℕ) (run : Run) (old now : Outside)
    (sofar : Sofar at taken limit script proof run old now) where
  pub run_along : along beginning (events start sofar.list) (texts_of proof)
      ≡ (sofar.progress, texts_of (run.lines.kept ++ sofar.proof_left))
  run_along =
      ap (λ (bytes : List ℕ). along beginning (events start sofar.list) (texts_of bytes)) sofar.proof_split
      ∙ sofar.goes (run.lines.kept ++ sofar.proof_left)

  pub run_goes : (es : List Event)
      → along_all beginning (events start sofar.list ++ es) (texts_of proof)
      ≡ along_all sofar.progress es (texts_of (run.lines.kept ++ sofar.proof_left))
  run_goes es =
      goes_behind beginning sofar.progress (events start sofar.list) es (texts_of proof)
      (texts_of (run.lines.kept ++ sofar.proof_left)) run_along

  -- the entries are in front of the script
  pub script_begins : (rest : List ℕ) × Begins true script sofar.all rest
  script_begins = (
    sofar.rest ++ sofar.script_left,
    subst (λ (bytes : List ℕ). Begins true bytes sofar.all (sofar.rest ++ sofar.script_left)) (sym sofar.script_split)
        (begins_on run.entries.kept.1 true sofar.bytes sofar.script_left sofar.rest sofar.all (λ _. refl)
        sofar.script_is.none sofar.begins),
  )

  -- where they end it they stand within the limit
  pub exit_bounds : behind start sofar.all ≡ None → IsBounded limit script
  exit_bounds last =
      bounded_by run.entries.kept.1 limit script sofar.bytes sofar.script_left sofar.rest sofar.all sofar.script_split
      (omega (arith, sofar.script_read, sofar.script_within)) sofar.script_is.none
      (λ e. omega (arith, sofar.script_read, sofar.script_below e)) sofar.begins last
