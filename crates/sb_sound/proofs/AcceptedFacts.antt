-- Where a proof along a history is accepted, each of its verdicts means so.
use Rattle.std.proofs.Common.{◌≡◌, ℕ, ◌+◌, Bool, true, false, not, ◌&&◌, nat_le, if◌then◌else◌, cond, List, [], ◌∷◌, ◌++◌, Option, Some, None, Result, Ok, Err, refl, sym, subst, ap, ◌∙◌, arith}
use Rattle.std.specs.List.{list_all}
use Rattle.std.proofs.lemmas.List.{append_assoc, append-nil}
use Rattle.std.proofs.lemmas.List.Sums.{sum_by-cons}
use Rattle.std.proofs.lemmas.Bool.{and_from}
use Rattle.sb_rulebook.specs.Refusals.{Refusal, misplaced}
use Rattle.sb_rulebook.specs.Brought.{newest_format}
use Rattle.sb_rulebook.specs.Lines.{Line, header_line, regex_line, atom_line, expansion_line, dead_line, assertion_line, rule_line, learned_line, verdict_line, end_line, Said}
use Rattle.sb_rulebook.specs.Reading.{LineText, read, texts_of}
use Rattle.sb_rulebook.specs.Kept.{AllKept, Asked, nothing_kept, count_again, dropped_above, all_dropped}
use Rattle.sb_rulebook.specs.Follows.{follows}
use Rattle.sb_rulebook.specs.Verdicts.{Question, refusal_of}
use Rattle.sb_rulebook.specs.Judging.{Event, leaves_above, leaves_all, asks, ends, Phase, at_rest, at_check, at_end, behind_end, stopped, Progress, stop, takes_first, takes_verdict, takes_kept, takes_at_check, takes_last, takes_in, is_at_check, beginning, accepted, outcome_of, closed}
use Rattle.sb_rulebook.specs.JudgingTexts.{takes_read, takes, takes_all, through, along}
use Rattle.sb_sound.specs.CountLaws.{is_counted_line, LinesAreCounted}
use Rattle.sb_sound.specs.SoundLaws.{AreTerms, IsSound, MeansSo, NothingIsSound, LineStaysSound, FollowsByRule, ContinuedStaysSound, DroppedStaysSound, AllDroppedIsSound, CountedAgainStaysSound, VerdictMeansSo}
use Rattle.sb_sound.specs.AcceptedLaws.{IsHistory, is_counted_read, is_verdict_read, counted_among, AllMeanSo, AcceptedMeansSo}

-- a proof so far, part by part
abbrev now : Phase → Bool → List Said → AllKept → ℕ → Progress
now phase begun said kept next = record { phase = phase; begun = begun; said = said; kept = kept; next = next }

abbrev CanEnd : Progress → List Said → Type 0
CanEnd p verdicts = outcome_of (closed p) ≡ accepted verdicts

-- what is left of the events and of the lines
abbrev rest_of : Progress × List LineText → List Event → Progress
rest_of r es = let s = along r.0 (es ++ ends ∷ []) r.1 in takes_all s.1 s.0

-- Where nothing more is taken.

-- a phase in which no line is taken by a check
not_through : (p : Progress) (texts : List LineText) → is_at_check p.phase ≡ false → through p texts ≡ (p, texts)
not_through p [] h = refl
not_through p (text ∷ texts) h =
    ap (λ b. if b then through (takes text p) texts else (p, text ∷ texts)) h

module _ (n : ℕ) (refusal : Refusal) (begun : Bool) (said : List Said) (kept : AllKept) (next : ℕ) where
  abbrev still : Progress
  still = now (stopped n refusal) begun said kept next

  still_takes : (text : LineText) → takes text still ≡ still
  still_takes text = step (read text)
    where
      step : (o : Result Line Refusal) → takes_read o still ≡ still
      step (Ok line) = refl
      step (Err other) = refl

  still_takes_all : (texts : List LineText) → takes_all texts still ≡ still
  still_takes_all [] = refl
  still_takes_all (text ∷ texts) = ap (takes_all texts) (still_takes text) ∙ still_takes_all texts

  still_along : (es : List Event) (texts : List LineText) → along still es texts ≡ (still, texts)
  still_along [] texts = refl
  still_along (e ∷ es) texts =
      ap (λ (r : Progress × List LineText). along r.0 es r.1) (not_through still texts refl) ∙ still_along es texts

  -- a refused proof stays refused
  no_end : (es : List Event) (texts : List LineText) (verdicts : List Said)
      → CanEnd (rest_of (through still texts) es) verdicts → ⊥
  no_end es texts verdicts h =
      let one = ap (λ (r : Progress × List LineText). rest_of r es) (not_through still texts refl) in
      let two =
      ap (λ (s : Progress × List LineText). takes_all s.1 s.0) (still_along (es ++ ends ∷ []) texts) in
      let all : rest_of (through still texts) es ≡ still = one ∙ two ∙ still_takes_all texts in
      let wrong : CanEnd still verdicts = subst (λ (p : Progress). CanEnd p verdicts) all h in
      Prim.cc (wrong)

module _ (q : Question) (begun : Bool) (said : List Said) (kept : AllKept) (next : ℕ) where
  abbrev waiting : Progress
  waiting = now (at_check q) begun said kept next

  waits_along : (es : List Event) → along waiting es [] ≡ (waiting, [])
  waits_along [] = refl
  waits_along (e ∷ es) = waits_along es

  -- a check that waits where no lines are left has no verdict
  no_verdict : (es : List Event) (verdicts : List Said) → CanEnd (rest_of (waiting, []) es) verdicts → ⊥
  no_verdict es verdicts h =
      let all =
      ap (λ (s : Progress × List LineText). takes_all s.1 s.0) (waits_along (es ++ ends ∷ [])) in
      let wrong : CanEnd waiting verdicts = subst (λ (p : Progress). CanEnd p verdicts) all h in
      Prim.cc (wrong)

-- The last line.

-- what was said stays, and no check waits
abbrev Stays : List Said → Progress → Type 0
Stays said p = (p.said ≡ said) × (is_at_check p.phase ≡ false)

said_stays : (text : LineText) (phase : Phase) (begun : Bool) (said : List Said) (kept : AllKept) (next : ℕ)
    → is_at_check phase ≡ false
    → Stays said (takes text (now phase begun said kept next))
said_stays text phase begun said kept next h = step phase h (read text)
  where
    first : (b : Bool) (format : ℕ) → Stays said (if b
        then record (now at_end false said kept next) { begun = true; kept = nothing_kept format; next = next + 1 }
        else stop misplaced (now at_end false said kept next))
    first true format = (refl, refl)
    first false format = (refl, refl)

    end_first : (line : Line) → Stays said (takes_first line (now at_end false said kept next))
    end_first (header_line format) = first (nat_le 1 format && nat_le format newest_format) format
    end_first _ = (refl, refl)

    end_last : (line : Line) → Stays said (takes_last line (now at_end true said kept next))
    end_last end_line = (refl, refl)
    end_last _ = (refl, refl)

    at_the_end : (b : Bool) (line : Line) → Stays said (takes_in at_end line (now at_end b said kept next))
    at_the_end true line = end_last line
    at_the_end false line = end_first line

    step : (phase : Phase) → is_at_check phase ≡ false → (o : Result Line Refusal)
        → Stays said (takes_read o (now phase begun said kept next))
    step at_rest h (Ok line) = (refl, refl)
    step at_rest h (Err refusal) = (refl, refl)
    step (at_check q) h o = absurd (Prim.cc (h))
    step at_end h (Ok line) = at_the_end begun line
    step at_end h (Err refusal) = (refl, refl)
    step behind_end h (Ok line) = (refl, refl)
    step behind_end h (Err refusal) = (refl, refl)
    step (stopped n refusal) h (Ok line) = (refl, refl)
    step (stopped n refusal) h (Err other) = (refl, refl)

all_said_stays : (texts : List LineText) (p : Progress) → is_at_check p.phase ≡ false
    → (takes_all texts p).said ≡ p.said
all_said_stays [] p h = refl
all_said_stays (text ∷ texts) p h =
    let one = said_stays text p.phase p.begun p.said p.kept p.next h in
    all_said_stays texts (takes text p) one.1 ∙ one.0

-- an accepted proof has said its verdicts
end_says : (p : Progress) (verdicts : List Said) → CanEnd p verdicts → verdicts ≡ p.said
end_says p verdicts h = step p.phase h
  where
    step : (phase : Phase) → CanEnd (now phase p.begun p.said p.kept p.next) verdicts → verdicts ≡ p.said
    step at_rest h = absurd (Prim.cc (h))
    step (at_check q) h = absurd (Prim.cc (h))
    step at_end h = absurd (Prim.cc (h))
    step behind_end h = Prim.cc (h)
    step (stopped n refusal) h = absurd (Prim.cc (h))

-- The lines of one check.

-- behind these verdicts there is one for each check among the events, which means so by the lines that come
record MeanBehind (said : List Said) (p : Progress) (es : List Event) (came : List LineText) (verdicts : List Said)
    : Type 0 where
  rest : List Said
  whole : verdicts ≡ said ++ rest
  mean : AllMeanSo p es came rest

-- the same where a check waits, and so many lines of it were counted before
record Answers (q : Question) (counted : ℕ) (said : List Said) (p : Progress) (es : List Event) (came : List LineText)
    (verdicts : List Said) : Type 0 where
  lines : List LineText
  verdict : LineText
  left : List LineText
  whole : came ≡ lines ++ verdict ∷ left
  no_verdicts : list_all (λ text. not (is_verdict_read (read text))) lines ≡ true
  answer : Said
  is_verdict : read verdict ≡ Ok (verdict_line answer)
  after : Progress
  run : through p came ≡ (after, left)
  kept : AllKept
  kept_on : after.kept ≡ count_again kept
  counts : kept.counted ≡ counted + counted_among lines
  means : MeansSo q kept answer
  behind : MeanBehind (said ++ answer ∷ []) after es left verdicts

-- a line in front that is no verdict, and counts or not
one_before : (q : Question) (counted more : ℕ) (p behind : Progress) (said : List Said) (es : List Event)
    (text : LineText) (texts : List LineText) (verdicts : List Said) (line : Line) → read text ≡ Ok line
    → is_verdict_read (Ok line) ≡ false → more ≡ (if is_counted_line line then counted + 1 else counted)
    → through p (text ∷ texts) ≡ through behind texts
    → Answers q more said behind es texts verdicts → Answers q counted said p es (text ∷ texts) verdicts
one_before q counted more p behind said es text texts verdicts line is silent counts goes a = record {
  lines = text ∷ a.lines;
  verdict = a.verdict;
  left = a.left;
  whole = ap (λ ts. text ∷ ts) a.whole;
  no_verdicts = and_from (not (is_verdict_read (read text))) (list_all (λ t. not (is_verdict_read (read t))) a.lines)
      (ap (λ o. not (is_verdict_read o)) is ∙ ap not silent) a.no_verdicts;
  answer = a.answer;
  is_verdict = a.is_verdict;
  after = a.after;
  run = goes ∙ a.run;
  kept = a.kept;
  kept_on = a.kept_on;
  counts = step (is_counted_line line) (is_counted_read (read text)) (ap is_counted_read is) counts
      ∙ ap (λ n. counted + n) (sym (sum_by-cons (λ t. cond (is_counted_read (read t)) 1 0) text a.lines));
  means = a.means;
  behind = a.behind;
}
  where
    step : (b d : Bool) → d ≡ b → more ≡ (if b then counted + 1 else counted)
        → a.kept.counted ≡ counted + (cond d 1 0 + counted_among a.lines)
    step true true same h = a.counts ∙ omega (arith, h)
    step false false same h = a.counts ∙ omega (arith, h)
    step true false same h = absurd (Prim.cc (same))
    step false true same h = absurd (Prim.cc (same))

record Laws : Type 0 where
  nothing : NothingIsSound
  line : LineStaysSound
  by_rule : FollowsByRule
  continues : ContinuedStaysSound
  drops : DroppedStaysSound
  drops_all : AllDroppedIsSound
  counts_again : CountedAgainStaysSound
  verdict : VerdictMeansSo
  counted : LinesAreCounted

-- what is kept is true, and nothing is counted before the first line
record IsRight (asked : Asked) (begun : Bool) (kept : AllKept) : Type 0 where
  sound : IsSound asked kept
  fresh : begun ≡ false → kept.counted ≡ 0

module _ (laws : Laws) (q : Question) (terms : AreTerms q.asked) (es : List Event) (verdicts : List Said) where
  -- what follows where the check is answered
  abbrev Goes : Type 0
  Goes = (begun : Bool) (said : List Said) (kept : AllKept) (next : ℕ) (left : List LineText)
      → IsRight q.asked begun kept → kept.counted ≡ 0
      → CanEnd (rest_of (through (now at_rest begun said kept next) left) es) verdicts
      → MeanBehind said (now at_rest begun said kept next) es left verdicts

  -- where the check waits
  abbrev waits : Bool → List Said → AllKept → ℕ → Progress
  waits begun said kept next = now (at_check q) begun said kept next

  -- what is to be shown of lines
  abbrev Shows : List LineText → Type 0
  Shows texts = (begun : Bool) (said : List Said) (kept : AllKept) (next : ℕ) → IsRight q.asked begun kept
      → CanEnd (rest_of (through (waits begun said kept next) texts) es) verdicts
      → Answers q kept.counted said (waits begun said kept next) es texts verdicts

  -- behind a first line that is one, or is not
  abbrev begins : Bool → ℕ → List Said → AllKept → ℕ → Progress
  begins b format said kept next =
      if b then record (waits false said kept next) { begun = true; kept = nothing_kept format; next = next + 1 }
      else stop misplaced (waits false said kept next)

  module _ (goes : Goes) (text : LineText) (texts : List LineText) (more : Shows texts) where
    -- what is taken of the line in front
    taken : (begun : Bool) (said : List Said) (kept : AllKept) (next : ℕ) (o : Result Line Refusal) → read text ≡ o
        → through (waits begun said kept next) (text ∷ texts)
        ≡ through (takes_read o (waits begun said kept next)) texts
    taken begun said kept next o is =
        ap (λ (r : Result Line Refusal). through (takes_read r (waits begun said kept next)) texts) is

    first_line : (line : Line) → read text ≡ Ok line → (said : List Said) (kept : AllKept) (next : ℕ)
        → IsRight q.asked false kept
        → CanEnd (rest_of (through (takes_first line (waits false said kept next)) texts) es) verdicts
        → Answers q kept.counted said (waits false said kept next) es (text ∷ texts) verdicts
    first_line (header_line format) is said kept next right h =
        step (nat_le 1 format && nat_le format newest_format)
        (taken false said kept next (Ok (header_line format)) is) h
      where
        step : (b : Bool)
            → through (waits false said kept next) (text ∷ texts) ≡ through (begins b format said kept next) texts
            → CanEnd (rest_of (through (begins b format said kept next) texts) es) verdicts
            → Answers q kept.counted said (waits false said kept next) es (text ∷ texts) verdicts
        step true front h =
            one_before q kept.counted 0 (waits false said kept next) (begins true format said kept next) said es text
            texts verdicts (header_line format) is refl (sym (right.fresh refl)) front
            (more true said (nothing_kept format) (next + 1)
            (record { sound = laws.nothing q.asked format; fresh = λ silent. absurd (Prim.cc (silent)) }) h)
        step false front h = absurd (no_end next misplaced false said kept next es texts verdicts h)
    first_line _ is said kept next right h = absurd (no_end next misplaced false said kept next es texts verdicts h)

    kept_line : (line : Line) → read text ≡ Ok line → is_verdict_read (Ok line) ≡ false → (said : List Said)
        (kept : AllKept) (next : ℕ) → IsRight q.asked true kept
        → through (waits true said kept next) (text ∷ texts)
        ≡ through (takes_kept (follows q.asked kept line) (waits true said kept next)) texts
        → CanEnd (rest_of
        (through (takes_kept (follows q.asked kept line) (waits true said kept next)) texts) es) verdicts
        → Answers q kept.counted said (waits true said kept next) es (text ∷ texts) verdicts
    kept_line line is silent said kept next right front h = step (follows q.asked kept line) refl front h
      where
        step : (o : Result AllKept Refusal) → follows q.asked kept line ≡ o
            → through (waits true said kept next) (text ∷ texts)
            ≡ through (takes_kept o (waits true said kept next)) texts
            → CanEnd (rest_of (through (takes_kept o (waits true said kept next)) texts) es) verdicts
            → Answers q kept.counted said (waits true said kept next) es (text ∷ texts) verdicts
        step (Ok after) so front h =
            let ruled = laws.by_rule q.asked kept after line so in
            one_before q kept.counted after.counted (waits true said kept next) (waits true said after (next + 1)) said
            es text texts verdicts line is silent (laws.counted q.asked kept after line ruled) front
            (more true said after (next + 1)
            (record {
              sound = laws.line q.asked kept after line terms right.sound ruled;
              fresh = λ silent. absurd (Prim.cc (silent));
            }) h)
        step (Err refusal) so front h = absurd (no_end next refusal true said kept next es texts verdicts h)

    verdict_here : (answer : Said) → read text ≡ Ok (verdict_line answer) → (said : List Said) (kept : AllKept)
        (next : ℕ) → IsRight q.asked true kept
        → CanEnd (rest_of (through
        (takes_verdict answer (refusal_of q kept answer) (waits true said kept next)) texts) es) verdicts
        → Answers q kept.counted said (waits true said kept next) es (text ∷ texts) verdicts
    verdict_here answer is said kept next right h =
        step (refusal_of q kept answer) refl (taken true said kept next (Ok (verdict_line answer)) is) h
      where
        step : (o : Option Refusal) → refusal_of q kept answer ≡ o
            → through (waits true said kept next) (text ∷ texts)
            ≡ through (takes_verdict answer o (waits true said kept next)) texts
            → CanEnd (rest_of (through (takes_verdict answer o (waits true said kept next)) texts) es) verdicts
            → Answers q kept.counted said (waits true said kept next) es (text ∷ texts) verdicts
        step (Some refusal) so front h = absurd (no_end next refusal true said kept next es texts verdicts h)
        step None so front h = record {
          lines = [];
          verdict = text;
          left = texts;
          whole = refl;
          no_verdicts = refl;
          answer = answer;
          is_verdict = is;
          after = now at_rest true (said ++ answer ∷ []) (count_again kept) (next + 1);
          run = front ∙ not_through (now at_rest true (said ++ answer ∷ []) (count_again kept) (next + 1)) texts refl;
          kept = kept;
          kept_on = refl;
          counts = omega arith;
          means = laws.verdict q kept answer right.sound so;
          behind = goes true (said ++ answer ∷ []) (count_again kept) (next + 1) texts
              (record {
                sound = laws.counts_again q.asked kept right.sound;
                fresh = λ silent. refl;
              }) refl h;
        }

    later_line : (line : Line) → read text ≡ Ok line → (said : List Said) (kept : AllKept) (next : ℕ)
        → IsRight q.asked true kept
        → CanEnd (rest_of (through (takes_at_check q line (waits true said kept next)) texts) es) verdicts
        → Answers q kept.counted said (waits true said kept next) es (text ∷ texts) verdicts
    later_line (verdict_line answer) is said kept next right h = verdict_here answer is said kept next right h
    later_line (header_line format) is said kept next right h =
        kept_line (header_line format) is refl said kept next right (taken true said kept next _ is) h
    later_line (regex_line node) is said kept next right h =
        kept_line (regex_line node) is refl said kept next right (taken true said kept next _ is) h
    later_line (atom_line atom) is said kept next right h =
        kept_line (atom_line atom) is refl said kept next right (taken true said kept next _ is) h
    later_line (expansion_line r ks) is said kept next right h =
        kept_line (expansion_line r ks) is refl said kept next right (taken true said kept next _ is) h
    later_line (dead_line ids) is said kept next right h =
        kept_line (dead_line ids) is refl said kept next right (taken true said kept next _ is) h
    later_line (assertion_line place l) is said kept next right h =
        kept_line (assertion_line place l) is refl said kept next right (taken true said kept next _ is) h
    later_line (rule_line rule clause) is said kept next right h =
        kept_line (rule_line rule clause) is refl said kept next right (taken true said kept next _ is) h
    later_line (learned_line clause ids) is said kept next right h =
        kept_line (learned_line clause ids) is refl said kept next right (taken true said kept next _ is) h
    later_line end_line is said kept next right h =
        kept_line end_line is refl said kept next right (taken true said kept next _ is) h

    any_line : (line : Line) → read text ≡ Ok line → (begun : Bool) (said : List Said) (kept : AllKept) (next : ℕ)
        → IsRight q.asked begun kept
        → CanEnd (rest_of
        (through (takes_in (at_check q) line (waits begun said kept next)) texts) es) verdicts
        → Answers q kept.counted said (waits begun said kept next) es (text ∷ texts) verdicts
    any_line line is true said kept next right h = later_line line is said kept next right h
    any_line line is false said kept next right h = first_line line is said kept next right h

    one_text : (begun : Bool) (said : List Said) (kept : AllKept) (next : ℕ) → IsRight q.asked begun kept
        → CanEnd (rest_of (through (waits begun said kept next) (text ∷ texts)) es) verdicts
        → Answers q kept.counted said (waits begun said kept next) es (text ∷ texts) verdicts
    one_text begun said kept next right h = step (read text) refl h
      where
        step : (o : Result Line Refusal) → read text ≡ o
            → CanEnd (rest_of
            (through (takes_read o (waits begun said kept next)) texts) es) verdicts
            → Answers q kept.counted said (waits begun said kept next) es (text ∷ texts) verdicts
        step (Ok line) is h = any_line line is begun said kept next right h
        step (Err refusal) is h = absurd (no_end next refusal begun said kept next es texts verdicts h)

  check_means : Goes → (texts : List LineText) → Shows texts
  check_means goes [] begun said kept next right h = absurd (no_verdict q begun said kept next es verdicts h)
  check_means goes (text ∷ texts) begun said kept next right h =
      one_text goes text texts (check_means goes texts) begun said kept next right h

-- All events.

one_more : (q : Question) (begun : Bool) (said : List Said) (kept : AllKept) (next : ℕ) (es : List Event)
    (came : List LineText) (verdicts : List Said)
    → Answers q 0 said (now (at_check q) begun said kept next) es came verdicts
    → MeanBehind said (now at_rest begun said kept next) (asks q ∷ es) came verdicts
one_more q begun said kept next es came verdicts a = record {
  rest = a.answer ∷ a.behind.rest;
  whole = a.behind.whole ∙ append_assoc said (a.answer ∷ []) a.behind.rest;
  mean = (
    a.lines,
    a.verdict,
    a.left,
    a.whole,
    a.after,
    a.run,
    record {
      no_verdicts = a.no_verdicts;
      is_verdict = a.is_verdict;
      kept = a.kept;
      kept_on = a.kept_on;
      counted = a.counts ∙ omega arith;
      means = a.means;
    },
    a.behind.mean,
  );
}

-- at the end no further check comes
end_along : (begun : Bool) (said : List Said) (kept : AllKept) (next : ℕ) (es : List Event) (texts : List LineText)
    → along (now at_end begun said kept next) es texts ≡ (now at_end begun said kept next, texts)
end_along begun said kept next [] texts = refl
end_along begun said kept next (e ∷ es) texts =
    ap (λ (r : Progress × List LineText). along r.0 es r.1)
    (not_through (now at_end begun said kept next) texts refl)
    ∙ end_along begun said kept next es texts

ended : (begun : Bool) (said : List Said) (kept : AllKept) (next : ℕ) (texts : List LineText) (verdicts : List Said)
    → CanEnd (takes_all texts (now at_end begun said kept next)) verdicts
    → MeanBehind said (now at_rest begun said kept next) [] texts verdicts
ended begun said kept next texts verdicts h =
    let p = now at_end begun said kept next in
    record {
      rest = [];
      whole = end_says (takes_all texts p) verdicts h ∙ all_said_stays texts p refl ∙ sym (append-nil said);
      mean = refl;
    }

-- what holds of lines that are left holds where a proof at rest takes nothing of them
at_rest_first : (es : List Event) (begun : Bool) (said : List Said) (kept : AllKept) (next : ℕ)
    (texts : List LineText) (verdicts : List Said)
    → CanEnd (rest_of (through (now at_rest begun said kept next) texts) es) verdicts
    → CanEnd (rest_of (now at_rest begun said kept next, texts) es) verdicts
at_rest_first es begun said kept next texts verdicts h =
    subst (λ (r : Progress × List LineText). CanEnd (rest_of r es) verdicts)
    (not_through (now at_rest begun said kept next) texts refl) h

module _ (laws : Laws) where
  along_means : (es : List Event) (before : Asked) (begun : Bool) (said : List Said) (kept : AllKept) (next : ℕ)
      (texts : List LineText) (verdicts : List Said) → IsHistory before es → IsRight before begun kept
      → kept.counted ≡ 0 → CanEnd (rest_of (now at_rest begun said kept next, texts) es) verdicts
      → MeanBehind said (now at_rest begun said kept next) es texts verdicts
  along_means [] before begun said kept next texts verdicts history right none h =
      ended begun said kept next texts verdicts
      (subst (λ (r : Progress × List LineText). CanEnd (takes_all r.1 r.0) verdicts)
      (not_through (now at_end begun said kept next) texts refl) h)
  along_means (leaves_above level ∷ es) before begun said kept next texts verdicts history right none h =
      let rest = along_means es history.0 begun said (dropped_above level kept) next texts verdicts history.2
      (record { sound = laws.drops level before history.0 kept history.1 right.sound; fresh = right.fresh }) none
      (at_rest_first es begun said (dropped_above level kept) next texts verdicts h) in
      record { rest = rest.rest; whole = rest.whole; mean = rest.mean }
  along_means (leaves_all ∷ es) before begun said kept next texts verdicts history right none h =
      let rest = along_means es history.0 begun said (all_dropped kept) next texts verdicts history.2
      (record { sound = laws.drops_all before history.0 kept right.sound; fresh = right.fresh }) none
      (at_rest_first es begun said (all_dropped kept) next texts verdicts h) in
      record { rest = rest.rest; whole = rest.whole; mean = rest.mean }
  along_means (asks q ∷ es) before begun said kept next texts verdicts history right none h =
      let right_now : IsRight q.asked begun kept =
      record { sound = laws.continues before q.asked kept history.0 right.sound; fresh = right.fresh } in
      let goes : Goes laws q history.1 es verdicts =
      λ begun said kept next left right none h.
      along_means es q.asked begun said kept next left verdicts history.2 right none
      (at_rest_first es begun said kept next left verdicts h) in
      one_more q begun said kept next es texts verdicts
      (subst (λ n. Answers q n said (now (at_check q) begun said kept next) es texts verdicts) none
      (check_means laws q history.1 es verdicts goes texts begun said kept next right_now h))
  along_means (ends ∷ es) before begun said kept next texts verdicts history right none h =
      let p = now at_end begun said kept next in
      let one = subst (λ (r : Progress × List LineText). CanEnd (rest_of r es) verdicts) (not_through p texts refl) h in
      let last = ended begun said kept next texts verdicts
      (subst (λ (s : Progress × List LineText). CanEnd (takes_all s.1 s.0) verdicts)
      (end_along begun said kept next (es ++ ends ∷ []) texts) one) in
      record { rest = last.rest; whole = last.whole; mean = last.mean }

pub accepted_means : NothingIsSound → LineStaysSound → FollowsByRule → ContinuedStaysSound → DroppedStaysSound
    → AllDroppedIsSound → CountedAgainStaysSound → VerdictMeansSo → LinesAreCounted → AcceptedMeansSo
accepted_means nothing line by_rule continues drops drops_all counts_again verdict counted asked es bytes verdicts
    history h =
    let laws : Laws = record {
      nothing = nothing;
      line = line;
      by_rule = by_rule;
      continues = continues;
      drops = drops;
      drops_all = drops_all;
      counts_again = counts_again;
      verdict = verdict;
      counted = counted;
    } in
    let behind =
    along_means laws es asked false [] (nothing_kept newest_format) 1 (texts_of bytes) verdicts history
    (record { sound = nothing asked newest_format; fresh = λ silent. refl }) refl h in
    subst (λ (rest : List Said). AllMeanSo beginning es (texts_of bytes) rest) (sym behind.whole) behind.mean
