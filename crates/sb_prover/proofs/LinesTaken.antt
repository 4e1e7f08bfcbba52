-- The lines that are put for a check are taken one by one, and the last one ends it.
use Rattle.sb_prover.proofs.Words.{◌≡◌, ℕ, ◌+◌, Bool, true, false, List, [], ◌∷◌, ◌++◌, map, Option, Some, None, Result, Ok, Err, refl, sym, ap, ◌∙◌, append_assoc, AllKept, IsSaid, Line, Progress, Puts, Question, Refusal, Said, SaysVerdict, Tells, Verdict, and_from, append-nil, asks, at_check, at_rest, bytes_of, count_again, first_lines, follow_all, follows, has_text, line, list_all, map-append, meets, newest_format, nothing_kept, refusal_of, takes_at_check, takes_kept, takes_verdict, text_of, verdict_line, with_bytes, flat_map-append, goes_through, take_line, list_all-append}

-- what a check has come to whose first line has come
abbrev waiting : Question → List Said → AllKept → ℕ → Progress
waiting q said kept next =
    record { phase = at_check q; begun = true; said = said; kept = kept; next = next }

-- A line that follows leaves a check waiting.

kept-line : (q : Question) (said : List Said) (kept after : AllKept) (next : ℕ) (l : Line)
    → follows q.asked kept l ≡ Ok after
    → takes_at_check q l (waiting q said kept next) ≡ waiting q said after (next + 1)
kept-line q said kept after next (verdict_line s) h = absurd (cc (h))
kept-line q said kept after next _ h = ap (λ r. takes_kept r (waiting q said kept next)) h

-- with the number of the next line
Waits : Question → List Said → AllKept → AllKept → ℕ → List Line → List Line → Type 0
Waits q said kept after next ls more = (n : ℕ)
    × (goes_through take_line (waiting q said kept next) (ls ++ more)
    ≡ goes_through take_line (waiting q said after n) more)

lines-taken : (q : Question) (said : List Said) (kept after : AllKept) (next : ℕ) (ls more : List Line)
    → follow_all q.asked kept ls ≡ Ok after → Waits q said kept after next ls more
unfolding Waits
lines-taken q said kept after next [] more h =
    (next, ap (λ k. goes_through take_line (waiting q said k next) more) (same h))
  where
    same : ◌≡◌ {A = Result AllKept Refusal} (Ok kept) (Ok after) → kept ≡ after
    same h = cc
lines-taken q said kept after next (l ∷ ls) more h =
    step (λ mid. lines-taken q said mid after (next + 1) ls more) (follows q.asked kept l) refl h
  where
    step : ((mid : AllKept) → follow_all q.asked mid ls ≡ Ok after → Waits q said mid after (next + 1) ls more)
        → (r : Result AllKept Refusal) → follows q.asked kept l ≡ r
        → elim r as (λ _. Result AllKept Refusal)
        [ Ok mid ↦ follow_all q.asked mid ls | Err refusal ↦ Err refusal ] ≡ Ok after
        → Waits q said kept after next (l ∷ ls) more
    step rest (Ok mid) is h =
        let more-lines = rest mid h in (
          more-lines.0,
          ap (λ p. goes_through take_line p (ls ++ more)) (kept-line q said kept mid next l is) ∙ more-lines.1,
        )
    step rest (Err refusal) is h = absurd (cc (h))

-- A verdict that is not refused ends the check.

-- what a check has come to that was answered
abbrev answered : List Said → AllKept → ℕ → Progress
answered said kept next =
    record { phase = at_rest; begun = true; said = said; kept = count_again kept; next = next }

verdict-taken : (q : Question) (before : List Said) (kept : AllKept) (next : ℕ) (said : Said)
    → refusal_of q kept said ≡ None → goes_through take_line (waiting q before kept next) (verdict_line said ∷ [])
    ≡ (answered (before ++ said ∷ []) kept (next + 1), [])
verdict-taken q before kept next said right =
    ap (λ o. goes_through take_line (takes_verdict said o (waiting q before kept next)) []) right

-- All of it.

-- the lines of a check
abbrev all_lines : Bool → List Line → Said → List Line
all_lines begun ls said = first_lines begun ++ (ls ++ verdict_line said ∷ [])

abbrev Answers : Question → Bool → List Said → AllKept → AllKept → ℕ → List Line → Said → Type 0
Answers q begun before kept after next ls said =
    (n : ℕ)
    × (goes_through take_line (record { phase = at_check q; begun = begun; said = before; kept = kept; next = next })
    (all_lines begun ls said) ≡ (answered (before ++ said ∷ []) after n, []))

begun-taken : (q : Question) (before : List Said) (kept after : AllKept) (next : ℕ) (ls : List Line) (said : Said)
    → follow_all q.asked kept ls ≡ Ok after → refusal_of q after said ≡ None
    → Answers q true before kept after next ls said
unfolding Waits
begun-taken q before kept after next ls said follow right =
    let waits = lines-taken q before kept after next ls (verdict_line said ∷ []) follow in
    (waits.0 + 1, waits.1 ∙ verdict-taken q before after waits.0 said right)

check-taken : (q : Question) (begun : Bool) (before : List Said) (kept after : AllKept) (next : ℕ) (ls : List Line)
    (said : Said) → (begun ≡ false → kept ≡ nothing_kept newest_format) → follow_all q.asked kept ls ≡ Ok after
    → refusal_of q after said ≡ None → Answers q begun before kept after next ls said
check-taken q true before kept after next ls said first follow right =
    begun-taken q before kept after next ls said follow right
check-taken q false before kept after next ls said first follow right =
    begun-taken q before (nothing_kept newest_format) after (next + 1) ls said
    (ap (λ k. follow_all q.asked k ls) (sym (first refl)) ∙ follow) right

first-has-text : (begun : Bool) → list_all has_text (first_lines begun) ≡ true
first-has-text true = refl
first-has-text false = refl

-- each of them has a text, where those in the middle and the verdict have
all-have-text : (begun : Bool) (ls : List Line) (said : Said) → list_all has_text ls ≡ true
    → has_text (verdict_line said) ≡ true → list_all has_text (all_lines begun ls said) ≡ true
all-have-text begun ls said text spelled =
    list_all-append has_text (first_lines begun) (ls ++ verdict_line said ∷ [])
    ∙ and_from (list_all has_text (first_lines begun)) (list_all has_text (ls ++ verdict_line said ∷ []))
    (first-has-text begun)
    (list_all-append has_text ls (verdict_line said ∷ [])
    ∙ and_from (list_all has_text ls) (list_all has_text (verdict_line said ∷ [])) text
    (and_from (has_text (verdict_line said)) true spelled refl))

-- What a tape tells of them.

with_bytes-append : (xs ys : List ℕ) (told : Option (List ℕ))
    → with_bytes ys (with_bytes xs told) ≡ with_bytes (xs ++ ys) told
with_bytes-append xs ys None = refl
with_bytes-append xs ys (Some there) = ap Some (append_assoc there xs ys)

bytes-append : (ls ms : List Line)
    → bytes_of (map text_of (ls ++ ms)) ≡ bytes_of (map text_of ls) ++ bytes_of (map text_of ms)
bytes-append ls ms = ap bytes_of (map-append text_of ls ms) ∙ flat_map-append line (map text_of ls) (map text_of ms)

pub tells-both : (ls ms : List Line) (old mid new : Option (List ℕ)) → Tells ls old mid → Tells ms mid new
    → Tells (ls ++ ms) old new
tells-both ls ms old mid new first second =
    second ∙ ap (with_bytes (bytes_of (map text_of ms))) first
    ∙ with_bytes-append (bytes_of (map text_of ls)) (bytes_of (map text_of ms)) old
    ∙ ap (λ bytes. with_bytes bytes old) (sym (bytes-append ls ms))

pub tells-one : (l : Line) (old new : Option (List ℕ)) → new ≡ with_bytes (line (text_of l)) old
    → Tells (l ∷ []) old new
tells-one l old new told = told ∙ ap (λ bytes. with_bytes bytes old) (sym (append-nil (line (text_of l))))

-- The first line where it did not stand there, lines that follow, and a verdict that may be said: they prove it.
pub verdict-said : (before : Progress) (reached : AllKept) (q : Question) (said : Said) (v : Verdict)
    (old begun mid new : Option (List ℕ)) → before.phase ≡ at_rest
    → (before.begun ≡ false → before.kept ≡ nothing_kept newest_format) → Tells (first_lines before.begun) old begun
    → Puts q.asked before.kept reached begun mid → has_text (verdict_line said) ≡ true
    → refusal_of q reached said ≡ None → SaysVerdict q (count_again reached) said v
    → new ≡ with_bytes (line (text_of (verdict_line said))) mid → IsSaid q v before reached old new
verdict-said before reached q said v old begun mid new rests first told puts spelled right says told-last =
    record {
      lines = bytes_of (map text_of (all_lines before.begun puts.lines said));
      after = answered (before.said ++ said ∷ []) reached taken-all.0;
      proves = record {
        said = said;
        printed = all_lines before.begun puts.lines said;
        are_printed = (all-have-text before.begun puts.lines said puts.have_text spelled, refl);
        lines_follow = ap (λ phase. goes_through take_line (meets (asks q) (record before { phase = phase }))
            (all_lines before.begun puts.lines said)) rests
            ∙ taken-all.1;
        answered = refl;
        said_last = refl;
        says = says;
      };
      told = tells-both (first_lines before.begun) (puts.lines ++ verdict_line said ∷ []) old begun new told
          (tells-both puts.lines (verdict_line said ∷ []) begun mid new puts.told
          (tells-one (verdict_line said) mid new told-last));
      begun = refl;
      kept = refl;
    }
  where
    taken-all : Answers q before.begun before.said before.kept reached before.next puts.lines said
    taken-all = check-taken q before.begun before.said before.kept reached before.next puts.lines said first
        puts.follow right
