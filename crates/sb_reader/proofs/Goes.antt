-- A scan goes on over a list of bytes, and ends.
use Rattle.std.proofs.Common.{◌≡◌, ℕ, ◌+◌, ◌-◌, ◌<◌, ◌≤◌, ◌⊎◌, suc, Bool, true, false, List, [], ◌∷◌, ◌++◌, ◌∙◌, ◌==◌, if◌then◌else◌, refl, arith, eqb, leb, sym, length, take, drop, get_or, subst, inl, inr, drop-cons}
use Rattle.std.proofs.lemmas.List.{take_more, take_all}
use Rattle.std.proofs.lemmas.Bool.{cond_both, false≢true}
use Rattle.std.proofs.lemmas.Bool.Decides.{nat_tests}
use Rattle.sb_reader.specs.declared.scan.Place.{Place}
use Rattle.sb_reader.specs.declared.scan.Place.TheVariants.{InGap, InComment, InText, BehindQuote, InQuoted, InRun}
use Rattle.sb_reader.specs.declared.scan.Step.{Step}
use Rattle.sb_reader.specs.declared.scan.Step.TheVariants.{To, EndsBefore, EndsBehind}
use Rattle.sb_reader.specs.declared.scan.Scan.{Scan}
use Rattle.sb_reader.specs.declared.scan.Found.TheVariants as found
use Rattle.sb_reader.specs.Tokens.{is_blank, is_line_end, is_run_byte, is_open_gap}
use Rattle.sb_reader.specs.Entries.{HoldsNoEntry}
use Rattle.sb_reader.specs.Scanning.{step_in_gap, step_behind_token, step_at, found_at_end, scan_to, IsScan, Scanned, SpellsOne, EndsEntry, FindsEnd}
use Rattle.sb_reader.proofs.Growing.{Spells-grow}
use Rattle.sb_reader.proofs.Opened.{LeavesOpen-nil}
use Rattle.sb_reader.proofs.Steps.{Says, step_says, EndsInGap-nil}
use Rattle.sb_reader.proofs.Ends.{found_says, not_found}

-- a step leaves at most so many parentheses open
abbrev LeavesAtMost : ℕ → Step → Type 0
LeavesAtMost n (To place depth) = depth ≤ n
LeavesAtMost n EndsBefore = Unit {0}
LeavesAtMost n EndsBehind = Unit {0}

step_in_gap-at_most : (depth b : ℕ) → LeavesAtMost (depth + 1) (step_in_gap depth b)
step_in_gap-at_most depth b =
    let P : Step → Type 0 = LeavesAtMost (depth + 1) in
    let same : depth ≤ depth + 1 = omega arith in
    let less : depth - 1 ≤ depth + 1 = omega arith in
    let next : depth + 1 ≤ depth + 1 = omega arith in
    cond_both (eqb b 40) _ _ P (λ _. next) (λ _.
    cond_both (eqb b 41) _ _ P (λ _. cond_both (leb depth 1) EndsBehind (To InGap (depth - 1)) P (λ _. tt) (λ _. less))
    (λ _.
    cond_both (eqb b 34) _ _ P (λ _. same) (λ _.
    cond_both (eqb b 124) _ _ P (λ _. same) (λ _.
    cond_both (eqb b 59) _ _ P (λ _. same) (λ _.
    cond_both (is_blank b) _ _ P (λ _. same) (λ _. same))))))

step_behind_token-at_most : (depth b : ℕ) → LeavesAtMost (depth + 1) (step_behind_token depth b)
step_behind_token-at_most depth b =
    cond_both (eqb depth 0) _ _ (LeavesAtMost (depth + 1)) (λ _. tt) (λ _. step_in_gap-at_most depth b)

step_at-at_most : (place : Place) (depth b : ℕ) → LeavesAtMost (depth + 1) (step_at place depth b)
step_at-at_most InGap depth b = step_in_gap-at_most depth b
step_at-at_most InComment depth b =
    cond_both (is_line_end b) _ _ (LeavesAtMost (depth + 1)) (λ _. omega arith) (λ _. omega arith)
step_at-at_most InText depth b =
    cond_both (eqb b 34) _ _ (LeavesAtMost (depth + 1)) (λ _. omega arith) (λ _. omega arith)
step_at-at_most BehindQuote depth b =
    cond_both (eqb b 34) _ _ (LeavesAtMost (depth + 1)) (λ _. omega arith) (λ _. step_behind_token-at_most depth b)
step_at-at_most InQuoted depth b =
    cond_both (eqb b 124) _ _ (LeavesAtMost (depth + 1))
    (λ _. cond_both (eqb depth 0) EndsBehind (To InGap depth) (LeavesAtMost (depth + 1)) (λ _. tt)
    (λ _. omega arith)) (λ _. omega arith)
step_at-at_most InRun depth b =
    cond_both (is_run_byte b) _ _ (LeavesAtMost (depth + 1)) (λ _. omega arith) (λ _. step_behind_token-at_most depth b)

-- the step at the next byte says something of the bytes up to it
next_says : (scan : Scan) (bytes : List ℕ) → IsScan scan bytes → (step : Step)
    → step ≡ step_at scan.place scan.depth (get_or bytes scan.scanned 0)
    → Says step (take scan.scanned bytes) (get_or bytes scan.scanned 0)
next_says scan bytes s step e =
    rw e (step_says scan.place scan.depth (take scan.scanned bytes) (get_or bytes scan.scanned 0) s.knows)

-- the scan goes on
pub IsScan-to : (scan : Scan) (bytes : List ℕ) (place : Place) (depth : ℕ) → IsScan scan bytes
    → scan.scanned < length bytes → To place depth ≡ step_at scan.place scan.depth (get_or bytes scan.scanned 0)
    → IsScan (scan_to scan place depth) bytes
IsScan-to scan bytes place depth s lt e =
    let at_most : LeavesAtMost (scan.depth + 1) (To place depth) =
    subst (LeavesAtMost (scan.depth + 1)) (sym e)
    (step_at-at_most scan.place scan.depth (get_or bytes scan.scanned 0)) in
    let further : Scanned place depth (take (scan.scanned + 1) bytes) =
    rw (take_more bytes scan.scanned 0 lt) (next_says scan bytes s (To place depth) e) in
    record {
      within = omega arith;
      depth_within = omega (arith, at_most, s.depth_within);
      knows = further;
    }

-- the entry ends in front of the next byte
pub ends_before : (ended : Bool) (scan : Scan) (bytes : List ℕ) → IsScan scan bytes → scan.scanned < length bytes
    → EndsBefore ≡ step_at scan.place scan.depth (get_or bytes scan.scanned 0) → EndsEntry ended bytes scan.scanned
ends_before ended scan bytes s lt e =
    let one : SpellsOne false (take scan.scanned bytes) (get_or bytes scan.scanned 0 ∷ []) =
    next_says scan bytes s EndsBefore e in
    record {
      within = omega arith;
      spells = record {
        tokens = one.tokens;
        one = one.one;
        spelled = rw (drop-cons bytes scan.scanned 0 lt)
            (Spells-grow ended one.tokens (take scan.scanned bytes) (get_or bytes scan.scanned 0 ∷ [])
            (drop (suc scan.scanned) bytes) one.spelled);
      };
    }

-- the entry ends with the next byte
pub ends_behind : (ended : Bool) (scan : Scan) (bytes : List ℕ) → IsScan scan bytes → scan.scanned < length bytes
    → EndsBehind ≡ step_at scan.place scan.depth (get_or bytes scan.scanned 0)
    → EndsEntry ended bytes (scan.scanned + 1)
ends_behind ended scan bytes s lt e =
    let one : SpellsOne false (take scan.scanned bytes ++ get_or bytes scan.scanned 0 ∷ []) [] =
    next_says scan bytes s EndsBehind e in
    record {
      within = omega arith;
      spells = record {
        tokens = one.tokens;
        one = one.one;
        spelled = rw (take_more bytes scan.scanned 0 lt)
            (Spells-grow ended one.tokens (take scan.scanned bytes ++ get_or bytes scan.scanned 0 ∷ []) []
            (drop (scan.scanned + 1) bytes) one.spelled);
      };
    }

-- all is scanned
pub scan_found : (ended : Bool) (scan : Scan) (bytes : List ℕ) → IsScan scan bytes → scan.scanned ≡ length bytes
    → FindsEnd ended bytes (found_at_end ended scan.place scan.depth scan.scanned)
scan_found ended scan bytes s e =
    let all : take scan.scanned bytes ≡ bytes = take_all scan.scanned bytes (omega arith) in
    found_says ended scan.place scan.depth bytes scan.scanned e (rw all at s.knows)

-- no end is found before more bytes come
pub scanned_all : (scan : Scan) (bytes : List ℕ) → IsScan scan bytes → scan.scanned ≡ length bytes
    → HoldsNoEntry false bytes
scanned_all scan bytes s e = not_found scan.place scan.depth bytes scan.scanned (scan_found false scan bytes s e)

-- Where there is a gap alone, a scan of all stands in it, or in its last comment.
abbrev pub IsInGap : Place → ℕ → Type 0
IsInGap InGap depth = (depth == 0) ≡ true
IsInGap InComment depth = (depth == 0) ≡ true
IsInGap InText depth = ⊥
IsInGap BehindQuote depth = ⊥
IsInGap InQuoted depth = ⊥
IsInGap InRun depth = ⊥

zero_from : (depth : ℕ) → (depth == 0) ≡ true → depth ≡ 0
zero_from depth h = grind (arith, nat_tests)

-- within a form there is no such place
pub in_no_gap : (place : Place) (depth : ℕ) → (depth ≡ 0 → ⊥) → IsInGap place depth → ⊥
in_no_gap InGap depth within h = within (zero_from depth h)
in_no_gap InComment depth within h = within (zero_from depth h)
in_no_gap InText depth within h = h
in_no_gap BehindQuote depth within h = h
in_no_gap InQuoted depth within h = h
in_no_gap InRun depth within h = h

-- within a token neither
pub no_gap_in_token : (place : Place) (depth : ℕ)
    → (place ≡ InText) ⊎ ((place ≡ BehindQuote) ⊎ ((place ≡ InQuoted) ⊎ (place ≡ InRun)))
    → IsInGap place depth → ⊥
no_gap_in_token place depth (inl e) h = subst (λ p. IsInGap p depth) e h
no_gap_in_token place depth (inr (inl e)) h = subst (λ p. IsInGap p depth) e h
no_gap_in_token place depth (inr (inr (inl e))) h = subst (λ p. IsInGap p depth) e h
no_gap_in_token place depth (inr (inr (inr e))) h = subst (λ p. IsInGap p depth) e h

outside_a_form : (b : Bool) (bytes : List ℕ) → FindsEnd false bytes (if b then found.Gap else found.Part)
    → is_open_gap bytes ≡ true → b ≡ true
outside_a_form true bytes h alone = refl
outside_a_form false bytes h alone = absurd (false≢true (sym h.0 ∙ alone))

found_in_gap : (place : Place) (depth n : ℕ) (bytes : List ℕ)
    → FindsEnd false bytes (found_at_end false place depth n)
    → is_open_gap bytes ≡ true → IsInGap place depth
found_in_gap InGap depth n bytes h alone = outside_a_form (depth == 0) bytes h alone
found_in_gap InComment depth n bytes h alone = outside_a_form (depth == 0) bytes h alone
found_in_gap InText depth n bytes h alone = absurd (false≢true (sym h.0 ∙ alone))
found_in_gap BehindQuote depth n bytes h alone = absurd (false≢true (sym h.0 ∙ alone))
found_in_gap InQuoted depth n bytes h alone = absurd (false≢true (sym h.0 ∙ alone))
found_in_gap InRun depth n bytes h alone = absurd (false≢true (sym h.0 ∙ alone))

pub scanned_in_gap : (scan : Scan) (bytes : List ℕ) → IsScan scan bytes → scan.scanned ≡ length bytes
    → is_open_gap bytes ≡ true → IsInGap scan.place scan.depth
scanned_in_gap scan bytes s e alone =
    found_in_gap scan.place scan.depth scan.scanned bytes (scan_found false scan bytes s e) alone

-- the semicolon of a comment
pub IsScan-comment : IsScan (record { scanned = 1; depth = 0; place = InComment }) (59 ∷ [])
IsScan-comment =
    record {
      within = omega arith;
      depth_within = omega arith;
      knows = record {
        tokens = [];
        front = [];
        rest = 59 ∷ [];
        split = refl;
        spelled = refl;
        leaves = LeavesOpen-nil;
        ends = record { gap = []; inside = []; split = refl; is_gap = EndsInGap-nil; no_line_end = refl };
      };
    }
