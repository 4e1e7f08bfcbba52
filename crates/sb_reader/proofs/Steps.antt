-- What each step of a scan says of the bytes.
use Rattle.std.proofs.Common.{◌≡◌, ℕ, ◌+◌, ◌-◌, ◌<◌, zero, suc, Bool, true, false, not, List, [], ◌∷◌, ◌++◌, refl, arith, add-one, eqb, leb, sym, ne_eqb}
use Rattle.std.specs.Prelude.{if◌then◌else◌}
use Rattle.std.proofs.lemmas.List.{append-nil, append_assoc}
use Rattle.std.proofs.lemmas.Bool.{leb-true, leb-false, eqb-true, cond_both, and_from, not_from_false}
use Rattle.sb_reader.specs.declared.scan.Place.{Place}
use Rattle.sb_reader.specs.declared.scan.Place.TheVariants.{InGap, InComment, InText, BehindQuote, InQuoted, InRun}
use Rattle.sb_reader.specs.declared.scan.Step.{Step}
use Rattle.sb_reader.specs.declared.scan.Step.TheVariants.{To, EndsBefore, EndsBehind}
use Rattle.sb_reader.specs.Tokens.{Token, Open, Close, Text, Quoted, Run, spelling_of, all_pass, some_pass, has_paired_quotes, is_whole, is_blank, is_line_end, is_run_byte, is_gap}
use Rattle.sb_reader.specs.Entries.{Spells, is_parenthesis}
use Rattle.sb_reader.specs.Scanning.{step_in_gap, step_behind_token, step_at, EndsInGap, EndsInComment, EndsInText, EndsBehindQuote, EndsInQuoted, EndsInRun, EndsAt, LeavesOpen, Scanned, SpellsOne}
use Rattle.sb_reader.proofs.Comments.{all_pass-append, comment_closed, comment_opened}
use Rattle.sb_reader.proofs.Growing.{Spells-grow, Spells-push}
use Rattle.sb_reader.proofs.Opened.{LeavesOpen-open, LeavesOpen-atom, LeavesOpen-close, one_atom, one_close}

-- what a step at a byte says of the bytes in front of it
abbrev pub Says : Step → List ℕ → ℕ → Type 0
Says (To place depth) bytes b = Scanned place depth (bytes ++ b ∷ [])
Says EndsBefore bytes b = SpellsOne false bytes (b ∷ [])
Says EndsBehind bytes b = SpellsOne false (bytes ++ b ∷ []) []

pub EndsInGap-nil : EndsInGap []
EndsInGap-nil = record { closed = λ more. refl; opened = λ more. refl }

pub EndsInGap-is_gap : (gap : List ℕ) → EndsInGap gap → is_gap gap ≡ true
EndsInGap-is_gap gap g = rw (append-nil gap) at (g.closed [])

gap_then_blank : (gap : List ℕ) (b : ℕ) → EndsInGap gap → eqb b 59 ≡ false → is_blank b ≡ true
    → EndsInGap (gap ++ b ∷ [])
gap_then_blank gap b g n h =
    record {
      closed = λ more. rw append_assoc (rw (n, h) at (g.closed (b ∷ more)));
      opened = λ more. rw append_assoc (rw (n, h) at (g.opened (b ∷ more)));
    }

gap_then_comment : (gap : List ℕ) (b : ℕ) → EndsInGap gap → eqb b 59 ≡ true → EndsInComment (gap ++ b ∷ [])
gap_then_comment gap b g h =
    record { gap = gap; inside = []; split = rw (eqb-true b 59 h) refl; is_gap = g; no_line_end = refl }

comment_then_line_end : (rest : List ℕ) (b : ℕ) → EndsInComment rest → is_line_end b ≡ true → EndsInGap (rest ++ b ∷ [])
comment_then_line_end rest b e h =
    record {
      closed = λ more. rw append_assoc (rw h at (comment_closed rest e (b ∷ more)));
      opened = λ more. rw append_assoc (rw h at (comment_opened rest e (b ∷ more)));
    }

comment_then_more : (rest : List ℕ) (b : ℕ) → EndsInComment rest → is_line_end b ≡ false
    → EndsInComment (rest ++ b ∷ [])
comment_then_more rest b e h =
    record {
      gap = e.gap;
      inside = e.inside ++ b ∷ [];
      split = rw e.split (append_assoc e.gap (59 ∷ e.inside) (b ∷ []));
      is_gap = e.is_gap;
      no_line_end = all_pass-append (λ b. not (is_line_end b)) e.inside (b ∷ []) e.no_line_end (rw h refl);
    }

-- A byte follows bytes that end in a gap.
record Before (depth : ℕ) (bytes : List ℕ) (b : ℕ) : Type 0 where
  tokens : List Token
  front : List ℕ
  rest : List ℕ
  split : bytes ≡ front ++ rest
  spelled : Spells false tokens front (rest ++ b ∷ [])
  leaves : LeavesOpen tokens depth
  gap : EndsInGap rest

-- the byte begins a token or goes on in the gap
goes_on : (place : Place) (depth : ℕ) (bytes : List ℕ) (b : ℕ) → (p : Before depth bytes b)
    → EndsAt place (p.rest ++ b ∷ []) → Scanned place depth (bytes ++ b ∷ [])
goes_on place depth bytes b p e =
    record {
      tokens = p.tokens;
      front = p.front;
      rest = p.rest ++ b ∷ [];
      split = rw p.split (append_assoc p.front p.rest (b ∷ []));
      spelled = p.spelled;
      leaves = p.leaves;
      ends = e;
    }

-- the byte is a parenthesis
parenthesis : (token : Token) (depth : ℕ) (bytes : List ℕ) (b : ℕ) → (p : Before depth bytes b)
    → spelling_of token ≡ b ∷ [] → is_whole false token [] ≡ true
    → Spells false (p.tokens ++ token ∷ []) (bytes ++ b ∷ []) []
parenthesis token depth bytes b p spelling whole =
    rw (p.split, append_assoc p.front p.rest (b ∷ []))
    (Spells-push false p.tokens token p.front (p.rest ++ b ∷ []) [] p.rest
    (rw (append-nil (p.rest ++ b ∷ [])) p.spelled) (EndsInGap-is_gap p.rest p.gap) (rw spelling refl) whole)

-- all is whole behind a parenthesis
behind_parenthesis : (tokens : List Token) (depth : ℕ) (bytes : List ℕ) → Spells false tokens bytes []
    → LeavesOpen tokens depth → Scanned InGap depth bytes
behind_parenthesis tokens depth bytes s l =
    record {
      tokens = tokens;
      front = bytes;
      rest = [];
      split = sym (append-nil bytes);
      spelled = s;
      leaves = l;
      ends = EndsInGap-nil;
    }

then_open : (depth : ℕ) (bytes : List ℕ) (b : ℕ) → Before depth bytes b → eqb b 40 ≡ true
    → Scanned InGap (depth + 1) (bytes ++ b ∷ [])
then_open depth bytes b p h =
    rw add-one
    (behind_parenthesis (p.tokens ++ Open ∷ []) (suc depth) (bytes ++ b ∷ [])
    (parenthesis Open depth bytes b p (rw (eqb-true b 40 h) refl) refl) (LeavesOpen-open p.tokens depth p.leaves))

close_within : (depth : ℕ) (bytes : List ℕ) (b : ℕ) → Before depth bytes b → eqb b 41 ≡ true → 1 < depth
    → Scanned InGap (depth - 1) (bytes ++ b ∷ [])
close_within zero bytes b p h inner = absurd (omega arith)
close_within (suc zero) bytes b p h inner = absurd (omega arith)
close_within (suc (suc depth)) bytes b p h inner =
    let one_less : suc (suc depth) - 1 ≡ suc depth = omega arith in
    rw one_less
    (behind_parenthesis (p.tokens ++ Close ∷ []) (suc depth) (bytes ++ b ∷ [])
    (parenthesis Close (suc (suc depth)) bytes b p (rw (eqb-true b 41 h) refl) refl)
    (LeavesOpen-close p.tokens depth p.leaves))

then_close : (depth : ℕ) (bytes : List ℕ) (b : ℕ) → Before depth bytes b → eqb b 41 ≡ true
    → Says (if leb depth 1 then EndsBehind else To InGap (depth - 1)) bytes b
then_close depth bytes b p h =
    cond_both (leb depth 1) EndsBehind (To InGap (depth - 1)) (λ s. Says s bytes b)
    (λ outer. record {
      tokens = p.tokens ++ Close ∷ [];
      one = one_close p.tokens depth (leb-true depth 1 outer) p.leaves;
      spelled = parenthesis Close depth bytes b p (rw (eqb-true b 41 h) refl) refl;
    })
    (λ inner. close_within depth bytes b p h (leb-false depth 1 inner))

-- a byte that begins a run
then_run : (bytes : List ℕ) (b : ℕ) → EndsInGap bytes → eqb b 40 ≡ false → eqb b 41 ≡ false → eqb b 34 ≡ false
    → eqb b 124 ≡ false → eqb b 59 ≡ false → is_blank b ≡ false → EndsInRun (bytes ++ b ∷ [])
then_run bytes b g h1 h2 h3 h4 h5 h6 =
    record {
      gap = bytes;
      first = b;
      others = [];
      split = refl;
      is_gap = g;
      first_passes = rw (h6, h1, h2, h3, h5, h4) refl;
      others_pass = λ more. refl;
    }

in_gap : (depth : ℕ) (bytes : List ℕ) (b : ℕ) → Before depth bytes b → Says (step_in_gap depth b) bytes b
in_gap depth bytes b p =
    cond_both (eqb b 40) _ _ (λ s. Says s bytes b) (λ h. then_open depth bytes b p h) (λ h40.
    cond_both (eqb b 41) _ _ (λ s. Says s bytes b) (λ h. then_close depth bytes b p h) (λ h41.
    cond_both (eqb b 34) _ _ (λ s. Says s bytes b)
    (λ h. goes_on InText depth bytes b p
    (record {
      gap = p.rest;
      inside = [];
      split = rw (eqb-true b 34 h) refl;
      is_gap = p.gap;
      paired =
          λ more. refl;
    })) (λ h34.
    cond_both (eqb b 124) _ _ (λ s. Says s bytes b)
    (λ h. goes_on InQuoted depth bytes b p
    (record {
      gap = p.rest;
      inside = [];
      split = rw (eqb-true b 124 h) refl;
      is_gap = p.gap;
      no_bar =
          λ more. refl;
    })) (λ h124.
    cond_both (eqb b 59) _ _ (λ s. Says s bytes b)
    (λ h. goes_on InComment depth bytes b p (gap_then_comment p.rest b p.gap h)) (λ h59.
    cond_both (is_blank b) _ _ (λ s. Says s bytes b)
    (λ h. goes_on InGap depth bytes b p (gap_then_blank p.rest b p.gap h59 h))
    (λ blank. goes_on InRun depth bytes b p (then_run p.rest b p.gap h40 h41 h34 h124 h59 blank)))))))

-- one more byte of what stands behind the whole tokens
further : (place to : Place) (depth : ℕ) (bytes : List ℕ) (b : ℕ) → (s : Scanned place depth bytes)
    → EndsAt to (s.rest ++ b ∷ []) → Scanned to depth (bytes ++ b ∷ [])
further place to depth bytes b s e =
    record {
      tokens = s.tokens;
      front = s.front;
      rest = s.rest ++ b ∷ [];
      split = rw s.split (append_assoc s.front s.rest (b ∷ []));
      spelled = Spells-grow false s.tokens s.front s.rest (b ∷ []) s.spelled;
      leaves = s.leaves;
      ends = e;
    }

before : (depth : ℕ) (bytes : List ℕ) (b : ℕ) → Scanned InGap depth bytes → Before depth bytes b
before depth bytes b s =
    record {
      tokens = s.tokens;
      front = s.front;
      rest = s.rest;
      split = s.split;
      spelled = Spells-grow false s.tokens s.front s.rest (b ∷ []) s.spelled;
      leaves = s.leaves;
      gap = s.ends;
    }

-- the byte follows an atom
behind_atom : (depth : ℕ) (tokens : List Token) (token : Token) (bytes : List ℕ) (b : ℕ) → is_parenthesis token ≡ false
    → LeavesOpen tokens depth → Spells false (tokens ++ token ∷ []) bytes (b ∷ [])
    → Says (step_behind_token depth b) bytes b
behind_atom zero tokens token bytes b atom l s =
    record { tokens = tokens ++ token ∷ []; one = one_atom tokens token atom l; spelled = s }
behind_atom (suc depth) tokens token bytes b atom l s =
    let within : eqb (suc depth) 0 ≡ false = ne_eqb (suc depth) 0 (λ e. omega arith) in
    rw within
    (in_gap (suc depth) bytes b
    (record {
      tokens = tokens ++ token ∷ [];
      front = bytes;
      rest = [];
      split = sym (append-nil bytes);
      spelled = s;
      leaves = LeavesOpen-atom tokens depth token atom l;
      gap = EndsInGap-nil;
    }))

-- the text is whole in front of a byte that is no quote
pub text_spelled : (ended : Bool) (depth : ℕ) (bytes after : List ℕ) (s : Scanned BehindQuote depth bytes)
    → is_whole ended (Text s.ends.inside) after ≡ true → Spells ended (s.tokens ++ Text s.ends.inside ∷ []) bytes after
text_spelled ended depth bytes after s whole =
    rw s.split
    (Spells-push ended s.tokens (Text s.ends.inside) s.front s.rest after s.ends.gap
    (Spells-grow ended s.tokens s.front s.rest after s.spelled) (EndsInGap-is_gap s.ends.gap s.ends.is_gap)
    s.ends.split whole)

-- the run is whole in front of a byte that is none of a run
pub run_spelled : (ended : Bool) (depth : ℕ) (bytes after : List ℕ) (s : Scanned InRun depth bytes)
    → is_whole ended (Run (s.ends.first ∷ s.ends.others)) after ≡ true
    → Spells ended (s.tokens ++ Run (s.ends.first ∷ s.ends.others) ∷ []) bytes after
run_spelled ended depth bytes after s whole =
    rw s.split
    (Spells-push ended s.tokens (Run (s.ends.first ∷ s.ends.others)) s.front s.rest after s.ends.gap
    (Spells-grow ended s.tokens s.front s.rest after s.spelled) (EndsInGap-is_gap s.ends.gap s.ends.is_gap)
    s.ends.split whole)

pub text_paired : (rest : List ℕ) → (e : EndsBehindQuote rest) → has_paired_quotes e.inside ≡ true
text_paired rest e = rw (append-nil e.inside) at (e.paired [])

pub run_passes : (rest : List ℕ) → (e : EndsInRun rest) → some_pass is_run_byte (e.first ∷ e.others) ≡ true
run_passes rest e = and_from (is_run_byte e.first) (all_pass is_run_byte e.others) e.first_passes
    (rw (append-nil e.others) at (e.others_pass []))

in_comment : (depth : ℕ) (bytes : List ℕ) (b : ℕ) → Scanned InComment depth bytes
    → Says (step_at InComment depth b) bytes b
in_comment depth bytes b s =
    cond_both (is_line_end b) _ _ (λ s. Says s bytes b)
    (λ h. further InComment InGap depth bytes b s (comment_then_line_end s.rest b s.ends h))
    (λ h. further InComment InComment depth bytes b s (comment_then_more s.rest b s.ends h))

text_then_quote : (rest : List ℕ) (b : ℕ) → EndsInText rest → eqb b 34 ≡ true → EndsBehindQuote (rest ++ b ∷ [])
text_then_quote rest b e h =
    record {
      gap = e.gap;
      inside = e.inside;
      split = rw (e.split, eqb-true b 34 h) (append_assoc e.gap (34 ∷ e.inside) (34 ∷ []));
      is_gap = e.is_gap;
      paired = e.paired;
    }

text_then_more : (rest : List ℕ) (b : ℕ) → EndsInText rest → eqb b 34 ≡ false → EndsInText (rest ++ b ∷ [])
text_then_more rest b e h =
    record {
      gap = e.gap;
      inside = e.inside ++ b ∷ [];
      split = rw e.split (append_assoc e.gap (34 ∷ e.inside) (b ∷ []));
      is_gap = e.is_gap;
      paired = λ more. rw append_assoc (rw h at (e.paired (b ∷ more)));
    }

in_text : (depth : ℕ) (bytes : List ℕ) (b : ℕ) → Scanned InText depth bytes → Says (step_at InText depth b) bytes b
in_text depth bytes b s =
    cond_both (eqb b 34) _ _ (λ s. Says s bytes b)
    (λ h. further InText BehindQuote depth bytes b s (text_then_quote s.rest b s.ends h))
    (λ h. further InText InText depth bytes b s (text_then_more s.rest b s.ends h))

quote_then_quote : (rest : List ℕ) (b : ℕ) → EndsBehindQuote rest → eqb b 34 ≡ true → EndsInText (rest ++ b ∷ [])
quote_then_quote rest b e h =
    record {
      gap = e.gap;
      inside = e.inside ++ 34 ∷ 34 ∷ [];
      split = rw (e.split, eqb-true b 34 h) (simp append_assoc);
      is_gap = e.is_gap;
      paired = λ more. rw append_assoc (e.paired (34 ∷ 34 ∷ more));
    }

behind_quote : (depth : ℕ) (bytes : List ℕ) (b : ℕ) → Scanned BehindQuote depth bytes
    → Says (step_at BehindQuote depth b) bytes b
behind_quote depth bytes b s =
    cond_both (eqb b 34) _ _ (λ s. Says s bytes b)
    (λ h. further BehindQuote InText depth bytes b s (quote_then_quote s.rest b s.ends h))
    (λ h. behind_atom depth s.tokens (Text s.ends.inside) bytes b refl s.leaves
    (text_spelled false depth bytes (b ∷ []) s
    (and_from _ (not (eqb b 34)) (text_paired s.rest s.ends) (not_from_false (eqb b 34) h))))

quoted_then_more : (rest : List ℕ) (b : ℕ) → EndsInQuoted rest → eqb b 124 ≡ false → EndsInQuoted (rest ++ b ∷ [])
quoted_then_more rest b e h =
    record {
      gap = e.gap;
      inside = e.inside ++ b ∷ [];
      split = rw e.split (append_assoc e.gap (124 ∷ e.inside) (b ∷ []));
      is_gap = e.is_gap;
      no_bar = λ more. rw append_assoc (rw h at (e.no_bar (b ∷ more)));
    }

quoted_spelled : (depth : ℕ) (bytes : List ℕ) (b : ℕ) (s : Scanned InQuoted depth bytes) → eqb b 124 ≡ true
    → Spells false (s.tokens ++ Quoted s.ends.inside ∷ []) (bytes ++ b ∷ []) []
quoted_spelled depth bytes b s h =
    rw (s.split, append_assoc s.front s.rest (b ∷ []))
    (Spells-push false s.tokens (Quoted s.ends.inside) s.front (s.rest ++ b ∷ []) [] s.ends.gap
    (rw (append-nil (s.rest ++ b ∷ [])) (Spells-grow false s.tokens s.front s.rest (b ∷ []) s.spelled))
    (EndsInGap-is_gap s.ends.gap s.ends.is_gap)
    (rw (s.ends.split, eqb-true b 124 h) (append_assoc s.ends.gap (124 ∷ s.ends.inside) (124 ∷ [])))
    (rw (append-nil s.ends.inside) at (s.ends.no_bar [])))

quoted_ends : (depth : ℕ) (bytes : List ℕ) (b : ℕ) → Scanned InQuoted depth bytes → eqb b 124 ≡ true
    → Says (if eqb depth 0 then EndsBehind else To InGap depth) bytes b
quoted_ends zero bytes b s h =
    record {
      tokens = s.tokens ++ Quoted s.ends.inside ∷ [];
      one =
          one_atom s.tokens (Quoted s.ends.inside) refl s.leaves;
      spelled = quoted_spelled 0 bytes b s h;
    }
quoted_ends (suc depth) bytes b s h =
    let within : eqb (suc depth) 0 ≡ false = ne_eqb (suc depth) 0 (λ e. omega arith) in
    rw within
    (behind_parenthesis (s.tokens ++ Quoted s.ends.inside ∷ []) (suc depth) (bytes ++ b ∷ [])
    (quoted_spelled (suc depth) bytes b s h) (LeavesOpen-atom s.tokens depth (Quoted s.ends.inside) refl s.leaves))

in_quoted : (depth : ℕ) (bytes : List ℕ) (b : ℕ) → Scanned InQuoted depth bytes
    → Says (step_at InQuoted depth b) bytes b
in_quoted depth bytes b s =
    cond_both (eqb b 124) _ _ (λ s. Says s bytes b)
    (λ h. quoted_ends depth bytes b s h)
    (λ h. further InQuoted InQuoted depth bytes b s (quoted_then_more s.rest b s.ends h))

run_then_more : (rest : List ℕ) (b : ℕ) → EndsInRun rest → is_run_byte b ≡ true → EndsInRun (rest ++ b ∷ [])
run_then_more rest b e h =
    record {
      gap = e.gap;
      first = e.first;
      others = e.others ++ b ∷ [];
      split = rw e.split (append_assoc e.gap (e.first ∷ e.others) (b ∷ []));
      is_gap = e.is_gap;
      first_passes = e.first_passes;
      others_pass = λ more. rw append_assoc (rw h at (e.others_pass (b ∷ more)));
    }

in_run : (depth : ℕ) (bytes : List ℕ) (b : ℕ) → Scanned InRun depth bytes → Says (step_at InRun depth b) bytes b
in_run depth bytes b s =
    cond_both (is_run_byte b) _ _ (λ s. Says s bytes b)
    (λ h. further InRun InRun depth bytes b s (run_then_more s.rest b s.ends h))
    (λ h. behind_atom depth s.tokens (Run (s.ends.first ∷ s.ends.others)) bytes b refl s.leaves
    (run_spelled false depth bytes (b ∷ []) s
    (and_from _ (not (is_run_byte b)) (run_passes s.rest s.ends) (not_from_false (is_run_byte b) h))))

pub step_says : (place : Place) (depth : ℕ) (bytes : List ℕ) (b : ℕ) → Scanned place depth bytes
    → Says (step_at place depth b) bytes b
step_says InGap depth bytes b s = in_gap depth bytes b (before depth bytes b s)
step_says InComment depth bytes b s = in_comment depth bytes b s
step_says InText depth bytes b s = in_text depth bytes b s
step_says BehindQuote depth bytes b s = behind_quote depth bytes b s
step_says InQuoted depth bytes b s = in_quoted depth bytes b s
step_says InRun depth bytes b s = in_run depth bytes b s
