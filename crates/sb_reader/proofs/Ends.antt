-- What a scan of all bytes says of them.
use Rattle.std.proofs.Common.{◌≡◌, ℕ, zero, suc, Bool, true, false, not, ◌&&◌, List, [], ◌∷◌, ◌++◌, refl, arith, eqb, sym, ne_eqb, inl, inr, length}
use Rattle.std.specs.Prelude.{if◌then◌else◌}
use Rattle.std.proofs.lemmas.List.{append-nil, append_assoc, take_all, drop_all}
use Rattle.std.proofs.lemmas.Bool.{and_parts, not-true, false≢true}
use Rattle.sb_reader.specs.declared.scan.Place.{Place}
use Rattle.sb_reader.specs.declared.scan.Place.TheVariants.{InGap, InComment, InText, BehindQuote, InQuoted, InRun}
use Rattle.sb_reader.specs.Tokens.{Token, Open, Text, Run, is_blank, is_line_end, is_run_byte, is_gap, is_comment_then_gap, is_open_gap, is_comment_then_open_gap}
use Rattle.sb_reader.specs.Entries.{Spells, is_parenthesis, HoldsNoToken, HoldsNoEntry}
use Rattle.sb_reader.specs.Scanning.{found_at_end, EndsInGap, EndsInComment, EndsInText, EndsBehindQuote, EndsInQuoted, EndsInRun, LeavesOpen, Scanned, SpellsOne, EndsEntry, FindsEnd}
use Rattle.sb_reader.proofs.Comments.{comment_opened}
use Rattle.sb_reader.proofs.Growing.{Spells-grow}
use Rattle.sb_reader.proofs.Opened.{LeavesOpen-atom, one_atom, open_entry}
use Rattle.sb_reader.proofs.Steps.{EndsInGap-is_gap, text_spelled, run_spelled, text_paired, run_passes}

if_steps : (v u p q p' q' r : Bool) → (p ≡ true → p' ≡ r) → (q ≡ true → q' ≡ r) → (if v then p else (u && q)) ≡ true
    → (if v then p' else (u && q')) ≡ r
if_steps true u p q p' q' r f g h = f h
if_steps false true p q p' q' r f g h = g h
if_steps false false p q p' q' r f g h = absurd (false≢true h)

if_line : (v p q p' q' r : Bool) → (p ≡ true → p' ≡ r) → (q ≡ true → q' ≡ r) → (if v then p else q) ≡ true
    → (if v then p' else q') ≡ r
if_line true p q p' q' r f g h = f h
if_line false p q p' q' r f g h = g h

-- behind a gap what follows decides
mutual
  pub is_gap-append : (gap more : List ℕ) → is_gap gap ≡ true → is_gap (gap ++ more) ≡ is_gap more
  is_gap-append [] more h = refl
  is_gap-append (b ∷ bs) more h =
      if_steps (eqb b 59) (is_blank b) (is_comment_then_gap bs) (is_gap bs) (is_comment_then_gap (bs ++ more))
      (is_gap (bs ++ more)) (is_gap more) (is_comment_then_gap-append bs more) (is_gap-append bs more) h

  is_comment_then_gap-append : (gap more : List ℕ) → is_comment_then_gap gap ≡ true
      → is_comment_then_gap (gap ++ more) ≡ is_gap more
  is_comment_then_gap-append [] more h = absurd (false≢true h)
  is_comment_then_gap-append (b ∷ bs) more h =
      if_line (is_line_end b) (is_gap bs) (is_comment_then_gap bs) (is_gap (bs ++ more))
      (is_comment_then_gap (bs ++ more)) (is_gap more) (is_gap-append bs more) (is_comment_then_gap-append bs more)
      h

-- the same, where the last comment may go on
mutual
  pub is_open_gap-append : (gap more : List ℕ) → is_gap gap ≡ true → is_open_gap (gap ++ more) ≡ is_open_gap more
  is_open_gap-append [] more h = refl
  is_open_gap-append (b ∷ bs) more h =
      if_steps (eqb b 59) (is_blank b) (is_comment_then_gap bs) (is_gap bs) (is_comment_then_open_gap (bs ++ more))
      (is_open_gap (bs ++ more)) (is_open_gap more) (is_comment_then_open_gap-append bs more)
      (is_open_gap-append bs more) h

  is_comment_then_open_gap-append : (gap more : List ℕ) → is_comment_then_gap gap ≡ true
      → is_comment_then_open_gap (gap ++ more) ≡ is_open_gap more
  is_comment_then_open_gap-append [] more h = absurd (false≢true h)
  is_comment_then_open_gap-append (b ∷ bs) more h =
      if_line (is_line_end b) (is_gap bs) (is_comment_then_gap bs) (is_open_gap (bs ++ more))
      (is_comment_then_open_gap (bs ++ more)) (is_open_gap more) (is_open_gap-append bs more)
      (is_comment_then_open_gap-append bs more) h

Spells-none : (tokens : List Token) (front rest : List ℕ) → tokens ≡ [] → Spells false tokens front rest → front ≡ []
Spells-none [] front rest e s = s
Spells-none (token ∷ tokens) front rest e s = cc

-- outside a form the rest is all
pub all_is_rest : (place : Place) (bytes : List ℕ) → (s : Scanned place 0 bytes) → bytes ≡ s.rest
all_is_rest place bytes s = rw (s.split, Spells-none s.tokens s.front s.rest s.leaves.begins s.spelled) refl

Spells-form : (tokens others : List Token) (front rest : List ℕ) → tokens ≡ Open ∷ others
    → Spells false tokens front rest → is_open_gap (front ++ rest) ≡ false
Spells-form [] others front rest e s = cc
Spells-form (token ∷ tokens) others front rest e s =
    let is_open : token ≡ Open = cc in
    rw (s.3, is_open, append_assoc) (is_open_gap-append s.0 _ s.2)

-- a form begins with no gap
form_is_no_gap : (place : Place) (depth : ℕ) (bytes : List ℕ) → Scanned place (suc depth) bytes
    → is_open_gap bytes ≡ false
form_is_no_gap place depth bytes s =
    rw s.split (Spells-form s.tokens s.leaves.begins.0 s.front s.rest s.leaves.begins.1 s.spelled)

no_entry : (ended : Bool) (place : Place) (depth : ℕ) (bytes : List ℕ) → (s : Scanned place depth bytes)
    → HoldsNoToken ended s.rest → HoldsNoEntry ended bytes
no_entry ended place depth bytes s h =
    record {
      tokens = s.tokens;
      front = s.front;
      rest = s.rest;
      split = s.split;
      spelled = rw (append-nil s.rest) at (Spells-grow ended s.tokens s.front s.rest [] s.spelled);
      open_entry = open_entry s.tokens depth s.leaves;
      no_token = h;
    }

-- the atom is the last of a form that isn't closed
no_entry_behind : (depth : ℕ) (tokens : List Token) (token : Token) (bytes : List ℕ) → is_parenthesis token ≡ false
    → LeavesOpen tokens (suc depth) → Spells true (tokens ++ token ∷ []) bytes [] → HoldsNoEntry true bytes
no_entry_behind depth tokens token bytes atom l s =
    record {
      tokens = tokens ++ token ∷ [];
      front = bytes;
      rest = [];
      split = sym (append-nil bytes);
      spelled = s;
      open_entry = open_entry (tokens ++ token ∷ []) (suc depth) (LeavesOpen-atom tokens depth token atom l);
      no_token = inl refl;
    }

gap_is_open : (rest : List ℕ) → EndsInGap rest → is_open_gap rest ≡ true
gap_is_open rest g = rw (append-nil rest) at (g.opened [])

comment_is_open : (rest : List ℕ) → EndsInComment rest → is_open_gap rest ≡ true
comment_is_open rest e = rw (append-nil rest) at (comment_opened rest e [])

-- what begins a run is no gap
run_byte_is_no_gap : (b : ℕ) (bs : List ℕ) → is_run_byte b ≡ true → is_open_gap (b ∷ bs) ≡ false
run_byte_is_no_gap b bs h =
    let p = and_parts (not (is_blank b)) _ h in
    let q = and_parts (not (eqb b 40)) _ p.1 in
    let r = and_parts (not (eqb b 41)) _ q.1 in
    let s = and_parts (not (eqb b 34)) _ r.1 in
    let t = and_parts (not (eqb b 59)) _ s.1 in
    rw (not-true (eqb b 59) t.0, not-true (is_blank b) p.0) refl

part_is_no_gap : (rest gap part : List ℕ) → EndsInGap gap → rest ≡ gap ++ part → is_open_gap part ≡ false
    → is_open_gap rest ≡ false
part_is_no_gap rest gap part g e h = rw (e, g.opened part) h

text_no_token : (ended : Bool) (rest : List ℕ) → EndsInText rest → HoldsNoToken ended rest
text_no_token ended rest e =
    inr (
      e.gap,
      34 ∷ e.inside,
      EndsInGap-is_gap e.gap e.is_gap,
      e.split,
      inl (e.inside, inl refl, rw (append-nil e.inside) at (e.paired [])),
    )

quote_no_token : (rest : List ℕ) → EndsBehindQuote rest → HoldsNoToken false rest
quote_no_token rest e =
    inr (
      e.gap,
      34 ∷ (e.inside ++ 34 ∷ []),
      EndsInGap-is_gap e.gap e.is_gap,
      e.split,
      inl (e.inside, inr (refl, refl), text_paired rest e),
    )

quoted_no_token : (ended : Bool) (rest : List ℕ) → EndsInQuoted rest → HoldsNoToken ended rest
quoted_no_token ended rest e =
    inr (
      e.gap,
      124 ∷ e.inside,
      EndsInGap-is_gap e.gap e.is_gap,
      e.split,
      inr (inl (e.inside, refl, rw (append-nil e.inside) at (e.no_bar []))),
    )

run_no_token : (rest : List ℕ) → EndsInRun rest → HoldsNoToken false rest
run_no_token rest e =
    inr (e.gap, e.first ∷ e.others, EndsInGap-is_gap e.gap e.is_gap, e.split, inr (inr (refl, run_passes rest e)))

-- the text is whole where the input ends behind its quote
text_at_end : (depth : ℕ) (bytes : List ℕ) → (s : Scanned BehindQuote depth bytes)
    → Spells true (s.tokens ++ Text s.ends.inside ∷ []) bytes []
text_at_end depth bytes s = text_spelled true depth bytes [] s (rw (text_paired s.rest s.ends) refl)

-- the run is whole where the input ends behind it
run_at_end : (depth : ℕ) (bytes : List ℕ) → (s : Scanned InRun depth bytes)
    → Spells true (s.tokens ++ Run (s.ends.first ∷ s.ends.others) ∷ []) bytes []
run_at_end depth bytes s = run_spelled true depth bytes [] s (rw (run_passes s.rest s.ends) refl)

ends_entry : (bytes : List ℕ) (n : ℕ) → n ≡ length bytes → SpellsOne true bytes [] → EndsEntry true bytes n
ends_entry bytes n e s =
    record {
      within = omega arith;
      spells = rw (e, take_all (length bytes) bytes (omega arith), drop_all (length bytes) bytes (omega arith)) s;
    }

pub found_says : (ended : Bool) (place : Place) (depth : ℕ) (bytes : List ℕ) (n : ℕ) → n ≡ length bytes
    → Scanned place depth bytes → FindsEnd ended bytes (found_at_end ended place depth n)
found_says ended InGap zero bytes n e s = (
  rw (all_is_rest InGap bytes s) (gap_is_open s.rest s.ends),
  no_entry ended InGap 0 bytes s (inl (gap_is_open s.rest s.ends)),
)
found_says ended InGap (suc depth) bytes n e s =
    let within : eqb (suc depth) 0 ≡ false = ne_eqb (suc depth) 0 (λ e. omega arith) in
    rw within (
      form_is_no_gap InGap depth bytes s,
      no_entry ended InGap (suc depth) bytes s (inl (gap_is_open s.rest s.ends)),
    )
found_says ended InComment zero bytes n e s = (
  rw (all_is_rest InComment bytes s) (comment_is_open s.rest s.ends),
  no_entry ended InComment 0 bytes s (inl (comment_is_open s.rest s.ends)),
)
found_says ended InComment (suc depth) bytes n e s =
    let within : eqb (suc depth) 0 ≡ false = ne_eqb (suc depth) 0 (λ e. omega arith) in
    rw within (
      form_is_no_gap InComment depth bytes s,
      no_entry ended InComment (suc depth) bytes s (inl (comment_is_open s.rest s.ends)),
    )
found_says ended InText zero bytes n e s = (
  rw (all_is_rest InText bytes s)
      (part_is_no_gap s.rest s.ends.gap (34 ∷ s.ends.inside) s.ends.is_gap s.ends.split refl),
  no_entry ended InText 0 bytes s (text_no_token ended s.rest s.ends),
)
found_says ended InText (suc depth) bytes n e s =
    (form_is_no_gap InText depth bytes s, no_entry ended InText (suc depth) bytes s (text_no_token ended s.rest s.ends))
found_says ended InQuoted zero bytes n e s = (
  rw (all_is_rest InQuoted bytes s)
      (part_is_no_gap s.rest s.ends.gap (124 ∷ s.ends.inside) s.ends.is_gap s.ends.split refl),
  no_entry ended InQuoted 0 bytes s (quoted_no_token ended s.rest s.ends),
)
found_says ended InQuoted (suc depth) bytes n e s = (
  form_is_no_gap InQuoted depth bytes s,
  no_entry ended InQuoted (suc depth) bytes s (quoted_no_token ended s.rest s.ends),
)
found_says false BehindQuote zero bytes n e s = (
  rw (all_is_rest BehindQuote bytes s)
      (part_is_no_gap s.rest s.ends.gap (34 ∷ (s.ends.inside ++ 34 ∷ [])) s.ends.is_gap s.ends.split refl),
  no_entry false BehindQuote 0 bytes s (quote_no_token s.rest s.ends),
)
found_says false BehindQuote (suc depth) bytes n e s = (
  form_is_no_gap BehindQuote depth bytes s,
  no_entry false BehindQuote (suc depth) bytes s (quote_no_token s.rest s.ends),
)
found_says true BehindQuote zero bytes n e s =
    ends_entry bytes n e (record {
      tokens = s.tokens ++ Text s.ends.inside ∷ [];
      one =
          one_atom s.tokens (Text s.ends.inside) refl s.leaves;
      spelled = text_at_end 0 bytes s;
    })
found_says true BehindQuote (suc depth) bytes n e s =
    let within : eqb (suc depth) 0 ≡ false = ne_eqb (suc depth) 0 (λ e. omega arith) in
    rw within (
      form_is_no_gap BehindQuote depth bytes s,
      no_entry_behind depth s.tokens (Text s.ends.inside) bytes refl s.leaves (text_at_end (suc depth) bytes s),
    )
found_says false InRun zero bytes n e s = (
  rw (all_is_rest InRun bytes s)
      (part_is_no_gap s.rest s.ends.gap (s.ends.first ∷ s.ends.others) s.ends.is_gap s.ends.split
      (run_byte_is_no_gap s.ends.first s.ends.others s.ends.first_passes)),
  no_entry false InRun 0 bytes s (run_no_token s.rest s.ends),
)
found_says false InRun (suc depth) bytes n e s =
    (form_is_no_gap InRun depth bytes s, no_entry false InRun (suc depth) bytes s (run_no_token s.rest s.ends))
found_says true InRun zero bytes n e s =
    ends_entry bytes n e (record {
      tokens = s.tokens ++ Run (s.ends.first ∷ s.ends.others) ∷ [];
      one =
          one_atom s.tokens (Run (s.ends.first ∷ s.ends.others)) refl s.leaves;
      spelled = run_at_end 0 bytes s;
    })
found_says true InRun (suc depth) bytes n e s =
    let within : eqb (suc depth) 0 ≡ false = ne_eqb (suc depth) 0 (λ e. omega arith) in
    rw within (
      form_is_no_gap InRun depth bytes s,
      no_entry_behind depth s.tokens (Run (s.ends.first ∷ s.ends.others)) bytes refl s.leaves
          (run_at_end (suc depth) bytes s),
    )

-- no entry is whole, and no more was scanned than a gap and the beginning of an entry
pub not_found : (place : Place) (depth : ℕ) (bytes : List ℕ) (n : ℕ)
    → FindsEnd false bytes (found_at_end false place depth n) → HoldsNoEntry false bytes
not_found InGap zero bytes n h = h.1
not_found InGap (suc depth) bytes n h =
    let within : eqb (suc depth) 0 ≡ false = ne_eqb (suc depth) 0 (λ e. omega arith) in
    (rw within at h).1
not_found InComment zero bytes n h = h.1
not_found InComment (suc depth) bytes n h =
    let within : eqb (suc depth) 0 ≡ false = ne_eqb (suc depth) 0 (λ e. omega arith) in
    (rw within at h).1
not_found InText depth bytes n h = h.1
not_found BehindQuote depth bytes n h = h.1
not_found InQuoted depth bytes n h = h.1
not_found InRun depth bytes n h = h.1
