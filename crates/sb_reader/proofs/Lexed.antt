-- The code's first token is the token that the bytes spell.
use Rattle.std.proofs.Common.{◌≡◌, ℕ, suc, ◌+◌, ◌<◌, Bool, true, false, not, ◌&&◌, ◌==◌, cond, List, [], ◌∷◌, ◌++◌, length, take, drop, Some, None, refl, ap, ◌∙◌, subst, arith, append_assoc, eqb, length-append}
use Rattle.std.proofs.Math.Bool.{not-not}
use Rattle.std.specs.List.{prefix_len}
use Rattle.std.proofs.lemmas.Bool.{and_parts, not-true, false≢true, lt-ltb}
use Rattle.std.proofs.lemmas.List.{take_at, drop_at}
use Rattle.sb_reader.specs.Tokens.{Token, Open, Close, Text, Quoted, Run, spelling_of, is_blank, is_line_end, is_run_byte, all_pass, some_pass, begins_with, has_paired_quotes, begins_with_second, is_whole, is_gap, is_comment_then_gap}
use Rattle.sb_reader.specs.Lexing.{skip_from, closing_from, closing_behind, text_in, quoted_in, run_in, token_in, first_token, cut_text, cut_quoted, cut_run}

-- White space and comments are skipped.
abbrev pub SkipsGap : List ℕ → List ℕ → Type 0
SkipsGap gap s = is_gap gap ≡ true → skip_from false (gap ++ s) ≡ skip_from false s

abbrev pub SkipsComment : List ℕ → List ℕ → Type 0
SkipsComment gap s = is_comment_then_gap gap ≡ true → skip_from true (gap ++ s) ≡ skip_from false s

skip_gap_at : (semicolon blank : Bool) (b : ℕ) (bs s : List ℕ)
    → cond semicolon (is_comment_then_gap bs) (blank && is_gap bs) ≡ true → SkipsGap bs s → SkipsComment bs s
    → cond semicolon (skip_from true (bs ++ s)) (cond blank (skip_from false (bs ++ s)) (b ∷ (bs ++ s)))
    ≡ skip_from false s
skip_gap_at true blank b bs s h over comment = comment h
skip_gap_at false true b bs s h over comment = over h
skip_gap_at false false b bs s h over comment = absurd (false≢true h)

skip_comment_at : (line_end : Bool) (bs s : List ℕ) → cond line_end (is_gap bs) (is_comment_then_gap bs) ≡ true
    → SkipsGap bs s → SkipsComment bs s → skip_from (not line_end) (bs ++ s) ≡ skip_from false s
skip_comment_at true bs s h over comment = over h
skip_comment_at false bs s h over comment = comment h

pub skips : (gap s : List ℕ) → SkipsGap gap s × SkipsComment gap s
skips [] s = (λ h. refl, λ h. absurd (false≢true h))
skips (b ∷ bs) s =
    let rest = skips bs s in (
      λ h. skip_gap_at (eqb b 59) (is_blank b) b bs s h rest.0 rest.1,
      λ h. skip_comment_at (is_line_end b) bs s h rest.0 rest.1,
    )

-- The quote that closes a text is found.
closes_at : (i : ℕ) (after : List ℕ) → begins_with (λ b. b == 34) after ≡ false → closing_behind i after ≡ Some i
closes_at i [] h = refl
closes_at i (c ∷ cs) h = ap (λ t. cond t (closing_from (i + 2) cs) (Some i)) h

abbrev FindsQuote : List ℕ → List ℕ → Type 0
FindsQuote inside after = (i : ℕ) → has_paired_quotes inside ≡ true
    → closing_from i (inside ++ 34 ∷ after) ≡ Some (i + length inside)

abbrev FindsBehind : List ℕ → List ℕ → Type 0
FindsBehind inside after = (i : ℕ) → begins_with_second inside ≡ true
    → closing_behind i (inside ++ 34 ∷ after) ≡ Some (i + 1 + length inside)

finds_at : (quote : Bool) (bs after : List ℕ) (i : ℕ) → cond quote (begins_with_second bs) (has_paired_quotes bs) ≡ true
    → FindsQuote bs after → FindsBehind bs after
    → cond quote (closing_behind i (bs ++ 34 ∷ after)) (closing_from (i + 1) (bs ++ 34 ∷ after))
    ≡ Some (i + suc (length bs))
finds_at true bs after i h quote behind = behind i h ∙ ap Some (omega arith)
finds_at false bs after i h quote behind = quote (i + 1) h ∙ ap Some (omega arith)

finds_second : (quote : Bool) (bs after : List ℕ) (i : ℕ) → (quote && has_paired_quotes bs) ≡ true → FindsQuote bs after
    → cond quote (closing_from (i + 2) (bs ++ 34 ∷ after)) (Some i) ≡ Some (i + 1 + suc (length bs))
finds_second true bs after i h quote = quote (i + 2) h ∙ ap Some (omega arith)
finds_second false bs after i h quote = absurd (false≢true h)

finds : (inside after : List ℕ) → begins_with (λ b. b == 34) after ≡ false
    → FindsQuote inside after × FindsBehind inside after
finds [] after stops = (λ i h. closes_at i after stops ∙ ap Some (omega arith), λ i h. absurd (false≢true h))
finds (b ∷ bs) after stops =
    let rest = finds bs after stops in
    (λ i h. finds_at (eqb b 34) bs after i h rest.0 rest.1, λ i h. finds_second (eqb b 34) bs after i h rest.0)

-- The first byte that fails is found behind those that pass.
prefix_at : (p : ℕ → Bool) (t : Bool) (n m : ℕ) (rest : Bool) → (t && rest) ≡ true → (rest ≡ true → n ≡ m)
    → cond t (1 + n) 0 ≡ suc m
prefix_at p true n m rest h same = omega (arith, same h)
prefix_at p false n m rest h same = absurd (false≢true h)

pub prefix_stops : (p : ℕ → Bool) (xs ys : List ℕ) → all_pass p xs ≡ true → begins_with p ys ≡ false
    → prefix_len p (xs ++ ys) ≡ length xs
prefix_stops p [] [] pass stops = refl
prefix_stops p [] (y ∷ ys) pass stops = ap (λ t. cond t (1 + prefix_len p ys) 0) stops
prefix_stops p (x ∷ xs) ys pass stops = prefix_at p (p x) _ _ (all_pass p xs) pass (λ h. prefix_stops p xs ys h stops)

all_pass-not : (p : ℕ → Bool) (xs : List ℕ) → all_pass (λ b. not (not (p b))) xs ≡ all_pass p xs
all_pass-not p [] = refl
all_pass-not p (x ∷ xs) = λ j. not-not (p x) j && all_pass-not p xs j

begins_with-not : (p : ℕ → Bool) (xs : List ℕ) → begins_with (λ b. not (not (p b))) xs ≡ begins_with p xs
begins_with-not p [] = refl
begins_with-not p (x ∷ xs) = not-not (p x)

-- A run behind a gap, whose first byte begins none of the other tokens.
record IsRunStart (b : ℕ) : Type 0 where
  semicolon : eqb b 59 ≡ false
  blank : is_blank b ≡ false
  opens : eqb b 40 ≡ false
  closes : eqb b 41 ≡ false
  quote : eqb b 34 ≡ false
  bar : eqb b 124 ≡ false

run_start : (b : ℕ) → is_run_byte b ≡ true → IsRunStart b
run_start b h =
    let blank = and_parts _ _ h in
    let opens = and_parts _ _ blank.1 in
    let closes = and_parts _ _ opens.1 in
    let quote = and_parts _ _ closes.1 in
    let semicolon = and_parts _ _ quote.1 in
    record {
      semicolon = not-true _ semicolon.0;
      blank = not-true _ blank.0;
      opens = not-true _ opens.0;
      closes = not-true _ closes.0;
      quote = not-true _ quote.0;
      bar = not-true _ semicolon.1;
    }

pub run_byte_is_no_semicolon : (b : ℕ) → is_run_byte b ≡ true → eqb b 59 ≡ false
run_byte_is_no_semicolon b h = (run_start b h).semicolon

abbrev pub Lexes : Token → List ℕ → Type 0
Lexes token after = token_in (skip_from false (spelling_of token ++ after)) ≡ Some (token, after)

-- the parts round a byte
cut_before : (a b : List ℕ) → take (length a) (a ++ b) ≡ a
cut_before a b = take_at a b (length a) refl

cut_behind : (a b : List ℕ) → drop (length a) (a ++ b) ≡ b
cut_behind a b = drop_at a b (length a) refl

cut_past : (a b : List ℕ) (x : ℕ) → drop (length a + 1) (a ++ x ∷ b) ≡ b
cut_past a b x = let e : (a ++ x ∷ []) ++ b ≡ a ++ x ∷ b = append_assoc a (x ∷ []) b in
    subst (λ ys. drop (length a + 1) ys ≡ b) e
    (drop_at (a ++ x ∷ []) b (length a + 1) (length-append a (x ∷ []) ∙ omega arith))

pub read_text : (inside after : List ℕ) → has_paired_quotes inside ≡ true → begins_with (λ b. b == 34) after ≡ false
    → text_in (inside ++ 34 ∷ after) ≡ Some (Text inside, after)
read_text inside after paired stops =
    ap (cut_text (inside ++ 34 ∷ after)) ((finds inside after stops).0 0 paired ∙ ap Some (omega arith))
    ∙ (λ j. Some (Text (cut_before inside (34 ∷ after) j), cut_past inside after 34 j))

read_quoted : (inside after : List ℕ) → all_pass (λ b. not (b == 124)) inside ≡ true
    → quoted_in (inside ++ 124 ∷ after) ≡ Some (Quoted inside, after)
read_quoted inside after pass =
    let below : length inside < length (inside ++ 124 ∷ after) = omega (arith, length-append inside (124 ∷ after)) in
    ap (cut_quoted (inside ++ 124 ∷ after)) (prefix_stops (λ b. not (b == 124)) inside (124 ∷ after) pass refl)
    ∙ ap (λ t. cond t
    (Some (Quoted (take (length inside) (inside ++ 124 ∷ after)), drop (length inside + 1) (inside ++ 124 ∷ after)))
    None) (lt-ltb _ _ below) ∙ (λ j. Some (Quoted (cut_before inside (124 ∷ after) j), cut_past inside after 124 j))

read_run : (bytes after : List ℕ) → all_pass is_run_byte bytes ≡ true → begins_with is_run_byte after ≡ false
    → run_in (bytes ++ after) ≡ Some (Run bytes, after)
read_run bytes after pass stops =
    ap (cut_run (bytes ++ after))
    (prefix_stops (λ b. not (not (is_run_byte b))) bytes after (all_pass-not is_run_byte bytes ∙ pass)
    (begins_with-not is_run_byte after ∙ stops))
    ∙ (λ j. Some (Run (cut_before bytes after j), cut_behind bytes after j))

run_begins : (b : ℕ) (bs : List ℕ) → IsRunStart b → token_in (skip_from false (b ∷ bs)) ≡ run_in (b ∷ bs)
run_begins b bs start =
    ap (λ t. token_in (cond t (skip_from true bs) (cond (is_blank b) (skip_from false bs) (b ∷ bs)))) start.semicolon
    ∙ ap (λ t. token_in (cond t (skip_from false bs) (b ∷ bs))) start.blank
    ∙ ap (λ t. cond t (Some (Open, bs))
    (cond (eqb b 41) (Some (Close, bs))
    (cond (eqb b 34) (text_in bs) (cond (eqb b 124) (quoted_in bs) (run_in (b ∷ bs)))))) start.opens
    ∙ ap (λ t. cond t (Some (Close, bs))
    (cond (eqb b 34) (text_in bs) (cond (eqb b 124) (quoted_in bs) (run_in (b ∷ bs))))) start.closes
    ∙ ap (λ t. cond t (text_in bs) (cond (eqb b 124) (quoted_in bs) (run_in (b ∷ bs)))) start.quote
    ∙ ap (λ t. cond t (quoted_in bs) (run_in (b ∷ bs))) start.bar

pub read_whole_run : (bytes after : List ℕ) → some_pass is_run_byte bytes ≡ true → begins_with is_run_byte after ≡ false
    → Lexes (Run bytes) after
read_whole_run [] after pass stops = absurd (false≢true pass)
read_whole_run (b ∷ bs) after pass stops = run_begins b (bs ++ after) (run_start b (and_parts _ _ pass).0)
    ∙ read_run (b ∷ bs) after pass stops

-- the token that is whole is read
read_token : (ended : Bool) (token : Token) (after : List ℕ) → is_whole ended token after ≡ true → Lexes token after
read_token ended Open after whole = refl
read_token ended Close after whole = refl
read_token ended (Text bytes) after whole =
    let paired = and_parts _ _ whole in
    let settled = and_parts _ _ paired.1 in
    ap (λ ys. text_in ys) (append_assoc bytes (34 ∷ []) after) ∙ read_text bytes after paired.0 (not-true _ settled.1)
read_token ended (Quoted bytes) after whole = ap (λ ys. quoted_in ys) (append_assoc bytes (124 ∷ []) after)
    ∙ read_quoted bytes after whole
read_token ended (Run bytes) after whole =
    let pass = and_parts _ _ whole in
    let settled = and_parts _ _ pass.1 in
    read_whole_run bytes after pass.0 (not-true _ settled.1)

pub first_token_is : (ended : Bool) (token : Token) (gap after : List ℕ) → is_gap gap ≡ true
    → is_whole ended token after ≡ true → first_token (gap ++ (spelling_of token ++ after)) ≡ Some (token, after)
first_token_is ended token gap after gap_is whole = ap token_in ((skips gap (spelling_of token ++ after)).0 gap_is)
    ∙ read_token ended token after whole
