-- What is behind the first token is shorter than the bytes.
use Rattle.std.proofs.Common.{◌≡◌, ℕ, ◌+◌, ◌<◌, ◌≤◌, Bool, true, false, not, cond, ltb, eqb, List, [], ◌∷◌, length, Option, Some, None, IfSome, sym, refl, ap, subst, arith, length-drop}
use Rattle.std.specs.Borrow.{Bor}
use Rattle.std.specs.List.{position_or_len, prefix_len}
use Rattle.std.proofs.lemmas.Bool.{and_from, not_from_false, cond_both}
use Rattle.sb_reader.specs.declared.token.Lexeme.{Lexeme}
use Rattle.sb_reader.specs.Tokens.{is_blank, is_line_end, is_run_byte}
use Rattle.sb_reader.specs.Lexing.{skip_from, run_in, token_in, first_token, cut_text, cut_quoted, Lexed, lexed_of}

-- the first byte begins no gap
abbrev IsStart : List ℕ → Type 0
IsStart [] = Unit {0}
IsStart (b ∷ bs) = (eqb b 59 ≡ false) × (is_blank b ≡ false)

abbrev IsSkipped : List ℕ → List ℕ → Type 0
IsSkipped bytes skipped = IsStart skipped × (length skipped ≤ length bytes)

skipped_more : (b : ℕ) (bs skipped : List ℕ) → IsSkipped bs skipped → IsSkipped (b ∷ bs) skipped
skipped_more b bs skipped h = (h.0, omega (arith, h.1))

skipped_here : (semicolon blank : Bool) (b : ℕ) (bs comment gap : List ℕ) → eqb b 59 ≡ semicolon → is_blank b ≡ blank
    → IsSkipped bs comment → IsSkipped bs gap → IsSkipped (b ∷ bs) (cond semicolon comment (cond blank gap (b ∷ bs)))
skipped_here true blank b bs comment gap s w c g = skipped_more b bs comment c
skipped_here false true b bs comment gap s w c g = skipped_more b bs gap g
skipped_here false false b bs comment gap s w c g = ((s, w), omega arith)

skipped : (in_comment : Bool) (bytes : List ℕ) → IsSkipped bytes (skip_from in_comment bytes)
skipped in_comment [] = (tt, omega arith)
skipped true (b ∷ bs) = skipped_more b bs _ (skipped (not (is_line_end b)) bs)
skipped false (b ∷ bs) = skipped_here (eqb b 59) (is_blank b) b bs _ _ refl refl (skipped true bs) (skipped false bs)

abbrev IsShorter : List ℕ → Lexed → Type 0
IsShorter bytes None = Unit {0}
IsShorter bytes (Some (token, behind)) = length behind < length bytes

text_shorter : (b : ℕ) (bs : List ℕ) (end : Option ℕ) → IsShorter (b ∷ bs) (cut_text bs end)
text_shorter b bs None = tt
text_shorter b bs (Some end) = omega (arith, length-drop (end + 1) bs)

quoted_shorter : (b : ℕ) (bs : List ℕ) (end : ℕ) → IsShorter (b ∷ bs) (cut_quoted bs end)
quoted_shorter b bs end =
    cond_both (ltb end (length bs)) _ _ (IsShorter (b ∷ bs)) (λ _. omega (arith, length-drop (end + 1) bs)) (λ _. tt)

run_shorter : (b : ℕ) (bs : List ℕ) → is_run_byte b ≡ true → IsShorter (b ∷ bs) (run_in (b ∷ bs))
run_shorter b bs run =
    let some : position_or_len (λ x. not (is_run_byte x)) (b ∷ bs)
    ≡ 1 + prefix_len (λ x. not (not (is_run_byte x))) bs =
    ap (λ t. cond (not (not t)) (1 + prefix_len (λ x. not (not (is_run_byte x))) bs) 0) run in
    omega (arith, some, length-drop (position_or_len (λ x. not (is_run_byte x)) (b ∷ bs)) (b ∷ bs))

token_shorter : (bytes : List ℕ) → IsStart bytes → IsShorter bytes (token_in bytes)
token_shorter [] start = tt
token_shorter (b ∷ bs) start =
    let all = IsShorter (b ∷ bs) in
    cond_both (eqb b 40) _ _ all (λ _. omega arith)
    (λ opens. cond_both (eqb b 41) _ _ all (λ _. omega arith)
    (λ closes. cond_both (eqb b 34) _ _ all (λ _. text_shorter b bs _)
    (λ quote. cond_both (eqb b 124) _ _ all (λ _. quoted_shorter b bs _)
    (λ bar. run_shorter b bs
    (and_from _ _ (not_from_false _ start.1)
    (and_from _ _ (not_from_false _ opens)
    (and_from _ _ (not_from_false _ closes)
    (and_from _ _ (not_from_false _ quote) (and_from _ _ (not_from_false _ start.0) (not_from_false _ bar))))))))))

more_bytes : (bytes more : List ℕ) (o : Lexed) → length bytes ≤ length more → IsShorter bytes o → IsShorter more o
more_bytes bytes more None h s = tt
more_bytes bytes more (Some (token, behind)) h s = omega (arith, s)

first_shorter : (bytes : List ℕ) → IsShorter bytes (first_token bytes)
first_shorter bytes = let gap = skipped false bytes in
    more_bytes (skip_from false bytes) bytes _ gap.1 (token_shorter (skip_from false bytes) gap.0)

pub shorter_behind : (bytes : List ℕ) (o : Option (Lexeme × Bor (List ℕ))) → lexed_of o ≡ first_token bytes
    → IfSome o (λ token. length token.1.now < length bytes)
shorter_behind bytes None is = tt
shorter_behind bytes (Some (lexeme, behind)) is = subst (IsShorter bytes) (sym is) (first_shorter bytes)
