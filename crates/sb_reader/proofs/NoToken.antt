-- Bytes that hold no token: none is whole in them.
use Rattle.std.proofs.Common.{◌≡◌, ℕ, ◌+◌, Bool, true, false, not, ◌&&◌, ◌==◌, cond, eqb, List, [], ◌∷◌, ◌++◌, length, take, drop, Some, None, sym, refl, ap, ◌∙◌, ⊎_elim, arith}
use Rattle.std.specs.List.{prefix_len}
use Rattle.std.proofs.lemmas.Bool.{false≢true, le-ltb}
use Rattle.std.proofs.lemmas.List.{append-nil}
use Rattle.sb_reader.specs.Tokens.{Token, Text, Quoted, Run, is_blank, is_line_end, is_run_byte, all_pass, some_pass, has_paired_quotes, begins_with_second, is_whole, is_gap, is_open_gap, is_comment_then_open_gap}
use Rattle.sb_reader.specs.Entries.{Spells, IsPartText, IsPartQuoted, IsPartRun, HoldsNoToken}
use Rattle.sb_reader.specs.Lexing.{skip_from, closing_from, closing_behind, quoted_in, token_in, first_token, cut_text, cut_quoted, Lexed}
use Rattle.sb_reader.proofs.Lexed.{skips, read_text, read_whole_run, prefix_stops}
use Rattle.sb_reader.proofs.Spelled.{first_of, some_is, none_some}

-- an open gap is skipped whole
abbrev SkipsAll : List ℕ → Type 0
SkipsAll bs = (is_open_gap bs ≡ true → skip_from false bs ≡ [])
    × (is_comment_then_open_gap bs ≡ true → skip_from true bs ≡ [])

skips_gap_at : (semicolon blank : Bool) (b : ℕ) (bs : List ℕ)
    → cond semicolon (is_comment_then_open_gap bs) (blank && is_open_gap bs) ≡ true → SkipsAll bs
    → cond semicolon (skip_from true bs) (cond blank (skip_from false bs) (b ∷ bs)) ≡ []
skips_gap_at true blank b bs h rest = rest.1 h
skips_gap_at false true b bs h rest = rest.0 h
skips_gap_at false false b bs h rest = absurd (false≢true h)

skips_comment_at : (line_end : Bool) (bs : List ℕ) → cond line_end (is_open_gap bs) (is_comment_then_open_gap bs) ≡ true
    → SkipsAll bs → skip_from (not line_end) bs ≡ []
skips_comment_at true bs h rest = rest.0 h
skips_comment_at false bs h rest = rest.1 h

skips_all : (bs : List ℕ) → SkipsAll bs
skips_all [] = (λ h. refl, λ h. refl)
skips_all (b ∷ bs) = let rest = skips_all bs in
    (λ h. skips_gap_at (eqb b 59) (is_blank b) b bs h rest, λ h. skips_comment_at (is_line_end b) bs h rest)

-- a text whose closing quote is not there
abbrev FindsNone : List ℕ → Type 0
FindsNone bs = ((i : ℕ) → has_paired_quotes bs ≡ true → closing_from i bs ≡ None)
    × ((i : ℕ) → begins_with_second bs ≡ true → closing_behind i bs ≡ None)

finds_none_at : (quote : Bool) (bs : List ℕ) (i : ℕ) → cond quote (begins_with_second bs) (has_paired_quotes bs) ≡ true
    → FindsNone bs → cond quote (closing_behind i bs) (closing_from (i + 1) bs) ≡ None
finds_none_at true bs i h rest = rest.1 i h
finds_none_at false bs i h rest = rest.0 (i + 1) h

finds_none_behind : (quote : Bool) (bs : List ℕ) (i : ℕ) → (quote && has_paired_quotes bs) ≡ true → FindsNone bs
    → cond quote (closing_from (i + 2) bs) (Some i) ≡ None
finds_none_behind true bs i h rest = rest.0 (i + 2) h
finds_none_behind false bs i h rest = absurd (false≢true h)

finds_none : (bs : List ℕ) → FindsNone bs
finds_none [] = (λ i h. refl, λ i h. absurd (false≢true h))
finds_none (b ∷ bs) = let rest = finds_none bs in
    (λ i h. finds_none_at (eqb b 34) bs i h rest, λ i h. finds_none_behind (eqb b 34) bs i h rest)

no_bar : (inside : List ℕ) → all_pass (λ b. not (b == 124)) inside ≡ true → quoted_in inside ≡ None
no_bar inside pass =
    let all : prefix_len (λ b. not (b == 124)) inside ≡ length inside =
    ap (prefix_len (λ b. not (b == 124))) (sym (append-nil inside))
    ∙ prefix_stops (λ b. not (b == 124)) inside [] pass refl in
    ap (cut_quoted inside) all
    ∙ ap (λ t. cond t (Some (Quoted (take (length inside) inside), drop (length inside + 1) inside)) None)
    (le-ltb (length inside) (length inside) (omega arith))

-- no token that is whole is first
abbrev HasNoFirst : Bool → Lexed → Type 0
HasNoFirst ended o = (u : Token) (after : List ℕ) → o ≡ Some (u, after) → is_whole ended u after ≡ true → ⊥

none_first : (ended : Bool) (o : Lexed) → None ≡ o → HasNoFirst ended o
none_first ended o is u after first whole = none_some (u, after) o is first

unsettled : (b : Bool) → (b && false) ≡ true → ⊥
unsettled true h = false≢true h
unsettled false h = false≢true h

unsettled_first : (ended : Bool) (t : Token) (o : Lexed) → Some (t, []) ≡ o → (is_whole ended t [] ≡ true → ⊥)
    → HasNoFirst ended o
unsettled_first ended t o is never u after first whole =
    let both : (t, []) ≡ (u, after) = some_is _ _ o is first in
    never ((λ j. is_whole ended (both j).0 (both j).1) ∙ whole)

text_open : (ended : Bool) (inside : List ℕ) → ended ≡ false → is_whole ended (Text inside) [] ≡ true → ⊥
text_open ended inside false_is h =
    unsettled (has_paired_quotes inside) (ap (λ e. has_paired_quotes inside && (e && true)) (sym false_is) ∙ h)

run_open : (ended : Bool) (bytes : List ℕ) → ended ≡ false → is_whole ended (Run bytes) [] ≡ true → ⊥
run_open ended bytes false_is h =
    unsettled (some_pass is_run_byte bytes) (ap (λ e. some_pass is_run_byte bytes && (e && true)) (sym false_is) ∙ h)

part_text : (ended : Bool) (part : List ℕ) → IsPartText ended part → HasNoFirst ended (token_in (skip_from false part))
part_text ended part p =
    ⊎_elim
    (λ begun. none_first ended _
    (sym (ap (λ bs. token_in (skip_from false bs)) begun ∙ ap (cut_text p.0) ((finds_none p.0).0 0 p.2))))
    (λ closed. unsettled_first ended (Text p.0) _
    (sym (ap (λ bs. token_in (skip_from false bs)) closed.1 ∙ read_text p.0 [] p.2 refl))
    (text_open ended p.0 closed.0))
    p.1

part_quoted : (ended : Bool) (part : List ℕ) → IsPartQuoted part → HasNoFirst ended (token_in (skip_from false part))
part_quoted ended part p = none_first ended _ (sym (ap (λ bs. token_in (skip_from false bs)) p.1 ∙ no_bar p.0 p.2))

part_run : (ended : Bool) (part : List ℕ) → IsPartRun ended part → HasNoFirst ended (token_in (skip_from false part))
part_run ended part p =
    unsettled_first ended (Run part) _
    (sym (ap (λ bs. token_in (skip_from false bs)) (sym (append-nil part)) ∙ read_whole_run part [] p.1 refl))
    (run_open ended part p.0)

behind_gap : (ended : Bool) (bytes gap part : List ℕ) → is_gap gap ≡ true → bytes ≡ gap ++ part
    → HasNoFirst ended (token_in (skip_from false part)) → HasNoFirst ended (first_token bytes)
behind_gap ended bytes gap part gap_is split h u after first whole =
    h u after (sym (ap first_token split ∙ ap token_in ((skips gap part).0 gap_is)) ∙ first) whole

pub nothing_first : (ended : Bool) (bytes : List ℕ) → HoldsNoToken ended bytes → HasNoFirst ended (first_token bytes)
nothing_first ended bytes h =
    ⊎_elim
    (λ gap. none_first ended (first_token bytes) (sym (ap token_in ((skips_all bytes).0 gap))))
    (λ p. behind_gap ended bytes p.0 p.1 p.2 p.3
    (⊎_elim (part_text ended p.1) (λ q. ⊎_elim (part_quoted ended p.1) (part_run ended p.1) q) p.4))
    h

-- so no tokens are spelled there
pub nothing_spelled : (ended : Bool) (bytes : List ℕ) (u : Token) (us : List Token) (front rest : List ℕ)
    → HoldsNoToken ended bytes → Spells ended (u ∷ us) front rest → bytes ≡ front ++ rest → ⊥
nothing_spelled ended bytes u us front rest h s same =
    nothing_first ended bytes h u (s.1 ++ rest) (ap first_token same ∙ first_of ended u us front rest s) s.4
