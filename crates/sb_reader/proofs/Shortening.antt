-- What bytes shorten to holds the same entries.
use Rattle.std.proofs.Common.{◌≡◌, ℕ, ◌+◌, ◌<◌, ◌⊎◌, arith, Bool, true, false, not, ◌==◌, List, [], ◌∷◌, ◌++◌, length, take, append_assoc, length-append, sym, refl, ap, ◌∙◌, subst, inl, inr}
use Rattle.std.proofs.lemmas.List.{append-nil, take_all}
use Rattle.std.proofs.lemmas.Bool.{and_parts, false≢true}
use Rattle.sb_reader.specs.declared.scan.Place.{Place}
use Rattle.sb_reader.specs.declared.scan.Place.TheVariants.{InGap, InComment}
use Rattle.sb_reader.specs.declared.scan.Scan.{Scan}
use Rattle.sb_reader.specs.Tokens.{Token, Open, Close, Text, Quoted, Run, spelling_of, begins_with, some_pass, is_line_end, is_run_byte, is_whole, is_gap, is_open_gap}
use Rattle.sb_reader.specs.Entries.{Entry, IsEntry, IsPartText, IsPartQuoted, IsPartRun, HoldsNoToken, HoldsNoEntry, Spells, SpellsEntry, is_open_entry}
use Rattle.sb_reader.specs.Feeding.{CutsComment, ShortensTo}
use Rattle.sb_reader.specs.Laws.{ShortensToItself, ShortensTwice, ShortensBefore, SameEntry, SameNone, SameEnd}
use Rattle.sb_reader.specs.Scanning.{EndsInGap, EndsInComment, IsScan, Scanned}
use Rattle.sb_reader.proofs.Comments.{all_pass-append, closed_behind, opened_behind}
use Rattle.sb_reader.proofs.Ends.{all_is_rest, is_gap-append, is_open_gap-append}
use Rattle.sb_reader.proofs.Lexed.{run_byte_is_no_semicolon}
use Rattle.sb_reader.proofs.Scripts.{entry_is_one}
use Rattle.sb_reader.proofs.Steps.{EndsInGap-is_gap}

pub shortens_to_itself : ShortensToItself
shortens_to_itself bytes = record { gap = []; whole = bytes; is_gap = refl; split = refl; cut = inl refl }

-- The same, or without part of a comment.
abbrev IsCut : List ℕ → List ℕ → Type 0
IsCut whole kept = (whole ≡ kept) ⊎ CutsComment whole kept

cuts_before : (whole kept more : List ℕ) → IsCut whole kept → IsCut (whole ++ more) (kept ++ more)
cuts_before whole kept more (inl same) = inl (ap (λ bytes. bytes ++ more) same)
cuts_before whole kept more (inr c) = inr (record {
  inside = c.inside;
  rest = c.rest ++ more;
  whole_is = ap (λ bytes. bytes ++ more) c.whole_is
      ∙ ap (λ bytes. 59 ∷ bytes) (append_assoc c.inside c.rest more);
  kept_is = ap (λ bytes. bytes ++ more) c.kept_is;
  no_line_end = c.no_line_end;
})

pub shortens_before : ShortensBefore
shortens_before left kept more s = record {
  gap = s.gap;
  whole = s.whole ++ more;
  is_gap = s.is_gap;
  split = ap (λ bytes. bytes ++ more) s.split ∙ append_assoc s.gap s.whole more;
  cut = cuts_before s.whole kept more s.cut;
}

-- part follows a gap
record IsBehindGap (bytes part : List ℕ) : Type 0 where
  gap : List ℕ
  is_gap : is_gap gap ≡ true
  split : bytes ≡ gap ++ part

behind_more : (bytes gap whole part : List ℕ) → is_gap gap ≡ true → bytes ≡ gap ++ whole → IsBehindGap whole part
    → IsBehindGap bytes part
behind_more bytes gap whole part g split b = record {
  gap = gap ++ b.gap;
  is_gap = is_gap-append gap b.gap g ∙ b.is_gap;
  split = split ∙ ap (λ rest. gap ++ rest) b.split ∙ sym (append_assoc gap b.gap part);
}

shortens_behind : (left whole kept : List ℕ) → IsBehindGap left whole → IsCut whole kept → ShortensTo left kept
shortens_behind left whole kept b cut =
    record { gap = b.gap; whole = whole; is_gap = b.is_gap; split = b.split; cut = cut }

same_first : (x y : ℕ) (xs ys : List ℕ) → x ∷ xs ≡ y ∷ ys → x ≡ y
same_first x y xs ys h = cc

same_others : (x y : ℕ) (xs ys : List ℕ) → x ∷ xs ≡ y ∷ ys → xs ≡ ys
same_others x y xs ys h = cc

-- what follows the comment follows it where it is whole
behind_comment : (whole kept : List ℕ) (b : ℕ) (bs part : List ℕ) → CutsComment whole kept → kept ≡ b ∷ (bs ++ part)
    → is_gap (b ∷ bs) ≡ true → IsBehindGap whole part
behind_comment whole kept b bs part c split g =
    let same : 59 ∷ c.rest ≡ b ∷ (bs ++ part) = sym c.kept_is ∙ split in
    record {
      gap = 59 ∷ (c.inside ++ bs);
      is_gap = closed_behind c.inside bs c.no_line_end
          ∙ subst (λ first. is_gap (first ∷ bs) ≡ true) (sym (same_first 59 b c.rest (bs ++ part) same)) g;
      split = c.whole_is
          ∙ ap (λ rest. 59 ∷ (c.inside ++ rest)) (same_others 59 b c.rest (bs ++ part) same)
          ∙ ap (λ rest. 59 ∷ rest) (sym (append_assoc c.inside bs part));
    }

-- a comment that is cut twice is cut
cuts_twice : (whole kept next less : List ℕ) → CutsComment whole kept → kept ≡ next → IsCut next less
    → CutsComment whole less
cuts_twice whole kept next less c same (inl e) = record {
  inside = c.inside;
  rest = c.rest;
  whole_is = c.whole_is;
  kept_is = sym e ∙ sym same ∙ c.kept_is;
  no_line_end = c.no_line_end;
}
cuts_twice whole kept next less c same (inr d) = record {
  inside = c.inside ++ d.inside;
  rest = d.rest;
  whole_is = c.whole_is
      ∙ ap (λ rest. 59 ∷ (c.inside ++ rest))
      (same_others 59 59 c.rest (d.inside ++ d.rest) (sym c.kept_is ∙ same ∙ d.whole_is))
      ∙ ap (λ rest. 59 ∷ rest) (sym (append_assoc c.inside d.inside d.rest));
  kept_is = d.kept_is;
  no_line_end =
      all_pass-append (λ b. not (is_line_end b)) c.inside d.inside c.no_line_end d.no_line_end;
}

comment_twice : (whole kept less gap next : List ℕ) → CutsComment whole kept → is_gap gap ≡ true → kept ≡ gap ++ next
    → IsCut next less → ShortensTo whole less
comment_twice whole kept less [] next c g split cut =
    shortens_behind whole whole less (record { gap = []; is_gap = refl; split = refl })
    (inr (cuts_twice whole kept next less c split cut))
comment_twice whole kept less (b ∷ bs) next c g split cut =
    shortens_behind whole next less (behind_comment whole kept b bs next c split g) cut

cut_twice : (whole kept less : List ℕ) → IsCut whole kept → ShortensTo kept less → ShortensTo whole less
cut_twice whole kept less (inl same) t = subst (λ bytes. ShortensTo bytes less) (sym same) t
cut_twice whole kept less (inr c) t = comment_twice whole kept less t.gap t.whole c t.is_gap t.split t.cut

pub shortens_twice : ShortensTwice
shortens_twice left kept less s t =
    let whole = cut_twice s.whole kept less s.cut t in
    shortens_behind left whole.whole less
    (behind_more left s.gap s.whole whole.whole s.is_gap s.split
    (record { gap = whole.gap; is_gap = whole.is_gap; split = whole.split })) whole.cut

-- no comment comes first
abbrev BeginsWithout : List ℕ → Type 0
BeginsWithout bytes = begins_with (λ b. b == 59) bytes ≡ false

-- What follows a gap and begins with no comment follows one in what was shortened.
cut_widened : (whole kept gap part : List ℕ) → IsCut whole kept → is_gap gap ≡ true → kept ≡ gap ++ part
    → BeginsWithout part → IsBehindGap whole part
cut_widened whole kept gap part (inl same) g split without =
    record { gap = gap; is_gap = g; split = same ∙ split }
cut_widened whole kept [] part (inr c) g split without =
    absurd (false≢true (sym without ∙ ap (begins_with (λ b. b == 59)) (sym split ∙ c.kept_is)))
cut_widened whole kept (b ∷ bs) part (inr c) g split without = behind_comment whole kept b bs part c split g

widened : (left kept gap part : List ℕ) → ShortensTo left kept → is_gap gap ≡ true → kept ≡ gap ++ part
    → BeginsWithout part → IsBehindGap left part
widened left kept gap part s g split without =
    behind_more left s.gap s.whole part s.is_gap s.split (cut_widened s.whole kept gap part s.cut g split without)

run_without : (bytes rest : List ℕ) → some_pass is_run_byte bytes ≡ true → BeginsWithout (bytes ++ rest)
run_without [] rest h = absurd (false≢true h)
run_without (b ∷ bs) rest h = run_byte_is_no_semicolon b (and_parts (is_run_byte b) _ h).0

token_without : (ended : Bool) (token : Token) (after behind rest : List ℕ) → is_whole ended token after ≡ true
    → BeginsWithout ((spelling_of token ++ behind) ++ rest)
token_without ended Open after behind rest whole = refl
token_without ended Close after behind rest whole = refl
token_without ended (Text bytes) after behind rest whole = refl
token_without ended (Quoted bytes) after behind rest whole = refl
token_without ended (Run bytes) after behind rest whole =
    subst BeginsWithout (sym (append_assoc bytes behind rest))
    (run_without bytes (behind ++ rest) (and_parts (some_pass is_run_byte bytes) _ whole).0)

-- tokens are spelled in what was shortened
spells_widened : (ended : Bool) (token : Token) (tokens : List Token) (left kept front rest : List ℕ)
    → ShortensTo left kept → kept ≡ front ++ rest → Spells ended (token ∷ tokens) front rest
    → (longer : List ℕ) × (left ≡ longer ++ rest) × Spells ended (token ∷ tokens) longer rest
spells_widened ended token tokens left kept front rest s split r =
    let part = (spelling_of token ++ r.1) ++ rest in
    let w = widened left kept r.0 part s r.2
    (split ∙ ap (λ bytes. bytes ++ rest) r.3 ∙ append_assoc r.0 (spelling_of token ++ r.1) rest)
    (token_without ended token (r.1 ++ rest) r.1 rest r.4) in (
      w.gap ++ (spelling_of token ++ r.1),
      w.split ∙ sym (append_assoc w.gap (spelling_of token ++ r.1) rest),
      (w.gap, r.1, w.is_gap, refl, r.4, r.5),
    )

entry_widened : (ended : Bool) (tokens : List Token) (entry : Entry) (left kept front rest : List ℕ)
    → ShortensTo left kept → kept ≡ front ++ rest → IsEntry entry tokens → Spells ended tokens front rest
    → (longer : List ℕ) × (left ≡ longer ++ rest) × SpellsEntry ended entry longer rest
entry_widened ended [] entry left kept front rest s split is r = absurd (false≢true (entry_is_one entry [] is))
entry_widened ended (token ∷ tokens) entry left kept front rest s split is r =
    let w = spells_widened ended token tokens left kept front rest s split r in
    (w.0, w.1, (token ∷ tokens, is, w.2))

pub same_entry : SameEntry
same_entry ended entry left kept front rest s split r =
    entry_widened ended r.0 entry left kept front rest s split r.1 r.2

same_end_cut : (whole kept : List ℕ) → IsCut whole kept → is_open_gap whole ≡ is_open_gap kept
same_end_cut whole kept (inl same) = ap is_open_gap same
same_end_cut whole kept (inr c) =
    ap is_open_gap c.whole_is ∙ opened_behind c.inside c.rest c.no_line_end ∙ sym (ap is_open_gap c.kept_is)

pub same_end : SameEnd
same_end left kept s =
    ap is_open_gap s.split ∙ is_open_gap-append s.gap s.whole s.is_gap ∙ same_end_cut s.whole kept s.cut

part_without : (ended : Bool) (part : List ℕ) → IsPartText ended part ⊎ (IsPartQuoted part ⊎ IsPartRun ended part)
    → BeginsWithout part
part_without ended part (inl (inside, inl is, paired)) = ap (begins_with (λ b. b == 59)) is
part_without ended part (inl (inside, inr closed, paired)) = ap (begins_with (λ b. b == 59)) closed.1
part_without ended part (inr (inl quoted)) = ap (begins_with (λ b. b == 59)) quoted.1
part_without ended part (inr (inr run)) = subst BeginsWithout (append-nil part) (run_without part [] run.1)

no_token_widened : (ended : Bool) (left kept : List ℕ) → ShortensTo left kept → HoldsNoToken ended kept
    → HoldsNoToken ended left
no_token_widened ended left kept s (inl open_gap) = inl (same_end left kept s ∙ open_gap)
no_token_widened ended left kept s (inr p) =
    let w = widened left kept p.0 p.1 s p.2 p.3 (part_without ended p.1 p.4) in
    inr (w.gap, p.1, w.is_gap, w.split, p.4)

none_widened : (ended : Bool) (left kept : List ℕ) (tokens : List Token) (none : HoldsNoEntry ended kept)
    → ShortensTo left kept → none.tokens ≡ tokens → HoldsNoEntry ended left
none_widened ended left kept [] none s e = record {
  tokens = [];
  front = [];
  rest = left;
  split = refl;
  spelled = refl;
  open_entry = refl;
  no_token = no_token_widened ended left kept s
      (subst (HoldsNoToken ended)
      (sym (none.split
      ∙ ap (λ front. front ++ none.rest) (subst (λ ts. Spells ended ts none.front none.rest) e none.spelled)))
      none.no_token);
}
none_widened ended left kept (token ∷ tokens) none s e =
    let w = spells_widened ended token tokens left kept none.front none.rest s none.split
    (subst (λ ts. Spells ended ts none.front none.rest) e none.spelled) in
    record {
      tokens = token ∷ tokens;
      front = w.0;
      rest = none.rest;
      split = w.1;
      spelled = w.2;
      open_entry = ap is_open_entry (sym e) ∙ none.open_entry;
      no_token = none.no_token;
    }

pub same_none : SameNone
same_none ended left kept s none = none_widened ended left kept none.tokens none s refl

-- All is scanned, and the scan stands outside a form and a token.
module _ (scan : Scan) (bytes : List ℕ) (s : IsScan scan bytes) (all : scan.scanned ≡ length bytes)
    (outside : scan.depth ≡ 0) where
  all_known : (place : Place) → scan.place ≡ place → Scanned place 0 bytes
  all_known place p =
      let whole : take scan.scanned bytes ≡ bytes = take_all scan.scanned bytes (omega (arith, all)) in
      rw (p, outside, whole) at s.knows

  -- white space and whole comments
  pub shortens_to_nothing : scan.place ≡ InGap → ShortensTo bytes []
  shortens_to_nothing p =
      let known = all_known InGap p in
      let ends : EndsInGap bytes = rw (all_is_rest InGap bytes known) known.ends in
      record {
        gap = bytes;
        whole = [];
        is_gap = EndsInGap-is_gap bytes ends;
        split = sym (append-nil bytes);
        cut = inl refl;
      }

  in_comment : scan.place ≡ InComment → EndsInComment bytes
  in_comment p = let known = all_known InComment p in rw (all_is_rest InComment bytes known) known.ends

  -- a comment that goes on
  pub shortens_to_semicolon : scan.place ≡ InComment → ShortensTo bytes (59 ∷ [])
  shortens_to_semicolon p =
      let e = in_comment p in
      record {
        gap = e.gap;
        whole = 59 ∷ e.inside;
        is_gap = EndsInGap-is_gap e.gap e.is_gap;
        split = e.split;
        cut = inr (record {
          inside = e.inside;
          rest = [];
          whole_is = ap (λ rest. 59 ∷ rest) (sym (append-nil e.inside));
          kept_is = refl;
          no_line_end = e.no_line_end;
        });
      }

  pub comment_has_a_byte : scan.place ≡ InComment → 0 < length bytes
  comment_has_a_byte p =
      let e = in_comment p in
      let long : length (e.gap ++ 59 ∷ e.inside) ≡ length e.gap + length (59 ∷ e.inside) =
      length-append e.gap (59 ∷ e.inside) in
      omega (arith, ap length e.split, long)
