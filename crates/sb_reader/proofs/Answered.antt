-- What a feed keeps once an entry is taken.
use Rattle.std.proofs.Common.{◌≡◌, ℕ, ◌+◌, ◌-◌, Bool, true, List, [], refl, arith, take, drop, sym, Result, Ok, Err}
use Rattle.std.specs.Prelude.{MatchResult}
use Rattle.std.proofs.lemmas.List.{take-append-drop, drop-drop}
use Rattle.sb_reader.specs.declared.feed.Refusal.{Refusal}
use Rattle.sb_reader.specs.declared.sexpr.Sexpr.{Sexpr}
use Rattle.sb_reader.specs.Tokens.{Token}
use Rattle.sb_reader.specs.Forms.{form_of}
use Rattle.sb_reader.specs.Entries.{Entry, Command, Refused, IsEntry, IsCommand, Spells}
use Rattle.sb_reader.specs.OneEntry.{IsOneEntry, is_one_entry}
use Rattle.sb_reader.specs.Feeding.{Takes}
use Rattle.sb_reader.specs.Scanning.{EndsEntry}
use Rattle.sb_reader.proofs.Growing.{Spells-alone}

-- the bytes of an entry whose end is found
pub entry_is_one : (kept : List ℕ) (start n : ℕ) (finished : Bool) → EndsEntry finished (drop start kept) n
    → IsOneEntry (take (start + n - start) (drop start kept))
entry_is_one kept start n finished e =
    let same : start + n - start ≡ n = omega arith in
    rw same
    (record {
      tokens = e.spells.tokens;
      one = e.spells.one;
      spelled =
          Spells-alone finished e.spells.tokens (take n (drop start kept)) (drop n (drop start kept)) e.spells.spelled;
    })

-- the entry is taken
pub takes : (entry : Entry) (kept : List ℕ) (start n : ℕ) (finished : Bool)
    → (e : EndsEntry finished (drop start kept) n) → IsEntry entry e.spells.tokens
    → Takes entry (drop start kept, finished) (drop (start + n) kept, finished)
takes entry kept start n finished e is = (
  take n (drop start kept),
  rw (← drop-drop n start kept) (sym (take-append-drop n (drop start kept))),
  refl,
  (e.spells.tokens, is, rw (← drop-drop n start kept) e.spells.spelled),
)

-- what the parse of an entry's bytes says
abbrev pub SaysParsed : Result Sexpr Refusal → List ℕ → Type 0
SaysParsed parsed front =
    (tokens : List Token) → Spells true tokens front [] → is_one_entry tokens ≡ true
    → MatchResult parsed (λ sexpr. IsCommand (form_of sexpr) tokens) (λ refusal. IsEntry (Refused refusal) tokens)

module _ (kept : List ℕ) (start n : ℕ) (finished : Bool) (e : EndsEntry finished (drop start kept) n)
    (parsed : Result Sexpr Refusal) (says : SaysParsed parsed (take (start + n - start) (drop start kept))) where
  parsed_at : MatchResult parsed (λ sexpr. IsCommand (form_of sexpr) e.spells.tokens)
      (λ refusal. IsEntry (Refused refusal) e.spells.tokens)
  parsed_at =
      let same : start + n - start ≡ n = omega arith in
      says e.spells.tokens (rw same
      (Spells-alone finished e.spells.tokens (take n (drop start kept)) (drop n (drop start kept))
      e.spells.spelled)) e.spells.one

  -- a form is taken
  pub takes_command : (sexpr : Sexpr) → parsed ≡ Ok sexpr
      → Takes (Command (form_of sexpr)) (drop start kept, finished) (drop (start + n) kept, finished)
  takes_command sexpr is = takes (Command (form_of sexpr)) kept start n finished e (rw is at parsed_at)

  -- an entry with a fault is taken
  pub takes_refused : (refusal : Refusal) → parsed ≡ Err refusal
      → Takes (Refused refusal) (drop start kept, finished) (drop (start + n) kept, finished)
  takes_refused refusal is = takes (Refused refusal) kept start n finished e (rw is at parsed_at)
