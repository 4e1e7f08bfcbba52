-- The answer for the tokens of one entry, by the first of them.
use Rattle.std.proofs.Common.{◌≡◌, ℕ, Bool, true, false, cond, List, [], ◌∷◌, Option, Some, None, Result, Ok, Err, IfOk, IsSomeAnd, sym, refl, ap, ◌∙◌, subst, inl, inr}
use Rattle.std.proofs.lemmas.Bool.{false≢true}
use Rattle.std.specs.declared.alloc.AllocError.{AllocError}
use Rattle.sb_reader.specs.declared.sexpr.Sexpr.{Sexpr}
use Rattle.sb_reader.specs.declared.feed.Refusal.{Refusal}
use Rattle.sb_reader.specs.declared.feed.Refusal.TheVariants.{StrayClose, BadToken, BareToken}
use Rattle.sb_reader.specs.Tokens.{Token, Open, Close, Text, Quoted, Run, is_bad}
use Rattle.sb_reader.specs.Entries.{Spells, IsEntry, Refused, is_parenthesis}
use Rattle.sb_reader.specs.OneEntry.{IsOneEntry, is_one_entry}
use Rattle.sb_reader.specs.Lexing.{first_token}
use Rattle.sb_reader.specs.Parsing.{IsTail, IsParsed}
use Rattle.sb_reader.proofs.Spelled.{continues, ends}

-- an entry has a first token
pub entry_begins : (bytes : List ℕ) (tokens : List Token) → Spells true tokens bytes [] → is_one_entry tokens ≡ true
    → None ≡ first_token bytes → ⊥
entry_begins bytes tokens s one reads = false≢true (ap is_one_entry (sym (ends tokens bytes reads s)) ∙ one)

-- an answer for the tokens of an entry, if they are there
abbrev AnswersEntry : List ℕ → Option (Result Sexpr Refusal) → Type 0
AnswersEntry bytes parsed = (tokens : List Token) → Spells true tokens bytes [] → is_one_entry tokens ≡ true
    → IsSomeAnd parsed (λ p. IsParsed p tokens)

parsed_along : (parsed : Option (Result Sexpr Refusal)) (ts us : List Token) → ts ≡ us
    → IsSomeAnd parsed (λ p. IsParsed p ts) → IsSomeAnd parsed (λ p. IsParsed p us)
parsed_along parsed ts us e h = subst (λ tokens. IsSomeAnd parsed (λ p. IsParsed p tokens)) e h

pub form_answer : (front rest : List ℕ) (r : Result (Option (Result Sexpr Refusal)) AllocError)
    → Some (Open, rest) ≡ first_token front
    → IfOk r (λ parsed. (tokens : List Token) → IsTail tokens rest → IsSomeAnd parsed (λ p. IsParsed p (Open ∷ tokens)))
    → IfOk r (AnswersEntry front)
form_answer front rest (Ok parsed) reads h = λ tokens s one.
    let next = continues tokens front Open rest reads s in
    parsed_along parsed _ _ (sym next.is)
    (h next.others (record { spelled = next.spelled; closes = ap is_one_entry (sym next.is) ∙ one }))
form_answer front rest (Err e) reads h = h

-- a token that does not open a form stands alone
pub alone : (token : Token) (others : List Token) → (token ≡ Open → ⊥) → is_one_entry (token ∷ others) ≡ true
    → others ≡ []
alone token [] not_open one = refl
alone Open (t ∷ ts) not_open one = absurd (not_open refl)
alone Close (t ∷ ts) not_open one = absurd (false≢true one)
alone (Text bytes) (t ∷ ts) not_open one = absurd (false≢true one)
alone (Quoted bytes) (t ∷ ts) not_open one = absurd (false≢true one)
alone (Run bytes) (t ∷ ts) not_open one = absurd (false≢true one)

lone : (token : Token) (front rest : List ℕ) (tokens : List Token) → (token ≡ Open → ⊥)
    → Some (token, rest) ≡ first_token front → Spells true tokens front [] → is_one_entry tokens ≡ true
    → tokens ≡ token ∷ []
lone token front rest tokens not_open reads s one =
    let next = continues tokens front token rest reads s in
    next.is ∙ ap (λ others. token ∷ others) (alone token next.others not_open (ap is_one_entry (sym next.is) ∙ one))

close_not_open : Close ≡ Open → ⊥
close_not_open e = cc

open_is_parenthesis : (token : Token) → is_parenthesis token ≡ false → token ≡ Open → ⊥
open_is_parenthesis token h e = false≢true (sym h ∙ ap is_parenthesis e)

pub stray_answer : (front rest : List ℕ) → Some (Close, rest) ≡ first_token front → (tokens : List Token)
    → Spells true tokens front [] → is_one_entry tokens ≡ true → IsEntry (Refused StrayClose) tokens
stray_answer front rest reads tokens s one = inl (lone Close front rest tokens close_not_open reads s one, refl)

pub bare_answer : (token : Token) (front rest : List ℕ) (bad : Bool) → is_bad token ≡ bad → is_parenthesis token ≡ false
    → Some (token, rest) ≡ first_token front → (tokens : List Token) → Spells true tokens front []
    → is_one_entry tokens ≡ true → IsEntry (Refused (cond bad BadToken BareToken)) tokens
bare_answer token front rest bad is atom reads tokens s one =
    inr (inl (
      token,
      lone token front rest tokens (open_is_parenthesis token atom) reads s one,
      atom,
      ap (λ b. cond b BadToken BareToken) (sym is),
    ))

-- an entry is answered
pub never_none : (bytes : List ℕ) → IsOneEntry bytes → AnswersEntry bytes None → ⊥
never_none bytes entry h = h entry.tokens entry.spelled entry.one
