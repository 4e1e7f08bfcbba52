-- What follows from tokens that spell bytes.
use Rattle.std.proofs.Common.{◌≡◌, ℕ, ◌<◌, Bool, true, List, [], ◌∷◌, ◌++◌, length, Some, None, sym, refl, ap, ◌∙◌, subst, arith, append_assoc, length-append}
use Rattle.std.proofs.lemmas.Bool.{false≢true}
use Rattle.std.proofs.lemmas.List.{append-nil}
use Rattle.sb_reader.specs.Tokens.{Token, Open, Close, Text, Quoted, Run, spelling_of, is_whole}
use Rattle.sb_reader.specs.Entries.{Spells}
use Rattle.sb_reader.specs.Lexing.{first_token, Lexed}
use Rattle.sb_reader.proofs.Lexed.{first_token_is}

-- The first token of bytes that are spelled is the first token of the code.
pub first_of : (ended : Bool) (token : Token) (tokens : List Token) (front rest : List ℕ)
    (s : Spells ended (token ∷ tokens) front rest) → first_token (front ++ rest) ≡ Some (token, s.1 ++ rest)
first_of ended token tokens front rest s =
    let split : front ++ rest ≡ s.0 ++ (spelling_of token ++ (s.1 ++ rest)) = ap (λ bytes. bytes ++ rest) s.3
    ∙ append_assoc s.0 _ rest ∙ ap (λ bytes. s.0 ++ bytes) (append_assoc (spelling_of token) s.1 rest) in
    ap first_token split ∙ first_token_is ended token s.0 (s.1 ++ rest) s.2 s.4

token_has_bytes : (ended : Bool) (token : Token) (after : List ℕ) → is_whole ended token after ≡ true
    → 0 < length (spelling_of token)
token_has_bytes ended Open after whole = omega arith
token_has_bytes ended Close after whole = omega arith
token_has_bytes ended (Text bytes) after whole = omega arith
token_has_bytes ended (Quoted bytes) after whole = omega arith
token_has_bytes ended (Run []) after whole = absurd (false≢true whole)
token_has_bytes ended (Run (b ∷ bs)) after whole = omega arith

shorter : (ended : Bool) (token : Token) (tokens : List Token) (front rest : List ℕ)
    (s : Spells ended (token ∷ tokens) front rest) → length s.1 < length front
shorter ended token tokens front rest s =
    omega (
      arith,
      ap length s.3,
      length-append s.0 (spelling_of token ++ s.1),
      length-append (spelling_of token) s.1,
      token_has_bytes ended token (s.1 ++ rest) s.4,
    )

pub some_is : (p q : Token × List ℕ) (o : Lexed) → Some p ≡ o → o ≡ Some q → p ≡ q
some_is p q o e f = cc

pub none_some : (q : Token × List ℕ) (o : Lexed) → None ≡ o → o ≡ Some q → ⊥
none_some q o e f = cc

-- The tokens left are the one that is read, and others that spell what is behind it.
pub record Continues (left : List Token) (token : Token) (bytes behind : List ℕ) : Type 0 where
  pub others : List Token
  pub is : left ≡ token ∷ others
  pub spelled : Spells true others behind []
  pub less : length behind < length bytes

pub continues : (left : List Token) (bytes : List ℕ) (token : Token) (behind : List ℕ)
    → Some (token, behind) ≡ first_token bytes → Spells true left bytes [] → Continues left token bytes behind
continues [] bytes token behind reads s =
    absurd (none_some (token, behind) (first_token bytes) (sym (ap first_token s)) (sym reads))
continues (t ∷ ts) bytes token behind reads s =
    let both : (token, behind) ≡ (t, s.1) =
    some_is _ _ _ reads (ap first_token (sym (append-nil bytes)) ∙ first_of true t ts bytes [] s
    ∙ ap (λ after. Some (t, after)) (append-nil s.1)) in
    let same_token : token ≡ t = ap (λ p. p.0) both in
    let same_behind : s.1 ≡ behind = sym (ap (λ p. p.1) both) in
    record {
      others = ts;
      is = ap (λ first. first ∷ ts) (sym same_token);
      spelled = subst (λ after. Spells true ts after []) same_behind s.5;
      less = subst (λ after. length after < length bytes) same_behind (shorter true t ts bytes [] s);
    }

pub ends : (left : List Token) (bytes : List ℕ) → None ≡ first_token bytes → Spells true left bytes [] → left ≡ []
ends [] bytes reads s = refl
ends (t ∷ ts) bytes reads s =
    absurd (none_some (t, s.1 ++ []) _ reads (ap first_token (sym (append-nil bytes)) ∙ first_of true t ts bytes [] s))

-- Bytes are spelled by one list of tokens.
pub same_whole : (ts us : List Token) (bytes : List ℕ) → Spells true ts bytes [] → Spells true us bytes [] → ts ≡ us
same_whole [] us bytes s r = sym (ends us bytes (sym (ap first_token s)) r)
same_whole (t ∷ ts) us bytes s r =
    let next = continues us bytes t s.1
    (sym (ap first_token (sym (append-nil bytes)) ∙ first_of true t ts bytes [] s
    ∙ ap (λ after. Some (t, after)) (append-nil s.1))) r in
    ap (λ rest. t ∷ rest) (same_whole ts next.others s.1 s.5 next.spelled) ∙ sym next.is
