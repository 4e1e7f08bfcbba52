-- The laws of tokens.
use Rattle.std.proofs.Common.{◌≡◌, ℕ, Bool, true, false, ◌&&◌, List, [], ◌∷◌, ◌++◌, length, Some, sym, refl, ap, ◌∙◌, subst, arith, append_assoc}
use Rattle.std.proofs.lemmas.Bool.{false≢true}
use Rattle.std.proofs.lemmas.List.{append_cancel_right}
use Rattle.sb_reader.specs.Tokens.{Token, Open, Close, Text, Quoted, Run, spelling_of, is_run_byte, some_pass, has_paired_quotes, is_whole}
use Rattle.sb_reader.specs.Entries.{Spells}
use Rattle.sb_reader.specs.Lexing.{first_token}
use Rattle.sb_reader.specs.Laws.{TokensStay, EntryStays, IsFirst, OneFirstToken, OneReading}
use Rattle.sb_reader.proofs.Lexed.{first_token_is}
use Rattle.sb_reader.proofs.Spelled.{first_of, some_is}

unsettled : (b : Bool) → (b && false) ≡ true → ⊥
unsettled true h = false≢true h
unsettled false h = false≢true h

whole_stays : (ended : Bool) (token : Token) (after more : List ℕ) → is_whole false token after ≡ true
    → is_whole ended token (after ++ more) ≡ true
whole_stays ended Open after more h = refl
whole_stays ended Close after more h = refl
whole_stays ended (Text bytes) [] more h = absurd (unsettled (has_paired_quotes bytes) h)
whole_stays ended (Text bytes) (b ∷ bs) more h = h
whole_stays ended (Quoted bytes) after more h = h
whole_stays ended (Run bytes) [] more h = absurd (unsettled (some_pass is_run_byte bytes) h)
whole_stays ended (Run bytes) (b ∷ bs) more h = h

pub tokens_stay : TokensStay
tokens_stay ended [] front rest more s = s
tokens_stay ended (token ∷ tokens) front rest more s = (
  s.0,
  s.1,
  s.2,
  s.3,
  subst (λ after. is_whole ended token after ≡ true) (append_assoc s.1 rest more)
      (whole_stays ended token (s.1 ++ rest) more s.4),
  tokens_stay ended tokens s.1 rest more s.5,
)

pub entry_stays : EntryStays
entry_stays ended entry front rest more s = (s.0, s.1, tokens_stay ended s.0 front rest more s.2)

first_is : (ended : Bool) (bytes : List ℕ) (token : Token) (gap behind : List ℕ) → IsFirst ended bytes token gap behind
    → first_token bytes ≡ Some (token, behind)
first_is ended bytes token gap behind f =
    ap first_token f.split ∙ first_token_is ended token gap behind f.is_gap f.whole

same_gap : (bytes : List ℕ) (token token' : Token) (gap gap' behind behind' : List ℕ) → token ≡ token'
    → behind ≡ behind' → bytes ≡ gap ++ (spelling_of token ++ behind) → bytes ≡ gap' ++ (spelling_of token' ++ behind')
    → gap ≡ gap'
same_gap bytes token token' gap gap' behind behind' t b split split' =
    let back : spelling_of token' ++ behind' ≡ spelling_of token ++ behind = (λ j. spelling_of (sym t j) ++ sym b j) in
    append_cancel_right gap gap' (spelling_of token ++ behind) (sym split ∙ split' ∙ ap (λ after. gap' ++ after) back)

pub one_first_token : OneFirstToken
one_first_token ended later bytes token token' gap gap' behind behind' f g =
    let both : (token, behind) ≡ (token', behind') =
    some_is _ _ _ (sym (first_is ended bytes token gap behind f)) (first_is later bytes token' gap' behind' g) in
    let t : token ≡ token' = ap (λ p. p.0) both in
    let b : behind ≡ behind' = ap (λ p. p.1) both in
    (t, same_gap bytes token token' gap gap' behind behind' t b f.split g.split, b)

-- the first tokens, and what is behind them
pub same_first : (ended later : Bool) (t u : Token) (ts us : List Token) (front front' rest rest' : List ℕ)
    (s : Spells ended (t ∷ ts) front rest) (r : Spells later (u ∷ us) front' rest') → front ++ rest ≡ front' ++ rest'
    → (t ≡ u) × (s.1 ++ rest ≡ r.1 ++ rest')
same_first ended later t u ts us front front' rest rest' s r same =
    let both : (t, s.1 ++ rest) ≡ (u, r.1 ++ rest') =
    some_is _ _ _ (sym (first_of ended t ts front rest s))
    (ap first_token same ∙ first_of later u us front' rest' r) in
    (ap (λ p. p.0) both, ap (λ p. p.1) both)

same_rest : (ended later : Bool) (ts us : List Token) (front front' rest rest' : List ℕ) → Spells ended ts front rest
    → Spells later us front' rest' → front ++ rest ≡ front' ++ rest' → length ts ≡ length us
    → (ts ≡ us) × (rest ≡ rest')
same_rest ended later [] [] front front' rest rest' s r same long =
    (refl, sym (ap (λ f. f ++ rest) s) ∙ same ∙ ap (λ f. f ++ rest') r)
same_rest ended later [] (u ∷ us) front front' rest rest' s r same long = absurd (omega arith)
same_rest ended later (t ∷ ts) [] front front' rest rest' s r same long = absurd (omega arith)
same_rest ended later (t ∷ ts) (u ∷ us) front front' rest rest' s r same long =
    let first = same_first ended later t u ts us front front' rest rest' s r same in
    let others = same_rest ended later ts us s.1 r.1 rest rest' s.5 r.5 first.1 (omega arith) in
    ((λ j. first.0 j ∷ others.0 j), others.1)

pub one_reading : OneReading
one_reading ended later ts us front front' rest rest' s r same long =
    let both = same_rest ended later ts us front front' rest rest' s r same long in
    (both.0, append_cancel_right front front' rest (same ∙ ap (λ back. front' ++ back) (sym both.1)), both.1)
