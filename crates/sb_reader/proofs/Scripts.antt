-- Bytes are read as one list of entries.
use Rattle.std.proofs.Common.{◌≡◌, ℕ, ◌+◌, ◌-◌, Bool, true, false, not, ◌&&◌, cond, List, [], ◌∷◌, ◌++◌, Option, Some, None, ◌⊎◌, inl, inr, sym, refl, ap, ◌∙◌, subst, ⊎_elim}
use Rattle.std.proofs.lemmas.Bool.{and_parts, false≢true}
use Rattle.sb_reader.specs.declared.feed.Refusal.{Refusal}
use Rattle.sb_reader.specs.declared.feed.Refusal.TheVariants.{BadToken, BareToken}
use Rattle.sb_reader.specs.Tokens.{Token, Open, Close, Text, Quoted, Run, is_bad}
use Rattle.sb_reader.specs.Forms.{Form, Forms, Group, tokens_of}
use Rattle.sb_reader.specs.Entries.{Entry, Command, Refused, closes_at_end, is_parenthesized, stays_open, is_open_entry, first_fault, is_parenthesis, IsCommand, IsEntry, Spells, HoldsNoToken, HoldsNoEntry, SpellsEntry, Reads}
use Rattle.sb_reader.specs.OneEntry.{is_one_entry}
use Rattle.sb_reader.specs.Laws.{OneScript}
use Rattle.sb_reader.proofs.FormTokens.{same_form, group_is_one}
use Rattle.sb_reader.proofs.Readings.{same_first}
use Rattle.sb_reader.proofs.NoToken.{nothing_spelled}
use Rattle.sb_reader.proofs.OneEntry.{alone}

-- behind one more token, both lists end, or both close at their end from some depth
abbrev BothGoOn : List Token → List Token → Type 0
BothGoOn ts us = ((ts ≡ []) × (us ≡ [])) ⊎ ((e : ℕ) × (closes_at_end e ts ≡ true) × (closes_at_end e us ≡ true))

two_closes : (d : ℕ) (ts us : List Token) → closes_at_end d (Close ∷ ts) ≡ true → closes_at_end d (Close ∷ us) ≡ true
    → BothGoOn ts us
two_closes d [] [] h k = inl (refl, refl)
two_closes d [] (u ∷ us) h k = absurd (false≢true (ap (λ t. not t && closes_at_end (d - 1) (u ∷ us)) (sym h) ∙ k))
two_closes d (t ∷ ts) [] h k = absurd (false≢true (ap (λ b. not b && closes_at_end (d - 1) (t ∷ ts)) (sym k) ∙ h))
two_closes d (t ∷ ts) (u ∷ us) h k = inr (d - 1, (and_parts _ _ h).1, (and_parts _ _ k).1)

closed_step : (t : Token) (d : ℕ) (ts us : List Token) → closes_at_end d (t ∷ ts) ≡ true
    → closes_at_end d (t ∷ us) ≡ true → BothGoOn ts us
closed_step Open d ts us h k = inr (d + 1, h, k)
closed_step Close d ts us h k = two_closes d ts us h k
closed_step (Text bytes) d ts us h k = inr (d, h, k)
closed_step (Quoted bytes) d ts us h k = inr (d, h, k)
closed_step (Run bytes) d ts us h k = inr (d, h, k)

entry_step : (t : Token) (ts us : List Token) → is_one_entry (t ∷ ts) ≡ true → is_one_entry (t ∷ us) ≡ true
    → BothGoOn ts us
entry_step Open ts us h k = inr (1, h, k)
entry_step Close ts us h k = inl (alone Close ts (λ e. absurd cc) h, alone Close us (λ e. absurd cc) k)
entry_step (Text bytes) ts us h k =
    inl (alone (Text bytes) ts (λ e. absurd cc) h, alone (Text bytes) us (λ e. absurd cc) k)
entry_step (Quoted bytes) ts us h k =
    inl (alone (Quoted bytes) ts (λ e. absurd cc) h, alone (Quoted bytes) us (λ e. absurd cc) k)
entry_step (Run bytes) ts us h k =
    inl (alone (Run bytes) ts (λ e. absurd cc) h, alone (Run bytes) us (λ e. absurd cc) k)

abbrev IsSame : List Token → List Token → List ℕ → List ℕ → Type 0
IsSame ts us rest rest' = (ts ≡ us) × (rest ≡ rest')

both_end : (ended : Bool) (ts us : List Token) (front front' rest rest' : List ℕ) → ts ≡ [] → us ≡ []
    → Spells ended ts front rest → Spells ended us front' rest' → front ++ rest ≡ front' ++ rest'
    → IsSame ts us rest rest'
both_end ended [] [] front front' rest rest' e f s r same =
    (refl, sym (ap (λ bytes. bytes ++ rest) s) ∙ same ∙ ap (λ bytes. bytes ++ rest') r)
both_end ended [] (u ∷ us) front front' rest rest' e f s r same = absurd cc
both_end ended (t ∷ ts) us front front' rest rest' e f s r same = absurd cc

-- what holds of the tokens behind the first ones holds of them
first_same : (t u : Token) (ts us : List Token) (rest rest' : List ℕ) → t ≡ u → IsSame ts us rest rest'
    → IsSame (t ∷ ts) (u ∷ us) rest rest'
first_same t u ts us rest rest' e h = ((λ j. e j ∷ h.0 j), h.1)

same_closed : (ended : Bool) (d : ℕ) (ts us : List Token) (front front' rest rest' : List ℕ) → closes_at_end d ts ≡ true
    → closes_at_end d us ≡ true → Spells ended ts front rest → Spells ended us front' rest'
    → front ++ rest ≡ front' ++ rest' → IsSame ts us rest rest'
same_closed ended d [] us front front' rest rest' h k s r same = absurd (false≢true h)
same_closed ended d (t ∷ ts) [] front front' rest rest' h k s r same = absurd (false≢true k)
same_closed ended d (t ∷ ts) (u ∷ us) front front' rest rest' h k s r same =
    let first = same_first ended ended t u ts us front front' rest rest' s r same in
    first_same t u ts us rest rest' first.0
    (⊎_elim
    (λ both. both_end ended ts us s.1 r.1 rest rest' both.0 both.1 s.5 r.5 first.1)
    (λ on. same_closed ended on.0 ts us s.1 r.1 rest rest' on.1 on.2 s.5 r.5 first.1)
    (closed_step t d ts us h (ap (λ v. closes_at_end d (v ∷ us)) first.0 ∙ k)))

pub same_entry_tokens : (ended : Bool) (ts us : List Token) (front front' rest rest' : List ℕ) → is_one_entry ts ≡ true
    → is_one_entry us ≡ true → Spells ended ts front rest → Spells ended us front' rest'
    → front ++ rest ≡ front' ++ rest' → IsSame ts us rest rest'
same_entry_tokens ended [] us front front' rest rest' h k s r same = absurd (false≢true h)
same_entry_tokens ended (t ∷ ts) [] front front' rest rest' h k s r same = absurd (false≢true k)
same_entry_tokens ended (t ∷ ts) (u ∷ us) front front' rest rest' h k s r same =
    let first = same_first ended ended t u ts us front front' rest rest' s r same in
    first_same t u ts us rest rest' first.0
    (⊎_elim
    (λ both. both_end ended ts us s.1 r.1 rest rest' both.0 both.1 s.5 r.5 first.1)
    (λ on. same_closed ended on.0 ts us s.1 r.1 rest rest' on.1 on.2 s.5 r.5 first.1)
    (entry_step t ts us h (ap (λ v. is_one_entry (v ∷ us)) first.0 ∙ k)))

-- tokens that stay open are not the beginning of tokens that close, nor the other way round
abbrev OpenAndClosed : List Token → List Token → Type 0
OpenAndClosed ts us = (e : ℕ) × (stays_open e ts ≡ true) × (closes_at_end e us ≡ true)

close_open_step : (d : ℕ) (ts us : List Token) → stays_open d (Close ∷ ts) ≡ true → closes_at_end d (Close ∷ us) ≡ true
    → OpenAndClosed ts us
close_open_step d ts [] h k = absurd (false≢true (ap (λ t. not t && stays_open (d - 1) ts) (sym k) ∙ h))
close_open_step d ts (u ∷ us) h k = (d - 1, (and_parts _ _ h).1, (and_parts _ _ k).1)

open_step : (t : Token) (d : ℕ) (ts us : List Token) → stays_open d (t ∷ ts) ≡ true → closes_at_end d (t ∷ us) ≡ true
    → OpenAndClosed ts us
open_step Open d ts us h k = (d + 1, h, k)
open_step Close d ts us h k = close_open_step d ts us h k
open_step (Text bytes) d ts us h k = (d, h, k)
open_step (Quoted bytes) d ts us h k = (d, h, k)
open_step (Run bytes) d ts us h k = (d, h, k)

nothing_left : (ended : Bool) (u : Token) (us : List Token) (front front' rest rest' : List ℕ) → front ≡ []
    → HoldsNoToken ended rest → Spells ended (u ∷ us) front' rest' → front ++ rest ≡ front' ++ rest' → ⊥
nothing_left ended u us front front' rest rest' empty none r same =
    nothing_spelled ended rest u us front' rest' none r (sym (ap (λ bytes. bytes ++ rest) empty) ∙ same)

never_closed : (ended : Bool) (d : ℕ) (ts us : List Token) (front front' rest rest' : List ℕ) → stays_open d ts ≡ true
    → closes_at_end d us ≡ true → HoldsNoToken ended rest → Spells ended ts front rest → Spells ended us front' rest'
    → front ++ rest ≡ front' ++ rest' → ⊥
never_closed ended d ts [] front front' rest rest' h k none s r same = false≢true k
never_closed ended d [] (u ∷ us) front front' rest rest' h k none s r same =
    nothing_left ended u us front front' rest rest' s none r same
never_closed ended d (t ∷ ts) (u ∷ us) front front' rest rest' h k none s r same =
    let first = same_first ended ended t u ts us front front' rest rest' s r same in
    let on = open_step t d ts us h (ap (λ v. closes_at_end d (v ∷ us)) first.0 ∙ k) in
    never_closed ended on.0 ts us s.1 r.1 rest rest' on.1 on.2 none s.5 r.5 first.1

open_entry_step : (t : Token) (ts us : List Token) → is_open_entry (t ∷ ts) ≡ true → is_one_entry (t ∷ us) ≡ true
    → OpenAndClosed ts us
open_entry_step Open ts us h k = (1, h, k)
open_entry_step Close ts us h k = absurd (false≢true h)
open_entry_step (Text bytes) ts us h k = absurd (false≢true h)
open_entry_step (Quoted bytes) ts us h k = absurd (false≢true h)
open_entry_step (Run bytes) ts us h k = absurd (false≢true h)

never_entry : (ended : Bool) (ts us : List Token) (front front' rest rest' : List ℕ) → is_open_entry ts ≡ true
    → is_one_entry us ≡ true → HoldsNoToken ended rest → Spells ended ts front rest → Spells ended us front' rest'
    → front ++ rest ≡ front' ++ rest' → ⊥
never_entry ended ts [] front front' rest rest' h k none s r same = false≢true k
never_entry ended [] (u ∷ us) front front' rest rest' h k none s r same =
    nothing_left ended u us front front' rest rest' s none r same
never_entry ended (t ∷ ts) (u ∷ us) front front' rest rest' h k none s r same =
    let first = same_first ended ended t u ts us front front' rest rest' s r same in
    let on = open_entry_step t ts us h (ap (λ v. is_one_entry (v ∷ us)) first.0 ∙ k) in
    never_closed ended on.0 ts us s.1 r.1 rest rest' on.1 on.2 none s.5 r.5 first.1

-- the tokens of an entry are one entry
parenthesized_is_one : (ts : List Token) → is_parenthesized ts ≡ true → is_one_entry ts ≡ true
parenthesized_is_one [] h = h
parenthesized_is_one (Open ∷ ts) h = h
parenthesized_is_one (Close ∷ ts) h = absurd (false≢true h)
parenthesized_is_one (Text bytes ∷ ts) h = absurd (false≢true h)
parenthesized_is_one (Quoted bytes ∷ ts) h = absurd (false≢true h)
parenthesized_is_one (Run bytes ∷ ts) h = absurd (false≢true h)

lone_is_one : (t : Token) → is_parenthesis t ≡ false → is_one_entry (t ∷ []) ≡ true
lone_is_one Open h = absurd (false≢true (sym h))
lone_is_one Close h = refl
lone_is_one (Text bytes) h = refl
lone_is_one (Quoted bytes) h = refl
lone_is_one (Run bytes) h = refl

pub entry_is_one : (entry : Entry) (ts : List Token) → IsEntry entry ts → is_one_entry ts ≡ true
entry_is_one (Command form) ts c = ap is_one_entry (c.tokens_are ∙ ap tokens_of c.list) ∙ group_is_one c.forms
entry_is_one (Refused refusal) ts h =
    ⊎_elim
    (λ stray. ap is_one_entry stray.0)
    (λ rest. ⊎_elim (λ bare. ap is_one_entry bare.1 ∙ lone_is_one bare.0 bare.2)
    (λ faulty. parenthesized_is_one ts faulty.0) rest)
    h

-- The tokens determine the entry.
one_token : (t u : Token) (ts : List Token) → ts ≡ t ∷ [] → ts ≡ u ∷ [] → t ≡ u
one_token t u ts e f = cc

bare_parenthesized : (t : Token) (ts : List Token) → ts ≡ t ∷ [] → is_parenthesis t ≡ false → is_parenthesized ts ≡ true
    → ⊥
bare_parenthesized t ts e h p = at t h (ap is_parenthesized (sym e) ∙ p) where
  at : (t : Token) → is_parenthesis t ≡ false → is_parenthesized (t ∷ []) ≡ true → ⊥
  at Open h p = false≢true (sym h)
  at Close h p = false≢true p
  at (Text bytes) h p = false≢true p
  at (Quoted bytes) h p = false≢true p
  at (Run bytes) h p = false≢true p

stray_bare : (t : Token) (ts : List Token) → ts ≡ Close ∷ [] → ts ≡ t ∷ [] → is_parenthesis t ≡ false → ⊥
stray_bare t ts e f h = false≢true (sym h ∙ ap is_parenthesis (one_token t Close ts f e))

stray_parenthesized : (ts : List Token) → ts ≡ Close ∷ [] → is_parenthesized ts ≡ true → ⊥
stray_parenthesized ts e p = false≢true (ap is_parenthesized (sym e) ∙ p)

group_parenthesized : (fs : Forms) (form : Form) (ts : List Token) → ts ≡ tokens_of form → form ≡ Group fs
    → is_parenthesized ts ≡ true
group_parenthesized fs form ts e f = ap is_parenthesized (e ∙ ap tokens_of f) ∙ group_is_one fs

same_fault : (r q : Refusal) (o : Option Refusal) → o ≡ Some r → o ≡ Some q → r ≡ q
same_fault r q o e f = cc

no_fault : (r : Refusal) (o : Option Refusal) → o ≡ None → o ≡ Some r → ⊥
no_fault r o e f = absurd cc

command_refused : (form : Form) (refusal : Refusal) (ts : List Token) → IsCommand form ts → IsEntry (Refused refusal) ts
    → ⊥
command_refused form refusal ts c h =
    let p = group_parenthesized c.forms form ts c.tokens_are c.list in
    ⊎_elim
    (λ stray. stray_parenthesized ts stray.0 p)
    (λ rest. ⊎_elim (λ bare. bare_parenthesized bare.0 ts bare.1 bare.2 p)
    (λ faulty. no_fault refusal (first_fault 0 ts) c.no_fault faulty.1) rest)
    h

same_refusal : (r q : Refusal) (ts : List Token) → IsEntry (Refused r) ts → IsEntry (Refused q) ts → r ≡ q
same_refusal r q ts h k =
    ⊎_elim
    (λ stray. ⊎_elim (λ stray'. stray.1 ∙ sym stray'.1)
    (λ rest. absurd
    (⊎_elim (λ bare. stray_bare bare.0 ts stray.0 bare.1 bare.2) (λ faulty. stray_parenthesized ts stray.0 faulty.0)
    rest)) k)
    (λ rest. ⊎_elim
    (λ bare. ⊎_elim
    (λ stray. absurd (stray_bare bare.0 ts stray.0 bare.1 bare.2))
    (λ rest'. ⊎_elim (λ bare'. bare.3
    ∙ ap (λ t. cond (is_bad t) BadToken BareToken) (one_token bare.0 bare'.0 ts bare.1 bare'.1) ∙ sym bare'.3)
    (λ faulty. absurd (bare_parenthesized bare.0 ts bare.1 bare.2 faulty.0)) rest')
    k)
    (λ faulty. ⊎_elim
    (λ stray. absurd (stray_parenthesized ts stray.0 faulty.0))
    (λ rest'. ⊎_elim (λ bare. absurd (bare_parenthesized bare.0 ts bare.1 bare.2 faulty.0))
    (λ faulty'. same_fault r q (first_fault 0 ts) faulty.1 faulty'.1) rest')
    k)
    rest)
    h

same_command : (f g : Form) (ts : List Token) → IsCommand f ts → IsCommand g ts → f ≡ g
same_command f g ts c d =
    (same_form f g [] [] c.kinds d.kinds (ap (λ tokens. tokens ++ []) (sym c.tokens_are ∙ d.tokens_are))).0

pub same_entry : (e f : Entry) (ts : List Token) → IsEntry e ts → IsEntry f ts → e ≡ f
same_entry (Command form) (Command form') ts h k = ap Command (same_command form form' ts h k)
same_entry (Command form) (Refused refusal) ts h k = absurd (command_refused form refusal ts h k)
same_entry (Refused refusal) (Command form) ts h k = absurd (command_refused form refusal ts k h)
same_entry (Refused refusal) (Refused refusal') ts h k = ap Refused (same_refusal refusal refusal' ts h k)

pub no_entry : (ended : Bool) (bytes : List ℕ) (e : Entry) (front rest : List ℕ) → HoldsNoEntry ended bytes
    → bytes ≡ front ++ rest → SpellsEntry ended e front rest → ⊥
no_entry ended bytes e front rest none split s =
    never_entry ended none.tokens s.0 none.front front none.rest rest none.open_entry (entry_is_one e s.0 s.1)
    none.no_token none.spelled s.2 (sym none.split ∙ split)

pub one_script : OneScript
one_script ended bytes [] [] h k = refl
one_script ended bytes [] (f ∷ fs) h k = absurd (no_entry ended bytes f k.0 k.1 h k.2 k.3)
one_script ended bytes (e ∷ es) [] h k = absurd (no_entry ended bytes e h.0 h.1 k h.2 h.3)
one_script ended bytes (e ∷ es) (f ∷ fs) h k =
    let same = same_entry_tokens ended h.3.0 k.3.0 h.0 k.0 h.1 k.1 (entry_is_one e h.3.0 h.3.1)
    (entry_is_one f k.3.0 k.3.1) h.3.2 k.3.2 (sym h.2 ∙ k.2) in
    let first = same_entry e f k.3.0 (subst (IsEntry e) same.0 h.3.1) k.3.1 in
    let others = one_script ended k.1 es fs (subst (λ rest. Reads ended rest es) same.1 h.4) k.4 in
    (λ j. first j ∷ others j)
