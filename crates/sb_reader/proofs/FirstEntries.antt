-- What bytes begin with: one entry, and entries one after another.
use Rattle.std.proofs.Common.{◌≡◌, ℕ, arith, true, List, [], ◌∷◌, ◌++◌, append_assoc, sym, refl, ap, ◌∙◌, subst, inl}
use Rattle.std.proofs.lemmas.List.{append_cancel_right}
use Rattle.sb_reader.specs.Entries.{IsEntry, HoldsNoEntry, Begins}
use Rattle.sb_reader.specs.Laws.{OneEntry, EntryHasBytes, NoEntry, BeginningStays, BeginningGrows, BeginningIsFirst}
use Rattle.sb_reader.proofs.Scripts as script
use Rattle.sb_reader.proofs.Scripts.{same_entry_tokens, same_entry, entry_is_one}
use Rattle.sb_reader.proofs.Readings.{entry_stays}
use Rattle.sb_reader.proofs.Growing.{Spells-alone}

same_front : (front front' rest rest' : List ℕ) → rest ≡ rest' → front ++ rest ≡ front' ++ rest' → front ≡ front'
same_front front front' rest rest' e h = append_cancel_right front front' rest (h ∙ ap (λ r. front' ++ r) (sym e))

pub one_entry : OneEntry
one_entry ended entry entry' front front' rest rest' s r same =
    let tokens = same_entry_tokens ended s.0 r.0 front front' rest rest' (entry_is_one entry s.0 s.1)
    (entry_is_one entry' r.0 r.1) s.2 r.2 same in (
      same_entry entry entry' r.0 (subst (IsEntry entry) tokens.0 s.1) r.1,
      same_front front front' rest rest' tokens.1 same,
      tokens.1,
    )

nothing_is_none : HoldsNoEntry true []
nothing_is_none = record {
  tokens = [];
  front = [];
  rest = [];
  split = refl;
  spelled = refl;
  open_entry =
      refl;
  no_token = inl refl;
}

pub entry_has_bytes : EntryHasBytes
entry_has_bytes ended entry [] rest s =
    absurd (script.no_entry true [] entry [] [] nothing_is_none refl (s.0, s.1, Spells-alone ended s.0 [] rest s.2))
entry_has_bytes ended entry (b ∷ front) rest s = omega arith

pub no_entry : NoEntry
no_entry ended entry bytes front rest none split s = script.no_entry ended bytes entry front rest none split s

pub beginning_stays : BeginningStays
beginning_stays ended bytes more [] left h = ap (λ b. b ++ more) h
beginning_stays ended bytes more (entry ∷ entries) left h = (
  h.0,
  h.1 ++ more,
  ap (λ b. b ++ more) h.2 ∙ append_assoc h.0 h.1 more,
  entry_stays ended entry h.0 h.1 more h.3,
  beginning_stays ended h.1 more entries left h.4,
)

pub beginning_grows : BeginningGrows
beginning_grows ended bytes [] entry front left h s = (front, left, h, s, refl)
beginning_grows ended bytes (first ∷ entries) entry front left h s =
    (h.0, h.1, h.2, h.3, beginning_grows ended h.1 entries entry front left h.4 s)

pub beginning_is_first : BeginningIsFirst
beginning_is_first ended bytes [] all left rest h k none = (all, refl)
beginning_is_first ended bytes (entry ∷ entries) [] left rest h k none =
    absurd (no_entry ended entry rest h.0 h.1 none (sym k ∙ h.2) h.3)
beginning_is_first ended bytes (entry ∷ entries) (other ∷ all) left rest h k none =
    let same = one_entry ended entry other h.0 k.0 h.1 k.1 h.3 k.3 (sym h.2 ∙ k.2) in
    let others = beginning_is_first ended h.1 entries all left rest h.4
    (subst (λ b. Begins ended b all rest) (sym same.2) k.4) none in
    (others.0, λ j. sym same.0 j ∷ others.1 j)
