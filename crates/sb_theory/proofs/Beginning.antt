-- The theory at its beginning, and the wanted memberships of several pieces.
use Rattle.std.proofs.lemmas.Map.Views.{Contains-from_any}
use Rattle.sb_theory.proofs.Words.{[], ◌++◌, ◌+◌, ◌<◌, ◌∙◌, ◌∷◌, ◌≡◌, Bool, List, None, Option, Some, ap, append-nil, cond, eqb-true, false, filter, filter-append, get_or, length, refl, slice_get, sym, take, take_more, true, ℕ, false≢true, AtomOver, HaveRegexesBelow, IsMembership, IsLeft, Strings, and_atom, bool_atom, iff_atom, in_atom, is_joined, is_joined_atom, is_wanted, le_atom, sum_atom}
use Rattle.sb_theory.proofs.Wishes.{left_start}

-- The memberships of several pieces.

joined_membership : (a : AtomOver ℕ) → is_joined_atom a ≡ true → IsMembership a
joined_membership (in_atom ps r) h = record { pieces = ps; regex = r; is = refl }
joined_membership (bool_atom serial) h = absurd (false≢true h)
joined_membership (le_atom y k) h = absurd (false≢true h)
joined_membership (sum_atom k ss) h = absurd (false≢true h)
joined_membership (and_atom ls) h = absurd (false≢true h)
joined_membership (iff_atom l m) h = absurd (false≢true h)

abbrev joins : Option (AtomOver ℕ) → Bool
joins o = elim o [ None ↦ false | Some a ↦ is_joined_atom a ]

pub left_joined : (x : Strings) (a : ℕ) → HaveRegexesBelow (length x.store.arena) x.atoms → is_wanted x.wanted a ≡ true
    → is_joined x.atoms a ≡ true → IsLeft x a
left_joined x a below wanted joined = step (slice_get x.atoms a) refl joined
  where
    step : (o : Option (AtomOver ℕ)) → slice_get x.atoms a ≡ o → joins o ≡ true → IsLeft x a
    step None is h = absurd (false≢true h)
    step (Some b) is h =
        let m = joined_membership b h in
        left_start x a m.pieces m.regex (is ∙ ap Some m.is) (Contains-from_any eqb-true a x.wanted wanted) below

-- as they are listed
pub list_more : (p : ℕ → Bool) (ns now new : List ℕ) (i a d : ℕ) → i < length ns → a ≡ get_or ns i d → p a ≡ true
    → now ≡ filter p (take i ns) → new ≡ now ++ a ∷ [] → new ≡ filter p (take (i + 1) ns)
list_more p ns now new i a d within at pass is pushed =
    pushed ∙ ap (λ (xs : List ℕ). xs ++ a ∷ []) is
    ∙ sym (ap (filter p) (take_more ns i d within ∙ ap (λ n. take i ns ++ n ∷ []) (sym at))
    ∙ filter-append p (take i ns) (a ∷ [])
    ∙ ap (λ b. filter p (take i ns) ++ cond b (a ∷ []) []) pass)

pub list_passed : (p : ℕ → Bool) (ns now : List ℕ) (i a d : ℕ) → i < length ns → a ≡ get_or ns i d → p a ≡ false
    → now ≡ filter p (take i ns) → now ≡ filter p (take (i + 1) ns)
list_passed p ns now i a d within at pass is =
    is
    ∙ sym (ap (filter p) (take_more ns i d within ∙ ap (λ n. take i ns ++ n ∷ []) (sym at))
    ∙ filter-append p (take i ns) (a ∷ [])
    ∙ ap (λ b. filter p (take i ns) ++ cond b (a ∷ []) []) pass ∙ append-nil (filter p (take i ns)))
