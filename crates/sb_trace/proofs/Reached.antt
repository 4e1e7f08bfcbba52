-- Regexes that some word reaches, and those to which they lead.
use Rattle.std.proofs.Common.{◌≡◌, ℕ, suc, ◌<◌, ◌≤◌, nat_eq, Bool, true, false, ◌||◌, ◌⊎◌, inl, inr, List, [], ◌∷◌, ◌++◌, length, get_or, refl, sym, ap, ap₂, subst, ◌∙◌, arith}
use Rattle.std.proofs.lemmas.Bool.{and_from, le-leb, false≢true}
use Rattle.std.proofs.lemmas.List.Folds.{list_all-append}
use Rattle.sb_word.specs.Words.{is_character, IsWord}
use Rattle.sb_lang.specs.Regex.{Regex}
use Rattle.sb_lang.specs.Derivative.{nd, nd_along}
use Rattle.sb_regex.specs.Numbered.{regex_at, Extends}
use Rattle.sb_regex.proofs.CallerLemmas.{names_at, names_kept, names_from}
use Rattle.sb_deriv.specs.Faithful.{IsKnown}
use Rattle.sb_deriv.specs.Pieces.{value_from, rises, end_of_characters, targets_of}
use Rattle.sb_deriv.proofs.CallerLemmas.{rises_head, rises_rest, rises_le, covers_rises}
use Rattle.sb_trace.specs.Tracking.{Traced, is_expanded_in}
use Rattle.sb_trace.specs.Reaching.{is_member, IsReached, AreReached, ExpandsReached}
use Rattle.sb_trace.proofs.Positions.{nat_same}
use Rattle.sb_trace.proofs.Closures.{value_of_first, value_passes}

pub along_last : (r : Regex) (w : List ℕ) (c : ℕ) → nd_along r (w ++ c ∷ []) ≡ nd (nd_along r w) c
unfolding nd_along
along_last r [] c = refl
along_last r (x ∷ w) c = along_last (nd r x) w c

pub reached_at_once : (rs : List Regex) (n : ℕ) → n < length rs → IsReached rs (regex_at rs n) n
unfolding nd_along
reached_at_once rs n l = record { word = []; characters = refl; along = names_from rs n (regex_at rs n) l refl; wanted = tt }

pub reached_grows : (rs more : List Regex) (r : Regex) (n : ℕ) → Extends rs more → IsReached rs r n
    → IsReached more r n
reached_grows rs more r n extends p = record {
  word = p.word;
  characters = p.characters;
  along = names_kept rs more n (nd_along r p.word) extends p.along;
  wanted = tt;
}

pieces_reached : (rs : List Regex) (r : Regex) (word : List ℕ) (d n : ℕ) (ps : List (ℕ × ℕ)) → IsWord word
    → rises n ps end_of_characters ≡ true → ((k e : ℕ) → k < length (targets_of ps)
    → get_or (targets_of ps) k e < length rs)
    → ((c : ℕ) → n ≤ c → is_character c ≡ true → regex_at rs (value_from d ps c) ≡ nd (nd_along r word) c)
    → (t : ℕ) → is_member (targets_of ps) t ≡ true → IsReached rs r t
pieces_reached rs r word d n [] characters rising known values t h = absurd (false≢true h)
pieces_reached rs r word d n (p ∷ ps) characters rising known values t h =
    step (nat_eq t p.1) refl h
    (pieces_reached rs r word p.1 (suc p.0) ps characters rest (λ k e l. known (suc k) e (omega (arith, l)))
    (λ c l character. ap (regex_at rs) (sym (value_passes d p ps c (omega (arith, l))))
    ∙ values c (omega (arith, l, start)) character) t)
  where
    start : n ≤ p.0
    start = rises_head n (p ∷ ps) end_of_characters rising

    rest : rises (suc p.0) ps end_of_characters ≡ true
    rest = rises_rest n p ps end_of_characters rising

    is : is_character p.0 ≡ true
    is = let low = rises_le (suc p.0) ps end_of_characters rest in le-leb p.0 0x2ffff (omega (arith, low))

    here : IsReached rs r p.1
    here = record {
      word = word ++ p.0 ∷ [];
      characters = list_all-append is_character word (p.0 ∷ [])
          ∙ and_from _ _ characters (and_from (is_character p.0) true is refl);
      along = names_from rs p.1 (nd_along r (word ++ p.0 ∷ [])) (known 0 0 (omega arith))
          (ap (regex_at rs) (sym (value_of_first d n p ps rising)) ∙ values p.0 start is
          ∙ sym (along_last r word p.0));
      wanted = tt;
    }

    step : (b : Bool) → nat_eq t p.1 ≡ b → (b || is_member (targets_of ps) t) ≡ true
        → (is_member (targets_of ps) t ≡ true → IsReached rs r t) → IsReached rs r t
    step true same h later = subst (IsReached rs r) (sym (nat_same t p.1 same)) here
    step false same h later = later h

targets_reached : (rs : List Regex) (r : Regex) (n : ℕ) (pieces : List (ℕ × ℕ)) → IsReached rs r n
    → IsKnown rs n pieces → (t : ℕ) → is_member (targets_of pieces) t ≡ true → IsReached rs r t
targets_reached rs r n pieces p known =
    pieces_reached rs r p.word 0 0 pieces p.characters
    (covers_rises pieces end_of_characters known.derivative.ordered.whole) known.derivative.targets
    (λ c l character. known.derivative.values c character ∙ ap (λ s. nd s c) (names_at rs n (nd_along r p.word) p.along))

-- new members are old ones or targets of one that is reached
pub members_reached : (rs more : List Regex) (r : Regex) (n : ℕ) (pieces : List (ℕ × ℕ)) (old new : List ℕ)
    → Extends rs more → IsKnown more n pieces
    → ((t : ℕ) → is_member new t ≡ true → (is_member old t || is_member (targets_of pieces) t) ≡ true)
    → IsReached rs r n → AreReached rs r old → AreReached more r new
members_reached rs more r n pieces old new extends known only here before t h =
    either (is_member old t) refl (only t h)
  where
    either : (b : Bool) → is_member old t ≡ b → (b || is_member (targets_of pieces) t) ≡ true → IsReached more r t
    either true is h = reached_grows rs more r t extends (before t is)
    either false is h =
        targets_reached more r n pieces (reached_grows rs more r n extends here) known t h

pub reached_alone : (rs : List Regex) (n : ℕ) (members : List ℕ) → members ≡ n ∷ [] → n < length rs
    → AreReached rs (regex_at rs n) members
reached_alone rs n members is l t h = step (nat_eq t n) refl (sym (ap (λ (ms : List ℕ). is_member ms t) is) ∙ h)
  where
    step : (b : Bool) → nat_eq t n ≡ b → (b || false) ≡ true → IsReached rs (regex_at rs n) t
    step true same h = subst (IsReached rs (regex_at rs n)) (sym (nat_same t n same)) (reached_at_once rs n l)
    step false same h = absurd (false≢true h)

-- what is expanded was so before, or is reached
pub reached_or_before : (rs : List Regex) (r : Regex) (members : List ℕ) (t u : Traced) → AreReached rs r members
    → ((n : ℕ) → is_expanded_in u n ≡ true → (is_member members n || is_expanded_in t n) ≡ true)
    → ExpandsReached rs r t u
reached_or_before rs r members t u reached only = λ n h. step n (is_member members n) refl (only n h)
  where
    step : (n : ℕ) (b : Bool) → is_member members n ≡ b → (b || is_expanded_in t n) ≡ true
        → (is_expanded_in t n ≡ true) ⊎ IsReached rs r n
    step n true is h = inr (reached n is)
    step n false is h = inl h

-- also where other marks are put behind that
pub reached_behind : (rs : List Regex) (r : Regex) (t u v : Traced) → v.order ≡ u.order → v.expanded ≡ u.expanded
    → ExpandsReached rs r t u → ExpandsReached rs r t v
reached_behind rs r t u v order marks only = λ n h.
    only n (sym (ap₂ (λ (ns : List ℕ) (ms : List Bool). is_expanded_in (record v { order = ns; expanded = ms }) n) order
    marks) ∙ h)
