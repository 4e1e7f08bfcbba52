-- The lines of clauses.
use Rattle.std.proofs.Common.{◌≡◌, ℕ, Bool, true, false, ◌&&◌, nat_lt, if◌then◌else◌, List, [], ◌∷◌, map, length, Option, Some, None, option_map, slice_get, Result, Ok, Err, refl, ap, sym, ◌∙◌}
use Rattle.std.proofs.lemmas.Option.{slice_get-map}
use Rattle.std.proofs.lemmas.List.{length-map}
use Rattle.sb_term.specs.Numbered.{term_at}
use Rattle.sb_term.specs.declared.assertion.Assertion.{Assertion}
use Rattle.sb_lang.specs.Regex.{Regex}
use Rattle.sb_lit.specs.declared.clause.Lit.{Lit}
use Rattle.sb_meaning.specs.Terms.{Term}
use Rattle.sb_script.specs.Brought.{is_structure}
use Rattle.sb_rulebook.specs.Refusals.{Refusal, unknown_id, rule_broken}
use Rattle.sb_rulebook.specs.Atoms.{AtomOver}
use Rattle.sb_rulebook.specs.AtomRules.{is_known}
use Rattle.sb_rulebook.specs.ClauseRules.{is_this, is_translation, asserted}
use Rattle.sb_rulebook.specs.Kept.{AllKept, Asked, with_clause}
use Rattle.sb_rulebook.specs.Lines.{assertion_line}
use Rattle.sb_rulebook.specs.Follows.{follows}
use Rattle.sb_rulebook.specs.Translation.{translation}
use Rattle.sb_atoms.specs.Numbered.{over, atoms_in}
use Rattle.sb_atoms.specs.Translated.{brought_translation}
use Rattle.sb_rules.specs.declared.kept.Kept.{Kept}
use Rattle.sb_rules.specs.Refuting.{IsFound}
use Rattle.sb_rules.specs.Kept.{kept_in, live_in}

-- The line of an assertion.

pub by_assertion : (asked : Asked) (k : Kept) (others : AllKept) (place : ℕ) (l : Lit) (a : Option Term × ℕ)
    → slice_get asked.live place ≡ Some a
    → follows asked (kept_in k others) (assertion_line place l)
    ≡ (if is_known (atoms_in k.arena k.atoms) l then asserted (kept_in k others) place a l else Err unknown_id)
by_assertion asked k others place l a h =
    ap (λ o. elim o as (λ _. Result AllKept Refusal) [
      | None ↦ Err unknown_id
      | Some assertion ↦ if is_known (atoms_in k.arena k.atoms) l
          then asserted (kept_in k others) place assertion l else Err unknown_id
    ]) h

known_as : (rs : List Regex) (atoms : List (AtomOver ℕ)) (l : Lit) → nat_lt l.atom (length atoms) ≡ true
    → is_known (atoms_in rs atoms) l ≡ true
known_as rs atoms l h = ap (nat_lt l.atom) (length-map atoms (over rs)) ∙ h

-- the line of an assertion's term, where the literal's atom is known
pub by_asserted : (asked : Asked) (k : Kept) (others : AllKept) (place : ℕ) (l : Lit) (ts : List Term)
    (live : List Assertion) (a : Assertion) (t : ℕ) (b : Bool) → asked.live ≡ map (live_in ts) live
    → slice_get live place ≡ Some a → a.term ≡ Some t → nat_lt l.atom (length k.atoms) ≡ true
    → b ≡ is_translation (kept_in k others).atoms (Some (term_at ts t)) l
    → follows asked (kept_in k others) (assertion_line place l)
    ≡ (if b then Ok (with_clause (kept_in k others) (l ∷ []) a.level (place ∷ [])) else Err rule_broken)
by_asserted asked k others place l ts live a t b e h g known is =
    by_assertion asked k others place l (live_in ts a)
    (ap (λ xs. slice_get xs place) e ∙ slice_get-map (live_in ts) live place ∙ ap (option_map (live_in ts)) h)
    ∙ (ap (λ c. if c then asserted (kept_in k others) place (live_in ts a) l else Err unknown_id)
    (known_as k.arena k.atoms l known)
    ∙ (ap (λ o. if is_translation (kept_in k others).atoms (option_map (term_at ts) o) l
    then Ok (with_clause (kept_in k others) (l ∷ []) a.level (place ∷ [])) else Err rule_broken) g
    ∙ ap (λ c. if c then Ok (with_clause (kept_in k others) (l ∷ []) a.level (place ∷ [])) else Err rule_broken) (sym is)))

-- there is no assertion at the place
pub by_no_assertion : (asked : Asked) (k : Kept) (others : AllKept) (place : ℕ) (l : Lit) (ts : List Term)
    (live : List Assertion) → asked.live ≡ map (live_in ts) live → slice_get live place ≡ None
    → follows asked (kept_in k others) (assertion_line place l) ≡ Err unknown_id
by_no_assertion asked k others place l ts live e h =
    ap (λ o. elim o as (λ _. Result AllKept Refusal) [
      | None ↦ Err unknown_id
      | Some assertion ↦ if is_known (atoms_in k.arena k.atoms) l
          then asserted (kept_in k others) place assertion l else Err unknown_id
    ])
    (ap (λ xs. slice_get xs place) e ∙ slice_get-map (live_in ts) live place ∙ ap (option_map (live_in ts)) h)

-- the literal's atom is not known
pub by_unknown : (asked : Asked) (k : Kept) (others : AllKept) (place : ℕ) (l : Lit) (ts : List Term)
    (live : List Assertion) (a : Assertion) → asked.live ≡ map (live_in ts) live → slice_get live place ≡ Some a
    → nat_lt l.atom (length k.atoms) ≡ false
    → follows asked (kept_in k others) (assertion_line place l) ≡ Err unknown_id
by_unknown asked k others place l ts live a e h unknown =
    by_assertion asked k others place l (live_in ts a)
    (ap (λ xs. slice_get xs place) e ∙ slice_get-map (live_in ts) live place ∙ ap (option_map (live_in ts)) h)
    ∙ ap (λ c. if c then asserted (kept_in k others) place (live_in ts a) l else Err unknown_id)
    (ap (nat_lt l.atom) (length-map k.atoms (over k.arena)) ∙ unknown)

-- a term's literal, where an assertion of it may be stated, is the one that is looked for
pub translated : (old new : List Regex) (atoms : List (AtomOver ℕ)) (t : Term) (l : Lit) (found : Option Lit) (b : Bool)
    → atoms_in new atoms ≡ atoms_in old atoms → found ≡ brought_translation (atoms_in new atoms) t → IsFound l found b
    → b ≡ is_translation (atoms_in old atoms) (Some t) l
translated old new atoms t l found b same there h =
    found_as found b h
    ∙ (ap (is_this l) (there ∙ ap (λ xs. brought_translation xs t) same) ∙ stated (is_structure t))
  where
    found_as : (found : Option Lit) (b : Bool) → IsFound l found b → b ≡ is_this l found
    found_as None b h = h
    found_as (Some m) b h = h

    stated : (s : Bool) → is_this l (if s then translation (atoms_in old atoms) t else None)
        ≡ (s && is_this l (translation (atoms_in old atoms) t))
    stated true = refl
    stated false = refl
