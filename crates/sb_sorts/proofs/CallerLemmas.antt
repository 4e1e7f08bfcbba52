-- What a caller cites: of a table of the code, and of names over a table of terms that grows.
use Rattle.std.proofs.Common.{◌≡◌, ℕ, Bool, true, false, if◌then◌else◌, List, [], ◌∷◌, ◌++◌, map, take, drop, length, Some, option_map, refl, sym, ap, ap₂, ◌∙◌}
use Rattle.std.proofs.lemmas.Bool.{and_parts, and_from, ltb-true, lt-ltb}
use Rattle.std.proofs.lemmas.List.{take-append-drop}
use Rattle.std.proofs.lemmas.List.Folds.{list_all-append}
use Rattle.std.specs.List.{list_all}
use Rattle.sb_meaning.specs.Terms.{Term}
use Rattle.sb_script.specs.Names.{Name, is_name, found_in}
use Rattle.sb_script.specs.Scopes as meaning
use Rattle.sb_term.specs.Numbered.{Extends}
use Rattle.sb_term.specs.Symbols.{sort_in}
use Rattle.sb_term.proofs.CallerLemmas.{at_kept, number_kept}
use Rattle.sb_sorts.specs.declared.scope.Named.{Named}
use Rattle.sb_sorts.specs.declared.scope.Named.TheVariants as code
use Rattle.sb_sorts.specs.NamedRows.{look_up}
use Rattle.sb_sorts.specs.Scopes.{ScopeNames, named_in, naming_in, names_in, is_body_below, AreBodies}
use denote.Ref.{Bor}

-- What stands in a table of the code, as what stands in one of the definitions.

pub found_as : {A B : Type 0} (f : A → B) (rows : List (Bor Name × A)) (name : Name)
    → option_map f (look_up rows name) ≡ found_in (map (λ (row : Bor Name × A). (row.0.now, f row.1)) rows) name
unfolding look_up
found_as f [] name = refl
found_as {A} {B} f (row ∷ rows) name = step (is_name name row.0.now) (found_as f rows name)
  where
    step : (b : Bool)
        → option_map f (look_up rows name) ≡ found_in (map (λ (r : Bor Name × A). (r.0.now, f r.1)) rows) name
        → option_map f (if b then Some row.1 else look_up rows name)
        ≡ (if b then Some (f row.1) else found_in (map (λ (r : Bor Name × A). (r.0.now, f r.1)) rows) name)
    step true rest = refl
    step false rest = rest

-- Names over a table that grows: bodies keep their numbers.

named_stays : (old new : List Term) (n : Named) → Extends old new → is_body_below (length old) n ≡ true
    → named_in new n ≡ named_in old n
named_stays old new (code.Constant serial sort) e h = refl
named_stays old new (code.Definition d) e h =
    ap (meaning.a_definition (map sort_in d.sorts)) (at_kept old new d.body e (ltb-true d.body (length old) h))
named_stays old new code.Marked e h = refl

body_stays : (old new : List Term) (n : Named) → Extends old new → is_body_below (length old) n ≡ true
    → is_body_below (length new) n ≡ true
body_stays old new (code.Constant serial sort) e h = refl
body_stays old new (code.Definition d) e h =
    lt-ltb d.body (length new) (number_kept old new d.body e (ltb-true d.body (length old) h))
body_stays old new code.Marked e h = refl

abbrev all_bodies : List Term → List (Name × Named) → Bool
all_bodies ts ns = list_all (λ (n : Name × Named). is_body_below (length ts) n.1) ns

namings_stay : (old new : List Term) (ns : List (Name × Named)) → Extends old new → all_bodies old ns ≡ true
    → map (naming_in new) ns ≡ map (naming_in old) ns
namings_stay old new [] e h = refl
namings_stay old new (n ∷ ns) e h =
    let parts = and_parts (is_body_below (length old) n.1) (all_bodies old ns) h in
    ap₂ (λ (k : meaning.Named) (ks : List meaning.Naming). (n.0, k) ∷ ks) (named_stays old new n.1 e parts.0)
    (namings_stay old new ns e parts.1)

pub names_stay : (old new : List Term) (kept : ScopeNames) → Extends old new → AreBodies old kept
    → names_in new kept ≡ names_in old kept
names_stay old new kept e h = namings_stay old new kept.names e h

all_stay : (old new : List Term) (ns : List (Name × Named)) → Extends old new → all_bodies old ns ≡ true
    → all_bodies new ns ≡ true
all_stay old new [] e h = refl
all_stay old new (n ∷ ns) e h =
    let parts = and_parts (is_body_below (length old) n.1) (all_bodies old ns) h in
    and_from (is_body_below (length new) n.1) (all_bodies new ns) (body_stays old new n.1 e parts.0)
    (all_stay old new ns e parts.1)

pub bodies_stay : (old new : List Term) (kept : ScopeNames) → Extends old new → AreBodies old kept → AreBodies new kept
bodies_stay old new kept e h = all_stay old new kept.names e h

-- one more name, and the first ones, so many
pub bodies_more : (ts : List Term) (kept : ScopeNames) (n : Name × Named) → AreBodies ts kept
    → is_body_below (length ts) n.1 ≡ true → AreBodies ts (record kept { names = kept.names ++ n ∷ [] })
bodies_more ts kept n h below =
    list_all-append (λ (k : Name × Named). is_body_below (length ts) k.1) kept.names (n ∷ [])
    ∙ and_from (all_bodies ts kept.names) (all_bodies ts (n ∷ [])) h
    (and_from (is_body_below (length ts) n.1) true below refl)

pub bodies_taken : (ts : List Term) (kept : ScopeNames) (count : ℕ) → AreBodies ts kept
    → AreBodies ts (record kept { names = take count kept.names })
bodies_taken ts kept count h =
    (and_parts (all_bodies ts (take count kept.names)) (all_bodies ts (drop count kept.names))
    (sym (list_all-append (λ (k : Name × Named). is_body_below (length ts) k.1) (take count kept.names)
    (drop count kept.names)) ∙ ap (all_bodies ts) (take-append-drop count kept.names) ∙ h)).0

-- What is asked of names alone is the same over each table.
