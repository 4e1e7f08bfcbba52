-- A trail that grows by what clauses force.
use Rattle.std.proofs.Common.{◌≡◌, ℕ, zero, suc, ltb, ◌+◌, ◌<◌, ◌≤◌, Bool, true, false, List, [], ◌∷◌, ◌++◌, length, get_or, take, Option, Some, None, refl, sym, ◌∙◌, ap, subst, inl, inr, append_assoc, arith}
use Rattle.std.specs.Option.{option_map, unwrap_or}
use Rattle.std.specs.List.{list_all}
use Rattle.std.proofs.lemmas.Bool.{and_parts, or_cases, false≢true, ltb-true}
use Rattle.std.proofs.lemmas.Option.{slice_get-map, slice_get-get_or, slice_get_past, none-some}
use Rattle.std.proofs.lemmas.List.{length-map, get_or-map, get_or_read, append-nil}
use Rattle.std.proofs.lemmas.List.Folds.{list_all_more, list_all_at}
use Rattle.sb_lit.specs.declared.clause.Lit.{Lit}
use Rattle.sb_lit.specs.Clauses.{is_same_literal, is_among, leaves_only}
use Rattle.sb_lit.specs.Kept.{Kept, KeptClause, kept_at}
use Rattle.sb_trail.specs.declared.assigned.Assigned.{Assigned}
use Rattle.sb_trail.specs.Assignments.{Assignments}
use Rattle.sb_clauses.specs.declared.record.Record.{Record}
use Rattle.sb_clauses.specs.Records.{clause_of, kept_of}
use Rattle.sb_clauses.specs.Watching.{HasClause, literal_at, no_literal}
use Rattle.sb_clauses.specs.Propagation.{are_reserved, is_reserved, has_room_for, IsForced, AreForced, GrowsBy}
use Rattle.sb_lit.proofs.CallerLemmas.{is_same_literal-true}
use Rattle.sb_clauses.proofs.Literals.{leaves_only-parts}

module _ (kept : Kept) where
  AreForced-push : (before added : List Assigned) (e : Assigned) → AreForced kept before added
      → IsForced kept (before ++ added) e → AreForced kept before (added ++ e ∷ [])
  AreForced-push before [] e h forced = (rw append-nil at forced, tt)
  AreForced-push before (x ∷ xs) e h forced = (h.0, AreForced-push (before ++ x ∷ []) xs e h.1 (rw append_assoc forced))

  AreForced-append : (before added more : List Assigned) → AreForced kept before added
      → AreForced kept (before ++ added) more → AreForced kept before (added ++ more)
  AreForced-append before [] more h forced = rw append-nil at forced
  AreForced-append before (x ∷ xs) more h forced =
      (h.0, AreForced-append (before ++ x ∷ []) xs more h.1 (rw append_assoc forced))

  pub GrowsBy-none : (trail : Assignments) → GrowsBy kept trail trail
  GrowsBy-none trail = record { reserved = refl; added = []; literals = sym (append-nil trail.literals); forced = tt }

  pub GrowsBy-push : (old now : Assignments) (e : Assigned) → GrowsBy kept old now → IsForced kept now.literals e
      → GrowsBy kept old (record now { literals = now.literals ++ e ∷ [] })
  GrowsBy-push old now e h forced = record {
    reserved = h.reserved;
    added = h.added ++ e ∷ [];
    literals = ap (λ xs. xs ++ e ∷ []) h.literals ∙ append_assoc old.literals h.added (e ∷ []);
    forced = AreForced-push old.literals h.added e h.forced (rw h.literals at forced);
  }

  pub GrowsBy-then : (old now new : Assignments) → GrowsBy kept old now → GrowsBy kept now new → GrowsBy kept old new
  GrowsBy-then old now new h k = record {
    reserved = k.reserved ∙ h.reserved;
    added = h.added ++ k.added;
    literals = k.literals ∙ ap (λ xs. xs ++ k.added) h.literals ∙ append_assoc old.literals h.added k.added;
    forced =
        let P : List Assigned → Type 0 = λ xs. AreForced kept xs k.added in
        AreForced-append old.literals h.added k.added h.forced (subst P h.literals k.forced);
  }

-- what holds of each place holds of a kept clause
kept_at_all : (p : Option KeptClause → Bool) (kept : Kept) (id : ℕ) (clause : KeptClause) → list_all p kept ≡ true
    → kept_at kept id ≡ Some clause → p (Some clause) ≡ true
kept_at_all p [] id clause h there = absurd (none-some clause there)
kept_at_all p (x ∷ xs) zero clause h there = ap p (sym there) ∙ (and_parts (p x) (list_all p xs) h).0
kept_at_all p (x ∷ xs) (suc id) clause h there = kept_at_all p xs id clause (and_parts (p x) (list_all p xs) h).1 there

place_among : (reserved : ℕ) (ls : List Lit) (l : Lit) → are_reserved reserved ls ≡ true → is_among ls l ≡ true
    → l.atom < reserved
place_among reserved [] l h among = absurd (false≢true among)
place_among reserved (m ∷ ms) l h among =
    let parts = and_parts (ltb m.atom reserved) (are_reserved reserved ms) h in
    elim (or_cases (is_same_literal m l) (is_among ms l) among) [
      | inl same ↦ rw (← is_same_literal-true m l same) (ltb-true m.atom reserved parts.0)
      | inr later ↦ place_among reserved ms l parts.1 later
    ]

-- an atom of a literal that a clause leaves has a place
pub place_of_forced : (kept : Kept) (reserved id : ℕ) (clause : KeptClause) → has_room_for reserved kept ≡ true
    → kept_at kept id ≡ Some clause → (literals : List Lit) (l : Lit) → leaves_only literals clause.literals l ≡ true
    → l.atom < reserved
place_of_forced kept reserved id clause room there literals l h =
    place_among reserved clause.literals l (kept_at_all (is_reserved reserved) kept id clause room there)
    (leaves_only-parts literals clause.literals l h).0

-- what is kept at a number, by its record
pub kept_at_place : (records : List (Option Record)) (n : ℕ) (place : Option Record) → n < length records
    → place ≡ get_or records n place → kept_at (kept_of records) n ≡ option_map clause_of place
kept_at_place records n place within here =
    ap (λ o. unwrap_or o None) (slice_get-map (option_map clause_of) records n
    ∙ ap (option_map (option_map clause_of)) (slice_get-get_or records n place within))
    ∙ ap (option_map clause_of) (sym here)

-- the same for a list that is known to be the records
pub place_in : (kept : Kept) (records items : List (Option Record)) (n : ℕ) (place : Option Record) → items ≡ records
    → kept_of records ≡ kept → n < length items → place ≡ get_or items n place
    → kept_at kept n ≡ option_map clause_of place
place_in kept records items n place same is_kept within here =
    ap (λ k. kept_at k n) (sym is_kept ∙ ap kept_of (sym same)) ∙ kept_at_place items n place within here

pub kept_at_past : (records : List (Option Record)) (n : ℕ) → length records ≤ n → kept_at (kept_of records) n ≡ None
kept_at_past records n past =
    ap (λ o. unwrap_or o None)
    (slice_get_past (kept_of records) n (omega (arith, length-map records (option_map clause_of))))

-- what is kept at a place that is looked at
pub kept_place : (kept : Kept) (records items : List (Option Record)) (n : ℕ) (place : Option Record) → items ≡ records
    → kept_of records ≡ kept → n < length items → place ≡ get_or items n place
    → (n < length kept) × (get_or kept n None ≡ option_map clause_of place)
kept_place kept records items n place same is_kept within here =
    let as_kept : kept_of items ≡ kept = ap kept_of same ∙ is_kept in
    let inside : n < length kept = omega (arith, ap length as_kept, length-map items (option_map clause_of)) in (
      inside,
      ap (λ k. get_or k n None) (sym as_kept) ∙ get_or-map (option_map clause_of) items n None None within
          ∙ ap (option_map clause_of) (sym (get_or_read items n place within here None)),
    )

-- a test of the places in order
pub room_more : (reserved : ℕ) (kept : Kept) (records items : List (Option Record)) (n : ℕ) (place : Option Record)
    → items ≡ records → kept_of records ≡ kept → n < length items → place ≡ get_or items n place
    → has_room_for reserved (take n kept) ≡ true → is_reserved reserved (option_map clause_of place) ≡ true
    → has_room_for reserved (take (n + 1) kept) ≡ true
room_more reserved kept records items n place same is_kept within here h fits =
    let there = kept_place kept records items n place same is_kept within here in
    list_all_more (is_reserved reserved) kept n None there.0 ∙ rw (h, there.1) fits

pub room_missing : (reserved : ℕ) (kept : Kept) (records items : List (Option Record)) (n : ℕ) (place : Option Record)
    → items ≡ records → kept_of records ≡ kept → n < length items → place ≡ get_or items n place
    → is_reserved reserved (option_map clause_of place) ≡ false → has_room_for reserved kept ≡ false
room_missing reserved kept records items n place same is_kept within here fits =
    let there = kept_place kept records items n place same is_kept within here in
    list_all_at (is_reserved reserved) kept n None there.0 (ap (is_reserved reserved) there.1 ∙ fits)

-- the clause of a record
pub clause_at : (records : List (Option Record)) (n : ℕ) (place : Option Record) (r : Record) (clause : List Lit)
    → n < length (kept_of records) → place ≡ get_or records n place → place ≡ Some r → clause ≡ r.literals.items
    → HasClause (kept_of records) n clause
clause_at records n place r clause within here is same = record {
  found = clause_of r;
  there = place_in (kept_of records) records records n place refl refl
      (omega (arith, length-map records (option_map clause_of))) here ∙ ap (option_map clause_of) is;
  literals = sym same;
}

pub no_clause_at : (records : List (Option Record)) (n : ℕ) (place : Option Record) → n < length (kept_of records)
    → place ≡ get_or records n place → place ≡ None → kept_at (kept_of records) n ≡ None
no_clause_at records n place within here is =
    place_in (kept_of records) records records n place refl refl
    (omega (arith, length-map records (option_map clause_of))) here ∙ ap (option_map clause_of) is

pub literal_read : (clause items : List Lit) (place : ℕ) (l : Lit) → clause ≡ items → place < length clause
    → l ≡ get_or items place l → l ≡ literal_at clause place
literal_read clause items place l same within here =
    get_or_read items place l (omega (arith, ap length same)) here no_literal
    ∙ ap (λ ls. literal_at ls place) (sym same)
