-- What is kept behind a line backs the evidence, and so does what is kept where levels are left.
use Rattle.sb_refute.proofs.Words.{◌≡◌, ℕ, inl, inr, List, [], ◌∷◌, ◌++◌, length, map, Option, Some, None, sym, ap, subst, ◌∙◌, same_Some, none-some, Lit, Kept, KeptClause, kept_at, kept_up_to, Regex, Memo, KeepsEntries, AllKept, with_clause, dropped_above, all_dropped, HaveRegexesBelow, atoms_kept, tracks_beside, tracks_grow, Asserted, EmptyClause, Backing, Backs, asserted_at, unit_at, AreUpTo, left_above, left_all, placed}
use Rattle.sb_regex.specs.Numbered as regex
use Rattle.sb_refute.proofs.Clauses.{front, none-at, kept-stays, stays, kept-last}
use Rattle.sb_refute.proofs.Places.{placed-cases}

-- the clauses of these assertions are kept
abbrev pub AreKeptUnits : Kept → List (Option Asserted) → Type 0
AreKeptUnits kept asserted = (place : ℕ) (a : Asserted) → asserted_at asserted place ≡ Some a
    → kept_at kept a.clause.0 ≡ Some (unit_at a)

-- they stay so with one clause more,
pub units-stay : (kept : Kept) (c : KeptClause) (asserted : List (Option Asserted)) → AreKeptUnits kept asserted
    → AreKeptUnits (kept ++ Some c ∷ []) asserted
units-stay kept c asserted h = λ place a there.
    kept-stays kept (Some c ∷ []) a.clause.0 (unit_at a) (h place a there)

-- and where that is the clause of one more assertion
pub units-placed : (kept : Kept) (asserted : List (Option Asserted)) (place : ℕ) (a : Asserted)
    → a.clause.0 ≡ length kept
    → AreKeptUnits kept asserted → AreKeptUnits (kept ++ Some (unit_at a) ∷ []) (placed asserted place (Some a))
units-placed kept asserted place a number h =
    λ q other there. elim (placed-cases asserted place q (Some a) other there) [
      | inl same ↦ subst (λ (o : Asserted). kept_at (kept ++ Some (unit_at a) ∷ []) o.clause.0 ≡ Some (unit_at o))
          (same_Some a other same)
          (ap (kept_at (kept ++ Some (unit_at a) ∷ [])) number ∙ kept-last kept (Some (unit_at a)))
      | inr before ↦ units-stay kept (unit_at a) asserted h q other before
    ]

-- with one more clause
pub backs-clause : (rs : List Regex) (memo : Memo) (e : Backing) (kept : AllKept) (literals : List Lit) (level : ℕ)
    (rests : List ℕ) (asserted : List (Option Asserted))
    → AreKeptUnits (e.kept ++ Some (record { literals = literals; level = level }) ∷ []) asserted
    → Backs rs memo e kept
    → Backs rs memo (record e {
      kept = e.kept ++ Some (record { literals = literals; level = level }) ∷ [];
      asserted = asserted;
    }) (with_clause kept literals level rests)
backs-clause rs memo e kept literals level rests asserted units b = record {
  tracks = tracks_beside rs memo e.trace kept kept.atoms
      (kept.clauses ++ Some (record { literals = literals; level = level }) ∷ [])
      (kept.rests ++ rests ∷ []) b.tracks;
  atoms = b.atoms;
  clauses = ap (λ (k : Kept). k ++ Some (record { literals = literals; level = level }) ∷ []) b.clauses;
  asserted = units;
}

-- where an assertion has no clause
pub backs-without : (rs : List Regex) (memo : Memo) (e : Backing) (kept : AllKept) (place : ℕ) → Backs rs memo e kept
    → Backs rs memo (record e { asserted = placed e.asserted place None }) kept
backs-without rs memo e kept place b = record {
  tracks = b.tracks;
  atoms = b.atoms;
  clauses = b.clauses;
  asserted = λ q other h. elim (placed-cases e.asserted place q None other h) [
    | inl none ↦ absurd (none-some other none)
    | inr before ↦ b.asserted q other before
  ];
}

-- where the arena grows, and more derivatives are known
pub backs-grown : (rs more : List Regex) (memo new : Memo) (e : Backing) (kept : AllKept) → regex.Extends rs more
    → KeepsEntries memo new → HaveRegexesBelow (length rs) e.atoms → Backs rs memo e kept → Backs more new e kept
backs-grown rs more memo new e kept grows keeps below b = record {
  tracks = tracks_grow rs more memo new e.trace kept grows keeps b.tracks;
  atoms = b.atoms ∙ sym (atoms_kept rs more e.atoms grows below);
  clauses = b.clauses;
  asserted = b.asserted;
}

-- the empty clause and the number of gates are the evidence's own
pub backs-beside : (rs : List Regex) (memo : Memo) (e : Backing) (kept : AllKept) (refuted : Option EmptyClause)
    (gates : ℕ) → Backs rs memo e kept → Backs rs memo (record e { refuted = refuted; gates = gates }) kept
backs-beside rs memo e kept refuted gates b =
    record { tracks = b.tracks; atoms = b.atoms; clauses = b.clauses; asserted = b.asserted }

-- Where levels are left.

pub backs-left_above : (rs : List Regex) (memo : Memo) (e : Backing) (kept : AllKept) (level count : ℕ)
    → AreUpTo level count e.asserted → Backs rs memo e kept
    → Backs rs memo (left_above level count e) (dropped_above level kept)
backs-left_above rs memo e kept level count up_to b = record {
  tracks = tracks_beside rs memo e.trace kept kept.atoms (kept_up_to level kept.clauses) kept.rests b.tracks;
  atoms = b.atoms;
  clauses = ap (kept_up_to level) b.clauses;
  asserted = λ place a h.
      let there = front e.asserted count place a h in
      stays level e.kept a.clause.0 (unit_at a) (b.asserted place a there.1)
      (up_to place a there.0 there.1);
}

pub backs-left_all : (rs : List Regex) (memo : Memo) (e : Backing) (kept : AllKept) → Backs rs memo e kept
    → Backs rs memo (left_all e) (all_dropped kept)
backs-left_all rs memo e kept b = record {
  tracks = tracks_beside rs memo e.trace kept kept.atoms (map (λ clause. None) kept.clauses) kept.rests b.tracks;
  atoms = b.atoms;
  clauses = ap (map (λ clause. None)) b.clauses;
  asserted = λ place a h. absurd (none-some a (sym (none-at place) ∙ h));
}
