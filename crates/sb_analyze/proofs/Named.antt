-- The literals of what is learned stand in clauses that hints name.
use Rattle.std.proofs.Common.{◌≡◌, ℕ, Bool, true, false, List, [], ◌∷◌, ◌++◌, Option, Some, None, refl, sym, ◌∙◌, ap, subst, inl, inr}
use Rattle.std.specs.List.{list_all}
use Rattle.std.proofs.lemmas.Bool.{false≢true, or_left, or_right, cases_eq}
use Rattle.std.proofs.lemmas.List.Folds.{list_all-append}
use Rattle.sb_lit.specs.declared.clause.Lit.{Lit}
use Rattle.sb_lit.specs.Clauses.{negation, is_same_literal, is_among, is_false_under}
use Rattle.sb_lit.specs.Kept.{Kept, KeptClause, kept_at}
use Rattle.sb_trail.specs.declared.assigned.Assigned.{Assigned}
use Rattle.sb_trail.specs.Assignments.{held, AreDistinct}
use Rattle.sb_analyze.specs.Learning.{literals_at, is_named}
use Rattle.sb_analyze.specs.Explaining.{Explanation, is_met, also_met, with_literal, with_literals}
use Rattle.sb_analyze.specs.Explained.{Stands, AreNamed}
use Rattle.sb_lit.proofs.CallerLemmas.{is_same_literal-of, negation_moved, all_among, all_from_among}
use Rattle.sb_analyze.proofs.Entries.{entry_of_true, stands_once}
use Rattle.sb_analyze.proofs.Marks.{by_cases, met_other}

pub literals_of : (kept : Kept) (id : ℕ) (clause : KeptClause) → kept_at kept id ≡ Some clause
    → literals_at kept id ≡ clause.literals
literals_of kept id clause there =
    ap (λ (o : Option KeptClause). elim o as (λ _. List Lit) [ None ↦ [] | Some c ↦ c.literals ]) there

-- what was met and what is in the clause of an explanation, by these hints
abbrev pub Named : Kept → List Assigned → List ℕ → Explanation → Type 0
Named kept entries ids s = AreNamed kept entries ids s.marks s.clause

-- nothing was met
pub named_none : (kept : Kept) (entries : List Assigned) (ids : List ℕ) → AreNamed kept entries ids (λ atom. false) []
named_none kept entries ids = record { met = λ e there met. absurd (false≢true met); clause_named = refl }

pub all_named : (kept : Kept) (ids : List ℕ) (ls : List Lit) (l : Lit) → list_all (is_named kept ids) ls ≡ true
    → is_named kept ids l ≡ true → list_all (is_named kept ids) (ls ++ l ∷ []) ≡ true
all_named kept ids ls l all one = list_all-append (is_named kept ids) ls (l ∷ []) ∙ rw (all, one) refl

-- one more literal in the clause
pub named_push : (kept : Kept) (entries : List Assigned) (ids : List ℕ) (marks : ℕ → Bool) (ls : List Lit) (l : Lit)
    → AreNamed kept entries ids marks ls → is_named kept ids l ≡ true
    → AreNamed kept entries ids marks (ls ++ l ∷ [])
named_push kept entries ids marks ls l h one =
    record { met = h.met; clause_named = all_named kept ids ls l h.clause_named one }

-- one more hint
pub named_more : (kept : Kept) (entries : List Assigned) (ids : List ℕ) (id : ℕ) (marks : ℕ → Bool) (ls : List Lit)
    → AreNamed kept entries ids marks ls → AreNamed kept entries (id ∷ ids) marks ls
named_more kept entries ids id marks ls h = record {
  met = λ e there met. or_right (is_among (literals_at kept id) (negation e.literal))
      (is_named kept ids (negation e.literal)) (h.met e there met);
  clause_named = all_from_among (is_named kept (id ∷ ids)) ls (λ m among.
      or_right (is_among (literals_at kept id) m) (is_named kept ids m)
      (all_among (is_named kept ids) ls m h.clause_named among));
}

module _ (kept : Kept) (entries : List Assigned) (distinct : AreDistinct entries) (ids : List ℕ) where
  -- what is met is the literal
  met_one : (marks : ℕ → Bool) (ls : List Lit) (l : Lit) → AreNamed kept entries ids marks ls
      → is_named kept ids l ≡ true → is_false_under (held entries) l ≡ true → (e : Assigned) → Stands entries e
      → is_met (also_met marks l.atom) e.literal.atom ≡ true → is_named kept ids (negation e.literal) ≡ true
  met_one marks ls l h one is_false e there met =
      elim (cases_eq e.literal.atom l.atom) [
        | inl same ↦
            let found = entry_of_true entries (negation l) distinct is_false in
            let atom : e.literal.atom ≡ found.entry.literal.atom = same ∙ sym (ap (λ (m : Lit). m.atom) found.literal)
            in
            let is_e : e ≡ found.entry = stands_once entries found.entry e found.stands there atom in
            let is_l : negation e.literal ≡ l = ap (λ (x : Assigned). negation x.literal) is_e
            ∙ negation_moved found.entry.literal l found.literal in
            ap (is_named kept ids) is_l ∙ one
        | inr other ↦ h.met e there (sym (met_other marks l.atom e.literal.atom other) ∙ met)
      ]

  named_one : (s : Explanation) (l : Lit) → Named kept entries ids s → is_named kept ids l ≡ true
      → Named kept entries ids (with_literal entries s l)
  named_one s l h one =
      by_cases (Named kept entries ids) entries s l (λ _. h)
      (λ unmet is_false below. record {
        met = met_one s.marks s.clause l h one is_false;
        clause_named = all_named kept ids s.clause l h.clause_named one;
      })
      (λ unmet is_false above. record {
        met = met_one s.marks s.clause l h one is_false;
        clause_named = h.clause_named;
      })

  pub named_all : (ls : List Lit) (s : Explanation) → Named kept entries ids s
      → ((m : Lit) → is_among ls m ≡ true → is_named kept ids m ≡ true)
      → Named kept entries ids (with_literals entries s ls)
  named_all [] s h all = h
  named_all (l ∷ ls) s h all =
      named_all ls (with_literal entries s l)
      (named_one s l h (all l (or_left (is_same_literal l l) (is_among ls l) (is_same_literal-of l l refl))))
      (λ m among. all m (or_right (is_same_literal l m) (is_among ls m) among))

hints_all : (entries : List Assigned) (ls : List Lit) (s : Explanation) → (with_literals entries s ls).hints ≡ s.hints
hints_all entries [] s = refl
hints_all entries (l ∷ ls) s =
    hints_all entries ls (with_literal entries s l)
    ∙ by_cases (λ t. t.hints ≡ s.hints) entries s l (λ _. refl) (λ _ _ _. refl) (λ _ _ _. refl)

-- a clause that is taken for a hint
pub named_clause : (kept : Kept) (entries : List Assigned) → AreDistinct entries → (s : Explanation) (id : ℕ)
    (ls : List Lit) → literals_at kept id ≡ ls → Named kept entries s.hints s → (t : Explanation)
    → t ≡ with_literals entries (record s { hints = id ∷ s.hints }) ls → Named kept entries t.hints t
named_clause kept entries distinct s id ls is h t t_is =
    let begun : Explanation = record s { hints = id ∷ s.hints } in
    let all : (m : Lit) → is_among ls m ≡ true → is_named kept (id ∷ s.hints) m ≡ true = λ m among.
    or_left (is_among (literals_at kept id) m) (is_named kept s.hints m)
    (ap (λ (ms : List Lit). is_among ms m) is ∙ among) in
    let whole = named_all kept entries distinct (id ∷ s.hints) ls begun
    (named_more kept entries s.hints id s.marks s.clause h) all in
    subst (λ (x : Explanation). Named kept entries x.hints x) (sym t_is)
    (subst (λ (ids : List ℕ). Named kept entries ids (with_literals entries begun ls))
    (sym (hints_all entries ls begun))
    whole)
