-- What a check comes to.
use Rattle.sb_prover.proofs.Words.{AreDenied, Assumption, Atom, ClauseRefutes, Global, IsCore, IsRefuting, KeptClause, Vec, are_assumed, assumption_fits, atoms_in, denied_by, denied_in, each_once, filter, literals_in, make_true, question_of, refutes, refutes_in, ◌∷◌, ◌≡◌, ◌⊎◌, ℕ, ◌<◌, ◌^◌, ◌-◌, Bool, true, false, List, [], length, Option, Some, IfSome, inl, inr, refl, sym, ap, subst, ◌∙◌, arith, All, AllKept, AreAsked, IsReadyThen, AreOfLevels, AreTerms, AreValues, Backing, Backs, CountedAgainStaysSound, Decided, Decider, Evidences, Finds, FollowsByRule, FragmentIsOfEach, HasSpent, HaveLevels, IsAsked, IsCompleted, IsCounted, IsDecided, IsFit, IsQuestion, IsReady, IsSolution, IsSolved, IsSpent, IsTrue, IsValued, IsVerdict, Kept, LineStaysSound, NormalHasTermsWords, Proving, SaysTrue, Solution, Solved, Stacked, Store, Term, asked_in, asserted_at, empty_at, in_fragment, kept_at, level_at, list_all, live_constants, live_terms, puts_none, said_by, speaks_of, state_of, true-behind, verdict_in, verdict_of, without_words, Spending, ClauseId, EmptyClause}
use Rattle.sb_solve.specs.declared.check.Solved.TheVariants as solved
use Rattle.sb_decide.specs.declared.decide.Decided.TheVariants as decided
use Rattle.sb_prover.specs.declared.checking.Solution.TheVariants as solution
use Rattle.sb_prover.proofs.Given.{assumptions_hold, given_by}
use Rattle.sb_prover.proofs.NoWord.{never-true}

-- clauses of assertions have the levels that they had, or those of the live assertions
pub levels-known : (live : List (Option Term × ℕ)) (e f : Backing) → AreOfLevels live e.asserted f.asserted
    → HaveLevels live e → HaveLevels live f
levels-known live e f of h place a there = by (of place a there)
  where
    by : (asserted_at e.asserted place ≡ Some a) ⊎ (level_at live place ≡ Some a.level)
        → level_at live place ≡ Some a.level
    by (inl same) = h place a same
    by (inr is) = is

-- Before a search.

pub inside-of : FragmentIsOfEach → (kept : Decider) (s : Stacked) (d : Decided) → IsDecided kept s d
    → (d ≡ decided.Outside → ⊥) → in_fragment (state_of s) ≡ true
inside-of law kept s decided.Outside h other = absurd (other refl)
inside-of law kept s decided.Dead h other = (h.1 []).0
inside-of law kept s decided.Ready h other = law (state_of s) ∙ h.decided

pub asked-of : (kept : Decider) (s : Stacked) (d : Decided) → IsDecided kept s d → (d ≡ decided.Outside → ⊥)
    → IsAsked kept s d
asked-of kept s decided.Outside h other = other refl
asked-of kept s decided.Dead h other = h.0
asked-of kept s decided.Ready h other = h

-- the assertions that a search is asked about are live
pub asked-below : (others : List ℕ) (s : Stacked) (d : Decided) (places : List ℕ) → AreAsked others s d places
    → All (λ place. place < length s.assertions) places
asked-below others s decided.Outside places h = absurd h
asked-below others s decided.Dead places h = h.below
asked-below others s decided.Ready places h = h.below

-- where each constant has a word they are a question
pub question-asked : (kept : Decider) (s : Stacked) (d : Decided) (places : List ℕ) → (d ≡ decided.Dead → ⊥)
    → IsAsked kept s d → (IsReady kept s → IsQuestion kept.others.items s places)
    → AreAsked kept.others.items s d places
question-asked kept s decided.Outside places other asked h = asked
question-asked kept s decided.Dead places other asked h = absurd (other refl)
question-asked kept s decided.Ready places other asked h = h asked

-- the evidence knows the empty clause,
empty-known : (e : Backing) (p : Proving) (o : Option EmptyClause) (c : EmptyClause) → e ≡ p.evidence → o ≡ Some c
    → IfSome o (λ empty. kept_at e.kept empty.clause.0 ≡ Some (empty_at empty))
    → kept_at p.evidence.kept c.clause.0 ≡ Some (empty_at c)
empty-known e p o c same is known =
    ap (λ (b : Backing). kept_at b.kept c.clause.0) (sym same)
    ∙ subst (λ (x : Option EmptyClause). IfSome x (λ empty. kept_at e.kept empty.clause.0 ≡ Some (empty_at empty))) is
    known

none-passes : (xs : List Assumption) → filter (λ a. false) xs ≡ []
none-passes [] = refl
none-passes (x ∷ xs) = none-passes xs

-- which refutes the check, and denies none of its assumptions
pub empty-says : (s : Stacked) → in_fragment (state_of s) ≡ true → (e : Backing) (p : Proving)
    (o : Option EmptyClause) (c : EmptyClause) (core : Vec Assumption Global) → core.items ≡ [] → e ≡ p.evidence
    → o ≡ Some c → IfSome o (λ empty. kept_at e.kept empty.clause.0 ≡ Some (empty_at empty))
    → SaysTrue s p.evidence (solution.Unsat c.clause core)
empty-says s inside e p o c core none same is known = (
  inside,
  record { clause = empty_at c; there = there; refutes = λ rs. refl },
  λ rs.
      none
      ∙ sym (ap (λ (x : Option KeptClause).
      denied_in (atoms_in rs p.evidence.atoms) (literals_in x) s.assumptions) there
      ∙ none-passes (each_once s.assumptions)),
)
  where
    there : kept_at p.evidence.kept c.clause.0 ≡ Some (empty_at c)
    there = empty-known e p o c same is known

-- a budget of as many steps as a check may have, of which none is spent
pub counts-none : (s : Stacked) (before : AllKept) (budget : Spending)
    → budget ≡ record { spent = 0; limit = 2 ^ 64 - 1 } → before.counted ≡ 0
    → IsCounted (asked_in (state_of s)) before budget
counts-none s before budget is counted = record {
  spent = counted ∙ ap (λ (b : Spending). b.spent) (sym is);
  limit = ap (λ (b : Spending). b.limit) (sym is);
}

-- What a search found.

-- where nothing is asked about
pub none-valued : (s : Stacked) (places : List ℕ) (x : Store) (e : Backing) (words : List (Option (List ℕ)))
    (truths : List Bool) → words ≡ [] → truths ≡ [] → length places ≡ 0 → length s.assumptions ≡ 0
    → IsValued s places x.arena x.graph.memo e words truths
none-valued s places x e words truths w t none alone =
    subst (λ (ws : List (Option (List ℕ))). IsValued s places x.arena x.graph.memo e ws truths) (sym w)
    (subst (IsValued s places x.arena x.graph.memo e []) (sym t) (record {
      characters = refl;
      given = λ before backs terms. (
        λ full others words same place t listed there. absurd (omega (arith, none, listed.1)),
        none-made s.assumptions alone,
      );
    }))
  where
    none-made : (given : List Assumption) → length given ≡ 0 → make_true [] given ≡ true
    none-made [] h = refl
    none-made (a ∷ given) h = absurd (omega (arith, h))

module _ (law : NormalHasTermsWords) (kept : Decider) (s : Stacked) (d : Decided) (places : List ℕ) (x : Store)
    (e : Backing) (terms : AreTerms (asked_in (state_of s))) (t : IsTrue (asked_in (state_of s)) x.arena x.graph.memo e)
    (named : list_all (speaks_of (live_constants s)) (live_terms (state_of s)) ≡ true)
    (asked : AreAsked kept.others.items s d places) (ready : d ≡ decided.Ready → IsReady kept s) where
  -- values are found only where the check is ready
  pub values-found : (words : List (Option (List ℕ))) (truths : List Bool)
      → IsValued s places x.arena x.graph.memo e words truths → AreValues kept s x e words truths
  values-found words truths h = by d asked ready
    where
      by : (d : Decided) → AreAsked kept.others.items s d places → (d ≡ decided.Ready → IsReady kept s)
          → AreValues kept s x e words truths
      by decided.Outside asked ready = absurd asked
      by decided.Dead asked ready =
          absurd (never-true law s places words truths asked named h.characters (h.given t.kept t.backs terms).0)
      by decided.Ready asked ready =
          record { ready = ready refl; places = places; question = asked; valued = h }

  pub found-by : (f : Backing) (budget : Spending) (r : Solved) → IsSolved s places x.arena x.graph.memo e f budget r
      → Finds kept s x e f budget r
  found-by f budget (solved.Sat words truths) h = values-found words.items truths.items h
  found-by f budget (solved.Unsat id) h = h
  found-by f budget solved.Spent h = h

pub ready-then : (kept : Decider) (s : Stacked) (x : Store) (e f : Backing) (budget : Spending) (r : Solved)
    → Finds kept s x e f budget r → IsReadyThen kept s r
ready-then kept s x e f budget (solved.Sat words truths) h = h.ready
ready-then kept s x e f budget (solved.Unsat id) h = tt
ready-then kept s x e f budget solved.Spent h = tt

-- What a check comes to by it.

-- where the search has spent its steps, they are those of a check
pub spent-all : (kept : Decider) (s : Stacked) (x : Store) (e f : Backing) (budget : Spending) (r : Solved)
    (z : Solution) → budget.limit ≡ 2 ^ 64 - 1 → Finds kept s x e f budget r → IsCompleted kept s f r z
    → HasSpent budget (verdict_of z)
spent-all kept s x e f budget (solved.Sat words truths) (solution.Sat full others) limit found is = tt
spent-all kept s x e f budget (solved.Unsat id) (solution.Unsat other core) limit found is = tt
spent-all kept s x e f budget solved.Spent solution.Spent limit found is = found ∙ limit
spent-all kept s x e f budget _ _ limit found is = absurd is

-- no line is put
pub solved-again : (s : Stacked) (before : AllKept) (x : Store) (e : Backing) (r : Solution) (told : Option (List ℕ))
    → Backs x.arena x.graph.memo e before → IsSpent before r → IsSolution s before x e r told told
solved-again s before x e r told backs spent =
    record { after = before; puts = puts_none (asked_in (state_of s)) before told; backs = backs; spent = spent }

-- lines were put for it
pub solved-now : (kept : Decider) (s : Stacked) (before : AllKept) (x y : Store) (e f : Backing) (budget : Spending)
    (r : Solved) (z : Solution) (old new : Option (List ℕ))
    → Evidences (asked_in (state_of s)) before y.arena y.graph.memo f budget old new → Finds kept s x e f budget r
    → IsCompleted kept s f r z → IsSolution s before y f z old new
solved-now kept s before x y e f budget r z old new h found is =
    record { after = h.after; puts = h.puts; backs = h.backs; spent = by r z found is }
  where
    by : (r : Solved) (z : Solution) → Finds kept s x e f budget r → IsCompleted kept s f r z → IsSpent h.after z
    by (solved.Sat words truths) (solution.Sat full others) found is = tt
    by (solved.Unsat id) (solution.Unsat other core) found is = tt
    by solved.Spent solution.Spent found is = h.counts.spent ∙ found ∙ sym h.counts.limit
    by _ _ found is = absurd is

-- What the evidence knows then is true: by the lines that were put, or by what the search says without them.
pub solved-true : FollowsByRule → LineStaysSound → CountedAgainStaysSound → (s : Stacked)
    → AreTerms (asked_in (state_of s)) → (proves : Bool) (x y : Store) (e f : Backing) (budget behind : Spending)
    (old new : Option (List ℕ)) (t : IsTrue (asked_in (state_of s)) x.arena x.graph.memo e)
    → IsCounted (asked_in (state_of s)) t.kept budget
    → (proves ≡ true → (before : AllKept) → Backs x.arena x.graph.memo e before
    → IsCounted (asked_in (state_of s)) before budget
    → Evidences (asked_in (state_of s)) before y.arena y.graph.memo f behind old new)
    → (proves ≡ false → IsTrue (asked_in (state_of s)) y.arena y.graph.memo f)
    → IsTrue (asked_in (state_of s)) y.arena y.graph.memo f
solved-true rule by again s terms true x y e f budget behind old new t counts puts sound =
    let h = puts refl t.kept t.backs counts in
    true-behind rule by again (asked_in (state_of s)) x.arena y.arena x.graph.memo y.graph.memo e f terms t h.after old
    new h.puts h.backs
solved-true rule by again s terms false x y e f budget behind old new t counts puts sound = sound refl

-- What was found may be answered.
pub says-true : (kept : Decider) (s : Stacked) → in_fragment (state_of s) ≡ true → AreTerms (asked_in (state_of s))
    → are_assumed (live_constants s) s.assumptions ≡ true → (x : Store) (e f : Backing) (budget : Spending) (r : Solved)
    (z : Solution) → IsTrue (asked_in (state_of s)) x.arena x.graph.memo e → Finds kept s x e f budget r
    → IsCompleted kept s f r z → SaysTrue s f z
says-true kept s inside terms live x e f budget (solved.Sat words truths) (solution.Sat full others) t h is =
    let under = h.valued.given t.kept t.backs terms in (
      inside,
      given_by kept s h.places words.items truths.items others.items full.items is.2 h.ready h.question is.0 is.1 under
          live,
      assumptions_hold kept s h.places words.items truths.items others.items full.items is.2 h.ready h.question is.0
          is.1 under live,
    )
says-true kept s inside terms live x e f budget (solved.Unsat id) (solution.Unsat other core) t h is = (
  inside,
  subst (λ (c : ClauseId). IsRefuting s.assumptions f.atoms f.kept c.0) (sym is.0) h,
  subst (λ (c : ClauseId). AreDenied s f c.0 core.items) (sym is.0) is.1,
)
says-true kept s inside terms live x e f budget solved.Spent solution.Spent t h is = inside
says-true kept s inside terms live x e f budget _ _ t h is = absurd is

-- what the verdict's line says is the same where the states differ in their mode and words alone
pub said-same : (r : Solution) (new old : Stacked) → without_words new ≡ without_words old
    → said_by new r ≡ said_by old r
said-same (solution.Sat words truths) new old same =
    ap (λ (s : Stacked). said_by s (solution.Sat words truths)) same
said-same (solution.Unsat id core) new old same = refl
said-same solution.Spent new old same = refl
said-same solution.Outside new old same = refl

-- A clause that denies assumptions alone, for the reader of the proof.

pub record IsRefutedBy (s : Stacked) (kept : AllKept) (id : ℕ) (core : List Assumption) : Type 0 where
  pub clause : KeptClause
  pub there : kept_at kept.clauses id ≡ Some clause
  pub refuting : refutes (question_of s) kept clause ≡ true
  pub named : core ≡ denied_by (question_of s) kept clause

pub refuted-by : (s : Stacked) (x : Store) (e : Backing) (kept : AllKept) (id : ℕ) (core : List Assumption)
    → Backs x.arena x.graph.memo e kept → IsRefuting s.assumptions e.atoms e.kept id → AreDenied s e id core
    → IsRefutedBy s kept id core
refuted-by s x e kept id core backs h denied = record {
  clause = h.clause;
  there = ap (λ (k : Kept). kept_at k id) backs.clauses ∙ h.there;
  refuting = subst (λ (ts : List Atom). refutes_in ts h.clause.literals s.assumptions ≡ true) (sym backs.atoms)
      (h.refutes x.arena);
  named = denied x.arena
      ∙ ap (λ (o : Option KeptClause). denied_in (atoms_in x.arena e.atoms) (literals_in o) s.assumptions) h.there
      ∙ ap (λ (ts : List Atom). denied_in ts h.clause.literals s.assumptions) (sym backs.atoms);
}

-- The verdict may be given, where what the evidence knows is true.
pub solved-verdict : ClauseRefutes → (s : Stacked) → IsFit (state_of s)
    → list_all (assumption_fits (state_of s).sorts) s.assumptions ≡ true → (x : Store) (e : Backing) (r : Solution)
    → IsTrue (asked_in (state_of s)) x.arena x.graph.memo e → SaysTrue s e r
    → IsVerdict (state_of s) s.assumptions (verdict_in (live_constants s) (verdict_of r))
solved-verdict law s fit bools x e (solution.Sat words truths) t h = (h.0, h.1)
solved-verdict law s fit bools x e (solution.Unsat id core) t h =
    let r = refuted-by s x e t.kept id.0 core.items t.backs h.1 h.2 in
    let none = law (state_of s) s.assumptions t.kept id.0 r.clause fit bools t.sound r.there r.refuting in
    (h.0, none.0, subst (IsCore (state_of s) s.assumptions) (sym r.named) none.1)
solved-verdict law s fit bools x e solution.Spent t h = h
solved-verdict law s fit bools x e solution.Outside t h = h
