-- Which regexes are expanded for clauses that deny.
use Rattle.sb_clash.proofs.Words.{◌≡◌, inl, inr, ap, List, length, map, subst, sym, true, ℕ, AreAbout, AtomOver, ExpandsDenied, ExpandsReached, Extends, HaveRegexesBelow, IsDenial, IsOfDenial, IsReached, Lit, Names, Regex, Traced, denied_by, is_expanded_in, mkand, negation, reached_grows, regex_at, regexes_kept}
use Rattle.sb_clash.proofs.AskedFacts.{all_grown, clash_grown, root_asked}
use Rattle.sb_clash.proofs.DenialFacts.{about_negations}

-- what is expanded for the intersection's number is expanded for what the clause denies
pub expands_asked : (rs more most : List Regex) (t u : Traced) (atoms : List (AtomOver ℕ)) (x root : ℕ)
    (clause : List Lit) → Extends rs more → Extends more most → HaveRegexesBelow (length rs) atoms
    → AreAbout atoms x clause → Names more root (denied_by more atoms clause)
    → ExpandsReached most (regex_at more root) t u → ExpandsReached most (denied_by most atoms clause) t u
expands_asked rs more most t u atoms x root clause e f below about names only =
    subst (λ (r : Regex). ExpandsReached most r t u)
    (root_asked rs more most atoms x root (map negation clause) e f below (about_negations atoms x clause about) names)
    only

-- A denial is one in an arena that grew, and what is of it stays so.

denial_grown : (rs more : List Regex) (atoms : List (AtomOver ℕ)) (x : ℕ) (clause : List Lit) → Extends rs more
    → HaveRegexesBelow (length rs) atoms → IsDenial rs atoms x clause → IsDenial more atoms x clause
denial_grown rs more atoms x clause e below d = record {
  about = d.about;
  clash = clash_grown rs more atoms x (map negation clause) e below (about_negations atoms x clause d.about) d.clash;
  some = d.some;
  ascend = d.ascend;
}

of_denial_grown : (rs more : List Regex) (atoms : List (AtomOver ℕ)) (n : ℕ) → Extends rs more
    → IsOfDenial rs atoms n → IsOfDenial more atoms n
of_denial_grown rs more atoms n e d = record {
  regexes = regexes_kept rs more atoms e d.regexes;
  constant = d.constant;
  clause = d.clause;
  denial = denial_grown rs more atoms d.constant d.clause e d.regexes d.denial;
  reached = subst (λ (r : Regex). IsReached more r n)
      (sym (ap mkand (all_grown rs more atoms d.constant (map negation d.clause) e d.regexes
      (about_negations atoms d.constant d.clause d.denial.about))))
      (reached_grows rs more (denied_by rs atoms d.clause) n e d.reached);
}

-- Step behind step: nothing is expanded, the regexes of one denial are, and those of several.

pub expands_none : (rs : List Regex) (atoms : List (AtomOver ℕ)) (t u : Traced) → u ≡ t → ExpandsDenied rs atoms t u
expands_none rs atoms t u same = λ n h. inl (subst (λ (t : Traced). is_expanded_in t n ≡ true) same h)

pub expands_one : (rs more : List Regex) (atoms : List (AtomOver ℕ)) (t u : Traced) (x : ℕ) (clause : List Lit)
    → Extends rs more → HaveRegexesBelow (length rs) atoms → IsDenial rs atoms x clause
    → ExpandsReached more (denied_by more atoms clause) t u → ExpandsDenied more atoms t u
expands_one rs more atoms t u x clause e below d only = λ n h. elim (only n h) [
  | inl before ↦ inl before
  | inr reached ↦ inr (record {
    regexes = regexes_kept rs more atoms e below;
    constant = x;
    clause = clause;
    denial = denial_grown rs more atoms x clause e below d;
    reached = reached;
  })
]

pub expands_both : (rs more : List Regex) (atoms : List (AtomOver ℕ)) (t u v : Traced) → Extends rs more
    → ExpandsDenied rs atoms t u → ExpandsDenied more atoms u v → ExpandsDenied more atoms t v
expands_both rs more atoms t u v e p q = λ n h. elim (q n h) [
  | inl between ↦ elim (p n between) [
    | inl before ↦ inl before
    | inr first ↦ inr (of_denial_grown rs more atoms n e first)
  ]
  | inr later ↦ inr later
]
