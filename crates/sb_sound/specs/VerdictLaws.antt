-- What the verdicts that follow say.
use Rattle.std.specs.Prelude.{◌≡◌, ◌↔◌, ℕ, true, false, List, Option, Some, None}
use Rattle.std.specs.List.{list_all}
use Rattle.sb_lit.specs.Kept.{KeptClause, kept_at}
use Rattle.sb_meaning.specs.Values.{Value, Valuation}
use Rattle.sb_script.specs.State.{fits}
use Rattle.sb_rulebook.specs.Atoms.{clause_holds}
use Rattle.sb_rulebook.specs.Lines.{said_sat, said_unsat, said_unknown, said_unsupported}
use Rattle.sb_rulebook.specs.Kept.{AllKept, most_counted, rests_of}
use Rattle.sb_rulebook.specs.Verdicts.{Question, denied_by, valued, assumption_holds, assertion_holds, refusal_of}

-- the clause that an `unsat` names is kept, and where it is true, not all assumptions hold; where places are listed,
-- they are those on which it rests
pub record IsRefuted (q : Question) (kept : AllKept) (id : ℕ) (places : Option (List ℕ)) : Type 0 where
  pub inside : q.inside ≡ true
  pub clause : KeptClause
  pub there : kept_at kept.clauses id ≡ Some clause
  pub refutes : (v : Valuation) → clause_holds v kept.atoms clause.literals ≡ true
      → list_all (assumption_holds v) q.assumptions ≡ false
  pub listed : (listed : List ℕ) → places ≡ Some listed → listed ≡ rests_of kept id

abbrev pub UnsatIsRefuted : Type 0
UnsatIsRefuted = (q : Question) (kept : AllKept) (id : ℕ) (places : Option (List ℕ))
    → refusal_of q kept (said_unsat id places) ≡ None → IsRefuted q kept id places

-- where the clause is true, not all of these hold: they alone are contradicted
abbrev pub NamedAreRefuted : Type 0
NamedAreRefuted = (q : Question) (kept : AllKept) (id : ℕ) (places : Option (List ℕ)) (clause : KeptClause)
    → refusal_of q kept (said_unsat id places) ≡ None → kept_at kept.clauses id ≡ Some clause
    → (v : Valuation) → clause_holds v kept.atoms clause.literals ≡ true
    → list_all (assumption_holds v) (denied_by q kept clause) ≡ false

-- the values fit the constants, and make all that is asked true
pub record IsModel (q : Question) (values : List Value) : Type 0 where
  pub inside : q.inside ≡ true
  pub valuation : Valuation
  pub valued_so : valued q.constants values ≡ Some valuation
  pub fit : fits q.constants valuation ≡ true
  pub assertions : list_all (λ a. assertion_holds valuation a.0) q.asked.live ≡ true
  pub assumptions : list_all (assumption_holds valuation) q.assumptions ≡ true

abbrev pub SatIsModel : Type 0
SatIsModel = (q : Question) (kept : AllKept) (values : List Value) → refusal_of q kept (said_sat values) ≡ None
    → IsModel q values

pub record IsCounted (q : Question) (kept : AllKept) (n : ℕ) : Type 0 where
  pub inside : q.inside ≡ true
  pub limit : n ≡ most_counted q.asked
  pub counted : kept.counted ≡ n

abbrev pub UnknownIsCounted : Type 0
UnknownIsCounted = (q : Question) (kept : AllKept) (n : ℕ) → refusal_of q kept (said_unknown n) ≡ None
    → IsCounted q kept n

abbrev pub UnsupportedIsOutside : Type 0
UnsupportedIsOutside = (q : Question) (kept : AllKept)
    → (refusal_of q kept said_unsupported ≡ None) ↔ (q.inside ≡ false)
