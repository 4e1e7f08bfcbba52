-- Private: a clause that gives nothing where some literals are true.
use Rattle.std.specs.Prelude.{◌≡◌, false, List}
use Rattle.sb_lit.specs.declared.clause.Lit.{Lit}
use Rattle.sb_lit.specs.Clauses.{is_false_clause, leaves_only}

-- the clause is neither false nor leaves one literal
pub record IsIdle (literals clause : List Lit) : Type 0 where
  pub no_conflict : is_false_clause literals clause ≡ false
  pub forces_none : (l : Lit) → leaves_only literals clause l ≡ false
