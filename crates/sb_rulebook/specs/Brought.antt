-- What of proofs is brought so far, by what is to come. A line of an atom or rule that is to come, or of such a form of
-- one, is refused by rule. Which is which stands here alone.
use Rattle.std.specs.Prelude.{ℕ, Bool, true, false, nat_le, List}
use Rattle.sb_lit.specs.declared.clause.Lit.{Lit}
use Rattle.sb_rulebook.specs.Atoms.{AtomOver, le_atom, sum_atom}
use Rattle.sb_rulebook.specs.Lines.{Line, atom_line, rule_line, Rule, order, linear}

-- formats are numbered from 1
abbrev pub newest_format : ℕ
newest_format = 1

-- a format that says on which assertions an `unsat` rests
abbrev pub has_rests : ℕ → Bool
has_rests format = nat_le 3 format

abbrev pub is_brought_atom : {R : Type 0} → AtomOver R → Bool
is_brought_atom (le_atom x k) = false
is_brought_atom (sum_atom k ss) = false
is_brought_atom _ = true

abbrev pub is_brought_rule : Rule → List Lit → Bool
is_brought_rule order clause = false
is_brought_rule linear clause = false
is_brought_rule _ clause = true

abbrev pub is_brought : Line → Bool
is_brought (atom_line atom) = is_brought_atom atom
is_brought (rule_line rule clause) = is_brought_rule rule clause
is_brought _ = true
