-- Private: what connectives make of literals.
use Rattle.std.specs.Prelude.{Bool, if◌then◌else◌, List, map, Option}
use Rattle.sb_lit.specs.declared.clause.Lit.{Lit}
use Rattle.sb_lit.specs.Clauses.{negation}
use Rattle.sb_rulebook.specs.Atoms.{Atom}
use Rattle.sb_rulebook.specs.Parts.{together}
use Rattle.sb_rulebook.specs.Translation.{negated, conjunction, disjunction, equivalence, implications, exclusive, choice, all_true, only_one}
use Rattle.sb_fragment.specs.declared.shape.Connective.{Connective}
use Rattle.sb_fragment.specs.declared.shape.Connective.TheVariants as connective
use Rattle.sb_fragment.specs.Compared.{compared}

abbrev pub with_sign : Bool → Lit → Lit
with_sign distinct l = if distinct then negation l else l

abbrev pub signed : Bool → Option Lit → Option Lit
signed distinct o = if distinct then negated o else o

-- the literals of equalities of these, or of their negations
abbrev pub equivalences : List Atom → Bool → List (Lit × Lit) → Option (List Lit)
equivalences atoms distinct ps = together (map (λ p. signed distinct (equivalence atoms p.0 p.1)) ps)

abbrev pub connected : Connective → List Atom → List Lit → Option Lit
connected connective.Not atoms ls = negated (only_one ls)
connected connective.And atoms ls = conjunction atoms ls
connected connective.Or atoms ls = disjunction atoms ls
connected connective.Implies atoms ls = implications atoms ls
connected connective.Xor atoms ls = exclusive atoms ls
connected connective.Ite atoms ls = choice atoms ls
connected (connective.Compare distinct) atoms ls =
    all_true atoms (map (λ p. signed distinct (equivalence atoms p.0 p.1)) (compared distinct ls))
