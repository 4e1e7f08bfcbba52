-- Private: the words of the format by kind, and what follows each.
use Rattle.std.specs.Prelude.{ℕ, if◌then◌else◌, List, [], ◌∷◌, Option, Some, None, Err}
use Rattle.sb_rulebook.specs.Atoms.{AtomOver, bool_atom, and_atom, le_atom, iff_atom}
use Rattle.sb_rulebook.specs.Lines as lines
use Rattle.sb_rulebook.specs.Lines.{Field}
use Rattle.sb_rulebook.specs.Reading as reading
use Rattle.sb_rulebook.specs.Reading.{Reader, Table, is_text, by_table, by_word, bare, one, two, three, any_number, some}
use Rattle.sb_rulebook.specs.Refusals.{bad_word}
use Rattle.sb_proof.specs.declared.kinds.NodeKind.{NodeKind}
use Rattle.sb_proof.specs.declared.kinds.NodeKind.TheVariants as node
use Rattle.sb_proof.specs.declared.kinds.AtomKind.{AtomKind}
use Rattle.sb_proof.specs.declared.kinds.AtomKind.TheVariants as atom
use Rattle.sb_proof.specs.declared.kinds.ClauseKind.{ClauseKind}
use Rattle.sb_proof.specs.declared.kinds.ClauseKind.TheVariants as clause
use Rattle.sb_proof.specs.declared.kinds.VerdictKind.{VerdictKind}
use Rattle.sb_proof.specs.declared.kinds.VerdictKind.TheVariants as verdict
use Rattle.sb_proof.specs.declared.kinds.LineKind.{LineKind}
use Rattle.sb_proof.specs.declared.kinds.LineKind.TheVariants as line
use denote.Ref.{Bor}

abbrev pub look_up : {A : Type 0} → List (Bor Field × A) → Field → Option A
look_up [] word = None
look_up (row ∷ rows) word = if is_text word row.0.now then Some row.1 else look_up rows word

abbrev pub by_kind : {A B : Type 0} → (A → Reader B) → Option A → Reader B
by_kind reader None fs = Err bad_word
by_kind reader (Some kind) fs = reader kind fs

-- what follows the first field, by a table of words
abbrev pub behind_word : {A : Type 0} → Table A → Reader A
behind_word table [] = Err bad_word
behind_word table (word ∷ fs) = by_table table word fs

abbrev pub node_reader : NodeKind → Reader lines.Node
node_reader node.None = bare lines.none_node
node_reader node.Eps = bare lines.eps_node
node_reader node.Set = one reading.ranges lines.set_node
node_reader node.Cat = two reading.number reading.number lines.cat_node
node_reader node.Alt = some reading.number reading.number (λ id ids. lines.alt_node (id ∷ ids))
node_reader node.And = some reading.number reading.number (λ id ids. lines.and_node (id ∷ ids))
node_reader node.Not = one reading.number lines.not_node
node_reader node.Star = one reading.number lines.star_node
node_reader node.Rep = three reading.number lines.rep_node
node_reader node.Path = two reading.number reading.number lines.path_node

abbrev pub atom_reader : AtomKind → Reader (AtomOver ℕ)
atom_reader atom.Bool = one reading.number bool_atom
atom_reader atom.In = reading.membership
atom_reader atom.Le = two reading.variable reading.integer le_atom
atom_reader atom.Sum = reading.sum
atom_reader atom.And = any_number reading.literal and_atom
atom_reader atom.Iff = two reading.literal reading.literal iff_atom

abbrev pub clause_reader : ClauseKind → Reader lines.Line
clause_reader clause.Assertion = two reading.number reading.literal lines.assertion_line
clause_reader clause.Gate = any_number reading.literal (lines.rule_line lines.gate)
clause_reader clause.Order = any_number reading.literal (lines.rule_line lines.order)
clause_reader clause.Linear = any_number reading.literal (lines.rule_line lines.linear)
clause_reader clause.Step = any_number reading.literal (lines.rule_line lines.step)
clause_reader clause.Empty = any_number reading.literal (lines.rule_line lines.empty)
clause_reader clause.Learned = reading.learned

abbrev pub verdict_reader : VerdictKind → Reader lines.Said
verdict_reader verdict.Sat = any_number reading.value lines.said_sat
verdict_reader verdict.Unsat = reading.refutation
verdict_reader verdict.Unknown = one reading.number lines.said_unknown
verdict_reader verdict.Unsupported = bare lines.said_unsupported

abbrev pub line_reader : LineKind → Reader lines.Line
line_reader line.Header = one reading.number lines.header_line
line_reader line.Regex = by_word reading.nodes lines.regex_line
line_reader line.Atom = by_word reading.atoms lines.atom_line
line_reader line.Expansion = some reading.number reading.class lines.expansion_line
line_reader line.Dead = any_number reading.number lines.dead_line
line_reader line.Clause = by_word reading.clauses (λ l. l)
line_reader line.Verdict = by_word reading.verdicts lines.verdict_line
line_reader line.End = bare lines.end_line
