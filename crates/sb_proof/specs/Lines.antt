-- The lines of the code, as the rules of proofs have them.
use Rattle.std.specs.Prelude.{ℤ, map, None}
use Rattle.sb_meaning.specs.Values as values
use Rattle.sb_script.specs.Pieces as pieces
use Rattle.sb_script.specs.Sums as sums
use Rattle.sb_rulebook.specs.Atoms.{AtomOver, bool_atom, in_atom, le_atom, sum_atom, and_atom, iff_atom}
use Rattle.sb_rulebook.specs.Lines as lines
use Rattle.sb_proof.specs.declared.line.Node.{Node}
use Rattle.sb_proof.specs.declared.line.Node.TheVariants as node
use Rattle.sb_proof.specs.declared.atom.Piece.{Piece}
use Rattle.sb_proof.specs.declared.atom.Piece.TheVariants as piece
use Rattle.sb_proof.specs.declared.atom.Variable.{Variable}
use Rattle.sb_proof.specs.declared.atom.Variable.TheVariants as variable
use Rattle.sb_proof.specs.declared.atom.Atom.{Atom}
use Rattle.sb_proof.specs.declared.atom.Atom.TheVariants as atom
use Rattle.sb_proof.specs.declared.line.Class.{Class}
use Rattle.sb_proof.specs.declared.line.Rule.{Rule}
use Rattle.sb_proof.specs.declared.line.Rule.TheVariants as rule
use Rattle.sb_proof.specs.declared.line.Value.{Value}
use Rattle.sb_proof.specs.declared.line.Value.TheVariants as value
use Rattle.sb_proof.specs.declared.line.Said.{Said}
use Rattle.sb_proof.specs.declared.line.Said.TheVariants as said
use Rattle.sb_proof.specs.declared.line.Line.{Line}
use Rattle.sb_proof.specs.declared.line.Line.TheVariants as code

abbrev pub node_in : Node → lines.Node
node_in node.None = lines.none_node
node_in node.Eps = lines.eps_node
node_in (node.Set ranges) = lines.set_node ranges.items
node_in (node.Cat first second) = lines.cat_node first second
node_in (node.Alt parts) = lines.alt_node parts.items
node_in (node.And parts) = lines.and_node parts.items
node_in (node.Not part) = lines.not_node part
node_in (node.Star part) = lines.star_node part
node_in (node.Rep part least most) = lines.rep_node part least most
node_in (node.Path first second) = lines.path_node first second

abbrev pub piece_in : Piece → pieces.Piece
piece_in (piece.Constant serial) = pieces.constant_piece serial
piece_in (piece.Word characters) = pieces.word_piece characters.items

abbrev pub variable_in : Variable → sums.Variable
variable_in (variable.Int serial) = sums.int_constant serial
variable_in (variable.Length serial) = sums.length_of serial

abbrev pub summand_in : ℤ × Variable → sums.Summand
summand_in s = (s.0, variable_in s.1)

-- over what stands for a regex
abbrev pub atom_in : {R : Type 0} → Atom R → AtomOver R
atom_in (atom.Bool serial) = bool_atom serial
atom_in (atom.In parts regex) = in_atom (map piece_in parts.items) regex
atom_in (atom.Le of bound) = le_atom (variable_in of) bound
atom_in (atom.Sum bound summands) = sum_atom bound (map summand_in summands.items)
atom_in (atom.And literals) = and_atom literals.items
atom_in (atom.Iff first second) = iff_atom first second

abbrev pub class_in : Class → lines.Class
class_in k = (k.ranges.items, k.target)

abbrev pub rule_in : Rule → lines.Rule
rule_in rule.Gate = lines.gate
rule_in rule.Order = lines.order
rule_in rule.Linear = lines.linear
rule_in rule.Step = lines.step
rule_in rule.Empty = lines.empty

abbrev pub value_in : Value → values.Value
value_in (value.Text characters) = values.Text characters.items
value_in (value.Int n) = values.Int n
value_in (value.Truth b) = values.Truth b

abbrev pub said_in : Said → lines.Said
said_in (said.Sat given) = lines.said_sat (map value_in given.items)
said_in (said.Unsat clause) = lines.said_unsat clause None
said_in (said.Unknown limit) = lines.said_unknown limit
said_in said.Unsupported = lines.said_unsupported

abbrev pub line_in : Line → lines.Line
line_in (code.Header format) = lines.header_line format
line_in (code.Regex n) = lines.regex_line (node_in n)
line_in (code.Atom a) = lines.atom_line (atom_in a)
line_in (code.Expansion regex classes) = lines.expansion_line regex (map class_in classes.items)
line_in (code.Dead regexes) = lines.dead_line regexes.items
line_in (code.Assertion place literal) = lines.assertion_line place literal
line_in (code.Rule by literals) = lines.rule_line (rule_in by) literals.items
line_in (code.Learned literals hints) = lines.learned_line literals.items hints.items
line_in (code.Verdict s) = lines.verdict_line (said_in s)
line_in code.End = lines.end_line
