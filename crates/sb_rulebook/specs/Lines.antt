-- The lines of a proof: what each says, by numbers, and its text. A line's fields have one space between. Regexes,
-- atoms and clauses are numbered from 0, each kind by its own lines.
use Rattle.std.specs.Prelude.{ℕ, true, false, if◌then◌else◌, List, [], ◌∷◌, ◌++◌, map, codes, decimal, Option, Some, None}
use Rattle.std.specs.List.{join_with_byte, flat_map}
use Rattle.std.specs.Fmt.{digits, signed_decimal}
use Rattle.sb_lit.specs.declared.clause.Lit.{Lit}
use Rattle.sb_class.specs.Ranges.{Range}
use Rattle.sb_meaning.specs.Values.{Value, Text, Int, Truth}
use Rattle.sb_rulebook.specs.Atoms.{AtomOver, bool_atom, in_atom, le_atom, sum_atom, and_atom, iff_atom}
use Rattle.sb_script.specs.Pieces.{Piece, constant_piece, word_piece}
use Rattle.sb_script.specs.Sums.{Variable, int_constant, length_of, Summand}

-- a regex, with numbers in place of its parts
pub data Node : Type 0 where
  none_node : Node
  eps_node : Node
  set_node : List Range → Node
  cat_node : ℕ → ℕ → Node
  alt_node : List ℕ → Node
  and_node : List ℕ → Node
  not_node : ℕ → Node
  star_node : ℕ → Node
  rep_node : ℕ → ℕ → ℕ → Node
  path_node : ℕ → ℕ → Node

-- a class of characters, and the number of the regex to which they lead
abbrev pub Class : Type 0
Class = List Range × ℕ

-- the rules whose clauses are true under every valuation
pub data Rule : Type 0 where
  gate : Rule
  order : Rule
  linear : Rule
  step : Rule
  empty : Rule

-- what a verdict line says
pub data Said : Type 0 where
  -- with the values of the live constants, by serial
  said_sat : List Value → Said
  -- with the number of a clause, and in some formats with the places of the assertions on which it rests
  said_unsat : ℕ → Option (List ℕ) → Said
  -- with the limit
  said_unknown : ℕ → Said
  said_unsupported : Said

pub data Line : Type 0 where
  -- strproof and a format
  header_line : ℕ → Line
  -- the next regex
  regex_line : Node → Line
  -- the next atom
  atom_line : AtomOver ℕ → Line
  -- the expansion of a regex
  expansion_line : ℕ → List Class → Line
  -- regexes without a word
  dead_line : List ℕ → Line
  -- the next clause: the literal of a live assertion, by its place from 0,
  assertion_line : ℕ → Lit → Line
  -- a clause by a rule,
  rule_line : Rule → List Lit → Line
  -- or a clause learned by hints, the numbers of clauses
  learned_line : List Lit → List ℕ → Line
  verdict_line : Said → Line
  end_line : Line

abbrev pub Field : Type 0
Field = List ℕ

-- The text of a line.

abbrev pub hexadecimal : ℕ → Field
hexadecimal n = digits 16 false n

abbrev pub range_text : Range → Field
range_text r = hexadecimal r.0 ++ 45 ∷ hexadecimal r.1

abbrev pub ranges_text : List Range → Field
ranges_text rs = join_with_byte 44 (map range_text rs)

-- w, and the characters with points between
abbrev pub word_text : List ℕ → Field
word_text w = 119 ∷ join_with_byte 46 (map hexadecimal w)

abbrev pub literal_text : Lit → Field
literal_text l = (if l.positive then 43 else 45) ∷ decimal l.atom

abbrev pub piece_text : Piece → Field
piece_text (constant_piece serial) = 118 ∷ decimal serial
piece_text (word_piece w) = word_text w

abbrev pub variable_text : Variable → Field
variable_text (int_constant serial) = 105 ∷ decimal serial
variable_text (length_of serial) = 108 ∷ decimal serial

abbrev pub summand_fields : Summand → List Field
summand_fields s = signed_decimal s.0 ∷ variable_text s.1 ∷ []

abbrev pub class_text : Class → Field
class_text k = ranges_text k.0 ++ 62 ∷ decimal k.1

abbrev pub value_text : Value → Field
value_text (Text w) = word_text w
value_text (Int n) = signed_decimal n
value_text (Truth true) = codes "t"
value_text (Truth false) = codes "f"

abbrev pub node_fields : Node → List Field
node_fields none_node = codes "none" ∷ []
node_fields eps_node = codes "eps" ∷ []
node_fields (set_node rs) = codes "set" ∷ ranges_text rs ∷ []
node_fields (cat_node a b) = codes "cat" ∷ decimal a ∷ decimal b ∷ []
node_fields (alt_node ps) = codes "alt" ∷ map decimal ps
node_fields (and_node ps) = codes "and" ∷ map decimal ps
node_fields (not_node a) = codes "not" ∷ decimal a ∷ []
node_fields (star_node a) = codes "star" ∷ decimal a ∷ []
node_fields (rep_node a n m) = codes "rep" ∷ decimal a ∷ decimal n ∷ decimal m ∷ []
node_fields (path_node a b) = codes "path" ∷ decimal a ∷ decimal b ∷ []

abbrev pub atom_fields : AtomOver ℕ → List Field
atom_fields (bool_atom serial) = codes "bool" ∷ decimal serial ∷ []
atom_fields (in_atom ps r) = codes "in" ∷ (map piece_text ps ++ codes ":" ∷ decimal r ∷ [])
atom_fields (le_atom x k) = codes "le" ∷ variable_text x ∷ signed_decimal k ∷ []
atom_fields (sum_atom k ss) = codes "sum" ∷ signed_decimal k ∷ flat_map summand_fields ss
atom_fields (and_atom ls) = codes "and" ∷ map literal_text ls
atom_fields (iff_atom l m) = codes "iff" ∷ literal_text l ∷ literal_text m ∷ []

abbrev pub rule_text : Rule → Field
rule_text gate = codes "gate"
rule_text order = codes "order"
rule_text linear = codes "linear"
rule_text step = codes "step"
rule_text empty = codes "empty"

abbrev pub said_fields : Said → List Field
said_fields (said_sat values) = codes "sat" ∷ map value_text values
said_fields (said_unsat id None) = codes "unsat" ∷ decimal id ∷ []
said_fields (said_unsat id (Some places)) = codes "unsat" ∷ decimal id ∷ codes ":" ∷ map decimal places
said_fields (said_unknown limit) = codes "unknown" ∷ decimal limit ∷ []
said_fields said_unsupported = codes "unsupported" ∷ []

abbrev pub fields_of : Line → List Field
fields_of (header_line format) = codes "strproof" ∷ decimal format ∷ []
fields_of (regex_line node) = codes "r" ∷ node_fields node
fields_of (atom_line atom) = codes "a" ∷ atom_fields atom
fields_of (expansion_line r ks) = codes "x" ∷ decimal r ∷ map class_text ks
fields_of (dead_line rs) = codes "d" ∷ map decimal rs
fields_of (assertion_line place l) = codes "c" ∷ codes "assert" ∷ decimal place ∷ literal_text l ∷ []
fields_of (rule_line rule ls) = codes "c" ∷ rule_text rule ∷ map literal_text ls
fields_of (learned_line ls ids) = codes "c" ∷ codes "learn" ∷ (map literal_text ls ++ codes ":" ∷ map decimal ids)
fields_of (verdict_line said) = codes "v" ∷ said_fields said
fields_of end_line = codes "end" ∷ []

-- the text of a line, without the line feed that ends it
abbrev pub text_of : Line → List ℕ
text_of line = join_with_byte 32 (fields_of line)
