-- Forms as trees (SMT-LIB 2.6, section 3.2: S-expressions), without where they lie in memory.
use Rattle.std.specs.Prelude.{◌≡◌, ℕ, zero, suc, Bool, true, false, ◌&&◌, ◌||◌, List, [], ◌∷◌, ◌++◌, length, take, drop, Option, Some, None}
use Rattle.sb_reader.specs.Tokens.{Token, Open, Close, Text, Quoted, Run, is_numeral, is_decimal, is_hexadecimal_or_binary, is_simple_symbol, is_keyword}
use Rattle.sb_reader.specs.declared.sexpr.Sexpr.{Sexpr}
use Rattle.sb_reader.specs.declared.sexpr.Shapes.{Shapes}
use Rattle.sb_reader.specs.declared.sexpr.Shape.{Shape}
use Rattle.sb_reader.specs.declared.sexpr.Shape.TheVariants as shape
use Rattle.sb_reader.specs.declared.sexpr.Node.{Node}
use Rattle.sb_reader.specs.declared.sexpr.Node.TheVariants as node
use Rattle.sb_reader.specs.declared.sexpr.Kind.{Kind}
use Rattle.sb_reader.specs.declared.sexpr.Kind.TheVariants as kind

-- a form: an atom with its bytes, or the forms of a list
mutual
  pub data Form : Type 0 where
    Symbol : List ℕ → Form
    QuotedSymbol : List ℕ → Form
    Keyword : List ℕ → Form
    Numeral : List ℕ → Form
    OtherNumber : List ℕ → Form
    Words : List ℕ → Form
    Group : Forms → Form

  pub data Forms : Type 0 where
    none : Forms
    more : Form → Forms → Forms

-- the tokens of a form, in order
abbrev mutual
  pub tokens_of : Form → List Token
  tokens_of (Symbol name) = Run name ∷ []
  tokens_of (QuotedSymbol name) = Quoted name ∷ []
  tokens_of (Keyword name) = Run name ∷ []
  tokens_of (Numeral digits) = Run digits ∷ []
  tokens_of (OtherNumber bytes) = Run bytes ∷ []
  tokens_of (Words bytes) = Text bytes ∷ []
  tokens_of (Group forms) = Open ∷ (tokens_of_all forms ++ Close ∷ [])

  pub tokens_of_all : Forms → List Token
  tokens_of_all none = []
  tokens_of_all (more form forms) = tokens_of form ++ tokens_of_all forms

-- each atom is of its kind
abbrev mutual
  pub has_kinds : Form → Bool
  has_kinds (Symbol name) = is_simple_symbol name
  has_kinds (QuotedSymbol name) = true
  has_kinds (Keyword name) = is_keyword name
  has_kinds (Numeral digits) = is_numeral digits
  has_kinds (OtherNumber bytes) = is_decimal bytes || is_hexadecimal_or_binary bytes
  has_kinds (Words bytes) = true
  has_kinds (Group forms) = have_kinds forms

  pub have_kinds : Forms → Bool
  have_kinds none = true
  have_kinds (more form forms) = has_kinds form && have_kinds forms

-- an atom of a kind
abbrev pub atom_of : Kind → List ℕ → Form
atom_of kind.Symbol bytes = Symbol bytes
atom_of kind.QuotedSymbol bytes = QuotedSymbol bytes
atom_of kind.Keyword bytes = Keyword bytes
atom_of kind.Numeral bytes = Numeral bytes
atom_of kind.OtherNumber bytes = OtherNumber bytes
atom_of kind.Text bytes = Words bytes

-- The forms of a row of nodes: an atom has the next bytes, and a list the next nodes and bytes. The first number is
-- how many nodes there are at most.
unfoldable pub read_nodes : ℕ → List Node → List ℕ → Forms
read_nodes zero nodes bytes = none
read_nodes (suc n) [] bytes = none
read_nodes (suc n) (node.Atom kind length ∷ nodes) bytes =
    more (atom_of kind (take length bytes)) (read_nodes n nodes (drop length bytes))
read_nodes (suc n) (node.List count length ∷ nodes) bytes =
    more (Group (read_nodes n (take count nodes) (take length bytes)))
    (read_nodes n (drop count nodes) (drop length bytes))

-- the first form, or the empty list where there is none
abbrev pub first_of : Forms → Form
first_of none = Group none
first_of (more form forms) = form

-- what the code keeps, as a form
unfoldable pub form_of : Sexpr → Form
form_of form = first_of (read_nodes (length form.nodes.items) form.nodes.items form.bytes.items)

-- the forms of a list in memory
unfoldable pub shapes_in : Shapes → Forms
shapes_in shapes = read_nodes (length shapes.nodes.now) shapes.nodes.now shapes.bytes.now

-- a form in memory
abbrev pub shape_of : Shape → Form
shape_of (shape.Symbol name) = Symbol name.now
shape_of (shape.QuotedSymbol name) = QuotedSymbol name.now
shape_of (shape.Keyword name) = Keyword name.now
shape_of (shape.Numeral digits) = Numeral digits.now
shape_of (shape.OtherNumber bytes) = OtherNumber bytes.now
shape_of (shape.Text bytes) = Words bytes.now
shape_of (shape.List shapes) = Group (shapes_in shapes)

-- the first form and the others, or none where there is no form
abbrev pub Splits : Option (Shape × Shapes) → Forms → Type 0
Splits None forms = forms ≡ none
Splits (Some (shape, shapes)) forms = forms ≡ more (shape_of shape) (shapes_in shapes)

abbrev pub is_none : Forms → Bool
is_none none = true
is_none (more form forms) = false

-- the form that is there alone
abbrev pub only_of : Forms → Option Form
only_of none = None
only_of (more form none) = Some form
only_of (more form (more second forms)) = None

-- the two forms that are there
abbrev pub pair_of : Forms → Option (Form × Form)
pair_of none = None
pair_of (more form none) = None
pair_of (more form (more second none)) = Some (form, second)
pair_of (more form (more second (more third forms))) = None

abbrev pub pair_in : Shape × Shape → Form × Form
pair_in (first, second) = (shape_of first, shape_of second)
