-- Private: how forms lie in memory, and what the parser keeps while it reads the tokens of a form: for private
-- contracts alone.
use Rattle.std.specs.Prelude.{◌≡◌, ℕ, Bool, true, false, ◌&&◌, List, [], ◌∷◌, ◌++◌, Option, Some, None, Result, MatchResult, length}
use Rattle.sb_reader.specs.declared.feed.Refusal.{Refusal}
use Rattle.sb_reader.specs.Entries.{Refused, Spells, IsCommand, IsEntry, closes_at_end}
use Rattle.sb_reader.specs.declared.sexpr.Sexpr.{Sexpr}
use Rattle.sb_reader.specs.declared.sexpr.Node.{Node}
use Rattle.sb_reader.specs.declared.sexpr.Node.TheVariants as node
use Rattle.sb_reader.specs.declared.sexpr.Kind.TheVariants as kind
use Rattle.sb_reader.specs.declared.parse.Atom.{Atom}
use Rattle.sb_reader.specs.declared.parse.Mark.{Mark}
use Rattle.sb_reader.specs.declared.parse.OpenLists.{OpenLists}
use Rattle.sb_reader.specs.Tokens.{Token, Open, is_bad}
use Rattle.sb_reader.specs.Forms.{Form, Forms, Symbol, QuotedSymbol, Keyword, Numeral, OtherNumber, Words, Group, none, more, tokens_of, tokens_of_all, has_kinds, have_kinds, atom_of, form_of}

-- the bytes of the atoms of a form
abbrev mutual
  pub bytes_of : Form → List ℕ
  bytes_of (Symbol name) = name
  bytes_of (QuotedSymbol name) = name
  bytes_of (Keyword name) = name
  bytes_of (Numeral digits) = digits
  bytes_of (OtherNumber bytes) = bytes
  bytes_of (Words bytes) = bytes
  bytes_of (Group forms) = bytes_of_all forms

  pub bytes_of_all : Forms → List ℕ
  bytes_of_all none = []
  bytes_of_all (more form forms) = bytes_of form ++ bytes_of_all forms

-- the nodes of a form
abbrev mutual
  pub nodes_of : Form → List Node
  nodes_of (Symbol name) = node.Atom kind.Symbol (length name) ∷ []
  nodes_of (QuotedSymbol name) = node.Atom kind.QuotedSymbol (length name) ∷ []
  nodes_of (Keyword name) = node.Atom kind.Keyword (length name) ∷ []
  nodes_of (Numeral digits) = node.Atom kind.Numeral (length digits) ∷ []
  nodes_of (OtherNumber bytes) = node.Atom kind.OtherNumber (length bytes) ∷ []
  nodes_of (Words bytes) = node.Atom kind.Text (length bytes) ∷ []
  nodes_of (Group forms) = node.List (length (nodes_of_all forms)) (length (bytes_of_all forms)) ∷ nodes_of_all forms

  pub nodes_of_all : Forms → List Node
  nodes_of_all none = []
  nodes_of_all (more form forms) = nodes_of form ++ nodes_of_all forms

-- with one form more at the end
abbrev pub pushed : Forms → Form → Forms
pushed none form = more form none
pushed (more first forms) form = more first (pushed forms form)

-- The lists that are open, the innermost first, each with the forms that it has so far: their tokens,
abbrev pub read_tokens : List Forms → List Token
read_tokens [] = []
read_tokens (forms ∷ outer) = read_tokens outer ++ Open ∷ tokens_of_all forms

-- that each atom in them is of its kind,
abbrev pub are_kinds : List Forms → Bool
are_kinds [] = true
are_kinds (forms ∷ outer) = have_kinds forms && are_kinds outer

-- their nodes, where that of an open list has no numbers yet,
abbrev pub open_nodes : List Forms → List Node
open_nodes [] = []
open_nodes (forms ∷ outer) = open_nodes outer ++ node.List 0 0 ∷ nodes_of_all forms

-- their bytes,
abbrev pub open_bytes : List Forms → List ℕ
open_bytes [] = []
open_bytes (forms ∷ outer) = open_bytes outer ++ bytes_of_all forms

-- and where each begins
abbrev pub open_marks : List Forms → List Mark
open_marks [] = []
open_marks (forms ∷ outer) =
    open_marks outer ++ record { node = length (open_nodes outer); byte = length (open_bytes outer) } ∷ []

-- the lists lie in memory
pub record IsLaid (lists : OpenLists) (levels : List Forms) : Type 0 where
  pub nodes : lists.nodes.items ≡ open_nodes levels
  pub bytes : lists.bytes.items ≡ open_bytes levels
  pub marks : lists.marks.items ≡ open_marks levels

-- some list is open
pub record IsOpen (lists : OpenLists) : Type 0 where
  pub forms : Forms
  pub outer : List Forms
  pub laid : IsLaid lists (forms ∷ outer)

-- the outermost list has become a form
pub record IsClosed (lists : OpenLists) (forms : Forms) (outer : List Forms) : Type 0 where
  pub outermost : outer ≡ []
  pub nodes : lists.nodes.items ≡ nodes_of (Group forms)
  pub bytes : lists.bytes.items ≡ bytes_of (Group forms)

-- the innermost list is a form of the one around it
pub record IsInside (lists : OpenLists) (forms : Forms) (outer : List Forms) : Type 0 where
  pub around : Forms
  pub others : List Forms
  pub outer_is : outer ≡ around ∷ others
  pub laid : IsLaid lists (pushed around (Group forms) ∷ others)

-- what closing the innermost list gives
abbrev pub AfterClose : Bool → Forms → List Forms → OpenLists → Type 0
AfterClose true forms outer lists = IsClosed lists forms outer
AfterClose false forms outer lists = IsInside lists forms outer

-- an atom of a token, or none where the token is bad
abbrev pub IsAtom : Option Atom → Token → Type 0
IsAtom None token = is_bad token ≡ true
IsAtom (Some atom) token = (is_bad token ≡ false)
    × (tokens_of (atom_of atom.kind atom.bytes.now) ≡ token ∷ [])
    × (has_kinds (atom_of atom.kind atom.bytes.now) ≡ true)

-- The tokens behind the first parenthesis of a form, up to the one that closes it.
pub record IsTail (tokens : List Token) (bytes : List ℕ) : Type 0 where
  pub spelled : Spells true tokens bytes []
  pub closes : closes_at_end 1 tokens ≡ true

-- the answer for the tokens of an entry
abbrev pub IsParsed : Result Sexpr Refusal → List Token → Type 0
IsParsed parsed tokens =
    MatchResult parsed (λ sexpr. IsCommand (form_of sexpr) tokens) (λ refusal. IsEntry (Refused refusal) tokens)
