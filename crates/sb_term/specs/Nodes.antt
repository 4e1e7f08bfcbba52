-- What a term of the code stands for, among the terms that its arguments are numbers of.
use Rattle.std.specs.Prelude.{ℕ, ◌<◌, List, [], ◌∷◌, ◌++◌, All}
use Rattle.sb_word.specs.Words.{IsWord}
use Rattle.sb_meaning.specs.Terms.{Term, constant, word, numeral, apply, parameter, terms_of}
use Rattle.sb_term.specs.declared.term.Term as code
use Rattle.sb_term.specs.declared.term.Term.TheVariants as node
use Rattle.sb_term.specs.Symbols.{sort_in, symbol_in}
use Rattle.sb_term.specs.Numbered.{terms_at}

abbrev pub node_term : List Term → code.Term → Term
node_term ts (node.Constant serial sort) = constant serial.0 (sort_in sort)
node_term ts (node.Word codes) = word codes.items
node_term ts (node.Numeral n) = numeral n
node_term ts (node.Apply s arguments) = apply (symbol_in s) (terms_of (terms_at ts arguments.items))
node_term ts (node.Parameter place sort) = parameter place (sort_in sort)

-- the numbers of its arguments
abbrev pub node_arguments : code.Term → List ℕ
node_arguments (node.Apply s arguments) = arguments.items
node_arguments _ = []

-- each argument has a smaller number than this
abbrev pub ArgumentsBelow : ℕ → code.Term → Type 0
ArgumentsBelow n d = All (λ i. i < n) (node_arguments d)

-- a word is one of characters
abbrev pub IsWritten : code.Term → Type 0
IsWritten (node.Word codes) = IsWord codes.items
IsWritten _ = Unit {0}

-- the terms of a table: each in turn, with the arguments that the terms before it are
unfoldable pub terms_onto : List Term → List code.Term → List Term
terms_onto ts [] = ts
terms_onto ts (d ∷ ds) = terms_onto (ts ++ node_term ts d ∷ []) ds

abbrev pub terms_of_table : List code.Term → List Term
terms_of_table ds = terms_onto [] ds
