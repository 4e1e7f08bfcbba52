-- The regexes of a table of nodes.
use Rattle.std.specs.Prelude.{List, [], ◌∷◌, ◌++◌}
use Rattle.sb_lang.specs.Regex.{Regex}
use Rattle.sb_regex.specs.declared.node.Node.{Node}
use Rattle.sb_regex.specs.Nodes.{node_regex}

-- each node in turn, with the parts that the regexes before it are
unfoldable pub regexes_onto : List Regex → List Node → List Regex
regexes_onto rs [] = rs
regexes_onto rs (d ∷ ds) = regexes_onto (rs ++ node_regex rs d ∷ []) ds

abbrev pub regexes_of : List Node → List Regex
regexes_of ds = regexes_onto [] ds
