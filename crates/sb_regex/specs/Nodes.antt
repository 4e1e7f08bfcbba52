-- What a node stands for, among the regexes that its parts are numbers of.
use Rattle.std.specs.Prelude.{ℕ, ◌<◌, List, [], ◌∷◌, All}
use Rattle.sb_lang.specs.Regex.{Regex, none, eps, set, cat, alt, and, neg, star, rep, path, regexes}
use Rattle.sb_regex.specs.declared.node.Node.{Node}
use Rattle.sb_regex.specs.declared.node.Node.TheVariants as node
use Rattle.sb_regex.specs.Numbered.{regex_at, regexes_at}

abbrev pub node_regex : List Regex → Node → Regex
node_regex rs node.None = none
node_regex rs node.Eps = eps
node_regex rs (node.Set ranges) = set ranges.items
node_regex rs (node.Cat a b) = cat (regex_at rs a) (regex_at rs b)
node_regex rs (node.Alt ps) = alt (regexes (regexes_at rs ps.items))
node_regex rs (node.And ps) = and (regexes (regexes_at rs ps.items))
node_regex rs (node.Not a) = neg (regex_at rs a)
node_regex rs (node.Star a) = star (regex_at rs a)
node_regex rs (node.Rep a n m) = rep (regex_at rs a) n m
node_regex rs (node.Path a b) = path (regex_at rs a) (regex_at rs b)

-- the numbers of its parts
abbrev pub node_parts : Node → List ℕ
node_parts node.None = []
node_parts node.Eps = []
node_parts (node.Set ranges) = []
node_parts (node.Cat a b) = a ∷ b ∷ []
node_parts (node.Alt ps) = ps.items
node_parts (node.And ps) = ps.items
node_parts (node.Not a) = a ∷ []
node_parts (node.Star a) = a ∷ []
node_parts (node.Rep a n m) = a ∷ []
node_parts (node.Path a b) = a ∷ b ∷ []

-- each part has a smaller number than this
abbrev pub PartsBelow : ℕ → Node → Type 0
PartsBelow n d = All (λ i. i < n) (node_parts d)
