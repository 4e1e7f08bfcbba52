-- Private: how nodes are kept and told apart.
use Rattle.std.specs.Prelude.{◌≡◌, ℕ, true, List, length, slice_get, Some}
use Rattle.std.specs.List.{list_all}
use Rattle.sb_lang.specs.Regex.{Regex}
use Rattle.sb_lang.specs.Derivative.{nullable}
use Rattle.sb_lang.specs.Language.{language}
use Rattle.sb_lang.specs.NormalForm.{is_normal}
use Rattle.sb_lengths.specs.Lengths.{AreLengths}
use Rattle.sb_regex.specs.declared.arena.Facts.{Facts}
use Rattle.sb_regex.specs.declared.node.Node.{Node}
use Rattle.sb_regex.specs.declared.node.Node.TheVariants as node
use Rattle.sb_regex.specs.Numbered.{Names, AreDistinct, regex_at}
use Rattle.sb_regex.specs.Nodes.{node_regex, PartsBelow}

-- the kind's place in the order
abbrev pub node_kind : Node → ℕ
node_kind node.None = 0
node_kind node.Eps = 1
node_kind (node.Set ranges) = 2
node_kind (node.Cat a b) = 3
node_kind (node.Alt ps) = 4
node_kind (node.And ps) = 5
node_kind (node.Not a) = 6
node_kind (node.Star a) = 7
node_kind (node.Rep a n m) = 8
node_kind (node.Path a b) = 9

-- what is kept of a regex is true of it
pub record AreFactsOf (facts : Facts) (r : Regex) : Type 0 where
  pub nullable : facts.nullable ≡ nullable r
  pub lengths : AreLengths facts.lengths (language r)

-- the nodes of normal regexes, each once, and what is known of each
pub record IsTable (rs : List Regex) (ds : List Node) (facts : List Facts) : Type 0 where
  pub nodes : (i : ℕ) (d : Node) → slice_get ds i ≡ Some d → Names rs i (node_regex rs d)
  pub parts : (i : ℕ) (d : Node) → slice_get ds i ≡ Some d → PartsBelow i d
  pub long : length rs ≡ length ds
  pub distinct : AreDistinct rs
  pub normal : list_all is_normal rs ≡ true
  pub known : length facts ≡ length rs
  pub holds : (i : ℕ) (f : Facts) → slice_get facts i ≡ Some f → AreFactsOf f (regex_at rs i)
