-- Private: what an arena remembers of earlier calls.
use Rattle.std.specs.Prelude.{◌≡◌, ℕ, ◌<◌, Bool, ◌&&◌, nat_eq, List, length, Option, Some, IfSome}
use Rattle.std.specs.declared.cmp.Ordering.{Ordering}
use Rattle.sb_lang.specs.Regex.{Regex, none, eps, set, cat, alt, and, neg, star, rep, path, parts}
use Rattle.sb_lang.specs.Order.{regex_cmp}
use Rattle.sb_lang.specs.Constructors.{anything, mkalt, mkand}
use Rattle.indexmap.specs.IndexMap.{IndexMap, get}
use Rattle.sb_regex.specs.declared.node.Node.{Node}
use Rattle.sb_regex.specs.contracts.node.NodePartialEq.TheImpl as derived
use Rattle.sb_regex.specs.Numbered.{regex_at, Names}
use Rattle.sb_regex.specs.Nodes.{node_regex, PartsBelow}

-- what the constructor of its operation makes of the members of a union or an intersection
abbrev pub normal_of : Regex → Regex
normal_of (alt ps) = mkalt (parts ps)
normal_of (and ps) = mkand (parts ps)
normal_of none = none
normal_of eps = eps
normal_of (set rs) = set rs
normal_of (cat a b) = cat a b
normal_of (neg a) = neg a
normal_of (star a) = star a
normal_of (rep a n m) = rep a n m
normal_of (path a b) = path a b

abbrev pub same_pair : ℕ × ℕ → ℕ × ℕ → Bool
same_pair p q = nat_eq p.0 q.0 && nat_eq p.1 q.1

-- each call with the number of its answer, and each two numbers with the order of their regexes
pub record IsRemembered {S T : Type 0} (rs : List Regex) (made : IndexMap Node ℕ S)
    (orders : IndexMap (ℕ × ℕ) Ordering T) : Type 0 where
  pub calls : (d : Node) (i : ℕ) → get derived.ghosts.eq made d ≡ Some i
      → PartsBelow (length rs) d × Names rs i (normal_of (node_regex rs d))
  pub pairs : (p : ℕ × ℕ) (o : Ordering) → get same_pair orders p ≡ Some o
      → (p.0 < length rs) × (p.1 < length rs) × (o ≡ regex_cmp (regex_at rs p.0) (regex_at rs p.1))

-- the numbers that are known of the regexes with no word, with the empty word alone and with every word
pub record AreBasic (rs : List Regex) (of_none of_eps of_anything : Option ℕ) : Type 0 where
  pub no_word : IfSome of_none (λ id. Names rs id none)
  pub empty_word : IfSome of_eps (λ id. Names rs id eps)
  pub every_word : IfSome of_anything (λ id. Names rs id anything)
