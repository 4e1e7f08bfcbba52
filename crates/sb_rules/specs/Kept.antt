-- What the code keeps of a proof, as the rules of proofs have it.
use Rattle.std.specs.Prelude.{◌≡◌, ℕ, ◌<◌, true, List, map, length, Option, Some, None, option_map, IfSome}
use Rattle.std.specs.List.{list_all}
use Rattle.sb_meaning.specs.Terms.{Term}
use Rattle.sb_regex.specs.Numbered.{regexes_at, AllNumbers, Extends}
use Rattle.sb_plain.specs.Memory as plain
use Rattle.sb_problem.specs.Known.{AreNormals}
use Rattle.sb_fragment.specs.Measures.{AreMeasures}
use Rattle.sb_atoms.specs.Numbered.{atoms_in, HaveRegexesBelow}
use Rattle.sb_term.specs.Numbered.{term_at}
use Rattle.sb_term.specs.Symbols.{sort_in}
use Rattle.sb_term.specs.declared.sort.Sort as code
use Rattle.sb_term.specs.declared.assertion.Assertion.{Assertion}
use Rattle.sb_rulebook.specs.Atoms.{is_well_formed}
use Rattle.sb_rulebook.specs.Brought.{is_brought_atom}
use Rattle.sb_rulebook.specs.Kept.{AllKept, Asked, dropped_above, all_dropped}
use Rattle.sb_rules.specs.declared.kept.Kept.{Kept}

-- all that is kept; the format and what clauses rest on are given
abbrev pub kept_in : Kept → AllKept → AllKept
kept_in k others =
    record others {
      regexes = regexes_at k.arena k.regexes.order;
      expansions = k.regexes.expansions;
      dead = k.regexes.dead;
      atoms = atoms_in k.arena k.atoms;
      clauses = k.clauses;
      counted = k.counted;
    }

-- What is kept of a proof is of the arena.
pub record IsWhole (k : Kept) : Type 0 where
  pub regexes : AllNumbers k.arena k.regexes.order
  pub plain : plain.IsRight k.arena k.plain
  pub atoms : HaveRegexesBelow (length k.arena) k.atoms
  pub brought : list_all is_brought_atom k.atoms ≡ true
  pub formed : list_all is_well_formed k.atoms ≡ true

-- What is kept of the script is of a table of terms.
pub record IsOver (ts : List Term) (k : Kept) : Type 0 where
  pub whole : IsWhole k
  pub normals : AreNormals ts k.arena k.normals
  pub measures : AreMeasures ts k.measures

-- Of the script the same is kept.
pub record KeepsTerms (old new : Kept) : Type 0 where
  pub extends : Extends old.arena new.arena
  pub normals : new.normals ≡ old.normals
  pub measures : new.measures ≡ old.measures

-- what is kept where the levels above this one are left, or all of them
abbrev pub left_in : Option ℕ → AllKept → AllKept
left_in (Some level) kept = dropped_above level kept
left_in None kept = all_dropped kept

-- a live assertion, with its level
abbrev pub live_in : List Term → Assertion → Option Term × ℕ
live_in ts a = (option_map (term_at ts) a.term, a.level)

-- What a check asks: of these assertions over a table, where constants of these sorts are declared.
pub record IsAsked (ts : List Term) (assertions : List Assertion) (sorts : List code.Sort) (most : ℕ) (asked : Asked)
    : Type 0 where
  pub live : asked.live ≡ map (live_in ts) assertions
  pub declared : asked.sorts ≡ map sort_in sorts
  pub limit : asked.limit ≡ most

-- the number of the assertion's term, where it is no mark, is below this
abbrev pub HasNumberBelow : ℕ → Assertion → Type 0
HasNumberBelow n a = IfSome a.term (λ id. id < n)
