-- Private: the clauses of memberships with no word in common.
use Rattle.std.specs.Prelude.{◌≡◌, ◌==◌, ℕ, Bool, false, if◌then◌else◌, List, map, slice_get, Option, Some, None, option_and_then, Result, Ok, Err}
use Rattle.sb_lang.specs.Regex.{Regex, none}
use Rattle.sb_lang.specs.Constructors.{mknot}
use Rattle.sb_regex.specs.Numbered.{regex_at, regexes_at, AllNumbers, Extends}
use Rattle.sb_lit.specs.declared.clause.Lit.{Lit}
use Rattle.sb_lit.specs.Clauses.{is_same_literal}
use Rattle.sb_lit.specs.Hints.{learned}
use Rattle.sb_lit.specs.Kept.{Kept}
use Rattle.sb_rulebook.specs.Atoms.{AtomOver, member_in as member_alone}
use Rattle.sb_rulebook.specs.ClauseRules.{refusal_of}
use Rattle.sb_rules.specs.Answers.{refusal_in}
use Rattle.sb_rules.specs.declared.fault.Fault.{Fault}
use Rattle.sb_rules.specs.declared.fault.Fault.TheVariants as fault

-- the constant of a membership of it alone, and the number of the regex
abbrev pub member_in : Option (AtomOver ℕ) → Option (ℕ × ℕ)
member_in o = option_and_then member_alone o

abbrev pub member_at : List (AtomOver ℕ) → Lit → Option (ℕ × ℕ)
member_at atoms l = member_in (slice_get atoms l.atom)

-- it is a membership of this constant
abbrev pub is_of : ℕ → Option (ℕ × ℕ) → Bool
is_of x None = false
is_of x (Some m) = m.0 == x

-- the regex in which the constant's word is, where the literal is false
abbrev pub denied_regex : List Regex → Bool → Option (ℕ × ℕ) → Regex
denied_regex rs positive None = none
denied_regex rs positive (Some m) = if positive then mknot (regex_at rs m.1) else regex_at rs m.1

abbrev pub denied_at : List Regex → List (AtomOver ℕ) → Lit → Regex
denied_at rs atoms l = denied_regex rs l.positive (member_at atoms l)

-- the numbers are of these regexes, of as many literals, in an arena that grew
pub record AreDenied (old : List Regex) (atoms : List (AtomOver ℕ)) (now : List Regex) (ids : List ℕ) (ls : List Lit)
    : Type 0
  where
    pub regexes : regexes_at now ids ≡ map (denied_at old atoms) ls
    pub known : AllNumbers now ids
    pub extends : Extends old now

-- the literal was found
abbrev pub IsFound : Lit → Option Lit → Bool → Type 0
IsFound l None b = b ≡ false
IsFound l (Some m) b = b ≡ is_same_literal l m

-- the level of a learned clause, or why it is refused
abbrev pub IsLearned : Result ℕ Fault → Kept → List Lit → List ℕ → Type 0
IsLearned (Ok level) kept clause ids = learned kept clause ids ≡ Ok level
IsLearned (Err (fault.Refused refusal)) kept clause ids =
    elim (learned kept clause ids) [ Ok level ↦ ⊥ | Err unlearned ↦ refusal_of unlearned ≡ refusal_in refusal ]
IsLearned (Err fault.NoMemory) kept clause ids = Unit {0}
