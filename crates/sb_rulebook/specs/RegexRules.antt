-- The rules of the lines that define a regex, expand one, and say that regexes are dead.
use Rattle.std.specs.Prelude.{ℕ, Bool, false, ◌||◌, if◌then◌else◌, List, [], ◌∷◌, map, slice_get, Option, Some, None, is_some, option_map, option_and_then, Result, Ok, Err}
use Rattle.std.specs.List.{list_all, list_any}
use Rattle.sb_lang.specs.Regex.{Regex, none, eps, set, cat, alt, and, neg, star, rep, path, regexes}
use Rattle.sb_lang.specs.Order.{regex_eq}
use Rattle.sb_lang.specs.NormalForm.{is_normal}
use Rattle.sb_lang.specs.Derivative.{nullable}
use Rattle.sb_rulebook.specs.Refusals.{Refusal, unknown_id, repeated, not_normal, wrong_target, holds_empty_word, not_closed}
use Rattle.sb_rulebook.specs.Lines.{Node, none_node, eps_node, set_node, cat_node, alt_node, and_node, not_node, star_node, rep_node, path_node, Class}
use Rattle.sb_rulebook.specs.Parts.{together}
use Rattle.sb_rulebook.specs.Kept.{AllKept, Asked, is_among_numbers, is_dead, targets_in, with_regex, with_expansion, with_dead, counting}
use Rattle.sb_rulebook.specs.Expansions.{Branch, is_expansion}

-- what is made of one regex by its number, of two, and of several
abbrev pub of_one : List Regex → (Regex → Regex) → ℕ → Option Regex
of_one known make a = option_map make (slice_get known a)

abbrev pub of_two : List Regex → (Regex → Regex → Regex) → ℕ → ℕ → Option Regex
of_two known make a b = option_and_then (λ r. of_one known (make r) b) (slice_get known a)

abbrev pub of_several : List Regex → (List Regex → Regex) → List ℕ → Option Regex
of_several known make ids = option_map make (together (map (slice_get known) ids))

-- the regex of a node, as it stands; none where a part is not defined
abbrev pub regex_of_node : List Regex → Node → Option Regex
regex_of_node known none_node = Some none
regex_of_node known eps_node = Some eps
regex_of_node known (set_node rs) = Some (set rs)
regex_of_node known (cat_node a b) = of_two known cat a b
regex_of_node known (alt_node ids) = of_several known (λ rs. alt (regexes rs)) ids
regex_of_node known (and_node ids) = of_several known (λ rs. and (regexes rs)) ids
regex_of_node known (not_node a) = of_one known neg a
regex_of_node known (star_node a) = of_one known star a
regex_of_node known (rep_node a n m) = of_one known (λ r. rep r n m) a
regex_of_node known (path_node a b) = of_two known path a b

-- A regex is defined once, and only a normal one.
abbrev pub defined : AllKept → Regex → Result AllKept Refusal
defined kept r =
    if list_any (regex_eq r) kept.regexes then Err repeated
    else if is_normal r then Ok (with_regex r kept)
    else Err not_normal

abbrev pub follows_regex : AllKept → Node → Result AllKept Refusal
follows_regex kept node = elim (regex_of_node kept.regexes node) [ None ↦ Err unknown_id | Some r ↦ defined kept r ]

-- a class with the regex of its target
abbrev pub branch_of : List Regex → Class → Option Branch
branch_of known k = option_map (λ r. (k.0, r)) (slice_get known k.1)

-- A regex is expanded once, and only rightly. The line counts.
abbrev pub expanded : Asked → AllKept → ℕ → List Class → Regex → List Branch → Result AllKept Refusal
expanded asked kept id ks r ps =
    if is_some (targets_in kept.expansions id) then Err repeated
    else if is_expansion r ps then counting asked (with_expansion id (map (λ k. k.1) ks) kept)
    else Err wrong_target

abbrev pub follows_expansion : Asked → AllKept → ℕ → List Class → Result AllKept Refusal
follows_expansion asked kept id ks = elim (slice_get kept.regexes id) [
  | None ↦ Err unknown_id
  | Some r ↦ elim (together (map (branch_of kept.regexes) ks))
      [ None ↦ Err unknown_id | Some ps ↦ expanded asked kept id ks r ps ]
]

-- a member is twice among these, or dead before
abbrev pub has_repeated : AllKept → List ℕ → Bool
has_repeated kept [] = false
has_repeated kept (id ∷ ids) = is_among_numbers ids id || (is_dead kept id || has_repeated kept ids)

-- a target has no word where it is dead before or among these
abbrev pub is_settled : AllKept → List ℕ → ℕ → Bool
is_settled kept ids target = is_among_numbers ids target || is_dead kept target

-- a regex is expanded, and its targets have no word
abbrev pub is_closed : AllKept → List ℕ → ℕ → Bool
is_closed kept ids id =
    elim (targets_in kept.expansions id) [ None ↦ false | Some targets ↦ list_all (is_settled kept ids) targets ]

-- why the first of the members that may not be among these may not
abbrev pub first_alive : AllKept → List ℕ → List (ℕ × Regex) → Option Refusal
first_alive kept ids [] = None
first_alive kept ids (m ∷ ms) =
    if nullable m.1 then Some holds_empty_word
    else if is_closed kept ids m.0 then first_alive kept ids ms
    else Some not_closed

-- Regexes are dead where none is nullable and the derivatives of each are dead or among them.
abbrev pub died : AllKept → List ℕ → List (ℕ × Regex) → Result AllKept Refusal
died kept ids ms =
    if has_repeated kept ids then Err repeated
    else elim (first_alive kept ids ms)
    [ Some refusal ↦ Err refusal | None ↦ Ok (with_dead ids kept) ]

-- a member by its number, with its regex
abbrev pub member_at : List Regex → ℕ → Option (ℕ × Regex)
member_at known id = option_map (λ r. (id, r)) (slice_get known id)

abbrev pub follows_dead : AllKept → List ℕ → Result AllKept Refusal
follows_dead kept ids =
    elim (together (map (member_at kept.regexes) ids)) [ None ↦ Err unknown_id | Some ms ↦ died kept ids ms ]
