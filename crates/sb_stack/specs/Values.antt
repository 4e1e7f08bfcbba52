-- Private: constants and items of the code, as the definitions have them.
use Rattle.std.specs.Prelude.{ℕ, Bool, true, ◌==◌, if◌then◌else◌, List, [], ◌∷◌, ◌++◌, map, codes, Some, None}
use Rattle.sb_script.specs.Names.{Name, name_text}
use Rattle.sb_script.specs.Steps.{Step, answers, is_unsupported, line, list_text}
use Rattle.sb_meaning.specs.Terms.{Sort}
use Rattle.sb_meaning.specs.Printed.{printed}
use Rattle.sb_term.specs.Symbols.{sort_in}
use Rattle.sb_script.specs.Scopes as scopes
use Rattle.sb_script.specs.State.{State, start}
use Rattle.sb_script.specs.Replies as meaning
use Rattle.sb_stack.specs.Speaking.{is_one_of}
use Rattle.sb_stack.specs.Stacked.{value_at}
use Rattle.sb_stack.specs.declared.value.Constant.{Constant}
use Rattle.sb_stack.specs.declared.value.Item.{Item}
use Rattle.sb_stack.specs.declared.value.Item.TheVariants as code

abbrev pub constant_in : Constant → scopes.Constant
constant_in c = record { name = c.name.now; serial = c.serial.0; sort = sort_in c.sort }

-- a constant that is asked for
abbrev pub asked_in : Constant → Name × (ℕ × Sort)
asked_in c = (c.name.now, (c.serial.0, sort_in c.sort))

abbrev pub item_in : Item → meaning.Item
item_in (code.Constant c) = meaning.item_constant c.name.now c.serial.0 (sort_in c.sort)
item_in (code.Unknown name) = meaning.item_unknown name.now
item_in code.Malformed = meaning.item_malformed
item_in code.Other = meaning.item_other

-- a state in which the names stand for what they do
abbrev pub with_names : List scopes.Naming → State
with_names names = record start { first = record { names = names; assertions = [] } }

-- the value of a constant, as it is printed
abbrev pub value_printed : List (List ℕ) → List Bool → ℕ → Sort → List ℕ
value_printed words truths serial sort = printed (value_at words truths serial sort)

-- what is said of a constant that has the value at its serial, in a model and where it is asked for
abbrev pub definition_by : List (List ℕ) → List Bool → scopes.Constant → List ℕ
definition_by words truths c = codes "(define-fun " ++
    (name_text c.name
    ++ (codes " () "
    ++ (meaning.sort_text c.sort ++ (codes " " ++ (value_printed words truths c.serial c.sort ++ codes ")")))))

abbrev pub value_by : List (List ℕ) → List Bool → Name × (ℕ × Sort) → List ℕ
value_by words truths asked =
    codes "(" ++ (name_text asked.0 ++ (codes " " ++ (value_printed words truths asked.1.0 asked.1.1 ++ codes ")")))

-- what is answered to a question for the values of items, where constants have these words and truth values
abbrev pub answers_by : List (List ℕ) → List Bool → List meaning.Item → State → Step
answers_by words truths items s =
    elim (meaning.all_constants items)
    [ Some cs ↦ answers (line (list_text (map (value_by words truths) cs))) s | None ↦ is_unsupported s ]

-- where the item is a constant it is one of these, by serial and sort
abbrev pub is_live_item : List (ℕ × Sort) → meaning.Item → Bool
is_live_item constants (meaning.item_constant name serial sort) = is_one_of constants serial sort
is_live_item constants (meaning.item_unknown name) = true
is_live_item constants meaning.item_malformed = true
is_live_item constants meaning.item_other = true

-- what stands in front of the entry at a place of a list
abbrev pub gap_at : ℕ → List ℕ
gap_at place = if place == 0 then [] else 32 ∷ []
