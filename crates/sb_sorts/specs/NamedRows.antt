-- What stands in a table of the code by its name; the first row counts.
use Rattle.std.specs.Prelude.{if◌then◌else◌, List, [], ◌∷◌, Option, Some, None}
use Rattle.sb_script.specs.Names.{Name, is_name}
use denote.Ref.{Bor}

unfoldable pub look_up : {A : Type 0} → List (Bor Name × A) → Name → Option A
look_up [] name = None
look_up (row ∷ rows) name = if is_name name row.0.now then Some row.1 else look_up rows name
