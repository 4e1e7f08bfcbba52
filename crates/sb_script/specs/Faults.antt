-- Why a form is no term.
use Rattle.sb_script.specs.Names.{Name}

pub data Fault : Type 0 where
  unknown_symbol : Name → Fault
  wrong_sort : Fault
  wrong_count : Fault
  bad_index : Fault
  -- a term that is left out, or uses a marked name
  unsupported : Fault
  numeral_too_large : Fault
  bad_literal : Fault
  malformed : Fault
  -- one let or one list of parameters binds the name twice
  already_bound : Name → Fault
