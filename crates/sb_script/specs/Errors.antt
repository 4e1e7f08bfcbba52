-- Errors, in the order in which those of one command are looked for. Within one term the first fault in reading order
-- counts.
use Rattle.std.specs.Prelude.{ℕ, nat_le, if◌then◌else◌, List, [], ◌∷◌, ◌++◌, codes, Option, Some, None}
use Rattle.sb_script.specs.Names.{Name, name_in_text}

pub data Error : Type 0 where
  unexpected_close : Error
  bad_token : Error
  too_deep : Error
  malformed_command : Error
  logic_already_set : Error
  option_too_late : Error
  bad_option_value : Error
  numeral_too_large : Error
  already_declared : Name → Error
  unknown_symbol : Name → Error
  wrong_sort : Error
  wrong_count : Error
  bad_index : Error
  not_a_literal : Error
  no_such_level : Error
  models_not_enabled : Error
  assumptions_not_enabled : Error
  no_model : Error
  no_unsat_answer : Error
  no_unknown_answer : Error
  unexpected_end : Error

-- the place of an error in that order, and its text
abbrev pub place_and_text : Error → ℕ × List ℕ
place_and_text unexpected_close = (0, codes "unexpected )")
place_and_text bad_token = (1, codes "bad token")
place_and_text too_deep = (2, codes "nesting deeper than 512")
place_and_text malformed_command = (3, codes "malformed command")
place_and_text logic_already_set = (4, codes "logic already set")
place_and_text option_too_late = (5, codes "option set too late")
place_and_text bad_option_value = (6, codes "bad option value")
place_and_text numeral_too_large = (7, codes "numeral too large")
place_and_text (already_declared name) = (8, codes "already declared " ++ name_in_text name)
place_and_text (unknown_symbol name) = (9, codes "unknown symbol " ++ name_in_text name)
place_and_text wrong_sort = (10, codes "wrong sort")
place_and_text wrong_count = (11, codes "wrong number of arguments")
place_and_text bad_index = (12, codes "bad index")
place_and_text not_a_literal = (13, codes "not a literal")
place_and_text no_such_level = (14, codes "no such level")
place_and_text models_not_enabled = (15, codes "models not enabled")
place_and_text assumptions_not_enabled = (16, codes "assumptions not enabled")
place_and_text no_model = (17, codes "no model")
place_and_text no_unsat_answer = (18, codes "no unsat answer")
place_and_text no_unknown_answer = (19, codes "no unknown answer")
place_and_text unexpected_end = (20, codes "unexpected end of input")

abbrev pub place_of : Error → ℕ
place_of e = (place_and_text e).0

abbrev pub text_of : Error → List ℕ
text_of e = (place_and_text e).1

-- the earlier of two, and of two in one place the first
abbrev pub earlier : Error → Option Error → Error
earlier e None = e
earlier e (Some f) = if nat_le (place_of e) (place_of f) then e else f

-- the error of a command that has these, in reading order
abbrev pub first_of : List Error → Option Error
first_of [] = None
first_of (e ∷ es) = Some (earlier e (first_of es))
