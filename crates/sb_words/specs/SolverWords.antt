-- The words of the program strsolve: which are taken, and what they ask. The words stand as the system gives them, the
-- program's name first; a command, how its words are read, and where they have a fault, are clap's definitions.
use Rattle.std.specs.Prelude.{Bool, true, List, Option, Some, codes}
use Rattle.clap.specs.Words.{App, Rule, Text, fault_of, first_of, matches_of, new_app, new_rule, with_rule}
use Rattle.clap.specs.Walk.{is_empty}
use Rattle.clap.specs.Simple.{on_top}

-- the option --proof FILE
abbrev pub proof : Rule
proof = record (new_rule (codes "proof")) { long = Some (codes "proof"); value_names = 1 }

-- the word SCRIPT
abbrev pub script : Rule
script = record (new_rule (codes "script")) { value_names = 1 }

-- the command that tells its version, before it has arguments
abbrev pub bare : App
bare = on_top (λ s. record s { has_version = true }) (new_app (codes "strsolve"))

-- strsolve [--proof FILE] [SCRIPT], and the requests for help and for the version that clap adds
abbrev pub strsolve : App
strsolve = with_rule (with_rule bare proof) script

-- The words are taken: they have no fault. A request for a text, as --help, is one.
abbrev pub are_taken : List Text → Bool
are_taken words = is_empty (fault_of strsolve words)

-- the file that holds the script, where one is named
abbrev pub script_of : List Text → Option Text
script_of words = first_of (codes "script") (matches_of strsolve words)

-- the file that takes the proof, where one is named
abbrev pub proof_of : List Text → Option Text
proof_of words = first_of (codes "proof") (matches_of strsolve words)
