-- The words of the program strcheck: which are taken, and what they ask. The words stand as the system gives them, the
-- program's name first; a command, how its words are read, and where they have a fault, are clap's definitions.
use Rattle.std.specs.Prelude.{Bool, true, List, Option, Some, codes}
use Rattle.clap.specs.Words.{App, Rule, Text, fault_of, first_of, matches_of, new_app, new_rule, with_rule}
use Rattle.clap.specs.Walk.{is_empty}
use Rattle.clap.specs.Simple.{on_top}
use Rattle.clap.specs.declared.builder.action.ArgAction.TheVariants.{Set}

-- a word that has to be there
abbrev pub needed : Text → Rule
needed id = record (new_rule id) { value_names = 1; action = Some Set; required = true }

-- the word SCRIPT
abbrev pub script : Rule
script = needed (codes "script")

-- the word PROOF
abbrev pub proof : Rule
proof = needed (codes "proof")

-- the command that tells its version, before it has arguments
abbrev pub bare : App
bare = on_top (λ s. record s { has_version = true }) (new_app (codes "strcheck"))

-- strcheck SCRIPT PROOF, and the requests for help and for the version that clap adds
abbrev pub strcheck : App
strcheck = with_rule (with_rule bare script) proof

-- The words are taken: they have no fault. A request for a text, as --help, is one.
abbrev pub are_taken : List Text → Bool
are_taken words = is_empty (fault_of strcheck words)

-- the file that holds the script
abbrev pub script_of : List Text → Option Text
script_of words = first_of (codes "script") (matches_of strcheck words)

-- the file that holds the proof
abbrev pub proof_of : List Text → Option Text
proof_of words = first_of (codes "proof") (matches_of strcheck words)
