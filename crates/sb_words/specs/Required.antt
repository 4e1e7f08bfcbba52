-- Private: what an argument that has to be there is, and what a parse of the command has where it succeeds, for the
-- clauses of needed and strcheck that no caller sees.
use Rattle.std.specs.Prelude.{◌≡◌, true, false, codes, is_some}
use Rattle.clap.specs.Words.{IsParsedFrom, IsPlainArg, Text, first_value, found_of, rule_of}
use Rattle.clap.specs.Built.{TakesValue}
use Rattle.clap.specs.declared.builder.arg.Arg.{Arg}
use Rattle.clap.specs.declared.builder.command.Command.{Command}
use Rattle.clap.specs.declared.parser.matches.ArgMatches.{ArgMatches}
use Rattle.sb_words.specs.CheckerWords.{needed}

-- a required argument with this name, which takes a value and excludes nothing
pub record IsNeeded (id : Text) (a : Arg) : Type 0 where
  pub name : a.id.now ≡ id
  pub rule : rule_of a ≡ needed id
  pub plain : IsPlainArg a
  pub own : a.global ≡ false
  pub value : TakesValue a

-- both words have a value
abbrev pub HasBoth : Command → Type 0
HasBoth command = (m : ArgMatches) → IsParsedFrom command m
    → (is_some (first_value (found_of m) (codes "script")) ≡ true)
    × (is_some (first_value (found_of m) (codes "proof")) ≡ true)
