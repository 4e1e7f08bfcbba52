-- What stands at a number is found by what it is.
use Rattle.sb_lang.specs.Order.{regex_eq}
use Rattle.sb_lang.specs.OrderLaws.{OrderTellsApart}
use Rattle.sb_rulebook.specs.Atoms.{is_same_atom}
use Rattle.sb_rulebook.specs.KeptLaws.{AtomHasItsNumber, RegexHasItsNumber, AtomIsThereByNumber, RegexIsThereByNumber, RegexIsDeadByNumber}
use Rattle.sb_rulebook.proofs.ListFacts.{any-position, place-by-element, beside-position}
use Rattle.sb_rulebook.proofs.SameFacts.{same_regex, same_atom, regex_itself, atom_itself}

pub atom_has_its_number : OrderTellsApart → AtomHasItsNumber
atom_has_its_number apart kept atom n orderly =
    place-by-element is_same_atom (atom_itself apart) (same_atom apart) kept.atoms atom n orderly.atoms.once

pub regex_has_its_number : OrderTellsApart → RegexHasItsNumber
regex_has_its_number apart kept r n orderly =
    place-by-element regex_eq (regex_itself apart) (same_regex apart) kept.regexes r n orderly.regexes.once

pub atom_is_there_by_number : AtomIsThereByNumber
atom_is_there_by_number atoms atom = any-position (is_same_atom atom) 0 atoms

pub regex_is_there_by_number : RegexIsThereByNumber
regex_is_there_by_number regexes r = any-position (regex_eq r) 0 regexes

pub regex_is_dead_by_number : OrderTellsApart → RegexIsDeadByNumber
regex_is_dead_by_number apart kept r orderly =
    beside-position regex_eq (regex_itself apart) (same_regex apart) kept.regexes kept.dead r orderly.regexes.once
