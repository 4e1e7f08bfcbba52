-- What is relevant is the least that its clauses allow.
use Rattle.std.proofs.Common.{List}
use Rattle.sb_lang.specs.Regex.{Regex}
use Rattle.sb_rulebook.specs.Atoms.{Atom}
use Rattle.sb_rulebook.specs.Verdicts.{Question}
use Rattle.sb_rulebook.specs.Relevant.{IsAsked, of_assertion, of_assumption, of_conjunct, of_first, of_second, IsRelevant, of_check, of_bound, of_length, of_front, of_rest, of_cut, IsRelevantRegex, of_membership, of_constant, of_derivative}
use Rattle.sb_sound.specs.RelevantLaws.{KeepsAsked, KeepsRelevant, KeepsRegexes, AskedIsClosed, RelevantIsClosed, RelevantRegexesAreClosed, AskedIsLeast, RelevantIsLeast, RelevantRegexesAreLeast}

pub asked_is_closed : AskedIsClosed
asked_is_closed q atoms = record {
  assertions = of_assertion;
  assumptions = of_assumption;
  conjuncts = of_conjunct;
  firsts = of_first;
  seconds = of_second;
}

module _ (q : Question) (atoms : List Atom) (P : Atom → Type 0) (keeps : KeepsAsked q atoms P) where
  asked_least : (a : Atom) → IsAsked q atoms a → P a
  asked_least _ (of_assertion t l a live is there) = keeps.assertions t l a live is there
  asked_least _ (of_assumption given among) = keeps.assumptions given among
  asked_least _ (of_conjunct ls l a whole among there) = keeps.conjuncts ls l a (asked_least _ whole) among there
  asked_least _ (of_first l m a whole there) = keeps.firsts l m a (asked_least _ whole) there
  asked_least _ (of_second l m a whole there) = keeps.seconds l m a (asked_least _ whole) there

pub asked_is_least : (P : Question → List Atom → Atom → Type 0) → AskedIsLeast P
asked_is_least P q atoms keeps = asked_least q atoms (P q atoms) keeps

pub relevant_is_closed : RelevantIsClosed
relevant_is_closed checks atoms = record {
  asked = of_check;
  bounds = of_bound;
  lengths = of_length;
  fronts = of_front;
  rests = of_rest;
  cuts = of_cut;
}

module _ (checks : List Question) (atoms : List Atom) (P : Atom → Type 0) (keeps : KeepsRelevant checks atoms P) where
  relevant_least : (a : Atom) → IsRelevant checks atoms a → P a
  relevant_least _ (of_check q a check asked) = keeps.asked q a check asked
  relevant_least _ (of_bound q a x k check asked speaks near) = keeps.bounds q a x k check asked speaks near
  relevant_least _ (of_length serial n bound) = keeps.lengths serial n (relevant_least _ bound)
  relevant_least _ (of_front serial p ps r w whole word) = keeps.fronts serial p ps r w (relevant_least _ whole) word
  relevant_least _ (of_rest serial p ps r w whole word) = keeps.rests serial p ps r w (relevant_least _ whole) word
  relevant_least _ (of_cut w ps r whole) = keeps.cuts w ps r (relevant_least _ whole)

pub relevant_is_least : (P : List Question → List Atom → Atom → Type 0) → RelevantIsLeast P
relevant_is_least P checks atoms keeps = relevant_least checks atoms (P checks atoms) keeps

pub regexes_are_closed : RelevantRegexesAreClosed
regexes_are_closed checks atoms = record {
  memberships = of_membership;
  constants = of_constant;
  derivatives = of_derivative;
}

module _ (checks : List Question) (atoms : List Atom) (P : Regex → Type 0) (keeps : KeepsRegexes checks atoms P) where
  regexes_least : (r : Regex) → IsRelevantRegex checks atoms r → P r
  regexes_least _ (of_membership ps r relevant) = keeps.memberships ps r relevant
  regexes_least _ (of_constant serial ms distinct relevant) = keeps.constants serial ms distinct relevant
  regexes_least _ (of_derivative r c before is) = keeps.derivatives r c (regexes_least _ before) is

pub regexes_are_least : (P : List Question → List Atom → Regex → Type 0) → RelevantRegexesAreLeast P
regexes_are_least P checks atoms keeps = regexes_least checks atoms (P checks atoms) keeps
