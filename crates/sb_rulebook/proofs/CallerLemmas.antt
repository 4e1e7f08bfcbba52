-- What a caller cites of the rules of proofs: the tests of equals, what an accepted result comes from, tables, the
-- literal of what a term asks of one constant's word, and what stays the same over a larger table.
pub use Rattle.sb_rulebook.proofs.SameFacts.{FindsEquals, same_lists, same_regex, same_number, same_word, same_piece, same_pieces, same_variable, same_summand, same_atom, FindsItself, regex_itself, atom_itself}
pub use Rattle.sb_rulebook.proofs.ListFacts.{by_order}
pub use Rattle.sb_rulebook.proofs.Accepting.{some_of, if_so, if_not, same_ok}
pub use Rattle.sb_rulebook.proofs.KeptFacts.{table-push, NamesKept, names-kept}
pub use Rattle.sb_rulebook.proofs.AskedTranslation.{asked_translation}
pub use Rattle.sb_rulebook.proofs.TableStays.{Stays, AllStay, none_stay, one_stays, negated_stays, conjunction_stays, implication_stays, equivalence_stays, implications_stay, exclusive_from_stays, word_equality_stays, affix_stays, term_stays, argument, arguments_are}
