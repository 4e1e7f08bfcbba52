-- What a caller cites: of sorts, that the test of equals is equality; of what a term asks of one constant's word, what such a term
-- looks like, means and holds; of reading, and of entries, what each term and each state keeps, as that it is well sorted.
pub use Rattle.sb_script.proofs.SortedTerms.{same_sort, same_sort_itself, terms_in_of}
pub use Rattle.sb_script.proofs.AskedTerms.{of_word, equality, IsAsking, a_membership, a_word_behind, a_word_in_front, asked_looks, membership_asks, asked_holds, asked_fits, asked_regular, asked_occurs}
pub use Rattle.sb_script.proofs.FoundLemmas.{if_some}
pub use Rattle.sb_script.proofs.ReadingFacts.{IsRead, found_named, read_keeps}
pub use Rattle.sb_script.proofs.StepLemmas.{with_mode, StepsKeep, entry_keeps}
