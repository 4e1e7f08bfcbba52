-- What a caller cites of terms by what is known of them, of words, and of sets of numbers.
pub use Rattle.sb_problem.proofs.Keeping.{normals_new}
pub use Rattle.sb_problem.proofs.Texts.{after_then, short_is, text_size, text_means, text_pieces, short_text, long_text, other_opens, no_ground_word, short_ground_word, long_ground_word, text_single, long_single}
pub use Rattle.sb_problem.proofs.Takings.{constant_found, constant_missed, fewer_without, inserted_has, is_new, last_below, none_at, not_new, single_constants, weight-append, weight_last, below_one}
pub use Rattle.sb_problem.proofs.Chains.{none_left}
