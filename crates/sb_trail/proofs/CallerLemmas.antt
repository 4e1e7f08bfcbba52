-- What a caller cites of the entries of a trail, of their atoms and levels.
pub use Rattle.sb_trail.proofs.EntryLemmas.{cond_none, cond_cases, entry_of-push, entry_of-push_none, entry_of-front, AreDistinct-pop, level_after-push, level_behind-above, level_after-above, entry_of-level, AreLevelled-front, up_to-all, up_to-push_above, up_to-up_to, entry_of-up_to}
pub use Rattle.sb_trail.proofs.TableLemmas.{length-grown}
