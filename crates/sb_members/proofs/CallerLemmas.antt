-- What a caller cites of splits, of heads and of what holds of each element of a list.
pub use Rattle.sb_members.proofs.Lists.{Each, each_all, all_each, each_in, each_as, contains_left, contains_right}
pub use Rattle.sb_members.proofs.Splits.{some_kept, split_kept, split_none, split_alt, split_one}
pub use Rattle.sb_members.proofs.Heads.{cat_rests, front_kept}
