-- What the crates above cite, by subject.
pub use Rattle.sb_facts.proofs.Truths.{or_swap, never_both}
pub use Rattle.sb_facts.proofs.Options.{some-none, none_by, some_value, get_push, get_mapped, some_then, some_mapped, mapped_some, then_some, after_map, number_more, mark_there}
pub use Rattle.sb_facts.proofs.Results.{told_ok, told_err, ok_then, ok_more}
pub use Rattle.sb_facts.proofs.Numbers.{equal_itself, equal_turned, same_number, cmp_equal, cmp_less, product_falls, one_place, numbers_themselves}
pub use Rattle.sb_facts.proofs.Lists.{all_append, all_push, all_weaker, all_same}
