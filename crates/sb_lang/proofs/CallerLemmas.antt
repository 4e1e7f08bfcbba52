-- What a caller cites of regexes: the code by which proofs tell them apart where a model's value holds them, their
-- parts, and concatenations with no word and with the empty word.
use Rattle.std.specs.Coded.{Coded, coded_list, coded_ℕ}
use Rattle.sb_lang.specs.Regex.{Regex}
use Rattle.sb_lang.specs.Order.{code}
use Rattle.sb_lang.proofs.OrderFacts.{code_tells_apart}
pub use Rattle.sb_lang.proofs.OrderFacts.{then_assoc}
pub use Rattle.sb_lang.proofs.MemberFacts.{parts-regexes}
pub use Rattle.sb_lang.proofs.MemberLists.{all_canonical}
pub use Rattle.sb_lang.proofs.UnionForm.{alt_parts}
pub use Rattle.sb_lang.proofs.IntersectionForm.{and_parts_of}
pub use Rattle.sb_lang.proofs.NormalFormFacts.{mkcat-none, mkcat-eps, eps-mkcat, none_is_no_cat}

abbrev pub coded_regex : Coded Regex
coded_regex = record {
  code = λ r. (coded_list coded_ℕ).code (code r);
  inj = λ a b same. code_tells_apart a b ((coded_list coded_ℕ).inj (code a) (code b) same);
}
