use Rattle.std.proofs.Common.{◌&&◌, ◌==◌, not, sym, ◌∙◌, rules, tests}
use Rattle.std.proofs.lemmas.Iterator.{YieldsList-from_slice}
use Rattle.std.proofs.lemmas.Iterator.Search.{all_from_yields_List}
use Rattle.sb_reader.specs.Tokens.{is_bad_byte}
use Rattle.sb_reader.proofs.Passes.{all_pass_is}
use Rattle.sb_reader.proofs.parse.all_good_unescaped.Goals as goal

pub returns : goal.returns
returns c = all_from_yields_List (λ b. not (is_bad_byte b) && not (b == 92)) _ _ _ c.all.ensures.ran
    (YieldsList-from_slice c.args.bytes.now cc) (λ x b q k. search (rules, tests))
    ∙ sym (all_pass_is (λ b. not (is_bad_byte b) && not (b == 92)) c.args.bytes.now)
