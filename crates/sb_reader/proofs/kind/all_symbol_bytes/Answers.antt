use Rattle.std.proofs.Common.{sym, ◌∙◌, rules, tests}
use Rattle.std.proofs.lemmas.Iterator.{YieldsList-from_slice}
use Rattle.std.proofs.lemmas.Iterator.Search.{all_from_yields_List}
use Rattle.sb_reader.specs.Tokens.{is_symbol_byte}
use Rattle.sb_reader.proofs.Passes.{all_pass_is}
use Rattle.sb_reader.proofs.kind.all_symbol_bytes.Goals as goal

pub returns : goal.returns
returns c = all_from_yields_List is_symbol_byte _ _ _ c.all.ensures.ran (YieldsList-from_slice c.args.bytes.now cc)
    (λ x b q k. search (rules, tests)) ∙ sym (all_pass_is is_symbol_byte c.args.bytes.now)
