use Rattle.std.proofs.Common.{ap, ◌∙◌}
use Rattle.sb_lang.specs.Constructors.{mkpath}
use Rattle.sb_regex.specs.Numbered.{regex_at}
use Rattle.sb_proof.specs.Lines.{atom_in}
use Rattle.sb_rules.specs.Stepping.{is_this}
use Rattle.sb_rules.proofs.Parting.{this_member}
use Rattle.sb_rules.proofs.splits.leads.Goals as goal

pub returns-clause-ok : goal.returns-clause-ok
returns-clause-ok c =
    let rs = c.args.arena.now in
    c.is_this.ensures
    ∙ ap (is_this c.args.serial c.in_ok-path.path) c.member.ensures.exact
    ∙ this_member rs c.path.new.self c.in_ok-path.path (mkpath (regex_at rs c.args.regex) (regex_at rs c.args.target))
    c.args.serial c.order_tells_apart.ensures c.normal_regexes_each_once.ensures.distinct
    c.in_ok-path.ensures.extends c.in_ok-path.ensures.ok (atom_in c.args.between.now) c.requires.between
