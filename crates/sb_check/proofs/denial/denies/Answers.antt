use Rattle.std.proofs.Common.{ℕ, Option, option_map, ap, sym, ◌∙◌}
use Rattle.std.specs.HashSet.{contains}
use Rattle.sb_term.specs.declared.term.Serial.{Serial}
use Rattle.sb_check.specs.Denying.{are_equal, denies_by}
use Rattle.sb_check.proofs.denial.denies.Goals as goal

pub returns-in-Some : goal.returns-in-Some
returns-in-Some c =
    c.contains.ensures
    ∙ ap (λ (o : Option ℕ). denies_by (contains are_equal c.args.given.now) c.args.literal o)
    (ap (λ (o : Option Serial). option_map (λ (serial : Serial). serial.0) o) (sym c.in-Some.is)
    ∙ c.constant_of.ensures)

pub returns-in-None : goal.returns-in-None
returns-in-None c =
    ap (λ (o : Option ℕ). denies_by (contains are_equal c.args.given.now) c.args.literal o)
    (ap (λ (o : Option Serial). option_map (λ (serial : Serial). serial.0) o) (sym c.in-None.is)
    ∙ c.constant_of.ensures)
