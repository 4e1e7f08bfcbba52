use Rattle.std.proofs.Common.{◌≡◌, ◌<◌, map, length, get_or, Some, None, refl, ◌∙◌, arith}
use Rattle.std.proofs.lemmas.List.{length-map}
use Rattle.sb_hints.specs.Storing.{before_of, row_at, led_to, no_row}
use Rattle.sb_hints.proofs.Storage.{same-set, before_at, before-led}
use Rattle.sb_hints.proofs.Searching.{listed_passed}
use Rattle.sb_hints.proofs.lists.pass_over.Goals as goal

pub returns-then-is_led-clause-same : goal.returns-then-is_led-clause-same
returns-then-is_led-clause-same c =
    let rows = c.args.rows.now.items in
    rw c.lead.ensures
    (same-set rows c.in-Some.newer (led_to c.args.before (row_at rows c.in-Some.newer)) refl refl refl refl)

pub returns-then-is_led-clause-listed : goal.returns-then-is_led-clause-listed
returns-then-is_led-clause-listed c = λ kept gone leads lists h.
    let rows = c.args.rows.now.items in
    let newer = c.in-Some.newer in
    let is = rw c.deref.ensures.value at c.is_led.ensures c.if-is_led.true in
    let inside : newer < length (map before_of rows) = omega (arith, is.0, length-map rows before_of) in
    let led : get_or (map before_of rows) newer None ≡ Some c.args.number =
    before_at rows newer no_row is.0 ∙ is.1 in
    rw (c.lead.ensures, before-led rows newer c.args.before)
    (listed_passed kept (map before_of rows) lists c.args.number c.args.before h gone leads newer inside led)
