use Rattle.std.proofs.lemmas.Option.{slice_get-map, slice_get_past, slice_get_read}
use Rattle.std.proofs.Common.{Bool, false, None, Some, option_map, refl, sym, ap, ◌∙◌}
use Rattle.sb_meaning.specs.Sorts.{is_same_sort}
use Rattle.sb_term.specs.Symbols.{sort_in}
use Rattle.sb_rules.proofs.atoms.is_declared.Goals as goal

pub returns-in-None : goal.returns-in-None
returns-in-None c =
    sym (ap (λ o. elim o as (λ _. Bool) [ None ↦ false | Some other ↦ is_same_sort (sort_in c.args.sort) other ])
    (slice_get-map sort_in c.args.sorts.now c.args.serial
    ∙ ap (option_map sort_in) (slice_get_past c.args.sorts.now c.args.serial c.in-None.ensures.lookup.3)))

pub returns-in-Some : goal.returns-in-Some
returns-in-Some c =
    c.is_same_sort.ensures
    ∙ sym (ap (λ o. elim o as (λ _. Bool) [ None ↦ false | Some other ↦ is_same_sort (sort_in c.args.sort) other ])
    (slice_get-map sort_in c.args.sorts.now c.args.serial
    ∙ ap (option_map sort_in)
    (slice_get_read c.args.sorts.now _ c.args.serial c.in-Some.other.now refl c.in-Some.ensures.lookup.3.0
    c.in-Some.ensures.lookup.1)))
