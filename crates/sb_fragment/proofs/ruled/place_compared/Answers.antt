use Rattle.std.proofs.Common.{◌≡◌, inl, inr, refl, sym, ap}
use Rattle.sb_term.specs.Symbols.{sort_in}
use Rattle.sb_fragment.specs.declared.ruled.Place.TheVariants as place
use Rattle.sb_fragment.specs.Ruled.{place_compared}
use Rattle.sb_fragment.proofs.RuledFacts.{place_none, place_first}
use Rattle.sb_fragment.proofs.ruled.place_compared.Goals as goal

pub returns-in_default : goal.returns-in_default
returns-in_default c =
    place_none c.args.table.now c.args.arguments.now c.args.distinct c.in_default.len_below

pub returns-in-String : goal.returns-in-String
returns-in-String c =
    place_first c.args.table.now c.args.arguments.now c.first-item.result c.args.distinct _ _
    c.in-len1-up.len_at_least c.first-item.is c.in-String.ensures refl

pub returns-in-Bool : goal.returns-in-Bool
returns-in-Bool c =
    let nowhere : place.Nowhere ≡ place_compared c.args.distinct (sort_in c.sort.result) =
    elim c.in-Bool.is [
      | inl e ↦ sym (ap (λ s. place_compared c.args.distinct (sort_in s)) e)
      | inr f ↦ elim f [
        | inl e ↦ sym (ap (λ s. place_compared c.args.distinct (sort_in s)) e)
        | inr e ↦ sym (ap (λ s. place_compared c.args.distinct (sort_in s)) e)
      ]
    ]
    in
    place_first c.args.table.now c.args.arguments.now c.first-item.result c.args.distinct
    (sort_in c.sort.result) place.Nowhere c.in-len1-up.len_at_least c.first-item.is c.sort.ensures nowhere
