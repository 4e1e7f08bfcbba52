use Rattle.sb_search.proofs.Words.{◌≡◌, true, map, take, are_small}
use Rattle.sb_search.proofs.lines.numbers.Given as goal

abbrev pub invariant-loop-id : goal.invariant-loop-id
invariant-loop-id l = (l.all.items ≡ map (λ id. id.0) (take l.id-index l.ids))
    × (are_small (map (λ id. id.0) (take l.id-index l.ids)) ≡ true)
