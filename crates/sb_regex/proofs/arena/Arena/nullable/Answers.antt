use Rattle.sb_regex.specs.Table.{regexes_of}
use Rattle.sb_regex.proofs.Interned.{fact_at}
use Rattle.sb_regex.proofs.arena.Arena.nullable.Goals as goal

pub returns : goal.returns
returns c =
    let known = fact_at (regexes_of c.self.inside.nodes.keys) c.self.inside.nodes.keys c.self.inside.facts.items
    c.args.id c.index.result.now c.self.invariant.0 (rw (c.self.view_is) c.requires)
    (rw (c.number.ensures) at c.index.ensures) in
    rw (← c.self.view_is) known.nullable
