use Rattle.sb_refute.proofs.Words.{◌<◌, length, IfSome, List, Option, sym, subst, Asserted, Backing, backing_of, Becomes, placed, Stand}
use Rattle.sb_refute.proofs.Holding.{becomes-is, becomes-under, stand-placed}
use Rattle.sb_refute.proofs.evidence.Evidence.keep.Goals as goal

pub invariant_of-self : goal.invariant_of-self
invariant_of-self c =
    let v = backing_of c.self.inside.parts in (
      becomes-is (λ (xs : List (Option Asserted)). Stand (record v { asserted = xs })) c.put_at.result v.asserted
          c.put_at.new.all.items (placed v.asserted c.args.place c.args.asserted) c.put_at.ensures c.self.invariant.0
          (stand-placed v c.args.place c.args.asserted
          (subst (λ (e : Backing). IfSome c.args.asserted (λ a. a.literal.atom < length e.atoms)) (sym c.self.view_is)
          c.requires) c.self.invariant.0),
      c.self.invariant.1,
    )

pub returns : goal.returns
returns c =
    let v = backing_of c.self.inside.parts in
    subst (λ (e : Backing). Becomes c.put_at.result e (record v { asserted = c.put_at.new.all.items })
    (record e { asserted = placed e.asserted c.args.place c.args.asserted })) c.self.view_is
    (becomes-under (λ (xs : List (Option Asserted)). record v { asserted = xs }) c.put_at.result v.asserted
    c.put_at.new.all.items (placed v.asserted c.args.place c.args.asserted) c.put_at.ensures)
