use Rattle.sb_refute.proofs.Words.{◌≡◌, ◌++◌, ◌∷◌, [], true, List, Some, length, sym, subst, ◌∙◌, Lit, IfOk, State, are_reserved, Backing, backing_of, Becomes, Stand}
use Rattle.sb_refute.proofs.Holding.{becomes-by, becomes-is, becomes-under, stand-clause}
use Rattle.sb_refute.proofs.evidence.Evidence.add.Goals as goal

pub invariant_of-self : goal.invariant_of-self
invariant_of-self c =
    let i = c.self.inside.parts in
    let ls = c.from_literals-clause.result in
    let same = sym (c.from_literals-clause.ensures ∙ c.in_ok-from_slice.ensures.items) in
    becomes-is (λ (s : State). Stand (record (backing_of i) { kept = s.kept }) × (s.trail.literals ≡ [])) c.add.result
    i.engine c.add.new.self _ (becomes-by c.add.result i.engine c.add.new.self _ c.add.ensures.ok c.add.ensures.err)
    c.self.invariant (
      stand-clause (backing_of i) (record { literals = ls; level = c.args.level })
          (subst (λ (e : Backing). are_reserved (length e.atoms) ls ≡ true) (sym c.self.view_is)
          (subst (λ ms. are_reserved (length c.args.self.now.atoms) ms ≡ true) same c.requires.known))
          (subst (λ (ms : List Lit). ms ≡ [] → ⊥) same c.requires.some) c.self.invariant.0,
      c.self.invariant.1,
    )

pub returns-clause-number : goal.returns-clause-number
returns-clause-number c =
    subst (λ (e : Backing). IfOk c.add.result (λ id. id.0 ≡ length e.kept)) c.self.view_is c.add.ensures.number

pub returns-clause-adds : goal.returns-clause-adds
returns-clause-adds c =
    let i = c.self.inside.parts in
    let now = record (backing_of i) { kept = c.add.new.self.kept } in
    subst (λ (ls : List Lit). Becomes c.add.result c.args.self.now now (record c.args.self.now {
      kept = c.args.self.now.kept ++ Some (record { literals = ls; level = c.args.level }) ∷ [];
    })) (c.from_literals-clause.ensures ∙ c.in_ok-from_slice.ensures.items)
    (subst (λ (e : Backing). Becomes c.add.result e now (record e {
      kept = e.kept ++ Some (record { literals = c.from_literals-clause.result; level = c.args.level }) ∷ [];
    })) c.self.view_is
    (becomes-under (λ (s : State). record (backing_of i) { kept = s.kept }) c.add.result i.engine c.add.new.self _
    (becomes-by c.add.result i.engine c.add.new.self _ c.add.ensures.ok c.add.ensures.err)))
