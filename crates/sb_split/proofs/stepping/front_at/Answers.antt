use Rattle.sb_split.proofs.Words.{IfOk-weaker, Names, atom_in, subst}
use Rattle.sb_split.proofs.stepping.front_at.Goals as goal

pub front_of-requires : goal.front_of-requires
front_of-requires c =
    c.requires.formed (atom_in c.describe.result.now)
    (subst (λ i. Names c.args.atoms.now i (atom_in c.describe.result.now)) c.of.ensures c.describe.ensures.names)

pub returns : goal.returns
returns c =
    let names =
    subst (λ i. Names c.args.atoms.now i (atom_in c.describe.result.now)) c.of.ensures c.describe.ensures.names in
    IfOk-weaker c.front_of.result _ _
    (λ front is. record { atom = atom_in c.describe.result.now; names = names; is = is }) c.front_of.ensures
