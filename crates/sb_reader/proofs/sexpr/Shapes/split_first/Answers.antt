use Rattle.sb_reader.specs.Forms.{shapes_in}
use Rattle.sb_reader.proofs.Laid.{no_first, first_atom, first_list}
use Rattle.sb_reader.proofs.sexpr.Shapes.split_first.Goals as goal

pub returns-in_default : goal.returns-in_default
unfolding shapes_in
returns-in_default c = no_first c.args.self.nodes.now c.args.self.bytes.now c.in_default.len_below

pub returns-in-Atom : goal.returns-in-Atom
unfolding shapes_in
returns-in-Atom c = first_atom c.args.self.nodes.now c.args.self.bytes.now _ _ _ _ _ _ c.in-len1-up.len_at_least
    c.in-Atom.is c.cut.ensures.first c.cut.ensures.second c.atom_shape.ensures

pub returns-in-List : goal.returns-in-List
unfolding shapes_in
returns-in-List c = first_list c.args.self.nodes.now _ _ c.args.self.bytes.now _ _ _ _ _ c.in-len1-up.len_at_least
    c.in-List.is c.cut-in-List.ensures.first c.cut-in-List.ensures.second c.cut-in-List-2.ensures.first
    c.cut-in-List-2.ensures.second
