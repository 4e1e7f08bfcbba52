use Rattle.sb_proof.specs.declared.atom.Piece as code
use Rattle.sb_split.proofs.Words.{ℕ, List, map, sym, ap, ◌∙◌, arith, refl, list_all, is_small_piece, OnlyNumbers, piece_in}
use Rattle.sb_split.proofs.DefinedAtoms.{member_line}
use Rattle.sb_split.proofs.Exits.{called_none, called_on}
use Rattle.sb_split.proofs.defining.member_line.Goals as goal

pub returns : goal.returns
returns g c =
    let n = c.number.ensures in
    let all = c.in_ok-all.ensures in
    let pieces = c.as_slice.ensures in
    record {
      ok = λ asked memo before tracks.
          member_line asked before c.args.arena.now memo c.number.new.self c.args.regex c.in_ok-number.number
          (map piece_in c.in_ok-all.all.items) (map piece_in c.args.pieces.now.items) (g.L.Tape.told c.args.tape.now)
          (g.L.Tape.told c.number.new.tape) (all.0 ∙ ap (map piece_in) pieces)
          (ap (λ (ps : List code.Piece). list_all is_small_piece (map piece_in ps)) (sym pieces) ∙ all.1) (omega arith)
          c.in_ok-number.ensures.number (c.in_ok-number.ensures.puts asked memo before tracks);
      rest = record { stays = n.stays; expanded = n.expanded_stay; dead = n.dead_stay };
      counts = c.in_ok-number.ensures.counts;
    }

pub returns-in_err-number : goal.returns-in_err-number
returns-in_err-number g c =
    let x = c.from_residual in
    let n = c.number.ensures in
    let rest : OnlyNumbers c.args.trace.now c.number.new.self =
    record { stays = n.stays; expanded = n.expanded_stay; dead = n.dead_stay } in
    called_on ℕ _ x.result _ _ _ _ x.ensures.0 x.ensures.1 refl c.in_err-number.ensures.counts rest

pub returns-in_err-all : goal.returns-in_err-all
returns-in_err-all g c =
    let x = c.from_residual-in_err-all in
    let n = c.number.ensures in
    let rest : OnlyNumbers c.args.trace.now c.number.new.self =
    record { stays = n.stays; expanded = n.expanded_stay; dead = n.dead_stay } in
    called_none _ x.result _ _ x.ensures.0 x.ensures.1 c.in_ok-number.ensures.counts rest
