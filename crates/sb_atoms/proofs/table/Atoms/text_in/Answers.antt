use Rattle.std.proofs.Common.{length, map, Some, subst}
use Rattle.sb_facts.proofs.CallerLemmas.{ok_more}
use Rattle.sb_regex.specs.Numbered.{regex_at}
use Rattle.sb_regex.proofs.CallerLemmas.{at_kept, long_kept, number_kept}
use Rattle.sb_term.specs.Numbered.{term_at}
use Rattle.sb_rulebook.specs.Atoms.{in_atom}
use Rattle.sb_rulebook.specs.Translation.{membership}
use Rattle.sb_proof.specs.Lines.{piece_in}
use Rattle.sb_atoms.specs.Translated.{has_declared}
use Rattle.sb_atoms.specs.Growing.{are_declared_pieces, is_below, Finds, IsLiteralOf}
use Rattle.sb_atoms.proofs.AffixFacts.{text_finds, text_moves}
use Rattle.sb_atoms.proofs.Found.{finds_none}
use Rattle.sb_atoms.proofs.Growth.{grown_regexes, moves_arena, moves_both, moves_given}
use Rattle.sb_atoms.proofs.PieceFacts.{single_declared}
use Rattle.sb_atoms.proofs.TextFacts.{membership_none}
use Rattle.sb_atoms.proofs.table.Atoms.text_in.Goals as goal

pub returns-in_err-pieces-clause-moves : goal.returns-in_err-pieces-clause-moves
returns-in_err-pieces-clause-moves c =
    moves_arena c.args.adds (λ sorts. has_declared sorts (term_at c.args.table.now c.args.text)) c.args.arena.now
    c.single_pieces.new.arena c.args.self.now c.in_err-pieces.ensures.extends

pub returns-in_default-clause-ok : goal.returns-in_default-clause-ok
returns-in_default-clause-ok c =
    let u = term_at c.args.table.now c.args.text in
    let r = regex_at c.args.arena.now c.args.regex in
    let none = rw c.in_default.is at c.in_ok-pieces.ensures.ok in
    finds_none c.args.adds c.single_pieces.new.arena c.args.self.now (λ atoms. membership atoms u (Some r))
    (λ atoms. membership_none atoms u none (Some r))

pub returns-in_default-clause-moves : goal.returns-in_default-clause-moves
returns-in_default-clause-moves c =
    moves_arena c.args.adds (λ sorts. has_declared sorts (term_at c.args.table.now c.args.text)) c.args.arena.now
    c.single_pieces.new.arena c.args.self.now c.in_ok-pieces.ensures.extends

pub returns-clause-ok : goal.returns-clause-ok
returns-clause-ok c =
    let old = c.args.arena.now in
    let rs = c.single_pieces.new.arena in
    let u = term_at c.args.table.now c.args.text in
    let id = c.args.regex in
    let ps = map piece_in c.in-Some.pieces.items in
    let is = rw c.in-Some.is at c.in_ok-pieces.ensures.ok in
    let known = number_kept old rs id c.in_ok-pieces.ensures.extends c.requires.regex in
    let m = text_moves c.args.adds rs c.args.self.now c.literal.new.self ps id known is.1 c.literal.ensures.grows in
    let below = grown_regexes (length old) (length rs) c.args.self.now c.literal.new.self
    (long_kept old rs c.in_ok-pieces.ensures.extends) c.requires.below m.atoms in
    ok_more (λ found. IsLiteralOf c.args.adds c.literal.new.self (in_atom ps id) found)
    (λ found. Finds is_below c.args.adds rs c.literal.new.self
    (λ atoms. membership atoms u (Some (regex_at old id))) found) c.literal.result
    (λ found h. subst (λ r. Finds is_below c.args.adds rs c.literal.new.self
    (λ atoms. membership atoms u (Some r)) found) (at_kept old rs id c.in_ok-pieces.ensures.extends c.requires.regex)
    (text_finds c.args.adds rs c.literal.new.self u ps id found is.0 known
    c.normal_regexes_each_once.ensures.distinct below h)) c.literal.ensures.ok

pub returns-clause-moves : goal.returns-clause-moves
returns-clause-moves c =
    let old = c.args.arena.now in
    let rs = c.single_pieces.new.arena in
    let u = term_at c.args.table.now c.args.text in
    let ps = map piece_in c.in-Some.pieces.items in
    let is = rw c.in-Some.is at c.in_ok-pieces.ensures.ok in
    let known = number_kept old rs c.args.regex c.in_ok-pieces.ensures.extends c.requires.regex in
    moves_both c.args.adds (λ sorts. has_declared sorts u) old rs rs c.args.self.now c.args.self.now
    c.literal.new.self
    (moves_arena c.args.adds (λ sorts. has_declared sorts u) old rs c.args.self.now c.in_ok-pieces.ensures.extends)
    (moves_given c.args.adds (λ sorts. are_declared_pieces sorts ps) (λ sorts. has_declared sorts u) rs rs
    c.args.self.now c.literal.new.self (λ sorts h. single_declared sorts u ps is.0 h)
    (text_moves c.args.adds rs c.args.self.now c.literal.new.self ps c.args.regex known is.1
    c.literal.ensures.grows))
