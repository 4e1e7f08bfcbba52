use Rattle.std.proofs.Common.{◌∙◌, ◌++◌, ℕ, List, length, take, nat_eq, refl, ap, arith}
use Rattle.std.proofs.lemmas.Result.{err_from_is_err_and}
use Rattle.sb_input.specs.TakingEntries.{EntriesState}
use Rattle.sb_input.proofs.EntryLemmas.{cut_none, cut_at, piece_read}
use Rattle.sb_input.proofs.entries.Entries.read_on.Goals as goal

pub returns-in_err-make_room-clause-err : goal.returns-in_err-make_room-clause-err
returns-in_err-make_room-clause-err g c =
    let p = err_from_is_err_and c.from_residual.result c.from_residual.ensures.1 in
    rw p.1 (cut_none c.args.self.now _ _ (omega (arith, c.requires.room)) refl)

pub returns-in_err-count-clause-err : goal.returns-in_err-count-clause-err
returns-in_err-count-clause-err g c =
    let p = err_from_is_err_and c.from_residual-in_err-count.result c.from_residual-in_err-count.ensures.1 in
    rw p.1 (cut_none c.args.self.now _ _ (omega (arith, c.requires.room)) c.in_err-count.ensures.err)

pub returns-in_err-feed_piece-clause-err : goal.returns-in_err-feed_piece-clause-err
returns-in_err-feed_piece-clause-err g c =
    let p = err_from_is_err_and c.from_residual-in_err-feed_piece.result c.from_residual-in_err-feed_piece.ensures.1 in
    rw p.1
    (cut_at c.in_ok-count.count c.args.self.now _ _
    (omega (
      arith,
      ap (λ (s : EntriesState). s.read) c.self.view_is,
      ap (λ (s : EntriesState). s.limit) c.self.view_is,
      c.self.invariant.most,
      c.in_ok-make_room.ensures.most,
      c.in_ok-count.ensures.within,
    ))
    c.in_ok-count.ensures.moved)

pub returns-clause-ok : goal.returns-clause-ok
returns-clause-ok g c =
    let l = c.self.inside in
    let count = c.in_ok-count.count in
    rw (← c.self.view_is)
    (piece_read (record { kept = l.feed; read = l.read; limit = l.limit }) c.read_script.new.piece.items count
    c.feed_piece.new.feed _ _ (ap (λ (s : EntriesState). s.kept.1) c.self.view_is ∙ c.requires.goes_on)
    (c.in_ok-feed_piece.ensures
    ∙ ap (λ (xs : List ℕ). (l.feed.0 ++ take count xs, nat_eq (length (take count xs)) 0)) c.deref.ensures.value)
    c.in_ok-count.ensures.fits
    (omega (arith, c.self.invariant.most, c.in_ok-make_room.ensures.most, c.in_ok-count.ensures.within))
    c.in_ok-count.ensures.moved c.in_ok-count.ensures.bytes)
