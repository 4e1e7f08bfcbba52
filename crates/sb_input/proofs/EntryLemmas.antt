-- What reading on, and what is found, make of what was read.
use Rattle.std.proofs.Common.{◌≡◌, ℕ, zero, suc, ◌+◌, ◌-◌, ◌<◌, ◌≤◌, Bool, true, false, nat_eq, List, [], ◌++◌, length, take, drop, Option, Some, None, option_map, refl, sym, ap, ◌∙◌, subst, arith, inl, inr, append_assoc, length-append, length-take}
use Rattle.std.specs.Prelude.{IfSome, ◌⊎◌}
use Rattle.std.proofs.lemmas.Bool.{false≢true, eqb-true}
use Rattle.std.proofs.lemmas.List.{append-nil, drop-drop, drop_all, length-drop}
use Rattle.std.proofs.Math.Seq.{take-add}
use Rattle.sb_world.specs.Outside.{Outside, ReadsFront, read_at}
use Rattle.sb_world.specs.Moved.{Moved, moved_by, reading}
use Rattle.sb_world.specs.declared.InPort.TheVariants as in_port
use Rattle.sb_world.proofs.CallerLemmas.{moved_by-both, moved_by-nothing, read_at-moves, reading-add, reading-zero}
use Rattle.sb_reader.specs.declared.feed.Ending.{Ending}
use Rattle.sb_reader.specs.declared.feed.Ending.TheVariants.{Clean, Unfinished}
use Rattle.sb_reader.specs.declared.feed.Next.{Next}
use Rattle.sb_reader.specs.declared.feed.Next.TheVariants as next
use Rattle.sb_reader.specs.Tokens.{is_open_gap}
use Rattle.sb_reader.specs.Forms.{form_of}
use Rattle.sb_reader.specs.Entries.{Entry, Command, Refused, HoldsNoEntry}
use Rattle.sb_reader.specs.Feeding.{Unanswered, Takes, Waits, Ends, ShortensTo, CutsComment}
use Rattle.sb_reader.specs.Laws.{EntryHasBytes}
use Rattle.sb_reader.proofs.CallerLemmas.{shortens_to_itself, shortens_twice, shortens_before, same_entry, same_none, same_end}
use Rattle.sb_input.specs.TakingEntries.{EntriesState, ReadsOn, IsLeft, TakesEntry, Leaves, Finds, Advances, IsCutShort, is_clean, most_to_come}
use Rattle.sb_input.specs.KeepingEntries.{IsWithin, FindsKept, ReadsPiece, with_kept, turns_left}
use Rattle.sb_input.specs.Pieces.{turns_of}
use Rattle.sb_input.proofs.PieceLemmas.{end_met, on_read, at_some, moved_both, turns_fewer}

pub piece_read : (old : EntriesState) (piece : List ℕ) (count : ℕ) (kept : Unanswered) (before after : Outside)
    → old.kept.1 ≡ false → kept ≡ (old.kept.0 ++ take count piece, nat_eq (length (take count piece)) 0)
    → count ≤ length piece → old.read + count ≤ old.limit
    → after ≡ read_at in_port.Script count before
    → IfSome before.script_in.left (λ left. ReadsFront left piece count)
    → ReadsPiece old (record { kept = kept; read = old.read + count; limit = old.limit }) before after
piece_read old piece count kept before after goes same fits room moved front =
    let size : length (take count piece) ≡ count = omega (arith, length-take count piece) in
    let ended = ap (λ (n : ℕ). nat_eq n 0) (sym size) ∙ sym (ap (λ (k : Unanswered). k.1) same) in
    let bytes = ap (λ (k : Unanswered). k.0) same in
    record {
      count = count;
      reads = record {
        moved = moved ∙ read_at-moves in_port.Script count before;
        read = refl;
        limit = refl;
        within = room;
        ended = λ e. absurd (false≢true (sym goes ∙ e));
      };
      grown = ap length bytes ∙ length-append old.kept.0 (take count piece)
          ∙ ap (λ (n : ℕ). length old.kept.0 + n) size;
      nothing = λ e. end_met count (ended ∙ e);
      something = λ e. on_read count (ended ∙ e);
      bytes = λ left told.
          let read = at_some before.script_in.left (λ rest. ReadsFront rest piece count) left told front in
          (bytes ∙ ap (λ (xs : List ℕ). old.kept.0 ++ xs) read.bytes, (read.within, read.progress));
    }

-- So many bytes were read since, and no entry was taken.
pub record Sofar (old now : EntriesState) (before after : Outside) : Type 0 where
  pub count : ℕ
  pub moved : after ≡ moved_by (reading in_port.Script count) before
  pub read : now.read ≡ old.read + count
  pub limit : now.limit ≡ old.limit
  pub ended : old.kept.1 ≡ true → (count ≡ 0) × (now.kept.1 ≡ true)
  pub shorter : length now.kept.0 ≤ length old.kept.0 + count
  pub bytes : (left rest : List ℕ) → IsLeft old before left → ShortensTo rest old.kept.0
      → IsLeft now after (drop count left) × ((count ≤ length left) × ShortensTo (rest ++ take count left) now.kept.0)

pub sofar_none : (s : EntriesState) (o : Outside) → Sofar s s o o
sofar_none s o = record {
  count = 0;
  moved = sym (ap (λ (m : Moved). moved_by m o) (reading-zero in_port.Script) ∙ moved_by-nothing o);
  read = omega arith;
  limit = refl;
  ended = λ e. (refl, e);
  shorter = omega arith;
  bytes = λ left rest is shortens.
      (is, (omega arith, subst (λ (xs : List ℕ). ShortensTo xs s.kept.0) (sym (append-nil rest)) shortens));
}

told_behind : (count : ℕ) (before after : Outside) (left : List ℕ)
    → after ≡ moved_by (reading in_port.Script count) before → before.script_in.left ≡ Some left
    → after.script_in.left ≡ Some (drop count left)
told_behind count before after left moved told =
    ap (λ (o : Outside). o.script_in.left) moved ∙ ap (option_map (drop count)) told

-- what bytes shorten to is no longer
cut_shorter : (whole kept : List ℕ) → (whole ≡ kept) ⊎ CutsComment whole kept → length kept ≤ length whole
cut_shorter whole kept (inl same) = let size = ap length same in omega arith
cut_shorter whole kept (inr c) =
    let long = ap length c.whole_is in
    let short = ap length c.kept_is in
    let sum = length-append c.inside c.rest in
    omega arith

shortens-length : (left kept : List ℕ) → ShortensTo left kept → length kept ≤ length left
shortens-length left kept s =
    let size = ap length s.split ∙ length-append s.gap s.whole in
    let cut = cut_shorter s.whole kept s.cut in
    omega arith

-- white space and comments in front are taken
waits_on : (old now new : EntriesState) (o p : Outside) → Sofar old now o p → Waits now.kept new.kept
    → new ≡ with_kept now new.kept → Sofar old new o p
waits_on old now new o p s waits same =
    let read = ap (λ (t : EntriesState). t.read) same in
    let limit = ap (λ (t : EntriesState). t.limit) same in
    record {
      count = s.count;
      moved = s.moved;
      read = read ∙ s.read;
      limit = limit ∙ s.limit;
      ended = λ e. absurd (false≢true (sym waits.more_may_come ∙ (s.ended e).1));
      shorter = let short = shortens-length now.kept.0 new.kept.0 waits.shorter in omega (arith, s.shorter);
      bytes = λ left rest is shortens.
          let h = s.bytes left rest is shortens in (
            record { told = h.0.told; none = λ e. absurd (false≢true (sym waits.still ∙ e)) },
            (h.1.0, shortens_twice (rest ++ take s.count left) now.kept.0 new.kept.0 h.1.1 waits.shorter),
          );
    }

-- the next piece behind the ones so far
piece_behind : (old now new : EntriesState) (o p q : Outside) → Sofar old now o p → now.kept.1 ≡ false
    → ReadsPiece now new p q → Sofar old new o q
piece_behind old now new o p q s goes r =
    let moved = moved_both in_port.Script s.count r.count o p q s.moved r.reads.moved in
    record {
      count = s.count + r.count;
      moved = moved;
      read = omega (arith, s.read, r.reads.read);
      limit = r.reads.limit ∙ s.limit;
      ended = λ e. absurd (false≢true (sym goes ∙ (s.ended e).1));
      shorter = omega (arith, s.shorter, r.grown);
      bytes = λ left rest is shortens.
          let first = s.bytes left rest is shortens in
          let second = r.bytes (drop s.count left) first.0.told in
          let behind = drop-drop r.count s.count left in
          let more = take r.count (drop s.count left) in
          let read : (rest ++ take s.count left) ++ more ≡ rest ++ take (s.count + r.count) left =
          append_assoc rest (take s.count left) more
          ∙ ap (λ (xs : List ℕ). rest ++ xs) (sym (take-add s.count r.count left)) in (
            record {
              told = told_behind (s.count + r.count) o q left moved is.told;
              none = λ e. sym behind
                  ∙ ap (drop r.count) (second.1.1 (r.nothing e)) ∙ drop_all r.count [] (omega arith);
            },
            (
              let size = length-drop s.count left in omega (arith, first.1.0, second.1.0),
              subst (λ (xs : List ℕ). ShortensTo xs new.kept.0) read
                  (subst (λ (xs : List ℕ). ShortensTo ((rest ++ take s.count left) ++ more) xs) (sym second.0)
                  (shortens_before (rest ++ take s.count left) now.kept.0 more first.1.1)),
            ),
          );
    }

pub sofar_on : (old now kept new : EntriesState) (o p q : Outside) → Sofar old now o p → FindsKept None now kept
    → ReadsPiece kept new p q → Sofar old new o q
sofar_on old now kept new o p q s none r =
    piece_behind old kept new o p q (waits_on old now kept o p s none.1 none.0) none.1.still r

pub turns_left-smaller : (now kept new : EntriesState) (p q : Outside) → FindsKept None now kept
    → ReadsPiece kept new p q → turns_left new < turns_left now
turns_left-smaller now kept new p q none r =
    let read = ap (λ (t : EntriesState). t.read) none.0 in
    let limit = ap (λ (t : EntriesState). t.limit) none.0 in
    subst (λ (b : Bool). turns_left new < turns_of b (now.limit - now.read)) (sym none.1.more_may_come)
    (turns_fewer new.kept.1 (new.limit - new.read) (now.limit - now.read)
    (λ e. omega (arith, read, limit, r.reads.limit, r.reads.read))
    (λ e. omega (arith, read, limit, r.reads.limit, r.reads.read, r.reads.within, r.something e)))

-- It is cut short where nothing is read, or a piece, or behind what was read so far.
pub cut_none : (s : EntriesState) (o q : Outside) → s.read ≤ s.limit → q ≡ o → IsCutShort s o q
cut_none s o q within same = record {
  count = 0;
  moved = same ∙ sym (ap (λ (m : Moved). moved_by m o) (reading-zero in_port.Script) ∙ moved_by-nothing o);
  within = omega (arith, within);
}

pub cut_at : (count : ℕ) (s : EntriesState) (o q : Outside) → s.read + count ≤ s.limit
    → q ≡ read_at in_port.Script count o → IsCutShort s o q
cut_at count s o q within moved =
    record { count = count; moved = moved ∙ read_at-moves in_port.Script count o; within = within }

pub cut_now : (old now : EntriesState) (o p : Outside) → Sofar old now o p → now.read ≤ now.limit
    → IsCutShort old o p
cut_now old now o p s within =
    record { count = s.count; moved = s.moved; within = omega (arith, s.read, s.limit, within) }

pub cut_behind : (old now kept : EntriesState) (o p q : Outside) → Sofar old now o p → FindsKept None now kept
    → IsCutShort kept p q → IsCutShort old o q
cut_behind old now kept o p q s none cut =
    let read = ap (λ (t : EntriesState). t.read) none.0 in
    let limit = ap (λ (t : EntriesState). t.limit) none.0 in
    record {
      count = s.count + cut.count;
      moved = moved_both in_port.Script s.count cut.count o p q s.moved cut.moved;
      within = omega (arith, s.read, s.limit, read, limit, cut.within);
    }

-- What was found takes nothing from the world.
reads_found : (old now new : EntriesState) (o p : Outside) (s : Sofar old now o p) → new ≡ with_kept now new.kept
    → new.kept.1 ≡ now.kept.1 → new.read ≤ new.limit → ReadsOn s.count old new o p
reads_found old now new o p s same flag within = record {
  moved = s.moved;
  read = ap (λ (t : EntriesState). t.read) same ∙ s.read;
  limit = ap (λ (t : EntriesState). t.limit) same ∙ s.limit;
  within = within;
  ended = λ e. let h = s.ended e in (h.0, flag ∙ h.1);
}

left_found : (now new : EntriesState) (p : Outside) (behind : List ℕ) → new.kept.1 ≡ now.kept.1 → IsLeft now p behind
    → IsLeft new p behind
left_found now new p behind ended is = record { told = is.told; none = λ e. is.none (sym ended ∙ e) }

-- an entry of the bytes that are kept is one of those that were read
takes_entry : (entry : Entry) (old new : Unanswered) (rest : List ℕ) → Takes entry old new → ShortensTo rest old.0
    → TakesEntry new.1 entry rest new.0
takes_entry entry old new rest takes shortens =
    subst (λ (ended : Bool). TakesEntry ended entry rest new.0) (sym takes.2)
    (same_entry old.1 entry rest old.0 takes.0 new.0 shortens takes.1 takes.3)

open_gap_is_none : (ended : Bool) (bytes : List ℕ) → is_open_gap bytes ≡ true → HoldsNoEntry ended bytes
open_gap_is_none ended bytes h = record {
  tokens = [];
  front = [];
  rest = bytes;
  split = refl;
  spelled = refl;
  open_entry = refl;
  no_token = inl h;
}

-- no whole entry is left
none_at_end : (ending : Ending) (old new : Unanswered) → Ends ending old new
    → (old.1 ≡ true) × (new ≡ old) × HoldsNoEntry true old.0 × (is_open_gap old.0 ≡ is_clean ending)
none_at_end Clean old new ends = (ends.0, ends.1, open_gap_is_none true old.0 ends.2, ends.2)
none_at_end Unfinished old new ends = (ends.0, ends.1, ends.3, ends.2)

-- what is found where these bytes are left
abbrev FindsLeft : Next → ℕ → EntriesState → EntriesState → Outside → Outside → Type 0
FindsLeft found count old new o p = (left rest : List ℕ) → IsLeft old o left → ShortensTo rest old.kept.0
    → IsLeft new p (drop count left) × ((count ≤ length left)
    × ((behind : List ℕ) × Finds new.kept.1 found (rest ++ take count left) behind × ShortensTo behind new.kept.0))

advances : (found : Next) (old now new : EntriesState) (o p : Outside) (s : Sofar old now o p)
    → new ≡ with_kept now new.kept → new.kept.1 ≡ now.kept.1 → IsWithin new → Leaves found old new
    → FindsLeft found s.count old new o p → Advances found old new o p
advances found old now new o p s same flag within leaves finds = record {
  count = s.count;
  reads = reads_found old now new o p s same flag within.most;
  leaves = leaves;
  below = within.below;
  finds = finds;
}

entry_left : (entry : Entry) (old now new : EntriesState) (o p : Outside) (s : Sofar old now o p)
    → Takes entry now.kept new.kept
    → (left rest : List ℕ) → IsLeft old o left → ShortensTo rest old.kept.0
    → IsLeft new p (drop s.count left) × ((s.count ≤ length left)
    × ((behind : List ℕ) × TakesEntry new.kept.1 entry (rest ++ take s.count left) behind
    × ShortensTo behind new.kept.0))
entry_left entry old now new o p s takes left rest is shortens =
    let h = s.bytes left rest is shortens in (
      left_found now new p (drop s.count left) takes.2 h.0,
      (
        h.1.0,
        (
          new.kept.0,
          takes_entry entry now.kept new.kept (rest ++ take s.count left) takes h.1.1,
          shortens_to_itself new.kept.0,
        ),
      ),
    )

limit_left : (old now new : EntriesState) (o p : Outside) (s : Sofar old now o p) → Waits now.kept new.kept
    → new ≡ with_kept now new.kept → FindsLeft next.NotYet s.count old new o p
unfolding waits_on
limit_left old now new o p s waits same left rest is shortens =
    let h = (waits_on old now new o p s waits same).bytes left rest is shortens in
    let read = rest ++ take s.count left in
    (h.0, (h.1.0, (read, (refl, same_none false read new.kept.0 h.1.1 waits.no_entry), h.1.1)))

end_left : (ending : Ending) (old now new : EntriesState) (o p : Outside) (s : Sofar old now o p)
    → Ends ending now.kept new.kept → FindsLeft (next.Ended ending) s.count old new o p
end_left ending old now new o p s ends left rest is shortens =
    let h = s.bytes left rest is shortens in
    let read = rest ++ take s.count left in
    let end = none_at_end ending now.kept new.kept ends in (
      left_found now new p (drop s.count left) (ap (λ (k : Unanswered). k.1) end.1) h.0,
      (
        h.1.0,
        (
          read,
          (refl, (same_none true read now.kept.0 h.1.1 end.2, same_end read now.kept.0 h.1.1 ∙ end.3)),
          subst (λ (k : Unanswered). ShortensTo read k.0) (sym end.1) h.1.1,
        ),
      ),
    )

module _ (has_bytes : EntryHasBytes) where
  fewer_to_come : (entry : Entry) (old now new : EntriesState) (o p : Outside) → Sofar old now o p
      → Takes entry now.kept new.kept → new ≡ with_kept now new.kept → new.read ≤ new.limit
      → most_to_come new < most_to_come old
  fewer_to_come entry old now new o p s takes same within =
      let read = ap (λ (t : EntriesState). t.read) same in
      let limit = ap (λ (t : EntriesState). t.limit) same in
      let some = has_bytes now.kept.1 entry takes.0 new.kept.0 takes.3 in
      let size = ap length takes.1 ∙ length-append takes.0 new.kept.0 in
      omega (arith, size, some, s.shorter, s.read, s.limit, read, limit, within)

  pub found_behind : (found : Next) (old now new : EntriesState) (o p : Outside) → Sofar old now o p
      → FindsKept (Some found) now new → IsWithin new → Advances found old new o p
  found_behind (next.Command sexpr) old now new o p s h within =
      advances (next.Command sexpr) old now new o p s h.0 h.1.2 within
      (fewer_to_come (Command (form_of sexpr)) old now new o p s h.1 h.0 within.most)
      (entry_left (Command (form_of sexpr)) old now new o p s h.1)
  found_behind (next.Refused refusal) old now new o p s h within =
      advances (next.Refused refusal) old now new o p s h.0 h.1.2 within
      (fewer_to_come (Refused refusal) old now new o p s h.1 h.0 within.most)
      (entry_left (Refused refusal) old now new o p s h.1)
  found_behind next.NotYet old now new o p s h within =
      advances next.NotYet old now new o p s h.0 (h.1.still ∙ sym h.1.more_may_come) within (
        h.1.still,
        ap (λ (t : EntriesState). t.read) h.0 ∙ h.2 refl ∙ sym (ap (λ (t : EntriesState). t.limit) h.0),
      )
      (limit_left old now new o p s h.1 h.0)
  found_behind (next.Ended ending) old now new o p s h within =
      let end = none_at_end ending now.kept new.kept h.1 in
      let flag = ap (λ (k : Unanswered). k.1) end.1 in
      advances (next.Ended ending) old now new o p s h.0 flag within (flag ∙ end.0)
      (end_left ending old now new o p s h.1)
