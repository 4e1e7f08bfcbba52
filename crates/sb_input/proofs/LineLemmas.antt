-- What reading on, and what is found, make of what was read.
use Rattle.std.proofs.Common.{◌≡◌, ℕ, zero, suc, ◌+◌, ◌-◌, ◌<◌, ◌≤◌, Bool, true, false, nat_eq, List, [], ◌∷◌, ◌++◌, length, take, drop, Option, Some, None, option_map, refl, sym, ap, ◌∙◌, subst, arith, append_assoc, length-append, length-take}
use Rattle.std.specs.Prelude.{IfSome}
use Rattle.std.proofs.lemmas.Bool.{false≢true, eqb-true}
use Rattle.std.proofs.lemmas.List.{append-nil, take-append-drop, drop-append-le, drop-drop, drop_all}
use Rattle.sb_world.specs.Outside.{Outside, ReadsFront, read_at}
use Rattle.sb_world.specs.Moved.{Moved, moved_by, reading}
use Rattle.sb_world.specs.declared.InPort.TheVariants as in_port
use Rattle.sb_world.proofs.CallerLemmas.{moved_by-both, moved_by-nothing, read_at-moves, reading-add, reading-zero}
use Rattle.sb_rulebook.specs.LineLaws.{is_one_line}
use Rattle.sb_rulebook.specs.Reading.{texts_of}
use Rattle.sb_input.specs.declared.lines.Found.{Found}
use Rattle.sb_input.specs.declared.lines.Found.TheVariants.{Line, End, Limit}
use Rattle.sb_input.specs.TakingLines.{LinesState, state_of, ReadsOn, IsLeft, Advances, IsCutShort}
use Rattle.sb_input.specs.KeepingLines.{TakesLine, FindsKept, ReadsPiece, cleared, all_taken, turns_left}
use Rattle.sb_input.specs.Pieces.{turns_of}
use Rattle.sb_input.proofs.CallerLemmas.{texts_of-ended, texts_of-unended}
use Rattle.sb_input.proofs.PieceLemmas.{piece_front, end_met, on_read, at_some, moved_both, turns_fewer}

pub piece_read : (bytes piece all : List ℕ) (start line_start line_end line_start' line_end' : ℕ) (ended : Bool)
    (read limit count : ℕ) (before after : Outside)
    → all ≡ bytes ++ take count piece → ended ≡ false → start ≤ length bytes → count ≤ length piece
    → read + count ≤ limit
    → after ≡ read_at in_port.Proof count before
    → IfSome before.proof_in.left (λ left. ReadsFront left piece count)
    → ReadsPiece (state_of bytes start line_start line_end ended read limit)
    (state_of all start line_start' line_end' (nat_eq count 0) (read + count) limit) before after
piece_read bytes piece all start line_start line_end line_start' line_end' ended read limit count before after same goes
    within fits room moved front =
    let kept : drop start all ≡ drop start bytes ++ take count piece =
    ap (drop start) same ∙ drop-append-le start bytes (take count piece) within in
    record {
      count = count;
      reads = record {
        moved = moved ∙ read_at-moves in_port.Proof count before;
        read = refl;
        limit = refl;
        within = room;
        ended = λ e. absurd (false≢true (sym goes ∙ e));
      };
      length = ap length kept ∙ length-append (drop start bytes) (take count piece)
          ∙ ap (λ (n : ℕ). length (drop start bytes) + n) (omega (arith, length-take count piece));
      nothing = end_met count;
      something = on_read count;
      bytes = λ left told.
          let front = piece_front (drop start bytes) left piece count
          (at_some before.proof_in.left (λ rest. ReadsFront rest piece count) left told front) in
          (front.0 ∙ ap (λ (xs : List ℕ). xs ++ drop count left) (sym kept), front.1.1);
    }

-- the line that was found last does not matter
from_cleared : (old new : LinesState) (before after : Outside) → ReadsPiece (cleared old) new before after
    → ReadsPiece old new before after
from_cleared old new before after h = record {
  count = h.count;
  reads = record {
    moved = h.reads.moved;
    read = h.reads.read;
    limit = h.reads.limit;
    within = h.reads.within;
    ended = h.reads.ended;
  };
  length = h.length;
  nothing = h.nothing;
  something = h.something;
  bytes = h.bytes;
}

pub piece_on : (old mid new : LinesState) (before after : Outside) → mid ≡ cleared old
    → ReadsPiece mid new before after → ReadsPiece old new before after
piece_on old mid new before after same h =
    from_cleared old new before after (subst (λ (s : LinesState). ReadsPiece s new before after) same h)

-- So many bytes were read since, and none of the kept ones taken.
pub record Sofar (old now : LinesState) (before after : Outside) : Type 0 where
  pub count : ℕ
  pub moved : after ≡ moved_by (reading in_port.Proof count) before
  pub read : now.read ≡ old.read + count
  pub limit : now.limit ≡ old.limit
  pub ended : old.ended ≡ true → (count ≡ 0) × (now.ended ≡ true)
  pub length : length now.kept ≡ length old.kept + count
  pub bytes : (left : List ℕ) → IsLeft old before left
      → (old.kept ++ left ≡ now.kept ++ drop count left) × IsLeft now after (drop count left)

pub sofar_none : (s : LinesState) (o : Outside) → Sofar s s o o
sofar_none s o = record {
  count = 0;
  moved = sym (ap (λ (m : Moved). moved_by m o) (reading-zero in_port.Proof) ∙ moved_by-nothing o);
  read = omega arith;
  limit = refl;
  ended = λ e. (refl, e);
  length = omega arith;
  bytes = λ left is. (refl, is);
}

told_behind : (count : ℕ) (before after : Outside) (left : List ℕ)
    → after ≡ moved_by (reading in_port.Proof count) before → before.proof_in.left ≡ Some left
    → after.proof_in.left ≡ Some (drop count left)
told_behind count before after left moved told =
    ap (λ (o : Outside). o.proof_in.left) moved ∙ ap (option_map (drop count)) told

-- the next piece behind the ones so far
piece_behind : (old now new : LinesState) (o p q : Outside) → Sofar old now o p → now.ended ≡ false
    → ReadsPiece (cleared now) new p q → Sofar old new o q
piece_behind old now new o p q s goes r =
    let moved = moved_both in_port.Proof s.count r.count o p q s.moved r.reads.moved in
    record {
      count = s.count + r.count;
      moved = moved;
      read = omega (arith, s.read, r.reads.read);
      limit = r.reads.limit ∙ s.limit;
      ended = λ e. absurd (false≢true (sym goes ∙ (s.ended e).1));
      length = omega (arith, s.length, r.length);
      bytes = λ left is.
          let first = s.bytes left is in
          let second = r.bytes (drop s.count left) first.1.told in (
            first.0 ∙ second.0 ∙ ap (λ (xs : List ℕ). new.kept ++ xs) (drop-drop r.count s.count left),
            record {
              told = told_behind (s.count + r.count) o q left moved is.told;
              none = λ e. sym (drop-drop r.count s.count left)
                  ∙ ap (drop r.count) (second.1 (r.nothing e)) ∙ drop_all r.count [] (omega arith);
            },
          );
    }

pub sofar_on : (old now kept new : LinesState) (o p q : Outside) → Sofar old now o p → FindsKept None now kept
    → ReadsPiece kept new p q → Sofar old new o q
sofar_on old now kept new o p q s none r =
    piece_behind old now new o p q s none.0 (subst (λ (k : LinesState). ReadsPiece k new p q) none.1.1 r)

pub turns_left-smaller : (now kept new : LinesState) (p q : Outside) → FindsKept None now kept
    → ReadsPiece kept new p q → turns_left new < turns_left now
turns_left-smaller now kept new p q none r =
    let h = subst (λ (k : LinesState). ReadsPiece k new p q) none.1.1 r in
    subst (λ (b : Bool). turns_left new < turns_of b (now.limit - now.read)) (sym none.0)
    (turns_fewer new.ended (new.limit - new.read) (now.limit - now.read)
    (λ e. omega (arith, h.reads.limit, h.reads.read))
    (λ e. omega (arith, h.reads.limit, h.reads.read, h.reads.within, h.something e)))

is_false : (b : Bool) → (b ≡ true → ⊥) → b ≡ false
is_false true h = absurd (h refl)
is_false false h = refl

-- What was found takes nothing from the world.
reads_found : (old now new : LinesState) (o p : Outside) (s : Sofar old now o p) → new.read ≡ now.read
    → new.limit ≡ now.limit → new.ended ≡ now.ended → new.read ≤ new.limit → ReadsOn s.count old new o p
reads_found old now new o p s read limit ended within = record {
  moved = s.moved;
  read = read ∙ s.read;
  limit = limit ∙ s.limit;
  within = within;
  ended = λ e. let h = s.ended e in (h.0, ended ∙ h.1);
}

left_found : (now new : LinesState) (p : Outside) (behind : List ℕ) → new.ended ≡ now.ended → IsLeft now p behind
    → IsLeft new p behind
left_found now new p behind ended is = record { told = is.told; none = λ e. is.none (sym ended ∙ e) }

cut_now : (old now : LinesState) (o p : Outside) → Sofar old now o p → now.ended ≡ false → now.read < now.limit
    → IsCutShort old (cleared now) o p
cut_now old now o p s goes room = record {
  count = s.count;
  reads = reads_found old now (cleared now) o p s refl refl refl (omega arith);
  early = (is_false old.ended (λ e. false≢true (sym goes ∙ (s.ended e).1)), goes);
  kept = λ left is.
      let first = s.bytes left is in
      (left_found now (cleared now) p (drop s.count left) refl first.1, first.0);
}

pub cut_behind : (old now kept new : LinesState) (o p q : Outside) → Sofar old now o p → FindsKept None now kept
    → (new ≡ cleared kept) × (q ≡ p) → IsCutShort old new o q
cut_behind old now kept new o p q s none same =
    subst (λ (w : Outside). IsCutShort old new o w) (sym same.1)
    (subst (λ (t : LinesState). IsCutShort old t o p) (sym (same.0 ∙ ap cleared none.1.1))
    (cut_now old now o p s none.0 none.1.0))

-- as many bytes were left
within_left : (old now : LinesState) (o p : Outside) (s : Sofar old now o p) (left : List ℕ) → IsLeft old o left
    → s.count ≤ length left
within_left old now o p s left is = omega (
  arith,
  s.length,
  ap length (s.bytes left is).0,
  length-append old.kept left,
  length-append now.kept (drop s.count left),
)

ended_line : (old now new : LinesState) (o p : Outside) → Sofar old now o p → TakesLine now new
    → new.read ≤ new.limit → (new.ended ≡ true → new.read < new.limit) → Advances (Line true) old new o p
ended_line old now new o p s h within below =
    let read = ap (λ (t : LinesState). t.read) h.same in
    let limit = ap (λ (t : LinesState). t.limit) h.same in
    let ended = ap (λ (t : LinesState). t.ended) h.same in
    let size = ap length h.split ∙ length-append new.line (10 ∷ new.kept) in
    record {
      count = s.count;
      reads = reads_found old now new o p s read limit ended within;
      leaves = (
        omega (arith, size, s.length, s.read, s.limit, read, limit, within),
        (h.one, λ e. absurd (false≢true (sym e))),
      );
      below = below;
      within = within_left old now o p s;
      finds = λ left is.
          let first = s.bytes left is in
          let behind = drop s.count left in
          let whole : old.kept ++ left ≡ new.line ++ 10 ∷ (new.kept ++ behind) =
          first.0 ∙ ap (λ (xs : List ℕ). xs ++ behind) h.split ∙ append_assoc new.line (10 ∷ new.kept) behind in (
            left_found now new p behind ended first.1,
            (ap texts_of whole ∙ texts_of-ended new.line (new.kept ++ behind) h.one, λ _. whole),
          );
    }

last_line : (old now : LinesState) (o p : Outside) → Sofar old now o p → now.ended ≡ true
    → is_one_line now.kept ≡ true → 0 < length now.kept → now.read < now.limit
    → Advances (Line false) old (all_taken now) o p
last_line old now o p s ended one some below = record {
  count = s.count;
  reads = reads_found old now (all_taken now) o p s refl refl refl (omega (arith, below));
  leaves = (omega (arith, s.length, s.read, s.limit, some, below), (one, λ _. (ended, refl)));
  below = λ _. below;
  within = within_left old now o p s;
  finds = λ left is.
      let first = s.bytes left is in
      let behind = drop s.count left in
      let none = first.1.none ended in (
        left_found now (all_taken now) p behind refl first.1,
        (
          ap texts_of (first.0 ∙ ap (λ (xs : List ℕ). now.kept ++ xs) none ∙ append-nil now.kept)
              ∙ texts_of-unended now.kept one some
              ∙ ap (λ (xs : List ℕ). (now.kept, false) ∷ texts_of xs) (sym none),
          λ e. absurd (false≢true e),
        ),
      );
}

at_end : (old now : LinesState) (o p : Outside) → Sofar old now o p → now.ended ≡ true → now.kept ≡ []
    → now.read < now.limit → Advances End old (cleared now) o p
at_end old now o p s ended kept below = record {
  count = s.count;
  reads = reads_found old now (cleared now) o p s refl refl refl (omega (arith, below));
  leaves = (ended, (kept, refl));
  below = λ _. below;
  within = within_left old now o p s;
  finds = λ left is.
      let first = s.bytes left is in
      let behind = drop s.count left in
      let none = first.1.none ended in (
        left_found now (cleared now) p behind refl first.1,
        (first.0 ∙ ap (λ (xs : List ℕ). xs ++ behind) kept ∙ none, none),
      );
}

at_limit : (old now : LinesState) (o p : Outside) → Sofar old now o p → now.ended ≡ false → now.read ≡ now.limit
    → is_one_line now.kept ≡ true → Advances Limit old (cleared now) o p
at_limit old now o p s ended full one = record {
  count = s.count;
  reads = reads_found old now (cleared now) o p s refl refl refl (omega (arith, full));
  leaves = (ended, (full, (one, refl)));
  below = λ e. absurd (false≢true (sym ended ∙ e));
  within = within_left old now o p s;
  finds = λ left is.
      let first = s.bytes left is in
      (left_found now (cleared now) p (drop s.count left) refl first.1, first.0);
}

pub found_behind : (found : Found) (old now new : LinesState) (o p : Outside) → Sofar old now o p
    → FindsKept (Some found) now new → new.read ≤ new.limit → (new.ended ≡ true → new.read < new.limit)
    → Advances found old new o p
found_behind (Line true) old now new o p s h within below = ended_line old now new o p s h within below
found_behind (Line false) old now new o p s h within below =
    subst (λ (t : LinesState). Advances (Line false) old t o p) (sym h.1.1.1)
    (last_line old now o p s h.0 h.1.0 h.1.1.0
    ((subst (λ (t : LinesState). t.ended ≡ true → t.read < t.limit) h.1.1.1 below) h.0))
found_behind End old now new o p s h within below =
    subst (λ (t : LinesState). Advances End old t o p) (sym h.1.1)
    (at_end old now o p s h.0 h.1.0
    ((subst (λ (t : LinesState). t.ended ≡ true → t.read < t.limit) h.1.1 below) h.0))
found_behind Limit old now new o p s h within below =
    subst (λ (t : LinesState). Advances Limit old t o p) (sym h.1.1.1)
    (at_limit old now o p s h.0 h.1.0 h.1.1.0)
