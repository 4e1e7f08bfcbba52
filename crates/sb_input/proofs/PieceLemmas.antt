-- One piece behind another, of a script or of a proof.
use Rattle.std.proofs.Common.{◌≡◌, ℕ, zero, suc, ◌+◌, ◌<◌, ◌≤◌, Bool, true, false, nat_eq, List, [], ◌++◌, length, take, drop, Option, Some, refl, sym, ap, ◌∙◌, arith, append_assoc}
use Rattle.std.specs.Prelude.{IfSome}
use Rattle.std.proofs.lemmas.Bool.{false≢true, eqb-true}
use Rattle.std.proofs.lemmas.List.{take-append-drop}
use Rattle.sb_world.specs.Outside.{Outside, ReadsFront}
use Rattle.sb_world.specs.Moved.{Moved, moved_by, reading}
use Rattle.sb_world.specs.declared.InPort.{InPort}
use Rattle.sb_world.proofs.CallerLemmas.{moved_by-both, reading-add}
use Rattle.sb_input.specs.Pieces.{turns_of}

-- one piece of the bytes that are left
pub piece_front : (kept left piece : List ℕ) (count : ℕ) → ReadsFront left piece count
    → (kept ++ left ≡ (kept ++ take count piece) ++ drop count left)
    × ((count ≤ length left) × (count ≡ 0 → left ≡ []))
piece_front kept left piece count h = (
  ap (λ (xs : List ℕ). kept ++ xs) (sym (take-append-drop count left)
      ∙ ap (λ (xs : List ℕ). xs ++ drop count left) (sym h.bytes))
      ∙ sym (append_assoc kept (take count piece) (drop count left)),
  (h.within, h.progress),
)

-- where no byte was read the end is met
pub end_met : (count : ℕ) → nat_eq count 0 ≡ true → count ≡ 0
end_met count h = eqb-true count 0 h

pub on_read : (count : ℕ) → nat_eq count 0 ≡ false → 0 < count
on_read zero h = absurd (false≢true (sym h))
on_read (suc n) h = omega arith

pub at_some : {A : Type 0} (o : Option A) (P : A → Type 0) (x : A) → o ≡ Some x → IfSome o P → P x
at_some o P x e h = rw e at h

-- one read of a port behind another
pub moved_both : (port : InPort) (m n : ℕ) (o p q : Outside) → p ≡ moved_by (reading port m) o
    → q ≡ moved_by (reading port n) p → q ≡ moved_by (reading port (m + n)) o
moved_both port m n o p q first second =
    second ∙ ap (moved_by (reading port n)) first
    ∙ moved_by-both (reading port m) (reading port n) o
    ∙ ap (λ (r : Moved). moved_by r o) (reading-add port m n)

-- each piece brings the end or the limit nearer
pub turns_fewer : (ended : Bool) (left right : ℕ) → (ended ≡ true → left ≤ right) → (ended ≡ false → left < right)
    → turns_of ended left < turns_of false right
turns_fewer true left right end on = omega (arith, end refl)
turns_fewer false left right end on = omega (arith, on refl)
