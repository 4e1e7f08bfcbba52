-- One read of a proof after another, up to the limit.
use Rattle.std.proofs.Common.{◌≡◌, ℕ, ◌+◌, List, [], ◌++◌, drop, refl, sym, ap, ◌∙◌, subst, arith, append_assoc}
use Rattle.std.proofs.lemmas.List.{length-drop, drop-drop}
use Rattle.sb_world.specs.Outside.{Outside}
use Rattle.sb_world.specs.Moved.{Moved, moved_by, reading}
use Rattle.sb_world.specs.declared.InPort.TheVariants as in_port
use Rattle.sb_world.proofs.CallerLemmas.{moved_by-both, moved_by-nothing, reading-add, reading-zero}
use Rattle.sb_rulebook.specs.Judging.{Phase, Progress}
use Rattle.sb_sound.proofs.CallerLemmas.{whole_none}
use Rattle.sb_input.specs.declared.lines.Found.{Found}
use Rattle.sb_input.specs.declared.lines.Found.TheVariants.{Limit}
use Rattle.sb_input.specs.TakingLines.{LinesState, ReadsOn, IsLeft, Advances}
use Rattle.sb_check.specs.declared.judge.Judge.{Judge}
use Rattle.sb_check.specs.Going.{Taking, Reads, ReadsProof, IsPast}
use Rattle.sb_check.specs.Through.{Leaves}

moved_none : (o : Outside) → o ≡ moved_by (reading in_port.Proof 0) o
moved_none o = sym (ap (λ (m : Moved). moved_by m o) (reading-zero in_port.Proof) ∙ moved_by-nothing o)

moved_more : (m n : ℕ) (o p q : Outside) → p ≡ moved_by (reading in_port.Proof m) o
    → q ≡ moved_by (reading in_port.Proof n) p → q ≡ moved_by (reading in_port.Proof (m + n)) o
moved_more m n o p q first second =
    second ∙ ap (moved_by (reading in_port.Proof n)) first
    ∙ moved_by-both (reading in_port.Proof m) (reading in_port.Proof n) o
    ∙ ap (λ (r : Moved). moved_by r o) (reading-add in_port.Proof m n)

pub reads_nothing : (s : LinesState) (o : Outside) → Reads 0 s s o o
reads_nothing s o = record {
  moved = moved_none o;
  read = omega arith;
  limit = refl;
  within = λ h. h;
  ended = λ e. (refl, e);
}

pub reads_of : (n : ℕ) (s t : LinesState) (o p : Outside) → ReadsOn n s t o p → Reads n s t o p
reads_of n s t o p r =
    record { moved = r.moved; read = r.read; limit = r.limit; within = λ _. r.within; ended = r.ended }

pub reads_more : (m n : ℕ) (s t u : LinesState) (o p q : Outside) → Reads m s t o p → Reads n t u p q
    → Reads (m + n) s u o q
reads_more m n s t u o p q first second = record {
  moved = moved_more m n o p q first.moved second.moved;
  read = omega (arith, first.read, second.read);
  limit = second.limit ∙ first.limit;
  within = λ h. second.within (first.within h);
  ended = λ e.
      let one = first.ended e in
      let two = second.ended one.1 in
      (omega (arith, one.0, two.0), two.1);
}

pub reads_then : (m n : ℕ) (s t u : LinesState) (o p q : Outside) → Reads m s t o p → ReadsOn n t u p q
    → ReadsOn (m + n) s u o q
reads_then m n s t u o p q first second =
    let r = reads_more m n s t u o p q first (reads_of n t u p q second) in
    record { moved = r.moved; read = r.read; limit = r.limit; within = second.within; ended = r.ended }

pub leaves_more : (m n : ℕ) (s t u : LinesState) (o p q : Outside) → Leaves m s t o p → Leaves n t u p q
    → Leaves (m + n) s u o q
leaves_more m n s t u o p q first second left is =
    let x = first left is in
    let y = second (drop m left) x.1 in (
      omega (arith, x.0, y.0, length-drop m left),
      subst (λ (rest : List ℕ). IsLeft u q rest) (drop-drop n m left) y.1,
    )

pub proof_none : (s : LinesState) (o : Outside) → ReadsProof s o o
proof_none s o = record { count = 0; moved = moved_none o; within = λ h. omega (arith, h) }

pub proof_of : (n : ℕ) (s t : LinesState) (o p : Outside) → ReadsOn n s t o p → ReadsProof s o p
proof_of n s t o p r =
    record { count = n; moved = r.moved; within = λ _. omega (arith, r.read, r.limit, r.within) }

pub proof_more : (m : ℕ) (s t : LinesState) (o p q : Outside) → Reads m s t o p → ReadsProof t p q → ReadsProof s o q
proof_more m s t o p q first second = record {
  count = m + second.count;
  moved = moved_more m second.count o p q first.moved second.moved;
  within = λ h. omega (arith, first.read, first.limit, second.within (first.within h));
}

-- two fronts, one behind the other
pub split_more : (m n : ℕ) (whole front between more last left : List ℕ)
    → whole ≡ front ++ (between ++ drop m left) → between ++ drop m left ≡ more ++ (last ++ drop n (drop m left))
    → whole ≡ (front ++ more) ++ (last ++ drop (m + n) left)
split_more m n whole front between more last left first second =
    first ∙ ap (λ (xs : List ℕ). front ++ xs) second
    ∙ sym (append_assoc front more (last ++ drop n (drop m left)))
    ∙ ap (λ (xs : List ℕ). (front ++ more) ++ (last ++ xs)) (drop-drop n m left)

-- where nothing was taken before the limit
pub limit_met : (Takes : Taking) (phase : Phase) (found : Found) (j : Judge) (s t : LinesState) (o q : Outside)
    → found ≡ Limit → Advances found s t o q → ((p : Progress) → p.phase ≡ phase → Takes p [] p)
    → IsPast Takes phase j s t o q
limit_met Takes phase found j s t o q is advances takes =
    let a = subst (λ (f : Found). Advances f s t o q) is advances in
    record {
      count = a.count;
      reads = a.reads;
      at_limit = a.leaves.1.0;
      part = a.leaves.1.1.0;
      came = λ p left at l. record {
        within = a.within left l;
        front = [];
        whole = whole_none;
        split = (a.finds left l).1;
        progress = p;
        said_is = refl;
        takes = takes p at.is;
      };
    }
