-- Lemmas on what moves, for the crates above: one thing after another, and what a read and a write move.
use Rattle.std.proofs.Common.{◌≡◌, ℕ, ◌+◌, List, [], ◌∷◌, ◌++◌, drop, Option, Some, None, option_map, refl, sym, ap, ◌∙◌, append_assoc, arith}
use Rattle.std.proofs.lemmas.List.{append-nil, drop-drop}
use Rattle.sb_world.specs.declared.InPort.{InPort}
use Rattle.sb_world.specs.declared.InPort.TheVariants as in_port
use Rattle.sb_world.specs.declared.OutPort.{OutPort}
use Rattle.sb_world.specs.declared.OutPort.TheVariants as out_port
use Rattle.sb_world.specs.Outside.{Outside, write_at, read_at}
use Rattle.sb_world.specs.Moved.{Moved, Write, moved_by, nothing, both, reading, writing, writing_all}

told-append : (w : Option (List ℕ)) (a b : List ℕ)
    → option_map (λ x. x ++ b) (option_map (λ x. x ++ a) w) ≡ option_map (λ x. x ++ (a ++ b)) w
told-append None a b = refl
told-append (Some w) a b = ap Some (append_assoc w a b)

told-nil : (w : Option (List ℕ)) → option_map (λ x. x ++ []) w ≡ w
told-nil None = refl
told-nil (Some w) = ap Some (append-nil w)

told-drop : (w : Option (List ℕ)) (m n : ℕ) → option_map (drop n) (option_map (drop m) w) ≡ option_map (drop (m + n)) w
told-drop None m n = refl
told-drop (Some w) m n = ap Some (drop-drop n m w)

told-drop_zero : (w : Option (List ℕ)) → option_map (drop 0) w ≡ w
told-drop_zero None = refl
told-drop_zero (Some w) = refl

-- the outside with this left of its inputs, and this written to its outputs
abbrev with_ports : Outside → Option (List ℕ) → Option (List ℕ) → Option (List ℕ) → Option (List ℕ) → Option (List ℕ)
    → Outside
with_ports o script proof answers proof_out faults = record o {
  script_in = record o.script_in { left = script };
  proof_in = record o.proof_in { left = proof };
  answers = record o.answers { written = answers };
  proof_out = record o.proof_out { written = proof_out };
  faults = record o.faults { written = faults };
}

same_ports : (o : Outside) (a b c d e a' b' c' d' e' : Option (List ℕ)) → a ≡ a' → b ≡ b' → c ≡ c' → d ≡ d' → e ≡ e'
    → with_ports o a b c d e ≡ with_ports o a' b' c' d' e'
same_ports o a b c d e a' b' c' d' e' p q r s t = rw (p, q, r, s, t) refl

-- one thing after another is both
pub moved_by-both : (m n : Moved) (o : Outside) → moved_by n (moved_by m o) ≡ moved_by (both m n) o
moved_by-both m n o =
    same_ports o _ _ _ _ _ _ _ _ _ _
    (told-drop o.script_in.left m.script n.script) (told-drop o.proof_in.left m.proof n.proof)
    (told-append o.answers.written m.answers n.answers) (told-append o.proof_out.written m.proof_out n.proof_out)
    (told-append o.faults.written m.faults n.faults)

pub moved_by-nothing : (o : Outside) → moved_by nothing o ≡ o
moved_by-nothing o =
    same_ports o _ _ _ _ _ _ _ _ _ _ (told-drop_zero o.script_in.left) (told-drop_zero o.proof_in.left)
    (told-nil o.answers.written) (told-nil o.proof_out.written) (told-nil o.faults.written)

-- what a read moves
pub read_at-moves : (port : InPort) (count : ℕ) (o : Outside) → read_at port count o ≡ moved_by (reading port count) o
read_at-moves in_port.Script count o =
    sym (same_ports o _ _ _ _ _ _ _ _ _ _ refl (told-drop_zero o.proof_in.left) (told-nil o.answers.written)
    (told-nil o.proof_out.written) (told-nil o.faults.written))
read_at-moves in_port.Proof count o =
    sym (same_ports o _ _ _ _ _ _ _ _ _ _ (told-drop_zero o.script_in.left) refl (told-nil o.answers.written)
    (told-nil o.proof_out.written) (told-nil o.faults.written))

-- what a write moves
pub write_at-moves : (port : OutPort) (bytes : List ℕ) (o : Outside)
    → write_at port bytes o ≡ moved_by (writing (port, bytes)) o
write_at-moves out_port.Answers bytes o =
    sym (same_ports o _ _ _ _ _ _ _ _ _ _ (told-drop_zero o.script_in.left) (told-drop_zero o.proof_in.left) refl
    (told-nil o.proof_out.written) (told-nil o.faults.written))
write_at-moves out_port.Proof bytes o =
    sym (same_ports o _ _ _ _ _ _ _ _ _ _ (told-drop_zero o.script_in.left) (told-drop_zero o.proof_in.left)
    (told-nil o.answers.written) refl (told-nil o.faults.written))
write_at-moves out_port.Faults bytes o =
    sym (same_ports o _ _ _ _ _ _ _ _ _ _ (told-drop_zero o.script_in.left) (told-drop_zero o.proof_in.left)
    (told-nil o.answers.written) (told-nil o.proof_out.written) refl)

abbrev moved_of : (a b : ℕ) (c d e : List ℕ) → Moved
moved_of a b c d e = record { script = a; proof = b; answers = c; proof_out = d; faults = e }

same_parts : (a a' b b' : ℕ) (c c' d d' e e' : List ℕ) → a ≡ a' → b ≡ b' → c ≡ c' → d ≡ d' → e ≡ e'
    → moved_of a b c d e ≡ moved_of a' b' c' d' e'
same_parts a a' b b' c c' d d' e e' p q r s t = rw (p, q, r, s, t) refl

same_moved : (m n : Moved) → m.script ≡ n.script → m.proof ≡ n.proof → m.answers ≡ n.answers
    → m.proof_out ≡ n.proof_out → m.faults ≡ n.faults → m ≡ n
same_moved m n p q r s t =
    same_parts m.script n.script m.proof n.proof m.answers n.answers m.proof_out n.proof_out m.faults n.faults p q r s t

pub both-assoc : (l m n : Moved) → both (both l m) n ≡ both l (both m n)
both-assoc l m n =
    same_moved _ _ (omega arith) (omega arith) (append_assoc l.answers m.answers n.answers)
    (append_assoc l.proof_out m.proof_out n.proof_out) (append_assoc l.faults m.faults n.faults)

pub nothing-both : (m : Moved) → both nothing m ≡ m
nothing-both m = same_moved _ _ (omega arith) (omega arith) refl refl refl

pub both-nothing : (m : Moved) → both m nothing ≡ m
both-nothing m =
    same_moved _ _ (omega arith) (omega arith) (append-nil m.answers) (append-nil m.proof_out) (append-nil m.faults)

-- one read after another of a port is both in one
pub reading-add : (port : InPort) (m n : ℕ) → both (reading port m) (reading port n) ≡ reading port (m + n)
reading-add in_port.Script m n = refl
reading-add in_port.Proof m n = refl

pub reading-zero : (port : InPort) → reading port 0 ≡ nothing
reading-zero in_port.Script = refl
reading-zero in_port.Proof = refl

-- what is read may come first
pub reading_first : (port : InPort) (n : ℕ) (m : Moved) → both m (reading port n) ≡ both (reading port n) m
reading_first in_port.Script n m =
    same_moved _ _ (omega arith) (omega arith) (append-nil m.answers) (append-nil m.proof_out) (append-nil m.faults)
reading_first in_port.Proof n m =
    same_moved _ _ (omega arith) (omega arith) (append-nil m.answers) (append-nil m.proof_out) (append-nil m.faults)

-- one piece after another at a port is both in one
pub writing-append : (port : OutPort) (a b : List ℕ)
    → both (writing (port, a)) (writing (port, b)) ≡ writing (port, a ++ b)
writing-append out_port.Answers a b = refl
writing-append out_port.Proof a b = refl
writing-append out_port.Faults a b = refl

pub writing_all-one : (w : Write) → writing_all (w ∷ []) ≡ writing w
writing_all-one w = both-nothing (writing w)

pub writing_all-append : (ws vs : List Write) → writing_all (ws ++ vs) ≡ both (writing_all ws) (writing_all vs)
writing_all-append [] vs = sym (nothing-both (writing_all vs))
writing_all-append (w ∷ ws) vs = ap (both (writing w)) (writing_all-append ws vs)
    ∙ sym (both-assoc (writing w) (writing_all ws) (writing_all vs))
