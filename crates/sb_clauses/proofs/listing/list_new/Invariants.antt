use Rattle.std.proofs.Common.{◌≡◌, ℕ, ◌≤◌, take, length}
use Rattle.sb_trail.specs.Assignments.{current_level}
use Rattle.sb_clauses.specs.Records.{kept_of}
use Rattle.sb_clauses.specs.Propagation.{GrowsBy}
use Rattle.sb_clauses.specs.Marking.{IsHead, AreReady}
use Rattle.sb_clauses.specs.Waiting.{HaveRoom}
use Rattle.sb_clauses.proofs.listing.list_new.Given as goal

abbrev pub invariant-loop-number : goal.invariant-loop-number
invariant-loop-number l = record {
  inside : l.number ≤ length (kept_of l.records);
  listed : l.queue.listed ≡ l.number;
  head : l.queue.head ≡ l.initial.queue.head;
  ready : AreReady (take l.number (kept_of l.records)) l.first.watched.items l.first.lists l.second.watched.items
      l.second.lists l.trail.literals l.queue.marks.items (current_level l.trail.literals);
  room : HaveRoom (kept_of l.records) l.first.watched.items l.first.lists l.second.watched.items l.second.lists;
  grows : GrowsBy (kept_of l.records) l.initial.trail l.trail;
  fine : (head : ℕ)
      → IsHead (take l.initial.queue.listed (kept_of l.records)) l.initial.trail.literals
      l.initial.first.watched.items l.initial.second.watched.items head
      → IsHead (take l.number (kept_of l.records)) l.trail.literals l.first.watched.items l.second.watched.items head;
}
