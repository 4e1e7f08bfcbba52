use Rattle.std.proofs.Common.{◌≡◌, ℕ, ◌<◌, Some, [], ◌∷◌, length, get_or}
use Rattle.std.specs.List.{All}
use Rattle.sb_plain.specs.Memory.{place_of}
use Rattle.sb_plain.specs.Making.{Covers}
use Rattle.sb_plain.proofs.learnt.Learnt.places_of.Given as goal

abbrev pub invariant-loop-part : goal.invariant-loop-part
invariant-loop-part l = Covers l.places.items l.seen.keys
    × All (λ k. k < length l.self.0) l.places.items
    × ((i d : ℕ) → i < l.part-index → (k : ℕ) → place_of l.self (get_or l.parts i d) ≡ Some k
    → Covers l.places.items (k ∷ []))
