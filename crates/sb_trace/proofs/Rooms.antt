-- Room for marks, of which none is on a number that is not there yet.
use Rattle.std.proofs.Common.{◌≡◌, ℕ, ◌+◌, ◌<◌, ◌≤◌, Bool, false, List, [], ◌∷◌, ◌++◌, length, ap, ◌∙◌, arith, length-append}
use Rattle.sb_graph.specs.Findings.{is_marked}

abbrev pub HasRoom : List ℕ → List Bool → List Bool → Type 0
HasRoom order expanded dead =
    (length order ≤ length expanded)
    × (length order ≤ length dead)
    × ((n : ℕ) → length order ≤ n → is_marked expanded n ≡ false)
    × ((n : ℕ) → length order ≤ n → is_marked dead n ≡ false)

pub room_kept : (order : List ℕ) (expanded dead expanded' dead' : List Bool) → length expanded ≤ length expanded'
    → length dead ≤ length dead' → ((n : ℕ) → is_marked expanded' n ≡ is_marked expanded n)
    → ((n : ℕ) → is_marked dead' n ≡ is_marked dead n) → HasRoom order expanded dead → HasRoom order expanded' dead'
room_kept order expanded dead expanded' dead' p q e d room = (
  omega (arith, p, room.0),
  omega (arith, q, room.1),
  λ n l. e n ∙ room.2 n l,
  λ n l. d n ∙ room.3 n l,
)

pub room_used : (order order' : List ℕ) (x : ℕ) (expanded dead : List Bool) → order' ≡ order ++ x ∷ []
    → length order < length expanded → length order < length dead → HasRoom order expanded dead
    → HasRoom order' expanded dead
room_used order order' x expanded dead is p q room =
    let one : length order' ≡ length order + 1 = ap length is ∙ length-append order (x ∷ []) in (
      omega (arith, one, p),
      omega (arith, one, q),
      λ n l. room.2 n (omega (arith, one, l)),
      λ n l. room.3 n (omega (arith, one, l)),
    )
