-- The memberships for which the theory may wish: of what is left of a wanted one behind some of its pieces, and of where
-- a constant leads. They are finitely many, as long as no regex is expanded.
use Rattle.std.specs.Prelude.{◌≡◌, ℕ, zero, suc, ◌+◌, ◌≤◌, ◌<◌, Bool, true, false, not, ◌&&◌, nat_lt, if◌then◌else◌, List, [], ◌∷◌, ◌++◌, map, slice_get, length, Option, Some, None}
use Rattle.std.specs.List.{count_by, flat_map, Contains}
use Rattle.sb_theory.specs.Words.{Assigned, Atom, AtomOver, Piece, Regex, Traced, atoms_in, constant_piece, in_atom, list_any, mkpath, nd_along, regex_at, word_piece}
use Rattle.sb_graph.specs.Findings.{is_marked}
use Rattle.sb_rulebook.specs.Atoms.{is_same_atom}
use Rattle.sb_theory.specs.declared.strings.Strings.{Strings}

-- the pieces from each place on, and none
abbrev pub tails : List Piece → List (List Piece)
tails [] = [] ∷ []
tails (p ∷ ps) = (p ∷ ps) ∷ tails ps

-- the numbers up to this one
abbrev pub numbers_to : ℕ → List ℕ
numbers_to zero = zero ∷ []
numbers_to (suc n) = suc n ∷ numbers_to n

-- A membership: of the pieces in the regex, behind so many of the pieces, which are words; or where a regex to lead to
-- is there, that the constant then leads to it.
pub record Wish : Type 0 where
  pub pieces : List Piece
  pub from : ℕ
  pub behind : ℕ
  pub to : Option ℕ

-- what is left of the pieces and of the regex behind so many words
abbrev pub behind_words : ℕ → List Piece → Regex → Option (List Piece × Regex)
behind_words zero ps r = Some (ps, r)
behind_words (suc n) (word_piece w ∷ ps) r = behind_words n ps (nd_along r w)
behind_words (suc n) _ r = None

-- where the first piece is a constant, that it leads to the regex
abbrev pub leads_to : Regex → List Piece → Regex → Option Atom
leads_to q (constant_piece x ∷ ps) r = Some (in_atom (constant_piece x ∷ []) (mkpath r q))
leads_to q _ r = None

abbrev pub left_or_led : List Regex → Option ℕ → List Piece × Regex → Option Atom
left_or_led rs None left = Some (in_atom left.0 left.1)
left_or_led rs (Some q) left = leads_to (regex_at rs q) left.0 left.1

abbrev pub wish_atom : List Regex → Wish → Option Atom
wish_atom rs wish = elim (behind_words wish.behind wish.pieces (regex_at rs wish.from)) [
  | None ↦ None
  | Some left ↦ left_or_led rs wish.to left
]

-- the regexes in it are there
abbrev pub is_within : List Regex → Option ℕ → Bool
is_within rs None = true
is_within rs (Some q) = nat_lt q (length rs)

abbrev pub is_there : List Regex → Wish → Bool
is_there rs wish = nat_lt wish.from (length rs) && is_within rs wish.to

-- the wishes of some pieces and some regexes, one kind after the other
abbrev pub wishes_to : List Piece → ℕ → ℕ → List (Option ℕ) → List Wish
wishes_to ps from behind tos = map (λ to. record { pieces = ps; from = from; behind = behind; to = to }) tos

abbrev pub wishes_behind : List Piece → ℕ → List ℕ → List ℕ → List Wish
wishes_behind ps from behinds numbers =
    flat_map (λ behind. wishes_to ps from behind (None ∷ map Some numbers)) behinds

abbrev pub wishes_from : List Piece → List ℕ → List ℕ → List Wish
wishes_from ps froms numbers = flat_map (λ from. wishes_behind ps from (numbers_to (length ps)) numbers) froms

abbrev pub wishes_of : List (List Piece) → List ℕ → List Wish
wishes_of pss numbers = flat_map (λ ps. wishes_from ps numbers numbers) pss

-- the pieces of the membership of a number, from each place on; and its regex
abbrev pub tails_in : Option (AtomOver ℕ) → List (List Piece)
tails_in (Some (in_atom ps r)) = tails ps
tails_in _ = []

abbrev pub regexes_in : Option (AtomOver ℕ) → List ℕ
regexes_in (Some (in_atom ps r)) = r ∷ []
regexes_in _ = []

-- those that are marked, of numbers by their places
abbrev pub marked_from : (ℕ → Bool) → ℕ → List ℕ → List ℕ
marked_from marks n [] = []
marked_from marks n (r ∷ rs) = if marks n then r ∷ marked_from marks (n + 1) rs else marked_from marks (n + 1) rs

-- the regexes that are expanded in a proof
abbrev pub expanded_in : Traced → List ℕ
expanded_in t = marked_from (is_marked t.expanded) 0 t.order

-- the regexes of wanted memberships, and those that are expanded
abbrev pub bases_of : Strings → List ℕ
bases_of x = flat_map (λ i. regexes_in (slice_get x.atoms i)) x.wanted ++ x.expanded.keys ++ expanded_in x.trace

abbrev pub tails_of : Strings → List (List Piece)
tails_of x = flat_map (λ i. tails_in (slice_get x.atoms i)) x.wanted

abbrev pub wishes : Strings → List Wish
wishes x = wishes_of (tails_of x) (bases_of x)

-- an entry gives the atom a value
abbrev pub is_same_as : Option Atom → Option Atom → Bool
is_same_as (Some a) (Some b) = is_same_atom a b
is_same_as _ _ = false

abbrev pub is_valued : List Atom → List Assigned → Option Atom → Bool
is_valued table entries a = list_any (λ (e : Assigned). is_same_as (slice_get table e.literal.atom) a) entries

-- the wish has come true
abbrev pub is_granted : List Regex → List Atom → List Assigned → Wish → Bool
is_granted rs table entries wish = is_there rs wish && is_valued table entries (wish_atom rs wish)

-- so many have not
abbrev pub ungranted : Strings → List Assigned → ℕ
ungranted x entries =
    count_by (λ wish. not (is_granted x.store.arena (atoms_in x.store.arena x.atoms) entries wish)) (wishes x)

-- The number is of an atom for which the theory may wish.
pub record IsWish (x : Strings) (a : ℕ) : Type 0 where
  pub wish : Wish
  pub among : Contains (wishes x) wish
  pub there : is_there x.store.arena wish ≡ true
  pub atom : Atom
  pub is : wish_atom x.store.arena wish ≡ Some atom
  pub names : slice_get (atoms_in x.store.arena x.atoms) a ≡ Some atom

-- The number is of a membership that is left of a wanted one, behind some of its pieces.
pub record IsLeft (x : Strings) (a : ℕ) : Type 0 where
  pub pieces : List Piece
  pub from : ℕ
  pub behind : ℕ
  pub tail : Contains (tails_of x) pieces
  pub base : Contains (bases_of x) from
  pub below : from < length x.store.arena
  pub few : behind ≤ length pieces
  pub left : List Piece
  pub regex : Regex
  pub leads : behind_words behind pieces (regex_at x.store.arena from) ≡ Some (left, regex)
  pub names : slice_get (atoms_in x.store.arena x.atoms) a ≡ Some (in_atom left regex)
