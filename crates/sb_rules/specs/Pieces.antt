-- Private: the ranges of an expansion in their order.
use Rattle.std.specs.Global.{Global}
use Rattle.std.specs.Prelude.{Vec, ◌≡◌, ℕ, ◌+◌, ◌≤◌, Bool, true, false, ◌&&◌, nat_eq, nat_le, if◌then◌else◌, List, [], ◌∷◌, ◌++◌, map, Option, Some, None}
use Rattle.std.specs.List.{list_all, flat_map}
use Rattle.std.specs.List.Sorted.{IsPermutation}
use Rattle.sb_word.specs.Words.{is_character}
use Rattle.sb_class.specs.Ranges.{Range, rises_from}
use Rattle.sb_lang.specs.Regex.{Regex}
use Rattle.sb_lang.specs.Order.{regex_eq}
use Rattle.sb_lang.specs.Derivative.{nd}
use Rattle.sb_regex.specs.Numbered.{regex_at}
use Rattle.sb_proof.specs.declared.line.Class.{Class}

-- the first and the last character of a range, and the number of the target
abbrev pub Piece : Type 0
Piece = ℕ × (ℕ × ℕ)

-- the ranges of a class, and the number of its target
abbrev pub Ranged : Type 0
Ranged = List Range × ℕ

abbrev pub ranged_at : List Class → List ℕ → List Ranged
ranged_at [] ids = []
ranged_at (k ∷ ks) [] = []
ranged_at (k ∷ ks) (id ∷ ids) = (k.ranges.items, id) ∷ ranged_at ks ids

abbrev pub pieces_to : ℕ → List Range → List Piece
pieces_to id ranges = map (λ r. (r.0, (r.1, id))) ranges

abbrev pub pieces_in : List Ranged → List Piece
pieces_in ks = flat_map (λ k. pieces_to k.1 k.0) ks

abbrev pub are_canonical : List Ranged → Bool
are_canonical ks = list_all (λ k. rises_from 0 k.0) ks

-- they stand by their first characters
abbrev pub AreRising : ℕ → List Piece → Type 0
AreRising n [] = Unit {0}
AreRising n (p ∷ ps) = (n ≤ p.0) × AreRising p.0 ps

-- all pieces of canonical classes, in their order
abbrev pub ArePieces : List Ranged → Option (Vec Piece Global) → Type 0
ArePieces ks None = are_canonical ks ≡ false
ArePieces ks (Some ps) = (are_canonical ks ≡ true) × IsPermutation (pieces_in ks) ps.items × AreRising 0 ps.items

abbrev pub AreAdded : List Piece → List Piece → List Range → ℕ → Bool → Type 0
AreAdded old new ranges id true = (rises_from 0 ranges ≡ true) × (new ≡ old ++ pieces_to id ranges)
AreAdded old new ranges id false = rises_from 0 ranges ≡ false

-- they follow one upon the other, from this number to the last character
abbrev pub covers_from : ℕ → List Piece → Bool
covers_from n [] = nat_eq n 0x30000
covers_from n (p ∷ ps) = (nat_eq p.0 n && (nat_le p.0 p.1.0 && is_character p.1.0)) && covers_from (p.1.0 + 1) ps

-- the character is in the piece
abbrev pub holds_at : ℕ → Piece → Bool
holds_at c p = nat_le p.0 c && nat_le c p.1.0

abbrev pub leads_at : List Regex → Regex → ℕ → Piece → Bool
leads_at rs r c p = regex_eq (nd r c) (regex_at rs p.1.1)

-- where the character is in the piece, it leads to the derivative by it
abbrev pub is_right_in : List Regex → Regex → ℕ → Piece → Bool
is_right_in rs r c p = if holds_at c p then leads_at rs r c p else true

-- the piece does so by each of its characters, or not by one of them
abbrev pub LeadsRight : List Regex → Regex → Piece → Bool → Type 0
LeadsRight rs r p true = (c : ℕ) → is_right_in rs r c p ≡ true
LeadsRight rs r p false = (c : ℕ) × (is_character c ≡ true) × (is_right_in rs r c p ≡ false)

-- all pieces do so by each character, or one does not by one of them
abbrev pub LeadRight : List Regex → Regex → List Piece → Bool → Type 0
LeadRight rs r ps true = (c : ℕ) → list_all (is_right_in rs r c) ps ≡ true
LeadRight rs r ps false = (c : ℕ) × (is_character c ≡ true) × (list_all (is_right_in rs r c) ps ≡ false)
