-- Ranks put words in the order of their lengths, and of their code points where those are equal.
use Rattle.std.proofs.Common.{◌≡◌, ℕ, ◌+◌, ◌*◌, ◌<◌, ◌≤◌, List, [], ◌∷◌, ◌++◌, length, refl, subst, arith, sym}
use Rattle.std.proofs.lemmas.Bool.{and_parts}
use Rattle.std.specs.Ordering.{nat_cmp, ordering_then, MatchOrdering}
use Rattle.std.specs.Cmp.{ranks}
use Rattle.std.specs.Cmp.Lexicographic.{slice_cmp}
use Rattle.std.specs.declared.cmp.Ordering.{Ordering}
use Rattle.std.specs.declared.cmp.Ordering.TheVariants.{Less, Equal, Greater}
use Rattle.sb_word.specs.Words.{is_character, are_characters, IsWord}
use Rattle.sb_class.proofs.CallerLemmas.{character_below}
use Rattle.sb_graph.specs.Queue.{rank_from, rank}
use Rattle.sb_graph.specs.Witness.{shortlex}

pub rank_empty : rank_from 1 [] ≡ 1
unfolding rank_from
rank_empty = refl

pub rank_grows : (b : ℕ) (w : List ℕ) → b ≤ rank_from b w
unfolding rank_from
rank_grows b [] = omega arith
rank_grows b (c ∷ w) = omega (arith, rank_grows (b * 0x30000 + c) w)

pub rank_from-push : (b : ℕ) (w : List ℕ) (c : ℕ) → rank_from b (w ++ c ∷ []) ≡ rank_from b w * 0x30000 + c
unfolding rank_from
rank_from-push b [] c = refl
rank_from-push b (d ∷ w) c = rank_from-push (b * 0x30000 + d) w c

-- a later start gives a later rank
pub rank_later : (a b : ℕ) (w : List ℕ) → a ≤ b → rank_from a w ≤ rank_from b w
unfolding rank_from
rank_later a b [] h = h
rank_later a b (c ∷ w) h = rank_later (a * 0x30000 + c) (b * 0x30000 + c) w (omega (arith, h))

pub rank_less : (a b : ℕ) (v w : List ℕ) → a < b → length v ≡ length w → IsWord v → rank_from a v < rank_from b w
unfolding rank_from
rank_less a b [] [] h l is = h
rank_less a b [] (d ∷ w) h l is = absurd (omega (arith, l))
rank_less a b (c ∷ v) [] h l is = absurd (omega (arith, l))
rank_less a b (c ∷ v) (d ∷ w) h l is =
    let p = and_parts (is_character c) (are_characters v) is in
    let k = character_below c p.0 in
    rank_less (a * 0x30000 + c) (b * 0x30000 + d) v w (omega (arith, h, k)) (omega (arith, l)) p.1

pub rank_short : (a b : ℕ) (v w : List ℕ) → a < b * 0x30000 → length v < length w → IsWord v
    → rank_from a v < rank_from b w
unfolding rank_from
rank_short a b [] [] h l is = absurd (omega (arith, l))
rank_short a b [] (d ∷ w) h l is = omega (arith, h, rank_grows (b * 0x30000 + d) w)
rank_short a b (c ∷ v) [] h l is = absurd (omega (arith, l))
rank_short a b (c ∷ v) (d ∷ w) h l is =
    let p = and_parts (is_character c) (are_characters v) is in
    let k = character_below c p.0 in
    rank_short (a * 0x30000 + c) (b * 0x30000 + d) v w (omega (arith, h, k)) (omega (arith, l)) p.1

by_first : (a c d : ℕ) (v w : List ℕ) → length v ≡ length w → IsWord v
    → (slice_cmp nat_cmp v w ≡ Less → rank_from (a * 0x30000 + c) v < rank_from (a * 0x30000 + c) w) →
    (o : Ordering) → MatchOrdering o (c < d) (c ≡ d) (d < c) → ordering_then o (slice_cmp nat_cmp v w) ≡ Less
    → rank_from (a * 0x30000 + c) v < rank_from (a * 0x30000 + d) w
by_first a c d v w l is rest Less h e = rank_less (a * 0x30000 + c) (a * 0x30000 + d) v w (omega (arith, h)) l is
by_first a c d v w l is rest Equal h e =
    subst (λ x. rank_from (a * 0x30000 + c) v < rank_from (a * 0x30000 + x) w) h (rest e)
by_first a c d v w l is rest Greater h e = cc

pub rank_least : (a : ℕ) (v w : List ℕ) → length v ≡ length w → IsWord v → slice_cmp nat_cmp v w ≡ Less
    → rank_from a v < rank_from a w
unfolding rank_from
rank_least a [] [] l is h = cc
rank_least a [] (d ∷ w) l is h = absurd (omega (arith, l))
rank_least a (c ∷ v) [] l is h = absurd (omega (arith, l))
rank_least a (c ∷ v) (d ∷ w) l is h =
    let p = and_parts (is_character c) (are_characters v) is in
    by_first a c d v w (omega (arith, l)) p.1 (rank_least (a * 0x30000 + c) v w (omega (arith, l)) p.1) (nat_cmp c d)
    (ranks c d) h

after_first : (a c d : ℕ) (v w : List ℕ) → length v ≡ length w → IsWord w
    → rank_from (a * 0x30000 + c) v < rank_from (a * 0x30000 + d) w
    → (rank_from (a * 0x30000 + c) v < rank_from (a * 0x30000 + c) w → slice_cmp nat_cmp v w ≡ Less) →
    (o : Ordering) → MatchOrdering o (c < d) (c ≡ d) (d < c) → ordering_then o (slice_cmp nat_cmp v w) ≡ Less
after_first a c d v w l is h rest Less o = refl
after_first a c d v w l is h rest Equal o =
    rest (subst (λ x. rank_from (a * 0x30000 + c) v < rank_from (a * 0x30000 + x) w) (sym o) h)
after_first a c d v w l is h rest Greater o =
    absurd (omega (arith, h, rank_less (a * 0x30000 + d) (a * 0x30000 + c) w v (omega (arith, o)) (sym l) is))

least_rank : (a : ℕ) (v w : List ℕ) → length v ≡ length w → IsWord w → rank_from a v < rank_from a w
    → slice_cmp nat_cmp v w ≡ Less
unfolding rank_from
least_rank a [] [] l is h = absurd (omega (arith, h))
least_rank a [] (d ∷ w) l is h = absurd (omega (arith, l))
least_rank a (c ∷ v) [] l is h = absurd (omega (arith, l))
least_rank a (c ∷ v) (d ∷ w) l is h =
    let p = and_parts (is_character d) (are_characters w) is in
    after_first a c d v w (omega (arith, l)) p.1 h (least_rank (a * 0x30000 + c) v w (omega (arith, l)) p.1)
    (nat_cmp c d) (ranks c d)

pub shortlex_rank : (v w : List ℕ) → IsWord w → rank v < rank w → shortlex v w ≡ Less
shortlex_rank v w is h = by (nat_cmp (length v) (length w)) (ranks (length v) (length w))
  where
    by : (o : Ordering) → MatchOrdering o (length v < length w) (length v ≡ length w) (length w < length v)
        → ordering_then o (slice_cmp nat_cmp v w) ≡ Less
    by Less o = refl
    by Equal o = least_rank 1 v w o is h
    by Greater o = absurd (omega (arith, h, rank_short 1 1 w v (omega arith) o is))
