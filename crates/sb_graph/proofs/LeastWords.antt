-- The least words of a length.
use Rattle.std.proofs.Common.{◌≡◌, ◌≢◌, ℕ, zero, suc, ◌+◌, ◌<◌, ◌≤◌, List, [], ◌∷◌, ◌++◌, length, refl, sym, ap, ◌∙◌, arith, add-one, append_assoc}
use Rattle.std.specs.Ordering.{nat_cmp, ordering_then, MatchOrdering}
use Rattle.std.specs.Cmp.{ranks}
use Rattle.std.specs.Cmp.Lexicographic.{slice_cmp}
use Rattle.std.specs.declared.cmp.Ordering.{Ordering}
use Rattle.std.specs.declared.cmp.Ordering.TheVariants.{Less, Equal, Greater}
use Rattle.std.proofs.lemmas.List.{append-nil}
use Rattle.sb_word.specs.Words.{IsWord}
use Rattle.sb_lang.specs.Languages.{Language}
use Rattle.sb_graph.specs.Lengths.{HasEachOfLength, HasLeast, zeros, AreZeros}

long_zeros : (n : ℕ) → length (zeros n) ≡ n
unfolding zeros
long_zeros zero = refl
long_zeros (suc n) = ap (λ k. suc k) (long_zeros n)

word_zeros : (n : ℕ) → IsWord (zeros n)
unfolding zeros
word_zeros zero = refl
word_zeros (suc n) = word_zeros n

-- a word does not come before one that begins with the same character or a lesser one, by what stands behind
pub not_before : (c d : ℕ) (v w : List ℕ) → d ≤ c → (c ≡ d → slice_cmp nat_cmp v w ≢ Less)
    → slice_cmp nat_cmp (c ∷ v) (d ∷ w) ≢ Less
not_before c d v w l rest = by (nat_cmp c d) (ranks c d)
  where
    by : (o : Ordering) → MatchOrdering o (c < d) (c ≡ d) (d < c) → ordering_then o (slice_cmp nat_cmp v w) ≢ Less
    by Less h e = omega (arith, h, l)
    by Equal h e = rest h e
    by Greater h e = cc

zeros_first : (v : List ℕ) (n : ℕ) → length v ≡ n → slice_cmp nat_cmp v (zeros n) ≢ Less
unfolding zeros
zeros_first [] zero l e = cc
zeros_first [] (suc n) l e = absurd (omega (arith, l))
zeros_first (c ∷ v) zero l e = absurd (omega (arith, l))
zeros_first (c ∷ v) (suc n) l e =
    not_before c 0 v (zeros n) (omega arith) (λ same. zeros_first v n (omega (arith, l))) e

pub zeros_found : (L : Language) (n : ℕ) (old new : List ℕ) → HasEachOfLength L n → AreZeros n old new
    → HasLeast L n old new
zeros_found L n old new each is = record {
  least = zeros n;
  is = is;
  right = record {
    word = word_zeros n;
    member = each (zeros n) (word_zeros n) (long_zeros n);
    long = long_zeros n;
    least = λ v w h l. zeros_first v n l;
  };
}

pub zeros_begun : (old : List ℕ) → AreZeros 0 old old
unfolding zeros
zeros_begun old = sym (append-nil old)

zeros_push : (n : ℕ) → zeros n ++ 0 ∷ [] ≡ zeros (suc n)
unfolding zeros
zeros_push zero = refl
zeros_push (suc n) = ap (λ w. 0 ∷ w) (zeros_push n)

pub zeros_more : (n : ℕ) (old now new : List ℕ) → AreZeros n old now → new ≡ now ++ 0 ∷ [] → AreZeros (n + 1) old new
zeros_more n old now new is more =
    more
    ∙ ap (λ w. w ++ 0 ∷ []) is
    ∙ append_assoc old (zeros n) (0 ∷ [])
    ∙ ap (λ w. old ++ w) (zeros_push n ∙ ap zeros (sym (add-one n)))
