-- The sum of a term has each variable once, by ascending serial, with a factor that is not 0.
use Rattle.std.proofs.Common.{◌≡◌, ℕ, suc, ◌≤◌, ◌<◌, Bool, true, false, if◌then◌else◌, List, [], ◌∷◌, Option, Some, None, option_map, option_and_then, refl, subst, arith}
use Rattle.std.specs.Prelude.{ℤ, pos, ◌+ℤ◌, ◌*ℤ◌, neg_ℤ}
use Rattle.std.specs.Ordering.{nat_cmp, int_eq}
use Rattle.std.specs.declared.cmp.Ordering.{Ordering}
use Rattle.std.specs.declared.cmp.Ordering.TheVariants.{Less, Equal, Greater}
use Rattle.std.proofs.lemmas.Cmp.{ranked}
use Rattle.sb_meaning.specs.Terms.{Sort, boolean, integer, text, reglan, Term, Terms, constant, word, numeral, apply, parameter, no_terms, with_term}
use Rattle.sb_meaning.specs.Terms as symbol
use Rattle.sb_script.specs.Pieces.{Piece, constant_piece, word_piece, pieces_of}
use Rattle.sb_script.specs.Sums.{Variable, int_constant, length_of, Summand, serial_of, Sum, onto_sum, with_summand, with_summands, number_sum, variable_sum, added, times_each, scaled, subtracted, total, difference, multiplied, product, length_of_piece, length_sum, is_small, if_small, is_linear_product, sum_of, sums_of}

-- ascending, from this serial on, with factors that are not 0
abbrev pub Ordered : ℕ → List Summand → Type 0
Ordered low [] = Unit {0}
Ordered low (s ∷ ss) = (low ≤ serial_of s.1) × (int_eq s.0 (pos 0) ≡ false) × Ordered (suc (serial_of s.1)) ss

abbrev pub IsOrdered : Sum → Type 0
IsOrdered s = Ordered 0 s.summands

abbrev AreOrdered : List Sum → Type 0
AreOrdered [] = Unit {0}
AreOrdered (s ∷ ss) = IsOrdered s × AreOrdered ss

pub from_lower : (low high : ℕ) (ss : List Summand) → low ≤ high → Ordered high ss → Ordered low ss
from_lower low high [] le h = tt
from_lower low high (s ∷ ss) le h = let first = h.0 in (omega arith, h.1, h.2)

onto_ordered : (low : ℕ) (s : Summand) (ss : List Summand) → low ≤ serial_of s.1 → Ordered (suc (serial_of s.1)) ss
    → Ordered low (onto_sum s ss)
onto_ordered low s ss le h = step (int_eq s.0 (pos 0)) refl
  where
    step : (b : Bool) → int_eq s.0 (pos 0) ≡ b → Ordered low (if b then ss else s ∷ ss)
    step true e = from_lower low (suc (serial_of s.1)) ss (omega arith) h
    step false e = (le, e, h)

with_ordered : (low : ℕ) (s : Summand) (ts : List Summand) → low ≤ serial_of s.1 → Ordered low ts
    → Ordered low (with_summand s ts)
with_ordered low s [] le h = onto_ordered low s [] le tt
with_ordered low s (t ∷ ts) le h =
    step (nat_cmp (serial_of s.1) (serial_of t.1)) refl (with_ordered (suc (serial_of t.1)) s ts)
  where
    step : (o : Ordering) → o ≡ nat_cmp (serial_of s.1) (serial_of t.1)
        → (suc (serial_of t.1) ≤ serial_of s.1 → Ordered (suc (serial_of t.1)) ts
        → Ordered (suc (serial_of t.1)) (with_summand s ts))
        → Ordered low (elim o as (λ _. List Summand) [
          | Less ↦ onto_sum s (t ∷ ts)
          | Equal ↦ onto_sum (s.0 +ℤ t.0, t.1) ts
          | Greater ↦ t ∷ with_summand s ts
        ])
    step Less is later =
        let less : serial_of s.1 < serial_of t.1 = ranked (serial_of s.1) (serial_of t.1) Less is in
        onto_ordered low s (t ∷ ts) le (omega arith, h.1, h.2)
    step Equal is later = onto_ordered low (s.0 +ℤ t.0, t.1) ts h.0 h.2
    step Greater is later =
        let less : serial_of t.1 < serial_of s.1 = ranked (serial_of s.1) (serial_of t.1) Greater is in
        (h.0, h.1, later (omega arith) h.2)

withs_ordered : (low : ℕ) (ss ts : List Summand) → Ordered low ss → Ordered low ts → Ordered low (with_summands ss ts)
withs_ordered low [] ts h k = k
withs_ordered low (s ∷ ss) ts h k =
    with_ordered low s (with_summands ss ts) h.0
    (withs_ordered low ss ts (from_lower low (suc (serial_of s.1)) ss (later low (serial_of s.1) h.0) h.2) k)
  where
    later : (low serial : ℕ) → low ≤ serial → low ≤ suc serial
    later low serial le = omega arith

times_ordered : (low : ℕ) (k : ℤ) (ss : List Summand) → Ordered low ss → Ordered low (times_each k ss)
times_ordered low k [] h = tt
times_ordered low k (s ∷ ss) h =
    onto_ordered low (k *ℤ s.0, s.1) (times_each k ss) h.0 (times_ordered (suc (serial_of s.1)) k ss h.2)

-- Sums.

added_ordered : (s t : Sum) → IsOrdered s → IsOrdered t → IsOrdered (added s t)
added_ordered s t h k = withs_ordered 0 s.summands t.summands h k

scaled_ordered : (k : ℤ) (s : Sum) → IsOrdered s → IsOrdered (scaled k s)
scaled_ordered k s h = times_ordered 0 k s.summands h

pub subtracted_ordered : (s t : Sum) → IsOrdered s → IsOrdered t → IsOrdered (subtracted s t)
subtracted_ordered s t h k =
    added_ordered s (scaled (neg_ℤ (pos 1)) t) h (scaled_ordered (neg_ℤ (pos 1)) t k)

total_ordered : (ss : List Sum) → AreOrdered ss → IsOrdered (total ss)
total_ordered [] all = tt
total_ordered (s ∷ ss) all = added_ordered s (total ss) all.0 (total_ordered ss all.1)

difference_ordered : (ss : List Sum) → AreOrdered ss → IsOrdered (difference ss)
difference_ordered [] all = tt
difference_ordered (s ∷ []) all = scaled_ordered (neg_ℤ (pos 1)) s all.0
difference_ordered (s ∷ t ∷ ss) all =
    subtracted_ordered s (total (t ∷ ss)) all.0 (total_ordered (t ∷ ss) all.1)

multiplied_ordered : (s t : Sum) → IsOrdered s → IsOrdered t → IsOrdered (multiplied s t)
multiplied_ordered s t h k = step t.summands
  where
    step : (ts : List Summand)
        → IsOrdered (elim ts as (λ _. Sum) [ [] ↦ scaled t.constant s | _ ∷ _ ↦ scaled s.constant t ])
    step [] = scaled_ordered t.constant s h
    step (u ∷ us) = scaled_ordered s.constant t k

product_ordered : (ss : List Sum) → AreOrdered ss → IsOrdered (product ss)
product_ordered [] all = tt
product_ordered (s ∷ ss) all = multiplied_ordered s (product ss) all.0 (product_ordered ss all.1)

variable_ordered : (x : Variable) → IsOrdered (variable_sum x)
variable_ordered x = (omega arith, refl, tt)

length_of_piece_ordered : (p : Piece) → IsOrdered (length_of_piece p)
length_of_piece_ordered (constant_piece serial) = variable_ordered (length_of serial)
length_of_piece_ordered (word_piece w) = tt

length_ordered : (ps : List Piece) → IsOrdered (length_sum ps)
length_ordered [] = tt
length_ordered (p ∷ ps) =
    added_ordered (length_of_piece p) (length_sum ps) (length_of_piece_ordered p) (length_ordered ps)

small_ordered : (s t : Sum) → IsOrdered s → if_small s ≡ Some t → IsOrdered t
small_ordered s t h e = step (is_small s) e
  where
    step : (b : Bool) → (if b then Some s else None) ≡ Some t → IsOrdered t
    step true e = let same : s ≡ t = Prim.cc (e) in subst (λ (t : Sum). IsOrdered t) same h
    step false e = absurd (Prim.cc (e))

-- Terms.

length_term_ordered : (o : Option (List Piece)) (s : Sum) → option_and_then if_small (option_map length_sum o) ≡ Some s
    → IsOrdered s
length_term_ordered None s e = absurd (Prim.cc (e))
length_term_ordered (Some ps) s e = small_ordered (length_sum ps) s (length_ordered ps) e

-- a sum that is made of those of the arguments
made_ordered : (make : List Sum → Sum) → ((ss : List Sum) → AreOrdered ss → IsOrdered (make ss)) → (terms : Terms)
    → ((ss : List Sum) → sums_of terms ≡ Some ss → AreOrdered ss) → (o : Option (List Sum)) → sums_of terms ≡ o
    → (s : Sum) → option_and_then (λ ss. if_small (make ss)) o ≡ Some s → IsOrdered s
made_ordered make keeps terms ordered None is s e = absurd (Prim.cc (e))
made_ordered make keeps terms ordered (Some ss) is s e = small_ordered (make ss) s (keeps ss (ordered ss is)) e

product_term_ordered : (b : Bool) (o : Option Sum) (s : Sum) → ((s : Sum) → o ≡ Some s → IsOrdered s)
    → (if b then o else None) ≡ Some s → IsOrdered s
product_term_ordered true o s ordered e = ordered s e
product_term_ordered false o s ordered e = absurd (Prim.cc (e))

both_ordered : (o : Option Sum) (p : Option (List Sum)) (ss : List Sum) → ((s : Sum) → o ≡ Some s → IsOrdered s)
    → ((ss : List Sum) → p ≡ Some ss → AreOrdered ss)
    → option_and_then (λ s. option_map (λ ss. s ∷ ss) p) o ≡ Some ss → AreOrdered ss
both_ordered None p ss first rest e = absurd (Prim.cc (e))
both_ordered (Some s) None ss first rest e = absurd (Prim.cc (e))
both_ordered (Some s) (Some ts) ss first rest e =
    let same : s ∷ ts ≡ ss = Prim.cc (e) in
    subst (λ (ss : List Sum). AreOrdered ss) same (first s refl, rest ts refl)

mutual
  pub sum_ordered : (t : Term) (s : Sum) → sum_of t ≡ Some s → IsOrdered s
  sum_ordered (constant serial integer) s e =
      let same : variable_sum (int_constant serial) ≡ s = Prim.cc (e) in
      subst (λ (s : Sum). IsOrdered s) same (variable_ordered (int_constant serial))
  sum_ordered (constant serial boolean) s e = absurd (Prim.cc (e))
  sum_ordered (constant serial text) s e = absurd (Prim.cc (e))
  sum_ordered (constant serial reglan) s e = absurd (Prim.cc (e))
  sum_ordered (word w) s e = absurd (Prim.cc (e))
  sum_ordered (numeral n) s e = small_ordered (number_sum (pos n)) s tt e
  sum_ordered (parameter place sort) s e = absurd (Prim.cc (e))
  sum_ordered (apply symbol.str_len no_terms) s e = absurd (Prim.cc (e))
  sum_ordered (apply symbol.str_len (with_term t no_terms)) s e = length_term_ordered (pieces_of t) s e
  sum_ordered (apply symbol.str_len (with_term t (with_term u terms))) s e = absurd (Prim.cc (e))
  sum_ordered (apply symbol.plus terms) s e =
      made_ordered total total_ordered terms (sums_ordered terms) (sums_of terms) refl s e
  sum_ordered (apply symbol.minus terms) s e =
      made_ordered difference difference_ordered terms (sums_ordered terms) (sums_of terms) refl s e
  sum_ordered (apply symbol.times terms) s e =
      product_term_ordered (is_linear_product terms) (option_and_then (λ ss. if_small (product ss)) (sums_of terms)) s
      (made_ordered product product_ordered terms (sums_ordered terms) (sums_of terms) refl) e
  sum_ordered (apply _ terms) s e = absurd (Prim.cc (e))

  sums_ordered : (terms : Terms) (ss : List Sum) → sums_of terms ≡ Some ss → AreOrdered ss
  sums_ordered no_terms ss e =
      let same : [] ≡ ss = Prim.cc (e) in subst (λ (ss : List Sum). AreOrdered ss) same tt
  sums_ordered (with_term t terms) ss e =
      both_ordered (sum_of t) (sums_of terms) ss (sum_ordered t) (sums_ordered terms) e
