-- The sum of an Int term: its variables are declared, and its value is the term's number.
use Rattle.std.proofs.Common.{◌≡◌, ◌⊎◌, inl, inr, ℕ, Bool, true, false, if◌then◌else◌, List, [], ◌∷◌, ◌++◌, length, map, Option, Some, None, refl, sym, ap, ◌∙◌, subst, arith, length-append}
use Rattle.std.specs.Prelude.{ℤ, pos, ◌+ℤ◌, ◌-ℤ◌, ◌*ℤ◌, neg_ℤ, slice_get, option_map, option_and_then}
use Rattle.std.specs.List.{flat_map}
use Rattle.std.specs.Ordering.{nat_cmp, int_eq}
use Rattle.std.specs.declared.cmp.Ordering.{Ordering}
use Rattle.std.specs.declared.cmp.Ordering.TheVariants.{Less, Equal, Greater}
use Rattle.std.proofs.lemmas.Cmp.{ranked}
use Rattle.std.proofs.lemmas.Int.{ints}
use Rattle.std.proofs.lemmas.List.{append-nil}
use Rattle.std.proofs.lemmas.Option.{option_and_then_some}
use Rattle.std.proofs.lemmas.Bool.{and_parts, and_from}
use Rattle.std.proofs.lemmas.Bool.Decides.{Decides-int_eq}
use Rattle.std.proofs.Math.IntN.{zero-*ℤ, *ℤ-zero, *ℤ_comm, +ℤ_idl, +ℤ_idr, +ℤ_assoc, pos-+ℤ-pos}
use Rattle.sb_meaning.specs.Terms.{Sort, boolean, integer, text, reglan, Term, Terms, constant, word, numeral, apply, parameter, no_terms, with_term}
use Rattle.sb_meaning.specs.Terms as symbol
use Rattle.sb_meaning.specs.Values.{Valuation, Value, Text, Int, Truth, is_of, value_in}
use Rattle.sb_meaning.specs.Truth.{Meaning, means_number, word_in, number_in, meaning_of_value, meaning_of, meanings_of, product_of, difference_of}
use Rattle.sb_meaning.specs.Truth as truth
use Rattle.sb_rulebook.specs.Atoms.{word_at, value_of, value_of_sum}
use Rattle.sb_rulebook.specs.AtomRules.{is_declared, is_declared_variable}
use Rattle.sb_sound.specs.TermLaws.{HasSorts, fits_sorts, all_fit}
use Rattle.sb_sound.proofs.PieceFacts.{option_map_some, some_if, declared_at, words_of, pieces_keep, PiecesDeclared, pieces_declared}
use Rattle.sb_sound.proofs.ProductFacts.{sum_times, times_sum, times_times, less_one_times}
use Rattle.sb_script.specs.Pieces.{Piece, constant_piece, word_piece, pieces_of, is_ground, are_ground}
use Rattle.sb_script.specs.Sums.{Variable, int_constant, length_of, Summand, serial_of, Sum, onto_sum, with_summand, with_summands, number_sum, variable_sum, added, times_each, scaled, total, difference, multiplied, product, length_sum, is_small, if_small, is_linear_product, length_of_term, sum_of, sums_of}

-- Declared variables: one for each serial.

abbrev pub AreDeclared : List Sort → List Summand → Type 0
AreDeclared sorts [] = Unit {0}
AreDeclared sorts (s ∷ ss) = (is_declared_variable sorts s.1 ≡ true) × AreDeclared sorts ss

abbrev pub SumDeclared : List Sort → Sum → Type 0
SumDeclared sorts s = AreDeclared sorts s.summands

abbrev pub SumsDeclared : List Sort → List Sum → Type 0
SumsDeclared sorts [] = Unit {0}
SumsDeclared sorts (s ∷ ss) = SumDeclared sorts s × SumsDeclared sorts ss

not_both : (sorts : List Sort) (m n : ℕ) → m ≡ n → is_declared sorts integer m ≡ true
    → is_declared sorts text n ≡ true → Some integer ≡ Some text
not_both sorts m n same d e =
    sym (declared_at sorts integer m d) ∙ ap (slice_get sorts) same ∙ declared_at sorts text n e

one_variable : (sorts : List Sort) (x y : Variable) → is_declared_variable sorts x ≡ true
    → is_declared_variable sorts y ≡ true → serial_of x ≡ serial_of y → x ≡ y
one_variable sorts (int_constant m) (int_constant n) d e same = ap (λ (k : ℕ). int_constant k) same
one_variable sorts (length_of m) (length_of n) d e same = ap (λ (k : ℕ). length_of k) same
one_variable sorts (int_constant m) (length_of n) d e same =
    let both = not_both sorts m n same d e in
    absurd (Prim.cc (both))
one_variable sorts (length_of m) (int_constant n) d e same =
    let both = not_both sorts n m (sym same) e d in
    absurd (Prim.cc (both))

-- The variables of sums stay declared.

onto_declared : (sorts : List Sort) (s : Summand) (ss : List Summand) → is_declared_variable sorts s.1 ≡ true
    → AreDeclared sorts ss → AreDeclared sorts (onto_sum s ss)
onto_declared sorts s ss d e = step (int_eq s.0 (pos 0))
  where
    step : (b : Bool) → AreDeclared sorts (if b then ss else s ∷ ss)
    step true = e
    step false = (d, e)

with_summand_declared : (sorts : List Sort) (s : Summand) (ss : List Summand)
    → is_declared_variable sorts s.1 ≡ true → AreDeclared sorts ss → AreDeclared sorts (with_summand s ss)
with_summand_declared sorts s [] d e = onto_declared sorts s [] d tt
with_summand_declared sorts s (t ∷ ts) d e =
    step (nat_cmp (serial_of s.1) (serial_of t.1)) (with_summand_declared sorts s ts d e.1)
  where
    step : (o : Ordering) → AreDeclared sorts (with_summand s ts) → AreDeclared sorts (elim o [
      | Less ↦ onto_sum s (t ∷ ts)
      | Equal ↦ onto_sum (s.0 +ℤ t.0, t.1) ts
      | Greater ↦ t ∷ with_summand s ts
    ])
    step Less more = onto_declared sorts s (t ∷ ts) d e
    step Equal more = onto_declared sorts (s.0 +ℤ t.0, t.1) ts e.0 e.1
    step Greater more = (e.0, more)

with_summands_declared : (sorts : List Sort) (ss ts : List Summand) → AreDeclared sorts ss → AreDeclared sorts ts
    → AreDeclared sorts (with_summands ss ts)
with_summands_declared sorts [] ts d e = e
with_summands_declared sorts (s ∷ ss) ts d e =
    with_summand_declared sorts s (with_summands ss ts) d.0 (with_summands_declared sorts ss ts d.1 e)

times_declared : (sorts : List Sort) (k : ℤ) (ss : List Summand) → AreDeclared sorts ss
    → AreDeclared sorts (times_each k ss)
times_declared sorts k [] d = tt
times_declared sorts k (s ∷ ss) d =
    onto_declared sorts (k *ℤ s.0, s.1) (times_each k ss) d.0 (times_declared sorts k ss d.1)

added_declared : (sorts : List Sort) (s t : Sum) → SumDeclared sorts s → SumDeclared sorts t
    → SumDeclared sorts (added s t)
added_declared sorts s t d e = with_summands_declared sorts s.summands t.summands d e

pub scaled_declared : (sorts : List Sort) (k : ℤ) (s : Sum) → SumDeclared sorts s → SumDeclared sorts (scaled k s)
scaled_declared sorts k s d = times_declared sorts k s.summands d

total_declared : (sorts : List Sort) (ss : List Sum) → SumsDeclared sorts ss → SumDeclared sorts (total ss)
total_declared sorts [] d = tt
total_declared sorts (s ∷ ss) d = added_declared sorts s (total ss) d.0 (total_declared sorts ss d.1)

difference_declared : (sorts : List Sort) (ss : List Sum) → SumsDeclared sorts ss → SumDeclared sorts (difference ss)
difference_declared sorts [] d = tt
difference_declared sorts (s ∷ []) d = scaled_declared sorts (neg_ℤ (pos 1)) s d.0
difference_declared sorts (s ∷ t ∷ ss) d =
    added_declared sorts s (scaled (neg_ℤ (pos 1)) (total (t ∷ ss))) d.0
    (scaled_declared sorts (neg_ℤ (pos 1)) (total (t ∷ ss)) (total_declared sorts (t ∷ ss) d.1))

multiplied_declared : (sorts : List Sort) (s t : Sum) → SumDeclared sorts s → SumDeclared sorts t
    → SumDeclared sorts (multiplied s t)
multiplied_declared sorts s t d e = step t.summands
  where
    step : (ts : List Summand)
        → SumDeclared sorts (elim ts [ [] ↦ scaled t.constant s | _ ∷ _ ↦ scaled s.constant t ])
    step [] = scaled_declared sorts t.constant s d
    step (_ ∷ _) = scaled_declared sorts s.constant t e

product_declared : (sorts : List Sort) (ss : List Sum) → SumsDeclared sorts ss → SumDeclared sorts (product ss)
product_declared sorts [] d = tt
product_declared sorts (s ∷ ss) d = multiplied_declared sorts s (product ss) d.0 (product_declared sorts ss d.1)

length_declared : (sorts : List Sort) (ps : List Piece) → PiecesDeclared sorts ps → SumDeclared sorts (length_sum ps)
length_declared sorts [] d = tt
length_declared sorts (constant_piece serial ∷ ps) d =
    added_declared sorts (variable_sum (length_of serial)) (length_sum ps) (d.0, tt) (length_declared sorts ps d.1)
length_declared sorts (word_piece w ∷ ps) d =
    added_declared sorts (number_sum (pos (length w))) (length_sum ps) tt (length_declared sorts ps d)

where_test : (b : Bool) (o : Option Sum) (s : Sum) → (if b then o else None) ≡ Some s
    → (b ≡ true) × (o ≡ Some s)
where_test true o s h = (refl, h)
where_test false o s h = absurd (Prim.cc (h))

-- a sum within the limits is the sum
pub small_same : (s r : Sum) → if_small s ≡ Some r → s ≡ r
small_same s r h = some_if (is_small s) s r h

mutual
  pub sum_declared : (sorts : List Sort) (t : Term) (s : Sum) → fits_sorts sorts t ≡ true → sum_of t ≡ Some s
      → SumDeclared sorts s
  sum_declared sorts (constant serial integer) s fits h =
      let one : variable_sum (int_constant serial) ≡ s = Prim.cc (h) in
      subst (SumDeclared sorts) one (fits, tt)
  sum_declared sorts (constant serial boolean) s fits h = absurd (Prim.cc (h))
  sum_declared sorts (constant serial text) s fits h = absurd (Prim.cc (h))
  sum_declared sorts (constant serial reglan) s fits h = absurd (Prim.cc (h))
  sum_declared sorts (word w) s fits h = absurd (Prim.cc (h))
  sum_declared sorts (numeral n) s fits h =
      subst (SumDeclared sorts) (small_same (number_sum (pos n)) s h) tt
  sum_declared sorts (apply symbol.str_len (with_term t no_terms)) s fits h =
      option_and_then_some if_small (length_of_term t) s h
      (λ long there small. option_map_some length_sum (pieces_of t) long there
      (λ ps pieces same. subst (SumDeclared sorts) (same ∙ small_same long s small)
      (length_declared sorts ps
      (pieces_declared sorts t ps (and_parts (fits_sorts sorts t) true fits).0 pieces))))
  sum_declared sorts (apply symbol.plus terms) s fits h =
      option_and_then_some (λ ss. if_small (total ss)) (sums_of terms) s h
      (λ ss there small. subst (SumDeclared sorts) (small_same (total ss) s small)
      (total_declared sorts ss (sums_declared sorts terms ss fits there)))
  sum_declared sorts (apply symbol.minus terms) s fits h =
      option_and_then_some (λ ss. if_small (difference ss)) (sums_of terms) s h
      (λ ss there small. subst (SumDeclared sorts) (small_same (difference ss) s small)
      (difference_declared sorts ss (sums_declared sorts terms ss fits there)))
  sum_declared sorts (apply symbol.times terms) s fits h =
      option_and_then_some (λ ss. if_small (product ss)) (sums_of terms) s
      (where_test (is_linear_product terms) (option_and_then (λ ss. if_small (product ss)) (sums_of terms)) s h).1
      (λ ss there small. subst (SumDeclared sorts) (small_same (product ss) s small)
      (product_declared sorts ss (sums_declared sorts terms ss fits there)))
  sum_declared sorts (apply _ terms) s fits h = absurd (Prim.cc (h))
  sum_declared sorts (parameter place sort) s fits h = absurd (Prim.cc (h))

  sums_declared : (sorts : List Sort) (terms : Terms) (ss : List Sum) → all_fit sorts terms ≡ true
      → sums_of terms ≡ Some ss → SumsDeclared sorts ss
  sums_declared sorts no_terms ss fits h =
      let none : [] ≡ ss = Prim.cc (h) in
      subst (SumsDeclared sorts) none tt
  sums_declared sorts (with_term term terms) ss fits h =
      let parts = and_parts (fits_sorts sorts term) (all_fit sorts terms) fits in
      option_and_then_some (λ s. option_map (λ rest. s ∷ rest) (sums_of terms)) (sum_of term) ss h
      (λ s first others. option_map_some (λ rest. s ∷ rest) (sums_of terms) ss others
      (λ rest there same. subst (SumsDeclared sorts) same (
        sum_declared sorts term s parts.0 first,
        sums_declared sorts terms rest parts.1 there,
      )))

-- The sum of a term without constants is a number.

abbrev pub IsNumber : Sum → Type 0
IsNumber s = s.summands ≡ []

mutual
  ground_fits : (sorts : List Sort) (t : Term) → is_ground t ≡ true → fits_sorts sorts t ≡ true
      → fits_sorts [] t ≡ true
  ground_fits sorts (constant serial sort) g fits = absurd (Prim.cc (g))
  ground_fits sorts (word w) g fits = fits
  ground_fits sorts (numeral n) g fits = refl
  ground_fits sorts (apply s terms) g fits = ground_all_fit sorts terms g fits
  ground_fits sorts (parameter place sort) g fits = absurd (Prim.cc (g))

  ground_all_fit : (sorts : List Sort) (terms : Terms) → are_ground terms ≡ true → all_fit sorts terms ≡ true
      → all_fit [] terms ≡ true
  ground_all_fit sorts no_terms g fits = refl
  ground_all_fit sorts (with_term term terms) g fits =
      let ground = and_parts (is_ground term) (are_ground terms) g in
      let parts = and_parts (fits_sorts sorts term) (all_fit sorts terms) fits in
      and_from (fits_sorts [] term) (all_fit [] terms) (ground_fits sorts term ground.0 parts.0)
      (ground_all_fit sorts terms ground.1 parts.1)

none_declared : (ss : List Summand) → AreDeclared [] ss → ss ≡ []
none_declared [] d = refl
none_declared ((k, int_constant serial) ∷ ss) d = absurd (Prim.cc (d.0))
none_declared ((k, length_of serial) ∷ ss) d = absurd (Prim.cc (d.0))

ground_number : (sorts : List Sort) (t : Term) (s : Sum) → is_ground t ≡ true → fits_sorts sorts t ≡ true
    → sum_of t ≡ Some s → IsNumber s
ground_number sorts t s g fits h = none_declared s.summands (sum_declared [] t s (ground_fits sorts t g fits) h)

abbrev pub AreNumbers : List Sum → Type 0
AreNumbers [] = Unit {0}
AreNumbers (s ∷ ss) = IsNumber s × AreNumbers ss

ground_numbers : (sorts : List Sort) (terms : Terms) (ss : List Sum) → are_ground terms ≡ true
    → all_fit sorts terms ≡ true → sums_of terms ≡ Some ss → AreNumbers ss
ground_numbers sorts no_terms ss g fits h =
    let none : [] ≡ ss = Prim.cc (h) in
    subst AreNumbers none tt
ground_numbers sorts (with_term term terms) ss g fits h =
    let ground = and_parts (is_ground term) (are_ground terms) g in
    let parts = and_parts (fits_sorts sorts term) (all_fit sorts terms) fits in
    option_and_then_some (λ s. option_map (λ rest. s ∷ rest) (sums_of terms)) (sum_of term) ss h
    (λ s first others. option_map_some (λ rest. s ∷ rest) (sums_of terms) ss others
    (λ rest there same. subst AreNumbers same (
      ground_number sorts term s ground.0 parts.0 first,
      ground_numbers sorts terms rest ground.1 parts.1 there,
    )))

-- all sums but one at most are numbers
abbrev pub IsLinear : List Sum → Type 0
IsLinear [] = Unit {0}
IsLinear (s ∷ ss) = (IsNumber s × IsLinear ss) ⊎ AreNumbers ss

linear_sums : (sorts : List Sort) (terms : Terms) (ss : List Sum) → is_linear_product terms ≡ true
    → all_fit sorts terms ≡ true → sums_of terms ≡ Some ss → IsLinear ss
linear_sums sorts no_terms ss l fits h =
    let none : [] ≡ ss = Prim.cc (h) in
    subst IsLinear none tt
linear_sums sorts (with_term term terms) ss l fits h =
    let parts = and_parts (fits_sorts sorts term) (all_fit sorts terms) fits in
    option_and_then_some (λ s. option_map (λ rest. s ∷ rest) (sums_of terms)) (sum_of term) ss h
    (λ s first others. option_map_some (λ rest. s ∷ rest) (sums_of terms) ss others
    (λ rest there same. subst IsLinear same (
    by_test (is_ground term) s rest l (λ g. ground_number sorts term s g parts.0 first)
    (λ more. linear_sums sorts terms rest more parts.1 there)
    (λ more. ground_numbers sorts terms rest more parts.1 there)
    )))
  where
    by_test : (b : Bool) (s : Sum) (rest : List Sum)
        → (if b then is_linear_product terms else are_ground terms) ≡ true → (b ≡ true → IsNumber s)
        → (is_linear_product terms ≡ true → IsLinear rest) → (are_ground terms ≡ true → AreNumbers rest)
        → (IsNumber s × IsLinear rest) ⊎ AreNumbers rest
    by_test true s rest l f g h = inl (f refl, g l)
    by_test false s rest l f g h = inr (h l)

-- The values of sums.

abbrev pub number_of : Valuation → Sum → ℤ
number_of v s = value_of_sum v s.summands +ℤ s.constant

onto_value : (v : Valuation) (s : Summand) (ss : List Summand)
    → value_of_sum v (onto_sum s ss) ≡ (s.0 *ℤ value_of v s.1) +ℤ value_of_sum v ss
onto_value v s ss = step (int_eq s.0 (pos 0)) refl
  where
    step : (b : Bool) → int_eq s.0 (pos 0) ≡ b
        → value_of_sum v (if b then ss else s ∷ ss) ≡ (s.0 *ℤ value_of v s.1) +ℤ value_of_sum v ss
    step true e =
        sym (+ℤ_idl (value_of_sum v ss))
        ∙ ap (λ (n : ℤ). n +ℤ value_of_sum v ss) (sym (zero-*ℤ (value_of v s.1)))
        ∙ ap (λ (n : ℤ). (n *ℤ value_of v s.1) +ℤ value_of_sum v ss) (sym ((Decides-int_eq s.0 (pos 0)).0 e))
    step false e = refl

swap_first : (a b c : ℤ) → b +ℤ (a +ℤ c) ≡ a +ℤ (b +ℤ c)
swap_first a b c = omega (arith, ints)

with_summand_value : (v : Valuation) (sorts : List Sort) (s : Summand) (ss : List Summand)
    → is_declared_variable sorts s.1 ≡ true → AreDeclared sorts ss
    → value_of_sum v (with_summand s ss) ≡ (s.0 *ℤ value_of v s.1) +ℤ value_of_sum v ss
with_summand_value v sorts s [] d e = onto_value v s []
with_summand_value v sorts s (t ∷ ts) d e =
    step (nat_cmp (serial_of s.1) (serial_of t.1)) refl (with_summand_value v sorts s ts d e.1)
  where
    step : (o : Ordering) → o ≡ nat_cmp (serial_of s.1) (serial_of t.1)
        → value_of_sum v (with_summand s ts) ≡ (s.0 *ℤ value_of v s.1) +ℤ value_of_sum v ts
        → value_of_sum v (elim o [
          | Less ↦ onto_sum s (t ∷ ts)
          | Equal ↦ onto_sum (s.0 +ℤ t.0, t.1) ts
          | Greater ↦ t ∷ with_summand s ts
        ]) ≡ (s.0 *ℤ value_of v s.1) +ℤ value_of_sum v (t ∷ ts)
    step Less is more = onto_value v s (t ∷ ts)
    step Equal is more =
        let same = one_variable sorts s.1 t.1 d e.0 (ranked (serial_of s.1) (serial_of t.1) Equal is) in
        onto_value v (s.0 +ℤ t.0, t.1) ts
        ∙ ap (λ (n : ℤ). n +ℤ value_of_sum v ts) (sum_times s.0 t.0 (value_of v t.1))
        ∙ +ℤ_assoc (s.0 *ℤ value_of v t.1) (t.0 *ℤ value_of v t.1) (value_of_sum v ts)
        ∙ ap (λ (x : Variable). (s.0 *ℤ value_of v x) +ℤ value_of_sum v (t ∷ ts)) (sym same)
    step Greater is more =
        ap (λ (n : ℤ). (t.0 *ℤ value_of v t.1) +ℤ n) more
        ∙ swap_first (s.0 *ℤ value_of v s.1) (t.0 *ℤ value_of v t.1) (value_of_sum v ts)

with_summands_value : (v : Valuation) (sorts : List Sort) (ss ts : List Summand) → AreDeclared sorts ss
    → AreDeclared sorts ts → value_of_sum v (with_summands ss ts) ≡ value_of_sum v ss +ℤ value_of_sum v ts
with_summands_value v sorts [] ts d e = sym (+ℤ_idl (value_of_sum v ts))
with_summands_value v sorts (s ∷ ss) ts d e =
    with_summand_value v sorts s (with_summands ss ts) d.0 (with_summands_declared sorts ss ts d.1 e)
    ∙ ap (λ (n : ℤ). (s.0 *ℤ value_of v s.1) +ℤ n) (with_summands_value v sorts ss ts d.1 e)
    ∙ sym (+ℤ_assoc (s.0 *ℤ value_of v s.1) (value_of_sum v ss) (value_of_sum v ts))

times_value : (v : Valuation) (k : ℤ) (ss : List Summand)
    → value_of_sum v (times_each k ss) ≡ k *ℤ value_of_sum v ss
times_value v k [] = sym (*ℤ-zero k)
times_value v k (s ∷ ss) =
    onto_value v (k *ℤ s.0, s.1) (times_each k ss)
    ∙ ap (λ (n : ℤ). n +ℤ value_of_sum v (times_each k ss)) (times_times k s.0 (value_of v s.1))
    ∙ ap (λ (n : ℤ). (k *ℤ (s.0 *ℤ value_of v s.1)) +ℤ n) (times_value v k ss)
    ∙ sym (times_sum k (s.0 *ℤ value_of v s.1) (value_of_sum v ss))

four : (a b c d : ℤ) → (a +ℤ b) +ℤ (c +ℤ d) ≡ (a +ℤ c) +ℤ (b +ℤ d)
four a b c d = omega (arith, ints)

pub added_value : (v : Valuation) (sorts : List Sort) (s t : Sum) → SumDeclared sorts s → SumDeclared sorts t
    → number_of v (added s t) ≡ number_of v s +ℤ number_of v t
added_value v sorts s t d e =
    ap (λ (n : ℤ). n +ℤ (s.constant +ℤ t.constant)) (with_summands_value v sorts s.summands t.summands d e)
    ∙ four (value_of_sum v s.summands) (value_of_sum v t.summands) s.constant t.constant

scaled_value : (v : Valuation) (k : ℤ) (s : Sum) → number_of v (scaled k s) ≡ k *ℤ number_of v s
scaled_value v k s =
    ap (λ (n : ℤ). n +ℤ (k *ℤ s.constant)) (times_value v k s.summands)
    ∙ sym (times_sum k (value_of_sum v s.summands) s.constant)

pub negated_value : (v : Valuation) (s : Sum) → number_of v (scaled (neg_ℤ (pos 1)) s) ≡ pos 0 -ℤ number_of v s
negated_value v s = scaled_value v (neg_ℤ (pos 1)) s ∙ less_one_times (number_of v s)

total_value : (v : Valuation) (sorts : List Sort) (ss : List Sum) → SumsDeclared sorts ss
    → number_of v (total ss) ≡ truth.sum_of (map (number_of v) ss)
total_value v sorts [] d = +ℤ_idl (pos 0)
total_value v sorts (s ∷ ss) d =
    added_value v sorts s (total ss) d.0 (total_declared sorts ss d.1)
    ∙ ap (λ (n : ℤ). number_of v s +ℤ n) (total_value v sorts ss d.1)

pub add_negated : (a b : ℤ) → a +ℤ (pos 0 -ℤ b) ≡ a -ℤ b
add_negated a b = omega (arith, ints)

difference_value : (v : Valuation) (sorts : List Sort) (ss : List Sum) → SumsDeclared sorts ss
    → number_of v (difference ss) ≡ difference_of (map (number_of v) ss)
difference_value v sorts [] d = +ℤ_idl (pos 0)
difference_value v sorts (s ∷ []) d = negated_value v s
difference_value v sorts (s ∷ t ∷ ss) d =
    let rest = total (t ∷ ss) in
    added_value v sorts s (scaled (neg_ℤ (pos 1)) rest) d.0
    (scaled_declared sorts (neg_ℤ (pos 1)) rest (total_declared sorts (t ∷ ss) d.1))
    ∙ ap (λ (n : ℤ). number_of v s +ℤ n) (negated_value v rest)
    ∙ add_negated (number_of v s) (number_of v rest)
    ∙ ap (λ (n : ℤ). number_of v s -ℤ n) (total_value v sorts (t ∷ ss) d.1)

number_value : (v : Valuation) (s : Sum) → IsNumber s → number_of v s ≡ s.constant
number_value v s h =
    ap (λ (ss : List Summand). value_of_sum v ss +ℤ s.constant) h ∙ +ℤ_idl s.constant

multiplied_value : (v : Valuation) (s t : Sum) → IsNumber s ⊎ IsNumber t
    → number_of v (multiplied s t) ≡ number_of v s *ℤ number_of v t
multiplied_value v s t one = step t.summands refl one
  where
    step : (ts : List Summand) → t.summands ≡ ts → IsNumber s ⊎ IsNumber t
        → number_of v (elim ts [ [] ↦ scaled t.constant s | _ ∷ _ ↦ scaled s.constant t ])
        ≡ number_of v s *ℤ number_of v t
    step [] e one =
        scaled_value v t.constant s
        ∙ *ℤ_comm t.constant (number_of v s)
        ∙ ap (λ (n : ℤ). number_of v s *ℤ n) (sym (number_value v t e))
    step (x ∷ xs) e (inl h) =
        scaled_value v s.constant t ∙ ap (λ (n : ℤ). n *ℤ number_of v t) (sym (number_value v s h))
    step (x ∷ xs) e (inr h) =
        let never : x ∷ xs ≡ [] = sym e ∙ h in
        absurd (Prim.cc (never))

product_number : (ss : List Sum) → AreNumbers ss → IsNumber (product ss)
product_number [] h = refl
product_number (s ∷ ss) h = step (product ss) (product ss).summands (product_number ss h.1)
  where
    step : (t : Sum) (ts : List Summand) → ts ≡ []
        → IsNumber (elim ts [ [] ↦ scaled t.constant s | _ ∷ _ ↦ scaled s.constant t ])
    step t [] e = ap (times_each t.constant) h.0
    step t (x ∷ xs) e = absurd (Prim.cc (e))

product_value : (v : Valuation) (ss : List Sum) → IsLinear ss
    → number_of v (product ss) ≡ product_of (map (number_of v) ss)
product_value v [] l = +ℤ_idl (pos 1)
product_value v (s ∷ ss) (inl h) =
    multiplied_value v s (product ss) (inl h.0)
    ∙ ap (λ (n : ℤ). number_of v s *ℤ n) (product_value v ss h.1)
product_value v (s ∷ ss) (inr h) =
    multiplied_value v s (product ss) (inr (product_number ss h))
    ∙ ap (λ (n : ℤ). number_of v s *ℤ n) (product_value v ss (numbers_linear ss h))
  where
    numbers_linear : (ss : List Sum) → AreNumbers ss → IsLinear ss
    numbers_linear [] h = tt
    numbers_linear (s ∷ ss) h = inr h.1

-- The length of pieces.

one_times : (n : ℤ) → (pos 1 *ℤ n) +ℤ pos 0 ≡ n
one_times n = omega (arith, ints)

variable_value : (v : Valuation) (x : Variable) → number_of v (variable_sum x) ≡ value_of v x
variable_value v x = +ℤ_idr ((pos 1 *ℤ value_of v x) +ℤ pos 0) ∙ one_times (value_of v x)

joined_length : (u w : List ℕ) (n : ℤ) → n ≡ pos (length w) → pos (length u) +ℤ n ≡ pos (length (u ++ w))
joined_length u w n h =
    ap (λ (k : ℤ). pos (length u) +ℤ k) h
    ∙ pos-+ℤ-pos (length u) (length w)
    ∙ ap (λ (k : ℕ). pos k) (sym (length-append u w))

length_value : (v : Valuation) (sorts : List Sort) (ps : List Piece) → PiecesDeclared sorts ps
    → number_of v (length_sum ps) ≡ pos (length (words_of v ps))
length_value v sorts [] d = +ℤ_idl (pos 0)
length_value v sorts (constant_piece serial ∷ ps) d =
    added_value v sorts (variable_sum (length_of serial)) (length_sum ps) (d.0, tt) (length_declared sorts ps d.1)
    ∙ ap (λ (n : ℤ). n +ℤ number_of v (length_sum ps)) (variable_value v (length_of serial))
    ∙ joined_length (word_at v serial) (words_of v ps) (number_of v (length_sum ps)) (length_value v sorts ps d.1)
length_value v sorts (word_piece w ∷ ps) d =
    added_value v sorts (number_sum (pos (length w))) (length_sum ps) tt (length_declared sorts ps d)
    ∙ ap (λ (n : ℤ). n +ℤ number_of v (length_sum ps)) (+ℤ_idl (pos (length w)))
    ∙ joined_length w (words_of v ps) (number_of v (length_sum ps)) (length_value v sorts ps d)

-- The value is the term's number.

abbrev pub meant_number : Valuation → Sum → Meaning
meant_number v s = means_number (number_of v s)

integer_meant : (x : Value) (n : ℤ) → is_of integer x ≡ true
    → n ≡ (elim x [ Text w ↦ pos 0 | Int n ↦ n | Truth b ↦ pos 0 ]) → meaning_of_value x ≡ means_number n
integer_meant (Text w) n h e = absurd (Prim.cc (h))
integer_meant (Int m) n h e = ap (λ (k : ℤ). means_number k) (sym e)
integer_meant (Truth b) n h e = absurd (Prim.cc (h))

length_meant : (v : Valuation) (sorts : List Sort) (t : Term) (ps : List Piece) (s : Sum) → HasSorts v sorts
    → fits_sorts sorts t ≡ true → pieces_of t ≡ Some ps → length_sum ps ≡ s
    → meaning_of v (apply symbol.str_len (with_term t no_terms)) ≡ means_number (number_of v s)
length_meant v sorts t ps s has fits h same =
    ap (λ m. means_number (pos (length (flat_map (λ w. w) (word_in m ++ [])))))
    (pieces_keep v sorts t ps has fits h)
    ∙ ap (λ u. means_number (pos (length u))) (append-nil (words_of v ps))
    ∙ ap (λ (k : ℤ). means_number k) (sym (length_value v sorts ps (pieces_declared sorts t ps fits h)))
    ∙ ap (meant_number v) same

mutual
  pub sums_keep : (v : Valuation) (sorts : List Sort) (t : Term) (s : Sum) → HasSorts v sorts
      → fits_sorts sorts t ≡ true → sum_of t ≡ Some s → meaning_of v t ≡ means_number (number_of v s)
  sums_keep v sorts (constant serial integer) s has fits h =
      let one : variable_sum (int_constant serial) ≡ s = Prim.cc (h) in
      integer_meant (value_in v serial integer) (number_of v (variable_sum (int_constant serial)))
      (has serial integer (declared_at sorts integer serial fits)) (variable_value v (int_constant serial))
      ∙ ap (meant_number v) one
  sums_keep v sorts (constant serial boolean) s has fits h = absurd (Prim.cc (h))
  sums_keep v sorts (constant serial text) s has fits h = absurd (Prim.cc (h))
  sums_keep v sorts (constant serial reglan) s has fits h = absurd (Prim.cc (h))
  sums_keep v sorts (word w) s has fits h = absurd (Prim.cc (h))
  sums_keep v sorts (numeral n) s has fits h =
      ap (λ (k : ℤ). means_number k) (sym (+ℤ_idl (pos n)))
      ∙ ap (meant_number v) (small_same (number_sum (pos n)) s h)
  sums_keep v sorts (apply symbol.str_len (with_term t no_terms)) s has fits h =
      option_and_then_some if_small (length_of_term t) s h
      (λ long there small. option_map_some length_sum (pieces_of t) long there
      (λ ps pieces same. length_meant v sorts t ps s has (and_parts (fits_sorts sorts t) true fits).0 pieces
      (same ∙ small_same long s small)))
  sums_keep v sorts (apply symbol.plus terms) s has fits h =
      option_and_then_some (λ ss. if_small (total ss)) (sums_of terms) s h
      (λ ss there small. ap (λ ns. means_number (truth.sum_of ns)) (all_sums_keep v sorts terms ss has fits there)
      ∙ ap (λ (k : ℤ). means_number k) (sym (total_value v sorts ss (sums_declared sorts terms ss fits there)))
      ∙ ap (meant_number v) (small_same (total ss) s small))
  sums_keep v sorts (apply symbol.minus terms) s has fits h =
      option_and_then_some (λ ss. if_small (difference ss)) (sums_of terms) s h
      (λ ss there small. ap (λ ns. means_number (difference_of ns)) (all_sums_keep v sorts terms ss has fits there)
      ∙ ap (λ (k : ℤ). means_number k) (sym (difference_value v sorts ss (sums_declared sorts terms ss fits there)))
      ∙ ap (meant_number v) (small_same (difference ss) s small))
  sums_keep v sorts (apply symbol.times terms) s has fits h =
      let both =
      where_test (is_linear_product terms) (option_and_then (λ ss. if_small (product ss)) (sums_of terms)) s h in
      option_and_then_some (λ ss. if_small (product ss)) (sums_of terms) s both.1
      (λ ss there small. ap (λ ns. means_number (product_of ns)) (all_sums_keep v sorts terms ss has fits there)
      ∙ ap (λ (k : ℤ). means_number k) (sym (product_value v ss (linear_sums sorts terms ss both.0 fits there)))
      ∙ ap (meant_number v) (small_same (product ss) s small))
  sums_keep v sorts (apply _ terms) s has fits h = absurd (Prim.cc (h))
  sums_keep v sorts (parameter place sort) s has fits h = absurd (Prim.cc (h))

  all_sums_keep : (v : Valuation) (sorts : List Sort) (terms : Terms) (ss : List Sum) → HasSorts v sorts
      → all_fit sorts terms ≡ true → sums_of terms ≡ Some ss
      → flat_map number_in (meanings_of v terms) ≡ map (number_of v) ss
  all_sums_keep v sorts no_terms ss has fits h =
      let none : [] ≡ ss = Prim.cc (h) in
      ap (map (number_of v)) none
  all_sums_keep v sorts (with_term term terms) ss has fits h =
      let parts = and_parts (fits_sorts sorts term) (all_fit sorts terms) fits in
      option_and_then_some (λ s. option_map (λ rest. s ∷ rest) (sums_of terms)) (sum_of term) ss h
      (λ s first others. option_map_some (λ rest. s ∷ rest) (sums_of terms) ss others
      (λ rest there same. ap (λ m. number_in m ++ flat_map number_in (meanings_of v terms))
      (sums_keep v sorts term s has parts.0 first)
      ∙ ap (λ ns. number_of v s ∷ ns) (all_sums_keep v sorts terms rest has parts.1 there)
      ∙ ap (map (number_of v)) same))
