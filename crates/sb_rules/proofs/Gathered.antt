-- The ranges of classes, gathered and in their order.
use Rattle.std.proofs.Common.{◌≡◌, ℕ, zero, suc, inl, inr, ◌+◌, ◌<◌, ◌≤◌, Bool, true, false, ◌&&◌, nat_le, List, [], ◌∷◌, ◌++◌, length, get_or, drop, ◌⊎◌, refl, sym, ap, ap₂, subst, ◌∙◌, arith}
use Rattle.std.specs.List.{All}
use Rattle.std.specs.List.Sorted.{IsSorted, IsPermutation}
use Rattle.std.specs.declared.cmp.Ordering.{Ordering}
use Rattle.std.specs.Ordering.{nat_cmp, ordering_then, is_lt}
use Rattle.std.proofs.lemmas.Bool.{and_parts, false≢true, true≢false, lt-ltb, cases_order}
use Rattle.std.proofs.lemmas.List.{append-nil, append_assoc, drop_more, drop_all}
use Rattle.std.proofs.lemmas.List.Elements.{All-nil, All-cons, All-head, All-tail, All-append, All-map, All-weaker}
use Rattle.sb_word.specs.Words.{is_character}
use Rattle.sb_class.specs.Ranges.{Range, fits_from, rises_from}
use Rattle.sb_proof.specs.declared.line.Class.{Class}
use Rattle.sb_rules.specs.Pieces.{Piece, Ranged, ranged_at, pieces_to, pieces_in, are_canonical, AreRising, AreAdded, covers_from}
use Rattle.sb_rules.proofs.Counts.{IsWithin, AreWithin, first-of, behind-first, le-is}

-- Sorted pieces stand by their first characters.

not-less : (x y : Piece) (o : Ordering) → is_lt (ordering_then (nat_cmp x.0 y.0) o) ≡ false → y.0 ≤ x.0
not-less x y o h = by (cases_order x.0 y.0)
  where
    by : (x.0 ≡ y.0) ⊎ ((x.0 < y.0) ⊎ (y.0 < x.0)) → y.0 ≤ x.0
    by (inl same) = omega (arith, same)
    by (inr (inl below)) = absurd (false≢true (sym h ∙ rw (lt-ltb x.0 y.0 below) refl))
    by (inr (inr above)) = omega (arith, above)

abbrev IsAscending : List Piece → Type 0
IsAscending ps = (k : ℕ) (d : Piece) → suc k < length ps → (get_or ps k d).0 ≤ (get_or ps (suc k) d).0

rising : (p : Piece) (ps : List Piece) → IsAscending (p ∷ ps) → AreRising p.0 ps
rising p [] a = tt
rising p (q ∷ ps) a = (a 0 p (omega arith), rising q ps (λ k d l. a (suc k) d (omega (arith, l))))

all-rising : (ps : List Piece) → IsAscending ps → AreRising 0 ps
all-rising [] a = tt
all-rising (p ∷ ps) a = (omega arith, rising p ps a)

pub sorted-rise : (ps : List Piece)
    → IsSorted (λ x y. ordering_then (nat_cmp x.0 y.0)
    (ordering_then (nat_cmp x.1.0 y.1.0) (nat_cmp x.1.1 y.1.1))) ps
    → AreRising 0 ps
sorted-rise ps ordered =
    all-rising ps
    (λ k d l. not-less (get_or ps (suc k) d) (get_or ps k d) _
    (subst (λ m. is_lt (ordering_then (nat_cmp (get_or ps m d).0 (get_or ps k d).0)
    (ordering_then (nat_cmp (get_or ps m d).1.0 (get_or ps k d).1.0)
    (nat_cmp (get_or ps m d).1.1 (get_or ps k d).1.1))) ≡ false) (omega arith)
    (ordered k d (omega arith) (omega (arith, l)))))

-- The ranges of a canonical set hold characters.

abbrev pub HoldsCharacters : Range → Type 0
HoldsCharacters r = (r.0 ≤ r.1) × (r.1 ≤ 0x2ffff)

fitting-holds : (n : ℕ) (r : Range) → fits_from n r ≡ true → HoldsCharacters r
fitting-holds n r h =
    let p = and_parts (nat_le n r.0) (nat_le r.0 r.1 && is_character r.1) h in
    let q = and_parts (nat_le r.0 r.1) (is_character r.1) p.1 in
    (le-is r.0 r.1 q.0, le-is r.1 0x2ffff q.1)

ranges-hold : (n : ℕ) (rs : List Range) → rises_from n rs ≡ true → All HoldsCharacters rs
unfolding rises_from
ranges-hold n [] h = All-nil HoldsCharacters
ranges-hold n (r ∷ rs) h =
    let p = and_parts (fits_from n r) (rises_from (r.1 + 2) rs) h in
    All-cons HoldsCharacters r rs (fitting-holds n r p.0) (ranges-hold (r.1 + 2) rs p.1)

pub all-within : (ks : List Ranged) → are_canonical ks ≡ true → All IsWithin (pieces_in ks)
all-within [] h = All-nil IsWithin
all-within (k ∷ ks) h =
    let p = and_parts (rises_from 0 k.0) (are_canonical ks) h in
    All-append IsWithin (pieces_to k.1 k.0) (pieces_in ks)
    (All-map IsWithin (λ r. (r.0, (r.1, k.1))) k.0
    (All-weaker HoldsCharacters (λ r. IsWithin (r.0, (r.1, k.1)))
    (λ r w. record { ordered = w.0; character = w.1 }) k.0 (ranges-hold 0 k.0 p.0)))
    (all-within ks p.1)

pub are-within : (ps : List Piece) → All IsWithin ps → AreWithin ps
are-within [] h = tt
are-within (p ∷ ps) h = (All-head IsWithin p ps h, are-within ps (All-tail IsWithin p ps h))

pub covers-within : (n : ℕ) (ps : List Piece) → covers_from n ps ≡ true → All IsWithin ps
covers-within n [] h = All-nil IsWithin
covers-within n (p ∷ ps) h =
    let f = first-of n p (covers_from (p.1.0 + 1) ps) h in
    All-cons IsWithin p ps (record { ordered = f.ordered; character = f.character })
    (covers-within (p.1.0 + 1) ps (behind-first n p (covers_from (p.1.0 + 1) ps) h))

-- One more class.

ranged-long : (ks : List Class) (ids : List ℕ) → length ids ≡ length ks → length (ranged_at ks ids) ≡ length ks
ranged-long [] ids e = refl
ranged-long (k ∷ ks) [] e = absurd (omega (arith, e))
ranged-long (k ∷ ks) (id ∷ ids) e = ap suc (ranged-long ks ids (omega (arith, e)))

ranged-get : (ks : List Class) (ids : List ℕ) (i : ℕ) (k : Class) (id : ℕ) → length ids ≡ length ks
    → i < length ks
    → get_or (ranged_at ks ids) i (k.ranges.items, id) ≡ ((get_or ks i k).ranges.items, get_or ids i id)
ranged-get [] ids i k id e l = absurd (omega (arith, l))
ranged-get (x ∷ ks) [] i k id e l = absurd (omega (arith, e))
ranged-get (x ∷ ks) (y ∷ ids) zero k id e l = refl
ranged-get (x ∷ ks) (y ∷ ids) (suc i) k id e l = ranged-get ks ids i k id (omega (arith, e)) (omega (arith, l))

pub ranged-more : (ks : List Class) (ids : List ℕ) (i : ℕ) (k : Class) (id : ℕ) → length ids ≡ length ks
    → i < length ks → k ≡ get_or ks i k → id ≡ get_or ids i id
    → drop i (ranged_at ks ids) ≡ (k.ranges.items, id) ∷ drop (i + 1) (ranged_at ks ids)
ranged-more ks ids i k id e l p q =
    let long = ranged-long ks ids e in
    drop_more (ranged_at ks ids) i (k.ranges.items, id) (omega (arith, l, long))
    ∙ ap (λ x. x ∷ drop (i + 1) (ranged_at ks ids))
    (ranged-get ks ids i k id e l ∙ ap₂ (λ (a : Class) (b : ℕ). (a.ranges.items, b)) (sym p) (sym q))

pub ranged-end : (ks : List Class) (ids : List ℕ) (i : ℕ) → length ids ≡ length ks → length ks ≤ i
    → drop i (ranged_at ks ids) ≡ []
ranged-end ks ids i e l =
    let long = ranged-long ks ids e in
    drop_all i (ranged_at ks ids) (omega (arith, l, long))

module _ (old new : List Piece) (ranges : List Range) (id : ℕ) where
  pub is-added : (b : Bool) → b ≡ true → AreAdded old new ranges id b → AreAdded old new ranges id true
  is-added true e h = h
  is-added false e h = absurd (false≢true e)

  pub not-added : (b : Bool) → b ≡ false → AreAdded old new ranges id b → AreAdded old new ranges id false
  not-added true e h = absurd (true≢false e)
  not-added false e h = h

module _ (all left rest : List Ranged) (k : Ranged) where
  pub wrong-class : are_canonical left ≡ are_canonical all → left ≡ k ∷ rest → rises_from 0 k.0 ≡ false
      → are_canonical all ≡ false
  wrong-class e m h = sym e ∙ ap are_canonical m ∙ ap (λ b. b && are_canonical rest) h

  pub one-class : are_canonical left ≡ are_canonical all → left ≡ k ∷ rest → rises_from 0 k.0 ≡ true
      → are_canonical rest ≡ are_canonical all
  one-class e m h = sym (ap (λ b. b && are_canonical rest) h) ∙ sym (ap are_canonical m) ∙ e

  pub one-more : (old new : List Piece) → old ++ pieces_in left ≡ pieces_in all → left ≡ k ∷ rest
      → new ≡ old ++ pieces_to k.1 k.0 → new ++ pieces_in rest ≡ pieces_in all
  one-more old new e m n =
      ap (λ x. x ++ pieces_in rest) n
      ∙ append_assoc old (pieces_to k.1 k.0) (pieces_in rest)
      ∙ ap (λ x. old ++ pieces_in x) (sym m)
      ∙ e

pub all-gathered : (all left : List Ranged) (old new : List Piece) → left ≡ []
    → are_canonical left ≡ are_canonical all → old ++ pieces_in left ≡ pieces_in all → IsPermutation old new
    → IsSorted (λ x y. ordering_then (nat_cmp x.0 y.0)
    (ordering_then (nat_cmp x.1.0 y.1.0) (nat_cmp x.1.1 y.1.1))) new
    → (are_canonical all ≡ true) × IsPermutation (pieces_in all) new × AreRising 0 new
all-gathered all left old new m e g moved ordered = (
  sym e ∙ ap are_canonical m,
  subst (λ xs. IsPermutation xs new) (sym (append-nil old) ∙ ap (λ x. old ++ pieces_in x) (sym m) ∙ g) moved,
  sorted-rise new ordered,
)

-- The targets are known.

pub all-known : (n : ℕ) (ks : List Class) (ids : List ℕ) → All (λ i. i < n) ids
    → All (λ p. p.1.1 < n) (pieces_in (ranged_at ks ids))
all-known n [] ids h = All-nil (λ (p : Piece). p.1.1 < n)
all-known n (k ∷ ks) [] h = All-nil (λ (p : Piece). p.1.1 < n)
all-known n (k ∷ ks) (id ∷ ids) h =
    All-append (λ (p : Piece). p.1.1 < n) (pieces_to id k.ranges.items) (pieces_in (ranged_at ks ids))
    (All-map (λ (p : Piece). p.1.1 < n) (λ r. (r.0, (r.1, id))) k.ranges.items
    (λ i d l. All-head (λ i. i < n) id ids h))
    (all-known n ks ids (All-tail (λ i. i < n) id ids h))
