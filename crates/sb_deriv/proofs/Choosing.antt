-- What is picked at each piece of a common refinement.
use Rattle.std.proofs.Common.{◌≡◌, ℕ, zero, suc, ◌+◌, ◌<◌, ◌≤◌, Bool, true, false, not, ◌||◌, cond, List, [], ◌∷◌, ◌++◌, length, take, drop, get_or, set, refl, sym, ap, ap₂, ◌∙◌, arith, min}
use Rattle.std.specs.Prelude.{nat_le}
use Rattle.std.specs.List.{list_any}
use Rattle.std.proofs.lemmas.Bool.{leb-true}
use Rattle.std.proofs.lemmas.Bool.Decides.{nat_tests}
use Rattle.std.proofs.lemmas.List.{map-append, take-append-drop, take_more, take_all, length-map, get_or-map}
use Rattle.std.proofs.lemmas.List.Folds.{list_any-append, list_any_at}
use Rattle.std.proofs.lemmas.List.Elements.{filter-append}
use Rattle.sb_deriv.specs.declared.operation.Constants.{Constants}
use Rattle.sb_deriv.specs.declared.operation.Operation.{Operation}
use Rattle.sb_deriv.specs.declared.operation.Operation.TheVariants as operation
use Rattle.sb_deriv.specs.Pieces.{value_from, value_at, covers}
use Rattle.sb_deriv.specs.Choices.{drops, absorbs, absorbing, kept, picked, leads, joined, values_at, IsSpan, AreChosen}
use Rattle.sb_deriv.proofs.PieceFacts.{value_pushed, covers_pushed}
use Rattle.sb_deriv.proofs.Kept.{picked-append}

-- what was there, written back
pub set_back : (maps : List (List (ℕ × ℕ))) (i : ℕ) (m : List (ℕ × ℕ)) → i < length maps → m ≡ get_or maps i m
    → set maps i m ≡ maps
set_back [] i m l is = absurd (omega arith)
set_back (x ∷ maps) zero m l is = ap (λ y. y ∷ maps) is
set_back (x ∷ maps) (suc i) m l is = ap (λ ys. x ∷ ys) (set_back maps i m (omega (arith, l)) is)

-- so many maps were looked at, from a character up to an end
pub record Choosing (k : Constants) (op : Operation) (maps : List (List (ℕ × ℕ))) (i c end : ℕ) (ids : List ℕ) : Type 0
  where
    pub later : c < end
    pub within : end ≤ 0x30000
    pub none : (x : ℕ) → c ≤ x → x < end → list_any (absorbs k op) (values_at (take i maps) x) ≡ false
    pub same : (x : ℕ) → c ≤ x → x < end → ids ≡ kept k op (values_at (take i maps) x)

pub choosing_init : (k : Constants) (op : Operation) (maps : List (List (ℕ × ℕ))) (c : ℕ) (ids : List ℕ) → c ≤ 0x2ffff
    → ids ≡ [] → Choosing k op maps 0 c 0x30000 ids
choosing_init k op maps c ids l is = record {
  later = omega (arith, l);
  within = omega arith;
  none = λ x a b. refl;
  same = λ x a b. is;
}

values_more : (maps : List (List (ℕ × ℕ))) (i x : ℕ) (m : List (ℕ × ℕ)) → i < length maps → m ≡ get_or maps i m
    → values_at (take (i + 1) maps) x ≡ values_at (take i maps) x ++ value_at m x ∷ []
values_more maps i x m l is =
    ap (λ ms. values_at ms x) (take_more maps i m l ∙ ap (λ y. take i maps ++ y ∷ []) (sym is))
    ∙ map-append (λ n. value_at n x) (take i maps) (m ∷ [])

pub choosing_step : (k : Constants) (op : Operation) (maps : List (List (ℕ × ℕ))) (i c end end' stays t : ℕ)
    (m : List (ℕ × ℕ)) (ids ids' : List ℕ) → Choosing k op maps i c end ids → i < length maps → m ≡ get_or maps i m
    → IsSpan m c stays t → absorbs k op t ≡ false → ids' ≡ ids ++ cond (drops k op t) [] (t ∷ []) → end' ≡ min end stays
    → Choosing k op maps (i + 1) c end' ids'
choosing_step k op maps i c end end' stays t m ids ids' h l is s a n e =
    let u = h.later in
    let v = s.later in
    let w = h.within in
    record {
      later = omega (arith, e, u, v);
      within = omega (arith, e, w);
      none = λ x p q.
          let b : x < stays = omega (arith, e, q) in
          let d : x < end = omega (arith, e, q) in
          ap (list_any (absorbs k op)) (values_more maps i x m l is)
          ∙ list_any-append (absorbs k op) (values_at (take i maps) x) (value_at m x ∷ [])
          ∙ ap₂ (λ y z. y || (z || false)) (h.none x p d) (ap (absorbs k op) (s.same x p b) ∙ a);
      same = λ x p q.
          let b : x < stays = omega (arith, e, q) in
          let d : x < end = omega (arith, e, q) in
          n ∙ ap₂ (λ y z. y ++ z) (h.same x p d) (one (drops k op t))
          ∙ ap (λ y. kept k op (values_at (take i maps) x) ++ kept k op (y ∷ [])) (sym (s.same x p b))
          ∙ sym (filter-append (λ y. not (drops k op y)) (values_at (take i maps) x) (value_at m x ∷ []))
          ∙ ap (kept k op) (sym (values_more maps i x m l is));
    }
  where
    one : (b : Bool) → cond b [] (t ∷ []) ≡ cond (not b) (t ∷ []) []
    one true = refl
    one false = refl

absorbing_is : (k : Constants) (op : Operation) (t : ℕ) → absorbs k op t ≡ true → t ≡ absorbing k op
unfolding absorbs absorbing
absorbing_is k operation.Alt t h = grind (arith, nat_tests)
absorbing_is k operation.And t h = grind (arith, nat_tests)
absorbing_is k operation.Not t h = absurd (cc)
absorbing_is k (operation.Cat b) t h = absurd (cc)
absorbing_is k (operation.Path b) t h = absurd (cc)

pub absorbed : (k : Constants) (op : Operation) (maps : List (List (ℕ × ℕ))) (i c stays t : ℕ) (m : List (ℕ × ℕ))
    (none ids : List ℕ) → i < length maps → m ≡ get_or maps i m → IsSpan m c stays t → absorbs k op t ≡ true → none ≡ []
    → ids ≡ none ++ t ∷ [] → AreChosen k op maps c stays ids
absorbed k op maps i c stays t m none ids l is s a e n = record {
  later = s.later;
  within = s.within;
  same = λ x p q.
      n ∙ ap (λ y. y ++ t ∷ []) e ∙ ap (λ y. y ∷ []) (absorbing_is k op t a)
      ∙ sym (ap (λ b. cond b (absorbing k op ∷ []) (kept k op (values_at maps x))) (there x p q));
}
  where
    there : (x : ℕ) → c ≤ x → x < stays → list_any (absorbs k op) (values_at maps x) ≡ true
    there x p q =
        let o : i < length (values_at maps x) = omega (arith, l, length-map maps (λ n. value_at n x)) in
        list_any_at (absorbs k op) (values_at maps x) i t o
        (ap (absorbs k op) (get_or-map (λ n. value_at n x) maps i m t l ∙ ap (λ n. value_at n x) (sym is)
        ∙ s.same x p q) ∙ a)

pub chosen : (k : Constants) (op : Operation) (maps : List (List (ℕ × ℕ))) (i c end : ℕ) (ids : List ℕ)
    → Choosing k op maps i c end ids → length maps ≤ i → AreChosen k op maps c end ids
chosen k op maps i c end ids h l = record {
  later = h.later;
  within = h.within;
  same = λ x p q.
      h.same x p q ∙ ap (λ ms. kept k op (values_at ms x)) (take_all i maps l)
      ∙ sym (ap (λ b. cond b (absorbing k op ∷ []) (kept k op (values_at maps x)))
      (ap (λ ms. list_any (absorbs k op) (values_at ms x)) (sym (take_all i maps l)) ∙ h.none x p q));
}

-- the pieces up to a number
pub record Sweeping (k : Constants) (op : Operation) (maps : List (List (ℕ × ℕ))) (out : List (ℕ × List ℕ)) (f : ℕ)
    : Type 0 where
  pub within : f ≤ 0x30000
  pub whole : covers out f ≡ true
  pub values : (c : ℕ) → c < f → value_from [] out c ≡ picked k op (values_at maps c)

pub sweeping_init : (k : Constants) (op : Operation) (maps : List (List (ℕ × ℕ))) (out : List (ℕ × List ℕ)) → out ≡ []
    → Sweeping k op maps out 0
unfolding covers
sweeping_init k op maps out is = record {
  within = omega arith;
  whole = ap (λ xs. covers xs 0) is;
  values = λ c l. absurd (omega arith);
}

pub sweeping_step : (k : Constants) (op : Operation) (maps : List (List (ℕ × ℕ))) (out out' : List (ℕ × List ℕ))
    (f end : ℕ) (ids : List ℕ) → Sweeping k op maps out f → AreChosen k op maps f end ids → out' ≡ out ++ (f, ids) ∷ []
    → Sweeping k op maps out' end
sweeping_step k op maps out out' f end ids h a is = record {
  within = a.within;
  whole = ap (λ xs. covers xs end) is ∙ covers_pushed out f ids end h.whole a.later;
  values = λ c l. ap (λ xs. value_from [] xs c) is ∙ value_pushed [] out f ids c ∙ at c l (nat_le f c) refl;
}
  where
    at : (c : ℕ) → c < end → (u : Bool) → nat_le f c ≡ u
        → cond u ids (value_from [] out c) ≡ picked k op (values_at maps c)
    at c l true e = a.same c (leb-true f c e) l
    at c l false e = h.values c (grind (arith, nat_tests))

pub swept : (k : Constants) (op : Operation) (maps : List (List (ℕ × ℕ))) (out : List (ℕ × List ℕ)) (f : ℕ)
    → Sweeping k op maps out f → 0x30000 ≤ f →
    (covers out 0x30000 ≡ true) × ((c : ℕ) → c < 0x30000 → value_from [] out c ≡ picked k op (values_at maps c))
swept k op maps out f h l =
    let w = h.within in
    let e : f ≡ 0x30000 = omega (arith, w, l) in (
      ap (λ x. covers out x) (sym e) ∙ h.whole,
      λ c m. h.values c (omega (arith, e, m)),
    )

-- of two halves
pub halves : (k : Constants) (op : Operation) (maps front back : List (List (ℕ × ℕ))) (n c : ℕ) (x y z : List ℕ)
    → front ≡ take n maps → back ≡ drop n maps → x ≡ joined k op y z → y ≡ picked k op (values_at front c)
    → z ≡ picked k op (values_at back c) → x ≡ picked k op (values_at maps c)
halves k op maps front back n c x y z f b j p q =
    j ∙ ap₂ (joined k op) p q ∙ picked-append k op (values_at front c) (values_at back c)
    ∙ ap (picked k op) (sym (map-append (λ m. value_at m c) front back)
    ∙ ap (λ ms. values_at ms c) (ap₂ (λ u v. u ++ v) f b ∙ take-append-drop n maps))

pub nothing_joins : (k : Constants) (op : Operation) → joined k op [] [] ≡ []
unfolding leads
nothing_joins k op = refl
