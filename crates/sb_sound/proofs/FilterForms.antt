-- What a filter leaves of a list, and lists of which it leaves one element.
use Rattle.std.proofs.Common.{◌≡◌, Bool, true, false, cond, filter, List, [], ◌∷◌, ◌++◌, refl, sym, ap, subst, ◌∙◌, inl, inr}
use Rattle.std.specs.List.{Contains}
use Rattle.sb_sound.proofs.PassFacts.{Contains-cases, Contains-first, Contains-later, Contains-none}

module _ {X : Type 0} (test : X → Bool) where
  -- the list has the one that is left, and none passes before or behind it
  pub record IsParted (xs : List X) (x : X) : Type 0 where
    pub before : List X
    pub behind : List X
    pub parts : xs ≡ before ++ x ∷ behind
    pub passes : test x ≡ true
    pub none_before : (y : X) → Contains before y → test y ≡ false
    pub none_behind : (y : X) → Contains behind y → test y ≡ false

  pub none_left : (xs : List X) → filter test xs ≡ [] → (y : X) → Contains xs y → test y ≡ false
  none_left [] left y within = absurd (Contains-none y within)
  none_left (x ∷ xs) left y within = step (test x) refl left (λ rest later. none_left xs rest y later)
    where
      step : (b : Bool) → test x ≡ b → cond b (x ∷ filter test xs) (filter test xs) ≡ []
          → (filter test xs ≡ [] → Contains xs y → test y ≡ false) → test y ≡ false
      step true is left more = absurd (Prim.cc (left))
      step false is left more = elim (Contains-cases x xs y within)
          [ inl here ↦ ap test (sym here) ∙ is | inr later ↦ more left later ]

  pub one_left : (xs : List X) (x : X) → filter test xs ≡ x ∷ [] → IsParted xs x
  one_left [] x left = absurd (Prim.cc (left))
  one_left (y ∷ xs) x left = step (test y) refl left (one_left xs x)
    where
      step : (b : Bool) → test y ≡ b → cond b (y ∷ filter test xs) (filter test xs) ≡ x ∷ []
          → (filter test xs ≡ x ∷ [] → IsParted xs x) → IsParted (y ∷ xs) x
      step true is left more =
          let same : y ≡ x = Prim.cc (left) in
          let rest : filter test xs ≡ [] = Prim.cc (left) in
          record {
            before = [];
            behind = xs;
            parts = ap (λ z. z ∷ xs) same;
            passes = ap test (sym same) ∙ is;
            none_before = λ z within. absurd (Contains-none z within);
            none_behind = none_left xs rest;
          }
      step false is left more =
          let p = more left in
          record {
            before = y ∷ p.before;
            behind = p.behind;
            parts = ap (λ zs. y ∷ zs) p.parts;
            passes = p.passes;
            none_before = λ z within. elim (Contains-cases y p.before z within)
                [ inl here ↦ ap test (sym here) ∙ is | inr later ↦ p.none_before z later ];
            none_behind = p.none_behind;
          }

  pub left_none : (xs : List X) → ((y : X) → Contains xs y → test y ≡ false) → filter test xs ≡ []
  left_none [] none = refl
  left_none (x ∷ xs) none =
      ap (λ b. cond b (x ∷ filter test xs) (filter test xs)) (none x (Contains-first x xs))
      ∙ left_none xs (λ y within. none y (Contains-later x xs y within))

  pub left_one : (before behind : List X) (x : X) → test x ≡ true → ((y : X) → Contains before y → test y ≡ false)
      → ((y : X) → Contains behind y → test y ≡ false) → filter test (before ++ x ∷ behind) ≡ x ∷ []
  left_one [] behind x is none none_behind =
      ap (λ b. cond b (x ∷ filter test behind) (filter test behind)) is
      ∙ ap (λ ys. x ∷ ys) (left_none behind none_behind)
  left_one (y ∷ before) behind x is none none_behind =
      ap (λ b. cond b (y ∷ filter test (before ++ x ∷ behind)) (filter test (before ++ x ∷ behind)))
      (none y (Contains-first y before))
      ∙ left_one before behind x is (λ z within. none z (Contains-later y before z within)) none_behind

  pub within_before : (before behind : List X) (x y : X) → Contains before y → Contains (before ++ x ∷ behind) y
  within_before [] behind x y within = absurd (Contains-none y within)
  within_before (z ∷ before) behind x y within = elim (Contains-cases z before y within) [
    | inl here ↦ subst (λ w. Contains (z ∷ (before ++ x ∷ behind)) w) here (Contains-first z (before ++ x ∷ behind))
    | inr later ↦ Contains-later z (before ++ x ∷ behind) y (within_before before behind x y later)
  ]

  pub within_behind : (before behind : List X) (x y : X) → Contains (x ∷ behind) y → Contains (before ++ x ∷ behind) y
  within_behind [] behind x y within = within
  within_behind (z ∷ before) behind x y within =
      Contains-later z (before ++ x ∷ behind) y (within_behind before behind x y within)

  -- what is left is of the list, and passes
  pub left_within : (xs : List X) (y : X) → Contains (filter test xs) y → Contains xs y × (test y ≡ true)
  left_within [] y within = absurd (Contains-none y within)
  left_within (x ∷ xs) y within = step (test x) refl within (left_within xs y)
    where
      step : (b : Bool) → test x ≡ b → Contains (cond b (x ∷ filter test xs) (filter test xs)) y
          → (Contains (filter test xs) y → Contains xs y × (test y ≡ true)) → Contains (x ∷ xs) y × (test y ≡ true)
      step true is within more = elim (Contains-cases x (filter test xs) y within) [
        | inl here ↦ (subst (λ z. Contains (x ∷ xs) z) here (Contains-first x xs), ap test (sym here) ∙ is)
        | inr later ↦ let both = more later in (Contains-later x xs y both.0, both.1)
      ]
      step false is within more = let both = more within in (Contains-later x xs y both.0, both.1)

  -- what passes is left
  pub passing_left : (xs : List X) (y : X) → Contains xs y → test y ≡ true → Contains (filter test xs) y
  passing_left [] y within passes = absurd (Contains-none y within)
  passing_left (x ∷ xs) y within passes = elim (Contains-cases x xs y within) [
    | inl here ↦ subst (λ zs. Contains zs y)
        (sym (ap (λ b. cond b (x ∷ filter test xs) (filter test xs)) (ap test here ∙ passes)))
        (subst (λ z. Contains (x ∷ filter test xs) z) here (Contains-first x (filter test xs)))
    | inr later ↦ more (test x) (passing_left xs y later passes)
  ]
    where
      more : (b : Bool) → Contains (filter test xs) y → Contains (cond b (x ∷ filter test xs) (filter test xs)) y
      more true within = Contains-later x (filter test xs) y within
      more false within = within
