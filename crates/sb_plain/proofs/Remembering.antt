-- What is remembered stays right as an arena and the memory grow, and what is found is right.
use Rattle.std.proofs.Common.{◌≡◌, ℕ, zero, suc, ◌<◌, ◌≤◌, Bool, true, false, cond, Some, None, Option, List, [], ◌∷◌, ◌++◌, length, get_or, set, map, refl, sym, ap, ap₂, subst, ◌∙◌, arith, ◌⊎◌, inl, inr}
use Rattle.std.specs.Prelude.{nat_eq, nat_lt, nat_le, ◌&&◌, ◌||◌, is_some, IsSome, not, slice_get, unwrap_or, option_and_then, option_map}
use Rattle.std.specs.List.{All, list_all}
use Rattle.std.specs.Map.{lookup}
use Rattle.std.proofs.lemmas.Bool.{and_parts}
use Rattle.std.proofs.lemmas.Bool.Decides.{nat_tests}
use Rattle.std.proofs.lemmas.List.{get_or-set_same, get_or-set_other}
use Rattle.std.proofs.lemmas.Option.{slice_get_within, get_or_from_slice_get, slice_get-get_or}
use Rattle.sb_class.specs.Ranges.{Range, in_ranges}
use Rattle.sb_word.specs.Words.{is_character}
use Rattle.sb_lang.specs.Regex.{Regex}
use Rattle.sb_lang.specs.Derivative.{nd}
use Rattle.sb_regex.specs.Numbered.{regex_at, regexes_at, AllNumbers, Extends, Names}
use Rattle.sb_regex.proofs.CallerLemmas.{at_kept, number_kept, names_at, names_below, names_kept}
use Rattle.sb_plain.specs.declared.shape.Operation.{Operation}
use Rattle.sb_plain.specs.CutPoints.{none_between, ArePoints, AreCutPoints}
use Rattle.sb_plain.specs.Memory.{Learnt, same_pair, place_of, points_of, derivative_of, IsRightPlace, LearntIsRight}
use Rattle.sb_plain.specs.Making.{stretch, found, is_found, target_at, AreFound, Covers, Parts, made, set_ranges, nd_each, IsShape, IsPlaceFor, PlacesExist, ListsAreKept}
use Rattle.sb_plain.proofs.PointFacts.{stretch_le, stretch_none, both, no_ranges}
use Rattle.sb_plain.proofs.Shapes.{made_same}

pub some_same : {X : Type 0} (x y : X) → Some x ≡ Some y → x ≡ y
some_same x y h = cc

none_not : {X : Type 0} (x : X) → None ≡ Some x → ⊥
none_not x h = cc

-- an option is something

pub something : {X : Type 0} (o : Option X) → IsSome o → (x : X) × (o ≡ Some x)
something None h = absurd (cc)
something (Some x) h = (x, refl)

same_number : (i j : ℕ) → ((i ≡ j) × Unit {0}) ⊎ (i ≡ j → ⊥)
same_number i j = step (nat_lt i j) (nat_lt j i) refl refl
  where
    step : (a b : Bool) → nat_lt i j ≡ a → nat_lt j i ≡ b → ((i ≡ j) × Unit {0}) ⊎ (i ≡ j → ⊥)
    step true b p q = inr (λ e. grind (arith, nat_tests))
    step false true p q = inr (λ e. grind (arith, nat_tests))
    step false false p q = inl (grind (arith, nat_tests), tt)

nat_same : (x y : ℕ) → nat_eq x y ≡ true → x ≡ y
nat_same x y h = grind (arith, nat_tests)

same_nat : (x : ℕ) → nat_eq x x ≡ true
same_nat x = grind (arith, nat_tests)

nat_apart : (x y : ℕ) → (x ≡ y → ⊥) → nat_eq x y ≡ false
nat_apart x y n = step (nat_eq x y) refl
  where
    step : (b : Bool) → nat_eq x y ≡ b → nat_eq x y ≡ false
    step true e = absurd (n (nat_same x y e))
    step false e = e

-- an arena that grows

pub right_kept : (old new : List Regex) (m : Learnt) → Extends old new → LearntIsRight old m → LearntIsRight new m
right_kept old new m e r = record {
  places = λ n k h.
      let p = r.places n k h in
      record {
        number = number_kept old new n e p.number;
        list = p.list;
        there = p.there;
        points = subst (λ (x : Regex). AreCutPoints x p.list) (sym (at_kept old new n e p.number)) p.points;
      };
  derivatives = λ n c t h.
      let d = r.derivatives n c t h in (
        number_kept old new n e d.0,
        subst (λ (x : Regex). Names new t (nd x c)) (sym (at_kept old new n e d.0))
            (names_kept old new t (nd (regex_at old n) c) e d.1),
      );
}

-- what is found

pub points_right : (rs : List Regex) (m : Learnt) (n : ℕ) (points : List ℕ) → LearntIsRight rs m
    → points_of m n ≡ Some points → (n < length rs) × AreCutPoints (regex_at rs n) points
points_right rs m n points r h = step (place_of m n) refl h
  where
    step : (o : Option ℕ) → place_of m n ≡ o → option_and_then (slice_get m.0) o ≡ Some points
        → (n < length rs) × AreCutPoints (regex_at rs n) points
    step None e g = absurd (none_not points g)
    step (Some k) e g =
        let p = r.places n k e in
        let z : p.list ≡ points = some_same p.list points (sym p.there ∙ g) in
        (p.number, subst (AreCutPoints (regex_at rs n)) z p.points)

pub place_points : (rs : List Regex) (m : Learnt) (n : ℕ) → LearntIsRight rs m → IsSome (place_of m n)
    → IsSome (points_of m n)
place_points rs m n r h =
    let p = something (place_of m n) h in
    let q = r.places n p.0 p.1 in
    ap (λ o. is_some (option_and_then (slice_get m.0) o)) p.1 ∙ ap is_some q.there

pub found_points : (m : Learnt) (c n : ℕ) → is_found m c n ≡ true → IsSome (points_of m n)
found_points m c n h = step (points_of m n) h
  where
    step : (o : Option (List ℕ)) → is_some (option_and_then (λ points. derivative_of m n (stretch points c)) o) ≡ true
        → IsSome o
    step None g = absurd (cc)
    step (Some points) g = refl

pub found_place : (m : Learnt) (c n : ℕ) → is_found m c n ≡ true → IsSome (place_of m n)
found_place m c n h = step (place_of m n) (found_points m c n h)
  where
    step : (o : Option ℕ) → IsSome (option_and_then (slice_get m.0) o) → IsSome o
    step None g = absurd (cc)
    step (Some k) g = refl

pub places_exist : (rs : List Regex) (m : Learnt) → LearntIsRight rs m → PlacesExist m
places_exist rs m r n k h = let p = r.places n k h in slice_get_within m.0 k p.list p.there

same_stretch : (rs : List Regex) (m : Learnt) (n c : ℕ) (points : List ℕ) → is_character c ≡ true → LearntIsRight rs m
    → points_of m n ≡ Some points → nd (regex_at rs n) (stretch points c) ≡ nd (regex_at rs n) c
same_stretch rs m n c points h r e =
    let p = (points_right rs m n points r e).1 in
    p.same (stretch points c) c (stretch_le points c) h (stretch_none points c p.are_points.ascending)

pub found_names : (rs : List Regex) (m : Learnt) (n c t : ℕ) → is_character c ≡ true → LearntIsRight rs m
    → found m n c ≡ Some t → (n < length rs) × Names rs t (nd (regex_at rs n) c)
found_names rs m n c t h r f = step (points_of m n) refl f
  where
    step : (o : Option (List ℕ)) → points_of m n ≡ o
        → option_and_then (λ points. derivative_of m n (stretch points c)) o ≡ Some t
        → (n < length rs) × Names rs t (nd (regex_at rs n) c)
    step None e g = absurd (none_not t g)
    step (Some points) e g =
        let d = r.derivatives n (stretch points c) t g in
        (d.0, subst (Names rs t) (same_stretch rs m n c points h r e) d.1)

pub character : (c : ℕ) → c ≤ 0x2ffff → is_character c ≡ true
character c l = grind (arith, nat_tests)

-- the derivatives of parts

pub target_names : (rs : List Regex) (m : Learnt) (n c : ℕ) → is_character c ≡ true → LearntIsRight rs m
    → is_found m c n ≡ true → Names rs (target_at m c n) (nd (regex_at rs n) c)
target_names rs m n c h r f =
    let p = something (found m n c) f in
    let d = found_names rs m n c p.0 h r p.1 in
    subst (λ (x : ℕ). Names rs x (nd (regex_at rs n) c)) (sym (ap (λ o. unwrap_or o 0) p.1)) d.1

pub targets_are : (rs : List Regex) (m : Learnt) (c : ℕ) (parts : List ℕ) → is_character c ≡ true → LearntIsRight rs m
    → AreFound m c parts
    → AllNumbers rs (map (target_at m c) parts)
    × (regexes_at rs (map (target_at m c) parts) ≡ nd_each (regexes_at rs parts) c)
targets_are rs m c [] h r f = (λ k d l. absurd (omega (arith, l)), refl)
targets_are rs m c (n ∷ parts) h r f =
    let p = targets_are rs m c parts h r (λ k d l. f (suc k) d (omega (arith, l))) in
    let d = target_names rs m n c h r (f 0 0 (omega arith)) in
    (below p.0 d, ap₂ (λ x xs. x ∷ xs) (names_at rs (target_at m c n) (nd (regex_at rs n) c) d) p.1)
  where
    below : AllNumbers rs (map (target_at m c) parts) → Names rs (target_at m c n) (nd (regex_at rs n) c)
        → AllNumbers rs (target_at m c n ∷ map (target_at m c) parts)
    below q d zero x l = names_below rs (target_at m c n) (nd (regex_at rs n) c) d
    below q d (suc k) x l = q k x (omega (arith, l))

-- the points of a regex, from those of its parts

each_same : (rs : List Regex) (m : Learnt) (parts list : List ℕ) (c d : ℕ) → LearntIsRight rs m
    → All (λ n. IsSome (place_of m n)) parts
    → All (λ n. (l : List ℕ) → points_of m n ≡ Some l → Covers list l) parts → c ≤ d → is_character d ≡ true
    → none_between list c d ≡ true → nd_each (regexes_at rs parts) c ≡ nd_each (regexes_at rs parts) d
each_same rs m [] list c d r f v l h e = refl
each_same rs m (n ∷ parts) list c d r f v l h e =
    let p = something (points_of m n) (place_points rs m n r (f 0 0 (omega arith))) in
    let q = (points_right rs m n p.0 r p.1).1 in
    let one = q.same c d l h (v 0 0 (omega arith) p.0 p.1 (λ x. nat_le x c || nat_lt d x) e) in
    ap₂ (λ x xs. x ∷ xs) one
    (each_same rs m parts list c d r (λ k x b. f (suc k) x (omega (arith, b))) (λ k x b. v (suc k) x (omega (arith, b)))
    l h e)

pub cut_points_are : (rs : List Regex) (m : Learnt) (n : ℕ) (op : Operation) (parts list : List ℕ) → LearntIsRight rs m
    → IsShape rs n op parts → All (λ q. IsSome (place_of m q)) parts → ArePoints list
    → All (λ q. (l : List ℕ) → points_of m q ≡ Some l → Covers list l) parts
    → Parts list (in_ranges (set_ranges op)) → AreCutPoints (regex_at rs n) list
cut_points_are rs m n op parts list r s f p v u = record {
  are_points = p;
  same = λ c d l h e. s.value c
      ∙ ap (made rs op c) (each_same rs m parts list c d r f v l h e)
      ∙ made_same rs op c d (nd_each (regexes_at rs parts) d) (u c d l h e)
      ∙ sym (s.value d);
}

-- one more place

module _ (rs : List Regex) (m m1 m' : Learnt) (id k : ℕ) (op : Operation) (parts : List ℕ) (r : LearntIsRight rs m)
    (grown : ListsAreKept m m1) (l0 : m'.0 ≡ m1.0) (l1 : m'.1.0 ≡ set m1.1.0 id (Some k)) (l2 : m'.1.1 ≡ m1.1.1) where
  place_elsewhere : (n : ℕ) → (n ≡ id → ⊥) → place_of m' n ≡ place_of m n
  place_elsewhere n a = ap (λ xs. get_or xs n None) l1 ∙ get_or-set_other m1.1.0 id n (Some k) None a
      ∙ ap (λ x. get_or x.0 n None) grown.rest

  list_kept : (j : ℕ) → j < length m.0 → slice_get m'.0 j ≡ slice_get m.0 j
  list_kept j l = ap (λ xs. slice_get xs j) l0 ∙ grown.lists j l

  place_here : id < length m.1.0 → place_of m' id ≡ Some k
  place_here room = ap (λ xs. get_or xs id None) l1
      ∙ get_or-set_same m1.1.0 id (Some k) None (omega (arith, ap (λ x. length x.0) grown.rest, room))

  pub place_is : id < length m.1.0 → IsSome (place_of m' id)
  place_is room = ap is_some (place_here room)

  pub place_right : id < length rs → id < length m.1.0 → IsPlaceFor m m1 op parts k → IsShape rs id op parts
      → All (λ q. IsSome (place_of m q)) parts → LearntIsRight rs m'
  place_right number room p s f = record {
    places = λ n j h. elim (same_number n id) [
      | inl e ↦
          let z : k ≡ j = some_same k j (sym (place_here room) ∙ ap (place_of m') (sym e.0) ∙ h) in
          subst (λ (x : ℕ). IsRightPlace rs m' x j) (sym e.0) (subst (IsRightPlace rs m' id) z (record {
            number = number;
            list = p.list;
            there = ap (λ xs. slice_get xs k) l0 ∙ p.there;
            points = cut_points_are rs m id op parts p.list r s f p.points p.lists p.ranges;
          }))
      | inr a ↦
          let q = r.places n j (sym (place_elsewhere n a) ∙ h) in
          record {
            number = q.number;
            list = q.list;
            there = list_kept j (slice_get_within m.0 j q.list q.there) ∙ q.there;
            points = q.points;
          }
    ];
    derivatives = λ n c t h.
        r.derivatives n c t (sym (ap (lookup (same_pair (n, c))) (l2 ∙ ap (λ x. x.1) grown.rest)) ∙ h);
  }

  pub points_elsewhere : (n : ℕ) → (n ≡ id → ⊥) → points_of m' n ≡ points_of m n
  points_elsewhere n a = ap (option_and_then (slice_get m'.0)) (place_elsewhere n a) ∙ step (place_of m n) refl
    where
      step : (o : Option ℕ) → place_of m n ≡ o → option_and_then (slice_get m'.0) o ≡ option_and_then (slice_get m.0) o
      step None e = refl
      step (Some j) e = let q = r.places n j e in list_kept j (slice_get_within m.0 j q.list q.there)

  pub found_elsewhere : (n c : ℕ) → (n ≡ id → ⊥) → found m' n c ≡ found m n c
  found_elsewhere n c a =
      ap (option_and_then (λ points. derivative_of m' n (stretch points c))) (points_elsewhere n a)
      ∙ ap (λ ds. option_and_then (λ points. lookup (same_pair (n, stretch points c)) ds) (points_of m n))
      (l2 ∙ ap (λ x. x.1) grown.rest)

  pub found_kept : is_some (place_of m id) ≡ false → (n c : ℕ) → is_found m c n ≡ true → found m' n c ≡ found m n c
  found_kept lacks n c h = found_elsewhere n c (λ e. absurd (apart e))
    where
      apart : n ≡ id → ⊥
      apart e =
          let x : is_some (place_of m id) ≡ true = ap (λ j. is_some (place_of m j)) (sym e) ∙ found_place m c n h in
          true_not (sym x ∙ lacks)
        where
          true_not : true ≡ false → ⊥
          true_not z = cc

-- a memory with more lists alone
pub right_lists : (rs : List Regex) (m m1 : Learnt) → ListsAreKept m m1 → LearntIsRight rs m → LearntIsRight rs m1
right_lists rs m m1 g r = record {
  places = λ n k h.
      let p = r.places n k (sym (ap (λ x. get_or x.0 n None) g.rest) ∙ h) in
      record {
        number = p.number;
        list = p.list;
        there = g.lists k (slice_get_within m.0 k p.list p.there) ∙ p.there;
        points = p.points;
      };
  derivatives = λ n c t h. r.derivatives n c t (sym (ap (λ x. lookup (same_pair (n, c)) x.1) g.rest) ∙ h);
}

pub found_lists : (rs : List Regex) (m m1 : Learnt) → ListsAreKept m m1 → LearntIsRight rs m → (n c : ℕ)
    → found m1 n c ≡ found m n c
found_lists rs m m1 g r n c =
    ap (option_and_then (λ points. derivative_of m1 n (stretch points c)))
    (ap (λ x. option_and_then (slice_get m1.0) (get_or x.0 n None)) g.rest ∙ step (place_of m n) refl)
    ∙ ap (λ x. option_and_then (λ points. lookup (same_pair (n, stretch points c)) x.1) (points_of m n)) g.rest
  where
    step : (o : Option ℕ) → place_of m n ≡ o → option_and_then (slice_get m1.0) o ≡ option_and_then (slice_get m.0) o
    step None e = refl
    step (Some j) e = let q = r.places n j e in g.lists j (slice_get_within m.0 j q.list q.there)

-- one more derivative

module _ (rs : List Regex) (m m' : Learnt) (id c b t : ℕ) (points : List ℕ) (is : points_of m id ≡ Some points)
    (start : b ≡ stretch points c) (l0 : m'.0 ≡ m.0) (l1 : m'.1.0 ≡ m.1.0)
    (put : (q : ℕ × ℕ) → lookup (same_pair q) m'.1.1 ≡ cond (same_pair (id, b) q) (Some t) (lookup (same_pair q) m.1.1))
  where
    points_same : (n : ℕ) → points_of m' n ≡ points_of m n
    points_same n = ap₂ (λ xs ys. option_and_then (slice_get xs) (get_or ys n None)) l0 l1

    pub derivative_elsewhere : (n : ℕ) → (n ≡ id → ⊥) → found m' n c ≡ found m n c
    derivative_elsewhere n a =
        ap (option_and_then (λ xs. derivative_of m' n (stretch xs c))) (points_same n) ∙ step (points_of m n)
      where
        other : (x : ℕ) → derivative_of m' n x ≡ derivative_of m n x
        other x = put (n, x) ∙ ap (λ z. cond (z && nat_eq b x) (Some t) (derivative_of m n x))
            (nat_apart id n (λ e. a (sym e)))

        step : (o : Option (List ℕ)) → option_and_then (λ xs. derivative_of m' n (stretch xs c)) o
            ≡ option_and_then (λ xs. derivative_of m n (stretch xs c)) o
        step None = refl
        step (Some xs) = other (stretch xs c)

    pub derivative_found : is_found m' c id ≡ true
    derivative_found =
        ap (λ o. is_some (option_and_then (λ xs. derivative_of m' id (stretch xs c)) o)) (points_same id ∙ is)
        ∙ ap (λ x. is_some (derivative_of m' id x)) (sym start) ∙ ap is_some (put (id, b))
        ∙ ap (λ z. is_some (cond z (Some t) (derivative_of m id b)))
        (both (nat_eq id id) (nat_eq b b) (same_nat id) (same_nat b))

    pub derivative_right : is_character c ≡ true → id < length rs → LearntIsRight rs m → Names rs t (nd (regex_at rs id) c)
        → LearntIsRight rs m'
    derivative_right h number r named = record {
      places = λ n k e.
          let p = r.places n k (sym (ap (λ xs. get_or xs n None) l1) ∙ e) in
          record {
            number = p.number;
            list = p.list;
            there = ap (λ xs. slice_get xs k) l0 ∙ p.there;
            points = p.points;
          };
      derivatives = λ n x u e. step n x u (same_pair (id, b) (n, x)) refl (sym (put (n, x)) ∙ e);
    }
      where
        step : (n x u : ℕ) (z : Bool) → same_pair (id, b) (n, x) ≡ z
            → cond (same_pair (id, b) (n, x)) (Some t) (derivative_of m n x) ≡ Some u
            → (n < length rs) × Names rs u (nd (regex_at rs n) x)
        step n x u true e g =
            let q = and_parts (nat_eq id n) _ e in
            let v : t ≡ u = some_same t u (sym (ap (λ z. cond z (Some t) (derivative_of m n x)) e) ∙ g) in
            let w : Names rs t (nd (regex_at rs id) b) =
            subst (Names rs t) (sym (ap (nd (regex_at rs id)) start ∙ same_stretch rs m id c points h r is)) named in
            rw (← v, ← nat_same id n q.0, ← nat_same b x q.1) (number, w)
        step n x u false e g = r.derivatives n x u (sym (ap (λ z. cond z (Some t) (derivative_of m n x)) e) ∙ g)

pub start_is : (m : Learnt) (id c b : ℕ) (points : List ℕ)
    → option_map (λ xs. stretch xs c) (points_of m id) ≡ Some b → points_of m id ≡ Some points → b ≡ stretch points c
start_is m id c b points h e =
    some_same b (stretch points c) (sym h ∙ ap (option_map (λ xs. stretch xs c)) e)

pub derivative_named : (rs rs' : List Regex) (m : Learnt) (id c t : ℕ) (op : Operation) (parts ids : List ℕ)
    → is_character c ≡ true → LearntIsRight rs m → AreFound m c parts → IsShape rs id op parts → Extends rs rs'
    → id < length rs → ids ≡ map (target_at m c) parts → Names rs' t (made rs op c (regexes_at rs ids))
    → Names rs' t (nd (regex_at rs' id) c)
derivative_named rs rs' m id c t op parts ids h r f s e number is named =
    subst (Names rs' t)
    (ap (made rs op c) (ap (regexes_at rs) is ∙ (targets_are rs m c parts h r f).1)
    ∙ sym (s.value c) ∙ ap (λ x. nd x c) (sym (at_kept rs rs' id e number))) named

-- lists of points for a shape

same_flipped : (k : ℕ) → not (nat_eq k k) ≡ true → ⊥
same_flipped k h = grind (arith, nat_tests)

-- what is covered by a list is in it
pub member_has : (P : ℕ → Type 0) (k : ℕ) (xs : List ℕ) → Covers xs (k ∷ []) → All P xs → P k
member_has P k xs v a = find xs a (λ h. absurd (same_flipped k (and_parts _ true (v (λ j. not (nat_eq j k)) h)).0))
  where
    find : (ys : List ℕ) → All P ys → (list_all (λ j. not (nat_eq j k)) ys ≡ true → P k) → P k
    find [] b f = f refl
    find (y ∷ ys) b f = step (nat_eq y k) refl (find ys (λ i d l. b (suc i) d (omega (arith, l))))
      where
        step : (t : Bool) → nat_eq y k ≡ t → ((list_all (λ j. not (nat_eq j k)) ys ≡ true → P k) → P k) → P k
        step true e g = subst P (nat_same y k e) (b 0 0 (omega arith))
        step false e g = g (λ h. f (both _ _ (ap not e) h))

-- the places of the lists of all parts are among these
abbrev pub AreAllPlaces : Learnt → List ℕ → List ℕ → Type 0
AreAllPlaces m parts places = All (λ n. (k : ℕ) → place_of m n ≡ Some k → Covers places (k ∷ [])) parts

-- a property of the lists at the places is one of the lists of the parts
lists_have : (P : List ℕ → Type 0) (m : Learnt) (parts places : List ℕ) → AreAllPlaces m parts places
    → All (λ k. (l : List ℕ) → slice_get m.0 k ≡ Some l → P l) places
    → All (λ n. (l : List ℕ) → points_of m n ≡ Some l → P l) parts
lists_have P m parts places a h = λ i d b l e.
    step (get_or parts i d) (a i d b) l (place_of m (get_or parts i d)) refl e
  where
    step : (n : ℕ) → ((k : ℕ) → place_of m n ≡ Some k → Covers places (k ∷ [])) → (l : List ℕ) (o : Option ℕ)
        → place_of m n ≡ o → option_and_then (slice_get m.0) o ≡ Some l → P l
    step n v l None p e = absurd (none_not l e)
    step n v l (Some k) p e =
        member_has (λ j. (x : List ℕ) → slice_get m.0 j ≡ Some x → P x) k places (v k p) h l e

alone : (m : Learnt) (k : ℕ) (xs : List ℕ) → length xs ≡ 1 → k ≡ get_or xs 0 k → k < length m.0
    → All (λ j. (x : List ℕ) → slice_get m.0 j ≡ Some x → Covers (get_or m.0 k []) x) xs
alone m k [] z e b = λ i d l. absurd (omega (arith, l))
alone m k (y ∷ ys) z e b = λ i d l x g.
    let w : get_or (y ∷ ys) i d ≡ k = first i ys d l (omega (arith, z)) ∙ sym e in
    let u : get_or m.0 k [] ≡ x =
    some_same (get_or m.0 k []) x (sym (slice_get-get_or m.0 k [] b) ∙ ap (slice_get m.0) (sym w) ∙ g) in
    subst (λ (v : List ℕ). Covers v x) (sym u) (λ t h. h)
  where
    first : (i : ℕ) (zs : List ℕ) (d : ℕ) → i < length (y ∷ zs) → length zs ≡ 0 → get_or (y ∷ zs) i d ≡ y
    first zero zs d l q = refl
    first (suc i) zs d l q = absurd (omega (arith, l, q))

pub one_place : (m : Learnt) (op : Operation) (parts places : List ℕ) (k : ℕ) → AreAllPlaces m parts places
    → length places ≡ 1 → k ≡ get_or places 0 k → k < length m.0 → length (set_ranges op) ≡ 0
    → ((list : List ℕ) → slice_get m.0 k ≡ Some list → ArePoints list) → IsPlaceFor m m op parts k
one_place m op parts places k a l is b r p = record {
  list = get_or m.0 k [];
  there = slice_get-get_or m.0 k [] b;
  points = p (get_or m.0 k []) (slice_get-get_or m.0 k [] b);
  lists = lists_have (λ x. Covers (get_or m.0 k []) x) m parts places a (alone m k places l is b);
  ranges = subst (λ (rs : List Range). Parts (get_or m.0 k []) (in_ranges rs)) (sym (none_of (set_ranges op) r))
      (no_ranges (get_or m.0 k []));
}
  where
    none_of : (rs : List Range) → length rs ≡ 0 → rs ≡ []
    none_of [] z = refl
    none_of (x ∷ rs) z = absurd (omega (arith, z))

module _ (m m' : Learnt) (list : List ℕ) (pushed : m'.0 ≡ m.0 ++ list ∷ []) (rest : m'.1 ≡ m.1) where
  pub lists_pushed : ListsAreKept m m'
  lists_pushed = record {
    lists = λ k l. ap (λ xs. slice_get xs k) pushed ∙ before m.0 k l;
    rest = rest;
  }
    where
      before : (xs : List (List ℕ)) (k : ℕ) → k < length xs → slice_get (xs ++ list ∷ []) k ≡ slice_get xs k
      before [] k l = absurd (omega (arith, l))
      before (x ∷ xs) zero l = refl
      before (x ∷ xs) (suc k) l = before xs k (omega (arith, l))

  pub new_place : (op : Operation) (parts places : List ℕ) (k : ℕ) → AreAllPlaces m parts places
      → All (λ j. Covers list (get_or m.0 j [])) places → k ≡ length m.0 → ArePoints list
      → Parts list (in_ranges (set_ranges op)) → IsPlaceFor m m' op parts k
  new_place op parts places k a v is p r = record {
    list = list;
    there = ap₂ (λ xs j. slice_get xs j) pushed is ∙ last m.0;
    points = p;
    lists = lists_have (λ x. Covers list x) m parts places a (λ i d b x g.
        subst (λ (y : List ℕ). Covers list y) (get_or_from_slice_get m.0 (get_or places i d) x [] g) (v i d b));
    ranges = r;
  }
    where
      last : (xs : List (List ℕ)) → slice_get (xs ++ list ∷ []) (length xs) ≡ Some list
      last [] = refl
      last (x ∷ xs) = last xs

-- room for more places

pub right_room : (rs : List Regex) (m m' : Learnt) → m'.0 ≡ m.0 → ((n : ℕ) → place_of m' n ≡ place_of m n)
    → m'.1.1 ≡ m.1.1 → LearntIsRight rs m → LearntIsRight rs m'
right_room rs m m' l0 same l2 r = record {
  places = λ n k h.
      let p = r.places n k (sym (same n) ∙ h) in
      record {
        number = p.number;
        list = p.list;
        there = ap (λ xs. slice_get xs k) l0 ∙ p.there;
        points = p.points;
      };
  derivatives = λ n c t h. r.derivatives n c t (sym (ap (lookup (same_pair (n, c))) l2) ∙ h);
}

pub below_more : (id n : ℕ) (parts : List ℕ) → id < n → All (λ i. i < id) parts → All (λ i. i < n) parts
below_more id n parts l h k d b = let x = h k d b in omega (arith, l, x)

-- what is found stays found
pub found_still : (m m' : Learnt) (c : ℕ) (parts : List ℕ)
    → ((n x : ℕ) → is_found m x n ≡ true → found m' n x ≡ found m n x) → AreFound m c parts → AreFound m' c parts
found_still m m' c parts k f i d l = ap is_some (k (get_or parts i d) c (f i d l)) ∙ f i d l

pub targets_still : (m m' : Learnt) (c : ℕ) (parts : List ℕ)
    → ((n x : ℕ) → is_found m x n ≡ true → found m' n x ≡ found m n x) → AreFound m c parts
    → map (target_at m c) parts ≡ map (target_at m' c) parts
targets_still m m' c [] k f = refl
targets_still m m' c (n ∷ parts) k f =
    ap₂ (λ x xs. x ∷ xs) (ap (λ o. unwrap_or o 0) (sym (k n c (f 0 0 (omega arith)))))
    (targets_still m m' c parts k (λ i d l. f (suc i) d (omega (arith, l))))
