-- Stays of walks: one character on, along words that begin alike, in an arena that grows, and among others.
use Rattle.std.proofs.Common.{◌≡◌, ℕ, zero, suc, ◌+◌, ◌<◌, ◌≤◌, Bool, true, false, Option, Some, None, List, [], ◌∷◌, ◌++◌, length, get_or, take, drop, refl, sym, ap, subst, ◌∙◌, arith}
use Rattle.std.specs.Prelude.{if◌then◌else◌, IfSome, nat_eq, nat_le, map, slice_get, option_map}
use Rattle.std.specs.List.{list_any, position}
use Rattle.std.proofs.Math.Nat.{min-le_left, min-le_right}
use Rattle.std.proofs.Math.ListN.{set}
use Rattle.std.proofs.Math.Seq.{take-append_seam}
use Rattle.std.proofs.lemmas.Bool.Decides.{nat_tests}
use Rattle.std.proofs.lemmas.List.{length-map}
use Rattle.std.proofs.lemmas.List.Quantifiers.{position-Some}
use Rattle.std.proofs.lemmas.Option.{slice_get-map, slice_get-get_or, slice_get_past, get_or_from_slice_get}
use Rattle.sb_lang.specs.Regex.{Regex}
use Rattle.sb_lang.specs.Derivative.{nd_along, nullable}
use Rattle.sb_lang.specs.DerivativeLaws.{NullableHasEmptyWord, DerivativeAlongHasRests}
use Rattle.sb_lang.specs.Language.{language}
use Rattle.sb_regex.specs.Numbered.{regex_at, Extends, Names}
use Rattle.sb_regex.proofs.CallerLemmas.{at_kept, number_kept, names_kept, names_below}
use Rattle.sb_plain.specs.declared.walked.Stay.{Stay}
use Rattle.sb_plain.specs.Memory.{Walked, IsStay, AreWalked}
use Rattle.sb_plain.specs.Staying.{cut_to, AreAlike, IsStep}
use Rattle.sb_plain.proofs.Along.{along_none, along_more, matched_begun, matched_at_end}

-- words that begin alike

taken_twice : (p n : ℕ) (xs : List ℕ) → p ≤ n → take p (take n xs) ≡ take p xs
taken_twice zero n xs l = refl
taken_twice (suc p) zero xs l = absurd (omega (arith, l))
taken_twice (suc p) (suc n) [] l = refl
taken_twice (suc p) (suc n) (x ∷ xs) l = ap (λ u. x ∷ u) (taken_twice p n xs (omega (arith, l)))

alike_at : (p count : ℕ) (left right : List ℕ) → p ≤ count → AreAlike count left right → take p left ≡ take p right
alike_at p count left right l a =
    sym (taken_twice p count left l) ∙ ap (take p) a.same ∙ taken_twice p count right l

-- one stay

pub stay_start : (rs : List Regex) (n : ℕ) (codes : List ℕ) → n < length rs
    → IsStay rs n codes (record { from = 0; to = 0; rest = n })
stay_start rs n codes l = record {
  within = omega arith;
  names = λ p a b. let z : p ≡ 0 = omega (arith, b) in rw z (along_none rs n l);
}

along_kept : (old new : List Regex) (n rest : ℕ) (u : List ℕ) → Extends old new → n < length old
    → Names old rest (nd_along (regex_at old n) u) → Names new rest (nd_along (regex_at new n) u)
along_kept old new n rest u grown l h =
    subst (λ r. Names new rest (nd_along r u)) (sym (at_kept old new n grown l))
    (names_kept old new rest (nd_along (regex_at old n) u) grown h)

along_step : (old new : List Regex) (n : ℕ) (codes : List ℕ) (s : Stay) (rest : ℕ) → n < length old
    → IsStep old new codes s rest → IsStay old n codes s
    → Names new rest (nd_along (regex_at new n) (take (s.to + 1) codes))
along_step old new n codes s rest l step stay =
    subst (λ r. Names new rest (nd_along r (take (s.to + 1) codes))) (sym (at_kept old new n step.extends l))
    (along_more old new (regex_at old n) codes s.to s.rest rest step.within
    (stay.names s.to step.begins (omega arith)) step.target)

same_at : (old new : List Regex) (n : ℕ) (codes : List ℕ) (s : Stay) (rest : ℕ) → rest ≡ s.rest → n < length old
    → IsStep old new codes s rest → IsStay old n codes s → (p : ℕ) → s.from ≤ p → p ≤ s.to + 1
    → Names new rest (nd_along (regex_at new n) (take p codes))
same_at old new n codes s rest is l step stay p a b = by (nat_le p s.to) refl
  where
    by : (t : Bool) → nat_le p s.to ≡ t → Names new rest (nd_along (regex_at new n) (take p codes))
    by true e =
        let m : p ≤ s.to = grind (arith, nat_tests, e) in
        subst (λ k. Names new k (nd_along (regex_at new n) (take p codes))) (sym is)
        (along_kept old new n s.rest (take p codes) step.extends l (stay.names p a m))
    by false e =
        let z : p ≡ s.to + 1 = grind (arith, nat_tests, e, b) in
        subst (λ k. Names new rest (nd_along (regex_at new n) (take k codes))) (sym z)
        (along_step old new n codes s rest l step stay)

-- the walk stays at the same regex
pub stay_same : (old new : List Regex) (n : ℕ) (codes : List ℕ) (s : Stay) (to rest : ℕ) → to ≡ s.to + 1
    → rest ≡ s.rest → n < length old → IsStep old new codes s rest → IsStay old n codes s
    → IsStay new n codes (record { from = s.from; to = to; rest = rest })
stay_same old new n codes s to rest at is l step stay = record {
  within = omega (arith, step.within, at);
  names = λ p a b. same_at old new n codes s rest is l step stay p a (omega (arith, b, at));
}

-- the walk comes to another one
pub stay_moved : (old new : List Regex) (n : ℕ) (codes : List ℕ) (s : Stay) (to rest : ℕ) → to ≡ s.to + 1
    → n < length old → IsStep old new codes s rest → IsStay old n codes s
    → IsStay new n codes (record { from = to; to = to; rest = rest })
stay_moved old new n codes s to rest at l step stay = record {
  within = omega (arith, step.within, at);
  names = λ p a b.
      let z : p ≡ s.to + 1 = omega (arith, a, b, at) in
      subst (λ k. Names new rest (nd_along (regex_at new n) (take k codes))) (sym z)
      (along_step old new n codes s rest l step stay);
}

pub stay_kept : (old new : List Regex) (n : ℕ) (codes : List ℕ) (s : Stay) → Extends old new → n < length old
    → IsStay old n codes s → IsStay new n codes s
stay_kept old new n codes s grown l stay = record {
  within = stay.within;
  names = λ p a b. along_kept old new n s.rest (take p codes) grown l (stay.names p a b);
}

pub stay_alike : (rs : List Regex) (n : ℕ) (codes other : List ℕ) (s : Stay) (count : ℕ)
    → AreAlike count codes other → s.to ≤ count → IsStay rs n other s → IsStay rs n codes s
stay_alike rs n codes other s count a m stay = record {
  within = omega (arith, m, a.within_left);
  names = λ p b c.
      subst (λ u. Names rs s.rest (nd_along (regex_at rs n) u))
      (sym (alike_at p count codes other (omega (arith, c, m)) a)) (stay.names p b c);
}

shorter : (rs : List Regex) (n : ℕ) (codes : List ℕ) (s : Stay) (count : ℕ) → IsStay rs n codes s
    → IsStay rs n codes (cut_to count s)
shorter rs n codes s count stay = record {
  within = omega (arith, stay.within, min-le_left s.to count);
  names = λ p a b. stay.names p a (omega (arith, b, min-le_left s.to count));
}

pub stay_cut : (rs : List Regex) (n : ℕ) (codes other : List ℕ) (s : Stay) (count : ℕ) → AreAlike count codes other
    → IsStay rs n other s → IsStay rs n codes (cut_to count s)
stay_cut rs n codes other s count a stay =
    stay_alike rs n codes other (cut_to count s) count a (min-le_right s.to count) (shorter rs n other s count stay)

-- all stays

pub walked_kept : (old new : List Regex) (w : Walked) → Extends old new → AreWalked old w → AreWalked new w
walked_kept old new w grown walked i n s a b =
    let p = walked i n s a b in
    (number_kept old new n grown p.0, stay_kept old new n w.0 s grown p.0 p.1)

pub walked_none : (rs : List Regex) (codes keys : List ℕ) (stays : List Stay) → keys ≡ []
    → AreWalked rs (codes, keys, stays)
walked_none rs codes keys stays is i n s a b =
    let e : None ≡ Some n = sym (ap (λ ks. slice_get ks i) is) ∙ a in absurd (cc)

pub walked_whole : (rs : List Regex) (codes : List ℕ) (w : Walked) (count : ℕ) → AreAlike count codes w.0
    → length w.0 ≤ count → AreWalked rs w → AreWalked rs (codes, w.1, w.2)
walked_whole rs codes w count alike l walked i n s a b =
    let p = walked i n s a b in
    (p.0, stay_alike rs n codes w.0 s count alike (omega (arith, p.1.within, l)) p.1)

pub walked_cut : (rs : List Regex) (codes : List ℕ) (w : Walked) (count : ℕ) (stays : List Stay)
    → AreAlike count codes w.0 → stays ≡ map (cut_to count) w.2 → AreWalked rs w → AreWalked rs (codes, w.1, stays)
walked_cut rs codes w count stays alike is walked i n s a b =
    by (slice_get w.2 i) refl (sym (slice_get-map (cut_to count) w.2 i) ∙ ap (λ xs. slice_get xs i) (sym is) ∙ b)
  where
    by : (o : Option Stay) → slice_get w.2 i ≡ o → option_map (cut_to count) o ≡ Some s
        → (n < length rs) × IsStay rs n codes s
    by None e h = absurd (cc)
    by (Some t) e h =
        let p = walked i n t a e in
        let same : cut_to count t ≡ s = cc in
        (p.0, subst (IsStay rs n codes) same (stay_cut rs n codes w.0 t count alike p.1))

-- one more, at a place where no other regex is
pub walked_put : (rs : List Regex) (codes keys keys' : List ℕ) (stays stays' : List Stay) (place n : ℕ) (s : Stay)
    → ((k : ℕ) → slice_get keys' place ≡ Some k → k ≡ n)
    → ((i : ℕ) → (i ≡ place → ⊥) → slice_get keys' i ≡ slice_get keys i)
    → ((t : Stay) → slice_get stays' place ≡ Some t → t ≡ s)
    → ((i : ℕ) → (i ≡ place → ⊥) → slice_get stays' i ≡ slice_get stays i) → n < length rs → IsStay rs n codes s
    → AreWalked rs (codes, keys, stays) → AreWalked rs (codes, keys', stays')
walked_put rs codes keys keys' stays stays' place n s key keys_stay there others l stay walked i k t a b =
    by (nat_eq i place) refl
  where
    by : (x : Bool) → nat_eq i place ≡ x → (k < length rs) × IsStay rs k codes t
    by true e =
        let here : i ≡ place = grind (arith, nat_tests, e) in
        let first : k ≡ n = key k (ap (slice_get keys') (sym here) ∙ a) in
        let second : t ≡ s = there t (ap (slice_get stays') (sym here) ∙ b) in
        (rw first l, subst (λ m. IsStay rs m codes t) (sym first) (subst (IsStay rs n codes) (sym second) stay))
    by false e =
        let other : i ≡ place → ⊥ = λ h. absurd (grind (arith, nat_tests, e, h)) in
        walked i k t (sym (keys_stay i other) ∙ a) (sym (others i other) ∙ b)

-- a list with one more element

pub pushed_there : {A : Type 0} (xs : List A) (x y : A) → slice_get (xs ++ x ∷ []) (length xs) ≡ Some y → y ≡ x
pushed_there [] x y h = cc
pushed_there (z ∷ xs) x y h = pushed_there xs x y h

pub pushed_others : {A : Type 0} (xs : List A) (x : A) (i : ℕ) → (i ≡ length xs → ⊥)
    → slice_get (xs ++ x ∷ []) i ≡ slice_get xs i
pushed_others [] x zero h = absurd (h refl)
pushed_others [] x (suc i) h = refl
pushed_others (z ∷ xs) x zero h = refl
pushed_others (z ∷ xs) x (suc i) h = pushed_others xs x i (λ e. h (ap suc e))

-- the regex at the place that was found
pub found_at : (keys : List ℕ) (n i k : ℕ) → position (nat_eq n) keys ≡ Some i → slice_get keys i ≡ Some k → k ≡ n
found_at keys n i k found is =
    let t = (position-Some (nat_eq n) keys i 0 found).1 in
    let g = get_or_from_slice_get keys i k 0 is in
    let e : nat_eq n k ≡ true = ap (nat_eq n) (sym g) ∙ t in
    grind (arith, nat_tests, e)

pub none_past : (keys : List ℕ) (n i k : ℕ) → length keys ≤ i → slice_get keys i ≡ Some k → k ≡ n
none_past keys n i k l is = let e : None ≡ Some k = sym (slice_get_past keys i l) ∙ is in absurd (cc)

-- each stay of some first ones cut
pub cut_more : (f : Stay → Stay) (xs ys : List Stay) (i : ℕ) (d : Stay) → i < length xs
    → ys ≡ map f (take i xs) ++ drop i xs
    → set ys i (f (get_or ys i d)) ≡ map f (take (i + 1) xs) ++ drop (i + 1) xs
cut_more f xs ys i d l is =
    let e : suc i ≡ i + 1 = omega arith in
    ap (λ zs. set zs i (f (get_or zs i d))) is ∙ at xs i l ∙ ap (λ j. map f (take j xs) ++ drop j xs) e
  where
    at : (zs : List Stay) (k : ℕ) → k < length zs
        → set (map f (take k zs) ++ drop k zs) k (f (get_or (map f (take k zs) ++ drop k zs) k d))
        ≡ map f (take (suc k) zs) ++ drop (suc k) zs
    at [] k m = absurd (omega (arith, m))
    at (z ∷ zs) zero m = refl
    at (z ∷ zs) (suc k) m = ap (λ u. f z ∷ u) (at zs k (omega (arith, m)))

-- written back over the whole list
pub written_over : (f : Stay → Stay) (xs lent ys rest : List Stay) (n : ℕ) → lent ≡ xs → length lent ≡ n
    → ys ≡ map f lent → take n (ys ++ rest) ≡ map f xs
written_over f xs lent ys rest n is long made =
    let e : n ≡ length ys = sym long ∙ sym (length-map lent f) ∙ ap length (sym made) in
    ap (λ k. take k (ys ++ rest)) e ∙ take-append_seam ys rest ∙ made ∙ ap (map f) is

pub found_key : (keys : List ℕ) (n i : ℕ) → position (nat_eq n) keys ≡ Some i → slice_get keys i ≡ Some n
found_key keys n i found =
    let p = position-Some (nat_eq n) keys i 0 found in
    let t = p.1 in
    let e : get_or keys i 0 ≡ n = grind (arith, nat_tests, t) in
    slice_get-get_or keys i 0 p.0 ∙ ap Some e

pub stay_at : (w : Walked) (n i : ℕ) (o : Option Stay) → slice_get w.1 i ≡ Some n → o ≡ slice_get w.2 i
    → IfSome o (λ s. (rs : List Regex) → AreWalked rs w → IsStay rs n w.0 s)
stay_at w n i None key is = tt
stay_at w n i (Some s) key is = λ rs walked. (walked i n s key (sym is)).1

pub inserted_last : (keys keys' : List ℕ) (n : ℕ) → list_any (nat_eq n) keys ≡ false
    → keys' ≡ (if list_any (nat_eq n) keys then keys else keys ++ n ∷ []) → keys' ≡ keys ++ n ∷ []
inserted_last keys keys' n absent is = is ∙ ap (λ b. if b then keys else keys ++ n ∷ []) absent

-- what a stay says of the word

pub stay_names : (rs : List Regex) (n : ℕ) (codes : List ℕ) (s : Stay) → s.from ≤ s.to → IsStay rs n codes s
    → Names rs s.rest (nd_along (regex_at rs n) (take s.to codes))
stay_names rs n codes s begins stay = stay.names s.to begins (omega arith)

pub stay_number : (rs : List Regex) (n : ℕ) (codes : List ℕ) (s : Stay) → s.from ≤ s.to → IsStay rs n codes s
    → s.rest < length rs
stay_number rs n codes s begins stay = names_below rs s.rest _ (stay_names rs n codes s begins stay)

pub stay_matched : (old new : List Regex) (n : ℕ) (codes word : List ℕ) (s : Stay) (b : Bool)
    → DerivativeAlongHasRests → codes ≡ word → Extends old new → n < length old → s.from ≤ s.to
    → IsStay new n codes s → b ≡ language (regex_at new s.rest) (drop s.to codes)
    → b ≡ language (regex_at old n) word
stay_matched old new n codes word s b d is grown l begins stay h =
    matched_begun new (regex_at new n) codes word s.to s.rest b d is (stay_names new n codes s begins stay) h
    ∙ ap (λ r. language r word) (at_kept old new n grown l)

pub stay_ended : (old new : List Regex) (n : ℕ) (codes word : List ℕ) (s : Stay) (b : Bool)
    → DerivativeAlongHasRests → NullableHasEmptyWord → codes ≡ word → Extends old new → n < length old
    → s.from ≤ s.to → length codes ≤ s.to → IsStay new n codes s → b ≡ nullable (regex_at new s.rest)
    → b ≡ language (regex_at old n) word
stay_ended old new n codes word s b d e is grown l begins end stay h =
    stay_matched old new n codes word s b d is grown l begins stay
    (matched_at_end new codes s.to s.rest b e end h)
