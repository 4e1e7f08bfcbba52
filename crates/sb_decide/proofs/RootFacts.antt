-- Intersections that are known, as assertions come and go, and the walk back to the last of them.
use Rattle.sb_decide.proofs.Words.{◌≡◌, ℕ, zero, suc, ◌+◌, ◌<◌, Bool, true, false, ◌&&◌, ◌==◌, if◌then◌else◌, List, [], ◌∷◌, ◌++◌, length, get_or, set, take, refl, sym, ap, ap₂, subst, ◌∙◌, arith, Option, Some, None, length-append, append_assoc, slice_get, append-nil, All, All-cons, All-nil, All-pop, All-push, All-take, AllNumbers, AreConjuncts, AreRooted, Extends, HasRegexBelow, IsRootOf, Member, Regex, and-true, and_assoc, and_comm, at_kept, eqb-true, get_or-set_other, get_or-set_same, get_or-take, get_or_append_left, get_or_default, get_or_from_slice_get, id_of, ids_at, in_each, language, length-set, length-take-le, map-append, none-some, number_kept, places_in, regex_at, root_at, same_Some, slice_get_within, take-append-le, words_in}
use Rattle.sb_decide.proofs.Conjunctions.{in_each-append}
use Rattle.sb_decide.proofs.MemberFacts.{by_number, default_behind, further_on, same_left, words_grown}
use Rattle.sb_decide.proofs.KeptWords.{same_place, ids_from, ids_there, number_there}

-- elements of lists
root_within : (roots : List (Option ℕ)) (i r : ℕ) → root_at roots i ≡ Some r → i < length roots
root_within [] i r h = absurd (none-some r h)
root_within (x ∷ roots) zero r h = omega arith
root_within (x ∷ roots) (suc i) r h = let l = root_within roots i r h in omega (arith, l)

-- the arena grows
pub root_grown : (old new : List Regex) (ms : List (Option Member)) (n root : ℕ) → Extends old new
    → All (HasRegexBelow (length old)) ms → IsRootOf old ms n root → IsRootOf new ms n root
root_grown old new ms n root e known h = record {
  known = number_kept old new root e h.known;
  same = λ w. words_grown old new ms n w e known
      ∙ (h.same w ∙ ap (λ r. language r w) (sym (at_kept old new root e h.known)));
}

regex_kept : (old new : List Regex) (o : Option Member) → Extends old new → HasRegexBelow (length old) o
    → HasRegexBelow (length new) o
regex_kept old new None e h = tt
regex_kept old new (Some m) e h = number_kept old new m.regex e h

pub rooted_grown : (old new : List Regex) (ms : List (Option Member)) (roots : List (Option ℕ)) → Extends old new
    → AreRooted old ms roots → AreRooted new ms roots
rooted_grown old new ms roots e h = record {
  numbers = λ k d l. regex_kept old new (get_or ms k d) e (h.numbers k d l);
  abreast = h.abreast;
  right = λ place m root at is. root_grown old new (take (place + 1) ms) m.serial.0 root e
      (All-take (HasRegexBelow (length old)) (place + 1) ms h.numbers) (h.right place m root at is);
}

-- one more is taken in, whose intersection with those before is not known
pub rooted_pushed : (rs : List Regex) (ms : List (Option Member)) (o : Option Member) (roots : List (Option ℕ))
    → HasRegexBelow (length rs) o → AreRooted rs ms roots → AreRooted rs (ms ++ o ∷ []) (roots ++ None ∷ [])
rooted_pushed rs ms o roots low h = record {
  numbers = All-push (HasRegexBelow (length rs)) ms o h.numbers low;
  abreast = omega (arith, h.abreast, length-append ms (o ∷ []), length-append roots (None ∷ []));
  right = λ place x root at is.
      let known : root_at roots place ≡ Some root = sym (default_behind roots None place) ∙ is in
      let within : place < length ms = omega (arith, root_within roots place root known, h.abreast) in
      subst (λ front. IsRootOf rs front x.serial.0 root)
      (sym (take-append-le (place + 1) ms (o ∷ []) (omega (arith, within))))
      (h.right place x root (sym (same_left ms (o ∷ []) place within) ∙ at) known);
}

-- one less
pub rooted_popped : (rs : List Regex) (ms : List (Option Member)) (o : Option Member) (roots : List (Option ℕ))
    → AreRooted rs (ms ++ o ∷ []) roots → AreRooted rs ms (take (length ms) roots)
rooted_popped rs ms o roots h = record {
  numbers = λ k d l. subst (HasRegexBelow (length rs)) (get_or_append_left ms (o ∷ []) d k l)
      (h.numbers k d (omega (arith, l, length-append ms (o ∷ []))));
  abreast = length-take-le (length ms) roots (omega (arith, h.abreast, length-append ms (o ∷ [])));
  right = λ place x root at is.
      let within : place < length ms = slice_get_within ms place (Some x) at in
      subst (λ front. IsRootOf rs front x.serial.0 root)
      (take-append-le (place + 1) ms (o ∷ []) (omega (arith, within)))
      (h.right place x root (same_left ms (o ∷ []) place within ∙ at)
      (sym (get_or-take (length ms) roots place None within) ∙ is));
}

-- an intersection is known
pub rooted_set : (rs : List Regex) (ms : List (Option Member)) (roots : List (Option ℕ)) (place root : ℕ) (m : Member)
    → slice_get ms place ≡ Some (Some m) → IsRootOf rs (take (place + 1) ms) m.serial.0 root → AreRooted rs ms roots
    → AreRooted rs ms (set roots place (Some root))
rooted_set rs ms roots place root m there is h = record {
  numbers = h.numbers;
  abreast = length-set roots place (Some root) ∙ h.abreast;
  right = by_number (λ p. (x : Member) (r : ℕ) → slice_get ms p ≡ Some (Some x)
      → root_at (set roots place (Some root)) p ≡ Some r → IsRootOf rs (take (p + 1) ms) x.serial.0 r) place
      (λ x r at known. subst (λ (y : Member). IsRootOf rs (take (place + 1) ms) y.serial.0 r)
      (same_Some m x (same_Some (Some m) (Some x) (sym there ∙ at)))
      (subst (IsRootOf rs (take (place + 1) ms) m.serial.0)
      (same_Some root r (sym (get_or-set_same roots place (Some root) None low) ∙ known)) is))
      (λ p e x r at known. h.right p x r at (sym (get_or-set_other roots place p (Some root) None e) ∙ known));
}
  where
    low : place < length roots
    low = omega (arith, slice_get_within ms place (Some m) there, h.abreast)

-- the last of these places is below, and so are those before it
pub last_below : (n : ℕ) (left front : List ℕ) (place : ℕ) → left ≡ front ++ place ∷ [] → All (λ p. p < n) left
    → All (λ p. p < n) front × (place < n)
last_below n left front place is h = All-pop (λ p. p < n) left front (Some place) is h

pub places_below : (k n : ℕ) (ms : List (Option Member)) → All (λ p. p < k + length ms) (places_in k n ms)
places_below k n [] = All-nil (λ p. p < k + 0)
places_below k n (None ∷ ms) = further_on k None ms (places_in (k + 1) n ms) (places_below (k + 1) n ms)
places_below k n (Some m ∷ ms) =
    by_test (n == m.serial.0) (further_on k (Some m) ms (places_in (k + 1) n ms) (places_below (k + 1) n ms))
  where
    by_test : (b : Bool) → All (λ p. p < k + length (Some m ∷ ms)) (places_in (k + 1) n ms)
        → All (λ p. p < k + length (Some m ∷ ms)) (if b then k ∷ places_in (k + 1) n ms else places_in (k + 1) n ms)
    by_test true h = All-cons (λ p. p < k + length (Some m ∷ ms)) k (places_in (k + 1) n ms) (omega arith) h
    by_test false h = h

pub places_within : (n : ℕ) (ms : List (Option Member)) → All (λ p. p < length ms) (places_in 0 n ms)
places_within n ms k d l = let low = places_below 0 n ms k d l in omega (arith, low)

-- A membership of a constant that stands at one of its places, with those before it.
record StandsAt (k n : ℕ) (ms : List (Option Member)) (front : List ℕ) (place : ℕ) : Type 0 where
  m : Member
  at : ℕ
  is : place ≡ k + at
  there : slice_get ms at ≡ Some (Some m)
  of : m.serial.0 ≡ n
  before : places_in k n (take (suc at) ms) ≡ front ++ place ∷ []

stands_at : (k n : ℕ) (ms : List (Option Member)) (front behind : List ℕ) (place : ℕ)
    → places_in k n ms ≡ front ++ place ∷ behind → StandsAt k n ms front place
stands_at k n [] front behind place h = absurd (omega (arith, ap length h, length-append front (place ∷ behind)))
stands_at k n (None ∷ ms) front behind place h =
    let r = stands_at (k + 1) n ms front behind place h in record {
      m = r.m;
      at = suc r.at;
      is = omega (arith, r.is);
      there = r.there;
      of = r.of;
      before = r.before;
    }
stands_at k n (Some x ∷ ms) front behind place h =
    by_test (n == x.serial.0) refl front h (λ ps e. stands_at (k + 1) n ms ps behind place e)
  where
    heads : (i j : ℕ) (is js : List ℕ) → i ∷ is ≡ j ∷ js → (i ≡ j) × (is ≡ js)
    heads i j is js e = (cc, cc)

    on : (b : Bool) → (n == x.serial.0) ≡ b → (ps qs : List ℕ) → (if b then k ∷ ps else ps) ≡ qs
        → StandsAt (k + 1) n ms ps place → (if b then k ∷ (ps ++ place ∷ []) else ps ++ place ∷ []) ≡ qs ++ place ∷ []
        → StandsAt k n (Some x ∷ ms) qs place
    on b t ps qs same r end = record {
      m = r.m;
      at = suc r.at;
      is = omega (arith, r.is);
      there = r.there;
      of = r.of;
      before = ap
          (λ d. if d then k ∷ places_in (k + 1) n (take (suc r.at) ms) else places_in (k + 1) n (take (suc r.at) ms)) t
          ∙ (ap (λ is. if b then k ∷ is else is) r.before ∙ end);
    }

    by_test : (b : Bool) → (n == x.serial.0) ≡ b → (ps : List ℕ)
        → (if b then k ∷ places_in (k + 1) n ms else places_in (k + 1) n ms) ≡ ps ++ place ∷ behind
        → ((qs : List ℕ) → places_in (k + 1) n ms ≡ qs ++ place ∷ behind → StandsAt (k + 1) n ms qs place)
        → StandsAt k n (Some x ∷ ms) ps place
    by_test false t ps e further = on false t ps ps refl (further ps e) refl
    by_test true t [] e further =
        let first = (heads k place (places_in (k + 1) n ms) behind e).0 in record {
          m = x;
          at = 0;
          is = omega (arith, first);
          there = refl;
          of = sym (eqb-true n x.serial.0 t);
          before = ap (λ d. if d then k ∷ [] else []) t ∙ ap (λ i. i ∷ []) first;
        }
    by_test true t (p ∷ ps) e further =
        let both = heads k p (places_in (k + 1) n ms) (ps ++ place ∷ behind) e in
        on true t ps (p ∷ ps) (ap (λ i. i ∷ ps) both.0) (further ps both.1) (ap (λ i. i ∷ (ps ++ place ∷ [])) both.0)

-- The membership at the place, and the words of those up to it.
pub record IsMemberAt (rs : List Regex) (ms : List (Option Member)) (n : ℕ) (places : List ℕ) (place : ℕ) : Type 0 where
  pub m : Member
  pub there : slice_get ms place ≡ Some (Some m)
  pub words : (w : List ℕ) → words_in rs (take (place + 1) ms) m.serial.0 w ≡ in_each rs (ids_at ms places) w

pub member_at : (rs : List Regex) (ms : List (Option Member)) (n : ℕ) (front behind : List ℕ) (place : ℕ)
    → places_in 0 n ms ≡ front ++ place ∷ behind → IsMemberAt rs ms n (front ++ place ∷ []) place
member_at rs ms n front behind place h =
    let s = stands_at 0 n ms front behind place h in
    let here : place ≡ s.at = omega (arith, s.is) in
    let upto : place + 1 ≡ suc s.at = omega (arith, here) in
    let long : length (take (suc s.at) ms) ≡ suc s.at =
    length-take-le (suc s.at) ms (omega (arith, slice_get_within ms s.at (Some s.m) s.there)) in record {
      m = s.m;
      there = ap (slice_get ms) here ∙ s.there;
      words = λ w. ap₂ (λ i j. words_in rs (take i ms) j w) upto s.of
          ∙ ap (λ ids. in_each rs ids w) (sym (ids_from ms (take (suc s.at) ms) 0 n (λ j l.
          ap (λ i. get_or ms i None) (same_place j)
          ∙ sym (get_or-take (suc s.at) ms j None (omega (arith, l, long)))))
          ∙ ap (ids_at ms) s.before);
    }

-- the intersection of all memberships stands at the last place
pub root_of_last : (rs : List Regex) (ms : List (Option Member)) (roots : List (Option ℕ)) (n : ℕ) (places : List ℕ)
    (place root : ℕ) → places_in 0 n ms ≡ places ++ place ∷ [] → IsRootOf rs ms n root → AreRooted rs ms roots
    → AreRooted rs ms (set roots place (Some root))
root_of_last rs ms roots n places place root h is rooted =
    let here = member_at rs ms n places [] place h in
    rooted_set rs ms roots place root here.m here.there
    (record {
      known = is.known;
      same = λ w. here.words w ∙ (ap (λ ids. in_each rs ids w) (ap (ids_at ms) (sym h) ∙ ids_there ms n) ∙ is.same w);
    }) rooted

-- The regexes that a walk over places from the last one on has met, and those places that are left.
pub record Walking (rs : List Regex) (ms : List (Option Member)) (n : ℕ) (left ids : List ℕ) : Type 0 where
  pub behind : List ℕ
  pub is : places_in 0 n ms ≡ left ++ behind
  pub known : AllNumbers rs ids
  pub same : (w : List ℕ) → (in_each rs (ids_at ms left) w && in_each rs ids w) ≡ words_in rs ms n w

pub walk_start : (rs : List Regex) (ms : List (Option Member)) (n : ℕ) (left ids : List ℕ) → left ≡ places_in 0 n ms
    → ids ≡ [] → Walking rs ms n left ids
walk_start rs ms n left ids is none = record {
  behind = [];
  is = sym is ∙ sym (append-nil left);
  known = subst (AllNumbers rs) (sym none) (All-nil (λ i. i < length rs));
  same = λ w. ap (λ is. in_each rs (ids_at ms left) w && in_each rs is w) none
      ∙ (and-true (in_each rs (ids_at ms left) w) ∙ ap (λ is. in_each rs is w) (ap (ids_at ms) is ∙ ids_there ms n));
}

split_again : (all left places behind : List ℕ) (place : ℕ) → left ≡ places ++ place ∷ [] → all ≡ left ++ behind
    → all ≡ places ++ place ∷ behind
split_again all left places behind place split is =
    is ∙ (ap (λ ps. ps ++ behind) split ∙ append_assoc places (place ∷ []) behind)

pub walk_on : (rs : List Regex) (ms : List (Option Member)) (n : ℕ) (left places ids ids' : List ℕ) (place : ℕ)
    (o : Option Member) (x : Member) → left ≡ places ++ place ∷ [] → place < length ms → get_or ms place o ≡ Some x
    → ids' ≡ ids ++ x.regex ∷ [] → All (HasRegexBelow (length rs)) ms → Walking rs ms n left ids
    → Walking rs ms n places ids'
walk_on rs ms n left places ids ids' place o x split within there more numbers t = record {
  behind = place ∷ t.behind;
  is = split_again (places_in 0 n ms) left places t.behind place split t.is;
  known = subst (AllNumbers rs) (sym more) (All-push (λ i. i < length rs) ids x.regex t.known
      (number_there rs ms place o x numbers within there));
  same = λ w. ap (λ is. in_each rs (ids_at ms places) w && in_each rs is w) more
      ∙ (ap (λ b. in_each rs (ids_at ms places) w && b) (in_each-append rs ids x.regex w)
      ∙ (shuffle (in_each rs (ids_at ms places) w) (in_each rs ids w) (language (regex_at rs x.regex) w)
      ∙ (ap (λ b. b && in_each rs ids w) (sym (in_each-append rs (ids_at ms places) x.regex w)
      ∙ ap (λ is. in_each rs is w) (sym last)) ∙ t.same w)));
}
  where
    shuffle : (a i l : Bool) → (a && (i && l)) ≡ ((a && l) && i)
    shuffle a i l = ap (λ b. a && b) (and_comm i l) ∙ sym (and_assoc a l i)

    last : ids_at ms left ≡ ids_at ms places ++ x.regex ∷ []
    last = ap (ids_at ms) split
        ∙ (map-append (λ p. id_of (get_or ms p None)) places (place ∷ [])
        ∙ ap (λ i. ids_at ms places ++ i ∷ []) (ap id_of (get_or_default ms place None o within ∙ there)))

-- a membership stands at each of its places
pub no_gap : (rs : List Regex) (ms : List (Option Member)) (n : ℕ) (left places ids : List ℕ) (place : ℕ)
    (o : Option Member) → left ≡ places ++ place ∷ [] → get_or ms place o ≡ None → Walking rs ms n left ids → ⊥
no_gap rs ms n left places ids place o split there t =
    let here = member_at rs ms n places t.behind place
    (split_again (places_in 0 n ms) left places t.behind place split t.is) in
    none-some here.m (sym there ∙ get_or_from_slice_get ms place (Some here.m) o here.there)

-- an intersection is met
pub walk_ends : (rs : List Regex) (ms : List (Option Member)) (roots : List (Option ℕ)) (n : ℕ)
    (left places ids ids' : List ℕ) (place root : ℕ) → left ≡ places ++ place ∷ [] → root_at roots place ≡ Some root
    → ids' ≡ ids ++ root ∷ [] → AreRooted rs ms roots → Walking rs ms n left ids → AreConjuncts rs ms n ids'
walk_ends rs ms roots n left places ids ids' place root split there more rooted t = record {
  known = subst (AllNumbers rs) (sym more) (All-push (λ i. i < length rs) ids root t.known is.known);
  same = λ w. ap (λ is. in_each rs is w) more
      ∙ (in_each-append rs ids root w
      ∙ (and_comm (in_each rs ids w) (language (regex_at rs root) w)
      ∙ (ap (λ b. b && in_each rs ids w) (sym (is.same w) ∙ (here.words w
      ∙ ap (λ ps. in_each rs (ids_at ms ps) w) (sym split))) ∙ t.same w)));
}
  where
    here : IsMemberAt rs ms n (places ++ place ∷ []) place
    here = member_at rs ms n places t.behind place
        (split_again (places_in 0 n ms) left places t.behind place split t.is)

    is : IsRootOf rs (take (place + 1) ms) here.m.serial.0 root
    is = rooted.right place here.m root here.there there

-- no place is left
pub walk_done : (rs : List Regex) (ms : List (Option Member)) (n : ℕ) (left ids : List ℕ) → left ≡ []
    → Walking rs ms n left ids → AreConjuncts rs ms n ids
walk_done rs ms n left ids none t = record {
  known = t.known;
  same = λ w. ap (λ ps. in_each rs (ids_at ms ps) w && in_each rs ids w) (sym none) ∙ t.same w;
}
