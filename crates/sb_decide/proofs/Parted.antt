-- The constants that occur in assertions of other structure, and which of those that changed are left to a search.
use Rattle.sb_decide.proofs.Words.{◌≡◌, ℕ, suc, ◌+◌, ◌<◌, Bool, true, false, not, ◌&&◌, ◌||◌, ◌==◌, List, [], ◌∷◌, ◌++◌, length, get_or, slice_get, option_map, take, Option, Some, None, refl, sym, ap, ap₂, subst, ◌∙◌, arith, All, All-contains, All-nil, All-push, AreSpoken, Assertion, Contains, Decider, IsParted, IsSpoken, Knows, Serial, Speaks, Stacked, a_mark, asserted, assertion_in, assertion_of, false≢true, is_listed, is_silent, list_all, list_any-append, live, live_laid, not-false, occurs, or_left, or_parts, or_right, passes_at, state_of, take_all, take_more, true_from_ne_false, or_assoc, or_comm, All-append, AllPass-from_list_all, slice_get-map, passes, passes_in}
use Rattle.sb_term.specs.declared.assertion.Assertion as code
use Rattle.sb_decide.proofs.Constants.{listed_all, listed_at}

-- The constants that occur at places.

-- a place at which a test fails
record IsFailing (test : ℕ → Bool) (places : List ℕ) : Type 0 where
  place : ℕ
  among : Contains places place
  fails : test place ≡ false

not_all : (test : ℕ → Bool) (places : List ℕ) → list_all test places ≡ false → IsFailing test places
not_all test [] h = absurd (false≢true (sym h))
not_all test (p ∷ places) h = by (test p) refl h (not_all test places)
  where
    by : (b : Bool) → test p ≡ b → (b && list_all test places) ≡ false
        → (list_all test places ≡ false → IsFailing test places) → IsFailing test (p ∷ places)
    by true e k later =
        let one = later k in record {
          place = one.place;
          among = (suc one.among.0, (omega (arith, one.among.1)), one.among.2);
          fails = one.fails;
        }
    by false e k later = record { place = p; among = (0, (omega arith), refl); fails = e }

-- the constant does not occur in the assertion, if there is one
abbrev silent_in : ℕ → Option Assertion → Bool
silent_in n None = true
silent_in n (Some a_mark) = true
silent_in n (Some (asserted t)) = not (occurs n t)

silent_live : (stack : Stacked) (n place : ℕ) → passes_at (is_silent stack.table n) stack.assertions place
    ≡ silent_in n (slice_get (live (state_of stack)) place)
silent_live stack n place =
    whole (slice_get stack.assertions place)
    ∙ ap (silent_in n) (sym (slice_get-map (assertion_in stack.table) stack.assertions place)
    ∙ ap (λ list. slice_get list place) (sym (live_laid stack)))
  where
    term : (q : Option ℕ) → passes (is_silent stack.table n) q ≡ silent_in n (Some (assertion_of stack.table q))
    term None = refl
    term (Some id) = refl

    whole : (o : Option code.Assertion) → passes_in (is_silent stack.table n) o
        ≡ silent_in n (option_map (assertion_in stack.table) o)
    whole None = refl
    whole (Some a) = term a.term

pub spoken_of : (places : List ℕ) (stack : Stacked) (serials : List Serial)
    → Speaks stack.table stack.assertions places serials → AreSpoken places stack serials
spoken_of places stack serials speaks = record {
  each = λ n o. true_from_ne_false (is_listed serials n) (listed n o);
  only = λ n h.
      let one = not_all (passes_at (is_silent stack.table n) stack.assertions) places (speaks n ∙ ap not h) in
      heard n one.place one.among (slice_get (live (state_of stack)) one.place) refl
      (sym (silent_live stack n one.place) ∙ one.fails);
}
  where
    listed : (n : ℕ) → IsSpoken places stack n → is_listed serials n ≡ false → ⊥
    listed n o e =
        false≢true (ap not (sym o.occurring)
        ∙ (ap (silent_in n) (sym o.there)
        ∙ (sym (silent_live stack n o.place)
        ∙ All-contains (λ p. passes_at (is_silent stack.table n) stack.assertions p ≡ true) places o.place
        (AllPass-from_list_all (passes_at (is_silent stack.table n) stack.assertions) places (speaks n ∙ ap not e))
        o.other)))

    heard : (n place : ℕ) → Contains places place → (o : Option Assertion)
        → slice_get (live (state_of stack)) place ≡ o → silent_in n o ≡ false → IsSpoken places stack n
    heard n place c None e h = absurd (false≢true (sym h))
    heard n place c (Some a_mark) e h = absurd (false≢true (sym h))
    heard n place c (Some (asserted t)) e h =
        record { place = place; term = t; other = c; there = e; occurring = not-false (occurs n t) h }

-- Constants are parted.

pub parted_none : (spoken changed left : List Serial) → changed ≡ [] → left ≡ [] → IsParted [] spoken changed left
parted_none spoken changed left none nothing = rw (none, nothing) (record {
  each = λ n. refl;
  are_spoken = All-nil (λ (serial : Serial). is_listed spoken serial.0 ≡ true);
})

listed_both : (n : ℕ) (xs ys : List Serial) → is_listed (xs ++ ys) n ≡ (is_listed xs n || is_listed ys n)
listed_both n xs ys = list_any-append (λ (x : Serial). x.0 == n) xs ys

-- the next one is left
pub parted_left : (all spoken changed left more : List Serial) (i : ℕ) (d : Serial) → i < length all
    → is_listed spoken (get_or all i d).0 ≡ true → more ≡ left ++ get_or all i d ∷ []
    → IsParted (take i all) spoken changed left → IsParted (take (i + 1) all) spoken changed more
parted_left all spoken changed left more i d l there made p = rw (made, take_more all i d l) (record {
  each = λ n. listed_both n (take i all) (s ∷ [])
      ∙ (ap (λ b. b || is_listed (s ∷ []) n) (p.each n)
      ∙ (or_assoc (is_listed changed n) (is_listed left n) (is_listed (s ∷ []) n)
      ∙ ap (λ b. is_listed changed n || b) (sym (listed_both n left (s ∷ [])))));
  are_spoken = All-push (λ (serial : Serial). is_listed spoken serial.0 ≡ true) left s p.are_spoken there;
})
  where
    s : Serial
    s = get_or all i d

-- or it stays
pub parted_changed : (all spoken changed left more : List Serial) (i : ℕ) (d : Serial) → i < length all
    → more ≡ changed ++ get_or all i d ∷ [] → IsParted (take i all) spoken changed left
    → IsParted (take (i + 1) all) spoken more left
parted_changed all spoken changed left more i d l made p = rw (made, take_more all i d l) (record {
  each = λ n. listed_both n (take i all) (s ∷ [])
      ∙ (ap (λ b. b || is_listed (s ∷ []) n) (p.each n)
      ∙ (turn (is_listed changed n) (is_listed left n) (is_listed (s ∷ []) n)
      ∙ ap (λ b. b || is_listed left n) (sym (listed_both n changed (s ∷ [])))));
  are_spoken = p.are_spoken;
})
  where
    s : Serial
    s = get_or all i d

    turn : (a b c : Bool) → ((a || b) || c) ≡ ((a || c) || b)
    turn true b c = refl
    turn false b c = or_comm b c

-- The whole.

pub knows_parted : (kept d : Decider) (all : List Serial) (stack : Stacked) →
    all ≡ kept.changed.items ++ kept.left.items → IsParted all d.spoken.keys d.changed.items d.left.items →
    d.heard ≡ length kept.others.items → Speaks stack.table stack.assertions kept.others.items d.spoken.keys →
    Knows kept stack →
    Knows (record kept { changed = d.changed; left = d.left; spoken = d.spoken; heard = d.heard }) stack
knows_parted kept d all stack is p count speaks k =
    let t = k.taken in record {
      inside = k.inside;
      taken = record {
        store = t.store;
        members = t.members;
        rooted = t.rooted;
        counted = record {
          within = t.counted.within;
          places = t.counted.places;
          apart = t.counted.apart;
          settled = λ n h j.
              let none = or_parts (is_listed kept.changed.items n) (is_listed kept.left.items n)
              (sym (each n) ∙ ap₂ ◌||◌ j h) in
              t.counted.settled n none.1 none.0;
          left_listed = λ i x l. low (get_or d.left.items i x).0
              (or_right (is_listed d.changed.items _) (is_listed d.left.items _) (listed_at d.left.items i x l));
          listed = λ i x l. low (get_or d.changed.items i x).0
              (or_left (is_listed d.changed.items _) (is_listed d.left.items _) (listed_at d.changed.items i x l));
        };
        dead = t.dead;
        heard = record {
          within = omega (arith, count);
          speaks = subst (λ ps. Speaks stack.table stack.assertions ps d.spoken.keys)
              (sym (take_all d.heard kept.others.items (omega (arith, count)))) speaks;
        };
      };
      words = k.words;
      declared = k.declared;
    }
  where
    each : (n : ℕ) → (is_listed d.changed.items n || is_listed d.left.items n)
        ≡ (is_listed kept.changed.items n || is_listed kept.left.items n)
    each n =
        sym (p.each n)
        ∙ (ap (λ xs. is_listed xs n) is ∙ listed_both n kept.changed.items kept.left.items)

    low : (n : ℕ) → (is_listed d.changed.items n || is_listed d.left.items n) ≡ true → n < length kept.constants.items
    low n h =
        listed_all (λ m. m < length kept.constants.items) (kept.changed.items ++ kept.left.items) n
        (All-append (λ (x : Serial). x.0 < length kept.constants.items) kept.changed.items kept.left.items
        k.taken.counted.listed k.taken.counted.left_listed)
        (ap (λ xs. is_listed xs n) (sym is) ∙ (p.each n ∙ h))

pub left_spoken : (places : List ℕ) (stack : Stacked) (all spoken changed left : List Serial)
    → AreSpoken places stack spoken → IsParted all spoken changed left
    → All (λ serial. IsSpoken places stack serial.0) left
left_spoken places stack all spoken changed left speaks p k d l =
    speaks.only (get_or left k d).0 (p.are_spoken k d l)
