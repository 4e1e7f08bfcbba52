-- The places of a constant's memberships, and the regexes of what stands there.
use Rattle.sb_decide.proofs.Words.{◌≡◌, ℕ, suc, ◌+◌, Bool, true, false, ◌&&◌, ◌==◌, if◌then◌else◌, List, [], ◌∷◌, refl, sym, ap, ap₂, subst, ◌∙◌, arith, Option, Some, None, option_map, slice_get, All, All-cons, All-nil, AreMembers, AreRegexesAt, Assertion, Decider, HasNoWordAt, IfSome, IsEmptyAt, IsPlaceOf, IsRegexAt, IsRegexOf, Knows, Member, Regex, Stacked, Term, asserted, assertion_in, demanded, eqb-true, ids_in, in_each, language, list_all, live, live_laid, meaning_of, names_at, normal, places_in, places_of, regex_at, state_of, slice_get-map}
use Rattle.sb_term.specs.declared.assertion.Assertion as code
use Rattle.sb_decide.proofs.DemandFacts.{same_pair, same_reglan}
use Rattle.sb_decide.proofs.Knowledge.{some_more}

-- these assertions stand in the whole list, from this place on
abbrev pub StandFrom : ℕ → List Assertion → List Term → List code.Assertion → Type 0
StandFrom k whole ts xs = (j m : ℕ) (x : code.Assertion) → m ≡ k + j → slice_get xs j ≡ Some x
    → slice_get whole m ≡ Some (assertion_in ts x)

stand_behind : (k : ℕ) (whole : List Assertion) (ts : List Term) (x : code.Assertion) (xs : List code.Assertion)
    → StandFrom k whole ts (x ∷ xs) → StandFrom (k + 1) whole ts xs
stand_behind k whole ts x xs h j m y e g = h (suc j) m y (omega (arith, e)) g

stand_live : (stack : Stacked) → StandFrom 0 (live (state_of stack)) stack.table stack.assertions
stand_live stack j m x e g =
    let same : m ≡ j = omega (arith, e) in
    ap₂ slice_get (live_laid stack) same
    ∙ (slice_get-map (assertion_in stack.table) stack.assertions j ∙ ap (option_map (assertion_in stack.table)) g)

-- Of a constant a membership stands at each of its places.
are_places : (rs : List Regex) (ts : List Term) (k n : ℕ) (whole : List Assertion) (ms : List (Option Member))
    (xs : List code.Assertion) → AreMembers rs ts ms xs → StandFrom k whole ts xs
    → All (IsPlaceOf whole n) (places_in k n ms)
are_places rs ts k n whole [] xs h stand = All-nil (IsPlaceOf whole n)
are_places rs ts k n whole (o ∷ ms) [] h stand = absurd h
are_places rs ts k n whole (None ∷ ms) (x ∷ xs) h stand =
    are_places rs ts (k + 1) n whole ms xs h.1 (stand_behind k whole ts x xs stand)
are_places rs ts k n whole (Some m ∷ ms) (x ∷ xs) h stand =
    by_test (n == m.serial.0) refl
    (are_places rs ts (k + 1) n whole ms xs h.1 (stand_behind k whole ts x xs stand))
  where
    by_test : (b : Bool) → (n == m.serial.0) ≡ b → All (IsPlaceOf whole n) (places_in (k + 1) n ms)
        → All (IsPlaceOf whole n) (if b then k ∷ places_in (k + 1) n ms else places_in (k + 1) n ms)
    by_test true e rest = All-cons (IsPlaceOf whole n) k (places_in (k + 1) n ms) (record {
      term = h.0.term;
      regex = h.0.wanted;
      there = stand 0 k x (omega arith) refl ∙ ap Some h.0.is;
      asks = subst (λ (i : ℕ). demanded h.0.term ≡ Some (i, h.0.wanted)) (sym (eqb-true n m.serial.0 e)) h.0.asks;
      decided = h.0.decided;
    }) rest
    by_test false e rest = rest

pub same_term : (t u : Term) → Some (asserted t) ≡ Some (asserted u) → t ≡ u
same_term t u e = cc

-- the regex of what is demanded at a place is the one that was taken in
regex_there : (rs : List Regex) (whole : List Assertion) (k : ℕ) (t : Term) (serial : ℕ) (R : Term) (id : ℕ) (g : Regex)
    → demanded t ≡ Some (serial, R) → IsRegexOf rs R id → slice_get whole k ≡ Some (asserted t) → IsRegexAt whole k g
    → g ≡ regex_at rs id
regex_there rs whole k t serial R id g asks r there a =
    let same : R ≡ a.expression = ap (λ (p : ℕ × Term). p.1) (same_pair (serial, R) (a.serial, a.expression)
    (sym asks ∙ ap demanded (same_term t a.term (sym there ∙ a.there)) ∙ a.asks)) in
    a.is
    ∙ (ap normal (same_reglan a.reglan r.reglan (sym (a.means []) ∙ (ap (meaning_of []) (sym same) ∙ r.means [])))
    ∙ sym (names_at rs id (normal r.reglan) r.names))

-- so the words that these regexes have in common are those of the constant's
words_at_places : (rs : List Regex) (ts : List Term) (k n : ℕ) (whole : List Assertion) (ms : List (Option Member))
    (xs : List code.Assertion) (gs : List Regex) (w : List ℕ) → AreMembers rs ts ms xs → StandFrom k whole ts xs
    → AreRegexesAt whole (places_in k n ms) gs → list_all (λ r. language r w) gs ≡ in_each rs (ids_in ms n) w
words_at_places rs ts k n whole [] xs [] w h stand regexes = refl
words_at_places rs ts k n whole [] xs (g ∷ gs) w h stand regexes = absurd regexes
words_at_places rs ts k n whole (o ∷ ms) [] gs w h stand regexes = absurd h
words_at_places rs ts k n whole (None ∷ ms) (x ∷ xs) gs w h stand regexes =
    words_at_places rs ts (k + 1) n whole ms xs gs w h.1 (stand_behind k whole ts x xs stand) regexes
words_at_places rs ts k n whole (Some m ∷ ms) (x ∷ xs) gs w h stand regexes =
    by_test (n == m.serial.0) gs regexes
    (λ fs. words_at_places rs ts (k + 1) n whole ms xs fs w h.1 (stand_behind k whole ts x xs stand))
  where
    by_test : (b : Bool) (gs : List Regex)
        → AreRegexesAt whole (if b then k ∷ places_in (k + 1) n ms else places_in (k + 1) n ms) gs
        → ((fs : List Regex) → AreRegexesAt whole (places_in (k + 1) n ms) fs
        → list_all (λ r. language r w) fs ≡ in_each rs (ids_in ms n) w)
        → list_all (λ r. language r w) gs ≡ in_each rs (if b then m.regex ∷ ids_in ms n else ids_in ms n) w
    by_test true [] f rest = absurd f
    by_test true (g ∷ gs) f rest =
        ap₂ ◌&&◌ (ap (λ r. language r w) (regex_there rs whole k h.0.term m.serial.0 h.0.wanted m.regex g h.0.asks
        h.0.regex (stand 0 k x (omega arith) refl ∙ ap Some h.0.is) f.0)) (rest gs f.1)
    by_test false gs f rest = rest gs f

-- What is known of them.

pub places_known : (kept : Decider) (n : ℕ) (stack : Stacked) → Knows kept stack
    → All (IsPlaceOf (live (state_of stack)) n) (places_of kept n)
places_known kept n stack k =
    rw (k.taken.counted.places n)
    (are_places kept.store.arena stack.table 0 n (live (state_of stack)) kept.members.items stack.assertions
    k.taken.members (stand_live stack))

pub dead_known : (kept : Decider) (stack : Stacked) → Knows kept stack
    → IfSome kept.dead (λ serial. HasNoWordAt (live (state_of stack)) (places_of kept serial.0))
dead_known kept stack k =
    some_more (IsEmptyAt kept.store.arena kept.members.items)
    (λ n. HasNoWordAt (live (state_of stack)) (places_of kept n))
    (λ n empty gs regexes w c. words_at_places kept.store.arena stack.table 0 n (live (state_of stack))
    kept.members.items stack.assertions gs w k.taken.members (stand_live stack)
    (rw (k.taken.counted.places n) at regexes) ∙ empty w c) kept.dead k.taken.dead
