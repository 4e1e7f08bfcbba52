-- What a search is asked about.
use Rattle.sb_decide.proofs.Words.{append-nil, ◌≡◌, ℕ, zero, suc, ◌+◌, ◌<◌, ◌≤◌, ◌⊎◌, inl, inr, Bool, true, false, ◌||◌, ◌==◌, if◌then◌else◌, List, [], ◌∷◌, ◌++◌, length, get_or, drop, slice_get, Option, Some, None, refl, sym, ap, ap₂, subst, ◌∙◌, arith, append_assoc, All, All-contains, Conjoined, Contains, Contains-append_cases, Contains-append_left, Contains-append_right, Contains-get_or, Decider, HasNoWordAt, IfSome, IsAbout, IsClash, IsPlaceOf, IsQuestion, IsReady, IsSpoken, Knows, Member, OccursNowhereAt, Serial, Stacked, Term, Terms, and_parts, apply, are_regexes, are_texts, asked, asked_occurs, asks_of, asserted, assertion_in, conjoined_at, demanded, drop_all, drop_more, eq-eqb, eqb-true, false_from_ne_true, false≢true, is_decided, is_listed, is_plain, is_regex, is_text, length-map, live, live_laid, nil_from_length, no_terms, none-some, occurs, occurs_in_some, or_left, or_right, other_places, places_in, places_of, places_of_all, same_Some, slice_get-get_or, slice_get_within, state_of, with_term, word, Contains-permutation, IsPermutation-sym, length_permutation, IsPermutation}
use Rattle.sb_meaning.specs.Terms as symbol
use Rattle.sb_decide.proofs.AskingTerms.{IsAskedOf, asks_in, asks_same}
use Rattle.sb_decide.proofs.DemandFacts.{IsDemanding, an_asking, a_denial, decided_kind, demanded_looks}
use Rattle.sb_decide.proofs.Knowledge.{others_within}
use Rattle.sb_decide.proofs.PlaceFacts.{dead_known, places_known, same_term}
use Rattle.sb_decide.proofs.TakingOver.{plain_alone, plain_silent}

-- A term that asks something of one constant's word speaks of no other one.

alone : (n : ℕ) (R : Term) → occurs n R ≡ false → occurs_in_some n (with_term R no_terms) ≡ false
alone n R h = ap (λ b. b || false) h

-- none occurs in a word
mutual
  text_occurs : (n : ℕ) (t : Term) → is_text t ≡ true → occurs n t ≡ false
  text_occurs n (word w) h = refl
  text_occurs n (apply symbol.str_concat terms) h = texts_occur n terms h
  text_occurs n _ h = absurd (false≢true h)

  texts_occur : (n : ℕ) (ts : Terms) → are_texts ts ≡ true → occurs_in_some n ts ≡ false
  texts_occur n no_terms h = refl
  texts_occur n (with_term t ts) h =
      let parts = and_parts (is_text t) (are_texts ts) h in
      rw (text_occurs n t parts.0) (texts_occur n ts parts.1)

-- nor in a regular expression over words
mutual
  regex_occurs : (n : ℕ) (R : Term) → is_regex R ≡ true → occurs n R ≡ false
  regex_occurs n (apply symbol.str_to_re (with_term t no_terms)) h = alone n t (text_occurs n t h)
  regex_occurs n (apply symbol.re_range (with_term s (with_term t no_terms))) h =
      let parts = and_parts (is_text s) (is_text t) h in
      rw (text_occurs n s parts.0) (alone n t (text_occurs n t parts.1))
  regex_occurs n (apply symbol.re_none no_terms) h = refl
  regex_occurs n (apply symbol.re_all no_terms) h = refl
  regex_occurs n (apply symbol.re_allchar no_terms) h = refl
  regex_occurs n (apply symbol.re_concat (with_term R Rs)) h = regexes_occur n (with_term R Rs) h
  regex_occurs n (apply symbol.re_union (with_term R Rs)) h = regexes_occur n (with_term R Rs) h
  regex_occurs n (apply symbol.re_inter (with_term R Rs)) h = regexes_occur n (with_term R Rs) h
  regex_occurs n (apply symbol.re_diff (with_term R Rs)) h = regexes_occur n (with_term R Rs) h
  regex_occurs n (apply symbol.re_star (with_term R no_terms)) h = alone n R (regex_occurs n R h)
  regex_occurs n (apply symbol.re_plus (with_term R no_terms)) h = alone n R (regex_occurs n R h)
  regex_occurs n (apply symbol.re_opt (with_term R no_terms)) h = alone n R (regex_occurs n R h)
  regex_occurs n (apply symbol.re_comp (with_term R no_terms)) h = alone n R (regex_occurs n R h)
  regex_occurs n (apply (symbol.re_power k) (with_term R no_terms)) h = alone n R (regex_occurs n R h)
  regex_occurs n (apply (symbol.re_loop k m) (with_term R no_terms)) h = alone n R (regex_occurs n R h)
  regex_occurs n _ h = absurd (false≢true h)

  regexes_occur : (n : ℕ) (Rs : Terms) → are_regexes Rs ≡ true → occurs_in_some n Rs ≡ false
  regexes_occur n no_terms h = refl
  regexes_occur n (with_term R Rs) h =
      let parts = and_parts (is_regex R) (are_regexes Rs) h in
      rw (regex_occurs n R parts.0) (regexes_occur n Rs parts.1)

asking_elsewhere : (n : ℕ) (t : Term) (serial : ℕ) (R : Term) → asked t ≡ Some (serial, R) → is_regex R ≡ true
    → (n == serial) ≡ false → occurs n t ≡ false
asking_elsewhere n t serial R asks kind other =
    asked_occurs t serial R asks n
    ∙ (ap (λ b. b || (occurs n R || false)) other ∙ ap (λ b. b || false) (regex_occurs n R kind))

demanded_elsewhere : (n : ℕ) (t : Term) (serial : ℕ) (R : Term) → demanded t ≡ Some (serial, R) → is_regex R ≡ true
    → (n == serial) ≡ false → occurs n t ≡ false
demanded_elsewhere n t serial R h kind other = step (demanded_looks t serial R h)
  where
    step : IsDemanding serial t R → occurs n t ≡ false
    step (an_asking asks) = asking_elsewhere n t serial R asks kind other
    step (a_denial u S is same asks) =
        ap (occurs n) is
        ∙ ap (λ b. b || false) (asking_elsewhere n u serial S asks (sym (ap is_regex same) ∙ kind) other)

-- so a constant that occurs in it is this one
pub asked_alone : (n m : ℕ) (t : Term) → asks_of m t ≡ true → is_decided (asserted t) ≡ true → occurs n t ≡ true
    → m ≡ n
asked_alone n m t asks decided there = by (n == m) refl
  where
    one : IsAskedOf m t
    one = asks_in m t asks

    by : (b : Bool) → (n == m) ≡ b → m ≡ n
    by true e = sym (eqb-true n m e)
    by false e =
        absurd (false≢true (sym (demanded_elsewhere n t m one.expression one.asks
        (decided_kind t m one.expression one.asks decided) e) ∙ there))

-- What stands at a place.

one_further : (b : Bool) (k p : ℕ) (places : List ℕ) → Contains places p
    → Contains (if b then k ∷ places else places) p
one_further true k p places c = (suc c.0, (omega (arith, c.1)), c.2)
one_further false k p places c = c

first_there : (b : Bool) (k p : ℕ) (places : List ℕ) → b ≡ true → p ≡ k
    → Contains (if b then k ∷ places else places) p
first_there true k p places h e = (0, (omega arith), (sym e))
first_there false k p places h e = absurd (false≢true h)

-- the place is one of the membership's constant, or of those that are none
abbrev IsThere : ℕ → List (Option Member) → ℕ → Option Member → Type 0
IsThere k ms p None = Contains (other_places k ms) p
IsThere k ms p (Some m) = Contains (places_in k m.serial.0 ms) p

stands_there : (k : ℕ) (ms : List (Option Member)) (j p : ℕ) (o : Option Member) → p ≡ k + j
    → slice_get ms j ≡ Some o → IsThere k ms p o
stands_there k [] j p o e h = absurd (none-some o h)
stands_there k (x ∷ ms) zero p o e h = subst (IsThere k (x ∷ ms) p) (same_Some x o h) (here x)
  where
    here : (x : Option Member) → IsThere k (x ∷ ms) p x
    here None = (0, (omega arith), (omega (arith, e)))
    here (Some m) = first_there (m.serial.0 == m.serial.0) k p (places_in (k + 1) m.serial.0 ms)
        (eq-eqb m.serial.0 m.serial.0 refl) (omega (arith, e))
stands_there k (x ∷ ms) (suc j) p o e h = further x o (stands_there (k + 1) ms j p o (omega (arith, e)) h)
  where
    further : (x o : Option Member) → IsThere (k + 1) ms p o → IsThere k (x ∷ ms) p o
    further None None c = (suc c.0, (omega (arith, c.1)), c.2)
    further None (Some m) c = c
    further (Some x) None c = c
    further (Some x) (Some m) c = one_further (m.serial.0 == x.serial.0) k p (places_in (k + 1) m.serial.0 ms) c

-- The places of constants that are listed.

abbrev asked_of : Decider → List Serial → List ℕ
asked_of kept serials = places_of_all kept.constants.items serials

abbrev all_asked : Decider → List ℕ
all_asked kept = kept.others.items ++ asked_of kept kept.spoken.keys

listed_places : (kept : Decider) (serials : List Serial) (n p : ℕ) → is_listed serials n ≡ true
    → Contains (places_of kept n) p → Contains (asked_of kept serials) p
listed_places kept [] n p h c = absurd (false≢true h)
listed_places kept (s ∷ serials) n p h c = by (s.0 == n) refl h (listed_places kept serials n p)
  where
    by : (b : Bool) → (s.0 == n) ≡ b → (b || is_listed serials n) ≡ true
        → (is_listed serials n ≡ true → Contains (places_of kept n) p → Contains (asked_of kept serials) p)
        → Contains (asked_of kept (s ∷ serials)) p
    by true e k later =
        Contains-append_left (places_of kept s.0) (asked_of kept serials) p
        (subst (λ m. Contains (places_of kept m) p) (sym (eqb-true s.0 n e)) c)
    by false e k later =
        Contains-append_right (places_of kept s.0) (asked_of kept serials) p (later k c)

-- the place is one of a constant that is listed
abbrev IsListedPlace : Decider → List Serial → ℕ → Type 0
IsListedPlace kept serials p = (n : ℕ) × (is_listed serials n ≡ true) × Contains (places_of kept n) p

listed_place : (kept : Decider) (serials : List Serial) (p : ℕ) → Contains (asked_of kept serials) p
    → IsListedPlace kept serials p
listed_place kept [] p c = absurd (omega (arith, c.1))
listed_place kept (s ∷ serials) p c =
    by (Contains-append_cases (places_of kept s.0) (asked_of kept serials) p c) (listed_place kept serials p)
  where
    by : Contains (places_of kept s.0) p ⊎ Contains (asked_of kept serials) p
        → (Contains (asked_of kept serials) p → IsListedPlace kept serials p)
        → IsListedPlace kept (s ∷ serials) p
    by (inl h) later = (s.0, or_left (s.0 == s.0) (is_listed serials s.0) (eq-eqb s.0 s.0 refl), h)
    by (inr h) later = let one = later h in (one.0, or_right (s.0 == one.0) (is_listed serials one.0) one.1, one.2)

-- the next constant's places come to those that are gathered
pub gathered_next : (cs : List Conjoined) (gathered more here all : List ℕ) (serials : List Serial) (i : ℕ) (d : Serial)
    → i < length serials → here ≡ (conjoined_at cs (get_or serials i d).0).places → more ≡ gathered ++ here
    → gathered ++ places_of_all cs (drop i serials) ≡ all → more ++ places_of_all cs (drop (i + 1) serials) ≡ all
gathered_next cs gathered more here all serials i d l is made before =
    ap (λ ps. ps ++ places_of_all cs (drop (i + 1) serials)) (made ∙ ap (λ ps. gathered ++ ps) is)
    ∙ (append_assoc gathered (conjoined_at cs (get_or serials i d).0).places (places_of_all cs (drop (i + 1) serials))
    ∙ (ap (λ ss. gathered ++ places_of_all cs ss) (sym (drop_more serials i d l)) ∙ before))

pub gathered_done : (cs : List Conjoined) (gathered sorted all : List ℕ) (serials : List Serial) (i : ℕ)
    → length serials ≤ i → gathered ++ places_of_all cs (drop i serials) ≡ all → IsPermutation gathered sorted
    → IsPermutation all sorted
gathered_done cs gathered sorted all serials i l before moved =
    subst (λ ps. IsPermutation ps sorted)
    (sym (append-nil gathered) ∙ (ap (λ ss. gathered ++ places_of_all cs ss) (sym (drop_all i serials l)) ∙ before))
    moved

-- The whole.

not_listed : (serials : List Serial) (n k : ℕ) → is_listed serials n ≡ false → is_listed serials k ≡ true
    → (n == k) ≡ false
not_listed serials n k h j =
    false_from_ne_true (n == k)
    (λ e. false≢true (sym (ap (is_listed serials) (sym (eqb-true n k e)) ∙ h) ∙ j))

-- what stands at a place of a constant
place_of : (kept : Decider) (stack : Stacked) (n p : ℕ) → Knows kept stack → Contains (places_of kept n) p
    → IsPlaceOf (live (state_of stack)) n p
place_of kept stack n p k c =
    All-contains (IsPlaceOf (live (state_of stack)) n) (places_of kept n) p (places_known kept n stack k) c

-- a constant that is not listed occurs in no assertion at these places
nowhere : (kept : Decider) (stack : Stacked) (n p : ℕ) (t : Term) → IsReady kept stack
    → is_listed kept.spoken.keys n ≡ false
    → Contains kept.others.items p ⊎ Contains (asked_of kept kept.spoken.keys) p
    → slice_get (live (state_of stack)) p ≡ Some (asserted t) → occurs n t ≡ false
nowhere kept stack n p t r none (inl c) there =
    false_from_ne_true (occurs n t) (λ e. false≢true (sym none
    ∙ r.spoken.each n (record { place = p; term = t; other = c; there = there; occurring = e })))
nowhere kept stack n p t r none (inr c) there =
    let listed = listed_place kept kept.spoken.keys p c in
    let place = place_of kept stack listed.0 p r.knows listed.2 in
    ap (occurs n) (same_term t place.term (sym there ∙ place.there))
    ∙ demanded_elsewhere n place.term listed.0 place.regex place.asks
    (decided_kind place.term listed.0 place.regex place.asks place.decided)
    (not_listed kept.spoken.keys n listed.0 none listed.1)

all_below : (n : ℕ) (ns : List ℕ) → ((m : ℕ) → Contains ns m → m < n) → All (λ i. i < n) ns
all_below n ns h i d l = h (get_or ns i d) (Contains-get_or ns i d l)

own_below : (kept : Decider) (stack : Stacked) (n p : ℕ) → Knows kept stack → Contains (places_of kept n) p
    → p < length stack.assertions
own_below kept stack n p k c =
    let place = place_of kept stack n p k c in
    let within = slice_get_within (live (state_of stack)) p (asserted place.term) place.there in
    omega (arith, within, ap length (live_laid stack), length-map stack.assertions (assertion_in stack.table))

place_below : (kept : Decider) (stack : Stacked) (serials : List Serial) (p : ℕ) → Knows kept stack
    → Contains kept.others.items p ⊎ Contains (asked_of kept serials) p → p < length stack.assertions
place_below kept stack serials p k (inl c) = others_within kept stack k p c
place_below kept stack serials p k (inr c) =
    let listed = listed_place kept serials p c in own_below kept stack listed.0 p k listed.2

pub all_others_below : (kept : Decider) (stack : Stacked) → Knows kept stack
    → All (λ p. p < length stack.assertions) kept.others.items
all_others_below kept stack k =
    all_below (length stack.assertions) kept.others.items (λ p c. others_within kept stack k p c)

-- it stands at the place that it asks something of the constant's word
about : (kept : Decider) (stack : Stacked) (n p : ℕ) → Knows kept stack → Contains (places_of kept n) p
    → IsAbout stack p n
about kept stack n p k c =
    let one = place_of kept stack n p k c in
    record { term = one.term; there = one.there; asks = asks_same n one.term n one.regex one.asks ∙ eq-eqb n n refl }

-- of a plain script no constant is listed
none_plain : (kept : Decider) (stack : Stacked) → IsReady kept stack → is_plain (state_of stack) ≡ true
    → (serials : List Serial) → serials ≡ kept.spoken.keys → serials ≡ []
none_plain kept stack r plain [] is = refl
none_plain kept stack r plain (s ∷ serials) is =
    absurd (plain_silent kept stack s.0 r.knows plain
    (r.spoken.only s.0 (ap (λ ss. is_listed ss s.0) (sym is)
    ∙ or_left (s.0 == s.0) (is_listed serials s.0) (eq-eqb s.0 s.0 refl))))

pub question_of : (kept : Decider) (stack : Stacked) (sorted : List ℕ)
    → IsPermutation (all_asked kept) sorted → IsReady kept stack → IsQuestion kept.others.items stack sorted
question_of kept stack sorted moved r = record {
  below = all_below (length stack.assertions) sorted
      (λ p c. place_below kept stack kept.spoken.keys p r.knows (gathered p c));
  asked = λ p c. put p (Contains-append_left kept.others.items (asked_of kept kept.spoken.keys) p c);
  only = λ p c. why p (gathered p c);
  rest = λ p l. by p l (slice_get kept.members.items p) refl;
  plain = λ plain. nil_from_length sorted
      (omega (arith, length_permutation (all_asked kept) sorted moved, ap length (nothing plain)));
}
  where
    put : (p : ℕ) → Contains (all_asked kept) p → Contains sorted p
    put p c = Contains-permutation (all_asked kept) sorted p moved c

    -- the places as they were gathered
    gathered : (p : ℕ) → Contains sorted p → Contains kept.others.items p ⊎ Contains (asked_of kept kept.spoken.keys) p
    gathered p c =
        Contains-append_cases kept.others.items (asked_of kept kept.spoken.keys) p
        (Contains-permutation sorted (all_asked kept) p (IsPermutation-sym (all_asked kept) sorted moved) c)

    why : (p : ℕ) → Contains kept.others.items p ⊎ Contains (asked_of kept kept.spoken.keys) p
        → Contains kept.others.items p
        ⊎ ((serial : ℕ) × IsAbout stack p serial × IsSpoken kept.others.items stack serial)
    why p (inl c) = inl c
    why p (inr c) =
        let one = listed_place kept kept.spoken.keys p c in
        inr (one.0, about kept stack one.0 p r.knows one.2, r.spoken.only one.0 one.1)

    nothing : is_plain (state_of stack) ≡ true → all_asked kept ≡ []
    nothing plain = ap₂ (λ os ss. os ++ asked_of kept ss) (plain_alone kept stack r.knows plain)
        (none_plain kept stack r plain kept.spoken.keys refl)

    member : (p : ℕ) (m : Member) → Contains (places_of kept m.serial.0) p → (b : Bool)
        → is_listed kept.spoken.keys m.serial.0 ≡ b → Contains sorted p
        ⊎ ((serial : ℕ) × IsAbout stack p serial × OccursNowhereAt stack sorted serial)
    member p m c true h =
        inl (put p (Contains-append_right kept.others.items (asked_of kept kept.spoken.keys) p
        (listed_places kept kept.spoken.keys m.serial.0 p h c)))
    member p m c false h = inr (
      m.serial.0,
      about kept stack m.serial.0 p r.knows c,
      λ q t d there. nowhere kept stack m.serial.0 q t r h (gathered q d) there,
    )

    by : (p : ℕ) → p < length stack.assertions → (o : Option (Option Member)) → slice_get kept.members.items p ≡ o
        → Contains sorted p ⊎ ((serial : ℕ) × IsAbout stack p serial × OccursNowhereAt stack sorted serial)
    by p l None h =
        absurd (none-some (get_or kept.members.items p None)
        (sym h ∙ slice_get-get_or kept.members.items p None (omega (arith, l, r.all.0))))
    by p l (Some None) h =
        inl (put p (Contains-append_left kept.others.items (asked_of kept kept.spoken.keys) p
        (subst (λ ps. Contains ps p) (sym r.knows.taken.counted.apart)
        (stands_there 0 kept.members.items p p None (omega arith) h))))
    by p l (Some (Some m)) h =
        member p m (subst (λ ps. Contains ps p) (sym (r.knows.taken.counted.places m.serial.0))
        (stands_there 0 kept.members.items p p (Some m) (omega arith) h)) (is_listed kept.spoken.keys m.serial.0) refl

-- What refutes a check.

pub clash_of : (kept : Decider) (serial : Serial) (places : List ℕ)
    → kept.dead ≡ Some serial → places ≡ places_of kept serial.0 → (stack : Stacked) → Knows kept stack
    → IsClash stack places
clash_of kept serial places dead is stack k = rw is (record {
  below = all_below (length stack.assertions) (places_of kept serial.0)
      (λ p c. own_below kept stack serial.0 p k c);
  serial = serial.0;
  are = places_known kept serial.0 stack k;
  none = subst (λ o. IfSome o (λ (s : Serial). HasNoWordAt (live (state_of stack)) (places_of kept s.0))) dead
      (dead_known kept stack k);
})
