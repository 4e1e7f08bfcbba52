-- From the words of constants to the verdict.
use Rattle.sb_decide.proofs.Words.{◌≡◌, ℕ, Bool, true, false, ◌&&◌, ◌==◌, if◌then◌else◌, List, [], ◌∷◌, ◌++◌, map, refl, sym, ap, ◌∙◌, ◌≤◌, length, arith, AreShortestLeast, Assumption, FragmentIsOfEach, HasNoWord, Int, IsShortestLeast, IsSofar, IsVerdict, IsWord, Language, Regex, Satisfiable, Sort, State, Term, Text, Truth, Valuation, Value, all_hold, and_from, and_parts, asking, asks_of, assumed, boolean, constants_of, eqb-true, false≢true, holds, in_each, integer, is_decided, is_member, is_of, is_one_of, is_plain, is_unsat, list_all, list_any, live, live_terms, occurs, or_parts, reglan, same_sort, speaks_of, text, value_at, value_in, values_at, word_at, words_asked, words_for, is_same_sort, Constant}
use Rattle.sb_script.specs.State.{fits}
use Rattle.sb_decide.proofs.AskingTerms.{about_is, asked_speaks, occurs_not}
use Rattle.sb_decide.proofs.Conjunctions.{same_least}

all_shortest : (ts : List Term) (words : List (List ℕ)) (truths : List Bool) (cs : List (ℕ × Sort))
    → ((n : ℕ) → IsShortestLeast (words_for n ts) (word_at words n)) → AreShortestLeast ts (values_at cs words truths)
all_shortest ts words truths [] h = tt
all_shortest ts words truths ((n, boolean) ∷ cs) h = all_shortest ts words truths cs h
all_shortest ts words truths ((n, integer) ∷ cs) h = all_shortest ts words truths cs h
all_shortest ts words truths ((n, text) ∷ cs) h = (h n, all_shortest ts words truths cs h)
all_shortest ts words truths ((n, reglan) ∷ cs) h = (h n, all_shortest ts words truths cs h)

-- the least word of a constant's regexes is that of what is asked of it
pub asked_least : (rs : List Regex) (s : State) (found : ℕ → List ℕ) (words : List (List ℕ)) (n : ℕ)
    → IsSofar rs (live s) found → IsShortestLeast (in_each rs (found n)) (word_at words n)
    → IsShortestLeast (words_asked n (live_terms s)) (word_at words n)
asked_least rs s found words n f least =
    same_least (in_each rs (found n)) (words_asked n (live_terms s)) (word_at words n) (f.words n) least

-- where all are plain, and each of them a membership, the words are the shortest, and the least of these
pub plain_shortest : (rs : List Regex) (s : State) (cs : List (ℕ × Sort)) (found : ℕ → List ℕ)
    (words : List (List ℕ)) (truths : List Bool) → IsSofar rs (live s) found → list_all is_member (live s) ≡ true
    → is_plain s ≡ true → ((n : ℕ) → IsShortestLeast (in_each rs (found n)) (word_at words n))
    → AreShortestLeast (live_terms s) (values_at cs words truths)
plain_shortest rs s cs found words truths f members plain least =
    all_shortest (live_terms s) words truths cs
    (λ n. same_least (words_asked n (live_terms s)) (words_for n (live_terms s)) (word_at words n)
    (λ w _. ap (λ (ts : List Term). all_hold ts ((n, Text w) ∷ [])) (about_is n (live s) members plain))
    (asked_least rs s found words n f (least n)))

-- where an empty word fits, each value that fits is a word
text_value : (sort : Sort) (value : Value) → is_of sort (Text []) ≡ true → is_of sort value ≡ true
    → (w : List ℕ) × (value ≡ Text w) × IsWord w
text_value text (Text w) h k = (w, refl, k)
text_value text (Int n) h k = absurd (false≢true k)
text_value text (Truth b) h k = absurd (false≢true k)
text_value boolean value h k = absurd (false≢true h)
text_value integer value h k = absurd (false≢true h)
text_value reglan value h k = absurd (false≢true h)

-- the value of a constant of sort String is a word
text_at : (cs : List Constant) (ds : List (ℕ × Sort)) (v : Valuation) (n : ℕ)
    → fits cs (values_at ds [] []) ≡ true → fits cs v ≡ true → is_one_of ds n text ≡ true
    → (w : List ℕ) × (value_in v n text ≡ Text w) × IsWord w
text_at cs [] v n h f one = absurd (false≢true one)
text_at [] (d ∷ ds) v n h f one = absurd (false≢true h)
text_at (c ∷ cs) (d ∷ ds) [] n h f one = absurd (false≢true f)
text_at (c ∷ cs) (d ∷ ds) (p ∷ v) n h f one =
    by_test (p.0 == n) (ap (λ m. if m == n then is_same_sort d.1 text else is_one_of ds n text) same ∙ one)
    (text_at cs ds v n empty.1 given.1)
  where
    empty : (((c.serial == d.0) && is_of c.sort (value_at [] [] d.0 d.1)) ≡ true)
        × (fits cs (values_at ds [] []) ≡ true)
    empty = and_parts ((c.serial == d.0) && is_of c.sort (value_at [] [] d.0 d.1)) (fits cs (values_at ds [] [])) h

    given : (((c.serial == p.0) && is_of c.sort p.1) ≡ true) × (fits cs v ≡ true)
    given = and_parts ((c.serial == p.0) && is_of c.sort p.1) (fits cs v) f

    first : ((c.serial == d.0) ≡ true) × (is_of c.sort (value_at [] [] d.0 d.1) ≡ true)
    first = and_parts (c.serial == d.0) (is_of c.sort (value_at [] [] d.0 d.1)) empty.0

    second : ((c.serial == p.0) ≡ true) × (is_of c.sort p.1 ≡ true)
    second = and_parts (c.serial == p.0) (is_of c.sort p.1) given.0

    same : p.0 ≡ d.0
    same = sym (eqb-true c.serial p.0 second.0) ∙ eqb-true c.serial d.0 first.0

    by_test : (b : Bool) → (if b then is_same_sort d.1 text else is_one_of ds n text) ≡ true
        → (is_one_of ds n text ≡ true → (w : List ℕ) × (value_in v n text ≡ Text w) × IsWord w)
        → (w : List ℕ) × ((if b then p.1 else value_in v n text) ≡ Text w) × IsWord w
    by_test true kind later =
        text_value c.sort p.1
        (ap (λ (k : Sort). is_of c.sort (value_at [] [] d.0 k)) (sym (same_sort d.1 text kind)) ∙ first.1) second.1
    by_test false one later = later one

-- those that ask something of the constant are true where all are
asked_hold : (n : ℕ) (ts : List Term) (v : Valuation) → all_hold ts v ≡ true → all_hold (asking n ts) v ≡ true
asked_hold n [] v h = refl
asked_hold n (t ∷ ts) v h = by (asks_of n t) (asked_hold n ts v (and_parts (holds t v) (all_hold ts v) h).1)
  where
    by : (b : Bool) → all_hold (asking n ts) v ≡ true
        → all_hold (if b then t ∷ asking n ts else asking n ts) v ≡ true
    by true e = and_from (holds t v) (all_hold (asking n ts) v) (and_parts (holds t v) (all_hold ts v) h).0 e
    by false e = e

-- values that make assumptions true with what is asserted are values of a check without them
behind_hold : (ts us : List Term) (v : Valuation) → all_hold (ts ++ us) v ≡ true → all_hold us v ≡ true
behind_hold [] us v h = h
behind_hold (t ∷ ts) us v h = behind_hold ts us v (and_parts (holds t v) (all_hold (ts ++ us) v) h).1

unassumed : (s : State) (given : List Assumption) → Satisfiable s given → Satisfiable s []
unassumed s given model =
    let v = model.0 in
    let parts = and_parts (fits (constants_of s) v) (all_hold (map assumed given ++ live_terms s) v) model.1 in (
      v,
      and_from (fits (constants_of s) v) (all_hold (live_terms s) v) parts.0
          (behind_hold (map assumed given) (live_terms s) v parts.1),
    )

pub unsat_given : FragmentIsOfEach → (rs : List Regex) (s : State) (cs : List (ℕ × Sort)) (found : ℕ → List ℕ) (n : ℕ)
    → IsSofar rs (live s) found → list_all is_decided (live s) ≡ true
    → list_all (speaks_of cs) (live_terms s) ≡ true → fits (constants_of s) (values_at cs [] []) ≡ true
    → HasNoWord (in_each rs (found n)) → (given : List Assumption) → IsVerdict s given (is_unsat [])
unsat_given law rs s cs found n f decided named fit e given =
    (law s ∙ decided, (λ model. refuted (unassumed s given model)), record { some = refl; contradicted = refuted })
  where
    known : is_one_of cs n text ≡ true
    known = asked_speaks cs n (live_terms s) [] named (f.words n [] refl ∙ e [] refl)

    refuted : Satisfiable s [] → ⊥
    refuted model =
        let parts = and_parts (fits (constants_of s) model.0) (all_hold (live_terms s) model.0) model.1 in
        let value = text_at (constants_of s) cs model.0 n fit parts.0 known in
        false≢true (sym (e value.0 value.2) ∙ (sym (f.words n value.0 value.2)
        ∙ (sym (f.apart model.0 n value.0 value.1) ∙ asked_hold n (live_terms s) model.0 parts.1)))

-- A constant that occurs in no assertion has the empty word.

asking_none : (n : ℕ) (ts : List Term) → list_any (occurs n) ts ≡ false → asking n ts ≡ []
asking_none n [] h = refl
asking_none n (t ∷ ts) h = let parts = or_parts (occurs n t) (list_any (occurs n) ts) h in
    rw (occurs_not n t parts.0) (asking_none n ts parts.1)

pub words_all : (n : ℕ) (ts : List Term) → list_any (occurs n) ts ≡ false → (w : List ℕ) → words_asked n ts w ≡ true
words_all n ts h w = ap (λ (us : List Term). all_hold us ((n, Text w) ∷ [])) (asking_none n ts h)

pub empty_least : (language : Language) (w : List ℕ) → ((v : List ℕ) → language v ≡ true) → IsShortestLeast language w
    → w ≡ []
empty_least language [] all l = refl
empty_least language (c ∷ w) all l = let h : length (c ∷ w) ≤ 0 = l.shortest [] refl (all []) in absurd (omega arith)
