-- One more term that asks something of a constant's word.
use Rattle.sb_decide.proofs.Words.{◌≡◌, ℕ, ◌+◌, Bool, true, false, ◌&&◌, ◌==◌, if◌then◌else◌, List, [], ◌∷◌, length, map, take, refl, sym, ap, ap₂, subst, ◌∙◌, Option, Some, None, arith, AreMembers, Assertion, IsRegexOf, IsSofar, IsTakenAs, IsWord, Member, NormalHasTermsWords, RegLan, Regex, Term, Text, Valuation, all_hold, and_from, and_parts, asking, asks_of, asserted, assertion_in, demanded, eq-eqb, eqb-true, false≢true, fits, holds, ids_in, in_each, in_re, is_decided, is_demand, is_member, is_plain_assertion, is_regex, is_structure, language, list_all, meaning_of, means_reglan, names_at, normal, other_places, regex_at, terms_in, text, value_in, words_asked}
use Rattle.sb_term.specs.declared.assertion.Assertion as code
use Rattle.sb_decide.proofs.AskingTerms.{asks_same, asks_nothing, words_apart}
use Rattle.sb_decide.proofs.DemandFacts.{demanded_holds, demanded_kind, nothing_plain}

-- the value of the one constant that has one
alone_value : (n : ℕ) (w : List ℕ) → value_in ((n, Text w) ∷ []) n text ≡ Text w
alone_value n w = let same : (n == n) ≡ true = eq-eqb n n refl in rw same refl

-- a term that asks something of the constant is true where its word is in the regular expression that it demands
alone_holds : (n : ℕ) (t : Term) (serial : ℕ) (R : Term) (reglan : RegLan) (w : List ℕ)
    → demanded t ≡ Some (serial, R) → is_regex R ≡ true → meaning_of ((n, Text w) ∷ []) R ≡ means_reglan reglan
    → n ≡ serial → holds t ((n, Text w) ∷ []) ≡ in_re reglan w
alone_holds n t serial R reglan w asks kind means e =
    demanded_holds ((n, Text w) ∷ []) t serial R reglan w asks kind means
    (ap (λ m. value_in ((n, Text w) ∷ []) m text) (sym e) ∙ alone_value n w)

-- the regex of the regular expression has its words
member_language : NormalHasTermsWords → (rs : List Regex) (R : Term) (id : ℕ) (r : IsRegexOf rs R id) (w : List ℕ)
    → IsWord w → language (regex_at rs id) w ≡ in_re r.reglan w
member_language law rs R id r w c = ap (λ x. language x w) (names_at rs id (normal r.reglan) r.names) ∙ law r.reglan w c

first_decided : (done : List Assertion) (t : Term) (serial : ℕ) (R : Term) → demanded t ≡ Some (serial, R)
    → is_regex R ≡ true → is_decided (asserted t) ≡ true → list_all is_member done ≡ true
    → list_all is_member (asserted t ∷ done) ≡ true
first_decided done t serial R asks kind decided h =
    and_from (is_member (asserted t)) (list_all is_member done)
    (and_from (is_demand t) (fits t) (demanded_kind t serial R asks ∙ kind)
    (and_parts (is_structure t) (fits t) decided).1) h

-- the words of each constant with such a term in front
first_words : NormalHasTermsWords → (rs : List Regex) (ts : List Term) (t R : Term) (m : Member)
    (ms : List (Option Member)) → demanded t ≡ Some (m.serial.0, R) → IsRegexOf rs R m.regex
    → ((n : ℕ) (w : List ℕ) → IsWord w → words_asked n ts w ≡ in_each rs (ids_in ms n) w)
    → (n : ℕ) (w : List ℕ) → IsWord w
    → words_asked n (t ∷ ts) w ≡ in_each rs (ids_in (Some m ∷ ms) n) w
first_words law rs ts t R m ms asks r words n w c =
    ap (λ b. all_hold (if b then t ∷ asking n ts else asking n ts) ((n, Text w) ∷ [])) (asks_same n t m.serial.0 R asks)
    ∙ by_test (n == m.serial.0) refl
  where
    by_test : (b : Bool) → (n == m.serial.0) ≡ b
        → all_hold (if b then t ∷ asking n ts else asking n ts) ((n, Text w) ∷ [])
        ≡ in_each rs (if b then m.regex ∷ ids_in ms n else ids_in ms n) w
    by_test true h =
        ap₂ ◌&&◌ (alone_holds n t m.serial.0 R r.reglan w asks r.kind (r.means ((n, Text w) ∷ []))
        (eqb-true n m.serial.0 h) ∙ sym (member_language law rs R m.regex r w c)) (words n w c)
    by_test false h = words n w c

first_apart : (rs : List Regex) (ts : List Term) (t : Term) (serial : ℕ) (R : Term) (id : ℕ)
    → demanded t ≡ Some (serial, R) → IsRegexOf rs R id → (v : Valuation) (n : ℕ) (w : List ℕ)
    → value_in v n text ≡ Text w → all_hold (asking n ts) v ≡ words_asked n ts w
    → all_hold (asking n (t ∷ ts)) v ≡ words_asked n (t ∷ ts) w
first_apart rs ts t serial R id asks r v n w value rest = by_test (asks_of n t) refl
  where
    by_test : (b : Bool) → asks_of n t ≡ b → all_hold (if b then t ∷ asking n ts else asking n ts) v
        ≡ all_hold (if b then t ∷ asking n ts else asking n ts) ((n, Text w) ∷ [])
    by_test true h =
        let e : n ≡ serial = eqb-true n serial (sym (asks_same n t serial R asks) ∙ h) in
        ap₂ ◌&&◌ (demanded_holds v t serial R r.reglan w asks r.kind (r.means v)
        (ap (λ m. value_in v m text) (sym e) ∙ value)
        ∙ sym (alone_holds n t serial R r.reglan w asks r.kind (r.means ((n, Text w) ∷ [])) e)) rest
    by_test false h = rest

sofar_first : NormalHasTermsWords → (rs : List Regex) (done : List Assertion) (t R : Term) (m : Member)
    (ms : List (Option Member)) → demanded t ≡ Some (m.serial.0, R) → IsRegexOf rs R m.regex
    → IsSofar rs done (ids_in ms) → IsSofar rs (asserted t ∷ done) (ids_in (Some m ∷ ms))
sofar_first law rs done t R m ms asks r s = record {
  words = first_words law rs (terms_in done) t R m ms asks r s.words;
  apart = λ v n w value. first_apart rs (terms_in done) t m.serial.0 R m.regex asks r v n w value (s.apart v n w value);
}

-- with a term in front that asks nothing of one constant's word alone
sofar_other : (rs : List Regex) (done : List Assertion) (t : Term) (ms : List (Option Member)) → demanded t ≡ None
    → IsSofar rs done (ids_in ms) → IsSofar rs (asserted t ∷ done) (ids_in (None ∷ ms))
sofar_other rs done t ms none s = record {
  words = λ n w c. words_apart n t (terms_in done) w (asks_nothing n t none) ∙ s.words n w c;
  apart = λ v n w value.
      ap (λ b. all_hold (if b then t ∷ asking n (terms_in done) else asking n (terms_in done)) v)
      (asks_nothing n t none)
      ∙ (s.apart v n w value ∙ sym (words_apart n t (terms_in done) w (asks_nothing n t none)));
}

-- what is known of the assertions that were taken in
pub sofar_of : NormalHasTermsWords → (rs : List Regex) (ts : List Term) (ms : List (Option Member))
    (xs : List code.Assertion) → AreMembers rs ts ms xs →
    IsSofar rs (map (assertion_in ts) (take (length ms) xs)) (ids_in ms)
sofar_of law rs ts [] xs h = record { words = λ n w c. refl; apart = λ v n w value. refl }
sofar_of law rs ts (o ∷ ms) [] h = absurd h
sofar_of law rs ts (None ∷ ms) (x ∷ xs) h =
    subst (λ a. IsSofar rs (a ∷ map (assertion_in ts) (take (length ms) xs)) (ids_in (None ∷ ms))) (sym h.0.is)
    (sofar_other rs (map (assertion_in ts) (take (length ms) xs)) h.0.term ms h.0.asks (sofar_of law rs ts ms xs h.1))
sofar_of law rs ts (Some m ∷ ms) (x ∷ xs) h =
    subst (λ a. IsSofar rs (a ∷ map (assertion_in ts) (take (length ms) xs)) (ids_in (Some m ∷ ms))) (sym h.0.is)
    (sofar_first law rs (map (assertion_in ts) (take (length ms) xs)) h.0.term h.0.wanted m ms h.0.asks h.0.regex
    (sofar_of law rs ts ms xs h.1))

-- each of them is decided
one_decided : (rs : List Regex) (ts : List Term) (o : Option Member) (x : code.Assertion) → IsTakenAs rs ts o x
    → is_decided (assertion_in ts x) ≡ true
one_decided rs ts None x h = ap is_decided h.is ∙ h.decided
one_decided rs ts (Some m) x h = ap is_decided h.is ∙ h.decided

pub members_decided : (rs : List Regex) (ts : List Term) (ms : List (Option Member)) (xs : List code.Assertion)
    → AreMembers rs ts ms xs → list_all is_decided (map (assertion_in ts) (take (length ms) xs)) ≡ true
members_decided rs ts [] xs h = refl
members_decided rs ts (o ∷ ms) [] h = absurd h
members_decided rs ts (o ∷ ms) (x ∷ xs) h =
    and_from (is_decided (assertion_in ts x)) (list_all is_decided (map (assertion_in ts) (take (length ms) xs)))
    (one_decided rs ts o x h.0) (members_decided rs ts ms xs h.1)

-- and where there are no others, each asks something of one constant's word
pub members_alone : (rs : List Regex) (ts : List Term) (k : ℕ) (ms : List (Option Member)) (xs : List code.Assertion)
    → AreMembers rs ts ms xs → other_places k ms ≡ []
    → list_all is_member (map (assertion_in ts) (take (length ms) xs)) ≡ true
members_alone rs ts k [] xs h alone = refl
members_alone rs ts k (o ∷ ms) [] h alone = absurd h
members_alone rs ts k (None ∷ ms) (x ∷ xs) h alone = absurd (omega (arith, ap length alone))
members_alone rs ts k (Some m ∷ ms) (x ∷ xs) h alone =
    ap (λ a. list_all is_member (a ∷ map (assertion_in ts) (take (length ms) xs))) h.0.is
    ∙ first_decided (map (assertion_in ts) (take (length ms) xs)) h.0.term m.serial.0 h.0.wanted h.0.asks
    h.0.regex.kind h.0.decided (members_alone rs ts (k + 1) ms xs h.1 alone)

-- and where all are plain there are no others
pub none_other : (rs : List Regex) (ts : List Term) (k : ℕ) (ms : List (Option Member)) (xs : List code.Assertion)
    → AreMembers rs ts ms xs → list_all is_plain_assertion (map (assertion_in ts) xs) ≡ true → other_places k ms ≡ []
none_other rs ts k [] xs h plain = refl
none_other rs ts k (o ∷ ms) [] h plain = absurd h
none_other rs ts k (None ∷ ms) (x ∷ xs) h plain =
    absurd (false≢true (sym (ap is_plain_assertion h.0.is ∙ nothing_plain h.0.term h.0.asks)
    ∙ (and_parts (is_plain_assertion (assertion_in ts x)) _ plain).0))
none_other rs ts k (Some m ∷ ms) (x ∷ xs) h plain =
    none_other rs ts (k + 1) ms xs h.1 (and_parts (is_plain_assertion (assertion_in ts x)) _ plain).1
