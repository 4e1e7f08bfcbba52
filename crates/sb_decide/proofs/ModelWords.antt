-- The words of a model: what is asked of each constant's word is true, and what is known of them then.
use Rattle.sb_decide.proofs.Words.{◌≡◌, ℕ, zero, suc, ◌<◌, Bool, true, false, List, [], ◌∷◌, length, get_or, slice_get, map, inl, inr, Option, Some, refl, sym, ap, subst, ◌∙◌, arith, not, ◌||◌, All, AreKept, ArePut, Assertion, Conjoined, Decider, Found, Global, HasNumberBelow, IsClosed, IsLeastOf, IsReady, IsShortestLeast, IsSpoken, IsTakenOver, IsTakingOver, Knows, Member, NormalHasTermsWords, OthersSettled, Regex, Serial, Stacked, Term, Terms, Vec, a_mark, all_below, and_parts, apply, asks_of, asserted, assertion_in, conjoined_at, constant, eqb-true, false_from_ne_true, false≢true, has_serials_below, have_serials_below, holds, ids_in, is_listed, list_all, live, live_constants, live_laid, live_terms, ltb-true, no_terms, none-some, occurs, occurs_in_some, or_cases, same_Some, speaks_of, state_of, terms_in, text, value_there, values_at, with_items, with_items_is, with_term, without_words, word_at, words_asked, words_in, Mode}
use Rattle.sb_stack.specs.Steps.{found as found_in}
use Rattle.sb_term.specs.declared.assertion.Assertion as code
use Rattle.sb_stack.specs.declared.stack.Mode.TheVariants as mode
use Rattle.sb_stack.specs.declared.verdict.Verdict.TheVariants as verdict
use Rattle.sb_decide.proofs.AskingTerms.{asks_in, asking_all}
use Rattle.sb_decide.proofs.Constants.{listed_all, listed_at}
use Rattle.sb_decide.proofs.DemandFacts.{demanded_speaks}
use Rattle.sb_decide.proofs.Knowledge.{below_in}
use Rattle.sb_decide.proofs.PlaceFacts.{same_term}
use Rattle.sb_decide.proofs.TakingOver.{all_sofar, least_over, members_live, plain_alone, plain_silent}
use Rattle.sb_decide.proofs.Verdicts.{asked_least, empty_least, plain_shortest, words_all}

-- What is asked at a place is true.

-- a term that stands at a place passes what all pass
stands_passes : (test : Term → Bool) (list : List Assertion) (place : ℕ) (t : Term)
    → list_all test (terms_in list) ≡ true → slice_get list place ≡ Some (asserted t) → test t ≡ true
stands_passes test [] place t h there = absurd (none-some (asserted t) there)
stands_passes test (a_mark ∷ list) zero t h there = absurd (Prim.cc (there))
stands_passes test (a_mark ∷ list) (suc place) t h there = stands_passes test list place t h there
stands_passes test (asserted u ∷ list) zero t h there =
    ap test (same_term t u (sym there)) ∙ (and_parts (test u) (list_all test (terms_in list)) h).0
stands_passes test (asserted u ∷ list) (suc place) t h there =
    stands_passes test list place t (and_parts (test u) (list_all test (terms_in list)) h).1 there

demands_hold : NormalHasTermsWords → (kept : Decider) (stack : Stacked) (words : List (List ℕ)) (truths : List Bool)
    (serial place : ℕ) (t : Term) → IsReady kept stack
    → IsShortestLeast (words_in kept.store.arena kept.members.items serial) (word_at words serial)
    → slice_get (live (state_of stack)) place ≡ Some (asserted t) → asks_of serial t ≡ true
    → holds t (values_at (live_constants stack) words truths) ≡ true
demands_hold law kept stack words truths serial place t r least there asks =
    let cs = live_constants stack in
    let v = values_at cs words truths in
    let one = asks_in serial t asks in
    let named = stands_passes (speaks_of cs) (live (state_of stack)) place t r.named there in
    let sofar = all_sofar law kept stack r.knows r.all in
    ap (λ b. not b || holds t v) (sym asks)
    ∙ stands_passes (λ u. not (asks_of serial u) || holds u v) (live (state_of stack)) place t
    (sym (asking_all serial (live_terms (state_of stack)) v)
    ∙ (sofar.apart v serial (word_at words serial)
    (value_there cs words truths serial text (demanded_speaks cs t serial one.expression one.asks named))
    ∙ (asked_least kept.store.arena (state_of stack) (ids_in kept.members.items) words serial sofar
    least).member)) there

-- The words that are handed out.

-- a constant of which something does not hold that holds of each in a list is none of these
none_listed : (P : ℕ → Type 0) (xs : List Serial) (n : ℕ) → All (λ serial. P serial.0) xs → (P n → ⊥)
    → is_listed xs n ≡ false
none_listed P xs n all none = false_from_ne_true (is_listed xs n) (λ e. none (listed_all P xs n all e))

pub closed_of : NormalHasTermsWords → (kept : Decider) (stack : Stacked) (mid new : List Conjoined)
    (words full : List (List ℕ)) (found : List (Option (List ℕ))) → IsReady kept stack →
    IsTakingOver kept.store.arena kept.members.items kept.left.items kept.constants.items mid words [] →
    ArePut mid new words full kept.spoken.keys found → IsClosed kept stack found full
closed_of law kept stack mid new words full found r over put = record {
  characters = put.characters over.kept.characters;
  long = put.long ∙ (over.long ∙ r.all.1);
  given = λ serial spoken. (put.given serial (r.spoken.each serial spoken)).0;
  least = least;
  demands = λ serial place t truths silent there asks.
      demands_hold law kept stack full truths serial place t r (least serial silent) there asks;
  defaults = λ serial silent nowhere.
      empty_least (words_asked serial (live_terms (state_of stack))) (word_at full serial)
      (words_all serial (live_terms (state_of stack)) nowhere)
      (asked_least kept.store.arena (state_of stack) (ids_in kept.members.items) full serial
      (all_sofar law kept stack r.knows r.all) (least serial silent));
  plain = λ plain truths. plain_shortest kept.store.arena (state_of stack) (live_constants stack)
      (ids_in kept.members.items) full truths (all_sofar law kept stack r.knows r.all)
      (members_live kept stack r.knows r.all (plain_alone kept stack r.knows plain)) plain
      (λ n. least n (plain_silent kept stack n r.knows plain));
}
  where
    least : (serial : ℕ) → (IsSpoken kept.others.items stack serial → ⊥)
        → IsShortestLeast (words_in kept.store.arena kept.members.items serial) (word_at full serial)
    least serial silent =
        subst (IsShortestLeast (words_in kept.store.arena kept.members.items serial))
        (sym (put.others serial (none_listed (IsSpoken kept.others.items stack) kept.spoken.keys serial
        (λ k d l. r.spoken.only (get_or kept.spoken.keys k d).0 (listed_at kept.spoken.keys k d l)) silent)).0)
        (least_over kept.store.arena kept.members.items kept.left.items kept.constants.items mid words over serial
        (none_listed (IsSpoken kept.others.items stack) kept.left.items serial r.left silent))

-- Constants that occur in assertions of other structure are declared.

mutual
  occurs_below : (count n : ℕ) (t : Term) → has_serials_below count t ≡ true → occurs n t ≡ true → n < count
  occurs_below count n (constant serial sort) h o =
      subst (λ m. m < count) (sym (eqb-true n serial o)) (ltb-true serial count h)
  occurs_below count n (apply s terms) h o = occurs_below_each count n terms h o
  occurs_below count n _ h o = absurd (false≢true o)

  occurs_below_each : (count n : ℕ) (ts : Terms) → have_serials_below count ts ≡ true
      → occurs_in_some n ts ≡ true → n < count
  occurs_below_each count n no_terms h o = absurd (false≢true o)
  occurs_below_each count n (with_term t ts) h o =
      let below = and_parts (has_serials_below count t) (have_serials_below count ts) h in
      elim (or_cases (occurs n t) (occurs_in_some n ts) o) [
        | inl here ↦ occurs_below count n t below.0 here
        | inr later ↦ occurs_below_each count n ts below.1 later
      ]

live_below : (count : ℕ) (ts : List Term) (xs : List code.Assertion) (place : ℕ) (t : Term)
    → all_below count ts ≡ true → All (HasNumberBelow (length ts)) xs
    → slice_get (map (assertion_in ts) xs) place ≡ Some (asserted t) → has_serials_below count t ≡ true
live_below count ts [] place t h numbers there = absurd (Prim.cc (there))
live_below count ts (x ∷ xs) zero t h numbers there =
    below_in count ts (assertion_in ts x) x.term h (numbers 0 x (omega arith)) refl t
    (same_Some (assertion_in ts x) (asserted t) there)
live_below count ts (x ∷ xs) (suc place) t h numbers there =
    live_below count ts xs place t h (λ k d l. numbers (suc k) d (omega (arith, l))) there

pub spoken_within : (kept : Decider) (stack : Stacked) → IsReady kept stack
    → all_below (length stack.scope.sorts) stack.table ≡ true
    → All (HasNumberBelow (length stack.table)) stack.assertions
    → All (λ serial. serial.0 < length kept.constants.items) kept.spoken.keys
spoken_within kept stack r below numbers k d l =
    let s = r.spoken.only (get_or kept.spoken.keys k d).0 (listed_at kept.spoken.keys k d l) in
    let at = ap (λ list. slice_get list s.place) (sym (live_laid stack)) ∙ s.there in
    let low = occurs_below (length stack.scope.sorts) (get_or kept.spoken.keys k d).0 s.term
    (live_below (length stack.scope.sorts) stack.table stack.assertions s.place s.term below numbers at) s.occurring in
    omega (arith, low, r.all.1)

-- What is known then.

kept_put : (rs : List Regex) (ms : List (Option Member)) (mid new : List Conjoined) (words full : List (List ℕ))
    (serials : List Serial) (found : List (Option (List ℕ))) → ArePut mid new words full serials found
    → AreKept rs ms mid words → AreKept rs ms new full
kept_put rs ms mid new words full serials found put kept = record {
  characters = put.characters kept.characters;
  few = omega (arith, kept.few, put.long, put.same_length);
  least = λ n k h. by n k h (is_listed serials n) refl;
}
  where
    by : (n k : ℕ) → (conjoined_at new n).known ≡ Some k → (b : Bool) → is_listed serials n ≡ b
        → IsLeastOf rs (ids_in ms n) k (word_at full n)
    by n k h false e =
        let o = put.others n e in
        subst (IsLeastOf rs (ids_in ms n) k) (sym o.0)
        (kept.least n k (sym (ap (λ (c : Conjoined). c.known) o.1) ∙ h))
    by n k h true e = absurd (none-some k (sym (put.given n e).1 ∙ h))

pub knows_closed : (kept : Decider) (stack : Stacked) (cs : Vec Conjoined Global) (ss ls : Vec Serial Global)
    (fs : Vec Found Global) (mid : List Conjoined) (words full : List (List ℕ)) (serials : List Serial)
    (found : List (Option (List ℕ))) (truths : List Bool) (m : Mode) → IsReady kept stack →
    IsTakingOver kept.store.arena kept.members.items kept.left.items kept.constants.items mid words [] →
    ArePut mid cs.items words full serials found → OthersSettled ss.items cs.items →
    All (λ other. other.0 < length mid) ss.items → ls.items ≡ [] →
    Knows (record kept { constants = cs; changed = ss; left = ls; found = fs })
    (record stack { mode = m; words = full; truths = truths })
knows_closed kept stack cs ss ls fs mid words full serials found truths m r over put settled listed none =
    let t = r.knows.taken in
    let long : length cs.items ≡ length kept.constants.items = put.same_length ∙ over.same_length in
    record {
      inside = r.knows.inside;
      taken = record {
        store = t.store;
        members = t.members;
        rooted = t.rooted;
        counted = record {
          within = rw long t.counted.within;
          places = λ n. put.places n ∙ over.places n;
          apart = t.counted.apart;
          settled = λ n _ h. settled n h;
          left_listed = λ k d l. absurd (omega (arith, l, ap length none));
          listed = rw put.same_length listed;
        };
        dead = t.dead;
        heard = t.heard;
      };
      words = kept_put kept.store.arena kept.members.items mid cs.items words full serials found put over.kept;
      declared = omega (arith, r.knows.declared, long);
    }

-- Vectors that were written over.

pub put_over : (cs : Vec Conjoined Global) (ws : Vec (List ℕ) Global) (before new : List Conjoined)
    (words full : List (List ℕ)) (listed serials : List Serial) (found : List (Option (List ℕ))) → before ≡ cs.items
    → words ≡ ws.items → listed ≡ serials → ArePut before new words full listed found
    → ArePut cs.items (with_items cs new).items ws.items (with_items ws full).items serials found
put_over cs ws before new words full listed serials found same_constants same_words same put =
    let p : ArePut cs.items new ws.items full serials found = rw (same_constants, same_words, same) at put in
    subst (λ us. ArePut cs.items us ws.items (with_items ws full).items serials found)
    (sym (with_items_is cs new (omega (arith, p.same_length, cs.ok.0))))
    (subst (λ vs. ArePut cs.items new ws.items vs serials found)
    (sym (with_items_is ws full (omega (arith, p.long, ws.ok.0)))) p)

pub settled_over : (cs : Vec Conjoined Global) (before new : List Conjoined) (changed : List Serial)
    → before ≡ cs.items → length new ≡ length before → OthersSettled changed new
    → OthersSettled changed (with_items cs new).items
settled_over cs before new changed same long settled =
    subst (OthersSettled changed)
    (sym (with_items_is cs new (omega (arith, long, ap length same, cs.ok.0)))) settled

pub knows_through : (kept self : Decider) (stack now : Stacked) (ss : Vec Serial Global)
    (ws : Vec (List ℕ) Global) (new : List Conjoined) (full : List (List ℕ)) (serials : List Serial)
    (found : List (Option (List ℕ))) (truths : Vec Bool Global)
    → IsReady kept stack → IsTakenOver kept self ws.items → now ≡ without_words stack →
    ArePut self.constants.items (with_items self.constants new).items ws.items (with_items ws full).items serials
    found →
    OthersSettled ss.items (with_items self.constants new).items →
    All (λ other. other.0 < length self.constants.items) ss.items →
    Knows (record self { constants = with_items self.constants new; changed = ss })
    (found_in (verdict.Sat (with_items ws full) truths) now)
knows_through kept self stack now ss ws new full serials found truths r o taken put settled listed =
    subst
    (λ (s : Stacked). Knows (record self { constants = with_items self.constants new; changed = ss })
    (found_in (verdict.Sat (with_items ws full) truths) s))
    (sym taken)
    (subst
    (λ (d : Decider). Knows (record d { constants = with_items self.constants new; changed = ss })
    (found_in (verdict.Sat (with_items ws full) truths) (without_words stack)))
    (sym o.same)
    (knows_closed kept stack (with_items self.constants new) ss self.left self.found self.constants.items ws.items
    (with_items ws full).items serials found truths.items mode.Sat r o.over put settled listed o.nothing))
