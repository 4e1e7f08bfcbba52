-- The parts of a walk, put together.
use Rattle.std.proofs.Common.{◌≡◌, ℕ, zero, suc, ◌*◌, ◌<◌, ◌≤◌, Bool, true, false, ltb, List, [], ◌∷◌, ◌++◌, length, get_or, map, refl, sym, ap, subst, ◌∙◌, arith}
use Rattle.std.proofs.Math.ListN.{get_or-map}
use Rattle.std.proofs.lemmas.Bool.Decides.{nat_tests}
use Rattle.std.proofs.lemmas.List.{length-map}
use Rattle.std.proofs.lemmas.Grind.{get_or_default_zero}
use Rattle.sb_word.specs.Words.{IsWord}
use Rattle.sb_lang.specs.Regex.{Regex}
use Rattle.sb_lang.specs.Derivative.{nullable}
use Rattle.sb_lang.specs.Language.{language}
use Rattle.sb_lang.specs.Languages.{Language}
use Rattle.sb_regex.specs.Numbered.{regex_at, Extends}
use Rattle.std.proofs.lemmas.List.Elements.{All-weaker}
use Rattle.sb_regex.proofs.CallerLemmas.{at_kept, number_kept}
use Rattle.sb_graph.specs.declared.members.Outcome.{Outcome}
use Rattle.sb_graph.specs.declared.members.Outcome.TheVariants.{Found, Empty, Bounded}
use Rattle.sb_graph.specs.Queue.{Entry, regex_of, word_at, LeadsBy, rank_at, AreTested, IsFirstNullable}
use Rattle.sb_graph.specs.Walks.{first_language, AreWithout, IsSearched, IsTurned, IsUnderWay, IsFound, IsWhole}
use Rattle.sb_graph.specs.Members.{IsOutcome, IsState, AreMany, MeetsBound}
use Rattle.sb_graph.proofs.Ranks.{rank_empty}
use Rattle.sb_graph.proofs.WalkCarrying.{nullable_kept}

number_at_place : (es : List Entry) (k : ℕ) → get_or (map (λ e. e.0) es) k 0 ≡ regex_of es k
number_at_place es k = get_or-map (λ e. e.0) es k (0, (0, 0))

-- The start of a walk.

one_place : (k : ℕ) → k < 1 → k ≡ 0
one_place k h = omega (arith, h)

start : (rs : List Regex) (root : ℕ) → root < length rs
    → IsSearched rs (language (regex_at rs root)) ((root, (0, 0)) ∷ []) 0
start rs root l = record {
  words = [] ∷ [];
  reached = record {
    back = λ k p h. absurd (omega (arith, p, h));
    words_are = record { long = refl; first = refl; next = λ k p h. absurd (omega (arith, p, h)) };
    some = omega arith;
    starts = λ u h. h;
    characters = λ k h. subst (λ k. IsWord (word_at ([] ∷ []) k)) (sym (one_place k h)) refl;
    known = λ k h. subst (λ k. regex_of ((root, (0, 0)) ∷ []) k < length rs) (sym (one_place k h)) l;
    rests = λ k h. subst (λ k. (u : List ℕ) → language (regex_at rs (regex_of ((root, (0, 0)) ∷ []) k)) u ≡ true
        → language (regex_at rs root) (word_at ([] ∷ []) k ++ u) ≡ true) (sym (one_place k h)) (λ u m. m);
    once = λ j k h m. absurd (omega (arith, h, m));
    ascending = λ j k h m. absurd (omega (arith, h, m));
    apart = λ k p h. absurd (omega (arith, p, h));
  };
  below = λ k h m. absurd (omega (arith, h));
  near = λ h j m. subst (λ j. rank_at ([] ∷ []) j < rank_at ([] ∷ []) 0 * 0x30000) (sym (one_place j m))
      (omega (arith, rank_empty));
}

pub started : (rs : List Regex) (es : List Entry) (root : ℕ) → es ≡ (root, (0, 0)) ∷ [] → root < length rs
    → IsSearched rs (first_language rs es) es 0
started rs es root e l = subst (λ es. IsSearched rs (first_language rs es) es 0) (sym e) (start rs root l)

-- A walk that goes on.

-- the places up to the end of the queue are tested
all_tested : (rs : List Regex) (es : List Entry) (ns : List ℕ) (tested upto : ℕ) → ns ≡ map (λ e. e.0) es
    → AreWithout rs es tested → AreTested rs ns tested upto → AreWithout rs es upto
all_tested rs es ns tested upto is empty h k l = by (ltb k tested) refl
  where
    by : (t : Bool) → ltb k tested ≡ t → nullable (regex_at rs (regex_of es k)) ≡ false
    by true t = empty k (grind (arith, nat_tests, t))
    by false t =
        ap (λ n. nullable (regex_at rs n)) (sym (ap (λ ns. get_or ns k 0) is ∙ number_at_place es k))
        ∙ h k (grind (arith, nat_tests, t)) l

pub under_way_start : (rs : List Regex) (L : Language) (es : List Entry) → IsSearched rs L es 0
    → IsUnderWay rs L es 0 0
under_way_start rs L es s = record {
  searched = s;
  ahead = omega arith;
  within = omega arith;
  empty_words = λ k h. absurd (omega (arith, h));
}

module _ (rs : List Regex) (L : Language) (es : List Entry) (place tested : ℕ)
    (u : IsUnderWay rs L es place tested) where
  pub under_way_known : (k : ℕ) → k < length es → regex_of es k < length rs
  under_way_known = u.searched.reached.known

  pub under_way_end : length es ≤ place → IsWhole rs L es
  under_way_end l =
      let e : place ≡ length es = omega (arith, l, u.ahead, u.within) in
      let t : tested ≡ length es = omega (arith, l, u.ahead, u.within) in
      record { searched = subst (IsSearched rs L es) e u.searched; without = subst (AreWithout rs es) t u.empty_words }

  pub under_way_many : (bound : ℕ) → bound ≤ length es → AreMany rs L bound
  under_way_many bound h = record {
    states = map (λ e. e.0) es;
    many = omega (arith, h, length-map es (λ e. e.0));
    once = λ i j d l m e.
        let n : j < length es = omega (arith, m, length-map es (λ e. e.0)) in
        u.searched.reached.once i j l n (sym (at i d (omega (arith, l, n))) ∙ e ∙ at j d n);
    each = λ k d l.
        let n : k < length es = omega (arith, l, length-map es (λ e. e.0)) in
        subst (IsState rs L) (sym (at k d n)) (record {
          known = u.searched.reached.known k n;
          word = word_at u.searched.words k;
          characters = u.searched.reached.characters k n;
          rests = u.searched.reached.rests k n;
        });
  }
    where
      at : (k d : ℕ) → k < length es → get_or (map (λ e. e.0) es) k d ≡ regex_of es k
      at k d l = get_or_default_zero (map (λ e. e.0) es) k d (omega (arith, l, length-map es (λ e. e.0)))
          ∙ number_at_place es k

  module _ (ns : List ℕ) (is : ns ≡ map (λ e. e.0) es) where
    long : length ns ≡ length es
    long = ap length is ∙ length-map es (λ e. e.0)

    pub numbers_known : (k : ℕ) → k < length ns → get_or ns k 0 < length rs
    numbers_known k h =
        subst (λ n. n < length rs) (sym (ap (λ ns. get_or ns k 0) is ∙ number_at_place es k))
        (u.searched.reached.known k (omega (arith, h, long)))

    pub under_way_found : (found : ℕ) → IsFirstNullable rs ns tested found → IsFound rs L es found
    under_way_found found f = record {
      done = place;
      searched = u.searched;
      after = omega (arith, u.ahead, f.after);
      within = omega (arith, f.within, long);
      before = all_tested rs es ns tested found is u.empty_words f.before;
      empty_word = ap (λ n. nullable (regex_at rs n)) (sym (ap (λ ns. get_or ns found 0) is ∙ number_at_place es found))
          ∙ f.empty_word;
    }

    pub under_way_next : (later : List Regex) (es' : List Entry) (end : ℕ) → Extends rs later
        → AreTested rs ns tested (length ns) → end ≤ length es → IsTurned later L es es' end
        → IsUnderWay later L es' end (length es)
    under_way_next later es' end more h within t = record {
      searched = t.searched;
      ahead = within;
      within = upto (length es) refl;
      empty_words = λ k l.
          ap (λ n. nullable (regex_at later n)) (t.stays k l).1
          ∙ nullable_kept rs later more (regex_of es k) (u.searched.reached.known k l)
          ∙ tests k l;
    }
      where
        tests : AreWithout rs es (length es)
        tests = all_tested rs es ns tested (length es) is u.empty_words (subst (AreTested rs ns tested) long h)

        upto : (n : ℕ) → n ≡ length es → length es ≤ length es'
        upto zero e = omega (arith, e)
        upto (suc n) e = let k = t.stays n (omega (arith, e)) in omega (arith, e, k.0)

-- The word of a place that is found.

pub found_leads : (rs : List Regex) (L : Language) (es : List Entry) (place : ℕ) → IsFound rs L es place
    → LeadsBy IsWord es place
found_leads rs L es place f = record {
  words = f.searched.words;
  are = f.searched.reached.words_are;
  is = f.searched.reached.characters place f.within;
}

-- More regexes leave the states what they are.
pub many_kept : (old new : List Regex) (L : Language) (bound : ℕ) → Extends old new → AreMany old L bound
    → AreMany new L bound
many_kept old new L bound more m = record {
  states = m.states;
  many = m.many;
  once = m.once;
  each = All-weaker (IsState old L) (IsState new L)
      (λ n s. record {
        known = number_kept old new n more s.known;
        word = s.word;
        characters = s.characters;
        rests = λ u h. s.rests u (ap (λ r. language r u) (sym (at_kept old new n more s.known)) ∙ h);
      })
      m.states m.each;
}

-- Answers for one language are answers for another one with the same words.

module _ (L M : Language) (same : (u : List ℕ) → L u ≡ M u) where
  pub outcome_same : (o : Outcome) → IsOutcome L o → IsOutcome M o
  outcome_same (Found w) f = record {
    word = f.word;
    member = sym (same _) ∙ f.member;
    shortest = λ v word m. f.shortest v word (same v ∙ m);
    least = λ v word m long. f.least v word (same v ∙ m) long;
  }
  outcome_same Empty f = λ w word. sym (same w) ∙ f w word
  outcome_same Bounded f = f

  pub bound_same : (rs : List Regex) (bound : ℕ) (o : Outcome) → MeetsBound rs L bound o → MeetsBound rs M bound o
  bound_same rs bound (Found w) f = f
  bound_same rs bound Empty f = f
  bound_same rs bound Bounded f = record {
    states = f.states;
    many = f.many;
    once = f.once;
    each = All-weaker (IsState rs L) (IsState rs M) (λ n s. record {
      known = s.known;
      word = s.word;
      characters = s.characters;
      rests = λ u h. sym (same (s.word ++ u)) ∙ s.rests u h;
    }) f.states f.each;
  }
