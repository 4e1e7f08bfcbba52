-- How the pieces of a state are tried, and one length after the other.
use Rattle.std.proofs.Common.{◌≡◌, ℕ, suc, ◌+◌, ◌-◌, ◌<◌, ◌≤◌, Bool, true, false, ◌&&◌, inl, inr, nat_eq, nat_lt, cond, List, [], ◌∷◌, ◌++◌, length, get_or, slice_get, Some, None, Option, IsSome, take, refl, sym, ap, ap₂, subst, ◌∙◌, arith, add-one}
use Rattle.std.specs.List.{list_any}
use Rattle.std.proofs.lemmas.Bool.{and_parts, or_cases, false≢true}
use Rattle.std.proofs.lemmas.Bool.Decides.{nat_tests}
use Rattle.std.proofs.lemmas.List.Elements.{All-push, All-nil}
use Rattle.std.proofs.Math.Seq.{take-append_seam}
use Rattle.sb_word.specs.Words.{IsWord}
use Rattle.sb_lang.specs.Regex.{Regex}
use Rattle.sb_lang.specs.DerivativeLaws.{DerivativeHasRests}
use Rattle.sb_lang.specs.Language.{language}
use Rattle.sb_lang.specs.Least.{IsShortestLeast}
use Rattle.sb_regex.specs.Numbered.{regex_at, Extends}
use Rattle.sb_regex.proofs.CallerLemmas.{at_kept, number_kept, extends_same, extends_more}
use Rattle.sb_deriv.specs.Faithful.{Memo, entry_of, IsDerivative, IsFaithful, KeepsEntries}
use Rattle.sb_graph.specs.Lengths.{HasNoneOfLength, HasNoneBelow, HasLeast, AreFailed, IsExpanding, IsSearching}
use Rattle.sb_graph.proofs.Passing.{none_next, least_here, none_at_end, none_at_begin, target_known}

-- What failed.

pub failed_kept : (old new : List Regex) (pairs : List (ℕ × ℕ)) → Extends old new → AreFailed old pairs
    → AreFailed new pairs
failed_kept old new pairs more failed k d l =
    let p = failed k d l in
    let pair = get_or pairs k d in (
      number_kept old new pair.0 more p.0,
      λ w word long. ap (λ r. language r w) (at_kept old new pair.0 more p.0) ∙ p.1 w word long,
    )

abbrev pub is_pair : ℕ × ℕ → ℕ × ℕ → Bool
is_pair p q = nat_eq p.0 q.0 && nat_eq p.1 q.1

pub failed_has : (rs : List Regex) (pairs : List (ℕ × ℕ)) (state n : ℕ) → AreFailed rs pairs
    → list_any (is_pair (state, n)) pairs ≡ true → HasNoneOfLength (language (regex_at rs state)) n
failed_has rs [] state n failed found = absurd (false≢true found)
failed_has rs (p ∷ ps) state n failed found = elim (or_cases (is_pair (state, n) p) _ found) [
  | inl here ↦
      let q = and_parts (nat_eq state p.0) (nat_eq n p.1) here in
      let first : state ≡ p.0 = grind (arith, nat_tests, q.0) in
      let second : n ≡ p.1 = grind (arith, nat_tests, q.1) in
      λ w word long.
      ap (λ s. language (regex_at rs s) w) first ∙ (failed 0 p (omega arith)).1 w word (long ∙ second)
  | inr later ↦ failed_has rs ps state n (λ k d l. failed (suc k) d (omega (arith, l))) later
]

pub failed_more : (rs : List Regex) (pairs new : List (ℕ × ℕ)) (state n : ℕ) (there : Bool) → AreFailed rs pairs
    → state < length rs → HasNoneOfLength (language (regex_at rs state)) n
    → new ≡ cond there pairs (pairs ++ (state, n) ∷ []) → AreFailed rs new
failed_more rs pairs new state n true failed known none is = rw is failed
failed_more rs pairs new state n false failed known none is =
    rw is (All-push (λ p. (p.0 < length rs) × HasNoneOfLength (language (regex_at rs p.0)) p.1) pairs (state, n) failed
    (known, none))

-- What is known without a derivative.

-- The pieces of a state.

module _ (rests : DerivativeHasRests) (first now : List Regex) (begun memo : Memo) (pairs : List (ℕ × ℕ))
    (state n count place : ℕ) (old codes : List ℕ) (known : state < length first) (some : 0 < n) where
  derived : (x : IsExpanding first now begun memo pairs state n count place old codes)
      → IsDerivative now (regex_at first state) x.passed.pieces
  derived x =
      let k = x.faithful state x.passed.pieces x.passed.known in
      subst (λ r. IsDerivative now r x.passed.pieces) (at_kept first now state x.extends known) k.derivative

  module _ (x : IsExpanding first now begun memo pairs state n count place old codes) (character target : ℕ)
      (there : slice_get x.passed.pieces place ≡ Some (character, target)) where
    pub expanding_next : (after : List Regex) (memo-after : Memo) (pairs-after : List (ℕ × ℕ)) (codes-after : List ℕ)
        → Extends now after → IsFaithful after memo-after → KeepsEntries memo memo-after → AreFailed after pairs-after
        → HasNoneOfLength (language (regex_at now target)) (n - 1) → codes-after ≡ old
        → IsExpanding first after begun memo-after pairs-after state n count (place + 1) old codes-after
    expanding_next after memo-after pairs-after codes-after more faithful kept failed none same = record {
      extends = extends_more first now after x.extends more;
      faithful = faithful;
      kept = λ m ps e. kept m ps (x.kept m ps e);
      failed = failed;
      passed = record {
        pieces = x.passed.pieces;
        known = kept state x.passed.pieces x.passed.known;
        long = x.passed.long;
        none = subst (λ k. HasNoneBelow (language (regex_at first state)) n x.passed.pieces k) (sym (add-one place))
            (none_next rests now (regex_at first state) x.passed.pieces (derived x) place character target there n
            x.passed.none none);
      };
      same = same;
    }

    pub expanding_found : (between new : List ℕ) → between ≡ codes ++ character ∷ []
        → HasLeast (language (regex_at now target)) (n - 1) between new
        → HasLeast (language (regex_at first state)) n old new
    expanding_found between new pushed least =
        least_here rests now (regex_at first state) x.passed.pieces (derived x) place character target there n old
        between new some x.passed.none (pushed ∙ ap (λ w. w ++ character ∷ []) x.same) least

    pub target_below : target < length now
    target_below = target_known x.passed.pieces (length now) place character target (derived x).targets there

  pub expanding_done : (x : IsExpanding first now begun memo pairs state n count place old codes) → count ≤ place
      → HasNoneOfLength (language (regex_at first state)) n
  expanding_done x all =
      none_at_end (language (regex_at first state)) n x.passed.pieces place some (omega (arith, all, x.passed.long))
      x.passed.none

-- a word that was put behind is cut off again
pub cut_back : (old codes pushed after cut : List ℕ) (depth character : ℕ) → depth ≡ length old → codes ≡ old
    → pushed ≡ codes ++ character ∷ [] → after ≡ pushed → cut ≡ take depth after → cut ≡ old
cut_back old codes pushed after cut depth character long same push still is =
    is ∙ ap₂ take long (still ∙ push ∙ ap (λ w. w ++ character ∷ []) same) ∙ take-append_seam old (character ∷ [])

some_entry : {X : Type 0} (o : Option X) → IsSome o → (x : X) × (o ≡ Some x)
some_entry (Some x) h = (x, refl)
some_entry None h = absurd (false≢true h)

pub expanding_begun : (first now : List Regex) (begun memo : Memo) (pairs : List (ℕ × ℕ)) (state n count : ℕ)
    (old : List ℕ) → Extends first now → IsFaithful now memo → KeepsEntries begun memo → AreFailed first pairs
    → IsSome (entry_of memo state)
    → ((pieces : List (ℕ × ℕ)) → entry_of memo state ≡ Some pieces → count ≡ length pieces)
    → IsExpanding first now begun memo pairs state n count 0 old old
expanding_begun first now begun memo pairs state n count old more faithful kept failed there long =
    let e = some_entry (entry_of memo state) there in record {
      extends = more;
      faithful = faithful;
      kept = kept;
      failed = failed_kept first now pairs more failed;
      passed = record {
        pieces = e.0;
        known = e.1;
        long = long e.0 e.1;
        none = none_at_begin (language (regex_at first state)) n e.0
            (faithful state e.0 e.1).derivative.ordered.whole;
      };
      same = refl;
    }

-- One length after the other.

pub search_begun : (first : List Regex) (memo : Memo) (pairs : List (ℕ × ℕ)) (root : ℕ) (codes : List ℕ)
    → IsFaithful first memo → pairs ≡ [] → codes ≡ [] → IsSearching first first memo memo pairs root 0 codes
search_begun first memo pairs root codes faithful no_pairs empty = record {
  extends = extends_same first;
  faithful = faithful;
  kept = λ m ps e. e;
  failed = rw no_pairs (All-nil (λ p. (p.0 < length first) × HasNoneOfLength (language (regex_at first p.0)) p.1));
  none = λ m l. absurd (omega (arith, l));
  empty = empty;
}

module _ (first now : List Regex) (begun memo : Memo) (pairs : List (ℕ × ℕ)) (root n : ℕ) (codes : List ℕ)
    (known : root < length first) (x : IsSearching first now begun memo pairs root n codes) where
  at_root : (w : List ℕ) → language (regex_at now root) w ≡ language (regex_at first root) w
  at_root w = ap (λ r. language r w) (at_kept first now root x.extends known)

  pub search_next : (after : List Regex) (memo-after : Memo) (pairs-after : List (ℕ × ℕ)) (codes-after : List ℕ)
      → Extends now after → IsFaithful after memo-after → KeepsEntries memo memo-after → AreFailed after pairs-after
      → HasNoneOfLength (language (regex_at now root)) n → codes-after ≡ codes
      → IsSearching first after begun memo-after pairs-after root (n + 1) codes-after
  search_next after memo-after pairs-after codes-after more faithful kept failed none same = record {
    extends = extends_more first now after x.extends more;
    faithful = faithful;
    kept = λ m ps e. kept m ps (x.kept m ps e);
    failed = failed;
    none = λ m l. by m l (nat_lt m n) refl;
    empty = same ∙ x.empty;
  }
    where
      by : (m : ℕ) → m < n + 1 → (b : Bool) → nat_lt m n ≡ b → HasNoneOfLength (language (regex_at first root)) m
      by m l true is = x.none m (grind (arith, nat_tests))
      by m l false is =
          let e : m ≡ n = grind (arith, nat_tests, l) in λ w word long. sym (at_root w) ∙ none w word (long ∙ e)

  pub search_found : (new : List ℕ) → HasLeast (language (regex_at now root)) n codes new
      → IsShortestLeast (language (regex_at first root)) new
  search_found new least = rw is record {
    word = least.right.word;
    member = sym (at_root least.least) ∙ least.right.member;
    shortest = λ v word h. by v word h (nat_lt (length v) n) refl;
    least = λ v word h long. least.right.least v word (at_root v ∙ h) (long ∙ least.right.long);
  }
    where
      is : new ≡ least.least
      is = least.is ∙ ap (λ w. w ++ least.least) x.empty

      by : (v : List ℕ) → IsWord v → language (regex_at first root) v ≡ true → (b : Bool) → nat_lt (length v) n ≡ b
          → length least.least ≤ length v
      by v word h true is =
          absurd (false≢true (sym (x.none (length v) (grind (arith, nat_tests)) v word refl) ∙ h))
      by v word h false is = grind (arith, nat_tests, least.right.long)
