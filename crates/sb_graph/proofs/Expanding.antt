-- Which regexes are expanded.
use Rattle.std.proofs.Common.{◌≡◌, ℕ, ◌+◌, ◌<◌, ◌≤◌, Bool, true, false, ltb, Result, Ok, Err, IfOk, List, [], ◌∷◌, ◌++◌, length, refl, sym, ap, subst, ◌∙◌, arith}
use Rattle.std.proofs.lemmas.Bool.{false≢true}
use Rattle.std.proofs.lemmas.Bool.Decides.{nat_tests}
use Rattle.std.proofs.lemmas.List.{append-nil, append_assoc, length-append}
use Rattle.std.proofs.lemmas.List.Elements.{All-nil, All-append}
use Rattle.std.specs.declared.cmp.Ordering.TheVariants.{Less}
use Rattle.sb_word.specs.Words.{IsWord}
use Rattle.sb_lang.specs.Regex.{Regex}
use Rattle.sb_lang.specs.Derivative.{nullable, nd_along}
use Rattle.sb_lang.specs.DerivativeLaws.{NullableHasEmptyWord, DerivativeAlongHasRests}
use Rattle.sb_lang.specs.Language.{language}
use Rattle.sb_lang.specs.Languages.{Language}
use Rattle.sb_regex.specs.Numbered.{regex_at, Names, Extends}
use Rattle.sb_regex.proofs.CallerLemmas.{at_kept, names_kept}
use Rattle.sb_graph.specs.Findings.{AreBarren}
use Rattle.sb_graph.specs.declared.graph.Explored.{Explored}
use Rattle.sb_graph.specs.declared.graph.Explored.TheVariants.{Alive, Dead}
use Rattle.sb_graph.specs.Witness.{shortlex, IsFinding, ComesBefore, Precedes, IsReachedBy, GoesOn}
use Rattle.sb_graph.specs.Search.{IsSearched, IsTaken, IsFound, IsUnderWay}
use Rattle.sb_graph.proofs.Ranks.{shortlex_rank}
use Rattle.sb_graph.proofs.Ends.{member_along, rejected, root_covered}
use Rattle.sb_graph.specs.Queue.{Entry, regex_of, word_at, AreWords, rank, rank_at}

pub goes_on_same : (P : ℕ → Type 0) (old new : List ℕ) → new ≡ old → GoesOn P old new
goes_on_same P old new e = record { more = []; is = e ∙ sym (append-nil old); each = All-nil P }

pub goes_on_more : (P : ℕ → Type 0) (a b c : List ℕ) → GoesOn P a b → GoesOn P b c → GoesOn P a c
goes_on_more P a b c g h = record {
  more = g.more ++ h.more;
  is = h.is ∙ ap (λ x. x ++ h.more) g.is ∙ append_assoc a g.more h.more;
  each = All-append P g.more h.more g.each h.each;
}

pub goes_on_as : (P Q : ℕ → Type 0) (a b : List ℕ) → ((n : ℕ) → P n → Q n) → GoesOn P a b → GoesOn Q a b
goes_on_as P Q a b f g = record { more = g.more; is = g.is; each = λ k d l. f _ (g.each k d l) }

-- Where the whole stays, each step stays.

longer : (P : ℕ → Type 0) (a b : List ℕ) → GoesOn P a b → length a ≤ length b
longer P a b g = omega (arith, ap length g.is, length-append a g.more)

none_more : (a more b : List ℕ) → b ≡ a ++ more → length b ≤ length a → b ≡ a
none_more a [] b e l = e ∙ append-nil a
none_more a (n ∷ more) b e l = absurd (omega (arith, l, ap length e, length-append a (n ∷ more)))

pub idle_more : {M : Type 0} (P Q : ℕ → Type 0) (a b c : List ℕ) (m n o : M) → GoesOn P a b → GoesOn Q b c
    → (b ≡ a → n ≡ m) → (c ≡ b → o ≡ n) → c ≡ a → o ≡ m
idle_more P Q a b c m n o g h first then same =
    let l : length c ≡ length a = ap length same in
    first' (none_more a g.more b g.is (omega (arith, l, longer Q b c h)))
  where
    first' : b ≡ a → o ≡ m
    first' e = then (same ∙ sym e) ∙ first e

-- Places that were taken.

pub taken_later : (es es' : List Entry) (place later n : ℕ) → place ≤ later
    → ((k : ℕ) → k < length es → (k < length es') × (regex_of es' k ≡ regex_of es k))
    → IsTaken es place n → IsTaken es' later n
taken_later es es' place later n l keeps t =
    let k = keeps t.at t.within in
    record { at = t.at; before = omega (arith, l, t.before); within = k.0; is = k.1 ∙ t.is }

pub taken_next : (es es' : List Entry) (place : ℕ) (old mid new : List ℕ) → place < length es
    → ((k : ℕ) → k < length es → (k < length es') × (regex_of es' k ≡ regex_of es k))
    → GoesOn (IsTaken es place) old mid → GoesOn (λ n. n ≡ regex_of es place) mid new
    → GoesOn (IsTaken es' (place + 1)) old new
taken_next es es' place old mid new h keeps g one =
    goes_on_more _ old mid new
    (goes_on_as _ _ old mid (λ n. taken_later es es' place (place + 1) n (omega arith) keeps) g)
    (goes_on_as _ _ mid new
    (λ n e. let k = keeps place h in
    record { at = place; before = omega arith; within = k.0; is = k.1 ∙ sym e }) one)

-- the places were reached by words
module _ (first rs : List Regex) (more : Extends first rs) (root : ℕ) (known : root < length first)
    (dead : List Bool) (es : List Entry) (done : ℕ) (s : IsSearched rs root dead es done) (k : ℕ) (old new : List ℕ)
    (taken : GoesOn (IsTaken es k) old new) where
  pub taken_reached : (P : List ℕ → Type 0) → ((j : ℕ) → j < k → j < length es → P (word_at s.words j))
      → GoesOn (IsReachedBy rs (regex_at first root) P) old new
  taken_reached P h = goes_on_as _ _ old new each taken
    where
      each : (n : ℕ) → IsTaken es k n → IsReachedBy rs (regex_at first root) P n
      each n t = record {
        word = word_at s.words t.at;
        characters = s.reached.characters t.at t.within;
        along =
            subst (λ n. Names rs n (nd_along (regex_at first root) (word_at s.words t.at))) t.is
            (subst (λ r. Names rs (regex_of es t.at) (nd_along r (word_at s.words t.at)))
            (at_kept first rs root more known) (s.reached.along t.at t.within));
        wanted = h t.at t.before t.within;
      }

  pub each_reached : GoesOn (IsReachedBy rs (regex_at first root) (λ v. Unit {0})) old new
  each_reached = taken_reached (λ v. Unit {0}) (λ j h l. tt)

-- before a word that is found
pub found_reached : (first rs : List Regex) → Extends first rs → (root : ℕ) → root < length first
    → (dead : List Bool) (es : List Entry) (old new : List ℕ) (place : ℕ) → IsFound rs root dead es old new place
    → (w : List ℕ) → IsWord w → ((ws : List (List ℕ)) → AreWords es ws → w ≡ word_at ws place)
    → GoesOn (IsReachedBy rs (regex_at first root) (λ v. shortlex v w ≡ Less)) old new
found_reached first rs more root known dead es old new place f w is along =
    let s = f.searched in
    let e = along s.words s.reached.words_are in
    taken_reached first rs more root known dead es f.done s f.done old new f.taken (λ v. shortlex v w ≡ Less)
    (λ j h l. subst (λ w. shortlex (word_at s.words j) w ≡ Less) (sym e)
    (shortlex_rank (word_at s.words j) (word_at s.words place) (s.reached.characters place f.within)
    (s.reached.ascending j place (omega (arith, h, f.after)) f.within)))

-- before each word of the language

module _ (empty : NullableHasEmptyWord) (along : DerivativeAlongHasRests) (rs : List Regex) (root : ℕ)
    (dead : List Bool) (es : List Entry) (place tested : ℕ) (barren : AreBarren rs dead) (ahead : place ≤ tested)
    (tests : (k : ℕ) → k < tested → nullable (regex_at rs (regex_of es k)) ≡ false)
    (s : IsSearched rs root dead es place) where
  no_later : (i j : ℕ) → i < length es → j < length es → rank_at s.words i ≤ rank_at s.words j → i ≤ j
  no_later i j h l r = by (ltb j i) refl
    where
      by : (t : Bool) → ltb j i ≡ t → i ≤ j
      by true t = absurd (omega (arith, r, s.reached.ascending j i (grind (arith, nat_tests, t)) h))
      by false t = grind (arith, nat_tests, t)

  precedes : (j : ℕ) → j < place → j < length es → Precedes (language (regex_at rs root)) (word_at s.words j)
  precedes j h l w is m = by (ltb (rank_at s.words j) (rank w)) refl
    where
      by : (t : Bool) → ltb (rank_at s.words j) (rank w) ≡ t → shortlex (word_at s.words j) w ≡ Less
      by true t = shortlex_rank (word_at s.words j) w is (grind (arith, nat_tests, t))
      by false t =
          let x : rank w ≤ rank_at s.words j = grind (arith, nat_tests, t) in
          let r = rejected rs root dead es place barren s w (regex_at rs root) 1 is
          (λ i k n. let e = no_later i j k l (omega (arith, n, x)) in omega (arith, e, h))
          (λ i k n. let e = no_later i j k l (omega (arith, n, x)) in tests i (omega (arith, e, h, ahead)))
          (root_covered rs root dead es place barren s) in
          absurd (false≢true (sym r ∙ member_along empty along (regex_at rs root) w ∙ m))

pub each_precedes : NullableHasEmptyWord → DerivativeAlongHasRests → (first rs : List Regex) → Extends first rs
    → (root : ℕ) → root < length first → (dead : List Bool) (es : List Entry) (place tested : ℕ) (old new : List ℕ)
    → AreBarren rs dead → IsUnderWay rs root dead es place tested old new
    → GoesOn (IsReachedBy rs (regex_at first root) (Precedes (language (regex_at first root)))) old new
each_precedes empty along first rs more root known dead es place tested old new barren u =
    taken_reached first rs more root known dead es place u.searched place old new u.taken
    (Precedes (language (regex_at first root)))
    (λ j h l. subst (λ r. Precedes (language r) (word_at u.searched.words j)) (at_kept first rs root more known)
    (precedes empty along rs root dead es place tested barren u.ahead u.empty_words u.searched j h l))

-- what precedes all words precedes the one that is found
precedes_before : {E : Type 0} (L : Language) (r : Result Explored E) → IfOk r (IsFinding L) → (v : List ℕ)
    → Precedes L v → ComesBefore v r
precedes_before L (Ok (Alive w)) f v p = p w f.word f.member
precedes_before L (Ok Dead) f v p = tt
precedes_before L (Err e) f v p = tt

pub reached_kept : (old new : List Regex) → Extends old new → (r : Regex) (P Q : List ℕ → Type 0)
    → ((v : List ℕ) → P v → Q v) → (from upto : List ℕ) → GoesOn (IsReachedBy old r P) from upto
    → GoesOn (IsReachedBy new r Q) from upto
reached_kept old new more r P Q f from upto g = goes_on_as _ _ from upto each g
  where
    each : (n : ℕ) → IsReachedBy old r P n → IsReachedBy new r Q n
    each n h = record {
      word = h.word;
      characters = h.characters;
      along = names_kept old new n _ more h.along;
      wanted = f h.word h.wanted;
    }

-- what the turns expanded, and then an exploration
pub expanded_both : {E : Type 0} (first mid new : List Regex) → Extends first mid → Extends mid new → (root : ℕ)
    → root < length first → (result : Result Explored E) → IfOk result (IsFinding (language (regex_at mid root)))
    → (a b c : List ℕ)
    → GoesOn (IsReachedBy mid (regex_at first root) (Precedes (language (regex_at first root)))) a b
    → GoesOn (IsReachedBy new (regex_at mid root) (λ v. ComesBefore v result)) b c
    → GoesOn (IsReachedBy new (regex_at first root) (λ v. ComesBefore v result)) a c
expanded_both first mid new more later root known result found a b c g h =
    let is = at_kept first mid root more known in
    goes_on_more _ a b c
    (reached_kept mid new later (regex_at first root) (Precedes (language (regex_at first root)))
    (λ v. ComesBefore v result)
    (precedes_before (language (regex_at first root)) result
    (subst (λ r. IfOk result (IsFinding (language r))) is found)) a b g)
    (subst (λ r. GoesOn (IsReachedBy new r (λ v. ComesBefore v result)) b c) is h)
