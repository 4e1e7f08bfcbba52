-- What a walk says of the language, where it comes to a state with the empty word and where it comes to the end.
use Rattle.std.proofs.Common.{◌≡◌, ℕ, ◌+◌, ◌*◌, ◌<◌, ◌≤◌, Bool, true, false, nat_eq, ltb, List, [], ◌∷◌, length, refl, sym, ap, subst, ◌∙◌, arith}
use Rattle.std.proofs.lemmas.Bool.{and_parts, false≢true, false_from_ne_true}
use Rattle.std.proofs.lemmas.Bool.Decides.{nat_tests}
use Rattle.std.proofs.lemmas.List.{append-nil}
use Rattle.sb_word.specs.Words.{is_character, are_characters, IsWord}
use Rattle.sb_lang.specs.Regex.{Regex}
use Rattle.sb_lang.specs.Derivative.{nullable}
use Rattle.sb_lang.specs.DerivativeLaws.{NullableHasEmptyWord}
use Rattle.sb_lang.specs.Language.{language}
use Rattle.sb_lang.specs.Languages.{Language}
use Rattle.sb_lang.specs.Least.{IsShortestLeast, HasNoWord}
use Rattle.sb_regex.specs.Numbered.{regex_at}
use Rattle.sb_graph.specs.Queue.{Entry, regex_of, word_at, AreWords, rank_from, rank, rank_at}
use Rattle.sb_graph.specs.Walks.{AreReached, IsSearched, IsFound, IsWhole}
use Rattle.sb_graph.proofs.Ranks.{rank_empty, rank_grows, rank_short, rank_least}

module _ (empty : NullableHasEmptyWord) (rs : List Regex) (L : Language) (es : List Entry) where
  -- ranks ascend, also where two places are one
  ascends : (ws : List (List ℕ)) → AreReached rs L es ws → (j k : ℕ) → j ≤ k → k < length es
      → rank_at ws j ≤ rank_at ws k
  ascends ws r j k h l = by (nat_eq j k) refl
    where
      by : (t : Bool) → nat_eq j k ≡ t → rank_at ws j ≤ rank_at ws k
      by true t = let e : j ≡ k = grind (arith, nat_tests, t) in omega (arith, ap (rank_at ws) e)
      by false t = r.ascending j k (grind (arith, nat_tests, t, h)) l

  before : (ws : List (List ℕ)) → AreReached rs L es ws → (j k : ℕ) → j < length es → rank_at ws j < rank_at ws k
      → j < k
  before ws r j k l h = by (ltb j k) refl
    where
      by : (t : Bool) → ltb j k ≡ t → j < k
      by true t = grind (arith, nat_tests, t)
      by false t =
          let x : k ≤ j = grind (arith, nat_tests, t) in absurd (omega (arith, h, ascends ws r k j x l))

  -- a state with the empty word whose word has at most this rank
  record Accepts (ws : List (List ℕ)) (most : ℕ) : Type 0 where
    place : ℕ
    within : place < length es
    soon : rank_at ws place ≤ most
    empty_word : nullable (regex_at rs (regex_of es place)) ≡ true

  module _ (done : ℕ) (s : IsSearched rs L es done) where
    accepted : (v : List ℕ) (k b : ℕ) → k < length es → rank_at s.words k ≤ b → IsWord v
        → ((j : ℕ) → j < length es → rank_at s.words j * 0x30000 ≤ rank_from b v → j < done)
        → language (regex_at rs (regex_of es k)) v ≡ true → Accepts s.words (rank_from b v)
    unfolding rank_from
    accepted [] k b l h is below m = record {
      place = k;
      within = l;
      soon = h;
      empty_word = empty (regex_at rs (regex_of es k)) ∙ m;
    }
    accepted (c ∷ v) k b l h is below m =
        let p = and_parts (is_character c) (are_characters v) is in
        let g = rank_grows (b * 0x30000 + c) v in
        let d = s.below k (below k l (omega (arith, h, g))) l c p.0 v m in
        accepted v d.place (b * 0x30000 + c) d.within (omega (arith, h, d.soon)) p.1 below d.has

    member_accepted : (v : List ℕ) → IsWord v
        → ((j : ℕ) → j < length es → rank_at s.words j * 0x30000 ≤ rank v → j < done) → L v ≡ true
        → Accepts s.words (rank v)
    member_accepted v is below m =
        let first = ap rank s.reached.words_are.first ∙ rank_empty in
        accepted v 0 1 s.reached.some (omega (arith, first)) is below (s.reached.starts v m)

  -- the word of the first place with the empty word is the least
  module _ (place : ℕ) (f : IsFound rs L es place) where
    abbrev ws : List (List ℕ)
    ws = f.searched.words

    found_member : L (word_at ws place) ≡ true
    found_member =
        sym (ap L (append-nil (word_at ws place)))
        ∙ f.searched.reached.rests place f.within []
        (sym (empty (regex_at rs (regex_of es place))) ∙ f.empty_word)

    done_before : (v : List ℕ) → rank v < rank_at ws place → (j : ℕ) → j < length es
        → rank_at ws j * 0x30000 ≤ rank v → j < f.done
    done_before v h j l m = by (ltb j f.done) refl
      where
        by : (t : Bool) → ltb j f.done ≡ t → j < f.done
        by true t = grind (arith, nat_tests, t)
        by false t =
            let x : f.done ≤ j = grind (arith, nat_tests, t) in
            let near = f.searched.near (omega (arith, x, l)) place f.within in
            let a = ascends ws f.searched.reached f.done j x l in
            absurd (omega (arith, near, a, m, h))

    found_least : (v : List ℕ) → IsWord v → L v ≡ true → rank v < rank_at ws place → ⊥
    found_least v is m h =
        let a = member_accepted f.done f.searched v is (done_before v h) m in
        let earlier = before ws f.searched.reached a.place place a.within (omega (arith, a.soon, h)) in
        false≢true (sym (f.before a.place earlier) ∙ a.empty_word)

    pub found_is : (w : List ℕ) → IsWord w → ((ws : List (List ℕ)) → AreWords es ws → w ≡ word_at ws place)
        → IsShortestLeast L w
    found_is w is e =
        let k = sym (e ws f.searched.reached.words_are) in
        subst (IsShortestLeast L) k (record {
          word = subst IsWord (sym k) is;
          member = found_member;
          shortest = λ v h m. shorter v h m;
          least = λ v h m l c. found_least v h m (rank_least 1 v (word_at ws place) l h c);
        })
      where
        shorter : (v : List ℕ) → IsWord v → L v ≡ true → length (word_at ws place) ≤ length v
        shorter v h m = by (ltb (length v) (length (word_at ws place))) refl
          where
            by : (t : Bool) → ltb (length v) (length (word_at ws place)) ≡ t → length (word_at ws place) ≤ length v
            by true t = absurd (found_least v h m
                (rank_short 1 1 v (word_at ws place) (omega arith) (grind (arith, nat_tests, t)) h))
            by false t = grind (arith, nat_tests, t)

  -- where all is done and no state has the empty word, there is no word
  pub whole_is : IsWhole rs L es → HasNoWord L
  whole_is f v is = false_from_ne_true (L v) (λ m.
      let a = member_accepted (length es) f.searched v is (λ j l h. l) m in
      false≢true (sym (f.without a.place a.within) ∙ a.empty_word))
