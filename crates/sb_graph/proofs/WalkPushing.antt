-- One more place at the end of a queue.
use Rattle.std.proofs.Common.{◌≡◌, ℕ, zero, suc, ◌+◌, ◌*◌, ◌<◌, ◌≤◌, ◌⊎◌, inl, inr, Bool, true, false, ◌&&◌, ◌||◌, nat_eq, ltb, List, [], ◌∷◌, ◌++◌, length, refl, sym, ap, ap₂, subst, ◌∙◌, arith, append_assoc}
use Rattle.std.proofs.lemmas.Bool.{and_parts, true≢false}
use Rattle.std.proofs.lemmas.Bool.Decides.{nat_tests}
use Rattle.std.proofs.lemmas.List.{get_or_push, length_push}
use Rattle.sb_word.specs.Words.{is_character, are_characters, IsWord}
use Rattle.sb_lang.specs.Regex.{Regex}
use Rattle.sb_lang.specs.Language.{language}
use Rattle.sb_lang.specs.Languages.{Language}
use Rattle.sb_regex.specs.Numbered.{regex_at}
use Rattle.sb_graph.specs.Queue.{Entry, entry_at, regex_of, way_of, has_regex, word_at, GoesBack, AreWords, rank, rank_at}
use Rattle.sb_graph.specs.Walks.{AreReached}
use Rattle.sb_graph.proofs.Ranks.{rank_from-push}
use Rattle.sb_graph.proofs.WalkGrowing.{IsGrown, grown_push}

word_push : (w : List ℕ) (c : ℕ) → IsWord w → is_character c ≡ true → IsWord (w ++ c ∷ [])
word_push [] c h is = ap (λ b. b && true) is
word_push (d ∷ w) c h is =
    let p = and_parts (is_character d) (are_characters w) h in ap₂ (λ a b. a && b) p.0 (word_push w c p.1 is)

old_or_last : (es : List Entry) (e : Entry) (k : ℕ) → k < length (es ++ e ∷ []) → (k < length es) ⊎ (k ≡ length es)
old_or_last es e k h = by (ltb k (length es)) refl
  where
    by : (b : Bool) → ltb k (length es) ≡ b → (k < length es) ⊎ (k ≡ length es)
    by true t = inl (grind (arith, nat_tests, t))
    by false t = inr (let x : length es ≤ k = grind (arith, nat_tests, t) in omega (arith, h, length_push es e, x))

-- what holds of each old place and of the new one
each_place : (es : List Entry) (e : Entry) (P : ℕ → Type 0) → ((k : ℕ) → k < length es → P k) → P (length es) → (k : ℕ)
    → k < length (es ++ e ∷ []) → P k
each_place es e P old last k h =
    elim (old_or_last es e k h) as (λ _. P k) [ inl l ↦ old k l | inr l ↦ subst P (sym l) last ]

or_true : (b : Bool) {c : Bool} → c ≡ true → (b || c) ≡ true
or_true true h = refl
or_true false h = h

place_has : (es : List Entry) (k : ℕ) → k < length es → has_regex es (regex_of es k) ≡ true
place_has [] k h = absurd (omega arith)
place_has (e ∷ es) zero h = let t : nat_eq e.0 e.0 ≡ true = grind (arith, nat_tests) in
    ap (λ b. b || has_regex es e.0) t
place_has (e ∷ es) (suc k) h = or_true (nat_eq (regex_of es k) e.0) (place_has es k (omega (arith, h)))

-- the new state has words that stand in the language behind the word of a place and a character
module _ (rs : List Regex) (L : Language) (es : List Entry) (ws : List (List ℕ)) (i n c : ℕ)
    (reached : AreReached rs L es ws) (within : i < length es) (char : is_character c ≡ true)
    (known : n < length rs)
    (rests : (u : List ℕ) → language (regex_at rs n) u ≡ true → L (word_at ws i ++ c ∷ u) ≡ true)
    (new : has_regex es n ≡ false)
    (above : (j : ℕ) → j < length es → rank_at ws j ≤ rank_at ws i * 0x30000 + c)
    (behind : (k : ℕ) → suc k ≡ length es → (way_of es k ≡ (i, c) → ⊥) → rank_at ws k
    < rank_at ws i * 0x30000 + c) where
  abbrev entry : Entry
  entry = (n, (i, c))

  abbrev word : List ℕ
  word = word_at ws i ++ c ∷ []

  abbrev more : List Entry
  more = es ++ entry ∷ []

  abbrev more_words : List (List ℕ)
  more_words = ws ++ word ∷ []

  long : length ws ≡ length es
  long = reached.words_are.long

  grown : IsGrown es ws more more_words
  grown = grown_push es ws entry word long

  entry_new : entry_at more (length es) ≡ entry
  entry_new = get_or_push es entry (0, (0, 0)) (length es) refl

  word_new : word_at more_words (length es) ≡ word
  word_new = get_or_push ws word [] (length es) long

  rank_new : rank_at more_words (length es) ≡ rank_at ws i * 0x30000 + c
  rank_new = ap rank word_new ∙ rank_from-push 1 (word_at ws i) c

  rank_old : (k : ℕ) → k < length es → rank_at more_words k ≡ rank_at ws k
  rank_old k h = ap rank (grown.words k h)

  back_more : GoesBack more
  back_more k p h = each_place es entry (λ k. 0 < k → (way_of more k).0 < k)
      (λ k l p. subst (λ e. e.1.0 < k) (sym (grown.entries k l)) (reached.back k p l))
      (λ p. subst (λ e. e.1.0 < length es) (sym entry_new) within)
      k h p

  words_more : AreWords more more_words
  words_more = record {
    long = length_push ws word ∙ ap (λ n. n + 1) long ∙ sym (length_push es entry);
    first = grown.words 0 reached.some ∙ reached.words_are.first;
    next = λ k p h. each_place es entry (λ k. 0 < k
        → word_at more_words k ≡ word_at more_words (way_of more k).0 ++ (way_of more k).1 ∷ [])
        (λ k l p.
        grown.words k l
        ∙ reached.words_are.next k p l
        ∙ ap (λ w. w ++ (way_of es k).1 ∷ [])
        (sym (grown.words (way_of es k).0 (omega (arith, reached.back k p l, l))))
        ∙ ap (λ e. word_at more_words e.1.0 ++ e.1.1 ∷ []) (sym (grown.entries k l)))
        (λ p.
        word_new
        ∙ ap (λ w. w ++ c ∷ []) (sym (grown.words i within))
        ∙ ap (λ e. word_at more_words e.1.0 ++ e.1.1 ∷ []) (sym entry_new))
        k h p;
  }

  characters_more : (k : ℕ) → k < length more → IsWord (word_at more_words k)
  characters_more = each_place es entry (λ k. IsWord (word_at more_words k))
      (λ k l. subst IsWord (sym (grown.words k l)) (reached.characters k l))
      (subst IsWord (sym word_new) (word_push (word_at ws i) c (reached.characters i within) char))

  known_more : (k : ℕ) → k < length more → regex_of more k < length rs
  known_more = each_place es entry (λ k. regex_of more k < length rs)
      (λ k l. subst (λ e. e.0 < length rs) (sym (grown.entries k l)) (reached.known k l))
      (subst (λ e. e.0 < length rs) (sym entry_new) known)

  abbrev Rests : ℕ → Type 0
  Rests k = (u : List ℕ) → language (regex_at rs (regex_of more k)) u ≡ true → L (word_at more_words k ++ u) ≡ true

  rests_more : (k : ℕ) → k < length more → Rests k
  rests_more = each_place es entry Rests
      (λ k l u h.
      ap (λ w. L (w ++ u)) (grown.words k l)
      ∙ reached.rests k l u (sym (ap (λ e. language (regex_at rs e.0) u) (grown.entries k l)) ∙ h))
      (λ u h.
      ap (λ w. L (w ++ u)) word_new
      ∙ ap L (append_assoc (word_at ws i) (c ∷ []) u)
      ∙ rests u (sym (ap (λ e. language (regex_at rs e.0) u) entry_new) ∙ h))

  once_more : (j k : ℕ) → j < k → k < length more → regex_of more j ≡ regex_of more k → ⊥
  once_more j k l h = each_place es entry (λ k. j < k → regex_of more j ≡ regex_of more k → ⊥)
      (λ k m l e. reached.once j k l m
      (sym (ap (λ e. e.0) (grown.entries j (omega (arith, l, m)))) ∙ e ∙ ap (λ e. e.0) (grown.entries k m)))
      (λ l e.
      let same : regex_of es j ≡ n = sym (ap (λ e. e.0) (grown.entries j l)) ∙ e ∙ ap (λ e. e.0) entry_new in
      true≢false (sym (place_has es j l) ∙ ap (has_regex es) same ∙ new))
      k h l

  ascending_more : (j k : ℕ) → j < k → k < length more → rank_at more_words j ≤ rank_at more_words k
  ascending_more j k l h = each_place es entry (λ k. j < k → rank_at more_words j ≤ rank_at more_words k)
      (λ k m l. omega (arith, rank_old j (omega (arith, l, m)), rank_old k m, reached.ascending j k l m))
      (λ l. omega (arith, rank_old j l, rank_new, above j l))
      k h l

  abbrev Apart : ℕ → Type 0
  Apart m = (k : ℕ) → suc k ≡ m → 0 < k → (way_of more k ≡ way_of more m → ⊥) → rank_at more_words k
      < rank_at more_words m

  apart_more : (k : ℕ) → 0 < k → suc k < length more → (way_of more k ≡ way_of more (suc k) → ⊥)
      → rank_at more_words k < rank_at more_words (suc k)
  apart_more k p h d = each_place es entry Apart old last (suc k) h k refl p d
    where
      old : (m : ℕ) → m < length es → Apart m
      old m l k e p d =
          let within : suc k < length es = omega (arith, l, e) in
          let here = grown.entries k (omega (arith, within)) in
          let there = grown.entries (suc k) within in
          let r = reached.apart k p within
          (λ s. d (ap (λ e. e.1) here ∙ s ∙ sym (ap (λ e. e.1) there) ∙ ap (way_of more) e)) in
          omega (arith, r, rank_old k (omega (arith, within)), rank_old (suc k) within, ap (rank_at more_words) e)

      last : Apart (length es)
      last k e p d =
          let within : k < length es = omega (arith, e) in
          let r = behind k e (λ s. d (ap (λ e. e.1) (grown.entries k within) ∙ s ∙ sym (ap (λ e. e.1) entry_new))) in
          omega (arith, r, rank_old k within, rank_new)

  pub reached_push : AreReached rs L more more_words
  reached_push = record {
    back = back_more;
    words_are = words_more;
    some = omega (arith, reached.some, length_push es entry);
    starts = λ u h. ap (λ e. language (regex_at rs e.0) u) (grown.entries 0 reached.some) ∙ reached.starts u h;
    characters = characters_more;
    known = known_more;
    rests = rests_more;
    once = once_more;
    ascending = ascending_more;
    apart = apart_more;
  }

  pub push_grown : IsGrown es ws more more_words
  push_grown = grown

  pub push_rank : rank_at more_words (length es) ≡ rank_at ws i * 0x30000 + c
  push_rank = rank_new

  pub push_entry : entry_at more (length es) ≡ entry
  push_entry = entry_new

  pub push_each : (P : ℕ → Type 0) → ((k : ℕ) → k < length es → P k) → P (length es) → (k : ℕ) → k < length more → P k
  push_each P old new = each_place es entry P old new
