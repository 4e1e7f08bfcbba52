-- One more place at the end of a queue.
use Rattle.std.proofs.Common.{◌≡◌, ℕ, ◌+◌, ◌*◌, ◌<◌, ◌≤◌, ◌⊎◌, inl, inr, Bool, true, false, ◌&&◌, ltb, List, [], ◌∷◌, ◌++◌, length, refl, sym, ap, ap₂, subst, ◌∙◌, arith}
use Rattle.std.proofs.lemmas.Bool.{and_parts}
use Rattle.std.proofs.lemmas.Bool.Decides.{nat_tests}
use Rattle.std.proofs.lemmas.List.{get_or_push, length_push}
use Rattle.sb_word.specs.Words.{is_character, are_characters, IsWord}
use Rattle.sb_lang.specs.Regex.{Regex}
use Rattle.sb_lang.specs.Derivative.{nd, nd_along}
use Rattle.sb_regex.specs.Numbered.{regex_at, Names}
use Rattle.sb_regex.proofs.CallerLemmas.{names_at}
use Rattle.sb_graph.specs.Search.{AreReached}
use Rattle.sb_graph.proofs.Growing.{IsGrown, grown_push}
use Rattle.sb_graph.specs.Queue.{Entry, entry_at, regex_of, word_at, GoesBack, AreWords, rank, rank_at}
use Rattle.sb_graph.proofs.Ranks.{rank_from-push}

nd_along-push : (r : Regex) (w : List ℕ) (c : ℕ) → nd_along r (w ++ c ∷ []) ≡ nd (nd_along r w) c
unfolding nd_along
nd_along-push r [] c = refl
nd_along-push r (d ∷ w) c = nd_along-push (nd r d) w c

word_push : (w : List ℕ) (c : ℕ) → IsWord w → is_character c ≡ true → IsWord (w ++ c ∷ [])
word_push [] c h is = ap (λ b. b && true) is
word_push (d ∷ w) c h is =
    let p = and_parts (is_character d) (are_characters w) h in ap₂ (λ a b. a && b) p.0 (word_push w c p.1 is)

old_or_last : (es : List Entry) (e : Entry) (k : ℕ) → k < length (es ++ e ∷ []) → (k < length es) ⊎ (k ≡ length es)
old_or_last es e k h = by (ltb k (length es)) refl
  where
    by : (b : Bool) → ltb k (length es) ≡ b → (k < length es) ⊎ (k ≡ length es)
    by true t = inl (grind (arith, nat_tests, t))
    by false t = inr (let x : length es ≤ k = grind (arith, nat_tests, t) in omega (arith, h, length_push es e, x))

-- what holds of each old place and of the new one
each_place : (es : List Entry) (e : Entry) (P : ℕ → Type 0) → ((k : ℕ) → k < length es → P k) → P (length es) → (k : ℕ)
    → k < length (es ++ e ∷ []) → P k
each_place es e P old last k h =
    elim (old_or_last es e k h) as (λ _. P k) [ inl l ↦ old k l | inr l ↦ subst P (sym l) last ]

-- the regex of the new place is a derivative of one that was reached, by a word above all others
module _ (rs : List Regex) (root : ℕ) (es : List Entry) (ws : List (List ℕ)) (i n c : ℕ)
    (reached : AreReached rs root es ws) (within : i < length es) (char : is_character c ≡ true)
    (names : Names rs n (nd (regex_at rs (regex_of es i)) c)) (above : (j : ℕ) → j < length es
    → rank_at ws j < rank_at ws i * 0x30000 + c) where
  abbrev entry : Entry
  entry = (n, (i, c))

  abbrev word : List ℕ
  word = word_at ws i ++ c ∷ []

  abbrev more : List Entry
  more = es ++ entry ∷ []

  abbrev more_words : List (List ℕ)
  more_words = ws ++ word ∷ []

  long : length ws ≡ length es
  long = reached.words_are.long

  grown : IsGrown es ws more more_words
  grown = grown_push es ws entry word long

  entry_new : entry_at more (length es) ≡ entry
  entry_new = get_or_push es entry (0, (0, 0)) (length es) refl

  word_new : word_at more_words (length es) ≡ word
  word_new = get_or_push ws word [] (length es) long

  rank_new : rank_at more_words (length es) ≡ rank_at ws i * 0x30000 + c
  rank_new = ap rank word_new ∙ rank_from-push 1 (word_at ws i) c

  rank_old : (k : ℕ) → k < length es → rank_at more_words k ≡ rank_at ws k
  rank_old k h = ap rank (grown.words k h)

  back_more : GoesBack more
  back_more k p h = each_place es entry (λ k. 0 < k → (entry_at more k).1.0 < k)
      (λ k l p. subst (λ e. e.1.0 < k) (sym (grown.entries k l)) (reached.back k p l))
      (λ p. subst (λ e. e.1.0 < length es) (sym entry_new) within)
      k h p

  words_more : AreWords more more_words
  words_more = record {
    long = length_push ws word ∙ ap (λ n. n + 1) long ∙ sym (length_push es entry);
    first = grown.words 0 reached.some ∙ reached.words_are.first;
    next = λ k p h. each_place es entry (λ k. 0 < k
        → word_at more_words k ≡ word_at more_words (entry_at more k).1.0 ++ (entry_at more k).1.1 ∷ [])
        (λ k l p.
        grown.words k l
        ∙ reached.words_are.next k p l
        ∙ ap (λ w. w ++ (entry_at es k).1.1 ∷ [])
        (sym (grown.words (entry_at es k).1.0 (omega (arith, reached.back k p l, l))))
        ∙ ap (λ e. word_at more_words e.1.0 ++ e.1.1 ∷ []) (sym (grown.entries k l)))
        (λ p.
        word_new
        ∙ ap (λ w. w ++ c ∷ []) (sym (grown.words i within))
        ∙ ap (λ e. word_at more_words e.1.0 ++ e.1.1 ∷ []) (sym entry_new))
        k h p;
  }

  characters_more : (k : ℕ) → k < length more → IsWord (word_at more_words k)
  characters_more = each_place es entry (λ k. IsWord (word_at more_words k))
      (λ k l. subst IsWord (sym (grown.words k l)) (reached.characters k l))
      (subst IsWord (sym word_new) (word_push (word_at ws i) c (reached.characters i within) char))

  along_more : (k : ℕ) → k < length more
      → Names rs (regex_of more k) (nd_along (regex_at rs root) (word_at more_words k))
  along_more = each_place es entry
      (λ k. Names rs (regex_of more k) (nd_along (regex_at rs root) (word_at more_words k)))
      (λ k l. subst (λ e. Names rs e.0 (nd_along (regex_at rs root) (word_at more_words k))) (sym (grown.entries k l))
      (subst (λ w. Names rs (regex_of es k) (nd_along (regex_at rs root) w)) (sym (grown.words k l))
      (reached.along k l)))
      (subst (λ e. Names rs e.0 (nd_along (regex_at rs root) (word_at more_words (length es)))) (sym entry_new)
      (subst (λ w. Names rs n (nd_along (regex_at rs root) w)) (sym word_new)
      (subst (λ r. Names rs n r) (ap (λ q. nd q c) (names_at rs (regex_of es i) _ (reached.along i within))
      ∙ sym (nd_along-push (regex_at rs root) (word_at ws i) c)) names)))

  ascending_more : (j k : ℕ) → j < k → k < length more → rank_at more_words j < rank_at more_words k
  ascending_more j k l h = each_place es entry (λ k. j < k → rank_at more_words j < rank_at more_words k)
      (λ k m l. omega (arith, rank_old j (omega arith), rank_old k m, reached.ascending j k l m))
      (λ l. omega (arith, rank_old j l, rank_new, above j l))
      k h l

  pub reached_push : AreReached rs root more more_words
  reached_push = record {
    back = back_more;
    words_are = words_more;
    some = omega (arith, reached.some, length_push es entry);
    first = ap (λ e. e.0) (grown.entries 0 reached.some) ∙ reached.first;
    characters = characters_more;
    along = along_more;
    ascending = ascending_more;
  }

  pub reached_grown : IsGrown es ws more more_words
  reached_grown = grown

  pub reached_rank : rank_at more_words (length es) ≡ rank_at ws i * 0x30000 + c
  reached_rank = rank_new

  pub reached_entry : regex_of more (length es) ≡ n
  reached_entry = ap (λ e. e.0) entry_new

  pub reached_each : (m : ℕ) → ((j : ℕ) → j < length es → rank_at ws j < m) → rank_at ws i * 0x30000 + c < m → (j : ℕ)
      → j < length more → rank_at more_words j < m
  reached_each m old last = each_place es entry (λ j. rank_at more_words j < m)
      (λ k l. omega (arith, rank_old k l, old k l))
      (omega (arith, rank_new, last))
