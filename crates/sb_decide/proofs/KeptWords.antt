-- Of how many first regexes a kept word is the least one, as regexes come and go.
use Rattle.sb_decide.proofs.Words.{◌≡◌, ◌≢◌, ℕ, zero, suc, ◌+◌, ◌<◌, ◌≤◌, nat_le, Bool, true, false, ◌&&◌, ◌==◌, if◌then◌else◌, List, [], ◌∷◌, ◌++◌, length, get_or, set, take, drop, refl, sym, ap, ap₂, subst, subst₂, ◌∙◌, arith, Option, Some, None, unwrap_or, length-append, All, All-nil, All-push, All-same, All-take, AllNumbers, AreKept, Conjoined, Extends, HasRegexBelow, IsInEach, IsLeastOf, IsShortestLeast, IsWord, Language, Member, Regex, and_from, and_parts, are_characters, are_words, at_kept, conjoined_at, drop-map, eqb-true, get_or-set_other, get_or-set_same, get_or_default, id_of, ids_at, ids_in, in_each, is_known_of, is_settled, known_within, language, leb-true, length-map, length-set, list_all-append, map_more, number_kept, numbers_kept, places_in, regex_at, same_Some, take-append-drop, take-append-le, take_all, with_word, word_at, words_in, none-some, false≢true}
use Rattle.sb_decide.proofs.Conjunctions.{in_each-append, in_each_kept, least_of_all, same_least}
use Rattle.sb_decide.proofs.MemberFacts.{ids_below}

-- a word that is the least one of a language is that of each smaller language that has it
smaller_least : (L M : Language) (w : List ℕ) → ((v : List ℕ) → IsWord v → M v ≡ true → L v ≡ true) → M w ≡ true
    → IsShortestLeast L w → IsShortestLeast M w
smaller_least L M w smaller there l = record {
  word = l.word;
  member = there;
  shortest = λ v c h. l.shortest v c (smaller v c h);
  least = λ v c h e. l.least v c (smaller v c h) e;
}

in_each_cut : (rs : List Regex) (ids : List ℕ) (k : ℕ) (w : List ℕ)
    → in_each rs ids w ≡ (in_each rs (take k ids) w && in_each rs (drop k ids) w)
in_each_cut rs ids k w =
    ap (λ is. in_each rs is w) (sym (take-append-drop k ids))
    ∙ list_all-append (λ id. language (regex_at rs id) w) (take k ids) (drop k ids)

-- it is in the regexes behind those that it is the least one of
stands_by : (old new : List Regex) (ids : List ℕ) (k : ℕ) (w : List ℕ) → Extends old new → AllNumbers old ids
    → IsLeastOf old ids k w → in_each new (drop k ids) w ≡ true → IsShortestLeast (in_each new ids) w
stands_by old new ids k w e known l there =
    smaller_least (in_each old (take k ids)) (in_each new ids) w
    (λ v c h. sym (kept v)
    ∙ (and_parts (in_each new (take k ids) v) (in_each new (drop k ids) v) (sym (in_each_cut new ids k v) ∙ h)).0)
    (in_each_cut new ids k w
    ∙ and_from (in_each new (take k ids) w) (in_each new (drop k ids) w) (kept w ∙ l.least.member) there)
    l.least
  where
    kept : (v : List ℕ) → in_each new (take k ids) v ≡ in_each old (take k ids) v
    kept v = in_each_kept old new (take k ids) v e (All-take (λ i. i < length old) k ids known)

-- all of the regexes
pub least_all : (rs : List Regex) (ids : List ℕ) (w : List ℕ) → IsLeastOf rs ids (length ids) w
    → IsShortestLeast (in_each rs ids) w
least_all rs ids w l =
    subst (λ is. IsShortestLeast (in_each rs is) w) (take_all (length ids) ids (omega arith)) l.least

pub all_least : (rs : List Regex) (ids : List ℕ) (k : ℕ) (w : List ℕ) → k ≡ length ids
    → IsShortestLeast (in_each rs ids) w → IsLeastOf rs ids k w
all_least rs ids k w is l = record {
  within = omega (arith, is);
  least = subst (λ these. IsShortestLeast (in_each rs these) w) (sym (take_all k ids (omega (arith, is)))) l;
}

-- none of them
pub least_of_none : (rs : List Regex) (ids : List ℕ) (k : ℕ) (w : List ℕ) → Some 0 ≡ Some k → w ≡ []
    → IsLeastOf rs ids k w
least_of_none rs ids k w known empty =
    subst₂ (λ j v. IsLeastOf rs ids j v) (same_Some 0 k known) (sym empty) none
  where
    none : IsLeastOf rs ids 0 []
    none = record { within = omega arith; least = least_of_all (in_each rs []) (λ v. refl) }

-- the arena grows
pub least_grown : (old new : List Regex) (ids : List ℕ) (k : ℕ) (w : List ℕ) → Extends old new → AllNumbers old ids
    → IsLeastOf old ids k w → IsLeastOf new ids k w
least_grown old new ids k w e known l = record {
  within = l.within;
  least = same_least (in_each old (take k ids)) (in_each new (take k ids)) w
      (λ v _. in_each_kept old new (take k ids) v e (All-take (λ i. i < length old) k ids known)) l.least;
}

-- regexes come behind, and go
pub least_more : (rs : List Regex) (ids more : List ℕ) (k : ℕ) (w : List ℕ) → IsLeastOf rs ids k w
    → IsLeastOf rs (ids ++ more) k w
least_more rs ids more k w l = record {
  within = omega (arith, l.within, length-append ids more);
  least = subst (λ these. IsShortestLeast (in_each rs these) w) (sym (take-append-le k ids more l.within)) l.least;
}

pub least_fewer : (rs : List Regex) (ids more : List ℕ) (k : ℕ) (w : List ℕ) → k ≤ length ids
    → IsLeastOf rs (ids ++ more) k w → IsLeastOf rs ids k w
least_fewer rs ids more k w within l = record {
  within = within;
  least = subst (λ these. IsShortestLeast (in_each rs these) w) (take-append-le k ids more within) l.least;
}

-- so many first memberships, where there are so many
pub known_fewer : (count : ℕ) (o : Option ℕ) (k : ℕ) → known_within count o ≡ Some k → (o ≡ Some k) × (k ≤ count)
known_fewer count None k h = absurd (none-some k h)
known_fewer count (Some j) k h = by_test (nat_le j count) refl h
  where
    by_test : (b : Bool) → nat_le j count ≡ b → (if b then Some j else None) ≡ Some k
        → (Some j ≡ Some k) × (k ≤ count)
    by_test true t e = let same = same_Some j k e in (e, subst (λ i. i ≤ count) same (leb-true j count t))
    by_test false t e = absurd (none-some k e)

-- and where they are all
pub known_all : (count : ℕ) (o : Option ℕ) → is_known_of count o ≡ true → o ≡ Some count
known_all count None h = absurd (false≢true h)
known_all count (Some k) h = ap (λ i. Some i) (eqb-true k count h)

-- The regexes at the places of a constant's memberships are its regexes.
next_place : (k j : ℕ) → (k + 1) + j ≡ k + suc j
next_place k j = omega arith

first_place : (k : ℕ) → k ≡ k + 0
first_place k = omega arith

pub same_place : (j : ℕ) → 0 + j ≡ j
same_place j = omega arith

pub ids_from : (whole ms : List (Option Member)) (k n : ℕ)
    → ((j : ℕ) → j < length ms → get_or whole (k + j) None ≡ get_or ms j None)
    → ids_at whole (places_in k n ms) ≡ ids_in ms n
ids_from whole [] k n h = refl
ids_from whole (None ∷ ms) k n h =
    ids_from whole ms (k + 1) n
    (λ j l. ap (λ i. get_or whole i None) (next_place k j) ∙ h (suc j) (omega (arith, l)))
ids_from whole (Some m ∷ ms) k n h =
    by_test (n == m.serial.0) (ids_from whole ms (k + 1) n
    (λ j l. ap (λ i. get_or whole i None) (next_place k j) ∙ h (suc j) (omega (arith, l))))
  where
    here : id_of (get_or whole k None) ≡ m.regex
    here = ap (λ i. id_of (get_or whole i None)) (first_place k) ∙ ap id_of (h 0 (omega arith))

    by_test : (b : Bool) → ids_at whole (places_in (k + 1) n ms) ≡ ids_in ms n
        → ids_at whole (if b then k ∷ places_in (k + 1) n ms else places_in (k + 1) n ms)
        ≡ (if b then m.regex ∷ ids_in ms n else ids_in ms n)
    by_test true rest = ap₂ (λ i is. i ∷ is) here rest
    by_test false rest = rest

pub ids_there : (ms : List (Option Member)) (n : ℕ) → ids_at ms (places_in 0 n ms) ≡ ids_in ms n
ids_there ms n = ids_from ms ms 0 n (λ j l. ap (λ i. get_or ms i None) (same_place j))

pub ids_long : (ms : List (Option Member)) (n : ℕ) → length (places_in 0 n ms) ≡ length (ids_in ms n)
ids_long ms n = sym (length-map (places_in 0 n ms) (λ place. id_of (get_or ms place None))) ∙ ap length (ids_there ms n)

-- A settled constant's word.
pub settled_least : (rs : List Regex) (ms : List (Option Member)) (cs : List Conjoined) (words : List (List ℕ)) (n : ℕ)
    → (conjoined_at cs n).places ≡ places_in 0 n ms → AreKept rs ms cs words
    → is_settled (conjoined_at cs n) ≡ true → IsShortestLeast (words_in rs ms n) (word_at words n)
settled_least rs ms cs words n places kept h =
    let long : length (conjoined_at cs n).places ≡ length (ids_in ms n) = ap length places ∙ ids_long ms n in
    let known = known_all (length (conjoined_at cs n).places) (conjoined_at cs n).known h in
    least_all rs (ids_in ms n) (word_at words n)
    (kept.least n (length (ids_in ms n)) (known ∙ ap (λ i. Some i) long))

-- Matching a word with regexes.
pub matched_none : (rs : List Regex) (ms : List (Option Member)) (w : List ℕ) → IsInEach rs ms [] w
matched_none rs ms w = record { known = All-nil (λ i. i < length rs); all = refl }

pub number_there : (rs : List Regex) (ms : List (Option Member)) (place : ℕ) (o : Option Member) (m : Member)
    → All (HasRegexBelow (length rs)) ms → place < length ms → get_or ms place o ≡ Some m → m.regex < length rs
number_there rs ms place o m numbers within there = subst (HasRegexBelow (length rs)) there (numbers place o within)

pub matched_next : (old new : List Regex) (ms : List (Option Member)) (places w : List ℕ) (i d : ℕ)
    (o : Option Member) (m : Member) → Extends old new → IsInEach old ms (take i places) w → i < length places
    → get_or places i d < length ms → get_or ms (get_or places i d) o ≡ Some m → m.regex < length old
    → language (regex_at old m.regex) w ≡ true → IsInEach new ms (take (i + 1) places) w
matched_next old new ms places w i d o m e before l within there low holds = record {
  known = All-same (λ j. j < length new) (ids_at ms (take (i + 1) places)) (ids ++ m.regex ∷ []) same
      (All-push (λ j. j < length new) ids m.regex (numbers_kept old new ids e before.known)
      (number_kept old new m.regex e low));
  all = ap (λ is. in_each new is w) same
      ∙ (in_each-append new ids m.regex w
      ∙ and_from (in_each new ids w) (language (regex_at new m.regex) w)
      (in_each_kept old new ids w e before.known ∙ before.all)
      (ap (λ r. language r w) (at_kept old new m.regex e low) ∙ holds));
}
  where
    ids : List ℕ
    ids = ids_at ms (take i places)

    here : id_of (get_or ms (get_or places i d) None) ≡ m.regex
    here = ap id_of (get_or_default ms (get_or places i d) None o within ∙ there)

    same : ids_at ms (take (i + 1) places) ≡ ids ++ m.regex ∷ []
    same = map_more (λ place. id_of (get_or ms place None)) places i d l ∙ ap (λ id. ids ++ id ∷ []) here

-- with those behind the ones that it is the least one of
pub behind_within : (rs : List Regex) (ms : List (Option Member)) (n k : ℕ) (places w : List ℕ)
    → places ≡ places_in 0 n ms → IsLeastOf rs (ids_in ms n) k w → k ≤ length places
behind_within rs ms n k places w is l = omega (arith, l.within, ap length is, ids_long ms n)

pub word_stands : (old new : List Regex) (ms : List (Option Member)) (n k : ℕ) (places behind w found : List ℕ)
    → Extends old new → All (HasRegexBelow (length old)) ms → places ≡ places_in 0 n ms → behind ≡ drop k places
    → found ≡ w → IsLeastOf old (ids_in ms n) k w → IsInEach new ms behind found
    → IsShortestLeast (words_in new ms n) w
word_stands old new ms n k places behind w found e numbers is rest same l h =
    stands_by old new (ids_in ms n) k w e (ids_below old ms n numbers) l
    (ap₂ (λ ids v. in_each new ids v) (sym these) (sym same) ∙ h.all)
  where
    these : ids_at ms behind ≡ drop k (ids_in ms n)
    these =
        ap (ids_at ms) rest
        ∙ (sym (drop-map (λ place. id_of (get_or ms place None)) k places)
        ∙ ap (drop k) (ap (ids_at ms) is ∙ ids_there ms n))

-- A word is put at a place, or none.
pub length-with_word : (words : List (List ℕ)) (place : ℕ) (o : Option (List ℕ))
    → length (with_word words place o) ≡ length words
length-with_word words place None = refl
length-with_word words place (Some w) = length-set words place w

pub word_there : (words : List (List ℕ)) (place : ℕ) (o : Option (List ℕ)) → place < length words
    → word_at (with_word words place o) place ≡ unwrap_or o (word_at words place)
word_there words place None l = refl
word_there words place (Some w) l = get_or-set_same words place w [] l

pub word_elsewhere : (words : List (List ℕ)) (place n : ℕ) (o : Option (List ℕ)) → n ≢ place
    → word_at (with_word words place o) n ≡ word_at words n
word_elsewhere words place n None h = refl
word_elsewhere words place n (Some w) h = get_or-set_other words place n w [] h

pub words_set : (words : List (List ℕ)) (i : ℕ) (w : List ℕ) → are_words words ≡ true → are_characters w ≡ true
    → are_words (set words i w) ≡ true
words_set [] i w h c = refl
words_set (x ∷ words) zero w h c =
    and_from (are_characters w) (are_words words) c (and_parts (are_characters x) (are_words words) h).1
words_set (x ∷ words) (suc i) w h c =
    and_from (are_characters x) (are_words (set words i w)) (and_parts (are_characters x) (are_words words) h).0
    (words_set words i w (and_parts (are_characters x) (are_words words) h).1 c)

pub words_with : (words : List (List ℕ)) (place : ℕ) (o : Option (List ℕ)) → are_words words ≡ true
    → IsWord (unwrap_or o (word_at words place)) → are_words (with_word words place o) ≡ true
words_with words place None h c = h
words_with words place (Some w) h c = words_set words place w h c
