-- What a search says of the language, where it comes to a regex with the empty word and where it comes to the end.
use Rattle.std.proofs.Common.{◌≡◌, ℕ, zero, suc, ◌+◌, ◌*◌, ◌<◌, ◌≤◌, inl, inr, Bool, true, false, ◌||◌, nat_eq, ltb, List, [], ◌∷◌, length, refl, sym, ap, subst, ◌∙◌, arith}
use Rattle.std.proofs.lemmas.Bool.{and_parts, false≢true}
use Rattle.std.proofs.lemmas.Bool.Decides.{nat_tests}
use Rattle.std.proofs.lemmas.List.{append-nil}
use Rattle.sb_word.specs.Words.{is_character, are_characters, IsWord}
use Rattle.sb_lang.specs.Regex.{Regex}
use Rattle.sb_lang.specs.Derivative.{nullable, nd, nd_along}
use Rattle.sb_lang.specs.Language.{language}
use Rattle.sb_lang.specs.DerivativeLaws.{NullableHasEmptyWord, DerivativeAlongHasRests}
use Rattle.sb_regex.specs.Numbered.{regex_at, Names}
use Rattle.sb_regex.proofs.CallerLemmas.{names_at, names_below, names_from}
use Rattle.sb_graph.specs.Findings.{is_marked, IsBarren, AreBarren}
use Rattle.sb_lang.specs.Least.{IsShortestLeast, HasNoWord}
use Rattle.sb_graph.specs.Search.{IsMetBy, IsCovered, IsSearched, IsFound, AreMarked}
use Rattle.sb_graph.proofs.Growing.{covered_later}
use Rattle.sb_graph.specs.Queue.{Entry, regex_of, has_regex, word_at, AreWords, rank_from, rank, rank_at}
use Rattle.sb_graph.proofs.Ranks.{rank_grows, rank_short, rank_least}

-- Regexes with marks have no word.

-- the regex that a number names
named_nullable : (rs : List Regex) (n : ℕ) (q : Regex) → Names rs n q → nullable (regex_at rs n) ≡ false
    → nullable q ≡ false
named_nullable rs n q names e = ap nullable (sym (names_at rs n q names)) ∙ e

barren_along : (rs : List Regex) (dead : List Bool) → AreBarren rs dead → (v : List ℕ) (n : ℕ) (q : Regex)
    → Names rs n q → is_marked dead n ≡ true → IsWord v → nullable (nd_along q v) ≡ false
unfolding nd_along
barren_along rs dead barren [] n q names m is = named_nullable rs n q names (barren n m).empty_word
barren_along rs dead barren (c ∷ v) n q names m is =
    let p = and_parts (is_character c) (are_characters v) is in
    let k = (barren n m).closed c p.0 in
    let names' = subst (λ r. Names rs k.number (nd r c)) (names_at rs n q names) k.names in
    barren_along rs dead barren v k.number (nd q c) names' k.marked p.1

-- a word is in the language where the derivative along it has the empty word
pub member_along : NullableHasEmptyWord → DerivativeAlongHasRests → (q : Regex) (v : List ℕ)
    → nullable (nd_along q v) ≡ language q v
member_along empty along q v = empty (nd_along q v) ∙ along q v [] ∙ ap (language q) (append-nil v)

pub marked_has_no_word : NullableHasEmptyWord → DerivativeAlongHasRests → (rs : List Regex) (dead : List Bool) (n : ℕ)
    → AreBarren rs dead → is_marked dead n ≡ true → HasNoWord (language (regex_at rs n))
marked_has_no_word empty along rs dead n barren m v is =
    sym (member_along empty along (regex_at rs n) v)
    ∙ barren_along rs dead barren v n (regex_at rs n) (names_from rs n _ (barren n m).known refl) m is

-- Words that come before those of the places that are not done.
module _ (rs : List Regex) (root : ℕ) (dead : List Bool) (es : List Entry) (place : ℕ) (barren : AreBarren rs dead)
    (s : IsSearched rs root dead es place) where
  -- the derivative by a character is covered too
  covered_next : (q : Regex) (b c : ℕ) → is_character c ≡ true
      → ((j : ℕ) → j < length es → rank_at s.words j ≤ b → j < place) → IsCovered rs dead es s.words q b
      → IsCovered rs dead es s.words (nd q c) (b * 0x30000 + c)
  covered_next q b c h below v = by v.met
    where
      by : IsMetBy dead es s.words v.number b → IsCovered rs dead es s.words (nd q c) (b * 0x30000 + c)
      by (inl m) =
          let k = (barren v.number m).closed c h in
          record {
            number = k.number;
            names = subst (λ r. Names rs k.number (nd r c)) (names_at rs v.number q v.names) k.names;
            met = inl k.marked;
          }
      by (inr m) =
          let d = s.below m.place (below m.place m.within m.soon) m.within in
          let e : regex_at rs (regex_of es m.place) ≡ q = ap (regex_at rs) m.is ∙ names_at rs v.number q v.names in
          subst (λ r. IsCovered rs dead es s.words (nd r c) (b * 0x30000 + c)) e
          (covered_later rs dead es s.words _ (rank_at s.words m.place * 0x30000 + c) (b * 0x30000 + c)
          (omega (arith, m.soon)) (d.covered c h))

  covered_empty : (q : Regex) (b : ℕ) → ((j : ℕ) → j < length es → rank_at s.words j ≤ b
      → nullable (regex_at rs (regex_of es j)) ≡ false) → IsCovered rs dead es s.words q b → nullable q ≡ false
  covered_empty q b tested v = by v.met
    where
      by : IsMetBy dead es s.words v.number b → nullable q ≡ false
      by (inl m) = named_nullable rs v.number q v.names (barren v.number m).empty_word
      by (inr m) = named_nullable rs v.number q v.names (ap (λ n. nullable (regex_at rs n)) (sym m.is)
          ∙ tested m.place m.within m.soon)

  pub rejected : (v : List ℕ) (q : Regex) (b : ℕ) → IsWord v
      → ((j : ℕ) → j < length es → rank_at s.words j * 0x30000 ≤ rank_from b v → j < place)
      → ((j : ℕ) → j < length es → rank_at s.words j ≤ rank_from b v → nullable (regex_at rs (regex_of es j)) ≡ false)
      → IsCovered rs dead es s.words q b → nullable (nd_along q v) ≡ false
  unfolding nd_along rank_from
  rejected [] q b is below tested k = covered_empty q b tested k
  rejected (c ∷ v) q b is below tested k =
      let p = and_parts (is_character c) (are_characters v) is in
      let g = rank_grows (b * 0x30000 + c) v in
      rejected v (nd q c) (b * 0x30000 + c) p.1 below tested
      (covered_next q b c p.0 (λ j h l. below j h (omega (arith, l, g))) k)

  pub root_covered : IsCovered rs dead es s.words (regex_at rs root) 1
  unfolding nd_along rank_from
  root_covered = record {
    number = regex_of es 0;
    names = subst (λ w. Names rs (regex_of es 0) (nd_along (regex_at rs root) w)) s.reached.words_are.first
        (s.reached.along 0 s.reached.some);
    met = inr (record {
      place = 0;
      within = s.reached.some;
      is = refl;
      soon = subst (λ w. rank w ≤ 1) (sym s.reached.words_are.first) (omega arith);
    });
  }

  earlier : (k : ℕ) → k < length es → (j : ℕ) → j < length es → rank_at s.words j < rank_at s.words k → j < k
  earlier k within j h l = by (ltb j k) refl
    where
      by : (t : Bool) → ltb j k ≡ t → j < k
      by true t = grind (arith, nat_tests, t)
      by false t = absurd (by' (nat_eq j k) refl (let x : k ≤ j = grind (arith, nat_tests, t) in x))
        where
          by' : (t : Bool) → nat_eq j k ≡ t → k ≤ j → ⊥
          by' true t x = let e : j ≡ k = grind (arith, nat_tests, t) in omega (arith, l, ap (rank_at s.words) e)
          by' false t x =
              let m : k < j = grind (arith, nat_tests, t, x) in
              omega (arith, l, s.reached.ascending k j m h)

  -- a place whose successors come before another one is done
  done_before : (k : ℕ) → k < length es → (j : ℕ) → j < length es
      → rank_at s.words j * 0x30000 < rank_at s.words k → j < place
  done_before k within j h l = by (ltb j place) refl
    where
      by : (t : Bool) → ltb j place ≡ t → j < place
      by true t = grind (arith, nat_tests, t)
      by false t = absurd (by' (nat_eq place j) refl (let x : place ≤ j = grind (arith, nat_tests, t) in x))
        where
          by' : (t : Bool) → nat_eq place j ≡ t → place ≤ j → ⊥
          by' true t x =
              let e : place ≡ j = grind (arith, nat_tests, t) in
              omega (arith, l, s.near (omega (arith, x, h)) k within, ap (rank_at s.words) e)
          by' false t x =
              let m : place < j = grind (arith, nat_tests, t, x) in
              omega (arith, l, s.near (omega (arith, x, h)) k within, s.reached.ascending place j m h)

-- the word of a place with the empty word is the least
module _ (empty : NullableHasEmptyWord) (along : DerivativeAlongHasRests) (rs : List Regex) (root : ℕ)
    (dead : List Bool) (es : List Entry) (old new : List ℕ) (place : ℕ)
    (barren : AreBarren rs dead) (f : IsFound rs root dead es old new place) where
  abbrev words : List (List ℕ)
  words = f.searched.words

  found_member : language (regex_at rs root) (word_at words place) ≡ true
  found_member =
      let n = names_at rs (regex_of es place) _ (f.searched.reached.along place f.within) in
      sym (member_along empty along (regex_at rs root) (word_at words place)) ∙ ap nullable (sym n) ∙ f.empty_word

  found_least : (v : List ℕ) → IsWord v → language (regex_at rs root) v ≡ true → rank v < rank_at words place → ⊥
  found_least v is h l =
      let r = rejected rs root dead es f.done barren f.searched v (regex_at rs root) 1 is
      (λ j m k. done_before rs root dead es f.done barren f.searched place f.within j m (omega (arith, k, l)))
      (λ j m k. f.before j (earlier rs root dead es f.done barren f.searched place f.within j m (omega (arith, k, l))))
      (root_covered rs root dead es f.done barren f.searched) in
      false≢true (sym r ∙ member_along empty along (regex_at rs root) v ∙ h)

  pub found_is : (w : List ℕ) → IsWord w → ((ws : List (List ℕ)) → AreWords es ws → w ≡ word_at ws place)
      → IsShortestLeast (language (regex_at rs root)) w
  found_is w is e =
      let k = sym (e words f.searched.reached.words_are) in
      subst (IsShortestLeast (language (regex_at rs root))) k (record {
        word = subst IsWord (sym k) is;
        member = found_member;
        shortest = λ v h m. shorter v h m;
        least = λ v h m l c. found_least v h m (rank_least 1 v (word_at words place) l h c);
      })
    where
      shorter : (v : List ℕ) → IsWord v → language (regex_at rs root) v ≡ true → length (word_at words place) ≤ length v
      shorter v h m = by (ltb (length v) (length (word_at words place))) refl
        where
          by : (t : Bool) → ltb (length v) (length (word_at words place)) ≡ t → length (word_at words place) ≤ length v
          by true t = absurd (found_least v h m
              (rank_short 1 1 v (word_at words place) (omega arith) (grind (arith, nat_tests, t)) h))
          by false t = grind (arith, nat_tests, t)

-- A search that came to the end: with the marks on its queue all marks are right.

has_place : (es : List Entry) (n : ℕ) → has_regex es n ≡ true → (k : ℕ) × (k < length es) × (regex_of es k ≡ n)
has_place [] n h = absurd (false≢true h)
has_place (e ∷ es) n h = by (nat_eq n e.0) refl (λ g. has_place es n g)
  where
    by : (b : Bool) → nat_eq n e.0 ≡ b → (has_regex es n ≡ true → (k : ℕ) × (k < length es) × (regex_of es k ≡ n))
        → (k : ℕ) × (k < length (e ∷ es)) × (regex_of (e ∷ es) k ≡ n)
    by true t rest = (0, (omega arith), (grind (arith, nat_tests, t)))
    by false t rest =
        let f = rest (sym (ap (λ b. b || has_regex es n) t) ∙ h) in
        (suc f.0, (omega (arith, f.1)), f.2)

place_has : (es : List Entry) (k : ℕ) → k < length es → has_regex es (regex_of es k) ≡ true
place_has [] k h = absurd (omega arith)
place_has (e ∷ es) zero h = let t : nat_eq e.0 e.0 ≡ true = grind (arith, nat_tests) in
    ap (λ b. b || has_regex es e.0) t
place_has (e ∷ es) (suc k) h = or_true (nat_eq (regex_of es k) e.0) (place_has es k (omega (arith, h)))
  where
    or_true : (b : Bool) {c : Bool} → c ≡ true → (b || c) ≡ true
    or_true true h = refl
    or_true false h = h

module _ (rs : List Regex) (root : ℕ) (dead new : List Bool) (es : List Entry) (barren : AreBarren rs dead)
    (s : IsSearched rs root dead es (length es)) (marked : AreMarked dead es new) where
  mark_kept : (n : ℕ) → is_marked dead n ≡ true → is_marked new n ≡ true
  mark_kept n m = marked n ∙ ap (λ b. b || has_regex es n) m

  mark_place : (k : ℕ) → k < length es → is_marked new (regex_of es k) ≡ true
  mark_place k h = marked (regex_of es k) ∙ by (is_marked dead (regex_of es k)) (place_has es k h)
    where
      by : (b : Bool) {c : Bool} → c ≡ true → (b || c) ≡ true
      by true h = refl
      by false h = h

  pub end_keeps : (n : ℕ) → is_marked dead n ≡ true → is_marked new n ≡ true
  end_keeps = mark_kept

  pub end_root : is_marked new root ≡ true
  end_root = subst (λ n. is_marked new n ≡ true) s.reached.first (mark_place 0 s.reached.some)

  met_marked : (n most : ℕ) → IsMetBy dead es s.words n most → is_marked new n ≡ true
  met_marked n most (inl m) = mark_kept n m
  met_marked n most (inr m) = subst (λ n. is_marked new n ≡ true) m.is (mark_place m.place m.within)

  barren_place : (k : ℕ) → k < length es → IsBarren rs new (regex_of es k)
  barren_place k h =
      let d = s.below k h h in
      record {
        known = names_below rs (regex_of es k) _ (s.reached.along k h);
        empty_word = d.empty_word;
        closed = λ c l. let v = d.covered c l in
            record { number = v.number; names = v.names; marked = met_marked v.number _ v.met };
      }

  barren_old : (n : ℕ) → is_marked dead n ≡ true → IsBarren rs new n
  barren_old n m =
      let b = barren n m in
      record {
        known = b.known;
        empty_word = b.empty_word;
        closed = λ c l. let k = b.closed c l in
            record { number = k.number; names = k.names; marked = mark_kept k.number k.marked };
      }

  pub end_barren : AreBarren rs new
  end_barren n m = by (is_marked dead n) refl
    where
      by : (t : Bool) → is_marked dead n ≡ t → IsBarren rs new n
      by true t = barren_old n t
      by false t =
          let f = has_place es n (sym (ap (λ b. b || has_regex es n) t) ∙ sym (marked n) ∙ m) in
          subst (IsBarren rs new) f.2 (barren_place f.0 f.1)
