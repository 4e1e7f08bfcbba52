-- The steps of the functions, over lists.
use Rattle.std.proofs.Common.{◌≡◌, ℕ, zero, suc, ◌+◌, ◌<◌, ◌≤◌, Bool, true, false, cond, ◌||◌, nat_eq, is_some, unwrap_or, Some, List, [], ◌∷◌, ◌++◌, length, get_or, set, take, drop, replicate, map, refl, sym, ap, subst, ◌∙◌, arith}
use Rattle.std.proofs.Math.Bool.{or-false}
use Rattle.std.proofs.lemmas.Bool.{true≢false, false_from_ne_true}
use Rattle.std.proofs.lemmas.Bool.Decides.{nat_tests}
use Rattle.std.proofs.lemmas.List.{at_drop_more, at_drop_all, get_or-set_same, get_or-set_other, length-set}
use Rattle.std.specs.List.{list_any}
use Rattle.std.specs.Map.{lookup}
use Rattle.sb_word.specs.Words.{IsWord}
use Rattle.sb_lang.specs.Regex.{Regex}
use Rattle.sb_lang.specs.Derivative.{nd_along}
use Rattle.sb_lang.specs.Language.{language}
use Rattle.sb_lang.specs.Least.{IsShortestLeast}
use Rattle.sb_regex.specs.Numbered.{regex_at, Names}
use Rattle.sb_regex.proofs.CallerLemmas.{names_from}
use Rattle.sb_graph.specs.Findings.{Findings, Answers, is_marked, answer_of, is_settled, IsAnswer, AreAnswers}
use Rattle.sb_graph.specs.Visiting.{visited, with_marks}
use Rattle.sb_graph.specs.Search.{IsSearched, AreMarked}
use Rattle.sb_graph.specs.Queue.{Entry, regex_of, has_regex, with_entry, word_at, rank_from, rank_at}

-- The queue.

found_or_not : (n : ℕ) (es : List Entry) → is_some (lookup (nat_eq n) es) ≡ has_regex es n
found_or_not n [] = refl
found_or_not n (e ∷ es) = by (nat_eq n e.0) (found_or_not n es)
  where
    by : (b : Bool) → is_some (lookup (nat_eq n) es) ≡ has_regex es n
        → is_some (cond b (Some e.1) (lookup (nat_eq n) es)) ≡ (b || has_regex es n)
    by true h = refl
    by false h = h

-- One piece of a derivative.

pub visit_more : (dead : List Bool) (place : ℕ) (es es' goal : List Entry) (ps : List (ℕ × ℕ)) (i : ℕ) (p : ℕ × ℕ)
    (m : Bool) → i < length ps → p ≡ get_or ps i p → m ≡ is_marked dead p.1 →
    es' ≡ cond m es (with_entry es (p.1, (place, p.0))) → visited dead place es (drop i ps) ≡ goal
    → visited dead place es' (drop (i + 1) ps) ≡ goal
unfolding visited
visit_more dead place es es' goal ps i p m l is t e h =
    ap (λ es. visited dead place es (drop (i + 1) ps)) (e ∙ ap (λ b. cond b es (with_entry es (p.1, (place, p.0)))) t)
    ∙ sym (at_drop_more (visited dead place es) ps i p l
    ∙ ap (λ x. visited dead place es (x ∷ drop (i + 1) ps)) (sym is))
    ∙ h

pub visit_all : (dead : List Bool) (place : ℕ) (es goal : List Entry) (ps : List (ℕ × ℕ)) (i : ℕ) → length ps ≤ i
    → visited dead place es (drop i ps) ≡ goal → es ≡ goal
unfolding visited
visit_all dead place es goal ps i l h = sym (at_drop_all (visited dead place es) ps i l) ∙ h

-- Marks.

pub mark_more : (dead goal : List Bool) (ns : List ℕ) (i n k : ℕ) → i < length ns → n ≡ get_or ns i n → k ≡ n
    → with_marks dead (drop i ns) ≡ goal → with_marks (set dead k true) (drop (i + 1) ns) ≡ goal
unfolding with_marks
mark_more dead goal ns i n k l is e h =
    ap (λ k. with_marks (set dead k true) (drop (i + 1) ns)) e
    ∙ sym (at_drop_more (with_marks dead) ns i n l ∙ ap (λ x. with_marks dead (x ∷ drop (i + 1) ns)) (sym is))
    ∙ h

pub mark_all : (dead goal : List Bool) (ns : List ℕ) (i : ℕ) → length ns ≤ i → with_marks dead (drop i ns) ≡ goal
    → dead ≡ goal
unfolding with_marks
mark_all dead goal ns i l h = sym (at_drop_all (with_marks dead) ns i l) ∙ h

not_marked : (k n : ℕ) → is_marked (replicate k false) n ≡ false
not_marked zero n = refl
not_marked (suc k) zero = refl
not_marked (suc k) (suc n) = not_marked k n

-- a list of marks of another length has the same marks, if those are below it
resized : (old : List Bool) (len k n : ℕ) → (is_marked old n ≡ true → n < len)
    → is_marked (take len old ++ replicate k false) n ≡ is_marked old n
resized [] zero k n h = not_marked k n
resized [] (suc len) k n h = not_marked k n
resized (b ∷ old) zero k n h =
    not_marked k n ∙ sym (false_from_ne_true (is_marked (b ∷ old) n) (λ m. let l = h m in omega (arith, l)))
resized (b ∷ old) (suc len) k zero h = refl
resized (b ∷ old) (suc len) k (suc n) h = resized old len k n (λ m. let l = h m in omega (arith, l))

or_swap : (a b c : Bool) → ((a || b) || c) ≡ (b || (a || c))
or_swap true true c = refl
or_swap true false c = refl
or_swap false true c = refl
or_swap false false c = refl

set_marked : (dead : List Bool) (k n : ℕ) → k < length dead
    → is_marked (set dead k true) n ≡ (nat_eq n k || is_marked dead n)
set_marked dead k n l = by (nat_eq n k) refl
  where
    by : (b : Bool) → nat_eq n k ≡ b → is_marked (set dead k true) n ≡ (b || is_marked dead n)
    by true t =
        let e : k ≡ n = grind (arith, nat_tests, t) in
        subst (λ m. is_marked (set dead k true) m ≡ true) e (get_or-set_same dead k true false l)
    by false t = get_or-set_other dead k n true false (λ e. let x : nat_eq n k ≡ true = grind (arith, nat_tests, e) in
        true≢false (sym x ∙ t))

with_marks_has : (dead : List Bool) (ns : List ℕ) (n : ℕ) → ((k : ℕ) → k < length ns → get_or ns k 0 < length dead)
    → is_marked (with_marks dead ns) n ≡ (is_marked dead n || list_any (nat_eq n) ns)
unfolding with_marks
with_marks_has dead [] n h = sym (or-false (is_marked dead n))
with_marks_has dead (k ∷ ns) n h =
    with_marks_has (set dead k true) ns n (λ j l. let x = h (suc j) (omega (arith, l)) in
    omega (arith, x, length-set dead k true))
    ∙ ap (λ b. b || list_any (nat_eq n) ns) (set_marked dead k n (h 0 (omega arith)))
    ∙ or_swap (nat_eq n k) (is_marked dead n) (list_any (nat_eq n) ns)

any_regex : (n : ℕ) (es : List Entry) → list_any (nat_eq n) (map (λ e. e.0) es) ≡ has_regex es n
any_regex n [] = refl
any_regex n (e ∷ es) = ap (λ b. nat_eq n e.0 || b) (any_regex n es)

pub regexes_below : (es : List Entry) (ns : List ℕ) (len : ℕ) → ns ≡ map (λ e. e.0) es
    → ((k : ℕ) → k < length es → regex_of es k < len) → (k : ℕ) → k < length ns → get_or ns k 0 < len
regexes_below es ns len is h = subst (λ ns. (k : ℕ) → k < length ns → get_or ns k 0 < len) (sym is) (go es h)
  where
    go : (es : List Entry) → ((k : ℕ) → k < length es → regex_of es k < len) → (k : ℕ) → k < length (map (λ e. e.0) es)
        → get_or (map (λ e. e.0) es) k 0 < len
    go [] h k l = absurd (omega (arith, l))
    go (e ∷ es) h zero l = h 0 (omega arith)
    go (e ∷ es) h (suc k) l = go es (λ k l. h (suc k) (omega (arith, l))) k (omega (arith, l))

pub buried : (old made new : List Bool) (es : List Entry) (ns : List ℕ) (len more : ℕ)
    → made ≡ take len old ++ replicate more false → length made ≡ len → ns ≡ map (λ e. e.0) es →
    ((k : ℕ) → k < length es → regex_of es k < len) → ((n : ℕ) → is_marked old n ≡ true → n < len)
    → new ≡ with_marks made ns → AreMarked old es new
buried old made new es ns len more e l is known marks is_new n =
    let below = regexes_below es ns len is known in
    ap (λ dead. is_marked dead n) is_new
    ∙ with_marks_has made ns n (λ k h. let x = below k h in omega (arith, x, l))
    ∙ ap (λ b. b || list_any (nat_eq n) ns) (ap (λ dead. is_marked dead n) e ∙ resized old len more n (marks n))
    ∙ ap (λ b. is_marked old n || b) (ap (list_any (nat_eq n)) is ∙ any_regex n es)

-- The start of a search.

one_place : (k : ℕ) → k < 1 → k ≡ 0
one_place k h = omega (arith, h)

start : (rs : List Regex) (dead : List Bool) (root : ℕ) → root < length rs
    → IsSearched rs root dead ((root, (0, 0)) ∷ []) 0
unfolding nd_along rank_from
start rs dead root l = record {
  words = [] ∷ [];
  reached = record {
    back = λ k p h. absurd (omega (arith, p, h));
    words_are = record { long = refl; first = refl; next = λ k p h. absurd (omega (arith, p, h)) };
    some = omega arith;
    first = refl;
    characters = λ k h. subst (λ k. IsWord (word_at ([] ∷ []) k)) (sym (one_place k h)) refl;
    along = λ k h. subst (λ k. Names rs (regex_of ((root, (0, 0)) ∷ []) k)
        (nd_along (regex_at rs root) (word_at ([] ∷ []) k))) (sym (one_place k h)) (names_from rs root _ l refl);
    ascending = λ j k h m. absurd (omega (arith, h, m));
  };
  below = λ k h m. absurd (omega (arith, h));
  near = λ h j m. subst (λ j. rank_at ([] ∷ []) j < 0x30000) (sym (one_place j m)) (omega arith);
}

pub started : (rs : List Regex) (dead : List Bool) (es : List Entry) (root : ℕ) → es ≡ (root, (0, 0)) ∷ []
    → root < length rs → IsSearched rs root dead es 0
started rs dead es root e l = subst (λ es. IsSearched rs root dead es 0) (sym e) (start rs dead root l)

-- One more word that is kept.

pub answers_with : (rs : List Regex) (old new : Answers) (n : ℕ) (w : List ℕ)
    → ((q : ℕ) → answer_of new q ≡ cond (nat_eq n q) (Some w) (answer_of old q)) → n < length rs
    → IsShortestLeast (language (regex_at rs n)) w → AreAnswers rs old → AreAnswers rs new
answers_with rs old new n w is known least answers q v h = by (nat_eq n q) refl
  where
    by : (b : Bool) → nat_eq n q ≡ b → IsAnswer rs q v
    by true t =
        let same : n ≡ q = grind (arith, nat_tests, t) in
        let e : w ≡ v = ap (λ o. unwrap_or o w)
        (sym (ap (λ b. cond b (Some w) (answer_of old q)) t) ∙ sym (is q) ∙ h) in
        subst (λ q. IsAnswer rs q v) same
        (record { known = known; least = subst (IsShortestLeast (language (regex_at rs n))) e least })
    by false t = answers q v (sym (ap (λ b. cond b (Some w) (answer_of old q)) t) ∙ sym (is q) ∙ h)

pub settled_by : (g : Findings) (n : ℕ) → is_marked g.dead n ≡ true → is_settled g n ≡ true
settled_by g n h = ap (λ b. b || is_some (answer_of g.answers n)) h
