-- The steps of the functions, over lists.
use Rattle.std.proofs.Common.{◌≡◌, ℕ, zero, suc, ◌+◌, ◌<◌, ◌≤◌, Bool, true, false, cond, ◌||◌, nat_eq, is_some, Some, List, [], ◌∷◌, ◌++◌, length, get_or, take, drop, map, ◌-◌, reverse, slice_get, refl, sym, ap, subst, ◌∙◌, arith}
use Rattle.std.proofs.Math.ListN.{get_or-map}
use Rattle.std.proofs.lemmas.Bool.{and_parts, true≢false}
use Rattle.std.proofs.lemmas.Bool.Decides.{nat_tests}
use Rattle.std.proofs.lemmas.List.{at_drop_more, at_drop_all, append_assoc, reverse-append, length-map, length-drop, length-take-le}
use Rattle.std.proofs.lemmas.Grind.{get_or_default_zero}
use Rattle.std.proofs.lemmas.Option.{get_or_from_slice_get}
use Rattle.std.specs.List.{All}
use Rattle.std.specs.Map.{lookup}
use Rattle.indexmap.specs.IndexMap.{insert_entry}
use Rattle.sb_word.specs.Words.{is_character, are_characters, IsWord}
use Rattle.sb_lang.specs.Regex.{Regex, none, alt, regexes}
use Rattle.sb_lang.specs.Derivative.{nullable}
use Rattle.sb_regex.specs.Numbered.{regex_at, regexes_at, AllNumbers, Extends}
use Rattle.sb_members.proofs.CallerLemmas.{split_kept, split_none, split_alt, split_one}
use Rattle.sb_deriv.specs.Pieces.{targets_of}
use Rattle.sb_graph.specs.Queue.{Entry, entry_at, regex_of, has_regex, with_entry, with_each, word_at, AreWords, LeadsBy, AreTested}
use Rattle.sb_members.specs.Members.{IsSplit}
use Rattle.sb_graph.specs.Edges.{IsPut, Puts}

-- The queue.

found_or_not : (n : ℕ) (es : List Entry) → is_some (lookup (nat_eq n) es) ≡ has_regex es n
found_or_not n [] = refl
found_or_not n (e ∷ es) = by (nat_eq n e.0) (found_or_not n es)
  where
    by : (b : Bool) → is_some (lookup (nat_eq n) es) ≡ has_regex es n
        → is_some (cond b (Some e.1) (lookup (nat_eq n) es)) ≡ (b || has_regex es n)
    by true h = refl
    by false h = h

inserted_new : (n : ℕ) (v : ℕ × ℕ) (es : List Entry) → has_regex es n ≡ false
    → insert_entry nat_eq es n v ≡ es ++ (n, v) ∷ []
inserted_new n v [] h = refl
inserted_new n v (e ∷ es) h = by (nat_eq n e.0) h (inserted_new n v es)
  where
    by : (b : Bool) → (b || has_regex es n) ≡ false
        → (has_regex es n ≡ false → insert_entry nat_eq es n v ≡ es ++ (n, v) ∷ []) →
        cond b ((e.0, v) ∷ es) (e ∷ insert_entry nat_eq es n v) ≡ e ∷ (es ++ (n, v) ∷ [])
    by true h rest = absurd (true≢false h)
    by false h rest = ap (λ es. e ∷ es) (rest h)

pub put_new : (old es after : List Entry) (n : ℕ) (v : ℕ × ℕ) → es ≡ old → is_some (lookup (nat_eq n) es) ≡ false
    → after ≡ insert_entry nat_eq es n v → after ≡ with_entry old (n, v)
put_new old es after n v is h e =
    let f = sym (found_or_not n es) ∙ h in
    e ∙ inserted_new n v es f ∙ ap (λ es. es ++ (n, v) ∷ []) is
    ∙ sym (ap (λ b. cond b old (old ++ (n, v) ∷ [])) (ap (λ es. has_regex es n) (sym is) ∙ f))

pub put_old : (old es : List Entry) (n : ℕ) (v : ℕ × ℕ) → es ≡ old → is_some (lookup (nat_eq n) es) ≡ true
    → old ≡ with_entry old (n, v)
put_old old es n v is h =
    let f = sym (found_or_not n es) ∙ h in
    sym (ap (λ b. cond b old (old ++ (n, v) ∷ [])) (ap (λ es. has_regex es n) (sym is) ∙ f))

pub entry_is : (es : List Entry) (k : ℕ) (e : Entry) → slice_get es k ≡ Some e → entry_at es k ≡ e
entry_is es k e h = get_or_from_slice_get es k e (0, (0, 0)) h

pub put_more : (way : ℕ × ℕ) (es es' goal : List Entry) (ns : List ℕ) (i n : ℕ) → i < length ns → n ≡ get_or ns i n
    → es' ≡ with_entry es (n, way) → with_each way es (drop i ns) ≡ goal → with_each way es' (drop (i + 1) ns) ≡ goal
unfolding with_each
put_more way es es' goal ns i n l is e h =
    ap (λ es. with_each way es (drop (i + 1) ns)) e
    ∙ sym (at_drop_more (with_each way es) ns i n l ∙ ap (λ x. with_each way es (x ∷ drop (i + 1) ns)) (sym is))
    ∙ h

pub put_all : (way : ℕ × ℕ) (es goal : List Entry) (ns : List ℕ) (i : ℕ) → length ns ≤ i
    → with_each way es (drop i ns) ≡ goal → es ≡ goal
unfolding with_each
put_all way es goal ns i l h = sym (at_drop_all (with_each way es) ns i l) ∙ h

-- Edges.

-- the edge leads to a number
pub target_known : (rs : List Regex) (edges : List (ℕ × ℕ)) (i : ℕ) (e : ℕ × ℕ) → i < length edges
    → e ≡ get_or edges i e → AllNumbers rs (targets_of edges) → e.1 < length rs
target_known rs edges i e l is h =
    subst (λ n. n < length rs) (get_or-map (λ p. p.1) edges i e ∙ ap (λ p. p.1) (sym is))
    (h i e.1 (omega (arith, l, length-map edges (λ p. p.1))))

-- the states of places are numbers
pub numbers_all : (rs : List Regex) (es : List Entry) (ns : List ℕ) → ns ≡ map (λ e. e.0) es
    → ((k : ℕ) → k < length es → regex_of es k < length rs) → AllNumbers rs ns
numbers_all rs es ns is h k d l =
    let long : length ns ≡ length es = ap length is ∙ length-map es (λ e. e.0) in
    subst (λ n. n < length rs) (sym (get_or_default_zero ns k d l ∙ ap (λ ns. get_or ns k 0) is
    ∙ get_or-map (λ e. e.0) es k (0, (0, 0))))
    (h k (omega (arith, l, long)))

pub run_long : (es : List Entry) (place end : ℕ) → place < end → end ≤ length es
    → length (take (end - place) (drop place (map (λ e. e.0) es))) ≡ end - place
run_long es place end l m =
    length-take-le (end - place) (drop place (map (λ e. e.0) es))
    (omega (arith, l, m, length-drop place (map (λ e. e.0) es), length-map es (λ e. e.0)))

pub puts_more : (rs : List Regex) (place : ℕ) (edges : List (ℕ × ℕ)) (i : ℕ) (e : ℕ × ℕ) (es es' end : List Entry)
    → i < length edges → e ≡ get_or edges i e → IsPut rs e.1 (place, e.0) es es'
    → Puts rs place (drop (i + 1) edges) es' end → Puts rs place (drop i edges) es end
puts_more rs place edges i e es es' end l is put rest =
    subst (λ xs. Puts rs place xs es end)
    (sym (at_drop_more (λ xs. xs) edges i e l ∙ ap (λ x. x ∷ drop (i + 1) edges) (sym is)))
    (es', put, rest)

pub puts_all : (rs : List Regex) (place : ℕ) (edges : List (ℕ × ℕ)) (i : ℕ) (es : List Entry) → length edges ≤ i
    → Puts rs place (drop i edges) es es
puts_all rs place edges i es l =
    subst (λ xs. Puts rs place xs es es) (sym (at_drop_all (λ xs. xs) edges i l)) refl

-- Splits.

pub put_kept : (old new : List Regex) → Extends old new → (t : ℕ) (way : ℕ × ℕ) (es es' : List Entry)
    → t < length old → IsPut old t way es es' → IsPut new t way es es'
put_kept old new more t way es es' l p =
    record { members = p.members; split = split_kept old new more t p.members l p.split; is = p.is }

pub put_members : (rs : List Regex) (t : ℕ) (way : ℕ × ℕ) (es es' : List Entry) (ns ms : List ℕ) → IsSplit rs t ns
    → ms ≡ ns → es' ≡ with_each way es ms → IsPut rs t way es es'
put_members rs t way es es' ns ms s same is =
    record { members = ns; split = s; is = is ∙ ap (with_each way es) same }

pub put_none : (rs : List Regex) (t : ℕ) (way : ℕ × ℕ) (es : List Entry) → none ≡ regex_at rs t → IsPut rs t way es es
unfolding with_each
put_none rs t way es e = record { members = []; split = split_none rs t e; is = refl }

pub put_alt : (rs : List Regex) (t : ℕ) (way : ℕ × ℕ) (es es' : List Entry) (ns ms : List ℕ) → t < length rs
    → All (λ n. n < t) ns → alt (regexes (regexes_at rs ns)) ≡ regex_at rs t → ms ≡ ns → es' ≡ with_each way es ms
    → IsPut rs t way es es'
put_alt rs t way es es' ns ms l below e same is =
    record { members = ns; split = split_alt rs t ns l below e; is = is ∙ ap (with_each way es) same }

pub put_one : (rs : List Regex) (t : ℕ) (way : ℕ × ℕ) (es es' : List Entry) → t < length rs
    → es' ≡ with_entry es (t, way) → IsPut rs t way es es'
unfolding with_each
put_one rs t way es es' l is = record { members = t ∷ []; split = split_one rs t l; is = is }

-- Regexes with the empty word.

pub item_nullable : (rs : List Regex) (ns : List ℕ) (k n : ℕ) (a b : Bool) → k < length ns → n ≡ get_or ns k n
    → a ≡ nullable (regex_at rs n) → a ≡ b → nullable (regex_at rs (get_or ns k 0)) ≡ b
item_nullable rs ns k n a b l is e h =
    ap (λ n. nullable (regex_at rs n)) (sym (is ∙ get_or_default_zero ns k n l)) ∙ sym e ∙ h

pub tested_more : (rs : List Regex) (ns : List ℕ) (from place : ℕ) → AreTested rs ns from place
    → nullable (regex_at rs (get_or ns place 0)) ≡ false → AreTested rs ns from (place + 1)
tested_more rs ns from place h e k f l = by (nat_eq k place) refl
  where
    by : (b : Bool) → nat_eq k place ≡ b → nullable (regex_at rs (get_or ns k 0)) ≡ false
    by true t =
        let is : place ≡ k = grind (arith, nat_tests, t) in
        subst (λ k. nullable (regex_at rs (get_or ns k 0)) ≡ false) is e
    by false t = h k f (grind (arith, nat_tests, t, l))

-- The word of a place.

-- the numbers of a word are all characters
pub none_outside : (codes : List ℕ) (place code : ℕ) → IsWord codes → slice_get codes place ≡ Some code
    → is_character code ≡ false → ⊥
none_outside [] place code is h out = cc
none_outside (c ∷ codes) zero code is h out =
    let p = and_parts (is_character c) (are_characters codes) is in
    let same : c ≡ code = cc in
    true≢false (sym p.0 ∙ ap is_character same ∙ out)
none_outside (c ∷ codes) (suc place) code is h out =
    none_outside codes place code (and_parts (is_character c) (are_characters codes) is).1 h out

pub word_read : (es : List Entry) (place : ℕ) (codes : List ℕ) → LeadsBy IsWord es place
    → ((words : List (List ℕ)) → AreWords es words → word_at words place ≡ word_at words 0 ++ codes) → IsWord codes
word_read es place codes l h =
    subst IsWord (h l.words l.are ∙ ap (λ w. w ++ codes) l.are.first) l.is

pub word_back : (es : List Entry) (words : List (List ℕ)) (place k : ℕ) (e : Entry) (codes codes' : List ℕ)
    → AreWords es words → 0 < k → k < length es → entry_at es k ≡ e →
    codes' ≡ codes ++ e.1.1 ∷ [] → word_at words place ≡ word_at words k ++ reverse codes
    → word_at words place ≡ word_at words e.1.0 ++ reverse codes'
word_back es words place k e codes codes' w p l is more h =
    h
    ∙ ap (λ u. u ++ reverse codes) (w.next k p l ∙ ap (λ e. word_at words e.1.0 ++ e.1.1 ∷ []) is)
    ∙ append_assoc (word_at words e.1.0) (e.1.1 ∷ []) (reverse codes)
    ∙ ap (λ u. word_at words e.1.0 ++ u) (sym (ap reverse more ∙ reverse-append codes (e.1.1 ∷ [])))
