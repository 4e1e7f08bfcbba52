-- The words that regexes have in common.
use Rattle.sb_decide.proofs.Words.{◌≡◌, ◌≢◌, ℕ, ◌<◌, true, ◌&&◌, List, [], ◌∷◌, ◌++◌, length, refl, sym, ap, ◌∙◌, arith, All-head, All-tail, AllNumbers, Extends, HasNoWord, IntersectionIsOfEach, IsShortestLeast, IsWord, Language, MkandKeepsLanguage, Names, Regex, and-true, and_assoc, are_characters, at_kept, in_each, language, list_all, mkand, names_at, regex_at, regexes_at, nat_cmp, slice_cmp}
use Rattle.std.specs.declared.cmp.Ordering.TheVariants.{Less}

pub in_each-append : (rs : List Regex) (ids : List ℕ) (id : ℕ) (w : List ℕ)
    → in_each rs (ids ++ id ∷ []) w ≡ (in_each rs ids w && language (regex_at rs id) w)
in_each-append rs [] id w = and-true (language (regex_at rs id) w)
in_each-append rs (i ∷ ids) id w = ap (λ b. language (regex_at rs i) w && b) (in_each-append rs ids id w)
    ∙ sym (and_assoc (language (regex_at rs i) w) (in_each rs ids w) (language (regex_at rs id) w))

pub in_each_kept : (old new : List Regex) (ids : List ℕ) (w : List ℕ) → Extends old new → AllNumbers old ids
    → in_each new ids w ≡ in_each old ids w
in_each_kept old new [] w e k = refl
in_each_kept old new (i ∷ ids) w e k =
    rw (at_kept old new i e (All-head (λ j. j < length old) i ids k))
    (ap (λ b. language (regex_at old i) w && b)
    (in_each_kept old new ids w e (All-tail (λ j. j < length old) i ids k)))

all_of_regexes : (rs : List Regex) (ids : List ℕ) (w : List ℕ)
    → list_all (λ r. language r w) (regexes_at rs ids) ≡ in_each rs ids w
all_of_regexes rs [] w = refl
all_of_regexes rs (i ∷ ids) w = ap (λ b. language (regex_at rs i) w && b) (all_of_regexes rs ids w)

-- the intersection has these words
pub in_intersection : MkandKeepsLanguage → IntersectionIsOfEach → (rs : List Regex) (ids : List ℕ) (w : List ℕ)
    → in_each rs ids w ≡ language (mkand (regexes_at rs ids)) w
in_intersection keeps each rs ids w =
    sym (keeps (regexes_at rs ids) w ∙ (each (regexes_at rs ids) w ∙ all_of_regexes rs ids w))

-- two languages with the same words have the same least word
pub same_least : (L M : Language) (v : List ℕ) → ((w : List ℕ) → IsWord w → M w ≡ L w) → IsShortestLeast L v
    → IsShortestLeast M v
same_least L M v same l = record {
  word = l.word;
  member = same v l.word ∙ l.member;
  shortest = λ u c h. l.shortest u c (sym (same u c) ∙ h);
  least = λ u c h e. l.least u c (sym (same u c) ∙ h) e;
}

pub same_no_word : (L M : Language) → ((w : List ℕ) → IsWord w → M w ≡ L w) → HasNoWord L → HasNoWord M
same_no_word L M same none = λ w c. same w c ∙ none w c

-- a regex that is the intersection has these words
pub in_root : MkandKeepsLanguage → IntersectionIsOfEach → (old new : List Regex) (ids : List ℕ) (root : ℕ)
    → Names new root (mkand (regexes_at old ids)) → (w : List ℕ) → in_each old ids w ≡ language (regex_at new root) w
in_root keeps each old new ids root names w = in_intersection keeps each old ids w
    ∙ ap (λ r. language r w) (sym (names_at new root (mkand (regexes_at old ids)) names))

-- every word is in no regexes, so the empty word is the least
pub least_of_all : (language : Language) → ((w : List ℕ) → language w ≡ true) → IsShortestLeast language []
least_of_all language all = record { word = refl; member = all []; shortest = λ v c h. omega arith; least = least_of }
  where
    least_of : (v : List ℕ) → are_characters v ≡ true → language v ≡ true → length v ≡ 0 → slice_cmp nat_cmp v [] ≢ Less
    least_of [] c h e = λ less. cc
    least_of (c ∷ v) k h e = absurd (omega arith)
