-- The language of a list of regexes, and what sorting, dropping and joining leave of it.
use Rattle.std.proofs.Common.{◌≡◌, ℕ, Bool, true, false, not, ◌&&◌, ◌||◌, List, [], ◌∷◌, cond, refl, sym, ap, ap₂, ◌∙◌, inl, inr}
use Rattle.std.specs.List.{list_any, list_all, filter, flat_map}
use Rattle.std.specs.declared.cmp.Ordering.{Ordering}
use Rattle.std.specs.declared.cmp.Ordering.TheVariants.{Less, Equal, Greater}
use Rattle.std.specs.Ordering.{match_ordering}
use Rattle.std.proofs.Math.Bool.{and-false, and-true, and_assoc, or-false, or-true, or_assoc, or_self_left, and_self_left}
use Rattle.std.proofs.lemmas.Bool.{or_cases, false≢true}
use Rattle.std.proofs.lemmas.List.Folds.{list_any-append, list_all-append}
use Rattle.sb_class.specs.Ranges.{Range, in_ranges}
use Rattle.sb_lang.specs.Languages.{Language, one_character}
use Rattle.sb_lang.specs.Regex.{Regex, Regexes, none, set, alt, and, no_more, more, regexes, parts}
use Rattle.sb_lang.specs.Order.{regex_cmp}
use Rattle.sb_lang.specs.RangeSets.{union, inter}
use Rattle.sb_lang.specs.Constructors.{anything, is_none, is_anything, mkset, alternatives, conjuncts, ranges_of, is_set, union_of, inter_of, join_sets, meet_of, meet_sets, with_regex, sorted, alt_of, and_of, mkalt, mkand}
use Rattle.sb_lang.specs.Language.{language, some_language, all_languages}
use Rattle.sb_lang.proofs.OrderFacts.{same_regex, cmp_decides, regex_eq-itself}
use Rattle.sb_lang.proofs.SetFacts.{in_ranges-union, in_ranges-inter}
use Rattle.sb_lang.proofs.BoolFacts.{and_swap, or_swap}

-- the word is in some, and in each
abbrev pub in_some : List Regex → Language
in_some rs w = list_any (λ r. language r w) rs

abbrev pub in_each : List Regex → Language
in_each rs w = list_all (λ r. language r w) rs

pub parts-regexes : (rs : List Regex) → parts (regexes rs) ≡ rs
unfolding parts regexes
parts-regexes [] = refl
parts-regexes (r ∷ rs) = ap (λ xs. r ∷ xs) (parts-regexes rs)

pub some_language-parts : (ps : Regexes) (w : List ℕ) → some_language ps w ≡ in_some (parts ps) w
unfolding language some_language all_languages parts
some_language-parts no_more w = refl
some_language-parts (more r rs) w = ap (λ x. language r w || x) (some_language-parts rs w)

pub all_languages-parts : (ps : Regexes) (w : List ℕ) → all_languages ps w ≡ in_each (parts ps) w
unfolding language some_language all_languages parts
all_languages-parts no_more w = refl
all_languages-parts (more r rs) w = ap (λ x. language r w && x) (all_languages-parts rs w)

-- one in the place of a list

pub language-alt_of : (rs : List Regex) (w : List ℕ) → language (alt_of rs) w ≡ in_some rs w
unfolding alt_of language some_language all_languages
language-alt_of [] w = refl
language-alt_of (r ∷ []) w = sym (or-false (language r w))
language-alt_of (r ∷ s ∷ rs) w =
    some_language-parts (regexes (r ∷ s ∷ rs)) w ∙ ap (λ xs. in_some xs w) (parts-regexes (r ∷ s ∷ rs))

pub language-and_of : (rs : List Regex) (w : List ℕ) → language (and_of rs) w ≡ in_each rs w
unfolding and_of language some_language all_languages
language-and_of [] w = refl
language-and_of (r ∷ []) w = sym (and-true (language r w))
language-and_of (r ∷ s ∷ rs) w =
    all_languages-parts (regexes (r ∷ s ∷ rs)) w ∙ ap (λ xs. in_each xs w) (parts-regexes (r ∷ s ∷ rs))

-- in order, and each once

in_some-with_regex : (r : Regex) (ss : List Regex) (w : List ℕ)
    → in_some (with_regex r ss) w ≡ (language r w || in_some ss w)
unfolding with_regex
in_some-with_regex r [] w = refl
in_some-with_regex r (s ∷ ss) w = step (in_some-with_regex r ss w) (regex_cmp r s) refl
  where
    step : in_some (with_regex r ss) w ≡ (language r w || in_some ss w) → (o : Ordering) → regex_cmp r s ≡ o
        → in_some (match_ordering o (r ∷ s ∷ ss) (s ∷ ss) (s ∷ with_regex r ss)) w
        ≡ (language r w || (language s w || in_some ss w))
    step rest Less is = refl
    step rest Equal is =
        sym (or_self_left (language s w) (in_some ss w))
        ∙ ap (λ x. language x w || (language s w || in_some ss w)) (sym ((cmp_decides r s).0 is))
    step rest Greater is =
        ap (λ x. language s w || x) rest ∙ or_swap (language s w) (language r w) (in_some ss w)

pub in_some-sorted : (rs : List Regex) (w : List ℕ) → in_some (sorted rs) w ≡ in_some rs w
unfolding sorted
in_some-sorted [] w = refl
in_some-sorted (r ∷ rs) w = in_some-with_regex r (sorted rs) w ∙ ap (λ x. language r w || x) (in_some-sorted rs w)

in_each-with_regex : (r : Regex) (ss : List Regex) (w : List ℕ)
    → in_each (with_regex r ss) w ≡ (language r w && in_each ss w)
unfolding with_regex
in_each-with_regex r [] w = refl
in_each-with_regex r (s ∷ ss) w = step (in_each-with_regex r ss w) (regex_cmp r s) refl
  where
    step : in_each (with_regex r ss) w ≡ (language r w && in_each ss w) → (o : Ordering) → regex_cmp r s ≡ o
        → in_each (match_ordering o (r ∷ s ∷ ss) (s ∷ ss) (s ∷ with_regex r ss)) w
        ≡ (language r w && (language s w && in_each ss w))
    step rest Less is = refl
    step rest Equal is =
        sym (and_self_left (language s w) (in_each ss w))
        ∙ ap (λ x. language x w && (language s w && in_each ss w)) (sym ((cmp_decides r s).0 is))
    step rest Greater is =
        ap (λ x. language s w && x) rest ∙ and_swap (language s w) (language r w) (in_each ss w)

pub in_each-sorted : (rs : List Regex) (w : List ℕ) → in_each (sorted rs) w ≡ in_each rs w
unfolding sorted
in_each-sorted [] w = refl
in_each-sorted (r ∷ rs) w = in_each-with_regex r (sorted rs) w ∙ ap (λ x. language r w && x) (in_each-sorted rs w)

-- none in a union and every word in an intersection change nothing

pub language-is_none : (r : Regex) (w : List ℕ) → is_none r ≡ true → language r w ≡ false
unfolding language some_language all_languages
language-is_none r w h = ap (λ x. language x w) (same_regex r none h)

pub language-is_anything : (r : Regex) (w : List ℕ) → is_anything r ≡ true → language r w ≡ true
unfolding language some_language all_languages
language-is_anything r w h = ap (λ x. language x w) (same_regex r anything h)

pub in_some-without_none : (rs : List Regex) (w : List ℕ) → in_some (filter (λ r. not (is_none r)) rs) w ≡ in_some rs w
in_some-without_none [] w = refl
in_some-without_none (r ∷ rs) w = step (in_some-without_none rs w) (is_none r) refl
  where
    step : in_some (filter (λ x. not (is_none x)) rs) w ≡ in_some rs w → (b : Bool) → is_none r ≡ b
        → in_some (cond (not b) (r ∷ filter (λ x. not (is_none x)) rs) (filter (λ x. not (is_none x)) rs)) w
        ≡ (language r w || in_some rs w)
    step rest true is = rest ∙ ap (λ x. x || in_some rs w) (sym (language-is_none r w is))
    step rest false is = ap (λ x. language r w || x) rest

pub in_each-without_anything : (rs : List Regex) (w : List ℕ)
    → in_each (filter (λ r. not (is_anything r)) rs) w ≡ in_each rs w
in_each-without_anything [] w = refl
in_each-without_anything (r ∷ rs) w = step (in_each-without_anything rs w) (is_anything r) refl
  where
    step : in_each (filter (λ x. not (is_anything x)) rs) w ≡ in_each rs w → (b : Bool) → is_anything r ≡ b
        → in_each (cond (not b) (r ∷ filter (λ x. not (is_anything x)) rs) (filter (λ x. not (is_anything x)) rs)) w
        ≡ (language r w && in_each rs w)
    step rest true is = rest ∙ ap (λ x. x && in_each rs w) (sym (language-is_anything r w is))
    step rest false is = ap (λ x. language r w && x) rest

-- every word in a union takes all, and so does none in an intersection

pub in_some-anything : (rs : List Regex) (w : List ℕ) → list_any is_anything rs ≡ true → in_some rs w ≡ true
in_some-anything [] w h = absurd (false≢true h)
in_some-anything (r ∷ rs) w h = elim (or_cases (is_anything r) (list_any is_anything rs) h) [
  | inl here ↦ ap (λ x. x || in_some rs w) (language-is_anything r w here)
  | inr later ↦ ap (λ x. language r w || x) (in_some-anything rs w later) ∙ or-true (language r w)
]

pub in_each-none : (rs : List Regex) (w : List ℕ) → list_any is_none rs ≡ true → in_each rs w ≡ false
in_each-none [] w h = absurd (false≢true h)
in_each-none (r ∷ rs) w h = elim (or_cases (is_none r) (list_any is_none rs) h) [
  | inl here ↦ ap (λ x. x && in_each rs w) (language-is_none r w here)
  | inr later ↦ ap (λ x. language r w && x) (in_each-none rs w later) ∙ and-false (language r w)
]

-- the members of a member

in_some-alternatives : (r : Regex) (w : List ℕ) → in_some (alternatives r) w ≡ language r w
unfolding alternatives language some_language all_languages
in_some-alternatives (alt ps) w = sym (some_language-parts ps w)
in_some-alternatives r w = or-false (language r w)

pub in_some-flat : (rs : List Regex) (w : List ℕ) → in_some (flat_map alternatives rs) w ≡ in_some rs w
in_some-flat [] w = refl
in_some-flat (r ∷ rs) w =
    list_any-append (λ x. language x w) (alternatives r) (flat_map alternatives rs)
    ∙ ap₂ ◌||◌ (in_some-alternatives r w) (in_some-flat rs w)

in_each-conjuncts : (r : Regex) (w : List ℕ) → in_each (conjuncts r) w ≡ language r w
unfolding conjuncts language some_language all_languages
in_each-conjuncts (and ps) w = sym (all_languages-parts ps w)
in_each-conjuncts r w = and-true (language r w)

pub in_each-flat : (rs : List Regex) (w : List ℕ) → in_each (flat_map conjuncts rs) w ≡ in_each rs w
in_each-flat [] w = refl
in_each-flat (r ∷ rs) w =
    list_all-append (λ x. language x w) (conjuncts r) (flat_map conjuncts rs)
    ∙ ap₂ ◌&&◌ (in_each-conjuncts r w) (in_each-flat rs w)

-- sets as one

pub language-mkset : (rs : List Range) (w : List ℕ) → language (mkset rs) w ≡ one_character (in_ranges rs) w
unfolding mkset language some_language all_languages in_ranges
language-mkset [] [] = refl
language-mkset [] (c ∷ []) = refl
language-mkset [] (c ∷ d ∷ w) = refl
language-mkset (r ∷ rs) w = refl

one_character-or : (f g h : ℕ → Bool) (w : List ℕ) → ((c : ℕ) → h c ≡ (f c || g c))
    → one_character h w ≡ (one_character f w || one_character g w)
one_character-or f g h [] same = refl
one_character-or f g h (c ∷ []) same = same c
one_character-or f g h (c ∷ d ∷ w) same = refl

one_character-and : (f g h : ℕ → Bool) (w : List ℕ) → ((c : ℕ) → h c ≡ (f c && g c))
    → one_character h w ≡ (one_character f w && one_character g w)
one_character-and f g h [] same = refl
one_character-and f g h (c ∷ []) same = same c
one_character-and f g h (c ∷ d ∷ w) same = refl

one_character-never : (w : List ℕ) → one_character (in_ranges []) w ≡ false
unfolding in_ranges
one_character-never [] = refl
one_character-never (c ∷ []) = refl
one_character-never (c ∷ d ∷ w) = refl

-- the one set beside the members that are no sets
joined : (rs : List Regex) (w : List ℕ)
    → (one_character (in_ranges (union_of (flat_map ranges_of rs))) w || in_some (filter (λ r. not (is_set r)) rs) w)
    ≡ in_some rs w
unfolding ranges_of is_set union_of language some_language all_languages
joined [] w = or-false _ ∙ one_character-never w
joined (set s ∷ rs) w =
    let rest = union_of (flat_map ranges_of rs) in
    ap (λ x. x || in_some (filter (λ r. not (is_set r)) rs) w)
    (one_character-or (in_ranges s) (in_ranges rest) (in_ranges (union s rest)) w (λ c. in_ranges-union s rest c))
    ∙ or_assoc (one_character (in_ranges s) w) _ _
    ∙ ap (λ x. one_character (in_ranges s) w || x) (joined rs w)
joined (r ∷ rs) w =
    or_swap (one_character (in_ranges (union_of (flat_map ranges_of rs))) w) (language r w) _
    ∙ ap (λ x. language r w || x) (joined rs w)

pub in_some-join_sets : (rs : List Regex) (w : List ℕ) → in_some (join_sets rs) w ≡ in_some rs w
unfolding join_sets
in_some-join_sets rs w =
    ap (λ x. x || in_some (filter (λ r. not (is_set r)) rs) w) (language-mkset (union_of (flat_map ranges_of rs)) w)
    ∙ joined rs w

-- the word is in each set
abbrev in_each_set : List (List Range) → Language
in_each_set ss w = list_all (λ s. one_character (in_ranges s) w) ss

in_set-inter_of : (s : List Range) (ss : List (List Range)) (w : List ℕ)
    → one_character (in_ranges (inter_of s ss)) w ≡ (one_character (in_ranges s) w && in_each_set ss w)
unfolding inter_of
in_set-inter_of s [] w = sym (and-true (one_character (in_ranges s) w))
in_set-inter_of s (t ∷ ts) w =
    one_character-and (in_ranges s) (in_ranges (inter_of t ts)) (in_ranges (inter s (inter_of t ts))) w
    (λ c. in_ranges-inter s (inter_of t ts) c)
    ∙ ap (λ x. one_character (in_ranges s) w && x) (in_set-inter_of t ts w)

in_each-meet_of : (ss : List (List Range)) (w : List ℕ) → in_each (meet_of ss) w ≡ in_each_set ss w
unfolding meet_of
in_each-meet_of [] w = refl
in_each-meet_of (s ∷ ss) w =
    and-true (language (mkset (inter_of s ss)) w) ∙ language-mkset (inter_of s ss) w ∙ in_set-inter_of s ss w

met : (rs : List Regex) (w : List ℕ)
    → (in_each_set (flat_map ranges_of rs) w && in_each (filter (λ r. not (is_set r)) rs) w) ≡ in_each rs w
unfolding ranges_of is_set language some_language all_languages
met [] w = refl
met (set s ∷ rs) w =
    and_assoc (one_character (in_ranges s) w) (in_each_set (flat_map ranges_of rs) w)
    (in_each (filter (λ r. not (is_set r)) rs) w)
    ∙ ap (λ x. one_character (in_ranges s) w && x) (met rs w)
met (r ∷ rs) w =
    and_swap (in_each_set (flat_map ranges_of rs) w) (language r w) (in_each (filter (λ r. not (is_set r)) rs) w)
    ∙ ap (λ x. language r w && x) (met rs w)

pub in_each-meet_sets : (rs : List Regex) (w : List ℕ) → in_each (meet_sets rs) w ≡ in_each rs w
unfolding meet_sets
in_each-meet_sets rs w =
    list_all-append (λ x. language x w) (meet_of (flat_map ranges_of rs)) (filter (λ r. not (is_set r)) rs)
    ∙ ap (λ x. x && in_each (filter (λ r. not (is_set r)) rs) w) (in_each-meet_of (flat_map ranges_of rs) w)
    ∙ met rs w

-- The language of a union and of an intersection.

pub language-mkalt : (rs : List Regex) (w : List ℕ) → language (mkalt rs) w ≡ in_some rs w
unfolding mkalt
language-mkalt rs w =
    let members = join_sets (flat_map alternatives rs) in
    step (list_any is_anything members) refl ∙ in_some-join_sets (flat_map alternatives rs) w ∙ in_some-flat rs w
  where
    step : (b : Bool) → list_any is_anything (join_sets (flat_map alternatives rs)) ≡ b →
        language (cond b anything
        (alt_of (sorted (filter (λ r. not (is_none r)) (join_sets (flat_map alternatives rs)))))) w
        ≡ in_some (join_sets (flat_map alternatives rs)) w
    step true is = language-is_anything anything w (regex_eq-itself anything) ∙ sym (in_some-anything _ w is)
    step false is = language-alt_of _ w ∙ in_some-sorted _ w ∙ in_some-without_none _ w

pub language-mkand : (rs : List Regex) (w : List ℕ) → language (mkand rs) w ≡ in_each rs w
unfolding mkand
language-mkand rs w =
    let members = meet_sets (flat_map conjuncts rs) in
    step (list_any is_none members) refl ∙ in_each-meet_sets (flat_map conjuncts rs) w ∙ in_each-flat rs w
  where
    step : (b : Bool) → list_any is_none (meet_sets (flat_map conjuncts rs)) ≡ b →
        language (cond b none (and_of (sorted (filter (λ r. not (is_anything r)) (meet_sets (flat_map conjuncts rs))))))
        w ≡ in_each (meet_sets (flat_map conjuncts rs)) w
    step true is = language-is_none none w (regex_eq-itself none) ∙ sym (in_each-none _ w is)
    step false is = language-and_of _ w ∙ in_each-sorted _ w ∙ in_each-without_anything _ w
