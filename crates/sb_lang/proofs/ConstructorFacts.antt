-- Each normalising constructor keeps the language.
use Rattle.std.proofs.Common.{◌≡◌, ℕ, ◌<◌, ◌≤◌, Bool, true, false, not, ◌&&◌, ◌||◌, ◌==◌, nat_lt, cond, List, [], ◌∷◌, refl, sym, ap, ap₂, ◌∙◌, arith, inl, inr}
use Rattle.std.specs.List.{list_any, list_all}
use Rattle.std.proofs.Math.Bool.{not-not}
use Rattle.std.proofs.lemmas.Bool.{and_parts, or_cases, ltb-true, ltb-false, eqb-true, eqb-false}
use Rattle.std.proofs.lemmas.Bool.Decides.{nat_tests}
use Rattle.sb_class.specs.Ranges.{Range, in_range, in_ranges}
use Rattle.sb_word.specs.Words.{is_character, are_characters, IsWord}
use Rattle.sb_lang.specs.Languages.{cut, iterate, repeat}
use Rattle.sb_lang.specs.Regex.{Regex, none, eps, set, cat, alt, and, neg, star, rep, path, regexes}
use Rattle.sb_lang.specs.Order.{regex_eq}
use Rattle.sb_lang.specs.Constructors.{anything, any_character, is_none, is_anything, mkset, mkcat, mkalt, mkand, mknot, mkstar, mkrep, mkpath}
use Rattle.sb_lang.specs.Derivative.{nd, nds, nd_along}
use Rattle.sb_lang.specs.Language.{language, some_language, all_languages}
use Rattle.sb_lang.proofs.OrderFacts.{same_regex}
use Rattle.sb_lang.proofs.MemberFacts.{in_some, in_each, parts-regexes, some_language-parts, all_languages-parts, language-mkset, language-mkalt, language-mkand}
use Rattle.sb_lang.proofs.CutFacts.{cut-same, cut-cut, cut-left_none, cut-right_none, cut-left_empty, cut-right_empty, iterate-nothing, iterate-iterate, iterate-characters, power-once, repeat-none, repeat-zero, repeat-one, repeat-empty_word, repeat-nothing, repeat-nothing_often}

pub language-mkcat : (a b : Regex) (w : List ℕ) → language (mkcat a b) w ≡ cut (language a) (language b) w
unfolding mkcat language some_language all_languages
language-mkcat none b w = sym (cut-left_none (language none) (language b) w (λ u. refl))
language-mkcat a none w = sym (cut-right_none (language a) (language none) w (λ u. refl))
language-mkcat eps b w = sym (cut-left_empty (language b) w)
language-mkcat a eps w = sym (cut-right_empty (language a) w)
language-mkcat (cat p q) b w =
    cut-same (language p) (language p) (language (mkcat q b)) (cut (language q) (language b)) w (λ u. refl)
    (λ u. language-mkcat q b u)
    ∙ sym (cut-cut (language p) (language q) (language b) w)
language-mkcat a b w = refl

pub language-mknot : (a : Regex) (w : List ℕ) → language (mknot a) w ≡ not (language a w)
unfolding mknot language some_language all_languages
language-mknot (neg a) w = sym (not-not (language a w))
language-mknot a w = refl

-- a word is of characters
characters_of_word : (w : List ℕ) → IsWord w → list_all (in_ranges ((0, 0x2ffff) ∷ [])) w ≡ true
unfolding in_ranges in_range
characters_of_word [] h = refl
characters_of_word (c ∷ w) h =
    let p = and_parts (is_character c) (are_characters w) h in
    ap₂ ◌&&◌ (first c p.0) (characters_of_word w p.1)
  where
    first : (c : ℕ) → is_character c ≡ true → in_ranges ((0, 0x2ffff) ∷ []) c ≡ true
    first c h = grind (arith, nat_tests, h)

star_or_anything : (a : Regex) (w : List ℕ) → IsWord w
    → language (cond (regex_eq a any_character) anything (star a)) w ≡ iterate (language a) w
unfolding language some_language all_languages
star_or_anything a w h = step (regex_eq a any_character) refl
  where
    step : (b : Bool) → regex_eq a any_character ≡ b → language (cond b anything (star a)) w ≡ iterate (language a) w
    step true is =
        sym (ap (λ x. iterate (language x) w) (same_regex a any_character is)
        ∙ iterate-characters (in_ranges ((0, 0x2ffff) ∷ [])) w (characters_of_word w h))
    step false is = refl

pub language-mkstar : (a : Regex) (w : List ℕ) → IsWord w → language (mkstar a) w ≡ iterate (language a) w
unfolding mkstar language some_language all_languages
language-mkstar none w h = sym (iterate-nothing (language none) w (λ c u. refl))
language-mkstar eps w h = sym (iterate-nothing (language eps) w (λ c u. refl))
language-mkstar (star a) w h = sym (iterate-iterate (language a) w)
language-mkstar a w h = star_or_anything a w h

-- a repetition, case by case

rep_of_none : (n m : ℕ) (w : List ℕ) → n ≤ m → language (cond (n == 0) eps none) w ≡ repeat (language none) n m w
unfolding language some_language all_languages
rep_of_none n m w le = step (n == 0) refl
  where
    step : (b : Bool) → (n == 0) ≡ b → language (cond b eps none) w ≡ repeat (language none) n m w
    step true is = sym (ap (λ k. repeat (language none) k m w) (eqb-true n 0 is)
        ∙ repeat-nothing (language none) m w (λ u. refl))
    step false is =
        let ne = eqb-false n 0 is in
        sym (repeat-nothing_often (language none) n m w (grind (arith, ne)) (λ u. refl))

rep_after_once : (a : Regex) (n m : ℕ) (w : List ℕ) → n ≤ m
    → language (cond (regex_eq a eps) eps (cond (is_none a) (cond (n == 0) eps none) (rep a n m))) w
    ≡ repeat (language a) n m w
unfolding language some_language all_languages
rep_after_once a n m w le = step (regex_eq a eps) refl (is_none a) refl
  where
    step : (b : Bool) → regex_eq a eps ≡ b → (d : Bool) → is_none a ≡ d
        → language (cond b eps (cond d (cond (n == 0) eps none) (rep a n m))) w ≡ repeat (language a) n m w
    step true is d also =
        sym (ap (λ x. repeat (language x) n m w) (same_regex a eps is)
        ∙ repeat-empty_word (language eps) n m w le (λ u. refl))
    step false is true also = rep_of_none n m w le ∙ ap (λ x. repeat (language x) n m w) (sym (same_regex a none also))
    step false is false also = refl

once : (a : Regex) (n m : ℕ) (w : List ℕ) → ((n == 1) && (m == 1)) ≡ true → language a w ≡ repeat (language a) n m w
once a n m w is =
    let p = and_parts (n == 1) (m == 1) is in
    sym (ap₂ (λ k l. repeat (language a) k l w) (eqb-true n 1 p.0) (eqb-true m 1 p.1) ∙ repeat-one (language a) w
    ∙ power-once (language a) w)

no_times : (a : Regex) (n m : ℕ) (w : List ℕ) → n ≤ m → (m == 0) ≡ true → language eps w ≡ repeat (language a) n m w
unfolding language some_language all_languages
no_times a n m w le is =
    let e = eqb-true m 0 is in
    let f : n ≡ 0 = omega arith in
    sym (ap₂ (λ k l. repeat (language a) k l w) f e ∙ repeat-zero (language a) w)

out_of_order : (a : Regex) (n m : ℕ) (w : List ℕ) → m < n → language none w ≡ repeat (language a) n m w
unfolding language some_language all_languages
out_of_order a n m w lt = sym (repeat-none (language a) n m w lt)

pub language-mkrep : (a : Regex) (n m : ℕ) (w : List ℕ) → language (mkrep a n m) w ≡ repeat (language a) n m w
unfolding mkrep
language-mkrep a n m w = step (nat_lt m n) refl (m == 0) refl ((n == 1) && (m == 1)) refl
  where
    step : (b : Bool) → nat_lt m n ≡ b → (d : Bool) → (m == 0) ≡ d → (e : Bool) → ((n == 1) && (m == 1)) ≡ e →
        language (cond b none
        (cond d eps (cond e a (cond (regex_eq a eps) eps (cond (is_none a) (cond (n == 0) eps none) (rep a n m))))))
        w ≡ repeat (language a) n m w
    step true is d also e last = out_of_order a n m w (ltb-true m n is)
    step false is true also e last = no_times a n m w (ltb-false m n is) also
    step false is false also true last = once a n m w last
    step false is false also false last = rep_after_once a n m w (ltb-false m n is)

-- where every character takes the first to itself

nd_along-none : (w : List ℕ) → nd_along none w ≡ none
unfolding nd_along nd nds
nd_along-none [] = refl
nd_along-none (c ∷ w) = nd_along-none w

nd_along-anything : (w : List ℕ) → nd_along anything w ≡ anything
unfolding nd_along nd nds mknot
nd_along-anything [] = refl
nd_along-anything (c ∷ w) = nd_along-anything w

stays : (a : Regex) (w : List ℕ) → (is_none a || is_anything a) ≡ true → nd_along a w ≡ a
stays a w h = elim (or_cases (is_none a) (is_anything a) h) [
  | inl here ↦ let e = same_regex a none here in ap (λ x. nd_along x w) e ∙ nd_along-none w ∙ sym e
  | inr there ↦ let e = same_regex a anything there in ap (λ x. nd_along x w) e ∙ nd_along-anything w ∙ sym e
]

all_or_nothing : (b : Bool) (w : List ℕ) → language (cond b anything none) w ≡ b
unfolding language some_language all_languages
all_or_nothing true w = refl
all_or_nothing false w = refl

pub language-mkpath : (a b : Regex) (w : List ℕ) → language (mkpath a b) w ≡ regex_eq (nd_along a w) b
unfolding mkpath language some_language all_languages
language-mkpath a b w = step (is_none a || is_anything a) refl
  where
    step : (x : Bool) → (is_none a || is_anything a) ≡ x
        → language (cond x (cond (regex_eq a b) anything none) (path a b)) w ≡ regex_eq (nd_along a w) b
    step true is = all_or_nothing (regex_eq a b) w ∙ ap (λ x. regex_eq x b) (sym (stays a w is))
    step false is = refl

-- The laws, of the plain nodes.

pub union_is_of_some : (rs : List Regex) (w : List ℕ) → language (alt (regexes rs)) w ≡ list_any (λ r. language r w) rs
unfolding language some_language all_languages
union_is_of_some rs w = some_language-parts (regexes rs) w ∙ ap (λ xs. in_some xs w) (parts-regexes rs)

pub intersection_is_of_each : (rs : List Regex) (w : List ℕ)
    → language (and (regexes rs)) w ≡ list_all (λ r. language r w) rs
unfolding language some_language all_languages
intersection_is_of_each rs w = all_languages-parts (regexes rs) w ∙ ap (λ xs. in_each xs w) (parts-regexes rs)

pub mkset_keeps : (rs : List Range) (w : List ℕ) → language (mkset rs) w ≡ language (set rs) w
unfolding language some_language all_languages
mkset_keeps rs w = language-mkset rs w

pub mkcat_keeps : (a b : Regex) (w : List ℕ) → language (mkcat a b) w ≡ language (cat a b) w
unfolding language some_language all_languages
mkcat_keeps a b w = language-mkcat a b w

pub mkalt_keeps : (rs : List Regex) (w : List ℕ) → language (mkalt rs) w ≡ language (alt (regexes rs)) w
mkalt_keeps rs w = language-mkalt rs w ∙ sym (union_is_of_some rs w)

pub mkand_keeps : (rs : List Regex) (w : List ℕ) → language (mkand rs) w ≡ language (and (regexes rs)) w
mkand_keeps rs w = language-mkand rs w ∙ sym (intersection_is_of_each rs w)

pub mknot_keeps : (a : Regex) (w : List ℕ) → language (mknot a) w ≡ language (neg a) w
unfolding language some_language all_languages
mknot_keeps a w = language-mknot a w

pub mkstar_keeps : (a : Regex) (w : List ℕ) → IsWord w → language (mkstar a) w ≡ language (star a) w
unfolding language some_language all_languages
mkstar_keeps a w h = language-mkstar a w h

pub mkrep_keeps : (a : Regex) (n m : ℕ) (w : List ℕ) → language (mkrep a n m) w ≡ language (rep a n m) w
unfolding language some_language all_languages
mkrep_keeps a n m w = language-mkrep a n m w

pub mkpath_keeps : (a b : Regex) (w : List ℕ) → language (mkpath a b) w ≡ language (path a b) w
unfolding language some_language all_languages
mkpath_keeps a b w = language-mkpath a b w
