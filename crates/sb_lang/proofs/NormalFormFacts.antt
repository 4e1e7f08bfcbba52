-- The constructors, the derivative and `normal` give normal regexes of normal parts.
use Rattle.std.proofs.Common.{sym, ◌⊎◌, inl, inr, ◌≡◌, ℕ, zero, suc, ◌-◌, ◌≤◌, Bool, true, false, ◌&&◌, ◌||◌, ◌==◌, nat_lt, nat_le, cond, List, [], ◌∷◌, refl, ap, ap₂, ◌∙◌, arith, length-append}
use Rattle.std.specs.List.{list_all}
use Rattle.std.proofs.lemmas.Bool.{and_parts, false≢true, leb-true}
use Rattle.std.proofs.lemmas.Bool.Decides.{nat_tests}
use Rattle.sb_class.specs.Ranges.{fits_from, rises_from, in_ranges}
use Rattle.sb_word.specs.Words.{is_character, are_characters}
use Rattle.sb_lang.specs.RegLan.{RegLan, re_none, re_all, re_allchar, re_word, re_concat, re_union, re_inter, re_diff, re_star, re_plus, re_opt, re_comp, re_range, re_power, re_loop}
use Rattle.sb_lang.specs.Regex.{Regex, Regexes, none, eps, set, cat, alt, and, neg, star, rep, path, no_more, more}
use Rattle.sb_lang.specs.Order.{code, codes, regex_eq}
use Rattle.sb_lang.specs.Constructors.{anything, any_character, is_none, is_anything, mkset, mkcat, mkalt, mknot, mkstar, mkrep, mkpath}
use Rattle.sb_lang.specs.Normal.{word_regex, range_regex, normal}
use Rattle.sb_lang.specs.Derivative.{nullable, nd, nds}
use Rattle.sb_lang.specs.NormalForm.{is_normal, all_normal, has_words}
use Rattle.sb_lang.specs.NormalFormLaws.{ConstructorsGiveNormal}
use Rattle.sb_lang.proofs.OrderFacts.{same_regex, regex_eq-itself, regex_eq-from}
use Rattle.sb_lang.proofs.MemberLists.{size, is_normal-mkset}
use Rattle.sb_lang.proofs.UnionForm.{is_normal-mkalt}
use Rattle.sb_lang.proofs.IntersectionForm.{is_normal-mkand}

is_normal_none : is_normal none ≡ true
unfolding is_normal all_normal
is_normal_none = refl

pub is_normal_eps : is_normal eps ≡ true
unfolding is_normal all_normal
is_normal_eps = refl

pub is_normal_anything : is_normal anything ≡ true
unfolding is_normal all_normal mknot
is_normal_anything = regex_eq-itself (neg none)

-- Concatenations.

-- what may stand to the left, and what to the right
plain : Regex → Bool
plain none = false
plain eps = false
plain (cat a b) = false
plain r = true

joins : Regex → Bool
joins none = false
joins eps = false
joins r = true

left_is_less : (p q : Regex) → p ≡ cat p q → ⊥
unfolding code codes
left_is_less p q e = omega (arith, ap size e, length-append (code p) (code q))

right_is_less : (p q : Regex) → q ≡ cat p q → ⊥
unfolding code codes
right_is_less p q e = omega (arith, ap size e, length-append (code p) (code q))

pub none_is_no_cat : (p q : Regex) → none ≡ cat p q → ⊥
none_is_no_cat p q e = cc

eps_is_no_cat : (p q : Regex) → eps ≡ cat p q → ⊥
eps_is_no_cat p q e = cc

same_left : (a b p q : Regex) → cat a b ≡ cat p q → a ≡ p
same_left a b p q e = cc

plain-from : (p q : Regex) → mkcat p q ≡ cat p q → plain p ≡ true
unfolding mkcat plain
plain-from none q e = absurd (none_is_no_cat none q e)
plain-from eps none e = absurd (none_is_no_cat eps none e)
plain-from eps q e = absurd (right_is_less eps q e)
plain-from (cat a b) none e = absurd (none_is_no_cat (cat a b) none e)
plain-from (cat a b) eps e = absurd (left_is_less (cat a b) eps e)
plain-from (cat a b) q e = absurd (left_is_less a b (same_left a (mkcat b q) (cat a b) q e))
plain-from p q e = refl

joins-from : (p q : Regex) → mkcat p q ≡ cat p q → joins q ≡ true
unfolding mkcat joins
joins-from none none e = absurd (none_is_no_cat none none e)
joins-from p none e = absurd (none_is_no_cat p none e)
joins-from none eps e = absurd (none_is_no_cat none eps e)
joins-from eps eps e = absurd (eps_is_no_cat eps eps e)
joins-from p eps e = absurd (left_is_less p eps e)
joins-from p q e = refl

mkcat-plain : (p q : Regex) → plain p ≡ true → joins q ≡ true → mkcat p q ≡ cat p q
unfolding mkcat plain joins
mkcat-plain none q h g = absurd (false≢true h)
mkcat-plain eps q h g = absurd (false≢true h)
mkcat-plain (cat a b) q h g = absurd (false≢true h)
mkcat-plain p none h g = absurd (false≢true g)
mkcat-plain p eps h g = absurd (false≢true g)
mkcat-plain p q h g = refl

joins-mkcat : (p q : Regex) → joins p ≡ true → joins q ≡ true → joins (mkcat p q) ≡ true
unfolding mkcat joins
joins-mkcat none q h g = absurd (false≢true h)
joins-mkcat eps q h g = absurd (false≢true h)
joins-mkcat p none h g = absurd (false≢true g)
joins-mkcat p eps h g = absurd (false≢true g)
joins-mkcat p q h g = refl

-- They group in any way.

pub mkcat-none : (a : Regex) → mkcat a none ≡ none
unfolding mkcat
mkcat-none none = refl
mkcat-none a = refl

pub mkcat-eps : (a : Regex) → mkcat a eps ≡ a
unfolding mkcat
mkcat-eps none = refl
mkcat-eps a = refl

pub eps-mkcat : (a : Regex) → mkcat eps a ≡ a
unfolding mkcat
eps-mkcat none = refl
eps-mkcat a = refl

none-mkcat : (a : Regex) → mkcat none a ≡ none
unfolding mkcat
none-mkcat a = refl

cat-mkcat : (p q x : Regex) → joins x ≡ true → mkcat (cat p q) x ≡ cat p (mkcat q x)
unfolding mkcat joins
cat-mkcat p q none h = absurd (false≢true h)
cat-mkcat p q eps h = absurd (false≢true h)
cat-mkcat p q x h = refl

groups_joined : (a b c : Regex) → joins b ≡ true → joins c ≡ true → mkcat (mkcat a b) c ≡ mkcat a (mkcat b c)
unfolding plain
groups_joined none b c h g = ap (λ x. mkcat x c) (none-mkcat b) ∙ none-mkcat c ∙ sym (none-mkcat (mkcat b c))
groups_joined eps b c h g = ap (λ x. mkcat x c) (eps-mkcat b) ∙ sym (eps-mkcat (mkcat b c))
groups_joined (cat p q) b c h g =
    ap (λ x. mkcat x c) (cat-mkcat p q b h)
    ∙ cat-mkcat p (mkcat q b) c g
    ∙ ap (cat p) (groups_joined q b c h g)
    ∙ sym (cat-mkcat p q (mkcat b c) (joins-mkcat b c h g))
groups_joined a b c h g =
    ap (λ x. mkcat x c) (mkcat-plain a b refl h) ∙ cat-mkcat a b c g
    ∙ sym (mkcat-plain a (mkcat b c) refl (joins-mkcat b c h g))

joins_cases : (x : Regex) → (x ≡ none) ⊎ ((x ≡ eps) ⊎ (joins x ≡ true))
unfolding joins
joins_cases none = inl refl
joins_cases eps = inr (inl refl)
joins_cases x = inr (inr refl)

pub concatenation_groups : (a b c : Regex) → mkcat (mkcat a b) c ≡ mkcat a (mkcat b c)
concatenation_groups a b c = elim (joins_cases b) [
  | inl e ↦
      ap (λ x. mkcat (mkcat a x) c) e ∙ ap (λ x. mkcat x c) (mkcat-none a) ∙ none-mkcat c
      ∙ sym (ap (λ x. mkcat a (mkcat x c)) e ∙ ap (mkcat a) (none-mkcat c) ∙ mkcat-none a)
  | inr (inl e) ↦
      ap (λ x. mkcat (mkcat a x) c) e ∙ ap (λ x. mkcat x c) (mkcat-eps a)
      ∙ sym (ap (λ x. mkcat a (mkcat x c)) e ∙ ap (mkcat a) (eps-mkcat c))
  | inr (inr h) ↦ elim (joins_cases c) [
    | inl e ↦
        ap (mkcat (mkcat a b)) e ∙ mkcat-none (mkcat a b)
        ∙ sym (ap (λ x. mkcat a (mkcat b x)) e ∙ ap (mkcat a) (mkcat-none b) ∙ mkcat-none a)
    | inr (inl e) ↦
        ap (mkcat (mkcat a b)) e ∙ mkcat-eps (mkcat a b)
        ∙ sym (ap (λ x. mkcat a (mkcat b x)) e ∙ ap (mkcat a) (mkcat-eps b))
    | inr (inr g) ↦ groups_joined a b c h g
  ]
]

pub is_normal-cat : (a b : Regex) → is_normal (cat a b) ≡ true → (is_normal a ≡ true) × (is_normal b ≡ true)
    × (mkcat a b ≡ cat a b)
unfolding is_normal all_normal
is_normal-cat a b h =
    let p = and_parts (is_normal a && is_normal b) (regex_eq (mkcat a b) (cat a b)) h in
    let q = and_parts (is_normal a) (is_normal b) p.0 in
    (q.0, q.1, same_regex (mkcat a b) (cat a b) p.1)

cat_is_normal : (a b : Regex) → is_normal a ≡ true → is_normal b ≡ true → mkcat a b ≡ cat a b
    → is_normal (cat a b) ≡ true
unfolding is_normal all_normal
cat_is_normal a b h g e = ap₂ ◌&&◌ (ap₂ ◌&&◌ h g) (regex_eq-from (mkcat a b) (cat a b) e)

onto_cat : (p q b : Regex) → is_normal (cat p q) ≡ true → joins b ≡ true → is_normal (mkcat q b) ≡ true
    → is_normal (cat p (mkcat q b)) ≡ true
onto_cat p q b h g rest =
    let k = is_normal-cat p q h in
    cat_is_normal p (mkcat q b) k.0 rest
    (mkcat-plain p (mkcat q b) (plain-from p q k.2) (joins-mkcat q b (joins-from p q k.2) g))

pub is_normal-mkcat : (a b : Regex) → is_normal a ≡ true → is_normal b ≡ true → is_normal (mkcat a b) ≡ true
unfolding mkcat joins
is_normal-mkcat none b h g = is_normal_none
is_normal-mkcat a none h g = is_normal_none
is_normal-mkcat eps b h g = g
is_normal-mkcat a eps h g = h
is_normal-mkcat (cat p q) b h g = onto_cat p q b h refl (is_normal-mkcat q b (is_normal-cat p q h).1 g)
is_normal-mkcat a b h g = cat_is_normal a b h g refl

-- Complements, stars, repetitions and paths.

pub is_normal-mknot : (a : Regex) → is_normal a ≡ true → is_normal (mknot a) ≡ true
unfolding is_normal all_normal mknot
is_normal-mknot (neg a) h = (and_parts (is_normal a) (regex_eq (mknot a) (neg a)) h).0
is_normal-mknot a h = ap₂ ◌&&◌ h (regex_eq-itself (neg a))

star_alone : (a : Regex) → is_normal a ≡ true → mkstar a ≡ star a → is_normal (star a) ≡ true
unfolding is_normal all_normal
star_alone a h e = ap₂ ◌&&◌ h (regex_eq-from (mkstar a) (star a) e)

star_is_normal : (a : Regex) → is_normal a ≡ true → mkstar a ≡ cond (regex_eq a any_character) anything (star a)
    → is_normal (cond (regex_eq a any_character) anything (star a)) ≡ true
star_is_normal a h is = step (regex_eq a any_character) refl
  where
    step : (b : Bool) → regex_eq a any_character ≡ b → is_normal (cond b anything (star a)) ≡ true
    step true e = is_normal_anything
    step false e = star_alone a h (is ∙ ap (λ b. cond b anything (star a)) e)

pub is_normal-mkstar : (a : Regex) → is_normal a ≡ true → is_normal (mkstar a) ≡ true
unfolding mkstar
is_normal-mkstar none h = is_normal_eps
is_normal-mkstar eps h = is_normal_eps
is_normal-mkstar (star a) h = h
is_normal-mkstar a h = star_is_normal a h refl

rep_alone : (a : Regex) (n m : ℕ) → is_normal a ≡ true → mkrep a n m ≡ rep a n m → is_normal (rep a n m) ≡ true
unfolding is_normal all_normal
rep_alone a n m h e = ap₂ ◌&&◌ h (regex_eq-from (mkrep a n m) (rep a n m) e)

some_or_none : (b : Bool) → is_normal (cond b eps none) ≡ true
unfolding is_normal all_normal
some_or_none true = refl
some_or_none false = refl

pub is_normal-mkrep : (a : Regex) (n m : ℕ) → is_normal a ≡ true → is_normal (mkrep a n m) ≡ true
unfolding mkrep
is_normal-mkrep a n m h = step (nat_lt m n) (m == 0) ((n == 1) && (m == 1)) (regex_eq a eps) (is_none a) refl
  where
    step : (b d e f g : Bool) →
        mkrep a n m ≡ cond b none (cond d eps (cond e a (cond f eps (cond g (cond (n == 0) eps none) (rep a n m))))) →
        is_normal (cond b none (cond d eps (cond e a (cond f eps (cond g (cond (n == 0) eps none) (rep a n m))))))
        ≡ true
    step true d e f g is = is_normal_none
    step false true e f g is = is_normal_eps
    step false false true f g is = h
    step false false false true g is = is_normal_eps
    step false false false false true is = some_or_none (n == 0)
    step false false false false false is = rep_alone a n m h is

path_alone : (a b : Regex) → is_normal a ≡ true → is_normal b ≡ true → mkpath a b ≡ path a b
    → is_normal (path a b) ≡ true
unfolding is_normal all_normal
path_alone a b h g e = ap₂ ◌&&◌ (ap₂ ◌&&◌ h g) (regex_eq-from (mkpath a b) (path a b) e)

all_or_none : (b : Bool) → is_normal (cond b anything none) ≡ true
all_or_none true = is_normal_anything
all_or_none false = is_normal_none

pub is_normal-mkpath : (a b : Regex) → is_normal a ≡ true → is_normal b ≡ true → is_normal (mkpath a b) ≡ true
unfolding mkpath
is_normal-mkpath a b h g = step (is_none a || is_anything a) refl
  where
    step : (x : Bool) → mkpath a b ≡ cond x (cond (regex_eq a b) anything none) (path a b)
        → is_normal (cond x (cond (regex_eq a b) anything none) (path a b)) ≡ true
    step true is = all_or_none (regex_eq a b)
    step false is = path_alone a b h g is

-- The derivative.

eps_or_none : (b : Bool) → is_normal (cond b eps none) ≡ true
eps_or_none = some_or_none

cat_after : (a b : Regex) (c : ℕ) → is_normal b ≡ true → is_normal (nd a c) ≡ true → is_normal (nd b c) ≡ true →
    is_normal (cond (nullable a) (mkalt (mkcat (nd a c) b ∷ nd b c ∷ [])) (mkcat (nd a c) b)) ≡ true
cat_after a b c h first second = step (nullable a)
  where
    step : (x : Bool) → is_normal (cond x (mkalt (mkcat (nd a c) b ∷ nd b c ∷ [])) (mkcat (nd a c) b)) ≡ true
    step true =
        is_normal-mkalt (mkcat (nd a c) b ∷ nd b c ∷ [])
        (ap₂ ◌&&◌ (is_normal-mkcat (nd a c) b first h) (ap₂ ◌&&◌ second refl))
    step false = is_normal-mkcat (nd a c) b first h

mutual
  unfolding nd nds is_normal all_normal

  pub is_normal-nd : (r : Regex) (c : ℕ) → is_normal r ≡ true → is_normal (nd r c) ≡ true
  is_normal-nd none c h = refl
  is_normal-nd eps c h = refl
  is_normal-nd (set rs) c h = eps_or_none (in_ranges rs c)
  is_normal-nd (cat a b) c h =
      let k = is_normal-cat a b h in
      cat_after a b c k.1 (is_normal-nd a c k.0) (is_normal-nd b c k.1)
  is_normal-nd (alt ps) c h = is_normal-mkalt (nds ps c) (is_normal-nds ps c (and_parts (all_normal ps) _ h).0)
  is_normal-nd (and ps) c h = is_normal-mkand (nds ps c) (is_normal-nds ps c (and_parts (all_normal ps) _ h).0)
  is_normal-nd (neg a) c h = is_normal-mknot (nd a c) (is_normal-nd a c (and_parts (is_normal a) _ h).0)
  is_normal-nd (star a) c h = is_normal-mkcat (nd a c) (star a) (is_normal-nd a c (and_parts (is_normal a) _ h).0) h
  is_normal-nd (rep a n zero) c h = refl
  is_normal-nd (rep a n (suc m)) c h =
      let k = (and_parts (is_normal a) _ h).0 in
      is_normal-mkcat (nd a c) (mkrep a (n - 1) m) (is_normal-nd a c k) (is_normal-mkrep a (n - 1) m k)
  is_normal-nd (path a b) c h =
      let k = and_parts (is_normal a) (is_normal b) (and_parts (is_normal a && is_normal b) _ h).0 in
      is_normal-mkpath (nd a c) b (is_normal-nd a c k.0) k.1

  is_normal-nds : (ps : Regexes) (c : ℕ) → all_normal ps ≡ true → list_all is_normal (nds ps c) ≡ true
  is_normal-nds no_more c h = refl
  is_normal-nds (more r rs) c h =
      let k = and_parts (is_normal r) (all_normal rs) h in
      ap₂ ◌&&◌ (is_normal-nd r c k.0) (is_normal-nds rs c k.1)

-- The normal regex of a term.

one_range_canonical : (a b : ℕ) → a ≤ b → b ≤ 0x2ffff → rises_from 0 ((a, b) ∷ []) ≡ true
unfolding rises_from
one_range_canonical a b le high = ap (λ x. x && true) (fits a b le high)
  where
    fits : (a b : ℕ) → a ≤ b → b ≤ 0x2ffff → fits_from 0 (a, b) ≡ true
    fits a b le high = grind (arith, nat_tests)

pub set_is_normal : (a b : ℕ) → a ≤ b → b ≤ 0x2ffff → is_normal (set ((a, b) ∷ [])) ≡ true
unfolding mkset
set_is_normal a b le high = is_normal-mkset ((a, b) ∷ []) (one_range_canonical a b le high)

pub character_below : (c : ℕ) → is_character c ≡ true → c ≤ 0x2ffff
character_below c h = leb-true c 0x2ffff h

pub is_normal-word_regex : (w : List ℕ) → are_characters w ≡ true → is_normal (word_regex w) ≡ true
unfolding word_regex
is_normal-word_regex [] h = is_normal_eps
is_normal-word_regex (c ∷ w) h =
    let p = and_parts (is_character c) (are_characters w) h in
    is_normal-mkcat (set ((c, c) ∷ [])) (word_regex w) (set_is_normal c c (omega arith) (character_below c p.0))
    (is_normal-word_regex w p.1)

is_normal-range_regex : (s t : List ℕ) → are_characters t ≡ true → is_normal (range_regex s t) ≡ true
unfolding range_regex
is_normal-range_regex (a ∷ []) (b ∷ []) h = step (nat_le a b) refl
  where
    step : (x : Bool) → nat_le a b ≡ x → is_normal (cond x (set ((a, b) ∷ [])) none) ≡ true
    step true is = set_is_normal a b (leb-true a b is) (character_below b (and_parts (is_character b) true h).0)
    step false is = is_normal_none
is_normal-range_regex [] t h = is_normal_none
is_normal-range_regex (a ∷ a' ∷ s) t h = is_normal_none
is_normal-range_regex (a ∷ []) [] h = is_normal_none
is_normal-range_regex (a ∷ []) (b ∷ b' ∷ t) h = is_normal_none

pub is_normal-normal : (R : RegLan) → has_words R ≡ true → is_normal (normal R) ≡ true
unfolding normal has_words
is_normal-normal re_none h = is_normal_none
is_normal-normal re_all h = is_normal_anything
is_normal-normal re_allchar h = set_is_normal 0 0x2ffff (omega arith) (omega arith)
is_normal-normal (re_word w) h = is_normal-word_regex w h
is_normal-normal (re_concat R S) h =
    let p = and_parts (has_words R) (has_words S) h in
    is_normal-mkcat (normal R) (normal S) (is_normal-normal R p.0) (is_normal-normal S p.1)
is_normal-normal (re_union R S) h =
    let p = and_parts (has_words R) (has_words S) h in
    is_normal-mkalt (normal R ∷ normal S ∷ [])
    (ap₂ ◌&&◌ (is_normal-normal R p.0) (ap₂ ◌&&◌ (is_normal-normal S p.1) refl))
is_normal-normal (re_inter R S) h =
    let p = and_parts (has_words R) (has_words S) h in
    is_normal-mkand (normal R ∷ normal S ∷ [])
    (ap₂ ◌&&◌ (is_normal-normal R p.0) (ap₂ ◌&&◌ (is_normal-normal S p.1) refl))
is_normal-normal (re_diff R S) h =
    let p = and_parts (has_words R) (has_words S) h in
    is_normal-mkand (normal R ∷ mknot (normal S) ∷ [])
    (ap₂ ◌&&◌ (is_normal-normal R p.0) (ap₂ ◌&&◌ (is_normal-mknot (normal S) (is_normal-normal S p.1)) refl))
is_normal-normal (re_star R) h = is_normal-mkstar (normal R) (is_normal-normal R h)
is_normal-normal (re_plus R) h =
    is_normal-mkcat (normal R) (mkstar (normal R)) (is_normal-normal R h)
    (is_normal-mkstar (normal R) (is_normal-normal R h))
is_normal-normal (re_opt R) h =
    is_normal-mkalt (normal R ∷ eps ∷ []) (ap₂ ◌&&◌ (is_normal-normal R h) (ap₂ ◌&&◌ is_normal_eps refl))
is_normal-normal (re_comp R) h = is_normal-mknot (normal R) (is_normal-normal R h)
is_normal-normal (re_range s t) h = is_normal-range_regex s t (and_parts (are_characters s) (are_characters t) h).1
is_normal-normal (re_power R n) h = is_normal-mkrep (normal R) n n (is_normal-normal R h)
is_normal-normal (re_loop R n m) h = is_normal-mkrep (normal R) n m (is_normal-normal R h)

pub constructors_give_normal : ConstructorsGiveNormal
constructors_give_normal = record {
  sets = is_normal-mkset;
  concatenations = is_normal-mkcat;
  unions = is_normal-mkalt;
  intersections = is_normal-mkand;
  complements = is_normal-mknot;
  stars = is_normal-mkstar;
  repetitions = is_normal-mkrep;
  paths = is_normal-mkpath;
}
