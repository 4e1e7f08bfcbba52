-- The normal regex of a RegLan term has the term's words.
use Rattle.std.proofs.Common.{◌≡◌, ℕ, zero, suc, ◌<◌, Bool, true, false, not, ◌&&◌, ◌||◌, ◌==◌, nat_le, cond, List, [], ◌∷◌, length, refl, sym, ap, ap₂, ◌∙◌, arith}
use Rattle.std.proofs.Math.Bool.{and-true, or-false}
use Rattle.std.proofs.lemmas.Bool.{and_parts, and_from, leb-false}
use Rattle.std.proofs.lemmas.Bool.Decides.{nat_tests}
use Rattle.sb_class.specs.Ranges.{in_range, in_ranges}
use Rattle.sb_word.specs.Words.{is_character, are_characters, IsWord}
use Rattle.sb_lang.specs.Languages.{Language, empty_word, one_character, cut, power, iterate, repeat}
use Rattle.sb_lang.specs.RegLan.{RegLan, re_none, re_all, re_allchar, re_word, re_concat, re_union, re_inter, re_diff, re_star, re_plus, re_opt, re_comp, re_range, re_power, re_loop}
use Rattle.sb_lang.specs.Membership.{is_word, between, in_re}
use Rattle.sb_lang.specs.Regex.{none, eps, set}
use Rattle.sb_lang.specs.Constructors.{mkstar, mknot}
use Rattle.sb_lang.specs.Normal.{word_regex, range_regex, normal}
use Rattle.sb_lang.specs.Language.{language, some_language, all_languages}
use Rattle.sb_lang.proofs.CutFacts.{cut-same, cut-left_none, cut-left_empty, some_up_to-same, repeat-exactly}
use Rattle.sb_lang.proofs.MemberFacts.{language-mkalt, language-mkand}
use Rattle.sb_lang.proofs.ConstructorFacts.{language-mkcat, language-mknot, language-mkstar, language-mkrep}

-- Languages that have the same words.

cut-same_words : (L L' M M' : Language) (w : List ℕ) → IsWord w → ((u : List ℕ) → IsWord u → L u ≡ L' u)
    → ((u : List ℕ) → IsWord u → M u ≡ M' u) → cut L M w ≡ cut L' M' w
unfolding cut
cut-same_words L L' M M' [] h l m = ap₂ ◌&&◌ (l [] refl) (m [] refl)
cut-same_words L L' M M' (c ∷ w) h l m =
    let p = and_parts (is_character c) (are_characters w) h in
    ap₂ ◌||◌ (ap₂ ◌&&◌ (l [] refl) (m (c ∷ w) h))
    (cut-same_words (λ u. L (c ∷ u)) (λ u. L' (c ∷ u)) M M' w p.1 (λ u g. l (c ∷ u) (and_from _ _ p.0 g)) m)

power-same_words : (L L' : Language) (n : ℕ) (w : List ℕ) → IsWord w → ((u : List ℕ) → IsWord u → L u ≡ L' u)
    → power L n w ≡ power L' n w
unfolding power
power-same_words L L' zero w h l = refl
power-same_words L L' (suc n) w h l =
    cut-same_words L L' (power L n) (power L' n) w h l (λ u g. power-same_words L L' n u g l)

iterate-same_words : (L L' : Language) (w : List ℕ) → IsWord w → ((u : List ℕ) → IsWord u → L u ≡ L' u)
    → iterate L w ≡ iterate L' w
unfolding iterate
iterate-same_words L L' w h l = some_up_to-same (length w) _ _ (λ n. power-same_words L L' n w h l)

repeat-same_words : (L L' : Language) (n m : ℕ) (w : List ℕ) → IsWord w → ((u : List ℕ) → IsWord u → L u ≡ L' u)
    → repeat L n m w ≡ repeat L' n m w
unfolding repeat
repeat-same_words L L' n m w h l =
    some_up_to-same m _ _ (λ k. ap (λ b. nat_le n k && b) (power-same_words L L' k w h l))

-- One character, a word, a range.

pub one_range : (a b c : ℕ) → in_ranges ((a, b) ∷ []) c ≡ (nat_le a c && nat_le c b)
unfolding in_ranges in_range
one_range a b c = or-false (nat_le a c && nat_le c b)
  where
    or-false : (x : Bool) → (x || false) ≡ x
    or-false true = refl
    or-false false = refl

allchar_tells : (w : List ℕ) → IsWord w → one_character (in_ranges ((0, 0x2ffff) ∷ [])) w ≡ (length w == 1)
allchar_tells [] h = refl
allchar_tells (c ∷ []) h = one_range 0 0x2ffff c ∙ first c (and_parts (is_character c) true h).0
  where
    first : (c : ℕ) → is_character c ≡ true → (nat_le 0 c && nat_le c 0x2ffff) ≡ true
    first c g = grind (arith, nat_tests, g)
allchar_tells (c ∷ d ∷ w) h = long (length w)
  where
    long : (n : ℕ) → false ≡ (suc (suc n) == 1)
    long n = grind (arith, nat_tests)

-- a first part of one character
pub cut-character : (test : ℕ → Bool) (M : Language) (d : ℕ) (w : List ℕ)
    → cut (λ u. one_character test (d ∷ u)) M w ≡ (test d && M w)
cut-character test M d w = step (test d) refl
  where
    step : (b : Bool) → test d ≡ b → cut (λ u. one_character test (d ∷ u)) M w ≡ (b && M w)
    step true is =
        cut-same (λ u. one_character test (d ∷ u)) empty_word M M w (starts is) (λ u. refl) ∙ cut-left_empty M w
      where
        starts : test d ≡ true → (u : List ℕ) → one_character test (d ∷ u) ≡ empty_word u
        starts is [] = is
        starts is (e ∷ u) = refl
    step false is = cut-left_none (λ u. one_character test (d ∷ u)) M w (fails is)
      where
        fails : test d ≡ false → (u : List ℕ) → one_character test (d ∷ u) ≡ false
        fails is [] = is
        fails is (e ∷ u) = refl

pub one_number : (c d : ℕ) → (nat_le c d && nat_le d c) ≡ (c == d)
one_number c d = grind (arith, nat_tests)

pub word_tells : (s w : List ℕ) → language (word_regex s) w ≡ is_word s w
unfolding word_regex language some_language all_languages cut
word_tells [] [] = refl
word_tells [] (d ∷ w) = refl
word_tells (c ∷ s) [] = language-mkcat (set ((c, c) ∷ [])) (word_regex s) []
word_tells (c ∷ s) (d ∷ w) =
    language-mkcat (set ((c, c) ∷ [])) (word_regex s) (d ∷ w)
    ∙ cut-character (in_ranges ((c, c) ∷ [])) (language (word_regex s)) d w
    ∙ ap₂ ◌&&◌ (one_range c c d ∙ one_number c d) (word_tells s w)

one_character-same : (f g : ℕ → Bool) (w : List ℕ) → ((c : ℕ) → f c ≡ g c) → one_character f w ≡ one_character g w
one_character-same f g [] same = refl
one_character-same f g (c ∷ []) same = same c
one_character-same f g (c ∷ d ∷ w) same = refl

one_character-never : (f : ℕ → Bool) (w : List ℕ) → ((c : ℕ) → f c ≡ false) → false ≡ one_character f w
one_character-never f [] never = refl
one_character-never f (c ∷ []) never = sym (never c)
one_character-never f (c ∷ d ∷ w) never = refl

empty_range : (a b c : ℕ) → b < a → (nat_le a c && nat_le c b) ≡ false
empty_range a b c lt = grind (arith, nat_tests)

range_tells : (s t w : List ℕ) → language (range_regex s t) w ≡ between s t w
unfolding range_regex language some_language all_languages
range_tells (a ∷ []) (b ∷ []) w = step (nat_le a b) refl
  where
    step : (x : Bool) → nat_le a b ≡ x
        → language (cond x (set ((a, b) ∷ [])) none) w ≡ one_character (λ c. nat_le a c && nat_le c b) w
    step true is = one_character-same (in_ranges ((a, b) ∷ [])) _ w (one_range a b)
    step false is = one_character-never _ w (λ c. empty_range a b c (leb-false a b is))
range_tells [] t w = refl
range_tells (a ∷ a' ∷ s) t w = refl
range_tells (a ∷ []) [] w = refl
range_tells (a ∷ []) (b ∷ b' ∷ t) w = refl

-- The law.

pub normal_tells : (R : RegLan) (w : List ℕ) → IsWord w → language (normal R) w ≡ in_re R w
unfolding normal in_re language some_language all_languages
normal_tells re_none w h = refl
normal_tells re_all w h = refl
normal_tells re_allchar w h = allchar_tells w h
normal_tells (re_word s) w h = word_tells s w
normal_tells (re_concat R S) w h =
    language-mkcat (normal R) (normal S) w
    ∙ cut-same_words (language (normal R)) (in_re R) (language (normal S)) (in_re S) w h (λ u g. normal_tells R u g)
    (λ u g. normal_tells S u g)
normal_tells (re_union R S) w h =
    language-mkalt (normal R ∷ normal S ∷ []) w
    ∙ ap₂ ◌||◌ (normal_tells R w h) (or-false (language (normal S) w) ∙ normal_tells S w h)
normal_tells (re_inter R S) w h =
    language-mkand (normal R ∷ normal S ∷ []) w
    ∙ ap₂ ◌&&◌ (normal_tells R w h) (and-true (language (normal S) w) ∙ normal_tells S w h)
normal_tells (re_diff R S) w h =
    language-mkand (normal R ∷ mknot (normal S) ∷ []) w
    ∙ ap₂ ◌&&◌ (normal_tells R w h) (and-true (language (mknot (normal S)) w) ∙ language-mknot (normal S) w
    ∙ ap not (normal_tells S w h))
normal_tells (re_star R) w h =
    language-mkstar (normal R) w h ∙ iterate-same_words (language (normal R)) (in_re R) w h (λ u g. normal_tells R u g)
normal_tells (re_plus R) w h =
    language-mkcat (normal R) (mkstar (normal R)) w
    ∙ cut-same_words (language (normal R)) (in_re R) (language (mkstar (normal R))) (iterate (in_re R)) w h
    (λ u g. normal_tells R u g)
    (λ u g. language-mkstar (normal R) u g
    ∙ iterate-same_words (language (normal R)) (in_re R) u g (λ v k. normal_tells R v k))
normal_tells (re_opt R) w h =
    language-mkalt (normal R ∷ eps ∷ []) w ∙ ap₂ ◌||◌ (normal_tells R w h) (or-false (empty_word w))
normal_tells (re_comp R) w h = language-mknot (normal R) w ∙ ap not (normal_tells R w h)
normal_tells (re_range s t) w h = range_tells s t w
normal_tells (re_power R n) w h =
    language-mkrep (normal R) n n w
    ∙ repeat-exactly (language (normal R)) n w
    ∙ power-same_words (language (normal R)) (in_re R) n w h (λ u g. normal_tells R u g)
normal_tells (re_loop R n m) w h =
    language-mkrep (normal R) n m w
    ∙ repeat-same_words (language (normal R)) (in_re R) n m w h (λ u g. normal_tells R u g)
