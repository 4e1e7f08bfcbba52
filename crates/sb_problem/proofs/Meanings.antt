-- A regular expression over words means a RegLan term, whose normal regex is the one that is made of its parts.
use Rattle.std.proofs.Common.{◌≡◌, ℕ, true, ◌&&◌, List, [], ◌∷◌, map, refl, sym, ap, ap₂, ◌∙◌, Option, Some, None, option_map}
use Rattle.std.proofs.lemmas.Bool.{and_parts, false≢true}
use Rattle.std.specs.List.{flat_map, list_all}
use Rattle.std.proofs.Common.{Result, Ok, Err, IfOk}
use Rattle.sb_lang.specs.RegLan as reglan
use Rattle.sb_lang.specs.RegLan.{RegLan}
use Rattle.sb_lang.specs.Regex.{Regex, none}
use Rattle.sb_lang.specs.Constructors.{anything, any_character, mkcat, mknot, mkstar}
use Rattle.sb_lang.specs.Normal.{normal, word_regex, range_regex}
use Rattle.sb_meaning.specs.Terms.{Term, Terms, apply, no_terms, with_term, terms_of, str_to_re, re_none, re_all, re_allchar, re_range, re_concat, re_union, re_inter, re_diff, re_star, re_plus, re_opt, re_comp, re_power, re_loop}
use Rattle.sb_meaning.specs.Values.{Valuation}
use Rattle.sb_meaning.specs.Truth.{meaning_of, meanings_of, means_reglan, reglan_in, word_in}
use Rattle.sb_meaning.specs.Truth as truth
use Rattle.sb_script.specs.Brought.{is_regex, are_regexes, is_text}
use Rattle.sb_problem.specs.Normals.{IsNumberOf}
use Rattle.sb_problem.specs.Shapes.{IsNumbered, joined_right, joined_from, joined_left, either, both, without, repeated, optional, times, or_none, regex_of, regexes_of}
use Rattle.sb_problem.specs.Words.{letters_of}
use Rattle.sb_problem.proofs.Texts.{text_means}

pub record IsMeant (t : Term) : Type 0 where
  pub reglan : RegLan
  pub means : (v : Valuation) → meaning_of v t ≡ means_reglan reglan
  pub normal : normal reglan ≡ regex_of t

pub record AreMeant (ts : Terms) : Type 0 where
  pub reglans : List RegLan
  pub mean : (v : Valuation) → meanings_of v ts ≡ map means_reglan reglans
  pub normals : map normal reglans ≡ regexes_of ts

reglans_among : (Rs : List RegLan) → flat_map reglan_in (map means_reglan Rs) ≡ Rs
reglans_among [] = refl
reglans_among (R ∷ Rs) = ap (λ Ss. R ∷ Ss) (reglans_among Rs)

-- of a word, and of two words
word_means : (v : Valuation) (t : Term) → is_text t ≡ true
    → meaning_of v (apply str_to_re (with_term t no_terms)) ≡ means_reglan (reglan.re_word (letters_of t))
word_means v t h = ap (λ m. means_reglan (truth.of_word (flat_map word_in (m ∷ [])))) (text_means v t h)

range_means : (v : Valuation) (s t : Term) → is_text s ≡ true → is_text t ≡ true
    → meaning_of v (apply re_range (with_term s (with_term t no_terms)))
    ≡ means_reglan (reglan.re_range (letters_of s) (letters_of t))
range_means v s t h k =
    ap₂ (λ m n. means_reglan (truth.of_range (flat_map word_in (m ∷ n ∷ [])))) (text_means v s h) (text_means v t k)

normal_word : (w : List ℕ) → normal (reglan.re_word w) ≡ word_regex w
unfolding normal
normal_word w = refl

normal_range : (s t : List ℕ) → normal (reglan.re_range s t) ≡ range_regex s t
unfolding normal
normal_range s t = refl

normal_none : normal reglan.re_none ≡ none
unfolding normal
normal_none = refl

normal_all : normal reglan.re_all ≡ anything
unfolding normal
normal_all = refl

normal_allchar : normal reglan.re_allchar ≡ any_character
unfolding normal
normal_allchar = refl

normal_concat : (R S : RegLan) → normal (reglan.re_concat R S) ≡ mkcat (normal R) (normal S)
unfolding normal
normal_concat R S = refl

normal_union : (R S : RegLan) → normal (reglan.re_union R S) ≡ either (normal R) (normal S)
unfolding normal
normal_union R S = refl

normal_inter : (R S : RegLan) → normal (reglan.re_inter R S) ≡ both (normal R) (normal S)
unfolding normal
normal_inter R S = refl

normal_diff : (R S : RegLan) → normal (reglan.re_diff R S) ≡ without (normal R) (normal S)
unfolding normal
normal_diff R S = refl

normal_star : (R : RegLan) → normal (reglan.re_star R) ≡ mkstar (normal R)
unfolding normal
normal_star R = refl

normal_plus : (R : RegLan) → normal (reglan.re_plus R) ≡ repeated (normal R)
unfolding normal
normal_plus R = refl

normal_opt : (R : RegLan) → normal (reglan.re_opt R) ≡ optional (normal R)
unfolding normal
normal_opt R = refl

normal_comp : (R : RegLan) → normal (reglan.re_comp R) ≡ mknot (normal R)
unfolding normal
normal_comp R = refl

normal_power : (n : ℕ) (R : RegLan) → normal (reglan.re_power R n) ≡ times n n (normal R)
unfolding normal
normal_power n R = refl

normal_loop : (n m : ℕ) (R : RegLan) → normal (reglan.re_loop R n m) ≡ times n m (normal R)
unfolding normal
normal_loop n m R = refl

all_normal : (join : RegLan → RegLan → RegLan) (make : Regex → Regex → Regex)
    → ((R S : RegLan) → normal (join R S) ≡ make (normal R) (normal S)) → (R : RegLan) (Rs : List RegLan)
    → joined_right make (map normal (R ∷ Rs)) ≡ Some (normal (truth.joined_right join (R ∷ Rs)))
all_normal join make law R [] = refl
all_normal join make law R (S ∷ Rs) = ap (option_map (make (normal R))) (all_normal join make law S Rs)
    ∙ ap Some (sym (law R (truth.joined_right join (S ∷ Rs))))

all_meant : (join : RegLan → RegLan → RegLan) (make : Regex → Regex → Regex)
    → ((R S : RegLan) → normal (join R S) ≡ make (normal R) (normal S)) → (t : Term) (ts : Terms) (R : RegLan)
    (Rs : List RegLan) → normal R ≡ regex_of t → map normal Rs ≡ regexes_of ts →
    normal (truth.joined_right join (R ∷ Rs)) ≡ or_none (joined_right make (regex_of t ∷ regexes_of ts))
all_meant join make law t ts R Rs h k =
    ap or_none (sym (all_normal join make law R Rs))
    ∙ ap₂ (λ r rs. or_none (joined_right make (r ∷ rs))) h k

all_mean : (join : RegLan → RegLan → RegLan) (v : Valuation) (t : Term) (ts : Terms) (R : RegLan) (Rs : List RegLan)
    → meaning_of v t ≡ means_reglan R → meanings_of v ts ≡ map means_reglan Rs →
    means_reglan (truth.joined_right join (flat_map reglan_in (meaning_of v t ∷ meanings_of v ts)))
    ≡ means_reglan (truth.joined_right join (R ∷ Rs))
all_mean join v t ts R Rs h k =
    ap₂ (λ m ms. means_reglan (truth.joined_right join (flat_map reglan_in (m ∷ ms)))) h k
    ∙ ap (λ Ss. means_reglan (truth.joined_right join Ss)) (reglans_among (R ∷ Rs))

-- from the left
from_normal : (R : RegLan) (Rs : List RegLan)
    → joined_from without (normal R) (map normal Rs) ≡ normal (truth.joined_from reglan.re_diff R Rs)
from_normal R [] = refl
from_normal R (S ∷ Rs) =
    ap (λ r. joined_from without r (map normal Rs)) (sym (normal_diff R S)) ∙ from_normal (reglan.re_diff R S) Rs

from_meant : (t : Term) (ts : Terms) (R : RegLan) (Rs : List RegLan) → normal R ≡ regex_of t
    → map normal Rs ≡ regexes_of ts
    → normal (truth.joined_left reglan.re_diff (R ∷ Rs)) ≡ or_none (joined_left without (regex_of t ∷ regexes_of ts))
from_meant t ts R Rs h k = sym (from_normal R Rs) ∙ ap₂ (λ r rs. joined_from without r rs) h k

from_mean : (v : Valuation) (t : Term) (ts : Terms) (R : RegLan) (Rs : List RegLan)
    → meaning_of v t ≡ means_reglan R → meanings_of v ts ≡ map means_reglan Rs →
    means_reglan (truth.joined_left reglan.re_diff (flat_map reglan_in (meaning_of v t ∷ meanings_of v ts)))
    ≡ means_reglan (truth.joined_left reglan.re_diff (R ∷ Rs))
from_mean v t ts R Rs h k =
    ap₂ (λ m ms. means_reglan (truth.joined_left reglan.re_diff (flat_map reglan_in (m ∷ ms)))) h k
    ∙ ap (λ Ss. means_reglan (truth.joined_left reglan.re_diff Ss)) (reglans_among (R ∷ Rs))

-- of one
one_means : (join : RegLan → RegLan) (v : Valuation) (t : Term) (R : RegLan) → meaning_of v t ≡ means_reglan R
    → means_reglan (truth.of_one join (flat_map reglan_in (meaning_of v t ∷ []))) ≡ means_reglan (join R)
one_means join v t R h = ap (λ m. means_reglan (truth.of_one join (flat_map reglan_in (m ∷ [])))) h

mutual
  pub regex_means : (t : Term) → is_regex t ≡ true → IsMeant t
  regex_means (apply str_to_re (with_term t no_terms)) h = record {
    reglan = reglan.re_word (letters_of t);
    means = λ v. word_means v t h;
    normal = normal_word (letters_of t);
  }
  regex_means (apply re_range (with_term s (with_term t no_terms))) h =
      let both = and_parts (is_text s) (is_text t) h in
      record {
        reglan = reglan.re_range (letters_of s) (letters_of t);
        means = λ v. range_means v s t both.0 both.1;
        normal = normal_range (letters_of s) (letters_of t);
      }
  regex_means (apply re_none no_terms) h =
      record { reglan = reglan.re_none; means = λ v. refl; normal = normal_none }
  regex_means (apply re_all no_terms) h =
      record { reglan = reglan.re_all; means = λ v. refl; normal = normal_all }
  regex_means (apply re_allchar no_terms) h =
      record { reglan = reglan.re_allchar; means = λ v. refl; normal = normal_allchar }
  regex_means (apply re_concat (with_term t ts)) h =
      let parts = and_parts (is_regex t) (are_regexes ts) h in
      let one = regex_means t parts.0 in
      let rest = regexes_mean ts parts.1 in
      record {
        reglan = truth.joined_right reglan.re_concat (one.reglan ∷ rest.reglans);
        means = λ v. all_mean reglan.re_concat v t ts one.reglan rest.reglans (one.means v) (rest.mean v);
        normal = all_meant reglan.re_concat mkcat normal_concat t ts one.reglan rest.reglans one.normal rest.normals;
      }
  regex_means (apply re_union (with_term t ts)) h =
      let parts = and_parts (is_regex t) (are_regexes ts) h in
      let one = regex_means t parts.0 in
      let rest = regexes_mean ts parts.1 in
      record {
        reglan = truth.joined_right reglan.re_union (one.reglan ∷ rest.reglans);
        means = λ v. all_mean reglan.re_union v t ts one.reglan rest.reglans (one.means v) (rest.mean v);
        normal = all_meant reglan.re_union either normal_union t ts one.reglan rest.reglans one.normal rest.normals;
      }
  regex_means (apply re_inter (with_term t ts)) h =
      let parts = and_parts (is_regex t) (are_regexes ts) h in
      let one = regex_means t parts.0 in
      let rest = regexes_mean ts parts.1 in
      record {
        reglan = truth.joined_right reglan.re_inter (one.reglan ∷ rest.reglans);
        means = λ v. all_mean reglan.re_inter v t ts one.reglan rest.reglans (one.means v) (rest.mean v);
        normal = all_meant reglan.re_inter both normal_inter t ts one.reglan rest.reglans one.normal rest.normals;
      }
  regex_means (apply re_diff (with_term t ts)) h =
      let parts = and_parts (is_regex t) (are_regexes ts) h in
      let one = regex_means t parts.0 in
      let rest = regexes_mean ts parts.1 in
      record {
        reglan = truth.joined_left reglan.re_diff (one.reglan ∷ rest.reglans);
        means = λ v. from_mean v t ts one.reglan rest.reglans (one.means v) (rest.mean v);
        normal = from_meant t ts one.reglan rest.reglans one.normal rest.normals;
      }
  regex_means (apply re_star (with_term t no_terms)) h =
      let one = regex_means t h in
      record {
        reglan = reglan.re_star one.reglan;
        means = λ v. one_means reglan.re_star v t one.reglan (one.means v);
        normal = normal_star one.reglan ∙ ap mkstar one.normal;
      }
  regex_means (apply re_plus (with_term t no_terms)) h =
      let one = regex_means t h in
      record {
        reglan = reglan.re_plus one.reglan;
        means = λ v. one_means reglan.re_plus v t one.reglan (one.means v);
        normal = normal_plus one.reglan ∙ ap repeated one.normal;
      }
  regex_means (apply re_opt (with_term t no_terms)) h =
      let one = regex_means t h in
      record {
        reglan = reglan.re_opt one.reglan;
        means = λ v. one_means reglan.re_opt v t one.reglan (one.means v);
        normal = normal_opt one.reglan ∙ ap optional one.normal;
      }
  regex_means (apply re_comp (with_term t no_terms)) h =
      let one = regex_means t h in
      record {
        reglan = reglan.re_comp one.reglan;
        means = λ v. one_means reglan.re_comp v t one.reglan (one.means v);
        normal = normal_comp one.reglan ∙ ap mknot one.normal;
      }
  regex_means (apply (re_power n) (with_term t no_terms)) h =
      let one = regex_means t h in
      record {
        reglan = reglan.re_power one.reglan n;
        means = λ v. one_means (λ R. reglan.re_power R n) v t one.reglan (one.means v);
        normal = normal_power n one.reglan ∙ ap (times n n) one.normal;
      }
  regex_means (apply (re_loop n m) (with_term t no_terms)) h =
      let one = regex_means t h in
      record {
        reglan = reglan.re_loop one.reglan n m;
        means = λ v. one_means (λ R. reglan.re_loop R n m) v t one.reglan (one.means v);
        normal = normal_loop n m one.reglan ∙ ap (times n m) one.normal;
      }
  regex_means t h = absurd (false≢true h)

  regexes_mean : (ts : Terms) → are_regexes ts ≡ true → AreMeant ts
  regexes_mean no_terms h = record { reglans = []; mean = λ v. refl; normals = refl }
  regexes_mean (with_term t ts) h =
      let parts = and_parts (is_regex t) (are_regexes ts) h in
      let one = regex_means t parts.0 in
      let rest = regexes_mean ts parts.1 in
      record {
        reglans = one.reglan ∷ rest.reglans;
        mean = λ v. ap₂ (λ m ms. m ∷ ms) (one.means v) (rest.mean v);
        normals = ap₂ (λ r rs. r ∷ rs) one.normal rest.normals;
      }

-- what is found of a term, in the words of its meaning
pub number_of : (rs : List Regex) (t : Term) (found : Option ℕ) → IsNumbered rs t found → IsNumberOf rs t found
number_of rs t None h = h
number_of rs t (Some id) h =
    let one = regex_means t h.0 in
    record {
      kind = h.0;
      reglan = one.reglan;
      means = one.means;
      names = h.1 ∙ ap Some (sym one.normal);
    }

pub number_given : {E : Type 0} (rs : List Regex) (t : Term) (found : Result (Option ℕ) E)
    → IfOk found (λ o. IsNumbered rs t o) → IfOk found (λ o. IsNumberOf rs t o)
number_given rs t (Ok o) h = number_of rs t o h
number_given rs t (Err e) h = tt

-- terms in a list
pub are_all : (xs : List Term) → are_regexes (terms_of xs) ≡ list_all is_regex xs
are_all [] = refl
are_all (t ∷ xs) = ap (λ b. is_regex t && b) (are_all xs)

pub regexes_all : (xs : List Term) → regexes_of (terms_of xs) ≡ map regex_of xs
regexes_all [] = refl
regexes_all (t ∷ xs) = ap (λ rs. regex_of t ∷ rs) (regexes_all xs)
