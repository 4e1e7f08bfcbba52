-- Measures of terms are those that their arguments' measures give.
use Rattle.std.proofs.Common.{◌≡◌, ℕ, suc, ◌+◌, ◌<◌, Bool, true, false, inl, inr, not, ◌&&◌, ◌==◌}
use Rattle.std.proofs.Common.{nat_le, if◌then◌else◌, Some, List, [], ◌∷◌, ◌++◌, length, get_or, refl, sym, ap, ap₂}
use Rattle.std.proofs.Common.{◌∙◌, arith, length-append, subst}
use Rattle.std.specs.Prelude.{is_some}
use Rattle.std.specs.List.{All, list_all}
use Rattle.std.proofs.lemmas.Bool.Decides.{nat_tests}
use Rattle.std.proofs.lemmas.Option.{slice_get-get_or}
use Rattle.std.proofs.Math.Bool.{and_assoc}
use Rattle.sb_facts.proofs.CallerLemmas.{get_push}
use Rattle.sb_meaning.specs.Terms.{Sort, boolean, integer, text, reglan, Symbol, Term, constant, apply, terms_of}
use Rattle.sb_meaning.specs.Terms as symbol
use Rattle.sb_meaning.specs.Sorts.{is_same_sort}
use Rattle.sb_script.specs.Brought.{is_regex, are_regexes, is_structure, is_text, are_texts}
use Rattle.sb_script.specs.Fragment.{fits, is_decided}
use Rattle.sb_script.specs.Pieces.{are_ground, pieces_of}
use Rattle.sb_script.specs.Sizes.{size_of, sizes_of, has_short_words, have_short_words, is_regular}
use Rattle.sb_script.specs.State.{asserted}
use Rattle.sb_script.proofs.CallerLemmas.{terms_in_of}
use Rattle.sb_term.specs.declared.term.Term as code
use Rattle.sb_term.specs.declared.term.Term.TheVariants as node
use Rattle.sb_term.specs.Nodes.{node_term}
use Rattle.sb_term.specs.Numbered.{term_at, terms_at}
use Rattle.sb_term.specs.Symbols.{sort_in, symbol_in}
use Rattle.sb_problem.specs.Patterns.{literal_of}
use Rattle.sb_fragment.specs.declared.fitting.Fit.{Fit}
use Rattle.sb_fragment.specs.declared.measure.Measure.{Measure}
use Rattle.sb_fragment.specs.Measures.{within_limit, IsMeasure, AreMeasures}
use Rattle.sb_fragment.specs.Measured.{is_text_by, has_pieces_by, is_regex_by, is_short_by, size_by, joined, no_measure, within, total}
use Rattle.sb_fragment.specs.Measured.{applied_measure, node_measure, with_fit}
use Rattle.sb_fragment.specs.declared.measures.Sides.{Sides}
use Rattle.sb_fragment.specs.Shapes.{parts_of, sides_in}
use Rattle.sb_fragment.specs.Fitting.{AreFit, IsFit, fit_with}
use Rattle.sb_fragment.proofs.SideFacts.{joined_have, text_has}

within_sum : (a b : ℕ) → within_limit (within_limit a + within_limit b) ≡ within_limit (a + b)
within_sum a b = grind (arith, nat_tests)

within_next : (a : ℕ) → within_limit (1 + within_limit a) ≡ within_limit (1 + a)
within_next a = grind (arith, nat_tests)

within_short : (a : ℕ) → nat_le (within_limit a) 65535 ≡ nat_le a 65535
within_short a = grind (arith, nat_tests)

pub both_moved : (a b c d : Bool) → ((a && b) && (c && d)) ≡ ((a && c) && (b && d))
both_moved true true c d = refl
both_moved true false true d = refl
both_moved true false false d = refl
both_moved false b c d = refl

-- what is known of terms together
pub record IsTotal (ts : List Term) (m : Measure) : Type 0 where
  pub text : m.is_text ≡ are_texts (terms_of ts)
  pub pieces : m.has_pieces ≡ list_all (λ t. is_some (pieces_of t)) ts
  pub constants : m.is_ground ≡ are_ground (terms_of ts)
  pub regex : m.is_regex ≡ are_regexes (terms_of ts)
  pub short : m.is_short ≡ have_short_words (terms_of ts)
  pub size : m.size ≡ within_limit (sizes_of (terms_of ts))
  pub structure : m.is_structure ≡ list_all is_structure ts
  pub fitting : m.fits ≡ list_all (λ t. is_decided (asserted t)) ts

total_more : (t : Term) (ts : List Term) (m n : Measure) → IsMeasure t m → IsTotal ts n → IsTotal (t ∷ ts) (joined m n)
total_more t ts m n p q = record {
  text = ap₂ ◌&&◌ p.text q.text;
  pieces = ap₂ ◌&&◌ p.pieces q.pieces;
  constants = ap₂ ◌&&◌ p.constants q.constants;
  regex = ap₂ ◌&&◌ p.regex q.regex;
  short = ap₂ ◌&&◌ p.short q.short;
  size = ap₂ (λ a b. within_limit (a + b)) p.size q.size ∙ within_sum (size_of t) (sizes_of (terms_of ts));
  structure = ap₂ ◌&&◌ p.structure q.structure;
  fitting = ap₂ ◌&&◌ p.fitting q.fitting;
}

of_none : IsTotal [] no_measure
of_none = record {
  text = refl;
  pieces = refl;
  constants = refl;
  regex = refl;
  short = refl;
  size = refl;
  structure = refl;
  fitting = refl;
}

total_is : (ts : List Term) (ms : List Measure) (is : List ℕ) → AreMeasures ts ms → All (λ i. i < length ms) is
    → IsTotal (terms_at ts is) (total ms is)
total_is ts ms [] h l = of_none
total_is ts ms (i ∷ is) h l =
    total_more (term_at ts i) (terms_at ts is) (get_or ms i no_measure) (total ms is)
    (h.each i (get_or ms i no_measure) (slice_get-get_or ms i no_measure (l 0 0 (omega arith))))
    (total_is ts ms is h (λ k d m. l (suc k) d (omega (arith, m))))

-- A symbol with arguments.

one_regex : (b : Bool) → b ≡ b && true
one_regex true = refl
one_regex false = refl

not_one : (n : ℕ) (b : Bool) → false ≡ ((suc (suc n) == 1) && b)
not_one n b = ap (λ t. t && b) none
  where
    none : false ≡ (suc (suc n) == 1)
    none = grind (arith, nat_tests)

not_two : (n : ℕ) (b : Bool) → false ≡ ((suc (suc (suc n)) == 2) && b)
not_two n b = ap (λ t. t && b) none
  where
    none : false ≡ (suc (suc (suc n)) == 2)
    none = grind (arith, nat_tests)

not_none : (n : ℕ) → false ≡ (suc n == 0)
not_none n = grind (arith, nat_tests)

some_parts : (n : ℕ) (b : Bool) → b ≡ (not (suc n == 0) && b)
some_parts n b = ap (λ t. t && b) some
  where
    some : true ≡ not (suc n == 0)
    some = grind (arith, nat_tests)

regex_applied : (s : Symbol) (ts : List Term)
    → is_regex (apply s (terms_of ts)) ≡ is_regex_by s (length ts) (are_texts (terms_of ts)) (are_regexes (terms_of ts))
regex_applied symbol.str_to_re [] = refl
regex_applied symbol.str_to_re (t ∷ []) = one_regex (is_text t)
regex_applied symbol.str_to_re (t ∷ u ∷ ts) = not_one (length ts) _
regex_applied symbol.re_range [] = refl
regex_applied symbol.re_range (t ∷ []) = refl
regex_applied symbol.re_range (t ∷ u ∷ []) = ap (λ b. is_text t && b) (one_regex (is_text u))
regex_applied symbol.re_range (t ∷ u ∷ x ∷ ts) = not_two (length ts) _
regex_applied symbol.re_concat [] = refl
regex_applied symbol.re_concat (t ∷ ts) = some_parts (length ts) _
regex_applied symbol.re_union [] = refl
regex_applied symbol.re_union (t ∷ ts) = some_parts (length ts) _
regex_applied symbol.re_star [] = refl
regex_applied symbol.re_star (t ∷ []) = one_regex (is_regex t)
regex_applied symbol.re_star (t ∷ u ∷ ts) = not_one (length ts) _
regex_applied symbol.re_plus [] = refl
regex_applied symbol.re_plus (t ∷ []) = one_regex (is_regex t)
regex_applied symbol.re_plus (t ∷ u ∷ ts) = not_one (length ts) _
regex_applied symbol.re_inter [] = refl
regex_applied symbol.re_inter (t ∷ ts) = some_parts (length ts) _
regex_applied symbol.re_diff [] = refl
regex_applied symbol.re_diff (t ∷ ts) = some_parts (length ts) _
regex_applied symbol.re_opt [] = refl
regex_applied symbol.re_opt (t ∷ []) = one_regex (is_regex t)
regex_applied symbol.re_opt (t ∷ u ∷ ts) = not_one (length ts) _
regex_applied symbol.re_comp [] = refl
regex_applied symbol.re_comp (t ∷ []) = one_regex (is_regex t)
regex_applied symbol.re_comp (t ∷ u ∷ ts) = not_one (length ts) _
regex_applied (symbol.re_power k) [] = refl
regex_applied (symbol.re_power k) (t ∷ []) = one_regex (is_regex t)
regex_applied (symbol.re_power k) (t ∷ u ∷ ts) = not_one (length ts) _
regex_applied (symbol.re_loop k l) [] = refl
regex_applied (symbol.re_loop k l) (t ∷ []) = one_regex (is_regex t)
regex_applied (symbol.re_loop k l) (t ∷ u ∷ ts) = not_one (length ts) _
regex_applied symbol.re_none [] = refl
regex_applied symbol.re_none (t ∷ ts) = not_none (length ts)
regex_applied symbol.re_all [] = refl
regex_applied symbol.re_all (t ∷ ts) = not_none (length ts)
regex_applied symbol.re_allchar [] = refl
regex_applied symbol.re_allchar (t ∷ ts) = not_none (length ts)
regex_applied _ ts = refl

short_applied : (s : Symbol) (ts : List Term) (short : Bool) (size : ℕ) → short ≡ have_short_words (terms_of ts)
    → size ≡ within_limit (sizes_of (terms_of ts)) → is_short_by s short size ≡ has_short_words (apply s (terms_of ts))
short_applied symbol.str_concat ts short size h k = ap (λ n. nat_le n 65535) k ∙ within_short (sizes_of (terms_of ts))
short_applied _ ts short size h k = h

size_applied : (s : Symbol) (ts : List Term) (size : ℕ) → size ≡ within_limit (sizes_of (terms_of ts))
    → size_by s size ≡ within_limit (size_of (apply s (terms_of ts)))
size_applied symbol.str_concat ts size k = k
size_applied _ ts size k = ap (λ n. within_limit (1 + n)) k ∙ within_next (sizes_of (terms_of ts))

text_applied : (s : Symbol) (ts : List Term) (texts : Bool) → texts ≡ are_texts (terms_of ts)
    → is_text_by s texts ≡ is_text (apply s (terms_of ts))
text_applied symbol.str_concat ts texts h = h
text_applied _ ts texts h = refl

pieces_applied : (s : Symbol) (ts : List Term) (texts : Bool) (size : ℕ) (pieces : Bool)
    → texts ≡ are_texts (terms_of ts) → size ≡ within_limit (sizes_of (terms_of ts))
    → pieces ≡ list_all (λ t. is_some (pieces_of t)) ts
    → has_pieces_by s texts size pieces ≡ is_some (pieces_of (apply s (terms_of ts)))
pieces_applied symbol.str_concat ts texts size pieces h k p = step texts h
  where
    step : (b : Bool) → b ≡ are_texts (terms_of ts)
        → (if b then nat_le size 65535 else pieces) ≡ is_some (pieces_of (apply symbol.str_concat (terms_of ts)))
    step true e =
        ap (λ n. nat_le n 65535) k
        ∙ (within_short (sizes_of (terms_of ts)) ∙ sym (text_has (apply symbol.str_concat (terms_of ts)) (sym e)))
    step false e = p ∙ joined_have ts (sym e)
pieces_applied _ ts texts size pieces h k p = refl

-- a constant is a piece by its sort
constant_has : (n : ℕ) (s : Sort) → is_same_sort text s ≡ is_some (pieces_of (constant n s))
constant_has n boolean = refl
constant_has n integer = refl
constant_has n text = refl
constant_has n reglan = refl

applied_is : (s : Symbol) (ts : List Term) (n : ℕ) (all : Measure) (fit : Fit) → n ≡ length ts → IsTotal ts all
    → IsFit (apply s (terms_of ts)) fit → IsMeasure (apply s (terms_of ts)) (with_fit fit (applied_measure s n all))
applied_is s ts n all fit e h f = record {
  text = text_applied s ts all.is_text h.text;
  pieces = pieces_applied s ts all.is_text all.size all.has_pieces h.text h.size h.pieces;
  constants = h.constants;
  regex = by_parts n all.is_text all.is_regex e h.text h.regex ∙ sym (regex_applied s ts);
  short = short_applied s ts all.is_short all.size h.short h.size;
  size = size_applied s ts all.size h.size;
  structure = f.structure;
  fitting = f.fitting;
}
  where
    by_parts : (k : ℕ) (b c : Bool) → k ≡ length ts → b ≡ are_texts (terms_of ts) → c ≡ are_regexes (terms_of ts)
        → is_regex_by s k b c ≡ is_regex_by s (length ts) (are_texts (terms_of ts)) (are_regexes (terms_of ts))
    by_parts k b c p q r = rw (p, q, r) refl

length_terms_at : (ts : List Term) (is : List ℕ) → length is ≡ length (terms_at ts is)
length_terms_at ts [] = refl
length_terms_at ts (i ∷ is) = ap suc (length_terms_at ts is)

node_is : (ts : List Term) (d : code.Term) (all : Measure) (fit : Fit) → IsTotal (parts_of (node_term ts d)) all
    → IsFit (node_term ts d) fit → IsMeasure (node_term ts d) (with_fit fit (node_measure all d))
node_is ts (node.Constant n s) all fit h f = record {
  text = refl;
  pieces = constant_has n.0 (sort_in s);
  constants = refl;
  regex = refl;
  short = refl;
  size = refl;
  structure = f.structure;
  fitting = f.fitting;
}
node_is ts (node.Word w) all fit h f = record {
  text = refl;
  pieces = sym (text_has (node_term ts (node.Word w)) refl);
  constants = refl;
  regex = refl;
  short = refl;
  size = refl;
  structure = f.structure;
  fitting = f.fitting;
}
node_is ts (node.Numeral n) all fit h f = record {
  text = refl;
  pieces = refl;
  constants = refl;
  regex = refl;
  short = refl;
  size = refl;
  structure = f.structure;
  fitting = f.fitting;
}
node_is ts (node.Apply s is) all fit h f =
    applied_is (symbol_in s) (terms_at ts is.items) (length is.items) all fit (length_terms_at ts is.items)
    (subst (λ us. IsTotal us all) (terms_in_of (terms_at ts is.items)) h) f
node_is ts (node.Parameter n s) all fit h f = record {
  text = refl;
  pieces = refl;
  constants = refl;
  regex = refl;
  short = refl;
  size = refl;
  structure = f.structure;
  fitting = f.fitting;
}

-- of the numbers of its arguments
total_of_parts : (ts : List Term) (ms : List Measure) (is : List ℕ) (us : List Term) (all : Measure) → AreMeasures ts ms
    → All (λ i. i < length ms) is → terms_at ts is ≡ us → all ≡ total ms is → IsTotal us all
total_of_parts ts ms is us all h l same sum =
    subst (IsTotal us) (sym sum) (subst (λ vs. IsTotal vs (total ms is)) same (total_is ts ms is h l))

-- all are decided that are Boolean structure and fit
all_decided : (ts : List Term)
    → list_all (λ t. is_decided (asserted t)) ts ≡ (list_all is_structure ts && list_all fits ts)
all_decided [] = refl
all_decided (t ∷ ts) =
    ap (λ b. (is_structure t && fits t) && b) (all_decided ts)
    ∙ both_moved (is_structure t) (fits t) (list_all is_structure ts) (list_all fits ts)

pub parts_fit : (ts : List Term) (ms : List Measure) (is : List ℕ) (us : List Term) (all : Measure) → AreMeasures ts ms
    → All (λ i. i < length ms) is → terms_at ts is ≡ us → all ≡ total ms is
    → AreFit us (fit_with all.is_structure all.fits)
parts_fit ts ms is us all h l same sum =
    let t = total_of_parts ts ms is us all h l same sum in
    record { structure = t.structure; fitting = t.fitting ∙ all_decided us }

pub measure_is : (ts : List Term) (ms : List Measure) (is : List ℕ) (d : code.Term) (t : Term) (all plain : Measure)
    (fit : Fit) → AreMeasures ts ms → All (λ i. i < length ms) is → terms_at ts is ≡ parts_of t → all ≡ total ms is
    → node_term ts d ≡ t → plain ≡ node_measure all d → IsFit t fit → IsMeasure t (with_fit fit plain)
measure_is ts ms is d t all plain fit h l same sum value made f =
    subst (λ m. IsMeasure t (with_fit fit m)) (sym made)
    (subst (λ u. IsTotal (parts_of u) all → IsFit u fit → IsMeasure u (with_fit fit (node_measure all d))) value
    (node_is ts d all fit) (total_of_parts ts ms is (parts_of t) all h l same sum) f)

pub literal_is : (t : Term) (m : Measure) → IsMeasure t m
    → IsMeasure (literal_of t) (applied_measure symbol.str_to_re 1 (joined m no_measure))
literal_is t m h =
    applied_is symbol.str_to_re (t ∷ []) 1 (joined m no_measure) (fit_with false false) refl
    (total_more t [] m no_measure h of_none) (record { structure = refl; fitting = refl })

-- One more measure.

pub measures_more : (ts : List Term) (ms : List Measure) (m : Measure) (n : ℕ) → AreMeasures ts ms → n ≡ length ms
    → n < length ts → IsMeasure (term_at ts n) m → AreMeasures ts (ms ++ m ∷ [])
measures_more ts ms m n h e l new = record {
  few = grind (arith, l, e, length-append ms (m ∷ []));
  each = λ i x g. elim (get_push ms m x i g) as (λ _. IsMeasure (term_at ts i) x) [
    | inl s ↦ h.each i x s
    | inr s ↦ moved i x (s.0 ∙ sym e) s.1
  ];
}
  where
    moved : (i : ℕ) (x : Measure) → i ≡ n → x ≡ m → IsMeasure (term_at ts i) x
    moved i x p q = rw (p, q) new

pub measure_found : (ts : List Term) (ms : List Measure) (i n : ℕ) (m : Measure) → AreMeasures ts ms → n ≡ i
    → i < length ms → m ≡ get_or ms n m → IsMeasure (term_at ts i) m
measure_found ts ms i n m h e l is =
    h.each i m (slice_get-get_or ms i m l ∙ ap Some (sym (is ∙ ap (λ k. get_or ms k m) e)))

abbrev chosen_sides : ℕ → ℕ → Bool → Sides
chosen_sides one other b = if b then record { word = other; other = one } else record { word = one; other = other }

within_size : (n : ℕ) → nat_le (within_limit n) 1000000 ≡ nat_le n 1000000
within_size n = grind (arith, nat_tests)

pub regular_is : (t : Term) (m : Measure) → IsMeasure t m → within m ≡ is_regular t
regular_is t m h =
    and_assoc m.is_ground m.is_short (nat_le m.size 1000000)
    ∙ ap₂ ◌&&◌ h.constants (ap₂ ◌&&◌ h.short (ap (λ n. nat_le n 1000000) h.size ∙ within_size (size_of t)))

-- the sides of an equality, by whether the second one is a word
pub sides_by : (ts : List Term) (one other : ℕ) (m : Measure) (b : Bool) → IsMeasure (term_at ts other) m
    → m.is_text ≡ b → chosen_sides one other b ≡ sides_in ts one other
sides_by ts one other m b h e = ap (chosen_sides one other) (sym e ∙ h.text)
