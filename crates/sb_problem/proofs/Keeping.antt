-- What is kept of terms by number, as more of them become known.
use Rattle.std.proofs.Common.{◌≡◌, ℕ, zero, suc, ◌+◌, ◌<◌, ◌≤◌, ◌≢◌, Bool, true, false, not, ◌&&◌, nat_eq, List, [], ◌∷◌, ◌++◌, length, get_or, take, drop, set, map, slice_get, refl, sym, ap, ap₂, subst, ◌∙◌, arith, ◌⊎◌, inl, inr, Option, Some, None, option_map, Result, IfOk, length-append}
use Rattle.std.proofs.lemmas.Bool.{and_parts, and_from, false≢true}
use Rattle.std.proofs.lemmas.Option.{same_Some}
use Rattle.std.proofs.lemmas.List.{drop_all, take_more, take_all, map-append, get_or-set_same, get_or-set_other, length-set}
use Rattle.std.proofs.lemmas.List.Elements.{All-append}
use Rattle.std.proofs.lemmas.List.Folds.{list_all-append, list_all_at}
use Rattle.std.proofs.lemmas.Bool.Decides.{nat_tests}
use Rattle.std.specs.List.{All, list_all}
use Rattle.std.specs.Prelude.{is_some}
use Rattle.sb_term.specs.declared.sort.Symbol.{Symbol}
use Rattle.sb_term.specs.declared.sort.Symbol.TheVariants as symbol
use Rattle.sb_term.specs.Symbols.{symbol_in}
use Rattle.sb_term.specs.declared.term.Term as code
use Rattle.sb_term.specs.declared.term.Term.TheVariants as node
use Rattle.sb_term.specs.Nodes.{node_term, ArgumentsBelow}
use Rattle.sb_term.specs.Numbered.{term_at, terms_at}
use Rattle.sb_term.proofs.CallerLemmas as table_facts
use Rattle.sb_term.specs.Numbered as table
use Rattle.sb_facts.proofs.CallerLemmas.{all_weaker}
use Rattle.sb_lang.specs.Regex.{Regex}
use Rattle.sb_regex.specs.Numbered.{regex_at, regexes_at, Extends}
use Rattle.sb_regex.proofs.CallerLemmas.{names_kept, names_at, names_below, one_number, numbers_kept, ats_kept}
use Rattle.sb_meaning.specs.Terms.{Term, Terms, apply, terms_of, no_terms, with_term, re_concat, str_concat}
use Rattle.sb_script.specs.Brought.{is_regex, are_regexes, is_text, are_texts}
use Rattle.sb_script.specs.Sizes.{size_of, sizes_of}
use Rattle.sb_problem.specs.declared.normals.Known.{Known}
use Rattle.sb_problem.specs.declared.normals.Known.TheVariants as known
use Rattle.sb_problem.specs.Known.{IsKnown, IsConcatenation, IsTextBy, AreNormals, AreTexts, AreTold, KnowsMore, PartsPass, count_known, known_from, is_something, is_other, is_concatenation, is_known}
use Rattle.sb_problem.specs.Laws.{NormalsStay}
use Rattle.sb_problem.specs.Patterns.{literal_of}
use Rattle.sb_problem.specs.Shapes.{IsNumbered, IsFound, AreRegexesOf, arguments_in, made, joins, joined_right, either, both, or_none, regex_of, regexes_of}
use Rattle.sb_problem.specs.Words.{up_to_limit}
use Rattle.sb_problem.proofs.Meanings.{are_all, regexes_all}
use Rattle.sb_problem.proofs.Texts.{limit_sum, regex_no_text, text_no_regex}

-- the last one of a list
pub all_last : {A : Type 0} (p : A → Bool) (xs : List A) (x : A) → list_all p (xs ++ x ∷ []) ≡ true
    → (list_all p xs ≡ true) × (p x ≡ true)
all_last p xs x h =
    let parts = and_parts (list_all p xs) (p x && true) (sym (list_all-append p xs (x ∷ [])) ∙ h) in
    (parts.0, (and_parts (p x) true parts.1).0)

-- one of a list
pub all_item : (p : ℕ → Bool) (ids : List ℕ) (i x : ℕ) → list_all p ids ≡ true → i < length ids → x ≡ get_or ids i x
    → p x ≡ true
all_item p ids i x h l is = step (p x) refl
  where
    step : (b : Bool) → p x ≡ b → p x ≡ true
    step true e = e
    step false e = absurd (false≢true (sym (list_all_at p ids i x l (ap p (sym is) ∙ e)) ∙ h))

-- what is known
pub known_inside : (ks : List Known) (i : ℕ) → is_known ks i ≡ true → i < length ks
known_inside [] i h = absurd (false≢true h)
known_inside (k ∷ ks) zero h = omega arith
known_inside (k ∷ ks) (suc i) h = let l = known_inside ks i h in omega (arith, l)

some_known : (k : Known) → (k ≡ known.Nothing → ⊥) → is_something k ≡ true
some_known known.Nothing h = absurd (h refl)
some_known known.Other h = refl
some_known known.Concatenation h = refl
some_known (known.Made id) h = refl
some_known (known.Text count) h = refl
some_known (known.Spelled id count) h = refl

pub kept_known : (ks : List Known) (id : ℕ) (k : Known) → k ≡ get_or ks id known.Nothing → (k ≡ known.Nothing → ⊥)
    → is_known ks id ≡ true
kept_known ks id k is h = ap is_something (sym is) ∙ some_known k h

concatenation_known : (k : Known) → is_concatenation k ≡ true → is_something k ≡ true
concatenation_known known.Nothing h = absurd (false≢true h)
concatenation_known known.Other h = absurd (false≢true h)
concatenation_known known.Concatenation h = refl
concatenation_known (known.Made id) h = absurd (false≢true h)
concatenation_known (known.Text count) h = absurd (false≢true h)
concatenation_known (known.Spelled id count) h = absurd (false≢true h)

pub known_something : (rs : List Regex) (t : Term) (k : Known) → IsKnown rs t k → is_something k ≡ true
known_something rs t known.Nothing h = absurd h
known_something rs t known.Other h = refl
known_something rs t known.Concatenation h = refl
known_something rs t (known.Made id) h = refl
known_something rs t (known.Text count) h = refl
known_something rs t (known.Spelled id count) h = refl

pub normals_new : (ts : List Term) (rs : List Regex) (ks : List Known) → length ks ≡ 0 → AreNormals ts rs ks
normals_new ts rs ks h = record {
  short = omega (arith, h);
  each = λ i m. let l = known_inside ks i m in absurd (omega (arith, h, l));
  parts = λ i m.
      let l = known_inside ks i (concatenation_known (get_or ks i known.Nothing) m) in absurd (omega (arith, h, l));
}

-- in an arena that grows
pub known_kept : (rs new : List Regex) (t : Term) (k : Known) → Extends rs new → IsKnown rs t k → IsKnown new t k
known_kept rs new t known.Nothing e h = h
known_kept rs new t known.Other e h = h
known_kept rs new t known.Concatenation e h = h
known_kept rs new t (known.Made id) e h = (h.0, names_kept rs new id (regex_of t) e h.1)
known_kept rs new t (known.Text count) e h = h
known_kept rs new t (known.Spelled id count) e h =
    (h.0, (h.1.0, names_kept rs new id (regex_of (literal_of t)) e h.1.1))

-- the arguments of a term
pub parts_weaker : (ts : List Term) (p q : ℕ → Bool) (i : ℕ) → ((j : ℕ) → p j ≡ true → q j ≡ true) → PartsPass ts p i
    → PartsPass ts q i
parts_weaker ts p q i passes h = λ is are below. all_weaker p q passes is (h is are below)

parts_stay : (ts more : List Term) (test : ℕ → Bool) (i : ℕ) → table.Extends ts more → i < length ts
    → PartsPass ts test i → PartsPass more test i
parts_stay ts more test i e l h = λ is are below.
    h is
    (ap terms_of (sym (table_facts.ats_kept ts more is e (λ k d m. omega (arith, below k d m, l))))
    ∙ (are ∙ ap arguments_in (table_facts.at_kept ts more i e l)))
    below

pub normals_stay : NormalsStay
normals_stay ts more rs new ks e f n = record {
  short = omega (arith, n.short, table_facts.long_kept ts more e);
  each = λ i m.
      let l = known_inside ks i m in
      let same = table_facts.at_kept ts more i e (omega (arith, l, n.short)) in
      rw same (known_kept rs new (term_at ts i) (get_or ks i known.Nothing) f (n.each i m));
  parts = λ i m.
      let l = known_inside ks i (concatenation_known (get_or ks i known.Nothing) m) in
      parts_stay ts more (is_known ks) i e (omega (arith, l, n.short)) (n.parts i m);
}

pub normals_grown : (ts : List Term) (rs new : List Regex) (ks : List Known) → Extends rs new → AreNormals ts rs ks
    → AreNormals ts new ks
normals_grown ts rs new ks e n = normals_stay ts ts rs new ks (table_facts.extends_same ts) e n

-- room for one more
nothing_more : (ks : List Known) (i : ℕ) → get_or (ks ++ known.Nothing ∷ []) i known.Nothing ≡ get_or ks i known.Nothing
nothing_more [] zero = refl
nothing_more [] (suc i) = refl
nothing_more (k ∷ ks) zero = refl
nothing_more (k ∷ ks) (suc i) = nothing_more ks i

pub normals_pushed : (ts : List Term) (rs : List Regex) (ks items items' : List Known) → AreNormals ts rs ks
    → items ≡ ks → items' ≡ items ++ known.Nothing ∷ [] → length ks < length ts → AreNormals ts rs items'
normals_pushed ts rs ks items items' n view more l =
    subst (AreNormals ts rs) (sym (more ∙ ap (λ xs. xs ++ known.Nothing ∷ []) view)) (record {
      short = omega (arith, l, length-append ks (known.Nothing ∷ []));
      each = λ i m.
          subst (IsKnown rs (term_at ts i)) (sym (nothing_more ks i))
          (n.each i (ap is_something (sym (nothing_more ks i)) ∙ m));
      parts = λ i m.
          parts_weaker ts (is_known ks) (is_known (ks ++ known.Nothing ∷ [])) i
          (λ j h. ap is_something (nothing_more ks j) ∙ h)
          (n.parts i (ap is_concatenation (sym (nothing_more ks i)) ∙ m));
    })

-- which terms are regular expressions
told_known : (rs : List Regex) (t : Term) (k : Known) → IsKnown rs t k → is_regex t ≡ not (is_other k)
told_known rs t known.Nothing h = absurd h
told_known rs t known.Other h = h.0
told_known rs t known.Concatenation h = h.kind
told_known rs t (known.Made id) h = h.0
told_known rs t (known.Text count) h = text_no_regex t h.0
told_known rs t (known.Spelled id count) h = text_no_regex t h.0.0

pub told : (ts : List Term) (rs : List Regex) (ks : List Known) → AreNormals ts rs ks → AreTold ts ks
told ts rs ks n i m = told_known rs (term_at ts i) (get_or ks i known.Nothing) (n.each i m)

-- which terms are words
text_known : (rs : List Regex) (t : Term) (k : Known) → IsKnown rs t k → IsTextBy t (count_known k)
text_known rs t known.Nothing h = absurd h
text_known rs t known.Other h = h.1
text_known rs t known.Concatenation h = regex_no_text t h.kind
text_known rs t (known.Made id) h = regex_no_text t h.0
text_known rs t (known.Text count) h = h
text_known rs t (known.Spelled id count) h = h.0

pub texts : (ts : List Term) (rs : List Regex) (ks : List Known) → AreNormals ts rs ks → AreTexts ts ks
texts ts rs ks n i m = text_known rs (term_at ts i) (get_or ks i known.Nothing) (n.each i m)

-- what is known of one that is a word, and of one that is none
pub text_at : (ts : List Term) (ks : List Known) (id : ℕ) (k : Known) (found : Option ℕ) → AreTexts ts ks
    → is_known ks id ≡ true → k ≡ get_or ks id known.Nothing → found ≡ count_known k →
    IsTextBy (term_at ts id) found
text_at ts ks id k found t m is e =
    subst (IsTextBy (term_at ts id)) (sym (e ∙ ap count_known is)) (t id m)

pub known_is : (rs : List Regex) (t : Term) (found : Option ℕ) → is_text t ≡ false → IsNumbered rs t found
    → IsKnown rs t (known_from found)
known_is rs t None other h = (h, other)
known_is rs t (Some id) other h = h

-- a list of terms, one further
pub kinds_further : (p : Term → Bool) (ts : List Term) (ids : List ℕ) (i x : ℕ) → i < length ids → x ≡ get_or ids i x
    → list_all p (terms_at ts (take i ids)) ≡ true → p (term_at ts x) ≡ true →
    list_all p (terms_at ts (take (i + 1) ids)) ≡ true
kinds_further p ts ids i x l there all one =
    ap (λ xs. list_all p (terms_at ts xs)) (take_more ids i x l ∙ ap (λ y. take i ids ++ y ∷ []) (sym there))
    ∙ (ap (list_all p) (map-append (term_at ts) (take i ids) (x ∷ []))
    ∙ (list_all-append p (terms_at ts (take i ids)) (term_at ts x ∷ [])
    ∙ ap₂ ◌&&◌ all (ap (λ b. b && true) one)))

-- where one is not
pub one_other : (p : Term → Bool) (ts : List Term) (ids : List ℕ) (i x : ℕ) → i < length ids → x ≡ get_or ids i x
    → p (term_at ts x) ≡ false → list_all p (terms_at ts ids) ≡ false
one_other p ts [] i x l there other = absurd (omega arith)
one_other p ts (y ∷ ids) zero x l there other =
    ap (λ b. b && list_all p (terms_at ts ids)) (ap (λ z. p (term_at ts z)) (sym there) ∙ other)
one_other p ts (y ∷ ids) (suc i) x l there other =
    ap (λ b. p (term_at ts y) && b) (one_other p ts ids i x (omega (arith, l)) there other) ∙ and_false (p (term_at ts y))
  where
    and_false : (b : Bool) → (b && false) ≡ false
    and_false true = refl
    and_false false = refl

pub regexes_none : (rs : List Regex) → AreRegexesOf rs [] []
regexes_none rs = record { kind = refl; numbers = λ k d l. absurd (omega (arith, l)); regexes = refl }

pub regexes_further : (rs new : List Regex) (ts : List Term) (ids : List ℕ) (i x : ℕ) (found found' : List ℕ) (id : ℕ)
    → AreRegexesOf rs (terms_at ts (take i ids)) found → Extends rs new → i < length ids → x ≡ get_or ids i x →
    IsNumbered new (term_at ts x) (Some id) → found' ≡ found ++ id ∷ []
    → AreRegexesOf new (terms_at ts (take (i + 1) ids)) found'
regexes_further rs new ts ids i x found found' id all e l there one is = rw is (record {
  kind = kinds_further is_regex ts ids i x l there all.kind one.0;
  numbers = All-append (λ n. n < length new) found (id ∷ []) (numbers_kept rs new found e all.numbers)
      (one_number new id (names_below new id _ one.1));
  regexes = map-append (regex_at new) found (id ∷ [])
      ∙ (ap₂ (λ xs y. xs ++ y ∷ []) (ats_kept rs new found e all.numbers ∙ all.regexes) (names_at new id _ one.1)
      ∙ sym (further ∙ map-append regex_of (terms_at ts (take i ids)) (term_at ts x ∷ [])));
})
  where
    further : map regex_of (terms_at ts (take (i + 1) ids)) ≡ map regex_of (terms_at ts (take i ids) ++ term_at ts x ∷ [])
    further = ap (λ xs. map regex_of (terms_at ts xs)) (take_more ids i x l ∙ ap (λ y. take i ids ++ y ∷ []) (sym there))
        ∙ ap (map regex_of) (map-append (term_at ts) (take i ids) (x ∷ []))

alone_false : (b : Bool) → (b && true) ≡ false → b ≡ false
alone_false true h = h
alone_false false h = refl

alone_true : (b : Bool) → (b && true) ≡ true → b ≡ true
alone_true true h = h
alone_true false h = h

other_one : (s : Symbol) (ts : Terms) → joins s ≡ true → are_regexes ts ≡ false
    → is_regex (apply (symbol_in s) ts) ≡ false
other_one symbol.ReUnion no_terms h k = refl
other_one symbol.ReUnion (with_term t ts) h k = k
other_one symbol.ReStar no_terms h k = refl
other_one symbol.ReStar (with_term t no_terms) h k = alone_false (is_regex t) k
other_one symbol.ReStar (with_term t (with_term u ts)) h k = refl
other_one symbol.RePlus no_terms h k = refl
other_one symbol.RePlus (with_term t no_terms) h k = alone_false (is_regex t) k
other_one symbol.RePlus (with_term t (with_term u ts)) h k = refl
other_one symbol.ReInter no_terms h k = refl
other_one symbol.ReInter (with_term t ts) h k = k
other_one symbol.ReDiff no_terms h k = refl
other_one symbol.ReDiff (with_term t ts) h k = k
other_one symbol.ReOpt no_terms h k = refl
other_one symbol.ReOpt (with_term t no_terms) h k = alone_false (is_regex t) k
other_one symbol.ReOpt (with_term t (with_term u ts)) h k = refl
other_one symbol.ReComp no_terms h k = refl
other_one symbol.ReComp (with_term t no_terms) h k = alone_false (is_regex t) k
other_one symbol.ReComp (with_term t (with_term u ts)) h k = refl
other_one (symbol.RePower n) no_terms h k = refl
other_one (symbol.RePower n) (with_term t no_terms) h k = alone_false (is_regex t) k
other_one (symbol.RePower n) (with_term t (with_term u ts)) h k = refl
other_one (symbol.ReLoop n m) no_terms h k = refl
other_one (symbol.ReLoop n m) (with_term t no_terms) h k = alone_false (is_regex t) k
other_one (symbol.ReLoop n m) (with_term t (with_term u ts)) h k = refl
other_one symbol.ReNone no_terms h k = absurd (false≢true (sym k))
other_one symbol.ReNone (with_term t ts) h k = refl
other_one symbol.ReAll no_terms h k = absurd (false≢true (sym k))
other_one symbol.ReAll (with_term t ts) h k = refl
other_one symbol.ReAllChar no_terms h k = absurd (false≢true (sym k))
other_one symbol.ReAllChar (with_term t ts) h k = refl
other_one s ts h k = absurd (false≢true h)

-- what makes a regular expression makes no word
joins_no_text : (s : Symbol) (ts : Terms) → joins s ≡ true → is_text (apply (symbol_in s) ts) ≡ false
joins_no_text symbol.ReUnion ts h = refl
joins_no_text symbol.ReInter ts h = refl
joins_no_text symbol.ReDiff ts h = refl
joins_no_text symbol.ReStar ts h = refl
joins_no_text symbol.RePlus ts h = refl
joins_no_text symbol.ReOpt ts h = refl
joins_no_text symbol.ReComp ts h = refl
joins_no_text symbol.ReNone ts h = refl
joins_no_text symbol.ReAll ts h = refl
joins_no_text symbol.ReAllChar ts h = refl
joins_no_text (symbol.RePower n) ts h = refl
joins_no_text (symbol.ReLoop n m) ts h = refl
joins_no_text s ts h = absurd (false≢true h)

pub none_given : (rs : List Regex) (s : Symbol) (ts : List Term) (ids : List ℕ) (t : Term) → joins s ≡ true
    → t ≡ apply (symbol_in s) (terms_of (terms_at ts ids)) → list_all is_regex (terms_at ts ids) ≡ false →
    IsKnown rs t known.Other
none_given rs s ts ids t h is other = rw is (
  other_one s (terms_of (terms_at ts ids)) h (are_all (terms_at ts ids) ∙ other),
  joins_no_text s (terms_of (terms_at ts ids)) h,
)

some_joined : (join : Regex → Regex → Regex) (r : Regex) (rs : List Regex) → joined_right join (r ∷ rs) ≡ None → ⊥
some_joined join r [] e = cc
some_joined join r (s ∷ rs) e = some_joined join s rs (nothing (joined_right join (s ∷ rs)) e)
  where
    nothing : (o : Option Regex) → option_map (join r) o ≡ None → o ≡ None
    nothing None e = refl
    nothing (Some x) e = cc

some_one : (s : Symbol) (t : Term) (ts : Terms) → joins s ≡ true → are_regexes (with_term t ts) ≡ true
    → (o : Option Regex) → made s (regex_of t ∷ regexes_of ts) ≡ o
    → elim o as (λ _. Type 0) [
      | None ↦ is_regex (apply (symbol_in s) (with_term t ts)) ≡ false
      | Some r ↦ (is_regex (apply (symbol_in s) (with_term t ts)) ≡ true)
          × (regex_of (apply (symbol_in s) (with_term t ts)) ≡ r)
    ]
some_one symbol.ReUnion t ts h k None e = absurd (some_joined either (regex_of t) (regexes_of ts) e)
some_one symbol.ReUnion t ts h k (Some r) e = (k, ap or_none e)
some_one symbol.ReStar t no_terms h k None e = cc
some_one symbol.ReStar t no_terms h k (Some r) e = (alone_true (is_regex t) k, ap or_none e)
some_one symbol.ReStar t (with_term u ts) h k None e = refl
some_one symbol.ReStar t (with_term u ts) h k (Some r) e = cc
some_one symbol.RePlus t no_terms h k None e = cc
some_one symbol.RePlus t no_terms h k (Some r) e = (alone_true (is_regex t) k, ap or_none e)
some_one symbol.RePlus t (with_term u ts) h k None e = refl
some_one symbol.RePlus t (with_term u ts) h k (Some r) e = cc
some_one symbol.ReInter t ts h k None e = absurd (some_joined both (regex_of t) (regexes_of ts) e)
some_one symbol.ReInter t ts h k (Some r) e = (k, ap or_none e)
some_one symbol.ReDiff t ts h k None e = cc
some_one symbol.ReDiff t ts h k (Some r) e = (k, ap or_none e)
some_one symbol.ReOpt t no_terms h k None e = cc
some_one symbol.ReOpt t no_terms h k (Some r) e = (alone_true (is_regex t) k, ap or_none e)
some_one symbol.ReOpt t (with_term u ts) h k None e = refl
some_one symbol.ReOpt t (with_term u ts) h k (Some r) e = cc
some_one symbol.ReComp t no_terms h k None e = cc
some_one symbol.ReComp t no_terms h k (Some r) e = (alone_true (is_regex t) k, ap or_none e)
some_one symbol.ReComp t (with_term u ts) h k None e = refl
some_one symbol.ReComp t (with_term u ts) h k (Some r) e = cc
some_one (symbol.RePower n) t no_terms h k None e = cc
some_one (symbol.RePower n) t no_terms h k (Some r) e = (alone_true (is_regex t) k, ap or_none e)
some_one (symbol.RePower n) t (with_term u ts) h k None e = refl
some_one (symbol.RePower n) t (with_term u ts) h k (Some r) e = cc
some_one (symbol.ReLoop n m) t no_terms h k None e = cc
some_one (symbol.ReLoop n m) t no_terms h k (Some r) e = (alone_true (is_regex t) k, ap or_none e)
some_one (symbol.ReLoop n m) t (with_term u ts) h k None e = refl
some_one (symbol.ReLoop n m) t (with_term u ts) h k (Some r) e = cc
some_one symbol.ReNone t ts h k None e = refl
some_one symbol.ReNone t ts h k (Some r) e = cc
some_one symbol.ReAll t ts h k None e = refl
some_one symbol.ReAll t ts h k (Some r) e = cc
some_one symbol.ReAllChar t ts h k None e = refl
some_one symbol.ReAllChar t ts h k (Some r) e = cc
some_one s t ts h k o e = absurd (false≢true h)

abbrev Gives : Term → Option Regex → Type 0
Gives t None = is_regex t ≡ false
Gives t (Some r) = (is_regex t ≡ true) × (regex_of t ≡ r)

empty_one : (s : Symbol) → joins s ≡ true → Gives (apply (symbol_in s) no_terms) (made s [])
empty_one symbol.ReUnion h = refl
empty_one symbol.ReInter h = refl
empty_one symbol.ReDiff h = refl
empty_one symbol.ReStar h = refl
empty_one symbol.RePlus h = refl
empty_one symbol.ReOpt h = refl
empty_one symbol.ReComp h = refl
empty_one (symbol.RePower n) h = refl
empty_one (symbol.ReLoop n m) h = refl
empty_one symbol.ReNone h = (refl, refl)
empty_one symbol.ReAll h = (refl, refl)
empty_one symbol.ReAllChar h = (refl, refl)
empty_one s h = absurd (false≢true h)

found_is : (new : List Regex) (t : Term) (r : Option Regex) (o : Option ℕ) → Gives t r → IsFound new o r
    → IsNumbered new t o
found_is new t None None g f = g
found_is new t None (Some id) g f = absurd (nothing (slice_get new id) f)
  where
    nothing : (x : Option Regex) → Some x ≡ None → ⊥
    nothing x e = cc
found_is new t (Some r) None g f = absurd (nothing (Some r) f)
  where
    nothing : (x : Option Regex) → None ≡ Some x → ⊥
    nothing x e = cc
found_is new t (Some r) (Some id) g f = (g.0, same_Some (slice_get new id) (Some r) f ∙ ap Some (sym g.1))

gives : (s : Symbol) (t : Term) (ts : Terms) → joins s ≡ true → are_regexes (with_term t ts) ≡ true
    → (o : Option Regex) → made s (regex_of t ∷ regexes_of ts) ≡ o → Gives (apply (symbol_in s) (with_term t ts)) o
gives s t ts h k None e = some_one s t ts h k None e
gives s t ts h k (Some r) e = some_one s t ts h k (Some r) e

by_regexes : (s : Symbol) (new : List Regex) (ts : Terms) (o : Option ℕ) → joins s ≡ true → are_regexes ts ≡ true
    → IsFound new o (made s (regexes_of ts)) → IsNumbered new (apply (symbol_in s) ts) o
by_regexes s new no_terms o h k f = found_is new (apply (symbol_in s) no_terms) (made s []) o (empty_one s h) f
by_regexes s new (with_term t ts) o h k f =
    found_is new (apply (symbol_in s) (with_term t ts)) (made s (regex_of t ∷ regexes_of ts)) o
    (gives s t ts h k (made s (regex_of t ∷ regexes_of ts)) refl) f

pub made_known : (rs new : List Regex) (s : Symbol) (ts : List Term) (ids found found' : List ℕ) (t : Term)
    (o : Option ℕ) (k : Known) → joins s ≡ true → t ≡ apply (symbol_in s) (terms_of (terms_at ts ids)) →
    AreRegexesOf rs (terms_at ts ids) found → found' ≡ found → IsFound new o (made s (regexes_at rs found')) →
    k ≡ known_from o → IsKnown new t k
made_known rs new s ts ids found found' t o k h is all same f from =
    let same_regexes : regexes_at rs found' ≡ regexes_of (terms_of (terms_at ts ids)) =
    ap (regexes_at rs) same ∙ (all.regexes ∙ sym (regexes_all (terms_at ts ids))) in
    rw (from, is) (known_is new (apply (symbol_in s) (terms_of (terms_at ts ids))) o
    (joins_no_text s (terms_of (terms_at ts ids)) h)
    (by_regexes s new (terms_of (terms_at ts ids)) o h (are_all (terms_at ts ids) ∙ all.kind)
    (f ∙ ap (λ rs. option_map Some (made s rs)) same_regexes)))

pub known_at : (ts : List Term) (rs : List Regex) (ks : List Known) (id : ℕ) (k : Known) → AreNormals ts rs ks
    → is_known ks id ≡ true → k ≡ get_or ks id known.Nothing → IsKnown rs (term_at ts id) k
known_at ts rs ks id k n m is = subst (IsKnown rs (term_at ts id)) (sym is) (n.each id m)

pub told_at : (ts : List Term) (ks : List Known) (id : ℕ) (k : Known) → AreTold ts ks → is_known ks id ≡ true
    → k ≡ get_or ks id known.Nothing → is_other k ≡ true → is_regex (term_at ts id) ≡ false
told_at ts ks id k t m is other = t id m ∙ (ap (λ x. not (is_other x)) (sym is) ∙ ap not other)

-- what is none, whether or not it is a word
pub other_or_text : (k : Known) → (k ≡ known.Nothing) ⊎ ((k ≡ known.Other)
    ⊎ (((count : _) × (k ≡ known.Text count)) ⊎ ((id : _) × (count : _) × (k ≡ known.Spelled id count))))
    → is_other k ≡ true
other_or_text k (inl is) = ap is_other is
other_or_text k (inr (inl is)) = ap is_other is
other_or_text k (inr (inr (inl is))) = ap is_other is.1
other_or_text k (inr (inr (inr is))) = ap is_other is.2

pub concat_other : (rs : List Regex) (ts : List Term) (ids : List ℕ) (i x : ℕ) → i < length ids → x ≡ get_or ids i x
    → is_regex (term_at ts x) ≡ false → IsKnown rs (apply re_concat (terms_of (terms_at ts ids))) known.Other
concat_other rs ts ids i x l there other =
    (by_list (terms_at ts ids) (one_other is_regex ts ids i x l there other), refl)
  where
    by_list : (xs : List Term) → list_all is_regex xs ≡ false → is_regex (apply re_concat (terms_of xs)) ≡ false
    by_list [] h = refl
    by_list (t ∷ xs) h = ap (λ b. is_regex t && b) (are_all xs) ∙ h

pub concat_known : (ts : List Term) (ids : List ℕ) (i : ℕ) → list_all is_regex (terms_at ts (take i ids)) ≡ true
    → length ids ≤ i → (length ids ≡ 0 → ⊥) → IsConcatenation (apply re_concat (terms_of (terms_at ts ids)))
concat_known ts ids i h l some =
    let all = ap (λ xs. list_all is_regex (terms_at ts xs)) (sym (take_all i ids l)) ∙ h in
    record { kind = by_ids ids all some; parts = terms_of (terms_at ts ids); is = refl }
  where
    by_ids : (ids : List ℕ) → list_all is_regex (terms_at ts ids) ≡ true → (length ids ≡ 0 → ⊥)
        → is_regex (apply re_concat (terms_of (terms_at ts ids))) ≡ true
    by_ids [] h some = absurd (some refl)
    by_ids (x ∷ ids) h some = ap (λ b. is_regex (term_at ts x) && b) (are_all (terms_at ts ids)) ∙ h

-- one that becomes known, or is known better
set_known : (ks : List Known) (id : ℕ) (k : Known) → id < length ks → is_something k ≡ true → (i : ℕ)
    → is_known ks i ≡ true → is_known (set ks id k) i ≡ true
set_known ks id k l some i h = step (nat_eq i id) refl
  where
    step : (b : Bool) → nat_eq i id ≡ b → is_known (set ks id k) i ≡ true
    step true is =
        let z : i ≡ id = grind (arith, nat_tests) in
        rw z (ap is_something (get_or-set_same ks id k known.Nothing l) ∙ some)
    step false is =
        let z : i ≢ id = grind (arith, nat_tests) in
        ap is_something (get_or-set_other ks id i k known.Nothing z) ∙ h

pub normals_set : (ts : List Term) (rs new : List Regex) (ks ks' : List Known) (id : ℕ) (k : Known)
    → AreNormals ts rs ks → Extends rs new → id < length ks → IsKnown new (term_at ts id) k →
    (is_concatenation k ≡ true → PartsPass ts (is_known ks) id) → ks' ≡ set ks id k → AreNormals ts new ks'
normals_set ts rs new ks ks' id k n e l h parts is = subst (AreNormals ts new) (sym is) (record {
  short = omega (arith, n.short, length-set ks id k);
  each = λ i m. now i m (nat_eq i id) refl;
  parts = λ i m.
      parts_weaker ts (is_known ks) (is_known (set ks id k)) i
      (set_known ks id k l (known_something new (term_at ts id) k h)) (behind i m (nat_eq i id) refl);
})
  where
    now : (i : ℕ) → is_known (set ks id k) i ≡ true → (b : Bool) → nat_eq i id ≡ b
        → IsKnown new (term_at ts i) (get_or (set ks id k) i known.Nothing)
    now i m true is =
        let z : i ≡ id = grind (arith, nat_tests) in
        rw z (rw (get_or-set_same ks id k known.Nothing l) h)
    now i m false is =
        let z : i ≢ id = grind (arith, nat_tests) in
        let same = get_or-set_other ks id i k known.Nothing z in
        let before = n.each i (ap is_something (sym same) ∙ m) in
        rw same (known_kept rs new (term_at ts i) (get_or ks i known.Nothing) e before)

    behind : (i : ℕ) → is_concatenation (get_or (set ks id k) i known.Nothing) ≡ true → (b : Bool) → nat_eq i id ≡ b
        → PartsPass ts (is_known ks) i
    behind i m true is =
        let z : i ≡ id = grind (arith, nat_tests) in
        rw z (parts (ap is_concatenation (sym (get_or-set_same ks id k known.Nothing l)) ∙ (rw z at m)))
    behind i m false is =
        let z : i ≢ id = grind (arith, nat_tests) in
        n.parts i (ap is_concatenation (sym (get_or-set_other ks id i k known.Nothing z)) ∙ m)

pub knows_same : (ks : List Known) → KnowsMore ks ks
knows_same ks = record { long = refl; kept = λ i h. h }

pub knows_both : (a b c : List Known) → KnowsMore a b → KnowsMore b c → KnowsMore a c
knows_both a b c p q = record { long = q.long ∙ p.long; kept = λ i h. q.kept i (p.kept i h) }

pub knows_set : (ks ks' : List Known) (id : ℕ) (k : Known) → id < length ks → is_something k ≡ true
    → ks' ≡ set ks id k → KnowsMore ks ks'
knows_set ks ks' id k l some is =
    subst (KnowsMore ks) (sym is) (record { long = length-set ks id k; kept = set_known ks id k l some })

pub now_known : (ks ks' : List Known) (id : ℕ) (k : Known) → id < length ks → is_something k ≡ true
    → ks' ≡ set ks id k → is_known ks' id ≡ true
now_known ks ks' id k l some is =
    ap (λ xs. is_known xs id) is ∙ (ap is_something (get_or-set_same ks id k known.Nothing l) ∙ some)

-- the term of a node with arguments
pub applied_at : (ts : List Term) (d : code.Term) (s : Symbol) (arguments : _) (items : List ℕ) (id : ℕ)
    → node_term ts d ≡ term_at ts id → d ≡ node.Apply s arguments → items ≡ arguments.items →
    term_at ts id ≡ apply (symbol_in s) (terms_of (terms_at ts items))
applied_at ts d s arguments items id value is same =
    sym value ∙ (ap (node_term ts) is ∙ ap (λ xs. apply (symbol_in s) (terms_of (terms_at ts xs))) (sym same))

pub arguments_pass : (ts : List Term) (test : ℕ → Bool) (d : code.Term) (s : Symbol) (arguments : _) (items : List ℕ)
    (id : ℕ) → PartsPass ts test id → node_term ts d ≡ term_at ts id → d ≡ node.Apply s arguments →
    items ≡ arguments.items → ArgumentsBelow id d → list_all test items ≡ true
arguments_pass ts test d s arguments items id h value is same below =
    h items (sym (ap arguments_in (applied_at ts d s arguments items id value is same)))
    (subst (All (λ j. j < id)) (sym same) (subst (ArgumentsBelow id) is below))

-- Concatenations of String terms.

text_all : (xs : List Term) → are_texts (terms_of xs) ≡ list_all is_text xs
text_all [] = refl
text_all (t ∷ xs) = ap (λ b. is_text t && b) (text_all xs)

-- one that is no word
pub joined_other : (rs : List Regex) (ts : List Term) (ids : List ℕ) (i x : ℕ) → i < length ids → x ≡ get_or ids i x
    → is_text (term_at ts x) ≡ false → IsKnown rs (apply str_concat (terms_of (terms_at ts ids))) known.Other
joined_other rs ts ids i x l there other =
    (refl, text_all (terms_at ts ids) ∙ one_other is_text ts ids i x l there other)

-- all of them from a place on are words, and have so many letters
pub record AreWords (ts : List Term) (ids : List ℕ) (count : ℕ) : Type 0 where
  pub kind : are_texts (terms_of (terms_at ts ids)) ≡ true
  pub size : count ≡ up_to_limit (sizes_of (terms_of (terms_at ts ids)))

pub words_none : (ts : List Term) (ids : List ℕ) (k count : ℕ) → k ≡ length ids → count ≡ 0
    → AreWords ts (drop k ids) count
words_none ts ids k count e none = rw (drop_all k ids (omega (arith, e)), none) (record { kind = refl; size = refl })

pub words_more : (ts : List Term) (ids : List ℕ) (k x one all sum : ℕ) → k < length ids → x ≡ get_or ids k x
    → IsTextBy (term_at ts x) (Some one) → sum ≡ up_to_limit (one + all) → AreWords ts (drop (suc k) ids) all
    → AreWords ts (drop k ids) sum
words_more ts [] k x one all sum l there h e w = absurd (omega arith)
words_more ts (y ∷ ids) zero x one all sum l there h e w = rw (← there) (record {
  kind = and_from (is_text (term_at ts x)) (are_texts (terms_of (terms_at ts ids))) h.0 w.kind;
  size = e
      ∙ (ap₂ (λ a b. up_to_limit (a + b)) h.1 w.size
      ∙ limit_sum (size_of (term_at ts x)) (sizes_of (terms_of (terms_at ts ids))));
})
words_more ts (y ∷ ids) (suc k) x one all sum l there h e w =
    words_more ts ids k x one all sum (omega (arith, l)) there h e w

pub joined_text : (rs : List Regex) (ts : List Term) (ids : List ℕ) (count k : ℕ) → k ≡ 0
    → AreWords ts (drop k ids) count → IsKnown rs (apply str_concat (terms_of (terms_at ts ids))) (known.Text count)
joined_text rs ts ids count k e w =
    let all : AreWords ts ids count = subst (λ n. AreWords ts (drop n ids) count) e w in
    (all.kind, all.size)

-- what is known of a term that is the same
pub known_of_applied : {E : Type 0} (rs : List Regex) (t u : Term) (found : Result Known E) → t ≡ u
    → IfOk found (λ k. IsKnown rs u k) → IfOk found (λ k. IsKnown rs t k)
known_of_applied rs t u found is h = rw is h

-- whether a count is known
pub no_count : (t : Term) (found : Option ℕ) (none : Bool) → IsTextBy t found → is_some found ≡ not none → none ≡ true
    → is_text t ≡ false
no_count t None none h told is = h
no_count t (Some count) none h told is = absurd (false≢true (sym (told ∙ ap not is)))

pub some_count : (t : Term) (found : Option ℕ) (none : Bool) → IsTextBy t found → is_some found ≡ not none
    → none ≡ false → is_text t ≡ true
some_count t None none h told is = absurd (false≢true (told ∙ ap not is))
some_count t (Some count) none h told is = h.0
