-- Concatenations from the last of their members to the first.
use Rattle.std.proofs.Common.{◌≡◌, ℕ, ◌+◌, ◌<◌, true, ◌&&◌, List, [], ◌∷◌, ◌++◌, length, get_or, map, refl, sym, ap, ap₂, subst, ◌∙◌, arith, Option, Some, None, vec_len}
use Rattle.std.proofs.lemmas.Bool.{and_parts, and_from, false≢true}
use Rattle.std.proofs.lemmas.List.{map-append}
use Rattle.std.proofs.lemmas.List.Folds.{list_all-append}
use Rattle.std.specs.List.{All, list_all}
use Rattle.std.specs.declared.vec.Vec.{Vec}
use Rattle.std.specs.declared.alloc.Global.{Global}
use Rattle.sb_lang.specs.Regex.{Regex, eps}
use Rattle.sb_lang.specs.Constructors.{mkcat}
use Rattle.sb_lang.specs.FoldLaws.{ConcatenationGroups}
use Rattle.sb_lang.proofs.CallerLemmas.{mkcat-eps}
use Rattle.sb_facts.proofs.CallerLemmas.{all_append}
use Rattle.sb_regex.specs.Numbered.{regex_at, Names}
use Rattle.sb_regex.proofs.CallerLemmas.{names_at, names_below, names_from}
use Rattle.sb_meaning.specs.Terms.{Term, Terms, constant, word, numeral, apply, parameter, terms_of, re_concat}
use Rattle.sb_script.specs.Brought.{is_regex}
use Rattle.sb_term.specs.Numbered.{term_at, terms_at}
use Rattle.sb_problem.specs.declared.normals.Known.{Known}
use Rattle.sb_problem.specs.declared.normals.Known.TheVariants as known
use Rattle.sb_problem.specs.Known.{IsKnown, IsConcatenation, AreNormals, is_concatenation, is_known}
use Rattle.sb_problem.specs.Shapes.{joined_right, or_none, regex_of, arguments_in}
use Rattle.sb_problem.specs.Waiting.{size, sizes}
use Rattle.sb_problem.proofs.Keeping.{all_last}
use Rattle.sb_problem.proofs.Meanings.{are_all, regexes_all}
use Rattle.sb_problem.proofs.Texts.{text_no_regex}

-- how many there are in all of them
abbrev pub total : List Term → ℕ
total [] = 0
total (t ∷ ts) = size t + total ts

total_of : (xs : List Term) → sizes (terms_of xs) ≡ total xs
total_of [] = refl
total_of (t ∷ xs) = ap (λ n. size t + n) (total_of xs)

total-append : (xs ys : List Term) → total (xs ++ ys) ≡ total xs + total ys
total-append [] ys = omega arith
total-append (t ∷ xs) ys = omega (arith, total-append xs ys)

pub some_size : (t : Term) → 0 < size t
some_size (apply s ts) = omega arith
some_size (constant serial sort) = omega arith
some_size (word w) = omega arith
some_size (numeral n) = omega arith
some_size (parameter place sort) = omega arith

-- regexes, and one behind them
abbrev pub chain : List Regex → Regex → Regex
chain [] w = w
chain (r ∷ rs) w = mkcat r (chain rs w)

chain-append : (rs ss : List Regex) (w : Regex) → chain (rs ++ ss) w ≡ chain rs (chain ss w)
chain-append [] ss w = refl
chain-append (r ∷ rs) ss w = ap (mkcat r) (chain-append rs ss w)

some_joined : (r : Regex) (rs : List Regex)
    → (x : Regex) × (joined_right mkcat (r ∷ rs) ≡ Some x)
some_joined r [] = (r, refl)
some_joined r (s ∷ rs) =
    let rest = some_joined s rs in
    (mkcat r rest.0, ap (λ o. elim o as (λ _. Option Regex) [ None ↦ None | Some x ↦ Some (mkcat r x) ]) rest.1)

chain_joined : ConcatenationGroups → (r : Regex) (rs : List Regex) (w : Regex)
    → chain (r ∷ rs) w ≡ mkcat (or_none (joined_right mkcat (r ∷ rs))) w
unfolding some_joined
chain_joined groups r [] w = refl
chain_joined groups r (s ∷ rs) w =
    let rest = some_joined s rs in
    ap (mkcat r) (chain_joined groups s rs w ∙ ap (λ o. mkcat (or_none o) w) rest.1)
    ∙ (sym (groups r rest.0 w)
    ∙ ap (λ o. mkcat (or_none o) w) (sym (some_joined r (s ∷ rs)).1))

-- the terms that are left, with the regex behind them, make the regex of the whole
pub record Joining (ts : List Term) (rs : List Regex) (ks : List Known) (root : ℕ) (left : List ℕ) (whole : ℕ) : Type 0
  where
    pub known : list_all (is_known ks) left ≡ true
    pub kinds : list_all is_regex (terms_at ts left) ≡ true
    pub below : whole < length rs
    pub names : chain (map regex_of (terms_at ts left)) (regex_at rs whole) ≡ regex_of (term_at ts root)

pub joining_start : (ts : List Term) (rs : List Regex) (ks : List Known) (root : ℕ) (left : List ℕ) (whole : ℕ)
    → is_known ks root ≡ true → is_regex (term_at ts root) ≡ true → Names rs whole eps → left ≡ root ∷ [] →
    Joining ts rs ks root left whole
joining_start ts rs ks root left whole m kind named is = rw is (record {
  known = and_from (is_known ks root) true m refl;
  kinds = and_from (is_regex (term_at ts root)) true kind refl;
  below = names_below rs whole eps named;
  names = ap (mkcat (regex_of (term_at ts root))) (names_at rs whole eps named)
      ∙ mkcat-eps (regex_of (term_at ts root));
})

split_kinds : (ts : List Term) (left rest : List ℕ) (i : ℕ) → left ≡ rest ++ i ∷ []
    → list_all is_regex (terms_at ts left) ≡ true
    → (list_all is_regex (terms_at ts rest) ≡ true) × (is_regex (term_at ts i) ≡ true)
split_kinds ts left rest i is h =
    let both = ap (λ xs. list_all is_regex xs) (sym (map-append (term_at ts) rest (i ∷ [])))
    ∙ (ap (λ xs. list_all is_regex (terms_at ts xs)) (sym is) ∙ h) in
    let parts = and_parts (list_all is_regex (terms_at ts rest)) (is_regex (term_at ts i) && true)
    (sym (list_all-append is_regex (terms_at ts rest) (term_at ts i ∷ [])) ∙ both) in
    (parts.0, (and_parts (is_regex (term_at ts i)) true parts.1).0)

split_names : (ts : List Term) (left rest : List ℕ) (i : ℕ) (w : Regex) → left ≡ rest ++ i ∷ []
    → chain (map regex_of (terms_at ts left)) w ≡ chain (map regex_of (terms_at ts rest)) (mkcat (regex_of (term_at ts i)) w)
split_names ts left rest i w is =
    ap (λ xs. chain (map regex_of (terms_at ts xs)) w) is
    ∙ (ap (λ xs. chain (map regex_of xs) w) (map-append (term_at ts) rest (i ∷ []))
    ∙ (ap (λ xs. chain xs w) (map-append regex_of (terms_at ts rest) (term_at ts i ∷ []))
    ∙ chain-append (map regex_of (terms_at ts rest)) (regex_of (term_at ts i) ∷ []) w))

pub popped_known : (ts : List Term) (rs : List Regex) (ks : List Known) (root : ℕ) (left rest : List ℕ) (whole i : ℕ)
    → Joining ts rs ks root left whole → left ≡ rest ++ i ∷ [] → is_known ks i ≡ true
popped_known ts rs ks root left rest whole i j is = (all_last (is_known ks) rest i (rw is at j.known)).1

-- a member that has its regex
pub joining_made : (ts : List Term) (rs new : List Regex) (ks : List Known) (root : ℕ) (left rest : List ℕ)
    (whole i regex more : ℕ) → Joining ts rs ks root left whole → left ≡ rest ++ i ∷ [] →
    Names rs regex (regex_of (term_at ts i)) → Names new more (mkcat (regex_at rs regex) (regex_at rs whole)) →
    Joining ts new ks root rest more
joining_made ts rs new ks root left rest whole i regex more j is made named = record {
  known = (all_last (is_known ks) rest i (rw is at j.known)).0;
  kinds = (split_kinds ts left rest i is j.kinds).0;
  below = names_below new more _ named;
  names = ap (chain (map regex_of (terms_at ts rest)))
      (names_at new more _ named ∙ ap (λ r. mkcat r (regex_at rs whole)) (names_at rs regex _ made))
      ∙ (sym (split_names ts left rest i (regex_at rs whole) is) ∙ j.names);
}

-- what is known of a member that has no regex yet
concatenates : (rs : List Regex) (t : Term) (k : Known) → IsKnown rs t k → is_regex t ≡ true
    → ((id : _) → k ≡ known.Made id → ⊥) → IsConcatenation t × (is_concatenation k ≡ true)
concatenates rs t known.Nothing h kind none_made = absurd h
concatenates rs t known.Other h kind none_made = absurd (false≢true (sym h.0 ∙ kind))
concatenates rs t known.Concatenation h kind none_made = (h, refl)
concatenates rs t (known.Made id) h kind none_made = absurd (none_made id refl)
concatenates rs t (known.Text count) h kind none_made = absurd (false≢true (sym (text_no_regex t h.0) ∙ kind))
concatenates rs t (known.Spelled id count) h kind none_made =
    absurd (false≢true (sym (text_no_regex t h.0.0) ∙ kind))

parts_joined : ConcatenationGroups → (ts : Terms) (xs : List Term) (w : Regex) → is_regex (apply re_concat ts) ≡ true
    → terms_of xs ≡ ts → chain (map regex_of xs) w ≡ mkcat (regex_of (apply re_concat ts)) w
parts_joined groups ts xs w kind is = rw (← is) (by_list xs w (rw (← is) at kind))
  where
    by_list : (xs : List Term) (w : Regex) → is_regex (apply re_concat (terms_of xs)) ≡ true
        → chain (map regex_of xs) w ≡ mkcat (regex_of (apply re_concat (terms_of xs))) w
    by_list [] w h = absurd (false≢true h)
    by_list (x ∷ xs) w h =
        chain_joined groups (regex_of x) (map regex_of xs) w
        ∙ ap (λ rs. mkcat (or_none (joined_right mkcat (regex_of x ∷ rs))) w) (sym (regexes_all xs))

parts_kinds : (ts : Terms) (xs : List Term) → is_regex (apply re_concat ts) ≡ true → terms_of xs ≡ ts
    → list_all is_regex xs ≡ true
parts_kinds ts xs kind is = by_list xs (rw (← is) at kind)
  where
    by_list : (xs : List Term) → is_regex (apply re_concat (terms_of xs)) ≡ true → list_all is_regex xs ≡ true
    by_list [] h = absurd (false≢true h)
    by_list (x ∷ xs) h = ap (λ b. is_regex x && b) (sym (are_all xs)) ∙ h

pub joining_parts : ConcatenationGroups → (ts : List Term) (rs : List Regex) (ks : List Known) (root : ℕ)
    (left rest arguments left' : List ℕ) (whole i : ℕ) → AreNormals ts rs ks → Joining ts rs ks root left whole →
    left ≡ rest ++ i ∷ [] → (k : Known) → k ≡ get_or ks i known.Nothing → ((id : _) → k ≡ known.Made id → ⊥) →
    terms_of (terms_at ts arguments) ≡ arguments_in (term_at ts i) → All (λ n. n < i) arguments →
    left' ≡ rest ++ arguments → Joining ts rs ks root left' whole
joining_parts groups ts rs ks root left rest arguments left' whole i n j is k here none_made same low more =
    let member = all_last (is_known ks) rest i (rw is at j.known) in
    let h : IsKnown rs (term_at ts i) k = subst (IsKnown rs (term_at ts i)) (sym here) (n.each i member.1) in
    let t = concatenates rs (term_at ts i) k h (split_kinds ts left rest i is j.kinds).1 none_made in
    rw more (by_parts t.0 member.0 (n.parts i (ap is_concatenation (sym here) ∙ t.1) arguments same low))
  where
    by_parts : IsConcatenation (term_at ts i) → list_all (is_known ks) rest ≡ true
        → list_all (is_known ks) arguments ≡ true → Joining ts rs ks root (rest ++ arguments) whole
    by_parts t front behind =
        let parts : terms_of (terms_at ts arguments) ≡ t.parts = same ∙ ap arguments_in t.is in
        let kind : is_regex (apply re_concat t.parts) ≡ true = ap is_regex (sym t.is) ∙ t.kind in
        record {
          known = all_append (is_known ks) rest arguments front behind;
          kinds = ap (list_all is_regex) (map-append (term_at ts) rest arguments)
              ∙ (list_all-append is_regex (terms_at ts rest) (terms_at ts arguments)
              ∙ ap₂ ◌&&◌ (split_kinds ts left rest i is j.kinds).0
              (parts_kinds t.parts (terms_at ts arguments) kind parts));
          below = j.below;
          names = ap (λ xs. chain (map regex_of xs) (regex_at rs whole)) (map-append (term_at ts) rest arguments)
              ∙ (ap (λ xs. chain xs (regex_at rs whole))
              (map-append regex_of (terms_at ts rest) (terms_at ts arguments))
              ∙ (chain-append (map regex_of (terms_at ts rest)) (map regex_of (terms_at ts arguments)) (regex_at rs whole)
              ∙ (ap (chain (map regex_of (terms_at ts rest)))
              (parts_joined groups t.parts (terms_at ts arguments) (regex_at rs whole) kind parts
              ∙ ap (λ u. mkcat (regex_of u) (regex_at rs whole)) (sym t.is))
              ∙ (sym (split_names ts left rest i (regex_at rs whole) is) ∙ j.names))));
        }

pub joining_end : (ts : List Term) (rs : List Regex) (ks : List Known) (root : ℕ) (left : List ℕ) (whole : ℕ)
    → Joining ts rs ks root left whole → length left ≡ 0 → Names rs whole (regex_of (term_at ts root))
joining_end ts rs ks root [] whole j h = names_from rs whole (regex_of (term_at ts root)) j.below j.names
joining_end ts rs ks root (x ∷ left) whole j h = absurd (omega (arith, h))

-- what is left grows smaller
popped : (ts : List Term) (left rest : List ℕ) (i : ℕ) → left ≡ rest ++ i ∷ []
    → total (terms_at ts left) ≡ total (terms_at ts rest) + size (term_at ts i)
popped ts left rest i is =
    ap (λ xs. total (terms_at ts xs)) is
    ∙ (ap total (map-append (term_at ts) rest (i ∷ []))
    ∙ (total-append (terms_at ts rest) (term_at ts i ∷ []) ∙ omega arith))

pub smaller_made : (ts : List Term) (left rest : List ℕ) (i : ℕ) → left ≡ rest ++ i ∷ []
    → total (terms_at ts rest) < total (terms_at ts left)
smaller_made ts left rest i is = omega (arith, popped ts left rest i is, some_size (term_at ts i))

pub less_than_whole : (t : Term) → sizes (arguments_in t) < size t
less_than_whole (apply s ts) = omega arith
less_than_whole (constant serial sort) = omega arith
less_than_whole (word w) = omega arith
less_than_whole (numeral n) = omega arith
less_than_whole (parameter place sort) = omega arith

pub smaller_parts : (ts : List Term) (left rest arguments left' : List ℕ) (i : ℕ) → left ≡ rest ++ i ∷ []
    → terms_of (terms_at ts arguments) ≡ arguments_in (term_at ts i) → left' ≡ rest ++ arguments →
    total (terms_at ts left') < total (terms_at ts left)
smaller_parts ts left rest arguments left' i is same more =
    let whole = ap (λ xs. total (terms_at ts xs)) more
    ∙ (ap total (map-append (term_at ts) rest arguments) ∙ total-append (terms_at ts rest) (terms_at ts arguments)) in
    let few = sym (total_of (terms_at ts arguments)) ∙ ap sizes same in
    omega (arith, whole, few, less_than_whole (term_at ts i), popped ts left rest i is)

pub none_left : {X : Type 0} (left : Vec X Global) → vec_len left ≡ 0 → length left.items ≡ 0
none_left left h = omega (arith, left.ok.0, h)
