-- The regexes in which the words of states begin.
use Rattle.std.proofs.Common.{◌≡◌, ℕ, zero, suc, ◌+◌, ◌<◌, ◌≤◌, Bool, true, false, cond, ◌&&◌, ◌||◌, nat_eq, List, [], ◌∷◌, ◌++◌, length, get_or, refl, sym, ap, subst, ◌∙◌, arith, append_assoc}
use Rattle.std.specs.List.{All, Contains, list_any}
use Rattle.std.proofs.lemmas.Bool.{true≢false}
use Rattle.std.proofs.lemmas.Bool.Decides.{nat_tests}
use Rattle.std.proofs.lemmas.List.{append-nil, get_or_append_left, length-append}
use Rattle.std.proofs.lemmas.List.Elements.{All-append, All-nil, All-cons, All-weaker, Contains-get_or}
use Rattle.std.proofs.lemmas.List.Folds.{list_any_at}
use Rattle.std.proofs.lemmas.Grind.{get_or_default_zero}
use Rattle.indexmap.proofs.CallerLemmas.{Contains-list_any}
use Rattle.sb_lang.specs.Regex.{Regex, Regexes, none, eps, set, cat, alt, and, neg, star, rep, path, regexes, no_more, more}
use Rattle.sb_lang.specs.Derivative.{nullable}
use Rattle.sb_lang.specs.DerivativeLaws.{NullableHasEmptyWord}
use Rattle.sb_lang.specs.Languages.{cut}
use Rattle.sb_lang.specs.Language.{language, some_language}
use Rattle.sb_regex.specs.Numbered.{regex_at, regexes_at, AllNumbers}
use Rattle.sb_regex.specs.Nodes.{node_regex}
use Rattle.sb_regex.specs.declared.node.Node.{Node}
use Rattle.sb_regex.specs.declared.node.Node.TheVariants as node
use Rattle.sb_members.proofs.Lists.{contains_left, contains_last}
use Rattle.sb_members.specs.Members.{in_some}
use Rattle.sb_members.specs.Starts.{HasNumber, EachHasNumber, IsPassed, AreStarts}
use Rattle.sb_members.specs.Passing.{GoesOn, IsWith}

-- Lists that go on.

pub contains_kept : {P : ℕ → Type 0} (old new : List ℕ) (x : ℕ) → GoesOn P old new → Contains old x → Contains new x
contains_kept old new x g c = subst (λ ns. Contains ns x) (sym g.is) (contains_left old g.more x c)

pub on_same : {P : ℕ → Type 0} (ns : List ℕ) → GoesOn P ns ns
on_same {P} ns = record { more = []; is = sym (append-nil ns); each = All-nil P }

on_more : {P : ℕ → Type 0} (a b c : List ℕ) → GoesOn P a b → GoesOn P b c → GoesOn P a c
on_more {P} a b c g h = record {
  more = g.more ++ h.more;
  is = h.is ∙ ap (λ ns. ns ++ h.more) g.is ∙ append_assoc a g.more h.more;
  each = All-append P g.more h.more g.each h.each;
}

pub on_weaker : (P Q : ℕ → Type 0) (a b : List ℕ) → ((n : ℕ) → P n → Q n) → GoesOn P a b → GoesOn Q a b
on_weaker P Q a b f g = record { more = g.more; is = g.is; each = All-weaker P Q f g.more g.each }

same_number : (x y : ℕ) → nat_eq x y ≡ true → x ≡ y
same_number x y h = grind (arith, nat_tests, h)

inserted : (P : ℕ → Type 0) (old new : List ℕ) (n : ℕ) → P n
    → new ≡ cond (list_any (nat_eq n) old) old (old ++ n ∷ []) → GoesOn P old new × Contains new n
inserted P old new n p e = by (list_any (nat_eq n) old) refl
  where
    by : (b : Bool) → list_any (nat_eq n) old ≡ b → GoesOn P old new × Contains new n
    by true t =
        let is : new ≡ old = e ∙ ap (λ b. cond b old (old ++ n ∷ [])) t in (
          subst (GoesOn P old) (sym is) (on_same old),
          subst (λ ns. Contains ns n) (sym is) (Contains-list_any nat_eq same_number old n t),
        )
    by false t =
        let is : new ≡ old ++ n ∷ [] = e ∙ ap (λ b. cond b old (old ++ n ∷ [])) t in (
          record { more = n ∷ []; is = is; each = All-cons P n [] p (All-nil P) },
          subst (λ ns. Contains ns n) (sym is) (contains_last old n),
        )

pub record ArePut (regexes start now : List ℕ) (i : ℕ) : Type 0 where
  pub goes_on : GoesOn (Contains regexes) start now
  pub all : (k d : ℕ) → k < i → k < length regexes → Contains now (get_or regexes k d)

pub put_start : (regexes start : List ℕ) → ArePut regexes start start 0
put_start regexes start = record { goes_on = on_same start; all = λ k d h l. absurd (omega (arith, h)) }

pub put_next : (regexes start old new : List ℕ) (i n : ℕ) → i < length regexes → n ≡ get_or regexes i n
    → new ≡ cond (list_any (nat_eq n) old) old (old ++ n ∷ []) → ArePut regexes start old i
    → ArePut regexes start new (i + 1)
put_next regexes start old new i n l is e p =
    let among : Contains regexes n =
    subst (Contains regexes) (get_or_default_zero regexes i n l ∙ sym (get_or_default_zero regexes i n l) ∙ sym is)
    (Contains-get_or regexes i n l) in
    let step = inserted (Contains regexes) old new n among e in
    record {
      goes_on = on_more start old new p.goes_on step.0;
      all = λ k d h m. by step.0 step.1 k d h m (nat_eq k i) refl;
    }
  where
    by : GoesOn (Contains regexes) old new → Contains new n → (k d : ℕ) → k < i + 1 → k < length regexes → (b : Bool)
        → nat_eq k i ≡ b → Contains new (get_or regexes k d)
    by g c k d h m true t =
        let same : i ≡ k = grind (arith, nat_tests, t) in
        subst (λ k. Contains new (get_or regexes k d)) same
        (subst (Contains new) (is ∙ get_or_default_zero regexes i n l ∙ sym (get_or_default_zero regexes i d l)) c)
    by g c k d h m false t = contains_kept old new _ g (p.all k d (grind (arith, nat_tests, t, h)) m)

pub put_done : (regexes start now : List ℕ) (i : ℕ) → length regexes ≤ i → ArePut regexes start now i
    → All (Contains now) regexes
put_done regexes start now i h p k d l = p.all k d (omega (arith, l, h)) l

-- One start.

one_of : (n m : ℕ) → Contains (n ∷ []) m → m ≡ n
one_of n m c = by c.0 c.1 c.2
  where
    by : (k : ℕ) → k < 1 → get_or (n ∷ []) k m ≡ m → m ≡ n
    by zero l e = sym e
    by (suc k) l e = absurd (omega (arith, l))

tail_has : NullableHasEmptyWord → (h t : Regex) (u : List ℕ) → nullable h ≡ true → language t u ≡ true
    → language (cat h t) u ≡ true
unfolding language cut
tail_has empty h t [] n m = ap (λ b. b && language t []) (sym (empty h) ∙ n) ∙ m
tail_has empty h t (c ∷ u) n m =
    ap (λ b. (b && language t (c ∷ u)) || cut (λ v. language h (c ∷ v)) (language t) u) (sym (empty h) ∙ n)
    ∙ ap (λ b. b || cut (λ v. language h (c ∷ v)) (language t) u) m

pub with_rest : NullableHasEmptyWord → (rs : List Regex) (n h t : ℕ) (old new ids : List ℕ) → t < length rs
    → cat (regex_at rs h) (regex_at rs t) ≡ regex_at rs n → nullable (regex_at rs h) ≡ true → ids ≡ t ∷ []
    → GoesOn (Contains ids) old new → All (Contains new) ids → IsWith rs n old new
unfolding IsPassed
with_rest empty rs n h t old new ids l e null is g all =
    let put = subst (λ ids. All (Contains new) ids) is all in
    let on = subst (λ ids. GoesOn (Contains ids) old new) is g in
    record {
      goes_on = on_weaker _ _ old new
          (λ m c. let same = one_of t m c in (
            subst (λ m. m < length rs) (sym same) l,
            λ u k. ap (λ r. language r u) (sym e)
                ∙ tail_has empty (regex_at rs h) (regex_at rs t) u null
                (ap (λ m. language (regex_at rs m) u) (sym same) ∙ k),
          ))
          on;
      passed = subst (IsPassed rs new) e (λ x. record { number = t; among = put 0 0 (omega arith); is = refl });
    }

pub with_head : (rs : List Regex) (n h t : ℕ) (ns : List ℕ) → cat (regex_at rs h) (regex_at rs t) ≡ regex_at rs n
    → nullable (regex_at rs h) ≡ false → IsWith rs n ns ns
unfolding IsPassed
with_head rs n h t ns e null = record {
  goes_on = on_same ns;
  passed = subst (IsPassed rs ns) e (λ x. absurd (true≢false (sym x ∙ null)));
}

some_has : (rs : List Regex) (ids : List ℕ) (m : ℕ) (u : List ℕ) → Contains ids m → language (regex_at rs m) u ≡ true
    → some_language (regexes (regexes_at rs ids)) u ≡ true
unfolding some_language regexes
some_has rs [] m u c h = absurd (omega (arith, c.1))
some_has rs (n ∷ ids) m u (zero, l, e) h =
    ap (λ b. b || some_language (regexes (regexes_at rs ids)) u)
    (ap (λ n. language (regex_at rs n) u) e ∙ h)
some_has rs (n ∷ ids) m u (suc k, l, e) h =
    right (language (regex_at rs n) u) (some_has rs ids m u (k, (omega (arith, l)), e) h)
  where
    right : (b : Bool) {c : Bool} → c ≡ true → (b || c) ≡ true
    right true h = refl
    right false h = h

each_number : (rs : List Regex) (ns ids : List ℕ) → All (Contains ns) ids
    → EachHasNumber rs ns (regexes (regexes_at rs ids))
unfolding regexes
each_number rs ns [] h = tt
each_number rs ns (n ∷ ids) h = (
  record { number = n; among = h 0 n (omega arith); is = refl },
  each_number rs ns ids (λ k d l. h (suc k) d (omega (arith, l))),
)

pub with_members : (rs : List Regex) (n : ℕ) (old new parts ids : List ℕ) → n < length rs → All (λ i. i < n) parts
    → alt (regexes (regexes_at rs parts)) ≡ regex_at rs n → ids ≡ parts
    → GoesOn (Contains ids) old new → All (Contains new) ids → IsWith rs n old new
unfolding IsPassed language
with_members rs n old new parts ids l below e is g all =
    let put = subst (λ ids. All (Contains new) ids) is all in
    let on = subst (λ ids. GoesOn (Contains ids) old new) is g in
    record {
      goes_on = on_weaker _ _ old new
          (λ m c. (
            known m c,
            λ u k. ap (λ r. language r u) (sym e) ∙ some_has rs parts m u c k,
          ))
          on;
      passed = subst (IsPassed rs new) e (each_number rs new parts put);
    }
  where
    known : (m : ℕ) → Contains parts m → m < length rs
    known m c = let x = subst (λ k. k < n) c.2 (below c.0 m c.1) in omega (arith, x, l)

passed_other : (rs : List Regex) (ns : List ℕ) (d : Node) → ((a b : ℕ) → d ≡ node.Cat a b → ⊥)
    → ((ps : _) → d ≡ node.Alt ps → ⊥) → IsPassed rs ns (node_regex rs d)
unfolding IsPassed
passed_other rs ns node.None f g = tt
passed_other rs ns node.Eps f g = tt
passed_other rs ns (node.Set x) f g = tt
passed_other rs ns (node.Cat a b) f g = absurd (f a b refl)
passed_other rs ns (node.Alt ps) f g = absurd (g ps refl)
passed_other rs ns (node.And ps) f g = tt
passed_other rs ns (node.Not a) f g = tt
passed_other rs ns (node.Star a) f g = tt
passed_other rs ns (node.Rep a n m) f g = tt
passed_other rs ns (node.Path a b) f g = tt

pub with_other : (rs : List Regex) (n : ℕ) (d : Node) (ns : List ℕ) → node_regex rs d ≡ regex_at rs n
    → ((a b : ℕ) → d ≡ node.Cat a b → ⊥) → ((ps : _) → d ≡ node.Alt ps → ⊥) → IsWith rs n ns ns
with_other rs n d ns e f g =
    record { goes_on = on_same ns; passed = subst (IsPassed rs ns) e (passed_other rs ns d f g) }

-- All starts.

pub record ArePassing (rs : List Regex) (states ns : List ℕ) (place : ℕ) : Type 0 where
  pub known : AllNumbers rs ns
  pub all : All (Contains ns) states
  pub within : All (λ n. (u : List ℕ) → language (regex_at rs n) u ≡ true → in_some rs states u ≡ true) ns
  pub passed : (k d : ℕ) → k < place → k < length ns → IsPassed rs ns (regex_at rs (get_or ns k d))
  pub ahead : place ≤ length ns

one_some : (rs : List Regex) (states : List ℕ) (m : ℕ) (u : List ℕ) → Contains states m
    → language (regex_at rs m) u ≡ true → in_some rs states u ≡ true
one_some rs states m u c h =
    list_any_at (λ n. language (regex_at rs n) u) states c.0 m c.1 (ap (λ n. language (regex_at rs n) u) c.2 ∙ h)

pub passing_start : (rs : List Regex) (states ns : List ℕ) → AllNumbers rs states → GoesOn (Contains states) [] ns
    → All (Contains ns) states → ArePassing rs states ns 0
passing_start rs states ns known g all = record {
  known = subst (AllNumbers rs) (sym g.is) (All-weaker (Contains states) (λ m. m < length rs)
      (λ m c. subst (λ k. k < length rs) c.2 (known c.0 m c.1)) g.more g.each);
  all = all;
  within = subst (All Within) (sym g.is) (All-weaker (Contains states) Within (λ m c u h. one_some rs states m u c h)
      g.more g.each);
  passed = λ k d h l. absurd (omega (arith, h));
  ahead = omega arith;
}
  where
    Within : ℕ → Type 0
    Within n = (u : List ℕ) → language (regex_at rs n) u ≡ true → in_some rs states u ≡ true

number_kept : {P : ℕ → Type 0} (rs : List Regex) (old new : List ℕ) (r : Regex) → GoesOn P old new
    → HasNumber rs old r → HasNumber rs new r
number_kept rs old new r g h =
    record { number = h.number; among = contains_kept old new h.number g h.among; is = h.is }

each_kept : {P : ℕ → Type 0} (rs : List Regex) (old new : List ℕ) (ps : Regexes) → GoesOn P old new
    → EachHasNumber rs old ps → EachHasNumber rs new ps
each_kept rs old new no_more g h = tt
each_kept rs old new (more r ps) g h = (number_kept rs old new r g h.0, each_kept rs old new ps g h.1)

passed_kept : {P : ℕ → Type 0} (rs : List Regex) (old new : List ℕ) (r : Regex) → GoesOn P old new
    → IsPassed rs old r → IsPassed rs new r
unfolding IsPassed
passed_kept rs old new none g h = tt
passed_kept rs old new eps g h = tt
passed_kept rs old new (set x) g h = tt
passed_kept rs old new (cat a b) g h = λ n. number_kept rs old new b g (h n)
passed_kept rs old new (alt ps) g h = each_kept rs old new ps g h
passed_kept rs old new (and ps) g h = tt
passed_kept rs old new (neg a) g h = tt
passed_kept rs old new (star a) g h = tt
passed_kept rs old new (rep a n m) g h = tt
passed_kept rs old new (path a b) g h = tt

pub passing_next : (rs : List Regex) (states old new : List ℕ) (place n : ℕ) → place < length old
    → n ≡ get_or old place n → IsWith rs n old new → ArePassing rs states old place
    → ArePassing rs states new (place + 1)
passing_next rs states old new place n l is w p = record {
  known = subst (AllNumbers rs) (sym w.goes_on.is) (All-append (λ m. m < length rs) old w.goes_on.more p.known
      (All-weaker IsNew (λ m. m < length rs) (λ m x. x.0) w.goes_on.more w.goes_on.each));
  all = All-weaker (Contains old) (Contains new) (λ m c. contains_kept old new m w.goes_on c) states p.all;
  within = subst (All Within) (sym w.goes_on.is) (All-append Within old w.goes_on.more p.within
      (All-weaker IsNew Within (λ m x u h. here u (x.1 u h)) w.goes_on.more w.goes_on.each));
  passed = λ k d h m. by k d h m (nat_eq k place) refl;
  ahead = omega (arith, l, ap length w.goes_on.is, length-append old w.goes_on.more);
}
  where
    Within : ℕ → Type 0
    Within n = (u : List ℕ) → language (regex_at rs n) u ≡ true → in_some rs states u ≡ true

    IsNew : ℕ → Type 0
    IsNew m = (m < length rs) × ((u : List ℕ) → language (regex_at rs m) u ≡ true
        → language (regex_at rs n) u ≡ true)

    here : Within n
    here = subst Within (sym is) (p.within place n l)

    old_at : (k d : ℕ) → k < length old → get_or new k d ≡ get_or old k d
    old_at k d h = ap (λ ns. get_or ns k d) w.goes_on.is ∙ get_or_append_left old w.goes_on.more d k h

    by : (k d : ℕ) → k < place + 1 → k < length new → (b : Bool) → nat_eq k place ≡ b
        → IsPassed rs new (regex_at rs (get_or new k d))
    by k d h m true t =
        let same : place ≡ k = grind (arith, nat_tests, t) in
        let at : n ≡ get_or new place d =
        is ∙ get_or_default_zero old place n l ∙ sym (get_or_default_zero old place d l) ∙ sym (old_at place d l) in
        subst (λ k. IsPassed rs new (regex_at rs (get_or new k d))) same
        (subst (λ n. IsPassed rs new (regex_at rs n)) at w.passed)
    by k d h m false t =
        let before : k < place = grind (arith, nat_tests, t, h) in
        let within : k < length old = omega (arith, before, l) in
        subst (λ n. IsPassed rs new (regex_at rs n)) (sym (old_at k d within))
        (passed_kept rs old new _ w.goes_on (p.passed k d before within))

pub passing_done : (rs : List Regex) (states ns : List ℕ) (place : ℕ) → length ns ≤ place
    → ArePassing rs states ns place → AreStarts rs states ns
passing_done rs states ns place h p = record {
  known = p.known;
  all = p.all;
  within = p.within;
  passed = λ k d l. p.passed k d (omega (arith, h, l)) l;
}
