-- Members that make no difference to a union or an intersection.
use Rattle.std.proofs.Common.{◌≡◌, ℕ, Bool, true, false, not, ◌||◌, ◌==◌, cond, List, [], ◌∷◌, ◌++◌, refl, sym, ap, ap₂, subst, ◌<◌, length, ◌∙◌}
use Rattle.std.specs.Prelude.{filter, flat_map}
use Rattle.std.proofs.lemmas.Bool.{or_left, or_right, eqb-true, eq-eqb}
use Rattle.std.specs.List.{list_any}
use Rattle.std.proofs.lemmas.Grind.{flat_map-append}
use Rattle.std.proofs.lemmas.List.Folds.{list_any-append}
use Rattle.std.proofs.lemmas.List.Elements.{filter-append, All-filter, All-nil, All-cons}
use Rattle.sb_lang.specs.Regex.{Regex, none, neg}
use Rattle.sb_lang.specs.Order.{code}
use Rattle.sb_class.specs.Ranges.{Range}
use Rattle.sb_lang.specs.Constructors.{anything, mkalt, mkand, alternatives, conjuncts, ranges_of, is_set, is_none, is_anything, join_sets, meet_sets, meet_of, mkset, union_of, alt_of, and_of, sorted}
use Rattle.sb_regex.specs.Numbered.{regex_at, regexes_at, AllNumbers}
use Rattle.sb_regex.proofs.CallerLemmas.{names_at, names_below}
use Rattle.sb_deriv.specs.declared.operation.Constants.{Constants}
use Rattle.sb_deriv.specs.declared.operation.Operation.{Operation}
use Rattle.sb_deriv.specs.declared.operation.Operation.TheVariants as operation
use Rattle.sb_deriv.specs.Choices.{made, drops, absorbs, absorbing, kept, picked, leads, joined, AreConstants}

-- three parts of what is made of members
abbrev ranges : List Regex → List (List Range)
ranges ms = flat_map ranges_of ms

abbrev others : List Regex → List Regex
others ms = filter (λ r. not (is_set r)) ms

abbrev without : (Regex → Bool) → List Regex → List Regex
without p ms = filter (λ r. not (p r)) ms

record Alike (p q : Regex → Bool) (xs ys : List Regex) : Type 0 where
  sets : ranges xs ≡ ranges ys
  whole : list_any p (others xs) ≡ list_any p (others ys)
  rest : without q (others xs) ≡ without q (others ys)

alike_after : (p q : Regex → Bool) (ms xs ys : List Regex) → Alike p q xs ys → Alike p q (ms ++ xs) (ms ++ ys)
alike_after p q ms xs ys h = record {
  sets = flat_map-append ranges_of ms xs ∙ ap (λ z. ranges ms ++ z) h.sets ∙ sym (flat_map-append ranges_of ms ys);
  whole = whole xs ∙ ap (λ b. list_any p (others ms) || b) h.whole ∙ sym (whole ys);
  rest = rest xs ∙ ap (λ z. without q (others ms) ++ z) h.rest ∙ sym (rest ys);
}
  where
    whole : (zs : List Regex) → list_any p (others (ms ++ zs)) ≡ (list_any p (others ms) || list_any p (others zs))
    whole zs = ap (list_any p) (filter-append (λ r. not (is_set r)) ms zs) ∙ list_any-append p (others ms) (others zs)

    rest : (zs : List Regex) → without q (others (ms ++ zs)) ≡ without q (others ms) ++ without q (others zs)
    rest zs = ap (without q) (filter-append (λ r. not (is_set r)) ms zs)
        ∙ filter-append (λ r. not (q r)) (others ms) (others zs)

-- unions

abbrev unite : List (List Range) → Bool → List Regex → Regex
unite s b rest = cond (is_anything (mkset (union_of s)) || b) anything
    (alt_of (sorted (cond (not (is_none (mkset (union_of s)))) (mkset (union_of s) ∷ rest) rest)))

alt_same : (rs ss : List Regex) → Alike is_anything is_none (flat_map alternatives rs) (flat_map alternatives ss)
    → mkalt rs ≡ mkalt ss
unfolding mkalt join_sets
alt_same rs ss h =
    ap (λ s. unite s (list_any is_anything (others (flat_map alternatives rs)))
    (without is_none (others (flat_map alternatives rs)))) h.sets
    ∙ ap (λ b. unite (ranges (flat_map alternatives ss)) b (without is_none (others (flat_map alternatives rs))))
    h.whole
    ∙ ap (λ z. unite (ranges (flat_map alternatives ss)) (list_any is_anything (others (flat_map alternatives ss))) z)
    h.rest

none_drops : (xs ys : List Regex) → Alike is_anything is_none (flat_map alternatives xs) (flat_map alternatives ys)
    → Alike is_anything is_none (flat_map alternatives xs) (flat_map alternatives (none ∷ ys))
unfolding alternatives ranges_of is_set code
none_drops xs ys h = record { sets = h.sets; whole = h.whole; rest = h.rest }

alt_kept : (rs : List Regex) (k : Constants) (ts : List ℕ) → AreConstants rs k
    → Alike is_anything is_none (flat_map alternatives (regexes_at rs (kept k operation.Alt ts)))
    (flat_map alternatives (regexes_at rs ts))
unfolding drops
alt_kept rs k [] a = record { sets = refl; whole = refl; rest = refl }
alt_kept rs k (t ∷ ts) a = step (alt_kept rs k ts a) (t == k.none) refl
  where
    step : Alike is_anything is_none (flat_map alternatives (regexes_at rs (kept k operation.Alt ts)))
        (flat_map alternatives (regexes_at rs ts)) → (b : Bool) → (t == k.none) ≡ b →
        Alike is_anything is_none
        (flat_map alternatives (regexes_at rs (cond (not b) (t ∷ kept k operation.Alt ts) (kept k operation.Alt ts))))
        (flat_map alternatives (regexes_at rs (t ∷ ts)))
    step h true e =
        let z : regex_at rs t ≡ none = ap (regex_at rs) (eqb-true t k.none e) ∙ names_at rs k.none none a.none_is in
        subst (λ (r : Regex). Alike is_anything is_none
        (flat_map alternatives (regexes_at rs (kept k operation.Alt ts)))
        (flat_map alternatives (r ∷ regexes_at rs ts))) (sym z)
        (none_drops (regexes_at rs (kept k operation.Alt ts)) (regexes_at rs ts) h)
    step h false e = alike_after is_anything is_none (alternatives (regex_at rs t))
        (flat_map alternatives (regexes_at rs (kept k operation.Alt ts)))
        (flat_map alternatives (regexes_at rs ts)) h

-- every word among the members is the whole
has_anything : (rs : List Regex) (e : ℕ) (ts : List ℕ) → regex_at rs e ≡ neg none → list_any (λ t. t == e) ts ≡ true
    → list_any is_anything (others (flat_map alternatives (regexes_at rs ts))) ≡ true
unfolding alternatives is_set code
has_anything rs e [] is h = absurd (cc)
has_anything rs e (t ∷ ts) is h = step (t == e) refl (λ r. has_anything rs e ts is r)
  where
    step : (b : Bool) → (t == e) ≡ b → (list_any (λ x. x == e) ts ≡ true
        → list_any is_anything (others (flat_map alternatives (regexes_at rs ts))) ≡ true)
        → list_any is_anything (others (flat_map alternatives (regexes_at rs (t ∷ ts)))) ≡ true
    step true u r =
        let z : regex_at rs t ≡ neg none = ap (regex_at rs) (eqb-true t e u) ∙ is in
        subst (λ (x : Regex). list_any is_anything (others (flat_map alternatives (x ∷ regexes_at rs ts))) ≡ true)
        (sym z) refl
    step false u r =
        ap (list_any is_anything)
        (filter-append (λ x. not (is_set x)) (alternatives (regex_at rs t)) (flat_map alternatives (regexes_at rs ts)))
        ∙ list_any-append is_anything (others (alternatives (regex_at rs t)))
        (others (flat_map alternatives (regexes_at rs ts)))
        ∙ or_right _ _ (r (ap (λ b. b || list_any (λ x. x == e) ts) (sym u) ∙ h))

alt_whole : (rs : List Regex) → list_any is_anything (others (flat_map alternatives rs)) ≡ true → mkalt rs ≡ anything
unfolding mkalt join_sets
alt_whole rs h =
    ap (λ b. cond b anything (alt_of (sorted
    (cond (not (is_none (mkset (union_of (ranges (flat_map alternatives rs))))))
    (mkset (union_of (ranges (flat_map alternatives rs))) ∷ without is_none (others (flat_map alternatives rs)))
    (without is_none (others (flat_map alternatives rs)))))))
    (or_right (is_anything (mkset (union_of (ranges (flat_map alternatives rs))))) _ h)

-- intersections

abbrev intersect : List (List Range) → Bool → List Regex → Regex
intersect s b rest = cond (list_any is_none (meet_of s) || b) none
    (and_of (sorted (without is_anything (meet_of s) ++ rest)))

and_parts_of : (rs : List Regex)
    → mkand rs ≡ intersect (ranges (flat_map conjuncts rs)) (list_any is_none (others (flat_map conjuncts rs)))
    (without is_anything (others (flat_map conjuncts rs)))
unfolding mkand meet_sets
and_parts_of rs =
    ap₂ (λ b z. cond b none (and_of (sorted z)))
    (list_any-append is_none (meet_of (ranges (flat_map conjuncts rs))) (others (flat_map conjuncts rs)))
    (filter-append (λ r. not (is_anything r)) (meet_of (ranges (flat_map conjuncts rs)))
    (others (flat_map conjuncts rs)))

and_same : (rs ss : List Regex) → Alike is_none is_anything (flat_map conjuncts rs) (flat_map conjuncts ss)
    → mkand rs ≡ mkand ss
and_same rs ss h =
    and_parts_of rs
    ∙ ap (λ s. intersect s (list_any is_none (others (flat_map conjuncts rs)))
    (without is_anything (others (flat_map conjuncts rs)))) h.sets
    ∙ ap (λ b. intersect (ranges (flat_map conjuncts ss)) b (without is_anything (others (flat_map conjuncts rs))))
    h.whole
    ∙ ap (λ z. intersect (ranges (flat_map conjuncts ss)) (list_any is_none (others (flat_map conjuncts ss))) z) h.rest
    ∙ sym (and_parts_of ss)

anything_drops : (xs ys : List Regex) → Alike is_none is_anything (flat_map conjuncts xs) (flat_map conjuncts ys)
    → Alike is_none is_anything (flat_map conjuncts xs) (flat_map conjuncts (neg none ∷ ys))
unfolding conjuncts ranges_of is_set code
anything_drops xs ys h = record { sets = h.sets; whole = h.whole; rest = h.rest }

and_kept : (rs : List Regex) (k : Constants) (ts : List ℕ) → AreConstants rs k
    → Alike is_none is_anything (flat_map conjuncts (regexes_at rs (kept k operation.And ts)))
    (flat_map conjuncts (regexes_at rs ts))
unfolding drops
and_kept rs k [] a = record { sets = refl; whole = refl; rest = refl }
and_kept rs k (t ∷ ts) a = step (and_kept rs k ts a) (t == k.everything) refl
  where
    step : Alike is_none is_anything (flat_map conjuncts (regexes_at rs (kept k operation.And ts)))
        (flat_map conjuncts (regexes_at rs ts)) → (b : Bool) → (t == k.everything) ≡ b →
        Alike is_none is_anything
        (flat_map conjuncts (regexes_at rs (cond (not b) (t ∷ kept k operation.And ts) (kept k operation.And ts))))
        (flat_map conjuncts (regexes_at rs (t ∷ ts)))
    step h true e =
        let z : regex_at rs t ≡ neg none =
        ap (regex_at rs) (eqb-true t k.everything e) ∙ names_at rs k.everything (neg none) a.everything_is in
        subst (λ (r : Regex). Alike is_none is_anything
        (flat_map conjuncts (regexes_at rs (kept k operation.And ts)))
        (flat_map conjuncts (r ∷ regexes_at rs ts))) (sym z)
        (anything_drops (regexes_at rs (kept k operation.And ts)) (regexes_at rs ts) h)
    step h false e = alike_after is_none is_anything (conjuncts (regex_at rs t))
        (flat_map conjuncts (regexes_at rs (kept k operation.And ts))) (flat_map conjuncts (regexes_at rs ts)) h

-- none among the members is the whole
has_none : (rs : List Regex) (e : ℕ) (ts : List ℕ) → regex_at rs e ≡ none → list_any (λ t. t == e) ts ≡ true
    → list_any is_none (others (flat_map conjuncts (regexes_at rs ts))) ≡ true
unfolding conjuncts is_set code
has_none rs e [] is h = absurd (cc)
has_none rs e (t ∷ ts) is h = step (t == e) refl (λ r. has_none rs e ts is r)
  where
    step : (b : Bool) → (t == e) ≡ b → (list_any (λ x. x == e) ts ≡ true
        → list_any is_none (others (flat_map conjuncts (regexes_at rs ts))) ≡ true)
        → list_any is_none (others (flat_map conjuncts (regexes_at rs (t ∷ ts)))) ≡ true
    step true u r =
        let z : regex_at rs t ≡ none = ap (regex_at rs) (eqb-true t e u) ∙ is in
        subst (λ (x : Regex). list_any is_none (others (flat_map conjuncts (x ∷ regexes_at rs ts))) ≡ true)
        (sym z) refl
    step false u r =
        ap (list_any is_none)
        (filter-append (λ x. not (is_set x)) (conjuncts (regex_at rs t)) (flat_map conjuncts (regexes_at rs ts)))
        ∙ list_any-append is_none (others (conjuncts (regex_at rs t)))
        (others (flat_map conjuncts (regexes_at rs ts)))
        ∙ or_right _ _ (r (ap (λ b. b || list_any (λ x. x == e) ts) (sym u) ∙ h))

and_whole : (rs : List Regex) → list_any is_none (others (flat_map conjuncts rs)) ≡ true → mkand rs ≡ none
and_whole rs h =
    and_parts_of rs
    ∙ ap (λ b. cond b none (and_of (sorted (without is_anything (meet_of (ranges (flat_map conjuncts rs)))
    ++ without is_anything (others (flat_map conjuncts rs))))))
    (or_right (list_any is_none (meet_of (ranges (flat_map conjuncts rs)))) _ h)

-- all operations

none_any : {A : Type 0} (ts : List A) → list_any (λ t. false) ts ≡ true → ⊥
none_any [] h = cc
none_any (t ∷ ts) h = none_any ts h

not_all : (k : Constants) (ts : List ℕ) → kept k operation.Not ts ≡ ts
unfolding drops
not_all k [] = refl
not_all k (t ∷ ts) = ap (λ xs. t ∷ xs) (not_all k ts)

cat_all : (k : Constants) (b : ℕ) (ts : List ℕ) → kept k (operation.Cat b) ts ≡ ts
unfolding drops
cat_all k b [] = refl
cat_all k b (t ∷ ts) = ap (λ xs. t ∷ xs) (cat_all k b ts)

path_all : (k : Constants) (b : ℕ) (ts : List ℕ) → kept k (operation.Path b) ts ≡ ts
unfolding drops
path_all k b [] = refl
path_all k b (t ∷ ts) = ap (λ xs. t ∷ xs) (path_all k b ts)

made_kept : (rs : List Regex) (k : Constants) (op : Operation) (ts : List ℕ) → AreConstants rs k
    → made rs op (regexes_at rs (kept k op ts)) ≡ made rs op (regexes_at rs ts)
unfolding made
made_kept rs k operation.Alt ts a =
    alt_same (regexes_at rs (kept k operation.Alt ts)) (regexes_at rs ts) (alt_kept rs k ts a)
made_kept rs k operation.And ts a =
    and_same (regexes_at rs (kept k operation.And ts)) (regexes_at rs ts) (and_kept rs k ts a)
made_kept rs k operation.Not ts a = ap (λ xs. made rs operation.Not (regexes_at rs xs)) (not_all k ts)
made_kept rs k (operation.Cat b) ts a = ap (λ xs. made rs (operation.Cat b) (regexes_at rs xs)) (cat_all k b ts)
made_kept rs k (operation.Path b) ts a = ap (λ xs. made rs (operation.Path b) (regexes_at rs xs)) (path_all k b ts)

one_any : (e : ℕ) → list_any (λ t. t == e) (e ∷ []) ≡ true
one_any e = or_left (e == e) false (eq-eqb e e refl)

made_absorbed : (rs : List Regex) (k : Constants) (op : Operation) (ts : List ℕ) → AreConstants rs k
    → list_any (absorbs k op) ts ≡ true
    → made rs op (regexes_at rs (absorbing k op ∷ [])) ≡ made rs op (regexes_at rs ts)
unfolding made absorbs absorbing
made_absorbed rs k operation.Alt ts a h =
    let e : regex_at rs k.everything ≡ neg none = names_at rs k.everything (neg none) a.everything_is in
    alt_whole (regexes_at rs (k.everything ∷ []))
    (has_anything rs k.everything (k.everything ∷ []) e (one_any k.everything))
    ∙ sym (alt_whole (regexes_at rs ts) (has_anything rs k.everything ts e h))
made_absorbed rs k operation.And ts a h =
    let e : regex_at rs k.none ≡ none = names_at rs k.none none a.none_is in
    and_whole (regexes_at rs (k.none ∷ [])) (has_none rs k.none (k.none ∷ []) e (one_any k.none))
    ∙ sym (and_whole (regexes_at rs ts) (has_none rs k.none ts e h))
made_absorbed rs k operation.Not ts a h = absurd (none_any ts h)
made_absorbed rs k (operation.Cat b) ts a h = absurd (none_any ts h)
made_absorbed rs k (operation.Path b) ts a h = absurd (none_any ts h)

pub made_picked : (rs : List Regex) (k : Constants) (op : Operation) (ts : List ℕ) → AreConstants rs k
    → made rs op (regexes_at rs (picked k op ts)) ≡ made rs op (regexes_at rs ts)
made_picked rs k op ts a = step (list_any (absorbs k op) ts) refl
  where
    step : (b : Bool) → list_any (absorbs k op) ts ≡ b
        → made rs op (regexes_at rs (cond b (absorbing k op ∷ []) (kept k op ts))) ≡ made rs op (regexes_at rs ts)
    step true h = made_absorbed rs k op ts a h
    step false h = made_kept rs k op ts a

absorbing_number : (rs : List Regex) (k : Constants) (op : Operation) → AreConstants rs k → absorbing k op < length rs
unfolding absorbing
absorbing_number rs k operation.Alt a = names_below rs k.everything (neg none) a.everything_is
absorbing_number rs k operation.And a = names_below rs k.none none a.none_is
absorbing_number rs k operation.Not a = names_below rs k.none none a.none_is
absorbing_number rs k (operation.Cat b) a = names_below rs k.none none a.none_is
absorbing_number rs k (operation.Path b) a = names_below rs k.none none a.none_is

pub picked_numbers : (rs : List Regex) (k : Constants) (op : Operation) (ts : List ℕ) → AreConstants rs k
    → AllNumbers rs ts → AllNumbers rs (picked k op ts)
picked_numbers rs k op ts a h = either (list_any (absorbs k op) ts)
  where
    either : (b : Bool) → AllNumbers rs (cond b (absorbing k op ∷ []) (kept k op ts))
    either true = All-cons (λ i. i < length rs) (absorbing k op) [] (absorbing_number rs k op a)
        (All-nil (λ i. i < length rs))
    either false = All-filter (λ t. not (drops k op t)) (λ i. i < length rs) ts h

-- what is picked of two lists together

absorbing_absorbs : (k : Constants) (op : Operation) (ts : List ℕ) → list_any (absorbs k op) ts ≡ true
    → absorbs k op (absorbing k op) ≡ true
unfolding absorbs absorbing
absorbing_absorbs k operation.Alt ts h = eq-eqb k.everything k.everything refl
absorbing_absorbs k operation.And ts h = eq-eqb k.none k.none refl
absorbing_absorbs k operation.Not ts h = absurd (none_any ts h)
absorbing_absorbs k (operation.Cat b) ts h = absurd (none_any ts h)
absorbing_absorbs k (operation.Path b) ts h = absurd (none_any ts h)

leads_kept : (k : Constants) (op : Operation) (ts : List ℕ) → list_any (absorbs k op) ts ≡ false
    → leads k op (kept k op ts) ≡ false
unfolding leads
leads_kept k op [] h = refl
leads_kept k op (t ∷ ts) h = step (absorbs k op t) refl (drops k op t) (λ r. leads_kept k op ts r)
  where
    step : (b : Bool) → absorbs k op t ≡ b → (d : Bool)
        → (list_any (absorbs k op) ts ≡ false → leads k op (kept k op ts) ≡ false)
        → leads k op (cond (not d) (t ∷ kept k op ts) (kept k op ts)) ≡ false
    step true e d r = let z : true ≡ false = sym (or_left (absorbs k op t) (list_any (absorbs k op) ts) e) ∙ h in
        absurd (cc)
    step false e false r = e
    step false e true r = r (ap (λ b. b || list_any (absorbs k op) ts) (sym e) ∙ h)

pub picked-append : (k : Constants) (op : Operation) (xs ys : List ℕ)
    → joined k op (picked k op xs) (picked k op ys) ≡ picked k op (xs ++ ys)
unfolding leads
picked-append k op xs ys = step (list_any (absorbs k op) xs) refl (list_any (absorbs k op) ys) refl
  where
    whole : (a b : Bool) → list_any (absorbs k op) xs ≡ a → list_any (absorbs k op) ys ≡ b
        → list_any (absorbs k op) (xs ++ ys) ≡ (a || b)
    whole a b p q = list_any-append (absorbs k op) xs ys ∙ ap₂ (λ x y. x || y) p q

    step : (a : Bool) → list_any (absorbs k op) xs ≡ a → (b : Bool) → list_any (absorbs k op) ys ≡ b
        → joined k op (cond a (absorbing k op ∷ []) (kept k op xs)) (cond b (absorbing k op ∷ []) (kept k op ys))
        ≡ cond (list_any (absorbs k op) (xs ++ ys)) (absorbing k op ∷ []) (kept k op (xs ++ ys))
    step true p b q =
        ap (λ u. cond u (absorbing k op ∷ []) (cond (leads k op (cond b (absorbing k op ∷ []) (kept k op ys)))
        (cond b (absorbing k op ∷ []) (kept k op ys))
        (absorbing k op ∷ cond b (absorbing k op ∷ []) (kept k op ys)))) (absorbing_absorbs k op xs p)
        ∙ sym (ap (λ u. cond u (absorbing k op ∷ []) (kept k op (xs ++ ys))) (whole true b p q))
    step false p true q =
        ap (λ u. cond u (kept k op xs) (cond (absorbs k op (absorbing k op)) (absorbing k op ∷ [])
        (kept k op xs ++ absorbing k op ∷ []))) (leads_kept k op xs p)
        ∙ ap (λ u. cond u (absorbing k op ∷ []) (kept k op xs ++ absorbing k op ∷ [])) (absorbing_absorbs k op ys q)
        ∙ sym (ap (λ u. cond u (absorbing k op ∷ []) (kept k op (xs ++ ys))) (whole false true p q))
    step false p false q =
        ap (λ u. cond u (kept k op xs) (cond (leads k op (kept k op ys)) (kept k op ys) (kept k op xs ++ kept k op ys)))
        (leads_kept k op xs p)
        ∙ ap (λ u. cond u (kept k op ys) (kept k op xs ++ kept k op ys)) (leads_kept k op ys q)
        ∙ sym (filter-append (λ t. not (drops k op t)) xs ys)
        ∙ sym (ap (λ u. cond u (absorbing k op ∷ []) (kept k op (xs ++ ys))) (whole false false p q))
