-- What operations make, and which members they drop.
use Rattle.std.proofs.Common.{◌≡◌, ℕ, ◌<◌, true, Some, List, [], ◌∷◌, length, get_or, refl, sym, ap, subst, ◌∙◌, arith, ◌⊎◌, inl, inr}
use Rattle.std.specs.List.{list_all}
use Rattle.std.proofs.lemmas.List.Sums.{AllPass-from_list_all}
use Rattle.sb_lang.specs.Regex.{Regex, none, alt, and, regexes, parts}
use Rattle.sb_lang.specs.NormalForm.{is_normal, IsNormal}
use Rattle.sb_lang.specs.OrderLaws.{OrderTellsApart}
use Rattle.sb_lang.proofs.CallerLemmas.{parts-regexes}
use Rattle.std.specs.Ordering.{is_eq}
use Rattle.std.specs.declared.cmp.Ordering.{Ordering}
use Rattle.std.specs.declared.cmp.Ordering.TheVariants.{Less, Equal, Greater}
use Rattle.std.proofs.lemmas.Bool.{and_parts}
use Rattle.sb_lang.specs.FoldLaws.{UnionOfOne}
use Rattle.sb_lang.specs.Order.{code}
use Rattle.sb_lang.specs.Constructors.{anything, mkset, mkcat, mkalt, mkand, mknot, mkpath, alternatives, conjuncts, union_of, join_sets, alt_of, ranges_of, is_set, meet_sets, meet_of, and_of, sorted}
use Rattle.sb_regex.specs.Numbered.{regex_at, regexes_at, Names}
use Rattle.sb_regex.proofs.CallerLemmas.{names_at, names_from}
use Rattle.sb_deriv.specs.declared.operation.Constants.{Constants}
use Rattle.sb_deriv.specs.declared.operation.Operation.{Operation}
use Rattle.sb_deriv.specs.declared.operation.Operation.TheVariants as operation
use Rattle.sb_deriv.specs.Choices.{made, AreConstants}

pub no_members : mkand [] ≡ anything
unfolding mkand meet_sets meet_of ranges_of is_set conjuncts sorted and_of code
no_members = refl

-- what is made of no regex, and of one

no_alternatives : mkalt [] ≡ none
unfolding mkalt join_sets mkset union_of alternatives ranges_of is_set sorted alt_of code
no_alternatives = refl

pub of_none_and : (rs : List Regex) (k : Constants) (op : Operation) → op ≡ operation.And → AreConstants rs k
    → Names rs k.everything (made rs op [])
unfolding made
of_none_and rs k op is a = a.everything_is ∙ ap Some (sym no_members ∙ ap (λ o. made rs o []) (sym is))

pub of_none_other : (rs : List Regex) (k : Constants) (op : Operation)
    → (op ≡ operation.Alt)
    ⊎ ((op ≡ operation.Not) ⊎ (((b : ℕ) × (op ≡ operation.Cat b)) ⊎ ((b : ℕ) × (op ≡ operation.Path b))))
    → AreConstants rs k → Names rs k.none (made rs op [])
unfolding made
of_none_other rs k op (inl e) a = a.none_is ∙ ap Some (sym no_alternatives ∙ ap (λ o. made rs o []) (sym e))
of_none_other rs k op (inr (inl e)) a = a.none_is ∙ ap Some (ap (λ o. made rs o []) (sym e))
of_none_other rs k op (inr (inr (inl p))) a = a.none_is ∙ ap Some (ap (λ o. made rs o []) (sym p.1))
of_none_other rs k op (inr (inr (inr p))) a = a.none_is ∙ ap Some (ap (λ o. made rs o []) (sym p.1))

one_none : mkand (none ∷ []) ≡ none
unfolding mkand meet_sets meet_of ranges_of is_set conjuncts sorted and_of code
one_none = refl

pub one_union : (rs : List Regex) (op : Operation) (i : ℕ) → UnionOfOne → list_all is_normal rs ≡ true
    → op ≡ operation.Alt
    → i < length rs → Names rs i (made rs op (regex_at rs i ∷ []))
unfolding made
one_union rs op i u n is l =
    names_from rs i _ l (sym (u (regex_at rs i) (AllPass-from_list_all is_normal rs n i none l))
    ∙ ap (λ o. made rs o (regex_at rs i ∷ [])) (sym is))

pub one_absorbed : (rs : List Regex) (k : Constants) (op : Operation) (i : ℕ) → AreConstants rs k → op ≡ operation.And
    → i ≡ k.none → i < length rs → Names rs i (made rs op (regex_at rs i ∷ []))
unfolding made
one_absorbed rs k op i a is e l =
    let z : regex_at rs i ≡ none = ap (regex_at rs) e ∙ names_at rs k.none none a.none_is in
    names_from rs i _ l (z ∙ sym one_none ∙ ap (λ r. mkand (r ∷ [])) (sym z)
    ∙ ap (λ o. made rs o (regex_at rs i ∷ [])) (sym is))

-- a node whose parts are these is what is made of them

equal : (o : Ordering) → is_eq o ≡ true → o ≡ Equal
equal Less h = absurd (cc)
equal Equal h = refl
equal Greater h = absurd (cc)

pub named_alt : (rs : List Regex) (n : ℕ) (ids ps : List ℕ) → OrderTellsApart → list_all is_normal rs ≡ true
    → n < length rs → alt (regexes (regexes_at rs ids)) ≡ regex_at rs n → ids ≡ ps →
    Names rs n (mkalt (regexes_at rs ps))
unfolding is_normal
named_alt rs n ids ps tells normal l e is =
    let m : IsNormal (regex_at rs n) = AllPass-from_list_all is_normal rs normal n none l in
    let k : IsNormal (alt (regexes (regexes_at rs ids))) = subst IsNormal (sym e) m in
    let q = (tells (mkalt (parts (regexes (regexes_at rs ids)))) (alt (regexes (regexes_at rs ids)))).0
    (equal _ (and_parts _ _ k).1) in
    names_from rs n _ l (sym e ∙ sym q ∙ ap mkalt (parts-regexes (regexes_at rs ids))
    ∙ ap (λ xs. mkalt (regexes_at rs xs)) is)

pub named_and : (rs : List Regex) (n : ℕ) (ids ps : List ℕ) → OrderTellsApart → list_all is_normal rs ≡ true
    → n < length rs → and (regexes (regexes_at rs ids)) ≡ regex_at rs n → ids ≡ ps →
    Names rs n (mkand (regexes_at rs ps))
unfolding is_normal
named_and rs n ids ps tells normal l e is =
    let m : IsNormal (regex_at rs n) = AllPass-from_list_all is_normal rs normal n none l in
    let k : IsNormal (and (regexes (regexes_at rs ids))) = subst IsNormal (sym e) m in
    let q = (tells (mkand (parts (regexes (regexes_at rs ids)))) (and (regexes (regexes_at rs ids)))).0
    (equal _ (and_parts _ _ k).1) in
    names_from rs n _ l (sym e ∙ sym q ∙ ap mkand (parts-regexes (regexes_at rs ids))
    ∙ ap (λ xs. mkand (regexes_at rs xs)) is)

-- what is made, by cases

pub made_alt : (rs : List Regex) (op : Operation) (ps : List Regex) → op ≡ operation.Alt → mkalt ps ≡ made rs op ps
unfolding made
made_alt rs op ps is = ap (λ o. made rs o ps) (sym is)

pub made_and : (rs : List Regex) (op : Operation) (ps : List Regex) → op ≡ operation.And → mkand ps ≡ made rs op ps
unfolding made
made_and rs op ps is = ap (λ o. made rs o ps) (sym is)

pub made_not_nil : (rs : List Regex) (op : Operation) (ids : List ℕ) → op ≡ operation.Not → length ids ≡ 0
    → none ≡ made rs op (regexes_at rs ids)
unfolding made
made_not_nil rs op [] is l = ap (λ o. made rs o []) (sym is)
made_not_nil rs op (i ∷ ids) is l = absurd (omega arith)

pub made_cat_nil : (rs : List Regex) (op : Operation) (b : ℕ) (ids : List ℕ) → op ≡ operation.Cat b → length ids ≡ 0
    → none ≡ made rs op (regexes_at rs ids)
unfolding made
made_cat_nil rs op b [] is l = ap (λ o. made rs o []) (sym is)
made_cat_nil rs op b (i ∷ ids) is l = absurd (omega arith)

pub made_path_nil : (rs : List Regex) (op : Operation) (b : ℕ) (ids : List ℕ) → op ≡ operation.Path b → length ids ≡ 0
    → none ≡ made rs op (regexes_at rs ids)
unfolding made
made_path_nil rs op b [] is l = ap (λ o. made rs o []) (sym is)
made_path_nil rs op b (i ∷ ids) is l = absurd (omega arith)

pub made_not : (rs : List Regex) (op : Operation) (ids : List ℕ) (a : ℕ) → op ≡ operation.Not → 0 < length ids
    → a ≡ get_or ids 0 a → mknot (regex_at rs a) ≡ made rs op (regexes_at rs ids)
unfolding made
made_not rs op [] a is l h = absurd (omega arith)
made_not rs op (i ∷ ids) a is l h = ap (λ x. mknot (regex_at rs x)) h
    ∙ ap (λ o. made rs o (regexes_at rs (i ∷ ids))) (sym is)

pub made_cat : (rs : List Regex) (op : Operation) (b : ℕ) (ids : List ℕ) (a : ℕ) → op ≡ operation.Cat b → 0 < length ids
    → a ≡ get_or ids 0 a → mkcat (regex_at rs a) (regex_at rs b) ≡ made rs op (regexes_at rs ids)
unfolding made
made_cat rs op b [] a is l h = absurd (omega arith)
made_cat rs op b (i ∷ ids) a is l h = ap (λ x. mkcat (regex_at rs x) (regex_at rs b)) h
    ∙ ap (λ o. made rs o (regexes_at rs (i ∷ ids))) (sym is)

pub made_path : (rs : List Regex) (op : Operation) (b : ℕ) (ids : List ℕ) (a : ℕ) → op ≡ operation.Path b
    → 0 < length ids → a ≡ get_or ids 0 a → mkpath (regex_at rs a) (regex_at rs b) ≡ made rs op (regexes_at rs ids)
unfolding made
made_path rs op b [] a is l h = absurd (omega arith)
made_path rs op b (i ∷ ids) a is l h = ap (λ x. mkpath (regex_at rs x) (regex_at rs b)) h
    ∙ ap (λ o. made rs o (regexes_at rs (i ∷ ids))) (sym is)
