-- The derivatives of parts, and what is picked of their targets.
use Rattle.std.proofs.Common.{◌≡◌, ℕ, suc, ◌<◌, ◌≤◌, true, Some, None, Option, List, [], ◌∷◌, length, map, refl, sym, ap, ap₂, subst, ◌∙◌, arith}
use Rattle.std.specs.Prelude.{unwrap_or, IsSome}
use Rattle.std.proofs.lemmas.List.Elements.{All-nil, All-cons}
use Rattle.std.proofs.lemmas.Bool.{leb-true}
use Rattle.sb_word.specs.Words.{is_character}
use Rattle.sb_lang.specs.Regex.{Regex}
use Rattle.sb_lang.specs.Derivative.{nd}
use Rattle.sb_regex.specs.Numbered.{regex_at, regexes_at, AllNumbers}
use Rattle.sb_deriv.specs.declared.operation.Constants.{Constants}
use Rattle.sb_deriv.specs.declared.operation.Operation.{Operation}
use Rattle.sb_deriv.specs.Pieces.{value_from, value_at}
use Rattle.sb_deriv.specs.Faithful.{IsKnown, IsFaithful, Memo, entry_of}
use Rattle.sb_deriv.specs.Choices.{made, picked, map_of, values_at, targets_at, nd_each, AreConstants, HaveEntries}
use Rattle.sb_deriv.proofs.Derivatives.{value_number}
use Rattle.sb_deriv.proofs.Kept.{made_picked, picked_numbers}

pub below_end : (c : ℕ) → is_character c ≡ true → c < 0x30000
below_end c h = let l : c ≤ 0x2ffff = leb-true c 0x2ffff h in omega arith

pub values_of_maps : (memo : Memo) (parts : List ℕ) (c : ℕ)
    → values_at (map (map_of memo) parts) c ≡ targets_at memo parts c
values_of_maps memo [] c = refl
values_of_maps memo (i ∷ is) c = ap (λ xs. value_at (map_of memo i) c ∷ xs) (values_of_maps memo is c)

-- what the entries are

pub some_value : {A : Type 0} (o : Option A) → IsSome o → (x : A) × (o ≡ Some x)
some_value None h = absurd (cc)
some_value (Some x) h = (x, refl)

pub targets_are : (rs : List Regex) (memo : Memo) (parts : List ℕ) (c : ℕ) → IsFaithful rs memo → HaveEntries memo parts
    → is_character c ≡ true → regexes_at rs (targets_at memo parts c) ≡ nd_each (regexes_at rs parts) c
targets_are rs memo [] c f h u = refl
targets_are rs memo (i ∷ is) c f h u =
    let s = some_value (entry_of memo i) (h 0 0 (omega arith)) in
    let k : IsKnown rs i s.0 = f i s.0 s.1 in
    let v : regex_at rs (value_at (unwrap_or (entry_of memo i) []) c) ≡ nd (regex_at rs i) c =
    ap (λ o. regex_at rs (value_at (unwrap_or o []) c)) s.1 ∙ k.derivative.values c u in
    ap₂ (λ x xs. x ∷ xs) v (targets_are rs memo is c f (λ j d l. h (suc j) d (omega (arith, l))) u)

pub target_numbers : (rs : List Regex) (memo : Memo) (parts : List ℕ) (c : ℕ) → IsFaithful rs memo
    → HaveEntries memo parts → AllNumbers rs (targets_at memo parts c)
target_numbers rs memo [] c f h = All-nil (λ i. i < length rs)
target_numbers rs memo (i ∷ is) c f h =
    let s = some_value (entry_of memo i) (h 0 0 (omega arith)) in
    let k : IsKnown rs i s.0 = f i s.0 s.1 in
    let v : value_at (unwrap_or (entry_of memo i) []) c < length rs =
    subst (λ (o : Option (List (ℕ × ℕ))). value_at (unwrap_or o []) c < length rs) (sym s.1)
    (value_number rs s.0 c k.derivative.ordered k.derivative.targets) in
    All-cons (λ i. i < length rs) (value_at (unwrap_or (entry_of memo i) []) c) (targets_at memo is c) v
    (target_numbers rs memo is c f (λ j d l. h (suc j) d (omega (arith, l))))

-- what is picked is numbers, and what is made of it is what is made of the derivatives

-- the choices are picked of the targets of parts
pub record ArePicked (rs : List Regex) (k : Constants) (op : Operation) (memo : Memo) (parts : List ℕ)
    (maps : List (List (ℕ × ℕ))) (cs : List (ℕ × List ℕ)) : Type 0 where
  pub constants : AreConstants rs k
  pub faithful : IsFaithful rs memo
  pub entries : HaveEntries memo parts
  pub maps_are : maps ≡ map (map_of memo) parts
  pub values : (c : ℕ) → c < 0x30000 → value_from [] cs c ≡ picked k op (values_at maps c)

picked_value : (rs : List Regex) (k : Constants) (op : Operation) (memo : Memo) (parts : List ℕ)
    (maps : List (List (ℕ × ℕ))) (cs : List (ℕ × List ℕ)) → ArePicked rs k op memo parts maps cs → (c : ℕ) → c < 0x30000
    → value_from [] cs c ≡ picked k op (targets_at memo parts c)
picked_value rs k op memo parts maps cs p c l =
    p.values c l ∙ ap (λ ms. picked k op (values_at ms c)) p.maps_are ∙ ap (picked k op) (values_of_maps memo parts c)

pub choice_numbers_of : (rs : List Regex) (k : Constants) (op : Operation) (memo : Memo) (parts : List ℕ)
    (maps : List (List (ℕ × ℕ))) (cs : List (ℕ × List ℕ)) → ArePicked rs k op memo parts maps cs → (c : ℕ) → c < 0x30000
    → AllNumbers rs (value_from [] cs c)
choice_numbers_of rs k op memo parts maps cs p c l =
    subst (AllNumbers rs) (sym (picked_value rs k op memo parts maps cs p c l))
    (picked_numbers rs k op (targets_at memo parts c) p.constants (target_numbers rs memo parts c p.faithful p.entries))

pub made_of_choices : (rs : List Regex) (k : Constants) (op : Operation) (memo : Memo) (parts : List ℕ)
    (maps : List (List (ℕ × ℕ))) (cs : List (ℕ × List ℕ)) → ArePicked rs k op memo parts maps cs → (c : ℕ)
    → is_character c ≡ true
    → made rs op (regexes_at rs (value_from [] cs c)) ≡ made rs op (nd_each (regexes_at rs parts) c)
made_of_choices rs k op memo parts maps cs p c u =
    ap (λ ids. made rs op (regexes_at rs ids)) (picked_value rs k op memo parts maps cs p c (below_end c u))
    ∙ made_picked rs k op (targets_at memo parts c) p.constants
    ∙ ap (made rs op) (targets_are rs memo parts c p.faithful p.entries u)
