-- The derivative of a concatenation.
use Rattle.std.proofs.Common.{◌≡◌, ℕ, zero, suc, ◌-◌, ◌<◌, ◌≤◌, true, false, cond, Some, None, Option, List, [], ◌∷◌, length, refl, sym, ap, ap₂, subst, ◌∙◌, arith}
use Rattle.std.specs.Prelude.{IfSome, IfNone, IsSomeAnd, OnSome}
use Rattle.std.specs.List.{All}
use Rattle.std.proofs.lemmas.List.Elements.{All-nil, All-cons}
use Rattle.sb_word.specs.Words.{is_character}
use Rattle.sb_lang.specs.Regex.{Regex, cat, rep}
use Rattle.sb_lang.specs.Constructors.{mkalt, mkcat, mkrep}
use Rattle.sb_lang.specs.Derivative.{nd, nds, nullable}
use Rattle.sb_regex.specs.Numbered.{regex_at, regexes_at, AllNumbers, Extends, Names}
use Rattle.sb_deriv.specs.declared.operation.Constants.{Constants}
use Rattle.sb_deriv.specs.declared.operation.Operation.TheVariants as operation
use Rattle.sb_deriv.specs.Pieces.{value_from, value_at}
use Rattle.sb_deriv.specs.Faithful.{IsMapOf, IsDerivative, IsFaithful, Memo}
use Rattle.sb_deriv.specs.Choices.{made, picked, map_of, values_at, targets_at, nd_each, AreConstants, HaveEntries}
use Rattle.sb_regex.proofs.CallerLemmas.{at_kept, names_at}
use Rattle.sb_deriv.proofs.Derivatives.{value_number, map_same, faithful_kept, constants_kept}
use Rattle.sb_deriv.proofs.Kept.{made_picked, picked_numbers}
use Rattle.sb_deriv.proofs.Gathering.{ArePicked, below_end, targets_are, target_numbers, made_of_choices}

pub some_weaker : {A : Type 0} (o : Option A) (P Q : A → Type 0) → ((x : A) → P x → Q x) → IfSome o P → IfSome o Q
some_weaker None P Q f h = h
some_weaker (Some x) P Q f h = f x h

pub none_weaker : {A : Type 0} (o : Option A) (P Q : Type 0) → (P → Q) → IfNone o P → IfNone o Q
none_weaker None P Q f h = f h
none_weaker (Some x) P Q f h = h

pub found_idle : {A : Type 0} (o : Option A) (P : A → Type 0) (Q : Type 0) → Q → IsSomeAnd o P → OnSome o Q
found_idle None P Q q h = absurd h
found_idle (Some x) P Q q h = q

pub found_waits : {A : Type 0} (o : Option A) (P : A → Type 0) (Q : Type 0) → IsSomeAnd o P → IfNone o Q
found_waits None P Q h = absurd h
found_waits (Some x) P Q h = tt

pub have_first : (memo : Memo) (a b : ℕ) → HaveEntries memo (a ∷ b ∷ []) → HaveEntries memo (a ∷ [])
have_first memo a b h zero d l = h 0 d (omega arith)
have_first memo a b h (suc k) d l = absurd (omega arith)

pub have_second : (memo : Memo) (a b : ℕ) → HaveEntries memo (a ∷ b ∷ []) → HaveEntries memo (b ∷ [])
have_second memo a b h zero d l = h 1 d (omega arith)
have_second memo a b h (suc k) d l = absurd (omega arith)

pub one_below : (n a : ℕ) → a < n → All (λ i. i < n) (a ∷ [])
one_below n a p = All-cons (λ i. i < n) a [] p (All-nil (λ i. i < n))

-- what is known of heads and tails
pub record Parted (rs rs1 : List Regex) (k : Constants) (memo : Memo) (a b : ℕ) (first : List (List (ℕ × ℕ)))
    (fs : List (ℕ × List ℕ)) (ps : List (ℕ × ℕ)) (cs : List (ℕ × List ℕ)) : Type 0 where
  pub constants : AreConstants rs k
  pub faithful : IsFaithful rs memo
  pub entries : HaveEntries memo (a ∷ b ∷ [])
  pub tail : b < length rs
  pub extends : Extends rs rs1
  pub first_is : first ≡ map_of memo a ∷ []
  pub firsts : (x : ℕ) → x < 0x30000 → value_from [] fs x ≡ picked k (operation.Cat b) (values_at first x)
  pub made_heads : IsMapOf rs1 (λ c. made rs (operation.Cat b) (regexes_at rs (value_from [] fs c))) ps
  pub both : (x : ℕ) → x < 0x30000
      → value_from [] cs x ≡ picked k operation.Alt (value_at ps x ∷ value_at (map_of memo b) x ∷ [])

pub first_picked : (rs : List Regex) (k : Constants) (memo : Memo) (a b : ℕ) (first : List (List (ℕ × ℕ)))
    (fs : List (ℕ × List ℕ)) → AreConstants rs k → IsFaithful rs memo → HaveEntries memo (a ∷ b ∷ [])
    → first ≡ map_of memo a ∷ [] →
    ((x : ℕ) → x < 0x30000 → value_from [] fs x ≡ picked k (operation.Cat b) (values_at first x))
    → ArePicked rs k (operation.Cat b) memo (a ∷ []) first fs
first_picked rs k memo a b first fs c f h is v = record {
  constants = c;
  faithful = f;
  entries = have_first memo a b h;
  maps_are = is;
  values = v;
}

pub parted_numbers : (rs rs1 : List Regex) (k : Constants) (memo : Memo) (a b : ℕ) (first : List (List (ℕ × ℕ)))
    (fs : List (ℕ × List ℕ)) (ps : List (ℕ × ℕ)) (cs : List (ℕ × List ℕ)) → Parted rs rs1 k memo a b first fs ps cs
    → (x : ℕ) → x < 0x30000 → AllNumbers rs1 (value_from [] cs x)
parted_numbers rs rs1 k memo a b first fs ps cs p x l =
    let f : IsFaithful rs1 memo = faithful_kept rs rs1 memo p.extends p.faithful in
    let n : AllNumbers rs1 (value_at ps x ∷ targets_at memo (b ∷ []) x) =
    All-cons (λ i. i < length rs1) (value_at ps x) (targets_at memo (b ∷ []) x)
    (value_number rs1 ps x p.made_heads.ordered p.made_heads.targets)
    (target_numbers rs1 memo (b ∷ []) x f (have_second memo a b p.entries)) in
    subst (AllNumbers rs1) (sym (p.both x l))
    (picked_numbers rs1 k operation.Alt (value_at ps x ∷ targets_at memo (b ∷ []) x)
    (constants_kept rs rs1 k p.extends p.constants) n)

union_picked : (rs : List Regex) (k : Constants) (ts : List ℕ) → AreConstants rs k
    → mkalt (regexes_at rs (picked k operation.Alt ts)) ≡ mkalt (regexes_at rs ts)
unfolding made
union_picked rs k ts a = made_picked rs k operation.Alt ts a

head_made : (rs : List Regex) (b : ℕ) (r : Regex) → made rs (operation.Cat b) (r ∷ []) ≡ mkcat r (regex_at rs b)
unfolding made
head_made rs b r = refl

pub parted_values : (rs rs1 : List Regex) (k : Constants) (memo : Memo) (a b : ℕ) (first : List (List (ℕ × ℕ)))
    (fs : List (ℕ × List ℕ)) (ps : List (ℕ × ℕ)) (cs : List (ℕ × List ℕ)) → Parted rs rs1 k memo a b first fs ps cs
    → (x : ℕ) → is_character x ≡ true →
    mkalt (regexes_at rs1 (value_from [] cs x))
    ≡ mkalt (mkcat (nd (regex_at rs a) x) (regex_at rs b) ∷ nd (regex_at rs b) x ∷ [])
parted_values rs rs1 k memo a b first fs ps cs p x u =
    let f : IsFaithful rs1 memo = faithful_kept rs rs1 memo p.extends p.faithful in
    let h : regex_at rs1 (value_at ps x) ≡ mkcat (nd (regex_at rs a) x) (regex_at rs b) =
    p.made_heads.values x u
    ∙ made_of_choices rs k (operation.Cat b) memo (a ∷ []) first fs
    (first_picked rs k memo a b first fs p.constants p.faithful p.entries p.first_is p.firsts) x u
    ∙ head_made rs b (nd (regex_at rs a) x) in
    let t : regexes_at rs1 (targets_at memo (b ∷ []) x) ≡ nd (regex_at rs b) x ∷ [] =
    targets_are rs1 memo (b ∷ []) x f (have_second memo a b p.entries) u
    ∙ ap (λ r. nd r x ∷ []) (at_kept rs rs1 b p.extends p.tail) in
    ap (λ ids. mkalt (regexes_at rs1 ids)) (p.both x (below_end x u))
    ∙ union_picked rs1 k (value_at ps x ∷ targets_at memo (b ∷ []) x) (constants_kept rs rs1 k p.extends p.constants)
    ∙ ap₂ (λ y z. mkalt (y ∷ z)) h t

cat_plain : (rs : List Regex) (a b c : ℕ) → nullable (regex_at rs a) ≡ false
    → made rs (operation.Cat b) (nd_each (regexes_at rs (a ∷ [])) c) ≡ nd (cat (regex_at rs a) (regex_at rs b)) c
unfolding made nd nds
cat_plain rs a b c n =
    ap (λ t. cond t (mkalt (mkcat (nd (regex_at rs a) c) (regex_at rs b) ∷ nd (regex_at rs b) c ∷ []))
    (mkcat (nd (regex_at rs a) c) (regex_at rs b))) (sym n)

cat_whole : (r s : Regex) (c : ℕ) → nullable r ≡ true → mkalt (mkcat (nd r c) s ∷ nd s c ∷ []) ≡ nd (cat r s) c
unfolding nd nds
cat_whole r s c n = ap (λ t. cond t (mkalt (mkcat (nd r c) s ∷ nd s c ∷ [])) (mkcat (nd r c) s)) (sym n)

pub cat_of_one : (rs rs' : List Regex) (a b : ℕ) (d : List (ℕ × ℕ)) → nullable (regex_at rs a) ≡ false
    → IsMapOf rs' (λ c. made rs (operation.Cat b) (nd_each (regexes_at rs (a ∷ [])) c)) d
    → IsDerivative rs' (cat (regex_at rs a) (regex_at rs b)) d
cat_of_one rs rs' a b d n m =
    map_same rs' (λ c. made rs (operation.Cat b) (nd_each (regexes_at rs (a ∷ [])) c))
    (nd (cat (regex_at rs a) (regex_at rs b))) d (λ c u. cat_plain rs a b c n) m

-- a repetition, with the rest of it behind the body

rep_value : (old new : List Regex) (a rest least most c : ℕ) → Extends old new → a < length old → 0 < most
    → Names new rest (mkrep (regex_at old a) (least - 1) (most - 1))
    → made new (operation.Cat rest) (nd_each (regexes_at new (a ∷ [])) c) ≡ nd (rep (regex_at old a) least most) c
unfolding made nd
rep_value old new a rest least most c ext l some names =
    let e : suc (most - 1) ≡ most = omega (arith, some) in
    ap₂ (λ x y. mkcat (nd x c) y) (at_kept old new a ext l)
    (names_at new rest (mkrep (regex_at old a) (least - 1) (most - 1)) names)
    ∙ ap (λ m. nd (rep (regex_at old a) least m) c) e

pub rep_of_one : (old new now : List Regex) (a rest least most : ℕ) (d : List (ℕ × ℕ)) → Extends old new
    → a < length old → 0 < most → Names new rest (mkrep (regex_at old a) (least - 1) (most - 1))
    → IsMapOf now (λ c. made new (operation.Cat rest) (nd_each (regexes_at new (a ∷ [])) c)) d
    → IsDerivative now (rep (regex_at old a) least most) d
rep_of_one old new now a rest least most d ext l some names m =
    map_same now (λ c. made new (operation.Cat rest) (nd_each (regexes_at new (a ∷ [])) c))
    (nd (rep (regex_at old a) least most)) d
    (λ c u. rep_value old new a rest least most c ext l some names) m

union_made : (rs ps : List Regex) → made rs operation.Alt ps ≡ mkalt ps
unfolding made
union_made rs ps = refl

pub cat_of_two : (rs' rs1 : List Regex) (r s : Regex) (cs : List (ℕ × List ℕ)) (pieces d : List (ℕ × ℕ))
    → nullable r ≡ true → d ≡ pieces →
    ((x : ℕ) → is_character x ≡ true
    → mkalt (regexes_at rs1 (value_from [] cs x)) ≡ mkalt (mkcat (nd r x) s ∷ nd s x ∷ [])) →
    IsMapOf rs' (λ c. made rs1 operation.Alt (regexes_at rs1 (value_from [] cs c))) pieces
    → IsDerivative rs' (cat r s) d
cat_of_two rs' rs1 r s cs pieces d n e v m =
    subst (λ (x : List (ℕ × ℕ)). IsDerivative rs' (cat r s) x) (sym e)
    (map_same rs' (λ c. made rs1 operation.Alt (regexes_at rs1 (value_from [] cs c))) (nd (cat r s)) pieces
    (λ c u. union_made rs1 (regexes_at rs1 (value_from [] cs c)) ∙ v c u ∙ cat_whole r s c n) m)

pub below_more : (m n : ℕ) (ps : List ℕ) → m ≤ n → All (λ i. i < m) ps → All (λ i. i < n) ps
below_more m n ps l h = λ k d e. omega (arith, h k d e, l)
