-- The regexes of a table, with one more node.
use Rattle.std.proofs.Common.{◌≡◌, ℕ, ◌<◌, Bool, true, false, ◌&&◌, ◌⊎◌, inl, inr, nat_lt, Some, List, [], ◌∷◌, ◌++◌, length, get_or, slice_get, refl, sym, ap, ap₂, ◌∙◌, arith, length-append}
use Rattle.std.specs.List.{list_any}
use Rattle.std.proofs.lemmas.Bool.{false≢true}
use Rattle.std.proofs.lemmas.Bool.Decides.{nat_tests}
use Rattle.std.proofs.lemmas.List.{get_or_append_left, get_or_push, get_or_default, nil_from_length}
use Rattle.std.proofs.lemmas.List.Folds.{list_all-append, list_any-from_Any}
use Rattle.std.proofs.lemmas.Option.{get_or_from_slice_get, slice_get_within, slice_get-get_or}
use Rattle.sb_lang.specs.NormalForm.{is_normal}
use Rattle.sb_lang.specs.Regex.{Regex, none, cat, alt, and, neg, star, rep, path, regexes}
use Rattle.sb_regex.specs.declared.arena.Facts.{Facts}
use Rattle.sb_regex.specs.declared.node.Node.{Node}
use Rattle.sb_regex.specs.declared.node.Node.TheVariants as node
use Rattle.sb_regex.specs.Numbered.{regex_at, Names, Extends}
use Rattle.sb_regex.specs.Nodes.{node_regex, PartsBelow}
use Rattle.sb_regex.specs.Table.{regexes_onto, regexes_of}
use Rattle.sb_regex.specs.Interning.{AreFactsOf, IsTable}
use Rattle.sb_regex.proofs.CallerLemmas.{at_kept, ats_kept, names_at, names_from, names_kept}
use Rattle.sb_regex.proofs.NodeEq.{same, gives_same}

pub onto-push : (rs : List Regex) (ds : List Node) (d : Node)
    → regexes_onto rs (ds ++ d ∷ []) ≡ regexes_onto rs ds ++ node_regex (regexes_onto rs ds) d ∷ []
unfolding regexes_onto
onto-push rs [] d = refl
onto-push rs (x ∷ xs) d = onto-push (rs ++ node_regex rs x ∷ []) xs d

pub node_kept : (old new : List Regex) (d : Node) → Extends old new → PartsBelow (length old) d
    → node_regex new d ≡ node_regex old d
node_kept old new node.None e h = refl
node_kept old new node.Eps e h = refl
node_kept old new (node.Set ranges) e h = refl
node_kept old new (node.Cat a b) e h =
    ap₂ (λ x y. cat x y) (at_kept old new a e (h 0 0 (omega arith))) (at_kept old new b e (h 1 0 (omega arith)))
node_kept old new (node.Alt ps) e h = ap (λ rs. alt (regexes rs)) (ats_kept old new ps.items e h)
node_kept old new (node.And ps) e h = ap (λ rs. and (regexes rs)) (ats_kept old new ps.items e h)
node_kept old new (node.Not a) e h = ap (λ r. neg r) (at_kept old new a e (h 0 0 (omega arith)))
node_kept old new (node.Star a) e h = ap (λ r. star r) (at_kept old new a e (h 0 0 (omega arith)))
node_kept old new (node.Rep a n m) e h = ap (λ r. rep r n m) (at_kept old new a e (h 0 0 (omega arith)))
node_kept old new (node.Path a b) e h =
    ap₂ (λ x y. path x y) (at_kept old new a e (h 0 0 (omega arith))) (at_kept old new b e (h 1 0 (omega arith)))

-- where the one more element is
pub get_push : {X : Type 0} (xs : List X) (y x : X) (i : ℕ) → slice_get (xs ++ y ∷ []) i ≡ Some x
    → (slice_get xs i ≡ Some x) ⊎ ((i ≡ length xs) × (x ≡ y))
get_push xs y x i h = step (nat_lt i (length xs)) refl
  where
    within : i < length (xs ++ y ∷ [])
    within = slice_get_within (xs ++ y ∷ []) i x h

    step : (b : Bool) → nat_lt i (length xs) ≡ b → (slice_get xs i ≡ Some x) ⊎ ((i ≡ length xs) × (x ≡ y))
    step true is =
        let l : i < length xs = grind (arith, nat_tests) in
        inl (slice_get-get_or xs i x l
        ∙ ap Some (sym (get_or_append_left xs (y ∷ []) x i l) ∙ get_or_from_slice_get (xs ++ y ∷ []) i x x h))
    step false is =
        let e : i ≡ length xs = grind (arith, nat_tests, within, length-append xs (y ∷ [])) in
        inr (e, sym (get_or_from_slice_get (xs ++ y ∷ []) i x x h) ∙ get_or_push xs y x i (sym e))

pub names_push : (rs : List Regex) (r : Regex) (i : ℕ) → i ≡ length rs → Names (rs ++ r ∷ []) i r
names_push rs r i e =
    names_from (rs ++ r ∷ []) i r (omega (arith, length-append rs (r ∷ []))) (get_or_push rs r none i (sym e))

-- a new regex is none of the table's
new_one : (rs : List Regex) (ds : List Node) (facts : List Facts) (d : Node) → IsTable rs ds facts
    → PartsBelow (length rs) d → list_any (same d) ds ≡ false → (i : ℕ) → i < length rs
    → node_regex rs d ≡ regex_at rs i → ⊥
new_one rs ds facts d t p fresh i l e =
    let here : i < length ds = omega (arith, l, t.long) in
    let x = get_or ds i d in
    let g : slice_get ds i ≡ Some x = slice_get-get_or ds i d here in
    let below : PartsBelow (length rs) x = λ k z h. omega (arith, t.parts i x g k z h) in
    let found : same d x ≡ true =
    gives_same rs d x t.distinct p below (e ∙ names_at rs i (node_regex rs x) (t.nodes i x g)) in
    false≢true (sym fresh ∙ list_any-from_Any (same d) ds (i, x, here, get_or_default ds i x d here, found))

pub table_more : (rs : List Regex) (ds : List Node) (facts : List Facts) (d : Node) (f : Facts) → IsTable rs ds facts
    → PartsBelow (length rs) d → is_normal (node_regex rs d) ≡ true → AreFactsOf f (node_regex rs d)
    → list_any (same d) ds ≡ false → IsTable (rs ++ node_regex rs d ∷ []) (ds ++ d ∷ []) (facts ++ f ∷ [])
table_more rs ds facts d f t p norm true_facts fresh = record {
  nodes = λ i x g. elim (get_push ds d x i g) as (λ _. Names new i (node_regex new x)) [
    | inl s ↦
        let below : PartsBelow (length rs) x =
        λ k z h. omega (arith, t.parts i x s k z h, slice_get_within ds i x s, t.long) in
        names_kept rs new i (node_regex new x) ext (t.nodes i x s ∙ ap Some (sym (node_kept rs new x ext below)))
    | inr s ↦
        names_push rs (node_regex rs d) i (s.0 ∙ sym t.long)
        ∙ ap Some (sym (node_kept rs new d ext p) ∙ ap (node_regex new) (sym s.1))
  ];
  parts = λ i x g. elim (get_push ds d x i g) as (λ _. PartsBelow i x) [
    | inl s ↦ t.parts i x s
    | inr s ↦ moved i x (s.0 ∙ sym t.long) s.1
  ];
  long = grind (arith, t.long, length-append rs (node_regex rs d ∷ []), length-append ds (d ∷ []));
  distinct = λ i j l m e. apart i j (last i l) (last j m) e;
  normal = list_all-append is_normal rs (node_regex rs d ∷ []) ∙ ap₂ ◌&&◌ t.normal (ap (λ x. x && true) norm);
  known = grind (arith, t.known, length-append rs (node_regex rs d ∷ []), length-append facts (f ∷ []));
  holds = λ i x g. elim (get_push facts f x i g) as (λ _. AreFactsOf x (regex_at new i)) [
    | inl s ↦
        let l : i < length rs = omega (arith, slice_get_within facts i x s, t.known) in
        rw (at_kept rs new i ext l) (t.holds i x s)
    | inr s ↦ facts_moved i x (s.0 ∙ t.known) s.1
  ];
}
  where
    new : List Regex
    new = rs ++ node_regex rs d ∷ []

    ext : Extends rs new
    ext = record { more = node_regex rs d ∷ []; is = refl }

    facts_moved : (i : ℕ) (x : Facts) → i ≡ length rs → x ≡ f → AreFactsOf x (regex_at new i)
    facts_moved i x e same =
        rw (names_at new i (node_regex rs d) (names_push rs (node_regex rs d) i e), same) true_facts

    moved : (i : ℕ) (x : Node) → i ≡ length rs → x ≡ d → PartsBelow i x
    moved i x e f = rw (e, f) p

    last : (i : ℕ) → i < length new → (i < length rs) ⊎ (i ≡ length rs)
    last i l = step (nat_lt i (length rs)) refl
      where
        step : (b : Bool) → nat_lt i (length rs) ≡ b → (i < length rs) ⊎ (i ≡ length rs)
        step true is = inl (grind (arith, nat_tests))
        step false is = inr (grind (arith, nat_tests, length-append rs (node_regex rs d ∷ [])))

    apart : (i j : ℕ) → (i < length rs) ⊎ (i ≡ length rs) → (j < length rs) ⊎ (j ≡ length rs)
        → regex_at new i ≡ regex_at new j → i ≡ j
    apart i j (inl l) (inl m) e = t.distinct i j l m (sym (at_kept rs new i ext l) ∙ e ∙ at_kept rs new j ext m)
    apart i j (inl l) (inr m) e =
        absurd (new_one rs ds facts d t p fresh i l
        (sym (names_at new j (node_regex rs d) (names_push rs (node_regex rs d) j m)) ∙ sym e
        ∙ at_kept rs new i ext l))
    apart i j (inr l) (inl m) e =
        absurd (new_one rs ds facts d t p fresh j m
        (sym (names_at new i (node_regex rs d) (names_push rs (node_regex rs d) i l)) ∙ e ∙ at_kept rs new j ext m))
    apart i j (inr l) (inr m) e = l ∙ sym m

pub table_none : IsTable (regexes_of []) [] []
unfolding regexes_onto
table_none = record {
  nodes = λ i x g. absurd (nothing i x g);
  parts = λ i x g. absurd (nothing i x g);
  long = refl;
  distinct = λ i j l m e. omega arith;
  normal = refl;
  known = refl;
  holds = λ i f g. absurd (no_facts i f g);
}
  where
    nothing : (i : ℕ) (x : Node) → slice_get [] i ≡ Some x → ⊥
    nothing i x g = omega (arith, slice_get_within [] i x g)

    no_facts : (i : ℕ) (f : Facts) → slice_get [] i ≡ Some f → ⊥
    no_facts i f g = omega (arith, slice_get_within [] i f g)

pub regexes_nil : (ds : List Node) → length ds ≡ 0 → regexes_of ds ≡ []
unfolding regexes_onto
regexes_nil ds h = ap (λ xs. regexes_of xs) (nil_from_length ds h)
