-- The terms of a table, with one more term of the code.
use Rattle.std.proofs.Common.{◌≡◌, ℕ, ◌<◌, Bool, true, false, ◌⊎◌, inl, inr, nat_lt, cond, Some, List, [], ◌∷◌, ◌++◌, length, get_or, slice_get, refl, sym, ap, ◌∙◌, arith, length-append}
use Rattle.std.specs.List.{list_any, list_all}
use Rattle.std.proofs.lemmas.Bool.{false≢true}
use Rattle.std.proofs.lemmas.Bool.Decides.{nat_tests}
use Rattle.std.proofs.lemmas.List.{get_or_push, get_or_default, nil_from_length}
use Rattle.std.proofs.lemmas.List.Folds.{list_any-from_Any}
use Rattle.std.proofs.lemmas.Option.{slice_get_within, slice_get-get_or}
use Rattle.sb_facts.proofs.CallerLemmas.{get_push, all_push}
use Rattle.sb_meaning.specs.Terms.{Term, word, apply, terms_of}
use Rattle.sb_term.specs.declared.term.Term as code
use Rattle.sb_term.specs.declared.term.Term.TheVariants as node
use Rattle.sb_term.specs.Numbered.{term_at, Names, Extends}
use Rattle.sb_term.specs.Nodes.{node_term, ArgumentsBelow, IsWritten, terms_onto, terms_of_table}
use Rattle.sb_term.specs.Interning.{IsTable}
use Rattle.sb_term.specs.Symbols.{symbol_in}
use Rattle.sb_term.proofs.CallerLemmas.{extends_same, at_kept, ats_kept, names_at, names_from, names_kept}
use Rattle.sb_term.proofs.NodeEq.{same, same_gives, gives_same}

pub onto-push : (ts : List Term) (ds : List code.Term) (d : code.Term)
    → terms_onto ts (ds ++ d ∷ []) ≡ terms_onto ts ds ++ node_term (terms_onto ts ds) d ∷ []
unfolding terms_onto
onto-push ts [] d = refl
onto-push ts (x ∷ xs) d = onto-push (ts ++ node_term ts x ∷ []) xs d

pub node_kept : (old new : List Term) (d : code.Term) → Extends old new → ArgumentsBelow (length old) d
    → node_term new d ≡ node_term old d
node_kept old new (node.Constant serial sort) e h = refl
node_kept old new (node.Word codes) e h = refl
node_kept old new (node.Numeral n) e h = refl
node_kept old new (node.Apply s arguments) e h =
    ap (λ ts. apply (symbol_in s) (terms_of ts)) (ats_kept old new arguments.items e h)
node_kept old new (node.Parameter place sort) e h = refl

names_push : (ts : List Term) (t : Term) (i : ℕ) → i ≡ length ts → Names (ts ++ t ∷ []) i t
names_push ts t i e =
    names_from (ts ++ t ∷ []) i t (omega (arith, length-append ts (t ∷ []))) (get_or_push ts t (word []) i (sym e))

-- a new term is none of the table's
new_one : (ts : List Term) (ds : List code.Term) (d : code.Term) → IsTable ts ds
    → ArgumentsBelow (length ts) d → list_any (same d) ds ≡ false → (i : ℕ) → i < length ts
    → node_term ts d ≡ term_at ts i → ⊥
new_one ts ds d t p fresh i l e =
    let here : i < length ds = omega (arith, l, t.long) in
    let x = get_or ds i d in
    let g : slice_get ds i ≡ Some x = slice_get-get_or ds i d here in
    let below : ArgumentsBelow (length ts) x = λ k z h. omega (arith, t.arguments i x g k z h) in
    let found : same d x ≡ true =
    gives_same ts d x t.distinct p below (e ∙ names_at ts i (node_term ts x) (t.nodes i x g)) in
    false≢true (sym fresh ∙ list_any-from_Any (same d) ds (i, x, here, get_or_default ds i x d here, found))

pub table_more : (ts : List Term) (ds : List code.Term) (d : code.Term) → IsTable ts ds
    → ArgumentsBelow (length ts) d → IsWritten d → list_any (same d) ds ≡ false
    → IsTable (ts ++ node_term ts d ∷ []) (ds ++ d ∷ [])
table_more ts ds d t p written fresh = record {
  nodes = λ i x g. elim (get_push ds d x i g) as (λ _. Names new i (node_term new x)) [
    | inl s ↦
        let below : ArgumentsBelow (length ts) x =
        λ k z h. omega (arith, t.arguments i x s k z h, slice_get_within ds i x s, t.long) in
        names_kept ts new i (node_term new x) ext (t.nodes i x s ∙ ap Some (sym (node_kept ts new x ext below)))
    | inr s ↦
        names_push ts (node_term ts d) i (s.0 ∙ sym t.long)
        ∙ ap Some (sym (node_kept ts new d ext p) ∙ ap (node_term new) (sym s.1))
  ];
  arguments = λ i x g. elim (get_push ds d x i g) as (λ _. ArgumentsBelow i x) [
    | inl s ↦ t.arguments i x s
    | inr s ↦ moved i x (s.0 ∙ sym t.long) s.1
  ];
  written = λ i x g. elim (get_push ds d x i g) as (λ _. IsWritten x) [
    | inl s ↦ t.written i x s
    | inr s ↦ rw s.1 written
  ];
  long = grind (arith, t.long, length-append ts (node_term ts d ∷ []), length-append ds (d ∷ []));
  distinct = λ i j l m e. apart i j (last i l) (last j m) e;
}
  where
    new : List Term
    new = ts ++ node_term ts d ∷ []

    ext : Extends ts new
    ext = record { more = node_term ts d ∷ []; is = refl }

    moved : (i : ℕ) (x : code.Term) → i ≡ length ts → x ≡ d → ArgumentsBelow i x
    moved i x e f = rw (e, f) p

    last : (i : ℕ) → i < length new → (i < length ts) ⊎ (i ≡ length ts)
    last i l = step (nat_lt i (length ts)) refl
      where
        step : (b : Bool) → nat_lt i (length ts) ≡ b → (i < length ts) ⊎ (i ≡ length ts)
        step true is = inl (grind (arith, nat_tests))
        step false is = inr (grind (arith, nat_tests, length-append ts (node_term ts d ∷ [])))

    apart : (i j : ℕ) → (i < length ts) ⊎ (i ≡ length ts) → (j < length ts) ⊎ (j ≡ length ts)
        → term_at new i ≡ term_at new j → i ≡ j
    apart i j (inl l) (inl m) e = t.distinct i j l m (sym (at_kept ts new i ext l) ∙ e ∙ at_kept ts new j ext m)
    apart i j (inl l) (inr m) e =
        absurd (new_one ts ds d t p fresh i l
        (sym (names_at new j (node_term ts d) (names_push ts (node_term ts d) j m)) ∙ sym e
        ∙ at_kept ts new i ext l))
    apart i j (inr l) (inl m) e =
        absurd (new_one ts ds d t p fresh j m
        (sym (names_at new i (node_term ts d) (names_push ts (node_term ts d) i l)) ∙ e ∙ at_kept ts new j ext m))
    apart i j (inr l) (inr m) e = l ∙ sym m

pub table_none : IsTable (terms_of_table []) []
unfolding terms_onto
table_none = record {
  nodes = λ i x g. absurd (nothing i x g);
  arguments = λ i x g. absurd (nothing i x g);
  written = λ i x g. absurd (nothing i x g);
  long = refl;
  distinct = λ i j l m e. omega arith;
}
  where
    nothing : (i : ℕ) (x : code.Term) → slice_get [] i ≡ Some x → ⊥
    nothing i x g = omega (arith, slice_get_within [] i x g)

pub terms_nil : (ds : List code.Term) → length ds ≡ 0 → terms_of_table ds ≡ []
unfolding terms_onto
terms_nil ds h = ap (λ xs. terms_of_table xs) (nil_from_length ds h)

-- What adding a term makes of the table.

-- the terms of the code after it
abbrev pub inserted : List code.Term → code.Term → List code.Term
inserted ds d = cond (list_any (same d) ds) ds (ds ++ d ∷ [])

pub extended : (old : List Term) (ds after : List code.Term) (d : code.Term) → terms_of_table ds ≡ old
    → after ≡ inserted ds d → Extends old (terms_of_table after)
extended old ds after d is e = rw (← is, e) (step (list_any (same d) ds))
  where
    step : (b : Bool) → Extends (terms_of_table ds) (terms_of_table (cond b ds (ds ++ d ∷ [])))
    step true = extends_same (terms_of_table ds)
    step false = record { more = node_term (terms_of_table ds) d ∷ []; is = onto-push [] ds d }

pub table_added : (old : List Term) (ds after : List code.Term) (d : code.Term)
    → IsTable (terms_of_table ds) ds → terms_of_table ds ≡ old → ArgumentsBelow (length old) d → IsWritten d
    → after ≡ inserted ds d → IsTable (terms_of_table after) after
table_added old ds after d t is p w e = rw e (step (list_any (same d) ds) refl)
  where
    step : (b : Bool) → list_any (same d) ds ≡ b
        → IsTable (terms_of_table (cond b ds (ds ++ d ∷ []))) (cond b ds (ds ++ d ∷ []))
    step true h = t
    step false h = rw (onto-push [] ds d) (table_more (terms_of_table ds) ds d t (rw is p) w h)

-- the term of the code that is found, or added, stands for the term
pub named : (old : List Term) (ds after : List code.Term) (d : code.Term) (n : ℕ) → IsTable (terms_of_table ds) ds
    → terms_of_table ds ≡ old → ArgumentsBelow (length old) d → IsWritten d → after ≡ inserted ds d
    → ((k : code.Term) × (slice_get after n ≡ Some k) × (same d k ≡ true))
    → Names (terms_of_table after) n (node_term old d)
named old ds after d n t is p w e stored =
    let all : IsTable (terms_of_table after) after = table_added old ds after d t is p w e in
    all.nodes n stored.0 stored.1
    ∙ ap Some (sym (same_gives (terms_of_table after) d stored.0 stored.2)
    ∙ node_kept old (terms_of_table after) d (extended old ds after d is e) p)

-- what is true of the terms before and of the one that was added is true of all
pub all_added : (old : List Term) (ds after : List code.Term) (d : code.Term) → terms_of_table ds ≡ old
    → after ≡ inserted ds d → (test : Term → Bool) → list_all test old ≡ true → test (node_term old d) ≡ true
    → list_all test (terms_of_table after) ≡ true
all_added old ds after d is e test h k =
    rw e (step (list_any (same d) ds))
  where
    all : list_all test (terms_of_table ds) ≡ true
    all = rw is h

    new : test (node_term (terms_of_table ds) d) ≡ true
    new = rw is k

    step : (b : Bool) → list_all test (terms_of_table (cond b ds (ds ++ d ∷ []))) ≡ true
    step true = all
    step false = rw (onto-push [] ds d) (all_push test (terms_of_table ds) (node_term (terms_of_table ds) d) all new)

-- where nothing is added
pub extends_kept : (old : List Term) (ds after : List code.Term) → terms_of_table ds ≡ old → after ≡ ds
    → Extends old (terms_of_table after)
extends_kept old ds after is e = rw (e, is) (extends_same old)

pub all_kept : (old : List Term) (ds after : List code.Term) → terms_of_table ds ≡ old → after ≡ ds
    → (test : Term → Bool) → list_all test old ≡ true → list_all test (terms_of_table after) ≡ true
all_kept old ds after is e test h = rw (e, is) h
