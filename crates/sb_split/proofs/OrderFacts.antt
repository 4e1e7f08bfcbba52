-- Literals in order, each once: they are the same ones.
use Rattle.std.specs.declared.cmp.Ordering.{Ordering}
use Rattle.std.specs.declared.cmp.Ordering.TheVariants.{Less, Equal, Greater}
use Rattle.std.specs.Ordering.{match_ordering}
use Rattle.std.proofs.lemmas.Map.Views.{All-insert_key}
use Rattle.sb_split.proofs.Words.{arith, ◌∷◌, ◌≡◌, ◌≢◌, List, [], refl, sym, subst, All, All-cons, All-contains, All-contains_itself, All-head, All-nil, All-tail, Ascend, Contains, IsSetOf, Lit, ascend_form, in_order, literal_order, order_ascends, same_literal, with_literal}

module _ (P : Lit → Type 0) where
  with_kept : (l : Lit) (ms : List Lit) → All P (with_literal l ms) → P l × All P ms
  with_kept l [] h = (All-head P l [] h, All-nil P)
  with_kept l (m ∷ ms) h = step (λ k. with_kept l ms k) (literal_order l m) refl h
    where
      step : (All P (with_literal l ms) → P l × All P ms) → (o : Ordering) → literal_order l m ≡ o
          → All P (match_ordering o (l ∷ m ∷ ms) (m ∷ ms) (m ∷ with_literal l ms)) → P l × All P (m ∷ ms)
      step behind Less e k = (All-head P l (m ∷ ms) k, All-tail P l (m ∷ ms) k)
      step behind Equal e k = (subst P (sym (same_literal l m e)) (All-head P m ms k), k)
      step behind Greater e k =
          let later = behind (All-tail P m (with_literal l ms) k) in
          (later.0, All-cons P m ms (All-head P m (with_literal l ms) k) later.1)

  -- what holds of all that stand in order holds of all,
  pub all_kept : (ls : List Lit) → All P (in_order ls) → All P ls
  all_kept [] h = h
  all_kept (l ∷ ls) h =
      let parts = with_kept l (in_order ls) h in All-cons P l ls parts.0 (all_kept ls parts.1)

  -- and back
  pub all_ordered : (ls : List Lit) → All P ls → All P (in_order ls)
  all_ordered [] h = h
  all_ordered (l ∷ ls) h =
      All-insert_key literal_order l P (in_order ls) (all_ordered ls (All-tail P l ls h)) (All-head P l ls h)

pub set_ordered : (ls : List Lit) → IsSetOf (in_order ls) ls
set_ordered ls = record {
  no_others = λ l. All-contains (Contains ls) (in_order ls) l (all_ordered (Contains ls) ls (All-contains_itself ls));
  has_all = λ l. All-contains (Contains (in_order ls)) ls l
      (all_kept (Contains (in_order ls)) ls (All-contains_itself (in_order ls)));
}

pub ascend_ordered : (ls : List Lit) → Ascend (in_order ls)
ascend_ordered ls = ascend_form (in_order ls) (order_ascends ls)

pub some_ordered : (l : Lit) (ls : List Lit) → in_order (l ∷ ls) ≢ []
some_ordered l ls = λ is.
    none (subst (λ all. Contains all l) is ((set_ordered (l ∷ ls)).has_all l (0, omega (arith), refl)))
  where
    none : Contains [] l → ⊥
    none it = omega (arith, it.1)
