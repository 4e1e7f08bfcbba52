-- What an arena remembers stays right as it grows.
use Rattle.std.proofs.Common.{◌≡◌, ℕ, ◌<◌, Bool, true, false, cond, nat_eq, Option, None, Some, IfSome, List, [], ◌∷◌, length, refl, sym, ap, ap₂, ◌∙◌, rules}
use Rattle.std.specs.Cmp.Lexicographic.{same_text}
use Rattle.std.specs.declared.cmp.Ordering.{Ordering}
use Rattle.std.proofs.lemmas.Bool.{and_parts, false≢true}
use Rattle.sb_lang.specs.Regex.{Regex, none, eps}
use Rattle.sb_lang.specs.Constructors.{anything}
use Rattle.sb_lang.specs.Order.{regex_cmp}
use Rattle.std.specs.Map.{lookup}
use Rattle.indexmap.specs.IndexMap.{IndexMap, get}
use Rattle.sb_regex.specs.declared.node.Node.{Node}
use Rattle.sb_regex.specs.declared.node.Node.TheVariants as node
use Rattle.sb_regex.specs.Numbered.{regex_at, Names, Extends}
use Rattle.sb_regex.specs.Nodes.{node_regex, node_parts, PartsBelow}
use Rattle.sb_regex.specs.Remembered.{normal_of, same_pair, IsRemembered, AreBasic}
use Rattle.sb_regex.proofs.CallerLemmas.{at_kept, number_kept, numbers_kept, names_kept}
use Rattle.sb_regex.proofs.NodeEq.{same, same_gives, nat_same}
use Rattle.sb_regex.proofs.TableFacts.{node_kept}

some_same : {X : Type 0} (x y : X) → Some x ≡ Some y → x ≡ y
some_same x y h = cc

none_not : {X : Type 0} (x : X) → None ≡ Some x → ⊥
none_not x h = cc

same_parts : (d e : Node) → same d e ≡ true → node_parts d ≡ node_parts e
same_parts node.None node.None h = refl
same_parts node.Eps node.Eps h = refl
same_parts (node.Set a) (node.Set b) h = refl
same_parts (node.Cat a b) (node.Cat c d) h =
    let p = and_parts (nat_eq a c) _ h in ap₂ (λ x y. x ∷ y ∷ []) (nat_same a c p.0) (nat_same b d p.1)
same_parts (node.Alt a) (node.Alt b) h = same_text a.items b.items (sym h)
same_parts (node.And a) (node.And b) h = same_text a.items b.items (sym h)
same_parts (node.Not a) (node.Not b) h = ap (λ x. x ∷ []) (nat_same a b h)
same_parts (node.Star a) (node.Star b) h = ap (λ x. x ∷ []) (nat_same a b h)
same_parts (node.Rep a n m) (node.Rep b k l) h =
    let p = and_parts (nat_eq a b) _ h in ap (λ x. x ∷ []) (nat_same a b p.0)
same_parts (node.Path a b) (node.Path c d) h =
    let p = and_parts (nat_eq a c) _ h in ap₂ (λ x y. x ∷ y ∷ []) (nat_same a c p.0) (nat_same b d p.1)
same_parts _ _ h = absurd (false≢true h)

module _ {S T : Type 0} where
  pub remembered_none : (rs : List Regex) (made : IndexMap Node ℕ S) (orders : IndexMap (ℕ × ℕ) Ordering T)
      → made.entries ≡ [] → orders.entries ≡ [] → IsRemembered rs made orders
  remembered_none rs made orders e f = record {
    calls = λ d i g. absurd (none_not i (sym (ap (λ es. lookup (same d) es) e) ∙ g));
    pairs = λ p o g. absurd (none_not o (sym (ap (λ es. lookup (same_pair p) es) f) ∙ g));
  }

  pub calls_kept : (rs : List Regex) (before after : IndexMap Node ℕ S) (orders : IndexMap (ℕ × ℕ) Ordering T)
      → IsRemembered rs before orders → after.entries ≡ before.entries → IsRemembered rs after orders
  calls_kept rs before after orders m e = record {
    calls = λ d i g. m.calls d i (sym (ap (λ es. lookup (same d) es) e) ∙ g);
    pairs = m.pairs;
  }

  pub remembered_more : (old new : List Regex) (made : IndexMap Node ℕ S) (orders : IndexMap (ℕ × ℕ) Ordering T)
      → Extends old new → IsRemembered old made orders → IsRemembered new made orders
  remembered_more old new made orders ext m = record {
    calls = λ d i g.
        let p = m.calls d i g in (
          numbers_kept old new (node_parts d) ext p.0,
          names_kept old new i (normal_of (node_regex old d)) ext p.1
              ∙ ap (λ r. Some (normal_of r)) (sym (node_kept old new d ext p.0)),
        );
    pairs = λ p o g.
        let q = m.pairs p o g in (
          number_kept old new p.0 ext q.0,
          number_kept old new p.1 ext q.1,
          q.2 ∙ sym (ap₂ (λ x y. regex_cmp x y) (at_kept old new p.0 ext q.0) (at_kept old new p.1 ext q.1)),
        );
  }

  pub call_added : (rs : List Regex) (before after : IndexMap Node ℕ S) (orders : IndexMap (ℕ × ℕ) Ordering T)
      (call : Node) (id : ℕ) → IsRemembered rs before orders
      → ((q : Node) → get same after q ≡ cond (same call q) (Some id) (get same before q)) → PartsBelow (length rs) call
      → Names rs id (normal_of (node_regex rs call)) → IsRemembered rs after orders
  call_added rs before after orders call id m put below named = record {
    calls = λ d i g. step d i (same call d) refl (sym (put d) ∙ g);
    pairs = m.pairs;
  }
    where
      step : (d : Node) (i : ℕ) (b : Bool) → same call d ≡ b → cond (same call d) (Some id) (get same before d) ≡ Some i
          → PartsBelow (length rs) d × Names rs i (normal_of (node_regex rs d))
      step d i true is g =
          let e : id ≡ i = some_same id i (sym (ap (λ b. cond b (Some id) (get same before d)) is) ∙ g) in
          let parts : PartsBelow (length rs) d = rw (← same_parts call d is) below in
          (parts, rw (← e, ← same_gives rs call d is) named)
      step d i false is g = m.calls d i (sym (ap (λ b. cond b (Some id) (get same before d)) is) ∙ g)

  pub order_added : (rs : List Regex) (made : IndexMap Node ℕ S) (before after : IndexMap (ℕ × ℕ) Ordering T)
      (a b : ℕ) (order : Ordering) → IsRemembered rs made before
      → ((q : ℕ × ℕ) → get same_pair after q ≡ cond (same_pair (a, b) q) (Some order) (get same_pair before q))
      → a < length rs → b < length rs → order ≡ regex_cmp (regex_at rs a) (regex_at rs b) → IsRemembered rs made after
  order_added rs made before after a b order m put left right is = record {
    calls = m.calls;
    pairs = λ p o g. step p o (same_pair (a, b) p) refl (sym (put p) ∙ g);
  }
    where
      step : (p : ℕ × ℕ) (o : Ordering) (t : Bool) → same_pair (a, b) p ≡ t
          → cond (same_pair (a, b) p) (Some order) (get same_pair before p) ≡ Some o
          → (p.0 < length rs) × (p.1 < length rs) × (o ≡ regex_cmp (regex_at rs p.0) (regex_at rs p.1))
      step p o true t g =
          let e : order ≡ o = some_same order o (sym (ap (λ b. cond b (Some order) (get same_pair before p)) t) ∙ g) in
          let q = and_parts (nat_eq a p.0) _ t in
          rw (← e, ← nat_same a p.0 q.0, ← nat_same b p.1 q.1) (left, right, is)
      step p o false t g = m.pairs p o (sym (ap (λ b. cond b (Some order) (get same_pair before p)) t) ∙ g)

  pub made_before : (rs : List Regex) (made : IndexMap Node ℕ S) (orders : IndexMap (ℕ × ℕ) Ordering T) (d : Node)
      (r : Option ℕ) → IsRemembered rs made orders → r ≡ get same made d
      → IfSome r (λ id. Names rs id (normal_of (node_regex rs d)))
  made_before rs made orders d None m is = search rules
  made_before rs made orders d (Some i) m is = (m.calls d i (sym is)).1

  pub order_before : (rs : List Regex) (made : IndexMap Node ℕ S) (orders : IndexMap (ℕ × ℕ) Ordering T) (a b : ℕ)
      (r : Option Ordering) → IsRemembered rs made orders → r ≡ get same_pair orders (a, b)
      → IfSome r (λ o. o ≡ regex_cmp (regex_at rs a) (regex_at rs b))
  order_before rs made orders a b None m is = search rules
  order_before rs made orders a b (Some o) m is = (m.pairs (a, b) o (sym is)).2

-- The numbers of single regexes.

names_more : (old new : List Regex) (o : Option ℕ) (r : Regex) → Extends old new → IfSome o (λ id. Names old id r)
    → IfSome o (λ id. Names new id r)
names_more old new None r ext h = h
names_more old new (Some id) r ext h = names_kept old new id r ext h

pub basic_more : (old new : List Regex) (of_none of_eps of_anything : Option ℕ) → Extends old new
    → AreBasic old of_none of_eps of_anything → AreBasic new of_none of_eps of_anything
basic_more old new of_none of_eps of_anything ext b = record {
  no_word = names_more old new of_none none ext b.no_word;
  empty_word = names_more old new of_eps eps ext b.empty_word;
  every_word = names_more old new of_anything anything ext b.every_word;
}
