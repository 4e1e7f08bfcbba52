-- Regexes that wait for a number, as the stack changes.
use Rattle.std.proofs.Common.{◌≡◌, ℕ, suc, ◌+◌, ◌*◌, ◌<◌, ◌≤◌, Bool, true, false, cond, not, ◌||◌, ◌&&◌, nat_eq, if◌then◌else◌, List, [], ◌∷◌, ◌++◌, length, map, filter, drop, reverse, slice_get, get_or, Option, Some, None, is_some, Result, Ok, Err, refl, sym, ap, ap₂, subst, ◌∙◌, ◌⊎◌, inl, inr, arith}
use Rattle.std.specs.List.{list_all, list_any, All, Contains}
use Rattle.std.proofs.lemmas.Bool.{and_parts, false≢true, ltb-true, lt-ltb}
use Rattle.std.proofs.lemmas.List.{map-append, reverse-append, length-map, get_or-map}
use Rattle.std.specs.Result.{OnOk}
use Rattle.std.proofs.lemmas.List.Folds.{list_any-append, list_all-append}
use Rattle.std.proofs.lemmas.List.Elements.{All-cons, All-nil}
use Rattle.std.proofs.Math.Seq.{drop-cons}
use Rattle.std.proofs.lemmas.Option.{get_or_from_slice_get, slice_get_within}
use Rattle.sb_lang.specs.Regex.{Regex, none, eps, set, cat, alt, and, neg, star, rep, path, regexes}
use Rattle.sb_lang.proofs.CallerLemmas.{parts-regexes}
use Rattle.sb_regex.specs.Numbered.{regex_at, regexes_at, AllNumbers, AreDistinct}
use Rattle.sb_regex.specs.declared.node.Node.{Node}
use Rattle.sb_regex.specs.declared.node.Node.TheVariants as node
use Rattle.sb_regex.specs.Nodes.{node_regex, node_parts}
use Rattle.sb_trace.specs.declared.frame.Frame.{Frame}
use Rattle.sb_trace.specs.Parts.{regex_parts}
use Rattle.sb_trace.specs.Tracking.{number_in, IsLackingFor, of_part, AddsLacking}
use Rattle.sb_trace.specs.Defining.{IsNodeAt, IsNumbered, is_lacking}
use Rattle.sb_trace.specs.Waiting.{stack_of, waits, numbers_in, is_in, AreEntered, AreLacking, KeepsNumbers, is_known, IsStack, weight, weights, frame_weight, stack_weight, Settles}
use Rattle.sb_trace.proofs.Positions.{nat_same, same_nat, numbered-stays, numbered-before, number-last}

-- Parts that are put on the stack.

abbrev lacking : List ℕ → List ℕ → List ℕ
lacking order ps = filter (is_lacking order) ps

lacking-cons : (order : List ℕ) (p : ℕ) (ps : List ℕ) (rest : List Frame)
    → map waits (lacking order (p ∷ [])) ++ (map waits (lacking order ps) ++ rest)
    ≡ map waits (lacking order (p ∷ ps)) ++ rest
lacking-cons order p ps rest = step (is_lacking order p)
  where
    step : (b : Bool) → map waits (cond b (p ∷ []) []) ++ (map waits (lacking order ps) ++ rest)
        ≡ map waits (cond b (p ∷ lacking order ps) (lacking order ps)) ++ rest
    step true = refl
    step false = refl

-- one part more, in front of those behind it
pub parts_pushed : (order qs : List ℕ) (i k p : ℕ) (before now rest : List Frame) → k ≡ suc i → slice_get qs i ≡ Some p
    → before ≡ map waits (filter (is_lacking order) (drop k qs)) ++ rest
    → now ≡ map waits (filter (is_lacking order) (p ∷ [])) ++ before
    → now ≡ map waits (filter (is_lacking order) (drop i qs)) ++ rest
parts_pushed order qs i k p before now rest e at b n =
    let d : drop i qs ≡ p ∷ drop (suc i) qs =
    drop-cons qs i p (slice_get_within qs i p at) ∙ ap (λ x. x ∷ drop (suc i) qs) (get_or_from_slice_get qs i p p at)
    in
    n ∙ ap (λ fs. map waits (lacking order (p ∷ [])) ++ fs)
    (b ∙ ap (λ m. map waits (lacking order (drop m qs)) ++ rest) e)
    ∙ lacking-cons order p (drop (suc i) qs) rest
    ∙ ap (λ xs. map waits (lacking order xs) ++ rest) (sym d)

-- The parts of a regex are those of any node of it.

node-parts : (rs : List Regex) (d : Node) → regex_parts (node_regex rs d) ≡ map (regex_at rs) (node_parts d)
node-parts rs node.None = refl
node-parts rs node.Eps = refl
node-parts rs (node.Set ranges) = refl
node-parts rs (node.Cat a b) = refl
node-parts rs (node.Alt ps) = parts-regexes (regexes_at rs ps.items)
node-parts rs (node.And ps) = parts-regexes (regexes_at rs ps.items)
node-parts rs (node.Not a) = refl
node-parts rs (node.Star a) = refl
node-parts rs (node.Rep a n m) = refl
node-parts rs (node.Path a b) = refl

head-same : (a b : Regex) (xs ys : List Regex) → a ∷ xs ≡ b ∷ ys → a ≡ b
head-same a b xs ys h = cc

tail-same : (a b : Regex) (xs ys : List Regex) → a ∷ xs ≡ b ∷ ys → xs ≡ ys
tail-same a b xs ys h = cc

map-once : (rs : List Regex) (xs ys : List ℕ) → AreDistinct rs → AllNumbers rs xs → AllNumbers rs ys
    → map (regex_at rs) xs ≡ map (regex_at rs) ys → xs ≡ ys
map-once rs [] [] once p q h = refl
map-once rs [] (y ∷ ys) once p q h = absurd (cc)
map-once rs (x ∷ xs) [] once p q h = absurd (cc)
map-once rs (x ∷ xs) (y ∷ ys) once p q h =
    ap₂ ◌∷◌ (once x y (p 0 0 (omega arith)) (q 0 0 (omega arith)) (head-same _ _ _ _ h))
    (map-once rs xs ys once (λ k d l. p (suc k) d (omega (arith, l))) (λ k d l. q (suc k) d (omega (arith, l)))
    (tail-same _ _ _ _ h))

parts-known : (rs : List Regex) (n : ℕ) (d : Node) → IsNodeAt rs n d → AllNumbers rs (node_parts d)
parts-known rs n d at = λ k x l. omega (arith, at.parts k x l, at.known)

parts_same : (rs : List Regex) (n : ℕ) (d e : Node) → AreDistinct rs → IsNodeAt rs n d → IsNodeAt rs n e
    → node_parts e ≡ node_parts d
parts_same rs n d e once p q =
    map-once rs (node_parts e) (node_parts d) once (parts-known rs n e q) (parts-known rs n d p)
    (sym (node-parts rs e) ∙ ap regex_parts (q.regex ∙ sym p.regex) ∙ node-parts rs d)

-- What waits lacks a number.

parts_at : (rs : List Regex) (r : Regex) (ps : List ℕ) → regex_parts r ≡ map (regex_at rs) ps
    → All (λ p. Contains (regex_parts r) (regex_at rs p)) ps
parts_at rs r ps is = λ k d inside.
    let p = get_or ps k d in
    let bound : k < length (map (regex_at rs) ps) = omega (arith, inside, length-map ps (regex_at rs)) in
    let there : get_or (map (regex_at rs) ps) k (regex_at rs p) ≡ regex_at rs p =
    get_or-map (regex_at rs) ps k d (regex_at rs p) inside in
    subst (λ qs. Contains qs (regex_at rs p)) (sym is) (k, bound, there)

lacked : (first order : List ℕ) (n : ℕ) → KeepsNumbers first order → is_lacking order n ≡ true
    → number_in first n ≡ None
lacked first order n keeps lacks = step (number_in first n) refl
  where
    step : (o : Option ℕ) → number_in first n ≡ o → o ≡ None
    step None is = refl
    step (Some k) is = absurd (false≢true (ap not (sym (keeps n (ap is_some is))) ∙ lacks))

waits_lacking : (rs : List Regex) (first order : List ℕ) (root m : ℕ) (ps : List ℕ) (rest : List Frame)
    → KeepsNumbers first order → IsLackingFor rs first root m
    → All (λ p. Contains (regex_parts (regex_at rs m)) (regex_at rs p)) ps → AreLacking rs first root rest
    → AreLacking rs first root (map waits (lacking order ps) ++ rest)
waits_lacking rs first order root m [] rest keeps one each h = h
waits_lacking rs first order root m (p ∷ ps) rest keeps one each h =
    step (is_lacking order p) refl
    (waits_lacking rs first order root m ps rest keeps one (λ k d b. each (suc k) d (omega (arith, b))) h)
  where
    step : (b : Bool) → is_lacking order p ≡ b → AreLacking rs first root (map waits (lacking order ps) ++ rest)
        → AreLacking rs first root (map waits (cond b (p ∷ lacking order ps) (lacking order ps)) ++ rest)
    step true is others = (of_part m p one (each 0 0 (omega arith)) (lacked first order p keeps is), others)
    step false is others = others

pub adds_both : (rs : List Regex) (first : List ℕ) (root : ℕ) (old mid new : List ℕ)
    → AddsLacking rs first root old mid → AddsLacking rs first root mid new → AddsLacking rs first root old new
adds_both rs first root old mid new h next = λ n is. elim (next n is) [
  | inl before ↦ h n before
  | inr lacks ↦ inr lacks
]

-- Weights.

abbrev tree : List Regex → ℕ → ℕ
tree rs n = weight (regex_at rs n)

abbrev trees : List Regex → List ℕ → ℕ
trees rs [] = 0
trees rs (p ∷ ps) = tree rs p + trees rs ps

stack_weight-append : (rs : List Regex) (fs gs : List Frame)
    → stack_weight rs (fs ++ gs) ≡ stack_weight rs fs + stack_weight rs gs
stack_weight-append rs [] gs = omega arith
stack_weight-append rs (f ∷ fs) gs = let e = stack_weight-append rs fs gs in omega (arith, e)

weights-regexes : (rs : List Regex) (ps : List ℕ) → weights (regexes (regexes_at rs ps)) ≡ trees rs ps
unfolding regexes
weights-regexes rs [] = refl
weights-regexes rs (p ∷ ps) = ap (λ n. tree rs p + n) (weights-regexes rs ps)

node-weight : (rs : List Regex) (d : Node) → weight (node_regex rs d) ≡ suc (trees rs (node_parts d))
node-weight rs node.None = refl
node-weight rs node.Eps = refl
node-weight rs (node.Set ranges) = refl
node-weight rs (node.Cat a b) = omega arith
node-weight rs (node.Alt ps) = ap suc (weights-regexes rs ps.items)
node-weight rs (node.And ps) = ap suc (weights-regexes rs ps.items)
node-weight rs (node.Not a) = omega arith
node-weight rs (node.Star a) = omega arith
node-weight rs (node.Rep a n m) = omega arith
node-weight rs (node.Path a b) = omega arith

weight-positive : (r : Regex) → 0 < weight r
weight-positive none = omega arith
weight-positive eps = omega arith
weight-positive (set rs) = omega arith
weight-positive (cat a b) = omega arith
weight-positive (alt ps) = omega arith
weight-positive (and ps) = omega arith
weight-positive (neg a) = omega arith
weight-positive (star a) = omega arith
weight-positive (rep a n m) = omega arith
weight-positive (path a b) = omega arith

frame-positive : (b : Bool) (w : ℕ) → 0 < w → 0 < (if b then 1 else 2 * w)
frame-positive true w h = omega arith
frame-positive false w h = omega arith

waits-weight : (rs : List Regex) (order ps : List ℕ)
    → stack_weight rs (map waits (lacking order ps)) ≤ 2 * trees rs ps
waits-weight rs order [] = omega arith
waits-weight rs order (p ∷ ps) = step (is_lacking order p) (waits-weight rs order ps)
  where
    step : (b : Bool) → stack_weight rs (map waits (lacking order ps)) ≤ 2 * trees rs ps
        → stack_weight rs (map waits (cond b (p ∷ lacking order ps) (lacking order ps)))
        ≤ 2 * (tree rs p + trees rs ps)
    step true h = omega (arith, h)
    step false h = omega (arith, h)

-- Truth values.

or-right : (a b : Bool) → b ≡ true → (a || b) ≡ true
or-right true b h = refl
or-right false b h = h

or-false : (b : Bool) → (b || false) ≡ true → b ≡ true
or-false true h = refl
or-false false h = h

or-step : (a b c d e : Bool) → ((a || b) ≡ true → (c || d) ≡ true) → (a || (e || b)) ≡ true → (c || (e || d)) ≡ true
or-step a b c d false f h = f h
or-step a b true d true f h = refl
or-step a b false d true f h = refl

or-gone : (a e b c : Bool) → (a ≡ true → c ≡ true) → (e ≡ true → c ≡ true) → (a || (e || b)) ≡ true → (c || b) ≡ true
or-gone true e b c f g h = ap (λ x. x || b) (f refl)
or-gone false true b c f g h = ap (λ x. x || b) (g refl)
or-gone false false b c f g h = or-right c b h

or-swap : (a b c : Bool) → (b || (a || c)) ≡ ((a || b) || c)
or-swap true true c = refl
or-swap true false c = refl
or-swap false b c = refl

or-more : (a e b : Bool) → (a || (e || false)) ≡ true → (a || (e || b)) ≡ true
or-more true e b h = refl
or-more false true b h = refl
or-more false false b h = absurd (false≢true h)

or-behind : (a b c : Bool) → (a || c) ≡ true → (a || (b || c)) ≡ true
or-behind true b c h = refl
or-behind false b c h = or-right b c h

all-weaker : (t u : ℕ → Bool) → ((n : ℕ) → t n ≡ true → u n ≡ true) → (xs : List ℕ) → list_all t xs ≡ true
    → list_all u xs ≡ true
all-weaker t u f [] h = refl
all-weaker t u f (x ∷ xs) h =
    let p = and_parts (t x) (list_all t xs) h in ap₂ ◌&&◌ (f x p.0) (all-weaker t u f xs p.1)

-- What was entered, on another stack.

entered-more : (rs : List Regex) (old new above below : List ℕ) (fs : List Frame)
    → ((n : ℕ) → is_in old above n ≡ true → is_in new below n ≡ true) → AreEntered rs old above fs
    → AreEntered rs new below fs
entered-more rs old new above below [] grows h = tt
entered-more rs old new above below (f ∷ fs) grows h = (
  (λ e d at. all-weaker (is_in old above) (is_in new below) grows (node_parts d) (h.0 e d at)),
  entered-more rs old new (f.regex ∷ above) (f.regex ∷ below) fs
      (λ n. or-step (is_some (number_in old n)) (list_any (nat_eq n) above) (is_some (number_in new n))
      (list_any (nat_eq n) below) (nat_eq n f.regex) (grows n))
      h.1,
)

abbrev onto : List ℕ → List ℕ → List ℕ
onto [] above = above
onto (p ∷ ps) above = onto ps (p ∷ above)

any-onto : (t : ℕ → Bool) (ps above : List ℕ) → list_any t (onto ps above) ≡ (list_any t ps || list_any t above)
any-onto t [] above = refl
any-onto t (p ∷ ps) above = any-onto t ps (p ∷ above) ∙ or-swap (t p) (list_any t ps) (list_any t above)

entered-waits : (rs : List Regex) (order above ps : List ℕ) (rest : List Frame)
    → AreEntered rs order (onto ps above) rest → AreEntered rs order above (map waits ps ++ rest)
entered-waits rs order above [] rest h = h
entered-waits rs order above (p ∷ ps) rest h =
    ((λ e. absurd (false≢true e)), entered-waits rs order (p ∷ above) ps rest h)

covered-step : (b : Bool) (p : ℕ) (ws ls : List ℕ) (r : Bool)
    → ((n : ℕ) → list_any (nat_eq n) (cond (not b) (p ∷ ls) ls) ≡ true → list_any (nat_eq n) ws ≡ true)
    → (((n : ℕ) → list_any (nat_eq n) ls ≡ true → list_any (nat_eq n) ws ≡ true) → r ≡ true)
    → ((b || list_any (nat_eq p) ws) && r) ≡ true
covered-step true p ws ls r grows rest = rest grows
covered-step false p ws ls r grows rest =
    ap₂ ◌&&◌ (grows p (ap (λ e. e || list_any (nat_eq p) ls) (same_nat p p refl)))
    (rest (λ n h. grows n (or-right (nat_eq n p) (list_any (nat_eq n) ls) h)))

covered : (order ps ws : List ℕ)
    → ((n : ℕ) → list_any (nat_eq n) (lacking order ps) ≡ true → list_any (nat_eq n) ws ≡ true)
    → list_all (is_in order ws) ps ≡ true
covered order [] ws grows = refl
covered order (p ∷ ps) ws grows =
    covered-step (is_some (number_in order p)) p ws (lacking order ps) (list_all (is_in order ws) ps) grows
    (covered order ps ws)

known-waits : (rs : List Regex) (order : List ℕ) (m : ℕ) (ps : List ℕ) → m ≤ length rs → All (λ i. i < m) ps
    → list_all (is_known rs) (map waits (lacking order ps)) ≡ true
known-waits rs order m [] l h = refl
known-waits rs order m (p ∷ ps) l h =
    step (is_lacking order p) (h 0 0 (omega arith))
    (known-waits rs order m ps l (λ k d b. h (suc k) d (omega (arith, b))))
  where
    step : (b : Bool) → p < m → list_all (is_known rs) (map waits (lacking order ps)) ≡ true
        → list_all (is_known rs) (map waits (cond b (p ∷ lacking order ps) (lacking order ps))) ≡ true
    step true low rest = ap₂ ◌&&◌ (lt-ltb p (length rs) (omega (arith, low, l))) rest
    step false low rest = rest

-- The stack in a turn.

-- the top has a number, so it is taken away
pub settles_less : (rs : List Regex) (old new : List ℕ) (f : Frame) (fs : List Frame)
    → ((n : ℕ) → is_some (number_in old n) ≡ true → is_some (number_in new n) ≡ true)
    → is_some (number_in new f.regex) ≡ true
    → ((n : ℕ) → is_some (number_in new n) ≡ true → (is_some (number_in old n) ≡ true) ⊎ (n ≡ f.regex))
    → IsStack rs old (f ∷ fs) → Settles rs old new (f ∷ fs) fs
settles_less rs old new f fs grows there only s = record {
  stack = record {
    known = (and_parts (is_known rs f) (list_all (is_known rs) fs) s.known).1;
    entered = entered-more rs old new (f.regex ∷ []) [] fs (gone []) s.entered.1;
  };
  keeps = gone (numbers_in fs);
  lighter = let p = frame-positive f.entered (tree rs f.regex) (weight-positive (regex_at rs f.regex)) in
      omega (arith, p);
  lacking = λ first root keeps h. h.1;
  only = λ first root h n is. elim (only n is) [
    | inl before ↦ inl before
    | inr same ↦ inr (subst (IsLackingFor rs first root) (sym same) h.0)
  ];
}
  where
    gone : (above : List ℕ) (n : ℕ) → is_in old (f.regex ∷ above) n ≡ true → is_in new above n ≡ true
    gone above n = or-gone (is_some (number_in old n)) (nat_eq n f.regex) (list_any (nat_eq n) above)
        (is_some (number_in new n)) (grows n) (λ e. ap (λ m. is_some (number_in new m)) (nat_same n f.regex e) ∙ there)

pub settles_numbered : (rs : List Regex) (order : List ℕ) (f : Frame) (fs : List Frame)
    → is_some (number_in order f.regex) ≡ true → IsStack rs order (f ∷ fs) → Settles rs order order (f ∷ fs) fs
settles_numbered rs order f fs there s = settles_less rs order order f fs (λ n h. h) there (λ n h. inl h) s

pub settles_defined : (rs : List Regex) (old new : List ℕ) (f : Frame) (fs : List Frame)
    → number_in old f.regex ≡ None → new ≡ old ++ f.regex ∷ [] → IsStack rs old (f ∷ fs)
    → Settles rs old new (f ∷ fs) fs
settles_defined rs old new f fs lacks is s =
    settles_less rs old new f fs
    (λ n h. ap (λ o. is_some (number_in o n)) is ∙ numbered-stays old (f.regex ∷ []) n h)
    (ap (λ o. is_some (number_in o f.regex)) is ∙ number-last old f.regex lacks)
    (λ n h. numbered-before old f.regex n (ap (λ o. is_some (number_in o n)) (sym is) ∙ h)) s

lighter : (a b s t w x : ℕ) → x ≡ s + (1 + t) → s ≤ 2 * b → w ≡ suc b → a ≡ 2 * w → x < a + t
lighter a b s t w x p q e h = omega arith

-- the top waits for its parts
pub settles_entered : (rs : List Regex) (order : List ℕ) (f : Frame) (fs now : List Frame) (d : Node) → AreDistinct rs
    → IsNodeAt rs f.regex d → f.entered ≡ false
    → now ≡ map waits (filter (is_lacking order) (node_parts d)) ++ (record { regex = f.regex; entered = true }) ∷ fs
    → IsStack rs order (f ∷ fs) → Settles rs order order (f ∷ fs) now
settles_entered rs order f fs now d once at fresh is s =
    subst (Settles rs order order (f ∷ fs)) (sym is) (record {
      stack = record {
        known = list_all-append (is_known rs) (map waits ws) (e ∷ fs)
            ∙ ap₂ ◌&&◌ (known-waits rs order f.regex (node_parts d) (omega (arith, at.known)) at.parts) s.known;
        entered = entered-waits rs order [] ws (e ∷ fs) (
          (λ _ b p. ap (list_all (is_in order (onto ws []))) (parts_same rs f.regex d b once at p)
              ∙ covered order (node_parts d) (onto ws [])
              (λ n h. any-onto (nat_eq n) ws [] ∙ ap (λ b. b || false) h)),
          entered-more rs order order (f.regex ∷ []) (f.regex ∷ onto ws []) fs
              (λ n. or-more (is_some (number_in order n)) (nat_eq n f.regex) (list_any (nat_eq n) (onto ws [])))
              s.entered.1,
        );
      };
      keeps = λ n h. ap (λ b. is_some (number_in order n) || b)
          (ap (list_any (nat_eq n)) (map-append (λ g. g.regex) (map waits ws) (e ∷ fs))
          ∙ list_any-append (nat_eq n) (numbers_in (map waits ws)) (numbers_in (e ∷ fs)))
          ∙ or-behind (is_some (number_in order n)) (list_any (nat_eq n) (numbers_in (map waits ws)))
          (list_any (nat_eq n) (numbers_in (e ∷ fs))) h;
      lighter = lighter (frame_weight rs f) (trees rs (node_parts d)) (stack_weight rs (map waits ws))
          (stack_weight rs fs) (tree rs f.regex) (stack_weight rs (map waits ws ++ e ∷ fs))
          (stack_weight-append rs (map waits ws) (e ∷ fs)) (waits-weight rs order (node_parts d))
          (ap weight (sym at.regex) ∙ node-weight rs d)
          (ap (λ b. if b then 1 else 2 * tree rs f.regex) fresh);
      lacking = λ first root keeps h.
          waits_lacking rs first order root f.regex (node_parts d) (e ∷ fs) keeps h.0
          (parts_at rs (regex_at rs f.regex) (node_parts d) (ap regex_parts (sym at.regex) ∙ node-parts rs d))
          (h.0, h.1);
      only = λ first root h n is. inl is;
    })
  where
    ws : List ℕ
    ws = lacking order (node_parts d)

    e : Frame
    e = record { regex = f.regex; entered = true }

-- no part lacks a number where none waits
pub all_numbered : (order ps : List ℕ) → list_all (is_in order []) ps ≡ true → All (IsNumbered order) ps
all_numbered order [] h = All-nil (IsNumbered order)
all_numbered order (p ∷ ps) h =
    let a = and_parts (is_in order [] p) (list_all (is_in order []) ps) h in
    All-cons (IsNumbered order) p ps (or-false (is_some (number_in order p)) a.0) (all_numbered order ps a.1)

-- the last of a list is on top of its stack
pub stack_pushed : (before now : List Frame) (f : Frame) → now ≡ before ++ f ∷ [] → stack_of now ≡ f ∷ stack_of before
stack_pushed before now f e = ap reverse e ∙ reverse-append before (f ∷ [])

-- at first the root waits alone
pub one_waits : (rs : List Regex) (order : List ℕ) (n : ℕ) → n < length rs → IsStack rs order (waits n ∷ [])
one_waits rs order n l = record {
  known = ap (λ b. b && true) (lt-ltb n (length rs) l);
  entered = ((λ e. absurd (false≢true e)), tt);
}

pub one_is_in : (order : List ℕ) (n : ℕ) → is_in order (n ∷ []) n ≡ true
one_is_in order n = or-right (is_some (number_in order n)) (nat_eq n n || false)
    (ap (λ b. b || false) (same_nat n n refl))

pub top_known : (rs : List Regex) (order : List ℕ) (f : Frame) (fs : List Frame) → IsStack rs order (f ∷ fs)
    → f.regex < length rs
top_known rs order f fs s =
    ltb-true f.regex (length rs) (and_parts (is_known rs f) (list_all (is_known rs) fs) s.known).0

pub on_ok : {A E : Type 0} (r : Result A E) (P Q : Type 0) → (P → Q) → OnOk r P → OnOk r Q
on_ok (Ok x) P Q f h = f h
on_ok (Err e) P Q f h = tt
