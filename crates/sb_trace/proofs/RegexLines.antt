-- The line of a regex whose parts have numbers.
use Rattle.std.proofs.Common.{◌≡◌, ℕ, zero, suc, ◌+◌, ◌^◌, ◌<◌, Bool, true, false, ◌||◌, ◌&&◌, nat_eq, nat_lt, nat_le, if◌then◌else◌, List, [], ◌∷◌, ◌++◌, length, map, get_or, slice_get, Option, Some, None, is_some, option_map, option_and_then, unwrap_or, Result, Ok, Err, refl, sym, ap, ap₂, subst, ◌∙◌, arith, length-append}
use Rattle.std.specs.List.{list_all, list_any}
use Rattle.std.proofs.lemmas.Bool.{and_parts, false≢true, true≢false, lt-ltb, leb-true, le-leb}
use Rattle.std.proofs.lemmas.List.{map-append, get_or_append_left}
use Rattle.std.proofs.lemmas.List.Elements.{All-append, All-cons, All-nil}
use Rattle.std.proofs.lemmas.List.Sums.{AllPass-from_list_all}
use Rattle.std.proofs.lemmas.Option.{slice_get-map, slice_get_within, unwrap_or-slice_get}
use Rattle.sb_class.specs.Ranges.{Range, fits_from, rises_from}
use Rattle.sb_lang.specs.Regex.{Regex, none, set, cat, alt, and, neg, star, rep, path, no_more, regexes, parts}
use Rattle.sb_lang.specs.Order.{code, regex_eq}
use Rattle.sb_lang.specs.OrderLaws.{OrderTellsApart}
use Rattle.sb_lang.specs.Constructors.{mkset, mkalt, mkand, alternatives, conjuncts, ranges_of, is_set, union_of, join_sets, meet_of, meet_sets, sorted, alt_of, and_of}
use Rattle.sb_lang.specs.NormalForm.{is_normal}
use Rattle.sb_regex.specs.Numbered.{regex_at, regexes_at, AllNumbers, AreDistinct}
use Rattle.sb_regex.specs.declared.node.Node.{Node}
use Rattle.sb_regex.specs.declared.node.Node.TheVariants as node
use Rattle.sb_regex.specs.Nodes.{node_regex}
use Rattle.sb_deriv.specs.Faithful.{Memo, entry_of}
use Rattle.sb_deriv.specs.Pieces.{targets_of}
use Rattle.sb_graph.specs.Findings.{is_marked}
use Rattle.sb_rulebook.specs.Refusals.{Refusal, unknown_id, repeated, not_normal}
use Rattle.sb_rulebook.specs.Parts.{together}
use Rattle.sb_rulebook.specs.Lines as lines
use Rattle.sb_rulebook.specs.Lines.{regex_line, text_of}
use Rattle.sb_rulebook.specs.LineLaws.{is_small, are_small, is_small_range, have_text, some_small, node_has_text}
use Rattle.sb_rulebook.specs.Kept.{AllKept, Asked, targets_in, with_regex}
use Rattle.sb_rulebook.specs.RegexRules.{of_one, regex_of_node, defined}
use Rattle.sb_rulebook.specs.Follows.{follows}
use Rattle.sb_rulebook.proofs.CallerLemmas.{same_regex}
use Rattle.sb_script.specs.Steps.{line}
use Rattle.sb_proof.specs.Tapes.{with_bytes}
use Rattle.sb_trace.specs.Putting.{KeepsClauses}
use Rattle.sb_trace.specs.Tracking.{Traced, Tracks, TracesRegexes, IsExpandedTo, number_in}
use Rattle.sb_trace.specs.Defining.{IsNodeAt, IsNodeIn}
use Rattle.sb_trace.proofs.Puts.{regexes_one}
use Rattle.sb_trace.proofs.Positions.{same_nat, number-there, number-below, number-stays, number-missing}

-- What the numbers of parts name.

named : (rs : List Regex) (order : List ℕ) (a i : ℕ) → number_in order a ≡ Some i
    → slice_get (regexes_at rs order) i ≡ Some (regex_at rs a)
named rs order a i h = slice_get-map (regex_at rs) order i ∙ ap (option_map (regex_at rs)) (number-there order a i h)

head-same : (a b : Option ℕ) (xs ys : List (Option ℕ)) → a ∷ xs ≡ b ∷ ys → a ≡ b
head-same a b xs ys h = cc

tail-same : (a b : Option ℕ) (xs ys : List (Option ℕ)) → a ∷ xs ≡ b ∷ ys → xs ≡ ys
tail-same a b xs ys h = cc

all-named : (rs : List Regex) (order ps is : List ℕ) → map (number_in order) ps ≡ map Some is
    → together (map (slice_get (regexes_at rs order)) is) ≡ Some (regexes_at rs ps)
all-named rs order [] [] h = refl
all-named rs order [] (i ∷ is) h = absurd (cc)
all-named rs order (p ∷ ps) [] h = absurd (cc)
all-named rs order (p ∷ ps) (i ∷ is) h =
    ap (λ o. together (o ∷ map (slice_get (regexes_at rs order)) is)) (named rs order p i (head-same _ _ _ _ h))
    ∙ ap (option_map (λ others. regex_at rs p ∷ others)) (all-named rs order ps is (tail-same _ _ _ _ h))

node-named : (rs : List Regex) (order : List ℕ) (d : Node) (n : lines.Node) → IsNodeIn order d n
    → regex_of_node (regexes_at rs order) n ≡ Some (node_regex rs d)
node-named rs order node.None n h = ap (regex_of_node (regexes_at rs order)) h
node-named rs order node.Eps n h = ap (regex_of_node (regexes_at rs order)) h
node-named rs order (node.Set ranges) n h = ap (regex_of_node (regexes_at rs order)) h
node-named rs order (node.Cat a b) n h =
    let known = regexes_at rs order in
    ap (regex_of_node known) h.4
    ∙ ap (option_and_then (λ r. of_one known (cat r) h.1)) (named rs order a h.0 h.2)
    ∙ ap (option_map (cat (regex_at rs a))) (named rs order b h.1 h.3)
node-named rs order (node.Alt ps) n h =
    ap (regex_of_node (regexes_at rs order)) h.2
    ∙ ap (option_map (λ qs. alt (regexes qs))) (all-named rs order ps.items h.0 h.1)
node-named rs order (node.And ps) n h =
    ap (regex_of_node (regexes_at rs order)) h.2
    ∙ ap (option_map (λ qs. and (regexes qs))) (all-named rs order ps.items h.0 h.1)
node-named rs order (node.Not a) n h =
    ap (regex_of_node (regexes_at rs order)) h.2 ∙ ap (option_map neg) (named rs order a h.0 h.1)
node-named rs order (node.Star a) n h =
    ap (regex_of_node (regexes_at rs order)) h.2 ∙ ap (option_map star) (named rs order a h.0 h.1)
node-named rs order (node.Rep a least most) n h =
    ap (regex_of_node (regexes_at rs order)) h.4
    ∙ ap (option_map (λ r. rep r least most)) (named rs order a h.0 h.1)
node-named rs order (node.Path a b) n h =
    let known = regexes_at rs order in
    ap (regex_of_node known) h.4
    ∙ ap (option_and_then (λ r. of_one known (path r) h.1)) (named rs order a h.0 h.2)
    ∙ ap (option_map (path (regex_at rs a))) (named rs order b h.1 h.3)

-- A regex without a number is not kept.

or-parts : (a b : Bool) → (a || b) ≡ false → (a ≡ false) × (b ≡ false)
or-parts true b h = absurd (true≢false h)
or-parts false b h = (refl, h)

not-kept : (rs : List Regex) (order : List ℕ) (n : ℕ) → OrderTellsApart → AreDistinct rs → n < length rs
    → AllNumbers rs order → list_any (nat_eq n) order ≡ false
    → list_any (regex_eq (regex_at rs n)) (regexes_at rs order) ≡ false
not-kept rs [] n apart once l known h = refl
not-kept rs (m ∷ ms) n apart once l known h =
    step (regex_eq (regex_at rs n) (regex_at rs m)) refl
    (not-kept rs ms n apart once l (λ k d b. known (suc k) d (omega (arith, b))) p.1)
  where
    p : (nat_eq n m ≡ false) × (list_any (nat_eq n) ms ≡ false)
    p = or-parts (nat_eq n m) (list_any (nat_eq n) ms) h

    step : (b : Bool) → regex_eq (regex_at rs n) (regex_at rs m) ≡ b
        → list_any (regex_eq (regex_at rs n)) (regexes_at rs ms) ≡ false
        → (b || list_any (regex_eq (regex_at rs n)) (regexes_at rs ms)) ≡ false
    step true same rest =
        let e : n ≡ m =
        once n m l (known 0 0 (omega arith)) (same_regex apart (regex_at rs n) (regex_at rs m) same)
        in
        absurd (true≢false (sym (same_nat n m e) ∙ p.0))
    step false same rest = rest

normal-at : (rs : List Regex) (n : ℕ) → list_all is_normal rs ≡ true → n < length rs → is_normal (regex_at rs n) ≡ true
normal-at rs n h l = AllPass-from_list_all is_normal rs h n none l

defined-new : (kept : AllKept) (r : Regex) → list_any (regex_eq r) kept.regexes ≡ false → is_normal r ≡ true
    → defined kept r ≡ Ok (with_regex r kept)
defined-new kept r new normal =
    ap (λ b. if b then Err repeated else (if is_normal r then Ok (with_regex r kept) else Err not_normal)) new
    ∙ ap (λ b. if b then Ok (with_regex r kept) else Err not_normal) normal

pub regex_follows : (asked : Asked) (rs : List Regex) (memo : Memo) (t : Traced) (kept : AllKept) (d : Node)
    (n : lines.Node) (r : ℕ) → OrderTellsApart → AreDistinct rs → list_all is_normal rs ≡ true → IsNodeAt rs r d
    → Tracks rs memo t kept → IsNodeIn t.order d n → number_in t.order r ≡ None
    → follows asked kept (regex_line n) ≡ Ok (with_regex (regex_at rs r) kept)
regex_follows asked rs memo t kept d n r apart once normal at tracks is new =
    ap (λ o. elim o as (λ _. Result AllKept Refusal) [ None ↦ Err unknown_id | Some q ↦ defined kept q ]) found
    ∙ defined-new kept (regex_at rs r)
    (ap (list_any (regex_eq (regex_at rs r))) tracks.regexes
    ∙ not-kept rs t.order r apart once at.known tracks.numbers (number-missing t.order r new))
    (normal-at rs r normal at.known)
  where
    found : regex_of_node kept.regexes n ≡ Some (regex_at rs r)
    found = ap (λ known. regex_of_node known n) tracks.regexes ∙ node-named rs t.order d n is ∙ ap Some at.regex

-- Its text.

small : (order : List ℕ) (n i : ℕ) → length order < 2 ^ 64 → number_in order n ≡ Some i → is_small i ≡ true
small order n i l h = lt-ltb i (2 ^ 64) (omega (arith, l, number-below order n i h))

all-small : (order ps is : List ℕ) → length order < 2 ^ 64 → map (number_in order) ps ≡ map Some is
    → are_small is ≡ true
all-small order [] [] l h = refl
all-small order [] (i ∷ is) l h = absurd (cc)
all-small order (p ∷ ps) [] l h = absurd (cc)
all-small order (p ∷ ps) (i ∷ is) l h =
    ap₂ ◌&&◌ (small order p i l (head-same _ _ _ _ h)) (all-small order ps is l (tail-same _ _ _ _ h))

some-small : (order ps is : List ℕ) → length order < 2 ^ 64 → map (number_in order) ps ≡ map Some is
    → (ps ≡ [] → ⊥) → some_small is ≡ true
some-small order [] [] l h there = absurd (there refl)
some-small order [] (i ∷ is) l h there = absurd (cc)
some-small order (p ∷ ps) [] l h there = absurd (cc)
some-small order (p ∷ ps) (i ∷ is) l h there = all-small order (p ∷ ps) (i ∷ is) l h

no-empty-alt : is_normal (alt no_more) ≡ false
unfolding is_normal mkset mkalt alternatives ranges_of is_set union_of join_sets sorted alt_of parts code
no-empty-alt = refl

no-empty-and : is_normal (and no_more) ≡ false
unfolding is_normal mkset mkand conjuncts ranges_of is_set meet_of meet_sets sorted and_of parts code
no-empty-and = refl

no-empty-set : is_normal (set []) ≡ false
unfolding is_normal mkset code rises_from
no-empty-set = refl

small-number : (a b : ℕ) → nat_le a b ≡ true → nat_le b 196607 ≡ true → nat_lt a (2 ^ 64) ≡ true
small-number a b h k = lt-ltb a (2 ^ 64) (omega (arith, leb-true a b h, leb-true b 196607 k))

small-range : (n : ℕ) (r : Range) → fits_from n r ≡ true → is_small_range r ≡ true
small-range n r h =
    let p = and_parts (nat_le n r.0) (nat_le r.0 r.1 && nat_le r.1 196607) h in
    let q = and_parts (nat_le r.0 r.1) (nat_le r.1 196607) p.1 in
    ap₂ ◌&&◌ (small-number r.0 r.1 q.0 q.1) (small-number r.1 r.1 (le-leb r.1 r.1 (omega arith)) q.1)

small-ranges : (n : ℕ) (rs : List Range) → rises_from n rs ≡ true → list_all is_small_range rs ≡ true
unfolding rises_from
small-ranges n [] h = refl
small-ranges n (r ∷ rs) h =
    let p = and_parts (fits_from n r) (rises_from (r.1 + 2) rs) h in
    ap₂ ◌&&◌ (small-range n r p.0) (small-ranges (r.1 + 2) rs p.1)

ranges-text : (rs : List Range) → is_normal (set rs) ≡ true → have_text rs ≡ true
unfolding is_normal
ranges-text [] h = absurd (false≢true (sym no-empty-set ∙ h))
ranges-text (r ∷ rs) h =
    small-ranges 0 (r ∷ rs) (and_parts (rises_from 0 (r ∷ rs)) (regex_eq (mkset (r ∷ rs)) (set (r ∷ rs))) h).0

some-alternatives : (rs : List Regex) (ps : List ℕ) → is_normal (alt (regexes (regexes_at rs ps))) ≡ true → ps ≡ [] → ⊥
unfolding regexes
some-alternatives rs ps h e =
    false≢true (sym no-empty-alt ∙ sym (ap (λ qs. is_normal (alt (regexes (regexes_at rs qs)))) e) ∙ h)

some-conjuncts : (rs : List Regex) (ps : List ℕ) → is_normal (and (regexes (regexes_at rs ps))) ≡ true → ps ≡ [] → ⊥
unfolding regexes
some-conjuncts rs ps h e =
    false≢true (sym no-empty-and ∙ sym (ap (λ qs. is_normal (and (regexes (regexes_at rs qs)))) e) ∙ h)

node-has-text : (rs : List Regex) (order : List ℕ) (d : Node) (n : lines.Node) → length order < 2 ^ 64
    → is_normal (node_regex rs d) ≡ true → IsNodeIn order d n → node_has_text n ≡ true
node-has-text rs order node.None n l normal h = ap node_has_text h
node-has-text rs order node.Eps n l normal h = ap node_has_text h
node-has-text rs order (node.Set ranges) n l normal h = ap node_has_text h ∙ ranges-text ranges.items normal
node-has-text rs order (node.Cat a b) n l normal h =
    ap node_has_text h.4 ∙ ap₂ ◌&&◌ (small order a h.0 l h.2) (small order b h.1 l h.3)
node-has-text rs order (node.Alt ps) n l normal h =
    ap node_has_text h.2 ∙ some-small order ps.items h.0 l h.1 (some-alternatives rs ps.items normal)
node-has-text rs order (node.And ps) n l normal h =
    ap node_has_text h.2 ∙ some-small order ps.items h.0 l h.1 (some-conjuncts rs ps.items normal)
node-has-text rs order (node.Not a) n l normal h = ap node_has_text h.2 ∙ small order a h.0 l h.1
node-has-text rs order (node.Star a) n l normal h = ap node_has_text h.2 ∙ small order a h.0 l h.1
node-has-text rs order (node.Rep a least most) n l normal h =
    ap node_has_text h.4
    ∙ ap₂ ◌&&◌ (small order a h.0 l h.1) (ap₂ ◌&&◌ (lt-ltb least (2 ^ 64) h.2) (lt-ltb most (2 ^ 64) h.3))
node-has-text rs order (node.Path a b) n l normal h =
    ap node_has_text h.4 ∙ ap₂ ◌&&◌ (small order a h.0 l h.2) (small order b h.1 l h.3)

-- What is kept behind it.

push-default : {X : Type 0} (xs : List X) (d : X) (n : ℕ) → get_or (xs ++ d ∷ []) n d ≡ get_or xs n d
push-default [] d zero = refl
push-default [] d (suc n) = refl
push-default (x ∷ xs) d zero = refl
push-default (x ∷ xs) d (suc n) = push-default xs d n

default-pushed : {X : Type 0} (xs : List X) (d : X) (n : ℕ)
    → unwrap_or (slice_get (xs ++ d ∷ []) n) d ≡ unwrap_or (slice_get xs n) d
default-pushed xs d n =
    unwrap_or-slice_get (xs ++ d ∷ []) n d ∙ push-default xs d n ∙ sym (unwrap_or-slice_get xs n d)

targets-within : (xs : List (Option (List ℕ))) (n : ℕ) (targets : List ℕ) → targets_in xs n ≡ Some targets
    → n < length xs
targets-within xs n targets h = step (slice_get xs n) refl h
  where
    step : (o : Option (Option (List ℕ))) → slice_get xs n ≡ o → unwrap_or o None ≡ Some targets → n < length xs
    step None is h = absurd (cc)
    step (Some one) is h = slice_get_within xs n one is

map-stays : (order behind ps targets : List ℕ) → map (number_in order) ps ≡ map Some targets
    → map (number_in (order ++ behind)) ps ≡ map Some targets
map-stays order behind [] targets h = h
map-stays order behind (p ∷ ps) [] h = absurd (cc)
map-stays order behind (p ∷ ps) (n ∷ ns) h =
    ap₂ ◌∷◌ (number-stays order behind p n (head-same _ _ _ _ h)) (map-stays order behind ps ns (tail-same _ _ _ _ h))

expanded-stays : (memo : Memo) (order behind : List ℕ) (n : ℕ) (targets : List ℕ) → n < length order
    → IsExpandedTo memo order n targets → IsExpandedTo memo (order ++ behind) n targets
expanded-stays memo order behind n targets l e = record {
  pieces = e.pieces;
  derivative = ap (entry_of memo) (get_or_append_left order behind 0 n l) ∙ e.derivative;
  are = map-stays order behind (targets_of e.pieces) targets e.are;
}

pub tracks_regex : (rs : List Regex) (memo : Memo) (t now : Traced) (kept : AllKept) (r : ℕ) → r < length rs
    → now.order ≡ t.order ++ r ∷ [] → ((n : ℕ) → is_marked now.expanded n ≡ is_marked t.expanded n)
    → ((n : ℕ) → is_marked now.dead n ≡ is_marked t.dead n) → Tracks rs memo t kept
    → Tracks rs memo now (with_regex (regex_at rs r) kept)
tracks_regex rs memo t now kept r l e expanded dead tracks = record {
  numbers = subst (AllNumbers rs) (sym e) (All-append below t.order (r ∷ []) tracks.numbers
      (All-cons below r [] l (All-nil below)));
  regexes = ap (λ xs. xs ++ regex_at rs r ∷ []) tracks.regexes ∙ sym (map-append (regex_at rs) t.order (r ∷ []))
      ∙ ap (regexes_at rs) (sym e);
  expansions_long = let x = length-append kept.expansions (None ∷ []) in let y = tracks.expansions_long in
      omega (arith, x, y, long);
  dead_long = let x = length-append kept.dead (false ∷ []) in let y = tracks.dead_long in omega (arith, x, y, long);
  expanded = λ n. ap is_some (default-pushed kept.expansions None n) ∙ tracks.expanded n ∙ sym (expanded n);
  dead = λ n. default-pushed kept.dead false n ∙ tracks.dead n ∙ sym (dead n);
  targets = λ n targets h. targets_now n targets (sym (default-pushed kept.expansions None n) ∙ h);
}
  where
    below : ℕ → Type 0
    below i = i < length rs

    long : length now.order ≡ length t.order + 1
    long = ap length e ∙ length-append t.order (r ∷ [])

    targets_now : (n : ℕ) (targets : List ℕ) → targets_in kept.expansions n ≡ Some targets
        → IsExpandedTo memo now.order n targets
    targets_now n targets h =
        let within = targets-within kept.expansions n targets h in
        let long = tracks.expansions_long in
        subst (λ o. IsExpandedTo memo o n targets) (sym e) (expanded-stays memo t.order (r ∷ []) n targets
        (omega (arith, within, long)) (tracks.targets n targets h))

keeps_clauses : (kept : AllKept) (r : Regex) → KeepsClauses kept (with_regex r kept)
keeps_clauses kept r = record { format = refl; atoms = refl; clauses = refl; rests = refl }

-- the line of a regex is put
pub regex_put : (asked : Asked) (rs : List Regex) (memo : Memo) (t now : Traced) (kept : AllKept) (d : Node)
    (n : lines.Node) (r : ℕ) (old new : Option (List ℕ)) → OrderTellsApart → AreDistinct rs
    → list_all is_normal rs ≡ true → IsNodeAt rs r d → length t.order < 2 ^ 64 → IsNodeIn t.order d n
    → number_in t.order r ≡ None → now.order ≡ t.order ++ r ∷ []
    → ((n : ℕ) → is_marked now.expanded n ≡ is_marked t.expanded n)
    → ((n : ℕ) → is_marked now.dead n ≡ is_marked t.dead n)
    → new ≡ with_bytes (line (text_of (regex_line n))) old → Tracks rs memo t kept
    → TracesRegexes asked kept rs memo now old new
regex_put asked rs memo t now kept d n r old new apart once normal at l is lacks order expanded dead told tracks =
    regexes_one asked kept (with_regex (regex_at rs r) kept) rs memo now n old new
    (regex_follows asked rs memo t kept d n r apart once normal at tracks is lacks)
    (node-has-text rs t.order d n l (ap is_normal at.regex ∙ normal-at rs r normal at.known) is) told
    (tracks_regex rs memo t now kept r at.known order expanded dead tracks) (keeps_clauses kept (regex_at rs r)) refl
