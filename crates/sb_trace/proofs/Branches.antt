-- The classes of a derivative's pieces are an expansion.
use Rattle.std.proofs.Common.{◌≡◌, ℕ, zero, suc, ◌+◌, ◌-◌, ◌<◌, ◌≤◌, Bool, true, false, cond, ◌&&◌, ◌||◌, List, [], ◌∷◌, filter, map, slice_get, Option, Some, None, is_some, option_map, refl, sym, ap, subst, ◌∙◌, arith}
use Rattle.std.specs.Prelude.{nat_le}
use Rattle.std.proofs.lemmas.Bool.{and_parts, and_from, le-leb, leb-true, lt-leb, leb-false, false≢true}
use Rattle.std.proofs.lemmas.Option.{slice_get-map}
use Rattle.sb_class.specs.Ranges.{in_range, in_ranges, rises_from}
use Rattle.sb_lang.specs.Regex.{Regex}
use Rattle.sb_lang.specs.Order.{regex_eq}
use Rattle.sb_lang.specs.OrderLaws.{OrderTellsApart}
use Rattle.sb_lang.specs.Derivative.{nd}
use Rattle.sb_regex.specs.Numbered.{regex_at, regexes_at}
use Rattle.sb_deriv.specs.Faithful.{IsKnown}
use Rattle.sb_deriv.specs.Pieces.{value_from, rises, end_of_characters, targets_of, IsIntervalMap}
use Rattle.sb_trace.specs.Defining.{first_of}
use Rattle.sb_deriv.proofs.CallerLemmas.{above_stays, rises_head, rises_rest, rises_le, covers_first, covers_rises}
use Rattle.sb_rulebook.specs.Lines.{Class}
use Rattle.sb_rulebook.specs.Parts.{together}
use Rattle.sb_rulebook.specs.RegexRules.{branch_of}
use Rattle.sb_rulebook.specs.Expansions.{Branch, leads_right, are_classes, IsExpansion}
use Rattle.sb_rulebook.proofs.CallerLemmas.{regex_itself}
use Rattle.sb_trace.specs.Tracking.{number_in}
use Rattle.sb_trace.specs.Defining.{classes_of}
use Rattle.sb_trace.proofs.Positions.{number-there}

-- of each piece its characters, with the regex of its target
abbrev pub branches_of : List Regex → List (ℕ × ℕ) → List Branch
branches_of rs [] = []
branches_of rs (p ∷ ps) = (((p.0, first_of end_of_characters ps - 1) ∷ []), regex_at rs p.1) ∷ branches_of rs ps

-- Classes by number are these branches.

pub together-cons : {A : Type 0} (o : Option A) (os : List (Option A)) (x : A) (xs : List A) → o ≡ Some x
    → together os ≡ Some xs → together (o ∷ os) ≡ Some (x ∷ xs)
together-cons None os x xs first rest = absurd (false≢true (ap is_some first))
together-cons (Some y) os x xs first rest =
    ap (option_map (λ others. y ∷ others)) rest ∙ ap Some (let e : y ≡ x = Prim.cc (first) in ap (λ z. z ∷ xs) e)

regex_by_number : (rs : List Regex) (order : List ℕ) (n k : ℕ) → number_in order n ≡ Some k
    → slice_get (regexes_at rs order) k ≡ Some (regex_at rs n)
regex_by_number rs order n k h =
    slice_get-map (regex_at rs) order k ∙ ap (option_map (regex_at rs)) (number-there order n k h)

pub classes_branches : (rs : List Regex) (order : List ℕ) (pieces : List (ℕ × ℕ)) (targets : List ℕ)
    → map (number_in order) (targets_of pieces) ≡ map Some targets
    → together (map (branch_of (regexes_at rs order)) (classes_of pieces targets)) ≡ Some (branches_of rs pieces)
classes_branches rs order [] targets h = refl
classes_branches rs order (p ∷ ps) [] h = absurd (Prim.cc (h))
classes_branches rs order (p ∷ ps) (n ∷ ns) h =
    let first : number_in order p.1 ≡ Some n = Prim.cc (h) in
    let rest : map (number_in order) (targets_of ps) ≡ map Some ns = Prim.cc (h) in
    let range = (p.0, first_of end_of_characters ps - 1) ∷ [] in
    together-cons (branch_of (regexes_at rs order) (range, n))
    (map (branch_of (regexes_at rs order)) (classes_of ps ns))
    (range, regex_at rs p.1) (branches_of rs ps)
    (ap (option_map (λ r. (range, r))) (regex_by_number rs order p.1 n first)) (classes_branches rs order ps ns rest)

pub classes_targets : (order : List ℕ) (pieces : List (ℕ × ℕ)) (targets : List ℕ)
    → map (number_in order) (targets_of pieces) ≡ map Some targets
    → map (λ (k : Class). k.1) (classes_of pieces targets) ≡ targets
classes_targets order [] [] h = refl
classes_targets order [] (n ∷ ns) h = absurd (Prim.cc (h))
classes_targets order (p ∷ ps) [] h = absurd (Prim.cc (h))
classes_targets order (p ∷ ps) (n ∷ ns) h =
    let rest : map (number_in order) (targets_of ps) ≡ map Some ns = Prim.cc (h) in
    ap (λ ms. n ∷ ms) (classes_targets order ps ns rest)

-- Where a piece ends.

pub first_within : (n : ℕ) (ps : List (ℕ × ℕ)) (e : ℕ) → rises n ps e ≡ true → first_of e ps ≤ e
first_within n [] e h = omega arith
first_within n (p ∷ ps) e h =
    let a : suc p.0 ≤ e = rises_le (suc p.0) ps e (rises_rest n p ps e h) in omega arith

-- each piece begins at least as far on as its place
pub begins_above : (n : ℕ) (ps : List (ℕ × ℕ)) (e k : ℕ) (q : ℕ × ℕ) → rises n ps e ≡ true
    → slice_get ps k ≡ Some q → n + k ≤ q.0
begins_above n [] e k q h there = absurd (false≢true (ap is_some there))
begins_above n (p ∷ ps) e zero q h there =
    let same : p ≡ q = Prim.cc (there) in
    let start : n ≤ p.0 = rises_head n (p ∷ ps) e h in
    let ends : n ≤ q.0 = subst (λ (r : ℕ × ℕ). n ≤ r.0) same start in
    omega (arith, ends)
begins_above n (p ∷ ps) e (suc k) q h there =
    let start : n ≤ p.0 = rises_head n (p ∷ ps) e h in
    let rest = begins_above (suc p.0) ps e k q (rises_rest n p ps e h) there in
    omega (arith, start, rest)

pub begins_behind : (pieces : List (ℕ × ℕ)) (k : ℕ) (q : ℕ × ℕ) → IsIntervalMap pieces → slice_get pieces k ≡ Some q
    → k ≤ q.0
begins_behind pieces k q map there =
    let l = begins_above 0 pieces end_of_characters k q (covers_rises pieces end_of_characters map.whole) there in
    omega (arith, l)

-- One range.

outside : (a b c : ℕ) → c < a → in_ranges ((a, b) ∷ []) c ≡ false
unfolding in_ranges in_range
outside a b c h = ap (λ t. (t && nat_le c b) || false) (lt-leb a c h)

past : (a b c : ℕ) → b < c → in_ranges ((a, b) ∷ []) c ≡ false
unfolding in_ranges in_range
past a b c h = both (nat_le a c) (nat_le c b) (lt-leb c b h)
  where
    both : (s t : Bool) → t ≡ false → ((s && t) || false) ≡ false
    both true true h = h
    both true false h = refl
    both false t h = refl

inside : (a b c : ℕ) → a ≤ c → c ≤ b → in_ranges ((a, b) ∷ []) c ≡ true
unfolding in_ranges in_range
inside a b c g h = ap (λ t. (t && nat_le c b) || false) (le-leb a c g) ∙ ap (λ t. t || false) (le-leb c b h)

canonical : (a b : ℕ) → a ≤ b → b ≤ 0x2ffff → rises_from 0 ((a, b) ∷ []) ≡ true
unfolding rises_from
canonical a b g h =
    and_from _ _ (and_from _ _ (le-leb 0 a (omega arith)) (and_from _ _ (le-leb a b g) (le-leb b 0x2ffff h))) refl

pub classes_canonical : (rs : List Regex) (n : ℕ) (ps : List (ℕ × ℕ)) → rises n ps end_of_characters ≡ true
    → are_classes (branches_of rs ps) ≡ true
classes_canonical rs n [] h = refl
classes_canonical rs n (p ∷ ps) h =
    let rest = rises_rest n p ps end_of_characters h in
    let above = rises_head (suc p.0) ps end_of_characters rest in
    let below = first_within (suc p.0) ps end_of_characters rest in
    and_from _ _ (canonical p.0 (first_of end_of_characters ps - 1) (omega (arith, above)) (omega (arith, below)))
    (classes_canonical rs (suc p.0) ps rest)

-- Each character is in one class, whose target is the value there.

abbrev pub is_in : ℕ → Branch → Bool
is_in c b = in_ranges b.0 c

pub none_before : (rs : List Regex) (n : ℕ) (ps : List (ℕ × ℕ)) (c : ℕ) → rises n ps end_of_characters ≡ true → c < n
    → filter (is_in c) (branches_of rs ps) ≡ []
none_before rs n [] c h l = refl
none_before rs n (p ∷ ps) c h l =
    let start = rises_head n (p ∷ ps) end_of_characters h in
    let rest = rises_rest n p ps end_of_characters h in
    let b : Branch = ((p.0, first_of end_of_characters ps - 1) ∷ [], regex_at rs p.1) in
    ap (λ t. cond t (b ∷ filter (is_in c) (branches_of rs ps)) (filter (is_in c) (branches_of rs ps)))
    (outside p.0 (first_of end_of_characters ps - 1) c (omega (arith, start)))
    ∙ none_before rs (suc p.0) ps c rest (omega (arith, start))

pub record IsOne (bs : List Branch) (c : ℕ) (r : Regex) : Type 0 where
  pub branch : Branch
  pub only : filter (is_in c) bs ≡ branch ∷ []
  pub leads : branch.1 ≡ r

here : (rs : List Regex) (d : ℕ) (p : ℕ × ℕ) (ps : List (ℕ × ℕ)) (c : ℕ)
    → rises (suc p.0) ps end_of_characters ≡ true → p.0 ≤ c → c < first_of end_of_characters ps
    → filter (is_in c) (branches_of rs ps) ≡ [] → value_from p.1 ps c ≡ p.1
    → IsOne (branches_of rs (p ∷ ps)) c (regex_at rs (value_from d (p ∷ ps) c))
unfolding value_from
here rs d p ps c rest from to none value =
    let b : Branch = ((p.0, first_of end_of_characters ps - 1) ∷ [], regex_at rs p.1) in
    record {
      branch = b;
      only =
          ap (λ t. cond t (b ∷ filter (is_in c) (branches_of rs ps)) (filter (is_in c) (branches_of rs ps)))
          (inside p.0 (first_of end_of_characters ps - 1) c from (omega arith))
          ∙ ap (λ bs. b ∷ bs) none;
      leads = ap (regex_at rs)
          (sym (ap (λ t. value_from (cond t p.1 d) ps c) (le-leb p.0 c from) ∙ value));
    }

later : (rs : List Regex) (d : ℕ) (p q : ℕ × ℕ) (ps : List (ℕ × ℕ)) (c : ℕ) → suc p.0 ≤ q.0 → p.0 ≤ c → q.0 ≤ c
    → IsOne (branches_of rs (q ∷ ps)) c (regex_at rs (value_from p.1 (q ∷ ps) c))
    → IsOne (branches_of rs (p ∷ q ∷ ps)) c (regex_at rs (value_from d (p ∷ q ∷ ps) c))
unfolding value_from
later rs d p q ps c above from more one =
    let b : Branch = ((p.0, q.0 - 1) ∷ [], regex_at rs p.1) in
    let others = filter (is_in c) (branches_of rs (q ∷ ps)) in
    record {
      branch = one.branch;
      only = ap (λ t. cond t (b ∷ others) others) (past p.0 (q.0 - 1) c (omega arith)) ∙ one.only;
      leads = one.leads ∙ ap (regex_at rs) (sym (ap (λ t. value_from (cond t p.1 d) (q ∷ ps) c) (le-leb p.0 c from)));
    }

rises_here : (n : ℕ) (q : ℕ × ℕ) (ps : List (ℕ × ℕ)) → rises n (q ∷ ps) end_of_characters ≡ true
    → rises q.0 (q ∷ ps) end_of_characters ≡ true
unfolding rises
rises_here n q ps h = and_from _ _ (le-leb q.0 q.0 (omega arith)) (and_parts _ _ h).1

value_of_none : (d c : ℕ) → value_from d [] c ≡ d
unfolding value_from
value_of_none d c = refl

pub one_branch : (rs : List Regex) (d n : ℕ) (p : ℕ × ℕ) (ps : List (ℕ × ℕ)) (c : ℕ)
    → rises n (p ∷ ps) end_of_characters ≡ true → p.0 ≤ c → c < end_of_characters
    → IsOne (branches_of rs (p ∷ ps)) c (regex_at rs (value_from d (p ∷ ps) c))
one_branch rs d n p [] c h from to =
    here rs d p [] c (rises_rest n p [] end_of_characters h) from to refl (value_of_none p.1 c)
one_branch rs d n p (q ∷ ps) c h from to =
    step (nat_le q.0 c) refl (one_branch rs p.1 (suc p.0) q ps c rest)
  where
    rest : rises (suc p.0) (q ∷ ps) end_of_characters ≡ true
    rest = rises_rest n p (q ∷ ps) end_of_characters h

    step : (b : Bool) → nat_le q.0 c ≡ b
        → (q.0 ≤ c → c < end_of_characters
        → IsOne (branches_of rs (q ∷ ps)) c (regex_at rs (value_from p.1 (q ∷ ps) c)))
        → IsOne (branches_of rs (p ∷ q ∷ ps)) c (regex_at rs (value_from d (p ∷ q ∷ ps) c))
    step true t more =
        let l = leb-true q.0 c t in
        later rs d p q ps c (rises_head (suc p.0) (q ∷ ps) end_of_characters rest) from l (more l to)
    step false t more =
        let l = leb-false q.0 c t in
        let again = rises_here (suc p.0) q ps rest in
        here rs d p (q ∷ ps) c rest from l (none_before rs q.0 (q ∷ ps) c again l)
        (above_stays p.1 q.0 (q ∷ ps) end_of_characters c again l)

one_of_whole : (rs : List Regex) (pieces : List (ℕ × ℕ)) (c : ℕ) → first_of end_of_characters pieces ≡ 0
    → rises 0 pieces end_of_characters ≡ true → c < end_of_characters
    → IsOne (branches_of rs pieces) c (regex_at rs (value_from 0 pieces c))
one_of_whole rs [] c first rising l = absurd (omega (arith, first))
one_of_whole rs (p ∷ ps) c first rising l = one_branch rs 0 0 p ps c rising (omega (arith, first)) l

leads : OrderTellsApart → (r : Regex) (c : ℕ) (bs : List Branch) (s : Regex) → IsOne bs c s → s ≡ nd r c
    → leads_right r c (filter (is_in c) bs) ≡ true
leads apart r c bs s one same =
    ap (leads_right r c) one.only
    ∙ ap (regex_eq (nd r c)) (one.leads ∙ same)
    ∙ regex_itself apart (nd r c)

pub pieces_expand : OrderTellsApart → (rs : List Regex) (n : ℕ) (pieces : List (ℕ × ℕ)) → IsKnown rs n pieces
    → IsExpansion (regex_at rs n) (branches_of rs pieces)
pieces_expand apart rs n pieces known =
    let whole = known.derivative.ordered.whole in
    let rising = covers_rises pieces end_of_characters whole in
    record {
      classes = classes_canonical rs 0 pieces rising;
      right = λ c is.
          leads apart (regex_at rs n) c (branches_of rs pieces) (regex_at rs (value_from 0 pieces c))
          (one_of_whole rs pieces c (covers_first pieces end_of_characters whole) rising
          (let l : c ≤ 0x2ffff = leb-true c 0x2ffff is in omega (arith, l)))
          (known.derivative.values c is);
    }
