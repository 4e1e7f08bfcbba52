-- Levels over the names and the assertions of a state: what is in all of them, one more, and some more or less of them.
use Rattle.std.proofs.Common.{◌≡◌, ℕ, zero, suc, ◌≤◌, Bool, true, false, ◌&&◌, nat_le, nat_eq, List, [], ◌∷◌, ◌++◌, take, drop, length, replicate, refl, sym, ap, ap₂, ◌∙◌, arith}
use Rattle.std.specs.List.{list_all}
use Rattle.std.proofs.Math.Seq.{take-length, drop-length}
use Rattle.std.proofs.lemmas.Bool.{and_parts, and_from, leb-true, le-leb, eq-eqb}
use Rattle.std.proofs.lemmas.List.{append-nil, take-append-drop, take-append-le, drop-append-le, length-take-le}
use Rattle.std.proofs.lemmas.List.Folds.{list_all-append}
use Rattle.sb_script.specs.Scopes.{Naming}
use Rattle.sb_script.specs.State as meaning
use Rattle.sb_script.specs.State.{empty_level, over_levels, in_level, in_level_of_names}
use Rattle.sb_term.specs.declared.assertion.Assertion.{Assertion}
use Rattle.sb_stack.specs.declared.level.Level.{Level}
use Rattle.sb_stack.specs.Stacked.{front_names, own_names, first_level, levels_above, have_levels}
use Rattle.sb_stack.specs.Keeping.{are_nested}

-- Where names are cut.

front_own : {A : Type 0} (global : Bool) (n : ℕ) (ns : List A) → front_names global n ns ++ own_names global n ns ≡ ns
front_own true n ns = append-nil ns
front_own false n ns = take-append-drop n ns

-- a level that begins behind all names has none of them
pub front_all : {A : Type 0} (global : Bool) (n : ℕ) (ns : List A) → n ≡ length ns → front_names global n ns ≡ ns
front_all true n ns all = refl
front_all false n ns all = ap (λ k. take k ns) all ∙ take-length ns

own_none : {A : Type 0} (global : Bool) (n : ℕ) (ns : List A) → n ≡ length ns → own_names global n ns ≡ []
own_none true n ns all = refl
own_none false n ns all = ap (λ k. drop k ns) all ∙ drop-length ns

-- All levels together.

pub names_of_levels : (global : Bool) (ls : List Level) (ns : List Naming) (bs : List meaning.Assertion)
    → over_levels (λ l. l.names) (first_level global ls ns bs) (levels_above global ls ns bs) ≡ ns
names_of_levels global [] ns bs = refl
names_of_levels global (l ∷ ls) ns bs =
    ap (λ xs. xs ++ own_names global l.names ns)
    (names_of_levels global ls (front_names global l.names ns) (take l.assertions bs))
    ∙ front_own global l.names ns

pub live_of_levels : (global : Bool) (ls : List Level) (ns : List Naming) (bs : List meaning.Assertion)
    → over_levels (λ l. l.assertions) (first_level global ls ns bs) (levels_above global ls ns bs) ≡ bs
live_of_levels global [] ns bs = refl
live_of_levels global (l ∷ ls) ns bs =
    ap (λ xs. xs ++ drop l.assertions bs)
    (live_of_levels global ls (front_names global l.names ns) (take l.assertions bs))
    ∙ take-append-drop l.assertions bs

-- global names are all on the first level
pub first_names : (ls : List Level) (ns : List Naming) (bs : List meaning.Assertion)
    → (first_level true ls ns bs).names ≡ ns
first_names [] ns bs = refl
first_names (l ∷ ls) ns bs = first_names ls ns (take l.assertions bs)

-- where there are no names they may be global or not
pub none_in_front : {A : Type 0} (global : Bool) (n : ℕ) → front_names {A = A} global n [] ≡ []
none_in_front true n = refl
none_in_front false zero = refl
none_in_front false (suc n) = refl

none_of_its_own : {A : Type 0} (global : Bool) (n : ℕ) → own_names {A = A} global n [] ≡ []
none_of_its_own true n = refl
none_of_its_own false zero = refl
none_of_its_own false (suc n) = refl

-- all levels, and one more above the others that has no names
abbrev pub levels_of : Bool → List Level → List Naming → List meaning.Assertion → meaning.Level × List meaning.Level
levels_of global ls ns bs = (first_level global ls ns bs, levels_above global ls ns bs)

abbrev without_names : List meaning.Assertion → meaning.Level × List meaning.Level → meaning.Level × List meaning.Level
without_names bs levels = (levels.0, record { names = []; assertions = bs } ∷ levels.1)

cut_nothing : (global : Bool) (l : Level) (ls : List Level) (bs : List meaning.Assertion)
    → levels_of global (l ∷ ls) [] bs
    ≡ without_names (drop l.assertions bs) (levels_of global ls [] (take l.assertions bs))
cut_nothing global l ls bs =
    let front = none_in_front global l.names in
    let own = none_of_its_own global l.names in
    (λ j. (
      first_level global ls (front j) (take l.assertions bs),
      record { names = own j; assertions = drop l.assertions bs }
          ∷ levels_above global ls (front j) (take l.assertions bs),
    ))

pub levels_nothing : (old new : Bool) (ls : List Level) (bs : List meaning.Assertion)
    → levels_of old ls [] bs ≡ levels_of new ls [] bs
levels_nothing old new [] bs = refl
levels_nothing old new (l ∷ ls) bs =
    cut_nothing old l ls bs
    ∙ ap (without_names (drop l.assertions bs)) (levels_nothing old new ls (take l.assertions bs))
    ∙ sym (cut_nothing new l ls bs)

-- Where levels began.

pub nested_head : (l : Level) (ls : List Level) (n m : ℕ) → are_nested (l ∷ ls) n m ≡ true
    → (l.names ≤ n) × (l.assertions ≤ m)
nested_head l ls n m h =
    let parts = and_parts (nat_le l.names n) (nat_le l.assertions m) (and_parts _ (are_nested ls l.names l.assertions) h).0 in
    (leb-true l.names n parts.0, leb-true l.assertions m parts.1)

pub nested_rest : (l : Level) (ls : List Level) (n m : ℕ) → are_nested (l ∷ ls) n m ≡ true
    → are_nested ls l.names l.assertions ≡ true
nested_rest l ls n m h =
    (and_parts (nat_le l.names n && nat_le l.assertions m) (are_nested ls l.names l.assertions) h).1

pub nested_more : (ls : List Level) (n m p q : ℕ) → n ≤ p → m ≤ q → are_nested ls n m ≡ true
    → are_nested ls p q ≡ true
nested_more [] n m p q np mq h = refl
nested_more (l ∷ ls) n m p q np mq h =
    let head = nested_head l ls n m h in
    and_from (nat_le l.names p && nat_le l.assertions q) (are_nested ls l.names l.assertions)
    (and_from (nat_le l.names p) (nat_le l.assertions q) (le-leb l.names p (omega (arith, np, head.0)))
    (le-leb l.assertions q (omega (arith, mq, head.1)))) (nested_rest l ls n m h)

-- where a level is left, so many names and assertions are left
pub nested_left : {A B : Type 0} (global : Bool) (l : Level) (ls : List Level) (ns : List A) (bs : List B)
    → are_nested (l ∷ ls) (length ns) (length bs) ≡ true
    → are_nested ls (length (front_names global l.names ns)) (length (take l.assertions bs)) ≡ true
nested_left true l ls ns bs h =
    let head = nested_head l ls (length ns) (length bs) h in
    ap (are_nested ls (length ns)) (length-take-le l.assertions bs head.1)
    ∙ nested_more ls l.names l.assertions (length ns) l.assertions head.0 (omega arith)
    (nested_rest l ls (length ns) (length bs) h)
nested_left false l ls ns bs h =
    let head = nested_head l ls (length ns) (length bs) h in
    ap₂ (are_nested ls) (length-take-le l.names ns head.0) (length-take-le l.assertions bs head.1)
    ∙ nested_rest l ls (length ns) (length bs) h

-- One more name, on the first level or the innermost one, and one more assertion, on the innermost one.

global_name : (ls : List Level) (ns : List Naming) (bs : List meaning.Assertion) (n : Naming)
    → levels_of true ls (ns ++ n ∷ []) bs
    ≡ in_level_of_names true (λ l. record l { names = l.names ++ n ∷ [] }) (first_level true ls ns bs)
    (levels_above true ls ns bs)
global_name [] ns bs n = refl
global_name (l ∷ ls) ns bs n =
    ap (without_names (drop l.assertions bs)) (global_name ls ns (take l.assertions bs) n)

pub one_name : (global : Bool) (ls : List Level) (ns : List Naming) (bs : List meaning.Assertion) (n : Naming)
    → are_nested ls (length ns) (length bs) ≡ true
    → (first_level global ls (ns ++ n ∷ []) bs, levels_above global ls (ns ++ n ∷ []) bs)
    ≡ in_level_of_names global (λ l. record l { names = l.names ++ n ∷ [] }) (first_level global ls ns bs)
    (levels_above global ls ns bs)
one_name true ls ns bs n h = global_name ls ns bs n
one_name false [] ns bs n h = refl
one_name false (l ∷ ls) ns bs n h =
    let head = nested_head l ls (length ns) (length bs) h in
    let front : take l.names (ns ++ n ∷ []) ≡ take l.names ns = take-append-le l.names ns (n ∷ []) head.0 in
    let back : drop l.names (ns ++ n ∷ []) ≡ drop l.names ns ++ n ∷ [] = drop-append-le l.names ns (n ∷ []) head.0 in
    (λ j. (
      first_level false ls (front j) (take l.assertions bs),
      record { names = back j; assertions = drop l.assertions bs }
          ∷ levels_above false ls (front j) (take l.assertions bs),
    ))

pub one_assertion : (global : Bool) (ls : List Level) (ns : List Naming) (bs : List meaning.Assertion)
    (a : meaning.Assertion) → are_nested ls (length ns) (length bs) ≡ true
    → (first_level global ls ns (bs ++ a ∷ []), levels_above global ls ns (bs ++ a ∷ []))
    ≡ in_level (λ l. record l { assertions = l.assertions ++ a ∷ [] }) (first_level global ls ns bs)
    (levels_above global ls ns bs)
one_assertion global [] ns bs a h = refl
one_assertion global (l ∷ ls) ns bs a h =
    let names : List Naming = front_names global l.names ns in
    let head = nested_head l ls (length ns) (length bs) h in
    let front : take l.assertions (bs ++ a ∷ []) ≡ take l.assertions bs =
    take-append-le l.assertions bs (a ∷ []) head.1 in
    let back : drop l.assertions (bs ++ a ∷ []) ≡ drop l.assertions bs ++ a ∷ [] =
    drop-append-le l.assertions bs (a ∷ []) head.1 in
    (λ j. (
      first_level global ls names (front j),
      record { names = own_names global l.names ns; assertions = back j } ∷ levels_above global ls names (front j),
    ))

-- the assertion has the number of the innermost level
pub levelled_push : (ls : List Level) (n : ℕ) (bs : List Assertion) (a : Assertion)
    → are_nested ls n (length bs) ≡ true → a.level ≡ length ls → have_levels ls bs ≡ true
    → have_levels ls (bs ++ a ∷ []) ≡ true
levelled_push [] n bs a nested is h =
    list_all-append (λ x. nat_eq x.level 0) bs (a ∷ [])
    ∙ and_from _ _ h (and_from (nat_eq a.level 0) true (eq-eqb a.level 0 is) refl)
levelled_push (l ∷ ls) n bs a nested is h =
    let head = nested_head l ls n (length bs) nested in
    let test : Assertion → Bool = λ x. nat_eq x.level (suc (length ls)) in
    let parts = and_parts (list_all test (drop l.assertions bs)) (have_levels ls (take l.assertions bs)) h in
    and_from _ _
    (ap (list_all test) (drop-append-le l.assertions bs (a ∷ []) head.1)
    ∙ list_all-append test (drop l.assertions bs) (a ∷ [])
    ∙ and_from _ _ parts.0 (and_from (test a) true (eq-eqb a.level (suc (length ls)) is) refl))
    (ap (have_levels ls) (take-append-le l.assertions bs (a ∷ []) head.1) ∙ parts.1)

-- Some more levels, without names and assertions.

pub first_pushed : (global : Bool) (n : ℕ) (l : Level) (ls : List Level) (ns : List Naming)
    (bs : List meaning.Assertion) → l.names ≡ length ns → l.assertions ≡ length bs
    → first_level global (replicate n l ++ ls) ns bs ≡ first_level global ls ns bs
first_pushed global zero l ls ns bs all here = refl
first_pushed global (suc n) l ls ns bs all here =
    ap₂ (first_level global (replicate n l ++ ls)) (front_all global l.names ns all)
    (ap (λ k. take k bs) here ∙ take-length bs) ∙ first_pushed global n l ls ns bs all here

pub above_pushed : (global : Bool) (n : ℕ) (l : Level) (ls : List Level) (ns : List Naming)
    (bs : List meaning.Assertion) → l.names ≡ length ns → l.assertions ≡ length bs
    → levels_above global (replicate n l ++ ls) ns bs ≡ replicate n empty_level ++ levels_above global ls ns bs
above_pushed global zero l ls ns bs all here = refl
above_pushed global (suc n) l ls ns bs all here =
    let names : front_names global l.names ns ≡ ns = front_all global l.names ns all in
    let no_names : own_names global l.names ns ≡ [] = own_none global l.names ns all in
    let assertions : take l.assertions bs ≡ bs = ap (λ k. take k bs) here ∙ take-length bs in
    let no_assertions : drop l.assertions bs ≡ [] = ap (λ k. drop k bs) here ∙ drop-length bs in
    (λ j. record { names = no_names j; assertions = no_assertions j }
    ∷ levels_above global (replicate n l ++ ls) (names j) (assertions j))
    ∙ ap (λ ls. empty_level ∷ ls) (above_pushed global n l ls ns bs all here)

pub nested_pushed : (n : ℕ) (l : Level) (ls : List Level) → are_nested ls l.names l.assertions ≡ true
    → are_nested (replicate n l ++ ls) l.names l.assertions ≡ true
nested_pushed zero l ls h = h
nested_pushed (suc n) l ls h =
    and_from (nat_le l.names l.names && nat_le l.assertions l.assertions)
    (are_nested (replicate n l ++ ls) l.names l.assertions)
    (and_from (nat_le l.names l.names) (nat_le l.assertions l.assertions)
    (le-leb l.names l.names (omega arith)) (le-leb l.assertions l.assertions (omega arith)))
    (nested_pushed n l ls h)

pub levelled_pushed : (n : ℕ) (l : Level) (ls : List Level) (bs : List Assertion) → l.assertions ≡ length bs
    → have_levels ls bs ≡ true → have_levels (replicate n l ++ ls) bs ≡ true
levelled_pushed zero l ls bs here h = h
levelled_pushed (suc n) l ls bs here h =
    let assertions : take l.assertions bs ≡ bs = ap (λ k. take k bs) here ∙ take-length bs in
    let no_assertions : drop l.assertions bs ≡ [] = ap (λ k. drop k bs) here ∙ drop-length bs in
    and_from _ _ (ap (list_all (λ a. nat_eq a.level (suc (length (replicate n l ++ ls))))) no_assertions)
    (ap (have_levels (replicate n l ++ ls)) assertions ∙ levelled_pushed n l ls bs here h)
