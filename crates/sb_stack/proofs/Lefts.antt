-- Levels that are opened and left: what the code does, as the definitions have it.
use Rattle.std.proofs.Common.{◌≡◌, ℕ, zero, suc, ◌+◌, ◌<◌, ◌≤◌, Bool, true, false, if◌then◌else◌, nat_le, List, [], ◌∷◌, ◌++◌, map, take, drop, replicate, reverse, length, codes, Option, Some, None, IfSome, refl, ap, ap₂, sym, subst, ◌∙◌, arith, add-one}
use Rattle.std.proofs.lemmas.Bool.{le-leb}
use Rattle.std.proofs.lemmas.Bool.Decides.{nat_tests}
use Rattle.std.proofs.lemmas.Grind.{replicate_next}
use Rattle.std.proofs.lemmas.List.{append-nil, take-append-drop, reverse-append}
use Rattle.std.specs.declared.vec.Vec.{Vec}
use Rattle.std.specs.declared.alloc.Global.{Global}
use Rattle.sb_meaning.specs.Terms.{Term}
use Rattle.sb_script.specs.Scopes.{Naming}
use Rattle.sb_script.specs.State as state
use Rattle.sb_script.specs.State.{State, plain, pushed, popped}
use Rattle.sb_script.specs.Errors as error
use Rattle.sb_script.specs.Steps as meaning
use Rattle.sb_script.specs.Replies as reply
use Rattle.sb_term.specs.declared.assertion.Assertion.{Assertion}
use Rattle.sb_term.proofs.CallerLemmas.{extends_more}
use Rattle.sb_sorts.specs.Scopes as scopes
use Rattle.sb_sorts.specs.Scopes.{names_in, constants_among}
use Rattle.sb_stack.specs.declared.level.Level.{Level}
use Rattle.sb_stack.specs.declared.stack.Mode.TheVariants as mode
use Rattle.sb_stack.specs.declared.stack.Step.TheVariants as step
use Rattle.sb_stack.specs.Stacked.{Stacked, state_of, front_names, levels_above, assertion_of, assertion_in}
use Rattle.sb_stack.specs.Keeping.{asserts_of, IsKept, Leaves, StandsFor}
use Rattle.sb_stack.specs.Steps.{IsStep}
use Rattle.sb_stack.specs.Taking.{IsAnswered}
use Rattle.sb_stack.proofs.Changes.{longer_both, left_as, kept_left, left_is}

-- Levels that are left one after the other.

pub leaves_front : (k new : Stacked) (n : ℕ) → new.table ≡ k.table → new.assertions ≡ take n k.assertions
    → new.words ≡ k.words → length k.scope.sorts ≤ length new.scope.sorts → Leaves k new
leaves_front k new n table assertions words constants = record {
  extends = record { more = []; is = table ∙ sym (append-nil k.table) };
  front = (
    drop n k.assertions,
    sym (take-append-drop n k.assertions) ∙ ap (λ bs. bs ++ drop n k.assertions) (sym assertions),
  );
  words = words;
  constants = constants;
}

pub leaves_more : (a b c : Stacked) → Leaves a b → Leaves b c → Leaves a c
leaves_more a b c p q = record {
  extends = extends_more a.table b.table c.table p.extends q.extends;
  front = longer_both c.assertions b.assertions a.assertions q.front p.front;
  words = q.words ∙ p.words;
  constants = omega (arith, p.constants, q.constants);
}

drop_one : {A : Type 0} (n : ℕ) (xs : List A) → drop 1 (drop n xs) ≡ drop (n + 1) xs
drop_one zero xs = refl
drop_one (suc n) [] = sym (ap (λ k. drop k []) (add-one (suc n)))
drop_one (suc n) (x ∷ xs) =
    let next : suc (n + 1) ≡ suc n + 1 = omega arith in drop_one n xs ∙ ap (λ k. drop k (x ∷ xs)) next

pub popped_more : (n : ℕ) (old mid new : State) → mid ≡ popped n old → new ≡ popped 1 mid → new ≡ popped (n + 1) old
popped_more n old mid new first second =
    second ∙ ap (popped 1) first
    ∙ ap (λ levels. record old { mode = plain; above = levels }) (drop_one n old.above)

-- A term that may be asserted.

pub stands_number : (k : Stacked) (o : Option ℕ) → StandsFor k o → IfSome o (λ id. id < length k.table)
stands_number k (Some id) h = h.0
stands_number k None h = tt

pub stands_speaks : (k : Stacked) (o : Option ℕ) → StandsFor k o
    → asserts_of (constants_among k.scope.names) (assertion_of k.table o) ≡ true
stands_speaks k (Some id) h = h.1
stands_speaks k None h = refl

-- The levels of the code, the outermost first.

reversed : (n : ℕ) (l : Level) → reverse (replicate n l) ≡ replicate n l
reversed zero l = refl
reversed (suc n) l =
    ap (λ k. reverse (replicate k l)) (sym (add-one n)) ∙ ap reverse (replicate_next n l)
    ∙ reverse-append (replicate n l) (l ∷ []) ∙ ap (λ ls. l ∷ ls) (reversed n l)

pub opened_reversed : (n m : ℕ) (l : Level) (old new : List Level) → m ≡ n → new ≡ old ++ replicate m l
    → reverse new ≡ replicate n l ++ reverse old
opened_reversed n m l old new same is =
    ap reverse is ∙ reverse-append old (replicate m l)
    ∙ ap (λ ls. ls ++ reverse old) (reversed m l ∙ ap (λ k. replicate k l) same)

pub left_reversed : (old new : List Level) (l : Level) → old ≡ new ++ l ∷ [] → reverse old ≡ l ∷ reverse new
left_reversed old new l is = ap reverse is ∙ reverse-append new (l ∷ [])

-- the scope that is left
abbrev left_scope : ℕ → scopes.ScopeNames → scopes.ScopeNames
left_scope n scope = record scope { names = front_names scope.global n scope.names }

left_in : (n : ℕ) (scope next : scopes.ScopeNames)
    → next ≡ record scope { names = if scope.global then scope.names else take n scope.names }
    → next ≡ left_scope n scope
left_in n scope next is = is ∙ ap (λ ns. record scope { names = ns }) (left_as scope.global n scope.names)

pub left_kept : (begun : Bool) (scope next : scopes.ScopeNames) (table : List Term) (xs fewer : List Assertion)
    (old new : List Level) (l : Level) → old ≡ new ++ l ∷ []
    → next ≡ record scope { names = if scope.global then scope.names else take l.names scope.names }
    → fewer ≡ take l.assertions xs → IsKept begun scope table xs (reverse old)
    → IsKept begun next table fewer (reverse new)
left_kept begun scope next table xs fewer old new l is names assertions kept =
    let there = kept_left begun scope table xs (reverse new) (reverse old) l (left_reversed old new l is) kept in
    subst (λ (s : scopes.ScopeNames). IsKept begun s table fewer (reverse new)) (sym (left_in l.names scope next names))
    (subst (λ bs. IsKept begun (left_scope l.names scope) table bs (reverse new)) (sym assertions) there)

pub left_state : (k now : Stacked) (next : scopes.ScopeNames) (fewer : List Assertion) (old new : List Level)
    (l : Level) → k ≡ now → k.levels ≡ reverse old → old ≡ new ++ l ∷ []
    → next ≡ record k.scope { names = if k.scope.global then k.scope.names else take l.names k.scope.names }
    → fewer ≡ take l.assertions k.assertions
    → state_of (record k { mode = mode.Plain; scope = next; assertions = fewer; levels = reverse new })
    ≡ popped 1 (state_of now)
left_state k now next fewer old new l view levels is names assertions =
    ap₂ (λ (s : scopes.ScopeNames) (bs : List Assertion).
    state_of (record k { mode = mode.Plain; scope = s; assertions = bs; levels = reverse new }))
    (left_in l.names k.scope next names) assertions
    ∙ left_is k (reverse new) l (levels ∙ left_reversed old new l is) ∙ ap (λ (s : Stacked). popped 1 (state_of s)) view

-- How many levels there are.

pub length_above : (global : Bool) (ls : List Level) (ns : List Naming) (bs : List state.Assertion)
    → length (levels_above global ls ns bs) ≡ length ls
length_above global [] ns bs = refl
length_above global (l ∷ ls) ns bs =
    ap suc (length_above global ls (front_names global l.names ns) (take l.assertions bs))

pub levels_of : (k : Stacked) → length (state_of k).above ≡ length k.levels
levels_of k = length_above k.scope.global k.levels (names_in k.table k.scope) (map (assertion_in k.table) k.assertions)

more_than : (m n : ℕ) → m < n → nat_le n m ≡ false
more_than m n h = grind (arith, nat_tests, h)

pub too_few : (k : Stacked) (n : ℕ) (answer : Vec ℕ Global) → length k.levels < n
    → answer.items ≡ meaning.error_line (codes "no such level")
    → IsStep (reply.pop n (state_of k)) (step.Answer answer) (state_of k) (state_of k)
too_few k n answer few said =
    let test : nat_le n (length (state_of k).above) ≡ false =
    ap (λ m. nat_le n m) (levels_of k) ∙ more_than (length k.levels) n few in
    let fails : reply.pop n (state_of k) ≡ meaning.fails_by error.no_such_level (state_of k) =
    ap (λ (b : Bool). if b then (let new = popped n (state_of k) in
    meaning.leaves (meaning.above (length new.above)) (meaning.success new) new)
    else meaning.fails_by error.no_such_level (state_of k)) test in
    rw fails (said, refl)

pub pop_step : (k new : Stacked) (number n m : ℕ) (answer : Vec ℕ Global) → number ≡ n → n ≤ length k.levels
    → state_of new ≡ popped n (state_of k) → m ≡ length new.levels
    → answer.items ≡ (if k.print_success then meaning.line (codes "success") else [])
    → IsStep (reply.pop number (state_of k)) (step.Left answer (Some m)) (state_of k) (state_of new)
pop_step k new number n m answer is enough popped_is left said =
    let test : nat_le n (length (state_of k).above) ≡ true =
    ap (λ m. nat_le n m) (levels_of k) ∙ le-leb n (length k.levels) enough in
    let leaves : reply.pop number (state_of k) ≡ (let s = popped n (state_of k) in
    meaning.leaves (meaning.above (length s.above)) (meaning.success s) s) =
    ap (λ n. reply.pop n (state_of k)) is
    ∙ ap (λ (b : Bool). if b then (let s = popped n (state_of k) in
    meaning.leaves (meaning.above (length s.above)) (meaning.success s) s)
    else meaning.fails_by error.no_such_level (state_of k)) test in
    let count : length (popped n (state_of k)).above ≡ m =
    ap (λ (s : State). length s.above) (sym popped_is) ∙ levels_of new ∙ sym left in
    rw leaves (said, (ap meaning.above count, popped_is))

pub too_many : (k : Stacked) (n : ℕ) (answer : Vec ℕ Global)
    → nat_le (n + length k.levels) reply.level_limit ≡ false
    → answer.items ≡ meaning.error_line (codes "numeral too large")
    → IsAnswered (reply.push n (state_of k)) answer (state_of k) (state_of k)
too_many k n answer test said =
    let there : nat_le (n + length (state_of k).above) reply.level_limit ≡ false =
    ap (λ m. nat_le (n + m) reply.level_limit) (levels_of k) ∙ test in
    let fails : reply.push n (state_of k) ≡ meaning.fails_by error.numeral_too_large (state_of k) =
    ap (λ (b : Bool). if b then meaning.succeeds (pushed n (state_of k))
    else meaning.fails_by error.numeral_too_large (state_of k)) there in
    rw fails (said, refl)

pub push_step : (k new : Stacked) (number n : ℕ) (answer : Vec ℕ Global) → number ≡ n
    → nat_le (number + length k.levels) reply.level_limit ≡ true → state_of new ≡ pushed n (state_of k)
    → answer.items ≡ (if k.print_success then meaning.line (codes "success") else [])
    → IsAnswered (reply.push number (state_of k)) answer (state_of k) (state_of new)
push_step k new number n answer is test pushed_is said =
    let there : nat_le (number + length (state_of k).above) reply.level_limit ≡ true =
    ap (λ m. nat_le (number + m) reply.level_limit) (levels_of k) ∙ test in
    let succeeds : reply.push number (state_of k) ≡ meaning.succeeds (pushed number (state_of k)) =
    ap (λ (b : Bool). if b then meaning.succeeds (pushed number (state_of k))
    else meaning.fails_by error.numeral_too_large (state_of k)) there in
    rw succeeds (said, pushed_is ∙ ap (λ n. pushed n (state_of k)) (sym is))
