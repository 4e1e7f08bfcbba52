-- What the commands change, as the definitions have it, and what they keep.
use Rattle.std.proofs.Common.{◌≡◌, ℕ, ◌<◌, ◌≤◌, Bool, true, false, if◌then◌else◌, nat_eq, List, [], ◌∷◌, ◌++◌, map, take, drop, replicate, length, get_or, zero, suc, codes, Option, Some, None, IfSome, Result, Ok, Err, IfOk, refl, ap, ap₂, sym, subst, ◌∙◌, arith, append_assoc, length-append}
use Rattle.std.specs.List.{All, list_all}
use Rattle.std.proofs.lemmas.Bool.{and_parts, and_from, false≢true, lt-ltb}
use Rattle.std.proofs.lemmas.List.{map-append, append-nil, length-map, take-map, take-append-drop}
use Rattle.std.proofs.lemmas.List.Elements.{All-take}
use Rattle.std.proofs.lemmas.List.Folds.{list_all-append}
use Rattle.std.specs.declared.vec.Vec.{Vec}
use Rattle.std.specs.declared.alloc.Global.{Global}
use Rattle.sb_script.specs.Names.{Name}
use Rattle.sb_meaning.specs.Terms.{Term, Sort}
use Rattle.sb_script.specs.Brought.{is_brought_sort}
use Rattle.sb_term.specs.declared.sort.Sort as code
use Rattle.sb_term.specs.Symbols.{sort_in}
use Rattle.sb_script.specs.Symbols.{is_taken}
use Rattle.sb_script.specs.Scopes.{Naming, constants_in, a_constant}
use Rattle.sb_script.specs.State as state
use Rattle.sb_script.specs.State.{State, plain, names_of, live, constants_of, with_name, declared, defined, marked, asserted, with_assertion, pushed, popped, without_assertions, start_behind}
use Rattle.sb_script.specs.Errors as error
use Rattle.sb_script.specs.Steps as meaning
use Rattle.sb_script.specs.Replies as reply
use Rattle.sb_term.specs.declared.assertion.Assertion.{Assertion}
use Rattle.sb_term.specs.Numbered.{term_at, Extends}
use Rattle.sb_term.specs.Serials.{all_below}
use Rattle.sb_term.proofs.CallerLemmas.{extends_more, long_kept, at_kept, all_below_more}
use Rattle.sb_sorts.specs.declared.scope.Named.{Named}
use Rattle.sb_sorts.specs.declared.scope.Named.TheVariants as named
use Rattle.sb_sorts.specs.Scopes as scopes
use Rattle.sb_sorts.specs.Scopes.{named_in, naming_in, names_in, is_body_below, AreBodies, constants_among, with_constant, with_mark, with_definition}
use Rattle.sb_sorts.proofs.CallerLemmas.{names_stay, bodies_stay, bodies_more, bodies_taken}
use Rattle.sb_stack.specs.declared.level.Level.{Level}
use Rattle.sb_stack.specs.declared.stack.Mode.TheVariants as mode
use Rattle.sb_stack.specs.declared.stack.Step.TheVariants as step
use Rattle.sb_stack.specs.Stacked.{Stacked, options_of, mode_in, state_of, front_names, first_level, levels_above, assertion_of, assertion_in, have_levels, HasNumberBelow, IsLonger}
use Rattle.sb_stack.specs.Speaking.{speaks_of}
use Rattle.sb_stack.specs.Keeping.{are_nested, asserts_of, speak_of_theirs, kind_speaks, speak_before, IsKept, Keeps, KeepsBy}
use Rattle.sb_stack.specs.Taking.{IsAnswered, with_global_declarations, declares}
use Rattle.sb_stack.specs.Defining.{defines_term}
use Rattle.sb_stack.proofs.Bodies.{before_kept, before_more, before_taken}
use Rattle.sb_stack.proofs.Levels.{names_of_levels, live_of_levels, first_names, none_in_front, levels_nothing, nested_more, nested_left, one_name, one_assertion, levelled_push, first_pushed, above_pushed, nested_pushed, levelled_pushed}
use Rattle.sb_stack.proofs.Live.{theirs_name, theirs_assertion, theirs_pushed, theirs_left, theirs_nothing}

pub numbers_push : (n : ℕ) (xs : List Assertion) (a : Assertion) → All (HasNumberBelow n) xs → HasNumberBelow n a
    → All (HasNumberBelow n) (xs ++ a ∷ [])
numbers_push n [] a all here zero d l = here
numbers_push n [] a all here (suc k) d l = absurd (omega arith)
numbers_push n (x ∷ xs) a all here zero d l = all 0 d (omega arith)
numbers_push n (x ∷ xs) a all here (suc k) d l =
    numbers_push n xs a (λ j e m. all (suc j) e (omega (arith, m))) here k d (omega arith)

number_more : (m n : ℕ) (o : Option ℕ) → m ≤ n → IfSome o (λ id. id < m) → IfSome o (λ id. id < n)
number_more m n (Some id) more below = omega arith
number_more m n None more below = tt

-- What the state has of names and assertions.

pub names_live : (k : Stacked) → names_of (state_of k) ≡ names_in k.table k.scope
names_live k =
    names_of_levels k.scope.global k.levels (names_in k.table k.scope) (map (assertion_in k.table) k.assertions)

pub assertions_live : (k : Stacked) → live (state_of k) ≡ map (assertion_in k.table) k.assertions
assertions_live k =
    live_of_levels k.scope.global k.levels (names_in k.table k.scope) (map (assertion_in k.table) k.assertions)

pub constants_live : (k : Stacked) → constants_of (state_of k) ≡ constants_in (names_in k.table k.scope)
constants_live k = ap constants_in (names_live k)

-- The same lengths, as the definitions have names and assertions.

nested_names : {B : Type 0} (ls : List Level) (ts : List Term) (ns : List (Name × Named)) (bs : List B)
    → are_nested ls (length ns) (length bs) ≡ true
    → are_nested ls (length (map (naming_in ts) ns)) (length bs) ≡ true
nested_names ls ts ns bs h = ap (λ n. are_nested ls n (length bs)) (length-map ns (naming_in ts)) ∙ h

nested_assertions : {A : Type 0} (ls : List Level) (bs : List A) (table : List Term) (xs : List Assertion)
    → are_nested ls (length bs) (length xs) ≡ true
    → are_nested ls (length bs) (length (map (assertion_in table) xs)) ≡ true
nested_assertions ls bs table xs h =
    ap (λ n. are_nested ls (length bs) n) (length-map xs (assertion_in table)) ∙ h

nested_both : (k : Stacked) → are_nested k.levels (length k.scope.names) (length k.assertions) ≡ true
    → are_nested k.levels (length (names_in k.table k.scope)) (length (map (assertion_in k.table) k.assertions)) ≡ true
nested_both k h =
    nested_assertions k.levels (names_in k.table k.scope) k.table k.assertions
    (nested_names k.levels k.table k.scope.names k.assertions h)

-- What holds between two entries.

-- assertions stay what they are in a table that grows
assertion_kept : (old new : List Term) (o : Option ℕ) → Extends old new → IfSome o (λ id. id < length old)
    → assertion_of new o ≡ assertion_of old o
assertion_kept old new (Some id) extends below = ap asserted (at_kept old new id extends below)
assertion_kept old new None extends below = refl

assertions_kept : (old new : List Term) (xs : List Assertion) → Extends old new
    → All (HasNumberBelow (length old)) xs → map (assertion_in new) xs ≡ map (assertion_in old) xs
assertions_kept old new [] extends below = refl
assertions_kept old new (x ∷ xs) extends below =
    ap₂ (λ b bs. b ∷ bs) (assertion_kept old new x.term extends (below 0 x (omega arith)))
    (assertions_kept old new xs extends (λ k d l. below (suc k) d (omega (arith, l))))

pub kept_read : (begun : Bool) (scope : scopes.ScopeNames) (old new : List Term) (xs : List Assertion)
    (ls : List Level) → IsKept begun scope old xs ls → Extends old new
    → (all_below (length scope.sorts) old ≡ true → all_below (length scope.sorts) new ≡ true)
    → IsKept begun scope new xs ls
kept_read begun scope old new xs ls kept extends below = record {
  fresh = kept.fresh;
  bodies = bodies_stay old new scope extends kept.bodies;
  defined = before_kept [] scope.names old new extends kept.bodies kept.defined;
  numbers = λ k d l. number_more (length old) (length new) (get_or xs k d).term (long_kept old new extends)
      (kept.numbers k d l);
  below = below kept.below;
  brought = kept.brought;
  nested = kept.nested;
  levelled = kept.levelled;
  theirs = ap (speak_of_theirs scope.global ls scope.names) (assertions_kept old new xs extends kept.numbers)
      ∙ kept.theirs;
}

-- where something was said there may be names
not_fresh : (scope : scopes.ScopeNames) → true ≡ false → scope.names ≡ []
not_fresh scope h = absurd (false≢true (sym h))

pub kept_begun : (begun : Bool) (scope : scopes.ScopeNames) (table : List Term) (xs : List Assertion) (ls : List Level)
    → IsKept begun scope table xs ls → IsKept true scope table xs ls
kept_begun begun scope table xs ls kept = record {
  fresh = not_fresh scope;
  bodies = kept.bodies;
  defined = kept.defined;
  numbers = kept.numbers;
  below = kept.below;
  brought = kept.brought;
  nested = kept.nested;
  levelled = kept.levelled;
  theirs = kept.theirs;
}

-- one more name, which stands for a term of the table that speaks of live constants, if for any
kept_name : (begun : Bool) (scope next : scopes.ScopeNames) (x : Name × Named) (table : List Term)
    (xs : List Assertion) (ls : List Level) → next.names ≡ scope.names ++ x ∷ [] → next.global ≡ scope.global
    → all_below (length next.sorts) table ≡ true
    → list_all (λ sort. is_brought_sort (sort_in sort)) next.sorts ≡ true → is_body_below (length table) x.1 ≡ true
    → kind_speaks (constants_among scope.names) table x.1 ≡ true → IsKept begun scope table xs ls
    → IsKept true next table xs ls
kept_name begun scope next x table xs ls is same below brought small speaks kept =
    let more : length scope.names ≤ length next.names =
    omega (arith, ap length is, length-append scope.names (x ∷ [])) in
    record {
      fresh = not_fresh next;
      bodies = ap (list_all (λ (n : Name × Named). is_body_below (length table) n.1)) is
          ∙ bodies_more table scope x kept.bodies small;
      defined = ap (λ ns. speak_before [] ns table) is ∙ before_more [] scope.names x table kept.defined speaks;
      numbers = kept.numbers;
      below = below;
      brought = brought;
      nested = nested_more ls (length scope.names) (length xs) (length next.names) (length xs) more (omega arith)
          kept.nested;
      levelled = kept.levelled;
      theirs = ap₂ (λ global ns. speak_of_theirs global ls ns (map (assertion_in table) xs)) same is
          ∙ theirs_name scope.global ls scope.names (map (assertion_in table) xs) x
          (nested_assertions ls scope.names table xs kept.nested) kept.theirs;
    }

pub kept_declared : (begun : Bool) (scope next : scopes.ScopeNames) (name : Name) (sort : code.Sort)
    (table : List Term) (xs : List Assertion) (ls : List Level) → is_brought_sort (sort_in sort) ≡ true
    → next ≡ with_constant name sort scope → IsKept begun scope table xs ls → IsKept true next table xs ls
kept_declared begun scope next name sort table xs ls read is kept =
    subst (λ (s : scopes.ScopeNames). IsKept true s table xs ls) (sym is)
    (kept_name begun scope (with_constant name sort scope) _ table xs ls refl refl
    (ap (λ n. all_below n table) (length-append scope.sorts (sort ∷ []))
    ∙ all_below_more (length scope.sorts) table kept.below)
    (list_all-append (λ s. is_brought_sort (sort_in s)) scope.sorts (sort ∷ [])
    ∙ and_from _ _ kept.brought (and_from (is_brought_sort (sort_in sort)) true read refl)) refl refl kept)

pub kept_marked : (begun : Bool) (scope next : scopes.ScopeNames) (name : Name) (table : List Term)
    (xs : List Assertion) (ls : List Level) → next ≡ with_mark name scope → IsKept begun scope table xs ls
    → IsKept true next table xs ls
kept_marked begun scope next name table xs ls is kept =
    subst (λ (s : scopes.ScopeNames). IsKept true s table xs ls) (sym is)
    (kept_name begun scope (with_mark name scope) _ table xs ls refl refl kept.below kept.brought refl refl kept)

pub kept_defined : (begun : Bool) (scope next : scopes.ScopeNames) (name : Name) (sorts : List code.Sort) (body : ℕ)
    (table : List Term) (xs : List Assertion) (ls : List Level) → body < length table
    → speaks_of (constants_among scope.names) (term_at table body) ≡ true
    → next ≡ with_definition name sorts body scope → IsKept begun scope table xs ls → IsKept true next table xs ls
kept_defined begun scope next name sorts body table xs ls below speaks is kept =
    subst (λ (s : scopes.ScopeNames). IsKept true s table xs ls) (sym is)
    (kept_name begun scope (with_definition name sorts body scope) _ table xs ls refl refl kept.below kept.brought
    (lt-ltb body (length table) below) speaks kept)

-- whether names are global, where there are none
pub kept_global : (begun on : Bool) (scope next : scopes.ScopeNames) (table : List Term) (xs : List Assertion)
    (ls : List Level) → scope.names ≡ [] → next ≡ record scope { global = on } → IsKept begun scope table xs ls
    → IsKept begun next table xs ls
kept_global begun on scope next table xs ls none is kept =
    let bs : List state.Assertion = map (assertion_in table) xs in
    subst (λ (s : scopes.ScopeNames). IsKept begun s table xs ls) (sym is) (record {
      fresh = kept.fresh;
      bodies = kept.bodies;
      defined = kept.defined;
      numbers = kept.numbers;
      below = kept.below;
      brought = kept.brought;
      nested = kept.nested;
      levelled = kept.levelled;
      theirs = ap (λ ns. speak_of_theirs on ls ns bs) none
          ∙ theirs_nothing scope.global on ls bs
          (ap (λ ns. speak_of_theirs scope.global ls ns bs) (sym none) ∙ kept.theirs);
    })

-- one more assertion
pub kept_push : (begun : Bool) (scope : scopes.ScopeNames) (table : List Term) (xs new : List Assertion)
    (ls : List Level) (a : Assertion) → new ≡ xs ++ a ∷ [] → IsKept begun scope table xs ls
    → HasNumberBelow (length table) a → a.level ≡ length ls
    → asserts_of (constants_among scope.names) (assertion_in table a) ≡ true → IsKept true scope table new ls
kept_push begun scope table xs new ls a is kept here level speaks =
    let more : length xs ≤ length (xs ++ a ∷ []) = omega (arith, length-append xs (a ∷ [])) in
    subst (λ bs. IsKept true scope table bs ls) (sym is) (record {
      fresh = not_fresh scope;
      bodies = kept.bodies;
      defined = kept.defined;
      numbers = numbers_push (length table) xs a kept.numbers here;
      below = kept.below;
      brought = kept.brought;
      nested = nested_more ls (length scope.names) (length xs) (length scope.names) (length (xs ++ a ∷ []))
          (omega arith) more kept.nested;
      levelled = levelled_push ls (length scope.names) xs a kept.nested level kept.levelled;
      theirs = ap (speak_of_theirs scope.global ls scope.names) (map-append (assertion_in table) xs (a ∷ []))
          ∙ theirs_assertion scope.global ls scope.names (map (assertion_in table) xs) (assertion_in table a)
          (nested_assertions ls scope.names table xs kept.nested) speaks kept.theirs;
    })

-- some more levels
pub kept_opened : (begun : Bool) (scope : scopes.ScopeNames) (table : List Term) (xs : List Assertion)
    (ls new : List Level) (n : ℕ) (l : Level) → l.names ≡ length scope.names → l.assertions ≡ length xs
    → new ≡ replicate n l ++ ls → IsKept begun scope table xs ls → IsKept begun scope table xs new
kept_opened begun scope table xs ls new n l names assertions is kept =
    subst (λ levels. IsKept begun scope table xs levels) (sym is) (record {
      fresh = kept.fresh;
      bodies = kept.bodies;
      defined = kept.defined;
      numbers = kept.numbers;
      below = kept.below;
      brought = kept.brought;
      nested = ap₂ (are_nested (replicate n l ++ ls)) (sym names) (sym assertions)
          ∙ nested_pushed n l ls (ap₂ (are_nested ls) names assertions ∙ kept.nested);
      levelled = levelled_pushed n l ls xs assertions kept.levelled;
      theirs = theirs_pushed scope.global n l ls scope.names (map (assertion_in table) xs) names
          (assertions ∙ sym (length-map xs (assertion_in table))) kept.theirs;
    })

-- the names that are left
pub left_as : {A : Type 0} (global : Bool) (n : ℕ) (ns : List A)
    → (if global then ns else take n ns) ≡ front_names global n ns
left_as true n ns = refl
left_as false n ns = refl

left_nothing : (global begun : Bool) (n : ℕ) (ns : List (Name × Named)) → (begun ≡ false → ns ≡ [])
    → begun ≡ false → front_names global n ns ≡ []
left_nothing global begun n ns fresh h = ap (front_names global n) (fresh h) ∙ none_in_front global n

left_bodies : (global : Bool) (n : ℕ) (scope : scopes.ScopeNames) (table : List Term) → AreBodies table scope
    → list_all (λ m. is_body_below (length table) m.1) (front_names global n scope.names) ≡ true
left_bodies true n scope table h = h
left_bodies false n scope table h = bodies_taken table scope n h

left_defined : (global : Bool) (n : ℕ) (ns : List (Name × Named)) (table : List Term) → speak_before [] ns table ≡ true
    → speak_before [] (front_names global n ns) table ≡ true
left_defined true n ns table h = h
left_defined false n ns table h = before_taken n [] ns table h

-- one level less
pub kept_left : (begun : Bool) (scope : scopes.ScopeNames) (table : List Term) (xs : List Assertion)
    (ls all : List Level) (l : Level) → all ≡ l ∷ ls → IsKept begun scope table xs all
    → IsKept begun (record scope { names = front_names scope.global l.names scope.names }) table (take l.assertions xs) ls
kept_left begun scope table xs ls all l is given =
    let kept : IsKept begun scope table xs (l ∷ ls) =
    subst (λ levels. IsKept begun scope table xs levels) is given in
    record {
      fresh = left_nothing scope.global begun l.names scope.names kept.fresh;
      bodies = left_bodies scope.global l.names scope table kept.bodies;
      defined = left_defined scope.global l.names scope.names table kept.defined;
      numbers = All-take (HasNumberBelow (length table)) l.assertions xs kept.numbers;
      below = kept.below;
      brought = kept.brought;
      nested = nested_left scope.global l ls scope.names xs kept.nested;
      levelled = left_levelled l ls xs kept.levelled;
      theirs = ap (speak_of_theirs scope.global ls (front_names scope.global l.names scope.names))
          (sym (take-map (assertion_in table) l.assertions xs))
          ∙ theirs_left scope.global l ls scope.names (map (assertion_in table) xs) kept.theirs;
    }
  where
    left_levelled : (l : Level) (ls : List Level) (xs : List Assertion) → have_levels (l ∷ ls) xs ≡ true
        → have_levels ls (take l.assertions xs) ≡ true
    left_levelled l ls xs h =
        (and_parts (list_all (λ a. nat_eq a.level (suc (length ls))) (drop l.assertions xs))
        (have_levels ls (take l.assertions xs)) h).1

-- no level and no assertion is left
pub kept_cleared : (begun : Bool) (scope : scopes.ScopeNames) (table : List Term) → (begun ≡ false → scope.names ≡ [])
    → AreBodies table scope → speak_before [] scope.names table ≡ true → all_below (length scope.sorts) table ≡ true
    → list_all (λ sort. is_brought_sort (sort_in sort)) scope.sorts ≡ true → IsKept begun scope table [] []
kept_cleared begun scope table fresh bodies defined below brought = record {
  fresh = fresh;
  bodies = bodies;
  defined = defined;
  numbers = λ k d l. absurd (omega (arith, l));
  below = below;
  brought = brought;
  nested = refl;
  levelled = refl;
  theirs = refl;
}

-- the names that are kept where all levels are left
pub kept_all_left : (begun : Bool) (scope next : scopes.ScopeNames) (table : List Term) (xs : List Assertion)
    (ls : List Level) → next ≡ record scope { names = if scope.global then scope.names else take 0 scope.names }
    → IsKept begun scope table xs ls → IsKept begun next table [] []
kept_all_left begun scope next table xs ls is kept =
    subst (λ (s : scopes.ScopeNames). IsKept begun s table [] [])
    (sym (is ∙ ap (λ ns. record scope { names = ns }) (left_as scope.global 0 scope.names)))
    (kept_cleared begun (record scope { names = front_names scope.global 0 scope.names }) table
    (left_nothing scope.global begun 0 scope.names kept.fresh) (left_bodies scope.global 0 scope table kept.bodies)
    (left_defined scope.global 0 scope.names table kept.defined) kept.below kept.brought)

-- and where everything is taken back
pub kept_restarted : (begun : Bool) (scope next : scopes.ScopeNames) (table : List Term) (xs : List Assertion)
    (ls : List Level) → next ≡ record scope { names = []; global = false } → IsKept begun scope table xs ls
    → IsKept false next table [] []
kept_restarted begun scope next table xs ls is kept =
    subst (λ (s : scopes.ScopeNames). IsKept false s table [] []) (sym is)
    (kept_cleared false (record scope { names = []; global = false }) table (λ h. refl) refl refl kept.below
    kept.brought)

pub state_kept : (k : Stacked) (new : List Term) → IsKept k.begun k.scope k.table k.assertions k.levels
    → Extends k.table new → state_of (record k { table = new }) ≡ state_of k
state_kept k new kept extends =
    let same : map (assertion_in new) k.assertions ≡ map (assertion_in k.table) k.assertions =
    assertions_kept k.table new k.assertions extends kept.numbers in
    let names : names_in new k.scope ≡ names_in k.table k.scope =
    names_stay k.table new k.scope extends kept.bodies in
    (λ j. record {
      logic_set = k.logic_set;
      begun = k.begun;
      options = options_of k.print_success k.produce_models k.produce_unsat_assumptions k.scope.global;
      sorts = map sort_in k.scope.sorts;
      mode = mode_in (constants_among k.scope.names) k.words k.truths k.unsat_assumptions k.mode;
      first = first_level k.scope.global k.levels (names j) (same j);
      above = levels_above k.scope.global k.levels (names j) (same j);
    })

-- what changes neither table nor assertions keeps all of it
pub longer_same : (xs : List Assertion) → IsLonger xs xs
longer_same xs = ([], sym (append-nil xs))

pub keeps_parts : (old new : Stacked) → new.table ≡ old.table → new.assertions ≡ old.assertions
    → new.words ≡ old.words → length old.scope.sorts ≤ length new.scope.sorts → Keeps old new
keeps_parts old new table assertions words constants = record {
  extends = record { more = []; is = table ∙ sym (append-nil old.table) };
  grows = ([], assertions ∙ sym (append-nil old.assertions));
  words = words;
  constants = constants;
}

-- levels that are left take the last assertions with them
pub front_of : (n : ℕ) (xs : List Assertion) → IsLonger (take n xs) xs
front_of n xs = (drop n xs, sym (take-append-drop n xs))

pub longer_both : (xs ys zs : List Assertion) → IsLonger xs ys → IsLonger ys zs → IsLonger xs zs
longer_both xs ys zs p q = (
  p.0 ++ q.0,
  q.1 ∙ ap (λ bs. bs ++ q.0) p.1 ∙ append_assoc xs p.0 q.0,
)

pub keeps_read : (k : Stacked) (new : List Term) → Extends k.table new → Keeps k (record k { table = new })
keeps_read k new extends =
    record { extends = extends; grows = longer_same k.assertions; words = refl; constants = omega arith }

pub keeps_same : (k : Stacked) → Keeps k k
keeps_same k = keeps_parts k k refl refl refl (omega arith)

pub keeps_more : (a b c : Stacked) → Keeps a b → Keeps b c → Keeps a c
keeps_more a b c p q = record {
  extends = extends_more a.table b.table c.table p.extends q.extends;
  grows = (
    p.grows.0 ++ q.grows.0,
    q.grows.1 ∙ ap (λ xs. xs ++ q.grows.0) p.grows.1
        ∙ append_assoc a.assertions p.grows.0 q.grows.0,
  );
  words = q.words ∙ p.words;
  constants = omega (arith, p.constants, q.constants);
}

-- a state in which something was said, with these sorts and levels
abbrev said_with : Stacked → List Sort → state.Level × List state.Level → State
said_with k sorts levels = record {
  logic_set = k.logic_set;
  begun = true;
  options = options_of k.print_success k.produce_models k.produce_unsat_assumptions k.scope.global;
  sorts = sorts;
  mode = plain;
  first = levels.0;
  above = levels.1;
}

abbrev levels_with : Stacked → List Naming → List state.Assertion → state.Level × List state.Level
levels_with k names assertions = (
  first_level k.scope.global k.levels names assertions,
  levels_above k.scope.global k.levels names assertions,
)

-- a constant more
pub declared_is : (k : Stacked) (name : Name) (sort : code.Sort)
    → IsKept k.begun k.scope k.table k.assertions k.levels
    → state_of (record k { begun = true; scope = with_constant name sort k.scope; mode = mode.Plain })
    ≡ declared name (sort_in sort) (state_of k)
declared_is k name sort kept =
    let sorts : List Sort = map sort_in k.scope.sorts in
    let bs : List state.Assertion = map (assertion_in k.table) k.assertions in
    let names : names_in k.table (with_constant name sort k.scope) ≡ names_in k.table k.scope
    ++ (name, a_constant (length sorts) (sort_in sort)) ∷ [] = map-append (naming_in k.table) k.scope.names _
    ∙ ap (λ m. names_in k.table k.scope ++ (name, a_constant m (sort_in sort)) ∷ [])
    (sym (length-map k.scope.sorts sort_in)) in
    ap₂ (said_with k) (map-append sort_in k.scope.sorts (sort ∷ [])) (ap (λ ns. levels_with k ns bs) names)
    ∙ ap (said_with k (sorts ++ sort_in sort ∷ []))
    (one_name k.scope.global k.levels (names_in k.table k.scope) bs
    (name, a_constant (length sorts) (sort_in sort)) (nested_both k kept.nested))

-- a name more that is no constant
named_is : (k : Stacked) (name : Name) (kind : Named) → IsKept k.begun k.scope k.table k.assertions k.levels
    → state_of (record k {
      begun = true;
      scope = record k.scope { names = k.scope.names ++ (name, kind) ∷ [] };
      mode = mode.Plain;
    }) ≡ with_name name (named_in k.table kind) (state_of k)
named_is k name kind kept =
    let bs : List state.Assertion = map (assertion_in k.table) k.assertions in
    ap (λ ns. said_with k (map sort_in k.scope.sorts) (levels_with k ns bs))
    (map-append (naming_in k.table) k.scope.names _)
    ∙ ap (said_with k (map sort_in k.scope.sorts))
    (one_name k.scope.global k.levels (names_in k.table k.scope) bs (name, named_in k.table kind)
    (nested_both k kept.nested))

pub marked_is : (k : Stacked) (name : Name) → IsKept k.begun k.scope k.table k.assertions k.levels
    → state_of (record k { begun = true; scope = with_mark name k.scope; mode = mode.Plain })
    ≡ marked name (state_of k)
marked_is k name kept = named_is k name named.Marked kept

pub defined_is : (k : Stacked) (name : Name) (sorts : List code.Sort) (body : ℕ)
    → IsKept k.begun k.scope k.table k.assertions k.levels
    → state_of (record k { begun = true; scope = with_definition name sorts body k.scope; mode = mode.Plain })
    ≡ defined name (map sort_in sorts) (term_at k.table body) (state_of k)
defined_is k name sorts body kept = named_is k name (named.Definition (record { sorts = sorts; body = body })) kept

-- whether names are global
pub global_is : (k : Stacked) (on : Bool) (scope : scopes.ScopeNames) → k.scope.names ≡ []
    → scope ≡ record k.scope { global = on }
    → state_of (record k { scope = scope }) ≡ with_global_declarations (state_of k) on
global_is k on scope none is =
    let bs : List state.Assertion = map (assertion_in k.table) k.assertions in
    let with_levels : state.Level × List state.Level → State = λ levels. record (state_of k) {
      options = options_of k.print_success k.produce_models k.produce_unsat_assumptions on;
      first = levels.0;
      above = levels.1;
    } in
    let levels : Bool → List (Name × Named) → state.Level × List state.Level = λ global ns. (
      first_level global k.levels (map (naming_in k.table) ns) bs,
      levels_above global k.levels (map (naming_in k.table) ns) bs,
    ) in
    ap (λ (s : scopes.ScopeNames). state_of (record k { scope = s })) is
    ∙ ap with_levels (ap (levels on) none ∙ levels_nothing on k.scope.global k.levels bs
    ∙ ap (levels k.scope.global) (sym none))

-- an assertion more
pub asserted_is : (k : Stacked) (a : Assertion) → IsKept k.begun k.scope k.table k.assertions k.levels
    → state_of (record k { begun = true; mode = mode.Plain; assertions = k.assertions ++ a ∷ [] })
    ≡ with_assertion (assertion_in k.table a) (state_of k)
asserted_is k a kept =
    let bs : List state.Assertion = map (assertion_in k.table) k.assertions in
    ap (λ more. said_with k (map sort_in k.scope.sorts) (levels_with k (names_in k.table k.scope) more))
    (map-append (assertion_in k.table) k.assertions (a ∷ []))
    ∙ ap (said_with k (map sort_in k.scope.sorts))
    (one_assertion k.scope.global k.levels (names_in k.table k.scope) bs (assertion_in k.table a)
    (nested_both k kept.nested))

-- some more levels
pub opened_is : (k : Stacked) (n : ℕ) (l : Level) → l.names ≡ length k.scope.names
    → l.assertions ≡ length k.assertions
    → state_of (record k { mode = mode.Plain; levels = replicate n l ++ k.levels }) ≡ pushed n (state_of k)
opened_is k n l names assertions =
    let bs : List state.Assertion = map (assertion_in k.table) k.assertions in
    let all : l.names ≡ length (names_in k.table k.scope) =
    names ∙ sym (length-map k.scope.names (naming_in k.table)) in
    let here : l.assertions ≡ length bs = assertions ∙ sym (length-map k.assertions (assertion_in k.table)) in
    let first = first_pushed k.scope.global n l k.levels (names_in k.table k.scope) bs all here in
    let above = above_pushed k.scope.global n l k.levels (names_in k.table k.scope) bs all here in
    ap₂ (λ (one : state.Level) (more : List state.Level).
    record (state_of k) { mode = plain; first = one; above = more }) first above

-- one level less
front_map : {A B : Type 0} (global : Bool) (f : A → B) (n : ℕ) (ns : List A)
    → map f (front_names global n ns) ≡ front_names global n (map f ns)
front_map true f n ns = refl
front_map false f n ns = sym (take-map f n ns)

pub left_is : (k : Stacked) (ls : List Level) (l : Level) → k.levels ≡ l ∷ ls
    → state_of (record k {
      mode = mode.Plain;
      scope = record k.scope { names = front_names k.scope.global l.names k.scope.names };
      assertions = take l.assertions k.assertions;
      levels = ls;
    }) ≡ popped 1 (state_of k)
left_is k ls l is =
    let names : map (naming_in k.table) (front_names k.scope.global l.names k.scope.names)
    ≡ front_names k.scope.global l.names (names_in k.table k.scope) =
    front_map k.scope.global (naming_in k.table) l.names k.scope.names in
    let bs : List state.Assertion = map (assertion_in k.table) k.assertions in
    let assertions : map (assertion_in k.table) (take l.assertions k.assertions) ≡ take l.assertions bs =
    sym (take-map (assertion_in k.table) l.assertions k.assertions) in
    ap₂ (λ ns xs. record (state_of k) {
      mode = plain;
      first = first_level k.scope.global ls ns xs;
      above = levels_above k.scope.global ls ns xs;
    }) names assertions
    ∙ ap (λ levels. record (state_of k) {
      mode = plain;
      first = first_level k.scope.global levels (names_in k.table k.scope) bs;
      above = drop 1 (levels_above k.scope.global levels (names_in k.table k.scope) bs);
    }) (sym is)

-- no level and no assertion is left
cleared_names : (global : Bool) (ts : List Term) (ns : List (Name × Named)) (ls : List Level) (bs : List state.Assertion)
    → map (naming_in ts) (if global then ns else take 0 ns)
    ≡ (if global then (first_level global ls (map (naming_in ts) ns) bs).names else [])
cleared_names true ts ns ls bs = sym (first_names ls (map (naming_in ts) ns) bs)
cleared_names false ts ns ls bs = refl

pub cleared_is : (k : Stacked) (scope : scopes.ScopeNames)
    → scope ≡ record k.scope { names = if k.scope.global then k.scope.names else take 0 k.scope.names }
    → state_of (record k { mode = mode.Plain; scope = scope; assertions = []; levels = [] })
    ≡ without_assertions (state_of k)
cleared_is k scope is =
    ap (λ (s : scopes.ScopeNames). state_of
    (record k { mode = mode.Plain; scope = s; assertions = []; levels = [] })) is
    ∙ ap (λ ns. record (state_of k) {
      mode = plain;
      first = record { names = ns; assertions = [] };
      above = [];
    }) (cleared_names k.scope.global k.table k.scope.names k.levels (map (assertion_in k.table) k.assertions))

-- and everything is as at the start, but for the serials
pub restarted_is : (k : Stacked) (scope : scopes.ScopeNames) → scope ≡ record k.scope { names = []; global = false }
    → state_of (record k {
      logic_set = false;
      begun = false;
      print_success = true;
      produce_models = false;
      produce_unsat_assumptions = false;
      scope = scope;
      mode = mode.Plain;
      assertions = [];
      levels = [];
    }) ≡ start_behind (state_of k).sorts
restarted_is k scope is =
    ap (λ (s : scopes.ScopeNames). state_of (record k {
      logic_set = false;
      begun = false;
      print_success = true;
      produce_models = false;
      produce_unsat_assumptions = false;
      scope = s;
      mode = mode.Plain;
      assertions = [];
      levels = [];
    })) is

pub declare_step : (k : Stacked) (name : Name) (sort : code.Sort) (scope : scopes.ScopeNames) (answer : Vec ℕ Global)
    → IsKept k.begun k.scope k.table k.assertions k.levels
    → is_taken (names_in k.table k.scope) name ≡ false → scope ≡ with_constant name sort k.scope
    → answer.items ≡ (if k.print_success then meaning.line (codes "success") else [])
    → IsAnswered (declares name (sort_in sort) (state_of k)) answer (state_of k)
    (state_of (record k { begun = true; scope = scope; mode = mode.Plain }))
declare_step k name sort scope answer kept free is said =
    let free_there : is_taken (names_of (state_of k)) name ≡ false =
    ap (λ names. is_taken names name) (names_live k) ∙ free in
    let taken : declares name (sort_in sort) (state_of k)
    ≡ meaning.answers (if k.print_success then meaning.line (codes "success") else [])
    (declared name (sort_in sort) (state_of k)) =
    ap (λ (b : Bool). if b then meaning.fails_by (error.already_declared name) (state_of k)
    else meaning.succeeds (declared name (sort_in sort) (state_of k))) free_there in
    rw taken (
      said,
      ap (λ (c : scopes.ScopeNames). state_of (record k { begun = true; scope = c; mode = mode.Plain })) is
          ∙ declared_is k name sort kept,
    )

pub mark_step : (k : Stacked) (name : Name) (scope : scopes.ScopeNames) (answer : Vec ℕ Global)
    → IsKept k.begun k.scope k.table k.assertions k.levels
    → is_taken (names_in k.table k.scope) name ≡ false → scope ≡ with_mark name k.scope
    → answer.items ≡ meaning.unsupported_line
    → IsAnswered (reply.declare_function name (state_of k)) answer (state_of k)
    (state_of (record k { begun = true; scope = scope; mode = mode.Plain }))
mark_step k name scope answer kept free is said =
    let free_there : is_taken (names_of (state_of k)) name ≡ false =
    ap (λ names. is_taken names name) (names_live k) ∙ free in
    let taken : reply.declare_function name (state_of k)
    ≡ meaning.answers meaning.unsupported_line (marked name (state_of k)) =
    ap (λ (b : Bool). if b then meaning.fails_by (error.already_declared name) (state_of k)
    else meaning.is_unsupported (marked name (state_of k))) free_there in
    rw taken (
      said,
      ap (λ (c : scopes.ScopeNames). state_of (record k { begun = true; scope = c; mode = mode.Plain })) is
          ∙ marked_is k name kept,
    )

pub define_step : (k : Stacked) (name : Name) (own : List code.Sort) (sorts : List Sort) (body : ℕ)
    (scope : scopes.ScopeNames) (answer : Vec ℕ Global) → IsKept k.begun k.scope k.table k.assertions k.levels
    → is_taken (names_in k.table k.scope) name ≡ false → scope ≡ with_definition name own body k.scope
    → map sort_in own ≡ sorts → answer.items ≡ (if k.print_success then meaning.line (codes "success") else [])
    → IsAnswered (defines_term name sorts (term_at k.table body) (state_of k)) answer (state_of k)
    (state_of (record k { begun = true; scope = scope; mode = mode.Plain }))
define_step k name own sorts body scope answer kept free is same said =
    let free_there : is_taken (names_of (state_of k)) name ≡ false =
    ap (λ names. is_taken names name) (names_live k) ∙ free in
    let new : State = defined name sorts (term_at k.table body) (state_of k) in
    let taken : defines_term name sorts (term_at k.table body) (state_of k)
    ≡ meaning.answers (if k.print_success then meaning.line (codes "success") else []) new =
    ap (λ (b : Bool). if b then meaning.fails_by (error.already_declared name) (state_of k)
    else meaning.succeeds new) free_there in
    rw taken (
      said,
      ap (λ (c : scopes.ScopeNames). state_of (record k { begun = true; scope = c; mode = mode.Plain })) is
          ∙ defined_is k name own body kept ∙ ap (λ ss. defined name ss (term_at k.table body) (state_of k)) same,
    )

-- an answer of a part is the answer of the whole
pub same_step : {E : Type 0} (r : Result (Vec ℕ Global) E) (a b : meaning.Step) (s : State) → IfOk r (λ x. IsAnswered b x s s) → a ≡ b
    → IfOk r (λ x. IsAnswered a x s s)
same_step (Ok x) a b s h is = rw is h
same_step (Err e) a b s h is = tt

pub same_step_at : {E : Type 0} (r : Result (Vec ℕ Global) E) (f : State → meaning.Step) (a : meaning.Step) (s : State)
    → IfOk r (λ x. (t : State) → IsAnswered (f t) x t t) → a ≡ f s → IfOk r (λ x. IsAnswered a x s s)
same_step_at (Ok x) f a s h is = rw is (h s)
same_step_at (Err e) f a s h is = tt

-- What an entry keeps, by its step.

pub keeps_answer : {E : Type 0} (answer : Vec ℕ Global) (old new : Stacked) → Keeps old new
    → KeepsBy {E = E} (Ok (step.Answer answer)) old new
keeps_answer answer old new k =
    record { extends = k.extends; moved = k.grows; words = k.words; constants = k.constants }

pub keeps_error : {E : Type 0} (e : E) (old new : Stacked) → Keeps old new → KeepsBy {E = E} (Err e) old new
keeps_error e old new k =
    record { extends = k.extends; moved = k.grows; words = k.words; constants = k.constants }

-- A name that is taken.

-- a name is taken in the state where it is in the scope
pub taken_live : (k : Stacked) (name : Name)
    → is_taken (names_of (state_of k)) name ≡ is_taken (names_in k.table k.scope) name
taken_live k name = ap (λ names. is_taken names name) (names_live k)

taken_there : (k : Stacked) (name : Name) → is_taken (names_in k.table k.scope) name ≡ true
    → is_taken (names_of (state_of k)) name ≡ true
taken_there k name taken = taken_live k name ∙ taken

-- the same as steps
pub declares_taken : (k : Stacked) (name : Name) (sort : Sort) → is_taken (names_in k.table k.scope) name ≡ true
    → declares name sort (state_of k) ≡ meaning.fails_by (error.already_declared name) (state_of k)
declares_taken k name sort taken =
    ap (λ (b : Bool). if b then meaning.fails_by (error.already_declared name) (state_of k)
    else meaning.succeeds (declared name sort (state_of k))) (taken_there k name taken)

pub defines_taken : (k : Stacked) (name : Name) (sorts : List Sort) (body : Term)
    → is_taken (names_in k.table k.scope) name ≡ true
    → defines_term name sorts body (state_of k) ≡ meaning.fails_by (error.already_declared name) (state_of k)
defines_taken k name sorts body taken =
    ap (λ (b : Bool). if b then meaning.fails_by (error.already_declared name) (state_of k)
    else meaning.succeeds (defined name sorts body (state_of k))) (taken_there k name taken)

pub marks_taken : (k : Stacked) (name : Name) → is_taken (names_in k.table k.scope) name ≡ true
    → reply.declare_function name (state_of k) ≡ meaning.fails_by (error.already_declared name) (state_of k)
marks_taken k name taken =
    ap (λ (b : Bool). if b then meaning.fails_by (error.already_declared name) (state_of k)
    else meaning.is_unsupported (marked name (state_of k))) (taken_there k name taken)

-- a name more
pub keeps_declared : (k : Stacked) (scope : scopes.ScopeNames) (name : Name) (sort : code.Sort)
    → scope ≡ with_constant name sort k.scope → Keeps k (record k { begun = true; scope = scope; mode = mode.Plain })
keeps_declared k scope name sort is =
    keeps_parts k (record k { begun = true; scope = scope; mode = mode.Plain }) refl refl refl
    (omega (arith, ap (λ (s : scopes.ScopeNames). length s.sorts) is, length-append k.scope.sorts (sort ∷ [])))

pub keeps_marked : (k : Stacked) (scope : scopes.ScopeNames) (name : Name) → scope ≡ with_mark name k.scope
    → Keeps k (record k { begun = true; scope = scope; mode = mode.Plain })
keeps_marked k scope name is =
    keeps_parts k (record k { begun = true; scope = scope; mode = mode.Plain }) refl refl refl
    (omega (arith, ap (λ (s : scopes.ScopeNames). length s.sorts) is))

pub keeps_defined : (k : Stacked) (scope : scopes.ScopeNames) (name : Name) (sorts : List code.Sort) (body : ℕ)
    → scope ≡ with_definition name sorts body k.scope
    → Keeps k (record k { begun = true; scope = scope; mode = mode.Plain })
keeps_defined k scope name sorts body is =
    keeps_parts k (record k { begun = true; scope = scope; mode = mode.Plain }) refl refl refl
    (omega (arith, ap (λ (s : scopes.ScopeNames). length s.sorts) is))

pub keeps_global : (k : Stacked) (scope : scopes.ScopeNames) (on : Bool) → scope ≡ record k.scope { global = on }
    → Keeps k (record k { scope = scope })
keeps_global k scope on is =
    keeps_parts k (record k { scope = scope }) refl refl refl
    (omega (arith, ap (λ (s : scopes.ScopeNames). length s.sorts) is))

-- an assertion more
pub keeps_pushed : (k : Stacked) (xs : List Assertion) (a : Assertion) → xs ≡ k.assertions ++ a ∷ []
    → Keeps k (record k { begun = true; mode = mode.Plain; assertions = xs })
keeps_pushed k xs a is = record {
  extends = record { more = []; is = sym (append-nil k.table) };
  grows = (a ∷ [], is);
  words = refl;
  constants = omega arith;
}

-- some more levels
pub keeps_opened : (k : Stacked) (ls : List Level) → Keeps k (record k { mode = mode.Plain; levels = ls })
keeps_opened k ls = keeps_parts k (record k { mode = mode.Plain; levels = ls }) refl refl refl (omega arith)
