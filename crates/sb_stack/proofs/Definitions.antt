-- Definitions: their parameters, the names that can't be declared, and what they become.
use Rattle.std.proofs.Common.{◌≡◌, ℕ, ◌+◌, Bool, true, false, not, ◌||◌, if◌then◌else◌, nat_eq, nat_le, List, [], ◌∷◌, ◌++◌, map, Option, Some, None, option_map, Result, refl, ap, ap₂, sym, subst, ◌∙◌, append_assoc}
use Rattle.std.specs.Cmp.Lexicographic.{pointwise}
use Rattle.std.specs.List.{list_any}
use Rattle.std.specs.declared.vec.Vec.{Vec}
use Rattle.std.specs.declared.alloc.Global.{Global}
use Rattle.std.proofs.lemmas.Bool.{false≢true}
use Rattle.std.proofs.lemmas.List.{append-nil, map-append}
use Rattle.std.proofs.lemmas.Option.{none-some}
use Rattle.sb_reader.specs.Forms.{Form, Forms, Symbol, QuotedSymbol, Keyword, Numeral, OtherNumber, Words, Group, none, more}
use Rattle.sb_meaning.specs.Terms.{Sort, Term, parameter}
use Rattle.sb_script.specs.Commands as script
use Rattle.sb_script.specs.Commands.{parameters_of}
use Rattle.sb_script.specs.Errors as error
use Rattle.sb_script.specs.Errors.{Error, place_of, earlier, first_of}
use Rattle.sb_script.specs.Faults.{Fault}
use Rattle.sb_script.specs.Names.{Name, is_name, is_among}
use Rattle.sb_script.specs.Reading.{read, first_again}
use Rattle.sb_script.specs.Replies.{bound_from, names_of_parameters, sorts_in_definition, sort_in_definition, name_errors, body_errors, unless_error, defines, define_by, define_function, declare_function}
use Rattle.sb_script.specs.Scopes.{Naming, a_term}
use Rattle.sb_script.specs.State.{State, names_of, marked}
use Rattle.sb_script.specs.Steps.{Step, fails_by, is_unsupported}
use Rattle.sb_script.specs.Symbols.{is_taken}
use Rattle.sb_sorts.specs.Bodies.{bound_in}
use Rattle.sb_sorts.specs.declared.read.Parameter.{Parameter}
use Rattle.sb_term.specs.Symbols.{sort_in}
use Rattle.sb_stack.specs.Defining.{parameter_in, sorts_in, names_in, HasPut, name_error, defines_as}

-- Parameters, form by form.

-- one more parameter in front, where the form is one
abbrev pub with_parameter : Option script.Parameter → List script.Parameter → List script.Parameter
with_parameter None ps = ps
with_parameter (Some p) ps = p ∷ ps

two_forms : (first sort : Form) (fs : List Form)
    → parameters_of (Group (more first (more sort none)) ∷ fs)
    ≡ with_parameter (parameter_in (Group (more first (more sort none)))) (parameters_of fs)
two_forms (Symbol name) sort fs = refl
two_forms (QuotedSymbol name) sort fs = refl
two_forms (Keyword name) sort fs = refl
two_forms (Numeral digits) sort fs = refl
two_forms (OtherNumber bytes) sort fs = refl
two_forms (Words bytes) sort fs = refl
two_forms (Group forms) sort fs = refl

one_form : (first : Form) (fs : List Form) → parameters_of (Group (more first none) ∷ fs) ≡ parameters_of fs
one_form (Symbol name) fs = refl
one_form (QuotedSymbol name) fs = refl
one_form (Keyword name) fs = refl
one_form (Numeral digits) fs = refl
one_form (OtherNumber bytes) fs = refl
one_form (Words bytes) fs = refl
one_form (Group forms) fs = refl

three_forms : (first second third : Form) (forms : Forms) (fs : List Form)
    → parameters_of (Group (more first (more second (more third forms))) ∷ fs) ≡ parameters_of fs
three_forms (Symbol name) second third forms fs = refl
three_forms (QuotedSymbol name) second third forms fs = refl
three_forms (Keyword name) second third forms fs = refl
three_forms (Numeral digits) second third forms fs = refl
three_forms (OtherNumber bytes) second third forms fs = refl
three_forms (Words bytes) second third forms fs = refl
three_forms (Group list) second third forms fs = refl

pub parameters_next : (form : Form) (fs : List Form)
    → parameters_of (form ∷ fs) ≡ with_parameter (parameter_in form) (parameters_of fs)
parameters_next (Symbol name) fs = refl
parameters_next (QuotedSymbol name) fs = refl
parameters_next (Keyword name) fs = refl
parameters_next (Numeral digits) fs = refl
parameters_next (OtherNumber bytes) fs = refl
parameters_next (Words bytes) fs = refl
parameters_next (Group none) fs = refl
parameters_next (Group (more first none)) fs = one_form first fs
parameters_next (Group (more first (more second none))) fs = two_forms first second fs
parameters_next (Group (more first (more second (more third forms)))) fs = three_forms first second third forms fs

pub next_is : (form : Form) (fs : List Form) (o : Option script.Parameter) → o ≡ parameter_in form
    → parameters_of (form ∷ fs) ≡ with_parameter o (parameters_of fs)
next_is form fs o is = parameters_next form fs ∙ ap (λ p. with_parameter p (parameters_of fs)) (sym is)

-- Parameters that are found, and those that are left.

-- sorts behind which others follow, where these are read
abbrev pub with_front : List Sort → Option (List Sort) → Option (List Sort)
with_front front rest = option_map (λ sorts. front ++ sorts) rest

pub record AreFound (all left : List script.Parameter) (found : List Parameter) : Type 0 where
  pub sorts : sorts_in_definition all ≡ with_front (sorts_in found) (sorts_in_definition left)
  pub names : names_of_parameters all ≡ map (λ p. p.name.now) found ++ names_of_parameters left

none_found : (o : Option (List Sort)) → o ≡ with_front [] o
none_found None = refl
none_found (Some sorts) = refl

pub at_start : (all : List script.Parameter) → AreFound all all []
at_start all = record { sorts = none_found (sorts_in_definition all); names = refl }

-- the sort of a parameter in front of others
abbrev by_sort : Option (List Sort) → Option Sort → Option (List Sort)
by_sort rest o = elim o [ Some sort ↦ option_map (λ sorts. sort ∷ sorts) rest | None ↦ None ]

one_behind : (front : List Sort) (sort : Sort) (rest : Option (List Sort))
    → with_front front (option_map (λ sorts. sort ∷ sorts) rest) ≡ with_front (front ++ sort ∷ []) rest
one_behind front sort None = refl
one_behind front sort (Some sorts) = ap Some (sym (append_assoc front (sort ∷ []) sorts))

pub one_found : (all left rest : List script.Parameter) (old new : List Parameter) (p : script.Parameter) (q : Parameter)
    → left ≡ p ∷ rest → new ≡ old ++ q ∷ [] → q.name.now ≡ p.0 → Some (sort_in q.sort) ≡ sort_in_definition p.1
    → AreFound all left old → AreFound all rest new
one_found all left rest old new p q split pushed name sort h =
    let sorts : sorts_in new ≡ sorts_in old ++ sort_in q.sort ∷ [] =
    ap sorts_in pushed ∙ map-append (λ (r : Parameter). sort_in r.sort) old (q ∷ []) in
    let names : map (λ (r : Parameter). r.name.now) new ≡ map (λ (r : Parameter). r.name.now) old ++ q.name.now ∷ [] =
    ap (map (λ (r : Parameter). r.name.now)) pushed ∙ map-append (λ (r : Parameter). r.name.now) old (q ∷ []) in
    record {
      sorts = h.sorts
          ∙ ap (with_front (sorts_in old)) (ap sorts_in_definition split
          ∙ ap (by_sort (sorts_in_definition rest)) (sym sort))
          ∙ one_behind (sorts_in old) (sort_in q.sort) (sorts_in_definition rest)
          ∙ ap (λ front. with_front front (sorts_in_definition rest)) (sym sorts);
      names = h.names
          ∙ ap (λ ps. map (λ (r : Parameter). r.name.now) old ++ names_of_parameters ps) split
          ∙ ap (λ n. map (λ (r : Parameter). r.name.now) old ++ n ∷ names_of_parameters rest) (sym name)
          ∙ sym (append_assoc (map (λ (r : Parameter). r.name.now) old) (q.name.now ∷ []) (names_of_parameters rest))
          ∙ ap (λ front. front ++ names_of_parameters rest) (sym names);
    }

pub all_found : (all left : List script.Parameter) (found : List Parameter) → left ≡ [] → AreFound all left found
    → (sorts_in_definition all ≡ Some (sorts_in found)) × (map (λ p. p.name.now) found ≡ names_of_parameters all)
all_found all left found ended h = (
  h.sorts ∙ ap (λ ps. with_front (sorts_in found) (sorts_in_definition ps)) ended
      ∙ ap Some (append-nil (sorts_in found)),
  sym (h.names ∙ ap (λ ps. map (λ (p : Parameter). p.name.now) found ++ names_of_parameters ps) ended
      ∙ append-nil (map (λ (p : Parameter). p.name.now) found)),
)

-- their sorts, which are the code's
pub sorts_as : (found : List Parameter) → map sort_in (map (λ p. p.sort) found) ≡ sorts_in found
sorts_as [] = refl
sorts_as (q ∷ qs) = ap (λ sorts. sort_in q.sort ∷ sorts) (sorts_as qs)

-- parameters as they are bound
pub bound_as : (place : ℕ) (found : List Parameter) (ps : List script.Parameter)
    → map (λ p. p.name.now) found ≡ names_of_parameters ps
    → bound_in place found ≡ bound_from place ps (sorts_in found)
bound_as place [] [] h = refl
bound_as place [] (p ∷ ps) h = refl
bound_as place (q ∷ qs) [] h = absurd (no_name q.name.now (map (λ (r : Parameter). r.name.now) qs) h)
  where
    no_name : (n : Name) (ns : List Name) → n ∷ ns ≡ [] → ⊥
    no_name n ns h = cc h
bound_as place (q ∷ qs) (p ∷ ps) h =
    let first : q.name.now ≡ p.0 = cc h in
    let others : map (λ (r : Parameter). r.name.now) qs ≡ names_of_parameters ps = cc h in
    ap₂ (λ (n : Name) (ns : List Naming). (n, a_term (parameter place (sort_in q.sort))) ∷ ns) first
    (bound_as (place + 1) qs ps others)

-- The first name that stands again.

-- what is looked for among names does not ask for their order
again_as : (old new names : List Name) → ((n : Name) → is_among old n ≡ is_among new n)
    → first_again old names ≡ first_again new names
again_as old new [] same = refl
again_as old new (name ∷ names) same =
    ap (λ (b : Bool). if b then Some name else first_again (name ∷ old) names) (same name)
    ∙ ap (λ (o : Option Name). if is_among new name then Some name else o)
    (again_as (name ∷ old) (name ∷ new) names (λ n. ap (λ (b : Bool). is_name n name || b) (same n)))

among_behind : (names : List Name) (name n : Name) → is_among (name ∷ names) n ≡ is_among (names ++ name ∷ []) n
among_behind [] name n = refl
among_behind (other ∷ names) name n =
    swapped (is_name n name) (is_name n other) (is_among names n)
    ∙ ap (λ (b : Bool). is_name n other || b) (among_behind names name n)
  where
    swapped : (a b c : Bool) → a || (b || c) ≡ b || (a || c)
    swapped true true c = refl
    swapped true false c = refl
    swapped false b c = refl

-- one more name that was not there
pub again_later : (all left rest old new : List Name) (name : Name) → left ≡ name ∷ rest → is_among old name ≡ false
    → new ≡ old ++ name ∷ [] → first_again [] all ≡ first_again old left → first_again [] all ≡ first_again new rest
again_later all left rest old new name split fresh put before =
    before ∙ ap (first_again old) split
    ∙ ap (λ (b : Bool). if b then Some name else first_again (name ∷ old) rest) fresh
    ∙ again_as (name ∷ old) new rest (λ n. among_behind old name n ∙ ap (λ ns. is_among ns n) (sym put))

-- a name among keys
among_keys : (keys : List (Vec ℕ Global)) (name : Name)
    → list_any (λ (k : Vec ℕ Global). pointwise nat_eq name k.items) keys ≡ is_among (names_in keys) name
among_keys [] name = refl
among_keys (k ∷ keys) name = ap (λ b. is_name name k.items || b) (among_keys keys name)

put_in : (b : Bool) (keys : List (Vec ℕ Global)) (key : Vec ℕ Global)
    → names_in (if b then keys else keys ++ key ∷ []) ≡ (if b then names_in keys else names_in keys ++ key.items ∷ [])
put_in true keys key = refl
put_in false keys key = map-append (λ (k : Vec ℕ Global). k.items) keys (key ∷ [])

-- where a key is put among others
abbrev has_key : List (Vec ℕ Global) → Vec ℕ Global → Bool
has_key keys key = list_any (λ (k : Vec ℕ Global). pointwise nat_eq key.items k.items) keys

put_key : (old new : List (Vec ℕ Global)) (key : Vec ℕ Global) (is_new : Bool) → is_new ≡ not (has_key old key)
    → new ≡ (if has_key old key then old else old ++ key ∷ [])
    → HasPut (names_in old) key.items (names_in new) is_new
put_key old new key is_new told put = record {
  told = told ∙ ap not (among_keys old key.items);
  names = ap names_in put ∙ put_in (has_key old key) old key
      ∙ ap (λ b. if b then names_in old else names_in old ++ key.items ∷ []) (among_keys old key.items);
}

pub name_put : (old new : List (Vec ℕ Global)) (key : Vec ℕ Global) (name : Name) (is_new : Bool) → key.items ≡ name
    → is_new ≡ not (has_key old key) → new ≡ (if has_key old key then old else old ++ key ∷ [])
    → HasPut (names_in old) name (names_in new) is_new
name_put old new key name is_new is told put =
    subst (λ n. HasPut (names_in old) n (names_in new) is_new) is (put_key old new key is_new told put)

new_name : (b : Bool) → not b ≡ true → b ≡ false
new_name true h = absurd (false≢true h)
new_name false h = refl

pub fresh_name : (old : List Name) (name : Name) (new : List Name) (is_new : Bool) → is_new ≡ true
    → HasPut old name new is_new → (is_among old name ≡ false) × (new ≡ old ++ name ∷ [])
fresh_name old name new is_new is put =
    let fresh = new_name (is_among old name) (sym put.told ∙ is) in
    (fresh, put.names ∙ ap (λ b. if b then old else old ++ name ∷ []) fresh)

-- The name that can't be declared.

-- of two errors of names, in front of others, the first counts
names_both : (name twice : Name) (o : Option Error)
    → earlier (error.already_declared name) (Some (earlier (error.already_declared twice) o))
    ≡ earlier (error.already_declared name) o
names_both name twice None = refl
names_both name twice (Some f) = step (nat_le 8 (place_of f)) refl
  where
    step : (b : Bool) → nat_le 8 (place_of f) ≡ b
        → earlier (error.already_declared name) (Some (if b then error.already_declared twice else f))
        ≡ (if b then error.already_declared name else f)
    step true is = refl
    step false is = ap (λ (b : Bool). if b then error.already_declared name else f) is

names_as : (taken : Bool) (again : Option Name) (name : Name) (bs : List Error)
    → first_of (((if taken then error.already_declared name ∷ [] else [])
    ++ elim again as (λ _. List Error) [ Some twice ↦ error.already_declared twice ∷ [] | None ↦ [] ]) ++ bs)
    ≡ first_of (name_error (if taken then Some name else again) ++ bs)
names_as true None name bs = refl
names_as true (Some twice) name bs = ap Some (names_both name twice (first_of bs))
names_as false None name bs = refl
names_as false (Some twice) name bs = refl

-- the name that can't be declared, by what is taken and what stands again
abbrev pub refused_of : Name → State → Option Name → Option Name
refused_of name s again = if is_taken (names_of s) name then Some name else again

abbrev by_first : Step → State → Option Error → Step
by_first step s o = elim o [ Some e ↦ fails_by e s | None ↦ step ]

errors_as : (name : Name) (ps : List script.Parameter) (s : State) (refused : Option Name) (bs : List Error) (step : Step)
    → refused ≡ refused_of name s (first_again [] (names_of_parameters ps))
    → unless_error (name_errors name ps s ++ bs) step s ≡ unless_error (name_error refused ++ bs) step s
errors_as name ps s refused bs step is =
    ap (by_first step s) (names_as (is_taken (names_of s) name) (first_again [] (names_of_parameters ps)) name bs
    ∙ ap (λ r. first_of (name_error r ++ bs)) (sym is))

pub free_name : (name : Name) (s : State) (refused again : Option Name) → refused ≡ refused_of name s again
    → refused ≡ None → is_taken (names_of s) name ≡ false
free_name name s refused again is nothing = step (is_taken (names_of s) name) (sym nothing ∙ is)
  where
    step : (b : Bool) → None ≡ (if b then Some name else again) → b ≡ false
    step true h = absurd (none-some name h)
    step false h = refl

-- What a definition becomes.

-- where a sort is left out
abbrev pub left_out : Name → Option Name → State → Step
left_out name refused s = unless_error (name_error refused) (is_unsupported (marked name s)) s

abbrev unread : Name → List script.Parameter → State → Step
unread name ps s = unless_error (name_errors name ps s) (is_unsupported (marked name s)) s

abbrev by_made : Name → List script.Parameter → Form → State → List Sort → Option Sort → Step
by_made name ps body s sorts o = elim o [ Some made ↦ define_by name ps sorts made body s | None ↦ unread name ps s ]

abbrev by_sorts : Name → List script.Parameter → Form → State → Option Sort → Option (List Sort) → Step
by_sorts name ps body s made o = elim o [ Some sorts ↦ by_made name ps body s sorts made | None ↦ unread name ps s ]

unread_as : (name : Name) (ps : List script.Parameter) (s : State) (refused : Option Name)
    → refused ≡ refused_of name s (first_again [] (names_of_parameters ps)) → unread name ps s ≡ left_out name refused s
unread_as name ps s refused is =
    let step : Step = is_unsupported (marked name s) in
    ap (λ es. unless_error es step s) (sym (append-nil (name_errors name ps s)))
    ∙ errors_as name ps s refused [] step is
    ∙ ap (λ es. unless_error es step s) (append-nil (name_error refused))

pub made_left_out : (name : Name) (ps : List script.Parameter) (sort body : Form) (s : State) (refused : Option Name)
    → refused ≡ refused_of name s (first_again [] (names_of_parameters ps)) → None ≡ sort_in_definition sort
    → define_function name ps sort body s ≡ left_out name refused s
made_left_out name ps sort body s refused is nothing =
    ap (λ o. by_sorts name ps body s o (sorts_in_definition ps)) (sym nothing) ∙ either_way (sorts_in_definition ps)
    ∙ unread_as name ps s refused is
  where
    either_way : (o : Option (List Sort)) → by_sorts name ps body s None o ≡ unread name ps s
    either_way None = refl
    either_way (Some sorts) = refl

pub sorts_left_out : (name : Name) (ps : List script.Parameter) (sort body : Form) (s : State) (refused : Option Name)
    → refused ≡ refused_of name s (first_again [] (names_of_parameters ps)) → sorts_in_definition ps ≡ None
    → define_function name ps sort body s ≡ left_out name refused s
sorts_left_out name ps sort body s refused is nothing =
    ap (by_sorts name ps body s (sort_in_definition sort)) nothing ∙ unread_as name ps s refused is

pub defined_as : (name : Name) (ps : List script.Parameter) (sort body : Form) (s : State) (refused : Option Name)
    (found : List Parameter) (made : Sort) → refused ≡ refused_of name s (first_again [] (names_of_parameters ps))
    → sorts_in_definition ps ≡ Some (sorts_in found) → map (λ p. p.name.now) found ≡ names_of_parameters ps
    → Some made ≡ sort_in_definition sort
    → define_function name ps sort body s
    ≡ defines_as refused made name (sorts_in found) (read (bound_in 0 found ++ names_of s) body) s
defined_as name ps sort body s refused found made is sorts names sort_is =
    let reading : Result Term Fault = read (bound_in 0 found ++ names_of s) body in
    let by_reading : Result Term Fault → Step = λ q.
    unless_error (name_errors name ps s ++ body_errors made q) (defines name (sorts_in found) q s) s in
    ap₂ (by_sorts name ps body s) (sym sort_is) sorts
    ∙ ap (λ (bound : List Naming). by_reading (read (bound ++ names_of s) body)) (sym (bound_as 0 found ps names))
    ∙ errors_as name ps s refused (body_errors made reading) (defines name (sorts_in found) reading s) is

-- a free name is marked
pub marks_free : (name : Name) (s : State) → is_taken (names_of s) name ≡ false
    → is_unsupported (marked name s) ≡ declare_function name s
marks_free name s free =
    ap (λ (b : Bool). if b then fails_by (error.already_declared name) s else is_unsupported (marked name s)) (sym free)
