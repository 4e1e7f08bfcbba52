-- Names in force while a term is read: what a name is as a head, and what stays where the table grows.
use Rattle.std.proofs.Common.{◌≡◌, ℕ, ◌<◌, Bool, true, false, not, ◌&&◌, if◌then◌else◌, nat_lt, List, [], ◌∷◌, ◌++◌, map, length, codes, All, Option, Some, None, is_some, is_none, option_map, Result, Ok, Err, IfOk, refl, sym, ap, ap₂, subst, ◌∙◌, arith}
use Rattle.std.proofs.lemmas.Bool.{ltb-true, lt-ltb, not-true, not-false, and_parts, false≢true}
use Rattle.std.proofs.lemmas.List.Elements.{All-head, All-tail}
use Rattle.std.proofs.lemmas.Option.{same_Some}
use Rattle.std.proofs.lemmas.Result.{IfOk-weaker}
use Rattle.sb_meaning.specs.Terms.{Term}
use Rattle.sb_script.specs.Names.{Name, is_name}
use Rattle.sb_reader.specs.Forms.{Forms}
use Rattle.sb_script.specs.Scopes.{Naming, Named, a_constant, a_definition, a_marked_name, a_term, named}
use Rattle.sb_script.specs.Faults.{Fault, unknown_symbol}
use Rattle.sb_script.specs.Heads as meaning
use Rattle.sb_script.specs.Heads.{head_definition, head_term, head_of, head_of_theory, read_head, character_word, without_indices}
use Rattle.sb_term.specs.Numbered.{term_at, AllNumbers, Extends}
use Rattle.sb_term.specs.Symbols.{sort_in}
use Rattle.sb_term.proofs.CallerLemmas.{at_kept, numbers_kept}
use Rattle.sb_sorts.specs.declared.head.Head.{Head}
use Rattle.sb_sorts.specs.declared.head.Head.TheVariants as head
use Rattle.sb_sorts.specs.declared.read.ReadFault.{ReadFault}
use Rattle.sb_sorts.specs.declared.read.ReadFault.TheVariants as fault
use Rattle.sb_sorts.specs.Reads.{Faults}
use Rattle.sb_sorts.specs.Heads.{head_in, head_below, has_number_below, is_of_theories, Gives}
use Rattle.sb_sorts.specs.Locals.{bound_to, names_at, AreAt}
use Rattle.sb_sorts.specs.Scopes.{ScopeNames, names_in}
use Rattle.sb_sorts.proofs.Bound.{same_name}
use Rattle.sb_sorts.proofs.CallerLemmas.{names_stay, bodies_stay}

-- What a name stands for: what it is bound to, else what the scope has.

abbrev named_by : (ℕ → Named) → Option ℕ → Option Named → Option Named
named_by f (Some id) rest = Some (f id)
named_by f None rest = rest

named_step : (f : ℕ → Named) (b : Bool) (id : ℕ) (found : Option ℕ) (all rest : Option Named)
    → all ≡ named_by f found rest
    → (if b then Some (f id) else all) ≡ named_by f (if b then Some id else found) rest
named_step f true id found all rest h = refl
named_step f false id found all rest h = h

abbrev bound_in : List Term → List (Name × ℕ) → List Naming
bound_in ts locals = map (λ (l : Name × ℕ). (l.0, a_term (term_at ts l.1))) locals

named_front : (ts : List Term) (locals : List (Name × ℕ)) (names : List Naming) (name : Name)
    → named (bound_in ts locals ++ names) name
    ≡ named_by (λ id. a_term (term_at ts id)) (bound_to locals name) (named names name)
named_front ts [] names name = refl
named_front ts (l ∷ locals) names name =
    named_step (λ id. a_term (term_at ts id)) (is_name name l.0) l.1 (bound_to locals name)
    (named (bound_in ts locals ++ names) name) (named names name) (named_front ts locals names name)

-- as a head
abbrev head_by : Option Named → Name → Result meaning.Head Fault
head_by (Some n) name = head_of n
head_by None name = head_of_theory name

head_step : (o : Option Named) (name : Name)
    → (elim o as (λ _. Result meaning.Head Fault) [ Some n ↦ head_of n | None ↦ head_of_theory name ]) ≡ head_by o name
head_step None name = refl
head_step (Some n) name = refl

none_by : (f : ℕ → Named) (o : Option ℕ) (p : Option Named) → is_none (named_by f o p) ≡ (is_none o && is_none p)
none_by f None p = refl
none_by f (Some id) p = refl

module _ (ts : List Term) (locals : List (Name × ℕ)) (scope : ScopeNames) (name : Name) where
  head_at : (o : Option ℕ) (p : Option Named) → o ≡ bound_to locals name → p ≡ named (names_in ts scope) name
      → read_head (names_at ts locals scope) name ≡ head_by (named_by (λ id. a_term (term_at ts id)) o p) name
  head_at o p here there =
      head_step (named (names_at ts locals scope) name) name
      ∙ ap (λ q. head_by q name) (named_front ts locals (names_in ts scope) name
      ∙ ap₂ (named_by (λ id. a_term (term_at ts id))) (sym here) (sym there))

  pub head_bound : (id : ℕ) → Some id ≡ bound_to locals name
      → read_head (names_at ts locals scope) name ≡ Ok (head_term (term_at ts id))
  head_bound id here = head_at (Some id) (named (names_in ts scope) name) here refl

  pub head_named : (n : Named) → None ≡ bound_to locals name → Some n ≡ named (names_in ts scope) name
      → read_head (names_at ts locals scope) name ≡ head_of n
  head_named n here there = head_at None (Some n) here there

  pub head_unnamed : None ≡ bound_to locals name → None ≡ named (names_in ts scope) name
      → read_head (names_at ts locals scope) name ≡ head_of_theory name
  head_unnamed here there = head_at None None here there

  -- a name that stands for nothing
  pub none_at : (o : Option ℕ) (p : Option Named) → o ≡ bound_to locals name → p ≡ named (names_in ts scope) name
      → is_none (named (names_at ts locals scope) name) ≡ (is_none o && is_none p)
  none_at o p here there =
      ap is_none (named_front ts locals (names_in ts scope) name
      ∙ ap₂ (named_by (λ id. a_term (term_at ts id))) (sym here) (sym there))
      ∙ none_by (λ id. a_term (term_at ts id)) o p

-- where some of it is none
pub free_behind : {A : Type 0} (f : A → Named) (r all : Bool) (o : Option ℕ) (q : Option A)
    → all ≡ (is_none o && is_none (option_map f q)) → is_none o ≡ true → is_some q ≡ not r → r ≡ all
free_behind f r all o None is none test = not-false r (sym test) ∙ sym (is ∙ ap (λ b. b && true) none)
free_behind f r all o (Some x) is none test = not-true r (sym test) ∙ sym (is ∙ ap (λ b. b && false) none)

-- Indices behind a name.

unknown_none : (o : Option Named) (name unknown : Name) → head_by o name ≡ Err (unknown_symbol unknown)
    → is_none o ≡ true
unknown_none None name unknown h = refl
unknown_none (Some (a_constant serial sort)) name unknown h = absurd (Prim.cc (h))
unknown_none (Some (a_definition sorts body)) name unknown h = absurd (Prim.cc (h))
unknown_none (Some a_marked_name) name unknown h = absurd (Prim.cc (h))
unknown_none (Some (a_term t)) name unknown h = absurd (Prim.cc (h))

first_false : (b d : Bool) → (b && d) ≡ false → d ≡ true → b ≡ false
first_false true true h e = h
first_false true false h e = absurd (false≢true e)
first_false false d h e = refl

none_from : (o : Option Named) → is_none o ≡ true → o ≡ None
none_from None h = refl
none_from (Some n) h = absurd (false≢true h)

-- the fault of `char`, or another
abbrev by_char : Forms → Name → Bool → Result meaning.Head Fault
by_char indices unknown test = if test then character_word indices else Err (unknown_symbol unknown)

module _ (names : List Naming) (name : Name) (indices : Forms) where
  -- `char`, where it stands for nothing
  pub char_free : (is_name name (codes "char") && is_none (named names name)) ≡ true
      → without_indices name indices (read_head names name) ≡ character_word indices
  char_free h =
      let parts = and_parts (is_name name (codes "char")) (is_none (named names name)) h in
      let unknown : read_head names name ≡ Err (unknown_symbol (codes "char")) =
      head_step (named names name) name ∙ ap (λ o. head_by o name) (none_from (named names name) parts.1)
      ∙ ap head_of_theory (same_name name (codes "char") parts.0) in
      ap (without_indices name indices) unknown ∙ ap (by_char indices (codes "char")) parts.0

  -- else a fault stays as it is
  pub fault_without : (e : ReadFault) → (is_name name (codes "char") && is_none (named names name)) ≡ false
      → Faults (read_head names name) e → Faults (without_indices name indices (read_head names name)) e
  fault_without (fault.UnknownSymbol unknown) h given =
      let free = unknown_none (named names name) name unknown.items
      (sym (head_step (named names name) name) ∙ given) in
      ap (without_indices name indices) given
      ∙ ap (by_char indices unknown.items)
      (first_false (is_name name (codes "char")) (is_none (named names name)) h free)
  fault_without fault.WrongSort h given = ap (without_indices name indices) given
  fault_without fault.WrongCount h given = ap (without_indices name indices) given
  fault_without fault.BadIndex h given = ap (without_indices name indices) given
  fault_without fault.NumeralTooLarge h given = ap (without_indices name indices) given
  fault_without fault.Unsupported h given = ap (without_indices name indices) given
  fault_without fault.BadLiteral h given = ap (without_indices name indices) given
  fault_without fault.Malformed h given = ap (without_indices name indices) given
  fault_without (fault.AlreadyBound again) h given = ap (without_indices name indices) given
  fault_without fault.NoMemory h given = given

-- the exit of a fault
pub gives_fault : {A B : Type 0} (view : B → A) (reading begun : Result A Fault) (result : Result B ReadFault)
    (e y : ReadFault) → result ≡ Err y → y ≡ e → reading ≡ begun → Faults begun e → Gives view reading result
gives_fault view reading begun result e y is same by given =
    subst (Gives view reading) (sym (is ∙ ap Err same)) (subst (λ r. Faults r e) (sym by) given)

-- what is bound has a number of the table
bound_step : (n : ℕ) (b : Bool) (i id : ℕ) (found : Option ℕ) → i < n → (Some id ≡ found → id < n)
    → Some id ≡ (if b then Some i else found) → id < n
bound_step n true i id found here there h = let same : id ≡ i = same_Some id i h in omega (arith, here, same)
bound_step n false i id found here there h = there h

pub bound_below : (n : ℕ) (locals : List (Name × ℕ)) (name : Name) (id : ℕ)
    → All (λ i. i < n) (map (λ (l : Name × ℕ). l.1) locals) → Some id ≡ bound_to locals name → id < n
bound_below n [] name id all h = absurd (Prim.cc (h))
bound_below n (l ∷ locals) name id all h =
    let numbers = map (λ (l : Name × ℕ). l.1) locals in
    bound_step n (is_name name l.0) l.1 id (bound_to locals name) (All-head (λ i. i < n) l.1 numbers all)
    (bound_below n locals name id (All-tail (λ i. i < n) l.1 numbers all)) h

pub head_number_bound : (ts : List Term) (locals : List (Name × ℕ)) (scope : ScopeNames) (name : Name) (id : ℕ)
    → AreAt ts locals scope → Some id ≡ bound_to locals name → nat_lt id (length ts) ≡ true
head_number_bound ts locals scope name id right h =
    lt-ltb id (length ts) (bound_below (length ts) locals name id right.bound h)

-- Heads of the theories speak of no constant, and of no number.

pub of_theories_below : (n : ℕ) (h : Head) → is_of_theories h ≡ true → head_below n h ≡ true
of_theories_below n (head.Constant serial sort) e = absurd (false≢true e)
of_theories_below n (head.Character c) e = refl
of_theories_below n (head.Bound id) e = absurd (false≢true e)
of_theories_below n (head.Symbol s) e = refl
of_theories_below n (head.Definition d) e = absurd (false≢true e)

pub of_theories_number : (n : ℕ) (h : Head) → is_of_theories h ≡ true → has_number_below n h ≡ true
of_theories_number n (head.Constant serial sort) e = absurd (false≢true e)
of_theories_number n (head.Character c) e = refl
of_theories_number n (head.Bound id) e = absurd (false≢true e)
of_theories_number n (head.Symbol s) e = refl
of_theories_number n (head.Definition d) e = absurd (false≢true e)

-- the same of what is read
pub theories_below : (n : ℕ) (r : Result Head ReadFault) → IfOk r (λ h. is_of_theories h ≡ true)
    → IfOk r (λ h. head_below n h ≡ true)
theories_below n r h =
    IfOk-weaker r (λ h. is_of_theories h ≡ true) (λ h. head_below n h ≡ true) (of_theories_below n) h

pub theories_number : (n : ℕ) (r : Result Head ReadFault) → IfOk r (λ h. is_of_theories h ≡ true)
    → IfOk r (λ h. has_number_below n h ≡ true)
theories_number n r h =
    IfOk-weaker r (λ h. is_of_theories h ≡ true) (λ h. has_number_below n h ≡ true) (of_theories_number n) h

-- Where the table grows.

pub head_stays : (old new : List Term) (h : Head) → Extends old new → has_number_below (length old) h ≡ true
    → head_in new h ≡ head_in old h
head_stays old new (head.Constant serial sort) e below = refl
head_stays old new (head.Character c) e below = refl
head_stays old new (head.Bound id) e below = ap head_term (at_kept old new id e (ltb-true id (length old) below))
head_stays old new (head.Symbol s) e below = refl
head_stays old new (head.Definition d) e below =
    ap (head_definition (map sort_in d.now.sorts))
    (at_kept old new d.now.body e (ltb-true d.now.body (length old) below))

bound_stays : (old new : List Term) (locals : List (Name × ℕ)) → Extends old new
    → AllNumbers old (map (λ (l : Name × ℕ). l.1) locals) → bound_in new locals ≡ bound_in old locals
bound_stays old new [] e all = refl
bound_stays old new (l ∷ locals) e all =
    let numbers = map (λ (l : Name × ℕ). l.1) locals in
    ap₂ (λ (t : Term) (ns : List Naming). (l.0, a_term t) ∷ ns)
    (at_kept old new l.1 e (All-head (λ i. i < length old) l.1 numbers all))
    (bound_stays old new locals e (All-tail (λ i. i < length old) l.1 numbers all))

pub names_at_stay : (old new : List Term) (locals : List (Name × ℕ)) (scope : ScopeNames) → Extends old new
    → AreAt old locals scope → names_at new locals scope ≡ names_at old locals scope
names_at_stay old new locals scope e right =
    ap₂ ◌++◌ (bound_stays old new locals e right.bound) (names_stay old new scope e right.bodies)

pub at_stays : (old new : List Term) (locals : List (Name × ℕ)) (scope : ScopeNames) → Extends old new
    → AreAt old locals scope → AreAt new locals scope
at_stays old new locals scope e right = record {
  bound = numbers_kept old new (map (λ (l : Name × ℕ). l.1) locals) e right.bound;
  bodies = bodies_stay old new scope e right.bodies;
}
