-- What a let and a list of parameters bind: their values one by one, the first name that stands again, and what is
-- bound at once.
use Rattle.std.proofs.Common.{◌≡◌, ℕ, ◌+◌, ◌-◌, ◌<◌, ◌≤◌, Bool, true, false, not, ◌||◌, if◌then◌else◌, List, [], ◌∷◌, ◌++◌, length, length-append, map, drop, get_or, Option, Some, None, Result, Ok, Err, sym, refl, ap, ap₂, subst, ◌∙◌, arith, append_assoc, true≢false}
use Rattle.std.proofs.lemmas.Bool.{false≢true}
use Rattle.std.proofs.lemmas.List.{map-append, append-nil, drop_more, drop_all, drop_at}
use Rattle.std.proofs.lemmas.List.Elements.{All-cons, All-append}
use Rattle.std.proofs.lemmas.List.Folds.{list_any-append}
use Rattle.std.specs.List.{list_any}
use Rattle.std.specs.declared.vec.Vec.{Vec}
use Rattle.std.specs.declared.alloc.Global.{Global}
use Rattle.sb_reader.specs.Forms.{Form, Forms, Symbol, QuotedSymbol, Keyword, Numeral, OtherNumber, Words, Group, none, more}
use Rattle.sb_meaning.specs.Terms as meaning
use Rattle.sb_meaning.specs.Terms.{parameter}
use Rattle.sb_script.specs.Names.{Name, is_name, is_among}
use Rattle.sb_script.specs.Scopes.{Naming, a_term}
use Rattle.sb_script.specs.Faults.{Fault, malformed, already_bound}
use Rattle.sb_script.specs.Reading.{◌>>=◌, read, read_let, read_bindings, first_again, names_in, once}
use Rattle.sb_term.specs.Numbered.{term_at, AllNumbers, Names, Extends}
use Rattle.sb_term.specs.Symbols.{sort_in}
use Rattle.sb_term.proofs.CallerLemmas.{numbers_kept, names_at as at_named, names_below}
use Rattle.sb_sorts.specs.declared.read.ReadFault.{ReadFault}
use Rattle.sb_sorts.specs.declared.read.Parameter.{Parameter}
use Rattle.sb_sorts.specs.declared.read.Bound.{Bound}
use Rattle.sb_sorts.specs.Growth.{Grows}
use Rattle.sb_sorts.specs.Reads.{Faults}
use Rattle.sb_sorts.specs.Scopes.{ScopeNames, AreBodies, names_in as names_kept}
use Rattle.sb_sorts.specs.Locals.{names_at, AreAt}
use Rattle.sb_sorts.specs.Bodies.{bound_in}
use Rattle.sb_sorts.specs.Binding.{pairs_of, locals_at, first_again_in, items_of, HasBound, HasParameters, binding_of}
use Rattle.sb_sorts.proofs.Sizes.{size_of_all, size_of_more}
use Rattle.sb_sorts.proofs.CallerLemmas.{names_stay, bodies_stay}
use Rattle.sb_sorts.proofs.Staying.{names_at_stay, at_stays}
use Rattle.sb_sorts.proofs.Reading.{Stays, stays_first, stays_more, faults_first, none_before, one_more, one_fault, none_left, numbers_push}

abbrev Pairs : Type 0
Pairs = List (Name × ℕ)

abbrev numbers_of : Pairs → List ℕ
numbers_of ls = map (λ (l : Name × ℕ). l.1) ls

-- what is bound keeps its terms as the table grows
pairs_stay : (old new : List meaning.Term) (ls : Pairs) → Extends old new → AllNumbers old (numbers_of ls)
    → locals_at new ls ≡ locals_at old ls
pairs_stay old new ls e all =
    let nothing : ScopeNames = record { names = []; sorts = []; global = false } in
    sym (append-nil (locals_at new ls)) ∙ names_at_stay old new ls nothing e (record { bound = all; bodies = refl })
    ∙ append-nil (locals_at old ls)

-- Bindings that are read one after the other.

abbrev bound_by : List Naming → Forms → Option (Name × Form) → Result (List Naming) Fault
bound_by names rest None = Err malformed
bound_by names rest (Some (name, value)) =
    read names value >>= (λ t. read_bindings names rest >>= (λ bound. Ok ((name, a_term t) ∷ bound)))

one_part : (names : List Naming) (f : Form) (rest : Forms)
    → read_bindings names (more (Group (more f none)) rest) ≡ Err malformed
one_part names (Symbol name) rest = refl
one_part names (QuotedSymbol name) rest = refl
one_part names (Keyword name) rest = refl
one_part names (Numeral digits) rest = refl
one_part names (OtherNumber bytes) rest = refl
one_part names (Words bytes) rest = refl
one_part names (Group list) rest = refl

two_parts : (names : List Naming) (f g : Form) (rest : Forms)
    → read_bindings names (more (Group (more f (more g none))) rest)
    ≡ bound_by names rest (binding_of (Group (more f (more g none))))
two_parts names (Symbol name) g rest = refl
two_parts names (QuotedSymbol name) g rest = refl
two_parts names (Keyword name) g rest = refl
two_parts names (Numeral digits) g rest = refl
two_parts names (OtherNumber bytes) g rest = refl
two_parts names (Words bytes) g rest = refl
two_parts names (Group list) g rest = refl

many_parts : (names : List Naming) (f g h : Form) (hs rest : Forms)
    → read_bindings names (more (Group (more f (more g (more h hs)))) rest) ≡ Err malformed
many_parts names (Symbol name) g h hs rest = refl
many_parts names (QuotedSymbol name) g h hs rest = refl
many_parts names (Keyword name) g h hs rest = refl
many_parts names (Numeral digits) g h hs rest = refl
many_parts names (OtherNumber bytes) g h hs rest = refl
many_parts names (Words bytes) g h hs rest = refl
many_parts names (Group list) g h hs rest = refl

binding_read : (names : List Naming) (form : Form) (rest : Forms)
    → read_bindings names (more form rest) ≡ bound_by names rest (binding_of form)
binding_read names (Symbol name) rest = refl
binding_read names (QuotedSymbol name) rest = refl
binding_read names (Keyword name) rest = refl
binding_read names (Numeral digits) rest = refl
binding_read names (OtherNumber bytes) rest = refl
binding_read names (Words bytes) rest = refl
binding_read names (Group none) rest = refl
binding_read names (Group (more f none)) rest = one_part names f rest
binding_read names (Group (more f (more g none))) rest = two_parts names f g rest
binding_read names (Group (more f (more g (more h hs)))) rest = many_parts names f g h hs rest

-- the bindings that were read so far, and what is left to read
pub record HasBoundSofar (n : ℕ) (scope : ScopeNames) (start : List meaning.Term) (locals : List (Name × ℕ))
    (forms : Forms) (ts : List meaning.Term) (now bound : List (Name × ℕ)) (left : Forms) : Type 0
  where
    pub all : read_bindings (names_at start locals scope) forms
        ≡ (read_bindings (names_at start locals scope) left >>= (λ us. Ok (locals_at ts bound ++ us)))
    pub no_larger : size_of_all left ≤ size_of_all forms
    pub numbers : AllNumbers ts (map (λ (l : Name × ℕ). l.1) bound)
    pub stays : Stays n scope start locals ts now

pub has_bound_none : (n : ℕ) (scope : ScopeNames) (start : List meaning.Term) (locals : List (Name × ℕ)) (forms : Forms)
    (bs : List Bound) → bs ≡ [] → AreAt start locals scope
    → HasBoundSofar n scope start locals forms start locals (pairs_of bs) forms
has_bound_none n scope start locals forms bs empty at =
    subst (λ (xs : List Bound). HasBoundSofar n scope start locals forms start locals (pairs_of xs) forms) (sym empty)
    (record {
      all = none_before (read_bindings (names_at start locals scope) forms);
      no_larger = omega arith;
      numbers = λ k d l. absurd (omega arith);
      stays = stays_first n scope start locals at;
    })

module _ (n : ℕ) (scope : ScopeNames) (start : List meaning.Term) (locals : List (Name × ℕ)) (forms : Forms)
    (ts : List meaning.Term) (now bound : List (Name × ℕ)) (all left : Forms) (form : Form)
    (so_far : HasBoundSofar n scope start locals forms ts now bound all) (split : all ≡ more form left) where
  split_value : (name : Name) (value : Form) → Some (name, value) ≡ binding_of form
      → read_bindings (names_at start locals scope) all
      ≡ (read (names_at start locals scope) value
      >>= (λ t. read_bindings (names_at start locals scope) left >>= (λ us. Ok ((name, a_term t) ∷ us))))
  split_value name value is =
      let names = names_at start locals scope in
      ap (read_bindings names) split ∙ binding_read names form left ∙ ap (bound_by names left) (sym is)

  -- one more value was read
  pub bounds_one : (us : List meaning.Term) (next : List (Name × ℕ)) (id : ℕ) (name : Name) (value : Form)
      (more_bound : List (Name × ℕ)) → Some (name, value) ≡ binding_of form
      → (read (names_at ts now scope) value ≡ Ok (term_at us id)) × (id < length us) → Grows n ts us → next ≡ now
      → more_bound ≡ bound ++ (name, id) ∷ [] → HasBoundSofar n scope start locals forms us next more_bound left
  bounds_one us next id name value more_bound is reading grows same pushed_is =
      let names = names_at start locals scope in
      let terms : locals_at us (bound ++ (name, id) ∷ []) ≡ locals_at ts bound ++ (name, a_term (term_at us id)) ∷ [] =
      map-append (λ (l : Name × ℕ). (l.0, a_term (term_at us l.1))) bound ((name, id) ∷ [])
      ∙ ap (λ vs. vs ++ (name, a_term (term_at us id)) ∷ []) (pairs_stay ts us bound grows.extends so_far.numbers) in
      subst (λ ls. HasBoundSofar n scope start locals forms us next ls left) (sym pushed_is) (record {
        all = one_more (λ (t : meaning.Term). (name, a_term t)) (locals_at ts bound) (read_bindings names forms)
            (read_bindings names all) (read_bindings names left) (read names value) so_far.all
            (split_value name value is) (term_at us id)
            (ap (λ ns. read ns value) (sym so_far.stays.names) ∙ reading.0)
            ∙ ap (λ done. read_bindings names left >>= (λ vs. Ok (done ++ vs))) (sym terms);
        no_larger = omega (arith, so_far.no_larger, size_of_more all form left split);
        numbers = subst (λ is. AllNumbers us is) (sym (map-append (λ (l : Name × ℕ). l.1) bound ((name, id) ∷ [])))
            (numbers_push us (numbers_of bound) id (numbers_kept ts us (numbers_of bound) grows.extends so_far.numbers)
            reading.1);
        stays = stays_more n scope start locals ts us now next so_far.stays grows same;
      })

  pub bounds_fault : (name : Name) (value : Form) (e : ReadFault) → Some (name, value) ≡ binding_of form
      → Faults (read (names_at ts now scope) value) e → Faults (read_bindings (names_at start locals scope) forms) e
  bounds_fault name value e is h =
      let names = names_at start locals scope in
      one_fault (λ (t : meaning.Term). (name, a_term t)) (locals_at ts bound) (read_bindings names forms)
      (read_bindings names all) (read_bindings names left) (read names value) so_far.all (split_value name value is) e
      (subst (λ ns. Faults (read ns value) e) so_far.stays.names h)

  -- what is no binding
  pub bounds_none : None ≡ binding_of form → read_bindings (names_at start locals scope) forms ≡ Err malformed
  bounds_none is =
      let names = names_at start locals scope in
      so_far.all
      ∙ ap (λ r. r >>= (λ us. Ok (locals_at ts bound ++ us)))
      (ap (read_bindings names) split ∙ binding_read names form left ∙ ap (bound_by names left) (sym is))

pub bounds_all : (n : ℕ) (scope : ScopeNames) (start : List meaning.Term) (locals : List (Name × ℕ))
    (forms left : Forms) (ts : List meaning.Term) (now bound : List (Name × ℕ))
    → HasBoundSofar n scope start locals forms ts now bound left → left ≡ none
    → HasBound ts (read_bindings (names_at start locals scope) forms) bound
bounds_all n scope start locals forms left ts now bound so_far empty = record {
  bindings = none_left (locals_at ts bound) (read_bindings (names_at start locals scope) forms)
      (read_bindings (names_at start locals scope) left) so_far.all
      (ap (read_bindings (names_at start locals scope)) empty);
  numbers = so_far.numbers;
}

-- The first name that stands again.

again_same : (a b ns : List Name) → ((m : Name) → is_among a m ≡ is_among b m) → first_again a ns ≡ first_again b ns
again_same a b [] same = refl
again_same a b (n ∷ ns) same =
    ap₂ (λ (t : Bool) (o : Option Name). if t then Some n else o) (same n)
    (again_same (n ∷ a) (n ∷ b) ns (λ m. ap (λ t. is_name m n || t) (same m)))

or_swap : (x y : Bool) → (x || y) ≡ (y || (x || false))
or_swap true true = refl
or_swap true false = refl
or_swap false true = refl
or_swap false false = refl

put_behind : (a : List Name) (n m : Name) → is_among (n ∷ a) m ≡ is_among (a ++ n ∷ []) m
put_behind a n m =
    or_swap (is_name m n) (is_among a m) ∙ sym (list_any-append (λ (other : Name). is_name m other) a (n ∷ []))

not_false : (r b : Bool) → r ≡ not b → r ≡ true → b ≡ false
not_false r true is h = absurd (false≢true (sym is ∙ h))
not_false r false is h = refl

not_true : (r b : Bool) → r ≡ not b → r ≡ false → b ≡ true
not_true r true is h = refl
not_true r false is h = absurd (true≢false (sym is ∙ h))

abbrev names_bound : List Bound → List Name
names_bound bs = map (λ (l : Name × ℕ). l.0) (pairs_of bs)

module _ (bs : List Bound) (i : ℕ) (b : Bound) (keys : List (Vec ℕ Global)) (r : Bool) (within : i < length bs)
    (is : b ≡ get_or bs i b) (new : r ≡ not (is_among (items_of keys) b.name.now))
    (so_far : first_again [] (names_bound bs) ≡ first_again (items_of keys) (names_bound (drop i bs))) where
  at_name : first_again [] (names_bound bs) ≡ first_again (items_of keys) (b.name.now ∷ names_bound (drop (i + 1) bs))
  at_name =
      so_far
      ∙ ap (λ (xs : List Bound). first_again (items_of keys) (names_bound xs))
      (drop_more bs i b within ∙ ap (λ (c : Bound). c ∷ drop (i + 1) bs) (sym is))

  pub again_step : (more_keys : List (Vec ℕ Global)) → r ≡ true
      → items_of more_keys ≡ items_of keys ++ b.name.now ∷ []
      → first_again [] (names_bound bs) ≡ first_again (items_of more_keys) (names_bound (drop (i + 1) bs))
  again_step more_keys h put =
      let name = b.name.now in
      let rest = names_bound (drop (i + 1) bs) in
      at_name
      ∙ ap (λ (t : Bool). if t then Some name else first_again (name ∷ items_of keys) rest)
      (not_false r (is_among (items_of keys) name) new h)
      ∙ again_same (name ∷ items_of keys) (items_of keys ++ name ∷ []) rest (put_behind (items_of keys) name)
      ∙ ap (λ ks. first_again ks rest) (sym put)

  pub again_stop : r ≡ false → Some b.name.now ≡ first_again [] (names_bound bs)
  again_stop h =
      let name = b.name.now in
      sym (at_name
      ∙ ap (λ (t : Bool). if t then Some name else first_again (name ∷ items_of keys) (names_bound (drop (i + 1) bs)))
      (not_true r (is_among (items_of keys) name) new h))

pub again_start : (bs : List Bound) (keys : List (Vec ℕ Global)) → keys ≡ []
    → first_again [] (names_bound bs) ≡ first_again (items_of keys) (names_bound bs)
again_start bs keys empty = ap (λ ks. first_again (items_of ks) (names_bound bs)) (sym empty)

pub again_end : (bs : List Bound) (i : ℕ) (keys : List (Vec ℕ Global)) → length bs ≤ i
    → first_again [] (names_bound bs) ≡ first_again (items_of keys) (names_bound (drop i bs))
    → None ≡ first_again [] (names_bound bs)
again_end bs i keys past so_far =
    sym (so_far ∙ ap (λ (xs : List Bound). first_again (items_of keys) (names_bound xs)) (drop_all i bs past))

-- a name that is put among others
among_keys : (name : Name) (keys : List (Vec ℕ Global))
    → list_any (λ (k : Vec ℕ Global). is_name name k.items) keys ≡ is_among (items_of keys) name
among_keys name [] = refl
among_keys name (k ∷ keys) = ap (λ b. is_name name k.items || b) (among_keys name keys)

module _ (keys : List (Vec ℕ Global)) (key : Vec ℕ Global) (name : Name) (r : Bool) (is : key.items ≡ name)
    (added : r ≡ not (list_any (λ (k : Vec ℕ Global). is_name key.items k.items) keys)) where
  pub is_put : r ≡ not (is_among (items_of keys) name)
  is_put =
      added
      ∙ ap not (ap (λ (w : Name). list_any (λ (k : Vec ℕ Global). is_name w k.items) keys) is ∙ among_keys name keys)

  pub put_last : (more_keys : List (Vec ℕ Global))
      → more_keys
      ≡ (if list_any (λ (k : Vec ℕ Global). is_name key.items k.items) keys then keys else keys ++ key ∷ [])
      → r ≡ true → items_of more_keys ≡ items_of keys ++ name ∷ []
  put_last more_keys put h =
      ap items_of (put ∙ ap (λ (b : Bool). if b then keys else keys ++ key ∷ [])
      (not_false r (list_any (λ (k : Vec ℕ Global). is_name key.items k.items) keys) added h))
      ∙ map-append (λ (k : Vec ℕ Global). k.items) keys (key ∷ [])
      ∙ ap (λ (w : Name). items_of keys ++ w ∷ []) is

-- bindings of which no two have one name, and others
abbrev once_by : List Naming → Option Name → Result (List Naming) Fault
once_by bound (Some name) = Err (already_bound name)
once_by bound None = Ok bound

once_step : (bound : List Naming) (o : Option Name)
    → (elim o as (λ _. Result (List Naming) Fault) [ Some name ↦ Err (already_bound name) | None ↦ Ok bound ])
    ≡ once_by bound o
once_step bound None = refl
once_step bound (Some name) = refl

names_there : (ts : List meaning.Term) (ls : Pairs) → names_in (locals_at ts ls) ≡ map (λ (l : Name × ℕ). l.0) ls
names_there ts [] = refl
names_there ts (l ∷ ls) = ap (λ ns. l.0 ∷ ns) (names_there ts ls)

once_is : (ts : List meaning.Term) (ls : Pairs) (o : Option Name) → first_again_in ls ≡ o
    → once (locals_at ts ls) ≡ once_by (locals_at ts ls) o
once_is ts ls o h =
    once_step (locals_at ts ls) (first_again [] (names_in (locals_at ts ls)))
    ∙ ap (once_by (locals_at ts ls)) (ap (first_again []) (names_there ts ls) ∙ h)

pub once_again : (ls : Pairs) (name : Name) → Some name ≡ first_again_in ls → (ts : List meaning.Term)
    → once (locals_at ts ls) ≡ Err (already_bound name)
once_again ls name h ts = once_is ts ls (Some name) (sym h)

-- Places that are bound from the last one to the first.

down_one : {A : Type 0} (xs : List A) (place : ℕ) (x : A) → 0 < place → place ≤ length xs → x ≡ get_or xs (place - 1) x
    → drop (place - 1) xs ≡ x ∷ drop place xs
down_one {A} xs place x some within is =
    let below : place - 1 < length xs = omega (arith, some, within) in
    let next : place - 1 + 1 ≡ place = omega (arith, some) in
    drop_more xs (place - 1) x below ∙ ap₂ (λ (c : A) (k : ℕ). c ∷ drop k xs) (sym is) next

pub bound_start : (bs : List Bound) (place : ℕ) (old : Pairs) → place ≡ length bs
    → old ≡ pairs_of (drop place bs) ++ old
bound_start bs place old is =
    ap (λ (xs : List Bound). pairs_of xs ++ old) (sym (drop_all place bs (omega (arith, is))))

pub bound_down : (bs : List Bound) (place : ℕ) (b : Bound) (old now next : Pairs) → 0 < place → place ≤ length bs
    → b ≡ get_or bs (place - 1) b → next ≡ (b.name.now, b.id) ∷ now → now ≡ pairs_of (drop place bs) ++ old
    → next ≡ pairs_of (drop (place - 1) bs) ++ old
bound_down bs place b old now next some within is put so_far =
    put ∙ ap (λ ls. (b.name.now, b.id) ∷ ls) so_far
    ∙ sym (ap (λ (xs : List Bound). pairs_of xs ++ old) (down_one bs place b some within is))

pub bound_end : (bs : List Bound) (place : ℕ) (old now : Pairs) → place ≤ 0 → now ≡ pairs_of (drop place bs) ++ old
    → now ≡ pairs_of bs ++ old
bound_end bs place old now gone so_far =
    let zero_is : place ≡ 0 = omega (arith, gone) in
    so_far ∙ ap (λ k. pairs_of (drop k bs) ++ old) zero_is

pub params_start : (ts : List meaning.Term) (ps : List Parameter) (place : ℕ) (now : Pairs) → now ≡ []
    → place ≡ length ps → HasParameters ts place (drop place ps) now
params_start ts ps place now empty is =
    subst (λ (ls : Pairs). HasParameters ts place (drop place ps) ls) (sym empty) (record {
      bound = sym (ap (bound_in place) (drop_all place ps (omega (arith, is))));
      numbers = λ k d l. absurd (omega arith);
    })

pub params_down : (ts us : List meaning.Term) (ps : List Parameter) (place : ℕ) (p : Parameter) (number id : ℕ)
    (now next : Pairs) → 0 < place → place ≤ length ps → p ≡ get_or ps (place - 1) p → Extends ts us
    → number ≡ place - 1 → Names us id (parameter number (sort_in p.sort)) → next ≡ (p.name.now, id) ∷ now
    → HasParameters ts place (drop place ps) now → HasParameters us (place - 1) (drop (place - 1) ps) next
params_down ts us ps place p number id now next some within is extends number_is named put so_far =
    let follows : place - 1 + 1 ≡ place = omega (arith, some) in
    subst (λ (ls : Pairs). HasParameters us (place - 1) (drop (place - 1) ps) ls) (sym put) (record {
      bound = ap₂ (λ (t : meaning.Term) (ns : List Naming). (p.name.now, a_term t) ∷ ns)
          (at_named us id (parameter number (sort_in p.sort)) named ∙ ap (λ k. parameter k (sort_in p.sort)) number_is)
          (pairs_stay ts us now extends so_far.numbers ∙ so_far.bound)
          ∙ ap (λ k. (p.name.now, a_term (parameter (place - 1) (sort_in p.sort))) ∷ bound_in k (drop place ps))
          (sym follows)
          ∙ sym (ap (bound_in (place - 1)) (down_one ps place p some within is));
      numbers = All-cons (λ i. i < length us) id (numbers_of now)
          (names_below us id (parameter number (sort_in p.sort)) named)
          (numbers_kept ts us (numbers_of now) extends so_far.numbers);
    })

pub params_end : (ts : List meaning.Term) (ps : List Parameter) (place : ℕ) (now : Pairs) → place ≤ 0
    → HasParameters ts place (drop place ps) now → HasParameters ts 0 ps now
params_end ts ps place now gone so_far =
    let zero_is : place ≡ 0 = omega (arith, gone) in
    subst (λ k. HasParameters ts k (drop k ps) now) zero_is so_far

-- The names in force behind a let, and in a definition.

module _ (n : ℕ) (scope : ScopeNames) (start ts : List meaning.Term) (locals bound : List (Name × ℕ)) (bindings : Forms)
    (body : Form) (at : AreAt start locals scope) (grows : Grows n start ts)
    (values : HasBound ts (read_bindings (names_at start locals scope) bindings) bound) where
  pub let_names : names_at ts (bound ++ locals) scope ≡ locals_at ts bound ++ names_at start locals scope
  let_names =
      ap (λ ns. ns ++ names_kept ts scope) (map-append (λ (l : Name × ℕ). (l.0, a_term (term_at ts l.1))) bound locals)
      ∙ append_assoc (locals_at ts bound) (locals_at ts locals) (names_kept ts scope)
      ∙ ap (λ ns. locals_at ts bound ++ ns) (names_at_stay start ts locals scope grows.extends at)

  pub let_at : AreAt ts (bound ++ locals) scope
  let_at = let there = at_stays start ts locals scope grows.extends at in record {
    bound = subst (λ is. AllNumbers ts is) (sym (map-append (λ (l : Name × ℕ). l.1) bound locals))
        (All-append (λ i. i < length ts) (numbers_of bound) (numbers_of locals) values.numbers there.bound);
    bodies = there.bodies;
  }

  -- a name stands twice
  pub let_fault : (e : ReadFault) → ((us : List meaning.Term) → Faults (once (locals_at us bound)) e)
      → Faults (read_let (names_at start locals scope) (more (Group bindings) (more body none))) e
  let_fault e h =
      let names = names_at start locals scope in
      subst (λ r. Faults ((r >>= once) >>= (λ ls. read (ls ++ names) body)) e) (sym values.bindings)
      (faults_first (once (locals_at ts bound)) (λ ls. read (ls ++ names) body) e (h ts))

  pub let_body : first_again_in bound ≡ None
      → read_let (names_at start locals scope) (more (Group bindings) (more body none))
      ≡ read (names_at ts (bound ++ locals) scope) body
  let_body fresh =
      let names = names_at start locals scope in
      ap (λ r. (r >>= once) >>= (λ ls. read (ls ++ names) body)) values.bindings
      ∙ ap (λ r. r >>= (λ ls. read (ls ++ names) body)) (once_is ts bound None fresh)
      ∙ ap (λ ns. read ns body) (sym let_names)

-- a value's fault
pub values_fault : (names : List Naming) (bindings : Forms) (body : Form) (e : ReadFault)
    → Faults (read_bindings names bindings) e → Faults (read_let names (more (Group bindings) (more body none))) e
values_fault names bindings body e h =
    faults_first (read_bindings names bindings >>= once) (λ ls. read (ls ++ names) body) e
    (faults_first (read_bindings names bindings) once e h)

-- behind the body all is as it was
pub left_again : {A : Type 0} (bound locals all next : List A) (outer : ℕ) → all ≡ bound ++ locals
    → outer ≡ length locals → next ≡ drop (length all - outer) all → next ≡ locals
left_again bound locals all next outer is long rest =
    let count : length bound ≡ length all - outer = omega (arith, ap length is, length-append bound locals, long) in
    rest ∙ ap (drop (length all - outer)) is ∙ drop_at bound locals (length all - outer) count

pub left_enough : {A : Type 0} (bound locals all : List A) (outer : ℕ) → all ≡ bound ++ locals → outer ≡ length locals
    → outer ≤ length all
left_enough bound locals all outer is long = omega (arith, ap length is, length-append bound locals, long)

module _ (ts us : List meaning.Term) (scope : ScopeNames) (ps : List Parameter) (locals : List (Name × ℕ))
    (extends : Extends ts us) (bodies : AreBodies ts scope) (bound : HasParameters us 0 ps locals) where
  pub body_names : names_at us locals scope ≡ bound_in 0 ps ++ names_kept ts scope
  body_names = ap₂ ◌++◌ bound.bound (names_stay ts us scope extends bodies)

  pub body_at : AreAt us locals scope
  body_at = record { bound = bound.numbers; bodies = bodies_stay ts us scope extends bodies }
