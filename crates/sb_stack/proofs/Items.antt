-- What is asked for, item by item, and the constants of a scope, name by name.
use Rattle.std.proofs.Common.{◌≡◌, ℕ, ◌+◌, ◌<◌, ◌≤◌, List, [], ◌∷◌, ◌++◌, Option, Some, None, option_map, map, take, drop, length, get_or, slice_get, refl, ap, sym, ◌∙◌, arith, append_assoc}
use Rattle.std.proofs.lemmas.List.{map-append, append-nil, drop_more, drop_all, take_more}
use Rattle.std.proofs.lemmas.Option.{slice_get_within, get_or_from_slice_get, slice_get-get_or}
use Rattle.sb_script.specs.Names.{Name}
use Rattle.sb_script.specs.Scopes.{Naming, a_constant, a_definition, a_marked_name, a_term, constants_in, Constant}
use Rattle.sb_script.specs.Replies.{all_constants}
use Rattle.sb_sorts.specs.declared.scope.Named.{Named}
use Rattle.sb_sorts.specs.declared.scope.Named.TheVariants as named
use Rattle.sb_meaning.specs.Terms.{Sort, Term}
use Rattle.sb_sorts.specs.Scopes.{naming_in, constants_among}
use Rattle.sb_stack.proofs.Live.{constants_append}
use Rattle.sb_stack.specs.declared.constant.LiveConstant.{LiveConstant}
use Rattle.sb_stack.specs.Stacked.{live_in}
use Rattle.sb_stack.specs.declared.value.Constant as value
use Rattle.sb_stack.specs.declared.value.Item.{Item}
use Rattle.sb_stack.specs.declared.value.Item.TheVariants as code
use Rattle.sb_stack.specs.Values.{constant_in, asked_in, item_in}

-- constants behind which others follow, where these are constants
abbrev pub with_front : {A : Type 0} → List A → Option (List A) → Option (List A)
with_front front rest = option_map (λ xs. front ++ xs) rest

pub with_front_more : {A : Type 0} (front : List A) (x : A) (rest : Option (List A))
    → with_front front (elim rest [ Some xs ↦ Some (x ∷ xs) | None ↦ None ]) ≡ with_front (front ++ x ∷ []) rest
with_front_more front x None = refl
with_front_more front x (Some xs) = ap Some (sym (append_assoc front (x ∷ []) xs))

pub constants_step : (xs : List Item) (i : ℕ) (d : Item) (c : value.Constant) (old new : List value.Constant)
    → i < length xs → get_or xs i d ≡ code.Constant c → new ≡ old ++ c ∷ []
    → all_constants (map item_in xs) ≡ with_front (map asked_in old) (all_constants (map item_in (drop i xs)))
    → all_constants (map item_in xs) ≡ with_front (map asked_in new) (all_constants (map item_in (drop (i + 1) xs)))
constants_step xs i d c old new within is pushed before =
    let rest = drop (i + 1) xs in
    let left : drop i xs ≡ code.Constant c ∷ rest = drop_more xs i d within ∙ ap (λ x. x ∷ rest) is in
    before ∙ ap (λ ys. with_front (map asked_in old) (all_constants (map item_in ys))) left
    ∙ with_front_more (map asked_in old) (asked_in c) (all_constants (map item_in rest))
    ∙ ap (λ cs. with_front cs (all_constants (map item_in rest)))
    (sym (ap (map asked_in) pushed ∙ map-append asked_in old (c ∷ [])))

namings_append : (ns ms : List Naming) → constants_in (ns ++ ms) ≡ constants_in ns ++ constants_in ms
namings_append [] ms = refl
namings_append ((name, a_constant serial sort) ∷ ns) ms =
    ap (λ cs. record { name = name; serial = serial; sort = sort } ∷ cs) (namings_append ns ms)
namings_append ((name, a_definition sorts body) ∷ ns) ms = namings_append ns ms
namings_append ((name, a_marked_name) ∷ ns) ms = namings_append ns ms
namings_append ((name, a_term t) ∷ ns) ms = namings_append ns ms

-- the constants of one more name
names_step : (ts : List Term) (ns : List (Name × Named)) (i : ℕ) (n : Name × Named) → Some n ≡ slice_get ns i
    → constants_in (map (naming_in ts) (take (i + 1) ns)) ≡ constants_in (map (naming_in ts) (take i ns))
    ++ constants_in (naming_in ts n ∷ [])
names_step ts ns i n is =
    let within : i < length ns = slice_get_within ns i n (sym is) in
    let one : take (i + 1) ns ≡ take i ns ++ n ∷ [] =
    take_more ns i n within ∙ ap (λ x. take i ns ++ x ∷ []) (get_or_from_slice_get ns i n n (sym is)) in
    ap (λ ys. constants_in (map (naming_in ts) ys)) one ∙ ap constants_in (map-append (naming_in ts) (take i ns) (n ∷ []))
    ∙ namings_append (map (naming_in ts) (take i ns)) (naming_in ts n ∷ [])

pub constant_step : (ts : List Term) (ns : List (Name × Named)) (i : ℕ) (c : value.Constant) (k : Named) (old new : List value.Constant)
    → Some (c.name.now, k) ≡ slice_get ns i → k ≡ named.Constant c.serial c.sort → new ≡ old ++ c ∷ []
    → map constant_in old ≡ constants_in (map (naming_in ts) (take i ns))
    → map constant_in new ≡ constants_in (map (naming_in ts) (take (i + 1) ns))
constant_step ts ns i c k old new is here pushed before =
    ap (map constant_in) pushed ∙ map-append constant_in old (c ∷ []) ∙ ap (λ cs. cs ++ constant_in c ∷ []) before
    ∙ ap (λ j. constants_in (map (naming_in ts) (take i ns)) ++ constants_in (naming_in ts (c.name.now, j) ∷ [])) (sym here)
    ∙ sym (names_step ts ns i (c.name.now, k) is)

pub mark_step : (ts : List Term) (ns : List (Name × Named)) (i : ℕ) (name : Name) (k : Named) (old : List Constant)
    → Some (name, k) ≡ slice_get ns i → ((serial : _) (sort : _) → k ≡ named.Constant serial sort → ⊥)
    → old ≡ constants_in (map (naming_in ts) (take i ns)) → old ≡ constants_in (map (naming_in ts) (take (i + 1) ns))
mark_step ts ns i name (named.Constant serial sort) old is other before = absurd (other serial sort refl)
mark_step ts ns i name (named.Definition d) old is other before =
    before ∙ sym (append-nil _) ∙ sym (names_step ts ns i (name, named.Definition d) is)
mark_step ts ns i name named.Marked old is other before =
    before ∙ sym (append-nil _) ∙ sym (names_step ts ns i (name, named.Marked) is)

-- the constants of one more name, without their names
live_names_step : (ns : List (Name × Named)) (i : ℕ) (n : Name × Named) → Some n ≡ slice_get ns i
    → constants_among (take (i + 1) ns) ≡ constants_among (take i ns) ++ constants_among (n ∷ [])
live_names_step ns i n is =
    let within : i < length ns = slice_get_within ns i n (sym is) in
    let one : take (i + 1) ns ≡ take i ns ++ n ∷ [] =
    take_more ns i n within ∙ ap (λ x. take i ns ++ x ∷ []) (get_or_from_slice_get ns i n n (sym is)) in
    ap constants_among one ∙ constants_append (take i ns) (n ∷ [])

pub live_step : (ns : List (Name × Named)) (i : ℕ) (name : Name) (c : LiveConstant) (k : Named)
    (old new : List LiveConstant) → Some (name, k) ≡ slice_get ns i → k ≡ named.Constant c.serial c.sort
    → new ≡ old ++ c ∷ [] → map live_in old ≡ constants_among (take i ns)
    → map live_in new ≡ constants_among (take (i + 1) ns)
live_step ns i name c k old new is here pushed before =
    ap (map live_in) pushed ∙ map-append live_in old (c ∷ []) ∙ ap (λ cs. cs ++ live_in c ∷ []) before
    ∙ ap (λ j. constants_among (take i ns) ++ constants_among ((name, j) ∷ [])) (sym here)
    ∙ sym (live_names_step ns i (name, k) is)

pub no_live_step : (ns : List (Name × Named)) (i : ℕ) (name : Name) (k : Named) (old : List (ℕ × Sort))
    → Some (name, k) ≡ slice_get ns i → ((serial : _) (sort : _) → k ≡ named.Constant serial sort → ⊥)
    → old ≡ constants_among (take i ns) → old ≡ constants_among (take (i + 1) ns)
no_live_step ns i name (named.Constant serial sort) old is other before = absurd (other serial sort refl)
no_live_step ns i name (named.Definition d) old is other before =
    before ∙ sym (append-nil _) ∙ sym (live_names_step ns i (name, named.Definition d) is)
no_live_step ns i name named.Marked old is other before =
    before ∙ sym (append-nil _) ∙ sym (live_names_step ns i (name, named.Marked) is)

-- an item that is no constant
no_constant : (x : Item) (xs : List Item) → ((c : value.Constant) → x ≡ code.Constant c → ⊥)
    → all_constants (map item_in (x ∷ xs)) ≡ None
no_constant (code.Constant c) xs other = absurd (other c refl)
no_constant (code.Unknown name) xs other = refl
no_constant code.Malformed xs other = refl
no_constant code.Other xs other = refl

pub constants_stop : (xs : List Item) (i : ℕ) (d : Item) (front : List (Name × (ℕ × Sort))) → i < length xs
    → ((c : value.Constant) → get_or xs i d ≡ code.Constant c → ⊥)
    → all_constants (map item_in xs) ≡ with_front front (all_constants (map item_in (drop i xs)))
    → None ≡ all_constants (map item_in xs)
constants_stop xs i d front within other before =
    sym (before ∙ ap (λ ys. with_front front (all_constants (map item_in ys))) (drop_more xs i d within)
    ∙ ap (with_front front) (no_constant (get_or xs i d) (drop (i + 1) xs) other))

pub constants_all : (xs : List Item) (i : ℕ) (front : List (Name × (ℕ × Sort))) → length xs ≤ i
    → all_constants (map item_in xs) ≡ with_front front (all_constants (map item_in (drop i xs)))
    → Some front ≡ all_constants (map item_in xs)
constants_all xs i front ended before =
    sym (before ∙ ap (λ ys. with_front front (all_constants (map item_in ys))) (drop_all i xs ended)
    ∙ ap Some (append-nil front))

-- one more item, and one less that is left
pub items_step : {A B C : Type 0} (g : A → C) (h : B → C) (old new : List A) (x : A) (y : B) (all rest : List B)
    (whole : List C) → new ≡ old ++ x ∷ [] → g x ≡ h y → all ≡ y ∷ rest → map g old ++ map h all ≡ whole
    → map g new ++ map h rest ≡ whole
items_step g h old new x y all rest whole pushed same split before =
    ap (λ n. map g n ++ map h rest) pushed ∙ ap (λ r. r ++ map h rest) (map-append g old (x ∷ []))
    ∙ append_assoc (map g old) (g x ∷ []) (map h rest) ∙ ap (λ z. map g old ++ (z ∷ map h rest)) same
    ∙ sym (ap (λ ys. map g old ++ map h ys) split) ∙ before

-- a place in a list has something
no_hole : {A : Type 0} (x : A) → None ≡ Some x → ⊥
no_hole x h = cc

pub inside : {A : Type 0} (xs : List A) (i : ℕ) → i < length xs → None ≡ slice_get xs i → ⊥
inside [] i within h = omega (arith, within)
inside (x ∷ xs) i within h = no_hole (get_or (x ∷ xs) i x) (h ∙ slice_get-get_or (x ∷ xs) i x within)
