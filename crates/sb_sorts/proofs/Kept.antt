-- The names of a scope: what a look-up finds, and the serials of its constants.
use Rattle.std.proofs.Common.{◌≡◌, ℕ, zero, suc, ◌+◌, ◌≤◌, Bool, true, false, cond, ◌||◌, if◌then◌else◌, nat_eq, nat_le, nat_lt, List, [], ◌∷◌, ◌++◌, append-nil, take, drop, map, length, length-append, Option, Some, None, option_map, option_copied, is_some, IfSome, Result, Ok, Err, OnOk, OnErr, Bor, sym, refl, ap, ap₂, subst, ◌∙◌, true≢false, arith}
use Rattle.std.proofs.lemmas.Bool.{and_parts, and_from, false≢true}
use Rattle.std.proofs.lemmas.Bool.Decides.{nat_tests}
use Rattle.std.proofs.lemmas.List.{take-append-drop, map-append}
use Rattle.std.proofs.lemmas.List.Folds.{list_all-append}
use Rattle.std.specs.Cmp.Lexicographic.{pointwise}
use Rattle.std.specs.List.{list_all}
use Rattle.std.specs.Map.{lookup}
use Rattle.std.specs.declared.vec.Vec.{Vec}
use Rattle.std.specs.declared.alloc.Global.{Global}
use Rattle.indexmap.specs.IndexMap.{insert_entry}
use Rattle.sb_script.specs.Names.{Name}
use Rattle.sb_script.specs.Scopes as meaning
use Rattle.sb_script.specs.Symbols.{is_taken, is_theory_name}
use Rattle.sb_meaning.specs.Terms.{Term}
use Rattle.sb_sorts.specs.declared.scope.Named.{Named}
use Rattle.sb_sorts.specs.declared.scope.Named.TheVariants as code
use Rattle.sb_term.specs.declared.sort.Sort.{Sort}
use Rattle.sb_term.specs.Symbols.{sort_in}
use Rattle.sb_meaning.specs.Terms as terms
use Rattle.sb_meaning.specs.Sorts.{is_same_sort}
use Rattle.sb_sorts.specs.Scopes.{ScopeNames, named_in, is_body_below, constants_among, serials_in, ascend_below, has_sort, are_sorted}
use Rattle.sb_sorts.specs.NameTable.{kept_in, namings_in, named_below, HasSerials}

abbrev is_key : Name → Vec ℕ Global → Bool
is_key name key = pointwise nat_eq name key.items

-- what is lent of a map, as what stands there
map_copied : {A B : Type 0} (f : A → B) (o : Option (Bor A))
    → option_map (λ n. f n.now) o ≡ option_map f (option_copied o)
map_copied f None = refl
map_copied f (Some n) = refl

if_copied : {A : Type 0} (P : A → Type 0) (o : Option (Bor A)) → IfSome (option_copied o) P → IfSome o (λ n. P n.now)
if_copied P None h = tt
if_copied P (Some n) h = h

-- a look-up in the map finds what the name stands for
lookup_step : {A B : Type 0} (f : A → B) (b : Bool) (v : A) (found : Option A) (rest : Option B)
    → option_map f found ≡ rest → option_map f (cond b (Some v) found) ≡ cond b (Some (f v)) rest
lookup_step f true v found rest h = refl
lookup_step f false v found rest h = h

lookup_named : (ts : List Term) (es : List (Vec ℕ Global × Named)) (name : Name)
    → option_map (named_in ts) (lookup (is_key name) es) ≡ meaning.named (namings_in ts es) name
lookup_named ts [] name = refl
lookup_named ts (e ∷ es) name = lookup_step (named_in ts) (is_key name e.0) e.1 _ _ (lookup_named ts es name)

pub lookup_lent : (ts : List Term) (es : List (Vec ℕ Global × Named)) (name : Name) (found : Option (Bor Named))
    → option_copied found ≡ lookup (is_key name) es
    → option_map (λ n. named_in ts n.now) found ≡ meaning.named (namings_in ts es) name
lookup_lent ts es name found is =
    map_copied (named_in ts) found ∙ ap (option_map (named_in ts)) is ∙ lookup_named ts es name

-- a name that is not there goes behind the others
insert_step : (b : Bool) (e : Vec ℕ Global × Named) (key : Vec ℕ Global) (v : Named)
    (es inserted : List (Vec ℕ Global × Named)) (here : meaning.Named) (rest : Option meaning.Named)
    → cond b (Some here) rest ≡ None → (rest ≡ None → kept_in inserted ≡ kept_in es ++ (key.items, v) ∷ [])
    → kept_in (cond b ((e.0, v) ∷ es) (e ∷ inserted)) ≡ kept_in (e ∷ es) ++ (key.items, v) ∷ []
insert_step true e key v es inserted here rest none further = cc
insert_step false e key v es inserted here rest none further = ap (λ ns. (e.0.items, e.1) ∷ ns) (further none)

insert_new : (es : List (Vec ℕ Global × Named)) (key : Vec ℕ Global) (v : Named)
    → meaning.named (namings_in [] es) key.items ≡ None
    → kept_in (insert_entry (λ a b. pointwise nat_eq a.items b.items) es key v) ≡ kept_in es ++ (key.items, v) ∷ []
insert_new [] key v none = refl
insert_new (e ∷ es) key v none =
    insert_step (is_key key.items e.0) e key v es _ (named_in [] e.1) _ none (insert_new es key v)

pub insert_named : (es more : List (Vec ℕ Global × Named)) (key : Vec ℕ Global) (name : Name) (v : Named)
    → key.items ≡ name → meaning.named (namings_in [] es) name ≡ None
    → more ≡ insert_entry (λ a b. pointwise nat_eq a.items b.items) es key v
    → kept_in more ≡ kept_in es ++ (name, v) ∷ []
insert_named es more key name v is none inserted =
    ap kept_in inserted ∙ insert_new es key v (ap (meaning.named (namings_in [] es)) is ∙ none)
    ∙ ap (λ n. kept_in es ++ (n, v) ∷ []) is

-- a name that is not taken stands for nothing
none_from : (o : Option meaning.Named) (b : Bool) → is_some o || b ≡ false → o ≡ None
none_from None b h = refl
none_from (Some x) b h = cc

pub untaken_none : (names : List meaning.Naming) (name : Name) → is_taken names name ≡ false
    → meaning.named names name ≡ None
untaken_none names name h = none_from (meaning.named names name) (is_theory_name name) h

-- serials ascend
constants_append : (ns ms : List (Name × Named)) → constants_among (ns ++ ms) ≡ constants_among ns ++ constants_among ms
constants_append [] ms = refl
constants_append ((name, code.Constant serial sort) ∷ ns) ms =
    ap (λ cs. (serial.0, sort_in sort) ∷ cs) (constants_append ns ms)
constants_append ((name, code.Definition d) ∷ ns) ms = constants_append ns ms
constants_append ((name, code.Marked) ∷ ns) ms = constants_append ns ms

serials_append : (ns ms : List (Name × Named)) → serials_in (ns ++ ms) ≡ serials_in ns ++ serials_in ms
serials_append [] ms = refl
serials_append ((name, code.Constant serial sort) ∷ ns) ms = ap (λ s. serial.0 ∷ s) (serials_append ns ms)
serials_append ((name, code.Definition d) ∷ ns) ms = serials_append ns ms
serials_append ((name, code.Marked) ∷ ns) ms = serials_append ns ms

-- one more serial, the bound itself
ascend_more : (from bound : ℕ) (ns : List ℕ) → from ≤ bound → ascend_below from bound ns ≡ true
    → ascend_below from (bound + 1) (ns ++ bound ∷ []) ≡ true
ascend_more from bound [] least h = grind (arith, nat_tests)
ascend_more from bound (n ∷ ns) least h =
    let parts = and_parts (nat_le from n) _ h in
    let more = and_parts (nat_lt n bound) (ascend_below (n + 1) bound ns) parts.1 in
    let below : nat_lt n (bound + 1) ≡ true = grind (arith, nat_tests, more.0) in
    let next : n + 1 ≤ bound = grind (arith, nat_tests, more.0) in
    and_from _ _ parts.0 (and_from _ _ below (ascend_more (n + 1) bound ns next more.1))

-- each constant keeps its sort where there are more sorts, and the next one has its own
sort_grown : (ss more : List terms.Sort) (n : ℕ) (k : terms.Sort) → has_sort ss (n, k) ≡ true
    → has_sort (ss ++ more) (n, k) ≡ true
sort_grown [] more n k h = absurd (false≢true h)
sort_grown (s ∷ ss) more zero k h = h
sort_grown (s ∷ ss) more (suc n) k h = sort_grown ss more n k h

sorts_grown : (ss more : List terms.Sort) (cs : List (ℕ × terms.Sort)) → are_sorted ss cs ≡ true
    → are_sorted (ss ++ more) cs ≡ true
sorts_grown ss more [] h = refl
sorts_grown ss more (c ∷ cs) h =
    let parts = and_parts (has_sort ss c) (are_sorted ss cs) h in
    and_from (has_sort (ss ++ more) c) (are_sorted (ss ++ more) cs) (sort_grown ss more c.0 c.1 parts.0)
    (sorts_grown ss more cs parts.1)

same_itself : (k : terms.Sort) → is_same_sort k k ≡ true
same_itself terms.boolean = refl
same_itself terms.integer = refl
same_itself terms.text = refl
same_itself terms.reglan = refl

next_sort : (ss : List Sort) (sort : Sort)
    → has_sort (map sort_in ss ++ sort_in sort ∷ []) (length ss, sort_in sort) ≡ true
next_sort [] sort = same_itself (sort_in sort)
next_sort (s ∷ ss) sort = next_sort ss sort

-- one more constant
pub one_more : (ns : List (Name × Named)) (name : Name) (sort : Sort) (ss more : List Sort) (n : ℕ)
    → n ≡ length ss → more ≡ ss ++ sort ∷ [] → HasSerials ns ss
    → HasSerials (ns ++ (name, code.Constant (record { 0 = n }) sort) ∷ []) more
one_more ns name sort ss more n is all h =
    let least : 0 ≤ length ss = omega arith in
    let count : length (ss ++ sort ∷ []) ≡ length ss + 1 = length-append ss (sort ∷ []) in
    subst (λ m. HasSerials (ns ++ (name, code.Constant (record { 0 = m }) sort) ∷ []) more) (sym is)
    (subst (HasSerials (ns ++ (name, code.Constant (record { 0 = length ss }) sort) ∷ [])) (sym all) (record {
      ascend = ap (λ bound. ascend_below 0 bound
          (serials_in (ns ++ (name, code.Constant (record { 0 = length ss }) sort) ∷ []))) count
          ∙ ap (ascend_below 0 (length ss + 1)) (serials_append ns _)
          ∙ ascend_more 0 (length ss) (serials_in ns) least h.ascend;
      sorted = ap₂ are_sorted (map-append sort_in ss (sort ∷ [])) (constants_append ns _)
          ∙ list_all-append (has_sort (map sort_in ss ++ sort_in sort ∷ [])) (constants_among ns) _
          ∙ and_from _ _ (sorts_grown (map sort_in ss) (sort_in sort ∷ []) (constants_among ns) h.sorted)
          (and_from _ true (next_sort ss sort) refl);
    }))

-- one more name that is no constant
pub one_other : (ns : List (Name × Named)) (n : Name × Named) (ss : List Sort) → constants_among (n ∷ []) ≡ []
    → HasSerials ns ss → HasSerials (ns ++ n ∷ []) ss
one_other ns n ss other h =
    let same : constants_among (ns ++ n ∷ []) ≡ constants_among ns =
    constants_append ns (n ∷ []) ∙ ap (λ cs. constants_among ns ++ cs) other ∙ append-nil (constants_among ns) in
    record {
      ascend = ap (λ (cs : List (ℕ × terms.Sort)). ascend_below 0 (length ss) (map (λ c. c.0) cs)) same ∙ h.ascend;
      sorted = ap (are_sorted (map sort_in ss)) same ∙ h.sorted;
    }

-- where it is put behind the others, or was not
pub names_pushed : {A E : Type 0} (es new : List (Vec ℕ Global × Named)) (ss : List Sort) (n : Name × Named)
    (r : Result A E) → constants_among (n ∷ []) ≡ [] → OnOk r (kept_in new ≡ kept_in es ++ n ∷ [])
    → OnErr r (new ≡ es) → HasSerials (kept_in es) ss → HasSerials (kept_in new) ss
names_pushed es new ss n (Ok x) other pushed same h =
    subst (λ ns. HasSerials ns ss) (sym pushed) (one_other (kept_in es) n ss other h)
names_pushed es new ss n (Err e) other pushed same h = subst (λ ns. HasSerials (kept_in ns) ss) (sym same) h

abbrev pub made : List Sort → Bool → List (Name × Named) → ScopeNames
made ss global names = record { names = names; sorts = ss; global = global }

-- the first names, so many
ascend_front : (from bound : ℕ) (front others : List ℕ) → ascend_below from bound (front ++ others) ≡ true
    → ascend_below from bound front ≡ true
ascend_front from bound [] others h = refl
ascend_front from bound (n ∷ ns) others h =
    let parts = and_parts (nat_le from n) _ h in
    let more = and_parts (nat_lt n bound) (ascend_below (n + 1) bound (ns ++ others)) parts.1 in
    and_from _ _ parts.0 (and_from _ _ more.0 (ascend_front (n + 1) bound ns others more.1))

kept_taken : (count : ℕ) (es : List (Vec ℕ Global × Named)) → kept_in (take count es) ≡ take count (kept_in es)
kept_taken zero es = refl
kept_taken (suc n) [] = refl
kept_taken (suc n) (e ∷ es) = ap (λ ns. (e.0.items, e.1) ∷ ns) (kept_taken n es)

front_serials : (front others : List (Name × Named)) (ss : List Sort) → HasSerials (front ++ others) ss
    → HasSerials front ss
front_serials front others ss h = record {
  ascend = ascend_front 0 (length ss) (serials_in front) (serials_in others)
      (ap (ascend_below 0 (length ss)) (sym (serials_append front others)) ∙ h.ascend);
  sorted = (and_parts (are_sorted (map sort_in ss) (constants_among front)) _
      (sym (list_all-append (has_sort (map sort_in ss)) (constants_among front) (constants_among others))
      ∙ ap (are_sorted (map sort_in ss)) (sym (constants_append front others)) ∙ h.sorted)).0;
}

pub fewer_names : (count : ℕ) (ss : List Sort) (es fewer : List (Vec ℕ Global × Named)) → fewer ≡ take count es
    → HasSerials (kept_in es) ss → HasSerials (kept_in fewer) ss
fewer_names count ss es fewer is h =
    let ns = kept_in es in
    subst (λ ms. HasSerials ms ss) (sym (ap kept_in is ∙ kept_taken count es))
    (front_serials (take count ns) (drop count ns) ss
    (subst (λ ms. HasSerials ms ss) (sym (take-append-drop count ns)) h))

pub names_taken : (count : ℕ) (es fewer : List (Vec ℕ Global × Named)) → fewer ≡ take count es
    → kept_in fewer ≡ take count (kept_in es)
names_taken count es fewer is = ap kept_in is ∙ kept_taken count es

-- a constant that is found has a serial below their number
all_ascend_below : (from bound : ℕ) (ns : List ℕ) → ascend_below from bound ns ≡ true
    → list_all (λ s. nat_lt s bound) ns ≡ true
all_ascend_below from bound [] h = refl
all_ascend_below from bound (n ∷ ns) h =
    let parts = and_parts (nat_le from n) _ h in
    let more = and_parts (nat_lt n bound) (ascend_below (n + 1) bound ns) parts.1 in
    and_from _ _ more.0 (all_ascend_below (n + 1) bound ns more.1)

found_step : {A : Type 0} (P : A → Type 0) (b : Bool) (v : A) (found : Option A) → P v → IfSome found P
    → IfSome (cond b (Some v) found) P
found_step P true v found here there = here
found_step P false v found here there = there

abbrev IsBelow : ℕ → Named → Type 0
IsBelow n v = named_below n v ≡ true

found_below : (n : ℕ) (test : Vec ℕ Global → Bool) (es : List (Vec ℕ Global × Named))
    → list_all (λ s. nat_lt s n) (serials_in (kept_in es)) ≡ true → IfSome (lookup test es) (IsBelow n)
found_below n test [] all = tt
found_below n test ((key, code.Constant serial sort) ∷ es) all = let parts = and_parts _ _ all in
    found_step (IsBelow n) (test key) _ _ parts.0 (found_below n test es parts.1)
found_below n test ((key, code.Definition d) ∷ es) all =
    found_step (IsBelow n) (test key) _ _ refl (found_below n test es all)
found_below n test ((key, code.Marked) ∷ es) all =
    found_step (IsBelow n) (test key) _ _ refl (found_below n test es all)

pub lent_below : (d m : ℕ) (test : Vec ℕ Global → Bool) (es : List (Vec ℕ Global × Named)) (found : Option (Bor Named))
    → option_copied found ≡ lookup test es → d ≡ m → ascend_below 0 d (serials_in (kept_in es)) ≡ true
    → IfSome found (λ v. named_below m v.now ≡ true)
lent_below d m test es found is same h =
    let all : list_all (λ s. nat_lt s m) (serials_in (kept_in es)) ≡ true =
    ap (λ k. list_all (λ s. nat_lt s k) (serials_in (kept_in es))) (sym same)
    ∙ all_ascend_below 0 d (serials_in (kept_in es)) h in
    if_copied (IsBelow m) found (subst (λ o. IfSome o (IsBelow m)) (sym is) (found_below m test es all))

-- and a definition that is found a body below the number of terms
abbrev IsBodyBelow : ℕ → Named → Type 0
IsBodyBelow n v = is_body_below n v ≡ true

found_body : (n : ℕ) (test : Vec ℕ Global → Bool) (es : List (Vec ℕ Global × Named))
    → list_all (λ (k : Name × Named). is_body_below n k.1) (kept_in es) ≡ true
    → IfSome (lookup test es) (IsBodyBelow n)
found_body n test [] all = tt
found_body n test (e ∷ es) all = let parts = and_parts _ _ all in
    found_step (IsBodyBelow n) (test e.0) _ _ parts.0 (found_body n test es parts.1)

pub lent_body : (n : ℕ) (test : Vec ℕ Global → Bool) (es : List (Vec ℕ Global × Named)) (found : Option (Bor Named))
    → option_copied found ≡ lookup test es
    → list_all (λ (k : Name × Named). is_body_below n k.1) (kept_in es) ≡ true
    → IfSome found (λ v. is_body_below n v.now ≡ true)
lent_body n test es found is all =
    if_copied (IsBodyBelow n) found (subst (λ o. IfSome o (IsBodyBelow n)) (sym is) (found_body n test es all))

-- a scope of which the first names are left, so many, unless they are to stay
abbrev pub left : ℕ → ScopeNames → ScopeNames
left count k = record k { names = if k.global then k.names else take count k.names }

pub names_left : {A : Type 0} (global : Bool) (names others : List A) → global ≡ false
    → others ≡ (if global then names else others)
names_left true names others h = absurd (true≢false h)
names_left false names others h = refl

-- no names
pub no_names : (es : List (Vec ℕ Global × Named)) (ss : List Sort) → es ≡ [] → HasSerials (kept_in es) ss
no_names es ss is = subst (λ ns. HasSerials (kept_in ns) ss) (sym is) (record { ascend = refl; sorted = refl })
