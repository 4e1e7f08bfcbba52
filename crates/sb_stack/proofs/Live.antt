-- Live constants: their values, and what is read and asserted over their names.
use Rattle.std.proofs.Common.{◌≡◌, ℕ, zero, suc, ◌+◌, ◌≤◌, Bool, true, false, ◌&&◌, ◌==◌, nat_le, nat_lt, if◌then◌else◌, List, [], ◌∷◌, ◌++◌, map, take, drop, length, get_or, replicate, refl, ap, ap₂, sym, ◌∙◌, arith}
use Rattle.std.specs.List.{list_all}
use Rattle.std.proofs.Math.Seq.{take-length, drop-length}
use Rattle.std.proofs.lemmas.Bool.{and_parts, and_from, leb-true, eqb-true, eq-eqb, false≢true}
use Rattle.std.proofs.lemmas.List.{take-append-drop, take-append-le, drop-append-le}
use Rattle.std.proofs.lemmas.List.Folds.{list_all-append}
use Rattle.sb_word.specs.Words.{are_characters}
use Rattle.sb_meaning.specs.Sorts.{is_same_sort}
use Rattle.sb_meaning.specs.Terms.{Sort, boolean, integer, text, reglan, Term, Terms, constant, word, numeral, apply, parameter, no_terms, with_term}
use Rattle.sb_meaning.specs.Values.{value_in, is_of}
use Rattle.sb_script.specs.Brought.{is_brought_sort}
use Rattle.sb_term.specs.declared.sort.Sort as code_sort
use Rattle.sb_term.specs.Symbols.{sort_in}
use Rattle.sb_script.specs.Names.{Name}
use Rattle.sb_script.specs.Scopes.{constants_in}
use Rattle.sb_script.specs.State as meaning
use Rattle.sb_script.specs.State.{fits, terms_in}
use Rattle.sb_sorts.specs.declared.scope.Named.{Named}
use Rattle.sb_sorts.specs.declared.scope.Named.TheVariants as code
use Rattle.sb_sorts.specs.Scopes.{naming_in, constants_among, ascend_below, has_sort, are_sorted}
use Rattle.sb_stack.specs.declared.level.Level.{Level}
use Rattle.sb_stack.specs.Speaking.{is_one_of, speaks_of, speak_of}
use Rattle.sb_stack.specs.Stacked.{value_at, values_at, are_words, front_names}
use Rattle.sb_stack.specs.Keeping.{are_nested, asserts_of, speak_of_theirs}
use Rattle.sb_stack.proofs.Levels.{front_all, none_in_front, nested_head, nested_left}

-- Constants by serial and sort.

pub same_sort : (k s : Sort) → is_same_sort k s ≡ true → k ≡ s
same_sort boolean boolean h = refl
same_sort boolean integer h = absurd (false≢true h)
same_sort boolean text h = absurd (false≢true h)
same_sort boolean reglan h = absurd (false≢true h)
same_sort integer boolean h = absurd (false≢true h)
same_sort integer integer h = refl
same_sort integer text h = absurd (false≢true h)
same_sort integer reglan h = absurd (false≢true h)
same_sort text boolean h = absurd (false≢true h)
same_sort text integer h = absurd (false≢true h)
same_sort text text h = refl
same_sort text reglan h = absurd (false≢true h)
same_sort reglan boolean h = absurd (false≢true h)
same_sort reglan integer h = absurd (false≢true h)
same_sort reglan text h = absurd (false≢true h)
same_sort reglan reglan h = refl

same_itself : (k : Sort) → is_same_sort k k ≡ true
same_itself boolean = refl
same_itself integer = refl
same_itself text = refl
same_itself reglan = refl

-- the first of some is one of them
pub one_first : (n : ℕ) (sort : Sort) (cs : List (ℕ × Sort)) → is_one_of ((n, sort) ∷ cs) n sort ≡ true
one_first n sort cs = step (n == n) (eq-eqb n n refl)
  where
    step : (b : Bool) → b ≡ true → (if b then is_same_sort sort sort else is_one_of cs n sort) ≡ true
    step true is = same_itself sort
    step false is = absurd (false≢true is)

-- serials ascend
pub rest_ascends : (from bound m : ℕ) (ms : List ℕ) → ascend_below from bound (m ∷ ms) ≡ true
    → ascend_below (m + 1) bound ms ≡ true
rest_ascends from bound m ms h =
    (and_parts (nat_lt m bound) (ascend_below (m + 1) bound ms)
    (and_parts (nat_le from m) (nat_lt m bound && ascend_below (m + 1) bound ms) h).1).1

not_before : (from bound : ℕ) (cs : List (ℕ × Sort)) (n : ℕ) (sort : Sort)
    → ascend_below from bound (map (λ c. c.0) cs) ≡ true → is_one_of cs n sort ≡ true → from ≤ n
not_before from bound [] n sort h one = absurd (false≢true one)
not_before from bound (c ∷ cs) n sort h one =
    step (c.0 == n) refl one (not_before (c.0 + 1) bound cs n sort (rest_ascends from bound c.0 (map (λ c. c.0) cs) h))
  where
    first : from ≤ c.0
    first = leb-true from c.0
        (and_parts (nat_le from c.0) (nat_lt c.0 bound && ascend_below (c.0 + 1) bound (map (λ c. c.0) cs)) h).0

    step : (b : Bool) → (c.0 == n) ≡ b → (if b then is_same_sort c.1 sort else is_one_of cs n sort) ≡ true
        → (is_one_of cs n sort ≡ true → c.0 + 1 ≤ n) → from ≤ n
    step true is one later = omega (arith, first, eqb-true c.0 n is)
    step false is one later = omega (arith, first, later one)

-- what is one of the others is one of all, where serials ascend
pub one_later : (from bound m : ℕ) (kind : Sort) (cs : List (ℕ × Sort)) (n : ℕ) (sort : Sort)
    → ascend_below from bound (m ∷ map (λ c. c.0) cs) ≡ true → is_one_of cs n sort ≡ true
    → is_one_of ((m, kind) ∷ cs) n sort ≡ true
one_later from bound m kind cs n sort h one = step (m == n) refl
  where
    behind : m + 1 ≤ n
    behind = not_before (m + 1) bound cs n sort (rest_ascends from bound m (map (λ c. c.0) cs) h) one

    step : (b : Bool) → (m == n) ≡ b → (if b then is_same_sort kind sort else is_one_of cs n sort) ≡ true
    step true is = absurd (omega (arith, behind, eqb-true m n is))
    step false is = one

-- Values.

-- the value of a constant is the one at its serial
pub value_there : (cs : List (ℕ × Sort)) (words : List (List ℕ)) (truths : List Bool) (n : ℕ) (sort : Sort)
    → is_one_of cs n sort ≡ true → value_in (values_at cs words truths) n sort ≡ value_at words truths n sort
value_there [] words truths n sort h = absurd (false≢true h)
value_there (c ∷ cs) words truths n sort h = step (c.0 == n) refl h (value_there cs words truths n sort)
  where
    step : (b : Bool) → (c.0 == n) ≡ b → (if b then is_same_sort c.1 sort else is_one_of cs n sort) ≡ true
        → (is_one_of cs n sort ≡ true → value_in (values_at cs words truths) n sort ≡ value_at words truths n sort)
        → (if b then value_at words truths c.0 c.1 else value_in (values_at cs words truths) n sort)
        ≡ value_at words truths n sort
    step true is one later = ap₂ (value_at words truths) (eqb-true c.0 n is) (same_sort c.1 sort one)
    step false is one later = later one

a_word : (words : List (List ℕ)) (n : ℕ) → are_words words ≡ true → are_characters (get_or words n []) ≡ true
a_word [] n h = refl
a_word (w ∷ ws) zero h = (and_parts (are_characters w) (are_words ws) h).0
a_word (w ∷ ws) (suc n) h = a_word ws n (and_parts (are_characters w) (are_words ws) h).1

-- a value of a sort that is read is of that sort
of_its_sort : (words : List (List ℕ)) (truths : List Bool) (n : ℕ) (sort : Sort) → are_words words ≡ true
    → is_brought_sort sort ≡ true → is_of sort (value_at words truths n sort) ≡ true
of_its_sort words truths n boolean h read = refl
of_its_sort words truths n text h read = a_word words n h
of_its_sort words truths n integer h read = absurd (false≢true read)
of_its_sort words truths n reglan h read = absurd (false≢true read)

-- a constant has a sort that is read, as all sorts are
its_sort : (ss : List code_sort.Sort) (n : ℕ) (sort : Sort)
    → list_all (λ s. is_brought_sort (sort_in s)) ss ≡ true → has_sort (map sort_in ss) (n, sort) ≡ true
    → is_brought_sort sort ≡ true
its_sort [] n sort read has = absurd (false≢true has)
its_sort (s ∷ ss) zero sort read has =
    ap is_brought_sort (same_sort sort (sort_in s) has)
    ∙ (and_parts (is_brought_sort (sort_in s)) (list_all (λ s. is_brought_sort (sort_in s)) ss) read).0
its_sort (s ∷ ss) (suc n) sort read has =
    its_sort ss n sort
    (and_parts (is_brought_sort (sort_in s)) (list_all (λ s. is_brought_sort (sort_in s)) ss) read).1 has

-- words and truth values fit the constants of a scope
pub fitting : (ts : List Term) (ss : List code_sort.Sort) (ns : List (Name × Named)) (words : List (List ℕ)) (truths : List Bool)
    → list_all (λ s. is_brought_sort (sort_in s)) ss ≡ true
    → are_sorted (map sort_in ss) (constants_among ns) ≡ true → are_words words ≡ true
    → fits (constants_in (map (naming_in ts) ns)) (values_at (constants_among ns) words truths) ≡ true
fitting ts ss [] words truths read sorted h = refl
fitting ts ss ((name, code.Constant serial sort) ∷ ns) words truths read sorted h =
    let parts = and_parts (has_sort (map sort_in ss) (serial.0, sort_in sort))
    (are_sorted (map sort_in ss) (constants_among ns)) sorted in
    let there : Bool = is_of (sort_in sort) (value_at words truths serial.0 (sort_in sort)) in
    and_from ((serial.0 == serial.0) && there) _
    (and_from (serial.0 == serial.0) there (eq-eqb serial.0 serial.0 refl)
    (of_its_sort words truths serial.0 (sort_in sort) h (its_sort ss serial.0 (sort_in sort) read parts.0)))
    (fitting ts ss ns words truths read parts.1 h)
fitting ts ss ((name, code.Definition d) ∷ ns) words truths read sorted h = fitting ts ss ns words truths read sorted h
fitting ts ss ((name, code.Marked) ∷ ns) words truths read sorted h = fitting ts ss ns words truths read sorted h

-- Which constants terms speak of.

mutual
  pub speaks_more : (ns ms : List (ℕ × Sort)) → ((n : ℕ) (k : Sort) → is_one_of ns n k ≡ true → is_one_of ms n k ≡ true) → (t : Term)
      → speaks_of ns t ≡ true → speaks_of ms t ≡ true
  speaks_more ns ms more (constant serial sort) h = more serial sort h
  speaks_more ns ms more (word w) h = refl
  speaks_more ns ms more (numeral n) h = refl
  speaks_more ns ms more (apply s terms) h = speak_more ns ms more terms h
  speaks_more ns ms more (parameter place sort) h = refl

  speak_more : (ns ms : List (ℕ × Sort)) → ((n : ℕ) (k : Sort) → is_one_of ns n k ≡ true → is_one_of ms n k ≡ true) → (ts : Terms)
      → speak_of ns ts ≡ true → speak_of ms ts ≡ true
  speak_more ns ms more no_terms h = refl
  speak_more ns ms more (with_term t ts) h =
      let parts = and_parts (speaks_of ns t) (speak_of ns ts) h in
      and_from (speaks_of ms t) (speak_of ms ts) (speaks_more ns ms more t parts.0) (speak_more ns ms more ts parts.1)

asserts_more : (ns ms : List (ℕ × Sort)) → ((n : ℕ) (k : Sort) → is_one_of ns n k ≡ true → is_one_of ms n k ≡ true) → (bs : List meaning.Assertion)
    → list_all (asserts_of ns) bs ≡ true → list_all (asserts_of ms) bs ≡ true
asserts_more ns ms more [] h = refl
asserts_more ns ms more (meaning.asserted t ∷ bs) h =
    let parts = and_parts (speaks_of ns t) (list_all (asserts_of ns) bs) h in
    and_from (speaks_of ms t) (list_all (asserts_of ms) bs) (speaks_more ns ms more t parts.0)
    (asserts_more ns ms more bs parts.1)
asserts_more ns ms more (meaning.a_mark ∷ bs) h = asserts_more ns ms more bs h

pub one_front : (cs ds : List (ℕ × Sort)) (n : ℕ) (sort : Sort) → is_one_of cs n sort ≡ true
    → is_one_of (cs ++ ds) n sort ≡ true
one_front [] ds n sort h = absurd (false≢true h)
one_front (c ∷ cs) ds n sort h = step (c.0 == n) h (one_front cs ds n sort)
  where
    step : (b : Bool) → (if b then is_same_sort c.1 sort else is_one_of cs n sort) ≡ true
        → (is_one_of cs n sort ≡ true → is_one_of (cs ++ ds) n sort ≡ true)
        → (if b then is_same_sort c.1 sort else is_one_of (cs ++ ds) n sort) ≡ true
    step true h later = h
    step false h later = later h

pub constants_append : (ns ms : List (Name × Named))
    → constants_among (ns ++ ms) ≡ constants_among ns ++ constants_among ms
constants_append [] ms = refl
constants_append ((name, code.Constant serial sort) ∷ ns) ms =
    ap (λ cs. (serial.0, sort_in sort) ∷ cs) (constants_append ns ms)
constants_append ((name, code.Definition d) ∷ ns) ms = constants_append ns ms
constants_append ((name, code.Marked) ∷ ns) ms = constants_append ns ms

-- the constants of the first names are among all
one_all : (k : ℕ) (ns : List (Name × Named)) (n : ℕ) (sort : Sort)
    → is_one_of (constants_among (take k ns)) n sort ≡ true → is_one_of (constants_among ns) n sort ≡ true
one_all k ns n sort h =
    ap (λ cs. is_one_of cs n sort)
    (ap constants_among (sym (take-append-drop k ns)) ∙ constants_append (take k ns) (drop k ns))
    ∙ one_front (constants_among (take k ns)) (constants_among (drop k ns)) n sort h

one_of_front : (global : Bool) (k : ℕ) (ns : List (Name × Named)) (n : ℕ) (sort : Sort)
    → is_one_of (constants_among (front_names global k ns)) n sort ≡ true
    → is_one_of (constants_among ns) n sort ≡ true
one_of_front true k ns n sort h = h
one_of_front false k ns n sort h = one_all k ns n sort h

pub one_more : (ns : List (Name × Named)) (x : Name × Named) (n : ℕ) (sort : Sort)
    → is_one_of (constants_among ns) n sort ≡ true → is_one_of (constants_among (ns ++ x ∷ [])) n sort ≡ true
one_more ns x n sort h =
    ap (λ cs. is_one_of cs n sort) (constants_append ns (x ∷ []))
    ∙ one_front (constants_among ns) (constants_among (x ∷ [])) n sort h

-- all assertions speak of live constants
all_theirs : (global : Bool) (ls : List Level) (ns : List (Name × Named)) (bs : List meaning.Assertion)
    → speak_of_theirs global ls ns bs ≡ true → list_all (asserts_of (constants_among ns)) bs ≡ true
all_theirs global [] ns bs h = h
all_theirs global (l ∷ ls) ns bs h =
    let front : List (Name × Named) = front_names global l.names ns in
    let parts = and_parts (list_all (asserts_of (constants_among ns)) (drop l.assertions bs))
    (speak_of_theirs global ls front (take l.assertions bs)) h in
    let below = asserts_more (constants_among front) (constants_among ns) (one_of_front global l.names ns)
    (take l.assertions bs) (all_theirs global ls front (take l.assertions bs) parts.1) in
    ap (list_all (asserts_of (constants_among ns))) (sym (take-append-drop l.assertions bs))
    ∙ list_all-append (asserts_of (constants_among ns)) (take l.assertions bs) (drop l.assertions bs)
    ∙ and_from _ _ below parts.0

terms_speak : (ns : List (ℕ × Sort)) (bs : List meaning.Assertion) → list_all (asserts_of ns) bs ≡ true
    → list_all (speaks_of ns) (terms_in bs) ≡ true
terms_speak ns [] h = refl
terms_speak ns (meaning.asserted t ∷ bs) h =
    let parts = and_parts (speaks_of ns t) (list_all (asserts_of ns) bs) h in
    and_from (speaks_of ns t) (list_all (speaks_of ns) (terms_in bs)) parts.0 (terms_speak ns bs parts.1)
terms_speak ns (meaning.a_mark ∷ bs) h = terms_speak ns bs h

pub live_speak : (global : Bool) (ls : List Level) (ns : List (Name × Named)) (bs : List meaning.Assertion)
    → speak_of_theirs global ls ns bs ≡ true → list_all (speaks_of (constants_among ns)) (terms_in bs) ≡ true
live_speak global ls ns bs h = terms_speak (constants_among ns) bs (all_theirs global ls ns bs h)

-- one more name
pub theirs_name : (global : Bool) (ls : List Level) (ns : List (Name × Named)) (bs : List meaning.Assertion)
    (x : Name × Named) → are_nested ls (length ns) (length bs) ≡ true → speak_of_theirs global ls ns bs ≡ true
    → speak_of_theirs global ls (ns ++ x ∷ []) bs ≡ true
theirs_name global [] ns bs x nested h =
    asserts_more (constants_among ns) (constants_among (ns ++ x ∷ [])) (one_more ns x) bs h
theirs_name true (l ∷ ls) ns bs x nested h =
    let parts = and_parts (list_all (asserts_of (constants_among ns)) (drop l.assertions bs))
    (speak_of_theirs true ls ns (take l.assertions bs)) h in
    and_from _ _
    (asserts_more (constants_among ns) (constants_among (ns ++ x ∷ [])) (one_more ns x) (drop l.assertions bs) parts.0)
    (theirs_name true ls ns (take l.assertions bs) x (nested_left true l ls ns bs nested) parts.1)
theirs_name false (l ∷ ls) ns bs x nested h =
    let head = nested_head l ls (length ns) (length bs) nested in
    let parts = and_parts (list_all (asserts_of (constants_among ns)) (drop l.assertions bs))
    (speak_of_theirs false ls (take l.names ns) (take l.assertions bs)) h in
    and_from _ _
    (asserts_more (constants_among ns) (constants_among (ns ++ x ∷ [])) (one_more ns x) (drop l.assertions bs) parts.0)
    (ap (λ xs. speak_of_theirs false ls xs (take l.assertions bs)) (take-append-le l.names ns (x ∷ []) head.0) ∙ parts.1)

-- one more assertion, which speaks of live constants
pub theirs_assertion : (global : Bool) (ls : List Level) (ns : List (Name × Named)) (bs : List meaning.Assertion)
    (a : meaning.Assertion) → are_nested ls (length ns) (length bs) ≡ true
    → asserts_of (constants_among ns) a ≡ true → speak_of_theirs global ls ns bs ≡ true
    → speak_of_theirs global ls ns (bs ++ a ∷ []) ≡ true
theirs_assertion global [] ns bs a nested here h =
    list_all-append (asserts_of (constants_among ns)) bs (a ∷ [])
    ∙ and_from _ _ h (and_from (asserts_of (constants_among ns) a) true here refl)
theirs_assertion global (l ∷ ls) ns bs a nested here h =
    let head = nested_head l ls (length ns) (length bs) nested in
    let front : List (Name × Named) = front_names global l.names ns in
    let test : meaning.Assertion → Bool = asserts_of (constants_among ns) in
    let parts = and_parts (list_all test (drop l.assertions bs))
    (speak_of_theirs global ls front (take l.assertions bs)) h in
    and_from _ _
    (ap (list_all test) (drop-append-le l.assertions bs (a ∷ []) head.1)
    ∙ list_all-append test (drop l.assertions bs) (a ∷ [])
    ∙ and_from _ _ parts.0 (and_from (test a) true here refl))
    (ap (speak_of_theirs global ls front) (take-append-le l.assertions bs (a ∷ []) head.1) ∙ parts.1)

-- some more levels
pub theirs_pushed : (global : Bool) (n : ℕ) (l : Level) (ls : List Level) (ns : List (Name × Named))
    (bs : List meaning.Assertion) → l.names ≡ length ns → l.assertions ≡ length bs
    → speak_of_theirs global ls ns bs ≡ true → speak_of_theirs global (replicate n l ++ ls) ns bs ≡ true
theirs_pushed global zero l ls ns bs all here h = h
theirs_pushed global (suc n) l ls ns bs all here h =
    let names : front_names global l.names ns ≡ ns = front_all global l.names ns all in
    let assertions : take l.assertions bs ≡ bs = ap (λ k. take k bs) here ∙ take-length bs in
    let no_assertions : drop l.assertions bs ≡ [] = ap (λ k. drop k bs) here ∙ drop-length bs in
    and_from _ _ (ap (list_all (asserts_of (constants_among ns))) no_assertions)
    (ap₂ (speak_of_theirs global (replicate n l ++ ls)) names assertions
    ∙ theirs_pushed global n l ls ns bs all here h)

pub theirs_left : (global : Bool) (l : Level) (ls : List Level) (ns : List (Name × Named))
    (bs : List meaning.Assertion) → speak_of_theirs global (l ∷ ls) ns bs ≡ true
    → speak_of_theirs global ls (front_names global l.names ns) (take l.assertions bs) ≡ true
theirs_left global l ls ns bs h =
    (and_parts (list_all (asserts_of (constants_among ns)) (drop l.assertions bs))
    (speak_of_theirs global ls (front_names global l.names ns) (take l.assertions bs)) h).1

-- whether names are global or not, where there are none
pub theirs_nothing : (old new : Bool) (ls : List Level) (bs : List meaning.Assertion)
    → speak_of_theirs old ls [] bs ≡ true → speak_of_theirs new ls [] bs ≡ true
theirs_nothing old new [] bs h = h
theirs_nothing old new (l ∷ ls) bs h =
    let none : List (Name × Named) = [] in
    let parts = and_parts (list_all (asserts_of []) (drop l.assertions bs))
    (speak_of_theirs old ls (front_names old l.names none) (take l.assertions bs)) h in
    and_from _ _ parts.0
    (ap (λ ns. speak_of_theirs new ls ns (take l.assertions bs)) (none_in_front new l.names)
    ∙ theirs_nothing old new ls (take l.assertions bs)
    (ap (λ ns. speak_of_theirs old ls ns (take l.assertions bs)) (sym (none_in_front old l.names)) ∙ parts.1))
