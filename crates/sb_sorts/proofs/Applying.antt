-- Sorts of arguments, as the tests go over them.
use Rattle.std.proofs.Common.{◌≡◌, ℕ, ◌+◌, ◌<◌, Bool, true, false, not, ◌&&◌, ◌==◌, if◌then◌else◌, List, [], ◌∷◌, ◌++◌, length, map, take, get_or, nat_lt, Option, Some, None, Result, Err, Ok, refl, sym, ap, ap₂, subst, ◌∙◌, arith, true≢false}
use Rattle.std.proofs.lemmas.Bool.Decides.{nat_tests}
use Rattle.std.proofs.lemmas.List.{map-append, take_more, length-map, nil_from_length}
use Rattle.std.specs.List.{list_all, zip}
use Rattle.sb_facts.proofs.CallerLemmas.{equal_itself}
use Rattle.sb_meaning.specs.Terms as meaning
use Rattle.sb_meaning.specs.Sorts.{Arity, is_same_sort, are_sorts, is_count, is_of_one, sort_of}
use Rattle.sb_script.specs.Faults.{Fault, wrong_count, wrong_sort, unsupported}
use Rattle.sb_script.specs.Heads.{Head, head_constant, head_definition, head_term, with_arguments, judged_definition, applied_to, made, unless}
use Rattle.sb_term.specs.Numbered.{term_at, terms_at}
use Rattle.sb_term.specs.declared.sort.Sort.{Sort}
use Rattle.sb_term.specs.Symbols.{sort_in}
use Rattle.sb_sorts.specs.declared.read.ReadFault.{ReadFault}
use Rattle.sb_sorts.specs.Reads.{ReadsAs}

-- the test of a pair, as the loop has it
abbrev pub fits : Sort × Sort → Bool
fits p = is_same_sort (sort_in p.0) (sort_in p.1)

pub sorts_zip : (wanted sorts : List Sort) → length wanted ≡ length sorts
    → list_all fits (zip wanted sorts) ≡ are_sorts (map sort_in wanted) (map sort_in sorts)
sorts_zip [] [] same = refl
sorts_zip [] (sort ∷ sorts) same = absurd (omega arith)
sorts_zip (sort ∷ wanted) [] same = absurd (omega arith)
sorts_zip (sort ∷ wanted) (other ∷ sorts) same = let rest : length wanted ≡ length sorts = omega arith in
    ap (λ b. fits (sort, other) && b) (sorts_zip wanted sorts rest)

pub all_of : (sort : Sort) (sorts : List Sort)
    → list_all (λ s. is_same_sort (sort_in sort) (sort_in s)) sorts
    ≡ list_all (is_same_sort (sort_in sort)) (map sort_in sorts)
all_of sort [] = refl
all_of sort (other ∷ sorts) = ap (λ b. is_same_sort (sort_in sort) (sort_in other) && b) (all_of sort sorts)

-- the sort of one more term
pub sorts_more : (ts : List meaning.Term) (ids : List ℕ) (i id : ℕ) (sorts more : List Sort) (sort : Sort)
    → i < length ids → id ≡ get_or ids i id → sort_in sort ≡ sort_of (term_at ts id) → more ≡ sorts ++ sort ∷ []
    → map sort_in sorts ≡ map sort_of (terms_at ts (take i ids))
    → map sort_in more ≡ map sort_of (terms_at ts (take (i + 1) ids))
sorts_more ts ids i id sorts more sort within is here pushed before =
    let all : take (i + 1) ids ≡ take i ids ++ id ∷ [] =
    take_more ids i id within ∙ ap (λ j. take i ids ++ j ∷ []) (sym is) in
    ap (map sort_in) pushed ∙ map-append sort_in sorts (sort ∷ [])
    ∙ ap₂ (λ xs s. xs ++ s ∷ []) before here
    ∙ sym (ap (λ is. map sort_of (terms_at ts is)) all
    ∙ ap (map sort_of) (map-append (term_at ts) (take i ids) (id ∷ []))
    ∙ map-append sort_of (terms_at ts (take i ids)) (term_at ts id ∷ []))

-- there are as many sorts as terms
pub as_many : (ts : List meaning.Term) (ids : List ℕ) (sorts : List Sort)
    → map sort_in sorts ≡ map sort_of (terms_at ts ids) → length sorts ≡ length ids
as_many ts ids sorts is =
    sym (length-map sorts sort_in) ∙ ap length is ∙ length-map (terms_at ts ids) sort_of
    ∙ length-map ids (term_at ts)

-- so many arguments are taken, as their sorts count
pub counted_sorts : (arity : Arity) (b : Bool) (n : ℕ) (ts : List meaning.Term) (ids : List ℕ) (sorts : List Sort)
    → b ≡ is_count arity n → b ≡ true → n ≡ length ids → map sort_in sorts ≡ map sort_of (terms_at ts ids)
    → is_count arity (length sorts) ≡ true
counted_sorts arity b n ts ids sorts test taken long is =
    ap (is_count arity) (as_many ts ids sorts is ∙ sym long) ∙ sym test ∙ taken

-- a test of what is the same
pub by_same : {A B : Type 0} (test : A → B → Bool) (a a' : A) (b b' : B) (r : Bool) → r ≡ test a b → a ≡ a' → b ≡ b'
    → test a' b' ≡ r
by_same test a a' b b' r is p q = sym (is ∙ ap₂ test p q)

pub as_many_terms : (ts : List meaning.Term) (ids : List ℕ) → length ids ≡ length (map sort_of (terms_at ts ids))
as_many_terms ts ids = sym (length-map (terms_at ts ids) sort_of ∙ length-map ids (term_at ts))

-- the tests in their order: of the number, of the sorts, and of what is left out
abbrev pub judged_by : Bool → Bool → Bool → Option Fault
judged_by counted fit out =
    if not counted then Some wrong_count
    else if not fit then Some wrong_sort
    else if out then Some unsupported
    else None

pub uncounted : (counted fit out : Bool) (t : meaning.Term) → counted ≡ false
    → unless (judged_by counted fit out) t ≡ Err wrong_count
uncounted true fit out t h = absurd (true≢false h)
uncounted false fit out t h = refl

pub unfit : (counted fit out : Bool) (t : meaning.Term) → counted ≡ true → fit ≡ false
    → unless (judged_by counted fit out) t ≡ Err wrong_sort
unfit false fit out t h u = absurd (true≢false (sym h))
unfit true true out t h u = absurd (true≢false u)
unfit true false out t h u = refl

pub left_out : (counted fit out : Bool) (t : meaning.Term) → counted ≡ true → fit ≡ true → out ≡ true
    → unless (judged_by counted fit out) t ≡ Err unsupported
left_out false fit out t h u v = absurd (true≢false (sym h))
left_out true false out t h u v = absurd (true≢false (sym u))
left_out true true false t h u v = absurd (true≢false (sym v))
left_out true true true t h u v = refl

pub taken_in : (counted fit out : Bool) (t u : meaning.Term) → counted ≡ true → fit ≡ true → out ≡ false → u ≡ t
    → unless (judged_by counted fit out) t ≡ Ok u
taken_in false fit out t u h i j is = absurd (true≢false (sym h))
taken_in true false out t u h i j is = absurd (true≢false (sym i))
taken_in true true true t u h i j is = absurd (true≢false j)
taken_in true true false t u h i j is = ap Ok (sym is)

-- the tests of a definition in their order: of the number, and of the sorts
abbrev judged_by_two : Bool → Bool → Option Fault
judged_by_two same fit = if not same then Some wrong_count else if fit then None else Some wrong_sort

module _ (parameters sorts : List Sort) where
  by_tests : (same fit : Bool) → (length parameters == length sorts) ≡ same
      → are_sorts (map sort_in parameters) (map sort_in sorts) ≡ fit
      → judged_definition (map sort_in parameters) (map sort_in sorts) ≡ judged_by_two same fit
  by_tests same fit e f =
      ap₂ judged_by_two
      (ap₂ (λ n m. n == m) (length-map parameters sort_in) (length-map sorts sort_in) ∙ e) f

  same_count : length parameters ≡ length sorts → (length parameters == length sorts) ≡ true
  same_count same = ap (λ n. n == length sorts) same ∙ equal_itself (length sorts)

  pub other_count : (t : meaning.Term) → (length parameters ≡ length sorts → ⊥)
      → unless (judged_definition (map sort_in parameters) (map sort_in sorts)) t ≡ Err wrong_count
  other_count t other =
      let unequal : (length parameters == length sorts) ≡ false = grind (arith, nat_tests, other) in
      ap (λ o. unless o t) (by_tests false (are_sorts (map sort_in parameters) (map sort_in sorts)) unequal refl)

  pub other_sorts : (t : meaning.Term) → length parameters ≡ length sorts
      → are_sorts (map sort_in parameters) (map sort_in sorts) ≡ false
      → unless (judged_definition (map sort_in parameters) (map sort_in sorts)) t ≡ Err wrong_sort
  other_sorts t same fit = ap (λ o. unless o t) (by_tests true false (same_count same) fit)

  pub sorts_fit : length parameters ≡ length sorts
      → are_sorts (map sort_in parameters) (map sort_in sorts) ≡ true
      → judged_definition (map sort_in parameters) (map sort_in sorts) ≡ None
  sorts_fit same fit = by_tests true true (same_count same) fit

-- a definition whose parameters have the sorts of the arguments
pub definition_made : (sorts : List meaning.Sort) (body u : meaning.Term) (us : List meaning.Term)
    → judged_definition sorts (map sort_of us) ≡ None → u ≡ with_arguments us body
    → applied_to (head_definition sorts body) us ≡ Ok u
definition_made sorts body u us fit is = ap (λ o. unless o (with_arguments us body)) fit ∙ ap Ok (sym is)

-- the same head and the same arguments
pub read_by : (new ts : List meaning.Term) (h k : Head) (ids is : List ℕ) (r : Result ℕ ReadFault) → h ≡ k → is ≡ ids
    → ReadsAs new (applied_to k (terms_at ts is)) r → ReadsAs new (applied_to h (terms_at ts ids)) r
read_by new ts h k ids is r same equal reads =
    subst (λ js. ReadsAs new (applied_to h (terms_at ts js)) r) equal
    (subst (λ g. ReadsAs new (applied_to g (terms_at ts is)) r) (sym same) reads)

-- one argument as it is
chosen : (b : Bool) (t u : meaning.Term) → b ≡ true → t ≡ (if b then t else u)
chosen true t u h = refl
chosen false t u h = absurd (true≢false (sym h))

pub one_made : (s : meaning.Symbol) (ts : List meaning.Term) (ids : List ℕ) (i : ℕ) → is_of_one s ≡ true
    → length ids ≡ 1 → i ≡ get_or ids 0 i → term_at ts i ≡ made s (terms_at ts ids)
one_made s ts [] i one long is = absurd (omega (arith, long))
one_made s ts (j ∷ []) i one long is = ap (term_at ts) is ∙ chosen (is_of_one s) _ _ one
one_made s ts (j ∷ k ∷ ks) i one long is = absurd (omega (arith, long))

-- a head that takes no arguments
pub constant_alone : (head : Head) (serial : ℕ) (sort : meaning.Sort) (ts : List meaning.Term) (ids : List ℕ)
    (u : meaning.Term) → head ≡ head_constant serial sort → ids ≡ [] → u ≡ meaning.constant serial sort
    → applied_to head (terms_at ts ids) ≡ Ok u
constant_alone head serial sort ts ids u is none made_is =
    ap₂ (λ h is. applied_to h (terms_at ts is)) is none ∙ ap Ok (sym made_is)

pub term_alone : (head : Head) (t : meaning.Term) (ts : List meaning.Term) (ids : List ℕ) (u : meaning.Term)
    → head ≡ head_term t → ids ≡ [] → u ≡ t → applied_to head (terms_at ts ids) ≡ Ok u
term_alone head t ts ids u is none made_is =
    ap₂ (λ h is. applied_to h (terms_at ts is)) is none ∙ ap Ok (sym made_is)

pub small_serial : (serial n : ℕ) → nat_lt serial n ≡ true → serial < n
small_serial serial n h = grind (arith, nat_tests, h)

pub none_of : (ids : List ℕ) → true ≡ (length ids == 0) → ids ≡ []
none_of ids h = let none : length ids ≡ 0 = grind (arith, nat_tests, h) in nil_from_length ids none
