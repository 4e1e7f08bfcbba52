-- Regexes joined from the right, and by unions of many.
use Rattle.std.proofs.Common.{◌≡◌, ℕ, suc, ◌+◌, ◌-◌, ◌≤◌, ◌<◌, Bool, true, false, ◌||◌, ◌==◌, List, [], ◌∷◌, ◌++◌, length, map, take, drop, get_or, refl, sym, ap, ap₂, ◌∙◌, arith, Option, Some, option_map}
use Rattle.std.proofs.lemmas.Bool.{and_parts, and_from, false≢true}
use Rattle.std.specs.List.{list_all}
use Rattle.std.proofs.lemmas.Option.{slice_get-get_or}
use Rattle.std.proofs.lemmas.Bool.Decides.{nat_tests}
use Rattle.std.proofs.lemmas.List.{take_more, take_all, map-append}
use Rattle.std.proofs.lemmas.List.Elements.{All-append}
use Rattle.std.proofs.lemmas.List.Folds.{list_all_at, list_all-append, list_any-append}
use Rattle.sb_facts.proofs.CallerLemmas.{or_swap}
use Rattle.sb_lang.specs.Regex.{Regex, none, eps}
use Rattle.sb_lang.specs.Constructors.{anything, mkcat, mkalt, mkand, mknot, mkstar}
use Rattle.sb_lang.specs.NormalForm.{is_normal, IsNormal}
use Rattle.sb_lang.specs.NormalFormLaws.{ConstructorsGiveNormal}
use Rattle.sb_lang.specs.FoldLaws.{UnionOfOne, UnionOfMore, IntersectionOfMore, IntersectionOfMembers, AllNormal}
use Rattle.sb_lang.specs.Order.{regex_eq}
use Rattle.sb_lang.specs.SortedLaws.{is_member}
use Rattle.sb_regex.specs.Numbered.{regex_at, regexes_at, Names, AllNumbers, Extends}
use Rattle.sb_problem.specs.Shapes.{IsFound, joined_right, joined_from, joined_left, of_nothing, of_one, either, both, without, repeated, optional}
use Rattle.sb_regex.proofs.CallerLemmas.{names_at, names_below, at_kept, ats_kept, number_in, number_kept, numbers_kept, one_number, extends_same, extends_more}

-- what is found by its regex
pub found : (rs : List Regex) (id : ℕ) (r : Regex) (o : Option Regex) → o ≡ Some r → Names rs id r
    → IsFound rs (Some id) o
found rs id r o is names = rw is (ap Some names)

-- of one alone
pub of_one_regex : (make : Regex → Regex) (rs : List Regex) (ids : List ℕ) (x : ℕ) → 1 ≤ length ids → length ids < 2
    → x ≡ get_or ids 0 x → of_one make (regexes_at rs ids) ≡ Some (make (regex_at rs x))
of_one_regex make rs [] x low high is = absurd (omega arith)
of_one_regex make rs (y ∷ []) x low high is = ap (λ z. Some (make (regex_at rs z))) (sym is)
of_one_regex make rs (y ∷ z ∷ ids) x low high is = absurd (omega arith)

pub repeated_found : (old new more : List Regex) (ids : List ℕ) (x star id : ℕ) → AllNumbers old ids → 1 ≤ length ids
    → length ids < 2 → x ≡ get_or ids 0 x → Extends old new →
    Names new star (mkstar (regex_at old x)) → Names more id (mkcat (regex_at new x) (regex_at new star))
    → IsFound more (Some id) (of_one repeated (regexes_at old ids))
repeated_found old new more ids x star id numbers low high is extends starred names =
    found more id (repeated (regex_at old x)) _ (of_one_regex repeated old ids x low high is)
    (names ∙ ap Some (ap₂ mkcat (at_kept old new x extends (number_in old ids 0 x numbers (omega arith) is))
    (names_at new star _ starred)))

-- each of the regexes is normal
normal_at : (rs : List Regex) (i : ℕ) → AllNormal rs → i < length rs → IsNormal (regex_at rs i)
normal_at rs i normal h =
    by_cases (is_normal (regex_at rs i)) (λ bad. false≢true (sym (list_all_at is_normal rs i none h bad) ∙ normal))
  where
    by_cases : (b : Bool) → (b ≡ false → ⊥) → b ≡ true
    by_cases true h = refl
    by_cases false h = absurd (h refl)

all_normal : (rs : List Regex) (ids : List ℕ) → AllNormal rs → AllNumbers rs ids → AllNormal (regexes_at rs ids)
all_normal rs [] normal numbers = refl
all_normal rs (i ∷ ids) normal numbers =
    and_from (is_normal (regex_at rs i)) (list_all is_normal (regexes_at rs ids))
    (normal_at rs i normal (numbers 0 0 (omega arith)))
    (all_normal rs ids normal (λ k d l. numbers (suc k) d (omega (arith, l))))

union_all : UnionOfOne → UnionOfMore → (r : Regex) (rs : List Regex) → AllNormal (r ∷ rs)
    → joined_right either (r ∷ rs) ≡ Some (mkalt (r ∷ rs))
union_all one more r [] h = ap Some (sym (one r (and_parts (is_normal r) true h).0))
union_all one more r (s ∷ rs) h =
    let here = (and_parts (is_normal r) (list_all is_normal (s ∷ rs)) h).0 in
    let rest = (and_parts (is_normal r) (list_all is_normal (s ∷ rs)) h).1 in
    ap (option_map (either r)) (union_all one more s rs rest) ∙ ap Some (more r (s ∷ rs) here rest)

pub union_found : UnionOfOne → UnionOfMore → (rs new : List Regex) (ids : List ℕ) (id : ℕ) → AllNormal rs
    → AllNumbers rs ids → false ≡ (length ids == 0) → Names new id (mkalt (regexes_at rs ids))
    → IsFound new (Some id) (joined_right either (regexes_at rs ids))
union_found one more rs new [] id normal numbers some names = absurd (false≢true some)
union_found one more rs new (i ∷ ids) id normal numbers some names =
    found new id (mkalt (regexes_at rs (i ∷ ids))) _
    (union_all one more (regex_at rs i) (regexes_at rs ids) (all_normal rs (i ∷ ids) normal numbers)) names

-- Of none.

some_length : (n : ℕ) → true ≡ (suc n == 0) → ⊥
some_length n h = false≢true (other ∙ sym h)
  where
    other : false ≡ (suc n == 0)
    other = grind (arith, nat_tests)

pub nothing_found : (old new : List Regex) (ids : List ℕ) (id : ℕ) (r : Regex) → true ≡ (length ids == 0) → Names new id r
    → IsFound new (Some id) (of_nothing r (regexes_at old ids))
nothing_found old new [] id r h names = found new id r _ refl names
nothing_found old new (x ∷ ids) id r h names = absurd (some_length (length ids) h)

pub all_found : (old new more : List Regex) (ids : List ℕ) (x id : ℕ) → true ≡ (length ids == 0) → Names new x none
    → Names more id (mknot (regex_at new x)) → IsFound more (Some id) (of_nothing anything (regexes_at old ids))
unfolding mknot
all_found old new more ids x id h named names =
    nothing_found old more ids id anything h (names ∙ ap (λ r. Some (mknot r)) (names_at new x none named))

-- Options.

pub optional_found : (old new more : List Regex) (ids : List ℕ) (x empty id : ℕ) → AllNumbers old ids → 1 ≤ length ids
    → length ids < 2 → x ≡ get_or ids 0 x → Extends old new → Names new empty eps
    → Names more id (mkalt (regexes_at new (x ∷ empty ∷ [])))
    → IsFound more (Some id) (of_one optional (regexes_at old ids))
optional_found old new more ids x empty id numbers low high is extends named names =
    found more id (optional (regex_at old x)) _ (of_one_regex optional old ids x low high is)
    (names ∙ ap Some (ap₂ (λ r s. mkalt (r ∷ s ∷ []))
    (at_kept old new x extends (number_in old ids 0 x numbers (omega arith) is)) (names_at new empty eps named)))

-- Intersections.

meet_all : IntersectionOfMore → (r s : Regex) (rs : List Regex) → AllNormal (r ∷ s ∷ rs)
    → joined_right both (r ∷ s ∷ rs) ≡ Some (mkand (r ∷ s ∷ rs))
meet_all more r s [] h = refl
meet_all more r s (t ∷ rs) h =
    let here = (and_parts (is_normal r) (list_all is_normal (s ∷ t ∷ rs)) h).0 in
    let rest = (and_parts (is_normal r) (list_all is_normal (s ∷ t ∷ rs)) h).1 in
    ap (option_map (both r)) (meet_all more s t rs rest) ∙ ap Some (more r (s ∷ t ∷ rs) here rest)

pub only_found : (rs : List Regex) (ids : List ℕ) (x : ℕ) → AllNumbers rs ids → 1 ≤ length ids → length ids < 2
    → x ≡ get_or ids 0 x → IsFound rs (Some x) (joined_right both (regexes_at rs ids))
only_found rs [] x numbers low high is = absurd (omega arith)
only_found rs (y ∷ []) x numbers low high is =
    rw is (found rs y (regex_at rs y) _ refl (slice_get-get_or rs y none (numbers 0 0 (omega arith))))
only_found rs (y ∷ z ∷ ids) x numbers low high is = absurd (omega arith)

pub intersection_found : IntersectionOfMore → (rs new : List Regex) (ids : List ℕ) (id : ℕ) → AllNormal rs
    → AllNumbers rs ids → 2 ≤ length ids → Names new id (mkand (regexes_at rs ids))
    → IsFound new (Some id) (joined_right both (regexes_at rs ids))
intersection_found more rs new [] id normal numbers some names = absurd (omega arith)
intersection_found more rs new (i ∷ []) id normal numbers some names = absurd (omega arith)
intersection_found more rs new (i ∷ j ∷ ids) id normal numbers some names =
    found new id (mkand (regexes_at rs (i ∷ j ∷ ids))) _
    (meet_all more (regex_at rs i) (regex_at rs j) (regexes_at rs ids) (all_normal rs (i ∷ j ∷ ids) normal numbers)) names

-- Differences: the first and the complements of the others are an intersection.

-- a member in front stands anywhere
moved : (r s : Regex) (xs ys : List Regex) → is_member r (xs ++ s ∷ ys) ≡ is_member r (s ∷ (xs ++ ys))
moved r s [] ys = refl
moved r s (x ∷ xs) ys =
    ap (λ b. regex_eq r x || b) (moved r s xs ys)
    ∙ or_swap (regex_eq r x) (regex_eq r s) (is_member r (xs ++ ys))

normal_both : (xs ys : List Regex) → AllNormal xs → AllNormal ys → AllNormal (xs ++ ys)
normal_both xs ys h k = list_all-append is_normal xs ys ∙ and_from (list_all is_normal xs) (list_all is_normal ys) h k

normal_nots : ConstructorsGiveNormal → (rs : List Regex) → AllNormal rs → AllNormal (map mknot rs)
normal_nots laws [] h = refl
normal_nots laws (r ∷ rs) h =
    let parts = and_parts (is_normal r) (list_all is_normal rs) h in
    and_from (is_normal (mknot r)) (list_all is_normal (map mknot rs)) (laws.complements r parts.0)
    (normal_nots laws rs parts.1)

taken_out : IntersectionOfMore → IntersectionOfMembers → ConstructorsGiveNormal → (xs rs : List Regex) → AllNormal xs
    → AllNormal rs → joined_from without (mkand xs) rs ≡ mkand (map mknot rs ++ xs)
taken_out more same laws xs [] h k = refl
taken_out more same laws xs (s ∷ rs) h k =
    let parts = and_parts (is_normal s) (list_all is_normal rs) k in
    let complement : IsNormal (mknot s) = laws.complements s parts.0 in
    let whole : IsNormal (mkand xs) = laws.intersections xs h in
    let wider : AllNormal (mknot s ∷ xs) = and_from (is_normal (mknot s)) (list_all is_normal xs) complement h in
    let nots : AllNormal (map mknot rs) = normal_nots laws rs parts.1 in
    let turned : AllNormal (mknot s ∷ mkand xs ∷ []) =
    and_from (is_normal (mknot s)) (list_all is_normal (mkand xs ∷ [])) complement
    (and_from (is_normal (mkand xs)) true whole refl) in
    let first : without (mkand xs) s ≡ mkand (mknot s ∷ xs) =
    same (mkand xs ∷ mknot s ∷ []) (mknot s ∷ mkand xs ∷ [])
    (and_from (is_normal (mkand xs)) (list_all is_normal (mknot s ∷ [])) whole
    (and_from (is_normal (mknot s)) true complement refl)) turned
    (λ r. or_swap (regex_eq r (mkand xs)) (regex_eq r (mknot s)) false)
    ∙ more (mknot s) xs complement h in
    ap (λ r. joined_from without r rs) first
    ∙ (taken_out more same laws (mknot s ∷ xs) rs wider parts.1
    ∙ same (map mknot rs ++ mknot s ∷ xs) (mknot s ∷ (map mknot rs ++ xs))
    (normal_both (map mknot rs) (mknot s ∷ xs) nots wider)
    (and_from (is_normal (mknot s)) (list_all is_normal (map mknot rs ++ xs)) complement
    (normal_both (map mknot rs) xs nots h))
    (λ r. moved r (mknot s) (map mknot rs) xs))

all_taken_out : IntersectionOfMore → IntersectionOfMembers → ConstructorsGiveNormal → (r s : Regex) (rs : List Regex)
    → AllNormal (r ∷ s ∷ rs) → joined_from without r (s ∷ rs) ≡ mkand (map mknot (s ∷ rs) ++ r ∷ [])
all_taken_out more same laws r s rs h =
    let parts = and_parts (is_normal r) (list_all is_normal (s ∷ rs)) h in
    let others = and_parts (is_normal s) (list_all is_normal rs) parts.1 in
    let complement : IsNormal (mknot s) = laws.complements s others.0 in
    let nots : AllNormal (map mknot rs) = normal_nots laws rs others.1 in
    let alone : AllNormal (r ∷ []) = and_from (is_normal r) true parts.0 refl in
    let two : AllNormal (r ∷ mknot s ∷ []) =
    and_from (is_normal r) (list_all is_normal (mknot s ∷ [])) parts.0 (and_from (is_normal (mknot s)) true complement refl) in
    let turned : AllNormal (mknot s ∷ r ∷ []) =
    and_from (is_normal (mknot s)) (list_all is_normal (r ∷ [])) complement alone in
    taken_out more same laws (r ∷ mknot s ∷ []) rs two others.1
    ∙ same (map mknot rs ++ r ∷ mknot s ∷ []) (mknot s ∷ (map mknot rs ++ r ∷ []))
    (normal_both (map mknot rs) (r ∷ mknot s ∷ []) nots two)
    (and_from (is_normal (mknot s)) (list_all is_normal (map mknot rs ++ r ∷ [])) complement
    (normal_both (map mknot rs) (r ∷ []) nots alone))
    (λ x. list_any-append (regex_eq x) (map mknot rs) (r ∷ mknot s ∷ [])
    ∙ ap (λ b. is_member x (map mknot rs) || b) (or_swap (regex_eq x r) (regex_eq x (mknot s)) false)
    ∙ sym (list_any-append (regex_eq x) (map mknot rs) (mknot s ∷ r ∷ []))
    ∙ moved x (mknot s) (map mknot rs) (r ∷ []))

-- the first and the others
pub parted : (ids : List ℕ) (x : ℕ) → 1 ≤ length ids → x ≡ get_or ids 0 x → ids ≡ x ∷ take (length ids - 1) (drop 1 ids)
parted [] x low is = absurd (omega arith)
parted (y ∷ ids) x low is =
    ap₂ (λ z zs. z ∷ zs) (sym is) (sym (take_all (length (y ∷ ids) - 1) ids (omega arith)))

pub others_numbers : (rs : List Regex) (ids others : List ℕ) (x : ℕ) → AllNumbers rs ids → ids ≡ x ∷ others
    → AllNumbers rs others
others_numbers rs ids others x numbers is =
    let here : AllNumbers rs (x ∷ others) = rw is at numbers in
    λ k d l. here (suc k) d (omega (arith, l))

pub members_numbers : (rs new : List Regex) (ids nots members : List ℕ) (x : ℕ) → AllNumbers rs ids → 1 ≤ length ids
    → x ≡ get_or ids 0 x → Extends rs new → AllNumbers new nots → members ≡ nots ++ x ∷ [] → AllNumbers new members
members_numbers rs new ids nots members x numbers low is extends those all =
    rw all (All-append (λ n. n < length new) nots (x ∷ []) those
    (one_number new x (number_kept rs new x extends (number_in rs ids 0 x numbers low is))))

pub first_found : (rs : List Regex) (ids others : List ℕ) (x : ℕ) → AllNumbers rs ids → ids ≡ x ∷ others
    → true ≡ (length others == 0) → IsFound rs (Some x) (joined_left without (regexes_at rs ids))
first_found rs ids [] x numbers is h =
    rw is (found rs x (regex_at rs x) _ refl
    (slice_get-get_or rs x none (number_in rs ids 0 x numbers (omega (arith, ap length is)) (rw is refl))))
first_found rs ids (y ∷ others) x numbers is h = absurd (some_length (length others) h)

pub difference_found : IntersectionOfMore → IntersectionOfMembers → ConstructorsGiveNormal →
    (rs new more : List Regex) (ids others nots members : List ℕ) (x id : ℕ) → AllNormal rs → AllNumbers rs ids →
    ids ≡ x ∷ others → false ≡ (length others == 0) → Extends rs new →
    regexes_at new nots ≡ map mknot (regexes_at rs others) → members ≡ nots ++ x ∷ [] →
    Names more id (mkand (regexes_at new members)) → IsFound more (Some id) (joined_left without (regexes_at rs ids))
difference_found meets same laws rs new more ids [] nots members x id normal numbers is some extends those all names =
    absurd (false≢true some)
difference_found meets same laws rs new more ids (y ∷ others) nots members x id normal numbers is some extends those all
    names =
    let here : AllNumbers rs (x ∷ y ∷ others) = rw is at numbers in
    let last : regex_at new x ≡ regex_at rs x = at_kept rs new x extends (here 0 0 (omega arith)) in
    let kept : regexes_at new members ≡ map mknot (regexes_at rs (y ∷ others)) ++ regex_at rs x ∷ [] =
    ap (regexes_at new) all ∙ map-append (regex_at new) nots (x ∷ [])
    ∙ ap₂ (λ xs r. xs ++ r ∷ []) those last in
    rw is (found more id (mkand (map mknot (regexes_at rs (y ∷ others)) ++ regex_at rs x ∷ [])) _
    (ap Some (all_taken_out meets same laws (regex_at rs x) (regex_at rs y) (regexes_at rs others)
    (all_normal rs (x ∷ y ∷ others) normal here)))
    (names ∙ ap (λ xs. Some (mkand xs)) kept))

-- Complements, one further.

pub record AreComplements (old new : List Regex) (ids found : List ℕ) : Type 0 where
  pub extends : Extends old new
  pub numbers : AllNumbers new found
  pub regexes : regexes_at new found ≡ map mknot (regexes_at old ids)

pub complements_none : (rs : List Regex) → AreComplements rs rs [] []
complements_none rs = record { extends = extends_same rs; numbers = λ i d l. absurd (omega (arith, l)); regexes = refl }

pub complements_further : (old rs new : List Regex) (ids found found' : List ℕ) (i x id : ℕ) → AllNumbers old ids
    → AreComplements old rs (take i ids) found → i < length ids → x ≡ get_or ids i x → Extends rs new →
    Names new id (mknot (regex_at rs x)) → found' ≡ found ++ id ∷ []
    → AreComplements old new (take (i + 1) ids) found'
complements_further old rs new ids found found' i x id numbers so_far l there extends names is = rw is (record {
  extends = extends_more old rs new so_far.extends extends;
  numbers = All-append (λ n. n < length new) found (id ∷ []) (numbers_kept rs new found extends so_far.numbers)
      (one_number new id (names_below new id _ names));
  regexes = map-append (regex_at new) found (id ∷ [])
      ∙ (ap₂ (λ xs r. xs ++ r ∷ []) (ats_kept rs new found extends so_far.numbers ∙ so_far.regexes)
      (names_at new id _ names ∙ ap mknot (at_kept old rs x so_far.extends (number_in old ids i x numbers l there)))
      ∙ sym further);
})
  where
    further : map mknot (regexes_at old (take (i + 1) ids))
        ≡ map mknot (regexes_at old (take i ids)) ++ mknot (regex_at old x) ∷ []
    further = ap (λ xs. map mknot (regexes_at old xs)) (take_more ids i x l ∙ ap (λ y. take i ids ++ y ∷ []) (sym there))
        ∙ (ap (map mknot) (map-append (regex_at old) (take i ids) (x ∷ []))
        ∙ map-append mknot (regexes_at old (take i ids)) (regex_at old x ∷ []))

pub complements_end : (old new : List Regex) (ids found : List ℕ) (i : ℕ) → AreComplements old new (take i ids) found
    → length ids ≤ i → regexes_at new found ≡ map mknot (regexes_at old ids)
complements_end old new ids found i so_far l =
    so_far.regexes ∙ ap (λ xs. map mknot (regexes_at old xs)) (take_all i ids l)
