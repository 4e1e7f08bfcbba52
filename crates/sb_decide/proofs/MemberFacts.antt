-- What was taken in, as assertions come and go, and as regexes and terms do.
use Rattle.sb_decide.proofs.Words.{All, All-cons, All-head, All-nil, All-tail, AllNumbers, AreMembers, Bool, Extends, HasRegexBelow, IfSome, IsEmptyAt, IsRegexOf, IsTakenAs, List, Member, None, Option, Regex, Some, Term, [], ap, append-nil, arith, asserted, assertion_of, eq-eqb, eqb-false, eqb-true, false, get_or, ids_in, if◌then◌else◌, in_each, language, length, list_all-append, names_below, names_kept, ne_eqb, none-some, normal, number_more, other_places, places_in, refl, regex_at, same_Some, slice_get, subst, suc, sym, true, words_in, zero, ℕ, ◌&&◌, ◌++◌, ◌+◌, ◌<◌, ◌==◌, ◌∙◌, ◌∷◌, ◌≡◌, ◌≢◌, ◌≤◌}
use Rattle.sb_term.specs.declared.assertion.Assertion.{Assertion}
use Rattle.sb_term.specs.Numbered as table
use Rattle.sb_term.proofs.CallerLemmas as table_facts
use Rattle.sb_decide.proofs.Conjunctions.{in_each_kept}

-- an element of a list, as more come behind
pub same_left : {A : Type 0} (xs more : List A) (i : ℕ) → i < length xs → slice_get (xs ++ more) i ≡ slice_get xs i
same_left [] more i l = absurd (omega (arith, l))
same_left (x ∷ xs) more zero l = refl
same_left (x ∷ xs) more (suc i) l = same_left xs more i (omega (arith, l))

-- as one comes behind that is read past the end too
pub default_behind : {A : Type 0} (xs : List A) (d : A) (i : ℕ) → get_or (xs ++ d ∷ []) i d ≡ get_or xs i d
default_behind [] d zero = refl
default_behind [] d (suc i) = refl
default_behind (x ∷ xs) d zero = refl
default_behind (x ∷ xs) d (suc i) = default_behind xs d i

-- what holds of one number, and of all others, holds of each
pub by_number : (P : ℕ → Type 0) (place : ℕ) → P place → ((n : ℕ) → n ≢ place → P n) → (n : ℕ) → P n
by_number P place here others n = by (n == place) refl
  where
    by : (b : Bool) → (n == place) ≡ b → P n
    by true t = subst P (sym (eqb-true n place t)) here
    by false t = others n (eqb-false n place t)

-- the arena and the table grow
regex_grown : (old new : List Regex) (t : Term) (id : ℕ) → Extends old new → IsRegexOf old t id → IsRegexOf new t id
regex_grown old new t id e r = record {
  kind = r.kind;
  reglan = r.reglan;
  means = r.means;
  names = names_kept old new id (normal r.reglan) e r.names;
}

same_assertion : (old new : List Term) → table.Extends old new → (o : Option ℕ) → IfSome o (λ id. id < length old)
    → assertion_of new o ≡ assertion_of old o
same_assertion old new e None l = refl
same_assertion old new e (Some id) l = ap asserted (table_facts.at_kept old new id e l)

as_moved : (rs more : List Regex) (ts us : List Term) (o : Option Member) (x : Assertion) → Extends rs more
    → table.Extends ts us → IsTakenAs rs ts o x → IsTakenAs more us o x
as_moved rs more ts us None x e f h = record {
  term = h.term;
  number = number_more (length ts) (length us) (table_facts.long_kept ts us f) x.term h.number;
  is = same_assertion ts us f x.term h.number ∙ h.is;
  asks = h.asks;
  decided = h.decided;
}
as_moved rs more ts us (Some m) x e f h = record {
  term = h.term;
  wanted = h.wanted;
  number = number_more (length ts) (length us) (table_facts.long_kept ts us f) x.term h.number;
  is = same_assertion ts us f x.term h.number ∙ h.is;
  asks = h.asks;
  decided = h.decided;
  regex = regex_grown rs more h.wanted m.regex e h.regex;
}

pub members_moved : (rs more : List Regex) (ts us : List Term) (ms : List (Option Member)) (xs : List Assertion)
    → Extends rs more → table.Extends ts us → AreMembers rs ts ms xs → AreMembers more us ms xs
members_moved rs more ts us [] xs e f h = tt
members_moved rs more ts us (o ∷ ms) [] e f h = absurd h
members_moved rs more ts us (o ∷ ms) (x ∷ xs) e f h =
    (as_moved rs more ts us o x e f h.0, members_moved rs more ts us ms xs e f h.1)

-- other assertions stand behind these
pub members_told : (rs : List Regex) (ts : List Term) (ms : List (Option Member)) (xs ys : List Assertion)
    → ((p : ℕ) → p < length ms → slice_get ys p ≡ slice_get xs p) → AreMembers rs ts ms xs → AreMembers rs ts ms ys
members_told rs ts [] xs ys same h = tt
members_told rs ts (o ∷ ms) [] ys same h = absurd h
members_told rs ts (o ∷ ms) (x ∷ xs) [] same h = absurd (none-some x (same 0 (omega arith)))
members_told rs ts (o ∷ ms) (x ∷ xs) (y ∷ ys) same h = (
  subst (IsTakenAs rs ts o) (sym (same_Some y x (same 0 (omega arith)))) h.0,
  members_told rs ts ms xs ys (λ p l. same (suc p) (omega (arith, l))) h.1,
)

pub members_few : (rs : List Regex) (ts : List Term) (ms : List (Option Member)) (xs : List Assertion)
    → AreMembers rs ts ms xs → length ms ≤ length xs
members_few rs ts [] xs h = omega arith
members_few rs ts (o ∷ ms) [] h = absurd h
members_few rs ts (o ∷ ms) (x ∷ xs) h = let few = members_few rs ts ms xs h.1 in omega (arith, few)

-- one more is taken in, and one less
pub members_pushed : (rs : List Regex) (ts : List Term) (ms : List (Option Member)) (xs : List Assertion)
    (o : Option Member) (x : Assertion) → length ms < length xs → x ≡ get_or xs (length ms) x → IsTakenAs rs ts o x
    → AreMembers rs ts ms xs → AreMembers rs ts (ms ++ o ∷ []) xs
members_pushed rs ts [] [] o x l is one h = absurd (omega (arith, l))
members_pushed rs ts [] (y ∷ xs) o x l is one h = (subst (IsTakenAs rs ts o) is one, tt)
members_pushed rs ts (n ∷ ms) [] o x l is one h = absurd h
members_pushed rs ts (n ∷ ms) (y ∷ xs) o x l is one h =
    (h.0, members_pushed rs ts ms xs o x (omega (arith, l)) is one h.1)

pub members_popped : (rs : List Regex) (ts : List Term) (ms : List (Option Member)) (xs : List Assertion)
    (o : Option Member) → AreMembers rs ts (ms ++ o ∷ []) xs → AreMembers rs ts ms xs
members_popped rs ts [] xs o h = tt
members_popped rs ts (n ∷ ms) [] o h = absurd h
members_popped rs ts (n ∷ ms) (x ∷ xs) o h = (h.0, members_popped rs ts ms xs o h.1)

-- a list with one element more, or without
one_front : (b : Bool) (i : ℕ) (all some last : List ℕ) → all ≡ some ++ last
    → (if b then i ∷ all else all) ≡ (if b then i ∷ some else some) ++ last
one_front true i all some last e = ap (λ is. i ∷ is) e
one_front false i all some last e = e

-- the regexes of a constant
pub ids_append : (ms rest : List (Option Member)) (n : ℕ) → ids_in (ms ++ rest) n ≡ ids_in ms n ++ ids_in rest n
ids_append [] rest n = refl
ids_append (None ∷ ms) rest n = ids_append ms rest n
ids_append (Some x ∷ ms) rest n =
    one_front (n == x.serial.0) x.regex (ids_in (ms ++ rest) n) (ids_in ms n) (ids_in rest n) (ids_append ms rest n)

pub ids_here : (ms : List (Option Member)) (m : Member) (n : ℕ) → n ≡ m.serial.0
    → ids_in (ms ++ Some m ∷ []) n ≡ ids_in ms n ++ m.regex ∷ []
ids_here ms m n e =
    ids_append ms (Some m ∷ []) n
    ∙ ap (λ b. ids_in ms n ++ (if b then m.regex ∷ [] else [])) (eq-eqb n m.serial.0 e)

pub ids_other : (ms : List (Option Member)) (m : Member) (n : ℕ) → n ≢ m.serial.0
    → ids_in (ms ++ Some m ∷ []) n ≡ ids_in ms n
ids_other ms m n e =
    ids_append ms (Some m ∷ []) n
    ∙ (ap (λ b. ids_in ms n ++ (if b then m.regex ∷ [] else [])) (ne_eqb n m.serial.0 e) ∙ append-nil (ids_in ms n))

pub ids_below : (rs : List Regex) (ms : List (Option Member)) (n : ℕ) → All (HasRegexBelow (length rs)) ms
    → AllNumbers rs (ids_in ms n)
ids_below rs [] n h = All-nil (λ i. i < length rs)
ids_below rs (None ∷ ms) n h = ids_below rs ms n (All-tail (HasRegexBelow (length rs)) None ms h)
ids_below rs (Some m ∷ ms) n h =
    by_test (n == m.serial.0) (ids_below rs ms n (All-tail (HasRegexBelow (length rs)) (Some m) ms h))
  where
    by_test : (b : Bool) → AllNumbers rs (ids_in ms n)
        → AllNumbers rs (if b then m.regex ∷ ids_in ms n else ids_in ms n)
    by_test true rest = All-cons (λ i. i < length rs) m.regex (ids_in ms n)
        (All-head (HasRegexBelow (length rs)) (Some m) ms h) rest
    by_test false rest = rest

-- their places
pub places_append : (k n : ℕ) (ms rest : List (Option Member)) (place : ℕ) → place ≡ k + length ms
    → places_in k n (ms ++ rest) ≡ places_in k n ms ++ places_in place n rest
places_append k n [] rest place e = let same : k ≡ place = omega (arith, e) in ap (λ i. places_in i n rest) same
places_append k n (None ∷ ms) rest place e = places_append (k + 1) n ms rest place (omega (arith, e))
places_append k n (Some x ∷ ms) rest place e =
    one_front (n == x.serial.0) k (places_in (k + 1) n (ms ++ rest)) (places_in (k + 1) n ms) (places_in place n rest)
    (places_append (k + 1) n ms rest place (omega (arith, e)))

pub places_here : (n : ℕ) (ms : List (Option Member)) (m : Member) → n ≡ m.serial.0
    → places_in 0 n (ms ++ Some m ∷ []) ≡ places_in 0 n ms ++ length ms ∷ []
places_here n ms m e =
    places_append 0 n ms (Some m ∷ []) (length ms) (omega arith)
    ∙ ap (λ b. places_in 0 n ms ++ (if b then length ms ∷ [] else [])) (eq-eqb n m.serial.0 e)

pub places_other : (n : ℕ) (ms : List (Option Member)) (m : Member) → n ≢ m.serial.0
    → places_in 0 n (ms ++ Some m ∷ []) ≡ places_in 0 n ms
places_other n ms m e =
    places_append 0 n ms (Some m ∷ []) (length ms) (omega arith)
    ∙ (ap (λ b. places_in 0 n ms ++ (if b then length ms ∷ [] else [])) (ne_eqb n m.serial.0 e)
    ∙ append-nil (places_in 0 n ms))

-- places that are below with one in front
pub further_on : (k : ℕ) (o : Option Member) (ms : List (Option Member)) (places : List ℕ)
    → All (λ p. p < (k + 1) + length ms) places → All (λ p. p < k + length (o ∷ ms)) places
further_on k o ms places h i d l = let low = h i d l in omega (arith, low)

-- the places of those that are no memberships
pub others_append : (k : ℕ) (ms rest : List (Option Member)) (place : ℕ) → place ≡ k + length ms
    → other_places k (ms ++ rest) ≡ other_places k ms ++ other_places place rest
others_append k [] rest place e = let same : k ≡ place = omega (arith, e) in ap (λ i. other_places i rest) same
others_append k (None ∷ ms) rest place e =
    ap (λ is. k ∷ is) (others_append (k + 1) ms rest place (omega (arith, e)))
others_append k (Some m ∷ ms) rest place e = others_append (k + 1) ms rest place (omega (arith, e))

pub others_below : (k : ℕ) (ms : List (Option Member)) → All (λ p. p < k + length ms) (other_places k ms)
others_below k [] = All-nil (λ p. p < k + 0)
others_below k (None ∷ ms) =
    All-cons (λ p. p < k + length (None ∷ ms)) k (other_places (k + 1) ms) (omega arith)
    (further_on k None ms (other_places (k + 1) ms) (others_below (k + 1) ms))
others_below k (Some m ∷ ms) = further_on k (Some m) ms (other_places (k + 1) ms) (others_below (k + 1) ms)

-- the words of a constant
pub words_grown : (old new : List Regex) (ms : List (Option Member)) (n : ℕ) (w : List ℕ) → Extends old new
    → All (HasRegexBelow (length old)) ms → words_in new ms n w ≡ words_in old ms n w
words_grown old new ms n w e known = in_each_kept old new (ids_in ms n) w e (ids_below old ms n known)

pub empty_grown : (old new : List Regex) (ms : List (Option Member)) (n : ℕ) → Extends old new
    → All (HasRegexBelow (length old)) ms → IsEmptyAt old ms n → IsEmptyAt new ms n
empty_grown old new ms n e known h = λ w c. words_grown old new ms n w e known ∙ h w c

pub empty_pushed : (rs : List Regex) (ms rest : List (Option Member)) (n : ℕ) → IsEmptyAt rs ms n
    → IsEmptyAt rs (ms ++ rest) n
empty_pushed rs ms rest n h = λ w c.
    ap (λ ids. in_each rs ids w) (ids_append ms rest n)
    ∙ (list_all-append (λ id. language (regex_at rs id) w) (ids_in ms n) (ids_in rest n)
    ∙ ap (λ b. b && in_each rs (ids_in rest n) w) (h w c))

-- a list that gives the constant the same regexes
pub empty_same : (rs : List Regex) (ms ms' : List (Option Member)) (n : ℕ) → ids_in ms' n ≡ ids_in ms n
    → IsEmptyAt rs ms n → IsEmptyAt rs ms' n
empty_same rs ms ms' n same h = λ w c. ap (λ ids. in_each rs ids w) same ∙ h w c

-- a regex that was taken in has its number
pub regex_below : (rs : List Regex) (ts : List Term) (o : Option Member) (x : Assertion) → IsTakenAs rs ts o x
    → HasRegexBelow (length rs) o
regex_below rs ts None x h = tt
regex_below rs ts (Some m) x h = names_below rs m.regex (normal h.regex.reglan) h.regex.names
