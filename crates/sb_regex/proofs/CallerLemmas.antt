-- What a caller cites of regexes by their numbers, in an arena that grows.
use Rattle.std.proofs.Common.{◌≡◌, ℕ, suc, ◌<◌, ◌≤◌, Some, List, [], ◌∷◌, ◌++◌, length, get_or, refl, sym, ap, ap₂, ◌∙◌, arith, append_assoc, length-append}
use Rattle.std.specs.List.{All}
use Rattle.std.proofs.lemmas.List.{append-nil, get_or_append_left}
use Rattle.std.proofs.lemmas.List.Elements.{All-cons, All-nil}
use Rattle.std.proofs.lemmas.Option.{get_or_from_slice_get, slice_get_within, slice_get-get_or}
use Rattle.sb_lang.specs.Regex.{Regex, none}
use Rattle.sb_regex.specs.Numbered.{regex_at, regexes_at, Names, AllNumbers, Extends}

pub extends_same : (rs : List Regex) → Extends rs rs
extends_same rs = record { more = []; is = sym (append-nil rs) }

pub extends_more : (a b c : List Regex) → Extends a b → Extends b c → Extends a c
extends_more a b c p q =
    record { more = p.more ++ q.more; is = q.is ∙ ap (λ x. x ++ q.more) p.is ∙ append_assoc a p.more q.more }

pub long_kept : (old new : List Regex) → Extends old new → length old ≤ length new
long_kept old new e = omega (arith, ap length e.is, length-append old e.more)

pub at_kept : (old new : List Regex) (i : ℕ) → Extends old new → i < length old → regex_at new i ≡ regex_at old i
at_kept old new i e h = ap (λ xs. get_or xs i none) e.is ∙ get_or_append_left old e.more none i h

pub names_at : (rs : List Regex) (i : ℕ) (r : Regex) → Names rs i r → regex_at rs i ≡ r
names_at rs i r h = get_or_from_slice_get rs i r none h

pub names_below : (rs : List Regex) (i : ℕ) (r : Regex) → Names rs i r → i < length rs
names_below rs i r h = slice_get_within rs i r h

pub names_from : (rs : List Regex) (i : ℕ) (r : Regex) → i < length rs → regex_at rs i ≡ r → Names rs i r
names_from rs i r l e = slice_get-get_or rs i none l ∙ ap Some e

pub names_kept : (old new : List Regex) (i : ℕ) (r : Regex) → Extends old new → Names old i r → Names new i r
names_kept old new i r e h =
    let l = names_below old i r h in
    names_from new i r (omega (arith, l, long_kept old new e)) (at_kept old new i e l ∙ names_at old i r h)

pub number_kept : (old new : List Regex) (i : ℕ) → Extends old new → i < length old → i < length new
number_kept old new i e h = omega (arith, h, long_kept old new e)

pub numbers_kept : (old new : List Regex) (is : List ℕ) → Extends old new → AllNumbers old is → AllNumbers new is
numbers_kept old new is e h = λ k d l. number_kept old new (get_or is k d) e (h k d l)

pub ats_kept : (old new : List Regex) (is : List ℕ) → Extends old new → AllNumbers old is
    → regexes_at new is ≡ regexes_at old is
ats_kept old new [] e h = refl
ats_kept old new (i ∷ is) e h =
    ap₂ (λ r rs. r ∷ rs) (at_kept old new i e (h 0 0 (omega arith)))
    (ats_kept old new is e (λ k d l. h (suc k) d (omega (arith, l))))

pub number_in : (rs : List Regex) (ids : List ℕ) (i x : ℕ) → AllNumbers rs ids → i < length ids → x ≡ get_or ids i x
    → x < length rs
number_in rs ids i x h l is = rw is (h i x l)

pub one_number : (rs : List Regex) (id : ℕ) → id < length rs → AllNumbers rs (id ∷ [])
one_number rs id l k d h = let z : k ≡ 0 = omega arith in rw z l

-- the two parts of a concatenation
pub two_numbers : (n a b : ℕ) → a < n → b < n → All (λ i. i < n) (a ∷ b ∷ [])
two_numbers n a b p q = All-cons (λ i. i < n) a (b ∷ []) p (All-cons (λ i. i < n) b [] q (All-nil (λ i. i < n)))
