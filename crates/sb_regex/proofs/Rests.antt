-- What is left of a list of numbers, as a loop goes over it.
use Rattle.std.proofs.Common.{◌≡◌, ℕ, ◌+◌, ◌<◌, ◌≤◌, Bool, true, false, ◌&&◌, ◌||◌, List, [], ◌∷◌, length, get_or, drop, sym, ap, ◌∙◌}
use Rattle.std.proofs.lemmas.List.{drop_more, drop_all}
use Rattle.sb_lang.specs.Regex.{Regex, regexes}
use Rattle.sb_lang.specs.Derivative.{nullable, some_nullable, all_nullable}
use Rattle.sb_regex.specs.Numbered.{regex_at, regexes_at}

pub rest_at : (rs : List Regex) (ids : List ℕ) (i x : ℕ) → i < length ids → x ≡ get_or ids i x
    → regexes_at rs (drop i ids) ≡ regex_at rs x ∷ regexes_at rs (drop (i + 1) ids)
rest_at rs ids i x l e =
    ap (λ xs. regexes_at rs xs) (drop_more ids i x l)
    ∙ ap (λ y. regex_at rs y ∷ regexes_at rs (drop (i + 1) ids)) (sym e)

pub rest_nil : (rs : List Regex) (ids : List ℕ) (i : ℕ) → length ids ≤ i → regexes_at rs (drop i ids) ≡ []
rest_nil rs ids i l = ap (λ xs. regexes_at rs xs) (drop_all i ids l)

abbrev pub some_of : List Regex → List ℕ → Bool
some_of rs ids = some_nullable (regexes (regexes_at rs ids))

abbrev pub all_of : List Regex → List ℕ → Bool
all_of rs ids = all_nullable (regexes (regexes_at rs ids))

some_at : (rs : List Regex) (ids : List ℕ) (i x : ℕ) → i < length ids → x ≡ get_or ids i x
    → some_of rs (drop i ids) ≡ (nullable (regex_at rs x) || some_of rs (drop (i + 1) ids))
unfolding some_nullable regexes
some_at rs ids i x l e = ap (λ xs. some_nullable (regexes xs)) (rest_at rs ids i x l e)

all_at : (rs : List Regex) (ids : List ℕ) (i x : ℕ) → i < length ids → x ≡ get_or ids i x
    → all_of rs (drop i ids) ≡ (nullable (regex_at rs x) && all_of rs (drop (i + 1) ids))
unfolding all_nullable regexes
all_at rs ids i x l e = ap (λ xs. all_nullable (regexes xs)) (rest_at rs ids i x l e)

pub some_found : (rs : List Regex) (ids : List ℕ) (i x : ℕ) (b whole : Bool) → i < length ids → x ≡ get_or ids i x
    → b ≡ nullable (regex_at rs x) → b ≡ true → some_of rs (drop i ids) ≡ whole → true ≡ whole
some_found rs ids i x b whole l e is found inv =
    ap (λ t. t || some_of rs (drop (i + 1) ids)) (sym found ∙ is) ∙ sym (some_at rs ids i x l e) ∙ inv

pub some_next : (rs : List Regex) (ids : List ℕ) (i x : ℕ) (b whole : Bool) → i < length ids → x ≡ get_or ids i x
    → b ≡ nullable (regex_at rs x) → b ≡ false → some_of rs (drop i ids) ≡ whole → some_of rs (drop (i + 1) ids) ≡ whole
some_next rs ids i x b whole l e is not_it inv =
    ap (λ t. t || some_of rs (drop (i + 1) ids)) (sym not_it ∙ is) ∙ sym (some_at rs ids i x l e) ∙ inv

pub some_done : (rs : List Regex) (ids : List ℕ) (i : ℕ) (whole : Bool) → length ids ≤ i
    → some_of rs (drop i ids) ≡ whole → false ≡ whole
unfolding some_nullable regexes
some_done rs ids i whole l inv = sym (ap (λ xs. some_nullable (regexes xs)) (rest_nil rs ids i l)) ∙ inv

pub all_found : (rs : List Regex) (ids : List ℕ) (i x : ℕ) (b whole : Bool) → i < length ids → x ≡ get_or ids i x
    → b ≡ nullable (regex_at rs x) → b ≡ false → all_of rs (drop i ids) ≡ whole → false ≡ whole
all_found rs ids i x b whole l e is found inv =
    ap (λ t. t && all_of rs (drop (i + 1) ids)) (sym found ∙ is) ∙ sym (all_at rs ids i x l e) ∙ inv

pub all_next : (rs : List Regex) (ids : List ℕ) (i x : ℕ) (b whole : Bool) → i < length ids → x ≡ get_or ids i x
    → b ≡ nullable (regex_at rs x) → b ≡ true → all_of rs (drop i ids) ≡ whole → all_of rs (drop (i + 1) ids) ≡ whole
all_next rs ids i x b whole l e is not_it inv =
    ap (λ t. t && all_of rs (drop (i + 1) ids)) (sym not_it ∙ is) ∙ sym (all_at rs ids i x l e) ∙ inv

pub all_done : (rs : List Regex) (ids : List ℕ) (i : ℕ) (whole : Bool) → length ids ≤ i → all_of rs (drop i ids) ≡ whole
    → true ≡ whole
unfolding all_nullable regexes
all_done rs ids i whole l inv = sym (ap (λ xs. all_nullable (regexes xs)) (rest_nil rs ids i l)) ∙ inv
