-- The members that an intersection is split into.
use Rattle.std.proofs.Common.{◌≡◌, ℕ, ◌+◌, ◌<◌, ◌≤◌, Bool, true, false, ◌&&◌, ◌||◌, List, [], ◌∷◌, ◌++◌, length, get_or, drop, refl, sym, ap, ap₂, subst, ◌∙◌, arith}
use Rattle.std.specs.List.{All, list_any, list_all}
use Rattle.std.proofs.Math.Bool.{or-false}
use Rattle.std.proofs.lemmas.List.{at_drop_more, at_drop_all}
use Rattle.std.proofs.lemmas.List.Elements.{All-append}
use Rattle.sb_lang.specs.Regex.{Regex, none, alt, and, regexes}
use Rattle.sb_lang.specs.Constructors.{mkand}
use Rattle.sb_lang.specs.ConstructorLaws.{MkandKeepsLanguage, IntersectionIsOfEach}
use Rattle.sb_lang.specs.Language.{language, some_language}
use Rattle.sb_regex.specs.Numbered.{regex_at, regexes_at, AllNumbers, Names, Extends}
use Rattle.sb_regex.proofs.CallerLemmas.{at_kept, names_at, long_kept, numbers_kept, one_number, number_in}
use Rattle.sb_members.specs.Members.{in_some, IsSplit}
use Rattle.sb_members.specs.Choices.{in_each, IsChoice}
use Rattle.sb_members.proofs.Lists.{Each, all_each}

-- Languages by number, as more regexes come.

some_each : (old new : List Regex) → Extends old new → (ns : List ℕ) → Each (λ n. n < length old) ns → (u : List ℕ)
    → in_some new ns u ≡ in_some old ns u
some_each old new more [] h u = refl
some_each old new more (n ∷ ns) h u =
    ap₂ (λ a b. a || b) (ap (λ r. language r u) (at_kept old new n more h.0)) (some_each old new more ns h.1 u)

pub some_kept : (old new : List Regex) → Extends old new → (ns : List ℕ) → AllNumbers old ns → (u : List ℕ)
    → in_some new ns u ≡ in_some old ns u
some_kept old new more ns h u = some_each old new more ns (all_each (λ n. n < length old) ns h) u

pub split_kept : (old new : List Regex) → Extends old new → (t : ℕ) (ns : List ℕ) → t < length old → IsSplit old t ns
    → IsSplit new t ns
split_kept old new more t ns l s = record {
  known = numbers_kept old new ns more s.known;
  union = λ u. ap (λ r. language r u) (at_kept old new t more l) ∙ s.union u
      ∙ sym (some_kept old new more ns s.known u);
}

-- Unions, and other regexes.

pub split_none : (rs : List Regex) (t : ℕ) → none ≡ regex_at rs t → IsSplit rs t []
unfolding language some_language
split_none rs t e = record {
  known = λ k d h. absurd (omega (arith, h));
  union = λ u. sym (ap (λ r. language r u) e);
}

some_of : (rs : List Regex) (ns : List ℕ) (u : List ℕ)
    → some_language (regexes (regexes_at rs ns)) u ≡ list_any (λ n. language (regex_at rs n) u) ns
unfolding language some_language regexes
some_of rs [] u = refl
some_of rs (n ∷ ns) u = ap (λ b. language (regex_at rs n) u || b) (some_of rs ns u)

pub split_alt : (rs : List Regex) (t : ℕ) (ns : List ℕ) → t < length rs → All (λ n. n < t) ns
    → alt (regexes (regexes_at rs ns)) ≡ regex_at rs t → IsSplit rs t ns
unfolding language some_language
split_alt rs t ns l below e = record {
  known = λ k d h. omega (arith, below k d h, l);
  union = λ u. sym (ap (λ r. language r u) e) ∙ some_of rs ns u;
}

pub split_one : (rs : List Regex) (t : ℕ) → t < length rs → IsSplit rs t (t ∷ [])
split_one rs t l = record {
  known = one_number rs t l;
  union = λ u. sym (or-false (language (regex_at rs t) u));
}

-- Lists with one more.

any_append : (f : ℕ → Bool) (ns : List ℕ) (n : ℕ) → list_any f (ns ++ n ∷ []) ≡ (list_any f ns || f n)
any_append f [] n = or-false (f n)
any_append f (m ∷ ns) n = ap (λ b. f m || b) (any_append f ns n) ∙ assoc (f m) (list_any f ns) (f n)
  where
    assoc : (a b c : Bool) → (a || (b || c)) ≡ ((a || b) || c)
    assoc true b c = refl
    assoc false b c = refl

pub all_append : {A : Type 0} (f : A → Bool) (xs : List A) (x : A) → list_all f (xs ++ x ∷ []) ≡ (list_all f xs && f x)
all_append f [] x = swap (f x)
  where
    swap : (a : Bool) → (a && true) ≡ (true && a)
    swap true = refl
    swap false = refl
all_append f (y ∷ xs) x = ap (λ b. f y && b) (all_append f xs x) ∙ assoc (f y) (list_all f xs) (f x)
  where
    assoc : (a b c : Bool) → (a && (b && c)) ≡ ((a && b) && c)
    assoc true b c = refl
    assoc false b c = refl

pub numbers_push : (rs : List Regex) (ns ns' : List ℕ) (n : ℕ) → AllNumbers rs ns → n < length rs → ns' ≡ ns ++ n ∷ []
    → AllNumbers rs ns'
numbers_push rs ns ns' n h l e =
    subst (AllNumbers rs) (sym e) (All-append (λ i. i < length rs) ns (n ∷ []) h (one_number rs n l))

-- The words of an intersection of numbers.

pub each_of : (rs : List Regex) (ns : List ℕ) (u : List ℕ)
    → list_all (λ r. language r u) (regexes_at rs ns) ≡ in_each rs ns u
each_of rs [] u = refl
each_of rs (n ∷ ns) u = ap (λ b. language (regex_at rs n) u && b) (each_of rs ns u)

pub and_is : MkandKeepsLanguage → IntersectionIsOfEach → (old new : List Regex) (ns : List ℕ) (id : ℕ)
    → Names new id (mkand (regexes_at old ns)) → (u : List ℕ) → language (regex_at new id) u ≡ in_each old ns u
and_is keeps each old new ns id names u =
    ap (λ r. language r u) (names_at new id _ names)
    ∙ keeps (regexes_at old ns) u
    ∙ each (regexes_at old ns) u
    ∙ each_of old ns u

-- One regex with each of others.

module _ (keeps : MkandKeepsLanguage) (each : IntersectionIsOfEach) (start old new : List Regex)
    (before : Extends start old) (more : Extends old new) (row : ℕ) (l : row < length start) (choices : List ℕ)
    (known : AllNumbers start choices) where
  abbrev So : List Regex → List ℕ → List ℕ → ℕ → List ℕ → Type 0
  So rs all from i u =
      (in_some rs all u || (language (regex_at start row) u && in_some start (drop i choices) u))
      ≡ (in_some start from u || (language (regex_at start row) u && in_some start choices u))

  pub cross_more : (all all' from : List ℕ) (i choice both : ℕ) → i < length choices → choice ≡ get_or choices i choice
      → Names new both (mkand (regexes_at old (row ∷ choice ∷ []))) → AllNumbers old all → all' ≡ all ++ both ∷ []
      → (u : List ℕ) → So old all from i u → So new all' from (i + 1) u
  cross_more all all' from i choice both w is names numbers e u inv =
      let here = number_in start choices i choice known w is in
      let r = language (regex_at start row) u in
      let k = language (regex_at start choice) u in
      let rest = in_some start (drop (i + 1) choices) u in
      let two : language (regex_at new both) u ≡ (r && (k && true)) =
      and_is keeps each old new (row ∷ choice ∷ []) both names u
      ∙ ap₂ (λ a b. language a u && (language b u && true)) (at_kept start old row before l)
      (at_kept start old choice before here) in
      let whole : in_some new all' u ≡ (in_some old all u || (r && (k && true))) =
      ap (λ ns. in_some new ns u) e
      ∙ any_append (λ n. language (regex_at new n) u) all both
      ∙ ap₂ (λ a b. a || b) (some_kept old new more all numbers u) two in
      let left : in_some start (drop i choices) u ≡ (k || rest) =
      at_drop_more (λ ns. in_some start ns u) choices i choice w
      ∙ ap (λ n. in_some start (n ∷ drop (i + 1) choices) u) (sym is) in
      ap (λ a. a || (r && rest)) whole
      ∙ step (in_some old all u) r k rest
      ∙ sym (ap (λ b. in_some old all u || (r && b)) left)
      ∙ inv
    where
      step : (o r k d : Bool) → ((o || (r && (k && true))) || (r && d)) ≡ (o || (r && (k || d)))
      step true r k d = refl
      step false false k d = refl
      step false true true d = refl
      step false true false d = refl

pub cross_done : (start rs : List Regex) (row : ℕ) (choices all from : List ℕ) (i : ℕ) → length choices ≤ i
    → (u : List ℕ)
    → (in_some rs all u || (language (regex_at start row) u && in_some start (drop i choices) u))
    ≡ (in_some start from u || (language (regex_at start row) u && in_some start choices u))
    → in_some rs all u ≡ (in_some start from u || (language (regex_at start row) u && in_some start choices u))
cross_done start rs row choices all from i l u inv =
    step (in_some rs all u) (language (regex_at start row) u)
    ∙ ap (λ b. in_some rs all u || (language (regex_at start row) u && b))
    (sym (at_drop_all (λ ns. in_some start ns u) choices i l))
    ∙ inv
  where
    step : (o r : Bool) → o ≡ (o || (r && false))
    step true r = refl
    step false true = refl
    step false false = refl

-- Each of some with each of others.

pub rows_more : (start old new : List Regex) → Extends start old → (rows choices all all' : List ℕ) (i row : ℕ)
    → i < length rows → row ≡ get_or rows i row → AllNumbers start rows → AllNumbers start choices → (u : List ℕ)
    → in_some new all' u ≡ (in_some old all u || (language (regex_at old row) u && in_some old choices u))
    → (in_some old all u || (in_some start (drop i rows) u && in_some start choices u))
    ≡ (in_some start rows u && in_some start choices u)
    → (in_some new all' u || (in_some start (drop (i + 1) rows) u && in_some start choices u))
    ≡ (in_some start rows u && in_some start choices u)
rows_more start old new more rows choices all all' i row l is known others u one inv =
    let here = number_in start rows i row known l is in
    let r = language (regex_at start row) u in
    let k = in_some start choices u in
    let rest = in_some start (drop (i + 1) rows) u in
    let now : in_some new all' u ≡ (in_some old all u || (r && k)) =
    one ∙ ap₂ (λ a b. in_some old all u || (language a u && b)) (at_kept start old row more here)
    (some_kept start old more choices others u) in
    let left : in_some start (drop i rows) u ≡ (r || rest) =
    at_drop_more (λ ns. in_some start ns u) rows i row l
    ∙ ap (λ n. in_some start (n ∷ drop (i + 1) rows) u) (sym is) in
    ap (λ a. a || (rest && k)) now
    ∙ step (in_some old all u) r rest k
    ∙ sym (ap (λ b. in_some old all u || (b && k)) left)
    ∙ inv
  where
    step : (o r d k : Bool) → ((o || (r && k)) || (d && k)) ≡ (o || ((r || d) && k))
    step true r d k = refl
    step false false d k = refl
    step false true d true = refl
    step false true true false = refl
    step false true false false = refl

pub rows_done : (start rs : List Regex) (rows choices all : List ℕ) (i : ℕ) → length rows ≤ i → (u : List ℕ)
    → (in_some rs all u || (in_some start (drop i rows) u && in_some start choices u))
    ≡ (in_some start rows u && in_some start choices u)
    → in_some rs all u ≡ (in_some start rows u && in_some start choices u)
rows_done start rs rows choices all i l u inv =
    sym (or-false (in_some rs all u))
    ∙ ap (λ b. in_some rs all u || (b && in_some start choices u))
    (sym (at_drop_all (λ ns. in_some start ns u) rows i l))
    ∙ inv

-- All unions.

pub unions_known : (rs : List Regex) (first : ℕ) (rows : List ℕ) → first < length rs → rows ≡ first ∷ []
    → AllNumbers rs rows
unions_known rs first rows l e = subst (AllNumbers rs) (sym e) (one_number rs first l)

pub unions_start : (rs : List Regex) (first : ℕ) (unions rows : List ℕ) → rows ≡ first ∷ [] → (u : List ℕ)
    → (in_some rs rows u && in_each rs unions u) ≡ (language (regex_at rs first) u && in_each rs unions u)
unions_start rs first unions rows e u =
    ap (λ b. b && in_each rs unions u) (ap (λ ns. in_some rs ns u) e ∙ or-false (language (regex_at rs first) u))

pub unions_more : (start old new : List Regex) → Extends start old → (unions rows rows' choices : List ℕ) (i t : ℕ)
    → i < length unions → t ≡ get_or unions i t → AllNumbers start unions → IsSplit old t choices
    → (u : List ℕ) (whole : Bool)
    → in_some new rows' u ≡ (in_some old rows u && in_some old choices u)
    → (in_some old rows u && in_each start (drop i unions) u) ≡ whole
    → (in_some new rows' u && in_each start (drop (i + 1) unions) u) ≡ whole
unions_more start old new more unions rows rows' choices i t l is known s u whole one inv =
    let here = number_in start unions i t known l is in
    let k = language (regex_at start t) u in
    let rest = in_each start (drop (i + 1) unions) u in
    let now : in_some new rows' u ≡ (in_some old rows u && k) =
    one ∙ ap (λ b. in_some old rows u && b) (sym (s.union u) ∙ ap (λ r. language r u)
    (at_kept start old t more here)) in
    let left : in_each start (drop i unions) u ≡ (k && rest) =
    at_drop_more (λ ns. in_each start ns u) unions i t l
    ∙ ap (λ n. in_each start (n ∷ drop (i + 1) unions) u) (sym is) in
    ap (λ a. a && rest) now
    ∙ step (in_some old rows u) k rest
    ∙ sym (ap (λ b. in_some old rows u && b) left)
    ∙ inv
  where
    step : (a b c : Bool) → ((a && b) && c) ≡ (a && (b && c))
    step true b c = refl
    step false b c = refl

and_true : (b : Bool) → b ≡ (b && true)
and_true true = refl
and_true false = refl

pub unions_done : (start rs : List Regex) (unions rows : List ℕ) (i : ℕ) → length unions ≤ i → (u : List ℕ)
    (whole : Bool) → (in_some rs rows u && in_each start (drop i unions) u) ≡ whole → in_some rs rows u ≡ whole
unions_done start rs unions rows i l u whole inv =
    and_true (in_some rs rows u)
    ∙ ap (λ b. in_some rs rows u && b) (sym (at_drop_all (λ ns. in_each start ns u) unions i l))
    ∙ inv

-- The choice.

module _ (rs : List Regex) (parts : List ℕ) (i part : ℕ) (l : i < length parts) (is : part ≡ get_or parts i part) where
  rest_is : (u : List ℕ)
      → in_each rs (drop i parts) u ≡ (language (regex_at rs part) u && in_each rs (drop (i + 1) parts) u)
  rest_is u = at_drop_more (λ ns. in_each rs ns u) parts i part l
      ∙ ap (λ n. in_each rs (n ∷ drop (i + 1) parts) u) (sym is)

  pub choice_more : (whole divided whole' divided' : List ℕ) (u : List ℕ) (all : Bool)
      → (in_each rs whole' u && in_each rs divided' u)
      ≡ ((in_each rs whole u && in_each rs divided u) && language (regex_at rs part) u)
      → ((in_each rs whole u && in_each rs divided u) && in_each rs (drop i parts) u) ≡ all
      → ((in_each rs whole' u && in_each rs divided' u) && in_each rs (drop (i + 1) parts) u) ≡ all
  choice_more whole divided whole' divided' u all e inv =
      ap (λ b. b && in_each rs (drop (i + 1) parts) u) e
      ∙ step (in_each rs whole u && in_each rs divided u) (language (regex_at rs part) u)
      (in_each rs (drop (i + 1) parts) u)
      ∙ sym (ap (λ b. (in_each rs whole u && in_each rs divided u) && b) (rest_is u))
      ∙ inv
    where
      step : (a p r : Bool) → ((a && p) && r) ≡ (a && (p && r))
      step true p r = refl
      step false p r = refl

pub divided_pushed : (rs : List Regex) (whole divided divided' : List ℕ) (part : ℕ) → divided' ≡ divided ++ part ∷ []
    → (u : List ℕ) → (in_each rs whole u && in_each rs divided' u)
    ≡ ((in_each rs whole u && in_each rs divided u) && language (regex_at rs part) u)
divided_pushed rs whole divided divided' part e u =
    ap (λ b. in_each rs whole u && b)
    (ap (λ ns. in_each rs ns u) e ∙ all_append (λ n. language (regex_at rs n) u) divided part)
    ∙ step (in_each rs whole u) (in_each rs divided u) (language (regex_at rs part) u)
  where
    step : (w d p : Bool) → (w && (d && p)) ≡ ((w && d) && p)
    step true d p = refl
    step false d p = refl

pub whole_pushed : (rs : List Regex) (whole divided whole' : List ℕ) (part : ℕ) → whole' ≡ whole ++ part ∷ []
    → (u : List ℕ) → (in_each rs whole' u && in_each rs divided u)
    ≡ ((in_each rs whole u && in_each rs divided u) && language (regex_at rs part) u)
whole_pushed rs whole divided whole' part e u =
    ap (λ b. b && in_each rs divided u)
    (ap (λ ns. in_each rs ns u) e ∙ all_append (λ n. language (regex_at rs n) u) whole part)
    ∙ step (in_each rs whole u) (in_each rs divided u) (language (regex_at rs part) u)
  where
    step : (w d p : Bool) → ((w && p) && d) ≡ ((w && d) && p)
    step false d p = refl
    step true true true = refl
    step true true false = refl
    step true false true = refl
    step true false false = refl

pub choice_done : (rs : List Regex) (parts whole divided : List ℕ) (i : ℕ) → length parts ≤ i → (u : List ℕ)
    (all : Bool) → ((in_each rs whole u && in_each rs divided u) && in_each rs (drop i parts) u) ≡ all
    → (in_each rs whole u && in_each rs divided u) ≡ all
choice_done rs parts whole divided i l u all inv =
    and_true (in_each rs whole u && in_each rs divided u)
    ∙ ap (λ b. (in_each rs whole u && in_each rs divided u) && b)
    (sym (at_drop_all (λ ns. in_each rs ns u) parts i l))
    ∙ inv

-- of the members of an intersection, and of another regex
pub choice_and : IntersectionIsOfEach → (rs : List Regex) (t : ℕ) (ns whole divided : List ℕ)
    → and (regexes (regexes_at rs ns)) ≡ regex_at rs t → AllNumbers rs whole → AllNumbers rs divided
    → ((u : List ℕ) → (in_each rs whole u && in_each rs divided u) ≡ in_each rs ns u) → IsChoice rs t whole divided
choice_and each rs t ns whole divided e known others both = record {
  whole_known = known;
  divided_known = others;
  each = λ u. sym (ap (λ r. language r u) e) ∙ each (regexes_at rs ns) u ∙ each_of rs ns u ∙ sym (both u);
}

-- the whole split
pub split_by : MkandKeepsLanguage → IntersectionIsOfEach → (start old new : List Regex) → Extends start old
    → Extends old new → (t first : ℕ) (whole divided rows : List ℕ) → t < length start → IsChoice start t whole divided
    → Names old first (mkand (regexes_at start whole)) → AllNumbers new rows
    → ((u : List ℕ) → in_some new rows u ≡ (language (regex_at old first) u && in_each old divided u))
    → IsSplit new t rows
split_by keeps each start old new more later t first whole divided rows l c names known both = record {
  known = known;
  union = λ u.
      ap (λ r. language r u) (at_kept old new t later (omega (arith, l, long_kept start old more))
      ∙ at_kept start old t more l)
      ∙ c.each u
      ∙ ap₂ (λ a b. a && b) (sym (and_is keeps each start old whole first names u))
      (sym (each_kept start old more divided (all_each (λ n. n < length start) divided c.divided_known) u))
      ∙ sym (both u);
}
  where
    each_kept : (old new : List Regex) → Extends old new → (ns : List ℕ) → Each (λ n. n < length old) ns
        → (u : List ℕ) → in_each new ns u ≡ in_each old ns u
    each_kept old new more [] h u = refl
    each_kept old new more (n ∷ ns) h u =
        ap₂ (λ a b. a && b) (ap (λ r. language r u) (at_kept old new n more h.0)) (each_kept old new more ns h.1 u)
