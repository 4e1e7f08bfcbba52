-- Members of unions as states.
use Rattle.std.proofs.Common.{◌≡◌, ℕ, ◌+◌, ◌-◌, ◌<◌, ◌≤◌, Bool, true, false, ◌||◌, List, [], ◌∷◌, ◌++◌, length, get_or, drop, refl, sym, ap, ap₂, ◌∙◌, arith, append_assoc}
use Rattle.std.specs.List.{All}
use Rattle.std.proofs.Math.Bool.{or-false}
use Rattle.std.proofs.lemmas.List.{drop_more, append-nil}
use Rattle.std.proofs.Math.Seq.{drop-length}
use Rattle.std.proofs.lemmas.List.Folds.{list_any-append}
use Rattle.sb_lang.specs.Regex.{Regex, none, alt, regexes}
use Rattle.sb_lang.specs.Language.{language, some_language}
use Rattle.sb_regex.specs.Numbered.{regex_at, regexes_at}
use Rattle.sb_regex.proofs.CallerLemmas.{one_number}
use Rattle.sb_plain.specs.declared.walk.State.{State}
use Rattle.sb_plain.specs.Walking.{in_some, some_matches, fresh, states_of, ArePut}

some_of : (rs : List Regex) (ns : List ℕ) (u : List ℕ) → in_some rs ns u ≡ some_language (regexes (regexes_at rs ns)) u
unfolding language some_language regexes
some_of rs [] u = refl
some_of rs (n ∷ ns) u = ap (λ b. language (regex_at rs n) u || b) (some_of rs ns u)

pub put_none : (rs : List Regex) (target place : ℕ) (states : List State) → none ≡ regex_at rs target
    → ArePut rs target place states states
unfolding language states_of
put_none rs target place states e = record {
  members = [];
  right = record {
    known = λ k d h. absurd (omega (arith, h));
    union = λ u. ap (λ r. language r u) e;
  };
  is = sym (append-nil states);
}

pub put_alt : (rs : List Regex) (target place : ℕ) (ns : List ℕ) (old new : List State) → target < length rs
    → All (λ n. n < target) ns → alt (regexes (regexes_at rs ns)) ≡ regex_at rs target
    → new ≡ old ++ states_of place ns → ArePut rs target place old new
unfolding language
put_alt rs target place ns old new l below e is = record {
  members = ns;
  right = record {
    known = λ k d h. omega (arith, below k d h, l);
    union = λ u. some_of rs ns u ∙ ap (λ r. language r u) e;
  };
  is = is;
}

pub put_one : (rs : List Regex) (target place : ℕ) (old new : List State) → target < length rs
    → new ≡ old ++ fresh place target ∷ [] → ArePut rs target place old new
unfolding states_of
put_one rs target place old new l is = record {
  members = target ∷ [];
  right = record {
    known = one_number rs target l;
    union = λ u. or-false (language (regex_at rs target) u);
  };
  is = is;
}

-- the parts, from the last one to the first

pub put_first : (place : ℕ) (parts : List ℕ) (states : List State)
    → states ≡ states ++ states_of place (drop (length parts - 0) parts)
unfolding states_of
put_first place parts states =
    let all : length parts - 0 ≡ length parts = omega arith in
    sym (append-nil states)
    ∙ ap (λ xs. states ++ states_of place xs) (sym (ap (λ k. drop k parts) all ∙ drop-length parts))

pub put_next : (place : ℕ) (parts : List ℕ) (count n : ℕ) (old now new : List State) → count < length parts
    → n ≡ get_or parts (length parts - 1 - count) n
    → now ≡ old ++ states_of place (drop (length parts - count) parts) → new ≡ now ++ fresh place n ∷ []
    → new ≡ old ++ states_of place (drop (length parts - (count + 1)) parts)
unfolding states_of
put_next place parts count n old now new l is so more =
    more ∙ ap (λ xs. xs ++ fresh place n ∷ []) so
    ∙ append_assoc old (states_of place (drop (length parts - count) parts)) (fresh place n ∷ [])
    ∙ ap (λ xs. old ++ states_of place xs) (sym here)
  where
    here : drop (length parts - (count + 1)) parts ≡ n ∷ drop (length parts - count) parts
    here =
        let same : length parts - 1 - count ≡ length parts - (count + 1) = omega arith in
        let next : length parts - (count + 1) + 1 ≡ length parts - count = omega (arith, l) in
        drop_more parts (length parts - (count + 1)) n (omega (arith, l))
        ∙ ap₂ (λ x k. x ∷ drop k parts) (sym (is ∙ ap (λ k. get_or parts k n) same)) next

pub put_all : (place : ℕ) (parts : List ℕ) (count : ℕ) (old new : List State) → length parts ≤ count
    → new ≡ old ++ states_of place (drop (length parts - count) parts) → new ≡ old ++ states_of place parts
put_all place parts count old new l is =
    let zero_left : length parts - count ≡ 0 = omega (arith, l) in
    is ∙ ap (λ k. old ++ states_of place (drop k parts)) zero_left

-- what the states match

or_swap : (a b : Bool) → (a || b) ≡ (b || a)
or_swap true true = refl
or_swap true false = refl
or_swap false true = refl
or_swap false false = refl

pub some_states : (rs : List Regex) (codes : List ℕ) (place : ℕ) (ns : List ℕ)
    → some_matches rs codes (states_of place ns) ≡ in_some rs ns (drop place codes)
unfolding states_of
some_states rs codes place [] = refl
some_states rs codes place (n ∷ ns) =
    list_any-append (λ s. language (regex_at rs s.regex) (drop s.place codes)) (states_of place ns) (fresh place n ∷ [])
    ∙ ap₂ (λ a b. a || b) (some_states rs codes place ns) (or-false (language (regex_at rs n) (drop place codes)))
    ∙ or_swap (in_some rs ns (drop place codes)) (language (regex_at rs n) (drop place codes))
