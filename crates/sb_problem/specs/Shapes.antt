-- The normal regex of a term, and what the parts of a term give.
use Rattle.std.specs.Prelude.{◌≡◌, ℕ, Bool, true, false, List, [], ◌∷◌, Option, Some, None, option_map, unwrap_or, map, slice_get}
use Rattle.std.specs.List.{list_all}
use Rattle.sb_term.specs.declared.sort.Symbol.{Symbol}
use Rattle.sb_term.specs.declared.sort.Symbol.TheVariants as symbol
use Rattle.sb_lang.specs.Regex.{Regex, none, eps}
use Rattle.sb_lang.specs.Constructors.{anything, any_character, mkcat, mkalt, mkand, mknot, mkstar, mkrep}
use Rattle.sb_lang.specs.Normal.{word_regex, range_regex}
use Rattle.sb_regex.specs.Numbered.{regexes_at, AllNumbers, Names}
use Rattle.sb_meaning.specs.Terms.{Term, Terms, apply, no_terms, with_term, str_to_re, re_none, re_all, re_allchar, re_range, re_concat, re_union, re_inter, re_diff, re_star, re_plus, re_opt, re_comp, re_power, re_loop}
use Rattle.sb_script.specs.Brought.{is_regex}
use Rattle.sb_problem.specs.Words.{letters_of}

-- one or more, joined from the right
abbrev pub joined_right : (Regex → Regex → Regex) → List Regex → Option Regex
joined_right join [] = None
joined_right join (r ∷ []) = Some r
joined_right join (r ∷ s ∷ rest) = option_map (join r) (joined_right join (s ∷ rest))

-- one or more, joined from the left
abbrev pub joined_from : (Regex → Regex → Regex) → Regex → List Regex → Regex
joined_from join r [] = r
joined_from join r (s ∷ rest) = joined_from join (join r s) rest

abbrev pub joined_left : (Regex → Regex → Regex) → List Regex → Option Regex
joined_left join [] = None
joined_left join (r ∷ rest) = Some (joined_from join r rest)

-- of none at all
abbrev pub of_nothing : Regex → List Regex → Option Regex
of_nothing r [] = Some r
of_nothing r rs = None

-- of one alone
abbrev pub of_one : (Regex → Regex) → List Regex → Option Regex
of_one make (r ∷ []) = Some (make r)
of_one make rs = None

abbrev pub either : Regex → Regex → Regex
either r s = mkalt (r ∷ s ∷ [])

abbrev pub both : Regex → Regex → Regex
both r s = mkand (r ∷ s ∷ [])

-- the words of the first that the second lacks
abbrev pub without : Regex → Regex → Regex
without r s = mkand (r ∷ mknot s ∷ [])

abbrev pub optional : Regex → Regex
optional r = mkalt (r ∷ eps ∷ [])

abbrev pub repeated : Regex → Regex
repeated r = mkcat r (mkstar r)

-- so many times at least, and so many at most
abbrev pub times : ℕ → ℕ → Regex → Regex
times least most r = mkrep r least most

-- what a symbol makes of regexes, but for concatenations
abbrev pub made : Symbol → List Regex → Option Regex
made symbol.ReNone rs = of_nothing none rs
made symbol.ReAll rs = of_nothing anything rs
made symbol.ReAllChar rs = of_nothing any_character rs
made symbol.ReUnion rs = joined_right either rs
made symbol.ReInter rs = joined_right both rs
made symbol.ReDiff rs = joined_left without rs
made symbol.ReStar rs = of_one mkstar rs
made symbol.RePlus rs = of_one repeated rs
made symbol.ReOpt rs = of_one optional rs
made symbol.ReComp rs = of_one mknot rs
made (symbol.RePower n) rs = of_one (times n n) rs
made (symbol.ReLoop n m) rs = of_one (times n m) rs
made _ rs = None

abbrev pub or_none : Option Regex → Regex
or_none found = unwrap_or found none

-- the normal regex of a term that is a regular expression over words
abbrev mutual
  pub regex_of : Term → Regex
  regex_of (apply str_to_re (with_term t no_terms)) = word_regex (letters_of t)
  regex_of (apply re_range (with_term s (with_term t no_terms))) = range_regex (letters_of s) (letters_of t)
  regex_of (apply re_none ts) = or_none (of_nothing none (regexes_of ts))
  regex_of (apply re_all ts) = or_none (of_nothing anything (regexes_of ts))
  regex_of (apply re_allchar ts) = or_none (of_nothing any_character (regexes_of ts))
  regex_of (apply re_concat ts) = or_none (joined_right mkcat (regexes_of ts))
  regex_of (apply re_union ts) = or_none (joined_right either (regexes_of ts))
  regex_of (apply re_inter ts) = or_none (joined_right both (regexes_of ts))
  regex_of (apply re_diff ts) = or_none (joined_left without (regexes_of ts))
  regex_of (apply re_star ts) = or_none (of_one mkstar (regexes_of ts))
  regex_of (apply re_plus ts) = or_none (of_one repeated (regexes_of ts))
  regex_of (apply re_opt ts) = or_none (of_one optional (regexes_of ts))
  regex_of (apply re_comp ts) = or_none (of_one mknot (regexes_of ts))
  regex_of (apply (re_power n) ts) = or_none (of_one (times n n) (regexes_of ts))
  regex_of (apply (re_loop n m) ts) = or_none (of_one (times n m) (regexes_of ts))
  regex_of _ = none

  pub regexes_of : Terms → List Regex
  regexes_of no_terms = []
  regexes_of (with_term t ts) = regex_of t ∷ regexes_of ts

-- the number is of the term's normal regex, and there is none where the term is no regular expression over words
abbrev pub IsNumbered : List Regex → Term → Option ℕ → Type 0
IsNumbered rs t None = is_regex t ≡ false
IsNumbered rs t (Some id) = (is_regex t ≡ true) × Names rs id (regex_of t)

-- the number is of the regex, and there is none where there is no regex
abbrev pub IsFound : List Regex → Option ℕ → Option Regex → Type 0
IsFound rs found regex = option_map (slice_get rs) found ≡ option_map Some regex

-- The terms are regular expressions over words, and each number is of the normal regex of the term beside it.
pub record AreRegexesOf (rs : List Regex) (ts : List Term) (ids : List ℕ) : Type 0 where
  pub kind : list_all is_regex ts ≡ true
  pub numbers : AllNumbers rs ids
  pub regexes : regexes_at rs ids ≡ map regex_of ts

-- the arguments of a term
abbrev pub arguments_in : Term → Terms
arguments_in (apply s ts) = ts
arguments_in _ = no_terms

-- the symbols of which the arguments' regexes are asked for
abbrev pub joins : Symbol → Bool
joins symbol.ReUnion = true
joins symbol.ReInter = true
joins symbol.ReDiff = true
joins symbol.ReStar = true
joins symbol.RePlus = true
joins symbol.ReOpt = true
joins symbol.ReComp = true
joins symbol.ReNone = true
joins symbol.ReAll = true
joins symbol.ReAllChar = true
joins (symbol.RePower n) = true
joins (symbol.ReLoop n m) = true
joins _ = false
