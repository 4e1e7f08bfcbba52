-- Symbols and sorts of the code are told apart as those of the definitions are.
use Rattle.std.proofs.Common.{◌≡◌, ℕ, Bool, true, ◌&&◌, nat_eq, refl, sym, ap, ap₂, ◌∙◌, arith}
use Rattle.std.proofs.lemmas.Bool.{and_parts, false≢true}
use Rattle.std.proofs.lemmas.Bool.Decides.{nat_tests}
use Rattle.sb_meaning.specs.Terms as meaning
use Rattle.sb_term.specs.declared.sort.Sort.{Sort}
use Rattle.sb_term.specs.declared.sort.Sort.TheVariants as sort
use Rattle.sb_term.specs.declared.sort.Symbol.{Symbol}
use Rattle.sb_term.specs.declared.sort.Symbol.TheVariants as symbol
use Rattle.sb_term.specs.contracts.sort.SortPartialEq.TheImpl as of_sort
use Rattle.sb_term.specs.contracts.sort.SymbolPartialEq.TheImpl as of_symbol
use Rattle.sb_term.specs.Symbols.{sort_in, symbol_in}

abbrev pub same_sort : Sort → Sort → Bool
same_sort = of_sort.ghosts.eq

abbrev pub same_symbol : Symbol → Symbol → Bool
same_symbol = of_symbol.ghosts.eq

pub nat_same : (x y : ℕ) → nat_eq x y ≡ true → x ≡ y
nat_same x y h = grind (arith, nat_tests)

pub same_nat : (x y : ℕ) → x ≡ y → nat_eq x y ≡ true
same_nat x y h = grind (arith, nat_tests)

-- the sort, and the symbol, that the definitions' one stands for

sort_of_meaning : meaning.Sort → Sort
sort_of_meaning meaning.boolean = sort.Bool
sort_of_meaning meaning.integer = sort.Int
sort_of_meaning meaning.text = sort.String
sort_of_meaning meaning.reglan = sort.RegLan

sort_back : (s : Sort) → sort_of_meaning (sort_in s) ≡ s
unfolding sort_of_meaning
sort_back sort.Bool = refl
sort_back sort.Int = refl
sort_back sort.String = refl
sort_back sort.RegLan = refl

pub one_sort : (s t : Sort) → sort_in s ≡ sort_in t → s ≡ t
one_sort s t h = sym (sort_back s) ∙ ap sort_of_meaning h ∙ sort_back t

symbol_of_meaning : meaning.Symbol → Symbol
symbol_of_meaning meaning.core_true = symbol.True
symbol_of_meaning meaning.core_false = symbol.False
symbol_of_meaning meaning.core_not = symbol.Not
symbol_of_meaning meaning.core_and = symbol.And
symbol_of_meaning meaning.core_or = symbol.Or
symbol_of_meaning meaning.core_implies = symbol.Implies
symbol_of_meaning meaning.core_xor = symbol.Xor
symbol_of_meaning meaning.core_ite = symbol.Ite
symbol_of_meaning meaning.core_equal = symbol.Equal
symbol_of_meaning meaning.core_distinct = symbol.Distinct
symbol_of_meaning meaning.at_most = symbol.AtMost
symbol_of_meaning meaning.less = symbol.Less
symbol_of_meaning meaning.at_least = symbol.AtLeast
symbol_of_meaning meaning.greater = symbol.Greater
symbol_of_meaning meaning.plus = symbol.Plus
symbol_of_meaning meaning.times = symbol.Times
symbol_of_meaning meaning.minus = symbol.Minus
symbol_of_meaning meaning.str_concat = symbol.StrConcat
symbol_of_meaning meaning.str_len = symbol.StrLen
symbol_of_meaning meaning.str_in_re = symbol.StrInRe
symbol_of_meaning meaning.str_prefixof = symbol.StrPrefixOf
symbol_of_meaning meaning.str_suffixof = symbol.StrSuffixOf
symbol_of_meaning meaning.str_contains = symbol.StrContains
symbol_of_meaning meaning.str_to_re = symbol.StrToRe
symbol_of_meaning meaning.re_none = symbol.ReNone
symbol_of_meaning meaning.re_all = symbol.ReAll
symbol_of_meaning meaning.re_allchar = symbol.ReAllChar
symbol_of_meaning meaning.re_concat = symbol.ReConcat
symbol_of_meaning meaning.re_union = symbol.ReUnion
symbol_of_meaning meaning.re_inter = symbol.ReInter
symbol_of_meaning meaning.re_diff = symbol.ReDiff
symbol_of_meaning meaning.re_star = symbol.ReStar
symbol_of_meaning meaning.re_plus = symbol.RePlus
symbol_of_meaning meaning.re_opt = symbol.ReOpt
symbol_of_meaning meaning.re_comp = symbol.ReComp
symbol_of_meaning meaning.re_range = symbol.ReRange
symbol_of_meaning (meaning.re_power n) = symbol.RePower n
symbol_of_meaning (meaning.re_loop n m) = symbol.ReLoop n m

symbol_back : (s : Symbol) → symbol_of_meaning (symbol_in s) ≡ s
unfolding symbol_of_meaning
symbol_back symbol.True = refl
symbol_back symbol.False = refl
symbol_back symbol.Not = refl
symbol_back symbol.And = refl
symbol_back symbol.Or = refl
symbol_back symbol.Implies = refl
symbol_back symbol.Xor = refl
symbol_back symbol.Ite = refl
symbol_back symbol.Equal = refl
symbol_back symbol.Distinct = refl
symbol_back symbol.AtMost = refl
symbol_back symbol.Less = refl
symbol_back symbol.AtLeast = refl
symbol_back symbol.Greater = refl
symbol_back symbol.Plus = refl
symbol_back symbol.Times = refl
symbol_back symbol.Minus = refl
symbol_back symbol.StrConcat = refl
symbol_back symbol.StrLen = refl
symbol_back symbol.StrInRe = refl
symbol_back symbol.StrPrefixOf = refl
symbol_back symbol.StrSuffixOf = refl
symbol_back symbol.StrContains = refl
symbol_back symbol.StrToRe = refl
symbol_back symbol.ReNone = refl
symbol_back symbol.ReAll = refl
symbol_back symbol.ReAllChar = refl
symbol_back symbol.ReConcat = refl
symbol_back symbol.ReUnion = refl
symbol_back symbol.ReInter = refl
symbol_back symbol.ReDiff = refl
symbol_back symbol.ReStar = refl
symbol_back symbol.RePlus = refl
symbol_back symbol.ReOpt = refl
symbol_back symbol.ReComp = refl
symbol_back symbol.ReRange = refl
symbol_back (symbol.RePower n) = refl
symbol_back (symbol.ReLoop n m) = refl

pub one_symbol : (s t : Symbol) → symbol_in s ≡ symbol_in t → s ≡ t
one_symbol s t h = sym (symbol_back s) ∙ ap symbol_of_meaning h ∙ symbol_back t

-- each is the same as itself

pub itself_sort : (s : Sort) → same_sort s s ≡ true
itself_sort sort.Bool = refl
itself_sort sort.Int = refl
itself_sort sort.String = refl
itself_sort sort.RegLan = refl

pub itself_symbol : (s : Symbol) → same_symbol s s ≡ true
itself_symbol symbol.True = refl
itself_symbol symbol.False = refl
itself_symbol symbol.Not = refl
itself_symbol symbol.And = refl
itself_symbol symbol.Or = refl
itself_symbol symbol.Implies = refl
itself_symbol symbol.Xor = refl
itself_symbol symbol.Ite = refl
itself_symbol symbol.Equal = refl
itself_symbol symbol.Distinct = refl
itself_symbol symbol.AtMost = refl
itself_symbol symbol.Less = refl
itself_symbol symbol.AtLeast = refl
itself_symbol symbol.Greater = refl
itself_symbol symbol.Plus = refl
itself_symbol symbol.Times = refl
itself_symbol symbol.Minus = refl
itself_symbol symbol.StrConcat = refl
itself_symbol symbol.StrLen = refl
itself_symbol symbol.StrInRe = refl
itself_symbol symbol.StrPrefixOf = refl
itself_symbol symbol.StrSuffixOf = refl
itself_symbol symbol.StrContains = refl
itself_symbol symbol.StrToRe = refl
itself_symbol symbol.ReNone = refl
itself_symbol symbol.ReAll = refl
itself_symbol symbol.ReAllChar = refl
itself_symbol symbol.ReConcat = refl
itself_symbol symbol.ReUnion = refl
itself_symbol symbol.ReInter = refl
itself_symbol symbol.ReDiff = refl
itself_symbol symbol.ReStar = refl
itself_symbol symbol.RePlus = refl
itself_symbol symbol.ReOpt = refl
itself_symbol symbol.ReComp = refl
itself_symbol symbol.ReRange = refl
itself_symbol (symbol.RePower n) = same_nat n n refl
itself_symbol (symbol.ReLoop n m) = ap₂ ◌&&◌ (same_nat n n refl) (same_nat m m refl)

-- what is the same is one

pub sort_same : (s t : Sort) → same_sort s t ≡ true → s ≡ t
sort_same sort.Bool sort.Bool h = refl
sort_same sort.Int sort.Int h = refl
sort_same sort.String sort.String h = refl
sort_same sort.RegLan sort.RegLan h = refl
sort_same _ _ h = absurd (false≢true h)

pub symbol_same : (s t : Symbol) → same_symbol s t ≡ true → s ≡ t
symbol_same symbol.True symbol.True h = refl
symbol_same symbol.False symbol.False h = refl
symbol_same symbol.Not symbol.Not h = refl
symbol_same symbol.And symbol.And h = refl
symbol_same symbol.Or symbol.Or h = refl
symbol_same symbol.Implies symbol.Implies h = refl
symbol_same symbol.Xor symbol.Xor h = refl
symbol_same symbol.Ite symbol.Ite h = refl
symbol_same symbol.Equal symbol.Equal h = refl
symbol_same symbol.Distinct symbol.Distinct h = refl
symbol_same symbol.AtMost symbol.AtMost h = refl
symbol_same symbol.Less symbol.Less h = refl
symbol_same symbol.AtLeast symbol.AtLeast h = refl
symbol_same symbol.Greater symbol.Greater h = refl
symbol_same symbol.Plus symbol.Plus h = refl
symbol_same symbol.Times symbol.Times h = refl
symbol_same symbol.Minus symbol.Minus h = refl
symbol_same symbol.StrConcat symbol.StrConcat h = refl
symbol_same symbol.StrLen symbol.StrLen h = refl
symbol_same symbol.StrInRe symbol.StrInRe h = refl
symbol_same symbol.StrPrefixOf symbol.StrPrefixOf h = refl
symbol_same symbol.StrSuffixOf symbol.StrSuffixOf h = refl
symbol_same symbol.StrContains symbol.StrContains h = refl
symbol_same symbol.StrToRe symbol.StrToRe h = refl
symbol_same symbol.ReNone symbol.ReNone h = refl
symbol_same symbol.ReAll symbol.ReAll h = refl
symbol_same symbol.ReAllChar symbol.ReAllChar h = refl
symbol_same symbol.ReConcat symbol.ReConcat h = refl
symbol_same symbol.ReUnion symbol.ReUnion h = refl
symbol_same symbol.ReInter symbol.ReInter h = refl
symbol_same symbol.ReDiff symbol.ReDiff h = refl
symbol_same symbol.ReStar symbol.ReStar h = refl
symbol_same symbol.RePlus symbol.RePlus h = refl
symbol_same symbol.ReOpt symbol.ReOpt h = refl
symbol_same symbol.ReComp symbol.ReComp h = refl
symbol_same symbol.ReRange symbol.ReRange h = refl
symbol_same (symbol.RePower n) (symbol.RePower m) h = ap symbol.RePower (nat_same n m h)
symbol_same (symbol.ReLoop n m) (symbol.ReLoop k l) h =
    let p = and_parts (nat_eq n k) _ h in ap₂ symbol.ReLoop (nat_same n k p.0) (nat_same m l p.1)
symbol_same _ _ h = absurd (false≢true h)
