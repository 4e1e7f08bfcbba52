-- The sorts and symbols of the code, as the definitions have them.
use Rattle.sb_term.specs.declared.sort.Sort.{Sort}
use Rattle.sb_term.specs.declared.sort.Sort.TheVariants as sort
use Rattle.sb_term.specs.declared.sort.Symbol.{Symbol}
use Rattle.sb_term.specs.declared.sort.Symbol.TheVariants as symbol
use Rattle.sb_meaning.specs.Terms.{boolean, integer, text, reglan}
use Rattle.sb_meaning.specs.Terms as meaning

abbrev pub sort_in : Sort → meaning.Sort
sort_in sort.Bool = boolean
sort_in sort.Int = integer
sort_in sort.String = text
sort_in sort.RegLan = reglan

abbrev pub symbol_in : Symbol → meaning.Symbol
symbol_in symbol.True = meaning.core_true
symbol_in symbol.False = meaning.core_false
symbol_in symbol.Not = meaning.core_not
symbol_in symbol.And = meaning.core_and
symbol_in symbol.Or = meaning.core_or
symbol_in symbol.Implies = meaning.core_implies
symbol_in symbol.Xor = meaning.core_xor
symbol_in symbol.Ite = meaning.core_ite
symbol_in symbol.Equal = meaning.core_equal
symbol_in symbol.Distinct = meaning.core_distinct
symbol_in symbol.AtMost = meaning.at_most
symbol_in symbol.Less = meaning.less
symbol_in symbol.AtLeast = meaning.at_least
symbol_in symbol.Greater = meaning.greater
symbol_in symbol.Plus = meaning.plus
symbol_in symbol.Times = meaning.times
symbol_in symbol.Minus = meaning.minus
symbol_in symbol.StrConcat = meaning.str_concat
symbol_in symbol.StrLen = meaning.str_len
symbol_in symbol.StrInRe = meaning.str_in_re
symbol_in symbol.StrPrefixOf = meaning.str_prefixof
symbol_in symbol.StrSuffixOf = meaning.str_suffixof
symbol_in symbol.StrContains = meaning.str_contains
symbol_in symbol.StrToRe = meaning.str_to_re
symbol_in symbol.ReNone = meaning.re_none
symbol_in symbol.ReAll = meaning.re_all
symbol_in symbol.ReAllChar = meaning.re_allchar
symbol_in symbol.ReConcat = meaning.re_concat
symbol_in symbol.ReUnion = meaning.re_union
symbol_in symbol.ReInter = meaning.re_inter
symbol_in symbol.ReDiff = meaning.re_diff
symbol_in symbol.ReStar = meaning.re_star
symbol_in symbol.RePlus = meaning.re_plus
symbol_in symbol.ReOpt = meaning.re_opt
symbol_in symbol.ReComp = meaning.re_comp
symbol_in symbol.ReRange = meaning.re_range
symbol_in (symbol.RePower n) = meaning.re_power n
symbol_in (symbol.ReLoop n m) = meaning.re_loop n m
