-- Private: the measure of a term from those of its arguments. All but what it says of Boolean structure are made from
-- them alone; what it says of that comes by the term's shape.
use Rattle.std.specs.Prelude.{ℕ, ◌+◌, Bool, true, false, not, ◌&&◌, ◌==◌, nat_le, if◌then◌else◌, List, [], ◌∷◌, length, get_or}
use Rattle.sb_meaning.specs.Terms.{Symbol, text}
use Rattle.sb_meaning.specs.Terms as symbol
use Rattle.sb_meaning.specs.Sorts.{is_same_sort}
use Rattle.sb_term.specs.declared.term.Term as code
use Rattle.sb_term.specs.declared.term.Term.TheVariants as node
use Rattle.sb_term.specs.Symbols.{sort_in, symbol_in}
use Rattle.sb_fragment.specs.declared.measure.Measure.{Measure}
use Rattle.sb_fragment.specs.declared.fitting.Fit.{Fit}
use Rattle.sb_fragment.specs.Measures.{within_limit}

abbrev pub is_text_by : Symbol → Bool → Bool
is_text_by symbol.str_concat texts = texts
is_text_by _ texts = false

-- a concatenation has pieces where each of its parts has, and where it is a word, by its size
abbrev pub has_pieces_by : Symbol → Bool → ℕ → Bool → Bool
has_pieces_by symbol.str_concat texts size pieces = if texts then nat_le size 65535 else pieces
has_pieces_by _ texts size pieces = false

abbrev pub is_regex_by : Symbol → ℕ → Bool → Bool → Bool
is_regex_by symbol.str_to_re n texts regexes = (n == 1) && texts
is_regex_by symbol.re_range n texts regexes = (n == 2) && texts
is_regex_by symbol.re_none n texts regexes = n == 0
is_regex_by symbol.re_all n texts regexes = n == 0
is_regex_by symbol.re_allchar n texts regexes = n == 0
is_regex_by symbol.re_concat n texts regexes = not (n == 0) && regexes
is_regex_by symbol.re_union n texts regexes = not (n == 0) && regexes
is_regex_by symbol.re_inter n texts regexes = not (n == 0) && regexes
is_regex_by symbol.re_diff n texts regexes = not (n == 0) && regexes
is_regex_by symbol.re_star n texts regexes = (n == 1) && regexes
is_regex_by symbol.re_plus n texts regexes = (n == 1) && regexes
is_regex_by symbol.re_opt n texts regexes = (n == 1) && regexes
is_regex_by symbol.re_comp n texts regexes = (n == 1) && regexes
is_regex_by (symbol.re_power k) n texts regexes = (n == 1) && regexes
is_regex_by (symbol.re_loop k l) n texts regexes = (n == 1) && regexes
is_regex_by _ n texts regexes = false

abbrev pub is_short_by : Symbol → Bool → ℕ → Bool
is_short_by symbol.str_concat short size = nat_le size 65535
is_short_by _ short size = short

abbrev pub size_by : Symbol → ℕ → ℕ
size_by symbol.str_concat size = size
size_by _ size = within_limit (1 + size)

abbrev pub joined : Measure → Measure → Measure
joined a b = record {
  is_text = a.is_text && b.is_text;
  has_pieces = a.has_pieces && b.has_pieces;
  is_ground = a.is_ground && b.is_ground;
  is_regex = a.is_regex && b.is_regex;
  is_short = a.is_short && b.is_short;
  size = within_limit (a.size + b.size);
  is_structure = a.is_structure && b.is_structure;
  fits = a.fits && b.fits;
}

-- of no term
abbrev pub no_measure : Measure
no_measure = record {
  is_text = true;
  has_pieces = true;
  is_ground = true;
  is_regex = true;
  is_short = true;
  size = 0;
  is_structure = true;
  fits = true;
}

-- of all these together
abbrev pub total : List Measure → List ℕ → Measure
total ms [] = no_measure
total ms (i ∷ is) = joined (get_or ms i no_measure) (total ms is)

abbrev pub applied_measure : Symbol → ℕ → Measure → Measure
applied_measure s n all = record {
  is_text = is_text_by s all.is_text;
  has_pieces = has_pieces_by s all.is_text all.size all.has_pieces;
  is_ground = all.is_ground;
  is_regex = is_regex_by s n all.is_text all.is_regex;
  is_short = is_short_by s all.is_short all.size;
  size = size_by s all.size;
  is_structure = false;
  fits = false;
}

-- but for Boolean structure, where this is the measure of its arguments together
abbrev pub node_measure : Measure → code.Term → Measure
node_measure all (node.Constant serial sort) = record {
  is_text = false;
  has_pieces = is_same_sort text (sort_in sort);
  is_ground = false;
  is_regex = false;
  is_short = true;
  size = 0;
  is_structure = false;
  fits = false;
}
node_measure all (node.Word codes) = record {
  is_text = true;
  has_pieces = nat_le (length codes.items) 65535;
  is_ground = true;
  is_regex = false;
  is_short = nat_le (length codes.items) 65535;
  size = within_limit (length codes.items);
  is_structure = false;
  fits = false;
}
node_measure all (node.Numeral n) = record {
  is_text = false;
  has_pieces = false;
  is_ground = true;
  is_regex = false;
  is_short = true;
  size = 0;
  is_structure = false;
  fits = false;
}
node_measure all (node.Apply s arguments) = applied_measure (symbol_in s) (length arguments.items) all
node_measure all (node.Parameter place sort) = record {
  is_text = false;
  has_pieces = false;
  is_ground = false;
  is_regex = false;
  is_short = true;
  size = 0;
  is_structure = false;
  fits = false;
}

-- with what it says of Boolean structure
abbrev pub with_fit : Fit → Measure → Measure
with_fit fit m = record m { is_structure = fit.is_structure; fits = fit.fits }

-- a word within the limit, and one of 1,000 characters at most
abbrev pub is_short_word : Measure → Bool
is_short_word m = m.is_text && m.has_pieces

abbrev pub is_whole_word : Measure → Bool
is_whole_word m = m.is_text && nat_le m.size 1000

-- no constants, and sizes within the limits
abbrev pub within : Measure → Bool
within m = (m.is_ground && m.is_short) && nat_le m.size 1000000
