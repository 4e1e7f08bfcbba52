-- Laws of lines and their texts.
use Rattle.std.specs.Prelude.{◌≡◌, ℕ, suc, ◌^◌, ℤ, pos, negsuc, Bool, true, false, not, ◌&&◌, ◌==◌, nat_lt, List, [], ◌∷◌, ◌++◌, map, Some, None, Ok}
use Rattle.std.specs.List.{list_all, flat_map}
use Rattle.sb_lit.specs.declared.clause.Lit.{Lit}
use Rattle.sb_class.specs.Ranges.{Range}
use Rattle.sb_meaning.specs.Values.{Value, Text, Int, Truth}
use Rattle.sb_script.specs.Steps.{line}
use Rattle.sb_rulebook.specs.Atoms.{AtomOver, bool_atom, in_atom, le_atom, sum_atom, and_atom, iff_atom}
use Rattle.sb_rulebook.specs.Lines.{Line, header_line, regex_line, atom_line, expansion_line, dead_line, assertion_line, rule_line, learned_line, verdict_line, end_line, Node, none_node, eps_node, set_node, cat_node, alt_node, and_node, not_node, star_node, rep_node, path_node, Class, Said, said_sat, said_unsat, said_unknown, said_unsupported, text_of}
use Rattle.sb_rulebook.specs.Brought.{newest_format, has_rests}
use Rattle.sb_rulebook.specs.Reading.{line_of, LineText, texts_of, read}
use Rattle.sb_script.specs.Pieces.{Piece, constant_piece, word_piece}
use Rattle.sb_script.specs.Sums.{Variable, int_constant, length_of, Summand}

-- A line is read from its text alone, so no two texts are one line.
abbrev pub LineHasOneText : Type 0
LineHasOneText = (bytes : List ℕ) (line : Line) → line_of bytes ≡ Ok line → text_of line ≡ bytes

-- A text is read as one line at most.
abbrev pub TextHasOneLine : Type 0
TextHasOneLine = (bytes : List ℕ) (one other : Line) → line_of bytes ≡ Ok one → line_of bytes ≡ Ok other → one ≡ other

-- Which lines have a text: their numbers are below 2^64, and what may not be empty is not.

abbrev pub is_small : ℕ → Bool
is_small n = nat_lt n (2 ^ 64)

abbrev pub are_small : List ℕ → Bool
are_small ns = list_all is_small ns

abbrev pub is_small_integer : ℤ → Bool
is_small_integer (pos n) = is_small n
is_small_integer (negsuc n) = is_small (suc n)

abbrev pub is_small_literal : Lit → Bool
is_small_literal l = is_small l.atom

abbrev pub is_small_piece : Piece → Bool
is_small_piece (constant_piece serial) = is_small serial
is_small_piece (word_piece w) = are_small w

abbrev pub is_small_variable : Variable → Bool
is_small_variable (int_constant serial) = is_small serial
is_small_variable (length_of serial) = is_small serial

abbrev pub is_small_summand : Summand → Bool
is_small_summand s = is_small_integer s.0 && is_small_variable s.1

abbrev pub is_small_value : Value → Bool
is_small_value (Text w) = are_small w
is_small_value (Int n) = is_small_integer n
is_small_value (Truth b) = true

abbrev pub is_small_range : Range → Bool
is_small_range r = is_small r.0 && is_small r.1

abbrev pub have_text : List Range → Bool
have_text [] = false
have_text (r ∷ rs) = list_all is_small_range (r ∷ rs)

abbrev pub is_small_class : Class → Bool
is_small_class k = have_text k.0 && is_small k.1

abbrev pub some_small : List ℕ → Bool
some_small [] = false
some_small (n ∷ ns) = are_small (n ∷ ns)

abbrev pub node_has_text : Node → Bool
node_has_text none_node = true
node_has_text eps_node = true
node_has_text (set_node rs) = have_text rs
node_has_text (cat_node a b) = is_small a && is_small b
node_has_text (alt_node ids) = some_small ids
node_has_text (and_node ids) = some_small ids
node_has_text (not_node a) = is_small a
node_has_text (star_node a) = is_small a
node_has_text (rep_node a n m) = is_small a && (is_small n && is_small m)
node_has_text (path_node a b) = is_small a && is_small b

abbrev pub some_summands : List Summand → Bool
some_summands [] = false
some_summands (s ∷ ss) = list_all is_small_summand (s ∷ ss)

abbrev pub atom_has_text : AtomOver ℕ → Bool
atom_has_text (bool_atom serial) = is_small serial
atom_has_text (in_atom ps r) = list_all is_small_piece ps && is_small r
atom_has_text (le_atom x k) = is_small_variable x && is_small_integer k
atom_has_text (sum_atom k ss) = is_small_integer k && some_summands ss
atom_has_text (and_atom ls) = list_all is_small_literal ls
atom_has_text (iff_atom l m) = is_small_literal l && is_small_literal m

abbrev pub said_has_text : Said → Bool
said_has_text (said_sat values) = list_all is_small_value values
said_has_text (said_unsat id None) = is_small id
said_has_text (said_unsat id (Some places)) = has_rests newest_format && (is_small id && are_small places)
said_has_text (said_unknown limit) = is_small limit
said_has_text said_unsupported = true

abbrev pub has_text : Line → Bool
has_text (header_line format) = is_small format
has_text (regex_line node) = node_has_text node
has_text (atom_line atom) = atom_has_text atom
has_text (expansion_line r ks) = is_small r && list_all is_small_class ks
has_text (dead_line ids) = are_small ids
has_text (assertion_line place l) = is_small place && is_small_literal l
has_text (rule_line rule ls) = list_all is_small_literal ls
has_text (learned_line ls ids) = list_all is_small_literal ls && are_small ids
has_text (verdict_line said) = said_has_text said
has_text end_line = true

-- The text of such a line is read as the line.
abbrev pub TextIsRead : Type 0
TextIsRead = (line : Line) → has_text line ≡ true → line_of (text_of line) ≡ Ok line

-- The lines of bytes.

-- no byte of the text ends it
abbrev pub is_one_line : List ℕ → Bool
is_one_line text = list_all (λ b. not (b == 10)) text

-- No byte of a line's text ends it.
abbrev pub TextIsOneLine : Type 0
TextIsOneLine = (line : Line) → is_one_line (text_of line) ≡ true

-- texts, each with a line feed behind it
abbrev pub bytes_of : List (List ℕ) → List ℕ
bytes_of texts = flat_map line texts

abbrev pub ended : List ℕ → LineText
ended text = (text, true)

-- The lines of such bytes are the texts, each ended, and the lines of the bytes behind them follow.
abbrev pub TextsAreLines : Type 0
TextsAreLines = (texts : List (List ℕ)) (more : List ℕ) → list_all is_one_line texts ≡ true
    → texts_of (bytes_of texts ++ more) ≡ map ended texts ++ texts_of more

-- The bytes of printed lines are read as the lines, one by one, and the bytes behind them as they are alone.
abbrev pub PrintedLinesAreRead : Type 0
PrintedLinesAreRead = (printed : List Line) (more : List ℕ) → list_all has_text printed ≡ true
    → map read (texts_of (bytes_of (map text_of printed) ++ more)) ≡ map Ok printed ++ map read (texts_of more)

-- The same where nothing stands behind them.
abbrev pub PrintedProofIsRead : Type 0
PrintedProofIsRead = (printed : List Line) → list_all has_text printed ≡ true
    → map read (texts_of (bytes_of (map text_of printed))) ≡ map Ok printed
