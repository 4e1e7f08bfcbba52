-- The line of a text, or why there is none. First the words of the format and the number of the fields are looked at:
-- a text with others is a bad word. Then each other field has to be of its shape: else it is a bad number.
use Rattle.std.specs.Prelude.{ℕ, zero, suc, ◌+◌, ◌-◌, ◌*◌, ◌^◌, ℤ, pos, negsuc, Bool, true, false, ◌&&◌, ◌==◌, nat_eq, nat_lt, nat_le, if◌then◌else◌, List, [], ◌∷◌, codes, decimal, Option, Some, None, option_map, option_and_then, ok_or, Result, Ok, Err}
use Rattle.std.specs.List.{slice_split}
use Rattle.std.specs.Cmp.Lexicographic.{pointwise}
use Rattle.sb_lit.specs.declared.clause.Lit.{Lit}
use Rattle.sb_word.specs.Literals.{hex_number_from}
use Rattle.sb_class.specs.Ranges.{Range}
use Rattle.sb_meaning.specs.Values.{Value, Text, Int, Truth}
use Rattle.sb_rulebook.specs.Refusals.{Refusal, bad_word, bad_number, unended}
use Rattle.sb_rulebook.specs.Brought.{newest_format, has_rests}
use Rattle.sb_rulebook.specs.Atoms.{AtomOver, bool_atom, in_atom, le_atom, sum_atom, and_atom, iff_atom}
use Rattle.sb_rulebook.specs.Lines.{Field, Line, header_line, regex_line, atom_line, expansion_line, dead_line, assertion_line, rule_line, learned_line, verdict_line, end_line, Node, none_node, eps_node, set_node, cat_node, alt_node, and_node, not_node, star_node, rep_node, path_node, Class, gate, order, linear, step, empty, Said, said_sat, said_unsat, said_unknown, said_unsupported, hexadecimal}
use Rattle.sb_script.specs.Pieces.{Piece, constant_piece, word_piece}
use Rattle.sb_script.specs.Sums.{Variable, int_constant, length_of, Summand}

abbrev pub is_text : Field → Field → Bool
is_text a b = pointwise nat_eq a b

-- what stands between separators
abbrev pub split_at : ℕ → List ℕ → List Field
split_at separator = slice_split (λ b. b == separator)

-- what each field says, where each is of its shape
abbrev pub each : {A : Type 0} → (Field → Option A) → List Field → Option (List A)
each shape [] = Some []
each shape (f ∷ fs) = option_and_then (λ x. option_map (λ xs. x ∷ xs) (each shape fs)) (shape f)

-- The shapes of fields.

-- the number that decimal digits spell
abbrev pub decimal_from : ℕ → Field → Option ℕ
decimal_from n [] = Some n
decimal_from n (b ∷ bs) = if nat_le 48 b && nat_le b 57 then decimal_from (10 * n + (b - 48)) bs else None

-- the number, where it is below 2^64 and the field is its text
abbrev pub if_spelled : (ℕ → Field) → Field → ℕ → Option ℕ
if_spelled spell field n = if nat_lt n (2 ^ 64) && is_text (spell n) field then Some n else None

-- a number in decimal, and in hexadecimal, without leading zeros
abbrev pub number : Field → Option ℕ
number field = option_and_then (if_spelled decimal field) (decimal_from 0 field)

abbrev pub hexadecimal_number : Field → Option ℕ
hexadecimal_number field = option_and_then (if_spelled hexadecimal field) (hex_number_from 0 field)

-- with a minus before a negative one
abbrev pub negative : ℕ → Option ℤ
negative zero = None
negative (suc n) = Some (negsuc n)

abbrev pub integer : Field → Option ℤ
integer [] = None
integer (b ∷ bs) = if b == 45 then option_and_then negative (number bs) else option_map pos (number (b ∷ bs))

abbrev pub literal : Field → Option Lit
literal [] = None
literal (b ∷ bs) =
    if b == 43 then option_map (λ n. record { atom = n; positive = true }) (number bs)
    else if b == 45 then option_map (λ n. record { atom = n; positive = false }) (number bs)
    else None

-- the characters of a word, behind its w
abbrev pub characters : List ℕ → Option (List ℕ)
characters [] = Some []
characters (b ∷ bs) = each hexadecimal_number (split_at 46 (b ∷ bs))

abbrev pub piece : Field → Option Piece
piece [] = None
piece (b ∷ bs) =
    if b == 118 then option_map constant_piece (number bs)
    else if b == 119 then option_map word_piece (characters bs)
    else None

abbrev pub variable : Field → Option Variable
variable [] = None
variable (b ∷ bs) =
    if b == 105 then option_map int_constant (number bs)
    else if b == 108 then option_map length_of (number bs)
    else None

abbrev pub value : Field → Option Value
value [] = None
value (b ∷ bs) =
    if is_text (b ∷ bs) (codes "t") then Some (Truth true)
    else if is_text (b ∷ bs) (codes "f") then Some (Truth false)
    else if b == 119 then option_map Text (characters bs)
    else option_map Int (integer (b ∷ bs))

-- two parts, each of its shape
abbrev pub both : {A B : Type 0} → (Field → Option A) → (Field → Option B) → List Field → Option (A × B)
both first second (a ∷ b ∷ []) = option_and_then (λ x. option_map (λ y. (x, y)) (second b)) (first a)
both first second _ = None

abbrev pub range : Field → Option Range
range field = both hexadecimal_number hexadecimal_number (split_at 45 field)

abbrev pub ranges : Field → Option (List Range)
ranges field = each range (split_at 44 field)

abbrev pub class : Field → Option Class
class field = both ranges number (split_at 62 field)

abbrev pub summands : List Field → Option (List Summand)
summands [] = Some []
summands (c ∷ []) = None
summands (c ∷ x ∷ fs) =
    option_and_then (λ s. option_map (λ ss. s ∷ ss) (summands fs)) (both integer variable (c ∷ x ∷ []))

-- What follows a word of the format: so many fields, each of its shape.

-- what fields say, or that they are those of no line, or not of their shapes
abbrev pub Reader : Type 0 → Type 0
Reader A = List Field → Result A Refusal

-- no field; one; two; three; any number
abbrev pub bare : {A : Type 0} → A → Reader A
bare x [] = Ok x
bare x (f ∷ fs) = Err bad_word

abbrev pub one : {A B : Type 0} → (Field → Option A) → (A → B) → Reader B
one shape make (f ∷ []) = ok_or (option_map make (shape f)) bad_number
one shape make _ = Err bad_word

abbrev pub two : {A B C : Type 0} → (Field → Option A) → (Field → Option B) → (A → B → C) → Reader C
two first second make (f ∷ g ∷ []) = ok_or (option_map (λ p. make p.0 p.1) (both first second (f ∷ g ∷ []))) bad_number
two first second make _ = Err bad_word

abbrev pub three : {A B : Type 0} → (Field → Option A) → (A → A → A → B) → Reader B
three shape make (f ∷ g ∷ h ∷ []) =
    ok_or (option_and_then (λ x. option_map (λ p. make x p.0 p.1) (both shape shape (g ∷ h ∷ []))) (shape f)) bad_number
three shape make _ = Err bad_word

abbrev pub any_number : {A B : Type 0} → (Field → Option A) → (List A → B) → Reader B
any_number shape make fs = ok_or (option_map make (each shape fs)) bad_number

-- one, and any number behind it
abbrev pub some : {A B C : Type 0} → (Field → Option A) → (Field → Option B) → (A → List B → C) → Reader C
some first shape make [] = Err bad_word
some first shape make (f ∷ fs) = ok_or (option_and_then (λ x. option_map (make x) (each shape fs)) (first f)) bad_number

-- Fields on both sides of a colon.

abbrev pub is_colon : Field → Bool
is_colon field = is_text field (codes ":")

-- what stands before the first colon, and behind it
abbrev pub around_colon : List Field → Option (List Field × List Field)
around_colon [] = None
around_colon (f ∷ fs) = if is_colon f then Some ([], fs) else option_map (λ p. (f ∷ p.0, p.1)) (around_colon fs)

-- what stands before the colon that is the last field but one, and the last field
abbrev pub before_last_colon : List Field → Option (List Field × Field)
before_last_colon [] = None
before_last_colon (f ∷ []) = None
before_last_colon (f ∷ g ∷ []) = if is_colon f then Some ([], g) else None
before_last_colon (f ∷ g ∷ h ∷ fs) = option_map (λ p. (f ∷ p.0, p.1)) (before_last_colon (g ∷ h ∷ fs))

abbrev pub membership_of : List Field × Field → Option (AtomOver ℕ)
membership_of p = option_and_then (λ ps. option_map (in_atom ps) (number p.1)) (each piece p.0)

abbrev pub membership : Reader (AtomOver ℕ)
membership fs = elim (before_last_colon fs) [ None ↦ Err bad_word | Some p ↦ ok_or (membership_of p) bad_number ]

abbrev pub learned_of : List Field × List Field → Option Line
learned_of p = option_and_then (λ ls. option_map (learned_line ls) (each number p.1)) (each literal p.0)

abbrev pub learned : Reader Line
learned fs = elim (around_colon fs) [ None ↦ Err bad_word | Some p ↦ ok_or (learned_of p) bad_number ]

abbrev pub refutation_of : Field → List Field → Option Said
refutation_of c fs =
    option_and_then (λ id. option_map (λ places. said_unsat id (Some places)) (each number fs)) (number c)

-- the number of a clause, and in some formats places behind a colon
abbrev pub refutation : Reader Said
refutation [] = Err bad_word
refutation (c ∷ []) = ok_or (option_map (λ id. said_unsat id None) (number c)) bad_number
refutation (c ∷ f ∷ fs) =
    if has_rests newest_format && is_colon f then ok_or (refutation_of c fs) bad_number else Err bad_word

-- a bound, and pairs of a factor and a variable, at least one
abbrev pub has_pairs : List Field → Bool
has_pairs [] = false
has_pairs (c ∷ []) = false
has_pairs (c ∷ x ∷ []) = true
has_pairs (c ∷ x ∷ d ∷ fs) = has_pairs (d ∷ fs)

abbrev pub sum_of : Field → List Field → Option (AtomOver ℕ)
sum_of k fs = option_and_then (λ n. option_map (sum_atom n) (summands fs)) (integer k)

abbrev pub sum : Reader (AtomOver ℕ)
sum [] = Err bad_word
sum (k ∷ fs) = if has_pairs fs then ok_or (sum_of k fs) bad_number else Err bad_word

-- The words of the format, each with what follows it.

abbrev pub Table : Type 0 → Type 0
Table A = List (Field × Reader A)

-- what follows a word, by a table of words
abbrev pub by_table : {A : Type 0} → Table A → Field → Reader A
by_table [] word fs = Err bad_word
by_table (row ∷ rows) word fs = if is_text word row.0 then row.1 fs else by_table rows word fs

abbrev pub nodes : Table Node
nodes =
    (codes "none", bare none_node)
    ∷ (codes "eps", bare eps_node)
    ∷ (codes "set", one ranges set_node)
    ∷ (codes "cat", two number number cat_node)
    ∷ (codes "alt", some number number (λ id ids. alt_node (id ∷ ids)))
    ∷ (codes "and", some number number (λ id ids. and_node (id ∷ ids)))
    ∷ (codes "not", one number not_node)
    ∷ (codes "star", one number star_node)
    ∷ (codes "rep", three number rep_node)
    ∷ (codes "path", two number number path_node) ∷ []

abbrev pub atoms : Table (AtomOver ℕ)
atoms =
    (codes "bool", one number bool_atom)
    ∷ (codes "in", membership)
    ∷ (codes "le", two variable integer le_atom)
    ∷ (codes "sum", sum)
    ∷ (codes "and", any_number literal and_atom)
    ∷ (codes "iff", two literal literal iff_atom) ∷ []

abbrev pub clauses : Table Line
clauses =
    (codes "assert", two number literal assertion_line)
    ∷ (codes "gate", any_number literal (rule_line gate))
    ∷ (codes "order", any_number literal (rule_line order))
    ∷ (codes "linear", any_number literal (rule_line linear))
    ∷ (codes "step", any_number literal (rule_line step))
    ∷ (codes "empty", any_number literal (rule_line empty))
    ∷ (codes "learn", learned) ∷ []

abbrev pub verdicts : Table Said
verdicts =
    (codes "sat", any_number value said_sat)
    ∷ (codes "unsat", refutation)
    ∷ (codes "unknown", one number said_unknown)
    ∷ (codes "unsupported", bare said_unsupported) ∷ []

abbrev pub made : {A B : Type 0} → (A → B) → Result A Refusal → Result B Refusal
made make (Ok x) = Ok (make x)
made make (Err refusal) = Err refusal

-- a second word, with what follows it
abbrev pub by_word : {A B : Type 0} → Table A → (A → B) → Reader B
by_word table make [] = Err bad_word
by_word table make (word ∷ fs) = made make (by_table table word fs)

abbrev pub lines : Table Line
lines =
    (codes "strproof", one number header_line)
    ∷ (codes "r", by_word nodes regex_line)
    ∷ (codes "a", by_word atoms atom_line)
    ∷ (codes "x", some number class expansion_line)
    ∷ (codes "d", any_number number dead_line)
    ∷ (codes "c", by_word clauses (λ line. line))
    ∷ (codes "v", by_word verdicts verdict_line)
    ∷ (codes "end", bare end_line) ∷ []

abbrev pub line_of_fields : Reader Line
line_of_fields [] = Err bad_word
line_of_fields (word ∷ fs) = by_table lines word fs

-- the line of a text
abbrev pub line_of : List ℕ → Result Line Refusal
line_of text = line_of_fields (split_at 32 text)

-- The lines of a proof: texts, each with whether a line feed ends it.

abbrev pub LineText : Type 0
LineText = List ℕ × Bool

-- the last part has no line feed behind it; it is no line where it is empty
abbrev pub with_ends : List (List ℕ) → List LineText
with_ends [] = []
with_ends ([] ∷ []) = []
with_ends ((b ∷ bs) ∷ []) = (b ∷ bs, false) ∷ []
with_ends (text ∷ next ∷ texts) = (text, true) ∷ with_ends (next ∷ texts)

abbrev pub texts_of : List ℕ → List LineText
texts_of bytes = with_ends (split_at 10 bytes)

abbrev pub if_ended : Bool → Line → Result Line Refusal
if_ended ended line = if ended then Ok line else Err unended

abbrev pub read : LineText → Result Line Refusal
read t = elim (line_of t.0) [ Ok line ↦ if_ended t.1 line | Err refusal ↦ Err refusal ]
