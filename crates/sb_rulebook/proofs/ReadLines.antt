-- The text of each kind of line is read as the line.
use Rattle.std.proofs.Common.{◌≡◌, ℕ, ◌≤◌, Bool, true, false, cond, ◌&&◌, List, [], ◌∷◌, ◌++◌, map, codes, decimal, Option, Some, None, option_map, option_and_then, ok_or, Result, Ok, Err, refl, ap, ◌∙◌, arith}
use Rattle.std.specs.List.{list_all, join_with_byte, flat_map}
use Rattle.std.specs.Fmt.{signed_decimal}
use Rattle.std.proofs.lemmas.Bool.{and_parts, false≢true}
use Rattle.sb_lit.specs.declared.clause.Lit.{Lit}
use Rattle.sb_meaning.specs.Values.{Value, Text, Int, Truth}
use Rattle.sb_rulebook.specs.Refusals.{Refusal, bad_word, bad_number}
use Rattle.sb_rulebook.specs.Atoms.{AtomOver, bool_atom, in_atom, le_atom, sum_atom, and_atom, iff_atom}
use Rattle.sb_rulebook.specs.Brought.{newest_format, has_rests}
use Rattle.sb_rulebook.specs.Lines.{Field, Line, header_line, regex_line, atom_line, expansion_line, dead_line, assertion_line, rule_line, learned_line, verdict_line, end_line, Node, none_node, eps_node, set_node, cat_node, alt_node, and_node, not_node, star_node, rep_node, path_node, Class, Rule, gate, order, linear, step, empty, Said, said_sat, said_unsat, said_unknown, said_unsupported, hexadecimal, ranges_text, word_text, literal_text, piece_text, variable_text, summand_fields, class_text, value_text, node_fields, atom_fields, said_fields, fields_of}
use Rattle.sb_rulebook.specs.Reading.{split_at, each, number, integer, literal, piece, variable, value, both, ranges, class, summands, one, two, any_number, some, is_colon, membership_of, membership, learned_of, learned, refutation_of, sum_of, sum, made, line_of_fields}
use Rattle.sb_rulebook.specs.LineLaws.{is_small, are_small, is_small_integer, is_small_literal, is_small_piece, is_small_variable, is_small_value, is_small_class, node_has_text, some_summands, atom_has_text, said_has_text, has_text, TextIsRead, TextIsOneLine}
use Rattle.sb_rulebook.proofs.ListFacts.{all-cons, all-append, all-map}
use Rattle.sb_rulebook.proofs.DigitFacts.{number-read, is_other, is_free, is_visible, are_visible, visible-free, decimal-visible, hexadecimal-visible, split-joined}
use Rattle.sb_rulebook.proofs.ReadFacts.{integer-read, literal-read, variable-read, each-read, both-read, ranges-read, class-read, piece-read, value-read, summands-read, pairs-there, last-colon, first-colon, all-joined, all-ranges, all-signed}
use Rattle.sb_script.specs.Pieces.{Piece, constant_piece, word_piece}
use Rattle.sb_script.specs.Sums.{Variable, int_constant, length_of, Summand}

-- What follows a word.

one-read : {A B : Type 0} (shape : Field → Option A) (make : A → B) (f : Field) (x : A) → shape f ≡ Some x
    → one shape make (f ∷ []) ≡ Ok (make x)
one-read shape make f x read = ap (λ o. ok_or (option_map make o) bad_number) read

two-read : {A B C : Type 0} (first : Field → Option A) (second : Field → Option B) (make : A → B → C) (f g : Field)
    (x : A) (y : B) → first f ≡ Some x → second g ≡ Some y → two first second make (f ∷ g ∷ []) ≡ Ok (make x y)
two-read first second make f g x y read other =
    ap (λ o. ok_or (option_map (λ p. make p.0 p.1) o) bad_number) (both-read first second f g x y read other)

any-read : {A B : Type 0} (shape : Field → Option A) (make : List A → B) (fs : List Field) (xs : List A)
    → each shape fs ≡ Some xs → any_number shape make fs ≡ Ok (make xs)
any-read shape make fs xs read = ap (λ o. ok_or (option_map make o) bad_number) read

some-read : {A B C : Type 0} (first : Field → Option A) (shape : Field → Option B) (make : A → List B → C) (f : Field)
    (fs : List Field) (x : A) (xs : List B) → first f ≡ Some x → each shape fs ≡ Some xs
    → some first shape make (f ∷ fs) ≡ Ok (make x xs)
some-read first shape make f fs x xs read others =
    ap (λ o. ok_or (option_and_then (λ y. option_map (make y) (each shape fs)) o) bad_number) read
    ∙ ap (λ o. ok_or (option_map (make x) o) bad_number) others

numbers-read : (ns : List ℕ) → are_small ns ≡ true → each number (map decimal ns) ≡ Some ns
numbers-read = each-read number decimal is_small number-read

literals-read : (ls : List Lit) → list_all is_small_literal ls ≡ true → each literal (map literal_text ls) ≡ Some ls
literals-read = each-read literal literal_text is_small_literal literal-read

-- Regexes.

node-read : (n : Node) → node_has_text n ≡ true → line_of_fields (fields_of (regex_line n)) ≡ Ok (regex_line n)
node-read none_node small = refl
node-read eps_node small = refl
node-read (set_node rs) small =
    ap (made regex_line) (one-read ranges set_node (ranges_text rs) rs (ranges-read rs small))
node-read (cat_node a b) small =
    let parts = and_parts (is_small a) (is_small b) small in
    ap (made regex_line) (two-read number number cat_node (decimal a) (decimal b) a b (number-read a parts.0)
    (number-read b parts.1))
node-read (alt_node []) small = absurd (false≢true small)
node-read (alt_node (a ∷ ids)) small =
    let parts = and_parts (is_small a) (are_small ids) small in
    ap (made regex_line) (some-read number number (λ id rest. alt_node (id ∷ rest)) (decimal a) (map decimal ids) a ids
    (number-read a parts.0) (numbers-read ids parts.1))
node-read (and_node []) small = absurd (false≢true small)
node-read (and_node (a ∷ ids)) small =
    let parts = and_parts (is_small a) (are_small ids) small in
    ap (made regex_line) (some-read number number (λ id rest. and_node (id ∷ rest)) (decimal a) (map decimal ids) a ids
    (number-read a parts.0) (numbers-read ids parts.1))
node-read (not_node a) small = ap (made regex_line) (one-read number not_node (decimal a) a (number-read a small))
node-read (star_node a) small = ap (made regex_line) (one-read number star_node (decimal a) a (number-read a small))
node-read (rep_node a n m) small =
    let parts = and_parts (is_small a) (is_small n && is_small m) small in
    let bounds = and_parts (is_small n) (is_small m) parts.1 in
    ap (made regex_line)
    (ap (λ o. ok_or (option_and_then
    (λ x. option_map (λ p. rep_node x p.0 p.1) (both number number (decimal n ∷ decimal m ∷ []))) o) bad_number)
    (number-read a parts.0)
    ∙ ap (λ o. ok_or (option_map (λ p. rep_node a p.0 p.1) o) bad_number)
    (both-read number number (decimal n) (decimal m) n m (number-read n bounds.0) (number-read m bounds.1)))
node-read (path_node a b) small =
    let parts = and_parts (is_small a) (is_small b) small in
    ap (made regex_line) (two-read number number path_node (decimal a) (decimal b) a b (number-read a parts.0)
    (number-read b parts.1))

-- Atoms.

membership-read : (ps : List Piece) (r : ℕ) → list_all is_small_piece ps ≡ true → is_small r ≡ true
    → membership (map piece_text ps ++ codes ":" ∷ decimal r ∷ []) ≡ Ok (in_atom ps r)
membership-read ps r small other =
    ap (λ o. elim o as (λ _. Result (AtomOver ℕ) Refusal)
    [ None ↦ Err bad_word | Some p ↦ ok_or (membership_of p) bad_number ])
    (last-colon (map piece_text ps) (decimal r))
    ∙ ap (λ o. ok_or (option_and_then (λ qs. option_map (in_atom qs) (number (decimal r))) o) bad_number)
    (each-read piece piece_text is_small_piece piece-read ps small)
    ∙ ap (λ o. ok_or (option_map (in_atom ps) o) bad_number) (number-read r other)

sum-read : (k : _) (ss : List Summand) → is_small_integer k ≡ true → some_summands ss ≡ true
    → sum (signed_decimal k ∷ flat_map summand_fields ss) ≡ Ok (sum_atom k ss)
sum-read k [] small others = absurd (false≢true others)
sum-read k (s ∷ ss) small others =
    ap (λ t. cond t (ok_or (sum_of (signed_decimal k) (flat_map summand_fields (s ∷ ss))) bad_number) (Err bad_word))
    (pairs-there s ss)
    ∙ ap (λ o. ok_or (option_and_then (λ n. option_map (sum_atom n) (summands (flat_map summand_fields (s ∷ ss)))) o)
    bad_number) (integer-read k small)
    ∙ ap (λ o. ok_or (option_map (sum_atom k) o) bad_number) (summands-read (s ∷ ss) others)

atom-read : (a : AtomOver ℕ) → atom_has_text a ≡ true → line_of_fields (fields_of (atom_line a)) ≡ Ok (atom_line a)
atom-read (bool_atom serial) small =
    ap (made atom_line) (one-read number bool_atom (decimal serial) serial (number-read serial small))
atom-read (in_atom ps r) small =
    let parts = and_parts (list_all is_small_piece ps) (is_small r) small in
    ap (made atom_line) (membership-read ps r parts.0 parts.1)
atom-read (le_atom x k) small =
    let parts = and_parts (is_small_variable x) (is_small_integer k) small in
    ap (made atom_line) (two-read variable integer le_atom (variable_text x) (signed_decimal k) x k
    (variable-read x parts.0) (integer-read k parts.1))
atom-read (sum_atom k ss) small =
    let parts = and_parts (is_small_integer k) (some_summands ss) small in
    ap (made atom_line) (sum-read k ss parts.0 parts.1)
atom-read (and_atom ls) small =
    ap (made atom_line) (any-read literal and_atom (map literal_text ls) ls (literals-read ls small))
atom-read (iff_atom l m) small =
    let parts = and_parts (is_small_literal l) (is_small_literal m) small in
    ap (made atom_line) (two-read literal literal iff_atom (literal_text l) (literal_text m) l m
    (literal-read l parts.0) (literal-read m parts.1))

-- Clauses and verdicts.

rule-read : (rule : Rule) (ls : List Lit) → list_all is_small_literal ls ≡ true
    → line_of_fields (fields_of (rule_line rule ls)) ≡ Ok (rule_line rule ls)
rule-read gate ls small =
    ap (made (λ line. line)) (any-read literal (rule_line gate) (map literal_text ls) ls (literals-read ls small))
rule-read order ls small =
    ap (made (λ line. line)) (any-read literal (rule_line order) (map literal_text ls) ls (literals-read ls small))
rule-read linear ls small =
    ap (made (λ line. line)) (any-read literal (rule_line linear) (map literal_text ls) ls (literals-read ls small))
rule-read step ls small =
    ap (made (λ line. line)) (any-read literal (rule_line step) (map literal_text ls) ls (literals-read ls small))
rule-read empty ls small =
    ap (made (λ line. line)) (any-read literal (rule_line empty) (map literal_text ls) ls (literals-read ls small))

learned-read : (ls : List Lit) (ids : List ℕ) → list_all is_small_literal ls ≡ true → are_small ids ≡ true
    → learned (map literal_text ls ++ codes ":" ∷ map decimal ids) ≡ Ok (learned_line ls ids)
learned-read ls ids small others =
    ap (λ o. elim o as (λ _. Result Line Refusal) [ None ↦ Err bad_word | Some p ↦ ok_or (learned_of p) bad_number ])
    (first-colon ls (map decimal ids))
    ∙ ap (λ o. ok_or (option_and_then (λ ms. option_map (learned_line ms) (each number (map decimal ids))) o)
    bad_number) (literals-read ls small)
    ∙ ap (λ o. ok_or (option_map (learned_line ls) o) bad_number) (numbers-read ids others)

-- by whether the format has places
places-read : (there : Bool) (id : ℕ) (places : List ℕ) → there ≡ true → (is_small id && are_small places) ≡ true
    → cond (there && is_colon (codes ":")) (ok_or (refutation_of (decimal id) (map decimal places)) bad_number)
    (Err bad_word) ≡ Ok (said_unsat id (Some places))
places-read false id places there small = absurd (false≢true there)
places-read true id places there small =
    let parts = and_parts (is_small id) (are_small places) small in
    ap (λ o. ok_or (option_and_then
    (λ n. option_map (λ ns. said_unsat n (Some ns)) (each number (map decimal places))) o) bad_number)
    (number-read id parts.0)
    ∙ ap (λ o. ok_or (option_map (λ ns. said_unsat id (Some ns)) o) bad_number) (numbers-read places parts.1)

said-read : (s : Said) → said_has_text s ≡ true → line_of_fields (fields_of (verdict_line s)) ≡ Ok (verdict_line s)
said-read (said_sat values) small =
    ap (made verdict_line)
    (any-read value said_sat (map value_text values) values
    (each-read value value_text is_small_value value-read values small))
said-read (said_unsat id None) small =
    ap (made verdict_line) (ap (λ o. ok_or (option_map (λ n. said_unsat n None) o) bad_number) (number-read id small))
said-read (said_unsat id (Some places)) small =
    let parts = and_parts (has_rests newest_format) (is_small id && are_small places) small in
    ap (made verdict_line) (places-read (has_rests newest_format) id places parts.0 parts.1)
said-read (said_unknown limit) small =
    ap (made verdict_line) (one-read number said_unknown (decimal limit) limit (number-read limit small))
said-read said_unsupported small = refl

fields-read : (line : Line) → has_text line ≡ true → line_of_fields (fields_of line) ≡ Ok line
fields-read (header_line format) small = one-read number header_line (decimal format) format (number-read format small)
fields-read (regex_line n) small = node-read n small
fields-read (atom_line a) small = atom-read a small
fields-read (expansion_line r ks) small =
    let parts = and_parts (is_small r) (list_all is_small_class ks) small in
    some-read number class expansion_line (decimal r) (map class_text ks) r ks (number-read r parts.0)
    (each-read class class_text is_small_class class-read ks parts.1)
fields-read (dead_line ids) small = any-read number dead_line (map decimal ids) ids (numbers-read ids small)
fields-read (assertion_line place l) small =
    let parts = and_parts (is_small place) (is_small_literal l) small in
    ap (made (λ line. line))
    (two-read number literal assertion_line (decimal place) (literal_text l) place l (number-read place parts.0)
    (literal-read l parts.1))
fields-read (rule_line rule ls) small = rule-read rule ls small
fields-read (learned_line ls ids) small =
    let parts = and_parts (list_all is_small_literal ls) (are_small ids) small in
    ap (made (λ line. line)) (learned-read ls ids parts.0 parts.1)
fields-read (verdict_line s) small = said-read s small
fields-read end_line small = refl

-- No field has a space, or a line feed.

numbers-visible : (ns : List ℕ) → list_all are_visible (map decimal ns) ≡ true
numbers-visible = all-map are_visible decimal decimal-visible

integer-visible : (z : _) → are_visible (signed_decimal z) ≡ true
integer-visible = all-signed is_visible decimal-visible refl

literal-visible : (l : Lit) → are_visible (literal_text l) ≡ true
literal-visible l = step l.positive
  where
    step : (b : Bool) → are_visible (cond b 43 45 ∷ decimal l.atom) ≡ true
    step true = all-cons is_visible 43 (decimal l.atom) refl (decimal-visible l.atom)
    step false = all-cons is_visible 45 (decimal l.atom) refl (decimal-visible l.atom)

literals-visible : (ls : List Lit) → list_all are_visible (map literal_text ls) ≡ true
literals-visible = all-map are_visible literal_text literal-visible

word-visible : (w : List ℕ) → are_visible (word_text w) ≡ true
word-visible w = all-cons is_visible 119 (join_with_byte 46 (map hexadecimal w)) refl
    (all-joined is_visible 46 (map hexadecimal w) refl (all-map are_visible hexadecimal hexadecimal-visible w))

piece-visible : (p : Piece) → are_visible (piece_text p) ≡ true
piece-visible (constant_piece serial) = all-cons is_visible 118 (decimal serial) refl (decimal-visible serial)
piece-visible (word_piece w) = word-visible w

variable-visible : (x : Variable) → are_visible (variable_text x) ≡ true
variable-visible (int_constant serial) = all-cons is_visible 105 (decimal serial) refl (decimal-visible serial)
variable-visible (length_of serial) = all-cons is_visible 108 (decimal serial) refl (decimal-visible serial)

set-visible : (rs : _) → are_visible (ranges_text rs) ≡ true
set-visible = all-ranges is_visible hexadecimal-visible refl refl

class-visible : (k : Class) → are_visible (class_text k) ≡ true
class-visible k = all-append is_visible (ranges_text k.0) (62 ∷ decimal k.1) (set-visible k.0)
    (all-cons is_visible 62 (decimal k.1) refl (decimal-visible k.1))

value-visible : (x : Value) → are_visible (value_text x) ≡ true
value-visible (Text w) = word-visible w
value-visible (Int z) = integer-visible z
value-visible (Truth true) = refl
value-visible (Truth false) = refl

summands-visible : (ss : List Summand) → list_all are_visible (flat_map summand_fields ss) ≡ true
summands-visible [] = refl
summands-visible (s ∷ ss) =
    all-cons are_visible (signed_decimal s.0) (variable_text s.1 ∷ flat_map summand_fields ss) (integer-visible s.0)
    (all-cons are_visible (variable_text s.1) (flat_map summand_fields ss) (variable-visible s.1) (summands-visible ss))

node-visible : (n : Node) → list_all are_visible (node_fields n) ≡ true
node-visible none_node = refl
node-visible eps_node = refl
node-visible (set_node rs) = all-cons are_visible (ranges_text rs) [] (set-visible rs) refl
node-visible (cat_node a b) = numbers-visible (a ∷ b ∷ [])
node-visible (alt_node ids) = numbers-visible ids
node-visible (and_node ids) = numbers-visible ids
node-visible (not_node a) = numbers-visible (a ∷ [])
node-visible (star_node a) = numbers-visible (a ∷ [])
node-visible (rep_node a n m) = numbers-visible (a ∷ n ∷ m ∷ [])
node-visible (path_node a b) = numbers-visible (a ∷ b ∷ [])

atom-visible : (a : AtomOver ℕ) → list_all are_visible (atom_fields a) ≡ true
atom-visible (bool_atom serial) = numbers-visible (serial ∷ [])
atom-visible (in_atom ps r) =
    all-append are_visible (map piece_text ps) (codes ":" ∷ decimal r ∷ [])
    (all-map are_visible piece_text piece-visible ps)
    (numbers-visible (r ∷ []))
atom-visible (le_atom x k) =
    all-cons are_visible (variable_text x) (signed_decimal k ∷ []) (variable-visible x)
    (all-cons are_visible (signed_decimal k) [] (integer-visible k) refl)
atom-visible (sum_atom k ss) =
    all-cons are_visible (signed_decimal k) (flat_map summand_fields ss) (integer-visible k) (summands-visible ss)
atom-visible (and_atom ls) = literals-visible ls
atom-visible (iff_atom l m) = literals-visible (l ∷ m ∷ [])

rule-visible : (rule : Rule) (ls : List Lit) → list_all are_visible (fields_of (rule_line rule ls)) ≡ true
rule-visible gate ls = literals-visible ls
rule-visible order ls = literals-visible ls
rule-visible linear ls = literals-visible ls
rule-visible step ls = literals-visible ls
rule-visible empty ls = literals-visible ls

said-visible : (s : Said) → list_all are_visible (said_fields s) ≡ true
said-visible (said_sat values) = all-map are_visible value_text value-visible values
said-visible (said_unsat id None) = numbers-visible (id ∷ [])
said-visible (said_unsat id (Some places)) =
    all-cons are_visible (decimal id) (codes ":" ∷ map decimal places) (decimal-visible id) (numbers-visible places)
said-visible (said_unknown limit) = numbers-visible (limit ∷ [])
said-visible said_unsupported = refl

fields-visible : (line : Line) → list_all are_visible (fields_of line) ≡ true
fields-visible (header_line format) = numbers-visible (format ∷ [])
fields-visible (regex_line n) = node-visible n
fields-visible (atom_line a) = atom-visible a
fields-visible (expansion_line r ks) =
    all-cons are_visible (decimal r) (map class_text ks) (decimal-visible r)
    (all-map are_visible class_text class-visible ks)
fields-visible (dead_line ids) = numbers-visible ids
fields-visible (assertion_line place l) =
    all-cons are_visible (decimal place) (literal_text l ∷ []) (decimal-visible place) (literals-visible (l ∷ []))
fields-visible (rule_line rule ls) = rule-visible rule ls
fields-visible (learned_line ls ids) =
    all-append are_visible (map literal_text ls) (codes ":" ∷ map decimal ids) (literals-visible ls)
    (numbers-visible ids)
fields-visible (verdict_line s) = said-visible s
fields-visible end_line = refl

-- each line has a field
begins : List Field → Bool
begins [] = false
begins (f ∷ fs) = true

fields-free : (c : ℕ) (fs : List Field) → c ≤ 32 → list_all are_visible fs ≡ true
    → list_all (is_free c) fs ≡ true
fields-free c [] low seen = refl
fields-free c (f ∷ fs) low seen =
    let parts = and_parts (are_visible f) (list_all are_visible fs) seen in
    all-cons (is_free c) f fs (visible-free c f low parts.0) (fields-free c fs low parts.1)

fields-split : (fs : List Field) → begins fs ≡ true → list_all are_visible fs ≡ true
    → split_at 32 (join_with_byte 32 fs) ≡ fs
unfolding begins
fields-split [] there seen = absurd (false≢true there)
fields-split (f ∷ fs) there seen = split-joined 32 f fs (fields-free 32 (f ∷ fs) (omega arith) seen)

begins-line : (line : Line) → begins (fields_of line) ≡ true
unfolding begins
begins-line (header_line format) = refl
begins-line (regex_line n) = refl
begins-line (atom_line a) = refl
begins-line (expansion_line r ks) = refl
begins-line (dead_line ids) = refl
begins-line (assertion_line place l) = refl
begins-line (rule_line rule ls) = refl
begins-line (learned_line ls ids) = refl
begins-line (verdict_line s) = refl
begins-line end_line = refl

pub text_is_read : TextIsRead
text_is_read line small = ap line_of_fields (fields-split (fields_of line) (begins-line line) (fields-visible line))
    ∙ fields-read line small

pub text_is_one_line : TextIsOneLine
text_is_one_line line =
    all-joined (is_other 10) 32 (fields_of line) refl
    (fields-free 10 (fields_of line) (omega arith) (fields-visible line))
