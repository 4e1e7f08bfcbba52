-- A line that is read from a text has this text.
use Rattle.std.proofs.Common.{◌≡◌, ℕ, zero, suc, ◌^◌, ℤ, pos, negsuc, Bool, true, false, cond, ◌&&◌, ◌==◌, nat_eq, nat_lt, List, [], ◌∷◌, ◌++◌, map, codes, decimal, Option, Some, None, is_some, option_map, option_and_then, ok_or, Result, Ok, Err, refl, sym, ap, ap₂, ◌∙◌}
use Rattle.std.specs.List.{join_with_byte, flat_map}
use Rattle.std.specs.Fmt.{signed_decimal}
use Rattle.std.specs.Result.{result_ok, result_unwrap_or}
use Rattle.std.proofs.lemmas.Bool.{and_parts, eqb-true, false≢true}
use Rattle.std.proofs.lemmas.Option.{option_and_then_some as after_then, same_Some}
use Rattle.std.proofs.lemmas.List.Splits.{join_with_byte-slice_split}
use Rattle.sb_lit.specs.declared.clause.Lit.{Lit}
use Rattle.sb_word.specs.Literals.{hex_number_from}
use Rattle.sb_meaning.specs.Values.{Value, Text, Int, Truth}
use Rattle.sb_rulebook.specs.Refusals.{Refusal, bad_word, bad_number}
use Rattle.sb_rulebook.specs.Atoms.{AtomOver, bool_atom, in_atom, le_atom, sum_atom, and_atom, iff_atom}
use Rattle.sb_rulebook.specs.Brought.{newest_format, has_rests}
use Rattle.sb_rulebook.specs.Lines.{Field, Line, header_line, regex_line, atom_line, expansion_line, dead_line, assertion_line, rule_line, learned_line, verdict_line, end_line, none_node, eps_node, set_node, cat_node, alt_node, and_node, not_node, star_node, rep_node, path_node, gate, order, linear, step, empty, said_sat, said_unsat, said_unknown, said_unsupported, hexadecimal, range_text, ranges_text, literal_text, piece_text, variable_text, summand_fields, class_text, value_text, node_fields, atom_fields, said_fields, fields_of}
use Rattle.sb_rulebook.specs.Reading.{is_text, split_at, each, decimal_from, if_spelled, number, hexadecimal_number, negative, integer, literal, characters, piece, variable, value, both, range, ranges, class, summands, Reader, bare, one, two, three, any_number, some, is_colon, around_colon, before_last_colon, membership_of, membership, learned_of, learned, refutation_of, refutation, has_pairs, sum_of, sum, Table, by_table, nodes, atoms, clauses, verdicts, made, by_word, lines, line_of_fields}
use Rattle.sb_rulebook.specs.LineLaws.{LineHasOneText, TextHasOneLine}
use Rattle.sb_rulebook.specs.Follows.{RefusedLineLeavesKept}
use Rattle.sb_script.specs.Pieces.{constant_piece, word_piece}
use Rattle.sb_script.specs.Sums.{int_constant, length_of, Summand}

-- What is known where an option or a result has a value.

no_some : {A P : Type 0} (x : A) → None ≡ Some x → P
no_some x h = absurd (false≢true (ap is_some h))

after_map : {A B P : Type 0} (f : A → B) (o : Option A) (y : B) → option_map f o ≡ Some y
    → ((x : A) → o ≡ Some x → f x ≡ y → P) → P
after_map f None y h k = no_some y h
after_map f (Some x) y h k = k x refl (same_Some (f x) y h)

after_or : {A : Type 0} (o : Option A) (refusal : Refusal) (v : A) → ok_or o refusal ≡ Ok v → o ≡ Some v
after_or {A} o refusal v h = same o ∙ ap result_ok h
  where
    same : (p : Option A) → p ≡ result_ok (ok_or p refusal)
    same None = refl
    same (Some x) = refl

no_ok : {A P : Type 0} (refusal : Refusal) (v : A) → ◌≡◌ {A = Result A Refusal} (Err refusal) (Ok v) → P
no_ok refusal v h = no_some v (ap result_ok h)

ok_same : {A : Type 0} (x v : A) → ◌≡◌ {A = Result A Refusal} (Ok x) (Ok v) → x ≡ v
ok_same x v h = ap (λ r. result_unwrap_or r x) h

-- Fields.

text_same : (a b : Field) → is_text a b ≡ true → a ≡ b
text_same [] [] h = refl
text_same [] (c ∷ b) h = absurd (false≢true h)
text_same (c ∷ a) [] h = absurd (false≢true h)
text_same (c ∷ a) (d ∷ b) h = let parts = and_parts (nat_eq c d) (is_text a b) h in
    ap₂ (λ x xs. x ∷ xs) (eqb-true c d parts.0) (text_same a b parts.1)

-- what a field says has the field as its text
Spells : {A : Type 0} → (Field → Option A) → (A → Field) → Type 0
Spells {A} shape spell = (f : Field) (x : A) → shape f ≡ Some x → spell x ≡ f

spelled : (spell : ℕ → Field) (f : Field) (n m : ℕ) → if_spelled spell f n ≡ Some m → spell m ≡ f
spelled spell f n m = step (nat_lt n (2 ^ 64) && is_text (spell n) f) refl
  where
    step : (b : Bool) → (nat_lt n (2 ^ 64) && is_text (spell n) f) ≡ b → cond b (Some n) None ≡ Some m → spell m ≡ f
    step true held h = ap spell (sym (same_Some n m h))
        ∙ text_same (spell n) f (and_parts (nat_lt n (2 ^ 64)) (is_text (spell n) f) held).1
    step false held h = no_some m h

number_spells : Spells number decimal
unfolding Spells
number_spells f m h = after_then (if_spelled decimal f) (decimal_from 0 f) m h (λ n is same. spelled decimal f n m same)

hexadecimal_spells : Spells hexadecimal_number hexadecimal
unfolding Spells
hexadecimal_spells f m h =
    after_then (if_spelled hexadecimal f) (hex_number_from 0 f) m h (λ n is same. spelled hexadecimal f n m same)

after_test : {A P : Type 0} (b : Bool) (o p : Option A) (x : A) → cond b o p ≡ Some x → (b ≡ true → o ≡ Some x → P)
    → (p ≡ Some x → P) → P
after_test true o p x h k l = k refl h
after_test false o p x h k l = l h

negative_spells : (n : ℕ) (z : ℤ) → negative n ≡ Some z → signed_decimal z ≡ 45 ∷ decimal n
negative_spells zero z h = no_some z h
negative_spells (suc n) z h = ap signed_decimal (sym (same_Some (negsuc n) z h))

integer_spells : Spells integer signed_decimal
unfolding Spells
integer_spells [] z h = no_some z h
integer_spells (b ∷ bs) z h =
    after_test (b == 45) (option_and_then negative (number bs)) (option_map pos (number (b ∷ bs))) z h
    (λ is below. after_then negative (number bs) z below (λ n read signed.
    negative_spells n z signed ∙ ap₂ (λ x xs. x ∷ xs) (sym (eqb-true b 45 is)) (number_spells bs n read)))
    (λ above. after_map pos (number (b ∷ bs)) z above (λ n read same. ap signed_decimal (sym same)
    ∙ number_spells (b ∷ bs) n read))

-- a letter, and what it is followed by
after_letter : {A P : Type 0} (b letter : ℕ) (o p : Option A) (x : A) → cond (b == letter) o p ≡ Some x
    → (b ≡ letter → o ≡ Some x → P) → (p ≡ Some x → P) → P
after_letter b letter o p x h k l = after_test (b == letter) o p x h (λ is. k (eqb-true b letter is)) l

lettered : (b letter : ℕ) (bs cs : Field) → b ≡ letter → cs ≡ bs → (letter ∷ cs) ≡ (b ∷ bs)
lettered b letter bs cs is same = ap₂ (λ x xs. x ∷ xs) (sym is) same

literal_spells : Spells literal literal_text
unfolding Spells
literal_spells [] l h = no_some l h
literal_spells (b ∷ bs) l h =
    after_letter b 43 (option_map plain (number bs)) (cond (b == 45) (option_map negated (number bs)) None) l h
    (λ is above. after_map plain (number bs) l above (λ n read same. ap literal_text (sym same)
    ∙ lettered b 43 bs (decimal n) is (number_spells bs n read)))
    (λ rest. after_letter b 45 (option_map negated (number bs)) None l rest
    (λ is below. after_map negated (number bs) l below (λ n read same. ap literal_text (sym same)
    ∙ lettered b 45 bs (decimal n) is (number_spells bs n read)))
    (λ none. no_some l none))
  where
    plain : ℕ → Lit
    plain n = record { atom = n; positive = true }

    negated : ℕ → Lit
    negated n = record { atom = n; positive = false }

variable_spells : Spells variable variable_text
unfolding Spells
variable_spells [] x h = no_some x h
variable_spells (b ∷ bs) x h =
    after_letter b 105 (option_map int_constant (number bs)) (cond (b == 108) (option_map length_of (number bs)) None) x
    h
    (λ is first. after_map int_constant (number bs) x first (λ n read same. ap variable_text (sym same)
    ∙ lettered b 105 bs (decimal n) is (number_spells bs n read)))
    (λ rest. after_letter b 108 (option_map length_of (number bs)) None x rest
    (λ is second. after_map length_of (number bs) x second (λ n read same. ap variable_text (sym same)
    ∙ lettered b 108 bs (decimal n) is (number_spells bs n read)))
    (λ none. no_some x none))

-- Several fields, and fields of several parts.

each_spells : {A : Type 0} (shape : Field → Option A) (spell : A → Field) → Spells shape spell
    → (fs : List Field) (xs : List A) → each shape fs ≡ Some xs → map spell xs ≡ fs
unfolding Spells
each_spells shape spell law [] xs h = ap (map spell) (sym (same_Some [] xs h))
each_spells shape spell law (f ∷ fs) xs h =
    after_then (λ x. option_map (λ ys. x ∷ ys) (each shape fs)) (shape f) xs h (λ x read others.
    after_map (λ ys. x ∷ ys) (each shape fs) xs others (λ ys read_others same.
    ap (map spell) (sym same) ∙ ap₂ (λ u us. u ∷ us) (law f x read) (each_spells shape spell law fs ys read_others)))

both_spells : {A B : Type 0} (first : Field → Option A) (second : Field → Option B) (s : A → Field) (t : B → Field)
    → Spells first s → Spells second t →
    (fs : List Field) (p : A × B) → both first second fs ≡ Some p → (s p.0 ∷ t p.1 ∷ []) ≡ fs
unfolding Spells
both_spells first second s t law other [] p h = no_some p h
both_spells first second s t law other (a ∷ []) p h = no_some p h
both_spells first second s t law other (a ∷ b ∷ c ∷ fs) p h = no_some p h
both_spells first second s t law other (a ∷ b ∷ []) p h =
    after_then (λ x. option_map (λ y. (x, y)) (second b)) (first a) p h (λ x read rest.
    after_map (λ y. (x, y)) (second b) p rest (λ y read_other same.
    ap (λ q. s q.0 ∷ t q.1 ∷ []) (sym same) ∙ ap₂ (λ u v. u ∷ v ∷ []) (law a x read) (other b y read_other)))

-- two parts around a separator
around_spells : {A B : Type 0} (separator : ℕ) (first : Field → Option A) (second : Field → Option B) (s : A → Field)
    (t : B → Field) → Spells first s → Spells second t →
    (f : Field) (p : A × B) → both first second (split_at separator f) ≡ Some p → (s p.0 ++ separator ∷ t p.1) ≡ f
around_spells separator first second s t law other f p h =
    ap (join_with_byte separator) (both_spells first second s t law other (split_at separator f) p h)
    ∙ join_with_byte-slice_split separator f

range_spells : Spells range range_text
unfolding Spells
range_spells f r h = around_spells 45 hexadecimal_number hexadecimal_number hexadecimal hexadecimal hexadecimal_spells
    hexadecimal_spells f r h

ranges_spells : Spells ranges ranges_text
unfolding Spells
ranges_spells f rs h = ap (join_with_byte 44) (each_spells range range_text range_spells (split_at 44 f) rs h)
    ∙ join_with_byte-slice_split 44 f

class_spells : Spells class class_text
unfolding Spells
class_spells f k h = around_spells 62 ranges number ranges_text decimal ranges_spells number_spells f k h

characters_spells : (bs : Field) (w : List ℕ) → characters bs ≡ Some w → join_with_byte 46 (map hexadecimal w) ≡ bs
characters_spells [] w h = ap (λ v. join_with_byte 46 (map hexadecimal v)) (sym (same_Some [] w h))
characters_spells (b ∷ bs) w h =
    ap (join_with_byte 46) (each_spells hexadecimal_number hexadecimal hexadecimal_spells (split_at 46 (b ∷ bs)) w h)
    ∙ join_with_byte-slice_split 46 (b ∷ bs)

piece_spells : Spells piece piece_text
unfolding Spells
piece_spells [] p h = no_some p h
piece_spells (b ∷ bs) p h =
    after_letter b 118 (option_map constant_piece (number bs))
    (cond (b == 119) (option_map word_piece (characters bs)) None) p h
    (λ is first. after_map constant_piece (number bs) p first (λ n read same. ap piece_text (sym same)
    ∙ lettered b 118 bs (decimal n) is (number_spells bs n read)))
    (λ rest. after_letter b 119 (option_map word_piece (characters bs)) None p rest
    (λ is second. after_map word_piece (characters bs) p second (λ w read same. ap piece_text (sym same)
    ∙ lettered b 119 bs (join_with_byte 46 (map hexadecimal w)) is (characters_spells bs w read)))
    (λ none. no_some p none))

value_spells : Spells value value_text
unfolding Spells
value_spells [] x h = no_some x h
value_spells (b ∷ bs) x h =
    after_test (is_text (b ∷ bs) (codes "t")) (Some (Truth true)) not_true x h
    (λ is same. ap value_text (sym (same_Some (Truth true) x same)) ∙ sym (text_same (b ∷ bs) (codes "t") is))
    (λ rest. after_test (is_text (b ∷ bs) (codes "f")) (Some (Truth false)) no_truth x rest
    (λ is same. ap value_text (sym (same_Some (Truth false) x same)) ∙ sym (text_same (b ∷ bs) (codes "f") is))
    (λ others. after_letter b 119 (option_map Text (characters bs)) (option_map Int (integer (b ∷ bs))) x others
    (λ is word. after_map Text (characters bs) x word (λ w read same. ap value_text (sym same)
    ∙ lettered b 119 bs (join_with_byte 46 (map hexadecimal w)) is (characters_spells bs w read)))
    (λ number. after_map Int (integer (b ∷ bs)) x number (λ z read same. ap value_text (sym same)
    ∙ integer_spells (b ∷ bs) z read))))
  where
    no_truth : Option Value
    no_truth = cond (b == 119) (option_map Text (characters bs)) (option_map Int (integer (b ∷ bs)))

    not_true : Option Value
    not_true = cond (is_text (b ∷ bs) (codes "f")) (Some (Truth false)) no_truth

summands_spells : (fs : List Field) (ss : List Summand) → summands fs ≡ Some ss → flat_map summand_fields ss ≡ fs
summands_spells [] ss h = ap (flat_map summand_fields) (sym (same_Some [] ss h))
summands_spells (c ∷ []) ss h = no_some ss h
summands_spells (c ∷ x ∷ fs) ss h =
    after_then (λ s. option_map (λ others. s ∷ others) (summands fs)) (both integer variable (c ∷ x ∷ [])) ss h
    (λ s read rest.
    after_map (λ others. s ∷ others) (summands fs) ss rest (λ others read_others same.
    ap (flat_map summand_fields) (sym same)
    ∙ ap₂ (λ us vs. us ++ vs)
    (both_spells integer variable signed_decimal variable_text integer_spells variable_spells (c ∷ x ∷ []) s read)
    (summands_spells fs others read_others)))

-- What follows a word.

-- What is read behind the word is shown by fields, of which the word and what is behind it are the last ones.
Fits : {A : Type 0} → (A → List Field) → (List Field → List Field) → Field × Reader A → Type 0
Fits {A} shown front row = (fs : List Field) (v : A) → row.1 fs ≡ Ok v → shown v ≡ front (row.0 ∷ fs)

bare_fits : {A : Type 0} (shown : A → List Field) (front : List Field → List Field) (w : Field) (x : A)
    → shown x ≡ front (w ∷ []) → Fits shown front (w, bare x)
unfolding Fits
bare_fits shown front w x shows [] v h = ap shown (sym (ok_same x v h)) ∙ shows
bare_fits shown front w x shows (f ∷ fs) v h = no_ok bad_word v h

one_fits : {A B : Type 0} (shown : B → List Field) (front : List Field → List Field) (w : Field) (shape : Field
    → Option A) (spell : A → Field) (make : A → B) →
    Spells shape spell → ((x : A) → shown (make x) ≡ front (w ∷ spell x ∷ [])) → Fits shown front (w, one shape make)
unfolding Fits Spells
one_fits shown front w shape spell make law shows [] v h = no_ok bad_word v h
one_fits shown front w shape spell make law shows (f ∷ []) v h =
    after_map make (shape f) v (after_or (option_map make (shape f)) bad_number v h) (λ x read same.
    ap shown (sym same) ∙ shows x ∙ ap (λ t. front (w ∷ t ∷ [])) (law f x read))
one_fits shown front w shape spell make law shows (f ∷ g ∷ fs) v h = no_ok bad_word v h

two_fits : {A B C : Type 0} (shown : C → List Field) (front : List Field → List Field) (w : Field) (first : Field
    → Option A) (second : Field → Option B) (s : A → Field) (t : B → Field) (make : A → B → C) →
    Spells first s → Spells second t → ((x : A) (y : B) → shown (make x y) ≡ front (w ∷ s x ∷ t y ∷ []))
    → Fits shown front (w, two first second make)
unfolding Fits
two_fits shown front w first second s t make law other shows [] v h = no_ok bad_word v h
two_fits shown front w first second s t make law other shows (f ∷ []) v h = no_ok bad_word v h
two_fits shown front w first second s t make law other shows (f ∷ g ∷ []) v h =
    after_map (λ p. make p.0 p.1) (both first second (f ∷ g ∷ [])) v
    (after_or (option_map (λ p. make p.0 p.1) (both first second (f ∷ g ∷ []))) bad_number v h) (λ p read same.
    ap shown (sym same) ∙ shows p.0 p.1
    ∙ ap (λ us. front (w ∷ us)) (both_spells first second s t law other (f ∷ g ∷ []) p read))
two_fits shown front w first second s t make law other shows (f ∷ g ∷ k ∷ fs) v h = no_ok bad_word v h

three_fits : {A B : Type 0} (shown : B → List Field) (front : List Field → List Field) (w : Field) (shape : Field
    → Option A) (spell : A → Field) (make : A → A → A → B) →
    Spells shape spell → ((x y z : A) → shown (make x y z) ≡ front (w ∷ spell x ∷ spell y ∷ spell z ∷ []))
    → Fits shown front (w, three shape make)
unfolding Fits Spells
three_fits shown front w shape spell make law shows [] v h = no_ok bad_word v h
three_fits shown front w shape spell make law shows (f ∷ []) v h = no_ok bad_word v h
three_fits shown front w shape spell make law shows (f ∷ g ∷ []) v h = no_ok bad_word v h
three_fits shown front w shape spell make law shows (f ∷ g ∷ k ∷ []) v h =
    after_then (λ x. option_map (λ p. make x p.0 p.1) (both shape shape (g ∷ k ∷ []))) (shape f) v
    (after_or (option_and_then (λ x. option_map (λ p. make x p.0 p.1) (both shape shape (g ∷ k ∷ []))) (shape f))
    bad_number v h) (λ x read rest.
    after_map (λ p. make x p.0 p.1) (both shape shape (g ∷ k ∷ [])) v rest (λ p read_others same.
    ap shown (sym same) ∙ shows x p.0 p.1
    ∙ ap₂ (λ u us. front (w ∷ u ∷ us)) (law f x read)
    (both_spells shape shape spell spell law law (g ∷ k ∷ []) p read_others)))
three_fits shown front w shape spell make law shows (f ∷ g ∷ k ∷ l ∷ fs) v h = no_ok bad_word v h

any_fits : {A B : Type 0} (shown : B → List Field) (front : List Field → List Field) (w : Field) (shape : Field
    → Option A) (spell : A → Field) (make : List A → B) →
    Spells shape spell → ((xs : List A) → shown (make xs) ≡ front (w ∷ map spell xs))
    → Fits shown front (w, any_number shape make)
unfolding Fits
any_fits shown front w shape spell make law shows fs v h =
    after_map make (each shape fs) v (after_or (option_map make (each shape fs)) bad_number v h) (λ xs read same.
    ap shown (sym same) ∙ shows xs ∙ ap (λ us. front (w ∷ us)) (each_spells shape spell law fs xs read))

some_fits : {A B C : Type 0} (shown : C → List Field) (front : List Field → List Field) (w : Field) (first : Field
    → Option A) (shape : Field → Option B) (s : A → Field) (spell : B → Field) (make : A → List B → C) →
    Spells first s → Spells shape spell → ((x : A) (xs : List B) → shown (make x xs) ≡ front (w ∷ s x ∷ map spell xs))
    → Fits shown front (w, some first shape make)
unfolding Fits Spells
some_fits shown front w first shape s spell make law other shows [] v h = no_ok bad_word v h
some_fits shown front w first shape s spell make law other shows (f ∷ fs) v h =
    after_then (λ x. option_map (make x) (each shape fs)) (first f) v
    (after_or (option_and_then (λ x. option_map (make x) (each shape fs)) (first f)) bad_number v h) (λ x read rest.
    after_map (make x) (each shape fs) v rest (λ xs read_others same.
    ap shown (sym same) ∙ shows x xs
    ∙ ap₂ (λ u us. front (w ∷ u ∷ us)) (law f x read) (each_spells shape spell other fs xs read_others)))

-- Around colons.

around : (fs : List Field) (p : List Field × List Field) → around_colon fs ≡ Some p → (p.0 ++ codes ":" ∷ p.1) ≡ fs
around [] p h = no_some p h
around (f ∷ fs) p h =
    after_test (is_colon f) (Some ([], fs)) (option_map (λ q. (f ∷ q.0, q.1)) (around_colon fs)) p h
    (λ is same. ap (λ q. q.0 ++ codes ":" ∷ q.1) (sym (same_Some ([], fs) p same))
    ∙ ap (λ c. c ∷ fs) (sym (text_same f (codes ":") is)))
    (λ rest. after_map (λ q. (f ∷ q.0, q.1)) (around_colon fs) p rest (λ q read same.
    ap (λ t. t.0 ++ codes ":" ∷ t.1) (sym same) ∙ ap (λ us. f ∷ us) (around fs q read)))

before_last : (fs : List Field) (p : List Field × Field) → before_last_colon fs ≡ Some p
    → (p.0 ++ codes ":" ∷ p.1 ∷ []) ≡ fs
before_last [] p h = no_some p h
before_last (f ∷ []) p h = no_some p h
before_last (f ∷ g ∷ []) p h =
    after_test (is_colon f) (Some ([], g)) None p h
    (λ is same. ap (λ q. q.0 ++ codes ":" ∷ q.1 ∷ []) (sym (same_Some ([], g) p same))
    ∙ ap (λ c. c ∷ g ∷ []) (sym (text_same f (codes ":") is)))
    (λ none. no_some p none)
before_last (f ∷ g ∷ k ∷ fs) p h =
    after_map (λ q. (f ∷ q.0, q.1)) (before_last_colon (g ∷ k ∷ fs)) p h (λ q read same.
    ap (λ t. t.0 ++ codes ":" ∷ t.1 ∷ []) (sym same) ∙ ap (λ us. f ∷ us) (before_last (g ∷ k ∷ fs) q read))

membership_fits : Fits atom_fields (λ us. us) (codes "in", membership)
unfolding Fits Spells
membership_fits fs v h = step (before_last_colon fs) refl h
  where
    step : (o : Option (List Field × Field)) → before_last_colon fs ≡ o
        → elim o as (λ _. Result (AtomOver ℕ) Refusal)
        [ None ↦ Err bad_word | Some p ↦ ok_or (membership_of p) bad_number ] ≡ Ok v → atom_fields v ≡ codes "in" ∷ fs
    step None is same = no_ok bad_word v same
    step (Some p) is same =
        after_then (λ ps. option_map (in_atom ps) (number p.1)) (each piece p.0) v
        (after_or (membership_of p) bad_number v same) (λ ps read rest.
        after_map (in_atom ps) (number p.1) v rest (λ r read_regex made_so.
        ap atom_fields (sym made_so)
        ∙ ap₂ (λ us u. codes "in" ∷ (us ++ codes ":" ∷ u ∷ [])) (each_spells piece piece_text piece_spells p.0 ps read)
        (number_spells p.1 r read_regex)
        ∙ ap (λ us. codes "in" ∷ us) (before_last fs p is)))

learned_fits : Fits fields_of (λ us. codes "c" ∷ us) (codes "learn", learned)
unfolding Fits
learned_fits fs v h = step (around_colon fs) refl h
  where
    step : (o : Option (List Field × List Field)) → around_colon fs ≡ o
        → elim o as (λ _. Result Line Refusal) [ None ↦ Err bad_word | Some p ↦ ok_or (learned_of p) bad_number ] ≡ Ok v
        → fields_of v ≡ codes "c" ∷ codes "learn" ∷ fs
    step None is same = no_ok bad_word v same
    step (Some p) is same =
        after_then (λ ls. option_map (learned_line ls) (each number p.1)) (each literal p.0) v
        (after_or (learned_of p) bad_number v same) (λ ls read rest.
        after_map (learned_line ls) (each number p.1) v rest (λ ids read_hints made_so.
        ap fields_of (sym made_so)
        ∙ ap₂ (λ us vs. codes "c" ∷ codes "learn" ∷ (us ++ codes ":" ∷ vs))
        (each_spells literal literal_text literal_spells p.0 ls read)
        (each_spells number decimal number_spells p.1 ids read_hints)
        ∙ ap (λ us. codes "c" ∷ codes "learn" ∷ us) (around fs p is)))

refutation_fits : Fits said_fields (λ us. us) (codes "unsat", refutation)
unfolding Fits Spells
refutation_fits [] v h = no_ok bad_word v h
refutation_fits (c ∷ []) v h =
    after_map (λ id. said_unsat id None) (number c) v
    (after_or (option_map (λ id. said_unsat id None) (number c)) bad_number v h) (λ id read same.
    ap said_fields (sym same) ∙ ap (λ u. codes "unsat" ∷ u ∷ []) (number_spells c id read))
refutation_fits (c ∷ f ∷ fs) v h = step (has_rests newest_format && is_colon f) refl h
  where
    step : (b : Bool) → (has_rests newest_format && is_colon f) ≡ b
        → cond b (ok_or (refutation_of c fs) bad_number) (Err bad_word) ≡ Ok v
        → said_fields v ≡ codes "unsat" ∷ c ∷ f ∷ fs
    step false is same = no_ok bad_word v same
    step true is same =
        after_then (λ id. option_map (λ places. said_unsat id (Some places)) (each number fs)) (number c) v
        (after_or (refutation_of c fs) bad_number v same) (λ id read rest.
        after_map (λ places. said_unsat id (Some places)) (each number fs) v rest (λ places read_others made_so.
        ap said_fields (sym made_so)
        ∙ ap₂ (λ u us. codes "unsat" ∷ u ∷ codes ":" ∷ us) (number_spells c id read)
        (each_spells number decimal number_spells fs places read_others)
        ∙ ap (λ u. codes "unsat" ∷ c ∷ u ∷ fs)
        (sym (text_same f (codes ":") (and_parts (has_rests newest_format) (is_colon f) is).1))))

sum_fits : Fits atom_fields (λ us. us) (codes "sum", sum)
unfolding Fits Spells
sum_fits [] v h = no_ok bad_word v h
sum_fits (k ∷ fs) v h = step (has_pairs fs) h
  where
    step : (b : Bool) → cond b (ok_or (sum_of k fs) bad_number) (Err bad_word) ≡ Ok v
        → atom_fields v ≡ codes "sum" ∷ k ∷ fs
    step false same = no_ok bad_word v same
    step true same =
        after_then (λ n. option_map (sum_atom n) (summands fs)) (integer k) v (after_or (sum_of k fs) bad_number v same)
        (λ n read rest.
        after_map (sum_atom n) (summands fs) v rest (λ ss read_others made_so.
        ap atom_fields (sym made_so)
        ∙ ap₂ (λ u us. codes "sum" ∷ u ∷ us) (integer_spells k n read) (summands_spells fs ss read_others)))

-- Tables.

AllFit : {A : Type 0} → (A → List Field) → (List Field → List Field) → Table A → Type 0
AllFit shown front [] = Unit {0}
AllFit shown front (row ∷ rows) = Fits shown front row × AllFit shown front rows

table_fits : {A : Type 0} (shown : A → List Field) (front : List Field → List Field) (rows : Table A)
    → AllFit shown front rows →
    (w : Field) (fs : List Field) (v : A) → by_table rows w fs ≡ Ok v → shown v ≡ front (w ∷ fs)
unfolding AllFit Fits
table_fits shown front [] all w fs v h = no_ok bad_word v h
table_fits {A} shown front (row ∷ rows) all w fs v h =
    step (is_text w row.0) refl h (table_fits shown front rows all.1 w fs v)
  where
    step : (b : Bool) → is_text w row.0 ≡ b → cond b (row.1 fs) (by_table rows w fs) ≡ Ok v
        → (by_table rows w fs ≡ Ok v → shown v ≡ front (w ∷ fs)) → shown v ≡ front (w ∷ fs)
    step true is same rest = all.0 fs v same ∙ ap (λ u. front (u ∷ fs)) (sym (text_same w row.0 is))
    step false is same rest = rest same

word_fits : {A B : Type 0} (shown : B → List Field) (front : List Field → List Field) (w : Field) (inner : A
    → List Field) (behind : List Field → List Field) (rows : Table A) (make : A → B) →
    AllFit inner behind rows → ((x : A) (us : List Field) → inner x ≡ behind us → shown (make x) ≡ front (w ∷ us))
    → Fits shown front (w, by_word rows make)
unfolding Fits
word_fits shown front w inner behind rows make all shows [] v h = no_ok bad_word v h
word_fits {A} {B} shown front w inner behind rows make all shows (u ∷ fs) v h = step (by_table rows u fs) refl h
  where
    step : (r : Result A Refusal) → by_table rows u fs ≡ r → made make r ≡ Ok v → shown v ≡ front (w ∷ u ∷ fs)
    step (Ok x) is same = ap shown (sym (ok_same (make x) v same))
        ∙ shows x (u ∷ fs) (table_fits inner behind rows all u fs x is)
    step (Err refusal) is same = no_ok refusal v same

nodes_fit : AllFit node_fields (λ us. us) nodes
unfolding AllFit
nodes_fit = (
  bare_fits node_fields (λ us. us) (codes "none") none_node refl,
  (
    bare_fits node_fields (λ us. us) (codes "eps") eps_node refl,
    (
      one_fits node_fields (λ us. us) (codes "set") ranges ranges_text set_node ranges_spells (λ x. refl),
      (
        two_fits node_fields (λ us. us) (codes "cat") number number decimal decimal cat_node number_spells number_spells
            (λ x y. refl),
        (
          some_fits node_fields (λ us. us) (codes "alt") number number decimal decimal (λ id ids. alt_node (id ∷ ids))
              number_spells number_spells (λ x xs. refl),
          (
            some_fits node_fields (λ us. us) (codes "and") number number decimal decimal (λ id ids. and_node (id ∷ ids))
                number_spells number_spells (λ x xs. refl),
            (
              one_fits node_fields (λ us. us) (codes "not") number decimal not_node number_spells (λ x. refl),
              (
                one_fits node_fields (λ us. us) (codes "star") number decimal star_node number_spells (λ x. refl),
                (
                  three_fits node_fields (λ us. us) (codes "rep") number decimal rep_node number_spells (λ x y z. refl),
                  (
                    two_fits node_fields (λ us. us) (codes "path") number number decimal decimal path_node number_spells
                        number_spells (λ x y. refl),
                    tt,
                  ),
                ),
              ),
            ),
          ),
        ),
      ),
    ),
  ),
)

atoms_fit : AllFit atom_fields (λ us. us) atoms
unfolding AllFit
atoms_fit = (
  one_fits atom_fields (λ us. us) (codes "bool") number decimal bool_atom number_spells (λ x. refl),
  (
    membership_fits,
    (
      two_fits atom_fields (λ us. us) (codes "le") variable integer variable_text signed_decimal le_atom variable_spells
          integer_spells (λ x y. refl),
      (
        sum_fits,
        (
          any_fits atom_fields (λ us. us) (codes "and") literal literal_text and_atom literal_spells (λ xs. refl),
          (
            two_fits atom_fields (λ us. us) (codes "iff") literal literal literal_text literal_text iff_atom
                literal_spells literal_spells (λ x y. refl),
            tt,
          ),
        ),
      ),
    ),
  ),
)

clauses_fit : AllFit fields_of (λ us. codes "c" ∷ us) clauses
unfolding AllFit
clauses_fit = (
  two_fits fields_of (λ us. codes "c" ∷ us) (codes "assert") number literal decimal literal_text assertion_line
      number_spells literal_spells (λ x y. refl),
  (
    any_fits fields_of (λ us. codes "c" ∷ us) (codes "gate") literal literal_text (rule_line gate) literal_spells
        (λ xs. refl),
    (
      any_fits fields_of (λ us. codes "c" ∷ us) (codes "order") literal literal_text (rule_line order) literal_spells
          (λ xs. refl),
      (
        any_fits fields_of (λ us. codes "c" ∷ us) (codes "linear") literal literal_text (rule_line linear)
            literal_spells (λ xs. refl),
        (
          any_fits fields_of (λ us. codes "c" ∷ us) (codes "step") literal literal_text (rule_line step) literal_spells
              (λ xs. refl),
          (
            any_fits fields_of (λ us. codes "c" ∷ us) (codes "empty") literal literal_text (rule_line empty)
                literal_spells (λ xs. refl),
            (learned_fits, tt),
          ),
        ),
      ),
    ),
  ),
)

verdicts_fit : AllFit said_fields (λ us. us) verdicts
unfolding AllFit
verdicts_fit = (
  any_fits said_fields (λ us. us) (codes "sat") value value_text said_sat value_spells (λ xs. refl),
  (
    refutation_fits,
    (
      one_fits said_fields (λ us. us) (codes "unknown") number decimal said_unknown number_spells (λ x. refl),
      (bare_fits said_fields (λ us. us) (codes "unsupported") said_unsupported refl, tt),
    ),
  ),
)

lines_fit : AllFit fields_of (λ us. us) lines
unfolding AllFit
lines_fit = (
  one_fits fields_of (λ us. us) (codes "strproof") number decimal header_line number_spells (λ x. refl),
  (
    word_fits fields_of (λ us. us) (codes "r") node_fields (λ us. us) nodes regex_line nodes_fit
        (λ x us same. ap (λ vs. codes "r" ∷ vs) same),
    (
      word_fits fields_of (λ us. us) (codes "a") atom_fields (λ us. us) atoms atom_line atoms_fit
          (λ x us same. ap (λ vs. codes "a" ∷ vs) same),
      (
        some_fits fields_of (λ us. us) (codes "x") number class decimal class_text expansion_line number_spells
            class_spells (λ x xs. refl),
        (
          any_fits fields_of (λ us. us) (codes "d") number decimal dead_line number_spells (λ xs. refl),
          (
            word_fits fields_of (λ us. us) (codes "c") fields_of (λ us. codes "c" ∷ us) clauses (λ line. line)
                clauses_fit (λ x us same. same),
            (
              word_fits fields_of (λ us. us) (codes "v") said_fields (λ us. us) verdicts verdict_line verdicts_fit
                  (λ x us same. ap (λ vs. codes "v" ∷ vs) same),
              (bare_fits fields_of (λ us. us) (codes "end") end_line refl, tt),
            ),
          ),
        ),
      ),
    ),
  ),
)

fields_fit : (fs : List Field) (line : Line) → line_of_fields fs ≡ Ok line → fields_of line ≡ fs
fields_fit [] line h = no_ok bad_word line h
fields_fit (w ∷ fs) line h = table_fits fields_of (λ us. us) lines lines_fit w fs line h

pub line_has_text : LineHasOneText
line_has_text bytes line h = ap (join_with_byte 32) (fields_fit (split_at 32 bytes) line h)
    ∙ join_with_byte-slice_split 32 bytes

pub text_has_one_line : TextHasOneLine
text_has_one_line bytes a b first second = ok_same a b (sym first ∙ second)

pub refused_line_leaves_kept : RefusedLineLeavesKept
refused_line_leaves_kept asked kept line refusal h = ap (λ r. result_unwrap_or r kept) h
