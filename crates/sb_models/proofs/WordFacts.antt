-- Words and truth values that are put in the place of others.
use Rattle.std.proofs.Common.{◌≡◌, ◌==◌, ℕ, zero, suc, ◌+◌, ◌<◌, ◌≤◌, Bool, true, false, ◌||◌, if◌then◌else◌, List, [], ◌∷◌, ◌++◌, length, take, drop, set, get_or, length-append, refl, sym, ap, ap₂, ◌∙◌, arith, Some, slice_get, unwrap_or, map}
use Rattle.std.proofs.lemmas.Bool.{eqb-true, false≢true}
use Rattle.std.proofs.lemmas.Bool.Decides.{nat_tests}
use Rattle.std.proofs.lemmas.Option.{get_or_from_slice_get, slice_get_within}
use Rattle.std.proofs.lemmas.List.{take_more, drop_more, length-take-le, length-map}
use Rattle.sb_stack.specs.declared.constant.LiveConstant.{LiveConstant}
use Rattle.sb_proof.specs.declared.line.Value as code
use Rattle.sb_proof.specs.Lines.{value_in as read}
use Rattle.sb_models.specs.Knowing.{word_at, is_serial_of, AreEmptyBut}
use Rattle.sb_models.specs.Tried.{texts_in, text_in, one_given, word_given, also_marked, Changes, IsPut, IsPutAt}

pub same_next : (a b : ℕ) → (suc a == suc b) ≡ (a == b)
same_next a b = grind (arith, nat_tests)

pub none_next : (n : ℕ) → (0 == suc n) ≡ false
none_next n = grind (arith, nat_tests)

pub some_none : (n : ℕ) → (suc n == 0) ≡ false
some_none n = grind (arith, nat_tests)

true-false : true ≡ false → ⊥
true-false e = false≢true (sym e)

-- One word.

pub put_there : (words : List (List ℕ)) (place : ℕ) (w : List ℕ) → word_at words place ≡ w
    → IsPut place w words words
put_there words place w is serial = by (place == serial) refl
  where
    by : (b : Bool) → (place == serial) ≡ b → word_at words serial ≡ (if b then w else word_at words serial)
    by true e = ap (word_at words) (sym (eqb-true place serial e)) ∙ is
    by false e = refl

-- what stands at a serial, past the last one this
abbrev pub at : {X : Type 0} → X → List X → ℕ → X
at other xs serial = unwrap_or (slice_get xs serial) other

set_at : {X : Type 0} (other : X) (xs : List X) (place : ℕ) (x : X) → place < length xs
    → IsPutAt place x (at other xs) (at other (set xs place x))
set_at other [] place x l serial = absurd (omega arith)
set_at other (y ∷ xs) zero x l zero = refl
set_at other (y ∷ xs) zero x l (suc serial) = rw (none_next serial) refl
set_at other (y ∷ xs) (suc place) x l zero = rw (some_none place) refl
set_at other (y ∷ xs) (suc place) x l (suc serial) =
    rw (same_next place serial) (set_at other xs place x (omega arith) serial)

pub put_in : {X : Type 0} (other : X) (old middle : List X) (place : ℕ) (x : X) → place < length middle
    → ((serial : ℕ) → at other middle serial ≡ at other old serial)
    → IsPutAt place x (at other old) (at other (set middle place x))
put_in other old middle place x l same serial = set_at other middle place x l serial
    ∙ ap (λ v. if place == serial then x else v) (same serial)

pub pushed_other : {X : Type 0} (other : X) (xs : List X) (serial : ℕ)
    → at other (xs ++ other ∷ []) serial ≡ at other xs serial
pushed_other other [] zero = refl
pushed_other other [] (suc serial) = refl
pushed_other other (x ∷ xs) zero = refl
pushed_other other (x ∷ xs) (suc serial) = pushed_other other xs serial

-- Marks.

pub changes_none : (words : List (List ℕ)) (marks : ℕ → Bool) → Changes words marks words marks
changes_none words marks serial h = (h, refl)

pub changes_both : (a b c : List (List ℕ)) (l m n : ℕ → Bool) → Changes a l b m → Changes b m c n → Changes a l c n
changes_both a b c l m n first second serial h =
    let y = second serial h in
    let x = first serial y.0 in (x.0, x.1 ∙ y.1)

pub changes_one : (old new : List (List ℕ)) (marks marks' : ℕ → Bool) (place : ℕ) (w : List ℕ)
    → marks' ≡ also_marked marks place → IsPut place w old new → Changes old marks new marks'
changes_one old new marks marks' place w is put serial h =
    by (place == serial) (sym (ap (λ (m : ℕ → Bool). m serial) is) ∙ h) (put serial)
  where
    by : (b : Bool) → (if b then true else marks serial) ≡ false
        → word_at new serial ≡ (if b then w else word_at old serial)
        → (marks serial ≡ false) × (word_at old serial ≡ word_at new serial)
    by true e p = absurd (true-false e)
    by false e p = (e, sym p)

-- Constants in front.

pub front_more : (one other : List LiveConstant) (place : ℕ) (d : LiveConstant) → place < length one
    → slice_get other place ≡ Some (get_or one place d) → take place one ≡ take place other
    → take (place + 1) one ≡ take (place + 1) other
front_more one other place d low there same =
    take_more one place d low
    ∙ (ap₂ (λ cs c. cs ++ c ∷ []) same (sym (get_or_from_slice_get other place (get_or one place d) d there))
    ∙ sym (take_more other place d (slice_get_within other place (get_or one place d) there)))

pub none_in_front : (constants : List LiveConstant) (count serial : ℕ) → is_serial_of constants serial ≡ false
    → is_serial_of (take count constants) serial ≡ false
none_in_front constants zero serial h = refl
none_in_front [] (suc count) serial h = refl
none_in_front (c ∷ constants) (suc count) serial h = by (c.serial.0 == serial) (none_in_front constants count serial) h
  where
    by : (b : Bool)
        → (is_serial_of constants serial ≡ false → is_serial_of (take count constants) serial ≡ false)
        → (b || is_serial_of constants serial) ≡ false → (b || is_serial_of (take count constants) serial) ≡ false
    by true again e = absurd (true-false e)
    by false again e = again e

in_neither : (constants : List LiveConstant) (count serial : ℕ) → is_serial_of (take count constants) serial ≡ false
    → is_serial_of (drop count constants) serial ≡ false → is_serial_of constants serial ≡ false
in_neither constants zero serial h k = k
in_neither [] (suc count) serial h k = refl
in_neither (c ∷ constants) (suc count) serial h k =
    by (c.serial.0 == serial) (λ e. in_neither constants count serial e k) h
  where
    by : (b : Bool)
        → (is_serial_of (take count constants) serial ≡ false → is_serial_of constants serial ≡ false)
        → (b || is_serial_of (take count constants) serial) ≡ false → (b || is_serial_of constants serial) ≡ false
    by true again e = absurd (true-false e)
    by false again e = again e

-- Words of constants that are gone: what is neither among the first so many nor behind a place has the empty word.

abbrev pub AreEmptyFrom : ℕ → List LiveConstant → ℕ → List (List ℕ) → Type 0
AreEmptyFrom count constants place words = (serial : ℕ) → is_serial_of (take count constants) serial ≡ false
    → is_serial_of (drop place constants) serial ≡ false → word_at words serial ≡ []

pub empty_at_first : (constants : List LiveConstant) (count : ℕ) (words : List (List ℕ)) → AreEmptyBut constants words
    → AreEmptyFrom count constants count words
empty_at_first constants count words empty serial h k = empty serial (in_neither constants count serial h k)

pub empty_more : (constants : List LiveConstant) (count place : ℕ) (d : LiveConstant) (old new : List (List ℕ))
    → place < length constants → IsPut (get_or constants place d).serial.0 [] old new
    → AreEmptyFrom count constants place old → AreEmptyFrom count constants (place + 1) new
empty_more constants count place d old new low put before serial h k =
    by ((get_or constants place d).serial.0 == serial) refl (put serial)
  where
    by : (b : Bool) → ((get_or constants place d).serial.0 == serial) ≡ b
        → word_at new serial ≡ (if b then [] else word_at old serial) → word_at new serial ≡ []
    by true e p = p
    by false e p = p ∙ before serial h
        (ap (λ cs. is_serial_of cs serial) (drop_more constants place d low)
        ∙ (ap (λ b. b || is_serial_of (drop (place + 1) constants) serial) e ∙ k))

-- What live constants are given, from the last one on.

nothing_given : {X : Type 0} (constants : List LiveConstant) (serial : ℕ) (other : X)
    → one_given constants [] serial other ≡ other
nothing_given [] serial other = refl
nothing_given (c ∷ constants) serial other = refl

given_last : {X : Type 0} (constants : List LiveConstant) (xs : List X) (x : X) (d : LiveConstant) (serial : ℕ)
    (other : X) → length xs < length constants
    → one_given constants (xs ++ x ∷ []) serial other
    ≡ one_given constants xs serial (if (get_or constants (length xs) d).serial.0 == serial then x else other)
given_last [] xs x d serial other low = absurd (omega arith)
given_last (c ∷ constants) [] x d serial other low =
    ap (λ v. if c.serial.0 == serial then x else v) (nothing_given constants serial other)
given_last (c ∷ constants) (y ∷ xs) x d serial other low =
    ap (λ u. if c.serial.0 == serial then y else u) (given_last constants xs x d serial other (omega arith))

-- what is there, or what is still to be put, is the whole
abbrev pub AreRest : {X : Type 0} → List LiveConstant → List X → (ℕ → X) → List X → (ℕ → X) → Type 0
AreRest constants all at_first left now = (serial : ℕ) → one_given constants left serial (now serial)
    ≡ one_given constants all serial (at_first serial)

fewer : {X : Type 0} (left left' : List X) (x : X) (n : ℕ) → left ≡ left' ++ x ∷ [] → length left ≤ n
    → length left' < n
fewer left left' x n is few = omega (arith, few, ap length is, length-append left' (x ∷ []))

rest_more : {X : Type 0} (constants : List LiveConstant) (all left left' : List X) (at_first old new : ℕ → X) (x : X)
    (n : ℕ) (d : LiveConstant) → left ≡ left' ++ x ∷ [] → length left ≤ length constants → n ≡ length left'
    → IsPutAt (get_or constants n d).serial.0 x old new → AreRest constants all at_first left old
    → AreRest constants all at_first left' new
rest_more constants all left left' at_first old new x n d last few is put rest serial =
    ap (one_given constants left' serial) (put serial)
    ∙ (ap (λ m. one_given constants left' serial (if (get_or constants m d).serial.0 == serial then x else old serial))
    is
    ∙ (sym (given_last constants left' x d serial (old serial) (fewer left left' x (length constants) last few))
    ∙ (ap (λ ys. one_given constants ys serial (old serial)) (sym last) ∙ rest serial)))

mapped_at : {X : Type 0} (f : code.Value → X) (values : List code.Value) (place : ℕ) (d : code.Value)
    → place < length values → get_or (map f values) place (f d) ≡ f (get_or values place d)
mapped_at f [] place d low = absurd (omega arith)
mapped_at f (v ∷ values) zero d low = refl
mapped_at f (v ∷ values) (suc place) d low = mapped_at f values place d (omega arith)

-- what is made of the value at a place is put, behind that of the values behind it
pub rest_next : {X : Type 0} (f : code.Value → X) (constants : List LiveConstant) (values : List code.Value)
    (at_first old new : ℕ → X) (place : ℕ) (d : LiveConstant) (x : code.Value) → length values ≡ length constants
    → place < length values → x ≡ get_or values place x → IsPutAt (get_or constants place d).serial.0 (f x) old new
    → AreRest constants (map f values) at_first (take (place + 1) (map f values)) old
    → AreRest constants (map f values) at_first (take place (map f values)) new
rest_next f constants values at_first old new place d x long low is put rest =
    rest_more constants (map f values) (take (place + 1) (map f values)) (take place (map f values))
    at_first old new (f x) place d
    (take_more (map f values) place (f x) there
    ∙ ap (λ w. take place (map f values) ++ w ∷ []) (mapped_at f values place x low ∙ ap f (sym is)))
    (omega (arith, long, low, length-take-le (place + 1) (map f values) (omega (arith, there))))
    (sym (length-take-le place (map f values) (omega (arith, there)))) put rest
  where
    there : place < length (map f values)
    there = omega (arith, low, length-map values f)

pub none_taken : {X : Type 0} (place : ℕ) (xs : List X) → place ≡ 0 → take place xs ≡ []
none_taken place xs is = ap (λ n. take n xs) is

pub texts_long : (values : List code.Value) → length (texts_in values) ≡ length values
texts_long values = length-map values (λ x. text_in (read x))

pub rest_none : {X : Type 0} (constants : List LiveConstant) (all left : List X) (at_first now : ℕ → X) → left ≡ []
    → AreRest constants all at_first left now → (serial : ℕ)
    → now serial ≡ one_given constants all serial (at_first serial)
rest_none constants all left at_first now none rest serial =
    sym (nothing_given constants serial (now serial))
    ∙ (ap (λ xs. one_given constants xs serial (now serial)) (sym none) ∙ rest serial)

others_empty : (constants : List LiveConstant) (words : List (List ℕ)) (serial : ℕ) (other : List ℕ)
    → length words ≡ length constants → (is_serial_of constants serial ≡ false → other ≡ [])
    → word_given constants words serial other ≡ word_given constants words serial []
others_empty [] words serial other long h = rw (h refl) refl
others_empty (c ∷ constants) [] serial other long h = absurd (omega (arith, long))
others_empty (c ∷ constants) (w ∷ words) serial other long h =
    by (c.serial.0 == serial) (others_empty constants words serial other (omega (arith, long))) h
  where
    by : (b : Bool)
        → ((is_serial_of constants serial ≡ false → other ≡ [])
        → word_given constants words serial other ≡ word_given constants words serial [])
        → ((b || is_serial_of constants serial) ≡ false → other ≡ [])
        → (if b then w else word_given constants words serial other)
        ≡ (if b then w else word_given constants words serial [])
    by true again k = refl
    by false again k = again k

pub all_given : (before live : List LiveConstant) (count : ℕ) (words cleared new : List (List ℕ))
    → length words ≡ length live → take count before ≡ take count live → AreEmptyBut (take count before) cleared
    → ((serial : ℕ) → word_at new serial ≡ word_given live words serial (word_at cleared serial)) → (serial : ℕ)
    → word_at new serial ≡ word_given live words serial []
all_given before live count words cleared new long same empty put serial =
    put serial
    ∙ others_empty live words serial (word_at cleared serial) long
    (λ h. empty serial (ap (λ cs. is_serial_of cs serial) same ∙ none_in_front live count serial h))

none_given : (constants : List LiveConstant) (words : List (List ℕ)) (serial : ℕ) → is_serial_of constants serial ≡ false
    → word_given constants words serial [] ≡ []
none_given [] words serial h = refl
none_given (c ∷ constants) [] serial h = refl
none_given (c ∷ constants) (w ∷ words) serial h = by (c.serial.0 == serial) (none_given constants words serial) h
  where
    by : (b : Bool) → (is_serial_of constants serial ≡ false → word_given constants words serial [] ≡ [])
        → (b || is_serial_of constants serial) ≡ false
        → (if b then w else word_given constants words serial []) ≡ []
    by true again e = absurd (true-false e)
    by false again e = again e

-- what is none of the constants has the empty word
pub empty_but_given : (constants : List LiveConstant) (words new : List (List ℕ))
    → ((serial : ℕ) → word_at new serial ≡ word_given constants words serial []) → AreEmptyBut constants new
empty_but_given constants words new given serial h = given serial ∙ none_given constants words serial h
