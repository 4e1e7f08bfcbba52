-- A word, and the pieces of a String term, as one part after the other is taken.
use Rattle.std.proofs.Common.{◌≡◌, ℕ, zero, suc, ◌+◌, ◌<◌, ◌≤◌, ◌==◌, Bool, true, false, not, ◌&&◌, nat_eq, nat_lt, if◌then◌else◌, List, [], ◌∷◌, ◌++◌, length, drop, get_or, Option, Some, None, option_map, MatchOption, refl, sym, ap, ap₂, subst, ◌∙◌, arith, append_assoc, vec_len}
use Rattle.std.specs.Prelude.{◌||◌, option_and_then}
use Rattle.std.specs.List.{All, list_all, list_any}
use Rattle.std.specs.BTreeSet.{insert_key}
use Rattle.std.specs.declared.vec.Vec.{Vec}
use Rattle.std.specs.declared.alloc.Global.{Global}
use Rattle.std.specs.Ordering.{nat_cmp, is_eq, match_ordering}
use Rattle.std.specs.declared.cmp.Ordering.{Ordering}
use Rattle.std.specs.declared.cmp.Ordering.TheVariants.{Less, Equal, Greater}
use Rattle.std.proofs.lemmas.Bool.{and_parts, and_from, or_left, or_right, false≢true, lt-ltb, ltb-true}
use Rattle.std.proofs.lemmas.Bool.Decides.{nat_tests}
use Rattle.std.proofs.lemmas.List.{append-nil, drop_all, map-append}
use Rattle.std.proofs.lemmas.List.Folds.{list_any-append}
use Rattle.std.proofs.lemmas.Option.{same_Some, none-some}
use Rattle.std.proofs.Math.Bool.{and-false}
use Rattle.sb_facts.proofs.CallerLemmas.{all_append, all_push, cmp_equal, equal_turned, or_swap, same_number}
use Rattle.sb_word.specs.Words.{IsWord, is_character, are_characters}
use Rattle.sb_meaning.specs.Terms.{text, Term, constant, word, apply, terms_of}
use Rattle.sb_meaning.specs.Terms as symbol
use Rattle.sb_script.specs.Brought.{is_text, are_texts}
use Rattle.sb_script.specs.Pieces.{Piece, constant_piece, word_piece, onto_pieces, before_pieces, concatenation, if_short, pieces_of, all_pieces, are_single, single_pieces, is_constant_piece}
use Rattle.sb_script.specs.Rules.{stand_once}
use Rattle.sb_script.specs.Sizes.{size_of}
use Rattle.sb_term.specs.Descending.{has}
use Rattle.sb_term.specs.declared.term.Serial.{Serial}
use Rattle.sb_term.specs.Numbered.{term_at, terms_at}
use Rattle.sb_problem.specs.Normals.{is_joined, is_text_constant}
use Rattle.sb_problem.specs.declared.pieces.Part.{Part}
use Rattle.sb_problem.specs.declared.pieces.Part.TheVariants as part
use Rattle.sb_problem.specs.Parts.{is_written, are_written, piece_in, parts_in}
use Rattle.sb_problem.specs.Shapes.{arguments_in}
use Rattle.sb_problem.specs.Taking.{backwards, weight_of, letters_left, Spelling, Spells, constants_in, spelled, joined_before, stacked, Taking, PutsParts, Fewer}
use Rattle.sb_problem.specs.Waiting.{size, sizes}
use Rattle.sb_problem.specs.Words.{letters_of, letters_of_each}
use Rattle.sb_problem.proofs.Chains.{some_size, less_than_whole}
use Rattle.sb_problem.proofs.Keeping.{all_last}
use Rattle.sb_problem.proofs.Texts.{after_then, short_is, short_text, other_opens}

-- Numbers the other way round.

pub backwards_none : (old : List ℕ) (ids : List ℕ) (k : ℕ) → k ≡ length ids
    → old ≡ old ++ backwards (drop k ids)
backwards_none old ids k e =
    sym (append-nil old) ∙ ap (λ js. old ++ backwards js) (sym (drop_all k ids (omega (arith, e))))

pub backwards_more : (old now next ids : List ℕ) (k x : ℕ) → now ≡ old ++ backwards (drop (suc k) ids)
    → k < length ids → x ≡ get_or ids k x → next ≡ now ++ x ∷ [] → next ≡ old ++ backwards (drop k ids)
backwards_more old now next ids k x before l at more =
    more
    ∙ (ap (λ js. js ++ x ∷ []) before
    ∙ (append_assoc old (backwards (drop (suc k) ids)) (x ∷ [])
    ∙ ap (λ js. old ++ backwards js) (sym (dropped ids k x l at))))
  where
    dropped : (ids : List ℕ) (k x : ℕ) → k < length ids → x ≡ get_or ids k x → drop k ids ≡ x ∷ drop (suc k) ids
    dropped [] k x l at = absurd (omega arith)
    dropped (y ∷ ids) zero x l at = ap (λ z. z ∷ ids) (sym at)
    dropped (y ∷ ids) (suc k) x l at = dropped ids k x (omega (arith, l)) at

backwards_below : (n m : ℕ) (is : List ℕ) → m ≤ n → All (λ i. i < m) is
    → list_all (λ i. nat_lt i n) (backwards is) ≡ true
backwards_below n m [] le h = refl
backwards_below n m (i ∷ is) le h =
    all_push (λ j. nat_lt j n) (backwards is) i (backwards_below n m is le (λ k d l. h (suc k) d (omega (arith, l))))
    (lt-ltb i n (omega (arith, le, h 0 0 (omega arith))))

-- How many terms are left.

pub weight-append : (xs ys : List Term) → weight_of (xs ++ ys) ≡ weight_of xs + weight_of ys
weight-append [] ys = omega arith
weight-append (t ∷ xs) ys = omega (arith, weight-append xs ys)

pub weight_last : (ts : List Term) (before : List ℕ) (i : ℕ)
    → weight_of (terms_at ts (before ++ i ∷ [])) ≡ weight_of (terms_at ts before) + size (term_at ts i)
weight_last ts before i =
    ap weight_of (map-append (term_at ts) before (i ∷ []))
    ∙ (weight-append (terms_at ts before) (term_at ts i ∷ [])
    ∙ last (weight_of (terms_at ts before)) (size (term_at ts i)))
  where
    last : (a b : ℕ) → a + (b + 0) ≡ a + b
    last a b = omega arith

weight_backwards : (ts : List Term) (is : List ℕ) → weight_of (terms_at ts (backwards is)) ≡ weight_of (terms_at ts is)
weight_backwards ts [] = refl
weight_backwards ts (i ∷ is) =
    weight_last ts (backwards is) i
    ∙ turned (weight_of (terms_at ts (backwards is))) (weight_of (terms_at ts is)) (size (term_at ts i))
    (weight_backwards ts is)
  where
    turned : (a b n : ℕ) → a ≡ b → a + n ≡ n + b
    turned a b n e = omega (arith, e)

pub lighter_without : (ts : List Term) (before : List ℕ) (i : ℕ)
    → weight_of (terms_at ts before) < weight_of (terms_at ts (before ++ i ∷ []))
lighter_without ts before i = omega (arith, weight_last ts before i, some_size (term_at ts i))

lighter_parts : (ts : List Term) (i : ℕ) (before after : List ℕ) → PutsParts ts i before after
    → weight_of (terms_at ts after) < weight_of (terms_at ts (before ++ i ∷ []))
lighter_parts ts i before after p =
    let all = ap (λ js. weight_of (terms_at ts js)) p.behind
    ∙ (ap weight_of (map-append (term_at ts) before (backwards p.numbers))
    ∙ weight-append (terms_at ts before) (terms_at ts (backwards p.numbers))) in
    let few = weight_backwards ts p.numbers ∙ ap sizes p.are in
    omega (arith, all, few, less_than_whole (term_at ts i), weight_last ts before i)

pub fewer_without : (ts : List Term) (i : ℕ) (before after : List ℕ) → after ≡ before → Fewer ts i before after
fewer_without ts i before after e = subst (Fewer ts i before) (sym e) (record {
  below = λ h. h;
  lighter = lighter_without ts before i;
})

pub fewer_parts : (ts : List Term) (i : ℕ) (before after : List ℕ) → i < length ts → PutsParts ts i before after
    → Fewer ts i before after
fewer_parts ts i before after l p = record {
  below = λ h. ap (list_all (λ j. nat_lt j (length ts))) p.behind
      ∙ all_append (λ j. nat_lt j (length ts)) before (backwards p.numbers) h
      (backwards_below (length ts) i p.numbers (omega (arith, l)) p.below);
  lighter = lighter_parts ts i before after p;
}

-- Letters.

letters_last : (ts : List Term) (t : Term) → letters_left (ts ++ t ∷ []) ≡ letters_of t ++ letters_left ts
letters_last [] t = sym (append-nil (letters_of t))
letters_last (u ∷ ts) t =
    ap (λ w. w ++ letters_of u) (letters_last ts t) ∙ append_assoc (letters_of t) (letters_left ts) (letters_of u)

letters_popped : (ts : List Term) (before : List ℕ) (i : ℕ)
    → letters_left (terms_at ts (before ++ i ∷ [])) ≡ letters_of (term_at ts i) ++ letters_left (terms_at ts before)
letters_popped ts before i =
    ap letters_left (map-append (term_at ts) before (i ∷ [])) ∙ letters_last (terms_at ts before) (term_at ts i)

letters_parts : (ts : List Term) (before is : List ℕ) → letters_left (terms_at ts (before ++ backwards is))
    ≡ letters_of_each (terms_of (terms_at ts is)) ++ letters_left (terms_at ts before)
letters_parts ts before [] = ap (λ js. letters_left (terms_at ts js)) (append-nil before)
letters_parts ts before (i ∷ is) =
    ap (λ js. letters_left (terms_at ts js)) (sym (append_assoc before (backwards is) (i ∷ [])))
    ∙ (letters_popped ts (before ++ backwards is) i
    ∙ (ap (λ w. letters_of (term_at ts i) ++ w) (letters_parts ts before is)
    ∙ sym (append_assoc (letters_of (term_at ts i)) (letters_of_each (terms_of (terms_at ts is)))
    (letters_left (terms_at ts before)))))

texts_backwards : (ts : List Term) (is : List ℕ) → are_texts (terms_of (terms_at ts is)) ≡ true
    → list_all is_text (terms_at ts (backwards is)) ≡ true
texts_backwards ts [] h = refl
texts_backwards ts (i ∷ is) h =
    let parts = and_parts (is_text (term_at ts i)) (are_texts (terms_of (terms_at ts is))) h in
    ap (list_all is_text) (map-append (term_at ts) (backwards is) (i ∷ []))
    ∙ all_push is_text (terms_at ts (backwards is)) (term_at ts i) (texts_backwards ts is parts.1) parts.0

texts_popped : (ts : List Term) (before : List ℕ) (i : ℕ) → list_all is_text (terms_at ts (before ++ i ∷ [])) ≡ true
    → (list_all is_text (terms_at ts before) ≡ true) × (is_text (term_at ts i) ≡ true)
texts_popped ts before i h =
    all_last is_text (terms_at ts before) (term_at ts i)
    (ap (list_all is_text) (sym (map-append (term_at ts) before (i ∷ []))) ∙ h)

pub spelling_start : (ts : List Term) (root : ℕ) (letters left : List ℕ) → root < length ts
    → is_text (term_at ts root) ≡ true → letters ≡ [] → left ≡ root ∷ [] → Spelling ts root letters left
spelling_start ts root letters left l h none one =
    subst (λ w. Spelling ts root w left) (sym none) (subst (Spelling ts root []) (sym one) (record {
      below = and_from (nat_lt root (length ts)) true (lt-ltb root (length ts) l) refl;
      texts = and_from (is_text (term_at ts root)) true h refl;
      whole = refl;
      written = refl;
    }))

-- the next one
pub spelling_next : (ts : List Term) (root : ℕ) (letters left rest : List ℕ) (i : ℕ)
    → Spelling ts root letters left → left ≡ rest ++ i ∷ [] → (i < length ts) × (is_text (term_at ts i) ≡ true)
spelling_next ts root letters left rest i s e =
    let t = subst (Spelling ts root letters) e s in (
      ltb-true i (length ts) (all_last (λ j. nat_lt j (length ts)) rest i t.below).1,
      (texts_popped ts rest i t.texts).1,
    )

-- one whose letters are put behind the others
pub spells_letters : (ts : List Term) (i : ℕ) (letters more before after w : List ℕ) → letters_of (term_at ts i) ≡ w
    → IsWord w → more ≡ letters ++ w → after ≡ before → Spells ts i letters more before after
spells_letters ts i letters more before after w is characters e same =
    subst (λ js. Spells ts i letters more before js) (sym same)
    (subst (λ u. Spells ts i letters u before before) (sym e) (record {
      spelling = λ root s. record {
        below = (all_last (λ j. nat_lt j (length ts)) before i s.below).0;
        texts = (texts_popped ts before i s.texts).0;
        whole = append_assoc letters w (letters_left (terms_at ts before))
            ∙ (ap (λ u. letters ++ (u ++ letters_left (terms_at ts before))) (sym is)
            ∙ (ap (λ u. letters ++ u) (sym (letters_popped ts before i)) ∙ s.whole));
        written = all_append is_character letters w s.written characters;
      };
      lighter = lighter_without ts before i;
    }))

-- one that has none
pub spells_nothing : (ts : List Term) (i : ℕ) (letters before : List ℕ) → letters_of (term_at ts i) ≡ []
    → Spells ts i letters letters before before
spells_nothing ts i letters before is =
    spells_letters ts i letters letters before before [] is refl (sym (append-nil letters)) refl

-- one whose parts are left
pub spells_parts : (ts : List Term) (i : ℕ) (letters before after : List ℕ) → i < length ts
    → are_texts (arguments_in (term_at ts i)) ≡ true
    → letters_of (term_at ts i) ≡ letters_of_each (arguments_in (term_at ts i)) → PutsParts ts i before after
    → Spells ts i letters letters before after
spells_parts ts i letters before after l all is p =
    let fewer = fewer_parts ts i before after l p in
    record {
      spelling = λ root s. record {
        below = fewer.below (all_last (λ j. nat_lt j (length ts)) before i s.below).0;
        texts = ap (λ js. list_all is_text (terms_at ts js)) p.behind
            ∙ (ap (list_all is_text) (map-append (term_at ts) before (backwards p.numbers))
            ∙ all_append is_text (terms_at ts before) (terms_at ts (backwards p.numbers))
            (texts_popped ts before i s.texts).0 (texts_backwards ts p.numbers (ap are_texts p.are ∙ all)));
        whole = ap (λ js. letters ++ letters_left (terms_at ts js)) p.behind
            ∙ (ap (λ u. letters ++ u) (letters_parts ts before p.numbers)
            ∙ (ap (λ u. letters ++ (u ++ letters_left (terms_at ts before)))
            (ap letters_of_each p.are ∙ sym is)
            ∙ (ap (λ u. letters ++ u) (sym (letters_popped ts before i)) ∙ s.whole)));
        written = s.written;
      };
      lighter = fewer.lighter;
    }

pub spelling_end : (ts : List Term) (root : ℕ) (letters left : List ℕ) → Spelling ts root letters left
    → length left ≡ 0 → letters ≡ letters_of (term_at ts root)
spelling_end ts root letters [] s h = sym (append-nil letters) ∙ s.whole
spelling_end ts root letters (i ∷ left) s h = absurd (omega (arith, h))

-- Pieces in front of others.

onto_onto : (u w : List ℕ) (ps : List Piece)
    → onto_pieces (word_piece u) (onto_pieces (word_piece w) ps) ≡ onto_pieces (word_piece (u ++ w)) ps
onto_onto [] w ps = refl
onto_onto (c ∷ u) [] ps = ap (λ x. onto_pieces (word_piece x) ps) (sym (append-nil (c ∷ u)))
onto_onto (c ∷ u) (d ∷ w) [] = refl
onto_onto (c ∷ u) (d ∷ w) (constant_piece serial ∷ ps) = refl
onto_onto (c ∷ u) (d ∷ w) (word_piece x ∷ ps) =
    ap (λ y. word_piece y ∷ ps) (sym (append_assoc (c ∷ u) (d ∷ w) x))

onto_before : (p : Piece) (qs rs : List Piece)
    → before_pieces (onto_pieces p qs) rs ≡ onto_pieces p (before_pieces qs rs)
onto_before (constant_piece serial) qs rs = refl
onto_before (word_piece []) qs rs = refl
onto_before (word_piece (c ∷ v)) [] rs = refl
onto_before (word_piece (c ∷ v)) (constant_piece serial ∷ qs) rs = refl
onto_before (word_piece (c ∷ v)) (word_piece w ∷ qs) rs = sym (onto_onto (c ∷ v) w (before_pieces qs rs))

before_groups : (ps qs rs : List Piece)
    → before_pieces (before_pieces ps qs) rs ≡ before_pieces ps (before_pieces qs rs)
before_groups [] qs rs = refl
before_groups (p ∷ ps) qs rs =
    onto_before p (before_pieces ps qs) rs ∙ ap (onto_pieces p) (before_groups ps qs rs)

spelled_front : (w : List ℕ) (qs : List Piece) → before_pieces (spelled w) qs ≡ onto_pieces (word_piece w) qs
spelled_front [] qs = refl
spelled_front (c ∷ w) qs = refl

onto_constant : (run : List ℕ) (serial : ℕ) (qs : List Piece)
    → onto_pieces (word_piece run) (constant_piece serial ∷ qs) ≡ spelled run ++ constant_piece serial ∷ qs
onto_constant [] serial qs = refl
onto_constant (c ∷ run) serial qs = refl

nothing_before : (o : Option (List Piece)) → joined_before (Some []) o ≡ o
nothing_before None = refl
nothing_before (Some qs) = refl

joined_groups : (a b c : Option (List Piece))
    → joined_before (joined_before a b) c ≡ joined_before a (joined_before b c)
joined_groups None b c = refl
joined_groups (Some ps) None c = refl
joined_groups (Some ps) (Some qs) None = refl
joined_groups (Some ps) (Some qs) (Some rs) = ap Some (before_groups ps qs rs)

joined_all : (a : Option (List Piece)) (b : Option (List (List Piece)))
    → option_map concatenation (option_and_then (λ ps. option_map (λ pss. ps ∷ pss) b) a)
    ≡ joined_before a (option_map concatenation b)
joined_all None b = refl
joined_all (Some ps) None = refl
joined_all (Some ps) (Some pss) = refl

stacked_last : (ts : List Term) (t : Term) (o : Option (List Piece))
    → stacked (ts ++ t ∷ []) o ≡ joined_before (pieces_of t) (stacked ts o)
stacked_last [] t o = refl
stacked_last (u ∷ ts) t o = stacked_last ts t (joined_before (pieces_of u) o)

stacked_parts : (ts : List Term) (before is : List ℕ) (o : Option (List Piece))
    → stacked (terms_at ts (before ++ backwards is)) o
    ≡ joined_before (option_map concatenation (all_pieces (terms_of (terms_at ts is)))) (stacked (terms_at ts before) o)
stacked_parts ts before [] o =
    ap (λ js. stacked (terms_at ts js) o) (append-nil before) ∙ sym (nothing_before (stacked (terms_at ts before) o))
stacked_parts ts before (i ∷ is) o =
    let first = pieces_of (term_at ts i) in
    let others = all_pieces (terms_of (terms_at ts is)) in
    let rest = stacked (terms_at ts before) o in
    ap (λ js. stacked (terms_at ts js) o) (sym (append_assoc before (backwards is) (i ∷ [])))
    ∙ (ap (λ xs. stacked xs o) (map-append (term_at ts) (before ++ backwards is) (i ∷ []))
    ∙ (stacked_last (terms_at ts (before ++ backwards is)) (term_at ts i) o
    ∙ (ap (joined_before first) (stacked_parts ts before is o)
    ∙ (sym (joined_groups first (option_map concatenation others) rest)
    ∙ ap (λ p. joined_before p rest) (sym (joined_all first others))))))

-- pieces that a term has stay what they are in front of none
concatenation_settled : (pss : List (List Piece)) → before_pieces (concatenation pss) [] ≡ concatenation pss
concatenation_settled [] = refl
concatenation_settled (ps ∷ pss) =
    before_groups ps (concatenation pss) [] ∙ ap (before_pieces ps) (concatenation_settled pss)

by_settled : (qs ps : List Piece) → qs ≡ ps → before_pieces qs [] ≡ qs → before_pieces ps [] ≡ ps
by_settled qs ps e h = subst (λ rs. before_pieces rs [] ≡ rs) e h

pieces_settled : (t : Term) (ps : List Piece) → pieces_of t ≡ Some ps → before_pieces ps [] ≡ ps
pieces_settled (constant serial text) ps e =
    by_settled (constant_piece serial ∷ []) ps (same_Some (constant_piece serial ∷ []) ps e) refl
pieces_settled (word w) ps e = by_settled (spelled w) ps (short_is (spelled w) ps e) (spelled_front w [])
pieces_settled (apply symbol.str_concat terms) ps e =
    after_then (λ pss. if_short (concatenation pss)) (all_pieces terms) ps e (λ pss all short.
    by_settled (concatenation pss) ps (short_is (concatenation pss) ps short) (concatenation_settled pss))
pieces_settled _ ps e = absurd (none-some ps e)

-- Constants.

any_constant : (n : ℕ) (ps : List Piece) → list_any (is_constant_piece n) ps ≡ has (constants_in ps) n
any_constant n [] = refl
any_constant n (constant_piece serial ∷ ps) = ap (λ b. (n == serial) || b) (any_constant n ps)
any_constant n (word_piece w ∷ ps) = any_constant n ps

pub single_constants : (ps : List Piece) → are_single ps ≡ stand_once (constants_in ps)
single_constants [] = refl
single_constants (constant_piece serial ∷ ps) =
    ap₂ (λ a b. not a && b) (any_constant serial ps) (single_constants ps)
single_constants (word_piece w ∷ ps) = single_constants ps

constants-append : (ps qs : List Piece) → constants_in (ps ++ qs) ≡ constants_in ps ++ constants_in qs
constants-append [] qs = refl
constants-append (constant_piece serial ∷ ps) qs = ap (λ ns. serial ∷ ns) (constants-append ps qs)
constants-append (word_piece w ∷ ps) qs = constants-append ps qs

no_constants : (w : List ℕ) → constants_in (spelled w) ≡ []
no_constants [] = refl
no_constants (c ∷ w) = refl

with_run : (parts : List Piece) (run : List ℕ) → constants_in (parts ++ spelled run) ≡ constants_in parts
with_run parts run =
    constants-append parts (spelled run)
    ∙ (ap (λ ns. constants_in parts ++ ns) (no_constants run) ∙ append-nil (constants_in parts))

there : (x n : ℕ) (xs ys : List ℕ) → (n == x) ≡ true → has (xs ++ n ∷ ys) x ≡ true
there x n xs ys h =
    list_any-append (nat_eq x) xs (n ∷ ys)
    ∙ or_right (has xs x) (has (n ∷ ys) x) (or_left (x == n) (has ys x) (equal_turned x n ∙ h))

-- a number that was there stands twice
pub stands_twice : (xs : List ℕ) (n : ℕ) (ys : List ℕ) → has xs n ≡ true → stand_once (xs ++ n ∷ ys) ≡ false
stands_twice [] n ys h = absurd (false≢true h)
stands_twice (x ∷ xs) n ys h = step (n == x) refl (stands_twice xs n ys)
  where
    step : (b : Bool) → (n == x) ≡ b → (has xs n ≡ true → stand_once (xs ++ n ∷ ys) ≡ false)
        → (not (has (xs ++ n ∷ ys) x) && stand_once (xs ++ n ∷ ys)) ≡ false
    step true is more = ap (λ b. not b && stand_once (xs ++ n ∷ ys)) (there x n xs ys is)
    step false is more =
        ap (λ b. not (has (xs ++ n ∷ ys) x) && b) (more (ap (λ b. b || has xs n) (sym is) ∙ h))
        ∙ and-false (not (has (xs ++ n ∷ ys) x))

neither : (a b : Bool) → (a || b) ≡ false → (a ≡ false) × (b ≡ false)
neither true b h = absurd (false≢true (sym h))
neither false b h = (refl, h)

both_not : (a b : Bool) → not a ≡ true → b ≡ false → not (a || (b || false)) ≡ true
both_not true b h k = absurd (false≢true h)
both_not false b h k = ap (λ c. not (c || false)) k

pub stands_once_more : (xs : List ℕ) (n : ℕ) → stand_once xs ≡ true → has xs n ≡ false
    → stand_once (xs ++ n ∷ []) ≡ true
stands_once_more [] n h k = refl
stands_once_more (x ∷ xs) n h k =
    let parts = and_parts (not (has xs x)) (stand_once xs) h in
    let apart = neither (n == x) (has xs n) k in
    and_from (not (has (xs ++ n ∷ []) x)) (stand_once (xs ++ n ∷ []))
    (ap not (list_any-append (nat_eq x) xs (n ∷ []))
    ∙ both_not (has xs x) (x == n) parts.0 (equal_turned x n ∙ apart.0))
    (stands_once_more xs n parts.1 apart.1)

-- numbers in a set
or_same : (a b : Bool) → (a || b) ≡ (a || (a || b))
or_same true b = refl
or_same false b = refl

pub inserted_has : (ks : List ℕ) (k n : ℕ) → has (insert_key nat_cmp ks k) n ≡ ((n == k) || has ks n)
inserted_has [] k n = refl
inserted_has (x ∷ ks) k n = step (nat_cmp k x) refl (inserted_has ks k n)
  where
    step : (o : Ordering) → nat_cmp k x ≡ o → has (insert_key nat_cmp ks k) n ≡ ((n == k) || has ks n)
        → has (match_ordering o (k ∷ x ∷ ks) (x ∷ ks) (x ∷ insert_key nat_cmp ks k)) n
        ≡ ((n == k) || has (x ∷ ks) n)
    step Less is rest = refl
    step Equal is rest =
        or_same (n == x) (has ks n) ∙ ap (λ y. (n == y) || has (x ∷ ks) n) (sym (cmp_equal k x is))
    step Greater is rest =
        ap (λ b. (n == x) || b) rest ∙ or_swap (n == x) (n == k) (has ks n)

cmp_tests : (n m : ℕ) → is_eq (nat_cmp n m) ≡ (n == m)
cmp_tests n m = grind (arith, nat_tests)

pub set_has : (ks : List ℕ) (n : ℕ) → list_any (λ k. is_eq (nat_cmp n k)) ks ≡ has ks n
set_has [] n = refl
set_has (k ∷ ks) n = ap₂ ◌||◌ (cmp_tests n k) (set_has ks n)

or_end : (a b : Bool) → (a || b) ≡ (b || (a || false))
or_end true true = refl
or_end true false = refl
or_end false true = refl
or_end false false = refl

met_more : (met xs : List ℕ) (n : ℕ) → ((k : ℕ) → has met k ≡ has xs k) → (k : ℕ)
    → has (insert_key nat_cmp met n) k ≡ has (xs ++ n ∷ []) k
met_more met xs n h k =
    inserted_has met n k
    ∙ (ap (λ b. (k == n) || b) (h k)
    ∙ (or_end (k == n) (has xs k) ∙ sym (list_any-append (nat_eq k) xs (n ∷ []))))

-- Taking.

from_start : (t : Term) (o : Option (List Piece)) → pieces_of t ≡ o
    → o ≡ option_map (λ qs. [] ++ onto_pieces (word_piece []) qs) (joined_before o (Some []))
from_start t None e = refl
from_start t (Some ps) e = ap Some (sym (pieces_settled t ps e))

pub taking_start : (t : Term) (parts : List Piece) (run met : List ℕ) (left : List Term) → parts ≡ [] → run ≡ []
    → met ≡ [] → left ≡ t ∷ [] → Taking t parts run met left
taking_start t parts run met left p r m l = rw (p, r, m, l) (record {
  pieces = from_start t (pieces_of t) refl;
  once = refl;
  were_met = λ n. refl;
  written = refl;
  run_written = refl;
})

-- what is left, with its last one by itself
pieces_last : (whole t : Term) (parts : List Piece) (run met : List ℕ) (left : List Term)
    → Taking whole parts run met (left ++ t ∷ []) → pieces_of whole
    ≡ option_map (λ qs. parts ++ onto_pieces (word_piece run) qs) (joined_before (pieces_of t) (stacked left (Some [])))
pieces_last whole t parts run met left h =
    h.pieces
    ∙ ap (option_map (λ qs. parts ++ onto_pieces (word_piece run) qs)) (stacked_last left t (Some []))

-- one that has no pieces
pub taken_none : (whole t : Term) (parts : List Piece) (run met : List ℕ) (left : List Term)
    → Taking whole parts run met (left ++ t ∷ []) → pieces_of t ≡ None → single_pieces whole ≡ None
taken_none whole t parts run met left h none =
    ap (option_and_then (λ ps. if are_single ps then Some ps else None))
    (pieces_last whole t parts run met left h
    ∙ ap (λ o. option_map (λ qs. parts ++ onto_pieces (word_piece run) qs) (joined_before o (stacked left (Some []))))
    none)

word_goes : (parts : List Piece) (run w : List ℕ) (o : Option (List Piece))
    → option_map (λ qs. parts ++ onto_pieces (word_piece run) qs) (joined_before (Some (spelled w)) o)
    ≡ option_map (λ qs. parts ++ onto_pieces (word_piece (run ++ w)) qs) o
word_goes parts run w None = refl
word_goes parts run w (Some qs) =
    ap (λ rs. Some (parts ++ rs))
    (ap (onto_pieces (word_piece run)) (spelled_front w qs) ∙ onto_onto run w qs)

-- a word within the limit
pub taken_word : (whole t : Term) (parts : List Piece) (run more w met : List ℕ) (left : List Term)
    → Taking whole parts run met (left ++ t ∷ []) → is_text t ≡ true → size_of t ≤ 65535 → w ≡ letters_of t
    → IsWord w → more ≡ run ++ w → Taking whole parts more met left
taken_word whole t parts run more w met left h is_word l same written e = rw e (record {
  pieces = pieces_last whole t parts run met left h
      ∙ (ap (λ o. option_map (λ qs. parts ++ onto_pieces (word_piece run) qs)
      (joined_before o (stacked left (Some []))))
      (short_text t is_word l ∙ ap (λ u. Some (spelled u)) (sym same))
      ∙ word_goes parts run w (stacked left (Some [])));
  once = h.once;
  were_met = h.were_met;
  written = h.written;
  run_written = all_append is_character run w h.run_written written;
})

-- a constant that was met
twice_by : (parts : List Piece) (run : List ℕ) (serial : ℕ) → has (constants_in parts) serial ≡ true
    → (o : Option (List Piece))
    → option_and_then (λ ps. if are_single ps then Some ps else None)
    (option_map (λ qs. parts ++ onto_pieces (word_piece run) qs) (joined_before (Some (constant_piece serial ∷ [])) o))
    ≡ None
twice_by parts run serial h None = refl
twice_by parts run serial h (Some qs) =
    let all = parts ++ onto_pieces (word_piece run) (constant_piece serial ∷ qs) in
    let constants : constants_in all ≡ constants_in parts ++ serial ∷ constants_in qs =
    ap (λ rs. constants_in (parts ++ rs)) (onto_constant run serial qs)
    ∙ (ap constants_in (sym (append_assoc parts (spelled run) (constant_piece serial ∷ qs)))
    ∙ (constants-append (parts ++ spelled run) (constant_piece serial ∷ qs)
    ∙ ap (λ ns. ns ++ serial ∷ constants_in qs) (with_run parts run))) in
    let twice : are_single all ≡ false =
    single_constants all
    ∙ (ap stand_once constants ∙ stands_twice (constants_in parts) serial (constants_in qs) h) in
    ap (λ (b : Bool). if b then Some all else None) twice

pub taken_twice : (whole : Term) (serial : ℕ) (parts : List Piece) (run met : List ℕ) (left : List Term)
    → Taking whole parts run met (left ++ constant serial text ∷ []) → has met serial ≡ true
    → single_pieces whole ≡ None
taken_twice whole serial parts run met left h there =
    ap (option_and_then (λ ps. if are_single ps then Some ps else None))
    (pieces_last whole (constant serial text) parts run met left h)
    ∙ twice_by parts run serial (sym (h.were_met serial) ∙ there) (stacked left (Some []))

constant_goes : (parts : List Piece) (run : List ℕ) (serial : ℕ) (o : Option (List Piece))
    → option_map (λ qs. parts ++ onto_pieces (word_piece run) qs) (joined_before (Some (constant_piece serial ∷ [])) o)
    ≡ option_map (λ qs. ((parts ++ spelled run) ++ constant_piece serial ∷ []) ++ onto_pieces (word_piece []) qs) o
constant_goes parts run serial None = refl
constant_goes parts run serial (Some qs) =
    ap Some
    (ap (λ rs. parts ++ rs) (onto_constant run serial qs)
    ∙ (sym (append_assoc parts (spelled run) (constant_piece serial ∷ qs))
    ∙ sym (append_assoc (parts ++ spelled run) (constant_piece serial ∷ []) qs)))

spelled_written : (w : List ℕ) → IsWord w → are_written (spelled w) ≡ true
spelled_written [] h = refl
spelled_written (c ∷ w) h = and_from (are_characters (c ∷ w)) true h refl

-- a constant that is new
pub taken_constant : (whole : Term) (serial : ℕ) (parts mid now : List Piece) (run run' met met' : List ℕ)
    (left : List Term) → Taking whole parts run met (left ++ constant serial text ∷ []) → has met serial ≡ false
    → met' ≡ insert_key nat_cmp met serial → mid ≡ parts ++ spelled run → run' ≡ []
    → now ≡ mid ++ constant_piece serial ∷ [] → Taking whole now run' met' left
taken_constant whole serial parts mid now run run' met met' left h fresh inserted flushed empty put =
    rw (put, flushed, empty, inserted) (record {
      pieces = pieces_last whole (constant serial text) parts run met left h
          ∙ constant_goes parts run serial (stacked left (Some []));
      once = ap stand_once constants
          ∙ stands_once_more (constants_in parts) serial h.once (sym (h.were_met serial) ∙ fresh);
      were_met = λ n. met_more met (constants_in parts) serial h.were_met n ∙ ap (λ ns. has ns n) (sym constants);
      written = all_push is_written (parts ++ spelled run) (constant_piece serial)
          (all_append is_written parts (spelled run) h.written (spelled_written run h.run_written)) refl;
      run_written = refl;
    })
  where
    constants : constants_in ((parts ++ spelled run) ++ constant_piece serial ∷ []) ≡ constants_in parts ++ serial ∷ []
    constants =
        constants-append (parts ++ spelled run) (constant_piece serial ∷ [])
        ∙ ap (λ ns. ns ++ serial ∷ []) (with_run parts run)

-- a concatenation that is no word
joined_parts : (t : Term) → is_joined t ≡ true → is_text t ≡ false
    → pieces_of t ≡ option_map concatenation (all_pieces (arguments_in t))
joined_parts (apply symbol.str_concat terms) h other = other_opens terms other
joined_parts _ h other = absurd (false≢true h)

pub taken_parts : (ts : List Term) (whole : Term) (i : ℕ) (parts : List Piece) (run met before after : List ℕ)
    → is_joined (term_at ts i) ≡ true → is_text (term_at ts i) ≡ false → PutsParts ts i before after
    → Taking whole parts run met (terms_at ts before ++ term_at ts i ∷ [])
    → Taking whole parts run met (terms_at ts after)
taken_parts ts whole i parts run met before after joined other p h = record {
  pieces = pieces_last whole (term_at ts i) parts run met (terms_at ts before) h
      ∙ ap (option_map (λ qs. parts ++ onto_pieces (word_piece run) qs))
      (ap (λ o. joined_before o (stacked (terms_at ts before) (Some [])))
      (joined_parts (term_at ts i) joined other
      ∙ ap (λ us. option_map concatenation (all_pieces us)) (sym p.are))
      ∙ (sym (stacked_parts ts before p.numbers (Some []))
      ∙ ap (λ js. stacked (terms_at ts js) (Some [])) (sym p.behind)));
  once = h.once;
  were_met = h.were_met;
  written = h.written;
  run_written = h.run_written;
}

-- what is no word, no constant and no concatenation
pub other_none : (t : Term) → is_text t ≡ false → is_text_constant t ≡ false → is_joined t ≡ false
    → pieces_of t ≡ None
other_none (constant serial text) h k j = absurd (false≢true (sym k))
other_none (word w) h k j = absurd (false≢true (sym h))
other_none (apply symbol.str_concat terms) h k j = absurd (false≢true (sym j))
other_none _ h k j = refl

-- The end.

pub taken_end : (whole : Term) (parts now : List Piece) (run met : List ℕ) (left : List Term)
    → Taking whole parts run met left → length left ≡ 0 → now ≡ parts ++ spelled run
    → (Some now ≡ single_pieces whole) × (are_written now ≡ true)
taken_end whole parts now run met [] h none e = rw e (
  sym (ap (option_and_then (λ ps. if are_single ps then Some ps else None)) h.pieces
      ∙ ap (λ (b : Bool). if b then Some (parts ++ spelled run) else None)
      (single_constants (parts ++ spelled run) ∙ (ap stand_once (with_run parts run) ∙ h.once))),
  all_append is_written parts (spelled run) h.written (spelled_written run h.run_written),
)
taken_end whole parts now run met (t ∷ left) h none e = absurd (omega (arith, none))

-- What the code puts behind the pieces.

pub put_part : (parts now : List Part) (p : Part) → now ≡ parts ++ p ∷ []
    → parts_in now ≡ parts_in parts ++ piece_in p ∷ []
put_part parts now p e = ap parts_in e ∙ map-append piece_in parts (p ∷ [])

-- the letters behind them: none, or some
no_items : (w : List ℕ) → length w ≡ 0 → w ≡ []
no_items [] h = refl
no_items (c ∷ w) h = absurd (omega (arith, h))

pub run_none : (run : Vec ℕ Global) (empty : Bool) → empty ≡ (vec_len run == 0) → empty ≡ true → run.items ≡ []
run_none run empty e h =
    let none = same_number (vec_len run) 0 (sym e ∙ h) in
    no_items run.items (omega (arith, run.ok.0, none))

pub run_stays : (parts : List Part) (run : List ℕ) → run ≡ [] → parts_in parts ≡ parts_in parts ++ spelled run
run_stays parts run none = sym (append-nil (parts_in parts)) ∙ ap (λ w. parts_in parts ++ spelled w) (sym none)

as_piece : (w : List ℕ) (n : ℕ) → length w ≡ n → (n == 0) ≡ false → word_piece w ∷ [] ≡ spelled w
as_piece [] n e h = absurd (false≢true (sym (ap (λ m. m == 0) e ∙ h)))
as_piece (c ∷ w) n e h = refl

pub run_put : (parts now : List Part) (run codes : Vec ℕ Global) → codes.items ≡ run.items → (empty : Bool)
    → empty ≡ (vec_len run == 0) → empty ≡ false → now ≡ parts ++ part.Word codes ∷ []
    → parts_in now ≡ parts_in parts ++ spelled run.items
run_put parts now run codes same empty e some put =
    put_part parts now (part.Word codes) put
    ∙ (ap (λ w. parts_in parts ++ word_piece w ∷ []) same
    ∙ ap (λ ps. parts_in parts ++ ps)
    (as_piece run.items (vec_len run) (omega (arith, run.ok.0)) (sym e ∙ some)))

-- whether a number was in the set
pub not_new : (ks : List ℕ) (n : ℕ) (added : Bool) → added ≡ not (list_any (λ k. is_eq (nat_cmp n k)) ks)
    → added ≡ false → has ks n ≡ true
not_new ks n added e h = sym (set_has ks n) ∙ was (list_any (λ k. is_eq (nat_cmp n k)) ks) (sym e ∙ h)
  where
    was : (b : Bool) → not b ≡ false → b ≡ true
    was true h = refl
    was false h = absurd (false≢true (sym h))

pub is_new : (ks : List ℕ) (n : ℕ) (added : Bool) → added ≡ not (list_any (λ k. is_eq (nat_cmp n k)) ks)
    → added ≡ true → has ks n ≡ false
is_new ks n added e h = sym (set_has ks n) ∙ was (list_any (λ k. is_eq (nat_cmp n k)) ks) (sym e ∙ h)
  where
    was : (b : Bool) → not b ≡ true → b ≡ false
    was true h = absurd (false≢true h)
    was false h = refl

-- The first one alone, and none.

pub below_one : (n i : ℕ) (left : List ℕ) → i < n → left ≡ i ∷ [] → list_all (λ j. nat_lt j n) left ≡ true
below_one n i left l e =
    ap (list_all (λ j. nat_lt j n)) e ∙ and_from (nat_lt i n) true (lt-ltb i n l) refl

pub none_at : (ts : List Term) (is : List ℕ) → length is ≡ 0 → length (terms_at ts is) ≡ 0
none_at ts [] h = refl
none_at ts (i ∷ is) h = absurd (omega (arith, h))

-- the last one, and the others
pub last_below : (n : ℕ) (left rest : List ℕ) (i : ℕ) → left ≡ rest ++ i ∷ []
    → list_all (λ j. nat_lt j n) left ≡ true → (list_all (λ j. nat_lt j n) rest ≡ true) × (i < n)
last_below n left rest i e h =
    let parts = all_last (λ j. nat_lt j n) rest i (subst (λ js. list_all (λ j. nat_lt j n) js ≡ true) e h) in
    (parts.0, ltb-true i n parts.1)

-- the constant that was found, or not
pub constant_found : (t : Term) (found : Option Serial) (serial : Serial)
    → MatchOption found (is_text_constant t ≡ false) (λ s. t ≡ constant s.0 text) → found ≡ Some serial
    → t ≡ constant serial.0 text
constant_found t found serial h e = rw e at h

pub constant_missed : (t : Term) (found : Option Serial)
    → MatchOption found (is_text_constant t ≡ false) (λ s. t ≡ constant s.0 text) → found ≡ None
    → is_text_constant t ≡ false
constant_missed t found h e = rw e at h
