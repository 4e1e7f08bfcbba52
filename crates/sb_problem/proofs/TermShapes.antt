-- Terms by their shape, as the code takes them apart.
use Rattle.std.proofs.Common.{◌≡◌, ℕ, ◌≤◌, ◌<◌, true, false, ◌&&◌, List, [], ◌∷◌, length, get_or, refl, sym, ap, subst, ◌∙◌, arith, Option, Some, Result, IfOk}
use Rattle.std.proofs.lemmas.Bool.{and_from, false≢true}
use Rattle.std.proofs.lemmas.List.{length-map}
use Rattle.std.proofs.Math.Bool.{and-false}
use Rattle.std.specs.declared.vec.Vec.{Vec}
use Rattle.std.specs.declared.alloc.Global.{Global}
use Rattle.sb_lang.specs.Regex.{Regex}
use Rattle.sb_lang.specs.Normal.{word_regex, range_regex}
use Rattle.sb_regex.specs.Numbered.{Names}
use Rattle.sb_word.specs.Words.{IsWord}
use Rattle.sb_term.specs.declared.sort.Symbol.TheVariants as code_symbol
use Rattle.sb_term.specs.declared.term.Term as code
use Rattle.sb_term.specs.declared.term.Term.TheVariants as node
use Rattle.sb_term.specs.Nodes.{node_term, IsWritten}
use Rattle.sb_term.specs.Numbered.{term_at, terms_at}
use Rattle.sb_meaning.specs.Terms.{Term, word, apply, terms_of, str_to_re, re_range}
use Rattle.sb_script.specs.Brought.{is_regex, is_text, are_texts}
use Rattle.sb_problem.specs.declared.normals.Known.TheVariants as known
use Rattle.sb_problem.specs.Known.{IsKnown}
use Rattle.sb_problem.specs.Patterns.{literal_of}
use Rattle.sb_problem.specs.Shapes.{IsNumbered, arguments_in}
use Rattle.sb_problem.specs.Words.{letters_of, letters_of_each, up_to_limit, AreLetters}

-- lists of one and of two
pub one_list : (xs : List ℕ) (a : ℕ) → 1 ≤ length xs → length xs < 2 → a ≡ get_or xs 0 a → xs ≡ a ∷ []
one_list [] a low high first = absurd (omega arith)
one_list (x ∷ []) a low high first = rw first refl
one_list (x ∷ y ∷ xs) a low high first = absurd (omega arith)

pub two_list : (xs : List ℕ) (a b : ℕ) → 2 ≤ length xs → length xs < 3 → a ≡ get_or xs 0 a → b ≡ get_or xs 1 b
    → xs ≡ a ∷ b ∷ []
two_list [] a b low high first second = absurd (omega arith)
two_list (x ∷ []) a b low high first second = absurd (omega arith)
two_list (x ∷ y ∷ []) a b low high first second = rw first (rw second refl)
two_list (x ∷ y ∷ z ∷ xs) a b low high first second = absurd (omega arith)

-- the regular expression of a word has one argument
word_not_one_term : (xs : List Term) → (length xs ≡ 1 → ⊥) → is_regex (apply str_to_re (terms_of xs)) ≡ false
word_not_one_term [] h = refl
word_not_one_term (a ∷ []) h = absurd (h refl)
word_not_one_term (a ∷ b ∷ xs) h = refl

pub word_not_one : (ts : List Term) (ids : List ℕ) → (length ids ≡ 1 → ⊥)
    → is_regex (apply str_to_re (terms_of (terms_at ts ids))) ≡ false
word_not_one ts ids h = word_not_one_term (terms_at ts ids) (λ e. h (sym (length-map ids (term_at ts)) ∙ e))

pub word_of_one : {E : Type 0} (rs : List Regex) (ts : List Term) (ids : List ℕ) (a : ℕ)
    (found : Result (Option ℕ) E) → ids ≡ a ∷ [] → IfOk found (λ o. IsNumbered rs (literal_of (term_at ts a)) o)
    → IfOk found (λ o. IsNumbered rs (apply str_to_re (terms_of (terms_at ts ids))) o)
word_of_one rs ts ids a found is h = rw is h

-- the letters of a word, as its regular expression
pub word_found : (rs : List Regex) (t : Term) (letters codes : List ℕ) (id : ℕ) → AreLetters t letters
    → codes ≡ letters → Names rs id (word_regex codes) → IsNumbered rs (literal_of t) (Some id)
word_found rs t letters codes id h same names =
    (h.kind, subst (λ w. Names rs id (word_regex w)) (same ∙ h.are) names)

-- the word of a node
pub word_of_node : (ts : List Term) (d : code.Term) (w : Vec _ Global) (a : ℕ) → node_term ts d ≡ term_at ts a
    → d ≡ node.Word w → term_at ts a ≡ word w.items
word_of_node ts d w a value is = sym value ∙ ap (node_term ts) is

pub written_word : (d : code.Term) (w : Vec _ Global) → d ≡ node.Word w → IsWritten d → IsWord w.items
written_word d w is h = rw is at h

pub word_known : (rs : List Regex) (ts : List Term) (d : code.Term) (w : Vec _ Global) (a count : ℕ)
    → node_term ts d ≡ term_at ts a → d ≡ node.Word w → count ≡ up_to_limit (length w.items)
    → IsKnown rs (term_at ts a) (known.Text count)
word_known rs ts d w a count value is e = rw (word_of_node ts d w a value is) (refl, e)

-- what is no word, and has no arguments
node_other : (ts : List Term) (d : code.Term) → ((w : Vec _ Global) → d ≡ node.Word w → ⊥)
    → ((s : _) (arguments : _) → d ≡ node.Apply s arguments → ⊥)
    → (is_regex (node_term ts d) ≡ false) × (is_text (node_term ts d) ≡ false)
node_other ts (node.Constant serial sort) h k = (refl, refl)
node_other ts (node.Word w) h k = absurd (h w refl)
node_other ts (node.Numeral n) h k = (refl, refl)
node_other ts (node.Apply s arguments) h k = absurd (k s arguments refl)
node_other ts (node.Parameter place sort) h k = (refl, refl)

pub other_known : (rs : List Regex) (ts : List Term) (d : code.Term) (a : ℕ) → node_term ts d ≡ term_at ts a
    → ((w : Vec _ Global) → d ≡ node.Word w → ⊥) → ((s : _) (arguments : _) → d ≡ node.Apply s arguments → ⊥)
    → IsKnown rs (term_at ts a) known.Other
other_known rs ts d a value h k = subst (λ t. IsKnown rs t known.Other) value (node_other ts d h k)

-- a word that is no literal has those of its parts
node_parts : (ts : List Term) (d : code.Term) → ((w : Vec _ Global) → d ≡ node.Word w → ⊥)
    → is_text (node_term ts d) ≡ true → (are_texts (arguments_in (node_term ts d)) ≡ true)
    × (letters_of (node_term ts d) ≡ letters_of_each (arguments_in (node_term ts d)))
node_parts ts (node.Constant serial sort) other h = absurd (false≢true h)
node_parts ts (node.Word w) other h = absurd (other w refl)
node_parts ts (node.Numeral n) other h = absurd (false≢true h)
node_parts ts (node.Apply code_symbol.StrConcat arguments) other h = (h, refl)
node_parts ts (node.Apply s arguments) other h = absurd (false≢true h)
node_parts ts (node.Parameter place sort) other h = absurd (false≢true h)

pub text_parts : (ts : List Term) (d : code.Term) (a : ℕ) → node_term ts d ≡ term_at ts a
    → ((w : Vec _ Global) → d ≡ node.Word w → ⊥) → is_text (term_at ts a) ≡ true
    → (are_texts (arguments_in (term_at ts a)) ≡ true)
    × (letters_of (term_at ts a) ≡ letters_of_each (arguments_in (term_at ts a)))
text_parts ts d a value other h =
    subst (λ t. is_text t ≡ true
    → (are_texts (arguments_in t) ≡ true) × (letters_of t ≡ letters_of_each (arguments_in t))) value
    (node_parts ts d other) h

-- a range has two, and both are words
range_not_two_terms : (xs : List Term) → (length xs ≡ 2 → ⊥) → is_regex (apply re_range (terms_of xs)) ≡ false
range_not_two_terms [] h = refl
range_not_two_terms (a ∷ []) h = refl
range_not_two_terms (a ∷ b ∷ []) h = absurd (h refl)
range_not_two_terms (a ∷ b ∷ d ∷ xs) h = refl

pub range_not_two : (ts : List Term) (ids : List ℕ) → (length ids ≡ 2 → ⊥)
    → is_regex (apply re_range (terms_of (terms_at ts ids))) ≡ false
range_not_two ts ids h = range_not_two_terms (terms_at ts ids) (λ e. h (sym (length-map ids (term_at ts)) ∙ e))

pub range_first_other : (ts : List Term) (ids : List ℕ) (a b : ℕ) → ids ≡ a ∷ b ∷ []
    → is_text (term_at ts a) ≡ false → is_regex (apply re_range (terms_of (terms_at ts ids))) ≡ false
range_first_other ts ids a b is other = rw is (ap (λ c. c && is_text (term_at ts b)) other)

pub range_second_other : (ts : List Term) (ids : List ℕ) (a b : ℕ) → ids ≡ a ∷ b ∷ []
    → is_text (term_at ts b) ≡ false → is_regex (apply re_range (terms_of (terms_at ts ids))) ≡ false
range_second_other ts ids a b is other =
    rw is (ap (λ c. is_text (term_at ts a) && c) other ∙ and-false (is_text (term_at ts a)))

pub range_found : (rs : List Regex) (ts : List Term) (ids from to v w : List ℕ) (a b id : ℕ) → ids ≡ a ∷ b ∷ []
    → AreLetters (term_at ts a) v → AreLetters (term_at ts b) w → from ≡ v → to ≡ w →
    Names rs id (range_regex from to) → IsNumbered rs (apply re_range (terms_of (terms_at ts ids))) (Some id)
range_found rs ts ids from to v w a b id is first second same same' names = rw is (
  and_from (is_text (term_at ts a)) (is_text (term_at ts b)) first.kind second.kind,
  subst (λ u. Names rs id (range_regex (letters_of (term_at ts a)) u)) (same' ∙ second.are)
      (subst (λ u. Names rs id (range_regex u to)) (same ∙ first.are) names),
)
