-- The derived test of terms finds the terms of the code that stand for one term.
use Rattle.std.proofs.Common.{◌≡◌, ℕ, suc, Bool, true, false, ◌&&◌, nat_eq, List, [], ◌∷◌, length, refl, sym, ap, ap₂, ◌∙◌, arith}
use Rattle.std.specs.Cmp.Lexicographic.{pointwise, same_text}
use Rattle.std.proofs.lemmas.Bool.{and_parts, false≢true}
use Rattle.sb_meaning.specs.Terms.{Sort, Symbol, Term, Terms, constant, word, numeral, apply, parameter, terms_in, terms_of}
use Rattle.sb_term.specs.declared.term.Term as code
use Rattle.sb_term.specs.declared.term.Term.TheVariants as node
use Rattle.sb_term.specs.contracts.term.TermPartialEq.TheImpl as derived
use Rattle.sb_term.specs.Numbered.{terms_at, AllNumbers, AreDistinct}
use Rattle.sb_term.specs.Nodes.{node_term, ArgumentsBelow}
use Rattle.sb_term.specs.Symbols.{sort_in, symbol_in}
use Rattle.sb_term.proofs.SymbolEq.{same_sort, same_symbol, nat_same, same_nat, one_sort, one_symbol, itself_sort, itself_symbol, sort_same, symbol_same}

abbrev pub same : code.Term → code.Term → Bool
same = derived.ghosts.eq

itself_numbers : (is : List ℕ) → pointwise nat_eq is is ≡ true
itself_numbers [] = refl
itself_numbers (i ∷ is) = ap₂ ◌&&◌ (same_nat i i refl) (itself_numbers is)

terms_in_of : (ts : List Term) → terms_in (terms_of ts) ≡ ts
terms_in_of [] = refl
terms_in_of (t ∷ ts) = ap (λ us. t ∷ us) (terms_in_of ts)

same_terms : (ts us : List Term) → terms_of ts ≡ terms_of us → ts ≡ us
same_terms ts us h = sym (terms_in_of ts) ∙ ap terms_in h ∙ terms_in_of us

pub same_numbers : (ts : List Term) (is js : List ℕ) → AreDistinct ts → AllNumbers ts is → AllNumbers ts js
    → terms_at ts is ≡ terms_at ts js → is ≡ js
same_numbers ts [] [] d p q h = refl
same_numbers ts [] (j ∷ js) d p q h = absurd (nil_not _ _ h)
  where
    nil_not : (x : Term) (xs : List Term) → [] ≡ x ∷ xs → ⊥
    nil_not x xs e = cc
same_numbers ts (i ∷ is) [] d p q h = absurd (not_nil _ _ h)
  where
    not_nil : (x : Term) (xs : List Term) → x ∷ xs ≡ [] → ⊥
    not_nil x xs e = cc
same_numbers ts (i ∷ is) (j ∷ js) d p q h =
    let t = two _ _ _ _ h in
    ap₂ (λ x xs. x ∷ xs)
    (d i j (p 0 0 (omega arith)) (q 0 0 (omega arith)) t.0)
    (same_numbers ts is js d (λ k e l. p (suc k) e (omega (arith, l))) (λ k e l. q (suc k) e (omega (arith, l))) t.1)
  where
    two : (x y : Term) (xs ys : List Term) → x ∷ xs ≡ y ∷ ys → (x ≡ y) × (xs ≡ ys)
    two x y xs ys e = (cc, cc)

-- Terms that the test takes for one stand for one term.

pub same_gives : (ts : List Term) (d e : code.Term) → same d e ≡ true → node_term ts d ≡ node_term ts e
same_gives ts (node.Constant n s) (node.Constant m t) h =
    let p = and_parts (nat_eq n.0 m.0) _ h in
    ap₂ constant (nat_same n.0 m.0 p.0) (ap sort_in (sort_same s t p.1))
same_gives ts (node.Word a) (node.Word b) h = ap word (same_text a.items b.items (sym h))
same_gives ts (node.Numeral n) (node.Numeral m) h = ap numeral (nat_same n m h)
same_gives ts (node.Apply s a) (node.Apply t b) h =
    let p = and_parts (same_symbol s t) _ h in
    ap₂ apply (ap symbol_in (symbol_same s t p.0)) (ap (λ is. terms_of (terms_at ts is)) (same_text a.items b.items (sym p.1)))
same_gives ts (node.Parameter n s) (node.Parameter m t) h =
    let p = and_parts (nat_eq n m) _ h in
    ap₂ parameter (nat_same n m p.0) (ap sort_in (sort_same s t p.1))
same_gives ts _ _ h = absurd (false≢true h)

-- Terms of other kinds, and the parts of equal ones.

abbrev kind : Term → ℕ
kind (constant n s) = 0
kind (word w) = 1
kind (numeral n) = 2
kind (apply s ts) = 3
kind (parameter n s) = 4

other_kinds : (s t : Term) → nat_eq (kind s) (kind t) ≡ false → s ≡ t → ⊥
other_kinds s t h e = false≢true (sym h ∙ same_nat (kind s) (kind t) (ap kind e))

constant_parts : (n m : ℕ) (s t : Sort) → constant n s ≡ constant m t → (n ≡ m) × (s ≡ t)
constant_parts n m s t e = (cc, cc)

parameter_parts : (n m : ℕ) (s t : Sort) → parameter n s ≡ parameter m t → (n ≡ m) × (s ≡ t)
parameter_parts n m s t e = (cc, cc)

word_part : (v w : List ℕ) → word v ≡ word w → v ≡ w
word_part v w e = cc

numeral_part : (n m : ℕ) → numeral n ≡ numeral m → n ≡ m
numeral_part n m e = cc

apply_parts : (s t : Symbol) (a b : Terms) → apply s a ≡ apply t b → (s ≡ t) × (a ≡ b)
apply_parts s t a b e = (cc, cc)

-- The test finds terms of the code for one term.

pub gives_same : (ts : List Term) (d e : code.Term) → AreDistinct ts → ArgumentsBelow (length ts) d
    → ArgumentsBelow (length ts) e → node_term ts d ≡ node_term ts e → same d e ≡ true
gives_same ts (node.Constant n s) (node.Constant m t) u p q h =
    let e = constant_parts _ _ _ _ h in
    ap₂ ◌&&◌ (same_nat n.0 m.0 e.0) (ap (same_sort s) (sym (one_sort s t e.1)) ∙ itself_sort s)
gives_same ts (node.Word a) (node.Word b) u p q h =
    ap (λ xs. pointwise nat_eq a.items xs) (sym (word_part _ _ h)) ∙ itself_numbers a.items
gives_same ts (node.Numeral n) (node.Numeral m) u p q h = same_nat n m (numeral_part _ _ h)
gives_same ts (node.Apply s a) (node.Apply t b) u p q h =
    let e = apply_parts _ _ _ _ h in
    ap₂ ◌&&◌ (ap (same_symbol s) (sym (one_symbol s t e.0)) ∙ itself_symbol s)
    (ap (λ xs. pointwise nat_eq a.items xs) (sym (same_numbers ts a.items b.items u p q (same_terms _ _ e.1)))
    ∙ itself_numbers a.items)
gives_same ts (node.Parameter n s) (node.Parameter m t) u p q h =
    let e = parameter_parts _ _ _ _ h in
    ap₂ ◌&&◌ (same_nat n m e.0) (ap (same_sort s) (sym (one_sort s t e.1)) ∙ itself_sort s)
gives_same ts d e u p q h = absurd (other_kinds _ _ refl h)
