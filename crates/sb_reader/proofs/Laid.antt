-- Forms in memory: what their nodes and bytes are read as.
use Rattle.std.proofs.Common.{◌≡◌, ℕ, zero, suc, ◌+◌, ◌-◌, ◌==◌, ◌≤◌, ◌<◌, List, [], ◌∷◌, ◌++◌, length, take, drop, get_or, length-append, length-drop, sym, refl, ap, ◌∙◌, arith}
use Rattle.std.proofs.Math.Seq.{take-append_seam, drop-append_seam}
use Rattle.std.proofs.lemmas.Bool.{ne_eqb}
use Rattle.std.proofs.lemmas.List.{append-nil, length-take, take_all}
use Rattle.sb_reader.specs.declared.sexpr.Sexpr.{Sexpr}
use Rattle.sb_reader.specs.declared.sexpr.Shapes.{Shapes}
use Rattle.sb_reader.specs.declared.sexpr.Node.{Node}
use Rattle.sb_reader.specs.declared.sexpr.Node.TheVariants as node
use Rattle.sb_reader.specs.declared.sexpr.Kind.{Kind}
use Rattle.sb_reader.specs.declared.sexpr.Kind.TheVariants as kind
use Rattle.sb_reader.specs.Forms.{Form, Forms, Symbol, QuotedSymbol, Keyword, Numeral, OtherNumber, Words, Group, none, more, atom_of, read_nodes, first_of, form_of, is_none, shapes_in}
use Rattle.sb_reader.specs.Parsing.{nodes_of, nodes_of_all, bytes_of, bytes_of_all}

both : {A B C : Type 0} (f : A → B → C) {a b : A} {x y : B} → a ≡ b → x ≡ y → f a x ≡ f b y
both f p q = λ j. f (p j) (q j)

-- any number that is large enough
pub enough : (n m : ℕ) (nodes : List Node) (bytes : List ℕ) → length nodes ≤ n → length nodes ≤ m
    → read_nodes n nodes bytes ≡ read_nodes m nodes bytes
unfolding read_nodes
enough zero zero nodes bytes p q = refl
enough zero (suc m) [] bytes p q = refl
enough zero (suc m) (x ∷ nodes) bytes p q = absurd (omega arith)
enough (suc n) zero [] bytes p q = refl
enough (suc n) zero (x ∷ nodes) bytes p q = absurd (omega arith)
enough (suc n) (suc m) [] bytes p q = refl
enough (suc n) (suc m) (node.Atom kind count ∷ nodes) bytes p q =
    ap (more (atom_of kind (take count bytes))) (enough n m nodes (drop count bytes) (omega arith) (omega arith))
enough (suc n) (suc m) (node.List count size ∷ nodes) bytes p q =
    both (λ inside others. more (Group inside) others)
    (enough n m (take count nodes) (take size bytes) (omega (arith, length-take count nodes))
    (omega (arith, length-take count nodes)))
    (enough n m (drop count nodes) (drop size bytes) (omega (arith, length-drop count nodes))
    (omega (arith, length-drop count nodes)))

behind_is : (x : Node) (nodes : List Node) → take (length (x ∷ nodes) - 1) (drop 1 (x ∷ nodes)) ≡ nodes
behind_is x nodes = take_all (length (x ∷ nodes) - 1) nodes (omega arith)

pub no_first : (nodes : List Node) (bytes : List ℕ) → length nodes < 1 → read_nodes (length nodes) nodes bytes ≡ none
unfolding read_nodes
no_first [] bytes empty = refl
no_first (x ∷ nodes) bytes empty = absurd (omega arith)

-- the first form is an atom
pub first_atom : (nodes : List Node) (bytes front back : List ℕ) (first : Node) (kind : Kind) (count : ℕ) (form : Form)
    → 1 ≤ length nodes → get_or nodes 0 first ≡ node.Atom kind count → front ≡ take count bytes
    → back ≡ drop count bytes → form ≡ atom_of kind front → read_nodes (length nodes) nodes bytes
    ≡ more form
    (read_nodes (length (take (length nodes - 1) (drop 1 nodes))) (take (length nodes - 1) (drop 1 nodes)) back)
unfolding read_nodes
first_atom [] bytes front back first kind count form some is front_is back_is form_is = absurd (omega arith)
first_atom (x ∷ nodes) bytes front back first kind count form some is front_is back_is form_is =
    ap (λ y. read_nodes (suc (length nodes)) (y ∷ nodes) bytes) is
    ∙ both (λ f bs. more f (read_nodes (length nodes) nodes bs))
    (ap (atom_of kind) (sym front_is) ∙ sym form_is) (sym back_is)
    ∙ ap (λ ns. more form (read_nodes (length ns) ns back)) (sym (behind_is x nodes))

-- the first form is a list
pub first_list : (nodes inside others : List Node) (bytes front back : List ℕ) (first : Node) (count size : ℕ)
    → 1 ≤ length nodes → get_or nodes 0 first ≡ node.List count size
    → inside ≡ take count (take (length nodes - 1) (drop 1 nodes))
    → others ≡ drop count (take (length nodes - 1) (drop 1 nodes)) → front ≡ take size bytes → back ≡ drop size bytes
    → read_nodes (length nodes) nodes bytes
    ≡ more (Group (read_nodes (length inside) inside front)) (read_nodes (length others) others back)
unfolding read_nodes
first_list [] inside others bytes front back first count size some is i o f b = absurd (omega arith)
first_list (x ∷ nodes) inside others bytes front back first count size some is i o f b =
    let i' : inside ≡ take count nodes = i ∙ ap (take count) (behind_is x nodes) in
    let o' : others ≡ drop count nodes = o ∙ ap (drop count) (behind_is x nodes) in
    let fewer : length inside ≤ length nodes = omega (arith, ap length i', length-take count nodes) in
    let less : length others ≤ length nodes = omega (arith, ap length o', length-drop count nodes) in
    ap (λ y. read_nodes (suc (length nodes)) (y ∷ nodes) bytes) is
    ∙ both (λ xs ys. more (Group (read_nodes (length nodes) xs (take size bytes)))
    (read_nodes (length nodes) ys (drop size bytes))) (sym i') (sym o')
    ∙ both (λ xs ys. more (Group (read_nodes (length nodes) inside xs)) (read_nodes (length nodes) others ys))
    (sym f) (sym b)
    ∙ both (λ xs ys. more (Group xs) ys) (enough (length nodes) (length inside) inside front fewer (omega arith))
    (enough (length nodes) (length others) others back less (omega arith))

-- an atom in front
atom_front : (n : ℕ) (kind : Kind) (name : List ℕ) (nodes : List Node) (bytes : List ℕ)
    → read_nodes (suc n) (node.Atom kind (length name) ∷ nodes) (name ++ bytes)
    ≡ more (atom_of kind name) (read_nodes n nodes bytes)
unfolding read_nodes
atom_front n kind name nodes bytes =
    both (λ front behind. more (atom_of kind front) (read_nodes n nodes behind)) (take-append_seam name bytes)
    (drop-append_seam name bytes)

-- a list in front
list_front : (n : ℕ) (inside nodes : List Node) (name bytes : List ℕ)
    → read_nodes (suc n) (node.List (length inside) (length name) ∷ (inside ++ nodes)) (name ++ bytes)
    ≡ more (Group (read_nodes n inside name)) (read_nodes n nodes bytes)
unfolding read_nodes
list_front n inside nodes name bytes =
    both (λ xs ys. more (Group (read_nodes n xs (take (length name) (name ++ bytes))))
    (read_nodes n ys (drop (length name) (name ++ bytes)))) (take-append_seam inside nodes)
    (drop-append_seam inside nodes)
    ∙ both (λ xs ys. more (Group (read_nodes n inside xs)) (read_nodes n nodes ys)) (take-append_seam name bytes)
    (drop-append_seam name bytes)

some_nodes : (form : Form) (nodes : List Node) → length nodes + 1 ≤ length (nodes_of form ++ nodes)
some_nodes (Symbol name) nodes = omega arith
some_nodes (QuotedSymbol name) nodes = omega arith
some_nodes (Keyword name) nodes = omega arith
some_nodes (Numeral name) nodes = omega arith
some_nodes (OtherNumber name) nodes = omega arith
some_nodes (Words name) nodes = omega arith
some_nodes (Group forms) nodes = omega (arith, length-append (nodes_of_all forms) nodes)

-- forms that are laid in memory are read as they were
mutual
  unfolding read_nodes

  read_first : (n : ℕ) (form : Form) (nodes : List Node) (bytes : List ℕ) → length (nodes_of form ++ nodes) ≤ suc n
      → read_nodes (suc n) (nodes_of form ++ nodes) (bytes_of form ++ bytes) ≡ more form (read_nodes n nodes bytes)
  read_first n (Symbol name) nodes bytes fits = atom_front n kind.Symbol name nodes bytes
  read_first n (QuotedSymbol name) nodes bytes fits = atom_front n kind.QuotedSymbol name nodes bytes
  read_first n (Keyword name) nodes bytes fits = atom_front n kind.Keyword name nodes bytes
  read_first n (Numeral name) nodes bytes fits = atom_front n kind.Numeral name nodes bytes
  read_first n (OtherNumber name) nodes bytes fits = atom_front n kind.OtherNumber name nodes bytes
  read_first n (Words name) nodes bytes fits = atom_front n kind.Text name nodes bytes
  read_first n (Group forms) nodes bytes fits =
      list_front n (nodes_of_all forms) nodes (bytes_of_all forms) bytes
      ∙ ap (λ inside. more (Group inside) (read_nodes n nodes bytes))
      (read_laid n forms (omega (arith, length-append (nodes_of_all forms) nodes)))

  pub read_laid : (n : ℕ) (forms : Forms) → length (nodes_of_all forms) ≤ n
      → read_nodes n (nodes_of_all forms) (bytes_of_all forms) ≡ forms
  read_laid zero none fits = refl
  read_laid (suc n) none fits = refl
  read_laid zero (more form forms) fits = absurd (omega (arith, some_nodes form (nodes_of_all forms)))
  read_laid (suc n) (more form forms) fits =
      read_first n form (nodes_of_all forms) (bytes_of_all forms) fits
      ∙ ap (more form) (read_laid n forms (omega (arith, some_nodes form (nodes_of_all forms))))

-- the form of an entry, by the row of all its nodes
pub form_is : (form : Sexpr) (shapes : Shapes) → shapes.nodes.now ≡ form.nodes.items
    → shapes.bytes.now ≡ form.bytes.items → form_of form ≡ first_of (shapes_in shapes)
unfolding form_of shapes_in
form_is form shapes nodes bytes =
    both (λ ns bs. first_of (read_nodes (length ns) ns bs)) (sym nodes) (sym bytes)

-- a list that is laid in memory is that form
pub laid_is : (form : Sexpr) (forms : Forms) → form.nodes.items ≡ nodes_of (Group forms)
    → form.bytes.items ≡ bytes_of (Group forms) → form_of form ≡ Group forms
unfolding form_of
laid_is form forms nodes bytes =
    both (λ ns bs. first_of (read_nodes (length ns) ns bs)) nodes bytes
    ∙ ap first_of (ap (λ ns. read_nodes (length (nodes_of (Group forms))) ns (bytes_of_all forms))
    (sym (append-nil (nodes_of (Group forms))))
    ∙ ap (λ bs. read_nodes (length (nodes_of (Group forms))) (nodes_of (Group forms) ++ []) bs)
    (sym (append-nil (bytes_of_all forms)))
    ∙ read_first (length (nodes_of_all forms)) (Group forms) [] []
    (omega (arith, length-append (nodes_of (Group forms)) [])))

-- a row of nodes has no form where it is empty
pub none_laid : (nodes : List Node) (bytes : List ℕ)
    → (length nodes == 0) ≡ is_none (read_nodes (length nodes) nodes bytes)
unfolding read_nodes
none_laid [] bytes = refl
none_laid (node.Atom kind count ∷ nodes) bytes = ne_eqb (suc (length nodes)) 0 (λ e. omega arith)
none_laid (node.List count size ∷ nodes) bytes = ne_eqb (suc (length nodes)) 0 (λ e. omega arith)
