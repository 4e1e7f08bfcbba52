-- How the lists that are open lie in memory, after an atom is added, and a list is opened or closed.
use Rattle.std.proofs.Common.{◌≡◌, ℕ, ◌+◌, ◌-◌, ◌==◌, Bool, true, false, List, [], ◌∷◌, ◌++◌, length, length-append, vec_len, sym, refl, ap, ◌∙◌, arith, append_assoc}
use Rattle.std.proofs.Math.ListN.{set}
use Rattle.std.proofs.Math.Seq.{set-append_seam}
use Rattle.std.proofs.lemmas.Bool.{false≢true, eqb-true}
use Rattle.std.proofs.lemmas.List.{append-nil}
use Rattle.sb_reader.specs.declared.parse.OpenLists.{OpenLists}
use Rattle.sb_reader.specs.declared.parse.Mark.{Mark}
use Rattle.sb_reader.specs.declared.sexpr.Node.TheVariants as node
use Rattle.sb_reader.specs.declared.sexpr.Kind.{Kind}
use Rattle.sb_reader.specs.declared.sexpr.Kind.TheVariants as kind
use Rattle.sb_reader.specs.Forms.{Form, Forms, Group, none, more, atom_of}
use Rattle.sb_reader.specs.Parsing.{nodes_of, nodes_of_all, bytes_of, bytes_of_all, pushed, open_nodes, open_bytes, open_marks, IsLaid, AfterClose}

nodes_pushed : (forms : Forms) (form : Form)
    → nodes_of_all (pushed forms form) ≡ nodes_of_all forms ++ nodes_of form
nodes_pushed none form = append-nil (nodes_of form)
nodes_pushed (more first forms) form = ap (λ nodes. nodes_of first ++ nodes) (nodes_pushed forms form)
    ∙ sym (append_assoc (nodes_of first) (nodes_of_all forms) (nodes_of form))

bytes_pushed : (forms : Forms) (form : Form)
    → bytes_of_all (pushed forms form) ≡ bytes_of_all forms ++ bytes_of form
bytes_pushed none form = append-nil (bytes_of form)
bytes_pushed (more first forms) form = ap (λ bytes. bytes_of first ++ bytes) (bytes_pushed forms form)
    ∙ sym (append_assoc (bytes_of first) (bytes_of_all forms) (bytes_of form))

open_nodes_pushed : (forms : Forms) (outer : List Forms) (form : Form)
    → open_nodes (pushed forms form ∷ outer) ≡ open_nodes (forms ∷ outer) ++ nodes_of form
open_nodes_pushed forms outer form =
    ap (λ nodes. open_nodes outer ++ node.List 0 0 ∷ nodes) (nodes_pushed forms form)
    ∙ sym (append_assoc (open_nodes outer) (node.List 0 0 ∷ nodes_of_all forms) (nodes_of form))

open_bytes_pushed : (forms : Forms) (outer : List Forms) (form : Form)
    → open_bytes (pushed forms form ∷ outer) ≡ open_bytes (forms ∷ outer) ++ bytes_of form
open_bytes_pushed forms outer form =
    ap (λ bytes. open_bytes outer ++ bytes) (bytes_pushed forms form)
    ∙ sym (append_assoc (open_bytes outer) (bytes_of_all forms) (bytes_of form))

atom_nodes : (kind : Kind) (bytes : List ℕ) → nodes_of (atom_of kind bytes) ≡ node.Atom kind (length bytes) ∷ []
atom_nodes kind.Symbol bytes = refl
atom_nodes kind.QuotedSymbol bytes = refl
atom_nodes kind.Keyword bytes = refl
atom_nodes kind.Numeral bytes = refl
atom_nodes kind.OtherNumber bytes = refl
atom_nodes kind.Text bytes = refl

atom_bytes : (kind : Kind) (bytes : List ℕ) → bytes_of (atom_of kind bytes) ≡ bytes
atom_bytes kind.Symbol bytes = refl
atom_bytes kind.QuotedSymbol bytes = refl
atom_bytes kind.Keyword bytes = refl
atom_bytes kind.Numeral bytes = refl
atom_bytes kind.OtherNumber bytes = refl
atom_bytes kind.Text bytes = refl

-- an atom joins the innermost list
pub push_laid : (old new : OpenLists) (forms : Forms) (outer : List Forms) (kind : Kind) (bytes : List ℕ) (count : ℕ)
    → IsLaid old (forms ∷ outer) → count ≡ length bytes
    → new.nodes.items ≡ old.nodes.items ++ node.Atom kind count ∷ [] → new.bytes.items ≡ old.bytes.items ++ bytes
    → new.marks.items ≡ old.marks.items → IsLaid new (pushed forms (atom_of kind bytes) ∷ outer)
push_laid old new forms outer kind bytes count laid count_is nodes_are bytes_are marks_are = record {
  nodes = nodes_are ∙ ap (λ n. old.nodes.items ++ node.Atom kind n ∷ []) count_is
      ∙ ap (λ nodes. nodes ++ node.Atom kind (length bytes) ∷ []) laid.nodes
      ∙ ap (λ nodes. open_nodes (forms ∷ outer) ++ nodes) (sym (atom_nodes kind bytes))
      ∙ sym (open_nodes_pushed forms outer (atom_of kind bytes));
  bytes = bytes_are ∙ ap (λ front. front ++ bytes) laid.bytes
      ∙ ap (λ back. open_bytes (forms ∷ outer) ++ back) (sym (atom_bytes kind bytes))
      ∙ sym (open_bytes_pushed forms outer (atom_of kind bytes));
  marks = marks_are ∙ laid.marks;
}

snoc_parts : {A : Type 0} (xs ys : List A) (x y : A) → xs ++ x ∷ [] ≡ ys ++ y ∷ [] → (xs ≡ ys) × (x ≡ y)
snoc_parts [] [] x y e = (refl, cc)
snoc_parts [] (b ∷ ys) x y e = absurd (omega (arith, ap length e, length-append ys (y ∷ [])))
snoc_parts (a ∷ xs) [] x y e = absurd (omega (arith, ap length e, length-append xs (x ∷ [])))
snoc_parts (a ∷ xs) (b ∷ ys) x y e =
    let tails : xs ++ x ∷ [] ≡ ys ++ y ∷ [] = cc in
    let parts = snoc_parts xs ys x y tails in
    let heads : a ≡ b = cc in
    (λ j. heads j ∷ parts.0 j, parts.1)

-- as many lists are open as there are places
pub marks_length : (levels : List Forms) → length (open_marks levels) ≡ length levels
marks_length [] = refl
marks_length (forms ∷ outer) = length-append (open_marks outer) _ ∙ ap (λ n. n + 1) (marks_length outer) ∙ omega arith

module _ (old new : OpenLists) (forms : Forms) (outer : List Forms) (mark : Mark) (count size : ℕ)
    (laid : IsLaid old (forms ∷ outer)) (left : old.marks.items ≡ new.marks.items ++ mark ∷ [])
    (count_is : count ≡ vec_len old.nodes - mark.node - 1) (size_is : size ≡ vec_len old.bytes - mark.byte)
    (nodes_are : new.nodes.items ≡ set old.nodes.items mark.node (node.List count size))
    (bytes_are : new.bytes.items ≡ old.bytes.items) where
  parts : (new.marks.items ≡ open_marks outer)
      × (mark ≡ record { node = length (open_nodes outer); byte = length (open_bytes outer) })
  parts = snoc_parts new.marks.items (open_marks outer) mark _ (sym left ∙ laid.marks)

  count_right : count ≡ length (nodes_of_all forms)
  count_right =
      let at : mark.node ≡ length (open_nodes outer) = ap (λ m. m.node) parts.1 in
      omega (
        arith,
        count_is,
        at,
        old.nodes.ok.0,
        ap length laid.nodes,
        length-append (open_nodes outer) (node.List 0 0 ∷ nodes_of_all forms),
      )

  size_right : size ≡ length (bytes_of_all forms)
  size_right =
      let at : mark.byte ≡ length (open_bytes outer) = ap (λ m. m.byte) parts.1 in
      omega (
        arith,
        size_is,
        at,
        old.bytes.ok.0,
        ap length laid.bytes,
        length-append (open_bytes outer) (bytes_of_all forms),
      )

  filled : new.nodes.items ≡ open_nodes outer ++ nodes_of (Group forms)
  filled = nodes_are
      ∙ (λ j. set (laid.nodes j) ((ap (λ m. m.node) parts.1) j) (node.List (count_right j) (size_right j)))
      ∙ set-append_seam (open_nodes outer) (node.List 0 0) (nodes_of_all forms) _

  bytes_right : new.bytes.items ≡ open_bytes outer ++ bytes_of (Group forms)
  bytes_right = bytes_are ∙ laid.bytes

  left_length : vec_len new.marks ≡ length outer
  left_length = new.marks.ok.0 ∙ ap length parts.0 ∙ marks_length outer

-- a list is closed
pub close_laid : (old new : OpenLists) (forms : Forms) (outer : List Forms) (mark : Mark) (count size : ℕ) (last : Bool)
    → IsLaid old (forms ∷ outer) → old.marks.items ≡ new.marks.items ++ mark ∷ []
    → count ≡ vec_len old.nodes - mark.node - 1 → size ≡ vec_len old.bytes - mark.byte
    → new.nodes.items ≡ set old.nodes.items mark.node (node.List count size) → new.bytes.items ≡ old.bytes.items
    → last ≡ (vec_len new.marks == 0) → AfterClose last forms outer new
close_laid old new forms [] mark count size true laid left c s n b last_is = record {
  outermost = refl;
  nodes = filled old new forms [] mark count size laid left c s n b;
  bytes = bytes_right old new forms [] mark count size laid left c s n b;
}
close_laid old new forms [] mark count size false laid left c s n b last_is =
    absurd (false≢true (last_is ∙ ap (λ k. k == 0) (left_length old new forms [] mark count size laid left c s n b)))
close_laid old new forms (around ∷ others) mark count size true laid left c s n b last_is =
    absurd (let none_left : vec_len new.marks ≡ 0 = eqb-true _ _ (sym last_is) in
    omega (arith, left_length old new forms (around ∷ others) mark count size laid left c s n b))
close_laid old new forms (around ∷ others) mark count size false laid left c s n b last_is = record {
  around = around;
  others = others;
  outer_is = refl;
  laid = record {
    nodes = filled old new forms (around ∷ others) mark count size laid left c s n b
        ∙ sym (open_nodes_pushed around others (Group forms));
    bytes = bytes_right old new forms (around ∷ others) mark count size laid left c s n b
        ∙ sym (open_bytes_pushed around others (Group forms));
    marks = (parts old new forms (around ∷ others) mark count size laid left c s n b).0;
  };
}
