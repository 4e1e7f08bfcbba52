-- The size of a form, by which reading ends.
use Rattle.std.proofs.Common.{◌≡◌, ℕ, ◌+◌, ◌<◌, ◌≤◌, Option, Some, None, ap, arith}
use Rattle.std.proofs.lemmas.Option.{same_Some}
use Rattle.sb_reader.specs.Forms.{Form, Forms, Symbol, QuotedSymbol, Keyword, Numeral, OtherNumber, Words, Group, none, more}
use Rattle.sb_script.specs.Names.{Name}
use Rattle.sb_sorts.specs.Binding.{others_of, symbol_of, named_value, binding_of}

-- how many forms there are in a form
mutual
  pub size : Form → ℕ
  size (Symbol name) = 1
  size (QuotedSymbol name) = 1
  size (Keyword name) = 1
  size (Numeral digits) = 1
  size (OtherNumber bytes) = 1
  size (Words bytes) = 1
  size (Group forms) = size_of_all forms + 1

  pub size_of_all : Forms → ℕ
  size_of_all none = 0
  size_of_all (more form forms) = size form + size_of_all forms

pub size_of_list : (form : Form) (forms : Forms) → form ≡ Group forms → size form ≡ size_of_all forms + 1
unfolding size size_of_all
size_of_list form forms is = ap size is

pub size_of_more : (all : Forms) (form : Form) (forms : Forms) → all ≡ more form forms
    → size_of_all all ≡ size form + size_of_all forms
unfolding size size_of_all
size_of_more all form forms is = ap size_of_all is

pub some_size : (form : Form) → 1 ≤ size form
unfolding size size_of_all
some_size (Symbol name) = omega arith
some_size (QuotedSymbol name) = omega arith
some_size (Keyword name) = omega arith
some_size (Numeral digits) = omega arith
some_size (OtherNumber bytes) = omega arith
some_size (Words bytes) = omega arith
some_size (Group forms) = omega arith

-- the bindings and the body of a let
pub size_of_let : (forms bindings : Forms) (body : Form) → others_of forms ≡ more (Group bindings) (more body none)
    → size_of_all bindings + size body + 2 ≤ size_of_all forms
unfolding size size_of_all
size_of_let none bindings body is = absurd (Prim.cc (is))
size_of_let (more first others) bindings body is = omega (arith, ap size_of_all is, some_size first)

-- the value of a binding
pub size_of_value : (form : Form) (name : Name) (value : Form) → Some (name, value) ≡ binding_of form
    → size value < size form
unfolding size size_of_all
size_of_value (Symbol w) name value e = absurd (Prim.cc (e))
size_of_value (QuotedSymbol w) name value e = absurd (Prim.cc (e))
size_of_value (Keyword w) name value e = absurd (Prim.cc (e))
size_of_value (Numeral w) name value e = absurd (Prim.cc (e))
size_of_value (OtherNumber w) name value e = absurd (Prim.cc (e))
size_of_value (Words w) name value e = absurd (Prim.cc (e))
size_of_value (Group none) name value e = absurd (Prim.cc (e))
size_of_value (Group (more f none)) name value e = absurd (Prim.cc (e))
size_of_value (Group (more f (more g (more h hs)))) name value e = absurd (Prim.cc (e))
size_of_value (Group (more f (more g none))) name value e = step (symbol_of f) e
  where
    step : (o : Option Name) → Some (name, value) ≡ named_value o g → size value < size (Group (more f (more g none)))
    step None e = absurd (Prim.cc (e))
    step (Some w) e =
        let same : value ≡ g = ap (λ (b : Name × Form). b.1) (same_Some (name, value) (w, g) e) in
        omega (arith, ap size same, some_size f)
