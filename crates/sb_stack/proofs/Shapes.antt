-- The shapes of commands, by their forms.
use Rattle.std.proofs.Common.{◌≡◌, ℕ, ◌+◌, Bool, true, false, not, ◌&&◌, if◌then◌else◌, List, [], ◌∷◌, length, Option, Some, None, is_some, option_map, option_and_then, option_copied, Bor, refl, ap, sym, ◌∙◌, arith}
use Rattle.std.specs.List.{list_all}
use Rattle.sb_reader.specs.Forms.{Form, Forms, Symbol, QuotedSymbol, Group, none, more, is_none, only_of, pair_of}
use Rattle.sb_script.specs.Commands as meaning
use Rattle.sb_script.specs.Errors as error
use Rattle.sb_script.specs.State.{State}
use Rattle.sb_script.specs.Replies as reply
use Rattle.sb_script.specs.Replies.{Effect}
use Rattle.sb_stack.specs.Commands.{keyword_in}

-- what is made of the two forms that are there
abbrev pub of_pair : (Form → Form → Option Effect) → Option (Form × Form) → Option Effect
of_pair make None = None
of_pair make (Some (first, second)) = make first second

-- the first form is smaller than all
pub fewer_behind : (all : Forms) (form : Form) (forms : Forms) → all ≡ more form forms
    → length (meaning.list_of forms) + 1 ≡ length (meaning.list_of all)
fewer_behind all form forms is = omega (arith, ap (λ fs. length (meaning.list_of fs)) is)

-- a parameter is a name with a sort
abbrev pub name_and_sort : Option (Form × Form) → Bool
name_and_sort None = false
name_and_sort (Some (name, sort)) = is_some (meaning.declarable name) && meaning.is_sort_form sort

one_is_no_parameter : (f : Form) → meaning.is_parameter (Group (more f none)) ≡ false
one_is_no_parameter (Group x) = refl
one_is_no_parameter _ = refl

reserved_or_not : (r s : Bool) (name : List ℕ) → (not r && s) ≡ is_some (if r then None else Some name) && s
reserved_or_not true s name = refl
reserved_or_not false s name = refl

two_are_parameter : (f g : Form)
    → meaning.is_parameter (Group (more f (more g none))) ≡ is_some (meaning.declarable f) && meaning.is_sort_form g
two_are_parameter (Symbol name) g = reserved_or_not _ (meaning.is_sort_form g) name
two_are_parameter _ g = refl

three_are_no_parameter : (f g h : Form) (fs : Forms)
    → meaning.is_parameter (Group (more f (more g (more h fs)))) ≡ false
three_are_no_parameter (Group x) g h fs = refl
three_are_no_parameter _ g h fs = refl

pub parameter_of_pair : (forms : Forms) → meaning.is_parameter (Group forms) ≡ name_and_sort (pair_of forms)
parameter_of_pair none = refl
parameter_of_pair (more f none) = one_is_no_parameter f
parameter_of_pair (more f (more g none)) = two_are_parameter f g
parameter_of_pair (more f (more g (more h fs))) = three_are_no_parameter f g h fs

pub constant_of_pair : (make : List ℕ → Form → Effect) (forms : Forms)
    → meaning.constant_shape make (meaning.list_of forms)
    ≡ of_pair (λ f g. meaning.constant_shape make (f ∷ g ∷ [])) (pair_of forms)
constant_of_pair make none = refl
constant_of_pair make (more f none) = refl
constant_of_pair make (more f (more g none)) = refl
constant_of_pair make (more f (more g (more h fs))) = refl

module _ (make : List ℕ → List Form → Form → Effect) where
  two_of_function : (name f : Form) → meaning.function_shape make (name ∷ f ∷ []) ≡ None
  two_of_function name (Group x) = refl
  two_of_function name _ = refl

  four_of_function : (name f g h : Form) (fs : List Form) → meaning.function_shape make (name ∷ f ∷ g ∷ h ∷ fs) ≡ None
  four_of_function name (Group x) g h fs = refl
  four_of_function name _ g h fs = refl

  pub function_of_pair : (name : Form) (forms : Forms) → meaning.function_shape make (name ∷ meaning.list_of forms)
      ≡ of_pair (λ f g. meaning.function_shape make (name ∷ f ∷ g ∷ [])) (pair_of forms)
  function_of_pair name none = refl
  function_of_pair name (more f none) = two_of_function name f
  function_of_pair name (more f (more g none)) = refl
  function_of_pair name (more f (more g (more h fs))) = four_of_function name f g h (meaning.list_of fs)

  -- a function by its name, where the sorts are of the right shape
  pub function_named : (name : Form) (sorts : Forms) (sort : Form) (n : List ℕ)
      → list_all meaning.is_sort_form (meaning.list_of sorts) ≡ true → meaning.is_sort_form sort ≡ true
      → Some n ≡ meaning.declarable name
      → Some (make n (meaning.list_of sorts) sort) ≡ meaning.function_shape make (name ∷ Group sorts ∷ sort ∷ [])
  function_named name sorts sort n all one is =
      let of : List ℕ → Effect = λ m. make m (meaning.list_of sorts) sort in
      ap (option_map of) is ∙ sym (λ j. if all j && one j then option_map of (meaning.declarable name) else None)

module _ (make : List ℕ → List meaning.Parameter → Form → Form → Effect) where
  two_of_definition : (name f : Form) → meaning.definition_shape make (name ∷ f ∷ []) ≡ None
  two_of_definition name (Group x) = refl
  two_of_definition name _ = refl

  three_of_definition : (name f g : Form) → meaning.definition_shape make (name ∷ f ∷ g ∷ []) ≡ None
  three_of_definition name (Group x) g = refl
  three_of_definition name _ g = refl

  five_of_definition : (name f g h i : Form) (fs : List Form)
      → meaning.definition_shape make (name ∷ f ∷ g ∷ h ∷ i ∷ fs) ≡ None
  five_of_definition name (Group x) g h i fs = refl
  five_of_definition name _ g h i fs = refl

  pub definition_of_pair : (name parameters : Form) (forms : Forms)
      → meaning.definition_shape make (name ∷ parameters ∷ meaning.list_of forms)
      ≡ of_pair (λ f g. meaning.definition_shape make (name ∷ parameters ∷ f ∷ g ∷ [])) (pair_of forms)
  definition_of_pair name f none = two_of_definition name f
  definition_of_pair name f (more g none) = three_of_definition name f g
  definition_of_pair name f (more g (more h none)) = refl
  definition_of_pair name f (more g (more h (more i fs))) = five_of_definition name f g h i (meaning.list_of fs)

pub some_copied : {A : Type 0} (o : Option (Bor A)) → is_some o ≡ is_some (option_copied o)
some_copied None = refl
some_copied (Some x) = refl

-- a function without arguments is a constant, and one with arguments is left out
pub function_of_forms : (name : List ℕ) (sorts : Forms) (sort : Form)
    → reply.function_of name (meaning.list_of sorts) sort
    ≡ (if is_none sorts then reply.declare_constant name sort else reply.declare_function name)
function_of_forms name none sort = refl
function_of_forms name (more s ss) sort = refl

-- what follows a keyword
pub keyword_of_one : (make : List ℕ → Effect) (f : Form)
    → meaning.keyword_shape make (f ∷ []) ≡ option_map make (keyword_in f)
keyword_of_one make (Group x) = refl
keyword_of_one make _ = refl

two_keywords : (make : List ℕ → Effect) (f g : Form) (fs : List Form)
    → meaning.keyword_shape make (f ∷ g ∷ fs) ≡ None
two_keywords make (Group x) g fs = refl
two_keywords make _ g fs = refl

pub keyword_of_only : (make : List ℕ → Effect) (forms : Forms)
    → meaning.keyword_shape make (meaning.list_of forms)
    ≡ option_and_then (λ f. option_map make (keyword_in f)) (only_of forms)
keyword_of_only make none = refl
keyword_of_only make (more f none) = keyword_of_one make f
keyword_of_only make (more f (more g fs)) = two_keywords make f g (meaning.list_of fs)

-- what is assumed
pub assuming_of_only : (make : List Form → Effect) (forms : Forms)
    → meaning.assuming_shape make (meaning.list_of forms)
    ≡ option_and_then (λ f. meaning.assuming_shape make (f ∷ [])) (only_of forms)
assuming_of_only make none = refl
assuming_of_only make (more f none) = refl
assuming_of_only make (more (Group fs) (more g gs)) = refl
assuming_of_only make (more _ (more g gs)) = refl

-- a list as an assumption, by its two forms where it has two
abbrev pub assumed_pair : Option (Form × Form) → Bool
assumed_pair None = true
assumed_pair (Some (head, form)) = meaning.is_assumption_form (Group (more head (more form none)))

pub assumed_of_pair : (forms : Forms) → meaning.is_assumption_form (Group forms) ≡ assumed_pair (pair_of forms)
assumed_of_pair none = refl
assumed_of_pair (more (Symbol x) none) = refl
assumed_of_pair (more _ none) = refl
assumed_of_pair (more f (more g none)) = refl
assumed_of_pair (more (Symbol x) (more (Symbol y) (more h fs))) = refl
assumed_of_pair (more (Symbol x) (more _ (more h fs))) = refl
assumed_of_pair (more _ (more g (more h fs))) = refl

-- a list as a literal, by its two forms where it has two
abbrev pub literal_pair : State → Option (Form × Form) → reply.Assumed
literal_pair s None = reply.an_error error.not_a_literal
literal_pair s (Some (head, form)) = reply.assumed_form s (Group (more head (more form none)))

pub literal_of_pair : (s : State) (forms : Forms) → reply.assumed_form s (Group forms) ≡ literal_pair s (pair_of forms)
literal_of_pair s none = refl
literal_of_pair s (more f none) = refl
literal_of_pair s (more f (more g none)) = refl
literal_of_pair s (more f (more (Symbol name) (more h fs))) = refl
literal_of_pair s (more f (more (QuotedSymbol name) (more h fs))) = refl
literal_of_pair s (more f (more _ (more h fs))) = refl
