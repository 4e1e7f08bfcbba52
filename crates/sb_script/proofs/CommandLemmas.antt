-- What commands do: what holds of what each row of the table makes holds of what the command of a form does.
use Rattle.std.proofs.Common.{◌≡◌, ℕ, Bool, true, false, ◌&&◌, if◌then◌else◌, List, [], ◌∷◌, codes, Option, Some, None, IfSome, sym, ap, ◌∙◌, refl}
use Rattle.std.specs.Prelude.{option_map}
use Rattle.std.specs.List.{list_all}
use Rattle.std.specs.Cmp.Lexicographic.{same_text}
use Rattle.sb_reader.specs.Forms.{Form, Keyword, Numeral, Words, Group, more}
use Rattle.sb_script.specs.Names.{Name, is_name, found_in}
use Rattle.sb_script.specs.Texts.{number_of}
use Rattle.sb_script.specs.Commands.{Parameter, list_of, symbol_in, declarable, is_sort_form, is_parameter, parameters_of, is_item, is_assumption_form, constant_shape, function_shape, definition_shape, logic_shape, option_shape, assert_shape, assuming_shape, value_shape, keyword_shape, info_shape, levels_shape, echo_shape, bare}
use Rattle.sb_script.specs.Steps.{is_unsupported}
use Rattle.sb_script.specs.Replies.{Effect, Shape, commands, shaped_by, shaped}
use Rattle.sb_script.proofs.FoundLemmas.{Each}

module _ (P : Effect → Type 0) where
  -- what the shape makes has the property
  abbrev pub Gives : Shape → Type 0
  Gives shape = (forms : List Form) → IfSome (shape forms) P

  mapped : {A : Type 0} (make : A → Effect) → ((x : A) → P (make x)) → (o : Option A) → IfSome (option_map make o) P
  mapped make h (Some x) = h x
  mapped make h None = tt

  by_test : (b : Bool) (o : Option Effect) → IfSome o P → IfSome (if b then o else None) P
  by_test true o h = h
  by_test false o h = tt

  -- One lemma for each shape.

  pub logic_gives : (make : Name → Effect) → ((name : Name) → P (make name)) → Gives (logic_shape make)
  logic_gives make h (logic ∷ []) = mapped make h (symbol_in logic)
  logic_gives make h _ = tt

  pub option_gives : (make : Name → Form → Effect) → ((key : Name) (value : Form) → P (make key value))
      → Gives (option_shape make)
  option_gives make h (Keyword key ∷ value ∷ []) = h key value
  option_gives make h _ = tt

  pub constant_gives : (make : Name → Form → Effect) → ((name : Name) (sort : Form) → P (make name sort))
      → Gives (constant_shape make)
  constant_gives make h (name ∷ sort ∷ []) =
      by_test (is_sort_form sort) (option_map (λ n. make n sort) (declarable name))
      (mapped (λ n. make n sort) (λ n. h n sort) (declarable name))
  constant_gives make h _ = tt

  pub function_gives : (make : Name → List Form → Form → Effect)
      → ((name : Name) (sorts : List Form) (sort : Form) → P (make name sorts sort)) → Gives (function_shape make)
  function_gives make h (name ∷ Group sorts ∷ sort ∷ []) =
      by_test (list_all is_sort_form (list_of sorts) && is_sort_form sort)
      (option_map (λ n. make n (list_of sorts) sort) (declarable name))
      (mapped (λ n. make n (list_of sorts) sort) (λ n. h n (list_of sorts) sort) (declarable name))
  function_gives make h _ = tt

  pub definition_gives : (make : Name → List Parameter → Form → Form → Effect)
      → ((name : Name) (ps : List Parameter) (sort body : Form) → P (make name ps sort body))
      → Gives (definition_shape make)
  definition_gives make h (name ∷ Group parameters ∷ sort ∷ body ∷ []) =
      let ps = parameters_of (list_of parameters) in
      by_test (list_all is_parameter (list_of parameters) && is_sort_form sort)
      (option_map (λ n. make n ps sort body) (declarable name))
      (mapped (λ n. make n ps sort body) (λ n. h n ps sort body) (declarable name))
  definition_gives make h _ = tt

  pub assert_gives : (make : Form → Effect) → ((form : Form) → P (make form)) → Gives (assert_shape make)
  assert_gives make h (term ∷ []) = h term
  assert_gives make h _ = tt

  pub value_gives : (make : List Form → Effect) → ((forms : List Form) → P (make forms)) → Gives (value_shape make)
  value_gives make h (Group (more item items) ∷ []) =
      let all = item ∷ list_of items in by_test (list_all is_item all) (Some (make all)) (h all)
  value_gives make h _ = tt

  pub keyword_gives : (make : Name → Effect) → ((key : Name) → P (make key)) → Gives (keyword_shape make)
  keyword_gives make h (Keyword key ∷ []) = h key
  keyword_gives make h _ = tt

  pub info_gives : (made : Effect) → P made → Gives (info_shape made)
  info_gives made h (Keyword key ∷ forms) = h
  info_gives made h _ = tt

  pub levels_give : (make : ℕ → Effect) → ((n : ℕ) → P (make n)) → Gives (levels_shape make)
  levels_give make h [] = h 1
  levels_give make h (Numeral digits ∷ []) = h (number_of digits)
  levels_give make h _ = tt

  pub assuming_gives : (make : List Form → Effect) → ((forms : List Form) → P (make forms))
      → Gives (assuming_shape make)
  assuming_gives make h (Group forms ∷ []) =
      by_test (list_all is_assumption_form (list_of forms)) (Some (make (list_of forms))) (h (list_of forms))
  assuming_gives make h _ = tt

  pub echo_gives : (make : List ℕ → Effect) → ((bytes : List ℕ) → P (make bytes)) → Gives (echo_shape make)
  echo_gives make h (Words bytes ∷ []) = h bytes
  echo_gives make h _ = tt

  pub bare_gives : (made : Effect) → P made → Gives (bare made)
  bare_gives made h [] = h
  bare_gives made h (form ∷ forms) = tt

  -- All commands, where `exit` stands for itself.

  abbrev Unless : Bool → Type 0 → Type 0
  Unless true Q = Unit {0}
  Unless false Q = Q

  -- what the row makes has the property, unless it is that of `exit`
  abbrev pub Row : Name × Shape → Type 0
  Row row = Unless (is_name row.0 (codes "exit")) (Gives row.1)

  rows_give : P is_unsupported → (rows : List (Name × Shape)) → Each Row rows → (name : Name)
      → is_name name (codes "exit") ≡ false → (forms : List Form) → IfSome (shaped_by rows name forms) P
  rows_give out [] each name other forms = out
  rows_give out (row ∷ rows) each name other forms =
      step (is_name name row.0) refl (rows_give out rows each.1 name other forms)
    where
      given : (b : Bool) → b ≡ false → Unless b (Gives row.1) → Gives row.1
      given true is gives = absurd (Prim.cc (is))
      given false is gives = gives

      step : (b : Bool) → is_name name row.0 ≡ b → IfSome (shaped_by rows name forms) P
          → IfSome (elim (if b then Some row.1 else found_in rows name) as
          (λ _. Option Effect) [ Some shape ↦ shape forms | None ↦ Some is_unsupported ]) P
      step true same rest =
          let key = ap (λ n. is_name n (codes "exit")) (same_text name row.0 (sym same)) in
          given (is_name row.0 (codes "exit")) (sym key ∙ other) each.0 forms
      step false same rest = rest

  pub command_gives : P is_unsupported → Each Row commands → (name : Name) → is_name name (codes "exit") ≡ false
      → (forms : List Form) → IfSome (shaped name forms) P
  command_gives out each = rows_give out commands each

-- two facts
infixr 5 ◌also◌
pub ◌also◌ : {P Q : Type 0} → P → Q → P × Q
p also q = (p, q)
