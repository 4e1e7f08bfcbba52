-- What becomes of an entry: what holds of each change that an entry may make of a state holds of every entry. It is
-- said of the state beside the same with another mode, since what an entry changes does not depend on the mode.
use Rattle.std.proofs.Common.{◌≡◌, ℕ, ◌+◌, ◌^◌, Bool, true, false, not, ◌++◌, if◌then◌else◌, List, [], ◌∷◌, map, codes, length, nat_lt, nat_le, Option, Some, None, IfSome, Result, Ok, Err, refl, sym, subst}
use Rattle.std.specs.Prelude.{filter}
use Rattle.std.specs.Cmp.Lexicographic.{same_text}
use Rattle.sb_reader.specs.Forms.{Form, Forms, Symbol, Numeral, Group, none, more}
use Rattle.sb_reader.specs.Entries.{Entry, Command, Refused}
use Rattle.sb_meaning.specs.Terms.{Sort, Term, boolean}
use Rattle.sb_meaning.specs.Values.{Valuation}
use Rattle.sb_meaning.specs.Sorts.{sort_of, is_same_sort}
use Rattle.sb_script.specs.Names.{Name, is_name, found_in}
use Rattle.sb_script.specs.Brought.{an_option, definitions, is_brought, is_brought_sort}
use Rattle.sb_script.specs.Symbols.{sorts_of_constants, sort_named, is_taken}
use Rattle.sb_script.specs.Faults.{Fault}
use Rattle.sb_script.specs.Reading.{read}
use Rattle.sb_script.specs.Texts.{number_of}
use Rattle.sb_script.specs.Errors as error
use Rattle.sb_script.specs.Errors.{Error, first_of}
use Rattle.sb_script.specs.Commands.{Parameter, list_of, symbol_in}
use Rattle.sb_script.specs.State.{State, Mode, Options, plain, satisfied, refuted, undecided, asserted, a_mark, names_of, declared, defined, marked, with_assertion, pushed, popped, without_assertions, start_behind}
use Rattle.sb_script.specs.Steps.{Step, answers, leaves, checks, exits, above, all, fails_by, succeeds, is_unsupported, fault_error}
use Rattle.sb_script.specs.Options as option
use Rattle.sb_script.specs.Options.{is_logic, truth_in, with_truth, reason_unknown, option_texts, info_texts, settings}
use Rattle.sb_script.specs.Replies as meaning
use Rattle.sb_script.specs.Replies.{sort_of_form, sort_in_definition, sorts_in_definition, name_errors, body_errors, bound_from, unless_error, defines, define_by, level_limit, assumed_form, errors_in, assumptions_in, contradicted, with_values, some_malformed, first_unknown, all_constants, values_of, item_of, Effect, commands, shaped, step_of, is_exit}
use Rattle.sb_script.proofs.FoundLemmas.{if_some, Each, found_has, each_filtered, found_passes}
use Rattle.sb_script.proofs.CommandLemmas.{Row, logic_gives, option_gives, constant_gives, function_gives, definition_gives, assert_gives, value_gives, keyword_gives, info_gives, levels_give, assuming_gives, echo_gives, bare_gives, command_gives, ◌also◌}

abbrev pub with_mode : Mode → State → State
with_mode m s = record s { mode = m }

-- of one step, and of the same beside it
abbrev pub OfBoth : (Bool → Step → Step → Type 0) → Step → Type 0
OfBoth P x = P false x x

-- What holds of each change: of an entry that ends the run or does not, of what becomes of it in the state with that
-- mode, and of what becomes of it in the state.
pub record StepsKeep (m : Mode) (s : State) (P : Bool → Step → Step → Type 0) : Type 0 where
  pub stays : (bytes text : List ℕ) → P false (answers bytes (with_mode m s)) (answers text s)
  -- the logic, or an option
  pub sets : (bytes : List ℕ) (logic begun : Bool) (options : Options)
      → P false (answers bytes (record s { logic_set = logic; begun = begun; options = options; mode = m }))
      (answers bytes (record s { logic_set = logic; begun = begun; options = options }))
  pub declares : (bytes : List ℕ) (name : Name) (sort : Sort) → is_brought_sort sort ≡ true
      → OfBoth P (answers bytes (declared name sort s))
  pub marks : (bytes : List ℕ) (name : Name) → OfBoth P (answers bytes (marked name s))
  pub makes : (bytes : List ℕ) (name : Name) (parameters : List Parameter) (sorts : List Sort) (form : Form)
      (body : Term) → is_brought definitions ≡ true
      → read (bound_from 0 parameters sorts ++ names_of s) form ≡ Ok body
      → OfBoth P (answers bytes (defined name sorts body s))
  pub asserts : (bytes : List ℕ) (form : Form) (t : Term) → read (names_of s) form ≡ Ok t
      → is_same_sort boolean (sort_of t) ≡ true → OfBoth P (answers bytes (with_assertion (asserted t) s))
  pub omits : (bytes : List ℕ) → OfBoth P (answers bytes (with_assertion a_mark s))
  pub pushes : (bytes : List ℕ) (n : ℕ) → OfBoth P (answers bytes (pushed n s))
  pub pops : (bytes : List ℕ) (n : ℕ) → OfBoth P (leaves (above (length (popped n s).above)) bytes (popped n s))
  pub clears : (bytes : List ℕ) → OfBoth P (leaves all bytes (without_assertions s))
  pub resets : (bytes : List ℕ) → OfBoth P (leaves all bytes (start_behind s.sorts))
  pub asks : (forms : List Form) → OfBoth P (checks (assumptions_in (map (assumed_form s) forms)))
  pub ends : (bytes : List ℕ) → P true (exits bytes) (exits bytes)

-- the step is an answer, and leaves the state
abbrev IsAnswer : State → Step → Type 0
IsAnswer s x = (bytes : List ℕ) × (x ≡ answers bytes s)

module _ (s : State) where
  a_test : (b : Bool) (x y : Step) → IsAnswer s x → IsAnswer s y → IsAnswer s (if b then x else y)
  a_test true x y p q = p
  a_test false x y p q = q

  an_option_of : {A : Type 0} (o : Option A) (f : A → Step) (x : Step) → ((a : A) → IsAnswer s (f a)) → IsAnswer s x
      → IsAnswer s (elim o [ Some a ↦ f a | None ↦ x ])
  an_option_of None f x p q = q
  an_option_of (Some a) f x p q = p a

  reason_answers : (m : Mode) → IsAnswer s (reason_unknown m s)
  reason_answers undecided = (_, refl)
  reason_answers plain = (_, refl)
  reason_answers (satisfied v) = (_, refl)
  reason_answers (refuted assumptions) = (_, refl)

  get_info_answers : (key : Name) → IsAnswer s (option.get_info key s)
  get_info_answers key =
      a_test (is_name key (codes ":reason-unknown")) _ _ (reason_answers s.mode)
      (an_option_of (found_in info_texts key) _ _ (λ text. (_, refl)) (_, refl))

  contradicted_answers : (m : Mode) → IsAnswer s (contradicted m s)
  contradicted_answers (refuted assumptions) = (_, refl)
  contradicted_answers plain = (_, refl)
  contradicted_answers (satisfied v) = (_, refl)
  contradicted_answers undecided = (_, refl)

  with_values_answers : (answer : Valuation → Step) → ((v : Valuation) → IsAnswer s (answer v))
      → IsAnswer s (with_values s answer)
  with_values_answers answer h = a_test (not s.options.produce_models) _ _ (_, refl) (by_mode s.mode)
    where
      by_mode : (m : Mode) → IsAnswer s (elim m as (λ _. Step) [
        | satisfied v ↦ answer v
        | plain ↦ fails_by error.no_model s
        | refuted assumptions ↦ fails_by error.no_model s
        | undecided ↦ fails_by error.no_model s
      ])
      by_mode (satisfied v) = h v
      by_mode plain = (_, refl)
      by_mode (refuted assumptions) = (_, refl)
      by_mode undecided = (_, refl)

  get_value_answers : (forms : List Form) → IsAnswer s (meaning.get_value forms s)
  get_value_answers forms =
      let items = map (item_of s) forms in
      a_test (some_malformed items) _ _ (_, refl)
      (an_option_of (first_unknown items) _ _ (λ name. (_, refl))
      (with_values_answers _ (λ v. an_option_of (all_constants items) _ _ (λ cs. (_, refl)) (_, refl))))

module _ (m : Mode) (s : State) (P : Bool → Step → Step → Type 0) (keep : StepsKeep m s P) where
  abbrev moved : State
  moved = with_mode m s

  by_answers : (x y : Step) → IsAnswer moved x → IsAnswer s y → P false x y
  by_answers x y p q =
      subst (λ (u : Step). P false u y) (sym p.1)
      (subst (λ (u : Step). P false (answers p.0 moved) u) (sym q.1) (keep.stays p.0 q.0))

  by_test : (b : Bool) (x y u v : Step) → (b ≡ true → P false x u) → P false y v
      → P false (if b then x else y) (if b then u else v)
  by_test true x y u v p q = p refl
  by_test false x y u v p q = q

  by_option : {A : Type 0} (o : Option A) (f g : A → Step) (x u : Step)
      → ((a : A) → o ≡ Some a → P false (f a) (g a)) → P false x u
      → P false (elim o [ Some a ↦ f a | None ↦ x ]) (elim o [ Some a ↦ g a | None ↦ u ])
  by_option None f g x u p q = q
  by_option (Some a) f g x u p q = p a refl

  by_reading : (r : Result Term Fault) (f g : Term → Step) (k l : Fault → Step)
      → ((t : Term) → r ≡ Ok t → P false (f t) (g t)) → ((fault : Fault) → P false (k fault) (l fault))
      → P false (elim r [ Ok t ↦ f t | Err fault ↦ k fault ]) (elim r [ Ok t ↦ g t | Err fault ↦ l fault ])
  by_reading (Ok t) f g k l p q = p t refl
  by_reading (Err fault) f g k l p q = q fault

  by_errors : (errors : List Error) (x u : Step) → P false x u
      → P false (unless_error errors x moved) (unless_error errors u s)
  by_errors errors x u h = by_option (first_of errors) _ _ x u (λ e is. keep.stays _ _) h

  -- Options.

  truth_set : (value : Form) (new : Bool → Options)
      → P false (with_truth value (λ b. record moved { options = new b }) moved)
      (with_truth value (λ b. record s { options = new b }) s)
  truth_set value new =
      by_option (truth_in value) _ _ _ _ (λ b is. keep.sets _ s.logic_set s.begun (new b)) (keep.stays _ _)

  global_set : (value : Form)
      → P false (option.set_global_declarations value moved) (option.set_global_declarations value s)
  global_set value =
      by_test s.begun _ _ _ _ (λ is. keep.stays _ _)
      (truth_set value (λ b. record s.options { global_declarations = b }))

  limit_set : (value : Form) → P false (option.set_resource_limit value moved) (option.set_resource_limit value s)
  limit_set (Numeral digits) =
      by_test (nat_lt (number_of digits) (2 ^ 64)) _ _ _ _
      (λ is. keep.sets _ s.logic_set s.begun (record s.options { resource_limit = number_of digits })) (keep.stays _ _)
  limit_set _ = keep.stays _ _

  abbrev Sets : (Form → State → Step) → Type 0
  Sets set = (value : Form) → P false (set value moved) (set value s)

  settings_set : Each (λ (row : Name × (Form → State → Step)). Sets row.1) settings
  settings_set = (
    λ value. truth_set value (λ b. record s.options { print_success = b }),
    (
      λ value. truth_set value (λ b. record s.options { produce_models = b }),
      (λ value. truth_set value (λ b. record s.options { produce_unsat_assumptions = b }), (global_set, (limit_set, tt))),
    ),
  )

  option_set : (key : Name) (value : Form) → P false (option.set_option key value moved) (option.set_option key value s)
  option_set key value =
      let brought = filter (λ row. is_brought (an_option row.0)) settings in
      by_option (found_in brought key) _ _ _ _
      (λ set is. found_has Sets brought key set
      (each_filtered (λ (row : Name × (Form → State → Step)). Sets row.1) (λ row. is_brought (an_option row.0)) settings
      settings_set) is value)
      (keep.stays _ _)

  -- Declarations and definitions.

  sort_is_brought : (form : Form) (sort : Sort) → sort_of_form form ≡ Some sort → is_brought_sort sort ≡ true
  sort_is_brought form sort is = subst (λ o. if_some is_brought_sort o ≡ true) is (step (symbol_in form))
    where
      step : (o : Option Name) → if_some is_brought_sort
          (elim o as (λ _. Option Sort) [ Some name ↦ sort_named name | None ↦ None ]) ≡ true
      step (Some name) = found_passes is_brought_sort sorts_of_constants name
      step None = refl

  constant_declared : (name : Name) (sort : Form)
      → P false (meaning.declare_constant name sort moved) (meaning.declare_constant name sort s)
  constant_declared name sort =
      by_test (is_taken (names_of s) name) _ _ _ _ (λ is. keep.stays _ _)
      (by_option (sort_of_form sort) _ _ _ _ (λ kind is. keep.declares _ name kind (sort_is_brought sort kind is))
      (keep.marks _ name))

  function_declared : (name : Name)
      → P false (meaning.declare_function name moved) (meaning.declare_function name s)
  function_declared name = by_test (is_taken (names_of s) name) _ _ _ _ (λ is. keep.stays _ _) (keep.marks _ name)

  body_read : (name : Name) (ps : List Parameter) (sorts : List Sort) (form : Form) (r : Result Term Fault)
      → is_brought definitions ≡ true → read (bound_from 0 ps sorts ++ names_of s) form ≡ r
      → P false (defines name sorts r moved) (defines name sorts r s)
  body_read name ps sorts form (Ok body) brought is = keep.makes _ name ps sorts form body brought is
  body_read name ps sorts form (Err fault) brought is = keep.marks _ name

  function_made : (name : Name) (ps : List Parameter) (sort form : Form) → is_brought definitions ≡ true
      → P false (meaning.define_function name ps sort form moved) (meaning.define_function name ps sort form s)
  function_made name ps sort form brought =
      by_option (sorts_in_definition ps) _ _ _ _
      (λ sorts is. by_option (sort_in_definition sort) _ _ _ _ (λ made so. of_body sorts made) left_out) left_out
    where
      left_out : P false (unless_error (name_errors name ps s) (is_unsupported (marked name s)) moved)
          (unless_error (name_errors name ps s) (is_unsupported (marked name s)) s)
      left_out = by_errors (name_errors name ps s) _ _ (keep.marks _ name)

      of_body : (sorts : List Sort) (made : Sort)
          → P false (define_by name ps sorts made form moved) (define_by name ps sorts made form s)
      of_body sorts made =
          let reading = read (bound_from 0 ps sorts ++ names_of s) form in
          by_errors (name_errors name ps s ++ body_errors made reading) _ _
          (body_read name ps sorts form reading brought refl)

  -- Assertions and levels.

  term_asserted : (form : Form) → P false (meaning.assert form moved) (meaning.assert form s)
  term_asserted form =
      by_reading (read (names_of s) form) _ _ _ _
      (λ t is. by_test (is_same_sort boolean (sort_of t)) _ _ _ _ (λ truth. keep.asserts _ form t is truth)
      (keep.stays _ _))
      (λ fault. by_option (fault_error fault) _ _ _ _ (λ e is. keep.stays _ _) (keep.omits _))

  -- Each command, by a row.

  abbrev Kept : Effect → Type 0
  Kept effect = P false (effect moved) (effect s)

  logic_set : (name : Name) → Kept (option.set_logic name)
  logic_set name =
      by_test s.logic_set _ _ _ _ (λ is. keep.stays _ _)
      (by_test (is_logic name) _ _ _ _ (λ is. keep.sets _ true true s.options) (keep.stays _ _))

  option_told : (key : Name) → Kept (option.get_option key)
  option_told key =
      by_option (found_in (filter (λ row. is_brought (an_option row.0)) option_texts) key) _ _ _ _
      (λ text is. keep.stays _ _) (keep.stays _ _)

  constant_or_function : (name : Name) (sorts : List Form) (sort : Form) → Kept (meaning.function_of name sorts sort)
  constant_or_function name [] sort = constant_declared name sort
  constant_or_function name (other ∷ others) sort = function_declared name

  levels_pushed : (n : ℕ) → Kept (meaning.push n)
  levels_pushed n =
      by_test (nat_le (n + length s.above) level_limit) _ _ _ _ (λ is. keep.pushes _ n) (keep.stays _ _)

  levels_popped : (n : ℕ) → Kept (meaning.pop n)
  levels_popped n = by_test (nat_le n (length s.above)) _ _ _ _ (λ is. keep.pops _ n) (keep.stays _ _)

  asked_under : (forms : List Form) → Kept (meaning.check_sat_assuming forms)
  asked_under forms = by_errors (errors_in (map (assumed_form s) forms)) _ _ (keep.asks forms)

  model_told : Kept meaning.get_model
  model_told = by_answers _ _ (with_values_answers moved _ (λ v. (_, refl))) (with_values_answers s _ (λ v. (_, refl)))

  contradiction_told : Kept meaning.get_unsat_assumptions
  contradiction_told =
      by_answers _ _
      (a_test moved s.options.produce_unsat_assumptions _ _ (contradicted_answers moved m) (_, refl))
      (a_test s s.options.produce_unsat_assumptions _ _ (contradicted_answers s s.mode) (_, refl))

  rows_keep : Each (Row Kept) commands
  rows_keep =
      assert_gives Kept meaning.assert term_asserted
      also constant_gives Kept meaning.declare_constant constant_declared
      also function_gives Kept meaning.function_of constant_or_function
      also definition_gives Kept meaning.definition_of (λ name ps sort body. function_made name ps sort body refl)
      also levels_give Kept meaning.push levels_pushed
      also levels_give Kept meaning.pop levels_popped
      also bare_gives Kept meaning.check_sat (keep.asks [])
      also assuming_gives Kept meaning.check_sat_assuming asked_under
      also bare_gives Kept meaning.get_model model_told
      also value_gives Kept meaning.get_value
      (λ forms. by_answers _ _ (get_value_answers moved forms) (get_value_answers s forms))
      also bare_gives Kept meaning.get_unsat_assumptions contradiction_told
      also bare_gives Kept is_unsupported (keep.stays _ _)
      also logic_gives Kept option.set_logic logic_set
      also option_gives Kept option.set_option option_set
      also keyword_gives Kept option.get_option option_told
      also info_gives Kept succeeds (keep.stays _ _)
      also keyword_gives Kept option.get_info
      (λ key. by_answers _ _ (get_info_answers moved key) (get_info_answers s key))
      also echo_gives Kept meaning.echo (λ bytes. keep.stays _ _)
      also bare_gives Kept meaning.reset_assertions (keep.clears _)
      also bare_gives Kept meaning.reset (keep.resets _)
      also tt also tt

  -- a command by its name, with what follows it
  abbrev Keeps : Name → Forms → Type 0
  Keeps name arguments =
      let entry = Command (Group (more (Symbol name) arguments)) in
      P (is_exit entry) (step_of entry moved) (step_of entry s)

  exit_keeps : (arguments : Forms) → Keeps (codes "exit") arguments
  exit_keeps none = keep.ends _
  exit_keeps (more form forms) = keep.stays _ _

  no_exit : (name : Name) (arguments : Forms) → is_name name (codes "exit") ≡ false
      → is_exit (Command (Group (more (Symbol name) arguments))) ≡ false
  no_exit name none is = is
  no_exit name (more form forms) is = refl

  by_effect : (o : Option Effect) → IfSome o Kept → P false
      (elim o as (λ _. Step) [ Some effect ↦ effect moved | None ↦ fails_by error.malformed_command moved ])
      (elim o as (λ _. Step) [ Some effect ↦ effect s | None ↦ fails_by error.malformed_command s ])
  by_effect None h = keep.stays _ _
  by_effect (Some effect) h = h

  command_keeps : (name : Name) (arguments : Forms) → Keeps name arguments
  command_keeps name arguments = step (is_name name (codes "exit")) refl
    where
      step : (b : Bool) → is_name name (codes "exit") ≡ b → Keeps name arguments
      step true is =
          subst (λ (n : Name). Keeps n arguments) (sym (same_text name (codes "exit") (sym is))) (exit_keeps arguments)
      step false is =
          let entry = Command (Group (more (Symbol name) arguments)) in
          subst (λ (ends : Bool). P ends (step_of entry moved) (step_of entry s)) (sym (no_exit name arguments is))
          (by_effect (shaped name (list_of arguments))
          (command_gives Kept (keep.stays _ _) rows_keep name is (list_of arguments)))

  pub entry_keeps : (entry : Entry) → P (is_exit entry) (step_of entry moved) (step_of entry s)
  entry_keeps (Command (Group (more (Symbol name) arguments))) = command_keeps name arguments
  entry_keeps (Command _) = keep.stays _ _
  entry_keeps (Refused refusal) = keep.stays _ _
