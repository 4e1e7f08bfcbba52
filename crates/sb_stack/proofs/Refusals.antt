-- What is answered to a form that is no term, where it is asserted and where it is the body of a definition.
use Rattle.std.proofs.Common.{◌≡◌, ℕ, Bool, true, false, if◌then◌else◌, nat_le, List, [], ◌∷◌, ◌++◌, Option, Some, None, option_map, Result, Ok, Err, IfOk, refl, ap, sym, subst, ◌∙◌}
use Rattle.std.proofs.lemmas.Bool.{false≢true}
use Rattle.std.proofs.lemmas.Option.{same_Some, none-some}
use Rattle.std.specs.Result.{OnErr}
use Rattle.std.proofs.lemmas.Result.{IfOk-weaker}
use Rattle.std.specs.declared.vec.Vec.{Vec}
use Rattle.std.specs.declared.alloc.Global.{Global}
use Rattle.sb_meaning.specs.Sorts.{is_same_sort, sort_of}
use Rattle.sb_meaning.specs.Terms.{Sort, Term}
use Rattle.sb_script.specs.Errors as error
use Rattle.sb_script.specs.Errors.{Error, place_of, text_of}
use Rattle.sb_script.specs.Faults as meaning
use Rattle.sb_script.specs.Faults.{Fault}
use Rattle.sb_script.specs.Names.{Name}
use Rattle.sb_script.specs.Replies.{unless_error, declare_function}
use Rattle.sb_script.specs.State.{State, a_mark, names_of, marked, defined, with_assertion}
use Rattle.sb_script.specs.Steps.{Step, error_line, fails_by, fault_error, is_unsupported, succeeds}
use Rattle.sb_sorts.specs.declared.read.ReadFault.{ReadFault}
use Rattle.sb_sorts.specs.declared.read.ReadFault.TheVariants as code
use Rattle.sb_sorts.specs.Reads.{Faults}
use Rattle.sb_stack.specs.Defining.{name_error, defines_as}
use Rattle.sb_stack.specs.Refusing.{fault_in, fault_text, is_told_first}
use Rattle.sb_stack.specs.Stacked.{Stacked, state_of}
use Rattle.sb_stack.specs.Taking.{IsAnswered, asserts}
use Rattle.sb_script.specs.Symbols.{is_taken}
use Rattle.sb_stack.specs.Keeping.{Keeps}
use Rattle.sb_stack.proofs.Changes.{keeps_same}
use Rattle.sb_stack.proofs.Definitions.{marks_free}
use Rattle.sb_stack.proofs.Replying.{Refuses, Replies, whatever}

-- a line that tells the error of a fault answers what fails by it
told_by : (step : Result Term Fault → Step) (s : State) (text : Vec ℕ Global) (x : Fault) (e : Error)
    → fault_text x ≡ error_line (text_of e) → step (Err x) ≡ fails_by e s → Some text.items ≡ Some (fault_text x)
    → (reading : Result Term Fault) → reading ≡ Err x → IsAnswered (step reading) text s s
told_by step s text x e line by told reading h =
    subst (λ q. IsAnswered (step q) text s s) (sym h)
    (subst (λ t. IsAnswered t text s s) (sym by) (same_Some text.items (fault_text x) told ∙ line, refl))

-- the same of each fault that is an error
by_error : (step : Result Term Fault → Step) (s : State) (f : ReadFault) (text : Vec ℕ Global)
    → ((x : Fault) (e : Error) → fault_error x ≡ Some e → step (Err x) ≡ fails_by e s) → (f ≡ code.Unsupported → ⊥)
    → Some text.items ≡ option_map fault_text (fault_in f) → (reading : Result Term Fault) → Faults reading f
    → IsAnswered (step reading) text s s
by_error step s (code.UnknownSymbol name) text by other told =
    told_by step s text (meaning.unknown_symbol name.items) (error.unknown_symbol name.items) refl
    (by (meaning.unknown_symbol name.items) (error.unknown_symbol name.items) refl) told
by_error step s code.WrongSort text by other told =
    told_by step s text meaning.wrong_sort error.wrong_sort refl (by meaning.wrong_sort error.wrong_sort refl) told
by_error step s code.WrongCount text by other told =
    told_by step s text meaning.wrong_count error.wrong_count refl (by meaning.wrong_count error.wrong_count refl) told
by_error step s code.BadIndex text by other told =
    told_by step s text meaning.bad_index error.bad_index refl (by meaning.bad_index error.bad_index refl) told
by_error step s code.NumeralTooLarge text by other told =
    told_by step s text meaning.numeral_too_large error.numeral_too_large refl
    (by meaning.numeral_too_large error.numeral_too_large refl) told
by_error step s code.Unsupported text by other told = absurd (other refl)
by_error step s code.BadLiteral text by other told =
    told_by step s text meaning.bad_literal error.bad_token refl (by meaning.bad_literal error.bad_token refl) told
by_error step s code.Malformed text by other told =
    told_by step s text meaning.malformed error.malformed_command refl
    (by meaning.malformed error.malformed_command refl) told
by_error step s (code.AlreadyBound name) text by other told =
    told_by step s text (meaning.already_bound name.items) (error.already_declared name.items) refl
    (by (meaning.already_bound name.items) (error.already_declared name.items) refl) told
by_error step s code.NoMemory text by other told = absurd (none-some _ (sym told))

-- A form that is asserted.

-- what fails by the error of a fault, where this is known by cases
abbrev by_fault : State → Step → Option Error → Step
by_fault s else_step o = elim o [ Some e ↦ fails_by e s | None ↦ else_step ]

assertion_fails : (s : State) (x : Fault) (e : Error) → fault_error x ≡ Some e → asserts (Err x) s ≡ fails_by e s
assertion_fails s x e h = ap (by_fault s (is_unsupported (with_assertion a_mark s))) h

pub refused_by_line : {E : Type 0} (f : ReadFault) (r : Result (Vec ℕ Global) E) (k : Stacked)
    → (f ≡ code.Unsupported → ⊥) → IfOk r (λ text. Some text.items ≡ option_map fault_text (fault_in f))
    → Refuses f r k k
refused_by_line f r k other said = record {
  ok = IfOk-weaker r (λ text. Some text.items ≡ option_map fault_text (fault_in f))
      (λ text. (reading : Result Term Fault) → Faults reading f
      → IsAnswered (asserts reading (state_of k)) text (state_of k) (state_of k))
      (λ text told. by_error (λ q. asserts q (state_of k)) (state_of k) f text (assertion_fails (state_of k)) other told)
      said;
  err = whatever r refl;
  keeps = keeps_same k;
}

-- The body of a definition.

-- an error that stands in front of a name's is told, or one where there is no such name
body_first : (refused : Option Name) (e : Error) (step : Step) (s : State) → nat_le 8 (place_of e) ≡ false
    → unless_error (name_error refused ++ e ∷ []) step s ≡ fails_by e s
body_first None e step s early = refl
body_first (Some name) e step s early =
    ap (λ (b : Bool). fails_by (if b then error.already_declared name else e) s) early

first_tells : (step : Result Term Fault → Step) (refused : Option Name) (other : Step) (s : State) (f : ReadFault)
    (text : Vec ℕ Global)
    → ((x : Fault) (e : Error) → fault_error x ≡ Some e
    → step (Err x) ≡ unless_error (name_error refused ++ e ∷ []) other s)
    → is_told_first f ≡ true → Some text.items ≡ option_map fault_text (fault_in f) → (reading : Result Term Fault)
    → Faults reading f → IsAnswered (step reading) text s s
first_tells step refused other s (code.UnknownSymbol n) text by first told = absurd (false≢true first)
first_tells step refused other s code.WrongSort text by first told = absurd (false≢true first)
first_tells step refused other s code.WrongCount text by first told = absurd (false≢true first)
first_tells step refused other s code.BadIndex text by first told = absurd (false≢true first)
first_tells step refused other s code.NumeralTooLarge text by first told =
    told_by step s text meaning.numeral_too_large error.numeral_too_large refl
    (by meaning.numeral_too_large error.numeral_too_large refl
    ∙ body_first refused error.numeral_too_large other s refl) told
first_tells step refused other s code.Unsupported text by first told = absurd (false≢true first)
first_tells step refused other s code.BadLiteral text by first told =
    told_by step s text meaning.bad_literal error.bad_token refl
    (by meaning.bad_literal error.bad_token refl ∙ body_first refused error.bad_token other s refl) told
first_tells step refused other s code.Malformed text by first told =
    told_by step s text meaning.malformed error.malformed_command refl
    (by meaning.malformed error.malformed_command refl ∙ body_first refused error.malformed_command other s refl) told
first_tells step refused other s (code.AlreadyBound n) text by first told = absurd (false≢true first)
first_tells step refused other s code.NoMemory text by first told = absurd (none-some _ (sym told))

-- the errors of a definition whose body has this one
body_error : (refused : Option Name) (made : Sort) (name : Name) (sorts : List Sort) (s : State) (x : Fault) (e : Error)
    → fault_error x ≡ Some e
    → defines_as refused made name sorts (Err x) s
    ≡ unless_error (name_error refused ++ e ∷ []) (is_unsupported (marked name s)) s
body_error refused made name sorts s x e h =
    ap (λ (o : Option Error). unless_error
    (name_error refused ++ elim o as (λ _. List Error) [ Some f ↦ f ∷ [] | None ↦ [] ])
    (is_unsupported (marked name s)) s) h

-- a name that can't be declared is told in front of all other faults
name_first : (f : ReadFault) (refused : Name) (made : Sort) (name : Name) (sorts : List Sort) (s : State)
    → is_told_first f ≡ false → (reading : Result Term Fault) → Faults reading f
    → defines_as (Some refused) made name sorts reading s ≡ fails_by (error.already_declared refused) s
name_first (code.UnknownSymbol n) refused made name sorts s later reading h =
    ap (λ q. defines_as (Some refused) made name sorts q s) h
name_first code.WrongSort refused made name sorts s later reading h =
    ap (λ q. defines_as (Some refused) made name sorts q s) h
name_first code.WrongCount refused made name sorts s later reading h =
    ap (λ q. defines_as (Some refused) made name sorts q s) h
name_first code.BadIndex refused made name sorts s later reading h =
    ap (λ q. defines_as (Some refused) made name sorts q s) h
name_first code.NumeralTooLarge refused made name sorts s later reading h = absurd (false≢true (sym later))
name_first code.Unsupported refused made name sorts s later reading h =
    ap (λ q. defines_as (Some refused) made name sorts q s) h
name_first code.BadLiteral refused made name sorts s later reading h = absurd (false≢true (sym later))
name_first code.Malformed refused made name sorts s later reading h = absurd (false≢true (sym later))
name_first (code.AlreadyBound n) refused made name sorts s later reading h =
    ap (λ q. defines_as (Some refused) made name sorts q s) h
name_first code.NoMemory refused made name sorts s later reading h = absurd (false≢true (sym later))

-- and where the body is a term
pub name_first_of_term : (refused : Name) (made : Sort) (name : Name) (sorts : List Sort) (body : Term) (s : State)
    → defines_as (Some refused) made name sorts (Ok body) s ≡ fails_by (error.already_declared refused) s
name_first_of_term refused made name sorts body s = by_test (is_same_sort made (sort_of body))
  where
    by_test : (b : Bool)
        → unless_error (error.already_declared refused ∷ (if b then [] else error.wrong_sort ∷ []))
        (succeeds (defined name sorts body s)) s ≡ fails_by (error.already_declared refused) s
    by_test true = refl
    by_test false = refl

-- a definition whose body is no term, by the fault and the name that can't be declared
abbrev pub RefusesBody : {E : Type 0} → ReadFault → Option Name → Name → Result (Vec ℕ Global) E → Stacked → Stacked → Type 0
RefusesBody f refused name r old new = record {
  ok : IfOk r (λ text. (made : Sort) (sorts : List Sort) (reading : Result Term Fault) → Faults reading f
      → IsAnswered (defines_as refused made name sorts reading (state_of old)) text (state_of old) (state_of new));
  err : OnErr r (state_of new ≡ state_of old);
  keeps : Keeps old new;
}

pub body_told_first : {E : Type 0} (f : ReadFault) (refused : Option Name) (name : Name) (r : Result (Vec ℕ Global) E)
    (k : Stacked) → is_told_first f ≡ true → IfOk r (λ text. Some text.items ≡ option_map fault_text (fault_in f))
    → RefusesBody f refused name r k k
body_told_first f refused name r k first said =
    let s : State = state_of k in
    record {
      ok = IfOk-weaker r (λ text. Some text.items ≡ option_map fault_text (fault_in f))
          (λ text. (made : Sort) (sorts : List Sort) (reading : Result Term Fault) → Faults reading f
          → IsAnswered (defines_as refused made name sorts reading s) text s s)
          (λ text told made sorts. first_tells (λ q. defines_as refused made name sorts q s) refused
          (is_unsupported (marked name s)) s f text (body_error refused made name sorts s) first told) said;
      err = whatever r refl;
      keeps = keeps_same k;
    }

pub body_name_first : {E : Type 0} (f : ReadFault) (o : Option Name) (refused name : Name)
    (r : Result (Vec ℕ Global) E) (k : Stacked) → is_told_first f ≡ false → o ≡ Some refused
    → IfOk r (λ text. IsAnswered (fails_by (error.already_declared refused) (state_of k)) text (state_of k) (state_of k))
    → RefusesBody f o name r k k
body_name_first f o refused name r k later is said =
    let s : State = state_of k in
    record {
      ok = IfOk-weaker r (λ text. IsAnswered (fails_by (error.already_declared refused) s) text s s)
          (λ text. (made : Sort) (sorts : List Sort) (reading : Result Term Fault) → Faults reading f
          → IsAnswered (defines_as o made name sorts reading s) text s s)
          (λ text all made sorts reading h. subst (λ t. IsAnswered t text s s)
          (sym (ap (λ q. defines_as q made name sorts reading s) is
          ∙ name_first f refused made name sorts s later reading h)) all) said;
      err = whatever r refl;
      keeps = keeps_same k;
    }

-- a name that can be declared, and a fault that is an error
pub body_alone : {E : Type 0} (f : ReadFault) (name : Name) (r : Result (Vec ℕ Global) E) (k : Stacked)
    → (f ≡ code.Unsupported → ⊥) → IfOk r (λ text. Some text.items ≡ option_map fault_text (fault_in f))
    → RefusesBody f None name r k k
body_alone f name r k other said =
    let s : State = state_of k in
    record {
      ok = IfOk-weaker r (λ text. Some text.items ≡ option_map fault_text (fault_in f))
          (λ text. (made : Sort) (sorts : List Sort) (reading : Result Term Fault) → Faults reading f
          → IsAnswered (defines_as None made name sorts reading s) text s s)
          (λ text told made sorts. by_error (λ q. defines_as None made name sorts q s) s f text
          (body_error None made name sorts s) other told) said;
      err = whatever r refl;
      keeps = keeps_same k;
    }

-- or one that is left out, which marks it
pub body_left_out : {E : Type 0} (f : ReadFault) (name : Name) (r : Result (Vec ℕ Global) E) (old new : Stacked)
    → f ≡ code.Unsupported → is_taken (names_of (state_of old)) name ≡ false
    → Replies (declare_function name (state_of old)) r old new → RefusesBody f None name r old new
body_left_out f name r old new is free replies =
    let s : State = state_of old in
    record {
      ok = IfOk-weaker r (λ text. IsAnswered (declare_function name s) text s (state_of new))
          (λ text. (made : Sort) (sorts : List Sort) (reading : Result Term Fault) → Faults reading f
          → IsAnswered (defines_as None made name sorts reading s) text s (state_of new))
          (λ text all made sorts reading h. subst (λ t. IsAnswered t text s (state_of new))
          (sym (ap (λ q. defines_as None made name sorts q s) (subst (λ g. Faults reading g) is h)
          ∙ marks_free name s free)) all) replies.ok;
      err = replies.err;
      keeps = replies.keeps;
    }

-- the same under another name, for some reading of the fault
pub refuses_body : {E : Type 0} (f : ReadFault) (o refused : Option Name) (name : Name) (r : Result (Vec ℕ Global) E)
    (old new : Stacked) → o ≡ refused → RefusesBody f refused name r old new → RefusesBody f o name r old new
refuses_body f o refused name r old new is refuses =
    subst (λ q. RefusesBody f q name r old new) (sym is) refuses

pub defines_by_body : {E : Type 0} (f : ReadFault) (refused : Option Name) (made : Sort) (name : Name)
    (sorts : List Sort) (r : Result (Vec ℕ Global) E) (old new : Stacked) (reading : Result Term Fault)
    → Faults reading f → RefusesBody f refused name r old new
    → Replies (defines_as refused made name sorts reading (state_of old)) r old new
defines_by_body f refused made name sorts r old new reading h refuses = record {
  ok = IfOk-weaker r (λ text. (m : Sort) (ss : List Sort) (q : Result Term Fault) → Faults q f
      → IsAnswered (defines_as refused m name ss q (state_of old)) text (state_of old) (state_of new))
      (λ text. IsAnswered (defines_as refused made name sorts reading (state_of old)) text (state_of old) (state_of new))
      (λ text all. all made sorts reading h) refuses.ok;
  err = refuses.err;
  keeps = refuses.keeps;
}
