-- Forms with the same tokens are the same.
use Rattle.std.proofs.Common.{◌≡◌, ℕ, ◌+◌, ◌-◌, ◌<◌, true, false, not, ◌&&◌, eqb, List, [], ◌∷◌, ◌++◌, sym, refl, ap, ◌∙◌, arith, append_assoc}
use Rattle.std.proofs.lemmas.Bool.{and_parts, false≢true, ne_eqb}
use Rattle.sb_reader.specs.Tokens.{Token, Open, Close, Text, Quoted, Run}
use Rattle.sb_reader.specs.Forms.{Form, Forms, Symbol, QuotedSymbol, Keyword, Numeral, OtherNumber, Words, Group, none, more, tokens_of, tokens_of_all, has_kinds, have_kinds}
use Rattle.sb_reader.specs.Entries.{closes_at_end, is_parenthesis}
use Rattle.sb_reader.specs.OneEntry.{is_one_entry}
use Rattle.sb_reader.proofs.RunForms.{form_of_run, numeral_form, other_form, symbol_form, keyword_form}

-- the form of a token that is no parenthesis
abbrev form_of_token : Token → Form
form_of_token Open = Group none
form_of_token Close = Group none
form_of_token (Text bytes) = Words bytes
form_of_token (Quoted bytes) = QuotedSymbol bytes
form_of_token (Run bytes) = form_of_run bytes

-- a form that is an atom: the form of its token
pub record IsAtomOf (form : Form) (token : Token) : Type 0 where
  pub tokens : tokens_of form ≡ token ∷ []
  pub is : form ≡ form_of_token token
  pub no_parenthesis : is_parenthesis token ≡ false

-- what a form is
data View : Form → Type 0 where
  atom : {form : Form} (token : Token) → IsAtomOf form token → View form
  group : (forms : Forms) → View (Group forms)

view : (form : Form) → has_kinds form ≡ true → View form
view (Symbol name) h = atom (Run name) (record { tokens = refl; is = symbol_form name h; no_parenthesis = refl })
view (QuotedSymbol name) h = atom (Quoted name) (record { tokens = refl; is = refl; no_parenthesis = refl })
view (Keyword name) h = atom (Run name) (record { tokens = refl; is = keyword_form name h; no_parenthesis = refl })
view (Numeral digits) h =
    atom (Run digits) (record { tokens = refl; is = numeral_form digits h; no_parenthesis = refl })
view (OtherNumber bytes) h = atom (Run bytes) (record { tokens = refl; is = other_form bytes h; no_parenthesis = refl })
view (Words bytes) h = atom (Text bytes) (record { tokens = refl; is = refl; no_parenthesis = refl })
view (Group forms) h = group forms

head_is : (t u : Token) (ts us : List Token) → t ∷ ts ≡ u ∷ us → (t ≡ u) × (ts ≡ us)
head_is t u ts us e = (cc, cc)

no_atom : (token : Token) → is_parenthesis token ≡ false → is_parenthesis token ≡ true → ⊥
no_atom token h k = false≢true (sym h ∙ k)

atom_front : (form : Form) (token : Token) (rest : List Token) → IsAtomOf form token
    → tokens_of form ++ rest ≡ token ∷ rest
atom_front form token rest a = ap (λ tokens. tokens ++ rest) a.tokens

-- an atom beside an atom, and beside a list
two_atoms : (f g : Form) (t u : Token) (rest rest' : List Token) → IsAtomOf f t → IsAtomOf g u
    → tokens_of f ++ rest ≡ tokens_of g ++ rest' → (f ≡ g) × (rest ≡ rest')
two_atoms f g t u rest rest' a b same =
    let both = head_is t u rest rest' (sym (atom_front f t rest a) ∙ same ∙ atom_front g u rest' b) in
    (a.is ∙ ap form_of_token both.0 ∙ sym b.is, both.1)

atom_group : (f : Form) (t : Token) (rest others : List Token) → IsAtomOf f t → tokens_of f ++ rest ≡ Open ∷ others → ⊥
atom_group f t rest others a same =
    let both = head_is t Open rest others (sym (atom_front f t rest a) ∙ same) in
    no_atom t a.no_parenthesis (ap is_parenthesis both.0)

open_close : Open ≡ Close → ⊥
open_close e = cc

-- a form does not begin with a closing parenthesis
view_close : {form : Form} (rest others : List Token) → View form → tokens_of form ++ rest ≡ Close ∷ others → ⊥
view_close rest others (atom {form} t a) e = let both = head_is t Close rest others (sym (atom_front form t rest a) ∙ e)
    in no_atom t a.no_parenthesis (ap is_parenthesis both.0)
view_close rest others (group forms) e =
    open_close (head_is Open Close ((tokens_of_all forms ++ Close ∷ []) ++ rest) others e).0

form_close : (f : Form) (rest others : List Token) → has_kinds f ≡ true → tokens_of f ++ rest ≡ Close ∷ others → ⊥
form_close f rest others h e = view_close rest others (view f h) e

atom_beside : {g : Form} (f : Form) (t : Token) (rest rest' : List Token) → IsAtomOf f t → View g
    → tokens_of f ++ rest ≡ tokens_of g ++ rest' → (f ≡ g) × (rest ≡ rest')
atom_beside f t rest rest' a (atom {form} u b) same = two_atoms f form t u rest rest' a b same
atom_beside f t rest rest' a (group gs) same = absurd (atom_group f t rest _ a same)

abbrev SameForms : Forms → Type 0
SameForms fs = (gs : Forms) (rest rest' : List Token) → have_kinds fs ≡ true → have_kinds gs ≡ true
    → tokens_of_all fs ++ Close ∷ rest ≡ tokens_of_all gs ++ Close ∷ rest' → (fs ≡ gs) × (rest ≡ rest')

group_beside : {g : Form} (fs : Forms) (rest rest' : List Token) → SameForms fs → View g → have_kinds fs ≡ true
    → has_kinds g ≡ true → tokens_of (Group fs) ++ rest ≡ tokens_of g ++ rest' → (Group fs ≡ g) × (rest ≡ rest')
group_beside fs rest rest' inner (atom {form} u b) h k same = absurd (atom_group form u rest' _ b (sym same))
group_beside fs rest rest' inner (group gs) h k same =
    let behind = (head_is Open Open ((tokens_of_all fs ++ Close ∷ []) ++ rest)
    ((tokens_of_all gs ++ Close ∷ []) ++ rest') same).1 in
    let both = inner gs rest rest' h k (sym (append_assoc (tokens_of_all fs) (Close ∷ []) rest) ∙ behind
    ∙ append_assoc (tokens_of_all gs) (Close ∷ []) rest') in
    (ap Group both.0, both.1)

-- forms whose tokens begin the same list are the same
mutual
  pub same_form : (f g : Form) (rest rest' : List Token) → has_kinds f ≡ true → has_kinds g ≡ true
      → tokens_of f ++ rest ≡ tokens_of g ++ rest' → (f ≡ g) × (rest ≡ rest')
  same_form (Symbol name) g rest rest' h k same =
      atom_beside (Symbol name) (Run name) rest rest'
      (record { tokens = refl; is = symbol_form name h; no_parenthesis = refl }) (view g k) same
  same_form (QuotedSymbol name) g rest rest' h k same =
      atom_beside (QuotedSymbol name) (Quoted name) rest rest'
      (record { tokens = refl; is = refl; no_parenthesis = refl }) (view g k) same
  same_form (Keyword name) g rest rest' h k same =
      atom_beside (Keyword name) (Run name) rest rest'
      (record { tokens = refl; is = keyword_form name h; no_parenthesis = refl }) (view g k) same
  same_form (Numeral digits) g rest rest' h k same =
      atom_beside (Numeral digits) (Run digits) rest rest'
      (record { tokens = refl; is = numeral_form digits h; no_parenthesis = refl }) (view g k) same
  same_form (OtherNumber bytes) g rest rest' h k same =
      atom_beside (OtherNumber bytes) (Run bytes) rest rest'
      (record { tokens = refl; is = other_form bytes h; no_parenthesis = refl }) (view g k) same
  same_form (Words bytes) g rest rest' h k same =
      atom_beside (Words bytes) (Text bytes) rest rest' (record { tokens = refl; is = refl; no_parenthesis = refl })
      (view g k) same
  same_form (Group fs) g rest rest' h k same = group_beside fs rest rest' (same_forms fs) (view g k) h k same

  same_forms : (fs : Forms) → SameForms fs
  same_forms none none rest rest' h k same = (refl, (head_is Close Close rest rest' same).1)
  same_forms none (more g gs) rest rest' h k same =
      absurd (form_close g _ rest (and_parts _ _ k).0
      (sym (same ∙ append_assoc (tokens_of g) (tokens_of_all gs) (Close ∷ rest'))))
  same_forms (more f fs) none rest rest' h k same =
      absurd (form_close f _ rest' (and_parts _ _ h).0
      (sym (append_assoc (tokens_of f) (tokens_of_all fs) (Close ∷ rest)) ∙ same))
  same_forms (more f fs) (more g gs) rest rest' h k same =
      let first = same_form f g (tokens_of_all fs ++ Close ∷ rest) (tokens_of_all gs ++ Close ∷ rest')
      (and_parts _ _ h).0 (and_parts _ _ k).0 (sym (append_assoc (tokens_of f) (tokens_of_all fs) (Close ∷ rest))
      ∙ same ∙ append_assoc (tokens_of g) (tokens_of_all gs) (Close ∷ rest')) in
      let others = same_forms fs gs rest rest' (and_parts _ _ h).1 (and_parts _ _ k).1 first.1 in
      ((λ j. more (first.0 j) (others.0 j)), others.1)

-- The parentheses of a form are paired.
close_step : (d : ℕ) (after : List Token) → 0 < d → (after ≡ [] → ⊥)
    → closes_at_end (d + 1) (Close ∷ after) ≡ closes_at_end d after
close_step d [] positive some = absurd (some refl)
close_step d (t ∷ ts) positive some =
    let more_than_one : eqb (d + 1) 1 ≡ false = ne_eqb (d + 1) 1 (λ e. absurd (omega arith)) in
    let less : d + 1 - 1 ≡ d = omega arith in
    (λ j. not (more_than_one j) && closes_at_end (less j) (t ∷ ts))

not_nil : (xs : List Token) (after : List Token) → (after ≡ [] → ⊥) → xs ++ after ≡ [] → ⊥
not_nil [] after some e = some e
not_nil (x ∷ xs) after some e = absurd cc

mutual
  closes_form : (f : Form) (d : ℕ) (after : List Token) → 0 < d → (after ≡ [] → ⊥)
      → closes_at_end d (tokens_of f ++ after) ≡ closes_at_end d after
  closes_form (Symbol name) d after positive some = refl
  closes_form (QuotedSymbol name) d after positive some = refl
  closes_form (Keyword name) d after positive some = refl
  closes_form (Numeral digits) d after positive some = refl
  closes_form (OtherNumber bytes) d after positive some = refl
  closes_form (Words bytes) d after positive some = refl
  closes_form (Group fs) d after positive some =
      ap (closes_at_end (d + 1)) (append_assoc (tokens_of_all fs) (Close ∷ []) after)
      ∙ closes_forms fs (d + 1) (Close ∷ after) (omega arith) (λ e. absurd cc) ∙ close_step d after positive some

  closes_forms : (fs : Forms) (d : ℕ) (after : List Token) → 0 < d → (after ≡ [] → ⊥)
      → closes_at_end d (tokens_of_all fs ++ after) ≡ closes_at_end d after
  closes_forms none d after positive some = refl
  closes_forms (more f fs) d after positive some =
      ap (closes_at_end d) (append_assoc (tokens_of f) (tokens_of_all fs) after)
      ∙ closes_form f d (tokens_of_all fs ++ after) positive (not_nil (tokens_of_all fs) after some)
      ∙ closes_forms fs d after positive some

-- a list of forms is one entry
pub group_is_one : (fs : Forms) → is_one_entry (tokens_of (Group fs)) ≡ true
group_is_one fs = closes_forms fs 1 (Close ∷ []) (omega arith) (λ e. absurd cc)
