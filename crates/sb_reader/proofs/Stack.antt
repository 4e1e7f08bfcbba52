-- What the lists that are open hold, after a form is added, and a list is opened or closed.
use Rattle.std.proofs.Common.{◌≡◌, true, List, [], ◌∷◌, ◌++◌, length, sym, refl, ap, ◌∙◌, append_assoc}
use Rattle.std.proofs.lemmas.List.{append-nil}
use Rattle.std.proofs.lemmas.Bool.{and_parts, and_from}
use Rattle.sb_reader.specs.Tokens.{Token, Open, Close}
use Rattle.sb_reader.specs.Forms.{Form, Forms, Group, none, more, tokens_of, tokens_of_all, has_kinds, have_kinds}
use Rattle.sb_reader.specs.Parsing.{pushed, read_tokens, are_kinds}

-- More tokens are read, and kinds stay right.
pub record Gains (tokens : List Token) (old new : List Forms) : Type 0 where
  pub appended : read_tokens new ≡ read_tokens old ++ tokens
  pub kinds : are_kinds old ≡ true → are_kinds new ≡ true

-- a form that the outermost list has become
pub record Closes (old : List Forms) (form : Form) : Type 0 where
  pub forms : Forms
  pub list : form ≡ Group forms
  pub tokens_are : tokens_of form ≡ read_tokens old ++ Close ∷ []
  pub outermost : length old ≡ 1
  pub kinds : are_kinds old ≡ true → has_kinds form ≡ true

tokens_pushed : (forms : Forms) (form : Form)
    → tokens_of_all (pushed forms form) ≡ tokens_of_all forms ++ tokens_of form
tokens_pushed none form = append-nil (tokens_of form)
tokens_pushed (more first forms) form = ap (λ tokens. tokens_of first ++ tokens) (tokens_pushed forms form)
    ∙ sym (append_assoc (tokens_of first) (tokens_of_all forms) (tokens_of form))

kinds_pushed : (forms : Forms) (form : Form) → have_kinds forms ≡ true → has_kinds form ≡ true
    → have_kinds (pushed forms form) ≡ true
kinds_pushed none form all here = and_from _ _ here refl
kinds_pushed (more first forms) form all here =
    let parts = and_parts _ _ all in and_from _ _ parts.0 (kinds_pushed forms form parts.1 here)

push_tokens : (forms : Forms) (outer : List Forms) (form : Form)
    → read_tokens (pushed forms form ∷ outer) ≡ read_tokens (forms ∷ outer) ++ tokens_of form
push_tokens forms outer form = ap (λ tokens. read_tokens outer ++ Open ∷ tokens) (tokens_pushed forms form)
    ∙ sym (append_assoc (read_tokens outer) (Open ∷ tokens_of_all forms) (tokens_of form))

-- a form joins the innermost list
pub push_gains : (forms : Forms) (outer : List Forms) (form : Form) → has_kinds form ≡ true
    → Gains (tokens_of form) (forms ∷ outer) (pushed forms form ∷ outer)
push_gains forms outer form here = record {
  appended = push_tokens forms outer form;
  kinds = λ all. let parts = and_parts _ _ all in and_from _ _ (kinds_pushed forms form parts.0 here) parts.1;
}

-- a list is opened
pub open_gains : (levels : List Forms) → Gains (Open ∷ []) levels (none ∷ levels)
open_gains levels = record {
  appended = refl;
  kinds = λ all. all;
}

-- an inner list is closed
pub close_gains : (forms around : Forms) (others : List Forms)
    → Gains (Close ∷ []) (forms ∷ around ∷ others) (pushed around (Group forms) ∷ others)
close_gains forms around others = record {
  appended = push_tokens around others (Group forms)
      ∙ sym (append_assoc (read_tokens (around ∷ others)) (Open ∷ tokens_of_all forms) (Close ∷ []));
  kinds = λ all.
      let inside = and_parts _ _ all in
      let outside = and_parts _ _ inside.1 in
      and_from _ _ (kinds_pushed around (Group forms) outside.0 inside.0) outside.1;
}

-- the outermost list is closed
pub closes_last : (forms : Forms) → Closes (forms ∷ []) (Group forms)
closes_last forms = record {
  forms = forms;
  list = refl;
  tokens_are = refl;
  outermost = refl;
  kinds = λ all. (and_parts _ _ all).0;
}
