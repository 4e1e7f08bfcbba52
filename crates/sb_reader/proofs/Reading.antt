-- What the loop over the tokens of a form keeps.
use Rattle.std.proofs.Common.{◌≡◌, ℕ, ◌+◌, ◌-◌, ◌<◌, true, false, not, ◌&&◌, nat_le, cond, eqb, List, [], ◌∷◌, ◌++◌, length, Some, None, Result, Ok, Err, sym, refl, ap, ◌∙◌, subst, inr, arith, append_assoc}
use Rattle.std.proofs.lemmas.Bool.{and_parts, false≢true, eqb-true}
use Rattle.sb_reader.specs.declared.sexpr.Sexpr.{Sexpr}
use Rattle.sb_reader.specs.declared.parse.OpenLists.{OpenLists}
use Rattle.sb_reader.specs.declared.parse.Atom.{Atom}
use Rattle.sb_reader.specs.declared.feed.Refusal.{Refusal}
use Rattle.sb_reader.specs.declared.feed.Refusal.TheVariants.{BadToken, TooDeep}
use Rattle.sb_reader.specs.declared.token.Lexeme.TheVariants as lexeme
use Rattle.sb_reader.specs.declared.token.Lexeme.{Lexeme}
use Rattle.sb_reader.specs.Tokens.{Token, Open, Close, Text, Quoted, Run, is_bad}
use Rattle.sb_reader.specs.Forms.{Form, Forms, Group, none, tokens_of, atom_of, form_of}
use Rattle.sb_reader.specs.Entries.{Spells, IsCommand, IsEntry, Refused, closes_at_end, first_fault, is_parenthesis, depth_limit}
use Rattle.sb_reader.specs.Lexing.{first_token, token_of}
use Rattle.sb_reader.specs.Parsing.{pushed, read_tokens, are_kinds, IsLaid, IsInside, IsClosed, IsAtom, IsTail, IsParsed}
use Rattle.sb_reader.proofs.Stack.{Gains, Closes, push_gains, open_gains, close_gains, closes_last}
use Rattle.sb_reader.proofs.Laid.{laid_is}
use Rattle.sb_reader.proofs.Spelled.{continues, ends, same_whole}

-- The tokens that are read are those of the open lists, and the others spell what is left of the bytes.
pub record IsReading (bytes rest : List ℕ) (lists : List Forms) : Type 0 where
  pub tokens : List Token
  pub left : List Token
  pub tail : IsTail tokens bytes
  pub split : Open ∷ tokens ≡ read_tokens lists ++ left
  pub spelled : Spells true left rest []
  pub closes : closes_at_end (length lists) left ≡ true
  pub faults : first_fault 1 tokens ≡ first_fault (length lists) left
  pub kinds : are_kinds lists ≡ true

-- what one more token does
split_more : (front tokens others all : List Token) (token : Token) (left new : List Token) → all ≡ front ++ left
    → left ≡ token ∷ others → new ≡ front ++ token ∷ [] → all ≡ new ++ others
split_more front tokens others all token left new split left_is new_is =
    split ∙ ap (λ back. front ++ back) left_is ∙ sym (append_assoc front (token ∷ []) others)
    ∙ ap (λ read. read ++ others) (sym new_is)

module _ {bytes rest : List ℕ} {old : List Forms} (r : IsReading bytes rest old) where
  -- a list is opened
  pub reading_opens : (behind : List ℕ) (new : List Forms) → Some (Open, behind) ≡ first_token rest
      → nat_le depth_limit (length old) ≡ false → Gains (Open ∷ []) old new → length new ≡ length old + 1
      → IsReading bytes behind new
  reading_opens behind new reads fits gains deeper =
      let next = continues r.left rest Open behind reads r.spelled in
      record {
        tokens = r.tokens;
        left = next.others;
        tail = r.tail;
        split = split_more (read_tokens old) [] next.others _ Open r.left _ r.split next.is gains.appended;
        spelled = next.spelled;
        closes = ap (λ d. closes_at_end d next.others) deeper ∙ ap (closes_at_end (length old)) (sym next.is)
            ∙ r.closes;
        faults = r.faults ∙ ap (first_fault (length old)) next.is
            ∙ ap (λ t. cond t (Some TooDeep) (first_fault (length old + 1) next.others)) fits
            ∙ ap (λ d. first_fault d next.others) (sym deeper);
        kinds = gains.kinds r.kinds;
      }

  -- one list too many
  pub reading_too_deep : (behind : List ℕ) → Some (Open, behind) ≡ first_token rest
      → nat_le depth_limit (length old) ≡ true → IsEntry (Refused TooDeep) (Open ∷ r.tokens)
  reading_too_deep behind reads full =
      let next = continues r.left rest Open behind reads r.spelled in
      let fault = r.faults ∙ ap (first_fault (length old)) next.is
      ∙ ap (λ t. cond t (Some TooDeep) (first_fault (length old + 1) next.others)) full in
      inr (inr (r.tail.closes, fault))

-- A closing parenthesis with other tokens behind it leaves a list open.
closes_inner : (d e : ℕ) (others : List Token) → closes_at_end d (Close ∷ others) ≡ true → d ≡ e + 1 → 0 < e
    → closes_at_end e others ≡ true
closes_inner d e [] h is some = absurd (let one : d ≡ 1 = eqb-true d 1 h in omega arith)
closes_inner d e (t ∷ ts) h is some = let less : d - 1 ≡ e = omega arith in
    ap (λ n. closes_at_end n (t ∷ ts)) (sym less) ∙ (and_parts _ _ h).1

closes_outer : (d : ℕ) (others : List Token) → closes_at_end d (Close ∷ others) ≡ true → d ≡ 1 → others ≡ []
closes_outer d [] h is = refl
closes_outer d (t ∷ ts) h is =
    absurd (false≢true (ap (λ n. not (eqb n 1) && closes_at_end (n - 1) (t ∷ ts)) (sym is) ∙ h))

module _ {bytes rest : List ℕ} {old : List Forms} (r : IsReading bytes rest old) (behind : List ℕ)
    (reads : Some (Close, behind) ≡ first_token rest) where
  -- an inner list is closed
  pub reading_closes : (new : List Forms) → Gains (Close ∷ []) old new → length old ≡ length new + 1 → 0 < length new
      → IsReading bytes behind new
  reading_closes new gains shallower some =
      let next = continues r.left rest Close behind reads r.spelled in
      let less : length old - 1 ≡ length new = omega (arith, shallower) in
      record {
        tokens = r.tokens;
        left = next.others;
        tail = r.tail;
        split = split_more (read_tokens old) [] next.others _ Close r.left _ r.split next.is gains.appended;
        spelled = next.spelled;
        closes = closes_inner (length old) (length new) next.others (ap (closes_at_end (length old)) (sym next.is)
            ∙ r.closes) shallower some;
        faults = r.faults ∙ ap (first_fault (length old)) next.is ∙ ap (λ d. first_fault d next.others) less;
        kinds = gains.kinds r.kinds;
      }

  -- the form is closed
  pub reading_ends : (form : Form) → Closes old form → IsCommand form (Open ∷ r.tokens)
  reading_ends form closed =
      let next = continues r.left rest Close behind reads r.spelled in
      let none_left = closes_outer (length old) next.others (ap (closes_at_end (length old)) (sym next.is)
      ∙ r.closes) closed.outermost in
      let last : r.left ≡ Close ∷ [] = next.is ∙ ap (λ others. Close ∷ others) none_left in
      record {
        forms = closed.forms;
        list = closed.list;
        tokens_are = r.split ∙ ap (λ left. read_tokens old ++ left) last ∙ sym closed.tokens_are;
        kinds = closed.kinds r.kinds;
        no_fault = r.faults ∙ ap (first_fault (length old)) last;
      }

-- A token that is no parenthesis changes no depth.
closes_atom : (d : ℕ) (token : Token) (others : List Token) → is_parenthesis token ≡ false
    → closes_at_end d (token ∷ others) ≡ closes_at_end d others
closes_atom d Open others h = absurd (false≢true (sym h))
closes_atom d Close others h = absurd (false≢true (sym h))
closes_atom d (Text bytes) others h = refl
closes_atom d (Quoted bytes) others h = refl
closes_atom d (Run bytes) others h = refl

fault_atom : (d : ℕ) (token : Token) (others : List Token) → is_parenthesis token ≡ false
    → first_fault d (token ∷ others) ≡ cond (is_bad token) (Some BadToken) (first_fault d others)
fault_atom d Open others h = absurd (false≢true (sym h))
fault_atom d Close others h = absurd (false≢true (sym h))
fault_atom d (Text bytes) others h = refl
fault_atom d (Quoted bytes) others h = refl
fault_atom d (Run bytes) others h = refl

module _ {bytes rest : List ℕ} {old : List Forms} (r : IsReading bytes rest old) (token : Token) (behind : List ℕ)
    (reads : Some (token, behind) ≡ first_token rest) (atom : is_parenthesis token ≡ false) where
  -- a form joins the innermost list
  pub reading_pushes : (form : Form) (new : List Forms) → is_bad token ≡ false → tokens_of form ≡ token ∷ []
      → Gains (tokens_of form) old new → length new ≡ length old → IsReading bytes behind new
  reading_pushes form new good is gains same =
      let next = continues r.left rest token behind reads r.spelled in
      record {
        tokens = r.tokens;
        left = next.others;
        tail = r.tail;
        split = split_more (read_tokens old) [] next.others _ token r.left _ r.split next.is
            (gains.appended ∙ ap (λ tokens. read_tokens old ++ tokens) is);
        spelled = next.spelled;
        closes = ap (λ d. closes_at_end d next.others) same ∙ sym (closes_atom (length old) token next.others atom)
            ∙ ap (closes_at_end (length old)) (sym next.is) ∙ r.closes;
        faults = r.faults ∙ ap (first_fault (length old)) next.is ∙ fault_atom (length old) token next.others atom
            ∙ ap (λ t. cond t (Some BadToken) (first_fault (length old) next.others)) good
            ∙ ap (λ d. first_fault d next.others) (sym same);
        kinds = gains.kinds r.kinds;
      }

  -- the token is bad
  pub reading_bad : is_bad token ≡ true → IsEntry (Refused BadToken) (Open ∷ r.tokens)
  reading_bad bad =
      let next = continues r.left rest token behind reads r.spelled in
      let fault = r.faults ∙ ap (first_fault (length old)) next.is ∙ fault_atom (length old) token next.others atom
      ∙ ap (λ t. cond t (Some BadToken) (first_fault (length old) next.others)) bad in
      inr (inr (r.tail.closes, fault))

-- The tokens do not end before the form is closed.
pub reading_never_ends : (bytes rest : List ℕ) (lists : List Forms) → IsReading bytes rest lists
    → None ≡ first_token rest → ⊥
reading_never_ends bytes rest lists r reads =
    false≢true (ap (closes_at_end (length lists)) (sym (ends r.left rest reads r.spelled)) ∙ r.closes)

pub not_parenthesis : (l : Lexeme) → (l ≡ lexeme.Open → ⊥) → (l ≡ lexeme.Close → ⊥)
    → is_parenthesis (token_of l) ≡ false
not_parenthesis lexeme.Open not_open not_close = absurd (not_open refl)
not_parenthesis lexeme.Close not_open not_close = absurd (not_close refl)
not_parenthesis (lexeme.Text bytes) not_open not_close = refl
not_parenthesis (lexeme.Quoted bytes) not_open not_close = refl
not_parenthesis (lexeme.Run bytes) not_open not_close = refl

-- What is read is the answer for any tokens that spell the bytes.
any_tail : (bytes rest : List ℕ) (lists : List Forms) (parsed : Result Sexpr Refusal)
    (r : IsReading bytes rest lists) → IsParsed parsed (Open ∷ r.tokens) → (tokens : List Token) → IsTail tokens bytes
    → IsParsed parsed (Open ∷ tokens)
any_tail bytes rest lists parsed r is tokens tail =
    subst (λ ts. IsParsed parsed (Open ∷ ts)) (same_whole r.tokens tokens bytes r.tail.spelled tail.spelled) is

-- the answer for all tokens of an entry behind its first parenthesis
abbrev pub Answers : Result Sexpr Refusal → List ℕ → Type 0
Answers parsed bytes = (tokens : List Token) → IsTail tokens bytes → IsParsed parsed (Open ∷ tokens)

-- What the loop keeps: the open lists lie in memory, and are those of the tokens that are read.
pub record Reads (bytes rest : List ℕ) (lists : OpenLists) : Type 0 where
  pub forms : Forms
  pub outer : List Forms
  pub laid : IsLaid lists (forms ∷ outer)
  pub reading : (tokens : List Token) → IsTail tokens bytes → IsReading bytes rest (forms ∷ outer)

module _ {bytes rest : List ℕ} {old : OpenLists} (r : Reads bytes rest old) (behind : List ℕ) where
  pub reads_open : (new : OpenLists) → Some (Open, behind) ≡ first_token rest
      → nat_le depth_limit (length (r.forms ∷ r.outer)) ≡ false → IsLaid new (none ∷ r.forms ∷ r.outer)
      → Reads bytes behind new
  reads_open new reads fits laid = record {
    forms = none;
    outer = r.forms ∷ r.outer;
    laid = laid;
    reading = λ tokens tail. reading_opens (r.reading tokens tail) behind (none ∷ r.forms ∷ r.outer) reads fits
        (open_gains (r.forms ∷ r.outer)) (omega arith);
  }

  pub reads_too_deep : Some (Open, behind) ≡ first_token rest
      → nat_le depth_limit (length (r.forms ∷ r.outer)) ≡ true → Answers (Err TooDeep) bytes
  reads_too_deep reads full tokens tail = let here = r.reading tokens tail in
      any_tail _ _ _ (Err TooDeep) here (reading_too_deep here behind reads full) tokens tail

  -- an inner list is closed
  pub reads_close : (new : OpenLists) → Some (Close, behind) ≡ first_token rest → IsInside new r.forms r.outer
      → Reads bytes behind new
  reads_close new reads inside = record {
    forms = pushed inside.around (Group r.forms);
    outer = inside.others;
    laid = inside.laid;
    reading = λ tokens tail.
        let here : IsReading bytes rest (r.forms ∷ inside.around ∷ inside.others) =
        subst (λ outer. IsReading bytes rest (r.forms ∷ outer)) inside.outer_is (r.reading tokens tail) in
        reading_closes here behind reads (pushed inside.around (Group r.forms) ∷ inside.others)
        (close_gains r.forms inside.around inside.others) (omega arith) (omega arith);
  }

  -- the form is closed
  pub reads_end : (new : OpenLists) (form : Sexpr) → Some (Close, behind) ≡ first_token rest
      → IsClosed new r.forms r.outer → form.nodes.items ≡ new.nodes.items → form.bytes.items ≡ new.bytes.items
      → Answers (Ok form) bytes
  reads_end new form reads closed nodes bytes_are tokens tail =
      let here : IsReading bytes rest (r.forms ∷ []) =
      subst (λ outer. IsReading bytes rest (r.forms ∷ outer)) closed.outermost (r.reading tokens tail) in
      let is : form_of form ≡ Group r.forms = laid_is form r.forms (nodes ∙ closed.nodes) (bytes_are ∙ closed.bytes) in
      any_tail _ _ _ (Ok form) here
      (subst (λ f. IsCommand f (Open ∷ here.tokens)) (sym is)
      (reading_ends here behind reads (Group r.forms) (closes_last r.forms)))
      tokens tail

  -- an atom joins the innermost list
  pub reads_push : (new : OpenLists) (token : Token) (atom : Atom) → Some (token, behind) ≡ first_token rest
      → is_parenthesis token ≡ false → IsAtom (Some atom) token
      → IsLaid new (pushed r.forms (atom_of atom.kind atom.bytes.now) ∷ r.outer) → Reads bytes behind new
  reads_push new token atom reads apart is laid = record {
    forms = pushed r.forms (atom_of atom.kind atom.bytes.now);
    outer = r.outer;
    laid = laid;
    reading = λ tokens tail. reading_pushes (r.reading tokens tail) token behind reads apart
        (atom_of atom.kind atom.bytes.now) (pushed r.forms (atom_of atom.kind atom.bytes.now) ∷ r.outer) is.0 is.1
        (push_gains r.forms r.outer (atom_of atom.kind atom.bytes.now) is.2) refl;
  }

  pub reads_bad : (token : Token) → Some (token, behind) ≡ first_token rest → is_parenthesis token ≡ false
      → is_bad token ≡ true → Answers (Err BadToken) bytes
  reads_bad token reads apart bad tokens tail = let here = r.reading tokens tail in
      any_tail _ _ _ (Err BadToken) here (reading_bad here token behind reads apart bad) tokens tail
