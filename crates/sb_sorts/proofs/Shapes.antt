-- Forms by their shape, as the code takes them apart.
use Rattle.std.proofs.Common.{◌≡◌, ℕ, Bool, true, false, not, if◌then◌else◌, List, [], ◌∷◌, Option, Some, None, is_some, option_map, Result, Ok, Err, sym, refl, ap, ◌∙◌, true≢false}
use Rattle.sb_reader.specs.Forms.{Form, Forms, Symbol, QuotedSymbol, Keyword, Numeral, OtherNumber, Words, Group, none, more, is_none, only_of, pair_of}
use Rattle.sb_script.specs.Names.{Name, is_reserved}
use Rattle.sb_script.specs.Scopes.{Naming}
use Rattle.sb_script.specs.Commands.{declarable}
use Rattle.sb_script.specs.Faults.{Fault, bad_index, malformed}
use Rattle.sb_script.specs.Heads.{Head, head_term, hexadecimal_digits, character_word, read_indexed}
use Rattle.sb_meaning.specs.Terms.{word}
use Rattle.sb_word.specs.LiteralWords.{character_of}
use Rattle.sb_sorts.specs.Characters.{character_in}
use Rattle.sb_script.specs.Reading.{is_binding, is_let, read_index_list}
use Rattle.sb_sorts.specs.Heads.{has_bindings, beginning_of, some_beginning}

pub some_map : {A B : Type 0} (f : A → B) (o : Option A) → is_some o ≡ is_some (option_map f o)
some_map f None = refl
some_map f (Some x) = refl

-- a name with an index behind it
abbrev pub by_name : List Naming → Forms → Option Name → Result Head Fault
by_name names indices (Some name) = read_indexed names name indices
by_name names indices None = Err malformed

unreserved : (r : Bool) (names : List Naming) (name : Name) (indices : Forms)
    → (if r then Err malformed else read_indexed names name indices)
    ≡ by_name names indices (if r then None else Some name)
unreserved true names name indices = refl
unreserved false names name indices = refl

index_list_name : (names : List Naming) (f g : Form) (gs : Forms)
    → read_index_list names (more f (more g gs)) ≡ by_name names (more g gs) (declarable f)
index_list_name names (Symbol name) g gs = unreserved (is_reserved name) names name (more g gs)
index_list_name names (QuotedSymbol name) g gs = refl
index_list_name names (Keyword name) g gs = refl
index_list_name names (Numeral digits) g gs = refl
index_list_name names (OtherNumber bytes) g gs = refl
index_list_name names (Words bytes) g gs = refl
index_list_name names (Group list) g gs = refl

no_index : (names : List Naming) (f : Form) → read_index_list names (more f none) ≡ Err malformed
no_index names (Symbol name) = refl
no_index names (QuotedSymbol name) = refl
no_index names (Keyword name) = refl
no_index names (Numeral digits) = refl
no_index names (OtherNumber bytes) = refl
no_index names (Words bytes) = refl
no_index names (Group list) = refl

pub indexed : (names : List Naming) (first : Form) (indices : Forms) → is_none indices ≡ false
    → read_index_list names (more first indices) ≡ by_name names indices (declarable first)
indexed names first none some = absurd (true≢false some)
indexed names first (more index indices) some = index_list_name names first index indices

pub unindexed : (names : List Naming) (first : Form) (indices : Forms) → is_none indices ≡ true
    → read_index_list names (more first indices) ≡ Err malformed
unindexed names first none empty = no_index names first
unindexed names first (more index indices) empty = absurd (true≢false (sym empty))

-- a binding is a pair with a name in front
named_or_not : (r : Bool) (name : Name) → not r ≡ is_some (if r then None else Some name)
named_or_not true name = refl
named_or_not false name = refl

binding_name : (f g : Form) → is_binding (Group (more f (more g none))) ≡ is_some (declarable f)
binding_name (Symbol name) g = named_or_not (is_reserved name) name
binding_name (QuotedSymbol name) g = refl
binding_name (Keyword name) g = refl
binding_name (Numeral digits) g = refl
binding_name (OtherNumber bytes) g = refl
binding_name (Words bytes) g = refl
binding_name (Group list) g = refl

one_form : (f : Form) → is_binding (Group (more f none)) ≡ false
one_form (Symbol name) = refl
one_form (QuotedSymbol name) = refl
one_form (Keyword name) = refl
one_form (Numeral digits) = refl
one_form (OtherNumber bytes) = refl
one_form (Words bytes) = refl
one_form (Group list) = refl

many_forms : (f g h : Form) (hs : Forms) → is_binding (Group (more f (more g (more h hs)))) ≡ false
many_forms (Symbol name) g h hs = refl
many_forms (QuotedSymbol name) g h hs = refl
many_forms (Keyword name) g h hs = refl
many_forms (Numeral digits) g h hs = refl
many_forms (OtherNumber bytes) g h hs = refl
many_forms (Words bytes) g h hs = refl
many_forms (Group list) g h hs = refl

abbrev pub has_name : Option (Form × Form) → Bool
has_name None = false
has_name (Some (first, second)) = is_some (declarable first)

pub binding_of_pair : (parts : Forms) → is_binding (Group parts) ≡ has_name (pair_of parts)
binding_of_pair none = refl
binding_of_pair (more f none) = one_form f
binding_of_pair (more f (more g none)) = binding_name f g
binding_of_pair (more f (more g (more h hs))) = many_forms f g h hs

-- a let is bindings and a body
let_bindings : (f g : Form) → is_let (more f (more g none)) ≡ has_bindings f
let_bindings (Group none) g = refl
let_bindings (Group (more binding bindings)) g = refl
let_bindings (Symbol name) g = refl
let_bindings (QuotedSymbol name) g = refl
let_bindings (Keyword name) g = refl
let_bindings (Numeral digits) g = refl
let_bindings (OtherNumber bytes) g = refl
let_bindings (Words bytes) g = refl

no_body : (f : Form) → is_let (more f none) ≡ false
no_body (Group none) = refl
no_body (Group (more binding bindings)) = refl
no_body (Symbol name) = refl
no_body (QuotedSymbol name) = refl
no_body (Keyword name) = refl
no_body (Numeral digits) = refl
no_body (OtherNumber bytes) = refl
no_body (Words bytes) = refl

two_bodies : (f g h : Form) (hs : Forms) → is_let (more f (more g (more h hs))) ≡ false
two_bodies (Group none) g h hs = refl
two_bodies (Group (more binding bindings)) g h hs = refl
two_bodies (Symbol name) g h hs = refl
two_bodies (QuotedSymbol name) g h hs = refl
two_bodies (Keyword name) g h hs = refl
two_bodies (Numeral digits) g h hs = refl
two_bodies (OtherNumber bytes) g h hs = refl
two_bodies (Words bytes) g h hs = refl

abbrev pub binds : Option (Form × Form) → Bool
binds None = false
binds (Some (bindings, body)) = has_bindings bindings

pub let_of_pair : (forms : Forms) → is_let forms ≡ binds (pair_of forms)
let_of_pair none = refl
let_of_pair (more f none) = no_body f
let_of_pair (more f (more g none)) = let_bindings f g
let_of_pair (more f (more g (more h hs))) = two_bodies f g h hs

pub begun : (names : List Naming) (first : Form) (others : Forms) → is_none others ≡ false
    → some_beginning names first others ≡ beginning_of names first others
begun names first none some = absurd (true≢false some)
begun names first (more form forms) some = refl

-- (_ char #xH), by its only index
abbrev pub by_character : Option ℕ → Result Head Fault
by_character (Some c) = Ok (head_term (word (c ∷ [])))
by_character None = Err bad_index

digits_head : (o : Option ℕ)
    → (elim o as (λ _. Result Head Fault) [ Some c ↦ Ok (head_term (word (c ∷ []))) | None ↦ Err bad_index ])
    ≡ by_character o
digits_head None = refl
digits_head (Some c) = refl

one_index_word : (f : Form) → character_word (more f none) ≡ by_character (character_in f)
one_index_word (Symbol name) = refl
one_index_word (QuotedSymbol name) = refl
one_index_word (Keyword name) = refl
one_index_word (Numeral digits) = refl
one_index_word (OtherNumber bytes) = digits_head (character_of (hexadecimal_digits bytes))
one_index_word (Words bytes) = refl
one_index_word (Group list) = refl

pub index_word : (indices : Forms) (f : Form) → Some f ≡ only_of indices
    → character_word indices ≡ by_character (character_in f)
index_word none f e = absurd (Prim.cc (e))
index_word (more g none) f e =
    let same : g ≡ f = Prim.cc (e) in one_index_word g ∙ ap (λ f. by_character (character_in f)) same
index_word (more g (more h hs)) f e = absurd (Prim.cc (e))
