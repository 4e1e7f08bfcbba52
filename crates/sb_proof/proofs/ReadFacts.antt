-- What readers make of what fields say.
use Rattle.std.proofs.Common.{◌≡◌, List, [], ◌∷◌, Option, Some, None, option_map, option_and_then, Result, Ok, Err, refl, sym, ap, ◌∙◌}
use Rattle.std.specs.Option.{ok_or}
use Rattle.sb_rulebook.specs.Lines.{Field}
use Rattle.sb_rulebook.specs.Reading.{Table, one, two, any_number, some, each, both, by_word, made}
use Rattle.sb_rulebook.specs.Refusals.{Refusal, bad_number}
use Rattle.sb_proof.specs.declared.read.LineFault.{LineFault}
use Rattle.sb_proof.specs.Kinds.{behind_word}
use Rattle.sb_proof.specs.Reading.{answered, refusal_of}

or_made : {A B C : Type 0} (g : A → B) (f : B → C) (o : Option A)
    → ok_or (option_map (λ x. f (g x)) o) bad_number ≡ made f (ok_or (option_map g o) bad_number)
or_made g f None = refl
or_made g f (Some x) = refl

pub one_made : {A B C : Type 0} (shape : Field → Option A) (g : A → B) (f : B → C) (fs : List Field)
    → one shape (λ x. f (g x)) fs ≡ made f (one shape g fs)
one_made shape g f [] = refl
one_made shape g f (a ∷ []) = or_made g f (shape a)
one_made shape g f (a ∷ b ∷ fs) = refl

pub two_made : {A B C D : Type 0} (first : Field → Option A) (second : Field → Option B) (g : A → B → C) (f : C → D)
    (fs : List Field) → two first second (λ x y. f (g x y)) fs ≡ made f (two first second g fs)
two_made first second g f [] = refl
two_made first second g f (a ∷ []) = refl
two_made first second g f (a ∷ b ∷ []) = or_made (λ p. g p.0 p.1) f (both first second (a ∷ b ∷ []))
two_made first second g f (a ∷ b ∷ c ∷ fs) = refl

pub any_made : {A B C : Type 0} (shape : Field → Option A) (g : List A → B) (f : B → C) (fs : List Field)
    → any_number shape (λ xs. f (g xs)) fs ≡ made f (any_number shape g fs)
any_made shape g f fs = or_made g f (each shape fs)

pub some_made : {A B C D : Type 0} (first : Field → Option A) (shape : Field → Option B) (g : A → List B → C) (f : C → D)
    (fs : List Field) → some first shape (λ x xs. f (g x xs)) fs ≡ made f (some first shape g fs)
some_made first shape g f [] = refl
some_made {A = A} {B = B} first shape g f (a ∷ fs) = go (first a) (each shape fs)
  where
    go : (o : Option A) (q : Option (List B))
        → ok_or (option_and_then (λ x. option_map (λ xs. f (g x xs)) q) o) bad_number
        ≡ made f (ok_or (option_and_then (λ x. option_map (g x) q) o) bad_number)
    go None q = refl
    go (Some x) None = refl
    go (Some x) (Some xs) = refl

pub word_made : {A B : Type 0} (table : Table A) (f : A → B) (fs : List Field)
    → by_word table f fs ≡ made f (behind_word table fs)
word_made table f [] = refl
word_made table f (word ∷ fs) = refl

-- what is answered of it
pub ok_made : {A B C : Type 0} (view : A → B) (f : B → C) (r : Result A LineFault) (said : Result B Refusal) (x : A)
    → answered view r ≡ said → r ≡ Ok x → Ok (f (view x)) ≡ made f said
ok_made view f r said x is_said is = ap (made f) (sym (ap (answered view) is) ∙ is_said)

pub err_made : {A B C : Type 0} (view : A → B) (f : B → C) (r : Result A LineFault) (said : Result B Refusal)
    (e : LineFault) → answered view r ≡ said → r ≡ Err e → Err (refusal_of e) ≡ made f said
err_made view f r said e is_said is = ap (made f) (sym (ap (answered view) is) ∙ is_said)
