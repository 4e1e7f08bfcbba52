-- Fields with separators between, and in front.
use Rattle.std.proofs.Common.{◌≡◌, ℕ, ℤ, false, ◌==◌, List, [], ◌∷◌, ◌++◌, length, map, codes, cond, Result, Ok, Err, is_ok, OnOk, refl, sym, ap, ◌∙◌}
use Rattle.std.specs.List.{join_with_byte, flat_map}
use Rattle.std.specs.Fmt.{signed_decimal}
use Rattle.std.proofs.lemmas.Bool.{true≢false}
use Rattle.std.proofs.lemmas.List.{append-nil, append_assoc}
use Rattle.std.proofs.lemmas.List.Folds.{flat_map-map}
use Rattle.sb_rulebook.specs.Reading.{split_at, each, characters, hexadecimal_number}
use Rattle.sb_rulebook.specs.Lines.{Field, summand_fields, variable_text}
use Rattle.sb_proof.specs.declared.atom.Variable.{Variable}
use Rattle.sb_proof.specs.Fields.{behind, spaced}
use Rattle.sb_proof.specs.Lines.{variable_in, summand_in}

-- what was appended by two steps
pub grows : {m n : List ℕ} (old a b : List ℕ) → m ≡ old ++ a → n ≡ m ++ b → n ≡ old ++ (a ++ b)
grows old a b p q = q ∙ ap (λ bs. bs ++ b) p ∙ append_assoc old a b

pub ends : {m n whole : List ℕ} (old a b : List ℕ) → m ≡ old ++ a → n ≡ m ++ b → a ++ b ≡ whole → n ≡ old ++ whole
ends old a b p q w = grows old a b p q ∙ ap (λ bs. old ++ bs) w

-- what a last step appends
pub last_piece : {A E : Type 0} (r : Result A E) {new whole : List ℕ} (old piece : List ℕ)
    → new ≡ cond (is_ok r) (old ++ piece) old → piece ≡ whole → OnOk r (new ≡ old ++ whole)
last_piece (Ok x) old piece e w = e ∙ ap (λ bs. old ++ bs) w
last_piece (Err x) old piece e w = tt

-- a list with a separator between its fields
pub joined_behind : (c : ℕ) (f : Field) (fs : List Field) → join_with_byte c (f ∷ fs) ≡ f ++ behind c fs
joined_behind c f [] = sym (append-nil f)
joined_behind c f (g ∷ gs) = ap (λ bs. f ++ c ∷ bs) (joined_behind c g gs)

pub behind_append : (c : ℕ) (fs gs : List Field) → behind c (fs ++ gs) ≡ behind c fs ++ behind c gs
behind_append c [] gs = refl
behind_append c (f ∷ fs) gs =
    ap (λ bs. c ∷ (f ++ bs)) (behind_append c fs gs)
    ∙ ap (λ bs. c ∷ bs) (sym (append_assoc f (behind c fs) (behind c gs)))

-- each with the separator in front, by a loop
module _ {A : Type 0} (c : ℕ) (spell : A → Field) where
  pub looped : (xs ys : List A) → xs ≡ ys → flat_map (λ x. c ∷ spell x) xs ≡ behind c (map spell ys)
  looped xs ys e =
      ap (λ zs. flat_map (λ x. c ∷ spell x) zs) e ∙ sym (flat_map-map (λ g. c ∷ g) spell ys)

  pub joined_map : (f : Field) (xs : List A) → f ++ flat_map (λ x. c ∷ spell x) xs ≡ join_with_byte c (f ∷ map spell xs)
  joined_map f xs = ap (λ bs. f ++ bs) (looped xs xs refl) ∙ sym (joined_behind c f (map spell xs))

-- two texts with a separator between, in front of further fields
pub two_words : (c : ℕ) (f g : Field) (fs : List Field)
    → join_with_byte c ((f ++ c ∷ g) ∷ fs) ≡ join_with_byte c (f ∷ g ∷ fs)
two_words c f g fs =
    joined_behind c (f ++ c ∷ g) fs ∙ append_assoc f (c ∷ g) (behind c fs)
    ∙ ap (λ bs. f ++ c ∷ bs) (sym (joined_behind c g fs))

pub listed : {A : Type 0} (f g : Field) (spell : A → Field) (xs ys : List A) → xs ≡ ys
    → join_with_byte 32 ((f ++ 32 ∷ g) ∷ map spell xs) ≡ join_with_byte 32 (f ∷ g ∷ map spell ys)
listed f g spell xs ys e =
    two_words 32 f g (map spell xs) ∙ ap (λ zs. join_with_byte 32 (f ∷ g ∷ map spell zs)) e

-- further fields
pub joined_more : (c : ℕ) (f : Field) (fs gs : List Field)
    → join_with_byte c (f ∷ fs) ++ behind c gs ≡ join_with_byte c (f ∷ (fs ++ gs))
joined_more c f fs gs =
    ap (λ bs. bs ++ behind c gs) (joined_behind c f fs) ∙ append_assoc f (behind c fs) (behind c gs)
    ∙ ap (λ bs. f ++ bs) (sym (behind_append c fs gs)) ∙ sym (joined_behind c f (fs ++ gs))

-- fields on both sides of a colon
pub around : (f g : Field) (fs gs : List Field)
    → join_with_byte 32 ((f ++ 32 ∷ g) ∷ fs) ++ join_with_byte 32 (codes " :" ∷ gs)
    ≡ join_with_byte 32 (f ∷ g ∷ (fs ++ codes ":" ∷ gs))
around f g fs gs =
    ap (λ bs. join_with_byte 32 ((f ++ 32 ∷ g) ∷ fs) ++ bs) (joined_behind 32 (codes " :") gs)
    ∙ joined_more 32 (f ++ 32 ∷ g) fs (codes ":" ∷ gs) ∙ two_words 32 f g (fs ++ codes ":" ∷ gs)

-- what a view of each spells
pub viewed : {A B : Type 0} (spell : B → Field) (view : A → B) (xs ys : List A) → xs ≡ ys
    → map (λ x. spell (view x)) xs ≡ map spell (map view ys)
viewed {A = A} spell view xs ys e = all xs ∙ ap (λ zs. map spell (map view zs)) e
  where
    all : (zs : List A) → map (λ x. spell (view x)) zs ≡ map spell (map view zs)
    all [] = refl
    all (z ∷ zs) = ap (λ fs. spell (view z) ∷ fs) (all zs)

-- the two fields of each summand
abbrev pub summand_text : ℤ × Variable → List ℕ
summand_text s = signed_decimal s.0 ++ 32 ∷ variable_text (variable_in s.1)

spaced_summands : (ss : List (ℤ × Variable))
    → spaced (map summand_text ss) ≡ spaced (flat_map summand_fields (map summand_in ss))
spaced_summands [] = refl
spaced_summands (s ∷ ss) =
    ap (λ bs. 32 ∷ bs) (append_assoc (signed_decimal s.0) (32 ∷ variable_text (variable_in s.1))
    (spaced (map summand_text ss)))
    ∙ ap (λ bs. 32 ∷ (signed_decimal s.0 ++ 32 ∷ (variable_text (variable_in s.1) ++ bs))) (spaced_summands ss)

pub looped_summands : (ss ts : List (ℤ × Variable)) → ss ≡ ts
    → spaced (map summand_text ss) ≡ spaced (flat_map summand_fields (map summand_in ts))
looped_summands ss ts e = ap (λ us. spaced (map summand_text us)) e ∙ spaced_summands ts

-- the characters of a word that has any
pub characters_split : (text : List ℕ) (fields : List Field) → (length text == 0) ≡ false → split_at 46 text ≡ fields
    → characters text ≡ each hexadecimal_number fields
characters_split [] fields some e = absurd (true≢false some)
characters_split (b ∷ bs) fields some e = ap (each hexadecimal_number) e
