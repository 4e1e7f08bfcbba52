-- What each of some fields says, one after another.
use Rattle.std.proofs.Common.{◌≡◌, ℕ, ◌+◌, ◌<◌, ◌≤◌, List, [], ◌∷◌, ◌++◌, length, drop, get_or, Option, Some, None, option_map, option_and_then, refl, sym, ap, ◌∙◌}
use Rattle.std.proofs.lemmas.List.{append-nil, append_assoc, drop_all, drop_more}
use Rattle.sb_rulebook.specs.Lines.{Field}
use Rattle.sb_rulebook.specs.Reading.{each}
use Rattle.sb_proof.specs.Views.{texts}
use denote.Ref.{Bor}

-- of what is read so far a view says what the fields do, and of the fields behind the place the rest
module _ {A B : Type 0} (shape : Field → Option B) (meant : A → B) (view : List A → List B) (all : Option (List B))
    (fields : List (Bor Field)) (i : ℕ) (d : Bor Field) (xs : List A)
    (so_far : all ≡ option_map (λ zs. view xs ++ zs) (each shape (texts (drop i fields)))) where
  at_next : (o : Option B) → i < length fields → o ≡ shape (get_or fields i d).now
      → all ≡ option_map (λ zs. view xs ++ zs)
      (option_and_then (λ y. option_map (λ ys. y ∷ ys) (each shape (texts (drop (i + 1) fields)))) o)
  at_next o within read =
      so_far
      ∙ ap (λ fs. option_map (λ zs. view xs ++ zs) (each shape (texts fs))) (drop_more fields i d within)
      ∙ ap (λ p. option_map (λ zs. view xs ++ zs)
      (option_and_then (λ y. option_map (λ ys. y ∷ ys) (each shape (texts (drop (i + 1) fields)))) p)) (sym read)

  pub each_pushed : (x : A) (ys : List A) → i < length fields → Some (meant x) ≡ shape (get_or fields i d).now
      → view ys ≡ view xs ++ meant x ∷ []
      → all ≡ option_map (λ zs. view ys ++ zs) (each shape (texts (drop (i + 1) fields)))
  each_pushed x ys within read pushed = at_next (Some (meant x)) within read ∙ behind (each shape (texts (drop (i + 1) fields)))
    where
      behind : (o : Option (List B)) → option_map (λ zs. view xs ++ zs) (option_map (λ zs. meant x ∷ zs) o)
          ≡ option_map (λ zs. view ys ++ zs) o
      behind None = refl
      behind (Some zs) =
          ap Some (sym (append_assoc (view xs) (meant x ∷ []) zs) ∙ ap (λ us. us ++ zs) (sym pushed))

  pub each_fails : i < length fields → None ≡ shape (get_or fields i d).now → None ≡ all
  each_fails within read = sym (at_next None within read)

  pub each_done : length fields ≤ i → Some (view xs) ≡ all
  each_done past =
      sym (so_far ∙ ap (λ fs. option_map (λ zs. view xs ++ zs) (each shape (texts fs))) (drop_all i fields past)
      ∙ ap Some (append-nil (view xs)))
