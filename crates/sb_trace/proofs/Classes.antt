-- The classes of pieces, one more in each step.
use Rattle.std.proofs.Common.{◌≡◌, ℕ, zero, suc, ◌+◌, ◌-◌, ◌<◌, ◌≤◌, List, [], ◌∷◌, ◌++◌, length, get_or, take, drop, map, Some, refl, sym, ap, ap₂, subst, ◌∙◌, arith, append_assoc}
use Rattle.sb_lang.specs.Regex.{Regex}
use Rattle.sb_regex.specs.Numbered.{AllNumbers}
use Rattle.std.proofs.lemmas.List.{append-nil, map-append, take_more, drop_more, drop_all, take_all}
use Rattle.sb_deriv.specs.Pieces.{end_of_characters, targets_of}
use Rattle.sb_trace.specs.Defining.{first_of}
use Rattle.sb_proof.specs.declared.line.Class.{Class}
use Rattle.sb_proof.specs.Lines.{class_in}
use Rattle.sb_trace.specs.Tracking.{Traced, number_in, StaysNumbered}
use Rattle.sb_trace.specs.Defining.{classes_of, AreClassesUpTo, AreClassesOf}
use Rattle.sb_trace.proofs.Numbering.{numbers_stay}

pub no_classes : (order : List ℕ) (pieces : List (ℕ × ℕ)) (classes : List Class) → classes ≡ []
    → AreClassesUpTo order pieces 0 classes
no_classes order pieces classes none = record {
  targets = [];
  numbered = refl;
  are = λ ns. ap (λ ks. map class_in ks ++ classes_of pieces ns) none;
}

numbers_more : (order : List ℕ) (pieces : List (ℕ × ℕ)) (i : ℕ) (p : ℕ × ℕ) (targets : List ℕ) (n : ℕ)
    → i < length pieces → p ≡ get_or pieces i p
    → map (number_in order) (targets_of (take i pieces)) ≡ map Some targets → number_in order p.1 ≡ Some n
    → map (number_in order) (targets_of (take (i + 1) pieces)) ≡ map Some (targets ++ n ∷ [])
numbers_more order pieces i p targets n l is before here =
    ap (λ (xs : List (ℕ × ℕ)). map (number_in order) (targets_of xs))
    (take_more pieces i p l ∙ ap (λ (q : ℕ × ℕ). take i pieces ++ q ∷ []) (sym is))
    ∙ ap (map (number_in order)) (map-append (λ (q : ℕ × ℕ). q.1) (take i pieces) (p ∷ []))
    ∙ map-append (number_in order) (targets_of (take i pieces)) (p.1 ∷ [])
    ∙ ap₂ (λ xs x. xs ++ x ∷ []) before here
    ∙ sym (map-append Some targets (n ∷ []))

pub one_class_more : (t u : Traced) (pieces : List (ℕ × ℕ)) (i : ℕ) (p : ℕ × ℕ) (last n : ℕ)
    (classes more : List Class) → StaysNumbered t u → i < length pieces → p ≡ get_or pieces i p
    → last ≡ first_of end_of_characters (drop (i + 1) pieces) - 1 → number_in u.order p.1 ≡ Some n
    → map class_in more ≡ map class_in classes ++ ((p.0, last) ∷ [], n) ∷ []
    → AreClassesUpTo t.order pieces i classes → AreClassesUpTo u.order pieces (i + 1) more
one_class_more t u pieces i p last n classes more stays l is end here added before =
    let targets = before.targets in
    let kept : map (number_in u.order) (targets_of (take i pieces)) ≡ map Some targets =
    ap (λ order. map (number_in order) (targets_of (take i pieces))) stays.1
    ∙ numbers_stay t.order stays.0 (targets_of (take i pieces)) targets before.numbered in
    record {
      targets = targets ++ n ∷ [];
      numbered = numbers_more u.order pieces i p targets n l is kept here;
      are = λ ns.
          ap (λ ks. ks ++ classes_of (drop (i + 1) pieces) ns) added
          ∙ append_assoc (map class_in classes) (((p.0, last) ∷ [], n) ∷ []) (classes_of (drop (i + 1) pieces) ns)
          ∙ ap (λ (e : ℕ). map class_in classes ++ ((p.0, e) ∷ [], n) ∷ classes_of (drop (i + 1) pieces) ns) end
          ∙ sym (ap (λ (xs : List (ℕ × ℕ)). map class_in classes ++ classes_of xs (n ∷ ns))
          (drop_more pieces i p l ∙ ap (λ (q : ℕ × ℕ). q ∷ drop (i + 1) pieces) (sym is)))
          ∙ before.are (n ∷ ns)
          ∙ ap (classes_of pieces) (sym (append_assoc targets (n ∷ []) ns));
    }

pub all_classes : (order : List ℕ) (pieces : List (ℕ × ℕ)) (i : ℕ) (classes : List Class) → length pieces ≤ i
    → AreClassesUpTo order pieces i classes → AreClassesOf order pieces classes
all_classes order pieces i classes l before = record {
  targets = before.targets;
  numbered =
      ap (λ (xs : List (ℕ × ℕ)). map (number_in order) (targets_of xs)) (sym (take_all i pieces l)) ∙ before.numbered;
  are =
      sym (append-nil (map class_in classes))
      ∙ sym (ap (λ (xs : List (ℕ × ℕ)). map class_in classes ++ classes_of xs []) (drop_all i pieces l))
      ∙ before.are []
      ∙ ap (classes_of pieces) (append-nil before.targets);
}

-- the target of a piece is the number of a regex
pub target_known : (rs : List Regex) (pieces : List (ℕ × ℕ)) (i : ℕ) (p : ℕ × ℕ) → AllNumbers rs (targets_of pieces)
    → i < length pieces → p ≡ get_or pieces i p → p.1 < length rs
target_known rs [] i p all l is = absurd (omega (arith, l))
target_known rs (q ∷ ps) zero p all l is =
    let e : p ≡ q = is in subst (λ (r : ℕ × ℕ). r.1 < length rs) (sym e) (all 0 0 (omega arith))
target_known rs (q ∷ ps) (suc i) p all l is =
    target_known rs ps i p (λ k d m. all (suc k) d (omega (arith, m))) (omega (arith, l)) is
