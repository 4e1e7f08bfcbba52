-- Where the first line feed of what is kept stands.
use Rattle.std.proofs.Common.{◌≡◌, ℕ, zero, suc, ◌+◌, ◌-◌, ◌<◌, Bool, true, false, ◌==◌, List, [], ◌∷◌, ◌++◌, length, take, drop, get_or, Option, Some, None, refl, sym, ap, ◌∙◌, subst, arith, take_all, append_assoc}
use Rattle.std.specs.Prelude.{not, ◌&&◌}
use Rattle.std.proofs.lemmas.Bool.{eqb-true}
use Rattle.std.proofs.lemmas.List.{take-append-drop, take_rest, drop-drop, drop_more, length-drop}
use Rattle.std.proofs.Math.Seq.{take-add}
use Rattle.std.proofs.lemmas.List.Folds.{list_all-append}
use Rattle.memchr.specs.Find.{IsFirstByte, is_byte}
use Rattle.sb_rulebook.specs.LineLaws.{is_one_line}
use Rattle.sb_input.specs.TakingLines.{state_of}
use Rattle.sb_input.specs.KeepingLines.{FindsFeed, TakesLine}

both-true : (a b : Bool) → a ≡ true → b ≡ true → (a && b) ≡ true
both-true a b p q = rw (p, q) refl

never-true : (b : Bool) → (b ≡ true → ⊥) → not b ≡ true
never-true true h = absurd (h refl)
never-true false h = refl

-- no line feed stands in front
one_line-front : (bytes : List ℕ) (n : ℕ) → ((k : ℕ) → k < n → (get_or bytes k 0 == 10) ≡ true → ⊥)
    → is_one_line (take n bytes) ≡ true
one_line-front bytes zero h = refl
one_line-front [] (suc n) h = refl
one_line-front (b ∷ bytes) (suc n) h =
    both-true (not (b == 10)) (is_one_line (take n bytes)) (never-true (b == 10) (h zero (omega arith)))
    (one_line-front bytes n (λ k lt. h (suc k) (omega arith)))

feed_found : (bytes : List ℕ) (r : Option ℕ) → IsFirstByte (is_byte 10) bytes r → FindsFeed r bytes
feed_found bytes None h =
    subst (λ (text : List ℕ). is_one_line text ≡ true) (take_all (length bytes) bytes (omega arith))
    (one_line-front bytes (length bytes) (λ k lt. h k (omega arith) lt))
feed_found bytes (Some place) h = (
  h.0.high,
  (
    one_line-front bytes place (λ k lt. h.0.before k (omega arith) lt),
    sym (take-append-drop place bytes)
        ∙ ap (λ rest. take place bytes ++ rest) (drop_more bytes place 0 h.0.high
        ∙ ap (λ b. b ∷ drop (place + 1) bytes) (eqb-true (get_or bytes place 0) 10 h.1)),
  ),
)

-- the same of a search from a place on
pub feed_found_from : (bytes : List ℕ) (from : ℕ) (r : Option ℕ)
    → IsFirstByte (is_byte 10) (take (length bytes - from) (drop from bytes)) r → FindsFeed r (drop from bytes)
feed_found_from bytes from r h =
    feed_found (drop from bytes) r (subst (λ (xs : List ℕ). IsFirstByte (is_byte 10) xs r) (take_rest bytes from) h)

-- one line behind another text of one
one_line-both : (xs ys : List ℕ) → is_one_line xs ≡ true → is_one_line ys ≡ true → is_one_line (xs ++ ys) ≡ true
one_line-both xs ys p q =
    list_all-append (λ b. not (b == 10)) xs ys ∙ both-true (is_one_line xs) (is_one_line ys) p q

module _ (bytes : List ℕ) (start searched : ℕ) (none : is_one_line (take searched (drop start bytes)) ≡ true) where
  -- none among what was searched, and none behind it
  pub none_kept : FindsFeed None (drop (start + searched) bytes) → is_one_line (drop start bytes) ≡ true
  none_kept h =
      subst (λ (text : List ℕ). is_one_line text ≡ true) (take-append-drop searched (drop start bytes))
      (one_line-both (take searched (drop start bytes)) (drop searched (drop start bytes)) none
      (subst (λ (text : List ℕ). is_one_line text ≡ true) (sym (drop-drop searched start bytes)) h))

  pub none_searched : (len : ℕ) → len ≡ length bytes → FindsFeed None (drop (start + searched) bytes)
      → is_one_line (take (len - start) (drop start bytes)) ≡ true
  none_searched len same h =
      subst (λ (text : List ℕ). is_one_line text ≡ true)
      (sym (take_all (len - start) (drop start bytes) (omega (arith, same, length-drop start bytes)))) (none_kept h)

  -- the line in front of the first one
  pub line_taken : (place line_start line_end : ℕ) (ended : Bool) (read limit : ℕ)
      → FindsFeed (Some place) (drop (start + searched) bytes)
      → TakesLine (state_of bytes start line_start line_end ended read limit)
      (state_of bytes (start + searched + place + 1) start (start + searched + place) ended read limit)
  line_taken place line_start line_end ended read limit h =
      let rest = drop start bytes in
      let behind = drop (start + searched) bytes in
      let same : drop searched rest ≡ behind = drop-drop searched start bytes in
      let size : start + searched + place - start ≡ searched + place = omega arith in
      let line : take (start + searched + place - start) rest ≡ take searched rest ++ take place behind =
      ap (λ (n : ℕ). take n rest) size ∙ take-add searched place rest
      ∙ ap (λ (xs : List ℕ). take searched rest ++ take place xs) same in
      let last : drop (place + 1) behind ≡ drop (start + searched + place + 1) bytes =
      drop-drop (place + 1) (start + searched) bytes ∙ ap (λ (n : ℕ). drop n bytes) (omega arith) in
      record {
        split = sym (take-append-drop searched rest)
            ∙ ap (λ (xs : List ℕ). take searched rest ++ xs) (same ∙ h.1.1
            ∙ ap (λ (xs : List ℕ). take place behind ++ 10 ∷ xs) last)
            ∙ sym (append_assoc (take searched rest) (take place behind)
            (10 ∷ drop (start + searched + place + 1) bytes))
            ∙ ap (λ (xs : List ℕ). xs ++ 10 ∷ drop (start + searched + place + 1) bytes) (sym line);
        one = subst (λ (text : List ℕ). is_one_line text ≡ true) (sym line)
            (one_line-both (take searched rest) (take place behind) none h.1.0);
        same = refl;
      }
