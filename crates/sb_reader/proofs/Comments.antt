-- What a comment holds, up to the end of its line.
use Rattle.std.proofs.Common.{◌≡◌, ℕ, Bool, true, false, not, ◌&&◌, List, [], ◌∷◌, ◌++◌, refl, ap, ◌∙◌, append_assoc}
use Rattle.std.specs.Prelude.{if◌then◌else◌}
use Rattle.std.proofs.lemmas.Bool.{false≢true, and_parts, and_from}
use Rattle.sb_reader.specs.Tokens.{all_pass, is_line_end, is_gap, is_comment_then_gap, is_open_gap, is_comment_then_open_gap}
use Rattle.sb_reader.specs.Scanning.{EndsInComment}

abbrev pub HoldsNoLineEnd : List ℕ → Type 0
HoldsNoLineEnd inside = all_pass (λ b. not (is_line_end b)) inside ≡ true

pub all_pass-append : (p : ℕ → Bool) (xs ys : List ℕ) → all_pass p xs ≡ true → all_pass p ys ≡ true
    → all_pass p (xs ++ ys) ≡ true
all_pass-append p [] ys h k = k
all_pass-append p (x ∷ xs) ys h k =
    let parts = and_parts (p x) (all_pass p xs) h in
    and_from (p x) (all_pass p (xs ++ ys)) parts.0 (all_pass-append p xs ys parts.1 k)

comment_goes_on : (line_end others p q r : Bool) → (not line_end && others) ≡ true → (others ≡ true → q ≡ r)
    → (if line_end then p else q) ≡ r
comment_goes_on true others p q r h f = absurd (false≢true h)
comment_goes_on false others p q r h f = f h

-- what follows decides
pub closed_behind : (inside more : List ℕ) → HoldsNoLineEnd inside
    → is_comment_then_gap (inside ++ more) ≡ is_comment_then_gap more
closed_behind [] more h = refl
closed_behind (b ∷ bs) more h =
    comment_goes_on (is_line_end b) (all_pass (λ b. not (is_line_end b)) bs) (is_gap (bs ++ more))
    (is_comment_then_gap (bs ++ more)) (is_comment_then_gap more) h (closed_behind bs more)

pub opened_behind : (inside more : List ℕ) → HoldsNoLineEnd inside
    → is_comment_then_open_gap (inside ++ more) ≡ is_comment_then_open_gap more
opened_behind [] more h = refl
opened_behind (b ∷ bs) more h =
    comment_goes_on (is_line_end b) (all_pass (λ b. not (is_line_end b)) bs) (is_open_gap (bs ++ more))
    (is_comment_then_open_gap (bs ++ more)) (is_comment_then_open_gap more) h (opened_behind bs more)

module _ (rest : List ℕ) (e : EndsInComment rest) (more : List ℕ) where
  split : rest ++ more ≡ e.gap ++ (59 ∷ (e.inside ++ more))
  split = ap (λ bytes. bytes ++ more) e.split ∙ append_assoc e.gap (59 ∷ e.inside) more

  pub comment_closed : is_gap (rest ++ more) ≡ is_comment_then_gap more
  comment_closed = ap is_gap split ∙ e.is_gap.closed (59 ∷ (e.inside ++ more))
      ∙ closed_behind e.inside more e.no_line_end

  pub comment_opened : is_open_gap (rest ++ more) ≡ is_comment_then_open_gap more
  comment_opened = ap is_open_gap split ∙ e.is_gap.opened (59 ∷ (e.inside ++ more))
      ∙ opened_behind e.inside more e.no_line_end
