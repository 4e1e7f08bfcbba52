-- Bytes that are whole lines, and those that are printed lines.
use Rattle.std.proofs.Common.{◌≡◌, ℕ, true, List, [], ◌∷◌, ◌++◌, map, refl, sym, subst, ap, ◌∙◌}
use Rattle.std.specs.List.{list_all}
use Rattle.std.proofs.lemmas.Bool.{and_from}
use Rattle.std.proofs.lemmas.List.{append-nil, map-append}
use Rattle.std.proofs.lemmas.List.Folds.{list_all-append}
use Rattle.std.proofs.lemmas.Grind.{flat_map-append}
use Rattle.sb_script.specs.Steps.{line}
use Rattle.sb_rulebook.specs.Lines.{Line, text_of}
use Rattle.sb_rulebook.specs.LineLaws.{has_text, is_one_line, bytes_of, ended, TextIsOneLine, TextsAreLines}
use Rattle.sb_rulebook.specs.Reading.{texts_of}
use Rattle.sb_rulebook.specs.Printed.{ArePrinted}
use Rattle.sb_sound.specs.Certified.{AreWholeLines}

pub whole_none : AreWholeLines []
whole_none = ([], (refl, refl))

pub whole_both : (xs ys : List ℕ) → AreWholeLines xs → AreWholeLines ys → AreWholeLines (xs ++ ys)
whole_both xs ys h k = (
  h.0 ++ k.0,
  (
    ap (λ bytes. bytes ++ ys) h.1.0 ∙ ap (λ bytes. bytes_of h.0 ++ bytes) k.1.0 ∙ sym (flat_map-append line h.0 k.0),
    list_all-append is_one_line h.0 k.0
        ∙ and_from (list_all is_one_line h.0) (list_all is_one_line k.0) h.1.1 k.1.1,
  ),
)

-- printed lines are whole
pub whole_printed : TextIsOneLine → (printed : List Line) → AreWholeLines (bytes_of (map text_of printed))
whole_printed one printed = (map text_of printed, (refl, each_one printed))
  where
    each_one : (ls : List Line) → list_all is_one_line (map text_of ls) ≡ true
    each_one [] = refl
    each_one (l ∷ ls) =
        and_from (is_one_line (text_of l)) (list_all is_one_line (map text_of ls)) (one l) (each_one ls)

-- some lines are printed
abbrev pub AnyPrinted : List ℕ → Type 0
AnyPrinted bytes = (printed : List Line) × ArePrinted printed bytes

pub printed_none : AnyPrinted []
printed_none = ([], (refl, refl))

pub printed_both : (xs ys : List ℕ) → AnyPrinted xs → AnyPrinted ys → AnyPrinted (xs ++ ys)
printed_both xs ys h k = (
  h.0 ++ k.0,
  (
    list_all-append has_text h.0 k.0
        ∙ and_from (list_all has_text h.0) (list_all has_text k.0) h.1.0 k.1.0,
    ap (λ bytes. bytes ++ ys) h.1.1 ∙ ap (λ bytes. bytes_of (map text_of h.0) ++ bytes) k.1.1
        ∙ sym (flat_map-append line (map text_of h.0) (map text_of k.0))
        ∙ ap bytes_of (sym (map-append text_of h.0 k.0)),
  ),
)

pub whole_of : TextIsOneLine → (bytes : List ℕ) → AnyPrinted bytes → AreWholeLines bytes
whole_of one bytes h = subst AreWholeLines (sym h.1.1) (whole_printed one h.0)

-- the lines of whole lines stand in front of those of what is behind them
pub texts_apart : TextsAreLines → (lines more : List ℕ) → AreWholeLines lines
    → texts_of (lines ++ more) ≡ texts_of lines ++ texts_of more
texts_apart are_lines lines more h =
    subst (λ (bytes : List ℕ). texts_of (bytes ++ more) ≡ texts_of bytes ++ texts_of more) (sym h.1.0)
    (are_lines h.0 more h.1.1 ∙ ap (λ texts. texts ++ texts_of more) (sym alone))
  where
    alone : texts_of (bytes_of h.0) ≡ map ended h.0
    alone = ap texts_of (sym (append-nil (bytes_of h.0))) ∙ are_lines h.0 [] h.1.1 ∙ append-nil (map ended h.0)
