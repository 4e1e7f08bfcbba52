-- Which lines that define a regex are accepted.
use Rattle.std.proofs.Common.{◌≡◌, ℕ, false, if◌then◌else◌, List, [], ◌∷◌, map, slice_get, Option, Some, None, option_map, option_and_then, Result, Ok, Err, refl, sym, ap, subst, ◌∙◌}
use Rattle.std.specs.List.{list_any}
use Rattle.std.proofs.lemmas.Option.{slice_get-get_or}
use Rattle.std.proofs.lemmas.Bool.{false≢true, false_from_ne_true}
use Rattle.sb_lang.specs.Regex.{Regex, cat, alt, and, neg, star, rep, path, regexes}
use Rattle.sb_lang.specs.Order.{regex_eq}
use Rattle.sb_lang.specs.OrderLaws.{OrderTellsApart}
use Rattle.sb_lang.specs.NormalForm.{is_normal}
use Rattle.sb_rulebook.specs.Refusals.{Refusal, unknown_id, repeated, not_normal}
use Rattle.sb_rulebook.specs.Lines.{Node, none_node, eps_node, set_node, cat_node, alt_node, and_node, not_node, star_node, rep_node, path_node}
use Rattle.sb_rulebook.specs.Parts.{together}
use Rattle.sb_rulebook.specs.Kept.{AllKept, with_regex}
use Rattle.sb_rulebook.specs.RegexRules.{regex_of_node, defined, follows_regex}
use Rattle.sb_rulebook.proofs.CallerLemmas.{same_regex, regex_itself}
use Rattle.sb_sound.specs.RegexLaws.{AreAt, IsOfNode, IsRegexLine, RegexLinesAreExact}
use Rattle.sb_sound.proofs.Accepting.{some_of, if_so, if_not, same_ok, Contains-slice_get}
use Rattle.sb_sound.proofs.DeadFacts.{together-parts}
use Rattle.sb_sound.proofs.PassFacts.{find_any, any_of}

-- Parts.

one_form : {A B : Type 0} (make : A → B) (o : Option A) (r : B) → option_map make o ≡ Some r
    → (p : A) × (o ≡ Some p) × (r ≡ make p)
one_form make None r h = absurd (Prim.cc (h))
one_form make (Some p) r h = (p, refl, sym (Prim.cc (h)))

two_form : (make : Regex → Regex → Regex) (o n : Option Regex) (r : Regex)
    → option_and_then (λ p. option_map (make p) n) o ≡ Some r
    → (p : Regex) × (q : Regex) × (o ≡ Some p) × (n ≡ Some q) × (r ≡ make p q)
two_form make None n r h = absurd (Prim.cc (h))
two_form make (Some p) n r h = let q = one_form (make p) n r h in (p, q.0, refl, q.1, q.2)

at_form : (known : List Regex) (ids : List ℕ) (rs : List Regex) → together (map (slice_get known) ids) ≡ Some rs
    → AreAt known ids rs
at_form known [] rs h =
    let nil : [] ≡ rs = Prim.cc (h) in subst (λ (rs : List Regex). AreAt known [] rs) nil tt
at_form known (id ∷ ids) rs h =
    let l = together-parts (slice_get known id) (map (slice_get known) ids) rs h in
    subst (λ (rs : List Regex). AreAt known (id ∷ ids) rs) l.whole (l.is, at_form known ids l.others l.rest)

from_at : (known : List Regex) (ids : List ℕ) (rs : List Regex) → AreAt known ids rs
    → together (map (slice_get known) ids) ≡ Some rs
from_at known [] [] a = refl
from_at known [] (r ∷ rs) a = absurd a
from_at known (id ∷ ids) [] a = absurd a
from_at known (id ∷ ids) (r ∷ rs) a =
    ap (λ o. together (o ∷ map (slice_get known) ids)) a.0
    ∙ ap (option_map (λ others. r ∷ others)) (from_at known ids rs a.1)

several_form : (known : List Regex) (make : List Regex → Regex) (ids : List ℕ) (r : Regex)
    → option_map make (together (map (slice_get known) ids)) ≡ Some r
    → (rs : List Regex) × AreAt known ids rs × (r ≡ make rs)
several_form known make ids r h =
    let l = one_form make (together (map (slice_get known) ids)) r h in (l.0, at_form known ids l.0 l.1, l.2)

-- Nodes.

node_form : (known : List Regex) (node : Node) (r : Regex) → regex_of_node known node ≡ Some r
    → IsOfNode known node r
node_form known none_node r h = sym (Prim.cc (h))
node_form known eps_node r h = sym (Prim.cc (h))
node_form known (set_node ranges) r h = sym (Prim.cc (h))
node_form known (cat_node a b) r h = two_form cat (slice_get known a) (slice_get known b) r h
node_form known (alt_node ids) r h = several_form known (λ rs. alt (regexes rs)) ids r h
node_form known (and_node ids) r h = several_form known (λ rs. and (regexes rs)) ids r h
node_form known (not_node a) r h = one_form neg (slice_get known a) r h
node_form known (star_node a) r h = one_form star (slice_get known a) r h
node_form known (rep_node a n m) r h = one_form (λ p. rep p n m) (slice_get known a) r h
node_form known (path_node a b) r h = two_form path (slice_get known a) (slice_get known b) r h

from_two : (make : Regex → Regex → Regex) (o n : Option Regex) (p q r : Regex) → o ≡ Some p → n ≡ Some q
    → r ≡ make p q → option_and_then (λ p. option_map (make p) n) o ≡ Some r
from_two make o n p q r there other is =
    ap (option_and_then (λ p. option_map (make p) n)) there ∙ ap (option_map (make p)) other ∙ ap Some (sym is)

from_node : (known : List Regex) (node : Node) (r : Regex) → IsOfNode known node r
    → regex_of_node known node ≡ Some r
from_node known none_node r e = ap Some (sym e)
from_node known eps_node r e = ap Some (sym e)
from_node known (set_node ranges) r e = ap Some (sym e)
from_node known (cat_node a b) r e = from_two cat (slice_get known a) (slice_get known b) e.0 e.1 r e.2 e.3 e.4
from_node known (alt_node ids) r e =
    ap (option_map (λ rs. alt (regexes rs))) (from_at known ids e.0 e.1) ∙ ap Some (sym e.2)
from_node known (and_node ids) r e =
    ap (option_map (λ rs. and (regexes rs))) (from_at known ids e.0 e.1) ∙ ap Some (sym e.2)
from_node known (not_node a) r e = ap (option_map neg) e.1 ∙ ap Some (sym e.2)
from_node known (star_node a) r e = ap (option_map star) e.1 ∙ ap Some (sym e.2)
from_node known (rep_node a n m) r e = ap (option_map (λ p. rep p n m)) e.1 ∙ ap Some (sym e.2)
from_node known (path_node a b) r e = from_two path (slice_get known a) (slice_get known b) e.0 e.1 r e.2 e.3 e.4

-- Lines.

module _ (apart : OrderTellsApart) where
  new_form : (known : List Regex) (r : Regex) → list_any (regex_eq r) known ≡ false → (id : ℕ)
      → slice_get known id ≡ Some r → ⊥
  new_form known r h id there =
      false≢true (sym h ∙ any_of (regex_eq r) known r (Contains-slice_get known id r there) (regex_itself apart r))

  from_new : (known : List Regex) (r : Regex) → ((id : ℕ) → slice_get known id ≡ Some r → ⊥)
      → list_any (regex_eq r) known ≡ false
  from_new known r new = false_from_ne_true (list_any (regex_eq r) known) (λ h.
      let f = find_any (regex_eq r) known h in
      let same = same_regex apart r f.element f.passes in
      new f.within.0 (slice_get-get_or known f.within.0 f.element f.within.1 ∙ ap Some (f.within.2 ∙ sym same)))

  line_form : (kept after : AllKept) (node : Node) → follows_regex kept node ≡ Ok after → IsRegexLine kept after node
  line_form kept after node h =
      let found = some_of (regex_of_node kept.regexes node) unknown_id (defined kept) after h in
      let r = found.0 in
      let one =
      if_not (list_any (regex_eq r) kept.regexes) repeated
      (if is_normal r then Ok (with_regex r kept) else Err not_normal) after found.2 in
      let two = if_so (is_normal r) not_normal (Ok (with_regex r kept)) after one.1 in
      record {
        regex = r;
        of_node = node_form kept.regexes node r found.1;
        new = new_form kept.regexes r one.0;
        normal = two.0;
        is_kept = sym (same_ok {E = Refusal} (with_regex r kept) after two.1);
      }

  from_line : (kept after : AllKept) (node : Node) → IsRegexLine kept after node → follows_regex kept node ≡ Ok after
  from_line kept after node e =
      ap (λ o. elim o as (λ _. Result AllKept Refusal) [ None ↦ Err unknown_id | Some r ↦ defined kept r ])
      (from_node kept.regexes node e.regex e.of_node)
      ∙ ap (λ b. if b then Err repeated else if is_normal e.regex then Ok (with_regex e.regex kept) else Err not_normal)
      (from_new kept.regexes e.regex e.new)
      ∙ ap (λ b. if b then Ok (with_regex e.regex kept) else Err not_normal) e.normal
      ∙ ap Ok (sym e.is_kept)

  pub regex_lines_exact : RegexLinesAreExact
  regex_lines_exact kept after node = (line_form kept after node, from_line kept after node)
