-- Maps that are derivatives stay so, and what shapes regexes have.
use Rattle.std.proofs.Common.{◌≡◌, ℕ, ◌<◌, ◌≤◌, Bool, true, false, cond, Some, List, [], ◌∷◌, length, refl, sym, ap, subst, ◌∙◌, arith}
use Rattle.std.specs.List.{All}
use Rattle.std.proofs.lemmas.Bool.{le-leb, leb-true}
use Rattle.std.proofs.lemmas.List.Elements.{All-nil, All-cons}
use Rattle.sb_class.specs.Ranges.{Range, in_ranges}
use Rattle.sb_word.specs.Words.{is_character}
use Rattle.sb_lang.specs.Regex.{Regex, none, eps, set, neg}
use Rattle.sb_lang.specs.Order.{code}
use Rattle.sb_lang.specs.Constructors.{mkand, conjuncts, ranges_of, is_set, meet_sets, meet_of, and_of, sorted}
use Rattle.sb_lang.specs.Derivative.{nd, nds}
use Rattle.sb_regex.specs.Numbered.{regex_at, AllNumbers, Extends, Names}
use Rattle.sb_deriv.specs.Pieces.{value_at, value_from, covers, rises, are_merged, differs_from, targets_of, IsIntervalMap}
use Rattle.sb_deriv.specs.declared.operation.Constants.{Constants}
use Rattle.sb_deriv.specs.Choices.{AreConstants}
use Rattle.sb_deriv.specs.Faithful.{IsMapOf, IsDerivative, FaithfulStays}
use Rattle.sb_regex.proofs.CallerLemmas.{at_kept, numbers_kept, number_kept, names_below, names_at, names_kept}
use Rattle.sb_deriv.proofs.PieceFacts.{value_below, map_some}

-- the targets are numbers, and so is the value at each character
pub value_number : (rs : List Regex) (pieces : List (ℕ × ℕ)) (c : ℕ) → IsIntervalMap pieces
    → AllNumbers rs (targets_of pieces) → value_at pieces c < length rs
value_number rs [] c m h = let z : 0 < length {A = ℕ × ℕ} [] = map_some [] 0x30000 (omega arith) m.whole in
    absurd (omega arith)
value_number rs (p ∷ ps) c m h =
    let z : p.1 < length rs = h 0 0 (omega arith) in
    value_below 0 (length rs) (p ∷ ps) c (omega arith) h

pub map_kept : (old new : List Regex) (value : ℕ → Regex) (pieces : List (ℕ × ℕ)) → Extends old new
    → IsMapOf old value pieces → IsMapOf new value pieces
map_kept old new value pieces e m = record {
  ordered = m.ordered;
  targets = numbers_kept old new (targets_of pieces) e m.targets;
  values = λ c h. at_kept old new (value_at pieces c) e (value_number old pieces c m.ordered m.targets) ∙ m.values c h;
}

pub map_same : (rs : List Regex) (f g : ℕ → Regex) (pieces : List (ℕ × ℕ))
    → ((c : ℕ) → is_character c ≡ true → f c ≡ g c) → IsMapOf rs f pieces → IsMapOf rs g pieces
map_same rs f g pieces s m = record {
  ordered = m.ordered;
  targets = m.targets;
  values = λ c h. m.values c h ∙ s c h;
}

pub faithful_kept : FaithfulStays
faithful_kept old new memo e f n pieces is =
    let k = f n pieces is in
    record {
      number = number_kept old new n e k.number;
      derivative = map_kept old new (nd (regex_at new n)) pieces e
          (map_same old (nd (regex_at old n)) (nd (regex_at new n)) pieces
          (λ c h. ap (λ r. nd r c) (sym (at_kept old new n e k.number))) k.derivative);
    }

no_members : mkand [] ≡ neg none
unfolding mkand meet_sets meet_of ranges_of is_set conjuncts sorted and_of code
no_members = refl

pub constants_of : (rs1 rs2 rs3 : List Regex) (k : Constants) → Names rs1 k.none none → Extends rs1 rs2
    → Names rs2 k.eps eps → Extends rs2 rs3 → Names rs3 k.everything (mkand []) → AreConstants rs3 k
constants_of rs1 rs2 rs3 k a e b f c = record {
  none_is = names_kept rs2 rs3 k.none none f (names_kept rs1 rs2 k.none none e a);
  eps_is = names_kept rs2 rs3 k.eps eps f b;
  everything_is = c ∙ ap Some no_members;
}

pub constants_kept : (old new : List Regex) (k : Constants) → Extends old new → AreConstants old k → AreConstants new k
constants_kept old new k e a = record {
  none_is = names_kept old new k.none none e a.none_is;
  eps_is = names_kept old new k.eps eps e a.eps_is;
  everything_is = names_kept old new k.everything (neg none) e a.everything_is;
}

-- a map of one piece, and that of a set

pub one_piece : (t : ℕ) (pieces : List (ℕ × ℕ)) → pieces ≡ (0, t) ∷ [] → IsIntervalMap pieces
unfolding covers rises are_merged differs_from
one_piece t pieces is = subst IsIntervalMap (sym is) (record { whole = refl; merged = refl })

pub one_map : (rs : List Regex) (t : ℕ) (pieces d : List (ℕ × ℕ)) → d ≡ pieces → pieces ≡ (0, t) ∷ [] → Names rs t none
    → IsMapOf rs (λ c. none) d
unfolding value_from
one_map rs t pieces d e is n = subst (λ (x : List (ℕ × ℕ)). IsMapOf rs (λ c. none) x) (sym (e ∙ is)) (record {
  ordered = one_piece t ((0, t) ∷ []) refl;
  targets = All-cons (λ i. i < length rs) t [] (names_below rs t none n) (All-nil (λ i. i < length rs));
  values = λ c h. ap (λ b. regex_at rs (cond b t 0)) (le-leb 0 c (omega arith)) ∙ names_at rs t none n;
})

pub set_map : (rs : List Regex) (v : List Range) (w o : ℕ) (pieces d : List (ℕ × ℕ)) → d ≡ pieces → Names rs w eps
    → Names rs o none → IsIntervalMap pieces →
    ((c : ℕ) → c < 0x30000 → value_at pieces c ≡ cond (in_ranges v c) w o)
    → ((n : ℕ) → w < n → o < n → All (λ i. i < n) (targets_of pieces)) → IsDerivative rs (set v) d
unfolding nd nds
set_map rs v w o pieces d e p q m value targets =
    subst (λ (y : List (ℕ × ℕ)). IsDerivative rs (set v) y) (sym e) (record {
      ordered = m;
      targets = targets (length rs) (names_below rs w eps p) (names_below rs o none q);
      values = λ c h. ap (regex_at rs) (value c (let l : c ≤ 0x2ffff = leb-true c 0x2ffff h in omega arith))
          ∙ chosen (in_ranges v c);
    })
  where
    chosen : (b : Bool) → regex_at rs (cond b w o) ≡ cond b eps none
    chosen true = names_at rs w eps p
    chosen false = names_at rs o none q
