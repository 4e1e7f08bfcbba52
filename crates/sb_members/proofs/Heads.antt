-- The head of a regex, and what stands behind it.
use Rattle.std.proofs.Common.{◌≡◌, ℕ, ◌<◌, Bool, true, false, cond, ◌&&◌, ◌||◌, List, [], ◌∷◌, length, refl, sym, ap, ap₂, subst, ◌∙◌, arith}
use Rattle.std.proofs.Math.Bool.{or-false}
use Rattle.std.proofs.lemmas.Bool.{true≢false}
use Rattle.sb_lang.specs.Regex.{Regex, Regexes, none, eps, cat, alt, regexes}
use Rattle.sb_lang.specs.Constructors.{mkcat, mkalt}
use Rattle.sb_lang.specs.ConstructorLaws.{MkaltKeepsLanguage}
use Rattle.sb_lang.specs.Derivative.{nullable, nd}
use Rattle.sb_lang.specs.DerivativeLaws.{DerivativeHasRests}
use Rattle.sb_lang.specs.Language.{language, some_language}
use Rattle.sb_lang.proofs.CallerLemmas.{mkcat-eps}
use Rattle.sb_regex.specs.Numbered.{regex_at, Extends, Names}
use Rattle.sb_regex.specs.Nodes.{node_regex}
use Rattle.sb_regex.specs.declared.node.Node.{Node}
use Rattle.sb_regex.specs.declared.node.Node.TheVariants as node
use Rattle.sb_regex.proofs.CallerLemmas.{at_kept, names_at, names_below, number_kept}
use Rattle.sb_members.specs.Starts.{front, IsFront}

-- a word of a concatenation stands behind a character of the head, or of what stands behind the head
pub cat_rests : DerivativeHasRests → MkaltKeepsLanguage → (h t : Regex) (c : ℕ) (u : List ℕ)
    → language (cat h t) (c ∷ u) ≡ (language (mkcat (nd h c) t) u || (nullable h && language t (c ∷ u)))
unfolding nd language some_language regexes
cat_rests law keeps h t c u = sym (law (cat h t) c u) ∙ by (nullable h) refl
  where
    by : (b : Bool) → nullable h ≡ b
        → language (nd (cat h t) c) u ≡ (language (mkcat (nd h c) t) u || (b && language t (c ∷ u)))
    by true e =
        ap (λ b. language (cond b (mkalt (mkcat (nd h c) t ∷ nd t c ∷ [])) (mkcat (nd h c) t)) u) e
        ∙ keeps (mkcat (nd h c) t ∷ nd t c ∷ []) u
        ∙ ap (λ b. language (mkcat (nd h c) t) u || b) (or-false (language (nd t c) u) ∙ law t c u)
    by false e =
        ap (λ b. language (cond b (mkalt (mkcat (nd h c) t ∷ nd t c ∷ [])) (mkcat (nd h c) t)) u) e
        ∙ sym (or-false (language (mkcat (nd h c) t) u))

front_cat : (h t : Regex) (c : ℕ) (u : List ℕ) → front (cat h t) c u ≡ language (mkcat (nd h c) t) u
unfolding front
front_cat h t c u = refl

pub front_of_cat : DerivativeHasRests → MkaltKeepsLanguage → (rs : List Regex) (n h t : ℕ) → h < n → t < n
    → n < length rs → cat (regex_at rs h) (regex_at rs t) ≡ regex_at rs n → IsFront rs n h t
front_of_cat law keeps rs n h t l m known e = record {
  head = omega (arith, l, known);
  rest = omega (arith, m, known);
  sound = λ c u k. ap (λ r. language r (c ∷ u)) (sym e) ∙ cat_rests law keeps (regex_at rs h) (regex_at rs t) c u
      ∙ ap (λ b. b || (nullable (regex_at rs h) && language (regex_at rs t) (c ∷ u))) k;
  whole = λ c u k. sym (front_cat (regex_at rs h) (regex_at rs t) c u) ∙ ap (λ r. front r c u) e ∙ k;
}

none_behind : (c : ℕ) (t : Regex) (u : List ℕ) → language (mkcat (nd none c) t) u ≡ false
unfolding nd mkcat language
none_behind c t u = refl

front_alt : (ps : Regexes) (c : ℕ) (u : List ℕ) → front (alt ps) c u ≡ false
unfolding front
front_alt ps c u = refl

pub front_of_alt : (old new : List Regex) (n z : ℕ) (ps : Regexes) → Extends old new → n < length old
    → alt ps ≡ regex_at old n → Names new z none → IsFront new n z z
front_of_alt old new n z ps ext l e names =
    let is = at_kept old new n ext l in
    let zero = names_at new z none names in
    record {
      head = names_below new z none names;
      rest = names_below new z none names;
      sound = λ c u k. absurd (true≢false (sym k
          ∙ ap (λ r. language (mkcat (nd r c) (regex_at new z)) u) zero ∙ none_behind c (regex_at new z) u));
      whole = λ c u k. absurd (true≢false (sym k ∙ ap (λ r. front r c u) (is ∙ sym e) ∙ front_alt ps c u));
    }

-- a regex that is neither a concatenation nor a union
pub record IsOther (r : Regex) : Type 0 where
  pub is : (c : ℕ) (u : List ℕ) → front r c u ≡ language r (c ∷ u)

pub other_node : (rs : List Regex) (d : Node) (r : Regex) → node_regex rs d ≡ r
    → ((a b : ℕ) → d ≡ node.Cat a b → ⊥) → ((ps : _) → d ≡ node.Alt ps → ⊥) → IsOther r
unfolding front
other_node rs node.None r e f g = subst IsOther e (record { is = λ c u. refl })
other_node rs node.Eps r e f g = subst IsOther e (record { is = λ c u. refl })
other_node rs (node.Set x) r e f g = subst IsOther e (record { is = λ c u. refl })
other_node rs (node.Cat a b) r e f g = absurd (f a b refl)
other_node rs (node.Alt ps) r e f g = absurd (g ps refl)
other_node rs (node.And ps) r e f g = subst IsOther e (record { is = λ c u. refl })
other_node rs (node.Not a) r e f g = subst IsOther e (record { is = λ c u. refl })
other_node rs (node.Star a) r e f g = subst IsOther e (record { is = λ c u. refl })
other_node rs (node.Rep a n m) r e f g = subst IsOther e (record { is = λ c u. refl })
other_node rs (node.Path a b) r e f g = subst IsOther e (record { is = λ c u. refl })

pub front_of_other : DerivativeHasRests → (old new : List Regex) (n z : ℕ) → Extends old new → n < length old
    → IsOther (regex_at old n) → Names new z eps → IsFront new n n z
front_of_other law old new n z ext l other names =
    let is = at_kept old new n ext l in
    let behind : (c : ℕ) (u : List ℕ)
    → language (mkcat (nd (regex_at new n) c) (regex_at new z)) u ≡ language (regex_at new n) (c ∷ u) =
    (λ c u. ap (λ r. language (mkcat (nd (regex_at new n) c) r) u) (names_at new z eps names)
    ∙ ap (λ r. language r u) (mkcat-eps (nd (regex_at new n) c)) ∙ law (regex_at new n) c u) in
    record {
      head = number_kept old new n ext l;
      rest = names_below new z eps names;
      sound = λ c u k. sym (behind c u) ∙ k;
      whole = λ c u k. behind c u ∙ ap (λ r. language r (c ∷ u)) is ∙ sym (other.is c u)
          ∙ ap (λ r. front r c u) (sym is) ∙ k;
    }

pub front_kept : (old new : List Regex) (n h t : ℕ) → Extends old new → n < length old → IsFront old n h t
    → IsFront new n h t
front_kept old new n h t ext l f =
    let n' = at_kept old new n ext l in
    let h' = at_kept old new h ext f.head in
    let t' = at_kept old new t ext f.rest in
    let behind : (c : ℕ) (u : List ℕ) → language (mkcat (nd (regex_at new h) c) (regex_at new t)) u
    ≡ language (mkcat (nd (regex_at old h) c) (regex_at old t)) u =
    (λ c u. ap₂ (λ a b. language (mkcat (nd a c) b) u) h' t') in
    record {
      head = number_kept old new h ext f.head;
      rest = number_kept old new t ext f.rest;
      sound = λ c u k. ap (λ r. language r (c ∷ u)) n' ∙ f.sound c u (sym (behind c u) ∙ k);
      whole = λ c u k. behind c u ∙ f.whole c u (ap (λ r. front r c u) (sym n') ∙ k);
    }
