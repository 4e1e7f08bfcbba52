-- An atom that speaks of no literals, behind the others where it is new.
use Rattle.sb_refute.proofs.Words.{◌≡◌, ℕ, zero, suc, ◌<◌, ◌≤◌, Bool, true, false, nat_lt, List, [], ◌∷◌, ◌++◌, length, refl, sym, subst, ◌∙◌, inl, inr, arith, append-nil, ltb-true, nat_tests, same_Some, slice_get_within, Asked, Atom, AtomOver, bool_atom, has_its_parts, in_atom, is_well_formed, named_before, names_below, over, AreDue, Backing, Extends, HasRegexBelow, HaveRegexesBelow, IsWith, NameEarlier, Names, SpeaksAlone, Stand}
use Rattle.sb_refute.proofs.Holding.{stand-atoms}

-- that a Bool constant is true, and that no piece is in a regex
pub bool-alone : (n serial : ℕ) → SpeaksAlone n (bool_atom serial)
bool-alone n serial =
    record { regex = tt; earlier = λ i rs. refl; formed = refl; brought = refl }

pub end-alone : (n r : ℕ) → r < n → SpeaksAlone n (in_atom [] r)
end-alone n r low =
    record { regex = low; earlier = λ i rs. refl; formed = refl; brought = refl }

pub with_extends : (old new : List (AtomOver ℕ)) (a : AtomOver ℕ) → IsWith old new a → Extends old new
with_extends old new a (inl same) = record { more = []; is = same ∙ sym (append-nil old) }
with_extends old new a (inr more) = record { more = a ∷ []; is = more }

last_named : (old : List (AtomOver ℕ)) (a b : AtomOver ℕ) (i : ℕ) → length old ≤ i → Names (old ++ a ∷ []) i b
    → b ≡ a
last_named [] a b zero low h = sym (same_Some a b h)
last_named [] a b (suc i) low h = absurd (omega (arith, slice_get_within [] i b h))
last_named (x ∷ old) a b zero low h = absurd (omega (arith, low))
last_named (x ∷ old) a b (suc i) low h = last_named old a b i (omega (arith, low)) h

-- what is behind the old ones is this atom
pub new_named : (old new : List (AtomOver ℕ)) (a b : AtomOver ℕ) (i : ℕ) → IsWith old new a → length old ≤ i
    → Names new i b → b ≡ a
new_named old new a b i (inl same) low h =
    let within = slice_get_within old i b (subst (λ (atoms : List (AtomOver ℕ)). Names atoms i b) same h) in
    absurd (omega (arith, low, within))
new_named old new a b i (inr more) low h =
    last_named old a b i low (subst (λ (atoms : List (AtomOver ℕ)). Names atoms i b) more h)

module _ (n : ℕ) (old new : List (AtomOver ℕ)) (a : AtomOver ℕ) (speaks : SpeaksAlone n a) (w : IsWith old new a) where
  with_earlier : NameEarlier (length old) new
  with_earlier = λ i b low h rs.
      subst (λ (c : AtomOver ℕ). names_below i (over rs c) ≡ true) (sym (new_named old new a b i w low h))
      (speaks.earlier i rs)

  with_formed : (i : ℕ) (b : AtomOver ℕ) → length old ≤ i → Names new i b → is_well_formed b ≡ true
  with_formed i b low h =
      subst (λ (c : AtomOver ℕ). is_well_formed c ≡ true) (sym (new_named old new a b i w low h)) speaks.formed

  -- it is due where its constants are declared
  pub with_due : (asked : Asked) (known : ℕ) → known ≡ length old
      → ((before : List Atom) → has_its_parts asked.sorts before a ≡ true) → AreDue asked known new
  with_due asked known is declared = λ i b low h.
      subst (λ (c : AtomOver ℕ). (is_well_formed c ≡ true)
      × ((before : List Atom) → length before ≡ i → has_its_parts asked.sorts before c ≡ true))
      (sym (new_named old new a b i w (omega (arith, is, low)) h)) (speaks.formed, λ before long. declared before)

  pub with_regexes : HaveRegexesBelow n old → HaveRegexesBelow n new
  with_regexes below = λ i b h. step i b h (nat_lt i (length old)) refl
    where
      step : (i : ℕ) (b : AtomOver ℕ) → Names new i b → (t : Bool) → nat_lt i (length old) ≡ t → HasRegexBelow n b
      step i b h true is =
          let extends = with_extends old new a w in
          below i b
          (named_before old extends.more i b (ltb-true i (length old) is)
          (subst (λ (atoms : List (AtomOver ℕ)). Names atoms i b) extends.is h))
      step i b h false is =
          subst (HasRegexBelow n) (sym (new_named old new a b i w (grind (arith, nat_tests)) h)) speaks.regex

-- what is known of all that stands in the proof stays so
pub stand-one : (n : ℕ) (e : Backing) (new : List (AtomOver ℕ)) (a : AtomOver ℕ) → SpeaksAlone n a
    → IsWith e.atoms new a → Stand e → Stand (record e { atoms = new })
stand-one n e new a speaks w h =
    stand-atoms e new (with_extends e.atoms new a w) (with_earlier n e.atoms new a speaks w)
    (with_formed n e.atoms new a speaks w) h
