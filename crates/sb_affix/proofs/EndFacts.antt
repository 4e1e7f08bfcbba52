-- Concatenations of regexes by number, and the parts of the ends of a word, from the last one on.
use Rattle.std.proofs.Common.{◌≡◌, ℕ, zero, suc, ◌+◌, ◌<◌, ◌≤◌, true, Some, List, [], ◌∷◌, ◌++◌, length, get_or, map, drop, reverse, refl, sym, ap, ap₂, ◌∙◌, arith}
use Rattle.std.proofs.lemmas.Bool.{and_parts}
use Rattle.std.proofs.lemmas.List.{drop_more, drop_all, reverse-append}
use Rattle.std.proofs.lemmas.List.Elements.{All-cons, All-nil}
use Rattle.sb_word.specs.Words.{is_character, are_characters}
use Rattle.sb_lang.specs.Regex.{Regex, none, eps, set}
use Rattle.sb_lang.specs.Constructors.{anything, mkcat, mkalt, mknot}
use Rattle.sb_lang.specs.Normal.{word_regex}
use Rattle.sb_lang.specs.Affixes.{beginning_with, ending_with, containing, ends_of, prefixes, suffixes, factors}
use Rattle.sb_regex.specs.Numbered.{regex_at, regexes_at, AllNumbers, Extends, Names}
use Rattle.sb_regex.proofs.CallerLemmas.{extends_more, at_kept, ats_kept, names_at, names_below, names_from, numbers_kept}
use Rattle.sb_affix.specs.declared.ends.Part.{Part}
use Rattle.sb_affix.specs.declared.ends.Part.TheVariants as part
use Rattle.sb_affix.specs.PartRegex.{part_regex, with_front}

-- The names of equal regexes.

pub named_also : (rs : List Regex) (i : ℕ) (r s : Regex) → Names rs i r → r ≡ s → Names rs i s
named_also rs i r s h e = h ∙ ap Some e

-- Every word, and concatenations with it.

pub not_none : (one : List Regex) (i : ℕ) → Names one i none → mknot (regex_at one i) ≡ anything
unfolding mknot
not_none one i h = ap mknot (names_at one i none h)

kept_at : (one two : List Regex) (x : ℕ) (r : Regex) → Extends one two → Names one x r → regex_at two x ≡ r
kept_at one two x r e h = at_kept one two x e (names_below one x r h) ∙ names_at one x r h

pub beginning_made : (one two : List Regex) (x y : ℕ) (w : List ℕ) → Extends one two → Names one x (word_regex w)
    → Names two y anything → mkcat (regex_at two x) (regex_at two y) ≡ beginning_with w
unfolding beginning_with
beginning_made one two x y w e word rest =
    ap₂ mkcat (kept_at one two x (word_regex w) e word) (names_at two y anything rest)

pub ending_made : (one two : List Regex) (x y : ℕ) (w : List ℕ) → Extends one two → Names one x (word_regex w)
    → Names two y anything → mkcat (regex_at two y) (regex_at two x) ≡ ending_with w
unfolding ending_with
ending_made one two x y w e word front =
    ap₂ mkcat (names_at two y anything front) (kept_at one two x (word_regex w) e word)

pub containing_made : (one two : List Regex) (x y : ℕ) (w : List ℕ) → Extends one two → Names one x (beginning_with w)
    → Names two y anything → mkcat (regex_at two y) (regex_at two x) ≡ containing w
unfolding beginning_with containing
containing_made one two x y w e word front =
    ap₂ mkcat (names_at two y anything front) (kept_at one two x (beginning_with w) e word)

pub suffixes_made : (w : List ℕ) → mkalt (map word_regex (ends_of w)) ≡ suffixes w
unfolding suffixes
suffixes_made w = refl

pub factors_made : (w : List ℕ) → mkalt (map prefixes (ends_of w)) ≡ factors w
unfolding factors
factors_made w = refl

-- One character in front.

one_character : (c : ℕ) → word_regex (c ∷ []) ≡ set ((c, c) ∷ [])
unfolding word_regex mkcat
one_character c = refl

pub character_in_front : (old one two : List Regex) (c rest character whole : ℕ) → Extends old one
    → rest < length old → Names one character (word_regex (c ∷ []))
    → Names two whole (mkcat (regex_at one character) (regex_at one rest))
    → Names two whole (mkcat (set ((c, c) ∷ [])) (regex_at old rest))
character_in_front old one two c rest character whole e known named made =
    named_also two whole _ _ made
    (ap₂ mkcat (names_at one character _ named ∙ one_character c) (at_kept old one rest e known))

pub or_empty_made : (old one : List Regex) (r empty : ℕ) → Extends old one → r < length old → Names one empty eps
    → mkalt (regexes_at one (empty ∷ r ∷ [])) ≡ mkalt (eps ∷ regex_at old r ∷ [])
or_empty_made old one r empty e known named =
    ap₂ (λ x y. mkalt (x ∷ y ∷ [])) (names_at one empty eps named) (at_kept old one r e known)

pub or_empty_whole : (rs : List Regex) (whole : ℕ) (r : Regex) → Names rs whole r
    → mkalt (eps ∷ regex_at rs whole ∷ []) ≡ mkalt (eps ∷ r ∷ [])
or_empty_whole rs whole r named = ap (λ x. mkalt (eps ∷ x ∷ [])) (names_at rs whole r named)

-- The ends, from the last one on.

nothing_left : (p : Part) → part_regex p [] ≡ eps
unfolding word_regex prefixes
nothing_left part.Whole = refl
nothing_left part.Prefix = refl

one_more : (p : Part) (c : ℕ) (w : List ℕ) → part_regex p (c ∷ w) ≡ with_front p c (part_regex p w)
unfolding word_regex prefixes
one_more part.Whole c w = refl
one_more part.Prefix c w = refl

all_of_nothing : (f : List ℕ → Regex) → map f (ends_of []) ≡ f [] ∷ []
unfolding ends_of
all_of_nothing f = refl

all_of_more : (f : List ℕ → Regex) (c : ℕ) (w : List ℕ) → map f (ends_of (c ∷ w)) ≡ f (c ∷ w) ∷ map f (ends_of w)
unfolding ends_of
all_of_more f c w = refl

-- what is made of the ends of what is left of the word, from the last one on
pub record AreMade (p : Part) (w : List ℕ) (left : ℕ) (old now : List Regex) (last : ℕ) (ids : List ℕ) : Type 0 where
  pub place : left ≤ length w
  pub extends : Extends old now
  pub named : Names now last (part_regex p (drop left w))
  pub numbers : AllNumbers now (reverse ids)
  pub value : regexes_at now (reverse ids) ≡ map (part_regex p) (ends_of (drop left w))

pub none_made : (p : Part) (w : List ℕ) (n : ℕ) (old now : List Regex) (last : ℕ) (ids : List ℕ) → n ≡ length w
    → Extends old now → Names now last eps → ids ≡ last ∷ [] → AreMade p w n old now last ids
none_made p w n old now last ids long e named is =
    let nothing : drop n w ≡ [] = drop_all n w (omega (arith, long)) in
    let empty : Names now last (part_regex p (drop n w)) =
    named_also now last eps _ named (sym (ap (part_regex p) nothing ∙ nothing_left p)) in
    record {
      place = omega (arith, long);
      extends = e;
      named = empty;
      numbers = rw is (All-cons (λ i. i < length now) last [] (names_below now last eps named)
          (All-nil (λ i. i < length now)));
      value = ap (λ xs. regexes_at now (reverse xs)) is
          ∙ ap (λ r. r ∷ []) (names_at now last eps named ∙ sym (nothing_left p))
          ∙ sym (ap (λ v. map (part_regex p) (ends_of v)) nothing ∙ all_of_nothing (part_regex p));
    }

end_at : (w : List ℕ) (left i c : ℕ) → left ≡ i + 1 → i < length w → c ≡ get_or w i c → drop i w ≡ c ∷ drop left w
end_at w left i c e within is =
    drop_more w i c within ∙ ap₂ (λ x k. x ∷ drop k w) (sym is) (sym e)

pub one_made : (p : Part) (w : List ℕ) (left i : ℕ) (old before now : List Regex) (last c id : ℕ) (ids more : List ℕ)
    → left ≡ i + 1 → i < length w → c ≡ get_or w i c → AreMade p w left old before last ids → Extends before now
    → Names now id (with_front p c (regex_at before last)) → more ≡ ids ++ id ∷ [] → AreMade p w i old now id more
one_made p w left i old before now last c id ids more step within is made e named all =
    let behind : drop i w ≡ c ∷ drop left w = end_at w left i c step within is in
    let turned : reverse more ≡ id ∷ reverse ids = ap reverse all ∙ reverse-append ids (id ∷ []) in
    let regex : with_front p c (regex_at before last) ≡ part_regex p (drop i w) =
    ap (with_front p c) (names_at before last _ made.named) ∙ sym (ap (part_regex p) behind ∙ one_more p c _) in
    let here : Names now id (part_regex p (drop i w)) = named_also now id _ _ named regex in
    record {
      place = omega (arith, within);
      extends = extends_more old before now made.extends e;
      named = here;
      numbers = rw turned (All-cons (λ j. j < length now) id (reverse ids) (names_below now id _ here)
          (numbers_kept before now (reverse ids) e made.numbers));
      value = ap (regexes_at now) turned
          ∙ ap₂ (λ r rs. r ∷ rs) (names_at now id _ here ∙ ap (part_regex p) behind)
          (ats_kept before now (reverse ids) e made.numbers ∙ made.value)
          ∙ sym (ap (λ v. map (part_regex p) (ends_of v)) behind ∙ all_of_more (part_regex p) c _);
    }

-- all of them, turned
pub all_made : (p : Part) (w : List ℕ) (left : ℕ) (old now : List Regex) (last : ℕ) (ids all : List ℕ) → left ≡ 0
    → AreMade p w left old now last ids → all ≡ reverse ids
    → (regexes_at now all ≡ map (part_regex p) (ends_of w)) × AllNumbers now all
all_made p w left old now last ids all none_left made turned = (
  ap (regexes_at now) turned ∙ made.value ∙ ap (λ k. map (part_regex p) (ends_of (drop k w))) none_left,
  rw turned made.numbers,
)

-- the first is that of the word
pub first_end : (f : List ℕ → Regex) (w : List ℕ) (rs : List Regex) (ids : List ℕ)
    → regexes_at rs ids ≡ map f (ends_of w) → AllNumbers rs ids
    → (0 < length ids) × ((id : ℕ) → id ≡ get_or ids 0 id → Names rs id (f w))
unfolding ends_of
first_end f w rs [] same known = absurd (nothing_is_some w same)
  where
    nothing_is_some : (w : List ℕ) → [] ≡ map f (ends_of w) → ⊥
    nothing_is_some [] e = cc
    nothing_is_some (c ∷ v) e = cc
first_end f w rs (i ∷ ids) same known = (
  omega arith,
  λ id is. names_from rs id (f w) (rw is (known 0 id (omega arith)))
      (ap (regex_at rs) is ∙ head_of w (ap (λ xs. get_or xs 0 none) same)),
)
  where
    head_of : (w : List ℕ) → regex_at rs i ≡ get_or (map f (ends_of w)) 0 none → regex_at rs i ≡ f w
    head_of [] e = e
    head_of (c ∷ v) e = e

pub character_at : (w : List ℕ) (i c : ℕ) → are_characters w ≡ true → i < length w → c ≡ get_or w i c
    → is_character c ≡ true
character_at w i c h within is = ap is_character is ∙ there w i h within
  where
    there : (w : List ℕ) (i : ℕ) → are_characters w ≡ true → i < length w → is_character (get_or w i c) ≡ true
    there [] i h l = absurd (omega arith)
    there (d ∷ w) zero h l = (and_parts (is_character d) (are_characters w) h).0
    there (d ∷ w) (suc i) h l = there w i (and_parts (is_character d) (are_characters w) h).1 (omega (arith, l))
