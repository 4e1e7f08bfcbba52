-- Regexes that a constructor gave, as they stand or not.
use Rattle.std.proofs.Common.{◌≡◌, ℕ, ◌<◌, true, false, List, [], ◌∷◌, map, slice_get, Option, Some, None, Err, option_map, option_and_then, length, refl, sym, ap, ap₂, subst, ◌∙◌}
use Rattle.std.proofs.lemmas.List.Elements.{All-cons, All-nil}
use Rattle.std.proofs.lemmas.Bool.{true≢false}
use Rattle.std.proofs.lemmas.Option.{slice_get-map}
use Rattle.sb_lang.specs.Regex.{Regex, cat, alt, and, neg, star, rep, path, regexes}
use Rattle.sb_lang.specs.OrderLaws.{OrderTellsApart}
use Rattle.sb_lang.specs.Constructors.{mkcat, mkalt, mkand, mknot, mkstar, mkrep, mkpath}
use Rattle.sb_lang.specs.NormalForm.{is_normal}
use Rattle.sb_regex.specs.Numbered.{regex_at, regexes_at, AllNumbers, AreDistinct, Extends, Names}
use Rattle.sb_regex.specs.Nodes.{node_regex, PartsBelow}
use Rattle.sb_regex.specs.declared.node.Node.{Node}
use Rattle.sb_regex.proofs.CallerLemmas.{at_kept, ats_kept, names_at, names_below, names_from, number_kept, numbers_kept}
use Rattle.sb_rulebook.specs.Parts.{together}
use Rattle.sb_rulebook.specs.Lines.{cat_node, path_node}
use Rattle.sb_rulebook.specs.RegexRules.{of_one, of_two, regex_of_node}
use Rattle.sb_rules.specs.Making.{is_cat_node, is_cat_of, is_alt_of, is_and_of, is_not_of, is_star_of, is_rep_of, is_path_of, IsOne, AreSeveral, IsMade}
use Rattle.sb_rules.specs.declared.fault.Fault.{Fault}
use Rattle.sb_rules.specs.declared.fault.Fault.TheVariants as fault
use Rattle.sb_rules.proofs.Judged.{known_number, named-at, several-at}
use Rattle.sb_rules.proofs.Shapes.{node-is-alt, node-is-and, node-is-cat, node-is-not, node-is-star, node-is-rep, node-is-path, alt-of-node, and-of-node, cat-of-node, not-of-node, star-of-node, rep-of-node, path-of-node, cat-node, cat-of-cat, cat-differs, not-differs, star-differs, rep-differs, alt-differs, and-differs, path-differs}

-- the first part is a concatenation
pub cat-first-cat : (rs : List Regex) (a b : ℕ) (d : Node) → OrderTellsApart → node_regex rs d ≡ regex_at rs a
    → is_cat_node d ≡ true → is_normal (cat (regex_at rs a) (regex_at rs b)) ≡ false
cat-first-cat rs a b d apart value h =
    let c = cat-node rs d h in
    ap (λ r. is_normal (cat r (regex_at rs b))) (sym value ∙ c.2) ∙ cat-of-cat c.0 c.1 (regex_at rs b) apart

-- over an arena that grew, with the node of what the constructor gave
module _ (old new : List Regex) (id : ℕ) (d : Node) (apart : OrderTellsApart) (once : AreDistinct new)
    (grew : Extends old new) (value : node_regex new d ≡ regex_at new id) (low : PartsBelow id d) where
  module _ (a b : ℕ) (la : a < length old) (lb : b < length old)
      (is : Names new id (mkcat (regex_at old a) (regex_at old b))) where
    both : cat (regex_at new a) (regex_at new b) ≡ cat (regex_at old a) (regex_at old b)
    both = ap₂ cat (at_kept old new a grew la) (at_kept old new b grew lb)

    pub cat-some : is_cat_of a b d ≡ true → Names new id (cat (regex_at old a) (regex_at old b))
    cat-some h = names_from new id _ (names_below new id _ is) (sym value ∙ cat-of-node new a b d h ∙ both)

    pub cat-none : is_cat_of a b d ≡ false → is_normal (cat (regex_at old a) (regex_at old b)) ≡ false
    cat-none h =
        cat-differs apart (regex_at old a) (regex_at old b)
        (λ e. true≢false (sym (node-is-cat new id once (names_below new id _ is) a b d (number_kept old new a grew la)
        (number_kept old new b grew lb) low (value ∙ names_at new id _ is ∙ e ∙ sym both)) ∙ h))

  module _ (a b : ℕ) (la : a < length old) (lb : b < length old)
      (is : Names new id (mkpath (regex_at old a) (regex_at old b))) where
    ends : path (regex_at new a) (regex_at new b) ≡ path (regex_at old a) (regex_at old b)
    ends = ap₂ path (at_kept old new a grew la) (at_kept old new b grew lb)

    pub path-some : is_path_of a b d ≡ true → Names new id (path (regex_at old a) (regex_at old b))
    path-some h = names_from new id _ (names_below new id _ is) (sym value ∙ path-of-node new a b d h ∙ ends)

    pub path-none : is_path_of a b d ≡ false → is_normal (path (regex_at old a) (regex_at old b)) ≡ false
    path-none h =
        path-differs apart (regex_at old a) (regex_at old b)
        (λ e. true≢false (sym (node-is-path new id once (names_below new id _ is) a b d (number_kept old new a grew la)
        (number_kept old new b grew lb) low (value ∙ names_at new id _ is ∙ e ∙ sym ends)) ∙ h))

  module _ (a : ℕ) (la : a < length old) where
    pub not-some : Names new id (mknot (regex_at old a)) → is_not_of a d ≡ true
        → Names new id (neg (regex_at old a))
    not-some is h =
        names_from new id _ (names_below new id _ is)
        (sym value ∙ not-of-node new a d h ∙ ap neg (at_kept old new a grew la))

    pub not-none : Names new id (mknot (regex_at old a)) → is_not_of a d ≡ false
        → is_normal (neg (regex_at old a)) ≡ false
    not-none is h =
        not-differs apart (regex_at old a)
        (λ e. true≢false (sym (node-is-not new id once (names_below new id _ is) a d (number_kept old new a grew la)
        low (value ∙ names_at new id _ is ∙ e ∙ sym (ap neg (at_kept old new a grew la)))) ∙ h))

    pub star-some : Names new id (mkstar (regex_at old a)) → is_star_of a d ≡ true
        → Names new id (star (regex_at old a))
    star-some is h =
        names_from new id _ (names_below new id _ is)
        (sym value ∙ star-of-node new a d h ∙ ap star (at_kept old new a grew la))

    pub star-none : Names new id (mkstar (regex_at old a)) → is_star_of a d ≡ false
        → is_normal (star (regex_at old a)) ≡ false
    star-none is h =
        star-differs apart (regex_at old a)
        (λ e. true≢false (sym (node-is-star new id once (names_below new id _ is) a d (number_kept old new a grew la)
        low (value ∙ names_at new id _ is ∙ e ∙ sym (ap star (at_kept old new a grew la)))) ∙ h))

    module _ (n m : ℕ) where
      pub rep-some : Names new id (mkrep (regex_at old a) n m) → is_rep_of a n m d ≡ true
          → Names new id (rep (regex_at old a) n m)
      rep-some is h =
          names_from new id _ (names_below new id _ is)
          (sym value ∙ rep-of-node new a n m d h ∙ ap (λ r. rep r n m) (at_kept old new a grew la))

      pub rep-none : Names new id (mkrep (regex_at old a) n m) → is_rep_of a n m d ≡ false
          → is_normal (rep (regex_at old a) n m) ≡ false
      rep-none is h =
          rep-differs apart (regex_at old a) n m
          (λ e. true≢false (sym (node-is-rep new id once (names_below new id _ is) a n m d
          (number_kept old new a grew la) low
          (value ∙ names_at new id _ is ∙ e ∙ sym (ap (λ r. rep r n m) (at_kept old new a grew la)))) ∙ h))

  module _ (ids : List ℕ) (all : AllNumbers old ids) where
    pub alt-some : Names new id (mkalt (regexes_at old ids)) → is_alt_of ids d ≡ true
        → Names new id (alt (regexes (regexes_at old ids)))
    alt-some is h =
        names_from new id _ (names_below new id _ is)
        (sym value ∙ alt-of-node new ids d h ∙ ap (λ rs. alt (regexes rs)) (ats_kept old new ids grew all))

    pub alt-none : Names new id (mkalt (regexes_at old ids)) → is_alt_of ids d ≡ false
        → is_normal (alt (regexes (regexes_at old ids))) ≡ false
    alt-none is h =
        alt-differs apart (regexes_at old ids)
        (λ e. true≢false (sym (node-is-alt new id once (names_below new id _ is) ids d
        (numbers_kept old new ids grew all) low
        (value ∙ names_at new id _ is ∙ e ∙ sym (ap (λ rs. alt (regexes rs)) (ats_kept old new ids grew all)))) ∙ h))

    pub and-some : Names new id (mkand (regexes_at old ids)) → is_and_of ids d ≡ true
        → Names new id (and (regexes (regexes_at old ids)))
    and-some is h =
        names_from new id _ (names_below new id _ is)
        (sym value ∙ and-of-node new ids d h ∙ ap (λ rs. and (regexes rs)) (ats_kept old new ids grew all))

    pub and-none : Names new id (mkand (regexes_at old ids)) → is_and_of ids d ≡ false
        → is_normal (and (regexes (regexes_at old ids))) ≡ false
    and-none is h =
        and-differs apart (regexes_at old ids)
        (λ e. true≢false (sym (node-is-and new id once (names_below new id _ is) ids d
        (numbers_kept old new ids grew all) low
        (value ∙ names_at new id _ is ∙ e ∙ sym (ap (λ rs. and (regexes rs)) (ats_kept old new ids grew all)))) ∙ h))

some-list : (xs ys : List ℕ) → ◌≡◌ {A = Option (List ℕ)} (Some xs) (Some ys) → xs ≡ ys
some-list xs ys h = cc

none-is : {ys : List ℕ} → ◌≡◌ {A = Option (List ℕ)} None (Some ys) → ⊥
none-is h = cc

-- The regex of a node, from the numbers in the arena of its parts.

module _ (rs : List Regex) (order : List ℕ) where
  pub one-made : (make : Regex → Regex) (n id : ℕ) → slice_get order n ≡ Some id
      → of_one (regexes_at rs order) make n ≡ Some (make (regex_at rs id))
  one-made make n id h = ap (option_map make) (named-at rs order n id h)

  -- why a part is refused
  one-unmade : (make : Regex → Regex) (n : ℕ) → slice_get order n ≡ None
      → of_one (regexes_at rs order) make n ≡ None
  one-unmade make n h = ap (option_map make) (slice_get-map (regex_at rs) order n ∙ ap (option_map (regex_at rs)) h)

  pub one-fails : (new : List Regex) (make : Regex → Regex) (n : ℕ) (e : Fault) → IsOne (slice_get order n) (Err e)
      → IsMade new (of_one (regexes_at rs order) make n) (Err e)
  one-fails new make n (fault.Refused r) h = (one-unmade make n h.0, h.1)
  one-fails new make n fault.NoMemory h = tt

  pub first-fails : (new : List Regex) (make : Regex → Regex → Regex) (n m : ℕ) (e : Fault)
      → IsOne (slice_get order n) (Err e) → IsMade new (of_two (regexes_at rs order) make n m) (Err e)
  first-fails new make n m (fault.Refused r) h = (
    ap (option_and_then (λ r. of_one (regexes_at rs order) (make r) m))
        (slice_get-map (regex_at rs) order n ∙ ap (option_map (regex_at rs)) h.0),
    h.1,
  )
  first-fails new make n m fault.NoMemory h = tt

  pub second-fails : (new : List Regex) (make : Regex → Regex → Regex) (n m : ℕ) (e : Fault)
      → IsOne (slice_get order m) (Err e) → IsMade new (of_two (regexes_at rs order) make n m) (Err e)
  second-fails new make n m (fault.Refused r) h = (by (slice_get (regexes_at rs order) n), h.1)
    where
      by : (o : Option Regex) → option_and_then (λ r. of_one (regexes_at rs order) (make r) m) o ≡ None
      by None = refl
      by (Some q) = one-unmade (make q) m h.0
  second-fails new make n m fault.NoMemory h = tt

  pub cat-made : (n m a b : ℕ) → slice_get order n ≡ Some a → slice_get order m ≡ Some b
      → regex_of_node (regexes_at rs order) (cat_node n m) ≡ Some (cat (regex_at rs a) (regex_at rs b))
  cat-made n m a b h k =
      ap (option_and_then (λ r. of_one (regexes_at rs order) (cat r) m)) (named-at rs order n a h)
      ∙ one-made (cat (regex_at rs a)) m b k

  pub path-made : (n m a b : ℕ) → slice_get order n ≡ Some a → slice_get order m ≡ Some b
      → regex_of_node (regexes_at rs order) (path_node n m) ≡ Some (path (regex_at rs a) (regex_at rs b))
  path-made n m a b h k =
      ap (option_and_then (λ r. of_one (regexes_at rs order) (path r) m)) (named-at rs order n a h)
      ∙ one-made (path (regex_at rs a)) m b k

  pub several-made : (make : List Regex → Regex) (ns ids : List ℕ) → together (map (slice_get order) ns) ≡ Some ids
      → option_map make (together (map (slice_get (regexes_at rs order)) ns)) ≡ Some (make (regexes_at rs ids))
  several-made make ns ids h =
      ap (option_map make) (several-at rs order ns ∙ ap (option_map (regexes_at rs)) h)

  pub several-unmade : (make : List Regex → Regex) (ns : List ℕ) → together (map (slice_get order) ns) ≡ None
      → option_map make (together (map (slice_get (regexes_at rs order)) ns)) ≡ None
  several-unmade make ns h = ap (option_map make) (several-at rs order ns ∙ ap (option_map (regexes_at rs)) h)

  -- several numbers of the proof
  pub several-numbers : (ns ids : List ℕ) → AllNumbers rs order → together (map (slice_get order) ns) ≡ Some ids
      → AllNumbers rs ids
  several-numbers [] ids all h = subst (AllNumbers rs) (some-list [] ids h) (All-nil (λ i. i < length rs))
  several-numbers (n ∷ ns) ids all h =
      step (slice_get order n) (together (map (slice_get order) ns)) refl refl h (λ js e. several-numbers ns js all e)
    where
      step : (o : Option ℕ) (os : Option (List ℕ)) → slice_get order n ≡ o
          → together (map (slice_get order) ns) ≡ os
          → (together (slice_get order n ∷ map (slice_get order) ns) ≡ Some ids)
          → ((js : List ℕ) → together (map (slice_get order) ns) ≡ Some js → AllNumbers rs js)
          → AllNumbers rs ids
      step None os e f g later = absurd (none-is (sym (ap (λ o. together (o ∷ map (slice_get order) ns)) e) ∙ g))
      step (Some id) None e f g later =
          absurd (none-is (sym (ap (option_map (λ js. id ∷ js)) f)
          ∙ sym (ap (λ o. together (o ∷ map (slice_get order) ns)) e) ∙ g))
      step (Some id) (Some js) e f g later =
          subst (AllNumbers rs)
          (some-list (id ∷ js) ids
          (sym (ap (option_map (λ ks. id ∷ ks)) f) ∙ sym (ap (λ o. together (o ∷ map (slice_get order) ns)) e) ∙ g))
          (All-cons (λ i. i < length rs) id js (known_number rs order n id all e) (later js f))

  -- why several are refused
  pub several-fails : (new : List Regex) (make : List Regex → Regex) (ns : List ℕ) (e : Fault)
      → AreSeveral (together (map (slice_get order) ns)) (Err e)
      → IsMade new (option_map make (together (map (slice_get (regexes_at rs order)) ns))) (Err e)
  several-fails new make ns (fault.Refused r) h = (several-unmade make ns h.0, h.1)
  several-fails new make ns fault.NoMemory h = tt
