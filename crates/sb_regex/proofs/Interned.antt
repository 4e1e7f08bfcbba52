-- What interning a node makes of the table.
use Rattle.std.proofs.Common.{◌≡◌, ℕ, ◌<◌, Bool, true, false, cond, Some, List, [], ◌∷◌, ◌++◌, length, slice_get, get_or, position, sym, ap, ◌∙◌, arith}
use Rattle.std.specs.List.{list_any}
use Rattle.std.proofs.lemmas.List.Quantifiers.{position-Some}
use Rattle.std.proofs.lemmas.Option.{slice_get-get_or}
use Rattle.sb_lang.specs.Regex.{Regex}
use Rattle.sb_lang.specs.Derivative.{nullable}
use Rattle.sb_lang.specs.Language.{language}
use Rattle.sb_lang.specs.NormalForm.{IsNormal}
use Rattle.sb_lengths.specs.Lengths.{AreLengths}
use Rattle.sb_regex.specs.declared.arena.Facts.{Facts}
use Rattle.sb_regex.specs.declared.node.Node.{Node}
use Rattle.sb_regex.specs.Numbered.{Names, Extends, regex_at}
use Rattle.sb_regex.specs.Nodes.{node_regex, PartsBelow}
use Rattle.sb_regex.specs.Table.{regexes_of}
use Rattle.sb_regex.specs.Interning.{AreFactsOf, IsTable}
use Rattle.sb_regex.proofs.CallerLemmas.{extends_same}
use Rattle.sb_regex.proofs.NodeEq.{same, same_gives}
use Rattle.sb_regex.proofs.TableFacts.{onto-push, node_kept, table_more}

-- the nodes after it
abbrev pub inserted : List Node → Node → List Node
inserted ds d = cond (list_any (same d) ds) ds (ds ++ d ∷ [])

pub extended : (old : List Regex) (ds after : List Node) (d : Node) → regexes_of ds ≡ old → after ≡ inserted ds d
    → Extends old (regexes_of after)
extended old ds after d is e = rw (← is, e) (step (list_any (same d) ds))
  where
    step : (b : Bool) → Extends (regexes_of ds) (regexes_of (cond b ds (ds ++ d ∷ [])))
    step true = extends_same (regexes_of ds)
    step false = record { more = node_regex (regexes_of ds) d ∷ []; is = onto-push [] ds d }

pub table_added : (old : List Regex) (ds after : List Node) (facts facts-after : List Facts) (d : Node) (f : Facts)
    → IsTable (regexes_of ds) ds facts → regexes_of ds ≡ old → PartsBelow (length old) d → IsNormal (node_regex old d)
    → f.nullable ≡ nullable (node_regex old d) → AreLengths f.lengths (language (node_regex old d))
    → false ≡ list_any (same d) ds → after ≡ inserted ds d → facts-after ≡ facts ++ f ∷ []
    → IsTable (regexes_of after) after facts-after
table_added old ds after facts facts-after d f t is p n empty long fresh e g =
    let here : after ≡ ds ++ d ∷ [] = e ∙ ap (λ x. cond x ds (ds ++ d ∷ [])) (sym fresh) in
    let true_facts : AreFactsOf f (node_regex old d) = record { nullable = empty; lengths = long } in
    let made = table_more (regexes_of ds) ds facts d f t (rw is p) (rw is n) (rw is true_facts) (sym fresh) in
    rw (here, g, onto-push [] ds d) made

-- the node that is found, or added, stands for the regex
pub named : (old : List Regex) (after : List Node) (facts : List Facts) (d : Node) (n : ℕ)
    → IsTable (regexes_of after) after facts → Extends old (regexes_of after) → PartsBelow (length old) d
    → ((k : Node) × (slice_get after n ≡ Some k) × (same d k ≡ true)) → Names (regexes_of after) n (node_regex old d)
named old after facts d n t e p stored =
    t.nodes n stored.0 stored.1
    ∙ ap Some (sym (same_gives (regexes_of after) d stored.0 stored.2) ∙ node_kept old (regexes_of after) d e p)

-- and so does one whose place was found
pub found : (old : List Regex) (ds : List Node) (facts : List Facts) (d : Node) (n : ℕ)
    → IsTable (regexes_of ds) ds facts → regexes_of ds ≡ old → PartsBelow (length old) d
    → Some n ≡ position (same d) ds → Names old n (node_regex old d)
found old ds facts d n t is p at =
    let place = position-Some (same d) ds n d (sym at) in
    rw (← is)
    (named (regexes_of ds) ds facts d n t (extends_same (regexes_of ds)) (rw is p)
    (get_or ds n d, slice_get-get_or ds n d place.0, place.1))

-- what is kept at a place is true of its regex
pub fact_at : (rs : List Regex) (ds : List Node) (facts : List Facts) (id : ℕ) (f : Facts) → IsTable rs ds facts
    → id < length rs → f ≡ get_or facts id f → AreFactsOf f (regex_at rs id)
fact_at rs ds facts id f t l e =
    t.holds id f (slice_get-get_or facts id f (omega (arith, l, t.known)) ∙ ap Some (sym e))

pub pushed : (facts before after : List Facts) (f : Facts) → before ≡ facts → after ≡ before ++ f ∷ []
    → after ≡ facts ++ f ∷ []
pushed facts before after f e g = g ∙ ap (λ x. x ++ f ∷ []) e
