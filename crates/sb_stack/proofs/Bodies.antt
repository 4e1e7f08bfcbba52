-- The bodies of definitions: which constants they speak of.
use Rattle.std.proofs.Common.{◌≡◌, ℕ, zero, suc, true, List, [], ◌∷◌, ◌++◌, take, length, refl, ap, sym, ◌∙◌, append_assoc}
use Rattle.std.specs.List.{list_all}
use Rattle.std.proofs.lemmas.Bool.{and_parts, and_from, ltb-true}
use Rattle.sb_meaning.specs.Terms.{Sort, Term}
use Rattle.sb_script.specs.Names.{Name}
use Rattle.sb_sorts.specs.declared.scope.Named.{Named}
use Rattle.sb_sorts.specs.declared.scope.Named.TheVariants as code
use Rattle.sb_sorts.specs.Scopes.{constants_among, is_body_below}
use Rattle.sb_term.specs.Numbered.{term_at, Extends}
use Rattle.sb_term.proofs.CallerLemmas.{at_kept}
use Rattle.sb_stack.specs.Speaking.{speaks_of}
use Rattle.sb_stack.specs.Keeping.{kind_speaks, speak_before}
use Rattle.sb_stack.proofs.Live.{one_front, constants_append, speaks_more}

-- where constants stand behind these
kind_more : (cs ds : List (ℕ × Sort)) (ts : List Term) (n : Named) → kind_speaks cs ts n ≡ true
    → kind_speaks (cs ++ ds) ts n ≡ true
kind_more cs ds ts (code.Constant serial sort) h = refl
kind_more cs ds ts (code.Definition d) h = speaks_more cs (cs ++ ds) (one_front cs ds) (term_at ts d.body) h
kind_more cs ds ts code.Marked h = refl

-- the constants of names, the first one's in front
behind_first : (cs : List (ℕ × Sort)) (n : Name × Named) (ns : List (Name × Named))
    → (cs ++ constants_among (n ∷ [])) ++ constants_among ns ≡ cs ++ constants_among (n ∷ ns)
behind_first cs n ns =
    append_assoc cs (constants_among (n ∷ [])) (constants_among ns)
    ∙ ap (λ ds. cs ++ ds) (sym (constants_append (n ∷ []) ns))

-- each body speaks of all constants, where it speaks of those in front of it
bodies_speak : (cs : List (ℕ × Sort)) (ns : List (Name × Named)) (ts : List Term) → speak_before cs ns ts ≡ true
    → list_all (λ n. kind_speaks (cs ++ constants_among ns) ts n.1) ns ≡ true
bodies_speak cs [] ts h = refl
bodies_speak cs (n ∷ ns) ts h =
    let parts = and_parts (kind_speaks cs ts n.1) (speak_before (cs ++ constants_among (n ∷ [])) ns ts) h in
    and_from (kind_speaks (cs ++ constants_among (n ∷ ns)) ts n.1) _
    (kind_more cs (constants_among (n ∷ ns)) ts n.1 parts.0)
    (ap (λ ds. list_all (λ (m : Name × Named). kind_speaks ds ts m.1) ns) (sym (behind_first cs n ns))
    ∙ bodies_speak (cs ++ constants_among (n ∷ [])) ns ts parts.1)

pub all_bodies : (ns : List (Name × Named)) (ts : List Term) → speak_before [] ns ts ≡ true
    → list_all (λ n. kind_speaks (constants_among ns) ts n.1) ns ≡ true
all_bodies ns ts h = bodies_speak [] ns ts h

-- the first names, so many
pub before_taken : (k : ℕ) (cs : List (ℕ × Sort)) (ns : List (Name × Named)) (ts : List Term)
    → speak_before cs ns ts ≡ true → speak_before cs (take k ns) ts ≡ true
before_taken zero cs ns ts h = refl
before_taken (suc k) cs [] ts h = refl
before_taken (suc k) cs (n ∷ ns) ts h =
    let parts = and_parts (kind_speaks cs ts n.1) (speak_before (cs ++ constants_among (n ∷ [])) ns ts) h in
    and_from (kind_speaks cs ts n.1) _ parts.0 (before_taken k (cs ++ constants_among (n ∷ [])) ns ts parts.1)

-- one more name
pub before_more : (cs : List (ℕ × Sort)) (ns : List (Name × Named)) (x : Name × Named) (ts : List Term)
    → speak_before cs ns ts ≡ true → kind_speaks (cs ++ constants_among ns) ts x.1 ≡ true
    → speak_before cs (ns ++ x ∷ []) ts ≡ true
before_more cs [] x ts h here =
    and_from (kind_speaks cs ts x.1) true (ap (λ ds. kind_speaks ds ts x.1) (sym (append_none cs)) ∙ here) refl
  where
    append_none : (cs : List (ℕ × Sort)) → cs ++ [] ≡ cs
    append_none [] = refl
    append_none (c ∷ cs) = ap (λ ds. c ∷ ds) (append_none cs)
before_more cs (n ∷ ns) x ts h here =
    let parts = and_parts (kind_speaks cs ts n.1) (speak_before (cs ++ constants_among (n ∷ [])) ns ts) h in
    and_from (kind_speaks cs ts n.1) _ parts.0
    (before_more (cs ++ constants_among (n ∷ [])) ns x ts parts.1
    (ap (λ ds. kind_speaks ds ts x.1) (behind_first cs n ns) ∙ here))

-- bodies stay what they are in a table that grows
kind_kept : (cs : List (ℕ × Sort)) (old new : List Term) (n : Named) → Extends old new
    → is_body_below (length old) n ≡ true → kind_speaks cs old n ≡ true → kind_speaks cs new n ≡ true
kind_kept cs old new (code.Constant serial sort) extends below h = refl
kind_kept cs old new (code.Definition d) extends below h =
    ap (speaks_of cs) (at_kept old new d.body extends (ltb-true d.body (length old) below)) ∙ h
kind_kept cs old new code.Marked extends below h = refl

pub before_kept : (cs : List (ℕ × Sort)) (ns : List (Name × Named)) (old new : List Term) → Extends old new
    → list_all (λ m. is_body_below (length old) m.1) ns ≡ true → speak_before cs ns old ≡ true
    → speak_before cs ns new ≡ true
before_kept cs [] old new extends below h = refl
before_kept cs (n ∷ ns) old new extends below h =
    let there = and_parts (is_body_below (length old) n.1)
    (list_all (λ (m : Name × Named). is_body_below (length old) m.1) ns) below in
    let parts = and_parts (kind_speaks cs old n.1) (speak_before (cs ++ constants_among (n ∷ [])) ns old) h in
    and_from (kind_speaks cs new n.1) _ (kind_kept cs old new n.1 extends there.0 parts.0)
    (before_kept (cs ++ constants_among (n ∷ [])) ns old new extends there.1 parts.1)
